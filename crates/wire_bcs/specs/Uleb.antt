-- ULEB128 (BCS: lengths and variant numbers, in the shortest encoding, within 32 bits).
use Rattle.std.specs.Prelude.{ℕ, zero, suc, ◌+◌, ◌-◌, ◌*◌, ◌/◌, ◌%◌, nat_lt, ◌==◌, if◌then◌else◌, List, [], ◌∷◌, Result, Ok, Err}
use Rattle.wire_bcs.specs.declared.fault.FaultKind.{FaultKind}
use Rattle.wire_bcs.specs.declared.fault.FaultKind.TheVariants as kind
use Rattle.wire_bcs.specs.Place.{Place, Read, left, forward, number_of_kind, stop, ◌>>=◌}

-- in at most this many bytes and one more: seven bits a byte, the lowest first, the top bit set if more follow
abbrev pub uleb_in : ℕ → ℕ → List ℕ
uleb_in zero n = n ∷ []
uleb_in (suc more) n = if nat_lt n 128 then n ∷ [] else ((128 + n % 128) ∷ uleb_in more (n / 128))

-- the encoding of a number below 2 ^ 32
unfoldable pub uleb : ℕ → List ℕ
uleb n = uleb_in 4 n

-- puts a byte with its top bit set before a ULEB128 that was read: the new value, and one byte more
abbrev pub behind : ℕ → Result (ℕ × ℕ) FaultKind → Result (ℕ × ℕ) FaultKind
behind b (Ok rest) = Ok (b - 128 + 128 * rest.0, suc rest.1)
behind b (Err k) = Err k

-- the ULEB128 that goes on after its first byte, in at most `more + 1` bytes: the value of these bytes and how many
-- they are; or the kind of the fault
abbrev pub uleb_rest : ℕ → List ℕ → Result (ℕ × ℕ) FaultKind
uleb_rest more [] = Err kind.Short
uleb_rest zero (b ∷ bytes) = if b == 0 then Err kind.LongUleb else (if nat_lt 15 b then Err kind.LargeUleb else Ok (b, 1))
uleb_rest (suc more) (b ∷ bytes) = if b == 0 then Err kind.LongUleb else (if nat_lt b 128 then Ok (b, 1) else behind b (uleb_rest more bytes))

-- the value and the count of bytes at the start, or the kind of the fault
abbrev pub uleb_at : List ℕ → Result (ℕ × ℕ) FaultKind
uleb_at [] = Err kind.Short
uleb_at (b ∷ bytes) = if nat_lt b 128 then Ok (b, 1) else behind b (uleb_rest 3 bytes)

-- what was read at a place with its number of bytes: the value, and the place after it; a fault is at the first byte
abbrev pub counted : Place → Result (ℕ × ℕ) FaultKind → Read ℕ
counted p (Ok x) = Ok (x.0, forward x.1 p)
counted p (Err k) = stop p (number_of_kind k)

-- a number below a limit, with the number of the fault if it is the limit or more
unfoldable pub uleb_below : ℕ → ℕ → Place → Read ℕ
uleb_below limit why p = counted p (uleb_at (left p)) >>= λ n. if nat_lt n.0 limit then Ok n else stop p why
