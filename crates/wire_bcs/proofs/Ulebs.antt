-- One byte of ULEB128 after another.
use Rattle.std.proofs.Common.{◌≡◌, ℕ, suc, ◌+◌, ◌-◌, ◌*◌, ◌/◌, ◌%◌, ◌<◌, ◌≤◌, List, [], ◌∷◌, ◌++◌, length, take, set, sym, ◌∙◌, ap, arith, append_assoc, zero, lit≤}
use Rattle.std.proofs.lemmas.List.{take_more_set, length-set}
use Rattle.wire_bcs.specs.Uleb.{uleb_in}
use Rattle.wire_bcs.specs.UlebLaws.{uleb_in-more, room, room-some}

-- what is written, and what is still to be written, of a text
abbrev pub Begun : ℕ → List ℕ → ℕ → List ℕ → Type 0
Begun i bytes rest text = (take i bytes ++ uleb_in (4 - i) rest ≡ text) × (rest < room (4 - i)) × (length bytes ≡ 5)

pub goes_on : (i : ℕ) (bytes : List ℕ) (rest : ℕ) (text : List ℕ) → i < 4 → 128 ≤ rest → Begun i bytes rest text → Begun (i + 1) (set bytes i (128 + rest % 128)) (rest / 128) text
goes_on i bytes rest text lt high begun =
    let more : 4 - i ≡ suc (4 - (i + 1)) = omega arith in
    let one : uleb_in (4 - i) rest ≡ (128 + rest % 128) ∷ uleb_in (4 - (i + 1)) (rest / 128) = ap (λ (k : ℕ). uleb_in k rest) more ∙ uleb_in-more (4 - (i + 1)) rest high in
    let front = take_more_set bytes i (128 + rest % 128) (omega (arith, begun.2)) in
    let parts : take (i + 1) (set bytes i (128 + rest % 128)) ++ uleb_in (4 - (i + 1)) (rest / 128) ≡ text
    = ap (λ (t : List ℕ). t ++ uleb_in (4 - (i + 1)) (rest / 128)) front
    ∙ (append_assoc (take i bytes) ((128 + rest % 128) ∷ []) (uleb_in (4 - (i + 1)) (rest / 128))
    ∙ (ap (λ (t : List ℕ). take i bytes ++ t) (sym one) ∙ begun.0)) in
    let bound : rest < 128 * room (4 - (i + 1)) = (let e : room (4 - i) ≡ 128 * room (4 - (i + 1)) = ap room more in omega (arith, begun.1, e)) in
    (parts, omega arith, length-set bytes i (128 + rest % 128) ∙ begun.2)

pub at_end : (bytes : List ℕ) (rest : ℕ) (text : List ℕ) → Begun 4 bytes rest text → take 5 (set bytes 4 rest) ≡ text
at_end bytes rest text begun = take_more_set bytes 4 rest (omega (arith, begun.2)) ∙ begun.0

pub room_small : (more : ℕ) → 0 < more → 128 ≤ room more
room_small zero h = omega arith
room_small (suc more) h = let some = room-some more in omega arith

pub room_large : (more : ℕ) → more ≤ 3 → room more ≤ 33554432
room_large zero h = lit≤ tt
room_large (suc zero) h = lit≤ tt
room_large (suc (suc zero)) h = lit≤ tt
room_large (suc (suc (suc zero))) h = lit≤ tt
room_large (suc (suc (suc (suc more)))) h = omega arith
