-- ULEB128 is read as it is encoded.
use Rattle.std.specs.Prelude.{◌≡◌, ℕ, zero, suc, ◌+◌, ◌-◌, ◌*◌, ◌/◌, ◌%◌, ◌^◌, ◌<◌, ◌≤◌, Bool, true, false, cond, nat_lt, ◌==◌, ◌⊎◌, List, [], ◌∷◌, ◌++◌, length, drop, Result, Ok, Err, refl}
use Rattle.std.proofs.Common.{sym, ◌∙◌, ap, subst, inl, inr, arith}
use Rattle.std.proofs.lemmas.List.{get_or-drop, drop-drop}
use Rattle.std.proofs.lemmas.Bool.{cases_lt, ltb-true, ltb-false, lt-ltb, le-ltb, eqb-false, ne_eqb}
use Rattle.wire_bcs.specs.declared.fault.FaultKind.{FaultKind}
use Rattle.wire_bcs.specs.declared.fault.FaultKind.TheVariants as kind
use Rattle.wire_bcs.specs.Place.{Place, Takes, IsBytes, left, forward, stop, bind_ok, ok_is}
use Rattle.wire_bcs.specs.Little.{IsBytes-rest}
use Rattle.wire_bcs.specs.Uleb.{uleb_in, uleb, behind, uleb_rest, uleb_at, counted, uleb_below}

-- from the value of a choice, which branch was taken
pub chosen : {A : Type 0} (b : Bool) (x y z : A) → cond b x y ≡ z → ((b ≡ true) × (x ≡ z)) ⊎ ((b ≡ false) × (y ≡ z))
chosen true x y z e = inl (refl, e)
chosen false x y z e = inr (refl, e)

-- the first number that is too large for so many bytes and one
abbrev pub room : ℕ → ℕ
room zero = 16
room (suc more) = 128 * room more

pub room-some : (more : ℕ) → 0 < room more
room-some zero = omega arith
room-some (suc more) = let rest = room-some more in omega arith

abbrev Scan : Type 0
Scan = Result (ℕ × ℕ) FaultKind

scan_is : (x y : ℕ × ℕ) → (let r : Scan = Ok x in r) ≡ Ok y → x ≡ y
scan_is x y e = cc

behind_ok : (b : ℕ) (r : Scan) (y : ℕ × ℕ) → behind b r ≡ Ok y → (x : ℕ × ℕ) × (r ≡ Ok x) × ((b - 128 + 128 * x.0, suc x.1) ≡ y)
behind_ok b (Ok x) y e = (x, refl, scan_is (b - 128 + 128 * x.0, suc x.1) y e)
behind_ok b (Err k) y e = absurd cc

pub uleb_in-last : (more n : ℕ) → n < 128 → uleb_in (suc more) n ≡ n ∷ []
uleb_in-last more n h = let e : nat_lt n 128 ≡ true = lt-ltb n 128 h in rw e refl

pub uleb_in-more : (more n : ℕ) → 128 ≤ n → uleb_in (suc more) n ≡ (128 + n % 128) ∷ uleb_in more (n / 128)
uleb_in-more more n h = let e : nat_lt n 128 ≡ false = le-ltb n 128 h in rw e refl

pub uleb_in-behind : (more b n : ℕ) → 128 ≤ b → b < 256 → 0 < n → uleb_in (suc more) (b - 128 + 128 * n) ≡ b ∷ uleb_in more n
uleb_in-behind more b n high byte some =
    let low : 128 + (b - 128 + 128 * n) % 128 ≡ b = omega arith in
    let rest : (b - 128 + 128 * n) / 128 ≡ n = omega arith in
    let big : 128 ≤ b - 128 + 128 * n = omega arith in
    uleb_in-more more (b - 128 + 128 * n) big ∙ rw (low, rest) refl

-- the bytes at the place at which a value and a count of bytes were read
abbrev Reads : ℕ → List ℕ → ℕ × ℕ → Type 0
Reads more bytes x = (bytes ≡ uleb_in more x.0 ++ drop x.1 bytes) × (x.1 ≡ length (uleb_in more x.0)) × (0 < x.0) × (x.0 < room more)

uleb_rest-takes : (more : ℕ) (bytes : List ℕ) (x : ℕ × ℕ) → IsBytes bytes → uleb_rest more bytes ≡ Ok x → Reads more bytes x
uleb_rest-takes zero [] x fits e = absurd cc
uleb_rest-takes (suc more) [] x fits e = absurd cc
uleb_rest-takes zero (b ∷ bytes) x fits e =
    elim (chosen (b == 0) (Err kind.LongUleb) (cond (nat_lt 15 b) (Err kind.LargeUleb) (Ok (b, 1))) (Ok x) e) [
      | inl p ↦ absurd (let q : Err kind.LongUleb ≡ Ok x = p.1 in cc)
      | inr p ↦ elim (chosen (nat_lt 15 b) (Err kind.LargeUleb) (Ok (b, 1)) (Ok x) p.1) [
        | inl q ↦ absurd (let r : Err kind.LargeUleb ≡ Ok x = q.1 in cc)
        | inr q ↦
            let some : 0 < b = omega (arith, eqb-false b 0 p.0) in
            let below : b ≤ 15 = ltb-false 15 b q.0 in
            subst (Reads zero (b ∷ bytes)) (scan_is (b, 1) x q.1) (refl, refl, some, omega arith)
      ]
    ]
uleb_rest-takes (suc more) (b ∷ bytes) x fits e =
    elim (chosen (b == 0) (Err kind.LongUleb) (cond (nat_lt b 128) (Ok (b, 1)) (behind b (uleb_rest more bytes))) (Ok x) e) [
      | inl p ↦ absurd (let q : Err kind.LongUleb ≡ Ok x = p.1 in cc)
      | inr p ↦ elim (chosen (nat_lt b 128) (Ok (b, 1)) (behind b (uleb_rest more bytes)) (Ok x) p.1) [
        | inl q ↦
            let some : 0 < b = omega (arith, eqb-false b 0 p.0) in
            let below : b < 128 = ltb-true b 128 q.0 in
            let one = uleb_in-last more b below in
            let large : 0 < room more = room-some more in
            subst (Reads (suc more) (b ∷ bytes)) (scan_is (b, 1) x q.1) (rw one refl, rw one refl, some, omega arith)
        | inr q ↦
            let high : 128 ≤ b = ltb-false b 128 q.0 in
            let byte : b < 256 = fits 0 in
            let r = behind_ok b (uleb_rest more bytes) x q.1 in
            let rest = uleb_rest-takes more bytes r.0 (IsBytes-rest b bytes fits) r.1 in
            let one = uleb_in-behind more b r.0.0 high byte rest.2 in
            let parts : b ∷ bytes ≡ uleb_in (suc more) (b - 128 + 128 * r.0.0) ++ drop r.0.1 bytes = rw one (ap (λ (t : List ℕ). b ∷ t) rest.0) in
            let count : suc r.0.1 ≡ length (uleb_in (suc more) (b - 128 + 128 * r.0.0)) = rw one (ap suc rest.1) in
            subst (Reads (suc more) (b ∷ bytes)) r.2 (parts, count, omega (arith, rest.2), omega (arith, rest.3))
      ]
    ]

uleb_rest-again : (more n : ℕ) (rest : List ℕ) → 0 < n → n < room more → uleb_rest more (uleb_in more n ++ rest) ≡ Ok (n, length (uleb_in more n))
uleb_rest-again zero n rest some below =
    let not_zero : (n == 0) ≡ false = ne_eqb n 0 (λ e. omega (arith, e)) in
    let low : nat_lt 15 n ≡ false = le-ltb 15 n (omega arith) in
    rw (not_zero, low) refl
uleb_rest-again (suc more) n rest some below =
    elim (cases_lt n 128) [
      | inl lt ↦
          let not_zero : (n == 0) ≡ false = ne_eqb n 0 (λ e. omega (arith, e)) in
          let low : nat_lt n 128 ≡ true = lt-ltb n 128 lt in
          let one = uleb_in-last more n lt in
          rw one (rw not_zero (rw low refl))
      | inr le ↦
          let again = uleb_rest-again more (n / 128) rest (omega arith) (omega arith) in
          let not_zero : (128 + n % 128 == 0) ≡ false = ne_eqb (128 + n % 128) 0 (λ e. omega (arith, e)) in
          let high : nat_lt (128 + n % 128) 128 ≡ false = le-ltb (128 + n % 128) 128 (omega arith) in
          let one = uleb_in-more more n le in
          let value : 128 + n % 128 - 128 + 128 * (n / 128) ≡ n = omega arith in
          let found : ℕ → Scan = λ v. Ok (v, suc (length (uleb_in more (n / 128)))) in
          rw one (rw not_zero (rw high (rw again (ap found value))))
    ]

-- ---- at the start

abbrev ReadsWhole : List ℕ → ℕ × ℕ → Type 0
ReadsWhole bytes x = (bytes ≡ uleb_in 4 x.0 ++ drop x.1 bytes) × (x.1 ≡ length (uleb_in 4 x.0))

uleb_at-takes : (bytes : List ℕ) (x : ℕ × ℕ) → IsBytes bytes → uleb_at bytes ≡ Ok x → ReadsWhole bytes x
uleb_at-takes [] x fits e = absurd cc
uleb_at-takes (b ∷ bytes) x fits e =
    elim (chosen (nat_lt b 128) (Ok (b, 1)) (behind b (uleb_rest 3 bytes)) (Ok x) e) [
      | inl q ↦
          let one = uleb_in-last 3 b (ltb-true b 128 q.0) in
          subst (ReadsWhole (b ∷ bytes)) (scan_is (b, 1) x q.1) (rw one refl, rw one refl)
      | inr q ↦
          let r = behind_ok b (uleb_rest 3 bytes) x q.1 in
          let rest = uleb_rest-takes 3 bytes r.0 (IsBytes-rest b bytes fits) r.1 in
          let one = uleb_in-behind 3 b r.0.0 (ltb-false b 128 q.0) (fits 0) rest.2 in
          let parts : b ∷ bytes ≡ uleb_in 4 (b - 128 + 128 * r.0.0) ++ drop r.0.1 bytes = rw one (ap (λ (t : List ℕ). b ∷ t) rest.0) in
          let count : suc r.0.1 ≡ length (uleb_in 4 (b - 128 + 128 * r.0.0)) = rw one (ap suc rest.1) in
          subst (ReadsWhole (b ∷ bytes)) r.2 (parts, count)
    ]

uleb_at-again : (n : ℕ) (rest : List ℕ) → n < 2 ^ 32 → uleb_at (uleb_in 4 n ++ rest) ≡ Ok (n, length (uleb_in 4 n))
uleb_at-again n rest below =
    elim (cases_lt n 128) [
      | inl lt ↦
          let low : nat_lt n 128 ≡ true = lt-ltb n 128 lt in
          let one = uleb_in-last 3 n lt in
          rw one (rw low refl)
      | inr le ↦
          let again = uleb_rest-again 3 (n / 128) rest (omega arith) (omega arith) in
          let high : nat_lt (128 + n % 128) 128 ≡ false = le-ltb (128 + n % 128) 128 (omega arith) in
          let one = uleb_in-more 3 n le in
          let value : 128 + n % 128 - 128 + 128 * (n / 128) ≡ n = omega arith in
          let found : ℕ → Scan = λ v. Ok (v, suc (length (uleb_in 3 (n / 128)))) in
          rw one (rw high (rw again (ap found value)))
    ]

-- ---- at a place

counted_ok : (p : Place) (r : Scan) (y : ℕ × Place) → counted p r ≡ Ok y → (x : ℕ × ℕ) × (r ≡ Ok x) × ((x.0, forward x.1 p) ≡ y)
counted_ok p (Ok x) y e = (x, refl, ok_is (x.0, forward x.1 p) y e)
counted_ok p (Err k) y e = absurd cc

pub IsBytes-left : (p : Place) → IsBytes p.input → IsBytes (left p)
IsBytes-left p fits i = rw get_or-drop (fits (p.at + i))

pub uleb-takes : (limit why : ℕ) (p : Place) (n : ℕ) (q : Place) → IsBytes p.input → uleb_below limit why p ≡ Ok (n, q) → Takes p (uleb n) q × (n < limit)
unfolding uleb uleb_below
uleb-takes limit why p n q fits e =
    let b = bind_ok (counted p (uleb_at (left p))) (λ x. cond (nat_lt x.0 limit) (Ok x) (stop p why)) (n, q) e in
    let k = counted_ok p (uleb_at (left p)) b.0 b.1 in
    let t = uleb_at-takes (left p) k.0 (IsBytes-left p fits) k.1 in
    let rest : left (forward k.0.1 p) ≡ drop k.0.1 (left p) = sym (drop-drop k.0.1 p.at p.input) in
    let takes : Takes p (uleb_in 4 k.0.0) (forward k.0.1 p) = record {
      parts = t.0 ∙ ap (λ (bytes : List ℕ). uleb_in 4 k.0.0 ++ bytes) (sym rest);
      moved = ap (λ (c : ℕ). forward c p) t.1;
    } in
    elim (chosen (nat_lt b.0.0 limit) (Ok b.0) (stop p why) (Ok (n, q)) b.2) [
      | inl g ↦
          let same : (k.0.0, forward k.0.1 p) ≡ (n, q) = k.2 ∙ ok_is b.0 (n, q) g.1 in
          let below : n < limit = subst (λ (x : ℕ × Place). x.0 < limit) (ok_is b.0 (n, q) g.1) (ltb-true b.0.0 limit g.0) in
          (subst (λ (x : ℕ × Place). Takes p (uleb_in 4 x.0) x.1) same takes, below)
      | inr g ↦ absurd (let h = g.1 in cc)
    ]

pub uleb-again : (limit why : ℕ) (p : Place) (n : ℕ) (rest : List ℕ) → limit ≤ 2 ^ 32 → n < limit → left p ≡ uleb n ++ rest → uleb_below limit why p ≡ Ok (n, forward (length (uleb n)) p)
unfolding uleb uleb_below
uleb-again limit why p n rest wide below e =
    let at_front : uleb_at (left p) ≡ Ok (n, length (uleb_in 4 n)) = ap uleb_at e ∙ uleb_at-again n rest (omega arith) in
    let low : nat_lt n limit ≡ true = lt-ltb n limit below in
    rw at_front (rw low refl)
