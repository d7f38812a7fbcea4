-- A whole value: its encoding and nothing after it. Fault 7: bytes are left over.
use Rattle.std.specs.Prelude.{◌≡◌, ℕ, ◌==◌, if◌then◌else◌, List, [], ◌++◌, length, Result, Ok, refl}
use Rattle.std.proofs.Common.{sym, ◌∙◌, ap, subst, inl, inr}
use Rattle.std.proofs.lemmas.Bool.{eqb-true}
use Rattle.std.proofs.lemmas.List.{append-nil, append_cancel_left, nil_from_length}
use Rattle.wire_bcs.specs.Place.{Place, Stop, IsBytes, left, start, forward, left-forward, stop, ◌>>=◌, bind_ok, ok_is}
use Rattle.wire_bcs.specs.Codec.{Codec}
use Rattle.wire_bcs.specs.UlebLaws.{chosen}

-- bytes are left at the end, or the value
abbrev pub end_at : {A : Type 0} → A × Place → Result A Stop
end_at x = if length (left x.1) == 0 then Ok x.0 else stop x.1 7

-- the value that all the bytes encode, or their first fault
unfoldable pub whole : {A : Type 0} → Codec A → List ℕ → Result A Stop
whole c bytes = c.read (start bytes) >>= λ x. end_at x

-- what `whole` reads is encoded by just these bytes, and is a value that fits its codec
pub whole-found : {A : Type 0} (c : Codec A) (bytes : List ℕ) (x : A) → IsBytes bytes → whole c bytes ≡ Ok x → (bytes ≡ c.spell x) × c.fits x
unfolding whole
whole-found {A} c bytes x fits e =
    let b = bind_ok (c.read (start bytes)) (λ y. end_at y) x e in
    let t = c.takes (start bytes) b.0.0 b.0.1 fits b.1 in
    elim (chosen (length (left b.0.1) == 0) (Ok b.0.0) (stop b.0.1 7) (Ok x) b.2) [
      | inl g ↦
          let none : left b.0.1 ≡ [] = nil_from_length (left b.0.1) (eqb-true (length (left b.0.1)) 0 g.0) in
          let all : bytes ≡ c.spell b.0.0 = t.0.parts ∙ (ap (λ (rest : List ℕ). c.spell b.0.0 ++ rest) none ∙ append-nil (c.spell b.0.0)) in
          subst (λ (y : A). (bytes ≡ c.spell y) × c.fits y) (ok_is b.0.0 x g.1) (all, t.1)
      | inr g ↦ absurd (let r = g.1 in cc)
    ]

-- what is encoded so is read
pub whole-only : {A : Type 0} (c : Codec A) (bytes : List ℕ) (x : A) → c.fits x → bytes ≡ c.spell x → whole c bytes ≡ Ok x
unfolding whole
whole-only c bytes x fits e =
    let parts : left (start bytes) ≡ c.spell x ++ [] = e ∙ sym (append-nil (c.spell x)) in
    let one = c.again (start bytes) x [] fits parts in
    let none : left (forward (length (c.spell x)) (start bytes)) ≡ [] = left-forward (start bytes) (c.spell x) [] parts in
    let ended : end_at (x, forward (length (c.spell x)) (start bytes)) ≡ Ok x = rw none refl in
    rw one ended

-- each value has one encoding, none is a prefix of another's, and equal encodings are of equal values
pub one-spelling : {A : Type 0} (c : Codec A) (x y : A) (r s : List ℕ) → c.fits x → c.fits y → c.spell x ++ r ≡ c.spell y ++ s → (x ≡ y) × (r ≡ s)
one-spelling {A} c x y r s fits_x fits_y e =
    let p = start (c.spell x ++ r) in
    let one = c.again p x r fits_x refl in
    let two = c.again p y s fits_y e in
    let both : (x, forward (length (c.spell x)) p) ≡ (y, forward (length (c.spell y)) p) = ok_is (x, forward (length (c.spell x)) p) (y, forward (length (c.spell y)) p) (sym one ∙ two) in
    let same : x ≡ y = ap (λ (z : A × Place). z.0) both in
    let rest : c.spell x ++ r ≡ c.spell x ++ s = subst (λ (z : A). c.spell x ++ r ≡ c.spell z ++ s) (sym same) e in
    (same, append_cancel_left (c.spell x) r s rest)
