-- The parts of a text, by its first cut.
use Rattle.std.proofs.Common.{◌≡◌, ◌==◌, ℕ, ◌+◌, ◌≤◌, Bool, List, [], ◌∷◌, length, Option, Some, None, refl, ap, ◌∙◌, arith, inl, inr}
use Rattle.std.proofs.lemmas.Bool.{cases_lt, cases_Bool, lt-ltb, le-ltb}
use Rattle.std.specs.List.{slice_split, onto_first, position_or_len}
use Rattle.std.proofs.lemmas.List.Splits.{slice_split-cons_no, slice_split_first}
use Rattle.schedule_text.specs.Bytes.{cut_at}

-- the parts of a text after its first part
abbrev pub parts_after : ℕ → List ℕ → Option (List ℕ × List ℕ) → List (List ℕ)
parts_after byte text None = text ∷ []
parts_after byte text (Some p) = p.0 ∷ slice_split (λ b. b == byte) p.1

-- if no place passes, the text is the one part
no_cut : (p : ℕ → Bool) (xs : List ℕ) → length xs ≤ position_or_len p xs → slice_split p xs ≡ xs ∷ []
no_cut p [] h = refl
no_cut p (x ∷ xs) h =
    elim (cases_Bool (p x)) [
      | inl e ↦ let none : length (x ∷ xs) ≤ 0 = rw e at h in absurd (omega arith)
      | inr e ↦ let more : length (x ∷ xs) ≤ 1 + position_or_len p xs = rw e at h in slice_split-cons_no p x xs e ∙ ap (onto_first x) (no_cut p xs (omega arith))
    ]

pub split_cut : (byte : ℕ) (text : List ℕ) → slice_split (λ b. b == byte) text ≡ parts_after byte text (cut_at byte text)
unfolding cut_at
split_cut byte text =
    let p : ℕ → Bool = λ b. b == byte in
    elim (cases_lt (position_or_len p text) (length text)) [
      | inl low ↦ let e = lt-ltb _ _ low in rw e (slice_split_first p text 0 low)
      | inr high ↦ let e = le-ltb _ _ high in rw e (no_cut p text high)
    ]
