-- The numbers that words denote.
use Rattle.std.proofs.Common.{◌≡◌, ◌∙◌, ◌==◌, ◌<◌, ◌≤◌, ◌+◌, ℕ, false, true, nat_le, List, [], ◌∷◌, ◌++◌, length, take, set, Option, Some, None, refl, sym, ap, arith, append-nil, length-append}
use Rattle.std.specs.Prelude.{option_and_then}
use Rattle.std.specs.List.{slice_split}
use Rattle.std.proofs.lemmas.Bool.Decides.{nat_tests}
use Rattle.std.proofs.lemmas.List.{length-take-le, take_more_set}
use Rattle.schedule_text.specs.Bytes.{each_of, number_in, with_both}
use Rattle.schedule_text.proofs.Each.{after_front, each_more}
use Rattle.command_words.specs.ListWords.{numbers_in, up_to_64}

abbrev pub parts : List ℕ → List (List ℕ)
parts word = slice_split (λ b. b == 44) word

front_length : (row : List ℕ) (count : ℕ) → count ≤ length row → length (take count row) ≡ count
front_length row count low = length-take-le count row low

-- with the numbers of what is left, those so far are the numbers of the word
abbrev pub ReadsOn : ℕ → ℕ → List ℕ → List ℕ → ℕ → List (List ℕ) → Type 0
ReadsOn low high word row count left = after_front (take count row) (each_of (number_in low high) left) ≡ each_of (number_in low high) (parts word)

-- one more
pub one_read : (low high : ℕ) (word row : List ℕ) (count : ℕ) (text part : List ℕ) (after : List (List ℕ)) (number : ℕ) → ReadsOn low high word row count (parts text) → parts text ≡ part ∷ after
    → Some number ≡ number_in low high part → count < length row → ReadsOn low high word (set row count number) (count + 1) after
unfolding each_of
one_read low high word row count text part after number reads cut is room =
    ap (λ (front : List ℕ). after_front front (each_of (number_in low high) after)) (take_more_set row count number room)
    ∙ (each_more (take count row) number (each_of (number_in low high) after)
    ∙ (ap (λ (first : Option ℕ). after_front (take count row) (with_both first (each_of (number_in low high) after) (λ y ys. y ∷ ys))) is
    ∙ (ap (λ (ps : List (List ℕ)). after_front (take count row) (each_of (number_in low high) ps)) (sym cut) ∙ reads)))

-- a part that is not a number
pub not_read : (low high : ℕ) (word row : List ℕ) (count : ℕ) (text part : List ℕ) (after : List (List ℕ)) → ReadsOn low high word row count (parts text) → parts text ≡ part ∷ after
    → None ≡ number_in low high part → None ≡ numbers_in low high word
unfolding each_of numbers_in
not_read low high word row count text part after reads cut is =
    ap (option_and_then up_to_64) (
    ap (λ (first : Option ℕ). after_front (take count row) (with_both first (each_of (number_in low high) after) (λ y ys. y ∷ ys))) is
    ∙ (ap (λ (ps : List (List ℕ)). after_front (take count row) (each_of (number_in low high) ps)) (sym cut) ∙ reads))

-- a part after 64
pub too_many : (low high : ℕ) (word row : List ℕ) (count : ℕ) (text part : List ℕ) (after : List (List ℕ)) (number : ℕ) → ReadsOn low high word row count (parts text) → parts text ≡ part ∷ after
    → Some number ≡ number_in low high part → count ≡ 64 → length row ≡ 64 → None ≡ numbers_in low high word
unfolding each_of numbers_in
too_many low high word row count text part after number reads cut is full size =
    go (each_of (number_in low high) after) ∙ ap (option_and_then up_to_64) (
    ap (λ (first : Option ℕ). after_front (take count row) (with_both first (each_of (number_in low high) after) (λ y ys. y ∷ ys))) is
    ∙ (ap (λ (ps : List (List ℕ)). after_front (take count row) (each_of (number_in low high) ps)) (sym cut) ∙ reads))
  where
    long : (xs : List ℕ) → None ≡ up_to_64 (take count row ++ number ∷ xs)
    long xs =
        let taken : length (take count row) ≡ 64 = front_length row count (omega (arith, full, size)) ∙ full in
        let more : length (take count row ++ number ∷ xs) ≡ length (take count row) + length (number ∷ xs) = length-append (take count row) (number ∷ xs) in
        let big : nat_le (length (take count row ++ number ∷ xs)) 64 ≡ false = grind (arith, nat_tests) in
        rw big refl

    go : (rest : Option (List ℕ)) → None ≡ option_and_then up_to_64 (after_front (take count row) (with_both (Some number) rest (λ y ys. y ∷ ys)))
    go None = refl
    go (Some xs) = long xs

-- nothing is left
pub all_read : (low high : ℕ) (word row : List ℕ) (count : ℕ) → ReadsOn low high word row count [] → count ≤ 64 → length row ≡ 64 → Some (take count row) ≡ numbers_in low high word
unfolding each_of numbers_in
all_read low high word row count reads few size =
    let taken : length (take count row) ≡ count = front_length row count (omega (arith, few, size)) in
    let small : nat_le (length (take count row)) 64 ≡ true = grind (arith, nat_tests) in
    let whole : Some (take count row) ≡ each_of (number_in low high) (parts word) = ap Some (sym (append-nil (take count row))) ∙ reads in
    let is : Some (take count row) ≡ option_and_then up_to_64 (Some (take count row)) = rw small refl in
    is ∙ ap (option_and_then up_to_64) whole
