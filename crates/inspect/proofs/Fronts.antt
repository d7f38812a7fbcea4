-- The first lines of a text are what stands before the end of the last of them.
use Rattle.std.proofs.Common.{◌≡◌, ◌==◌, ◌∙◌, ◌<◌, ◌≤◌, ◌+◌, ◌-◌, ℕ, zero, suc, Bool, true, false, cond, if◌then◌else◌, List, [], ◌∷◌, length, take, Option, Some, None, refl, sym, ap, arith}
use Rattle.std.specs.Prelude.{count_by, nat_lt}
use Rattle.std.specs.List.{join_with_byte, onto_first}
use Rattle.std.proofs.lemmas.Bool.{eqb-true, lt-ltb}
use Rattle.std.proofs.lemmas.List.Sums.{count_by-le-length}
use Rattle.std.proofs.lemmas.List.Splits.{length-slice_split}
use Rattle.schedule_text.specs.Schedule.{lines_of}
use Rattle.inspect.specs.Part.{first_lines, go_on, line_end, past}

-- ---- lines

none_taken : (n : ℕ) → take n (let none : List (List ℕ) = [] in none) ≡ []
none_taken zero = refl
none_taken (suc n) = refl

joined_onto : (b : ℕ) (part : List ℕ) (parts : List (List ℕ)) → join_with_byte 10 ((b ∷ part) ∷ parts) ≡ b ∷ join_with_byte 10 (part ∷ parts)
joined_onto b part [] = refl
joined_onto b part (p ∷ parts) = refl

-- a byte of the first line
onto_front : (b n : ℕ) (parts : List (List ℕ)) → join_with_byte 10 (take (suc n) (onto_first b parts)) ≡ b ∷ join_with_byte 10 (take (suc n) parts)
onto_front b n [] = ap (λ (ps : List (List ℕ)). join_with_byte 10 ((b ∷ []) ∷ ps)) (none_taken n)
onto_front b n (part ∷ parts) = joined_onto b part (take n parts)

onto_empty : (b n : ℕ) (parts : List (List ℕ)) → join_with_byte 10 ([] ∷ take (suc n) (onto_first b parts)) ≡ 10 ∷ join_with_byte 10 (take (suc n) (onto_first b parts))
onto_empty b n [] = refl
onto_empty b n (part ∷ parts) = refl

-- an empty line before others
empty_front : (n : ℕ) (text : List ℕ) → join_with_byte 10 ([] ∷ take (suc n) (lines_of text)) ≡ 10 ∷ join_with_byte 10 (take (suc n) (lines_of text))
empty_front n [] = refl
empty_front n (b ∷ bs) = go (b == 10)
  where
    go : (ends : Bool) → join_with_byte 10 ([] ∷ take (suc n) (cond ends ([] ∷ lines_of bs) (onto_first b (lines_of bs)))) ≡ 10 ∷ join_with_byte 10 (take (suc n) (cond ends ([] ∷ lines_of bs) (onto_first b (lines_of bs))))
    go true = refl
    go false = onto_empty b n (lines_of bs)

-- ---- bytes

-- the bytes up to the end of the line that comes after this many line ends
abbrev bytes_to : ℕ → List ℕ → ℕ
bytes_to zero [] = 0
bytes_to (suc more) [] = 0
bytes_to zero (b ∷ bs) = cond (b == 10) 0 (suc (bytes_to zero bs))
bytes_to (suc more) (b ∷ bs) = suc (cond (b == 10) (bytes_to more bs) (bytes_to (suc more) bs))

front_is : (more : ℕ) (text : List ℕ) → join_with_byte 10 (take (suc more) (lines_of text)) ≡ take (bytes_to more text) text
front_is zero [] = refl
front_is (suc more) [] = refl
front_is zero (b ∷ bs) = go (b == 10) (front_is zero bs)
  where
    go : (ends : Bool) → join_with_byte 10 (take 1 (lines_of bs)) ≡ take (bytes_to zero bs) bs
        → join_with_byte 10 (take 1 (cond ends ([] ∷ lines_of bs) (onto_first b (lines_of bs)))) ≡ take (cond ends 0 (suc (bytes_to zero bs))) (b ∷ bs)
    go true rest = refl
    go false rest = onto_front b zero (lines_of bs) ∙ ap (λ (t : List ℕ). b ∷ t) rest
front_is (suc more) (b ∷ bs) = go (b == 10) refl (front_is more bs) (front_is (suc more) bs)
  where
    go : (ends : Bool) → (b == 10) ≡ ends → join_with_byte 10 (take (suc more) (lines_of bs)) ≡ take (bytes_to more bs) bs → join_with_byte 10 (take (suc (suc more)) (lines_of bs)) ≡ take (bytes_to (suc more) bs) bs
        → join_with_byte 10 (take (suc (suc more)) (cond ends ([] ∷ lines_of bs) (onto_first b (lines_of bs)))) ≡ take (suc (cond ends (bytes_to more bs) (bytes_to (suc more) bs))) (b ∷ bs)
    go true is rest same = empty_front more bs ∙ ap (λ (t : List ℕ). 10 ∷ t) rest ∙ ap (λ (x : ℕ). x ∷ take (bytes_to more bs) bs) (sym (eqb-true b 10 is))
    go false is rest same = onto_front b (suc more) (lines_of bs) ∙ ap (λ (t : List ℕ). b ∷ t) same

some_past : (more : ℕ) → (if nat_lt 0 (suc more) then Some (suc more - 1) else None) ≡ Some more
some_past more = go (nat_lt 0 (suc more)) (lt-ltb 0 (suc more) (omega arith))
  where
    go : (b : Bool) → b ≡ true → (if b then Some (suc more - 1) else None) ≡ Some more
    go true is = ap (λ (k : ℕ). Some k) (let less : suc more - 1 ≡ more = omega arith in less)
    go false is = absurd (cc)

end_is : (place more : ℕ) (text : List ℕ) → line_end place more text ≡ place + bytes_to more text
unfolding line_end past
end_is place zero [] = omega arith
end_is place (suc more) [] = omega arith
end_is place zero (b ∷ bs) = go (b == 10) (end_is (place + 1) zero bs)
  where
    go : (ends : Bool) → line_end (place + 1) zero bs ≡ (place + 1) + bytes_to zero bs
        → go_on (if ends then None else Some zero) place (λ left. line_end (place + 1) left bs) ≡ place + cond ends 0 (suc (bytes_to zero bs))
    go true rest = omega arith
    go false rest = omega (arith, rest)
end_is place (suc more) (b ∷ bs) =
    ap (λ (o : Option ℕ). go_on (if b == 10 then o else Some (suc more)) place (λ left. line_end (place + 1) left bs)) (some_past more) ∙ go (b == 10) (end_is (place + 1) more bs) (end_is (place + 1) (suc more) bs)
  where
    go : (ends : Bool) → line_end (place + 1) more bs ≡ (place + 1) + bytes_to more bs → line_end (place + 1) (suc more) bs ≡ (place + 1) + bytes_to (suc more) bs
        → go_on (if ends then Some more else Some (suc more)) place (λ left. line_end (place + 1) left bs) ≡ place + suc (cond ends (bytes_to more bs) (bytes_to (suc more) bs))
    go true rest same = omega (arith, rest)
    go false rest same = omega (arith, same)

-- ---- the code

pub few_ends : (text : List ℕ) → count_by (λ b. b == 10) text ≤ length text
few_ends text = count_by-le-length (λ b. b == 10) text

pub lines_counted : (text : List ℕ) → length (lines_of text) ≡ count_by (λ b. b == 10) text + 1
lines_counted text = length-slice_split (λ b. b == 10) text

pub no_lines : (n : ℕ) (text : List ℕ) → n < 1 → take 0 text ≡ first_lines n text
unfolding first_lines
no_lines zero text none = refl
no_lines (suc n) text none = absurd (omega (arith, none))

pub first_is : (n place : ℕ) (text : List ℕ) → 1 ≤ n → place ≡ line_end 0 (n - 1) text → take place text ≡ first_lines n text
unfolding first_lines
first_is zero place text some is = absurd (omega (arith, some))
first_is (suc n) place text some is =
    let less : suc n - 1 ≡ n = omega arith in
    let whole : 0 + bytes_to n text ≡ bytes_to n text = omega arith in
    ap (λ (k : ℕ). take k text) (is ∙ (ap (λ (k : ℕ). line_end 0 k text) less ∙ (end_is 0 n text ∙ whole))) ∙ sym (front_is n text)
