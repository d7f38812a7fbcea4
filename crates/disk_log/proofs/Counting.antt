-- What counts in a file that begins with whole records.
use Rattle.std.proofs.Common.{◌≡◌, ◌≢◌, ◌⊎◌, inl, inr, ⊎_elim, ℕ, zero, suc, ◌+◌, ◌<◌, ◌≤◌, ◌==◌, ◌&&◌, Bool, true, false, List, [], ◌∷◌, ◌++◌, length, take, drop, refl, sym, ◌∙◌, ap, subst, arith, append_assoc, length-append, length-drop, length-take}
use Rattle.std.specs.Prelude.{nat_lt, if◌then◌else◌}
use Rattle.std.proofs.lemmas.List.{take_at, drop_at, drop-drop, take-append-le, drop-append-le, append-nil, take_all, length-take-le}
use Rattle.std.proofs.lemmas.Bool.{cases_eq}
use Rattle.std.proofs.lemmas.Bool.Decides.{nat_tests}
use Rattle.wire_bcs.specs.Little.{value_of}
use Rattle.disk_log.specs.Records.{Record, count_in, record_in, behind_record, is_counted, counted_by, counted, Whole, none, more}

-- more fuel than bytes makes no difference
pub enough : (fuel other : ℕ) (file : List ℕ) → length file ≤ fuel → length file ≤ other → counted_by fuel file ≡ counted_by other file
enough zero zero file a b = refl
enough zero (suc other) [] a b = refl
enough zero (suc other) (gate ∷ rest) a b = absurd (omega arith)
enough (suc fuel) zero [] a b = refl
enough (suc fuel) zero (gate ∷ rest) a b = absurd (omega arith)
enough (suc fuel) (suc other) [] a b = refl
enough (suc fuel) (suc other) (gate ∷ rest) a b =
    let shorter : length (behind_record rest) ≤ length rest = omega (arith, length-drop (8 + count_in rest) rest) in
    ap (λ (l : List Record). if is_counted gate rest then record_in rest ∷ l else [])
    (enough fuel other (behind_record rest) (omega arith) (omega arith))

-- one record off
pub counted-step : (gate : ℕ) (rest : List ℕ) → counted (gate ∷ rest) ≡ (if is_counted gate rest then record_in rest ∷ counted (behind_record rest) else [])
counted-step gate rest =
    ap (λ (l : List Record). if is_counted gate rest then record_in rest ∷ l else [])
    (enough (length rest) (length (behind_record rest)) (behind_record rest) (omega (arith, length-drop (8 + count_in rest) rest)) (omega arith))

-- nothing counts after a gate that is not open
pub counted-closed : (gate : ℕ) (rest : List ℕ) → gate ≢ 1 → counted (gate ∷ rest) ≡ []
counted-closed gate rest shut = counted-step gate rest ∙ test (gate == 1) (grind (arith, nat_tests))
  where
    test : (b : Bool) → b ≡ false → (if b && nat_lt (8 + count_in rest) (length rest) then record_in rest ∷ counted (behind_record rest) else []) ≡ []
    test b is = rw is refl

-- no record counts if the first one does not lie in the file together with the next gate
pub counted-short : (gate : ℕ) (rest : List ℕ) → length rest ≤ 8 + count_in rest → counted (gate ∷ rest) ≡ []
counted-short gate rest short = counted-step gate rest ∙ test (gate == 1) (nat_lt (8 + count_in rest) (length rest)) (grind (arith, nat_tests))
  where
    test : (a b : Bool) → b ≡ false → (if a && b then record_in rest ∷ counted (behind_record rest) else []) ≡ []
    test true b is = rw is refl
    test false b is = refl

pub counted-open : (rest : List ℕ) → 8 + count_in rest < length rest → counted (1 ∷ rest) ≡ record_in rest ∷ counted (behind_record rest)
counted-open rest long = counted-step 1 rest ∙ test (nat_lt (8 + count_in rest) (length rest)) (grind (arith, nat_tests))
  where
    test : (b : Bool) → b ≡ true → (if b then record_in rest ∷ counted (behind_record rest) else []) ≡ record_in rest ∷ counted (behind_record rest)
    test b is = rw is refl

-- a whole record after an open gate
module _ (head bytes rest : List ℕ) (eight : length head ≡ 8) (size : value_of (take 4 head) ≡ length bytes) where
  count-is : count_in (head ++ (bytes ++ rest)) ≡ length bytes
  count-is = ap value_of (take-append-le 4 head (bytes ++ rest) (omega arith)) ∙ size

  member-is : take 4 (drop 4 (head ++ (bytes ++ rest))) ≡ drop 4 head
  member-is =
      ap (take 4) (drop-append-le 4 head (bytes ++ rest) (omega arith))
      ∙ take_at (drop 4 head) (bytes ++ rest) 4 (omega (arith, length-drop 4 head))

  bytes-are : take (count_in (head ++ (bytes ++ rest))) (drop 8 (head ++ (bytes ++ rest))) ≡ bytes
  bytes-are =
      ap (λ (n : ℕ). take n (drop 8 (head ++ (bytes ++ rest)))) count-is
      ∙ ap (take (length bytes)) (drop_at head (bytes ++ rest) 8 eight)
      ∙ take_at bytes rest (length bytes) refl

  behind-is : behind_record (head ++ (bytes ++ rest)) ≡ rest
  behind-is =
      ap (λ (n : ℕ). drop (8 + n) (head ++ (bytes ++ rest))) count-is
      ∙ sym (drop-drop (length bytes) 8 (head ++ (bytes ++ rest)))
      ∙ ap (drop (length bytes)) (drop_at head (bytes ++ rest) 8 eight)
      ∙ drop_at bytes rest (length bytes) refl

  pub counted-record : 0 < length rest → counted (1 ∷ (head ++ (bytes ++ rest))) ≡ record { member = value_of (drop 4 head); bytes = bytes } ∷ counted rest
  counted-record some =
      let long : 8 + count_in (head ++ (bytes ++ rest)) < length (head ++ (bytes ++ rest)) = omega (arith, count-is, length-append head (bytes ++ rest), length-append bytes rest) in
      counted-open (head ++ (bytes ++ rest)) long
      ∙ ap (λ (r : Record). r ∷ counted (behind_record (head ++ (bytes ++ rest)))) (record-is (ap value_of member-is) bytes-are)
      ∙ ap (λ (l : List ℕ). record { member = value_of (drop 4 head); bytes = bytes } ∷ counted l) behind-is
    where
      made : ℕ → List ℕ → Record
      made member bytes = record { member = member; bytes = bytes }

      record-is : {m n : ℕ} {x y : List ℕ} → m ≡ n → x ≡ y → made m x ≡ made n y
      record-is {n = n} {x = x} e f = ap (λ (k : ℕ). made k x) e ∙ ap (made n) f

-- whole records count, and then whatever counts from the next gate on
pub counted-whole : (front : List ℕ) (records : List Record) → Whole front records → (gate : ℕ) (rest : List ℕ) → counted (front ++ gate ∷ rest) ≡ records ++ counted (gate ∷ rest)
counted-whole _ _ none gate rest = refl
counted-whole _ _ (more head bytes front records eight size whole) gate rest =
    ap (λ (l : List ℕ). counted (1 ∷ l)) (append_assoc head (bytes ++ front) (gate ∷ rest) ∙ ap (λ (l : List ℕ). head ++ l) (append_assoc bytes front (gate ∷ rest)))
    ∙ counted-record head bytes (front ++ gate ∷ rest) eight size (omega (arith, length-append front (gate ∷ rest)))
    ∙ ap (λ (l : List Record). record { member = value_of (drop 4 head); bytes = bytes } ∷ l) (counted-whole front records whole gate rest)

-- one record more at the end
pub Whole-push : (front : List ℕ) (records : List Record) (head bytes : List ℕ) → Whole front records → length head ≡ 8 → value_of (take 4 head) ≡ length bytes → Whole (front ++ 1 ∷ (head ++ bytes)) (records ++ record { member = value_of (drop 4 head); bytes = bytes } ∷ [])
Whole-push _ _ head bytes none eight size =
    subst (λ (l : List ℕ). Whole (1 ∷ (head ++ l)) (record { member = value_of (drop 4 head); bytes = bytes } ∷ [])) (append-nil bytes) (more head bytes [] [] eight size none)
Whole-push _ _ head bytes (more h b front records eight' size' whole) eight size =
    let e : h ++ (b ++ front) ++ 1 ∷ (head ++ bytes) ≡ h ++ (b ++ (front ++ 1 ∷ (head ++ bytes))) =
    append_assoc h (b ++ front) (1 ∷ (head ++ bytes)) ∙ ap (λ (l : List ℕ). h ++ l) (append_assoc b front (1 ∷ (head ++ bytes))) in
    subst (λ (l : List ℕ). Whole (1 ∷ l) (record { member = value_of (drop 4 h); bytes = b } ∷ (records ++ record { member = value_of (drop 4 head); bytes = bytes } ∷ []))) (sym e)
    (more h b (front ++ 1 ∷ (head ++ bytes)) (records ++ record { member = value_of (drop 4 head); bytes = bytes } ∷ []) eight' size' (Whole-push front records head bytes whole eight size))
