-- Decimal digits are read as the number that they print.
use Rattle.std.proofs.Common.{◌≡◌, ℕ, ◌<◌, ◌≤◌, ◌^◌, true, false, List, [], ◌∷◌, length, get_or, Some, decimal, min, option_map, refl, ap, ◌∙◌, arith, rules, inl, inr}
use Rattle.std.proofs.lemmas.Bool.{ne_eqb, lt-ltb, le-leb, cases_order}
use Rattle.std.proofs.lemmas.Fmt.{digits_decimal, digits_value-decimal, first_decimal, decimal_nonempty, decimal_digit}
use Rattle.std.proofs.lemmas.Str.Parse.{IsNumeralModel, numerals_by_fold}
use Rattle.std.specs.List.{list_all}
use Rattle.schedule_text.specs.Bytes.{is_digit, is_digits, value_from, has_leading_zero, number_of, number_in}
use Rattle.schedule_text.specs.Lines.{member_number}
use Rattle.run_law.proofs.Pieces.{Passes}

own : IsNumeralModel (λ ds. list_all is_digit ds ≡ true) (value_from 0)
unfolding value_from
own = numerals_by_fold _ (search rules) value_from (search rules)

pub decimal_digits : (n : ℕ) → n < 2 ^ 64 → Passes is_digit (decimal n)
decimal_digits n fits = digits_decimal own n fits

decimal_value : (n : ℕ) → n < 2 ^ 64 → value_from 0 (decimal n) ≡ n
decimal_value n fits = digits_value-decimal own n fits

-- digits that are there
digits_there : (w : List ℕ) → 0 < length w → Passes is_digit w → is_digits w ≡ true
unfolding is_digits
digits_there [] some h = absurd (omega arith)
digits_there (b ∷ bs) some h = h

pub decimal_form : (n : ℕ) → n < 2 ^ 64 → is_digits (decimal n) ≡ true
decimal_form n fits = digits_there (decimal n) (decimal_nonempty n fits) (decimal_digits n fits)

no_zero : (w : List ℕ) → 48 < get_or w 0 0 → has_leading_zero w ≡ false
no_zero [] h = refl
no_zero (b ∷ []) h = refl
no_zero (b ∷ c ∷ bs) h = ne_eqb b 48 (λ e. omega (arith, e, h))

plain_zero : (n : ℕ) → n ≡ 0 → has_leading_zero (decimal n) ≡ false
plain_zero n e = rw e (ap has_leading_zero (decimal_digit 0 (omega arith)))

decimal_plain : (n : ℕ) → n < 2 ^ 64 → has_leading_zero (decimal n) ≡ false
decimal_plain n fits =
    elim (cases_order n 0) [
      | inl e ↦ plain_zero n e
      | inr (inl less) ↦ absurd (omega arith)
      | inr (inr more) ↦ no_zero (decimal n) (first_decimal n more fits)
    ]

pub number_read : (n : ℕ) → n < 2 ^ 64 → number_of (decimal n) ≡ Some n
unfolding number_of
number_read n fits =
    rw (decimal_form n fits, decimal_plain n fits, decimal_value n fits, lt-ltb n (2 ^ 64) fits) refl

pub range_read : (low high n : ℕ) → n < 2 ^ 64 → low ≤ n → n ≤ high → number_in low high (decimal n) ≡ Some n
unfolding number_in
range_read low high n fits a b = rw (number_read n fits, le-leb low n a, le-leb n high b) refl

pub member_read : (m : ℕ) → m < 2 ^ 32 → member_number (decimal m) ≡ Some m
unfolding member_number
member_read m fits =
    let wide : m < 2 ^ 64 = omega arith in
    let least : min m 4294967295 ≡ m = omega arith in
    ap (λ o. option_map (λ n. min n 4294967295) o) (number_read m wide) ∙ ap Some least
