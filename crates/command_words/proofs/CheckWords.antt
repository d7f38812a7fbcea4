-- The stakes and the digest that words denote.
use Rattle.std.proofs.Common.{◌≡◌, ◌∙◌, ◌==◌, ◌&&◌, ◌<◌, ◌≤◌, ◌+◌, ℕ, suc, Bool, true, false, nat_le, nat_lt, List, [], ◌∷◌, ◌++◌, length, take, set, Option, Some, None, Result, Ok, Err, MatchResult, if◌then◌else◌, refl, sym, ap, subst, arith, append-nil, length-append}
use Rattle.std.specs.Prelude.{option_and_then, option_map}
use Rattle.std.specs.List.{slice_split}
use Rattle.std.proofs.lemmas.Bool.Decides.{nat_tests}
use Rattle.std.proofs.lemmas.List.{length-take-le, take_more_set}
use Rattle.hex.specs.Hex.{decode_of, decode_sized}
use Rattle.hex.specs.declared.error.FromHexError.{FromHexError}
use Rattle.digest_core.specs.declared.Digest.{Digest}
use Rattle.quorum_core.specs.Committee.{committee_of, zero_from}
use Rattle.protocol_spec.specs.Chain.Words.{where_true}
use Rattle.schedule_text.specs.Bytes.{cut_at, each_of, number_in, number_of, with_both}
use Rattle.schedule_text.proofs.Splits.{parts_after, split_cut}
use Rattle.command_words.specs.CheckWords.{digest_of_bytes, stakes_in}
use Rattle.command_words.specs.ListWords.{numbers_in, up_to_64}
use Rattle.command_words.proofs.ListWords.{parts}

-- ---- their committee

positive : (part : List ℕ) (n : ℕ) → number_in 1 4294967295 part ≡ Some n → (n == 0) ≡ false
unfolding number_in
positive part n is = go (number_of part) is
  where
    within : (m : ℕ) (low high : Bool) → nat_le 1 m ≡ low → (if low && high then Some m else None) ≡ Some n → (n == 0) ≡ false
    within m true true least e = let same : m ≡ n = cc in subst (λ (k : ℕ). (k == 0) ≡ false) same (grind (arith, nat_tests))
    within m true false least e = absurd (cc)
    within m false high least e = absurd (cc)

    go : (read : Option ℕ) → option_and_then (λ m. if nat_le 1 m && nat_le m 4294967295 then Some m else None) read ≡ Some n → (n == 0) ≡ false
    go None e = absurd (cc)
    go (Some m) e = within m (nat_le 1 m) (nat_le m 4294967295) refl e

without_zeros : (ps : List (List ℕ)) (stakes : List ℕ) (member : ℕ) → each_of (number_in 1 4294967295) ps ≡ Some stakes → zero_from member stakes ≡ None
unfolding each_of
without_zeros [] stakes member e = let same : [] ≡ stakes = cc in subst (λ (xs : List ℕ). zero_from member xs ≡ None) same refl
without_zeros (p ∷ ps) stakes member e = go (number_in 1 4294967295 p) refl (each_of (number_in 1 4294967295) ps) refl e (λ xs. without_zeros ps xs (suc member))
  where
    one : (n : ℕ) (xs : List ℕ) → (n == 0) ≡ false → zero_from (suc member) xs ≡ None → zero_from member (n ∷ xs) ≡ None
    one n xs is rest = rw is rest

    go : (first : Option ℕ) → number_in 1 4294967295 p ≡ first → (rest : Option (List ℕ)) → each_of (number_in 1 4294967295) ps ≡ rest → with_both first rest (λ y ys. y ∷ ys) ≡ Some stakes
        → ((xs : List ℕ) → each_of (number_in 1 4294967295) ps ≡ Some xs → zero_from (suc member) xs ≡ None) → zero_from member stakes ≡ None
    go None is rest of e more = absurd (cc)
    go (Some n) is None of e more = absurd (cc)
    go (Some n) is (Some xs) of e more = let same : n ∷ xs ≡ stakes = cc in subst (λ (ys : List ℕ). zero_from member ys ≡ None) same (one n xs (positive p n is) (more xs of))

some_part : (word : List ℕ) → (p : List ℕ) × (ps : List (List ℕ)) × (parts word ≡ p ∷ ps)
some_part word = go (cut_at 44 word) (split_cut 44 word)
  where
    go : (cut : Option (List ℕ × List ℕ)) → parts word ≡ parts_after 44 word cut → (p : List ℕ) × (ps : List (List ℕ)) × (parts word ≡ p ∷ ps)
    go None e = (word, [], e)
    go (Some both) e = (both.0, parts both.1, e)

not_empty : (ps : List (List ℕ)) (p : List ℕ) (rest : List (List ℕ)) (stakes : List ℕ) → ps ≡ p ∷ rest → each_of (number_in 1 4294967295) ps ≡ Some stakes → (length stakes == 0) ≡ false
unfolding each_of
not_empty ps p rest stakes is e = go (number_in 1 4294967295 p) (each_of (number_in 1 4294967295) rest) (sym (ap (each_of (number_in 1 4294967295)) is) ∙ e)
  where
    go : (first : Option ℕ) (more : Option (List ℕ)) → with_both first more (λ y ys. y ∷ ys) ≡ Some stakes → (length stakes == 0) ≡ false
    go None more e = absurd (cc)
    go (Some n) None e = absurd (cc)
    go (Some n) (Some xs) e = let same : n ∷ xs ≡ stakes = cc in subst (λ (ys : List ℕ). (length ys == 0) ≡ false) same (grind (arith, nat_tests))

-- the stakes that a word denotes are those of a committee
pub spelled_committee : (word stakes : List ℕ) → stakes_in word ≡ Some stakes → committee_of stakes ≡ Ok stakes
unfolding numbers_in committee_of
spelled_committee word stakes is = go (each_of (number_in 1 4294967295) (parts word)) refl is
  where
    built : (xs : List ℕ) → nat_le (length xs) 64 ≡ true → each_of (number_in 1 4294967295) (parts word) ≡ Some xs → committee_of xs ≡ Ok xs
    built xs least of =
        let first = some_part word in
        let some : (length xs == 0) ≡ false = not_empty (parts word) first.0 first.1 xs first.2 of in
        let few : nat_lt 64 (length xs) ≡ false = grind (arith, nat_tests) in
        rw (some, few, without_zeros (parts word) xs 0 of) refl

    within : (xs : List ℕ) (few : Bool) → nat_le (length xs) 64 ≡ few → each_of (number_in 1 4294967295) (parts word) ≡ Some xs → where_true few xs ≡ Some stakes → committee_of stakes ≡ Ok stakes
    within xs true least of e = let same : xs ≡ stakes = cc in subst (λ (ys : List ℕ). committee_of ys ≡ Ok ys) same (built xs least of)
    within xs false least of e = absurd (cc)

    go : (all : Option (List ℕ)) → each_of (number_in 1 4294967295) (parts word) ≡ all → option_and_then up_to_64 all ≡ Some stakes → committee_of stakes ≡ Ok stakes
    go None of e = absurd (cc)
    go (Some xs) of e = within xs (nat_le (length xs) 64) refl of e

-- so the row that was read is a committee
pub read_is_committee : (word row : List ℕ) (count : ℕ) (read : Option ℕ) → option_map (λ (n : ℕ). take n row) read ≡ stakes_in word → read ≡ Some count → committee_of (take count row) ≡ Ok (take count row)
read_is_committee word row count read is at = spelled_committee word (take count row) (sym is ∙ ap (option_map (λ (n : ℕ). take n row)) at)

-- ---- the digest

sized : (word : List ℕ) → length word ≡ 64 → decode_sized word 32 ≡ decode_of word
sized word is = rw is refl

abbrev Decoded : List ℕ → Result (Unit {0}) FromHexError → List ℕ → Type 0
Decoded word result bytes = MatchResult (decode_sized word 32) (λ xs. (result ≡ Ok tt) × (bytes ≡ xs)) (λ e. result ≡ Err e)

-- what was decoded
pub decoded : (word bytes : List ℕ) (result : Result (Unit {0}) FromHexError) → length word ≡ 64 → Decoded word result bytes → result ≡ Ok tt → (let d : Digest = record { 0 = bytes } in Some d) ≡ digest_of_bytes (decode_of word)
decoded word bytes result long says is = subst (λ (r : Result (List ℕ) FromHexError). (let d : Digest = record { 0 = bytes } in Some d) ≡ digest_of_bytes r) (sized word long) (go (decode_sized word 32) says)
  where
    go : (r : Result (List ℕ) FromHexError) → MatchResult r (λ xs. (result ≡ Ok tt) × (bytes ≡ xs)) (λ e. result ≡ Err e) → (let d : Digest = record { 0 = bytes } in Some d) ≡ digest_of_bytes r
    go (Ok xs) both = ap (λ (ys : List ℕ). let d : Digest = record { 0 = ys } in Some d) both.1
    go (Err e) refused = absurd (let clash : Ok tt ≡ Err e = sym is ∙ refused in cc)

pub not_decoded : (word bytes : List ℕ) (result : Result (Unit {0}) FromHexError) (why : FromHexError) → length word ≡ 64 → Decoded word result bytes → result ≡ Err why → None ≡ digest_of_bytes (decode_of word)
not_decoded word bytes result why long says is = subst (λ (r : Result (List ℕ) FromHexError). None ≡ digest_of_bytes r) (sized word long) (go (decode_sized word 32) says)
  where
    go : (r : Result (List ℕ) FromHexError) → MatchResult r (λ xs. (result ≡ Ok tt) × (bytes ≡ xs)) (λ e. result ≡ Err e) → None ≡ digest_of_bytes r
    go (Ok xs) both = absurd (let clash : Ok tt ≡ Err why = sym both.0 ∙ is in cc)
    go (Err e) refused = refl
