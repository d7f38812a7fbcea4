-- One number more.
use Rattle.std.proofs.Common.{◌≡◌, ℕ, ◌+◌, zero, suc, List, [], ◌∷◌, ◌++◌, ap, sym, ◌∙◌, arith, append_assoc, append-nil}
use Rattle.std.proofs.lemmas.List.Concat.{flat_map-append}
use Rattle.std.specs.List.{flat_map, range_with_len}
use Rattle.schedule_make.specs.Make.{for_each}

pub range_with_len-suc : (a n : ℕ) → range_with_len a (suc n) ≡ range_with_len a n ++ (a + n) ∷ []
range_with_len-suc a zero = let e : a ≡ a + 0 = omega arith in ap (λ x. x ∷ []) e
range_with_len-suc a (suc n) =
    let e : (a + 1) + n ≡ a + suc n = omega arith in
    ap (λ xs. a ∷ xs) (range_with_len-suc (a + 1) n ∙ ap (λ x. range_with_len (a + 1) n ++ x ∷ []) e)

for_each-suc : (text : ℕ → List ℕ) (n : ℕ) → for_each text (suc n) ≡ for_each text n ++ text n
for_each-suc text n =
    let e : 0 + n ≡ n = omega arith in
    ap (flat_map text) (range_with_len-suc 0 n) ∙ flat_map-append text (range_with_len 0 n) ((0 + n) ∷ [])
    ∙ ap (λ x. for_each text n ++ (text x ++ [])) e ∙ ap (λ t. for_each text n ++ t) (append-nil (text n))

-- the text of one number more, after what stands
pub one_more : (text : ℕ → List ℕ) (old out new : List ℕ) (n : ℕ) → out ≡ old ++ for_each text n → new ≡ out ++ text n → new ≡ old ++ for_each text (n + 1)
one_more text old out new n before more =
    let e : n + 1 ≡ suc n = omega arith in
    more ∙ ap (λ t. t ++ text n) before ∙ append_assoc old (for_each text n) (text n)
    ∙ ap (λ t. old ++ t) (sym (for_each-suc text n)) ∙ ap (λ m. old ++ for_each text m) (sym e)
