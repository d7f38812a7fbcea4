-- What `Plan::new` finds: that every edge goes forward if none is bad, and rows of places, none at the start and one more filed.
use Rattle.std.proofs.Common.{◌≡◌, ◌≢◌, ℕ, ◌+◌, ◌<◌, zero, suc, Bool, true, false, cond, not, ◌&&◌, eqb, ltb, List, [], ◌∷◌, ◌++◌, length, get_or, set, take, sym, refl, ap, ◌∙◌, subst, eq-eqb, ne_eqb, length-set, get_or-set_same, get_or-set_other, arith}
use Rattle.std.proofs.lemmas.List.{take_more, length-take-le}
use mathlib.Core.Logic.{dite}
use native.Mathlib.Decide.{ℕ_discrete}
use Rattle.std.specs.Prelude.{Some, None}
use Rattle.std.specs.List.{position_from}
use Rattle.std.proofs.lemmas.Iterator.Adapters.{position_from-zero}
use Rattle.std.proofs.lemmas.Bool.Decides.{nat_tests}
use Rattle.dag_core.specs.declared.plan.Edge.{Edge}
use Rattle.dag_core.specs.Places.{IsFiled, places_by}
use Rattle.dag_core.specs.Values.{source, target, is_forward, first_bad}
use Rattle.dag_core.proofs.Places.{places-push}

none_pass : {X : Type 0} (p : X → Bool) (i : ℕ) (xs : List X) (d : X) → position_from p i xs ≡ None → (k : ℕ) → k < length xs → p (get_or xs k d) ≡ false
none_pass p i [] d none k lt = absurd (omega arith)
none_pass {X = X} p i (x ∷ xs) d none k lt = go (p x) refl none (none_pass p (i + 1) xs d) k lt
  where
    go : (b : Bool) → p x ≡ b → cond b (Some i) (position_from p (i + 1) xs) ≡ None → (position_from p (i + 1) xs ≡ None → (k : ℕ) → k < length xs → p (get_or xs k d) ≡ false)
        → (k : ℕ) → k < suc (length xs) → p (get_or (x ∷ xs) k d) ≡ false
    go true e none rest k lt = cc
    go false e none rest zero lt = e
    go false e none rest (suc k) lt = rest none k (omega arith)

forward_one : (a b n : ℕ) → not (ltb a b && ltb b n) ≡ false → (a < b) × (b < n)
forward_one a b n e = grind (arith, nat_tests)

-- if no edge is bad, each goes forward
pub forward_all : (tasks : ℕ) (es : List Edge) → first_bad tasks es ≡ None → (place : ℕ) → place < length es → (source es place < target es place) × (target es place < tasks)
forward_all tasks es none place lt =
    let bad : Edge → Bool = λ edge. not (is_forward tasks edge) in
    forward_one (source es place) (target es place) tasks (none_pass bad 0 es record { from = 0; to = 0 } (sym (position_from-zero bad es) ∙ none) place lt)

module _ {X : Type 0} (key : X → ℕ) where
  pub filed_more : (items : List X) (count : ℕ) (rows : List (List ℕ)) (k : ℕ) (x d : X) → k < length items → get_or items k d ≡ x → key x < count
      → IsFiled key (take k items) count rows → IsFiled key (take (k + 1) items) count (set rows (key x) (get_or rows (key x) [] ++ k ∷ []))
  filed_more items count rows k x d lt read inside filed = record {
    counted = length-set rows (key x) (get_or rows (key x) [] ++ k ∷ []) ∙ filed.counted;
    row = λ number below. subst (λ l. get_or (set rows (key x) (get_or rows (key x) [] ++ k ∷ [])) number [] ≡ places_by (λ item. eqb (key item) number) 0 l) (sym more) (dite (ℕ_discrete (key x) number) (λ q. here number q) (λ ne. else number below ne));
  }
    where
      more : take (k + 1) items ≡ take k items ++ x ∷ []
      more = take_more items k d lt ∙ ap (λ y. take k items ++ y ∷ []) read

      len : 0 + length (take k items) ≡ k
      len = let z : length (take k items) ≡ k = length-take-le k items (omega arith) in omega (arith, z)

      pushed : (number : ℕ) → places_by (λ item. eqb (key item) number) 0 (take k items ++ x ∷ []) ≡ cond (eqb (key x) number) (places_by (λ item. eqb (key item) number) 0 (take k items) ++ k ∷ []) (places_by (λ item. eqb (key item) number) 0 (take k items))
      pushed number = subst (λ n. places_by (λ item. eqb (key item) number) 0 (take k items ++ x ∷ []) ≡ cond (eqb (key x) number) (places_by (λ item. eqb (key item) number) 0 (take k items) ++ n ∷ []) (places_by (λ item. eqb (key item) number) 0 (take k items))) len
          (places-push (λ item. eqb (key item) number) 0 (take k items) x)

      here : (number : ℕ) → key x ≡ number → get_or (set rows (key x) (get_or rows (key x) [] ++ k ∷ [])) number [] ≡ places_by (λ item. eqb (key item) number) 0 (take k items ++ x ∷ [])
      here number q = subst (λ n. get_or (set rows (key x) (get_or rows (key x) [] ++ k ∷ [])) n [] ≡ places_by (λ item. eqb (key item) n) 0 (take k items ++ x ∷ [])) q
          (get_or-set_same rows (key x) (get_or rows (key x) [] ++ k ∷ []) [] (let c = filed.counted in omega (arith, c))
          ∙ (ap (λ l. l ++ k ∷ []) (filed.row (key x) inside) ∙ sym (pushed (key x) ∙ ap (λ b. cond b (places_by (λ item. eqb (key item) (key x)) 0 (take k items) ++ k ∷ []) (places_by (λ item. eqb (key item) (key x)) 0 (take k items))) (eq-eqb (key x) (key x) refl))))

      else : (number : ℕ) → number < count → key x ≢ number → get_or (set rows (key x) (get_or rows (key x) [] ++ k ∷ [])) number [] ≡ places_by (λ item. eqb (key item) number) 0 (take k items ++ x ∷ [])
      else number below ne = get_or-set_other rows (key x) number (get_or rows (key x) [] ++ k ∷ []) [] (λ q. ne (sym q))
          ∙ (filed.row number below ∙ sym (pushed number ∙ ap (λ b. cond b (places_by (λ item. eqb (key item) number) 0 (take k items) ++ k ∷ []) (places_by (λ item. eqb (key item) number) 0 (take k items))) (ne_eqb (key x) number ne)))

  -- the rows of the items and the count that they were passed by
  pub filed_row : (items passed : List X) (count rows_wanted : ℕ) (rows : List (List ℕ)) → items ≡ passed → count ≡ rows_wanted → IsFiled key items count rows
      → (number : ℕ) → number < rows_wanted → get_or rows number [] ≡ places_by (λ item. eqb (key item) number) 0 passed
  filed_row items passed count rows_wanted rows same counted filed number lt = filed.row number (omega (arith, counted)) ∙ ap (places_by (λ item. eqb (key item) number) 0) same
