-- Outputs that are put into the slots of their tasks, one after another.
use Rattle.std.proofs.Common.{◌≡◌, ◌≢◌, ℕ, zero, suc, ◌+◌, ◌<◌, cond, eqb, List, [], ◌∷◌, ◌++◌, length, All, get_or, set, replicate, Option, Some, None, Result, Ok, Err, IfOk, sym, refl, ap, ◌∙◌, subst, inl, inr, ⊎_elim, ◌⊎◌, ◌≤◌, ne_eqb, length-set, length-append, get_or-set_same, get_or-set_other, arith}
use native.Mathlib.Decide.{ℕ_discrete}
use Rattle.std.specs.Prelude.{slice_get, is_some}
use Rattle.std.proofs.lemmas.Option.{slice_get-get_or, same_Some, get_or_from_slice_get, slice_get_read}
use Rattle.std.proofs.lemmas.List.{length-replicate, same_lists}
use Rattle.std.proofs.lemmas.List.Elements.{All-pop}
use Rattle.dag_pool.specs.Outputs.{times_in, AreOutputs}

pub nil_of : {X : Type 0} (xs : List X) → length xs ≡ 0 → xs ≡ []
nil_of [] h = refl
nil_of (x ∷ xs) h = absurd (omega arith)

-- what two clauses on `Ok` give together
pub if_both : {X E : Type 0} (r : Result X E) {P Q R : X → Type 0} → IfOk r P → IfOk r Q → ((x : X) → P x → Q x → R x) → IfOk r R
if_both (Ok x) p q f = f x p q
if_both (Err e) p q f = tt

-- one if the slot is filled, else none
abbrev pub filled : {O : Type 0} → List (Option O) → ℕ → ℕ
filled slots t = cond (is_some (get_or slots t None)) 1 0

-- `pairs` are left of `all`, and what the others have stands in the slots
pub record Sorts {O : Type 0} (n : ℕ) (all pairs : List (ℕ × O)) (slots : List (Option O)) : Type 0 where
  pub size : length slots ≡ n
  pub inside : All (λ (p : ℕ × O). p.0 < n) pairs
  pub there : (t : ℕ) → t < n → 0 < times_in t pairs + filled slots t
  pub right : (os : List O) → length os ≡ n → AreOutputs os all → AreOutputs os pairs × ((t : ℕ) (o : O) → get_or slots t None ≡ Some o → slice_get os t ≡ Some o)

module _ {O : Type 0} where
  times_in-append : (t : ℕ) (ps qs : List (ℕ × O)) → times_in t (ps ++ qs) ≡ times_in t ps + times_in t qs
  times_in-append t [] qs = omega arith
  times_in-append t (p ∷ ps) qs = let h = times_in-append t ps qs in let c : ℕ = cond (eqb p.0 t) 1 0 in let s : times_in t ((p ∷ ps) ++ qs) ≡ c + times_in t (ps ++ qs) = refl in omega arith

  All_last : (P : (ℕ × O) → Type 0) (ps : List (ℕ × O)) (q : ℕ × O) → All P (ps ++ q ∷ []) → All P ps × P q
  All_last P ps q h = All-pop P (ps ++ q ∷ []) ps (Some q) refl h

  pub sorts_none : (n : ℕ) (pairs : List (ℕ × O)) → All (λ (p : ℕ × O). p.0 < n) pairs → ((t : ℕ) → t < n → 0 < times_in t pairs) → Sorts n pairs pairs (replicate n None)
  sorts_none n pairs inside there = record {
    size = length-replicate n None;
    inside = inside;
    there = λ t lt. let h = there t lt in omega arith;
    right = λ os len are. (are, λ t o e. absurd (empty n t o e));
  }
    where
      empty : (n t : ℕ) (o : O) → get_or (replicate n None) t None ≡ Some o → ⊥
      empty zero t o e = cc
      empty (suc n) zero o e = cc
      empty (suc n) (suc t) o e = empty n t o e

  pub sorts_more : (n : ℕ) (all before pairs : List (ℕ × O)) (slots : List (Option O)) (t : ℕ) (o : O) → before ≡ pairs ++ (t, o) ∷ [] → Sorts n all before slots → Sorts n all pairs (set slots t (Some o))
  sorts_more n all before pairs slots t o e s = record {
    size = length-set slots t (Some o) ∙ s.size;
    inside = (All_last (λ p. p.0 < n) pairs (t, o) inside).0;
    there = λ u lt. elim (ℕ_discrete t u) [
      | yes q ↦ let z : get_or (set slots t (Some o)) u None ≡ Some o = subst (λ k. get_or (set slots t (Some o)) k None ≡ Some o) q here in
          let f : filled (set slots t (Some o)) u ≡ 1 = ap (λ (x : Option O). cond (is_some x) 1 0) z in omega arith
      | no ne ↦ let z = get_or-set_other slots t u (Some o) None (λ q. ne (sym q)) in
          let f : filled (set slots t (Some o)) u ≡ filled slots u = ap (λ (x : Option O). cond (is_some x) 1 0) z in
          let h = subst (λ l. 0 < times_in u l + filled slots u) e (s.there u lt) in
          let c : times_in u ((t, o) ∷ []) ≡ 0 = ap (λ b. cond b 1 0 + 0) (ne_eqb t u ne) in
          omega (arith, h, times_in-append u pairs ((t, o) ∷ []), f, c)
    ];
    right = λ os len are.
        let r = s.right os len are in
        let both : AreOutputs os (pairs ++ (t, o) ∷ []) = subst (AreOutputs os) e r.0 in (
          (All_last (λ p. slice_get os p.0 ≡ Some p.1) pairs (t, o) both).0,
          λ u x at. elim (ℕ_discrete t u) [
            | yes q ↦ let z : get_or (set slots t (Some o)) u None ≡ Some o = subst (λ k. get_or (set slots t (Some o)) k None ≡ Some o) q here in
                let w : slice_get os t ≡ Some o = (All_last (λ p. slice_get os p.0 ≡ Some p.1) pairs (t, o) both).1 in
                subst (λ k. slice_get os k ≡ Some x) q (w ∙ (sym z ∙ at))
            | no ne ↦ r.1 u x (sym (get_or-set_other slots t u (Some o) None (λ q. ne (sym q))) ∙ at)
          ],
        );
  }
    where
      inside : All (λ (p : ℕ × O). p.0 < n) (pairs ++ (t, o) ∷ [])
      inside = subst (All (λ (p : ℕ × O). p.0 < n)) e s.inside

      below : t < length slots
      below = let b : t < n = (All_last (λ p. p.0 < n) pairs (t, o) inside).1 in let z = s.size in omega arith

      here : get_or (set slots t (Some o)) t None ≡ Some o
      here = get_or-set_same slots t (Some o) None below

  filled_some : (slots : List (Option O)) (t : ℕ) → t < length slots → 0 < filled slots t → (o : O) × (slice_get slots t ≡ Some (Some o))
  filled_some [] t lt h = absurd (omega arith)
  filled_some (None ∷ slots) zero lt h = absurd (omega arith)
  filled_some (Some o ∷ slots) zero lt h = (o, refl)
  filled_some (x ∷ slots) (suc t) lt h = filled_some slots t (omega arith) h

  -- when no pair is left, each slot is filled
  pub sorts_full : (n : ℕ) (all : List (ℕ × O)) (slots : List (Option O)) → Sorts n all [] slots → (t : ℕ) → t < length slots → (o : O) × (slice_get slots t ≡ Some (Some o))
  sorts_full n all slots s t lt = filled_some slots t lt (let h = s.there t (let z = s.size in omega arith) in omega arith)

  -- when no pair is left, what stands in the slots is the outputs in order
  pub sorts_all : (n : ℕ) (all : List (ℕ × O)) (slots : List (Option O)) (sorted os : List O) → Sorts n all [] slots → length sorted ≡ length slots
      → ((t : ℕ) (o : O) → slice_get sorted t ≡ Some o → slice_get slots t ≡ Some (Some o)) → length os ≡ n → AreOutputs os all → sorted ≡ os
  sorts_all n all slots sorted os s len same size are = same_lists sorted os (len ∙ (s.size ∙ sym size))
      (λ k d lt. let x : O = get_or sorted k d in
      let at = same k x (slice_get-get_or sorted k d lt) in
      sym (get_or_from_slice_get os k x d ((s.right os size are).1 k x (get_or_from_slice_get slots k (Some x) None at))))

-- the slots before `place` were emptied in turn, and what stood in them is the outputs
pub record Empties {O : Type 0} (all slots : List (Option O)) (place : ℕ) (outputs : List O) : Type 0 where
  pub size : length slots ≡ length all
  pub len : length outputs ≡ place
  pub left : (k : ℕ) → place ≤ k → slice_get slots k ≡ slice_get all k
  pub same : (k : ℕ) (o : O) → slice_get outputs k ≡ Some o → slice_get all k ≡ Some (Some o)

module _ {O : Type 0} where
  pub stood : (all slots : List (Option O)) (place : ℕ) (outputs : List O) (x : Option O) → Empties all slots place outputs → place < length all → x ≡ get_or slots place x → slice_get all place ≡ Some x
  stood all slots place outputs x e lt read = sym (e.left place (omega arith)) ∙ slice_get_read slots (length slots) place x refl (let s = e.size in omega arith) read

  at_end : (xs : List O) (k : ℕ) (o p : O) → slice_get (xs ++ o ∷ []) k ≡ Some p → (slice_get xs k ≡ Some p) ⊎ ((k ≡ length xs) × (o ≡ p))
  at_end [] zero o p e = inr (refl, same_Some o p e)
  at_end [] (suc k) o p e = cc
  at_end (x ∷ xs) zero o p e = inl e
  at_end (x ∷ xs) (suc k) o p e = ⊎_elim (λ a. inl a) (λ b. inr (ap suc b.0, b.1)) (at_end xs k o p e)

  else : (xs : List (Option O)) (i k : ℕ) (x : Option O) → k ≢ i → slice_get (set xs i x) k ≡ slice_get xs k
  else [] i k x ne = refl
  else (y ∷ ys) zero zero x ne = absurd (ne refl)
  else (y ∷ ys) zero (suc k) x ne = refl
  else (y ∷ ys) (suc i) zero x ne = refl
  else (y ∷ ys) (suc i) (suc k) x ne = else ys i k x (λ e. ne (ap suc e))

  pub empties_more : (all slots : List (Option O)) (place : ℕ) (outputs : List O) (o : O) → Empties all slots place outputs → slice_get all place ≡ Some (Some o)
      → Empties all (set slots place None) (place + 1) (outputs ++ o ∷ [])
  empties_more all slots place outputs o e at = record {
    size = length-set slots place None ∙ e.size;
    len = let n = e.len in omega (arith, length-append outputs (o ∷ []));
    left = λ k h. else slots place k None (λ q. omega arith) ∙ e.left k (omega arith);
    same = λ k p was. ⊎_elim (λ a. e.same k p a) (λ (b : (k ≡ length outputs) × (o ≡ p)). let q : place ≡ k = sym (b.0 ∙ e.len) in subst (λ n. slice_get all n ≡ Some (Some p)) q (at ∙ ap (λ (x : O). Some (Some x)) b.1)) (at_end outputs k o p was);
  }
