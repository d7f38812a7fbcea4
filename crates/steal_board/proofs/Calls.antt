-- The steps as the board's calls make them: over the board's paper, at the edge that the step names, and of the seat as it is then.
use Rattle.std.proofs.Common.{◌≡◌, ℕ, ◌+◌, ◌-◌, ◌%◌, ◌^◌, ◌<◌, ◌≤◌, eqb, List, [], ◌∷◌, ◌++◌, length, Option, Some, None, sym, refl, ap, ◌∙◌, subst, arith}
use mathlib.Core.Option.{none}
use prog.Atomic.{either}
use Rattle.atomic_table.specs.Table.{Me, step, Allows, Splits, Joins, rest}
use Rattle.dag_core.specs.declared.plan.Edge.{Edge}
use Rattle.dag_core.specs.Places.{times}
use Rattle.dag_core.specs.Values.{source, target, value_of}
use Rattle.dag_core.proofs.Places.{times_here, times-append}
use Rattle.steal_board.specs.declared.view.Paper.{Paper}
use Rattle.steal_board.specs.declared.view.View.{View}
use Rattle.steal_board.specs.Views.{mark, seat_view, with_share, with_taken, turning, joined, spent}
use Rattle.steal_board.specs.Rule.{Held}
use Rattle.steal_board.specs.Steps.{Claims, Turns, Pays, Takes, Returns}
use Rattle.steal_board.proofs.Moves.{claims, turns, takes_value, returns_slot, pays, splits, joins}

-- where the words of an edge's tasks are
pub inside_of : (fs es ks : List Edge) (jobs words e : ℕ) → fs ≡ es → es ≡ ks → e < length ks → ((place : ℕ) → place < length es → (source es place < target es place) × (target es place < jobs)) → jobs ≤ words
    → (source fs e < words) × (target fs e < words) × (target ks e < jobs)
inside_of fs es ks jobs words e p q lt forward wide =
    let f = forward e (subst (λ l. e < length l) (sym q) lt) in
    let s : source fs e ≡ source es e = ap (λ l. source l e) p in
    let t : target fs e ≡ target es e = ap (λ l. target l e) p in
    let k : target ks e ≡ target es e = ap (λ l. target l e) (sym q) in (omega (arith, f, s, wide), omega (arith, f, t, wide), omega (arith, f, k))

-- the slot that was taken last, named by its edge
pub last_slot : {S : Type 0} (l out : List (ℕ × S)) (edge e : ℕ) (x : S) → edge ≡ e → l ≡ (e, x) ∷ out → l ≡ (edge, x) ∷ rest l
last_slot l out edge e x named is =
    let q : (edge, x) ∷ rest l ≡ (e, x) ∷ out = λ k. (named k, x) ∷ rest (is k) in
    is ∙ sym q

module _ {T : Type 0} (p : Paper T) (slots i : ℕ) where
  pub claims_over : (me : Me (Option T) (View T)) (t : ℕ) → me.0.paper ≡ p → 0 < me.0.share → t < p.tasks → Allows (Held p) slots i me t (λ n. either (eqb n 0) mark n) (Claims (step slots t 0 mark none) me)
  claims_over me t same has lt = subst (λ (q : Paper T). t < q.tasks → Allows (Held q) slots i me t (λ n. either (eqb n 0) mark n) (Claims (step slots t 0 mark none) me)) same (claims slots i me t has) lt

  pub turns_over : (me : Me (Option T) (View T)) (word edge e : ℕ) → edge ≡ e → me.0.paper ≡ p → 0 < me.0.share → edge < length p.edges → slots ≡ length p.edges → 0 < times (source p.edges edge) me.0.mine → me.0.turn ≡ [] → times edge me.0.paid ≡ 0
      → Allows (Held p) slots i me word (λ n. n) (Turns e (step slots word 0 0 none) me)
  turns_over me word edge e named same has lt deep claimed calm unpaid =
      let idle : times edge me.0.turn + times edge me.0.paid ≡ 0 = let z : times edge me.0.turn ≡ 0 = ap (times edge) calm in omega (arith, z, unpaid) in
      subst (λ k. Allows (Held p) slots i me word (λ n. n) (Turns k (step slots word 0 0 none) me)) named
      (subst (λ (q : Paper T). edge < length q.edges → slots ≡ length q.edges → 0 < times (source q.edges edge) me.0.mine → Allows (Held q) slots i me word (λ n. n) (Turns edge (step slots word 0 0 none) me)) same
      (λ l d c. turns slots i me word edge has l d c idle) lt deep claimed)

  pub takes_over : (me : Me (Option T) (View T)) (word edge e : ℕ) → edge ≡ e → me.0.paper ≡ p → 0 < me.0.share → edge < length p.edges → slots ≡ length p.edges → 0 < times (target p.edges edge) me.0.mine → times edge me.0.taken ≡ 0
      → Allows (Held p) slots i me word (λ n. n) (Takes e (step slots word 0 0 none) me)
  takes_over me word edge e named same has lt deep claimed untaken =
      subst (λ k. Allows (Held p) slots i me word (λ n. n) (Takes k (step slots word 0 0 none) me)) named
      (subst (λ (q : Paper T). edge < length q.edges → slots ≡ length q.edges → 0 < times (target q.edges edge) me.0.mine → Allows (Held q) slots i me word (λ n. n) (Takes edge (step slots word 0 0 none) me)) same
      (λ l d c. takes_value slots i me word edge has l d c untaken) lt deep claimed)

  -- after the exchange, the seat holds the edge's slot, empty
  pub returns_over : (me : Me (Option T) (View T)) (v : View T) (out : List (ℕ × Option T)) (word edge e : ℕ) → me ≡ (with_taken v e, (edge, None) ∷ out) → edge ≡ e → v.paper ≡ p → 0 < v.share → edge < length p.edges
      → Allows (Held p) slots i me word (λ n. n) (Returns (step slots word 0 0 none) me)
  returns_over me v out word edge e is named same has lt =
      let was : 0 < times edge (v.taken ++ e ∷ []) = let a = times-append edge v.taken (e ∷ []) in let o = times_here edge e [] (sym named) in omega (arith, a, o) in
      subst (λ m. Allows (Held p) slots i m word (λ n. n) (Returns (step slots word 0 0 none) m)) (sym is)
      (subst (λ (q : Paper T). edge < length q.edges → Allows (Held q) slots i (with_taken v e, (edge, None) ∷ out) word (λ n. n) (Returns (step slots word 0 0 none) (with_taken v e, (edge, None) ∷ out))) same
      (λ l. returns_slot slots i (with_taken v e) out word edge has l was) lt)

  -- after the exchange, the seat holds the edge's slot, with its value
  pub pays_over : (me : Me (Option T) (View T)) (v : View T) (out : List (ℕ × Option T)) (word edge e : ℕ) (x : T) → me ≡ (turning v e, (edge, Some x) ∷ out) → edge ≡ e → v.paper ≡ p → 0 < v.share → edge < length p.edges → slots ≡ length p.edges
      → target p.edges edge < p.tasks → value_of p.values edge ≡ Some x → word ≡ target p.edges edge → Allows (Held p) slots i me word (λ n. (n + (2 ^ 64 - 1)) % 2 ^ 64) (Pays e (step slots word 1 0 none) me)
  pays_over me v out word edge e x is named same has lt deep inside is_value where_to =
      subst (λ m. Allows (Held p) slots i m word (λ n. (n + (2 ^ 64 - 1)) % 2 ^ 64) (Pays e (step slots word 1 0 none) m)) (sym is)
      (subst (λ k. Allows (Held p) slots i (turning v e, (k, Some x) ∷ out) word (λ n. (n + (2 ^ 64 - 1)) % 2 ^ 64) (Pays e (step slots word 1 0 none) (turning v e, (k, Some x) ∷ out))) (sym named)
      (subst (λ w. Allows (Held p) slots i (turning v e, (e, Some x) ∷ out) w (λ n. (n + (2 ^ 64 - 1)) % 2 ^ 64) (Pays e (step slots w 1 0 none) (turning v e, (e, Some x) ∷ out))) (sym (where_to ∙ ap (target p.edges) named))
      (subst (λ (q : Paper T). e < length q.edges → slots ≡ length q.edges → target q.edges e < q.tasks → value_of q.values e ≡ Some x
      → Allows (Held q) slots i (turning v e, (e, Some x) ∷ out) (target q.edges e) (λ n. (n + (2 ^ 64 - 1)) % 2 ^ 64) (Pays e (step slots (target q.edges e) 1 0 none) (turning v e, (e, Some x) ∷ out))) same
      (λ l d t y. pays slots i (turning v e) out e x v.turn has l d t refl y)
      (subst (λ k. k < length p.edges) named lt) deep (subst (λ k. target p.edges k < p.tasks) named inside) (subst (λ k. value_of p.values k ≡ Some x) named is_value))))

pub splits_over : {T : Type 0} (p : Paper T) (i : ℕ) (v : View T) → v.paper ≡ p → 1 < v.share → Splits (Held p) i v (with_share v (v.share - 1)) (seat_view v.paper 1)
splits_over p i v same more = subst (λ (q : Paper _). Splits (Held q) i v (with_share v (v.share - 1)) (seat_view v.paper 1)) same (splits i v more)

pub joins_over : {T : Type 0} (p : Paper T) (i j : ℕ) (v w : View T) → v.paper ≡ p → 0 < v.share → Joins (Held p) i v j w (joined v w) spent
joins_over p i j v w same has = subst (λ (q : Paper _). Joins (Held q) i v j w (joined v w) spent) same (joins i j v w has)
