-- How often numbers stand in the lists of all views, and how many edges are unpaid, when one view changes or one edge is paid.
use Rattle.std.proofs.Common.{◌≡◌, ◌≢◌, ℕ, zero, suc, ◌+◌, ◌-◌, ◌<◌, ◌≤◌, Bool, true, false, cond, eqb, List, [], ◌∷◌, ◌++◌, length, set, sym, refl, ap, ◌∙◌, subst, arith}
use mathlib.Core.Logic.{dite}
use mathlib.Core.Option.{some, some-injective, some-ne-none}
use native.Mathlib.Decide.{ℕ_discrete}
use lib.ListN.{get_elem?}
use Rattle.dag_core.specs.declared.plan.Edge.{Edge}
use Rattle.dag_core.specs.Places.{times, places_by}
use Rattle.dag_core.specs.Values.{target, places_to, count_in}
use Rattle.dag_core.proofs.Places.{times_here, times_else, times-append}
use Rattle.dag_core.proofs.Fixed.{to_target, target_to}
use Rattle.steal_board.specs.declared.view.View.{View}
use Rattle.steal_board.specs.Rule.{total, sums, owing}

module _ {X : Type 0} where
  pub total_set : (f : X → ℕ) (l : List X) (i : ℕ) (v w : X) → get_elem? l i ≡ some v → total f (set l i w) + f v ≡ total f l + f w
  total_set f [] i v w at = absurd (some-ne-none v (sym at))
  total_set f (x ∷ xs) zero v w at = let e : f x ≡ f v = ap f (some-injective x v at) in omega arith
  total_set f (x ∷ xs) (suc i) v w at = let h = total_set f xs i v w at in omega (arith, h)

  pub total_same : (f : X → ℕ) (l : List X) (i : ℕ) (v w : X) → get_elem? l i ≡ some v → f w ≡ f v → total f (set l i w) ≡ total f l
  total_same f l i v w at e = let h = total_set f l i v w at in omega (arith, h, e)

  pub total_push : (f : X → ℕ) (l : List X) (w : X) → total f (l ++ w ∷ []) ≡ total f l + f w
  total_push f [] w = omega arith
  total_push f (x ∷ xs) w = let h = total_push f xs w in omega (arith, h)

  -- one item counts no more than all
  pub total_one : (f : X → ℕ) (l : List X) (i : ℕ) (v : X) → get_elem? l i ≡ some v → f v ≤ total f l
  total_one f [] i v at = absurd (some-ne-none v (sym at))
  total_one f (x ∷ xs) zero v at = let e : f x ≡ f v = ap f (some-injective x v at) in omega arith
  total_one f (x ∷ xs) (suc i) v at = let h = total_one f xs i v at in omega (arith, h)

  pub total_plus : (f g : X → ℕ) (l : List X) → total (λ x. f x + g x) l ≡ total f l + total g l
  total_plus f g [] = refl
  total_plus f g (x ∷ xs) = let h = total_plus f g xs in omega (arith, h)

  pub total_le : (f g : X → ℕ) (l : List X) → ((i : ℕ) (v : X) → get_elem? l i ≡ some v → f v ≤ g v) → total f l ≤ total g l
  total_le f g [] le = omega arith
  total_le f g (x ∷ xs) le = let h = le 0 x refl in let r = total_le f g xs (λ i v at. le (suc i) v at) in omega (arith, h, r)

  total_gap : (f g : X → ℕ) (l : List X) (i : ℕ) (v : X) → get_elem? l i ≡ some v → ((j : ℕ) (u : X) → get_elem? l j ≡ some u → f u ≤ g u) → total f l + g v ≤ total g l + f v
  total_gap f g [] i v at le = absurd (some-ne-none v (sym at))
  total_gap f g (x ∷ xs) zero v at le =
      let e : f x ≡ f v = ap f (some-injective x v at) in
      let e' : g x ≡ g v = ap g (some-injective x v at) in
      let r = total_le f g xs (λ i u at'. le (suc i) u at') in omega (arith, r)
  total_gap f g (x ∷ xs) (suc i) v at le = let h = le 0 x refl in let r = total_gap f g xs i v at (λ j u at'. le (suc j) u at') in omega (arith, h, r)

  -- if f is at most g, g is 1 in all, and one item has g and no f, then none has f
  pub total_below : (f g : X → ℕ) (l : List X) (i : ℕ) (v : X) → get_elem? l i ≡ some v → ((j : ℕ) (u : X) → get_elem? l j ≡ some u → f u ≤ g u) → total g l ≤ 1 → 0 < g v → f v ≡ 0 → total f l ≡ 0
  total_below f g l i v at le once has none = let h = total_gap f g l i v at le in omega (arith, h)

  total_none : (s g : X → ℕ) (l : List X) → total s l ≡ 0 → ((j : ℕ) (u : X) → get_elem? l j ≡ some u → s u ≡ 0 → g u ≡ 0) → total g l ≡ 0
  total_none s g [] z idle = refl
  total_none s g (x ∷ xs) z idle = let h = idle 0 x refl (omega arith) in let r = total_none s g xs (omega arith) (λ j u at. idle (suc j) u at) in omega (arith, h, r)

  -- if one item has all of s, and without s there is no g, it has all of g
  pub total_alone : (s g : X → ℕ) (l : List X) (i : ℕ) (v : X) → get_elem? l i ≡ some v → total s l ≡ s v → ((j : ℕ) (u : X) → get_elem? l j ≡ some u → s u ≡ 0 → g u ≡ 0) → total g l ≡ g v
  total_alone s g [] i v at all idle = absurd (some-ne-none v (sym at))
  total_alone s g (x ∷ xs) zero v at all idle =
      let e : s x ≡ s v = ap s (some-injective x v at) in
      let e' : g x ≡ g v = ap g (some-injective x v at) in
      let r = total_none s g xs (omega (arith, all)) (λ j u at'. idle (suc j) u at') in omega (arith, r)
  total_alone s g (x ∷ xs) (suc i) v at all idle =
      let o = total_one s xs i v at in
      let h = idle 0 x refl (omega (arith, all)) in
      let r = total_alone s g xs i v at (omega (arith, all, o)) (λ j u at'. idle (suc j) u at') in omega (arith, h, r)

-- one more number in one view's list
module _ {T : Type 0} where
  pub sums_same : (part : View T → List ℕ) (l : List (View T)) (i : ℕ) (v w : View T) → get_elem? l i ≡ some v → part w ≡ part v → sums part (set l i w) ≡ sums part l
  sums_same part l i v w at e = λ k x. total_same (λ u. times x (part u)) l i v w at (ap (times x) e) k

  pub sums_grown : (part : View T → List ℕ) (l : List (View T)) (i : ℕ) (v w : View T) (y x : ℕ) → get_elem? l i ≡ some v → part w ≡ part v ++ y ∷ [] → sums part (set l i w) x ≡ sums part l x + times x (y ∷ [])
  sums_grown part l i v w y x at e =
      let h = total_set (λ u. times x (part u)) l i v w at in
      let g : times x (part w) ≡ times x (part v) + times x (y ∷ []) = ap (times x) e ∙ times-append x (part v) (y ∷ []) in omega (arith, h, g)

  pub sums_front : (part : View T → List ℕ) (l : List (View T)) (i : ℕ) (v w : View T) (y x : ℕ) → get_elem? l i ≡ some v → part w ≡ y ∷ part v → sums part (set l i w) x ≡ sums part l x + times x (y ∷ [])
  sums_front part l i v w y x at e =
      let h = total_set (λ u. times x (part u)) l i v w at in
      let g : times x (part w) ≡ times x (y ∷ part v) = ap (times x) e in omega (arith, h, g)

  pub sums_fewer : (part : View T → List ℕ) (l : List (View T)) (i : ℕ) (v w : View T) (y x : ℕ) → get_elem? l i ≡ some v → part v ≡ y ∷ part w → sums part l x ≡ sums part (set l i w) x + times x (y ∷ [])
  sums_fewer part l i v w y x at e =
      let h = total_set (λ u. times x (part u)) l i v w at in
      let g : times x (part v) ≡ times x (y ∷ part w) = ap (times x) e in omega (arith, h, g)

-- totals over a list of numbers
pub total_times : (f g : ℕ → ℕ) (e : ℕ) (ps : List ℕ) → ((x : ℕ) → x ≢ e → f x ≡ g x) → f e ≡ g e + 1 → total f ps ≡ total g ps + times e ps
total_times f g e [] same one = refl
total_times f g e (p ∷ ps) same one =
    let r = total_times f g e ps same one in
    dite (ℕ_discrete p e)
    (λ q. let t = times_here e p ps q in let a : f p ≡ g p + 1 = subst (λ n. f n ≡ g n + 1) (sym q) one in omega (arith, r, t, a))
    (λ ne. let t = times_else e p ps ne in let a = same p ne in omega (arith, r, t, a))

pub total_pointwise : (f g : ℕ → ℕ) (ps : List ℕ) → ((x : ℕ) → 0 < times x ps → f x ≡ g x) → total f ps ≡ total g ps
total_pointwise f g [] same = refl
total_pointwise f g (p ∷ ps) same =
    let t = times_here p p ps refl in
    let a = same p (omega (arith, t)) in
    let r = total_pointwise f g ps (λ x h. same x (omega (arith, h))) in omega (arith, a, r)

total_few : (f : ℕ → ℕ) (ps : List ℕ) → ((x : ℕ) → f x ≤ 1) → total f ps ≤ length ps
total_few f [] le = omega arith
total_few f (p ∷ ps) le = let h = le p in let r = total_few f ps le in omega (arith, h, r)

total_each : (f : ℕ → ℕ) (ps : List ℕ) (x : ℕ) → 0 < times x ps → f x ≤ total f ps
total_each f [] x h = absurd (omega arith)
total_each f (p ∷ ps) x h = dite (ℕ_discrete p x)
    (λ q. let e : f p ≡ f x = ap f q in omega arith)
    (λ ne. let t = times_else x p ps ne in let r = total_each f ps x (omega (arith, t, h)) in omega (arith, r))

length-places : {X : Type 0} (p : X → Bool) (i : ℕ) (xs : List X) → length (places_by p i xs) ≤ length xs
length-places p i [] = omega arith
length-places {X = X} p i (x ∷ xs) = go (p x) (length-places p (i + 1) xs)
  where
    go : (b : Bool) → length (places_by p (i + 1) xs) ≤ length xs → length (cond b (i ∷ places_by p (i + 1) xs) (places_by p (i + 1) xs)) ≤ suc (length xs)
    go true h = omega (arith, h)
    go false h = omega (arith, h)

-- no more edges are unpaid than there are
pub owing_few : (paid : ℕ → ℕ) (es : List Edge) (t : ℕ) → owing paid es t ≤ count_in es t
owing_few paid es t = total_few (λ e. 1 - paid e) (places_to es t) (λ x. omega arith)

pub count_few : (es : List Edge) (t : ℕ) → count_in es t ≤ length es
count_few es t = length-places (λ edge. eqb edge.to t) 0 es

-- an unpaid edge is owed to its target
pub owing_edge : (paid : ℕ → ℕ) (es : List Edge) (e : ℕ) → e < length es → paid e ≡ 0 → 0 < owing paid es (target es e)
owing_edge paid es e lt none = let t = target_to es e lt in let h = total_each (λ x. 1 - paid x) (places_to es (target es e)) e (omega (arith, t)) in omega (arith, h, none)

-- one edge is paid: its target is owed one less
pub owing_paid : (paid paid' : ℕ → ℕ) (es : List Edge) (e : ℕ) → e < length es → paid e ≡ 0 → paid' e ≡ 1 → ((x : ℕ) → x ≢ e → paid' x ≡ paid x) → owing paid es (target es e) ≡ owing paid' es (target es e) + 1
owing_paid paid paid' es e lt none one same =
    let t = target_to es e lt in
    let h = total_times (λ x. 1 - paid x) (λ x. 1 - paid' x) e (places_to es (target es e)) (λ x ne. let s = same x ne in omega (arith, s)) (omega (arith, none, one)) in omega (arith, t, h)

-- a task that is not the target of the paid edge is owed what it was
pub owing_other : (paid paid' : ℕ → ℕ) (es : List Edge) (e t : ℕ) → t ≢ target es e → ((x : ℕ) → x ≢ e → paid' x ≡ paid x) → owing paid' es t ≡ owing paid es t
owing_other paid paid' es e t ne same = total_pointwise (λ x. 1 - paid' x) (λ x. 1 - paid x) (places_to es t)
    (λ x h. let q = (to_target es t x h).1 in let s = same x (λ is. ne (sym q ∙ ap (target es) is)) in omega (arith, s))
