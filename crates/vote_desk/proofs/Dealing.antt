-- What callers have made of their requests, as calls are added, seen further and joined.
use Rattle.std.proofs.Common.{◌≡◌, ℕ, zero, suc, ◌+◌, ◌<◌, ◌≤◌, ◌%◌, Bool, true, false, cond, eqb, List, [], ◌∷◌, ◌++◌, length, Some, sym, refl, ap, ◌∙◌, subst, eq-eqb, ne_eqb, arith}
use Rattle.std.specs.Prelude.{slice_get, nat_lt}
use Rattle.std.proofs.Math.Nat.{mod-lt}
use Rattle.std.proofs.lemmas.Bool.Decides.{nat_tests}
use mathlib.Core.Logic.{dite, ◌⊎◌, ⊎_elim}
use native.Mathlib.Decide.{ℕ_discrete}
use Rattle.vote_desk.specs.Counts.{times, merged}
use Rattle.vote_desk.specs.Histories.{IsFront}
use Rattle.vote_desk.specs.Dealt.{AreMadeBy, HaveMade, IsDue}
use Rattle.vote_desk.proofs.Counts.{times-append, times-merged, times_here, times_else}
use Rattle.vote_desk.proofs.Fronts.{front_length}

below_from : (r k : ℕ) → nat_lt r k ≡ true → r < k
below_from r k is = grind (arith, nat_tests)

above_from : (r k : ℕ) → nat_lt r k ≡ false → k ≤ r
above_from r k is = grind (arith, nat_tests)

is_below : (r k : ℕ) → r < k → nat_lt r k ≡ true
is_below r k lt = grind (arith, nat_tests)

is_above : (r k : ℕ) → k ≤ r → nat_lt r k ≡ false
is_above r k le = grind (arith, nat_tests)

module _ {A : Type 0} where
  -- what stands at a place, in a list that goes on
  get_front : (xs ys : List A) (i : ℕ) → i < length xs → slice_get (xs ++ ys) i ≡ slice_get xs i
  get_front [] ys i lt = absurd (omega (arith, lt))
  get_front (x ∷ xs) ys zero lt = refl
  get_front (x ∷ xs) ys (suc i) lt = get_front xs ys i (omega (arith, lt))

  get_last : (xs : List A) (x : A) → slice_get (xs ++ x ∷ []) (length xs) ≡ Some x
  get_last [] x = refl
  get_last (y ∷ xs) x = get_last xs x

  get_further : (xs ys : List A) (i : ℕ) → IsFront xs ys → i < length xs → slice_get ys i ≡ slice_get xs i
  get_further xs ys i p lt = ap (λ l. slice_get l i) p.1 ∙ get_front xs p.0 i lt

  module _ (callers : ℕ) (requests : List A) where
    -- nothing is due
    pub made_none : (Due : ℕ → Type 0) (seen : List A) → ((i : ℕ) → Due i → ⊥) → HaveMade Due callers requests seen []
    made_none Due seen none = record {
      at = λ i. i;
      stands = λ i d. absurd (none i d);
      own = λ i d. absurd (none i d);
      apart = λ i j d e s. absurd (none i d);
      each = λ place h. absurd (omega (arith, h));
      order = λ i j lt d e s. absurd (none i d);
    }

    -- requests were made still if the same ones are due under another description
    pub made_same : (Due Now : ℕ → Type 0) (seen : List A) (mine : List ℕ) → ((i : ℕ) → Due i → Now i) → ((i : ℕ) → Now i → Due i) → HaveMade Due callers requests seen mine → HaveMade Now callers requests seen mine
    made_same Due Now seen mine to from m = record {
      at = m.at;
      stands = λ i d. m.stands i (from i d);
      own = λ i d. m.own i (from i d);
      apart = λ i j d e s. m.apart i j (from i d) (from j e) s;
      each = λ place h. let e = m.each place h in (e.0, to e.0 e.1, e.2);
      order = λ i j lt d e s. m.order i j lt (from i d) (from j e) s;
    }

    -- more was seen
    pub made_further : (Due : ℕ → Type 0) (seen more : List A) (mine : List ℕ) → ((place : ℕ) → 0 < times place mine → place < length seen) → IsFront seen more → HaveMade Due callers requests seen mine → HaveMade Due callers requests more mine
    made_further Due seen more mine below front m = record {
      at = m.at;
      stands = λ i d. get_further seen more (m.at i) front (below (m.at i) (m.own i d)) ∙ m.stands i d;
      own = m.own;
      apart = m.apart;
      each = m.each;
      order = m.order;
    }

    -- one more was made
    module _ (Due Now : ℕ → Type 0) (n : ℕ) (seen before : List A) (x : A) (mine : List ℕ) (below : (place : ℕ) → 0 < times place mine → place < length seen) (front : IsFront seen before) (is : slice_get requests n ≡ Some x)
        (early : (i : ℕ) → Due i → i < n) (here : Now n) (still : (i : ℕ) → Due i → Now i) (split : (i : ℕ) → Now i → (Due i) ⊎ (i ≡ n)) (m : HaveMade Due callers requests seen mine) where
      abbrev place_of : ℕ → ℕ
      place_of i = cond (eqb i n) (length before) (m.at i)

      new_at : (i : ℕ) → i ≡ n → place_of i ≡ length before
      new_at i e = ap (λ b. cond b (length before) (m.at i)) (eq-eqb i n e)

      old_at : (i : ℕ) → Due i → place_of i ≡ m.at i
      old_at i d = ap (λ b. cond b (length before) (m.at i)) (ne_eqb i n (λ e. let l = early i d in omega (arith, l, e)))

      old_low : (i : ℕ) → Due i → place_of i < length before
      old_low i d = let b = below (m.at i) (m.own i d) in let f = front_length seen before front in let o = old_at i d in omega (arith, b, f, o)

      times_new : (place : ℕ) → times place (mine ++ length before ∷ []) ≡ times place mine + times place (length before ∷ [])
      times_new place = times-append place mine (length before ∷ [])

      pub made_push : HaveMade Now callers requests (before ++ x ∷ []) (mine ++ length before ∷ [])
      made_push = record {
        at = place_of;
        stands = λ i now. ⊎_elim
            (λ d. let low = old_low i d in ap (slice_get (before ++ x ∷ [])) (old_at i d) ∙ get_front before (x ∷ []) (m.at i) (subst (λ p. p < length before) (old_at i d) low) ∙ get_further seen before (m.at i) front (below (m.at i) (m.own i d)) ∙ m.stands i d)
            (λ e. ap (slice_get (before ++ x ∷ [])) (new_at i e) ∙ get_last before x ∙ sym is ∙ ap (slice_get requests) (sym e))
            (split i now);
        own = λ i now. ⊎_elim
            (λ d. let t = times_new (m.at i) in let o = m.own i d in subst (λ p. 0 < times p (mine ++ length before ∷ [])) (sym (old_at i d)) (omega (arith, t, o)))
            (λ e. let t = times_new (length before) in let h = times_here (length before) (length before) [] refl in subst (λ p. 0 < times p (mine ++ length before ∷ [])) (sym (new_at i e)) (omega (arith, t, h)))
            (split i now);
        apart = λ i j now also same. ⊎_elim
            (λ d. ⊎_elim (λ e. m.apart i j d e (sym (old_at i d) ∙ same ∙ old_at j e)) (λ e. absurd (let l = old_low i d in let p = new_at j e in omega (arith, l, p, same))) (split j also))
            (λ d. ⊎_elim (λ e. absurd (let l = old_low j e in let p = new_at i d in omega (arith, l, p, same))) (λ e. d ∙ sym e) (split j also))
            (split i now);
        each = λ place h. dite (ℕ_discrete (times place mine) 0)
            (λ z. dite (ℕ_discrete (length before) place)
            (λ e. (n, here, new_at n refl ∙ e))
            (λ ne. absurd (let t = times_new place in let o = times_else place (length before) [] ne in omega (arith, t, o, z, h))))
            (λ nz. let e = m.each place (omega (arith, nz)) in (e.0, still e.0 e.1, old_at e.0 e.1 ∙ e.2));
        order = λ i j lt now also same. ⊎_elim
            (λ d. ⊎_elim (λ e. let o = m.order i j lt d e same in let p = old_at i d in let q = old_at j e in omega (arith, o, p, q)) (λ e. let l = old_low i d in let p = new_at j e in omega (arith, l, p)) (split j also))
            (λ d. ⊎_elim (λ e. absurd (let l = early j e in omega (arith, l, d, lt))) (λ e. absurd (omega (arith, d, e, lt))) (split j also))
            (split i now);
      }

    -- two have made theirs, and no place is that of both
    module _ (k n : ℕ) (seen : List A) (one other : List ℕ) (alone : (place : ℕ) → times place one + times place other ≤ 1)
        (a : HaveMade (IsDue callers 0 k n) callers requests seen one) (b : HaveMade (IsDue callers k (k + 1) n) callers requests seen other) where
      abbrev chosen : Bool → ℕ → ℕ
      chosen c i = cond c (a.at i) (b.at i)

      abbrev is_low : ℕ → Bool
      is_low i = nat_lt (i % callers) k

      abbrev side_of : ℕ → ℕ
      side_of i = chosen (is_low i) i

      low : (i : ℕ) → IsDue callers 0 (k + 1) n i → is_low i ≡ true → IsDue callers 0 k n i
      low i d is = record { before = d.before; from = d.from; to = below_from (i % callers) k is }

      high : (i : ℕ) → IsDue callers 0 (k + 1) n i → is_low i ≡ false → IsDue callers k (k + 1) n i
      high i d is = record { before = d.before; from = above_from (i % callers) k is; to = d.to }

      from_low : (i : ℕ) → IsDue callers 0 k n i → IsDue callers 0 (k + 1) n i × (is_low i ≡ true)
      from_low i d = let lt = d.to in (record { before = d.before; from = d.from; to = omega (arith, lt) }, is_below (i % callers) k lt)

      from_high : (i : ℕ) → IsDue callers k (k + 1) n i → IsDue callers 0 (k + 1) n i × (is_low i ≡ false)
      from_high i d = (record { before = d.before; from = omega arith; to = d.to }, is_above (i % callers) k d.from)

      -- what holds of each that is due, if it holds of both sides
      by_side : (P : ℕ → ℕ → Type 0) → ((i : ℕ) → IsDue callers 0 k n i → P i (a.at i)) → ((i : ℕ) → IsDue callers k (k + 1) n i → P i (b.at i)) → (i : ℕ) → IsDue callers 0 (k + 1) n i → P i (side_of i)
      by_side P f g i d = go (is_low i) refl
        where
          go : (c : Bool) → is_low i ≡ c → P i (chosen c i)
          go true is = f i (low i d is)
          go false is = g i (high i d is)

      both_times : (place : ℕ) → times place (merged one other) ≡ times place one + times place other
      both_times place = times-merged place one other

      apart_by : (i j : ℕ) → IsDue callers 0 (k + 1) n i → IsDue callers 0 (k + 1) n j → (c e : Bool) → is_low i ≡ c → is_low j ≡ e → chosen c i ≡ chosen e j → i ≡ j
      apart_by i j d h true true p q same = a.apart i j (low i d p) (low j h q) same
      apart_by i j d h true false p q same = absurd (let x = a.own i (low i d p) in let y = subst (λ t. 0 < times t other) (sym same) (b.own j (high j h q)) in let z = alone (a.at i) in omega (arith, x, y, z))
      apart_by i j d h false true p q same = absurd (let x = b.own i (high i d p) in let y = subst (λ t. 0 < times t one) (sym same) (a.own j (low j h q)) in let z = alone (b.at i) in omega (arith, x, y, z))
      apart_by i j d h false false p q same = b.apart i j (high i d p) (high j h q) same

      order_by : (i j : ℕ) → i < j → IsDue callers 0 (k + 1) n i → IsDue callers 0 (k + 1) n j → i % callers ≡ j % callers → (c : Bool) → is_low i ≡ c → is_low j ≡ c → chosen c i < chosen c j
      order_by i j lt d h same true p q = a.order i j lt (low i d p) (low j h q) same
      order_by i j lt d h same false p q = b.order i j lt (high i d p) (high j h q) same

      pub made_both : HaveMade (IsDue callers 0 (k + 1) n) callers requests seen (merged one other)
      made_both = record {
        at = side_of;
        stands = by_side (λ i p. slice_get seen p ≡ slice_get requests i) a.stands b.stands;
        own = by_side (λ i p. 0 < times p (merged one other)) (λ i d. let o = a.own i d in let t = both_times (a.at i) in omega (arith, o, t)) (λ i d. let o = b.own i d in let t = both_times (b.at i) in omega (arith, o, t));
        apart = λ i j d h same. apart_by i j d h (is_low i) (is_low j) refl refl same;
        each = λ place h. dite (ℕ_discrete (times place one) 0)
            (λ z. let e = b.each place (let t = both_times place in omega (arith, t, z, h)) in let f = from_high e.0 e.1 in (e.0, f.0, ap (λ c. chosen c e.0) f.1 ∙ e.2))
            (λ nz. let e = a.each place (omega (arith, nz)) in let f = from_low e.0 e.1 in (e.0, f.0, ap (λ c. chosen c e.0) f.1 ∙ e.2));
        order = λ i j lt d h same. subst (λ (c : Bool). side_of i < chosen c j) (ap (λ r. nat_lt r k) same) (order_by i j lt d h same (is_low i) refl (sym (ap (λ r. nat_lt r k) same)));
      }

    -- all have made theirs, and the calls are all own
    pub made_all : (seen calls : List A) (mine : List ℕ) → 0 < callers → ((place : ℕ) → 0 < times place mine → place < length seen) → IsFront seen calls → ((place : ℕ) → place < length calls → times place mine ≡ 1)
        → HaveMade (IsDue callers 0 callers (length requests)) callers requests seen mine → AreMadeBy callers requests calls
    made_all seen calls mine some below front all m = record {
      at = m.at;
      stands = λ i lt. get_further seen calls (m.at i) front (below (m.at i) (m.own i (due i lt))) ∙ m.stands i (due i lt);
      apart = λ i j lt also same. m.apart i j (due i lt) (due j also) same;
      each = λ place lt. let one = all place lt in let e = m.each place (omega (arith, one)) in (e.0, e.1.before, e.2);
      order = λ i j lt also same. m.order i j lt (due i (omega (arith, lt, also))) (due j also) same;
    }
      where
        due : (i : ℕ) → i < length requests → IsDue callers 0 callers (length requests) i
        due i lt = record { before = lt; from = omega arith; to = mod-lt i some }
