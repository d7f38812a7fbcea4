-- Each step of a hand or a thief keeps the rule of the deck.
use Rattle.std.proofs.Common.{◌≡◌, ◌≢◌, ℕ, zero, suc, ◌+◌, ◌<◌, ◌≤◌, ◌==◌, if◌then◌else◌, true, false, true≢false, List, [], ◌∷◌, ◌++◌, length, set, sym, refl, ap, ◌∙◌, subst, ⊎_elim, append_assoc, arith, length-append, length-set, eq-eqb, ne_eqb}
use Rattle.std.proofs.lemmas.List.Sums.{sum_by-cons, sum_by_push}
use Rattle.std.specs.List.{sum_by}
use mathlib.Core.Option.{some, some-injective, some-ne-none}
use native.Mathlib.Decide.{ℕ_discrete, dec_le}
use lib.ListN.{get_elem?}
use Rattle.crossbeam_deque.specs.Tasks.{Pushes, Takes as TakesOf, Forks, Merges, Learns}
use Rattle.crossbeam_deque.proofs.Lists.{at_set, at_snoc, set_else}
use Rattle.steal_deck.specs.declared.rule.Track.{Track}
use Rattle.steal_deck.specs.Deck.{times, times_taken, StartsWith, NoneTwice, with_taken, new_hand, new_thief, Takes, IsAllTaken, Knows, InOrder}

total_set : (f : Track → ℕ) (views : List Track) (port : ℕ) (v w : Track) → get_elem? views port ≡ some v → sum_by f (set views port w) + f v ≡ sum_by f views + f w
total_set f [] port v w e = absurd (some-ne-none v (sym e))
total_set f (x ∷ xs) zero v w e = let q = ap f (some-injective x v e) in omega (arith, sum_by-cons f w xs, sum_by-cons f x xs)
total_set f (x ∷ xs) (suc port) v w e = omega (arith, total_set f xs port v w e, sum_by-cons f x (set xs port w), sum_by-cons f x xs)

below : (views : List Track) (port : ℕ) (v : Track) → get_elem? views port ≡ some v → port < length views
below [] port v e = absurd (some-ne-none v (sym e))
below (x ∷ xs) zero v e = omega arith
below (x ∷ xs) (suc port) v e = let h = below xs port v e in omega arith

-- the only party has all that was taken
lone : (f : Track → ℕ) (views : List Track) (port : ℕ) (v : Track) → length views ≡ 1 → get_elem? views port ≡ some v → sum_by f views ≡ f v
lone f [] port v n e = absurd (omega arith)
lone f (x ∷ []) zero v n e = let q = ap f (some-injective x v e) in omega (arith, sum_by-cons f x [])
lone f (x ∷ []) (suc port) v n e = absurd (some-ne-none v (sym e))
lone f (x ∷ (y ∷ ys)) port v n e = absurd (omega arith)

times-append : (p : ℕ) (xs ys : List ℕ) → times p (xs ++ ys) ≡ times p xs + times p ys
times-append p [] ys = omega arith
times-append p (x ∷ xs) ys = let h = times-append p xs ys in let c : ℕ = if x == p then 1 else 0 in let s : times p ((x ∷ xs) ++ ys) ≡ c + times p (xs ++ ys) = refl in omega arith

times-here : (p : ℕ) → times p (p ∷ []) ≡ 1
times-here p = subst (λ b. (if b then 1 else 0) + 0 ≡ 1) (sym (eq-eqb p p refl)) refl

times-else : (p q : ℕ) → q ≢ p → times p (q ∷ []) ≡ 0
times-else p q n = subst (λ b. (if b then 1 else 0) + 0 ≡ 0) (sym (ne_eqb q p n)) refl

abbrev Each : (ℕ → Track → Type 0) → List Track → Type 0
Each F views = (port : ℕ) (v : Track) → get_elem? views port ≡ some v → F port v

each_set : (F : ℕ → Track → Type 0) (views : List Track) (port : ℕ) (w : Track) → F port w → ((j : ℕ) (u : Track) → j ≢ port → get_elem? views j ≡ some u → F j u) → Each F (set views port w)
each_set F views port w mine others j u e = ⊎_elim (λ (x : (j ≡ port) × (w ≡ u)). subst (λ (y : ℕ × Track). F y.0 y.1) (λ i. (sym x.0 i, x.1 i)) mine)
    (λ (x : (j ≢ port) × (get_elem? views j ≡ some u)). others j u x.0 x.1) (at_set views port j w u e)

further : (v all : List ℕ) (more : List ℕ) → StartsWith v all → StartsWith v (all ++ more)
further v all more s = (s.0 ++ more, ap (λ l. l ++ more) s.1 ∙ append_assoc v s.0 more)

pub begins : InOrder [] (new_hand ∷ [])
begins = record {
  hand = 0;
  gone = [];
  each = each_first;
  once = λ p h. absurd (omega arith);
  not_yet = λ p h. refl;
}
  where
    each_first : (port : ℕ) (v : Track) → get_elem? (new_hand ∷ []) port ≡ some v → Knows 0 [] 0 1 port v
    each_first zero v e = subst (Knows 0 [] 0 1 0) (some-injective new_hand v e) (record { owner = λ _. (refl, refl); alone = λ _. refl; seen = ([], refl); taken = λ p h. absurd (omega (arith, h)) })
    each_first (suc port) v e = absurd (some-ne-none v (sym e))

pub pushes : (port : ℕ) (v : Track) (xs : List ℕ) → v.owner ≡ true → Pushes InOrder port v xs (λ w. w ≡ record v { pushed = v.pushed ++ xs })
pushes port v xs owns items views h at =
    let w : Track = record v { pushed = v.pushed ++ xs } in
    let mine = h.each port v at in
    let same : h.gone ++ (items ++ xs) ≡ (h.gone ++ items) ++ xs = sym (append_assoc h.gone items xs) in
    let len : length (set views port w) ≡ length views = length-set views port w in
    let F : ℕ → Track → Type 0 = λ j u. Knows h.hand (h.gone ++ (items ++ xs)) (length h.gone) (length (set views port w)) j u in (
      w,
      record {
        hand = h.hand;
        gone = h.gone;
        each = each_set F views port w
            (record { owner = λ _. ((mine.owner owns).0, ap (λ l. l ++ xs) (mine.owner owns).1 ∙ sym same); alone = λ a. len ∙ mine.alone a; seen = subst (StartsWith v.seen) (sym same) (further v.seen (h.gone ++ items) xs mine.seen); taken = mine.taken })
            (λ j u other e. let k = h.each j u e in record { owner = λ o. absurd (other ((k.owner o).0 ∙ sym (mine.owner owns).0)); alone = λ a. len ∙ k.alone a; seen = subst (StartsWith u.seen) (sym same) (further u.seen (h.gone ++ items) xs k.seen); taken = k.taken });
        once = λ p lt. omega (arith, total_set (λ u. times p u.taken) views port v w at, h.once p lt);
        not_yet = λ p le. omega (arith, total_set (λ u. times p u.taken) views port v w at, h.not_yet p le);
      },
      refl,
    )

one_of : (xs : List ℕ) → 0 < length xs → length xs < 2 → length xs ≡ 1
one_of xs a b = omega arith

-- the place of the first item in the deck is the number of those that left
pub takes : (port : ℕ) (v : Track) → TakesOf InOrder port v 1 (Takes v)
takes port v xs items views pos few h at =
    let n : ℕ = length h.gone in
    let w : Track = record v { seen = h.gone ++ xs; taken = v.taken ++ n ∷ [] } in
    let mine = h.each port v at in
    let same : (h.gone ++ xs) ++ items ≡ h.gone ++ (xs ++ items) = append_assoc h.gone xs items in
    let len : length (set views port w) ≡ length views = length-set views port w in
    let size : length (h.gone ++ xs) ≡ n + 1 = omega (arith, length-append h.gone xs, one_of xs pos few) in
    let F : ℕ → Track → Type 0 = λ j u. Knows h.hand ((h.gone ++ xs) ++ items) (length (h.gone ++ xs)) (length (set views port w)) j u in
    let begun : StartsWith (h.gone ++ xs) (h.gone ++ (xs ++ items)) = (items, sym same) in (
      w,
      record {
        hand = h.hand;
        gone = h.gone ++ xs;
        each = each_set F views port w
            (record {
              owner = λ o. ((mine.owner o).0, (mine.owner o).1 ∙ sym same);
              alone = λ a. len ∙ mine.alone a;
              seen = (items, refl);
              taken = λ p t. elim (ℕ_discrete n p) [
                | yes e ↦ omega arith
                | no e ↦ let old = mine.taken p (omega (arith, times-append p v.taken (n ∷ []), times-else p n e, t)) in omega arith
              ];
            })
            (λ j u other e. let k = h.each j u e in record {
              owner = λ o. ((k.owner o).0, (k.owner o).1 ∙ sym same);
              alone = λ a. len ∙ k.alone a;
              seen = subst (StartsWith u.seen) (sym same) k.seen;
              taken = λ p t. let old = k.taken p t in omega arith;
            });
        once = λ p lt. let tot = total_set (λ u. times p u.taken) views port v w at in let app = times-append p v.taken (n ∷ []) in elim (ℕ_discrete n p) [
          | yes e ↦ let here : times p (n ∷ []) ≡ 1 = subst (λ q. times p (q ∷ []) ≡ 1) (sym e) (times-here p) in omega (arith, tot, app, here, h.not_yet p (omega arith))
          | no e ↦ omega (arith, tot, app, times-else p n e, h.once p (omega arith))
        ];
        not_yet = λ p le. let ne : n ≢ p = omega arith in omega (arith, total_set (λ u. times p u.taken) views port v w at, times-append p v.taken (n ∷ []), times-else p n ne, h.not_yet p (omega arith));
      },
      record {
        place = n;
        before = h.gone;
        here = refl;
        later = λ p t. mine.taken p t;
        pushed = λ o. subst (StartsWith (h.gone ++ xs)) (sym (mine.owner o).1) begun;
        after = refl;
      },
    )

pub finds : (port : ℕ) (v : Track) (items : List ℕ) (views : List Track) → length items ≤ 0 → InOrder items views → get_elem? views port ≡ some v → IsAllTaken v
finds port v items views none h at alone owns p lt =
    let mine = h.each port v at in
    let size = ap length (mine.owner owns).1 in
    let few : p < length h.gone = omega (arith, size, length-append h.gone items) in
    omega (arith, h.once p few, lone (λ u. times p u.taken) views port v (mine.alone alone) at)

pub forks : (port : ℕ) (v : Track) → Forks InOrder port v (record v { alone = false }) new_thief
forks port v items views h at =
    let l : Track = record v { alone = false } in
    let mine = h.each port v at in
    let vs : List Track = set views port l in
    let all : List Track = vs ++ new_thief ∷ [] in
    let F : ℕ → Track → Type 0 = λ j u. Knows h.hand (h.gone ++ items) (length h.gone) (length all) j u in
    let old : Each F vs = each_set F views port l
    (record { owner = mine.owner; alone = λ a. absurd (true≢false (sym a)); seen = mine.seen; taken = mine.taken })
    (λ j u other e. let k = h.each j u e in record { owner = k.owner; alone = λ a. absurd (other (omega (arith, k.alone a, below views j u e, below views port v at))); seen = k.seen; taken = k.taken }) in
    let same : (p : ℕ) → times_taken p all ≡ times_taken p views = λ p. omega (arith, total_set (λ u. times p u.taken) views port v l at, sum_by_push (λ u. times p u.taken) vs new_thief) in
    record {
      hand = h.hand;
      gone = h.gone;
      each = λ j u e. ⊎_elim (old j u) (λ (is : new_thief ≡ u). subst (F j) is (record { owner = λ o. absurd (true≢false (sym o)); alone = λ a. absurd (true≢false (sym a)); seen = (h.gone ++ items, refl); taken = λ p t. absurd (omega (arith, t)) })) (at_snoc vs new_thief u j e);
      once = λ p lt. same p ∙ h.once p lt;
      not_yet = λ p le. same p ∙ h.not_yet p le;
    }

pub merges : (port : ℕ) (v : Track) (other : ℕ) (u : Track) → Merges InOrder port v other u (with_taken v u.taken) new_thief
merges port v other u items views h at two at' =
    let both : Track = with_taken v u.taken in
    let mine = h.each port v at in
    let vs : List Track = set views port both in
    let was : get_elem? views other ≡ some u = sym (set_else views port other both two) ∙ at' in
    let theirs = h.each other u was in
    let all : List Track = set vs other new_thief in
    let len : length all ≡ length views = length-set vs other new_thief ∙ length-set views port both in
    let F : ℕ → Track → Type 0 = λ j y. Knows h.hand (h.gone ++ items) (length h.gone) (length all) j y in
    let now : Each F vs = each_set F views port both
    (record {
      owner = mine.owner;
      alone = λ a. len ∙ mine.alone a;
      seen = mine.seen;
      taken = λ p t. either_below p (mine.taken p) (theirs.taken p) (omega (arith, times-append p v.taken u.taken, t));
    })
    (λ j y apart e. let k = h.each j y e in record { owner = k.owner; alone = λ a. len ∙ k.alone a; seen = k.seen; taken = k.taken }) in
    let same : (p : ℕ) → times_taken p all ≡ times_taken p views = λ p. omega (arith, total_set (λ y. times p y.taken) views port v both at, total_set (λ y. times p y.taken) vs other u new_thief at', times-append p v.taken u.taken) in
    record {
      hand = h.hand;
      gone = h.gone;
      each = each_set F vs other new_thief (record { owner = λ o. absurd (true≢false (sym o)); alone = λ a. absurd (true≢false (sym a)); seen = (h.gone ++ items, refl); taken = λ p t. absurd (omega (arith, t)) }) (λ j y apart e. now j y e);
      once = λ p lt. same p ∙ h.once p lt;
      not_yet = λ p le. same p ∙ h.not_yet p le;
    }
  where
    either_below : (p : ℕ) {n : ℕ} → (0 < times p v.taken → p < n) → (0 < times p u.taken → p < n) → 0 < times p v.taken + times p u.taken → p < n
    either_below p a b t = elim (ℕ_discrete (times p v.taken) 0) [ yes z ↦ b (omega arith) | no z ↦ a (omega arith) ]

at_most : (f : Track → ℕ) (views : List Track) (port : ℕ) (v : Track) → get_elem? views port ≡ some v → f v ≤ sum_by f views
at_most f [] port v e = absurd (some-ne-none v (sym e))
at_most f (x ∷ xs) zero v e = let q = ap f (some-injective x v e) in omega (arith, sum_by-cons f x xs)
at_most f (x ∷ xs) (suc port) v e = omega (arith, at_most f xs port v e, sum_by-cons f x xs)

pub learns : (port : ℕ) (v : Track) → Learns InOrder port v (λ items. NoneTwice v.taken)
learns port v items views h at p = elim (dec_le (length h.gone) p) [
  | yes le ↦ omega (arith, h.not_yet p le, at_most (λ u. times p u.taken) views port v at)
  | no gt ↦ omega (arith, h.once p (omega arith), at_most (λ u. times p u.taken) views port v at)
]
