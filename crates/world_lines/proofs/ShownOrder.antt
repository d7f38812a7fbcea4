-- Objects that are put into their places one after the other stand in the order in which they are shown.
use Rattle.std.proofs.Common.{◌≡◌, ◌∙◌, ap, sym, refl, ℕ, suc, ◌+◌, ◌<◌, Bool, true, false, cond, ◌&&◌, List, [], ◌∷◌, length, map, nat_lt, subst, arith, drop, get_or}
use Rattle.std.specs.Prelude.{fold, ◌==◌}
use Rattle.std.proofs.lemmas.List.{drop_more}
use Rattle.std.specs.BTreeMap.{insert_entry}
use Rattle.std.specs.Ordering.{match_ordering, nat_cmp, ordering_then}
use Rattle.std.specs.declared.cmp.Ordering.{Ordering}
use Rattle.std.specs.declared.cmp.Ordering.TheVariants.{Less, Equal, Greater}
use Rattle.chain_types.specs.declared.objects.Object.{Object}
use Rattle.protocol_spec.specs.Chain.Words.{Each}
use Rattle.world_spec.specs.Names.{rank, rank_lt, shown_among, shown_order}
use Rattle.world_spec.specs.Known.{Known, setting_with, world_with}
use Rattle.world_lines.specs.declared.shown.Place.{Place}
use Rattle.world_lines.specs.Shown.{all_shown, place_cmp, rank_as, with_shown}

-- ---- numbers

below_and_same : (a b : ℕ) → (nat_lt a b && (a == b)) ≡ false
below_and_same a b = grind arith

later_not_below : (n m : ℕ) → m < n → nat_lt n m ≡ false
later_not_below n m h = grind arith

later_not_same : (n m : ℕ) → m < n → (n == m) ≡ false
later_not_same n m h = grind arith

later : (n m : ℕ) → m < n → nat_cmp n m ≡ Greater
later n m h = ap (λ b. cond b Less (cond (n == m) Equal Greater)) (later_not_below n m h) ∙ ap (λ b. cond b Equal Greater) (later_not_same n m h)

-- ---- the order of places is that of ranks, and after those of one rank

abbrev by_tests : Bool → Bool → Ordering
by_tests below same = cond below Less (cond same Equal Greater)

-- after a place of one rank, before one of a later rank
go_before : {A : Type 0} → (bg sg bp sp bn sn : Bool) → (bg && sg) ≡ false → (bp && sp) ≡ false → (x y z : A)
    → match_ordering (ordering_then (ordering_then (ordering_then (by_tests bg sg) (by_tests bp sp)) (by_tests bn sn)) Greater) x y z ≡ cond (cond (sg && sp) bn (cond sg bp bg)) x z
go_before true true bp sp bn sn h i x y z = absurd (cc)
go_before true false bp sp bn sn h i x y z = refl
go_before false false bp sp bn sn h i x y z = refl
go_before false true true true bn sn h i x y z = absurd (cc)
go_before false true true false bn sn h i x y z = refl
go_before false true false false bn sn h i x y z = refl
go_before false true false true true sn h i x y z = refl
go_before false true false true false true h i x y z = refl
go_before false true false true false false h i x y z = refl

abbrev at : (ℕ × ℕ) × ℕ → ℕ → Place
at r n = record { rank = record { group = r.0.0; place = r.0.1; number = r.1 }; index = n }

goes : {A : Type 0} → (r : (ℕ × ℕ) × ℕ) (n : ℕ) (q : Place) → q.index < n → (x y z : A) → match_ordering (place_cmp (at r n) q) x y z ≡ cond (rank_lt r (rank_as q.rank)) x z
goes r n q before x y z =
    ap (λ o. match_ordering (ordering_then (ordering_then (ordering_then (nat_cmp r.0.0 q.rank.group) (nat_cmp r.0.1 q.rank.place)) (nat_cmp r.1 q.rank.number)) o) x y z) (later n q.index before)
    ∙ go_before (nat_lt r.0.0 q.rank.group) (r.0.0 == q.rank.group) (nat_lt r.0.1 q.rank.place) (r.0.1 == q.rank.place) (nat_lt r.1 q.rank.number) (r.1 == q.rank.number)
    (below_and_same r.0.0 q.rank.group) (below_and_same r.0.1 q.rank.place) x y z

-- ---- one more object

module _ (k : Known) where
  abbrev rank_of : Object → (ℕ × ℕ) × ℕ
  rank_of o = rank (setting_with k) (world_with k) o

  abbrev among : Object → List Object → List Object
  among o os = shown_among (setting_with k) (world_with k) o os

  abbrev object_in : Place × Object → Object
  object_in e = e.1

  -- the place is that of the object's rank, and its index is below n
  record Fits (n : ℕ) (e : Place × Object) : Type 0 where
    ranked : rank_as e.0.rank ≡ rank_of e.1
    before : e.0.index < n

  wider : (n : ℕ) (e : Place × Object) → Fits n e → Fits (suc n) e
  wider n e h = record { ranked = h.ranked; before = (let b : e.0.index < n = h.before in omega (arith, b)) }

  all_wider : (n : ℕ) (es : List (Place × Object)) → Each (Fits n) es → Each (Fits (suc n)) es
  all_wider n [] h = tt
  all_wider n (e ∷ es) h = (wider n e h.0, all_wider n es h.1)

  own : (n : ℕ) (o : Object) → Fits (suc n) (at (rank_of o) n, o)
  own n o = record { ranked = refl; before = omega arith }

  record Puts (n : ℕ) (o : Object) (es new : List (Place × Object)) : Type 0 where
    order : map object_in new ≡ among o (map object_in es)
    fit : Each (Fits (suc n)) new
    count : length new ≡ suc (length es)

  puts : (n : ℕ) (o : Object) (es : List (Place × Object)) → Each (Fits n) es → Puts n o es (insert_entry place_cmp es (at (rank_of o) n) o)
  puts n o [] h = record { order = refl; fit = (own n o, tt); count = refl }
  puts n o (e ∷ es) h =
      subst (Puts n o (e ∷ es))
      (sym (goes (rank_of o) n e.0 h.0.before ((at (rank_of o) n, o) ∷ e ∷ es) ((e.0, o) ∷ es) (e ∷ insert_entry place_cmp es (at (rank_of o) n) o)
      ∙ ap (λ r. cond (rank_lt (rank_of o) r) ((at (rank_of o) n, o) ∷ e ∷ es) (e ∷ insert_entry place_cmp es (at (rank_of o) n) o)) h.0.ranked))
      (by (rank_lt (rank_of o) (rank_of e.1)) refl (puts n o es h.1))
    where
      by : (b : Bool) → rank_lt (rank_of o) (rank_of e.1) ≡ b → Puts n o es (insert_entry place_cmp es (at (rank_of o) n) o)
          → Puts n o (e ∷ es) (cond b ((at (rank_of o) n, o) ∷ e ∷ es) (e ∷ insert_entry place_cmp es (at (rank_of o) n) o))
      by true is more = record {
        order = sym (ap (λ b. cond b (o ∷ e.1 ∷ map object_in es) (e.1 ∷ among o (map object_in es))) is);
        fit = (own n o, (wider n e h.0, all_wider n es h.1));
        count = refl;
      }
      by false is more = record {
        order = ap (λ xs. e.1 ∷ xs) more.order ∙ sym (ap (λ b. cond b (o ∷ e.1 ∷ map object_in es) (e.1 ∷ among o (map object_in es))) is);
        fit = (wider n e h.0, more.fit);
        count = ap suc more.count;
      }

  all_put : (es : List (Place × Object)) (objects : List Object) → Each (Fits (length es)) es
      → map object_in (all_shown k es objects) ≡ fold (λ (done : List Object) (o : Object). among o done) (map object_in es) objects
  all_put es [] h = refl
  all_put es (o ∷ os) h =
      let p : Puts (length es) o es (with_shown k es o) = puts (length es) o es h in
      all_put (with_shown k es o) os (subst (λ n. Each (Fits n) (with_shown k es o)) (sym p.count) p.fit)
      ∙ ap (λ xs. fold (λ (done : List Object) (x : Object). among x done) xs os) p.order

  -- all objects, from none
  pub in_order : (objects : List Object) → map (λ (e : Place × Object). e.1) (all_shown k [] objects) ≡ shown_order (setting_with k) (world_with k) objects
  in_order objects = all_put [] objects tt

  -- one step of all of them
  pub one_step : (es fs : List (Place × Object)) (objects : List Object) (i : ℕ) (d : Object) {all : List (Place × Object)} → i < length objects
      → fs ≡ with_shown k es (get_or objects i d) → all_shown k es (drop i objects) ≡ all → all_shown k fs (drop (i + 1) objects) ≡ all
  one_step es fs objects i d low step known =
      ap (λ xs. all_shown k xs (drop (i + 1) objects)) step ∙ sym (ap (all_shown k es) (drop_more objects i d low)) ∙ known
