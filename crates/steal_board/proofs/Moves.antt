-- Each step keeps the board rule, and reports to its caller what it must.
use Rattle.std.proofs.Common.{◌≡◌, ◌≢◌, ℕ, zero, suc, ◌+◌, ◌-◌, ◌%◌, ◌^◌, ◌<◌, ◌≤◌, Bool, true, false, cond, eqb, List, [], ◌∷◌, ◌++◌, map, drop, length, set, get_or, replicate, Option, Some, None, sym, refl, ap, ◌∙◌, subst, ⊎_elim, eq-eqb, ne_eqb, length-set, arith}
use mathlib.Core.Logic.{dite}
use mathlib.Core.Option.{some, none, some-injective, some-ne-none}
use mathlib.Core.Option as Maybe
use native.Mathlib.Decide.{ℕ_discrete, dec_lt}
use lib.ListN.{get_elem?}
use prog.Atomic.{either}
use Rattle.std.proofs.lemmas.List.{set-get_or}
use Rattle.atomic_table.specs.Table.{State, Me, step, Act, keeps, takes, gives, Allows, Splits, Joins, opening, Final, Seen, stepped, Valid, carried_after}
use Rattle.atomic_table.proofs.Lists.{at_set, at_snoc, set_else}
use Rattle.dag_core.specs.declared.plan.Edge.{Edge}
use Rattle.dag_core.specs.Places.{times}
use Rattle.dag_core.specs.Values.{source, target, places_to, count_in, value_of}
use Rattle.dag_core.proofs.Places.{times-append, times_here}
use Rattle.steal_board.specs.declared.view.Paper.{Paper}
use Rattle.steal_board.specs.declared.view.View.{View}
use Rattle.steal_board.specs.Views.{whole, mark, seat_view, with_share, with_mine, with_gone, with_ready, with_taken, turning, settling, joined, spent}
use Rattle.steal_board.specs.Rule.{total, sums, owing, IsFit, Agrees, Held}
use Rattle.steal_board.specs.Steps.{ClaimsWhole, Claims, Turns, Pays, Takes, Returns}
use Rattle.steal_board.proofs.Counts.{total_set, total_same, total_push, total_one, total_plus, total_below, total_alone, sums_same, sums_grown, sums_front, sums_fewer, owing_few, owing_edge}
use Rattle.steal_board.proofs.Agreeing.{unclaimed, is_claimed, won_agrees, lost_agrees, turned_agrees, taken_agrees, returned_agrees, paid_agrees, target_owed}
use Rattle.steal_board.proofs.Fitting.{fit_mine, fit_gone, fit_ready, fit_share, fit_turning, fit_taken, fit_settling, fit_joined, fit_new, fit_spent}

-- words and slots agree with other counts that are equal to these
agrees_at : {T : Type 0} (p : Paper T) (ws : List ℕ) (hs : List (Maybe.Option (Option T))) (M U P K R G M' U' P' K' R' G' : ℕ → ℕ) → M' ≡ M → U' ≡ U → P' ≡ P → K' ≡ K → R' ≡ R → G' ≡ G → Agrees p ws hs M U P K R G → Agrees p ws hs M' U' P' K' R' G'
agrees_at p ws hs M U P K R G M' U' P' K' R' G' m u q k r g =
    subst (λ (F : (ℕ → ℕ) × (ℕ → ℕ) × (ℕ → ℕ) × (ℕ → ℕ) × (ℕ → ℕ) × (ℕ → ℕ)). Agrees p ws hs F.0 F.1 F.2 F.3 F.4 F.5) (λ i. (sym m i, sym u i, sym q i, sym k i, sym r i, sym g i))

-- one less, as a subtraction that wraps has it
below : (n : ℕ) → 0 < n → n < 18446744073709551616 → (n + (2 ^ 64 - 1)) % 2 ^ 64 ≡ n - 1
below n some_left small = omega arith

-- a word that is read stays
words_same : {T : Type 0} (p : Paper T) (ws : List ℕ) (hs : List (Maybe.Option (Option T))) (M U P K R G : ℕ → ℕ) (t : ℕ) → Agrees p ws hs M U P K R G → Agrees p (set ws t (get_or ws t 0)) hs M U P K R G
words_same p ws hs M U P K R G t = subst (λ l. Agrees p l hs M U P K R G) (sym (set-get_or ws t 0))

module _ {T : Type 0} where
  views_stay : (p : Paper T) (l : List (View T)) (i : ℕ) (w : View T) → ((j : ℕ) (u : View T) → get_elem? l j ≡ some u → IsFit p u) → IsFit p w → (j : ℕ) (u : View T) → get_elem? (set l i w) j ≡ some u → IsFit p u
  views_stay p l i w each fit j u at = ⊎_elim (λ t. subst (IsFit p) t.1 fit) (λ t. each j u t.1) (at_set l i j w u at)

  -- the rule after a step, from agreement after it
  moved : (p : Paper T) (s : State (Option T) (View T)) (i : ℕ) (v w : View T) (ws : List ℕ) (hs : List (Maybe.Option (Option T))) → Held p s → get_elem? s.views i ≡ some v → w.share ≡ v.share → IsFit p w → length ws ≡ length s.words
      → Agrees p ws hs (sums (λ u. u.mine) (set s.views i w)) (sums (λ u. u.turn) (set s.views i w)) (sums (λ u. u.paid) (set s.views i w)) (sums (λ u. u.taken) (set s.views i w)) (sums (λ u. u.ready) (set s.views i w)) (sums (λ u. u.gone) (set s.views i w))
      → Held p record { words = ws; homes = hs; views = set s.views i w }
  moved p s i v w ws hs h at same fit len agrees = record {
    wide = let a = h.wide in omega (arith, len, a);
    few = h.few;
    shares = total_same (λ u. u.share) s.views i v w at same ∙ h.shares;
    each = views_stay p s.views i w h.each fit;
    agrees = agrees;
  }

  -- the seat with the whole share has in its lists all that is counted
  alone : (p : Paper T) (s : State (Option T) (View T)) (i : ℕ) (v : View T) → Held p s → get_elem? s.views i ≡ some v → v.share ≡ whole → (part : View T → List ℕ)
      → ((u : View T) (x : ℕ) → times x (part u) ≤ times x u.mine + times x u.turn + times x u.paid + times x u.taken + times x u.ready + times x u.gone) → (x : ℕ) → sums part s.views x ≡ times x (part v)
  alone p s i v h at all part among x = total_alone (λ u. u.share) (λ u. times x (part u)) s.views i v at (h.shares ∙ sym all)
      (λ j u at' z. let idle = (h.each j u at').idle z x in let a = among u x in omega (arith, idle, a))

  alone_mine : (p : Paper T) (s : State (Option T) (View T)) (i : ℕ) (v : View T) → Held p s → get_elem? s.views i ≡ some v → v.share ≡ whole → (x : ℕ) → sums (λ u. u.mine) s.views x ≡ times x v.mine
  alone_mine p s i v h at all x = alone p s i v h at all (λ u. u.mine) (λ u y. omega arith) x

  alone_paid : (p : Paper T) (s : State (Option T) (View T)) (i : ℕ) (v : View T) → Held p s → get_elem? s.views i ≡ some v → v.share ≡ whole → (x : ℕ) → sums (λ u. u.paid) s.views x ≡ times x v.paid
  alone_paid p s i v h at all x = alone p s i v h at all (λ u. u.paid) (λ u y. omega arith) x

  alone_owing : (p : Paper T) (s : State (Option T) (View T)) (i : ℕ) (v : View T) → Held p s → get_elem? s.views i ≡ some v → v.share ≡ whole → (t : ℕ) → owing (sums (λ u. u.paid) s.views) p.edges t ≡ owing (λ e. times e v.paid) p.edges t
  alone_owing p s i v h at all t = ap (λ (F : ℕ → ℕ). owing F p.edges t) (λ k x. alone_paid p s i v h at all x k)

  claims_whole : (v : View T) (s : State (Option T) (View T)) (i t : ℕ) → Held v.paper s → get_elem? s.views i ≡ some v → v.share ≡ whole → t < v.paper.tasks → ClaimsWhole v t (get_or s.words t 0)
  claims_whole v s i t h at all lt = record {
    won = λ z.
        let m = unclaimed v.paper s.words s.homes _ _ _ _ _ _ h.wide h.few h.agrees t lt (λ q. omega (arith, q, z)) in
        let a = alone_mine v.paper s i v h at all t in
        let g = alone v.paper s i v h at all (λ u. u.gone) (λ u y. omega arith) t in
        let r = alone v.paper s i v h at all (λ u. u.ready) (λ u y. omega arith) t in
        let owed = h.agrees.free t lt m in (
          omega (arith, m, a),
          dite (ℕ_discrete (times t v.gone) 0) (λ n. n) (λ n. absurd (let c = h.agrees.gone_claimed t (omega (arith, g, n)) in omega (arith, c, m))),
          λ some_in. let told = h.agrees.told t some_in (sym owed ∙ z) in omega (arith, r, told),
        );
    lost = λ q. let m = is_claimed v.paper s.words s.homes _ _ _ _ _ _ h.wide h.few h.agrees t lt q in let a = alone_mine v.paper s i v h at all t in omega (arith, m, a);
    early = λ nz nm. h.agrees.free t lt (unclaimed v.paper s.words s.homes _ _ _ _ _ _ h.wide h.few h.agrees t lt nm) ∙ alone_owing v.paper s i v h at all t;
    once = λ x. let a = alone_mine v.paper s i v h at all x in let o = h.agrees.once x in (omega (arith, a, o), λ le. let z = h.agrees.inside x le in omega (arith, a, z));
  }

  -- after a claim's step, which leaves the number k in the word
  abbrev Claimed : State (Option T) (View T) → ℕ → Me (Option T) (View T) → ℕ → ℕ → ℕ → Type 0
  Claimed s i me t slots k = (w : View T) × (a : Act (Option T)) × Valid s.homes me.1 a × Held me.0.paper (stepped s t k i me.1 w a) × Claims (step slots t 0 mark none) me (get_or s.words t 0) (w, carried_after me.1 a)

  claim_won : (slots i : ℕ) (me : Me (Option T) (View T)) (t : ℕ) → 0 < me.0.share → t < me.0.paper.tasks → (s : State (Option T) (View T)) → Held me.0.paper s → get_elem? s.views i ≡ some me.0
      → get_or s.words t 0 ≡ 0 → Claimed s i me t slots mark
  claim_won slots i me t has lt s h at z =
      let v = me.0 in
      let w = with_mine v t in
      let grown : (x : ℕ) → sums (λ u. u.mine) (set s.views i w) x ≡ sums (λ u. u.mine) s.views x + times x (t ∷ []) = λ x. sums_grown (λ u. u.mine) s.views i v w t x at refl in
      let m = unclaimed v.paper s.words s.homes _ _ _ _ _ _ h.wide h.few h.agrees t lt (λ q. omega (arith, q, z)) in
      let mine = total_one (λ u. times t u.mine) s.views i v at in (
        w,
        keeps,
        tt,
        moved v.paper s i v w (set s.words t mark) s.homes h at refl (fit_mine v has (h.each i v at) t) (length-set s.words t mark)
            (agrees_at v.paper (set s.words t mark) s.homes _ _ _ _ _ _ _ _ _ _ _ _ refl (sums_same (λ u. u.turn) s.views i v w at refl) (sums_same (λ u. u.paid) s.views i v w at refl) (sums_same (λ u. u.taken) s.views i v w at refl)
            (sums_same (λ u. u.ready) s.views i v w at refl) (sums_same (λ u. u.gone) s.views i v w at refl)
            (won_agrees v.paper s.words s.homes _ _ _ _ _ _ h.wide h.few h.agrees (sums (λ u. u.mine) (set s.views i w)) t lt z grown)),
        record {
          won = λ q. (refl, omega (arith, m, mine));
          lost = λ q. absurd (omega (arith, q, z));
          early = λ nz nm. absurd (nz z);
          held = refl;
          all = λ whole_share. claims_whole v s i t h at whole_share lt;
        },
      )

  claim_lost : (slots i : ℕ) (me : Me (Option T) (View T)) (t : ℕ) → 0 < me.0.share → t < me.0.paper.tasks → (s : State (Option T) (View T)) → Held me.0.paper s → get_elem? s.views i ≡ some me.0
      → get_or s.words t 0 ≡ mark → Claimed s i me t slots (get_or s.words t 0)
  claim_lost slots i me t has lt s h at q =
      let v = me.0 in
      let w = with_gone v t in
      let grown : (x : ℕ) → sums (λ u. u.gone) (set s.views i w) x ≡ sums (λ u. u.gone) s.views x + times x (t ∷ []) = λ x. sums_grown (λ u. u.gone) s.views i v w t x at refl in (
        w,
        keeps,
        tt,
        moved v.paper s i v w (set s.words t (get_or s.words t 0)) s.homes h at refl (fit_gone v has (h.each i v at) t) (length-set s.words t (get_or s.words t 0))
            (agrees_at v.paper (set s.words t (get_or s.words t 0)) s.homes _ _ _ _ _ _ _ _ _ _ _ _ (sums_same (λ u. u.mine) s.views i v w at refl) (sums_same (λ u. u.turn) s.views i v w at refl) (sums_same (λ u. u.paid) s.views i v w at refl)
            (sums_same (λ u. u.taken) s.views i v w at refl) (sums_same (λ u. u.ready) s.views i v w at refl) refl
            (words_same v.paper s.words s.homes _ _ _ _ _ _ t (lost_agrees v.paper s.words s.homes _ _ _ _ _ _ h.wide h.few h.agrees (sums (λ u. u.gone) (set s.views i w)) t lt q grown))),
        record {
          won = λ z. absurd (omega (arith, q, z));
          lost = λ q'. refl;
          early = λ nz nm. absurd (nm q);
          held = refl;
          all = λ whole_share. claims_whole v s i t h at whole_share lt;
        },
      )

  claim_early : (slots i : ℕ) (me : Me (Option T) (View T)) (t : ℕ) → 0 < me.0.share → t < me.0.paper.tasks → (s : State (Option T) (View T)) → Held me.0.paper s → get_elem? s.views i ≡ some me.0
      → get_or s.words t 0 ≢ 0 → get_or s.words t 0 ≢ mark → Claimed s i me t slots (get_or s.words t 0)
  claim_early slots i me t has lt s h at nz nm =
      let v = me.0 in
      let m = unclaimed v.paper s.words s.homes _ _ _ _ _ _ h.wide h.few h.agrees t lt nm in
      let free = h.agrees.free t lt m in
      let few_owed = owing_few (sums (λ u. u.paid) s.views) v.paper.edges t in
      let ready = total_one (λ u. times t u.ready) s.views i v at in (
        v,
        keeps,
        tt,
        moved v.paper s i v v (set s.words t (get_or s.words t 0)) s.homes h at refl (h.each i v at) (length-set s.words t (get_or s.words t 0))
            (agrees_at v.paper (set s.words t (get_or s.words t 0)) s.homes _ _ _ _ _ _ _ _ _ _ _ _ (sums_same (λ u. u.mine) s.views i v v at refl) (sums_same (λ u. u.turn) s.views i v v at refl) (sums_same (λ u. u.paid) s.views i v v at refl)
            (sums_same (λ u. u.taken) s.views i v v at refl) (sums_same (λ u. u.ready) s.views i v v at refl) (sums_same (λ u. u.gone) s.views i v v at refl)
            (words_same v.paper s.words s.homes _ _ _ _ _ _ t h.agrees)),
        record {
          won = λ z. absurd (nz z);
          lost = λ q. absurd (nm q);
          early = λ nz' nm'. (
            refl,
            omega (arith, free, few_owed, nz),
            dite (ℕ_discrete (times t v.ready) 0) (λ z. z) (λ n. absurd (let r = h.agrees.ready_paid t (omega (arith, ready, n)) in nz (free ∙ r))),
          );
          held = refl;
          all = λ whole_share. claims_whole v s i t h at whole_share lt;
        },
      )

  -- a claim
  pub claims : (slots i : ℕ) (me : Me (Option T) (View T)) (t : ℕ) → 0 < me.0.share → t < me.0.paper.tasks
      → Allows (Held me.0.paper) slots i me t (λ n. either (eqb n 0) mark n) (Claims (step slots t 0 mark none) me)
  claims slots i me t has lt s h len at small = dite (ℕ_discrete (get_or s.words t 0) 0)
      (λ z. subst (Claimed s i me t slots) (sym (ap (λ b. either b mark (get_or s.words t 0)) (eq-eqb (get_or s.words t 0) 0 z))) (claim_won slots i me t has lt s h at z))
      (λ nz. subst (Claimed s i me t slots) (sym (ap (λ b. either b mark (get_or s.words t 0)) (ne_eqb (get_or s.words t 0) 0 nz)))
      (dite (ℕ_discrete (get_or s.words t 0) mark) (λ q. claim_lost slots i me t has lt s h at q) (λ nm. claim_early slots i me t has lt s h at nz nm)))

  -- an edge whose source the seat claimed, and that it has not turned or paid, is in no `turn` or `paid`
  unpaid_anywhere : (v : View T) (i e : ℕ) (s : State (Option T) (View T)) → Held v.paper s → get_elem? s.views i ≡ some v → 0 < times (source v.paper.edges e) v.mine → times e v.turn + times e v.paid ≡ 0
      → sums (λ u. u.turn) s.views e + sums (λ u. u.paid) s.views e ≡ 0
  unpaid_anywhere v i e s h at claimed unpaid =
      sym (total_plus (λ (u : View T). times e u.turn) (λ (u : View T). times e u.paid) s.views)
      ∙ total_below (λ (u : View T). times e u.turn + times e u.paid) (λ (u : View T). times (source v.paper.edges e) u.mine) s.views i v at (λ j u at'. (h.each j u at').sent e) (h.agrees.once (source v.paper.edges e)) claimed unpaid

  -- an edge whose target the seat claimed, and that it has not taken, is in no `taken`
  untaken_anywhere : (v : View T) (i e : ℕ) (s : State (Option T) (View T)) → Held v.paper s → get_elem? s.views i ≡ some v → 0 < times (target v.paper.edges e) v.mine → times e v.taken ≡ 0 → sums (λ u. u.taken) s.views e ≡ 0
  untaken_anywhere v i e s h at claimed untaken =
      total_below (λ (u : View T). times e u.taken) (λ (u : View T). times (target v.paper.edges e) u.mine) s.views i v at (λ j u at'. (h.each j u at').got e) (h.agrees.once (target v.paper.edges e)) claimed untaken

  -- an edge is about to be paid
  pub turns : (slots i : ℕ) (me : Me (Option T) (View T)) (word e : ℕ) → 0 < me.0.share → e < length me.0.paper.edges → slots ≡ length me.0.paper.edges → 0 < times (source me.0.paper.edges e) me.0.mine
      → times e me.0.turn + times e me.0.paid ≡ 0 → Allows (Held me.0.paper) slots i me word (λ n. n) (Turns e (step slots word 0 0 none) me)
  turns slots i me word e has lt deep claimed unpaid s h len at small =
      let v = me.0 in
      let w = turning v e in
      let none_yet = unpaid_anywhere v i e s h at claimed unpaid in
      let grown : (x : ℕ) → sums (λ u. u.turn) (set s.views i w) x ≡ sums (λ u. u.turn) s.views x + times x (e ∷ []) = λ x. sums_front (λ u. u.turn) s.views i v w e x at refl in (
        w,
        takes e None,
        (h.agrees.slots e lt).empty none_yet,
        moved v.paper s i v w (set s.words word (get_or s.words word 0)) (set s.homes e none) h at refl (fit_turning v has (h.each i v at) e lt claimed unpaid) (length-set s.words word (get_or s.words word 0))
            (agrees_at v.paper (set s.words word (get_or s.words word 0)) (set s.homes e none) _ _ _ _ _ _ _ _ _ _ _ _ (sums_same (λ u. u.mine) s.views i v w at refl) refl (sums_same (λ u. u.paid) s.views i v w at refl)
            (sums_same (λ u. u.taken) s.views i v w at refl) (sums_same (λ u. u.ready) s.views i v w at refl) (sums_same (λ u. u.gone) s.views i v w at refl)
            (words_same v.paper s.words (set s.homes e none) _ _ _ _ _ _ word
            (turned_agrees v.paper s.words s.homes _ _ _ _ _ _ h.wide h.few h.agrees (sums (λ u. u.turn) (set s.views i w)) e lt (omega (arith, len, deep, lt)) none_yet grown))),
        (refl, refl),
      )

  -- an edge whose target is claimed was paid
  paid_before : (v : View T) (i e : ℕ) (s : State (Option T) (View T)) → Held v.paper s → get_elem? s.views i ≡ some v → e < length v.paper.edges → 0 < times (target v.paper.edges e) v.mine → 0 < sums (λ u. u.paid) s.views e
  paid_before v i e s h at lt claimed =
      let mine = total_one (λ u. times (target v.paper.edges e) u.mine) s.views i v at in
      let m : 0 < sums (λ u. u.mine) s.views (target v.paper.edges e) = omega (arith, mine, claimed) in
      let inside : target v.paper.edges e < v.paper.tasks = dite (dec_lt (target v.paper.edges e) v.paper.tasks) (λ l. l) (λ n. absurd (let z = h.agrees.inside (target v.paper.edges e) (omega (arith, n)) in omega (arith, z, m))) in
      let owed = (h.agrees.claimed (target v.paper.edges e) inside m).1 in
      dite (ℕ_discrete (sums (λ u. u.paid) s.views e) 0) (λ z. absurd (let o = owing_edge (sums (λ u. u.paid) s.views) v.paper.edges e lt z in omega (arith, owed, o))) (λ n. omega (arith, n))

  -- an edge's value is taken
  pub takes_value : (slots i : ℕ) (me : Me (Option T) (View T)) (word e : ℕ) → 0 < me.0.share → e < length me.0.paper.edges → slots ≡ length me.0.paper.edges → 0 < times (target me.0.paper.edges e) me.0.mine
      → times e me.0.taken ≡ 0 → Allows (Held me.0.paper) slots i me word (λ n. n) (Takes e (step slots word 0 0 none) me)
  takes_value slots i me word e has lt deep claimed untaken s h len at small =
      let v = me.0 in
      let w = with_taken v e in
      let none_yet = untaken_anywhere v i e s h at claimed untaken in
      let paid = paid_before v i e s h at lt claimed in
      let full = (h.agrees.slots e lt).full paid none_yet in
      let grown : (x : ℕ) → sums (λ u. u.taken) (set s.views i w) x ≡ sums (λ u. u.taken) s.views x + times x (e ∷ []) = λ x. sums_grown (λ u. u.taken) s.views i v w e x at refl in (
        w,
        takes e (Some full.0),
        full.2,
        moved v.paper s i v w (set s.words word (get_or s.words word 0)) (set s.homes e none) h at refl (fit_taken v has (h.each i v at) e lt claimed untaken) (length-set s.words word (get_or s.words word 0))
            (agrees_at v.paper (set s.words word (get_or s.words word 0)) (set s.homes e none) _ _ _ _ _ _ _ _ _ _ _ _ (sums_same (λ u. u.mine) s.views i v w at refl) (sums_same (λ u. u.turn) s.views i v w at refl) (sums_same (λ u. u.paid) s.views i v w at refl) refl
            (sums_same (λ u. u.ready) s.views i v w at refl) (sums_same (λ u. u.gone) s.views i v w at refl)
            (words_same v.paper s.words (set s.homes e none) _ _ _ _ _ _ word
            (taken_agrees v.paper s.words s.homes _ _ _ _ _ _ h.wide h.few h.agrees (sums (λ u. u.taken) (set s.views i w)) e lt (omega (arith, len, deep, lt)) none_yet paid grown))),
        (refl, (full.0, full.1, refl)),
      )

  -- the slot of a taken edge comes home
  pub returns_slot : (slots i : ℕ) (v : View T) (out : List (ℕ × Option T)) (word e : ℕ) → 0 < v.share → e < length v.paper.edges → 0 < times e v.taken
      → Allows (Held v.paper) slots i (v, (e, None) ∷ out) word (λ n. n) (Returns (step slots word 0 0 none) (v, (e, None) ∷ out))
  returns_slot slots i v out word e has lt was s h len at small =
      let taken = total_one (λ u. times e u.taken) s.views i v at in (
        v,
        gives,
        tt,
        moved v.paper s i v v (set s.words word (get_or s.words word 0)) (set s.homes e (some None)) h at refl (h.each i v at) (length-set s.words word (get_or s.words word 0))
            (agrees_at v.paper (set s.words word (get_or s.words word 0)) (set s.homes e (some None)) _ _ _ _ _ _ _ _ _ _ _ _ (sums_same (λ u. u.mine) s.views i v v at refl) (sums_same (λ u. u.turn) s.views i v v at refl) (sums_same (λ u. u.paid) s.views i v v at refl)
            (sums_same (λ u. u.taken) s.views i v v at refl) (sums_same (λ u. u.ready) s.views i v v at refl) (sums_same (λ u. u.gone) s.views i v v at refl)
            (words_same v.paper s.words (set s.homes e (some None)) _ _ _ _ _ _ word (returned_agrees v.paper s.words s.homes _ _ _ _ _ _ h.wide h.few h.agrees e lt (omega (arith, taken, was))))),
        (refl, refl),
      )

  -- after a payment's step, which leaves the number k in the target's word
  abbrev Paid : State (Option T) (View T) → ℕ → View T → List (ℕ × Option T) → ℕ → ℕ → Option T → ℕ → Type 0
  Paid s i v out slots e x k = (w : View T) × (a : Act (Option T)) × Valid s.homes ((e, x) ∷ out) a × Held v.paper (stepped s (target v.paper.edges e) k i ((e, x) ∷ out) w a)
      × Pays e (step slots (target v.paper.edges e) 1 0 none) (v, (e, x) ∷ out) (get_or s.words (target v.paper.edges e) 0) (w, carried_after ((e, x) ∷ out) a)

  -- the view after a payment, if b says whether the target's word was 1
  abbrev pay_view : View T → ℕ → Bool → View T
  pay_view v e b = record v { turn = drop 1 v.turn; paid = v.paid ++ e ∷ []; ready = cond b (v.ready ++ target v.paper.edges e ∷ []) v.ready }

  pay_view_is : (v : View T) (e : ℕ) (b : Bool) → pay_view v e b ≡ cond b (with_ready (settling v e) (target v.paper.edges e)) (settling v e)
  pay_view_is v e true = refl
  pay_view_is v e false = refl

  fit_pay : (v : View T) (e : ℕ) (r : List ℕ) (b : Bool) → 0 < v.share → IsFit v.paper v → v.turn ≡ e ∷ r → IsFit v.paper (pay_view v e b)
  fit_pay v e r true has fit turned = fit_ready (settling v e) has (fit_settling v has fit e r turned) (target v.paper.edges e)
  fit_pay v e r false has fit turned = fit_settling v has fit e r turned

  ready_pay : (v : View T) (e i : ℕ) (b : Bool) (l : List (View T)) → get_elem? l i ≡ some v → (x : ℕ) → sums (λ u. u.ready) (set l i (pay_view v e b)) x ≡ sums (λ u. u.ready) l x + cond b (times x (target v.paper.edges e ∷ [])) 0
  ready_pay v e i true l at x = sums_grown (λ u. u.ready) l i v (pay_view v e true) (target v.paper.edges e) x at refl
  ready_pay v e i false l at x = let h : sums (λ u. u.ready) (set l i (pay_view v e false)) x ≡ sums (λ u. u.ready) l x = ap (λ (F : ℕ → ℕ). F x) (sums_same (λ u. u.ready) l i v (pay_view v e false) at refl) in omega (arith, h)

  -- an edge is paid
  pub pays : (slots i : ℕ) (v : View T) (out : List (ℕ × Option T)) (e : ℕ) (x : T) (r : List ℕ) → 0 < v.share → e < length v.paper.edges → slots ≡ length v.paper.edges → target v.paper.edges e < v.paper.tasks → v.turn ≡ e ∷ r
      → value_of v.paper.values e ≡ Some x
      → Allows (Held v.paper) slots i (v, (e, Some x) ∷ out) (target v.paper.edges e) (λ n. (n + (2 ^ 64 - 1)) % 2 ^ 64) (Pays e (step slots (target v.paper.edges e) 1 0 none) (v, (e, Some x) ∷ out))
  pays slots i v out e x r has lt deep inside turned is_value s h len at small =
      let here = total_one (λ u. times e u.turn) s.views i v at in
      let one : 0 < times e v.turn = subst (λ l. 0 < times e l) (sym turned) (let t = times_here e e r refl in omega (arith, t)) in
      let turn : 0 < sums (λ u. u.turn) s.views e = omega (arith, here, one) in
      let unpaid : sums (λ u. u.paid) s.views e ≡ 0 = let a = (h.agrees.slots e lt).alone in omega (arith, a, turn) in
      let owed = target_owed v.paper s.words s.homes _ _ _ _ _ _ h.wide h.few h.agrees e lt unpaid inside in
      let w = pay_view v e (eqb (get_or s.words (target v.paper.edges e) 0) 1) in
      let less : (get_or s.words (target v.paper.edges e) 0 + (2 ^ 64 - 1)) % 2 ^ 64 ≡ get_or s.words (target v.paper.edges e) 0 - 1 = let a = owed.1 in let b = owed.2 in below (get_or s.words (target v.paper.edges e) 0) (omega (arith, a, b)) small in
      subst (Paid s i v out slots e (Some x)) (sym less) (
        w,
        gives,
        tt,
        moved v.paper s i v w (set s.words (target v.paper.edges e) (get_or s.words (target v.paper.edges e) 0 - 1)) (set s.homes e (some (Some x))) h at refl (fit_pay v e r (eqb (get_or s.words (target v.paper.edges e) 0) 1) has (h.each i v at) turned)
            (length-set s.words (target v.paper.edges e) (get_or s.words (target v.paper.edges e) 0 - 1))
            (agrees_at v.paper (set s.words (target v.paper.edges e) (get_or s.words (target v.paper.edges e) 0 - 1)) (set s.homes e (some (Some x))) _ _ _ _ _ _ _ _ _ _ _ _ (sums_same (λ u. u.mine) s.views i v w at refl) refl refl
            (sums_same (λ u. u.taken) s.views i v w at refl) refl (sums_same (λ u. u.gone) s.views i v w at refl)
            (paid_agrees v.paper s.words s.homes _ _ _ _ _ _ h.wide h.few h.agrees (sums (λ u. u.turn) (set s.views i w)) (sums (λ u. u.paid) (set s.views i w)) (sums (λ u. u.ready) (set s.views i w)) e x lt (omega (arith, len, deep, lt)) inside turn is_value
            (λ y. sums_fewer (λ u. u.turn) s.views i v w e y at (turned ∙ ap (λ l. e ∷ l) (sym (ap (drop 1) turned))))
            (λ y. sums_grown (λ u. u.paid) s.views i v w e y at refl)
            (λ y. ready_pay v e i (eqb (get_or s.words (target v.paper.edges e) 0) 1) s.views at y))),
        (pay_view_is v e (eqb (get_or s.words (target v.paper.edges e) 0) 1), refl),
      )

  fresh_at : (part : View T → List ℕ) (l : List (View T)) (i : ℕ) (v w u : View T) → get_elem? l i ≡ some v → part w ≡ part v → part u ≡ [] → (x : ℕ) → sums part (set l i w ++ u ∷ []) x ≡ sums part l x
  fresh_at part l i v w u at same bare x =
      let p = total_push (λ y. times x (part y)) (set l i w) u in
      let a : times x (part u) ≡ 0 = ap (times x) bare in
      let b = total_same (λ y. times x (part y)) l i v w at (ap (times x) same) in omega (arith, p, a, b)

  fresh_sum : (part : View T → List ℕ) (l : List (View T)) (i : ℕ) (v w u : View T) → get_elem? l i ≡ some v → part w ≡ part v → part u ≡ [] → sums part (set l i w ++ u ∷ []) ≡ sums part l
  fresh_sum part l i v w u at same bare = λ k x. fresh_at part l i v w u at same bare x k

  -- a seat is cut in two
  pub splits : (i : ℕ) (v : View T) → 1 < v.share → Splits (Held v.paper) i v (with_share v (v.share - 1)) (seat_view v.paper 1)
  splits i v more s h at =
      let w = with_share v (v.share - 1) in
      let u : View T = seat_view v.paper 1 in record {
        wide = h.wide;
        few = h.few;
        shares = let a = total_push (λ y. y.share) (set s.views i w) u in let b = total_set (λ y. y.share) s.views i v w at in let c = h.shares in omega (arith, a, b, c, more);
        each = λ j y at'. ⊎_elim (λ t. views_stay v.paper s.views i w h.each (fit_share v (omega (arith, more)) (h.each i v at) (v.share - 1) (omega (arith, more))) j y t)
            (λ q. subst (IsFit v.paper) q (fit_new v.paper 1 (omega arith))) (at_snoc (set s.views i w) u y j at');
        agrees = agrees_at v.paper s.words s.homes _ _ _ _ _ _ _ _ _ _ _ _ (fresh_sum (λ y. y.mine) s.views i v w u at refl refl) (fresh_sum (λ y. y.turn) s.views i v w u at refl refl) (fresh_sum (λ y. y.paid) s.views i v w u at refl refl)
            (fresh_sum (λ y. y.taken) s.views i v w u at refl refl) (fresh_sum (λ y. y.ready) s.views i v w u at refl refl) (fresh_sum (λ y. y.gone) s.views i v w u at refl refl) h.agrees;
      }

  -- a sum over all views, if one takes in another
  joined_total : (f : View T → ℕ) (l : List (View T)) (i : ℕ) (v : View T) (j : ℕ) (w both gone_view : View T) → get_elem? l i ≡ some v → get_elem? (set l i both) j ≡ some w → f both ≡ f v + f w → f gone_view ≡ 0
      → total f (set (set l i both) j gone_view) ≡ total f l
  joined_total f l i v j w both gone_view at at' sum nought =
      let a = total_set f l i v both at in let b = total_set f (set l i both) j w gone_view at' in omega (arith, a, b, sum, nought)

  joined_sum : (part : View T → List ℕ) (l : List (View T)) (i : ℕ) (v : View T) (j : ℕ) (w both gone_view : View T) → get_elem? l i ≡ some v → get_elem? (set l i both) j ≡ some w → part both ≡ part v ++ part w → part gone_view ≡ []
      → sums part (set (set l i both) j gone_view) ≡ sums part l
  joined_sum part l i v j w both gone_view at at' sum bare = λ k x. joined_total (λ y. times x (part y)) l i v j w both gone_view at at' (ap (times x) sum ∙ times-append x (part v) (part w)) (ap (times x) bare) k

  -- a seat takes in another
  pub joins : (i j : ℕ) (v w : View T) → 0 < v.share → Joins (Held v.paper) i v j w (joined v w) spent
  joins i j v w has s h at apart at' =
      let both = joined v w in
      let there : get_elem? s.views j ≡ some w = sym (set_else s.views i j both apart) ∙ at' in record {
        wide = h.wide;
        few = h.few;
        shares = joined_total (λ y. y.share) s.views i v j w both spent at at' refl refl ∙ h.shares;
        each = views_stay v.paper (set s.views i both) j spent (views_stay v.paper s.views i both h.each (fit_joined v has (h.each i v at) w (h.each j w there))) (fit_spent v.paper);
        agrees = agrees_at v.paper s.words s.homes _ _ _ _ _ _ _ _ _ _ _ _ (joined_sum (λ y. y.mine) s.views i v j w both spent at at' refl refl) (joined_sum (λ y. y.turn) s.views i v j w both spent at at' refl refl)
            (joined_sum (λ y. y.paid) s.views i v j w both spent at at' refl refl) (joined_sum (λ y. y.taken) s.views i v j w both spent at at' refl refl) (joined_sum (λ y. y.ready) s.views i v j w both spent at at' refl refl)
            (joined_sum (λ y. y.gone) s.views i v j w both spent at at' refl refl) h.agrees;
      }

none_paid : (es : List Edge) (t : ℕ) → owing (λ e. 0) es t ≡ count_in es t
none_paid es t = go (places_to es t)
  where
    go : (ps : List ℕ) → total (λ (e : ℕ). 1) ps ≡ length ps
    go [] = refl
    go (p ∷ ps) = let h = go ps in omega (arith, h)

empty_home : {T : Type 0} (n e : ℕ) → e < n → get_elem? (map some (replicate {A = Option T} n None)) e ≡ some (some None)
empty_home zero e h = absurd (omega arith)
empty_home (suc n) zero h = refl
empty_home {T = T} (suc n) (suc e) h = empty_home {T = T} n e (omega arith)

-- the rule as the board is laid
pub opens : {T : Type 0} (p : Paper T) (ws : List ℕ) → p.tasks ≤ length ws → length p.edges < 2 ^ 31 → ((t : ℕ) → t < p.tasks → get_or ws t 0 ≡ count_in p.edges t)
    → ((t : ℕ) → p.tasks ≤ t → t < length ws → get_or ws t 0 ≡ mark) → Held p (opening ws (replicate (length p.edges) None) (seat_view p whole))
opens {T = T} p ws wide few counted spare = record {
  wide = wide;
  few = few;
  shares = refl;
  each = λ i v at. only i v at;
  agrees = record {
    free = λ t lt z. counted t lt ∙ sym (none_paid p.edges t);
    claimed = λ t lt h. absurd (omega (arith, h));
    once = λ t. omega arith;
    inside = λ t le. refl;
    spare = spare;
    ready_paid = λ t h. absurd (omega (arith, h));
    told = λ t some_in z. absurd (let n = none_paid p.edges t in omega (arith, n, some_in, z));
    gone_claimed = λ t h. absurd (omega (arith, h));
    slots = λ e lt. record { alone = omega arith; after = omega arith; empty = λ z. empty_home (length p.edges) e lt; out = λ h. absurd (omega (arith, h)); full = λ h z. absurd (omega (arith, h)) };
  };
}
  where
    only : (i : ℕ) (v : View T) → get_elem? (seat_view p whole ∷ []) i ≡ some v → IsFit p v
    only zero v at = subst (IsFit p) (some-injective (seat_view p whole) v at) (fit_new p whole (omega arith))
    only (suc i) v at = absurd (some-ne-none v (sym at))

-- what the words are in the end, of the seat with the whole share
pub closes : {T : Type 0} (p : Paper T) (ws : List ℕ) (xs : List (Option T)) (i : ℕ) (v : View T) → v.share ≡ whole → Final (Seen (Held p) i v) ws xs → (t : ℕ) → t < p.tasks
    → (0 < times t v.mine → get_or ws t 0 ≡ mark) × (times t v.mine ≡ 0 → get_or ws t 0 ≡ owing (λ e. times e v.paid) p.edges t)
closes p ws xs i v all last t lt =
    let s = last.0 in
    let h = last.1.0 in
    let at = last.1.1 in
    let same = last.2 in
    let m = alone_mine p s i v h at all t in (
      λ has. ap (λ l. get_or l t 0) (sym same) ∙ (h.agrees.claimed t lt (omega (arith, m, has))).0,
      λ none. ap (λ l. get_or l t 0) (sym same) ∙ (h.agrees.free t lt (omega (arith, m, none)) ∙ alone_owing p s i v h at all t),
    )

-- a word of the last words is the mark only of a task in the whole seat's `mine`
pub closes_mark : {T : Type 0} (p : Paper T) (ws : List ℕ) (xs : List (Option T)) (i : ℕ) (v : View T) → v.share ≡ whole → Final (Seen (Held p) i v) ws xs → (t : ℕ) → t < p.tasks → get_or ws t 0 ≡ mark → 0 < times t v.mine
closes_mark p ws xs i v all last t lt is =
    let s = last.0 in
    let h = last.1.0 in
    let m = alone_mine p s i v h last.1.1 all t in
    let c = is_claimed p s.words s.homes _ _ _ _ _ _ h.wide h.few h.agrees t lt (ap (λ l. get_or l t 0) last.2 ∙ is) in omega (arith, m, c)

-- in the end each task was claimed once at most, and each edge paid and taken once at most
pub closes_once : {T : Type 0} (p : Paper T) (ws : List ℕ) (xs : List (Option T)) (i : ℕ) (v : View T) → v.share ≡ whole → Final (Seen (Held p) i v) ws xs → (x : ℕ) → (times x v.mine ≤ 1) × (times x v.paid ≤ 1) × (times x v.taken ≤ 1)
closes_once p ws xs i v all last x =
    let s = last.0 in
    let h = last.1.0 in
    let m = alone_mine p s i v h last.1.1 all x in
    let q = alone_paid p s i v h last.1.1 all x in
    let k = alone p s i v h last.1.1 all (λ u. u.taken) (λ u y. omega arith) x in
    let once = h.agrees.once x in
    let fit = h.each i v last.1.1 in (
      omega (arith, m, once),
      dite (dec_lt x (length p.edges)) (λ lt. let a = (h.agrees.slots x lt).alone in omega (arith, q, a)) (λ n. let b = fit.bound x (omega (arith, n)) in omega (arith, b)),
      dite (dec_lt x (length p.edges)) (λ lt. let a = (h.agrees.slots x lt).alone in let b = (h.agrees.slots x lt).after in omega (arith, k, a, b)) (λ n. let b = fit.bound x (omega (arith, n)) in omega (arith, b)),
    )
