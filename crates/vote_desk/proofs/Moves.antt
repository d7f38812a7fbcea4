-- Each step keeps the desk rule, and reports to its caller what it must.
use Rattle.std.proofs.Common.{◌≡◌, ℕ, zero, suc, ◌+◌, ◌-◌, ◌<◌, ◌≤◌, eqb, List, [], ◌∷◌, ◌++◌, length, set, get_or, Some, sym, refl, ap, ◌∙◌, subst, ⊎_elim, get_or-set_same, length-set, length-append, arith}
use mathlib.Core.Logic.{dite}
use mathlib.Core.Option.{some, none, some-injective, some-ne-none}
use native.Mathlib.Decide.{ℕ_discrete, dec_lt}
use lib.ListN.{get_elem?}
use prog.Atomic.{either}
use Rattle.std.proofs.lemmas.List.{set-get_or}
use Rattle.atomic_table.specs.Table.{State, Me, step, Act, keeps, takes, gives, Valid, carried_after, stepped, Allows, Splits, Joins, opening, Final, Seen}
use Rattle.atomic_table.proofs.Lists.{at_set, at_snoc, set_here, set_else, set_again, exchanged}
use Rattle.vote_desk.specs.declared.view.View.{View}
use Rattle.vote_desk.specs.Counts.{times, total}
use Rattle.vote_desk.specs.Histories.{IsFront}
use Rattle.vote_desk.specs.Views.{whole, first_view, with_share, parted, holding, returning, adding, joined, spent}
use Rattle.vote_desk.specs.Rule.{made, IsFit, Held}
use Rattle.vote_desk.specs.Steps.{Takes, Looks, Adds, Returns}
use Rattle.vote_desk.proofs.Counts.{total_set, total_same, total_push, total_one, total_none, total_alone, total_joined, times_here, times_else, times-append, times-merged}
use Rattle.vote_desk.proofs.Fronts.{front_length}
use Rattle.vote_desk.proofs.Fitting.{fit_first, fit_share, fit_parted, fit_holding, fit_returning, fit_longer, fit_adding, fit_joined, fit_spent}

-- the slot of a table with one slot is there
home_inside : {A : Type 0} (l : List A) (a : A) → get_elem? l 0 ≡ some a → 0 < length l
home_inside [] a at = absurd (some-ne-none a (sym at))
home_inside (x ∷ xs) a at = omega arith

module _ {O E X : Type 0} (R : O → List E → X → Type 0) (o : O) where
  views_stay : (log : List E) (l : List (View O E)) (i : ℕ) (w : View O E) → ((j : ℕ) (u : View O E) → get_elem? l j ≡ some u → IsFit o log u) → IsFit o log w → (j : ℕ) (u : View O E) → get_elem? (set l i w) j ≡ some u → IsFit o log u
  views_stay log l i w each fit j u at = ⊎_elim (λ t. subst (IsFit o log) t.1 fit) (λ t. each j u t.1) (at_set l i j w u at)

  -- no other place than those of the history stands in a view
  made_none : (s : State X (View O E)) (h : Held R o s) (p : ℕ) → length h.log ≤ p → made s.views p ≡ 0
  made_none s h p le = total_none (λ v. times p v.mine) s.views (λ i v at.
      let fit = h.each i v at in
      dite (ℕ_discrete (times p v.mine) 0) (λ z. z) (λ nz. absurd (let b = fit.below p (omega arith) in let f = front_length v.seen h.log fit.seen in omega (arith, b, f, le))))

  -- no place stands twice
  made_once : (s : State X (View O E)) (h : Held R o s) (p : ℕ) → made s.views p ≤ 1
  made_once s h p = dite (dec_lt p (length h.log))
      (λ lt. let a = h.once p lt in omega (arith, a))
      (λ no. let z = made_none s h p (omega (arith, no)) in omega (arith, z))

  -- a step that changes nothing keeps the rule
  stays : (s : State X (View O E)) (i : ℕ) (v : View O E) → Held R o s → get_elem? s.views i ≡ some v → Held R o record { words = set s.words 0 (get_or s.words 0 0); homes = s.homes; views = set s.views i v }
  stays s i v h at =
      subst (λ (ws : List ℕ). Held R o record { words = ws; homes = s.homes; views = set s.views i v }) (sym (set-get_or s.words 0 0))
      (subst (λ (vs : List (View O E)). Held R o record { words = s.words; homes = s.homes; views = vs }) (sym (set_again s.views i v at)) h)

  -- if a pass has the slot, the word is 1, and no other pass has it
  held_out : (s : State X (View O E)) (i : ℕ) (v : View O E) → Held R o s → get_elem? s.views i ≡ some v → 0 < v.out → (get_or s.words 0 0 ≡ 1) × (total (λ (u : View O E). u.out) s.views ≡ 1) × (get_elem? s.homes 0 ≡ some none)
  held_out s i v h at has =
      let one = total_one (λ (u : View O E). u.out) s.views i v at in
      dite (ℕ_discrete (get_or s.words 0 0) 0) (λ z. absurd (let t = (h.home z).0 in omega (arith, one, t, has))) (λ nz. h.away (omega arith))

  -- after the step that takes the slot, which leaves the number k in the word
  abbrev Taken : State X (View O E) → ℕ → Me X (View O E) → ℕ → ℕ → Type 0
  Taken s i me slots k = (w : View O E) × (a : Act X) × Valid s.homes me.1 a × Held R o (stepped s 0 k i me.1 w a) × Takes R (step slots 0 0 1 none) me (get_or s.words 0 0) (w, carried_after me.1 a)

  taken : (slots i : ℕ) (me : Me X (View O E)) → 0 < me.0.share → me.0.opening ≡ Some o → (s : State X (View O E)) → Held R o s → get_elem? s.views i ≡ some me.0 → get_or s.words 0 0 ≡ 0 → Taken s i me slots 1
  taken slots i me has same s h at z =
      let v = me.0 in
      let w = holding v h.log in
      let here = h.home z in
      let held = here.1.0 in
      let word = get_or-set_same s.words 0 1 0 h.wide in (
        w,
        takes 0 held,
        here.1.1,
        record {
          wide = let a = length-set s.words 0 1 in let b = h.wide in omega (arith, a, b);
          shares = total_same (λ (u : View O E). u.share) s.views i v w at refl ∙ h.shares;
          log = h.log;
          led = h.led;
          each = views_stay h.log s.views i w h.each (fit_holding o h.log v has (h.each i v at));
          once = λ p lt. total_same (λ (u : View O E). times p u.mine) s.views i v w at refl ∙ h.once p lt;
          home = λ none_out. absurd (omega (arith, word, none_out));
          away = λ lt. (
            word,
            (let t = total_set (λ (u : View O E). u.out) s.views i v w at in let b = total_one (λ (u : View O E). u.out) s.views i v at in let n = here.0 in omega (arith, t, b, n)),
            set_here s.homes 0 none (home_inside s.homes (some held) here.1.1),
          );
        },
        record {
          won = λ found. record { opening = o; same = same; log = h.log; front = (h.each i v at).seen; held = held; stands = here.1.2; view = refl; slot = refl };
          busy = λ nz. absurd (nz z);
        },
      )

  -- the slot is taken, or is out with another pass
  pub takes_slot : (slots i : ℕ) (me : Me X (View O E)) → 0 < me.0.share → me.0.opening ≡ Some o → Allows (Held R o) slots i me 0 (λ n. either (eqb n 0) 1 n) (Takes R (step slots 0 0 1 none) me)
  takes_slot slots i me has same s h len at small =
      exchanged (get_or s.words 0 0) 0 1 (Taken s i me slots)
      (λ z. taken slots i me has same s h at z)
      (λ nz. (me.0, keeps, tt, stays s i me.0 h at, record { won = λ z. absurd (nz z); busy = λ ne. (refl, refl) }))

  -- a pass looks at what the rule keeps of its view
  pub looks : (slots i : ℕ) (me : Me X (View O E)) → Allows (Held R o) slots i me 0 (λ n. n) (Looks (step slots 0 0 0 none) me)
  looks slots i me s h len at small =
      let fit = h.each i me.0 at in (
        me.0,
        keeps,
        tt,
        stays s i me.0 h at,
        record { view = refl; slot = refl; heard = fit.heard; rises = fit.rises; below = fit.below },
      )

  -- the slot is given back as it was
  pub returns_slot : (slots i : ℕ) (v : View O E) (out : List (ℕ × X)) (held : X) → 0 < v.share → 0 < v.out → R o v.seen held → Allows (Held R o) slots i (v, (0, held) ∷ out) 0 (λ _. 0) (Returns (step slots 0 0 0 none) (v, (0, held) ∷ out))
  returns_slot slots i v out held has has_slot stands s h len at small =
      let w : View O E = returning v in
      let fit = h.each i v at in
      let away = held_out s i v h at has_slot in
      let word = get_or-set_same s.words 0 0 0 h.wide in (
        w,
        gives,
        tt,
        record {
          wide = let a = length-set s.words 0 0 in let b = h.wide in omega (arith, a, b);
          shares = total_same (λ (u : View O E). u.share) s.views i v w at refl ∙ h.shares;
          log = h.log;
          led = h.led;
          each = views_stay h.log s.views i w h.each (fit_returning o h.log v has fit);
          once = λ p lt. total_same (λ (u : View O E). times p u.mine) s.views i v w at refl ∙ h.once p lt;
          home = λ z. (
            (let t = total_set (λ (u : View O E). u.out) s.views i v w at in let n = away.1 in omega (arith, t, n, has_slot)),
            (held, set_here s.homes 0 (some held) (home_inside s.homes none away.2), subst (λ (l : List E). R o l held) (fit.knows has_slot) stands),
          );
          away = λ lt. absurd (omega (arith, word, lt));
        },
        (refl, refl),
      )

  -- the slot is given back one entry longer
  pub adds_slot : (slots i : ℕ) (v : View O E) (out : List (ℕ × X)) (held : X) (entry : E) → 0 < v.share → v.opening ≡ Some o → 0 < v.out → R o (v.seen ++ entry ∷ []) held
      → Allows (Held R o) slots i (v, (0, held) ∷ out) 0 (λ _. 0) (Adds R (step slots 0 0 0 none) (v, (0, held) ∷ out))
  adds_slot slots i v out held entry has same has_slot stands s h len at small =
      let w : View O E = adding v entry in
      let fit = h.each i v at in
      let is : v.seen ≡ h.log = fit.knows has_slot in
      let away = held_out s i v h at has_slot in
      let word = get_or-set_same s.words 0 0 0 h.wide in
      let none_out : total (λ (u : View O E). u.out) (set s.views i w) ≡ 0 = (let t = total_set (λ (u : View O E). u.out) s.views i v w at in let n = away.1 in omega (arith, t, n, has_slot)) in (
        w,
        gives,
        tt,
        record {
          wide = let a = length-set s.words 0 0 in let b = h.wide in omega (arith, a, b);
          shares = total_same (λ (u : View O E). u.share) s.views i v w at refl ∙ h.shares;
          log = h.log ++ entry ∷ [];
          led = (held, subst (λ (l : List E). R o (l ++ entry ∷ []) held) is stands);
          each = λ j u at'. ⊎_elim
              (λ t. subst (IsFit o (h.log ++ entry ∷ [])) t.1 (fit_adding o h.log v entry has is fit))
              (λ t. let b = total_one (λ (x : View O E). x.out) (set s.views i w) j u at' in fit_longer o h.log u entry (omega (arith, b, none_out)) (h.each j u t.1))
              (at_set s.views i j w u at');
          once = λ p lt.
              let t = total_set (λ (u : View O E). times p u.mine) s.views i v w at in
              let a = times-append p v.mine (length v.seen ∷ []) in
              let n = length-append h.log (entry ∷ []) in
              let m : length v.seen ≡ length h.log = ap length is in
              dite (ℕ_discrete (length v.seen) p)
              (λ e. let one = times_here p (length v.seen) [] e in let z = made_none s h p (omega (arith, e, m)) in omega (arith, t, a, one, z))
              (λ ne. let zero_times = times_else p (length v.seen) [] ne in let one = h.once p (omega (arith, lt, n, m, ne)) in omega (arith, t, a, zero_times, one));
          home = λ z. (none_out, (held, set_here s.homes 0 (some held) (home_inside s.homes none away.2), subst (λ (l : List E). R o (l ++ entry ∷ []) held) is stands));
          away = λ lt. absurd (omega (arith, word, lt));
        },
        record { opening = o; same = same; entry = entry; held = held; stands = stands; slot = refl; view = refl; left = refl },
      )

  split_total : (f : View O E → ℕ) (l : List (View O E)) (i : ℕ) (v w u : View O E) → get_elem? l i ≡ some v → f w ≡ f v → f u ≡ 0 → total f (set l i w ++ u ∷ []) ≡ total f l
  split_total f l i v w u at same bare = let p = total_push f (set l i w) u in let b = total_same f l i v w at same in omega (arith, p, b, bare)

  -- a pass is cut in two
  pub splits : (i : ℕ) (v : View O E) → 1 < v.share → Splits (Held R o) i v (with_share v (v.share - 1)) (parted v)
  splits i v more s h at =
      let w : View O E = with_share v (v.share - 1) in
      let u : View O E = parted v in
      let fit = h.each i v at in
      let outs = split_total (λ (y : View O E). y.out) s.views i v w u at refl refl in record {
        wide = h.wide;
        shares = let a = total_push (λ (y : View O E). y.share) (set s.views i w) u in let b = total_set (λ (y : View O E). y.share) s.views i v w at in let c = h.shares in omega (arith, a, b, c, more);
        log = h.log;
        led = h.led;
        each = λ j y at'. ⊎_elim (λ t. views_stay h.log s.views i w h.each (fit_share o h.log v (omega (arith, more)) fit (v.share - 1) (omega (arith, more))) j y t)
            (λ q. subst (IsFit o h.log) q (fit_parted o h.log v (omega (arith, more)) fit)) (at_snoc (set s.views i w) u y j at');
        once = λ p lt. split_total (λ (y : View O E). times p y.mine) s.views i v w u at refl refl ∙ h.once p lt;
        home = λ z. let a = h.home z in (outs ∙ a.0, a.1);
        away = λ lt. let a = h.away lt in (a.0, outs ∙ a.1, a.2);
      }

  -- two passes count no more than all
  total_two : (f : View O E → ℕ) (l : List (View O E)) (i j : ℕ) (v w : View O E) → get_elem? l i ≡ some v → ¬ (j ≡ i) → get_elem? l j ≡ some w → f spent ≡ 0 → f v + f w ≤ total f l
  total_two f l i j v w at apart at' nought =
      let a = total_set f l i v spent at in let b = total_one f (set l i spent) j w (set_else l i j spent apart ∙ at') in omega (arith, a, b, nought)

  -- a pass takes in another
  pub joins : (i j : ℕ) (v w : View O E) → 0 < v.share → v.out ≡ 0 → w.out ≡ 0 → Joins (Held R o) i v j w (joined v w) spent
  joins i j v w has calm calm' s h at apart at' =
      let both = joined v w in
      let there : get_elem? s.views j ≡ some w = sym (set_else s.views i j both apart) ∙ at' in
      let outs = total_joined (λ (y : View O E). y.out) s.views i v j w both spent at at' refl refl in
      let disjoint : (p : ℕ) → times p v.mine + times p w.mine ≤ 1 = λ p. let a = total_two (λ (y : View O E). times p y.mine) s.views i j v w at apart there refl in let b = made_once s h p in omega (arith, a, b) in record {
        wide = h.wide;
        shares = total_joined (λ (y : View O E). y.share) s.views i v j w both spent at at' refl refl ∙ h.shares;
        log = h.log;
        led = h.led;
        each = views_stay h.log (set s.views i both) j spent (views_stay h.log s.views i both h.each (fit_joined o h.log v w has (omega (arith, calm, calm')) disjoint (h.each i v at) (h.each j w there))) (fit_spent o h.log);
        once = λ p lt. total_joined (λ (y : View O E). times p y.mine) s.views i v j w both spent at at' (times-merged p v.mine w.mine) refl ∙ h.once p lt;
        home = λ z. let a = h.home z in (outs ∙ a.0, a.1);
        away = λ lt. let a = h.away lt in (a.0, outs ∙ a.1, a.2);
      }

  -- the rule as the desk is opened
  pub opens : (held : X) → R o [] held → Held R o (opening (0 ∷ []) (held ∷ []) (first_view o))
  opens held stands = record {
    wide = omega arith;
    shares = refl;
    log = [];
    led = (held, stands);
    each = only;
    once = λ p lt. absurd (omega (arith, lt));
    home = λ z. (refl, (held, refl, stands));
    away = λ lt. absurd (omega (arith, lt));
  }
    where
      only : (i : ℕ) (v : View O E) → get_elem? (first_view o ∷ []) i ≡ some v → IsFit o [] v
      only zero v at = subst (IsFit o []) (some-injective (first_view o) v at) (fit_first o [])
      only (suc i) v at = absurd (some-ne-none v (sym at))

  -- what the desk is closed with, of the pass with the whole share
  pub closes : (ws : List ℕ) (xs : List X) (i : ℕ) (v : View O E) → v.share ≡ whole → v.out ≡ 0 → Final (Seen (Held R o) i v) ws xs
      → (log : List E) × (held : X) × (get_elem? xs 0 ≡ some held) × R o log held × IsFront v.seen log × ((p : ℕ) → p < length log → times p v.mine ≡ 1)
  closes ws xs i v all calm last =
      let s = last.0 in
      let h = last.1.0 in
      let at = last.1.1 in
      let alone : (f : View O E → ℕ) → ((u : View O E) → (u.mine ≡ []) × (u.out ≡ 0) → f u ≡ 0) → total f s.views ≡ f v = λ f idle. total_alone (λ (u : View O E). u.share) f s.views i v at (h.shares ∙ sym all) (λ j u at' z. idle u ((h.each j u at').idle z)) in
      let outs = alone (λ (u : View O E). u.out) (λ u z. z.1) in
      let home = h.home (dite (ℕ_discrete (get_or s.words 0 0) 0) (λ z. z) (λ nz. absurd (let a = (h.away (omega arith)).1 in omega (arith, a, outs, calm)))) in (
        h.log,
        home.1.0,
        last.4 0 home.1.0 home.1.1,
        home.1.2,
        (h.each i v at).seen,
        λ p lt. sym (alone (λ (u : View O E). times p u.mine) (λ u z. ap (times p) z.0)) ∙ h.once p lt,
      )
