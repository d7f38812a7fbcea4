-- What is left of a plan's outputs is what the run leaves: a certificate that is due was planned, and lacked what is missing.
use Rattle.std.proofs.Common.{◌≡◌, ℕ, zero, suc, ◌+◌, ◌<◌, ◌≤◌, Bool, true, false, cond, not, ◌&&◌, ◌||◌, List, [], ◌∷◌, ◌++◌, map, length, Option, Some, None, is_some, inl, inr, refl, ap, sym, subst, ◌∙◌, append_assoc, append-nil, arith}
use Rattle.std.specs.Prelude.{◌⊎◌, filter, filter_map, find, slice_get, zip}
use Rattle.std.specs.List.{cons_option, list_all, list_any}
use Rattle.digest_core.specs.declared.Digest.{Digest}
use Rattle.chain_types.specs.declared.objects.Object.{Object}
use Rattle.chain_types.specs.declared.objects.ObjectKey.{ObjectKey}
use Rattle.chain_types.specs.declared.objects.Producer.{Producer}
use Rattle.chain_types.specs.declared.objects.Producer.TheVariants as producers
use Rattle.chain_types.specs.declared.transactions.Transaction.{Transaction}
use Rattle.protocol_spec.specs.declared.answers.Held.{Held}
use Rattle.chain_types.specs.Equal.{digest_eq}
use Rattle.protocol_spec.proofs.Equality.{digest_same, test_turned, digest_self}
use Rattle.protocol_spec.specs.Chain.Words.{Along, Each, first_of, first_some, repeats, where_true}
use Rattle.protocol_spec.specs.Chain.Keys.{fits}
use Rattle.protocol_spec.proofs.ListLemmas.{and-first, and-second}
use Rattle.protocol_spec.proofs.Truth.{or_false_left, or_false_right, or_true, or_left, or_right}
use Rattle.protocol_spec.specs.Block.Execution.{execution}
use Rattle.protocol_spec.specs.Member.Versions.{Execution, Version, is_executed, versions}
use Rattle.protocol_spec.specs.Member.Rounds.{Books, Wanted, found, is_due, is_maker_done, is_origin_done, left, left_as, may_run, missing, wants_of}
use Rattle.exec_plan.specs.declared.task.Carry.{Carry}
use Rattle.exec_plan.specs.declared.task.Outcome.{Outcome}
use Rattle.exec_plan.specs.declared.task.Outcome.TheVariants as outcomes
use Rattle.exec_plan.specs.declared.task.Want.{Want}
use Rattle.exec_plan.specs.Books.{AreApart, digest_of_held}
use Rattle.exec_plan.specs.Layers.{in_turn, is_maker_planned, is_planned, is_supplied, joins_layer, layer_of, layers_within, planned_of}
use Rattle.exec_plan.specs.Makers.{is_made}
use Rattle.exec_plan.specs.Planning.{LeavesTheLeft}
use Rattle.exec_plan.specs.Tasks.{carry_as, edges_of, key_lacking, lacking, left_by, left_of_outputs, links_of, object_of, outcome_for, outcome_of, outcome_on, outputs_of, task_of, tasks_after, tasks_of, want_as}
use Rattle.exec_plan.proofs.Carrying.{came, came_at, keeps_rounds}
use Rattle.exec_plan.proofs.Following.{executed_join}
use Rattle.exec_plan.proofs.Layering.{AreNewcomers, AreStrangers, Joins, clash, each_planned, found_apart, joins, planned_along, planned_join, stranger_by, strangers, turn_join, turn_planned, turns_are_rounds}
use Rattle.exec_plan.proofs.Linking.{inputs_at, links, outs_after, outs_are}
use Rattle.exec_plan.proofs.Settling.{AreOthers}

-- ---- every due certificate is planned

abbrev is_out : List Held → Held → Bool
is_out planned h = not (is_planned planned h.digest)

module _ (b : Books) (executed : List Execution) where
  abbrev joining : List Held → Held → Bool
  joining planned = joins_layer b executed planned

  -- a certificate of a list that passes is planned with those that pass
  passes_planned : (test : Held → Bool) (hs : List Held) (place : ℕ) (h : Held) → slice_get hs place ≡ Some h → test h ≡ true → is_planned (filter test hs) h.digest ≡ true
  passes_planned test [] place h at is = absurd (cc)
  passes_planned test (k ∷ ks) zero h at is =
      ap (λ c. is_planned (cond c (k ∷ filter test ks) (filter test ks)) h.digest) (ap test same ∙ is)
      ∙ or_left (digest_eq k.digest h.digest) (is_planned (filter test ks) h.digest) (ap (λ (x : Held). digest_eq x.digest h.digest) same ∙ digest_self h.digest)
    where
      same : k ≡ h
      same = cc
  passes_planned test (k ∷ ks) (suc n) h at is = go (test k) (passes_planned test ks n h at is)
    where
      go : (c : Bool) → is_planned (filter test ks) h.digest ≡ true → is_planned (cond c (k ∷ filter test ks) (filter test ks)) h.digest ≡ true
      go true there = or_right (digest_eq k.digest h.digest) (is_planned (filter test ks) h.digest) there
      go false there = there

  -- each layer takes its certificates from those that were not planned
  fewer : (planned layer hs : List Held) → ((place : ℕ) (h : Held) → slice_get hs place ≡ Some h → joining planned h ≡ true → is_planned layer h.digest ≡ true)
      → length (filter (is_out (planned ++ layer)) hs) + length (filter (joining planned) hs) ≤ length (filter (is_out planned) hs)
  fewer planned layer [] each = omega arith
  fewer planned layer (h ∷ hs) each =
      go (joining planned h) refl (is_planned planned h.digest) refl (is_planned (planned ++ layer) h.digest) (planned_join planned layer h.digest) (fewer planned layer hs (λ place k at. each (suc place) k at))
    where
      outs : List Held
      outs = filter (is_out (planned ++ layer)) hs

      before : List Held
      before = filter (is_out planned) hs

      ins : List Held
      ins = filter (joining planned) hs

      go : (j : Bool) → joining planned h ≡ j → (p : Bool) → is_planned planned h.digest ≡ p → (q : Bool) → q ≡ (is_planned planned h.digest || is_planned layer h.digest) → length outs + length ins ≤ length before
          → length (cond (not q) (h ∷ outs) outs) + length (cond j (h ∷ ins) ins) ≤ length (cond (not p) (h ∷ before) before)
      go true join true pl q is more = absurd (clash pl (joins b executed planned h join).not_planned)
      go true join false pl true is more = omega (arith, more)
      go true join false pl false is more = absurd (clash (each 0 h refl join) (or_false_right (is_planned planned h.digest) (is_planned layer h.digest) (sym is)))
      go false join true pl true is more = more
      go false join true pl false is more = absurd (clash pl (or_false_left (is_planned planned h.digest) (is_planned layer h.digest) (sym is)))
      go false join false pl true is more = omega (arith, more)
      go false join false pl false is more = omega (arith, more)

  -- none joins after as many layers as there were certificates that were not planned
  none_joins : (n : ℕ) (planned : List Held) → length (filter (is_out planned) b.held) ≤ n → (place : ℕ) (h : Held) → slice_get b.held place ≡ Some h
      → joining (planned ++ layers_within n b executed planned) h ≡ false
  none_joins zero planned few place h at = go (joining (planned ++ []) h) refl
    where
      counted : (hs : List Held) (i : ℕ) → slice_get hs i ≡ Some h → is_planned planned h.digest ≡ false → 0 < length (filter (is_out planned) hs)
      counted [] i at out = absurd (cc)
      counted (k ∷ ks) zero at out =
          let same : k ≡ h = cc in
          let kept : length (cond (is_out planned k) (k ∷ filter (is_out planned) ks) (filter (is_out planned) ks)) ≡ suc (length (filter (is_out planned) ks)) =
          ap (λ c. length (cond (not c) (k ∷ filter (is_out planned) ks) (filter (is_out planned) ks))) (ap (λ (x : Held). is_planned planned x.digest) same ∙ out) in
          omega (arith, kept)
      counted (k ∷ ks) (suc i) at out = more (is_out planned k) (counted ks i at out)
        where
          more : (c : Bool) → 0 < length (filter (is_out planned) ks) → 0 < length (cond c (k ∷ filter (is_out planned) ks) (filter (is_out planned) ks))
          more true lt = omega arith
          more false lt = lt

      go : (j : Bool) → joining (planned ++ []) h ≡ j → joining (planned ++ []) h ≡ false
      go false e = e
      go true e =
          let out : is_planned planned h.digest ≡ false = ap (λ (hs : List Held). is_planned hs h.digest) (sym (append-nil planned)) ∙ (joins b executed (planned ++ []) h e).not_planned in
          let some = counted b.held place at out in
          absurd (omega (arith, some, few))
  none_joins (suc n) planned few place h at =
      subst (λ (hs : List Held). joining hs h ≡ false) (append_assoc planned layer (layers_within n b executed (planned ++ layer)))
      (go (layer_of b executed planned) refl (λ less. none_joins n (planned ++ layer_of b executed planned) less place h at))
    where
      layer : List Held
      layer = layer_of b executed planned

      lower : length (filter (is_out (planned ++ layer)) b.held) + length layer ≤ length (filter (is_out planned) b.held)
      lower = fewer planned layer b.held (λ p k e join. passes_planned (joining planned) b.held p k e join)

      -- if the layer is empty, all after it are
      ends : (m : ℕ) → layer ≡ [] → layers_within m b executed planned ≡ []
      ends zero none = refl
      ends (suc m) none = ap (λ l. l ++ layers_within m b executed (planned ++ l)) none ∙ ap (layers_within m b executed) (append-nil planned) ∙ ends m none

      empty : layer ≡ [] → joining planned h ≡ false
      empty none = test (joining planned h) refl
        where
          test : (c : Bool) → joining planned h ≡ c → joining planned h ≡ false
          test false e = e
          test true e = absurd (clash (passes_planned (joining planned) b.held place h at e) (ap (λ (hs : List Held). is_planned hs h.digest) none))

      go : (hs : List Held) → layer ≡ hs → (length (filter (is_out (planned ++ layer)) b.held) ≤ n → joining ((planned ++ layer) ++ layers_within n b executed (planned ++ layer)) h ≡ false)
          → joining ((planned ++ layer) ++ layers_within n b executed (planned ++ layer)) h ≡ false
      go [] none more =
          ap (λ (hs : List Held). joining ((planned ++ hs) ++ layers_within n b executed (planned ++ hs)) h) none
          ∙ ap (λ (hs : List Held). joining (hs ++ layers_within n b executed hs) h) (append-nil planned)
          ∙ ap (λ (hs : List Held). joining (planned ++ hs) h) (ends n none)
          ∙ ap (λ (hs : List Held). joining hs h) (append-nil planned)
          ∙ empty none
      go (k ∷ ks) some more =
          let counted : length layer ≡ suc (length ks) = ap length some in
          let low = lower in
          more (omega (arith, few, low, counted))

  all_out : (hs : List Held) → length (filter (is_out []) hs) ≤ length hs
  all_out [] = omega arith
  all_out (h ∷ hs) = let rest = all_out hs in omega (arith, rest)

  pub none_joins_plan : (place : ℕ) (h : Held) → slice_get b.held place ≡ Some h → joining (planned_of b executed) h ≡ false
  unfolding planned_of
  none_joins_plan place h at = none_joins (length b.held) [] (all_out b.held) place h at

-- ---- what a due certificate lacked

-- the first want of which nothing is there is the first version that is missing
module _ (want : Wanted → Want) (named : (w : Wanted) → (want w).key ≡ w.key) (held : List Version) where
  abbrev there : Wanted → Carry
  there w = carry_as (found held w)

  abbrev lacks : List Wanted → Option Want
  lacks ws = first_of lacking (zip (map want ws) (map there ws))

  abbrev key_in : Option Want → Option ObjectKey
  key_in None = None
  key_in (Some w) = Some w.key

  first_lacks : (ws : List Wanted) → key_in (lacks ws) ≡ first_of (missing held) ws
  first_lacks [] = refl
  first_lacks (w ∷ ws) = go (found held w) (first_lacks ws)
    where
      alone : (o : Option Want) → key_in (first_some (o ∷ [])) ≡ key_in o
      alone None = refl
      alone (Some v) = refl

      same : (o : Option ObjectKey) → first_some (o ∷ []) ≡ o
      same None = refl
      same (Some k) = refl

      go : (f : Option Object) → key_in (lacks ws) ≡ first_of (missing held) ws
          → key_in (first_some (lacking (want w, carry_as f) ∷ lacks ws ∷ [])) ≡ first_some (where_true (not (is_some f)) w.key ∷ first_of (missing held) ws ∷ [])
      go None rest = ap Some (named w)
      go (Some o) rest = alone (lacks ws) ∙ rest ∙ sym (same (first_of (missing held) ws))

  -- so what came of a task says what is missing
  came_key : (t : Transaction) (ws : List Wanted) → key_lacking (outcome_on t (map there ws) (lacks ws)) ≡ first_of (missing held) ws
  came_key t ws = go (lacks ws) ∙ first_lacks ws
    where
      fitting : (c : Bool) (objects : List Object) → key_lacking (cond c (outcomes.Done (execution t objects)) outcomes.Unfit) ≡ None
      fitting true objects = refl
      fitting false objects = refl

      go : (o : Option Want) → key_lacking (outcome_on t (map there ws) o) ≡ key_in o
      go (Some w) = refl
      go None = fitting (fits t (filter_map object_of (map there ws))) (filter_map object_of (map there ws))

-- versions that others made later are missing as before
missing_apart : (opening : List Object) (before more : List Execution) (ws : List Wanted) → Each (AreStrangers more) ws
    → first_of (missing (versions opening (before ++ more))) ws ≡ first_of (missing (versions opening before)) ws
missing_apart opening before more [] others = refl
missing_apart opening before more (w ∷ ws) others =
    ap (λ f. first_some (where_true (not (is_some f)) w.key ∷ first_of (missing (versions opening (before ++ more))) ws ∷ [])) (found_apart opening before more w others.0)
    ∙ ap (λ o. first_some (missing (versions opening before) w ∷ o ∷ [])) (missing_apart opening before more ws others.1)

made_before : (before more : List Execution) (ws : List Wanted) → Each (AreStrangers more) ws → list_all (is_made (before ++ more)) ws ≡ list_all (is_made before) ws
made_before before more [] others = refl
made_before before more (w ∷ ws) others = ap (λ c. c && list_all (is_made (before ++ more)) ws) (by w.producer others.0) ∙ ap (λ c. is_made before w && c) (made_before before more ws others.1)
  where
    none : (tx : Digest) (xs : List Execution) → AreOthers (producers.Tx tx) xs → is_executed xs tx ≡ false
    none tx [] others = refl
    none tx (x ∷ xs) others = ap (λ c. is_some (cond c (Some x) (find (λ (y : Execution). digest_eq y.digest tx) xs))) others.0 ∙ none tx xs others.1

    or_false : (c : Bool) → (c || false) ≡ c
    or_false true = refl
    or_false false = refl

    by : (p : Option Producer) → stranger_by more p → is_maker_done (before ++ more) p ≡ is_maker_done before p
    by None others = refl
    by (Some producers.Opening) others = refl
    by (Some (producers.Tx tx)) others = executed_join before more tx ∙ ap (λ c. is_executed before tx || c) (none tx more others) ∙ or_false (is_executed before tx)

along_behind : (b : Books) (executed : List Execution) (xs ys before : List Held) → Along (Joins b executed) before (xs ++ ys) → Along (Joins b executed) (before ++ xs) ys
along_behind b executed [] ys before along = subst (λ f. Along (Joins b executed) f ys) (sym (append-nil before)) along
along_behind b executed (x ∷ xs) ys before along = subst (λ f. Along (Joins b executed) f ys) (append_assoc before (x ∷ []) xs) (along_behind b executed xs ys (before ++ x ∷ []) along.1)

-- the later ones were neither executed nor planned before
along_new : (b : Books) (executed : List Execution) (hs front : List Held) → Along (Joins b executed) front hs → (tx : Digest) → is_planned hs tx ≡ true → (is_executed executed tx || is_planned front tx) ≡ false
along_new b executed [] front along tx there = absurd (cc)
along_new b executed (h ∷ hs) front along tx there = go (or_true (digest_eq h.digest tx) (is_planned hs tx) there) (along_new b executed hs (front ++ h ∷ []) along.1 tx)
  where
    both : (a c : Bool) → a ≡ false → c ≡ false → (a || c) ≡ false
    both a c p q = ap (λ x. x || c) p ∙ q

    go : (digest_eq h.digest tx ≡ true) ⊎ (is_planned hs tx ≡ true) → (is_planned hs tx ≡ true → (is_executed executed tx || is_planned (front ++ h ∷ []) tx) ≡ false) → (is_executed executed tx || is_planned front tx) ≡ false
    go (inl same) rest = subst (λ (d : Digest). (is_executed executed d || is_planned front d) ≡ false) (digest_same h.digest tx same) (both (is_executed executed h.digest) (is_planned front h.digest) along.0.not_before along.0.not_planned)
    go (inr behind) rest =
        let out = rest behind in
        both (is_executed executed tx) (is_planned front tx) (or_false_left (is_executed executed tx) (is_planned (front ++ h ∷ []) tx) out)
        (or_false_left (is_planned front tx) (is_planned (h ∷ []) tx) (sym (planned_join front (h ∷ []) tx) ∙ or_false_right (is_executed executed tx) (is_planned (front ++ h ∷ []) tx) out))

-- ---- where a planned certificate stands

record IsSplit (all : List Held) (tx : Digest) : Type 0 where
  front : List Held
  of : Held
  back : List Held
  whole : all ≡ front ++ of ∷ back
  named : digest_eq of.digest tx ≡ true
  first : is_planned front tx ≡ false

split_at : (hs : List Held) (tx : Digest) → is_planned hs tx ≡ true → IsSplit hs tx
split_at [] tx there = absurd (cc)
split_at (h ∷ hs) tx there = go (digest_eq h.digest tx) refl there (split_at hs tx)
  where
    go : (c : Bool) → digest_eq h.digest tx ≡ c → (c || is_planned hs tx) ≡ true → (is_planned hs tx ≡ true → IsSplit hs tx) → IsSplit (h ∷ hs) tx
    go true is there more = record { front = []; of = h; back = hs; whole = refl; named = is; first = refl }
    go false is there more =
        let rest = more there in
        record {
          front = h ∷ rest.front;
          of = rest.of;
          back = rest.back;
          whole = ap (λ ks. h ∷ ks) rest.whole;
          named = rest.named;
          first = ap (λ c. c || is_planned rest.front tx) is ∙ rest.first;
        }

-- if no transaction is held twice, a transaction has one certificate
listed : (hs : List Held) (place : ℕ) (h : Held) → slice_get hs place ≡ Some h → (tx : Digest) → digest_eq tx h.digest ≡ true → list_any (digest_eq tx) (map digest_of_held hs) ≡ true
listed [] place h at tx is = absurd (cc)
listed (k ∷ ks) zero h at tx is = or_left (digest_eq tx k.digest) (list_any (digest_eq tx) (map digest_of_held ks)) (ap (λ (x : Held). digest_eq tx x.digest) same ∙ is)
  where
    same : k ≡ h
    same = cc
listed (k ∷ ks) (suc n) h at tx is = or_right (digest_eq tx k.digest) (list_any (digest_eq tx) (map digest_of_held ks)) (listed ks n h at tx is)

same_held : (hs : List Held) → AreApart hs → (p q : ℕ) (h k : Held) → slice_get hs p ≡ Some h → slice_get hs q ≡ Some k → digest_eq k.digest h.digest ≡ true → digest_eq h.digest k.digest ≡ true → k ≡ h
same_held [] apart p q h k at there is back = absurd (cc)
same_held (x ∷ xs) apart zero zero h k at there is back = cc
same_held (x ∷ xs) apart zero (suc q) h k at there is back =
    absurd (clash (listed xs q k there x.digest (ap (λ (y : Held). digest_eq y.digest k.digest) same ∙ back)) (or_false_left (list_any (digest_eq x.digest) (map digest_of_held xs)) (repeats digest_eq (map digest_of_held xs)) apart))
  where
    same : x ≡ h
    same = cc
same_held (x ∷ xs) apart (suc p) zero h k at there is back =
    absurd (clash (listed xs p h at x.digest (ap (λ (y : Held). digest_eq y.digest h.digest) same ∙ is)) (or_false_left (list_any (digest_eq x.digest) (map digest_of_held xs)) (repeats digest_eq (map digest_of_held xs)) apart))
  where
    same : x ≡ k
    same = cc
same_held (x ∷ xs) apart (suc p) (suc q) h k at there is back = same_held xs (or_false_right (list_any (digest_eq x.digest) (map digest_of_held xs)) (repeats digest_eq (map digest_of_held xs)) apart) p q h k at there is back

-- each certificate of a list has a place
each_placed : (hs : List Held) → Each (λ (k : Held). (place : ℕ) × (slice_get hs place ≡ Some k)) hs
each_placed [] = tt
each_placed (h ∷ hs) = ((0, refl), behind hs (each_placed hs))
  where
    behind : (ks : List Held) → Each (λ (k : Held). (place : ℕ) × (slice_get hs place ≡ Some k)) ks → Each (λ (k : Held). (place : ℕ) × (slice_get (h ∷ hs) place ≡ Some k)) ks
    behind [] each = tt
    behind (k ∷ ks) each = ((suc each.0.0, each.0.1), behind ks each.1)

each_behind : {A : Type 0} (P : A → Type 0) (xs ys : List A) (y : A) → Each P (xs ++ y ∷ ys) → P y
each_behind P [] ys y each = each.0
each_behind P (x ∷ xs) ys y each = each_behind P xs ys y each.1

-- what is said of each if a test holds
filtered : {A B : Type 0} (f : A → Option B) (test : A → Bool) (says : A → B) (xs : List A) → ((place : ℕ) (x : A) → slice_get xs place ≡ Some x → f x ≡ where_true (test x) (says x)) → filter_map f xs ≡ map says (filter test xs)
filtered f test says [] each = refl
filtered f test says (x ∷ xs) each =
    ap (λ o. cons_option o (filter_map f xs)) (each 0 x refl)
    ∙ ap (cons_option (where_true (test x) (says x))) (filtered f test says xs (λ place y at. each (suc place) y at))
    ∙ go (test x)
  where
    go : (c : Bool) → cons_option (where_true c (says x)) (map says (filter test xs)) ≡ map says (cond c (x ∷ filter test xs) (filter test xs))
    go true = refl
    go false = refl

-- ---- what is left

module _ (b : Books) (executed : List Execution) (apart : AreApart b.held) where
  abbrev planned : List Held
  planned = planned_of b executed

  abbrev vs : List Version
  vs = versions b.opening executed

  abbrev after : List Execution
  after = executed ++ in_turn b executed planned

  along : Along (Joins b executed) [] planned
  along = planned_along b executed apart

  -- what makes a wanted version was executed, so it is supplied
  supplied : (ws : List Wanted) → list_all (is_made after) ws ≡ true → list_all (is_supplied executed planned) ws ≡ true
  supplied [] made = refl
  supplied (w ∷ ws) made =
      both (is_supplied executed planned w) (list_all (is_supplied executed planned) ws) (by w.producer (and-first (is_made after w) (list_all (is_made after) ws) made))
      (supplied ws (and-second (is_made after w) (list_all (is_made after) ws) made))
    where
      both : (x y : Bool) → x ≡ true → y ≡ true → (x && y) ≡ true
      both x y p q = ap (λ z. z && y) p ∙ q

      by : (p : Option Producer) → is_maker_done after p ≡ true → is_maker_planned executed planned p ≡ true
      by None made = refl
      by (Some producers.Opening) made = refl
      by (Some (producers.Tx tx)) made = either (or_true (is_executed executed tx) (is_executed (in_turn b executed planned) tx) (sym (executed_join executed (in_turn b executed planned) tx) ∙ made))
        where
          either : (is_executed executed tx ≡ true) ⊎ (is_executed (in_turn b executed planned) tx ≡ true) → (is_executed executed tx || is_planned planned tx) ≡ true
          either (inl ran) = or_left (is_executed executed tx) (is_planned planned tx) ran
          either (inr ran) = or_right (is_executed executed tx) (is_planned planned tx) (turn_planned b planned executed tx ran)

  -- what it takes to be due
  record IsDue (h : Held) : Type 0 where
    first : is_executed after h.digest ≡ false
    may : may_run b h ≡ true
    made : list_all (is_made after) (wants_of b.admission h) ≡ true

  due : (h : Held) → is_due b after h ≡ true → IsDue h
  due h is = go (is_executed after h.digest) refl (may_run b h) refl (list_all (is_origin_done after) h.cert.origins) (list_all (is_made after) (wants_of b.admission h)) refl is
    where
      go : (e : Bool) → is_executed after h.digest ≡ e → (m : Bool) → may_run b h ≡ m → (o c : Bool) → list_all (is_made after) (wants_of b.admission h) ≡ c → (not e && m && o && c) ≡ true → IsDue h
      go true ran m may o c made is = absurd (cc)
      go false ran false may o c made is = absurd (cc)
      go false ran true may false c made is = absurd (cc)
      go false ran true may true false made is = absurd (cc)
      go false ran true may true true made is = record { first = ran; may = may; made = made }

  due_planned : (place : ℕ) (h : Held) → slice_get b.held place ≡ Some h → IsDue h → is_planned planned h.digest ≡ true
  due_planned place h at is = go (is_planned planned h.digest) refl
    where
      not_before : is_executed executed h.digest ≡ false
      not_before = or_false_left (is_executed executed h.digest) (is_executed (in_turn b executed planned) h.digest) (sym (executed_join executed (in_turn b executed planned) h.digest) ∙ is.first)

      joins_all : is_planned planned h.digest ≡ false → joins_layer b executed planned h ≡ true
      joins_all out =
          ap (λ e. not e && not (is_planned planned h.digest) && may_run b h && list_all (is_supplied executed planned) (wants_of b.admission h)) not_before
          ∙ ap (λ p. not p && may_run b h && list_all (is_supplied executed planned) (wants_of b.admission h)) out
          ∙ ap (λ m. m && list_all (is_supplied executed planned) (wants_of b.admission h)) is.may
          ∙ supplied (wants_of b.admission h) is.made

      go : (c : Bool) → is_planned planned h.digest ≡ c → is_planned planned h.digest ≡ true
      go true e = e
      go false e = absurd (clash (joins_all e) (none_joins_plan b executed place h at))

  -- what came of a due certificate's task says what is missing
  module _ (place : ℕ) (h : Held) (at : slice_get b.held place ≡ Some h) (is : IsDue h) where
    split : IsSplit planned h.digest
    split = split_at planned h.digest (due_planned place h at is)

    itself : split.of ≡ h
    itself =
        let placed = each_behind (λ (k : Held). (p : ℕ) × (slice_get b.held p ≡ Some k)) split.front split.back split.of
        (subst (λ hs. Each (λ (k : Held). (p : ℕ) × (slice_get b.held p ≡ Some k)) hs) split.whole (each_planned b executed (λ (k : Held). (p : ℕ) × (slice_get b.held p ≡ Some k)) (each_placed b.held))) in
        same_held b.held apart place placed.0 h split.of at placed.1 split.named (test_turned digest_eq digest_same digest_self h.digest split.of.digest ∙ split.named)

    whole : planned ≡ split.front ++ h ∷ split.back
    whole = split.whole ∙ ap (λ (k : Held). split.front ++ k ∷ split.back) itself

    abbrev before : List Execution
    before = executed ++ in_turn b executed split.front

    abbrev more : List Execution
    more = in_turn b before (h ∷ split.back)

    after_is : after ≡ before ++ more
    after_is =
        ap (λ hs. executed ++ in_turn b executed hs) whole
        ∙ ap (λ e. executed ++ e) (turn_join b executed split.front (h ∷ split.back))
        ∙ sym (append_assoc executed (in_turn b executed split.front) more)

    behind : Along (Joins b executed) split.front (h ∷ split.back)
    behind = along_behind b executed split.front (h ∷ split.back) [] (subst (λ hs. Along (Joins b executed) [] hs) whole along)

    new : AreNewcomers executed split.front more
    new tx ran = along_new b executed (h ∷ split.back) split.front behind tx (turn_planned b (h ∷ split.back) before tx ran)

    others : Each (AreStrangers more) (wants_of b.admission h)
    others = strangers executed split.front more new (wants_of b.admission h) behind.0.all

    made : list_all (is_made before) (wants_of b.admission h) ≡ true
    made = sym (made_before before more (wants_of b.admission h) others) ∙ ap (λ e. list_all (is_made e) (wants_of b.admission h)) (sym after_is) ∙ is.made

    abbrev comes : Outcome
    comes = outcome_of (task_of vs b.admission (links vs b.admission planned) split.front h) (inputs_at vs b.admission planned (length split.front))

    key_is : key_lacking comes ≡ first_of (missing (versions b.opening after)) (wants_of b.admission h)
    key_is =
        ap key_lacking (came b executed planned split.front split.back h whole along made)
        ∙ came_key (want_as vs split.front) (λ w. refl) (versions b.opening before) h.cert.tx (wants_of b.admission h)
        ∙ sym (missing_apart b.opening before more (wants_of b.admission h) others)
        ∙ ap (λ e. first_of (missing (versions b.opening e)) (wants_of b.admission h)) (sym after_is)

    found_out : outcome_for (outputs_of b executed) h.digest ≡ Some comes
    unfolding outputs_of edges_of tasks_of links_of
    found_out =
        ap (λ os. outcome_for os h.digest) (outs_are vs b.admission planned)
        ∙ ap (λ hs. outcome_for (outs_after vs b.admission planned 0 (tasks_after vs b.admission (links vs b.admission planned) [] hs)) h.digest) whole
        ∙ came_at b executed planned split.front [] split.back h split.first

    left_same : left_by b after h (outcome_for (outputs_of b executed) h.digest) ≡ where_true (is_due b after h) (left_as b after h)
    left_same =
        ap (left_by b after h) found_out
        ∙ ap (λ k. where_true (is_due b after h) (record { tx = h.digest; key = k })) key_is

  each_left : (place : ℕ) (h : Held) → slice_get b.held place ≡ Some h → left_by b after h (outcome_for (outputs_of b executed) h.digest) ≡ where_true (is_due b after h) (left_as b after h)
  each_left place h at = go (is_due b after h) refl
    where
      rests : (o : Option Outcome) → is_due b after h ≡ false → left_by b after h o ≡ None
      rests None is = refl
      rests (Some o) is = ap (λ c. where_true c (record { tx = h.digest; key = key_lacking o })) is

      go : (c : Bool) → is_due b after h ≡ c → left_by b after h (outcome_for (outputs_of b executed) h.digest) ≡ where_true (is_due b after h) (left_as b after h)
      go true is = left_same place h at (due h is)
      go false is = rests (outcome_for (outputs_of b executed) h.digest) is ∙ sym (ap (λ c. where_true c (left_as b after h)) is)

  leaves : left_of_outputs b after (outputs_of b executed) ≡ left b after
  unfolding left_of_outputs left
  leaves = filtered (λ (h : Held). left_by b after h (outcome_for (outputs_of b executed) h.digest)) (is_due b after) (left_as b after) b.held each_left

pub leaves_left : LeavesTheLeft
leaves_left b executed apart =
    ap (λ e. left_of_outputs b (executed ++ e) (outputs_of b executed)) (keeps_rounds b executed apart ∙ sym (turns_are_rounds b executed apart))
    ∙ leaves b executed apart
    ∙ ap (λ e. left b (executed ++ e)) (turns_are_rounds b executed apart)
