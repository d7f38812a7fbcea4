-- A task whose makers are all kept gets what is present after what is kept, so what is kept is what is ready in turn.
use Rattle.std.proofs.Common.{◌≡◌, ℕ, suc, ◌+◌, Bool, true, false, cond, not, ◌&&◌, ◌||◌, List, [], ◌∷◌, ◌++◌, map, length, Option, Some, None, is_some, inl, inr, refl, ap, sym, subst, ◌∙◌, append_assoc, append-nil, arith}
use Rattle.std.specs.Prelude.{◌⊎◌, filter_map, find, flat_map, option_map, slice_get, zip}
use Rattle.std.specs.List.{cons_option, list_all, list_any}
use Rattle.std.proofs.lemmas.Option.{same_Some}
use Rattle.digest_core.specs.declared.Digest.{Digest}
use Rattle.chain_types.specs.declared.objects.Object.{Object}
use Rattle.chain_types.specs.declared.objects.ObjectKey.{ObjectKey}
use Rattle.chain_types.specs.declared.objects.Producer.{Producer}
use Rattle.chain_types.specs.declared.objects.Producer.TheVariants as producers
use Rattle.protocol_spec.specs.declared.pieces.Executed.{Executed}
use Rattle.protocol_spec.specs.declared.answers.Held.{Held}
use Rattle.chain_types.specs.Equal.{digest_eq, key_eq}
use Rattle.protocol_spec.proofs.Equality.{digest_same, digest_self}
use Rattle.protocol_spec.proofs.Executions.{effects_tx, versions_more}
use Rattle.protocol_spec.specs.Chain.Words.{Along, Each, all_some, first_of, first_some, onto_some, where_true}
use Rattle.protocol_spec.specs.Chain.Keys.{fits, object_key}
use Rattle.protocol_spec.proofs.ListLemmas.{and-first, and-second, find_back, find_front}
use Rattle.protocol_spec.proofs.Truth.{or_false_left, or_false_right, or_true, or_left, or_right}
use Rattle.protocol_spec.specs.Block.Execution.{execution, written_keys}
use Rattle.protocol_spec.specs.Member.Versions.{Execution, Version, is_executed, object_in, opened, versions, written, written_by}
use Rattle.protocol_spec.specs.Member.Admission.{Admission}
use Rattle.protocol_spec.specs.Member.Rounds.{Books, Wanted, executes_as, found, is_maker_done, is_wanted, may_run, present, ready, ready_as, ready_on, wants_of, writes_new}
use Rattle.version_store.specs.Stores.{Stored}
use Rattle.exec_plan.specs.declared.task.Carry.{Carry}
use Rattle.exec_plan.specs.declared.task.Carry.TheVariants as carries
use Rattle.exec_plan.specs.declared.task.Outcome.{Outcome}
use Rattle.exec_plan.specs.declared.task.Outcome.TheVariants as outcomes
use Rattle.exec_plan.specs.declared.task.Want.{Want}
use Rattle.exec_plan.specs.Books.{AreApart, IsSound}
use Rattle.exec_plan.specs.Keeping.{CanBeKept, IsNamed, kept_more}
use Rattle.exec_plan.specs.Layers.{in_turn, is_of, is_planned, onto_kept, planned_of}
use Rattle.exec_plan.specs.Makers.{is_made}
use Rattle.exec_plan.specs.Planning.{KeepsTheRounds}
use Rattle.exec_plan.specs.declared.link.Link.{Link}
use Rattle.exec_plan.specs.Tasks.{IsSoundTask, Planned, carried, carry_as, carry_of, edges_of, first_carry, is_at, is_not_run, is_origin_kept, keep_as, kept_of, lacking, link_as, link_of, links_of, maker_number, number_of, object_of, origin_of, other_carries, outcome_for, outcome_of, outcome_on, outcome_with, outputs_of, slot_as, task_of, tasks_after, tasks_of, want_as}
use Rattle.exec_plan.proofs.Following.{executed_join}
use Rattle.exec_plan.proofs.Layering.{Joins, clash, each_planned, found_apart, opening_other, planned_along, planned_join, stranger_by, turns_are_rounds}
use Rattle.exec_plan.proofs.Linking.{carry_on, count_tasks, inputs_are, inputs_at, links, outcome_at, outcome_in, outs_after, outs_are, tasks, tasks_join}
use Rattle.exec_plan.proofs.Making.{unmade_rests}
use Rattle.exec_plan.proofs.Readying.{is_ready, ready_alike}
use Rattle.exec_plan.proofs.Rounding.{at_front, longer}
use Rattle.exec_plan.proofs.Settling.{none_by, not_among, not_opened}

-- ---- searches

-- ---- numbers of tasks

number_planned : (tx : Digest) (hs : List Held) (n : ℕ) → number_of tx hs ≡ Some n → is_planned hs tx ≡ true
number_planned tx [] n e = absurd (cc)
number_planned tx (h ∷ hs) n e = go (is_of tx h) (number_of tx hs) e (number_planned tx hs)
  where
    go : (b : Bool) (o : Option ℕ) → cond b (Some 0) (option_map suc o) ≡ Some n → ((k : ℕ) → o ≡ Some k → is_planned hs tx ≡ true) → (b || is_planned hs tx) ≡ true
    go true o e more = refl
    go false None e more = absurd (cc)
    go false (Some k) e more = more k refl

unnumbered : (tx : Digest) (hs : List Held) → number_of tx hs ≡ None → is_planned hs tx ≡ false
unnumbered tx [] e = refl
unnumbered tx (h ∷ hs) e = go (is_of tx h) (number_of tx hs) e (unnumbered tx hs)
  where
    go : (b : Bool) (o : Option ℕ) → cond b (Some 0) (option_map suc o) ≡ None → (o ≡ None → is_planned hs tx ≡ false) → (b || is_planned hs tx) ≡ false
    go true o e more = absurd (cc)
    go false None e more = more refl
    go false (Some k) e more = absurd (cc)

-- the number of a transaction after one more certificate: the same, or that of this one
number_push : (tx : Digest) (hs : List Held) (h : Held) (n : ℕ) → number_of tx (hs ++ h ∷ []) ≡ Some n
    → (number_of tx hs ≡ Some n) ⊎ ((number_of tx hs ≡ None) × (is_of tx h ≡ true) × (n ≡ length hs))
number_push tx [] h n e = go (is_of tx h) refl e
  where
    go : (b : Bool) → is_of tx h ≡ b → cond b (Some 0) None ≡ Some n → (number_of tx [] ≡ Some n) ⊎ ((number_of tx [] ≡ None) × (is_of tx h ≡ true) × (n ≡ 0))
    go true is e = inr (refl, is, sym (same_Some 0 n e))
    go false is e = absurd (cc)
number_push tx (k ∷ ks) h n e = go (is_of tx k) (number_of tx (ks ++ h ∷ [])) e (number_push tx ks h)
  where
    go : (b : Bool) (o : Option ℕ) → cond b (Some 0) (option_map suc o) ≡ Some n
        → ((m : ℕ) → o ≡ Some m → (number_of tx ks ≡ Some m) ⊎ ((number_of tx ks ≡ None) × (is_of tx h ≡ true) × (m ≡ length ks)))
        → (cond b (Some 0) (option_map suc (number_of tx ks)) ≡ Some n) ⊎ ((cond b (Some 0) (option_map suc (number_of tx ks)) ≡ None) × (is_of tx h ≡ true) × (n ≡ suc (length ks)))
    go true o e more = inl e
    go false None e more = absurd (cc)
    go false (Some m) e more = either (more m refl)
      where
        next : suc m ≡ n
        next = same_Some (suc m) n e

        either : (number_of tx ks ≡ Some m) ⊎ ((number_of tx ks ≡ None) × (is_of tx h ≡ true) × (m ≡ length ks))
            → (option_map suc (number_of tx ks) ≡ Some n) ⊎ ((option_map suc (number_of tx ks) ≡ None) × (is_of tx h ≡ true) × (n ≡ suc (length ks)))
        either (inl is) = inl (ap (option_map suc) is ∙ ap Some next)
        either (inr (none, of, is)) = inr (ap (option_map suc) none, of, sym next ∙ ap suc is)

-- ---- what a transaction made

-- the objects with a key among those that a transaction wrote
made_by : (tx : Digest) (key : ObjectKey) (objects : List Object) → option_map object_in (find (is_wanted key (Some (producers.Tx tx))) (map (written tx) objects)) ≡ find (is_at key) objects
made_by tx key [] = refl
made_by tx key (o ∷ os) =
    ap (λ b. option_map object_in (cond b (Some (written tx o)) (find (is_wanted key (Some (producers.Tx tx))) (map (written tx) os))))
    (ap (λ b. key_eq (object_key o) key && b) (digest_self tx) ∙ and_true (key_eq (object_key o) key))
    ∙ go (key_eq (object_key o) key) (made_by tx key os)
  where
    and_true : (a : Bool) → (a && true) ≡ a
    and_true true = refl
    and_true false = refl

    go : (b : Bool) → option_map object_in (find (is_wanted key (Some (producers.Tx tx))) (map (written tx) os)) ≡ find (is_at key) os
        → option_map object_in (cond b (Some (written tx o)) (find (is_wanted key (Some (producers.Tx tx))) (map (written tx) os))) ≡ cond b (Some o) (find (is_at key) os)
    go true more = refl
    go false more = more

-- what the last transaction made is what it wrote
pub made_last : (opening : List Object) (before : List Execution) (x : Execution) (key : ObjectKey) → is_executed before x.digest ≡ false
    → found (versions opening (before ++ x ∷ [])) (record { key = key; producer = Some (producers.Tx x.digest) }) ≡ find (is_at key) x.gave.objects
unfolding versions
made_last opening before x key first =
    ap (λ vs. option_map object_in (find test vs)) (versions_more opening before (x ∷ []))
    ∙ ap (option_map object_in) (find_back test (map opened opening ++ flat_map written_by before) (flat_map written_by (x ∷ [])) before_none)
    ∙ ap (λ vs. option_map object_in (find test vs)) (append-nil (written_by x))
    ∙ made_by x.digest key x.gave.objects
  where
    test : Version → Bool
    test = is_wanted key (Some (producers.Tx x.digest))

    before_none : find test (map opened opening ++ flat_map written_by before) ≡ None
    before_none =
        find_back test (map opened opening) (flat_map written_by before) (not_opened key x.digest opening)
        ∙ none_by key (producers.Tx x.digest) before (not_among x.digest before first)

-- ---- what is there of the wants, all of which may be found or lack

module _ {W : Type 0} (want : W → Want) (there : W → Option Object) where
  alone : (o : Option Want) → first_some (o ∷ []) ≡ o
  alone None = refl
  alone (Some w) = refl

  abbrev pub lacks : List W → Option Want
  lacks ws = first_of lacking (zip (map want ws) (map (λ w. carry_as (there w)) ws))

  abbrev objects_in : List W → List Object
  objects_in ws = filter_map object_of (map (λ w. carry_as (there w)) ws)

  -- all are there, or the first that lacks is known
  abbrev IsSorted : List W → Type 0
  IsSorted ws = ((objects : List Object) × (all_some (map there ws) ≡ Some objects) × (lacks ws ≡ None) × (objects_in ws ≡ objects))
      ⊎ ((w : Want) × (all_some (map there ws) ≡ None) × (lacks ws ≡ Some w))

  sorted : (ws : List W) → IsSorted ws
  sorted [] = inl ([], refl, refl, refl)
  sorted (w ∷ ws) = go (there w) (sorted ws)
    where
      go : (o : Option Object) → IsSorted ws
          → ((objects : List Object) × (all_some (o ∷ map there ws) ≡ Some objects) × (first_some (lacking (want w, carry_as o) ∷ lacks ws ∷ []) ≡ None) × (cons_option (object_of (carry_as o)) (objects_in ws) ≡ objects))
          ⊎ ((x : Want) × (all_some (o ∷ map there ws) ≡ None) × (first_some (lacking (want w, carry_as o) ∷ lacks ws ∷ []) ≡ Some x))
      go None rest = inr (want w, refl, refl)
      go (Some o) (inl (objects, all, none, are)) = inl (o ∷ objects, ap (onto_some o) all, alone (lacks ws) ∙ none, ap (λ os. o ∷ os) are)
      go (Some o) (inr (x, none, first)) = inr (x, ap (onto_some o) none, alone (lacks ws) ∙ first)

-- ---- after what is kept

module _ (b : Books) (executed : List Execution) (all : List Held) where
  abbrev vs : List Version
  vs = versions b.opening executed

  abbrev a : Admission
  a = b.admission

  abbrev outcome : ℕ → Outcome
  outcome n = outcome_at vs a all n

  -- the version that a transaction makes
  abbrev made_of : List Execution → ObjectKey → Digest → Option Object
  made_of kept key tx = found (versions b.opening (executed ++ kept)) (record { key = key; producer = Some (producers.Tx tx) })

  -- the task was executed, and what is found of it is what it wrote
  pub record IsDone (kept : List Execution) (tx : Digest) (n : ℕ) : Type 0 where
    gave : Executed
    done : outcome n ≡ outcomes.Done gave
    made : (key : ObjectKey) → made_of kept key tx ≡ find (is_at key) gave.objects

  -- what is kept of the earlier tasks: only planned transactions, none executed before, each with what it wrote
  pub record Stands (front : List Held) (kept : List Execution) : Type 0 where
    fresh : (tx : Digest) → is_planned front tx ≡ true → is_executed executed tx ≡ false
    known : (tx : Digest) → is_executed kept tx ≡ true → is_planned front tx ≡ true
    done : (tx : Digest) (n : ℕ) → number_of tx front ≡ Some n → is_executed kept tx ≡ true → IsDone kept tx n

  module _ (front : List Held) (kept : List Execution) (stands : Stands front kept) where
    abbrev now : List Execution
    now = executed ++ kept

    abbrev there : Wanted → Option Object
    there w = found (versions b.opening now) w

    abbrev carry : Link → Carry
    carry l = carry_on vs a all l

    -- what was held is found
    here_stays : (w : Wanted) (o : Object) → found vs w ≡ Some o → there w ≡ Some o
    here_stays w o e = ap (λ held. option_map object_in (find test held)) (versions_more b.opening executed kept) ∙ go (find test vs) refl e
      where
        test : Version → Bool
        test = is_wanted w.key w.producer

        go : (f : Option Version) → find test vs ≡ f → option_map object_in f ≡ Some o → option_map object_in (find test (vs ++ flat_map written_by kept)) ≡ Some o
        go None is e = absurd (cc)
        go (Some v) is e = ap (option_map object_in) (find_front test vs (flat_map written_by kept) v is) ∙ e

    -- what no earlier task makes, none of the kept ones made
    lacks_still : (w : Wanted) → maker_number front w.producer ≡ None → there w ≡ found vs w
    lacks_still w none = found_apart b.opening executed kept w (go w.producer none)
      where
        go : (p : Option Producer) → maker_number front p ≡ None → stranger_by kept p
        go None none = tt
        go (Some producers.Opening) none = opening_other kept
        go (Some (producers.Tx tx)) none = not_among tx kept (out (is_executed kept tx) refl)
          where
            out : (c : Bool) → is_executed kept tx ≡ c → is_executed kept tx ≡ false
            out false e = e
            out true e = absurd (clash (stands.known tx e) (unnumbered tx front none))

    -- what a kept earlier task makes, its edge carries
    carried_is_found : (w : Wanted) (n to : ℕ) → maker_number front w.producer ≡ Some n → is_made now w ≡ true → carry (record { from = n; to = to; key = w.key }) ≡ carry_as (there w)
    carried_is_found w n to number made = go w.producer number made
      where
        go : (p : Option Producer) → maker_number front p ≡ Some n → is_maker_done now p ≡ true
            → carry_of (outcome n) w.key ≡ carry_as (option_map object_in (find (is_wanted w.key p) (versions b.opening now)))
        go None number made = absurd (cc)
        go (Some producers.Opening) number made = absurd (cc)
        go (Some (producers.Tx tx)) number made = either (or_true (is_executed executed tx) (is_executed kept tx) (sym (executed_join executed kept tx) ∙ made))
          where
            either : (is_executed executed tx ≡ true) ⊎ (is_executed kept tx ≡ true)
                → carry_of (outcome n) w.key ≡ carry_as (option_map object_in (find (is_wanted w.key (Some (producers.Tx tx))) (versions b.opening now)))
            either (inl before) = absurd (clash before (stands.fresh tx (number_planned tx front n number)))
            either (inr ran) =
                let is : IsDone kept tx n = stands.done tx n number ran in
                ap (λ (o : Outcome). carry_of o w.key) is.done ∙ ap carry_as (sym (is.made w.key))

    -- so if all makers are executed, what is there of each want is what is found
    carries_are : (ws : List Wanted) → list_all (is_made now) ws ≡ true
        → (carried (map (want_as vs front) ws) (map carry (filter_map (link_of vs front) ws)) ≡ map (λ w. carry_as (there w)) ws)
        × (list_any is_not_run (map carry (filter_map (link_of vs front) ws)) ≡ false)
    carries_are [] made = (refl, refl)
    carries_are (w ∷ ws) made =
        go (found vs w) refl (maker_number front w.producer) refl (and-first (is_made now w) (list_all (is_made now) ws) made)
        (carries_are ws (and-second (is_made now w) (list_all (is_made now) ws) made))
      where
        rest : List Carry
        rest = map carry (filter_map (link_of vs front) ws)

        wants : List Want
        wants = map (want_as vs front) ws

        inputs : Option Object → Option ℕ → List Carry
        inputs f m = map carry (cons_option (link_as (length front) w.key f m) (filter_map (link_of vs front) ws))

        Rest : Type 0
        Rest = (carried wants rest ≡ map (λ w. carry_as (there w)) ws) × (list_any is_not_run rest ≡ false)

        behind : (c : Carry) → c ≡ carry_as (there w) → carried wants rest ≡ map (λ w. carry_as (there w)) ws → c ∷ carried wants rest ≡ carry_as (there w) ∷ map (λ w. carry_as (there w)) ws
        behind c e more = ap (λ d. d ∷ carried wants rest) e ∙ ap (λ cs. carry_as (there w) ∷ cs) more

        runs : (o : Option Object) → list_any is_not_run rest ≡ false → (is_not_run (carry_as o) || list_any is_not_run rest) ≡ false
        runs None e = e
        runs (Some o) e = e

        go : (f : Option Object) → found vs w ≡ f → (m : Option ℕ) → maker_number front w.producer ≡ m → is_made now w ≡ true → Rest
            → (first_carry (slot_as f m) (inputs f m) ∷ carried wants (other_carries (slot_as f m) (inputs f m)) ≡ carry_as (there w) ∷ map (λ w. carry_as (there w)) ws)
            × (list_any is_not_run (inputs f m) ≡ false)
        go (Some o) is m number made more = (behind (carries.Object o) (ap carry_as (sym (here_stays w o is))) more.0, more.1)
        go None is None number made more = (behind carries.Lacks (ap carry_as (sym (lacks_still w number ∙ is))) more.0, more.1)
        go None is (Some n) number made more =
            let e : carry (record { from = n; to = length front; key = w.key }) ≡ carry_as (there w) = carried_is_found w n (length front) number made in
            (behind (carry (record { from = n; to = length front; key = w.key })) e more.0, ap (λ c. is_not_run c || list_any is_not_run rest) e ∙ runs (there w) more.1)

    makers_are : (ws : List Wanted) → list_all (is_origin_kept now) (map (want_as vs front) ws) ≡ list_all (is_made now) ws
    makers_are [] = refl
    makers_are (w ∷ ws) = ap (λ c. c && list_all (is_origin_kept now) (map (want_as vs front) ws)) (by w.producer) ∙ ap (λ c. is_made now w && c) (makers_are ws)
      where
        by : (p : Option Producer) → is_maker_done now (Some (origin_of p)) ≡ is_maker_done now p
        by None = refl
        by (Some p) = refl

    -- ---- one task

    module _ (h : Held) (back : List Held) (whole : all ≡ front ++ h ∷ back) (joined : Joins b executed front h) where
      abbrev task : Planned
      task = task_of vs a (links vs a all) front h

      abbrev ws : List Wanted
      ws = wants_of a h

      abbrev comes : Outcome
      comes = outcome_of task (inputs_at vs a all (length front))

      not_now : is_executed now h.digest ≡ false
      not_now = executed_join executed kept h.digest ∙ ap (λ c. c || is_executed kept h.digest) joined.not_before ∙ out (is_executed kept h.digest) refl
        where
          out : (c : Bool) → is_executed kept h.digest ≡ c → is_executed kept h.digest ≡ false
          out false e = e
          out true e = absurd (clash (stands.known h.digest e) joined.not_planned)

      ready_now : ready b now h ≡ ready_on b now h (all_some (map there ws))
      unfolding ready present
      ready_now =
          ap (λ e. cond (not e && may_run b h) (ready_on b now h (all_some (map there ws))) None) not_now
          ∙ ap (λ m. cond m (ready_on b now h (all_some (map there ws))) None) joined.may

      comes_as : list_all (is_made now) ws ≡ true → comes ≡ outcome_on h.cert.tx (map (λ w. carry_as (there w)) ws) (lacks (want_as vs front) there ws)
      comes_as made =
          ap (outcome_of task) (inputs_are vs a all front back h whole)
          ∙ ap (λ c. cond c outcomes.Waits (outcome_on h.cert.tx (carried wants inputs) (first_of lacking (zip wants (carried wants inputs))))) are.1
          ∙ ap (λ cs. outcome_on h.cert.tx cs (first_of lacking (zip wants cs))) are.0
        where
          wants : List Want
          wants = map (want_as vs front) ws

          inputs : List Carry
          inputs = map carry (filter_map (link_of vs front) ws)

          are : (carried wants inputs ≡ map (λ w. carry_as (there w)) ws) × (list_any is_not_run inputs ≡ false)
          are = carries_are ws made

      fitting : (objects : List Object) → list_all (is_made now) ws ≡ true → keep_as b.opening now task (outcome_with h.cert.tx objects) ≡ ready_on b now h (Some objects)
      fitting objects made = go (fits h.cert.tx objects)
        where
          gave : Executed
          gave = execution h.cert.tx objects

          go : (f : Bool) → keep_as b.opening now task (cond f (outcomes.Done gave) outcomes.Unfit) ≡ cond f (ready_as b now h gave) None
          go false = refl
          go true = ap (λ c. where_true (c && writes_new (versions b.opening now) (written_keys gave)) (executes_as h gave)) (makers_are ws ∙ made)

      waiting : list_all (is_made now) ws ≡ false → (o : Outcome) → keep_as b.opening now task o ≡ None
      waiting made (outcomes.Done gave) = ap (λ c. where_true (c && writes_new (versions b.opening now) (written_keys gave)) (executes_as h gave)) (makers_are ws ∙ made)
      waiting made (outcomes.Absent key origin) = refl
      waiting made outcomes.Unfit = refl
      waiting made outcomes.Waits = refl

      -- it is kept exactly if it is ready
      keep_is : keep_as b.opening now task comes ≡ ready b now h
      keep_is = go (list_all (is_made now) ws) refl
        where
          stored : Stored
          stored = record { opening = b.opening; executed = now }

          by : list_all (is_made now) ws ≡ true → IsSorted (want_as vs front) there ws
              → keep_as b.opening now task (outcome_on h.cert.tx (map (λ w. carry_as (there w)) ws) (lacks (want_as vs front) there ws)) ≡ ready_on b now h (all_some (map there ws))
          by made (inl (objects, found_all, none, are)) =
              ap (λ (o : Option Want). keep_as b.opening now task (outcome_on h.cert.tx (map (λ w. carry_as (there w)) ws) o)) none
              ∙ ap (λ os. keep_as b.opening now task (outcome_with h.cert.tx os)) are
              ∙ fitting objects made
              ∙ ap (ready_on b now h) (sym found_all)
          by made (inr (w, none, first)) =
              ap (λ (o : Option Want). keep_as b.opening now task (outcome_on h.cert.tx (map (λ w. carry_as (there w)) ws) o)) first
              ∙ ap (ready_on b now h) (sym none)

          go : (c : Bool) → list_all (is_made now) ws ≡ c → keep_as b.opening now task comes ≡ ready b now h
          go true made = ap (keep_as b.opening now task) (comes_as made) ∙ by made (sorted (want_as vs front) there ws) ∙ sym ready_now
          go false made = waiting made comes ∙ sym (sym (ready_alike stored a b.held h) ∙ unmade_rests stored a h made)

      -- ---- and after it the kept ones stand as before

      task_here : slice_get (tasks vs a all) (length front) ≡ Some task
      task_here =
          ap (λ (hs : List Held). slice_get (tasks_after vs a (links vs a all) [] hs) (length front)) whole
          ∙ ap (λ ts. slice_get ts (length front)) (tasks_join vs a (links vs a all) [] front (h ∷ back))
          ∙ ap (slice_get (tasks_after vs a (links vs a all) [] front ++ task ∷ tasks_after vs a (links vs a all) (front ++ h ∷ []) back)) (sym (count_tasks vs a (links vs a all) front []))
          ∙ at_front (tasks_after vs a (links vs a all) [] front) task (tasks_after vs a (links vs a all) (front ++ h ∷ []) back)

      kept_gave : (x : Execution) (o : Outcome) → keep_as b.opening now task o ≡ Some x → (gave : Executed) × (o ≡ outcomes.Done gave) × (x.gave ≡ gave)
      kept_gave x (outcomes.Done gave) e = (gave, refl, go (list_all (is_origin_kept now) task.wants && writes_new (versions b.opening now) (written_keys gave)) e)
        where
          go : (c : Bool) → where_true c (executes_as h gave) ≡ Some x → x.gave ≡ gave
          go true e = ap (λ (y : Execution). y.gave) (sym (same_Some (executes_as h gave) x e))
          go false e = absurd (cc)
      kept_gave x (outcomes.Absent key origin) e = absurd (cc)
      kept_gave x outcomes.Unfit e = absurd (cc)
      kept_gave x outcomes.Waits e = absurd (cc)

      of_this : (tx : Digest) → (digest_eq h.digest tx || false) ≡ true → h.digest ≡ tx
      of_this tx e = go (or_true (digest_eq h.digest tx) false e)
        where
          go : (digest_eq h.digest tx ≡ true) ⊎ (false ≡ true) → h.digest ≡ tx
          go (inl is) = digest_same h.digest tx is
          go (inr is) = absurd (cc)

      still_fresh : (tx : Digest) → is_planned (front ++ h ∷ []) tx ≡ true → is_executed executed tx ≡ false
      still_fresh tx there = go (or_true (is_planned front tx) (is_planned (h ∷ []) tx) (sym (planned_join front (h ∷ []) tx) ∙ there))
        where
          go : (is_planned front tx ≡ true) ⊎ (is_planned (h ∷ []) tx ≡ true) → is_executed executed tx ≡ false
          go (inl before) = stands.fresh tx before
          go (inr this) = subst (λ (d : Digest). is_executed executed d ≡ false) (of_this tx this) joined.not_before

      -- if it is not kept
      stands_without : Stands (front ++ h ∷ []) kept
      stands_without = record {
        fresh = still_fresh;
        known = λ tx ran. planned_join front (h ∷ []) tx ∙ or_left (is_planned front tx) (is_planned (h ∷ []) tx) (stands.known tx ran);
        done = λ tx n number ran. go tx n ran (number_push tx front h n number);
      }
        where
          go : (tx : Digest) (n : ℕ) → is_executed kept tx ≡ true → (number_of tx front ≡ Some n) ⊎ ((number_of tx front ≡ None) × (is_of tx h ≡ true) × (n ≡ length front)) → IsDone kept tx n
          go tx n ran (inl is) = stands.done tx n is ran
          go tx n ran (inr (none, of, is)) = absurd (clash (stands.known tx ran) (unnumbered tx front none))

      module _ (x : Execution) (gives : ready b now h ≡ Some x) where
        named : x.digest ≡ h.digest
        named = (is_ready b now h x gives).named

        ran_one : (tx : Digest) → is_executed (x ∷ []) tx ≡ true → h.digest ≡ tx
        ran_one tx ran = go (digest_eq x.digest tx) refl ran
          where
            go : (c : Bool) → digest_eq x.digest tx ≡ c → is_some (cond c (Some x) None) ≡ true → h.digest ≡ tx
            go true is ran = sym named ∙ digest_same x.digest tx is
            go false is ran = absurd (cc)

        other : (tx : Digest) → is_planned front tx ≡ true → is_executed (x ∷ []) tx ≡ false
        other tx there = go (is_executed (x ∷ []) tx) refl
          where
            go : (c : Bool) → is_executed (x ∷ []) tx ≡ c → is_executed (x ∷ []) tx ≡ false
            go false e = e
            go true e = absurd (clash there (ap (is_planned front) (sym (ran_one tx e)) ∙ joined.not_planned))

        apart : (key : ObjectKey) (tx : Digest) → is_planned front tx ≡ true → made_of (kept ++ x ∷ []) key tx ≡ made_of kept key tx
        apart key tx there =
            ap (λ e. found (versions b.opening e) (record { key = key; producer = Some (producers.Tx tx) })) (sym (append_assoc executed kept (x ∷ [])))
            ∙ found_apart b.opening now (x ∷ []) (record { key = key; producer = Some (producers.Tx tx) }) (not_among tx (x ∷ []) (other tx there))

        -- an earlier task that was kept
        done_before : (tx : Digest) (n : ℕ) → number_of tx front ≡ Some n → is_executed (kept ++ x ∷ []) tx ≡ true → IsDone (kept ++ x ∷ []) tx n
        done_before tx n number ran = go (or_true (is_executed kept tx) (is_executed (x ∷ []) tx) (sym (executed_join kept (x ∷ []) tx) ∙ ran))
          where
            planned : is_planned front tx ≡ true
            planned = number_planned tx front n number

            go : (is_executed kept tx ≡ true) ⊎ (is_executed (x ∷ []) tx ≡ true) → IsDone (kept ++ x ∷ []) tx n
            go (inr this) = absurd (clash this (other tx planned))
            go (inl before) =
                let is : IsDone kept tx n = stands.done tx n number before in
                record { gave = is.gave; done = is.done; made = λ key. apart key tx planned ∙ is.made key }

        -- the task that is kept now is done
        done_here : (tx : Digest) (n : ℕ) → h.digest ≡ tx → n ≡ length front → IsDone (kept ++ x ∷ []) tx n
        done_here tx n same at = record {
          gave = gave.0;
          done = ap outcome at ∙ ap (outcome_in vs a all (length front)) task_here ∙ gave.1;
          made = λ key. ap (λ (d : Digest). made_of (kept ++ x ∷ []) key d) (sym (named ∙ same)) ∙ ap (λ e. found (versions b.opening e) (record { key = key; producer = Some (producers.Tx x.digest) })) (sym (append_assoc executed kept (x ∷ [])))
              ∙ made_last b.opening now x key (ap (is_executed now) named ∙ not_now)
              ∙ ap (λ (g : Executed). find (is_at key) g.objects) gave.2;
        }
          where
            gave : (g : Executed) × (comes ≡ outcomes.Done g) × (x.gave ≡ g)
            gave = kept_gave x comes (keep_is ∙ gives)

        -- if it is kept
        stands_with : Stands (front ++ h ∷ []) (kept ++ x ∷ [])
        stands_with = record {
          fresh = still_fresh;
          known = λ tx ran. knows tx (or_true (is_executed kept tx) (is_executed (x ∷ []) tx) (sym (executed_join kept (x ∷ []) tx) ∙ ran));
          done = λ tx n number ran. go tx n ran (number_push tx front h n number);
        }
          where
            knows : (tx : Digest) → (is_executed kept tx ≡ true) ⊎ (is_executed (x ∷ []) tx ≡ true) → is_planned (front ++ h ∷ []) tx ≡ true
            knows tx (inl before) = planned_join front (h ∷ []) tx ∙ or_left (is_planned front tx) (is_planned (h ∷ []) tx) (stands.known tx before)
            knows tx (inr this) =
                planned_join front (h ∷ []) tx
                ∙ or_right (is_planned front tx) (is_planned (h ∷ []) tx) (or_left (digest_eq h.digest tx) false (ap (digest_eq h.digest) (sym (ran_one tx this)) ∙ digest_self h.digest))

            go : (tx : Digest) (n : ℕ) → is_executed (kept ++ x ∷ []) tx ≡ true → (number_of tx front ≡ Some n) ⊎ ((number_of tx front ≡ None) × (is_of tx h ≡ true) × (n ≡ length front)) → IsDone (kept ++ x ∷ []) tx n
            go tx n ran (inl is) = done_before tx n is ran
            go tx n ran (inr (none, of, is)) = done_here tx n (digest_same h.digest tx of) is

  -- ---- all tasks

  kept_turn : (hs front : List Held) (kept : List Execution) → all ≡ front ++ hs → Along (Joins b executed) front hs → Stands front kept
      → kept_of b.opening (executed ++ kept) (tasks_after vs a (links vs a all) front hs) (outs_after vs a all (length front) (tasks_after vs a (links vs a all) front hs)) ≡ in_turn b (executed ++ kept) hs
  kept_turn [] front kept whole along stands = refl
  kept_turn (h ∷ hs) front kept whole along stands =
      ap (onto_kept (λ more. kept_of b.opening more ts outs) now) (keep_is front kept stands h hs whole along.0)
      ∙ go (ready b now h) refl (λ k s. kept_turn hs (front ++ h ∷ []) k (whole ∙ sym (append_assoc front (h ∷ []) hs)) along.1 s)
    where
      now : List Execution
      now = executed ++ kept

      ts : List Planned
      ts = tasks_after vs a (links vs a all) (front ++ h ∷ []) hs

      outs : List (Digest × Outcome)
      outs = outs_after vs a all (length front + 1) ts

      More : Type 0
      More = (k : List Execution) → Stands (front ++ h ∷ []) k → kept_of b.opening (executed ++ k) ts (outs_after vs a all (length (front ++ h ∷ [])) ts) ≡ in_turn b (executed ++ k) hs

      next : length front + 1 ≡ length (front ++ h ∷ [])
      next = let l = longer front h in omega (arith, l)

      go : (o : Option Execution) → ready b now h ≡ o → More → onto_kept (λ more. kept_of b.opening more ts outs) now o ≡ onto_kept (λ more. in_turn b more hs) now o
      go None e more = ap (λ n. kept_of b.opening now ts (outs_after vs a all n ts)) next ∙ more kept (stands_without front kept stands h hs whole along.0)
      go (Some x) e more =
          ap (λ xs. x ∷ xs)
          (ap (λ n. kept_of b.opening (now ++ x ∷ []) ts (outs_after vs a all n ts)) next
          ∙ ap (λ y. kept_of b.opening y ts (outs_after vs a all (length (front ++ h ∷ [])) ts)) (append_assoc executed kept (x ∷ []))
          ∙ more (kept ++ x ∷ []) (stands_with front kept stands h hs whole along.0 x e)
          ∙ ap (λ y. in_turn b y hs) (sym (append_assoc executed kept (x ∷ []))))

  -- ---- each can be kept in its turn

  named_on : (t : Planned) (objects : List Object) → IsSoundTask t.tx t.digest → IsNamed t (outcome_with t.tx objects)
  named_on t objects sound = go (fits t.tx objects)
    where
      go : (c : Bool) → IsNamed t (cond c (outcomes.Done (execution t.tx objects)) outcomes.Unfit)
      go true = effects_tx t.tx objects ∙ sym sound.1
      go false = tt

  named_in : (t : Planned) (inputs : List Carry) → IsSoundTask t.tx t.digest → IsNamed t (outcome_of t inputs)
  named_in t inputs sound = go (list_any is_not_run inputs) (first_of lacking (zip t.wants (carried t.wants inputs)))
    where
      on : (o : Option Want) → IsNamed t (outcome_on t.tx (carried t.wants inputs) o)
      on (Some w) = tt
      on None = named_on t (filter_map object_of (carried t.wants inputs)) sound

      go : (c : Bool) (o : Option Want) → IsNamed t (cond c outcomes.Waits (outcome_on t.tx (carried t.wants inputs) o))
      go true o = tt
      go false o = on o

  can_turn : (hs front : List Held) (kept : List Execution) → all ≡ front ++ hs → Along (Joins b executed) front hs → Stands front kept → Each IsSound hs
      → CanBeKept b.opening (executed ++ kept) (tasks_after vs a (links vs a all) front hs) (outs_after vs a all (length front) (tasks_after vs a (links vs a all) front hs))
  can_turn [] front kept whole along stands sound = tt
  can_turn (h ∷ hs) front kept whole along stands sound = (
    not_now front kept stands h hs whole along.0,
    (
      named_in (task_of vs a (links vs a all) front h) (inputs_at vs a all (length front)) sound.0,
      subst (λ (o : Option Execution). CanBeKept b.opening (kept_more now o) ts outs) (sym (keep_is front kept stands h hs whole along.0))
          (go (ready b now h) refl (λ k s. can_turn hs (front ++ h ∷ []) k (whole ∙ sym (append_assoc front (h ∷ []) hs)) along.1 s sound.1)),
    ),
  )
    where
      now : List Execution
      now = executed ++ kept

      ts : List Planned
      ts = tasks_after vs a (links vs a all) (front ++ h ∷ []) hs

      outs : List (Digest × Outcome)
      outs = outs_after vs a all (length front + 1) ts

      More : Type 0
      More = (k : List Execution) → Stands (front ++ h ∷ []) k → CanBeKept b.opening (executed ++ k) ts (outs_after vs a all (length (front ++ h ∷ [])) ts)

      next : length (front ++ h ∷ []) ≡ length front + 1
      next = let l = longer front h in omega (arith, l)

      go : (o : Option Execution) → ready b now h ≡ o → More → CanBeKept b.opening (kept_more now o) ts outs
      go None e more = subst (λ n. CanBeKept b.opening now ts (outs_after vs a all n ts)) next (more kept (stands_without front kept stands h hs whole along.0))
      go (Some x) e more =
          subst (λ n. CanBeKept b.opening (now ++ x ∷ []) ts (outs_after vs a all n ts)) next
          (subst (λ y. CanBeKept b.opening y ts (outs_after vs a all (length (front ++ h ∷ [])) ts)) (sym (append_assoc executed kept (x ∷ [])))
          (more (kept ++ x ∷ []) (stands_with front kept stands h hs whole along.0 x e)))

  none_stands : Stands [] []
  none_stands = record {
    fresh = λ tx there. absurd (never there);
    known = λ tx ran. absurd (never ran);
    done = λ tx n number ran. absurd (never ran);
  }
    where
      never : false ≡ true → ⊥
      never e = cc

  -- ---- what came of one task

  along_rest : (xs ys before : List Held) → Along (Joins b executed) before (xs ++ ys) → Along (Joins b executed) (before ++ xs) ys
  along_rest [] ys before along = subst (λ f. Along (Joins b executed) f ys) (sym (append-nil before)) along
  along_rest (x ∷ xs) ys before along = subst (λ f. Along (Joins b executed) f ys) (append_assoc before (x ∷ []) xs) (along_rest xs ys (before ++ x ∷ []) along.1)

  stands_at : (mid hs front : List Held) (kept : List Execution) → all ≡ front ++ (mid ++ hs) → Along (Joins b executed) front (mid ++ hs) → Stands front kept → Stands (front ++ mid) (kept ++ in_turn b (executed ++ kept) mid)
  stands_at [] hs front kept whole along stands =
      subst (λ f. Stands f (kept ++ [])) (sym (append-nil front)) (subst (λ k. Stands front k) (sym (append-nil kept)) stands)
  stands_at (h ∷ mid) hs front kept whole along stands =
      subst (λ f. Stands f (kept ++ in_turn b (executed ++ kept) (h ∷ mid))) (append_assoc front (h ∷ []) mid)
      (go (ready b (executed ++ kept) h) refl (λ k s. stands_at mid hs (front ++ h ∷ []) k (whole ∙ sym (append_assoc front (h ∷ []) (mid ++ hs))) along.1 s))
    where
      go : (o : Option Execution) → ready b (executed ++ kept) h ≡ o
          → ((k : List Execution) → Stands (front ++ h ∷ []) k → Stands ((front ++ h ∷ []) ++ mid) (k ++ in_turn b (executed ++ k) mid))
          → Stands ((front ++ h ∷ []) ++ mid) (kept ++ onto_kept (λ more. in_turn b more mid) (executed ++ kept) o)
      go None e more = more kept (stands_without front kept stands h (mid ++ hs) whole along.0)
      go (Some x) e more =
          subst (λ k. Stands ((front ++ h ∷ []) ++ mid) k)
          (ap (λ y. (kept ++ x ∷ []) ++ in_turn b y mid) (sym (append_assoc executed kept (x ∷ [])))
          ∙ append_assoc kept (x ∷ []) (in_turn b ((executed ++ kept) ++ x ∷ []) mid))
          (more (kept ++ x ∷ []) (stands_with front kept stands h (mid ++ hs) whole along.0 x e))

  -- what came of a task whose makers were all executed before it
  pub came : (front back : List Held) (h : Held) → all ≡ front ++ h ∷ back → Along (Joins b executed) [] all → list_all (is_made (executed ++ in_turn b executed front)) (wants_of a h) ≡ true
      → outcome_of (task_of vs a (links vs a all) front h) (inputs_at vs a all (length front))
      ≡ outcome_on h.cert.tx (map (λ w. carry_as (found (versions b.opening (executed ++ in_turn b executed front)) w)) (wants_of a h))
      (lacks (want_as vs front) (λ w. found (versions b.opening (executed ++ in_turn b executed front)) w) (wants_of a h))
  came front back h whole along made = comes_as front (in_turn b executed front) stood h back whole (along_rest front (h ∷ back) [] split).0 made
    where
      split : Along (Joins b executed) [] (front ++ h ∷ back)
      split = subst (λ hs. Along (Joins b executed) [] hs) whole along

      stood : Stands front (in_turn b executed front)
      stood = subst (λ e. Stands front (in_turn b e front)) (append-nil executed) (stands_at front (h ∷ back) [] [] whole split none_stands)

  -- the outcome of a transaction is that of the first task that is of it
  pub came_at : (pre f back : List Held) (h : Held) → is_planned pre h.digest ≡ false
      → outcome_for (outs_after vs a all (length f) (tasks_after vs a (links vs a all) f (pre ++ h ∷ back))) h.digest
      ≡ Some (outcome_of (task_of vs a (links vs a all) (f ++ pre) h) (inputs_at vs a all (length (f ++ pre))))
  came_at [] f back h out =
      ap (λ c. cond c (Some (outcome_of (task_of vs a (links vs a all) f h) (inputs_at vs a all (length f)))) rest) (digest_self h.digest)
      ∙ ap (λ g. Some (outcome_of (task_of vs a (links vs a all) g h) (inputs_at vs a all (length g)))) (sym (append-nil f))
    where
      rest : Option Outcome
      rest = outcome_for (outs_after vs a all (length f + 1) (tasks_after vs a (links vs a all) (f ++ h ∷ []) back)) h.digest
  came_at (k ∷ ks) f back h out =
      ap (λ c. cond c (Some (outcome_of (task_of vs a (links vs a all) f k) (inputs_at vs a all (length f)))) (rest (length f + 1))) (or_false_left (digest_eq k.digest h.digest) (is_planned ks h.digest) out)
      ∙ ap rest (let l = longer f k in omega (arith, l))
      ∙ came_at ks (f ++ k ∷ []) back h (or_false_right (digest_eq k.digest h.digest) (is_planned ks h.digest) out)
      ∙ ap (λ g. Some (outcome_of (task_of vs a (links vs a all) g h) (inputs_at vs a all (length g)))) (append_assoc f (k ∷ []) ks)
    where
      rest : ℕ → Option Outcome
      rest n = outcome_for (outs_after vs a all n (tasks_after vs a (links vs a all) (f ++ k ∷ []) (ks ++ h ∷ back))) h.digest

  pub whole_turn : Along (Joins b executed) [] all → kept_of b.opening executed (tasks vs a all) (outs_after vs a all 0 (tasks vs a all)) ≡ in_turn b executed all
  whole_turn along =
      ap (λ e. kept_of b.opening e (tasks vs a all) (outs_after vs a all 0 (tasks vs a all))) (sym (append-nil executed))
      ∙ kept_turn all [] [] refl along none_stands
      ∙ ap (λ e. in_turn b e all) (append-nil executed)

  pub whole_can : Along (Joins b executed) [] all → Each IsSound all → CanBeKept b.opening executed (tasks vs a all) (outs_after vs a all 0 (tasks vs a all))
  whole_can along sound =
      subst (λ e. CanBeKept b.opening e (tasks vs a all) (outs_after vs a all 0 (tasks vs a all))) (append-nil executed)
      (can_turn all [] [] refl along none_stands sound)

-- each task of a run's plan can be kept in its turn
pub can_be_kept : (b : Books) (executed : List Execution) → AreApart b.held → Each IsSound b.held → CanBeKept b.opening executed (tasks_of b executed) (outputs_of b executed)
unfolding links_of edges_of tasks_of outputs_of
can_be_kept b executed apart sound =
    subst (CanBeKept b.opening executed (tasks_of b executed)) (sym (outs_are (versions b.opening executed) b.admission (planned_of b executed)))
    (whole_can b executed (planned_of b executed) (planned_along b executed apart) (each_planned b executed IsSound sound))

-- what is kept of a plan's outputs is what the rounds execute
pub keeps_rounds : KeepsTheRounds
unfolding links_of edges_of tasks_of outputs_of
keeps_rounds b executed apart =
    ap (kept_of b.opening executed (tasks_of b executed)) (outs_are (versions b.opening executed) b.admission (planned_of b executed))
    ∙ whole_turn b executed (planned_of b executed) (planned_along b executed apart)
    ∙ turns_are_rounds b executed apart
