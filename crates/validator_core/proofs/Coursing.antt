-- How what a member has of its epoch stays sound.
use Rattle.std.proofs.Common.{◌≡◌, ◌∙◌, arith, ℕ, ◌≤◌, Bool, true, false, cond, List, [], ◌∷◌, ◌++◌, map, length, refl, sym, ap, subst}
use Rattle.std.specs.Prelude.{Some, filter, IfOk, Result, Ok, Err, find, is_some}
use Rattle.chain_types.specs.declared.objects.Object.{Object}
use Rattle.chain_types.specs.Equal.{digest_eq}
use Rattle.protocol_spec.specs.declared.answers.Held.{Held}
use Rattle.protocol_spec.proofs.ListLemmas.{each_as, each_push}
use Rattle.protocol_spec.specs.Chain.Words.{Each}
use Rattle.protocol_spec.specs.Member.Admission.{Admission, Admitted, nothing_admitted}
use Rattle.epoch_turn.specs.Chains.{BuildsAll, Chaining, IsTold, StartsBehind, StaysBehind, nothing_built, turned}
use Rattle.epoch_turn.specs.Dues.{due_of, size_of}
use Rattle.epoch_turn.proofs.Told.{all_built, told_held}
use Rattle.exec_plan.specs.Books.{IsSound as IsSoundHeld}
use Rattle.exec_plan.specs.Waits.{IsWaiting}
use Rattle.exec_plan.specs.declared.waiting.DependencyIndex.{DependencyIndex}
use Rattle.version_assign.specs.Sharing.{HasShared, KeepsShared}
use Rattle.version_assign.specs.Calls.{is_shared_one}
use Rattle.version_assign.proofs.Sharing.{shared_keeps}
use Rattle.version_store.proofs.Openings.{single_apart}
use Rattle.world_spec.specs.Starts.{AreApart}
use Rattle.version_store.specs.Stores.{Stored}
use Rattle.validator_core.specs.declared.epoch_state.EpochState.{EpochState}
use Rattle.epoch_turn.specs.Openings.{Opens}
use Rattle.validator_core.specs.Courses.{AreHeld, HasOpening, IsAdmitting, IsHeldIn, IsSound, IsUnbuilt, WaitsIn, built_in, coursed}

-- all that is built is what the definitions build
pub built_is : (c : EpochState) → IsSound c → c.chain.built ≡ built_in (coursed c)
built_is c sound = (sound.all c.held c.admission.admission.admitted sound.unbuilt.told).built

-- ---- if nothing is held

pub fresh_sound : (c : EpochState) (before : Chaining) → HasOpening c → c.admission.admission ≡ nothing_admitted → c.held ≡ [] → ((s : Stored) (a : Admission) → IsWaiting s a [] c.waiting) → c.chain ≡ turned before → StartsBehind c.chain → IsSound c
fresh_sound c before opening fresh none waits built starts = record {
  unbuilt = record {
    held = subst (Each IsSoundHeld) (sym none) tt;
    waits = subst (λ (hs : List Held). IsWaiting c.store c.admission.admission hs c.waiting) (sym none) (waits c.store c.admission.admission);
    opening = opening;
    shared = subst (HasShared c.store.opening) (sym fresh) tt;
    known = subst (AreHeld c.held) (sym fresh) (record { admitted = tt; pending = tt });
    marked = λ _. ap (λ (a : Admission). a.marked) fresh ∙ sym (ap (λ (ch : Chaining). size_of ch.marks) built);
    few = subst (λ (ch : Chaining). size_of ch.marks ≤ length ch.due) (sym built) (omega arith);
    told = ap (λ (ch : Chaining). ch.due) built ∙ sym (ap (λ (a : Admission). map (due_of c.held) a.admitted) fresh);
    behind = starts c.epoch c.store.executed;
  };
  ahead = λ more. starts c.epoch (c.store.executed ++ more);
  all = subst (BuildsAll c.epoch c.store.executed) (sym built) (all_built c.epoch c.store.executed (turned before));
}

pub empty_sound : (c : EpochState) → HasOpening c → c.admission.admission ≡ nothing_admitted → c.held ≡ [] → ((s : Stored) (a : Admission) → IsWaiting s a [] c.waiting) → c.chain ≡ nothing_built → StartsBehind c.chain → IsSound c
empty_sound c opening fresh none waits built starts = fresh_sound c nothing_built opening fresh none waits built starts

-- the opening of an epoch 0, whose objects have distinct ids
pub opens_apart : (objects kept opening : List Object) → kept ≡ filter is_shared_one objects → opening ≡ objects → AreApart objects → Opens kept opening
opens_apart objects kept opening shared is apart =
    subst (λ (os : List Object). Opens kept os) (sym is) (subst (λ (os : List Object). KeepsShared os objects) (sym shared) (shared_keeps objects apart), single_apart objects apart)

pub opens_nothing : (kept opening : List Object) → kept ≡ [] → opening ≡ [] → Opens kept opening
opens_nothing kept opening none nothing = subst (λ (os : List Object). Opens kept os) (sym nothing) (subst (λ (os : List Object). Opens os []) (sym none) ((λ id. refl), (λ id. refl)))

-- ---- one more certificate

found_more : (held : List Held) (h : Held) (test : Held → Bool) → is_some (find test held) ≡ true → is_some (find test (held ++ h ∷ [])) ≡ true
found_more [] h test some = absurd (cc)
found_more (g ∷ gs) h test some = by (test g) some (found_more gs h test)
  where
    by : (b : Bool) → is_some (cond b (Some g) (find test gs)) ≡ true → (is_some (find test gs) ≡ true → is_some (find test (gs ++ h ∷ [])) ≡ true) → is_some (cond b (Some g) (find test (gs ++ h ∷ []))) ≡ true
    by true e rest = refl
    by false e rest = rest e

stays_held : (held : List Held) (h : Held) (a : Admitted) → IsHeldIn held a → IsHeldIn (held ++ h ∷ []) a
stays_held held h a is = found_more held h (λ (x : Held). digest_eq x.digest a.digest) is

stays_waiting : (held : List Held) (h g : Held) → WaitsIn held g → WaitsIn (held ++ h ∷ []) g
stays_waiting held h g is = found_more held h (λ (x : Held). digest_eq x.digest g.digest) is

known_more : (held : List Held) (h : Held) (a : Admission) → AreHeld held a → AreHeld (held ++ h ∷ []) a
known_more held h a known = record {
  admitted = each_as (IsHeldIn held) (IsHeldIn (held ++ h ∷ [])) a.admitted (stays_held held h) known.admitted;
  pending = each_as (WaitsIn held) (WaitsIn (held ++ h ∷ [])) a.pending (stays_waiting held h) known.pending;
}

abbrev pub with_held_now : EpochState → List Held → DependencyIndex → EpochState
with_held_now c held waiting = record c { held = held; waiting = waiting }

pub hold_sound : (c : EpochState) (h : Held) (held : List Held) (waiting : DependencyIndex) → IsSound c → IsSoundHeld h → held ≡ c.held ++ h ∷ [] → IsWaiting c.store c.admission.admission (c.held ++ h ∷ []) waiting → IsSound (with_held_now c held waiting)
hold_sound c h held waiting sound one is waits = subst (λ (hs : List Held). IsSound (with_held_now c hs waiting)) (sym is) all_sound
  where
    u : IsUnbuilt c
    u = sound.unbuilt

    all_sound : IsSound (with_held_now c (c.held ++ h ∷ []) waiting)
    all_sound = record {
      unbuilt = record {
        held = each_push IsSoundHeld c.held h u.held one;
        waits = waits;
        opening = u.opening;
        shared = u.shared;
        known = known_more c.held h c.admission.admission u.known;
        marked = u.marked;
        few = u.few;
        told = u.told ∙ sym (told_held c.held (h ∷ []) c.admission.admission.admitted u.known.admitted);
        behind = u.behind;
      };
      ahead = sound.ahead;
      all = sound.all;
    }

-- ---- what was admitted is reported

abbrev pub told_now : EpochState → DependencyIndex → Chaining → EpochState
told_now c waiting chain = record c { waiting = waiting; chain = chain }

pub let_in_sound : (c : EpochState) (waiting : DependencyIndex) (chain : Chaining) (from : ℕ) → IsAdmitting from c → IsWaiting c.store c.admission.admission c.held waiting → chain.marks ≡ c.chain.marks → length c.chain.due ≤ length chain.due → StaysBehind c.chain chain
    → IsTold c.held c.admission.admission.admitted chain → IsUnbuilt (told_now c waiting chain)
let_in_sound c waiting chain from is waits marks more stays told = record {
  held = is.held;
  waits = waits;
  opening = is.opening;
  shared = is.shared;
  known = is.known;
  marked = λ unended. is.marked unended ∙ ap size_of (sym marks);
  few = let f = is.few in let m = ap size_of marks in omega (arith, f, m, more);
  told = told;
  behind = stays c.epoch c.store.executed is.behind;
}

-- ---- a result

pub ok_as : {A E : Type 0} (result : Result A E) (P Q : A → Type 0) → ((x : A) → P x → Q x) → IfOk result P → IfOk result Q
ok_as (Ok a) P Q to h = to a h
ok_as (Err e) P Q to h = tt
