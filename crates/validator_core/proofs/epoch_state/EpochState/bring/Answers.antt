use Rattle.std.proofs.Common.{◌≡◌, ◌∙◌, ◌++◌, ◌∷◌, [], List, true, false, ap, sym, subst, length}
use Rattle.protocol_spec.specs.declared.answers.Held.{Held}
use Rattle.exec_plan.specs.Waits.{IsWaiting}
use Rattle.protocol_spec.proofs.Truth.{on_ok_then}
use Rattle.protocol_spec.specs.Member.Admission.{entered}
use Rattle.version_assign.specs.Calls.{with_entry}
use Rattle.validator_core.specs.Courses.{IsAdmitting, IsSound, WaitsIn, brings, coursed}
use Rattle.validator_core.proofs.Bringing.{bring_is, bring_sound, brings_with, held_last}
use Rattle.validator_core.proofs.Coursing.{hold_sound, with_held_now}
use Rattle.validator_core.proofs.epoch_state.EpochState.bring.Goals as goal

pub returns-then-has-clause-admitting : goal.returns-then-has-clause-admitting
returns-then-has-clause-admitting c =
    let old = c.args.self.now in
    let here : WaitsIn old.held c.args.new = cc (c.has.ensures, c.if-has.true) in
    on_ok_then c.push.result (c.push.new.self ≡ with_entry old.admission c.args.new) (IsAdmitting (length old.admission.admission.admitted) (record old { admission = c.push.new.self }))
    (bring_sound old c.requires.sound c.args.new c.push.new.self here) c.push.ensures.entered

pub returns-then-has-clause-value : goal.returns-then-has-clause-value
returns-then-has-clause-value c =
    let old = c.args.self.now in
    let here : WaitsIn old.held c.args.new = cc (c.has.ensures, c.if-has.true) in
    on_ok_then c.push.result (c.push.new.self ≡ with_entry old.admission c.args.new) (coursed (record old { admission = c.push.new.self }) ≡ brings (coursed old) c.args.new)
    (λ is. bring_is old c.requires.sound c.args.new c.push.new.self here is ∙ brings_with (coursed old) c.args.new true here) c.push.ensures.entered

pub returns-clause-admitting : goal.returns-clause-admitting
returns-clause-admitting c =
    let old = c.args.self.now in
    let is : c.hold-2.new.self ≡ old.held ++ c.args.new ∷ [] = c.in_ok-hold-2.ensures.ok in
    let waits : IsWaiting old.store old.admission.admission (old.held ++ c.args.new ∷ []) c.hold.new.self =
    subst (λ (hs : List Held). IsWaiting old.store old.admission.admission (hs ++ c.args.new ∷ []) c.hold.new.self) c.as_slice.ensures.value c.in_ok-hold.ensures.ok in
    let sound : IsSound (with_held_now old c.hold-2.new.self c.hold.new.self) = hold_sound old c.args.new c.hold-2.new.self c.hold.new.self c.requires.sound (c.requires.arriving.shape, c.requires.arriving.is) is waits in
    let here : WaitsIn c.hold-2.new.self c.args.new = subst (λ (hs : List Held). WaitsIn hs c.args.new) (sym is) (held_last old.held c.args.new) in
    bring_sound (with_held_now old c.hold-2.new.self c.hold.new.self) sound c.args.new c.push-2.new.self here c.in_ok-taken.ensures.entered

pub returns-clause-value : goal.returns-clause-value
returns-clause-value c =
    let old = c.args.self.now in
    let is : c.hold-2.new.self ≡ old.held ++ c.args.new ∷ [] = c.in_ok-hold-2.ensures.ok in
    let waits : IsWaiting old.store old.admission.admission (old.held ++ c.args.new ∷ []) c.hold.new.self =
    subst (λ (hs : List Held). IsWaiting old.store old.admission.admission (hs ++ c.args.new ∷ []) c.hold.new.self) c.as_slice.ensures.value c.in_ok-hold.ensures.ok in
    let sound : IsSound (with_held_now old c.hold-2.new.self c.hold.new.self) = hold_sound old c.args.new c.hold-2.new.self c.hold.new.self c.requires.sound (c.requires.arriving.shape, c.requires.arriving.is) is waits in
    let here : WaitsIn c.hold-2.new.self c.args.new = subst (λ (hs : List Held). WaitsIn hs c.args.new) (sym is) (held_last old.held c.args.new) in
    let cs = coursed old in
    bring_is (with_held_now old c.hold-2.new.self c.hold.new.self) sound c.args.new c.push-2.new.self here c.in_ok-taken.ensures.entered
    ∙ ap (λ (hs : List Held). record cs { held = hs; sequence = record cs.sequence { admission = entered cs.writers cs.opening cs.sequence.admission c.args.new } }) is
    ∙ brings_with cs c.args.new false (cc (c.has.ensures, c.if-has.false))
