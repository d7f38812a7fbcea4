use Rattle.std.proofs.Common.{◌≡◌, ◌∷◌, ◌++◌, [], List, subst}
use Rattle.protocol_spec.specs.declared.answers.Held.{Held}
use Rattle.exec_plan.specs.Waits.{IsWaiting}
use Rattle.validator_core.specs.Courses.{IsSound}
use Rattle.validator_core.proofs.Coursing.{hold_sound, with_held_now}
use Rattle.validator_core.proofs.epoch_state.EpochState.hold.Goals as goal
use Rattle.protocol_spec.proofs.Truth.{on_ok_then}

pub returns-clause-sound : goal.returns-clause-sound
returns-clause-sound c =
    let old = c.args.self.now in
    let waits : IsWaiting old.store old.admission.admission (old.held ++ c.args.new ∷ []) c.hold.new.self =
    subst (λ (hs : List Held). IsWaiting old.store old.admission.admission (hs ++ c.args.new ∷ []) c.hold.new.self) c.as_slice.ensures.value c.in_ok-hold.ensures.ok in
    on_ok_then c.hold-2.result (c.hold-2.new.self ≡ old.held ++ c.args.new ∷ []) (IsSound (with_held_now old c.hold-2.new.self c.hold.new.self))
    (λ is. hold_sound old c.args.new c.hold-2.new.self c.hold.new.self c.requires.sound (c.requires.shape, c.requires.digest) is waits) c.hold-2.ensures.ok
