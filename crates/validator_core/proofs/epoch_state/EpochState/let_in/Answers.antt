use Rattle.std.proofs.Common.{List, subst}
use Rattle.protocol_spec.specs.declared.answers.Held.{Held}
use Rattle.epoch_turn.specs.Chains.{IsTold}
use Rattle.exec_plan.specs.Waits.{IsWaiting}
use Rattle.validator_core.specs.Courses.{IsUnbuilt}
use Rattle.validator_core.proofs.Coursing.{let_in_sound, told_now}
use Rattle.validator_core.proofs.epoch_state.EpochState.let_in.Goals as goal
use Rattle.protocol_spec.proofs.Truth.{on_ok_then}

pub returns-clause-unbuilt : goal.returns-clause-unbuilt
returns-clause-unbuilt c =
    let old = c.args.self.now in
    let waits : IsWaiting old.store old.admission.admission old.held c.admit.new.self = subst (λ (hs : List Held). IsWaiting old.store old.admission.admission hs c.admit.new.self) c.as_slice.ensures.value c.in_ok-admit.ensures in
    on_ok_then c.tell.result (IsTold old.held old.admission.admission.admitted c.tell.new.chain) (IsUnbuilt (told_now old c.admit.new.self c.tell.new.chain))
    (let_in_sound old c.admit.new.self c.tell.new.chain c.args.from c.requires.admitting waits c.tell.ensures.marks c.tell.ensures.more c.tell.ensures.behind) c.tell.ensures.told
