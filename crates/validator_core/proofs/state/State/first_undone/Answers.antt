use Rattle.std.proofs.Common.{◌∙◌, ap}
use Rattle.protocol_spec.specs.Chain.Words.{first_of}
use Rattle.epoch_turn.specs.Chains.{waiting_one}
use Rattle.validator_core.specs.Limits.{Limited}
use Rattle.validator_core.proofs.state.State.first_undone.Goals as goal

pub returns : goal.returns
returns c =
    let s = c.self.inside.epoch_state in
    let sound = c.self.invariant.sound in
    c.waits.ensures.first s.epoch s.held s.store.executed s.admission.admission.admitted (sound.all s.held s.admission.admission.admitted sound.unbuilt.told)
    ∙ ap (λ (x : Limited). first_of (waiting_one x.member.held x.member.executed) x.member.sequence.admission.admitted) c.self.view_is
