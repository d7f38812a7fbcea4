use Rattle.std.proofs.Common.{◌∙◌, ap, sym}
use Rattle.protocol_spec.specs.Chain.Certificates.{Rules}
use Rattle.validator_core.specs.Courses.{Coursed, sequence_in}
use Rattle.validator_core.proofs.Bringing.{taken_what}
use Rattle.validator_core.proofs.epoch_state.EpochState.enter.Goals as goal

pub returns-clause-what : goal.returns-clause-what
returns-clause-what c =
    λ (r : Rules) same. taken_what r (sequence_in c.args.self.now) (sequence_in c.let_in.new.self) c.args.new c.let_in.new.self.admission.writers c.bring.new.self.admission.admission c.in_ok-taken.taken c.what_taken.result
    (same ∙ sym (c.let_in.ensures.stays.writers ∙ c.bring.ensures.stays.writers)) (ap (λ (x : Coursed). x.sequence.admission) c.in_ok-let_in.ensures.value) c.in_ok-taken.ensures.admitted c.in_ok-taken.ensures.dropped c.what_taken.ensures
