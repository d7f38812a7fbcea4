use Rattle.std.proofs.Common.{◌∙◌, ap, sym}
use Rattle.protocol_spec.specs.Chain.Certificates.{Rules}
use Rattle.protocol_spec.specs.Member.Sequence.{seen_what}
use Rattle.validator_core.specs.Courses.{Coursed, sequence_in}
use Rattle.validator_core.specs.Entries.{what_as}
use Rattle.validator_core.proofs.Bringing.{numbered_what}
use Rattle.validator_core.proofs.epoch_state.EpochState.see.Goals as goal

pub returns-clause-what : goal.returns-clause-what
returns-clause-what c =
    λ (r : Rules) stakes writers. c.in_ok-what.ensures.what r stakes writers
    ∙ ap (λ (x : Coursed). seen_what r (sequence_in c.args.self.now) x.sequence (what_as c.args.arrival)) (sym c.in_ok-built.ensures.value)
    ∙ sym (numbered_what r (sequence_in c.args.self.now) (sequence_in c.advance.new.self) (what_as c.args.arrival))
