use Rattle.std.proofs.Common.{◌≡◌, ◌∙◌, ap, sym}
use Rattle.protocol_spec.specs.declared.answers.SeenWhat.{SeenWhat}
use Rattle.protocol_spec.specs.Chain.Certificates.{Rules}
use Rattle.protocol_spec.specs.Member.Sequence.{commits, seen_what}
use Rattle.validator_core.specs.declared.entries.EntryOutcome.{EntryOutcome}
use Rattle.validator_core.specs.Courses.{sequence_in}
use Rattle.validator_core.specs.Entries.{what_as}
use Rattle.validator_core.proofs.Coursing.{ok_as}
use Rattle.validator_core.proofs.epoch_state.EpochState.take.Goals as goal

pub returns-in-Commits-clause-what : goal.returns-in-Commits-clause-what
returns-in-Commits-clause-what c =
    let old = sequence_in c.args.self.now in
    let new = sequence_in c.pass_mark.new.self in
    ok_as c.pass_mark.result (λ (what : SeenWhat). (r : Rules) → what ≡ seen_what r old new commits)
    (λ (what : SeenWhat). (r : Rules) → r.stakes ≡ c.args.committee.now → r.writers ≡ c.args.self.now.admission.writers → what ≡ seen_what r old new (what_as c.args.arrival))
    (λ what said (r : Rules) stakes writers. said r ∙ ap (λ (a : EntryOutcome). seen_what r old new (what_as a)) (sym c.in-Commits.is)) c.pass_mark.ensures.what
