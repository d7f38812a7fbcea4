use Rattle.std.proofs.Common.{◌∙◌, ℕ, ap, sym, subst}
use Rattle.protocol_spec.specs.Chain.Certificates.{Rules}
use Rattle.validator_core.specs.Courses.{Coursed, IsAdmitting, sequence_in}
use Rattle.validator_core.proofs.Bringing.{commit_what, mark_is, mark_sound}
use Rattle.validator_core.proofs.epoch_state.EpochState.pass_mark.Goals as goal

pub let_in-requires-clause-admitting : goal.let_in-requires-clause-admitting
let_in-requires-clause-admitting c =
    subst (λ (n : ℕ). IsAdmitting n (record c.args.self.now { chain = c.mark.new.self; admission = c.mark-2.new.self })) (sym c.admitted_count-from.ensures)
    (mark_sound c.args.self.now c.requires.sound c.requires.unended c.mark.new.self c.mark-2.new.self c.in_ok-mark.ensures.ok c.in_ok-mark.ensures.cuts c.mark.ensures.behind c.in_ok-taken.ensures.passed)

pub returns-clause-value : goal.returns-clause-value
returns-clause-value c =
    c.in_ok-let_in.ensures.value
    ∙ mark_is c.args.self.now c.requires.sound c.requires.unended c.mark.new.self c.mark-2.new.self c.in_ok-mark.ensures.ok c.in_ok-mark.ensures.cuts c.mark.ensures.behind c.in_ok-taken.ensures.passed

pub returns-clause-what : goal.returns-clause-what
returns-clause-what c =
    λ (r : Rules). commit_what r (sequence_in c.args.self.now) (sequence_in c.let_in.new.self) c.in_ok-taken.taken c.mark-2.new.self.admission (ap (λ (x : Coursed). x.sequence.admission) c.in_ok-let_in.ensures.value) c.in_ok-taken.ensures.admitted
    c.in_ok-taken.ensures.dropped
