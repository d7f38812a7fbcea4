use Rattle.std.proofs.Common.{◌≡◌, true, None, is_some, subst}
use Rattle.std.specs.Prelude.{IsErrOf}
use Rattle.protocol_spec.specs.declared.refusals.RunRefusal.TheVariants as no_run
use Rattle.protocol_spec.specs.Member.Member.{fork_of}
use Rattle.protocol_spec.specs.Member.Calls.{runs}
use Rattle.world_spec.specs.Seats.{bare_rules, due_at}
use Rattle.validator_core.specs.Calls.{run_ended}
use Rattle.sui_validator.specs.Journals.{Kept}
use Rattle.sui_validator.proofs.Keeping.{keeps_own}
use Rattle.sui_validator.proofs.member.Member.run.Goals as goal

pub returns-clause-kept : goal.returns-clause-kept
returns-clause-kept g c =
    subst (λ m. Kept (g.J.Journal.records m.journal) (g.J.Journal.records c.run.new.keeper.journal) (due_at (bare_rules m.seat) m.seat runs) (run_ended c.run.result)) c.self.view_is
    (keeps_own c.self.inside.validator.member c.self.inside.keeper.member c.run.new.keeper.member _ _ _ _ c.self.invariant c.run.ensures.width c.run.ensures.kept)

pub returns-clause-owed : goal.returns-clause-owed
returns-clause-owed g c =
    subst (λ m. IsErrOf c.run.result no_run.KeepFault → is_some (due_at (bare_rules m.seat) m.seat runs) ≡ true) c.self.view_is c.run.ensures.owed

pub returns-clause-able : goal.returns-clause-able
returns-clause-able g c =
    subst (λ m. IsErrOf c.run.result no_run.OutOfMemory → (m.seat.up ≡ true) × (fork_of m.seat.state ≡ None)) c.self.view_is c.run.ensures.able
