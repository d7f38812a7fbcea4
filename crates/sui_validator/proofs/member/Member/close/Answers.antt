use Rattle.std.proofs.Common.{◌≡◌, true, None, is_some, subst}
use Rattle.std.specs.Prelude.{IsErrOf}
use Rattle.protocol_spec.specs.declared.refusals.CloseRefusal.TheVariants as no_close
use Rattle.protocol_spec.specs.Member.Member.{fork_of}
use Rattle.protocol_spec.specs.Member.Calls.{closes}
use Rattle.world_spec.specs.Seats.{bare_rules, due_at}
use Rattle.validator_core.specs.Calls.{close_ended}
use Rattle.sui_validator.specs.Journals.{Kept}
use Rattle.sui_validator.proofs.Keeping.{keeps_own}
use Rattle.sui_validator.proofs.member.Member.close.Goals as goal

pub returns-clause-kept : goal.returns-clause-kept
returns-clause-kept g c =
    subst (λ m. Kept (g.J.Journal.records m.journal) (g.J.Journal.records c.close.new.keeper.journal) (due_at (bare_rules m.seat) m.seat closes) (close_ended c.close.result)) c.self.view_is
    (keeps_own c.self.inside.validator.member c.self.inside.keeper.member c.close.new.keeper.member _ _ _ _ c.self.invariant c.close.ensures.width c.close.ensures.kept)

pub returns-clause-owed : goal.returns-clause-owed
returns-clause-owed g c =
    subst (λ m. IsErrOf c.close.result no_close.KeepFault → is_some (due_at (bare_rules m.seat) m.seat closes) ≡ true) c.self.view_is c.close.ensures.owed

pub returns-clause-able : goal.returns-clause-able
returns-clause-able g c =
    subst (λ m. IsErrOf c.close.result no_close.OutOfMemory → (m.seat.up ≡ true) × (fork_of m.seat.state ≡ None)) c.self.view_is c.close.ensures.able
