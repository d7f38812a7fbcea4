use Rattle.std.proofs.Common.{◌≡◌, true, None, is_some, subst}
use Rattle.std.specs.Prelude.{IsErrOf}
use Rattle.protocol_spec.specs.declared.refusals.TurnRefusal.TheVariants as no_turn
use Rattle.protocol_spec.specs.Member.Member.{fork_of}
use Rattle.protocol_spec.specs.Member.Calls.{turns}
use Rattle.world_spec.specs.Seats.{bare_rules, due_at}
use Rattle.validator_core.specs.Calls.{turn_ended}
use Rattle.sui_validator.specs.Journals.{Kept}
use Rattle.sui_validator.proofs.Keeping.{keeps_own}
use Rattle.sui_validator.proofs.member.Member.turn.Goals as goal

pub returns-clause-kept : goal.returns-clause-kept
returns-clause-kept g c =
    subst (λ m. Kept (g.J.Journal.records m.journal) (g.J.Journal.records c.turn.new.keeper.journal) (due_at (bare_rules m.seat) m.seat turns) (turn_ended c.turn.result)) c.self.view_is
    (keeps_own c.self.inside.validator.member c.self.inside.keeper.member c.turn.new.keeper.member _ _ _ _ c.self.invariant c.turn.ensures.width c.turn.ensures.kept)

pub returns-clause-owed : goal.returns-clause-owed
returns-clause-owed g c =
    subst (λ m. IsErrOf c.turn.result no_turn.KeepFault → is_some (due_at (bare_rules m.seat) m.seat turns) ≡ true) c.self.view_is c.turn.ensures.owed

pub returns-clause-able : goal.returns-clause-able
returns-clause-able g c =
    subst (λ m. IsErrOf c.turn.result no_turn.OutOfMemory → (m.seat.up ≡ true) × (fork_of m.seat.state ≡ None)) c.self.view_is c.turn.ensures.able
