use Rattle.std.proofs.Common.{◌≡◌, true, None, is_some, subst}
use Rattle.std.specs.Prelude.{IsErrOf}
use Rattle.protocol_spec.specs.declared.refusals.HoldRefusal.TheVariants as no_hold
use Rattle.protocol_spec.specs.Member.Member.{fork_of}
use Rattle.protocol_spec.specs.Member.Calls.{holds}
use Rattle.world_spec.specs.Seats.{rules_of_seat, due_at}
use Rattle.validator_core.specs.Calls.{hold_ended}
use Rattle.sui_validator.specs.Journals.{Kept}
use Rattle.sui_validator.proofs.Keeping.{keeps_own}
use Rattle.sui_validator.proofs.member.Member.hold.Goals as goal

pub returns-clause-kept : goal.returns-clause-kept
returns-clause-kept g c =
    subst (λ m. Kept (g.J.Journal.records m.journal) (g.J.Journal.records c.hold.new.keeper.journal) (due_at (rules_of_seat m.seat (g.S.Checker.accepts m.sealer)) m.seat (holds c.args.bytes.now)) (hold_ended c.hold.result)) c.self.view_is
    (keeps_own c.self.inside.validator.member c.self.inside.keeper.member c.hold.new.keeper.member _ _ _ _ c.self.invariant c.hold.ensures.width c.hold.ensures.kept)

pub returns-clause-owed : goal.returns-clause-owed
returns-clause-owed g c =
    subst (λ m. IsErrOf c.hold.result no_hold.KeepFault → is_some (due_at (rules_of_seat m.seat (g.S.Checker.accepts m.sealer)) m.seat (holds c.args.bytes.now)) ≡ true) c.self.view_is c.hold.ensures.owed

pub returns-clause-able : goal.returns-clause-able
returns-clause-able g c =
    subst (λ m. IsErrOf c.hold.result no_hold.OutOfMemory → (m.seat.up ≡ true) × (fork_of m.seat.state ≡ None)) c.self.view_is c.hold.ensures.able
