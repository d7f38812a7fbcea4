use Rattle.std.proofs.Common.{◌≡◌, true, None, is_some, subst}
use Rattle.std.specs.Prelude.{IsErrOf}
use Rattle.protocol_spec.specs.declared.refusals.SeeRefusal.TheVariants as no_see
use Rattle.protocol_spec.specs.Member.Member.{fork_of}
use Rattle.protocol_spec.specs.Member.Calls.{sees}
use Rattle.world_spec.specs.Seats.{rules_of_seat, due_at}
use Rattle.validator_core.specs.Calls.{see_ended}
use Rattle.sui_validator.specs.Journals.{Kept}
use Rattle.sui_validator.proofs.Keeping.{keeps_own}
use Rattle.sui_validator.proofs.member.Member.see.Goals as goal

pub returns-clause-kept : goal.returns-clause-kept
returns-clause-kept g c =
    subst (λ m. Kept (g.J.Journal.records m.journal) (g.J.Journal.records c.see.new.keeper.journal) (due_at (rules_of_seat m.seat (g.S.Checker.accepts m.sealer)) m.seat (sees c.args.number c.args.bytes.now)) (see_ended c.see.result)) c.self.view_is
    (keeps_own c.self.inside.validator.member c.self.inside.keeper.member c.see.new.keeper.member _ _ _ _ c.self.invariant c.see.ensures.width c.see.ensures.kept)

pub returns-clause-owed : goal.returns-clause-owed
returns-clause-owed g c =
    subst (λ m. IsErrOf c.see.result no_see.KeepFault → is_some (due_at (rules_of_seat m.seat (g.S.Checker.accepts m.sealer)) m.seat (sees c.args.number c.args.bytes.now)) ≡ true) c.self.view_is c.see.ensures.owed

pub returns-clause-able : goal.returns-clause-able
returns-clause-able g c =
    subst (λ m. IsErrOf c.see.result no_see.OutOfMemory → (m.seat.up ≡ true) × (fork_of m.seat.state ≡ None)) c.self.view_is c.see.ensures.able
