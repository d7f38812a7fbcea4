use Rattle.std.proofs.Common.{◌≡◌, true, None, is_some, subst}
use Rattle.std.specs.Prelude.{IsErrOf}
use Rattle.protocol_spec.specs.declared.refusals.VoteRefusal.TheVariants as no_vote
use Rattle.protocol_spec.specs.Member.Member.{fork_of}
use Rattle.protocol_spec.specs.Member.Calls.{votes}
use Rattle.world_spec.specs.Seats.{rules_of_seat, due_at}
use Rattle.validator_core.specs.Calls.{vote_ended}
use Rattle.sui_validator.specs.Journals.{Kept}
use Rattle.sui_validator.proofs.Keeping.{keeps_own}
use Rattle.sui_validator.proofs.member.Member.vote.Goals as goal

pub returns-clause-kept : goal.returns-clause-kept
returns-clause-kept g c =
    subst (λ m. Kept (g.J.Journal.records m.journal) (g.J.Journal.records c.vote.new.keeper.journal) (due_at (rules_of_seat m.seat (g.S.Checker.accepts m.sealer)) m.seat (votes c.args.bytes.now)) (vote_ended c.vote.result)) c.self.view_is
    (keeps_own c.self.inside.validator.member c.self.inside.keeper.member c.vote.new.keeper.member _ _ _ _ c.self.invariant c.vote.ensures.width c.vote.ensures.kept)

pub returns-clause-owed : goal.returns-clause-owed
returns-clause-owed g c =
    subst (λ m. IsErrOf c.vote.result no_vote.KeepFault → is_some (due_at (rules_of_seat m.seat (g.S.Checker.accepts m.sealer)) m.seat (votes c.args.bytes.now)) ≡ true) c.self.view_is c.vote.ensures.owed

pub returns-clause-able : goal.returns-clause-able
returns-clause-able g c =
    subst (λ m. IsErrOf c.vote.result no_vote.OutOfMemory → (m.seat.up ≡ true) × (fork_of m.seat.state ≡ None)) c.self.view_is c.vote.ensures.able
