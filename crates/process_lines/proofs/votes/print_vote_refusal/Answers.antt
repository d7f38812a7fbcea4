use Rattle.process_lines.specs.Texts.{vote_refusal_text}
use Rattle.process_lines.proofs.votes.print_vote_refusal.Goals as goal

pub returns-in-Consumed : goal.returns-in-Consumed
unfolding vote_refusal_text
returns-in-Consumed c = rw c.in-Consumed.is c.print_taken.ensures

pub returns-in-WrongDigest : goal.returns-in-WrongDigest
unfolding vote_refusal_text
returns-in-WrongDigest c = rw c.in-WrongDigest.is c.print_with_key-in-WrongDigest.ensures

pub returns-in-WrongOwner : goal.returns-in-WrongOwner
unfolding vote_refusal_text
returns-in-WrongOwner c = rw c.in-WrongOwner.is c.print_with_key-in-WrongOwner.ensures

pub returns-in-WrongKind : goal.returns-in-WrongKind
unfolding vote_refusal_text
returns-in-WrongKind c = rw c.in-WrongKind.is c.print_with_key-in-WrongKind.ensures

pub returns-in-Locked : goal.returns-in-Locked
unfolding vote_refusal_text
returns-in-Locked c = rw c.in-Locked.is c.print_taken-in-Locked.ensures
