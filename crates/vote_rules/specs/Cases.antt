-- The cases of the vote rule that look at one object each, by their name.
use Rattle.std.specs.Prelude.{[], Option, Some, None}
use Rattle.digest_core.specs.declared.Digest.{Digest}
use Rattle.chain_types.specs.declared.objects.Producer.{Producer}
use Rattle.chain_types.specs.declared.refusals.DecideRefusal.{DecideRefusal}
use Rattle.chain_types.specs.declared.transactions.Input.{Input}
use Rattle.chain_types.specs.declared.transactions.Transaction.{Transaction}
use Rattle.protocol_spec.specs.Member.Votes.{Ballot, absent, wrong_digest, wrong_owner, wrong_kind, maker}
use Rattle.version_store.specs.Stores.{Stored}
use Rattle.vote_rules.specs.declared.case.Case.{Case}
use Rattle.vote_rules.specs.declared.case.Case.TheVariants as case

-- the ballot of a store with no votes: for the cases that look at no vote
abbrev pub ballot_of : Stored → Ballot
ballot_of s = record { opening = s.opening; executed = s.executed; votes = [] }

-- what a case says of an object
abbrev pub says : Case → Ballot → Transaction → Input → Option DecideRefusal
says case.Absent b t i = absent b i
says case.WrongDigest b t i = wrong_digest b i
says case.WrongOwner b t i = wrong_owner b t i
says case.WrongKind b t i = wrong_kind b i

-- the transaction that made a version
abbrev pub made_in : Option Producer → Option Digest
made_in None = None
made_in (Some p) = maker p
