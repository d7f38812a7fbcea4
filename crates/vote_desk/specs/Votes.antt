-- The history of a vote desk: what one member that is asked for votes, one after the other, replies, and what each call leaves (Sui Lutris; the faults of the keeper, running out of memory and the order of calls are this profile's). It is meant over one sealer.
use Rattle.std.specs.Prelude.{◌≡◌, ◌≤◌, ℕ, Bool, true, List, Option, None, Result, Ok, Err, is_some}
use Rattle.digest_core.specs.declared.Digest.{Digest}
use Rattle.quorum_core.specs.declared.signer.Signer.{Signer}
use Rattle.outside.specs.Causes.{Rose}
use Rattle.outside.specs.Lists.{Journals}
use Rattle.journal_core.specs.declared.records.Record.{Record}
use Rattle.protocol_spec.specs.declared.answers.Voted.{Voted as Sent}
use Rattle.protocol_spec.specs.declared.refusals.VoteRefusal.{VoteRefusal}
use Rattle.protocol_spec.specs.declared.refusals.VoteRefusal.TheVariants as no_vote
use Rattle.protocol_spec.specs.Chain.Certificates.{Rules}
use Rattle.protocol_spec.specs.Member.Calls.{Voted, votes}
use Rattle.protocol_spec.specs.Member.Member.{fork_of}
use Rattle.world_spec.specs.Seats.{Seated, due_at, rules_of_seat}
use Rattle.validator_core.specs.Calls.{IsSealedBy, vote_ended, vote_said}
use Rattle.validator_core.specs.Seats.{Behaves, Journaled}
use Rattle.vote_desk.specs.declared.entry.DeskEntry.{DeskEntry}
use Rattle.vote_desk.specs.declared.standing.DeskView.{DeskView}

module _ {S : Type 0} where
  -- a member, its sealer, the keeper's count of faults, and the keeper's lists if they are observable
  abbrev pub standing : Seated → S → ℕ → Option Journals → DeskView S
  standing validator sealer faults lists = record { validator = validator; sealer = sealer; faults = faults; lists = lists }

-- `accepts` says of a sealer which seals it accepts
module _ {S : Type 0} (accepts : S → Signer → List ℕ → Digest → Bool) where
  -- the rules of the member, over the sealer
  abbrev pub rules : DeskView S → Rules
  rules s = rules_of_seat s.validator (accepts s.sealer)

  -- what the member answers to these bytes, and the record that is due
  abbrev pub said : DeskView S → List ℕ → Result Voted VoteRefusal
  said s bytes = vote_said (rules s) s.validator bytes

  abbrev pub due : DeskView S → List ℕ → Option Record
  due s bytes = due_at (rules s) s.validator (votes bytes)

  -- a reply is the member's answer, under its seal. A fault of the keeper may stand instead if a record is due, and running out of memory if the member is up and met no fork
  abbrev pub Replies : DeskView S → List ℕ → Result Sent VoteRefusal → Type 0
  Replies s bytes (Ok v) = (said s bytes ≡ Ok (record { statement = v.sealed.statement; fresh = v.fresh })) × IsSealedBy (accepts s.sealer) s.validator.member v.sealed
  Replies s bytes (Err no_vote.KeepFault) = is_some (due s bytes) ≡ true
  Replies s bytes (Err no_vote.OutOfMemory) = (s.validator.up ≡ true) × (fork_of s.validator.state ≡ None)
  Replies s bytes (Err refusal) = said s bytes ≡ Err refusal

  -- one call, from what stood before it to what stands after it
  pub record Follows (before : DeskView S) (entry : DeskEntry) (after : DeskView S) : Type 0 where
    pub reply : Replies before entry.bytes entry.reply
    -- the member is as the definition leaves it; after a fault of the keeper and running out of memory it is down
    pub state : Behaves (rules before) (votes entry.bytes) before.validator after.validator (vote_ended entry.reply)
    pub sealer : after.sealer ≡ before.sealer
    -- the entry has the keeper's count after the call, which never falls, and rose if the reply is a fault of the keeper
    pub count : after.faults ≡ entry.faults
    pub later : before.faults ≤ entry.faults
    pub rose : entry.reply ≡ Err no_vote.KeepFault → Rose before.faults entry.faults
    -- observable lists: the due record stands after an answer; after a fault and running out of memory it stands or nothing does
    pub kept : Journaled before.lists after.lists before.validator.member (due before entry.bytes) (vote_ended entry.reply)

-- a seal scheme in place of a sealer: which seals are accepted
abbrev pub Accepts : Type 0
Accepts = Signer → List ℕ → Digest → Bool

-- one call at a desk whose sealer is given only by the seals that it accepts
abbrev pub FollowsUnder : DeskView Accepts → DeskEntry → DeskView Accepts → Type 0
FollowsUnder = Follows (λ accepts. accepts)
