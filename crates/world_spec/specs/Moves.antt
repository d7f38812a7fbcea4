-- What kind of thing a line of a schedule does to a world. What a line names is looked up in the world in which it
-- happens. Source: this profile.
use Rattle.std.specs.Prelude.{ℕ, Bool, true, false, List, Option, Some, option_map}
use Rattle.chain_types.specs.Transactions as transactions
use Rattle.chain_messages.specs.Messages as messages
use Rattle.chain_messages.specs.declared.messages.Certificate.{Certificate}
use Rattle.schedule_text.specs.declared.words.Event.{Event}
use Rattle.schedule_text.specs.declared.words.Event.TheVariants as event
use Rattle.protocol_spec.specs.Member.Calls.{Call, votes, holds, runs, closes, ends, turns}
use Rattle.world_spec.specs.Setting.{Name}
use Rattle.world_spec.specs.World.{Made, WorldOf}
use Rattle.world_spec.specs.Names.{made_named, cert_named}
use Rattle.world_spec.specs.Making.{TxLine}

-- what a member is asked
pub data Request : Type 0 where
  -- its vote for the transaction of this name
  vote_named : Name → Request
  -- that it hold the certificate of this name
  hold_named : Name → Request
  -- this call
  direct : Call → Request

-- what a faulty member states of a transaction
pub data Claim : Type 0 where
  -- a vote with these origins
  claims_vote : List (Option Name) → Claim
  -- an acknowledgement, whose digest may be spoiled
  claims_ack : Bool → Claim

-- what is added to the open sequence
pub data Submission : Type 0 where
  -- the certificate of this name
  cert_submitted : Name → Submission
  mark_submitted : Submission

pub data Move : Type 0 where
  -- nothing changes
  looks_on : Move
  -- a transaction is made
  makes_tx : TxLine → Move
  -- a member is asked
  requests : ℕ → Request → Move
  -- a member is handed at most so many entries of its sequence
  delivers : ℕ → ℕ → Move
  -- a faulty member claims something of the transaction of this name; an honest one is asked for it only if it is an
  -- acknowledgement
  claims : ℕ → Name → Claim → Move
  -- the votes of these members for the transaction of this name become a certificate
  certifies : Name → List ℕ → Move
  -- something is added to the open sequence
  submits : Submission → Move
  -- an End of a member is added to the open sequence
  submits_end : ℕ → Move
  -- the next record of a member will be kept or lost, and it stops there
  arms_stop : ℕ → Bool → Move
  -- a member starts from its records
  starts_again : ℕ → Move

-- the move of a line
abbrev pub move_of : Event → Move
move_of (event.Tx name sender spoiled epoch gas budget inputs commands) =
    makes_tx (record { name = name; sender = sender; spoiled = spoiled; epoch = epoch; gas = gas; budget = budget; inputs = inputs; commands = commands })
move_of (event.Vote m tx) = requests m (vote_named tx)
move_of (event.Fvote m tx origins) = claims m tx (claims_vote origins)
move_of (event.Cert tx members) = certifies tx members
move_of (event.Send m tx) = requests m (hold_named tx)
move_of (event.Order tx) = submits (cert_submitted tx)
move_of (event.OrderEnd m) = submits_end m
move_of event.OrderCommit = submits mark_submitted
move_of (event.See m entries) = delivers m entries
move_of (event.Run m workers) = requests m (direct runs)
move_of (event.Close m) = requests m (direct closes)
move_of (event.End m) = requests m (direct ends)
move_of (event.Turn m) = requests m (direct turns)
move_of (event.Show m) = looks_on
move_of (event.Stop m kept) = arms_stop m kept
move_of (event.Restart m) = starts_again m
move_of (event.RawVote m bytes) = requests m (direct (votes bytes))
move_of (event.RawHold m bytes) = requests m (direct (holds bytes))
move_of (event.Ack m tx spoiled) = claims m tx (claims_ack spoiled)
move_of (event.Final tx members) = looks_on

-- ---- what is asked, as a call

abbrev pub signed_call : Made → Call
signed_call t = votes (transactions.signed.spell t.signed)

abbrev pub held_call : Certificate → Call
held_call c = holds (messages.certificate.spell c)

-- the call with which a member is asked; none if nothing has the name
abbrev pub requested : {S : Type 0} → WorldOf S → Request → Option Call
requested w (vote_named tx) = option_map signed_call (made_named w tx)
requested w (hold_named tx) = option_map held_call (cert_named w tx)
requested w (direct call) = Some call

-- ---- kinds of moves

-- whether a member starts from its records
abbrev pub is_start_move : Move → Bool
is_start_move (starts_again m) = true
is_start_move mv = false
