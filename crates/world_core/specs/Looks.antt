-- What callers look up in a world: checkpoints, transactions, and a vote's line. Source: this profile.
use Rattle.std.specs.Prelude.{ℕ, Option, Result, option_and_then, option_map, slice_get}
use Rattle.protocol_spec.specs.declared.refusals.VoteRefusal.{VoteRefusal}
use Rattle.chain_types.specs.declared.transactions.SignedTx.{SignedTx}
use Rattle.chain_types.specs.declared.transactions.Transaction.{Transaction}
use Rattle.checkpoint_core.specs.declared.checkpoints.Checkpoint.{Checkpoint}
use Rattle.digest_core.specs.declared.Digest.{Digest}
use Rattle.protocol_spec.specs.Member.Calls.{Voted}
use Rattle.protocol_spec.specs.Member.Member.{built}
use Rattle.report_text.specs.declared.lines.Line.{Line}
use Rattle.report_text.specs.declared.lines.Line.TheVariants as line
use Rattle.world_spec.specs.Known.{Known, setting_with, world_with}
use Rattle.world_spec.specs.Posts.{Post}
use Rattle.world_spec.specs.Seats.{Seated}
use Rattle.world_core.specs.Crews.{honest_at}
use Rattle.world_lines.specs.Looks.{made_at, made_of}
use Rattle.world_spec.specs.Names.{tx_name}
use Rattle.world_spec.specs.Report.{vote_answered}
use Rattle.world_spec.specs.World.{Made}

-- the checkpoint of this number, counted from 0 over all epochs, that a member that is honest and up built
abbrev pub checkpoint_at : Option Post → ℕ → Option Checkpoint
checkpoint_at post number = option_and_then (λ (seat : Seated). slice_get (built seat.state) number) (honest_at post)

-- the transaction of this digest that a line made
abbrev pub transaction_of : Known → Digest → Option Transaction
transaction_of k tx = option_map (λ (t : Made). t.signed.tx) (made_of k tx)

-- the signed transaction of the line at this place, counted from 0 among the lines that made one
abbrev pub signed_at : Known → ℕ → Option SignedTx
signed_at k place = option_map (λ (t : Made). t.signed) (made_at k place)

-- the report's line for a vote with this answer; the transaction goes by the name of the first line that made it
abbrev pub vote_line_by : Known → ℕ → Digest → Result Voted VoteRefusal → Line
vote_line_by k m tx answer = line.Vote m (tx_name (world_with k) tx) (vote_answered (setting_with k) (world_with k) answer)
