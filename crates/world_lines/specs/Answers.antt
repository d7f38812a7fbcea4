-- The answers of a member in the shape that the definitions use: without seals.
use Rattle.std.specs.Prelude.{ℕ, Bool, true, false, [], Result, Ok, Err}
use Rattle.digest_core.specs.declared.Digest.{Digest}
use Rattle.chain_messages.specs.declared.messages.Sealed.{Sealed as SealedStatement}
use Rattle.chain_messages.specs.declared.messages.Statement.{Statement}
use Rattle.protocol_spec.specs.declared.answers.Voted.{Voted as Sealed}
use Rattle.protocol_spec.specs.declared.refusals.VoteRefusal.{VoteRefusal}
use Rattle.report_text.specs.declared.lines.Line.{Line}
use Rattle.report_text.specs.declared.lines.Line.TheVariants as line
use Rattle.protocol_spec.specs.Member.Calls.{Voted}
use Rattle.protocol_spec.specs.Member.Member.{Member, fresh}
use Rattle.world_spec.specs.World.{World}
use Rattle.world_spec.specs.Names.{tx_name}
use Rattle.cert_rules.specs.declared.collecting.Collected.{Collected as Given}
use Rattle.cert_rules.specs.declared.collecting.Collected.TheVariants as given

-- a vote without its seal: its statement, and whether it is fresh
abbrev pub voted_as : Sealed → Voted
voted_as v = record { statement = v.sealed.statement; fresh = v.fresh }

abbrev pub vote_as : Result Sealed VoteRefusal → Result Voted VoteRefusal
vote_as (Ok v) = Ok (voted_as v)
vote_as (Err refusal) = Err refusal

-- an End or an acknowledgement without its seal: its statement
abbrev pub stated_as : {E : Type 0} → Result SealedStatement E → Result Statement E
stated_as (Ok sealed) = Ok sealed.statement
stated_as (Err refusal) = Err refusal

-- a member in this epoch; the lines of a turn look at nothing else of the member that turned
abbrev pub member_in : ℕ → Member
member_in epoch = record (fresh []) { epoch = epoch }

-- the report's line for a transaction that a turn reverted
abbrev pub reverted_line : World → Digest → Line
reverted_line w tx = line.Reverted (tx_name w tx)

-- whether collecting found that the members have the stake, and all say the same
abbrev pub is_whole : Given → Bool
is_whole (given.Lacks m) = false
is_whole (given.Short weight total) = false
is_whole (given.Differ a b) = false
is_whole given.Whole = true
