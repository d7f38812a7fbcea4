-- The report's words for Ends, turns and acknowledgements, in terms of the directory of names (the code has no whole
-- world at hand when it words them).
use Rattle.std.specs.Prelude.{ℕ, Bool, List, [], ◌∷◌, Option, Some, None, Result}
use Rattle.digest_core.specs.declared.Digest.{Digest}
use Rattle.protocol_spec.specs.Chain.Certificates.{Rules}
use Rattle.protocol_spec.specs.Member.Member.{Member}
use Rattle.protocol_spec.specs.Member.Calls.{ack_answer, end_answer}
use Rattle.protocol_spec.specs.declared.refusals.TurnRefusal.{TurnRefusal}
use Rattle.report_text.specs.declared.lines.Line.{Line}
use Rattle.report_text.specs.declared.lines.Line.TheVariants as line
use Rattle.report_text.specs.declared.lines.AckText.{AckText}
use Rattle.report_text.specs.declared.lines.AckText.TheVariants as ack_text
use Rattle.report_text.specs.declared.lines.EndText.{EndText}
use Rattle.report_text.specs.declared.lines.EndText.TheVariants as end_text
use Rattle.report_text.specs.declared.lines.TurnText.TheVariants as turn_text
use Rattle.chain_messages.specs.declared.messages.Statement.{Statement}
use Rattle.chain_messages.specs.declared.messages.Statement.TheVariants as statement
use Rattle.world_spec.specs.World.{Made, answered_statement}
use Rattle.world_spec.specs.Making.{digest_or_zero, spoiled_if}
use Rattle.world_spec.specs.Step.{executed_digest}
use Rattle.world_spec.specs.Report.{ack_answered, end_answered, turn_answered}
use Rattle.world_spec.specs.Known.{Known, world_with}
use Rattle.world_spec.specs.Posts.{Post}
use Rattle.world_core.specs.Steps.{says_in}
use Rattle.world_lines.specs.Answers.{member_in}
use Rattle.world_core.specs.declared.reply.Reply.{Reply}
use Rattle.world_core.specs.declared.reply.Reply.TheVariants as reply

-- the report's words for a member's End, and for its acknowledgement of a transaction; `None` stands for a member that
-- is down
abbrev pub end_text_by : Known → Rules → Option Member → EndText
end_text_by k r None = end_text.Down
end_text_by k r (Some m) = end_answered (world_with k) (end_answer r m)

abbrev pub ack_text_by : Known → Rules → Digest → Option Member → AckText
ack_text_by k r tx None = ack_text.Down
ack_text_by k r tx (Some m) = ack_answered (world_with k) (ack_answer r m tx)

-- what the member states by that answer: its End or its acknowledgement if it gives one, and nothing else
abbrev pub end_statements : Rules → Option Member → List Statement
end_statements r None = []
end_statements r (Some state) = answered_statement (end_answer r state)

abbrev pub ack_statements : Rules → Digest → Option Member → List Statement
ack_statements r tx None = []
ack_statements r tx (Some state) = answered_statement (ack_answer r state tx)

-- the lines for a member's reply to a turn in this epoch
abbrev pub turn_replied : Known → ℕ → ℕ → Reply (Result (List Digest) TurnRefusal) → List Line
turn_replied k m epoch reply.Down = line.Turn m turn_text.Down ∷ []
turn_replied k m epoch reply.Stopped = line.Turn m turn_text.Stopped ∷ []
turn_replied k m epoch (reply.Answered given) = turn_answered (world_with k) m (member_in epoch) given

-- a faulty member's acknowledgement: with the digest of the first honest member that executed the transaction, zeros
-- if none did, spoiled if the line says so
abbrev pub false_ack_by : List Post → Made → Bool → Statement
false_ack_by posts t spoiled = statement.Ack t.signed.tx.epoch t.digest (spoiled_if spoiled (digest_or_zero (says_in (executed_digest t.digest) posts)))
