-- The report's words for a member's reply, in terms of the directory of names (no whole world).
use Rattle.std.specs.Prelude.{ℕ, Bool, List, [], ◌∷◌, Option, Some, None, Result}
use Rattle.report_text.specs.declared.lines.Line.{Line}
use Rattle.report_text.specs.declared.lines.Line.TheVariants as line
use Rattle.report_text.specs.declared.lines.CloseText.{CloseText}
use Rattle.report_text.specs.declared.lines.CloseText.TheVariants as close_text
use Rattle.report_text.specs.declared.lines.RunText.TheVariants as run_text
use Rattle.report_text.specs.declared.lines.SendText.{SendText}
use Rattle.report_text.specs.declared.lines.SendText.TheVariants as send_text
use Rattle.report_text.specs.declared.lines.ShowText.TheVariants as show_text
use Rattle.report_text.specs.declared.lines.VoteText.{VoteText}
use Rattle.report_text.specs.declared.lines.VoteText.TheVariants as vote_text
use Rattle.chain_types.specs.Transactions as transactions
use Rattle.chain_messages.specs.declared.messages.Certificate.{Certificate}
use Rattle.chain_messages.specs.declared.messages.Statement.{Statement}
use Rattle.chain_messages.specs.Messages as messages
use Rattle.protocol_spec.specs.declared.answers.Ran.{Ran}
use Rattle.protocol_spec.specs.declared.answers.Voted.{Voted as Sent}
use Rattle.protocol_spec.specs.declared.refusals.CloseRefusal.{CloseRefusal}
use Rattle.protocol_spec.specs.declared.refusals.HoldRefusal.{HoldRefusal}
use Rattle.protocol_spec.specs.declared.refusals.RunRefusal.{RunRefusal}
use Rattle.protocol_spec.specs.declared.refusals.VoteRefusal.{VoteRefusal}
use Rattle.protocol_spec.specs.Member.Member.{live_objects}
use Rattle.world_spec.specs.World.{Made, ran_statements}
use Rattle.world_spec.specs.Report.{close_answered, hold_answered, run_answered, shown, vote_answered}
use Rattle.world_spec.specs.Known.{Known, setting_with, world_with}
use Rattle.world_spec.specs.Seats.{Seated}
use Rattle.world_lines.specs.Answers.{vote_as}
use Rattle.world_core.specs.declared.reply.Reply.{Reply}
use Rattle.world_core.specs.declared.reply.Reply.TheVariants as reply

abbrev pub vote_replied : Known → Reply (Result Sent VoteRefusal) → VoteText
vote_replied k reply.Down = vote_text.Down
vote_replied k reply.Stopped = vote_text.Stopped
vote_replied k (reply.Answered given) = vote_answered (setting_with k) (world_with k) (vote_as given)

abbrev pub hold_replied : Known → Reply (Result Bool HoldRefusal) → SendText
hold_replied k reply.Down = send_text.Down
hold_replied k reply.Stopped = send_text.Stopped
hold_replied k (reply.Answered given) = hold_answered (setting_with k) (world_with k) given

abbrev pub close_replied : Known → Reply (Result Bool CloseRefusal) → CloseText
close_replied k reply.Down = close_text.Down
close_replied k reply.Stopped = close_text.Stopped
close_replied k (reply.Answered given) = close_answered (world_with k) given

abbrev pub run_replied : Known → ℕ → Reply (Result Ran RunRefusal) → List Line
run_replied k m reply.Down = line.Run m run_text.Down ∷ []
run_replied k m reply.Stopped = line.Run m run_text.Stopped ∷ []
run_replied k m (reply.Answered given) = run_answered (setting_with k) (world_with k) m given

-- what a member states by its reply to a run
abbrev pub run_stated : Reply (Result Ran RunRefusal) → List Statement
run_stated reply.Down = []
run_stated reply.Stopped = []
run_stated (reply.Answered given) = ran_statements given

abbrev pub show_by : Known → ℕ → Option Seated → List Line
show_by k m None = line.Show m show_text.Down ∷ []
show_by k m (Some seat) = shown (setting_with k) (world_with k) m seat.state.epoch (live_objects seat.state)

-- the encoding of a transaction of a line, and of a certificate
abbrev pub spelled_tx : Made → List ℕ
spelled_tx t = transactions.signed.spell t.signed

abbrev pub spelled_cert : Certificate → List ℕ
spelled_cert c = messages.certificate.spell c
