-- The families of lines: each has a printer of its own. Source: this profile.
use Rattle.std.specs.Prelude.{Bool, true, false}
use Rattle.report_text.specs.declared.lines.Line.{Line}
use Rattle.report_text.specs.declared.lines.Line.TheVariants as line

-- whether the line is about a transaction that is made or voted for
abbrev pub is_vote_line : Line → Bool
is_vote_line (line.TxMade tx) = true
is_vote_line (line.Vote member tx text) = true
is_vote_line (line.Fvote member tx origins) = true
is_vote_line (line.RawVote member text) = true
is_vote_line other = false

-- whether the line is about a certificate, or about acknowledgements
abbrev pub is_certificate_line : Line → Bool
is_certificate_line (line.Cert tx text) = true
is_certificate_line (line.Send member tx text) = true
is_certificate_line (line.RawHold member text) = true
is_certificate_line (line.Ack member tx text) = true
is_certificate_line (line.Final tx text) = true
is_certificate_line other = false

-- whether the line is about the sequence: an entry that is ordered or seen
abbrev pub is_sequence_line : Line → Bool
is_sequence_line (line.Order tx text) = true
is_sequence_line (line.OrderEnd member text) = true
is_sequence_line (line.OrderCommit entry) = true
is_sequence_line (line.See member text) = true
is_sequence_line (line.SeeEntry member entry text) = true
is_sequence_line other = false

-- whether the line is about a run, except for its transactions with effects
abbrev pub is_run_line : Line → Bool
is_run_line (line.Run member text) = true
is_run_line (line.Absent tx key) = true
is_run_line (line.Unfit tx) = true
is_run_line (line.Checkpoint number txs last) = true
is_run_line other = false

-- whether the line is about a transaction with effects: done, failed or aborted
abbrev pub is_outcome_line : Line → Bool
is_outcome_line (line.Done tx version gas) = true
is_outcome_line (line.Failed tx command cause version gas) = true
is_outcome_line (line.Aborted tx command code version gas) = true
is_outcome_line other = false

-- whether the line is about the end of a member's epoch, or its turn to the next
abbrev pub is_turn_line : Line → Bool
is_turn_line (line.Close member text) = true
is_turn_line (line.End member text) = true
is_turn_line (line.Turn member text) = true
is_turn_line (line.Reverted tx) = true
is_turn_line other = false

-- whether the line is about a member that stops, restarts or is shown
abbrev pub is_member_line : Line → Bool
is_member_line (line.Stop member kept) = true
is_member_line (line.Restart member text) = true
is_member_line (line.Show member text) = true
is_member_line (line.Object object version owner content) = true
is_member_line other = false

-- whether the line is about a whole run, or the refusal of a schedule
abbrev pub is_total_line : Line → Bool
is_total_line (line.Make number transactions checkpoints objects sum) = true
is_total_line (line.Refused line cause) = true
is_total_line other = false
