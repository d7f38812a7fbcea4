-- The lines of the report that a line of a schedule gives. Source: this profile.
use Rattle.std.specs.Prelude.{ℕ, zero, suc, ◌+◌, min, Bool, true, false, ◌==◌, List, [], ◌∷◌, ◌++◌, map, length, slice_get, Option, Some, None, Result, Ok, Err, if◌then◌else◌}
use Rattle.digest_core.specs.declared.Digest.{Digest}
use Rattle.chain_types.specs.declared.objects.ObjectKey.{ObjectKey}
use Rattle.chain_types.specs.declared.objects.Owner.{Owner}
use Rattle.chain_types.specs.declared.objects.Owner.TheVariants as owner
use Rattle.chain_types.specs.declared.objects.Content.{Content}
use Rattle.chain_types.specs.declared.objects.Content.TheVariants as content
use Rattle.chain_types.specs.declared.objects.Object.{Object}
use Rattle.chain_types.specs.declared.refusals.CertRefusal.{CertRefusal}
use Rattle.chain_types.specs.declared.refusals.CertRefusal.TheVariants as bad_cert
use Rattle.chain_messages.specs.declared.messages.Statement.{Statement}
use Rattle.chain_messages.specs.declared.messages.Statement.TheVariants as statement
use Rattle.chain_messages.specs.declared.messages.Certificate.{Certificate}
use Rattle.effects_core.specs.declared.effects.Status.{Status}
use Rattle.effects_core.specs.declared.effects.Status.TheVariants as status
use Rattle.effects_core.specs.declared.effects.Effects.{Effects}
use Rattle.checkpoint_core.specs.declared.checkpoints.Item.{Item}
use Rattle.checkpoint_core.specs.declared.checkpoints.Checkpoint.{Checkpoint}
use Rattle.protocol_spec.specs.declared.answers.Left.{Left}
use Rattle.protocol_spec.specs.declared.answers.Seen.{Seen}
use Rattle.protocol_spec.specs.declared.answers.SeenWhat.{SeenWhat}
use Rattle.protocol_spec.specs.declared.answers.SeenWhat.TheVariants as seen_as
use Rattle.protocol_spec.specs.declared.answers.Ignore.{Ignore}
use Rattle.protocol_spec.specs.declared.answers.Ignore.TheVariants as ignore
use Rattle.protocol_spec.specs.declared.answers.Ran.{Ran}
use Rattle.protocol_spec.specs.declared.refusals.VoteRefusal.{VoteRefusal}
use Rattle.protocol_spec.specs.declared.refusals.VoteRefusal.TheVariants as no_vote
use Rattle.protocol_spec.specs.declared.refusals.HoldRefusal.{HoldRefusal}
use Rattle.protocol_spec.specs.declared.refusals.HoldRefusal.TheVariants as no_hold
use Rattle.protocol_spec.specs.declared.refusals.SeeRefusal.{SeeRefusal}
use Rattle.protocol_spec.specs.declared.refusals.SeeRefusal.TheVariants as no_see
use Rattle.protocol_spec.specs.declared.refusals.RunRefusal.{RunRefusal}
use Rattle.protocol_spec.specs.declared.refusals.RunRefusal.TheVariants as no_run
use Rattle.protocol_spec.specs.declared.refusals.CloseRefusal.{CloseRefusal}
use Rattle.protocol_spec.specs.declared.refusals.CloseRefusal.TheVariants as no_close
use Rattle.protocol_spec.specs.declared.refusals.EndRefusal.{EndRefusal}
use Rattle.protocol_spec.specs.declared.refusals.EndRefusal.TheVariants as no_end
use Rattle.protocol_spec.specs.declared.refusals.TurnRefusal.{TurnRefusal}
use Rattle.protocol_spec.specs.declared.refusals.TurnRefusal.TheVariants as no_turn
use Rattle.protocol_spec.specs.declared.refusals.AckRefusal.{AckRefusal}
use Rattle.protocol_spec.specs.declared.refusals.AckRefusal.TheVariants as no_ack
use Rattle.schedule_text.specs.declared.words.Event.{Event}
use Rattle.schedule_text.specs.declared.words.Event.TheVariants as event
use Rattle.report_text.specs.declared.lines.Line.{Line}
use Rattle.report_text.specs.declared.lines.Line.TheVariants as line
use Rattle.report_text.specs.declared.lines.VoteText.{VoteText}
use Rattle.report_text.specs.declared.lines.VoteText.TheVariants as vote_text
use Rattle.report_text.specs.declared.lines.CertText.{CertText}
use Rattle.report_text.specs.declared.lines.CertText.TheVariants as cert_text
use Rattle.report_text.specs.declared.lines.SendText.{SendText}
use Rattle.report_text.specs.declared.lines.SendText.TheVariants as send_text
use Rattle.report_text.specs.declared.lines.OrderText.{OrderText}
use Rattle.report_text.specs.declared.lines.OrderText.TheVariants as order_text
use Rattle.report_text.specs.declared.lines.OrderEndText.{OrderEndText}
use Rattle.report_text.specs.declared.lines.OrderEndText.TheVariants as order_end_text
use Rattle.report_text.specs.declared.lines.SeeText.TheVariants as see_text
use Rattle.report_text.specs.declared.lines.EntryText.{EntryText}
use Rattle.report_text.specs.declared.lines.EntryText.TheVariants as entry_as
use Rattle.report_text.specs.declared.lines.RunText.TheVariants as run_text
use Rattle.report_text.specs.declared.lines.CloseText.{CloseText}
use Rattle.report_text.specs.declared.lines.CloseText.TheVariants as close_text
use Rattle.report_text.specs.declared.lines.EndText.{EndText}
use Rattle.report_text.specs.declared.lines.EndText.TheVariants as end_text
use Rattle.report_text.specs.declared.lines.TurnText.TheVariants as turn_text
use Rattle.report_text.specs.declared.lines.RestartText.TheVariants as restart_text
use Rattle.report_text.specs.declared.lines.ShowText.TheVariants as show_text
use Rattle.report_text.specs.declared.lines.AckText.{AckText}
use Rattle.report_text.specs.declared.lines.AckText.TheVariants as ack_text
use Rattle.report_text.specs.declared.lines.FinalText.{FinalText}
use Rattle.report_text.specs.declared.lines.FinalText.TheVariants as final_text
use Rattle.report_text.specs.declared.lines.OwnerText.{OwnerText}
use Rattle.report_text.specs.declared.lines.OwnerText.TheVariants as owner_text
use Rattle.report_text.specs.declared.lines.ContentText.{ContentText}
use Rattle.report_text.specs.declared.lines.ContentText.TheVariants as content_text
use Rattle.chain_types.specs.Equal.{digest_eq}
use Rattle.chain_types.specs.Transactions as transactions
use Rattle.chain_messages.specs.Messages as messages
use Rattle.protocol_spec.specs.Chain.Collecting.{Collected, lacks, short, differ, whole, collected}
use Rattle.protocol_spec.specs.Chain.Committee.{total_of}
use Rattle.protocol_spec.specs.Member.Member.{Member, Fork, fork_of, live_objects}
use Rattle.protocol_spec.specs.Member.Calls.{Call, votes, holds, sees, runs, closes, ends, turns, acks, Voted, vote_answer, hold_answer, see_answer, run_answer, close_answer, end_answer, turn_answer, ack_answer}
use Rattle.world_spec.specs.Setting.{Name, Setting}
use Rattle.world_spec.specs.World.{Made, World, WorldOf, Seating, Reached, finds_down, stops, answers, by_records, reached_over, if_called, honest_in, member_over, next_over, seat_honest, seat_is}
use Rattle.world_spec.specs.Names.{made_named, cert_named, tx_name, object_name, key_name, address_name, shown_order}
use Rattle.world_spec.specs.Step.{end_in, ack_in, last_said, origins_by, votes_collected, open_entries, entries_left}

-- ---- words

abbrev pub origin_name : {S : Type 0} → WorldOf S → Option Digest → Option Name
origin_name w None = None
origin_name w (Some tx) = Some (tx_name w tx)

abbrev pub origin_names : {S : Type 0} → WorldOf S → List (Option Digest) → List (Option Name)
origin_names w origins = map (origin_name w) origins

abbrev pub tx_names : {S : Type 0} → WorldOf S → List Digest → List Name
tx_names w txs = map (tx_name w) txs

-- ---- vote

abbrev pub voted_text : {S : Type 0} → WorldOf S → Bool → Statement → VoteText
voted_text w true (statement.Vote epoch tx origins) = vote_text.Voted (origin_names w origins)
voted_text w false (statement.Vote epoch tx origins) = vote_text.Again (origin_names w origins)
voted_text w new (statement.End epoch) = vote_text.Down
voted_text w new (statement.Checkpoint epoch number digest) = vote_text.Down
voted_text w new (statement.Ack epoch tx effects) = vote_text.Down

-- here nothing runs out of memory, and a fault of the keeper is a stop; both cases get the text of a member that is
-- down
abbrev pub vote_answered : {S : Type 0} → Setting → WorldOf S → Result Voted VoteRefusal → VoteText
vote_answered s w (Ok v) = voted_text w v.fresh v.statement
vote_answered s w (Err no_vote.Down) = vote_text.Down
vote_answered s w (Err (no_vote.Halted first second)) = vote_text.Halted (tx_name w first) (tx_name w second)
vote_answered s w (Err no_vote.Full) = vote_text.Full
vote_answered s w (Err (no_vote.Malformed fault)) = vote_text.Malformed fault.at fault.why
vote_answered s w (Err (no_vote.WrongEpoch had want)) = vote_text.WrongEpoch had want
vote_answered s w (Err no_vote.Closed) = vote_text.Closed
vote_answered s w (Err (no_vote.Invalid n)) = vote_text.Invalid n
vote_answered s w (Err no_vote.Unsealed) = vote_text.Unsealed
vote_answered s w (Err (no_vote.Absent key)) = vote_text.Absent (key_name s w key)
vote_answered s w (Err (no_vote.Consumed key by)) = vote_text.Consumed (key_name s w key) (tx_name w by)
vote_answered s w (Err (no_vote.WrongDigest key)) = vote_text.WrongDigest (key_name s w key)
vote_answered s w (Err (no_vote.WrongOwner key)) = vote_text.WrongOwner (key_name s w key)
vote_answered s w (Err (no_vote.WrongKind key)) = vote_text.WrongKind (key_name s w key)
vote_answered s w (Err (no_vote.PoorGas had want)) = vote_text.PoorGas had want
vote_answered s w (Err (no_vote.Locked key by)) = vote_text.Locked (key_name s w key) (tx_name w by)
vote_answered s w (Err no_vote.KeepFault) = vote_text.Down
vote_answered s w (Err no_vote.OutOfMemory) = vote_text.Down

abbrev pub vote_reached : {S : Type 0} → Setting → WorldOf S → List ℕ → Reached → VoteText
vote_reached s w bytes finds_down = vote_text.Down
vote_reached s w bytes (stops kept x) = vote_text.Stopped
vote_reached s w bytes (answers m x) = vote_answered s w (vote_answer s.rules m bytes)

abbrev pub vote_said : {S : Type 0} → Seating S → Setting → WorldOf S → ℕ → List ℕ → VoteText
vote_said k s w m bytes = vote_reached s w bytes (reached_over k s.rules w m (votes bytes))

-- a schedule names only what an earlier line made; any other name gets the text of a member that is down
abbrev pub vote_lines : {S : Type 0} → Seating S → Setting → WorldOf S → ℕ → Name → Option Made → List Line
vote_lines k s w m tx None = line.Vote m tx vote_text.Down ∷ []
vote_lines k s w m tx (Some t) = line.Vote m tx (vote_said k s w m (transactions.signed.spell t.signed)) ∷ []

abbrev pub fvote_lines_by : {S : Type 0} → (S → Bool) → WorldOf S → ℕ → Name → List (Option Name) → Option Made → List Line
fvote_lines_by honest w m tx words None = line.Fvote m tx [] ∷ []
fvote_lines_by honest w m tx words (Some t) = line.Fvote m tx (origin_names w (origins_by honest w t words)) ∷ []

abbrev pub fvote_lines : World → ℕ → Name → List (Option Name) → Option Made → List Line
fvote_lines w m tx words t = fvote_lines_by seat_honest w m tx words t

-- ---- cert and final

abbrev pub cert_collected : List ℕ → Collected → CertText
cert_collected ms (lacks m) = cert_text.NoVote m
cert_collected ms (short weight total) = cert_text.Short weight total
cert_collected ms (differ a b) = cert_text.Differ a b
cert_collected ms whole = cert_text.Formed ms

abbrev pub cert_lines : {S : Type 0} → Setting → WorldOf S → Name → List ℕ → Option Made → List Line
cert_lines s w tx ms None = line.Cert tx (cert_text.NoVote 0) ∷ []
cert_lines s w tx ms (Some t) = line.Cert tx (cert_collected ms (votes_collected s w t ms)) ∷ []

abbrev pub final_collected : List ℕ → Collected → FinalText
final_collected ms (lacks m) = final_text.NoAck m
final_collected ms (short weight total) = final_text.Short weight total
final_collected ms (differ a b) = final_text.Differ a b
final_collected ms whole = final_text.FinalBy ms

-- what collecting the acknowledgements of a transaction in its epoch gives
unfoldable pub acks_collected : {S : Type 0} → Setting → WorldOf S → Made → List ℕ → Collected
acks_collected s w t ms = collected digest_eq s.rules.stakes (λ m. last_said (ack_in t.signed.tx.epoch t.digest) m w.said) ms

abbrev pub final_lines : {S : Type 0} → Setting → WorldOf S → Name → List ℕ → Option Made → List Line
final_lines s w tx ms None = line.Final tx (final_text.NoAck 0) ∷ []
final_lines s w tx ms (Some t) = line.Final tx (final_collected ms (acks_collected s w t ms)) ∷ []

-- ---- send

abbrev pub bad_cert_text : CertRefusal → SendText
bad_cert_text (bad_cert.Shape n) = send_text.Shape n
bad_cert_text bad_cert.Order = send_text.Order
bad_cert_text (bad_cert.ShortStake weight total) = send_text.ShortStake weight total
bad_cert_text (bad_cert.BadSeal m) = send_text.BadSeal m
bad_cert_text bad_cert.OutOfMemory = send_text.Down

abbrev pub hold_answered : {S : Type 0} → Setting → WorldOf S → Result Bool HoldRefusal → SendText
hold_answered s w (Ok true) = send_text.Held
hold_answered s w (Ok false) = send_text.Again
hold_answered s w (Err no_hold.Down) = send_text.Down
hold_answered s w (Err (no_hold.Halted first second)) = send_text.Halted (tx_name w first) (tx_name w second)
hold_answered s w (Err no_hold.Full) = send_text.Full
hold_answered s w (Err (no_hold.Malformed fault)) = send_text.Malformed fault.at fault.why
hold_answered s w (Err (no_hold.WrongEpoch had want)) = send_text.WrongEpoch had want
hold_answered s w (Err no_hold.Closed) = send_text.Closed
hold_answered s w (Err (no_hold.Cert refusal)) = bad_cert_text refusal
hold_answered s w (Err no_hold.KeepFault) = send_text.Down
hold_answered s w (Err (no_hold.Fork key first second)) = send_text.Fork (key_name s w key) (tx_name w first) (tx_name w second)
hold_answered s w (Err no_hold.OutOfMemory) = send_text.Down

abbrev pub hold_reached : {S : Type 0} → Setting → WorldOf S → List ℕ → Reached → SendText
hold_reached s w bytes finds_down = send_text.Down
hold_reached s w bytes (stops kept x) = send_text.Stopped
hold_reached s w bytes (answers m x) = hold_answered s w (hold_answer s.rules m bytes)

abbrev pub hold_said : {S : Type 0} → Seating S → Setting → WorldOf S → ℕ → List ℕ → SendText
hold_said k s w m bytes = hold_reached s w bytes (reached_over k s.rules w m (holds bytes))

abbrev pub send_said : {S : Type 0} → Seating S → Setting → WorldOf S → ℕ → Option Certificate → SendText
send_said k s w m None = send_text.NoCertificate
send_said k s w m (Some c) = hold_said k s w m (messages.certificate.spell c)

-- ---- order

abbrev pub order_said : {S : Type 0} → WorldOf S → Option Certificate → OrderText
order_said w None = order_text.NoCertificate
order_said w (Some c) = if c.tx.epoch == w.epoch then order_text.Entry (length (open_entries w)) else order_text.NotTaken

abbrev pub honest_end_said : {S : Type 0} → WorldOf S → Option ℕ → OrderEndText
honest_end_said w None = order_end_text.NoStatement
honest_end_said w (Some epoch) = if epoch == w.epoch then order_end_text.Entry (length (open_entries w)) else order_end_text.NotTaken

abbrev pub order_end_by : {S : Type 0} → (S → Bool) → WorldOf S → ℕ → OrderEndText
order_end_by honest w m = if honest_in honest w m then honest_end_said w (last_said end_in m w.said) else order_end_text.Entry (length (open_entries w))

-- ---- checkpoints, which come after the entry or the run that completed them

abbrev pub checkpoint_line : {S : Type 0} → WorldOf S → Checkpoint → Line
checkpoint_line w c = line.Checkpoint c.number (map (λ (i : Item). tx_name w i.tx) c.items) c.last

abbrev pub checkpoint_lines : {S : Type 0} → WorldOf S → List Checkpoint → List Line
checkpoint_lines w cs = map (checkpoint_line w) cs

-- ---- see

abbrev pub ignored_text : Ignore → EntryText
ignored_text ignore.Malformed = entry_as.IgnoredMalformed
ignored_text ignore.Statement = entry_as.IgnoredStatement
ignored_text ignore.Epoch = entry_as.IgnoredEpoch
ignored_text ignore.Cert = entry_as.IgnoredCertificate
ignored_text ignore.Seal = entry_as.IgnoredSeal
ignored_text ignore.Repeat = entry_as.IgnoredRepeat

abbrev pub what_text : {S : Type 0} → Setting → WorldOf S → SeenWhat → EntryText
what_text s w (seen_as.Taken admitted dropped) = entry_as.Taken (tx_names w admitted) (tx_names w dropped)
what_text s w (seen_as.Pending tx origin) = entry_as.Pending (tx_name w tx) (tx_name w origin)
what_text s w (seen_as.Deferred tx id) = entry_as.Deferred (tx_name w tx) (object_name s w id)
what_text s w (seen_as.Commit admitted dropped) = entry_as.Commit (tx_names w admitted) (tx_names w dropped)
what_text s w (seen_as.Counted m weight) = entry_as.EndOf m weight (total_of s.rules.stakes) false
what_text s w (seen_as.Ended m weight) = entry_as.EndOf m weight (total_of s.rules.stakes) true
what_text s w (seen_as.Ignored cause) = ignored_text cause

-- the lines of one entry, and whether the event goes on after it
abbrev pub Lines : Type 0
Lines = List Line × Bool

abbrev pub entry_lines : {S : Type 0} → Setting → WorldOf S → ℕ → ℕ → Result Seen SeeRefusal → Lines
entry_lines s w m number (Ok seen) = (line.SeeEntry m number (what_text s w seen.what) ∷ checkpoint_lines w seen.built, true)
entry_lines s w m number (Err no_see.Down) = (line.See m see_text.Down ∷ [], false)
entry_lines s w m number (Err (no_see.Halted first second)) = (line.See m (see_text.Halted (tx_name w first) (tx_name w second)) ∷ [], false)
entry_lines s w m number (Err no_see.Full) = (line.See m see_text.Full ∷ [], false)
entry_lines s w m number (Err no_see.Over) = ([], false)
entry_lines s w m number (Err (no_see.Gap had want)) = ([], false)
entry_lines s w m number (Err no_see.KeepFault) = (line.See m see_text.Down ∷ [], false)
entry_lines s w m number (Err (no_see.Fork key first second)) = (line.SeeEntry m number (entry_as.Fork (key_name s w key) (tx_name w first) (tx_name w second)) ∷ [], false)
entry_lines s w m number (Err no_see.OutOfMemory) = (line.See m see_text.Down ∷ [], false)

abbrev pub entry_reached : {S : Type 0} → Setting → WorldOf S → ℕ → ℕ → List ℕ → Reached → Lines
entry_reached s w m number bytes finds_down = (line.See m see_text.Down ∷ [], false)
entry_reached s w m number bytes (stops kept x) = (line.SeeEntry m number entry_as.Stopped ∷ [], false)
entry_reached s w m number bytes (answers before x) = entry_lines s w m number (see_answer s.rules before number bytes)

abbrev pub call_lines : {S : Type 0} → Seating S → Setting → WorldOf S → ℕ → Option Call → Lines
call_lines k s w m None = ([], false)
call_lines k s w m (Some (sees number bytes)) = entry_reached s w m number bytes (reached_over k s.rules w m (sees number bytes))
call_lines k s w m (Some (votes bytes)) = ([], false)
call_lines k s w m (Some (holds bytes)) = ([], false)
call_lines k s w m (Some runs) = ([], false)
call_lines k s w m (Some closes) = ([], false)
call_lines k s w m (Some ends) = ([], false)
call_lines k s w m (Some turns) = ([], false)
call_lines k s w m (Some (acks tx)) = ([], false)

abbrev pub and_lines : Lines → List Line → List Line
and_lines (ls, true) rest = ls ++ rest
and_lines (ls, false) rest = ls

-- the lines for the next n entries of a member, up to the first after which the event does not go on
abbrev pub entries_lines : {S : Type 0} → Seating S → Setting → ℕ → WorldOf S → ℕ → List Line
entries_lines k s zero w m = []
entries_lines k s (suc n) w m = and_lines (call_lines k s w m (next_over k w m)) (entries_lines k s n (if_called k s.rules w m (next_over k w m)) m)

abbrev pub none_taken : ℕ → List Line → List Line
none_taken m [] = line.See m see_text.Nothing ∷ []
none_taken m (l ∷ ls) = l ∷ ls

-- a halted member reports that it is halted, even if it has no entry to take
abbrev pub see_halted : {S : Type 0} → Seating S → Setting → WorldOf S → ℕ → ℕ → Option Fork → List Line
see_halted k s w m n (Some fork) = line.See m (see_text.Halted (tx_name w fork.first) (tx_name w fork.second)) ∷ []
see_halted k s w m n None = none_taken m (entries_lines k s n w m)

abbrev pub see_up : {S : Type 0} → Seating S → Setting → WorldOf S → ℕ → ℕ → Bool → Option Member → List Line
see_up k s w m n true (Some member) = see_halted k s w m (min n (entries_left w (Some member))) (fork_of member)
see_up k s w m n true None = line.See m see_text.Down ∷ []
see_up k s w m n false member = line.See m see_text.Down ∷ []

-- ---- run

abbrev pub status_line : Name → ℕ → ℕ → Status → Line
status_line tx version gas status.Done = line.Done tx version gas
status_line tx version gas (status.Failed command cause) = line.Failed tx command cause version gas
status_line tx version gas (status.Aborted command code) = line.Aborted tx command code version gas

abbrev pub effects_line : {S : Type 0} → WorldOf S → Effects → Line
effects_line w e = status_line (tx_name w e.tx) e.version e.gas e.status

abbrev pub left_line_of : {S : Type 0} → Setting → WorldOf S → Digest → Option ObjectKey → Line
left_line_of s w tx (Some key) = line.Absent (tx_name w tx) (key_name s w key)
left_line_of s w tx None = line.Unfit (tx_name w tx)

abbrev pub left_line : {S : Type 0} → Setting → WorldOf S → Left → Line
left_line s w l = left_line_of s w l.tx l.key

abbrev pub run_answered : {S : Type 0} → Setting → WorldOf S → ℕ → Result Ran RunRefusal → List Line
run_answered s w m (Ok ran) = line.Run m (run_text.Executed (length ran.executed)) ∷ (map (effects_line w) ran.executed ++ (map (left_line s w) ran.left ++ checkpoint_lines w ran.built))
run_answered s w m (Err no_run.Down) = line.Run m run_text.Down ∷ []
run_answered s w m (Err (no_run.Halted first second)) = line.Run m (run_text.Halted (tx_name w first) (tx_name w second)) ∷ []
run_answered s w m (Err no_run.Full) = line.Run m run_text.Full ∷ []
run_answered s w m (Err no_run.KeepFault) = line.Run m run_text.Down ∷ []
run_answered s w m (Err no_run.OutOfMemory) = line.Run m run_text.Down ∷ []

abbrev pub run_reached : {S : Type 0} → Setting → WorldOf S → ℕ → Reached → List Line
run_reached s w m finds_down = line.Run m run_text.Down ∷ []
run_reached s w m (stops kept x) = line.Run m run_text.Stopped ∷ []
run_reached s w m (answers before x) = run_answered s w m (run_answer s.rules before)

-- ---- close, end, turn, ack

abbrev pub close_answered : {S : Type 0} → WorldOf S → Result Bool CloseRefusal → CloseText
close_answered w (Ok true) = close_text.Closed
close_answered w (Ok false) = close_text.Again
close_answered w (Err no_close.Down) = close_text.Down
close_answered w (Err (no_close.Halted first second)) = close_text.Halted (tx_name w first) (tx_name w second)
close_answered w (Err no_close.Full) = close_text.Full
close_answered w (Err no_close.KeepFault) = close_text.Down
close_answered w (Err no_close.OutOfMemory) = close_text.Down

abbrev pub close_reached : {S : Type 0} → Setting → WorldOf S → Reached → CloseText
close_reached s w finds_down = close_text.Down
close_reached s w (stops kept x) = close_text.Stopped
close_reached s w (answers m x) = close_answered w (close_answer s.rules m)

abbrev pub end_answered : {S : Type 0} → WorldOf S → Result Statement EndRefusal → EndText
end_answered w (Ok st) = end_text.Said
end_answered w (Err no_end.Down) = end_text.Down
end_answered w (Err (no_end.Halted first second)) = end_text.Halted (tx_name w first) (tx_name w second)
end_answered w (Err no_end.NotClosed) = end_text.NotClosed
end_answered w (Err (no_end.Waits tx)) = end_text.Waits (tx_name w tx)
end_answered w (Err no_end.OutOfMemory) = end_text.Down

-- an End appends no record, so no stop cuts it; likewise an acknowledgement
abbrev pub end_reached : {S : Type 0} → Setting → WorldOf S → Reached → EndText
end_reached s w finds_down = end_text.Down
end_reached s w (stops kept x) = end_text.Down
end_reached s w (answers m x) = end_answered w (end_answer s.rules m)

abbrev pub turn_answered : {S : Type 0} → WorldOf S → ℕ → Member → Result (List Digest) TurnRefusal → List Line
turn_answered w m before (Ok txs) = line.Turn m (turn_text.Turned (before.epoch + 1) (length txs)) ∷ map (λ tx. line.Reverted (tx_name w tx)) txs
turn_answered w m before (Err no_turn.Down) = line.Turn m turn_text.Down ∷ []
turn_answered w m before (Err (no_turn.Halted first second)) = line.Turn m (turn_text.Halted (tx_name w first) (tx_name w second)) ∷ []
turn_answered w m before (Err no_turn.Full) = line.Turn m turn_text.Full ∷ []
turn_answered w m before (Err no_turn.NotEnded) = line.Turn m turn_text.NotEnded ∷ []
turn_answered w m before (Err (no_turn.Waits tx)) = line.Turn m (turn_text.Waits (tx_name w tx)) ∷ []
turn_answered w m before (Err no_turn.KeepFault) = line.Turn m turn_text.Down ∷ []
turn_answered w m before (Err no_turn.OutOfMemory) = line.Turn m turn_text.Down ∷ []

abbrev pub turn_reached : {S : Type 0} → Setting → WorldOf S → ℕ → Reached → List Line
turn_reached s w m finds_down = line.Turn m turn_text.Down ∷ []
turn_reached s w m (stops kept x) = line.Turn m turn_text.Stopped ∷ []
turn_reached s w m (answers before x) = turn_answered w m before (turn_answer s.rules before)

abbrev pub ack_answered : {S : Type 0} → WorldOf S → Result Statement AckRefusal → AckText
ack_answered w (Ok st) = ack_text.Said
ack_answered w (Err no_ack.Down) = ack_text.Down
ack_answered w (Err (no_ack.Halted first second)) = ack_text.Halted (tx_name w first) (tx_name w second)
ack_answered w (Err no_ack.NotExecuted) = ack_text.NotExecuted
ack_answered w (Err no_ack.OutOfMemory) = ack_text.Down

abbrev pub ack_reached : {S : Type 0} → Setting → WorldOf S → Digest → Reached → AckText
ack_reached s w tx finds_down = ack_text.Down
ack_reached s w tx (stops kept x) = ack_text.Down
ack_reached s w tx (answers m x) = ack_answered w (ack_answer s.rules m tx)

-- a faulty member always says its acknowledgement; an honest one by its state
abbrev pub ack_said : {S : Type 0} → Seating S → Setting → WorldOf S → ℕ → Digest → AckText
ack_said k s w m tx = if honest_in k.honest w m then ack_reached s w tx (reached_over k s.rules w m (acks tx)) else ack_text.Said

abbrev pub ack_lines : {S : Type 0} → Seating S → Setting → WorldOf S → ℕ → Name → Option Made → List Line
ack_lines k s w m tx None = line.Ack m tx ack_text.Down ∷ []
ack_lines k s w m tx (Some t) = line.Ack m tx (ack_said k s w m t.digest) ∷ []

-- ---- show

abbrev pub shown_owner : {S : Type 0} → WorldOf S → Owner → OwnerText
shown_owner w (owner.Address a) = owner_text.Address (address_name w a)
shown_owner w (owner.Shared initial) = owner_text.Shared initial
shown_owner w owner.Immutable = owner_text.Frozen

abbrev pub shown_content : {S : Type 0} → Setting → WorldOf S → Content → ContentText
shown_content s w (content.Coin currency balance) = content_text.Coin currency balance
shown_content s w (content.Cap currency supply) = content_text.Cap currency supply
shown_content s w (content.Counter value) = content_text.Counter value
shown_content s w (content.Vault currency balance) = content_text.Vault currency balance
shown_content s w (content.VaultKey vault) = content_text.Key (object_name s w vault)
shown_content s w (content.Limit value) = content_text.Limit value

abbrev pub object_line : {S : Type 0} → Setting → WorldOf S → Object → Line
object_line s w o = line.Object (object_name s w o.id) o.version (shown_owner w o.owner) (shown_content s w o.content)

abbrev pub shown : {S : Type 0} → Setting → WorldOf S → ℕ → ℕ → List Object → List Line
shown s w m epoch objects = line.Show m (show_text.Shown epoch (length objects)) ∷ map (object_line s w) (shown_order s w objects)

abbrev pub show_up : {S : Type 0} → Setting → WorldOf S → ℕ → Bool → Option Member → List Line
show_up s w m true (Some member) = shown s w m member.epoch (live_objects member)
show_up s w m true None = line.Show m show_text.Down ∷ []
show_up s w m false member = line.Show m show_text.Down ∷ []

-- ---- the lines of an event

abbrev pub record_count : {S : Type 0} → Seating S → Option S → ℕ
record_count k None = 0
record_count k (Some seat) = k.count seat

-- the lines that a line of the schedule gives in this world. Names count from their line on, so the made
-- transaction is named already.
unfoldable pub lines_over : {S : Type 0} → Seating S → Setting → WorldOf S → Event → List Line
lines_over k s w (event.Tx name sender spoiled epoch gas budget inputs commands) = line.TxMade name ∷ []
lines_over k s w (event.Vote m tx) = vote_lines k s w m tx (made_named w tx)
lines_over k s w (event.Fvote m tx origins) = fvote_lines_by k.honest w m tx origins (made_named w tx)
lines_over k s w (event.Cert tx members) = cert_lines s w tx members (made_named w tx)
lines_over k s w (event.Send m tx) = line.Send m tx (send_said k s w m (cert_named w tx)) ∷ []
lines_over k s w (event.Order tx) = line.Order tx (order_said w (cert_named w tx)) ∷ []
lines_over k s w (event.OrderEnd m) = line.OrderEnd m (order_end_by k.honest w m) ∷ []
lines_over k s w event.OrderCommit = line.OrderCommit (length (open_entries w)) ∷ []
lines_over k s w (event.See m entries) = see_up k s w m entries (seat_is k.up (slice_get w.seats m)) (member_over k w m)
lines_over k s w (event.Run m workers) = run_reached s w m (reached_over k s.rules w m runs)
lines_over k s w (event.Close m) = line.Close m (close_reached s w (reached_over k s.rules w m closes)) ∷ []
lines_over k s w (event.End m) = line.End m (end_reached s w (reached_over k s.rules w m ends)) ∷ []
lines_over k s w (event.Turn m) = turn_reached s w m (reached_over k s.rules w m turns)
lines_over k s w (event.Show m) = show_up s w m (seat_is k.up (slice_get w.seats m)) (member_over k w m)
lines_over k s w (event.Stop m kept) = line.Stop m kept ∷ []
lines_over k s w (event.Restart m) = line.Restart m (restart_text.Records (record_count k (slice_get w.seats m))) ∷ []
lines_over k s w (event.RawVote m bytes) = line.RawVote m (vote_said k s w m bytes) ∷ []
lines_over k s w (event.RawHold m bytes) = line.RawHold m (hold_said k s w m bytes) ∷ []
lines_over k s w (event.Ack m tx spoiled) = ack_lines k s w m tx (made_named w tx)
lines_over k s w (event.Final tx members) = final_lines s w tx members (made_named w tx)

abbrev pub lines_of : Setting → World → Event → List Line
lines_of s w e = lines_over (by_records s) s w e
