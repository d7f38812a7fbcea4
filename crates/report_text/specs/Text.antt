-- The bytes of each line of a report. Source: this profile.
use Rattle.std.specs.Prelude.{ℕ, Bool, true, false, List, [], ◌∷◌, ◌++◌, Option, Some, None, codes, decimal}
use Rattle.std.specs.List.{concat, flat_map}
use Rattle.report_text.specs.declared.lines.VoteText.{VoteText}
use Rattle.report_text.specs.declared.lines.VoteText.TheVariants as vote
use Rattle.report_text.specs.declared.lines.CertText.{CertText}
use Rattle.report_text.specs.declared.lines.CertText.TheVariants as cert
use Rattle.report_text.specs.declared.lines.SendText.{SendText}
use Rattle.report_text.specs.declared.lines.SendText.TheVariants as send
use Rattle.report_text.specs.declared.lines.OrderText.{OrderText}
use Rattle.report_text.specs.declared.lines.OrderText.TheVariants as order
use Rattle.report_text.specs.declared.lines.OrderEndText.{OrderEndText}
use Rattle.report_text.specs.declared.lines.OrderEndText.TheVariants as order_end
use Rattle.report_text.specs.declared.lines.SeeText.{SeeText}
use Rattle.report_text.specs.declared.lines.SeeText.TheVariants as see
use Rattle.report_text.specs.declared.lines.EntryText.{EntryText}
use Rattle.report_text.specs.declared.lines.EntryText.TheVariants as entry
use Rattle.report_text.specs.declared.lines.RunText.{RunText}
use Rattle.report_text.specs.declared.lines.RunText.TheVariants as run
use Rattle.report_text.specs.declared.lines.CloseText.{CloseText}
use Rattle.report_text.specs.declared.lines.CloseText.TheVariants as close
use Rattle.report_text.specs.declared.lines.EndText.{EndText}
use Rattle.report_text.specs.declared.lines.EndText.TheVariants as end
use Rattle.report_text.specs.declared.lines.TurnText.{TurnText}
use Rattle.report_text.specs.declared.lines.TurnText.TheVariants as turn
use Rattle.report_text.specs.declared.lines.RestartText.{RestartText}
use Rattle.report_text.specs.declared.lines.RestartText.TheVariants as restart
use Rattle.report_text.specs.declared.lines.ShowText.{ShowText}
use Rattle.report_text.specs.declared.lines.ShowText.TheVariants as show
use Rattle.report_text.specs.declared.lines.AckText.{AckText}
use Rattle.report_text.specs.declared.lines.AckText.TheVariants as ack
use Rattle.report_text.specs.declared.lines.FinalText.{FinalText}
use Rattle.report_text.specs.declared.lines.FinalText.TheVariants as final
use Rattle.report_text.specs.declared.lines.OwnerText.{OwnerText}
use Rattle.report_text.specs.declared.lines.OwnerText.TheVariants as owner
use Rattle.report_text.specs.declared.lines.ContentText.{ContentText}
use Rattle.report_text.specs.declared.lines.ContentText.TheVariants as content
use Rattle.report_text.specs.declared.lines.Line.{Line}
use Rattle.report_text.specs.declared.lines.Line.TheVariants as line

-- an origin, or `-` if there is none
abbrev pub origin_word : Option (List ℕ) → List ℕ
origin_word None = codes "-"
origin_word (Some tx) = tx

-- the words of these origins, each after a space
unfoldable pub origins_text : List (Option (List ℕ)) → List ℕ
origins_text origins = flat_map (λ o. 32 ∷ origin_word o) origins

unfoldable pub names_text : List (List ℕ) → List ℕ
names_text names = flat_map (λ name. 32 ∷ name) names

unfoldable pub numbers_text : List ℕ → List ℕ
numbers_text numbers = flat_map (λ n. 32 ∷ decimal n) numbers

-- a word and the names after it, each after a space, or nothing if there are none
abbrev pub part_text : List ℕ → List (List ℕ) → List ℕ
part_text word [] = []
part_text word (name ∷ names) = word ++ names_text (name ∷ names)

-- `admitted` with its transactions, then `dropped` with its own; a part without transactions is left out
abbrev pub taken_text : List (List ℕ) → List (List ℕ) → List ℕ
taken_text [] dropped = part_text (codes "dropped") dropped
taken_text (tx ∷ admitted) dropped =
    part_text (codes "admitted") (tx ∷ admitted) ++ part_text (codes " dropped") dropped

abbrev pub only_if : Bool → List ℕ → List ℕ
only_if true text = text
only_if false text = []

abbrev pub kept_text : Bool → List ℕ
kept_text true = codes "kept"
kept_text false = codes "lost"

unfoldable pub vote_text : VoteText → List ℕ
vote_text (vote.Voted origins) = codes "voted" ++ origins_text origins
vote_text (vote.Again origins) = codes "again" ++ origins_text origins
vote_text (vote.Halted first second) = concat (codes "halted " ∷ first ∷ codes " " ∷ second ∷ [])
vote_text (vote.Malformed at why) = concat (codes "malformed at " ∷ decimal at ∷ codes " why " ∷ decimal why ∷ [])
vote_text (vote.WrongEpoch had want) = concat (codes "wrong epoch had " ∷ decimal had ∷ codes " want " ∷ decimal want ∷ [])
vote_text vote.Closed = codes "closed"
vote_text (vote.Invalid number) = concat (codes "invalid " ∷ decimal number ∷ [])
vote_text vote.Unsealed = codes "unsealed"
vote_text (vote.Absent key) = concat (codes "absent " ∷ key ∷ [])
vote_text (vote.Consumed key by) = concat (codes "consumed " ∷ key ∷ codes " by " ∷ by ∷ [])
vote_text (vote.WrongDigest key) = concat (codes "wrong digest " ∷ key ∷ [])
vote_text (vote.WrongOwner key) = concat (codes "wrong owner " ∷ key ∷ [])
vote_text (vote.WrongKind key) = concat (codes "wrong kind " ∷ key ∷ [])
vote_text (vote.PoorGas had want) = concat (codes "poor gas had " ∷ decimal had ∷ codes " want " ∷ decimal want ∷ [])
vote_text (vote.Locked key by) = concat (codes "locked " ∷ key ∷ codes " by " ∷ by ∷ [])
vote_text vote.Down = codes "down"
vote_text vote.Full = codes "full"
vote_text vote.Stopped = codes "stopped"

unfoldable pub cert_text : CertText → List ℕ
cert_text (cert.NoVote member) = concat (codes "no vote of " ∷ decimal member ∷ [])
cert_text (cert.Short weight total) = concat (codes "short " ∷ decimal weight ∷ codes " of " ∷ decimal total ∷ [])
cert_text (cert.Differ a b) = concat (codes "differ " ∷ decimal a ∷ codes " " ∷ decimal b ∷ [])
cert_text (cert.Formed members) = codes "formed by" ++ numbers_text members

unfoldable pub send_text : SendText → List ℕ
send_text send.NoCertificate = codes "no certificate"
send_text send.Held = codes "held"
send_text send.Again = codes "again"
send_text (send.Halted first second) = concat (codes "halted " ∷ first ∷ codes " " ∷ second ∷ [])
send_text (send.Malformed at why) = concat (codes "malformed at " ∷ decimal at ∷ codes " why " ∷ decimal why ∷ [])
send_text (send.WrongEpoch had want) = concat (codes "wrong epoch had " ∷ decimal had ∷ codes " want " ∷ decimal want ∷ [])
send_text send.Closed = codes "closed"
send_text (send.Shape number) = concat (codes "shape " ∷ decimal number ∷ [])
send_text send.Order = codes "order"
send_text (send.ShortStake weight total) = concat (codes "short stake " ∷ decimal weight ∷ codes " of " ∷ decimal total ∷ [])
send_text (send.BadSeal member) = concat (codes "bad seal " ∷ decimal member ∷ [])
send_text (send.Fork key first second) = concat (codes "fork " ∷ key ∷ codes " " ∷ first ∷ codes " " ∷ second ∷ [])
send_text send.Down = codes "down"
send_text send.Full = codes "full"
send_text send.Stopped = codes "stopped"

unfoldable pub order_text : OrderText → List ℕ
order_text (order.Entry entry) = concat (codes "entry " ∷ decimal entry ∷ [])
order_text order.NoCertificate = codes "no certificate"
order_text order.NotTaken = codes "not taken"

unfoldable pub order_end_text : OrderEndText → List ℕ
order_end_text (order_end.Entry entry) = concat (codes "entry " ∷ decimal entry ∷ [])
order_end_text order_end.NoStatement = codes "no statement"
order_end_text order_end.NotTaken = codes "not taken"

unfoldable pub see_text : SeeText → List ℕ
see_text see.Nothing = codes "nothing"
see_text (see.Halted first second) = concat (codes "halted " ∷ first ∷ codes " " ∷ second ∷ [])
see_text see.Down = codes "down"
see_text see.Full = codes "full"

unfoldable pub entry_text : EntryText → List ℕ
entry_text (entry.Taken admitted dropped) = taken_text admitted dropped
entry_text (entry.Pending tx origin) = concat (codes "pending " ∷ tx ∷ codes " on " ∷ origin ∷ [])
entry_text (entry.Deferred tx object) = concat (codes "deferred " ∷ tx ∷ codes " on " ∷ object ∷ [])
entry_text (entry.Commit admitted dropped) = codes "commit" ++ part_text (codes " admitted") admitted ++ part_text (codes " dropped") dropped
entry_text (entry.EndOf member weight total ended) = concat (codes "end of " ∷ decimal member ∷ codes " weight " ∷ decimal weight ∷ codes " of " ∷ decimal total ∷ []) ++ only_if ended (codes ", epoch ended")
entry_text entry.IgnoredMalformed = codes "ignored malformed"
entry_text entry.IgnoredStatement = codes "ignored statement"
entry_text entry.IgnoredEpoch = codes "ignored epoch"
entry_text entry.IgnoredCertificate = codes "ignored certificate"
entry_text entry.IgnoredSeal = codes "ignored seal"
entry_text entry.IgnoredRepeat = codes "ignored repeat"
entry_text (entry.Fork key first second) = concat (codes "fork " ∷ key ∷ codes " " ∷ first ∷ codes " " ∷ second ∷ [])
entry_text entry.Stopped = codes "stopped"

unfoldable pub run_text : RunText → List ℕ
run_text (run.Executed count) = concat (codes "executed " ∷ decimal count ∷ [])
run_text (run.Halted first second) = concat (codes "halted " ∷ first ∷ codes " " ∷ second ∷ [])
run_text run.Down = codes "down"
run_text run.Full = codes "full"
run_text run.Stopped = codes "stopped"

unfoldable pub close_text : CloseText → List ℕ
close_text close.Closed = codes "closed"
close_text close.Again = codes "again"
close_text (close.Halted first second) = concat (codes "halted " ∷ first ∷ codes " " ∷ second ∷ [])
close_text close.Down = codes "down"
close_text close.Full = codes "full"
close_text close.Stopped = codes "stopped"

unfoldable pub end_text : EndText → List ℕ
end_text end.Said = codes "said"
end_text end.NotClosed = codes "not closed"
end_text (end.Waits tx) = concat (codes "waits " ∷ tx ∷ [])
end_text (end.Halted first second) = concat (codes "halted " ∷ first ∷ codes " " ∷ second ∷ [])
end_text end.Down = codes "down"

unfoldable pub turn_text : TurnText → List ℕ
turn_text (turn.Turned epoch reverted) = concat (codes "epoch " ∷ decimal epoch ∷ codes " reverted " ∷ decimal reverted ∷ [])
turn_text turn.NotEnded = codes "not ended"
turn_text (turn.Waits tx) = concat (codes "waits " ∷ tx ∷ [])
turn_text (turn.Halted first second) = concat (codes "halted " ∷ first ∷ codes " " ∷ second ∷ [])
turn_text turn.Down = codes "down"
turn_text turn.Full = codes "full"
turn_text turn.Stopped = codes "stopped"

unfoldable pub restart_text : RestartText → List ℕ
restart_text (restart.Records count) = concat (codes "records " ∷ decimal count ∷ [])
restart_text (restart.BadRecord place) = concat (codes "bad record " ∷ decimal place ∷ [])

unfoldable pub show_text : ShowText → List ℕ
show_text (show.Shown epoch objects) = concat (codes "epoch " ∷ decimal epoch ∷ codes " objects " ∷ decimal objects ∷ [])
show_text show.Down = codes "down"

unfoldable pub ack_text : AckText → List ℕ
ack_text ack.Said = codes "said"
ack_text ack.NotExecuted = codes "not executed"
ack_text (ack.Halted first second) = concat (codes "halted " ∷ first ∷ codes " " ∷ second ∷ [])
ack_text ack.Down = codes "down"

unfoldable pub final_text : FinalText → List ℕ
final_text (final.NoAck member) = concat (codes "no ack of " ∷ decimal member ∷ [])
final_text (final.Short weight total) = concat (codes "short " ∷ decimal weight ∷ codes " of " ∷ decimal total ∷ [])
final_text (final.Differ a b) = concat (codes "differ " ∷ decimal a ∷ codes " " ∷ decimal b ∷ [])
final_text (final.FinalBy members) = codes "final by" ++ numbers_text members

unfoldable pub owner_text : OwnerText → List ℕ
owner_text (owner.Address name) = name
owner_text (owner.Shared initial) = concat (codes "shared " ∷ decimal initial ∷ [])
owner_text owner.Frozen = codes "frozen"

unfoldable pub content_text : ContentText → List ℕ
content_text (content.Coin currency balance) = concat (codes "coin " ∷ decimal currency ∷ codes " " ∷ decimal balance ∷ [])
content_text (content.Cap currency supply) = concat (codes "cap " ∷ decimal currency ∷ codes " " ∷ decimal supply ∷ [])
content_text (content.Counter value) = concat (codes "counter " ∷ decimal value ∷ [])
content_text (content.Vault currency balance) = concat (codes "vault " ∷ decimal currency ∷ codes " " ∷ decimal balance ∷ [])
content_text (content.Key object) = concat (codes "key " ∷ object ∷ [])
content_text (content.Limit value) = concat (codes "limit " ∷ decimal value ∷ [])

-- a line without its end
unfoldable pub body_of : Line → List ℕ
body_of (line.TxMade tx) = concat (codes "tx " ∷ tx ∷ codes ": made" ∷ [])
body_of (line.Vote member tx text) = concat (codes "vote " ∷ decimal member ∷ codes " " ∷ tx ∷ codes ": " ∷ []) ++ vote_text text
body_of (line.Fvote member tx origins) = concat (codes "fvote " ∷ decimal member ∷ codes " " ∷ tx ∷ codes ": voted" ∷ []) ++ origins_text origins
body_of (line.Cert tx text) = concat (codes "cert " ∷ tx ∷ codes ": " ∷ []) ++ cert_text text
body_of (line.Send member tx text) = concat (codes "send " ∷ decimal member ∷ codes " " ∷ tx ∷ codes ": " ∷ []) ++ send_text text
body_of (line.Order tx text) = concat (codes "order " ∷ tx ∷ codes ": " ∷ []) ++ order_text text
body_of (line.OrderEnd member text) = concat (codes "order end " ∷ decimal member ∷ codes ": " ∷ []) ++ order_end_text text
body_of (line.OrderCommit entry) = concat (codes "order commit: entry " ∷ decimal entry ∷ [])
body_of (line.See member text) = concat (codes "see " ∷ decimal member ∷ codes ": " ∷ []) ++ see_text text
body_of (line.SeeEntry member entry text) = concat (codes "see " ∷ decimal member ∷ codes " entry " ∷ decimal entry ∷ codes ": " ∷ []) ++ entry_text text
body_of (line.Run member text) = concat (codes "run " ∷ decimal member ∷ codes ": " ∷ []) ++ run_text text
body_of (line.Done tx version gas) = concat (codes "  " ∷ tx ∷ codes " done v" ∷ decimal version ∷ codes " gas " ∷ decimal gas ∷ [])
body_of (line.Failed tx command cause version gas) = concat (codes "  " ∷ tx ∷ codes " failed at " ∷ decimal command ∷ codes " cause " ∷ decimal cause ∷ codes " v" ∷ decimal version ∷ codes " gas " ∷ decimal gas ∷ [])
body_of (line.Aborted tx command code version gas) = concat (codes "  " ∷ tx ∷ codes " aborted at " ∷ decimal command ∷ codes " code " ∷ decimal code ∷ codes " v" ∷ decimal version ∷ codes " gas " ∷ decimal gas ∷ [])
body_of (line.Absent tx key) = concat (codes "  " ∷ tx ∷ codes " absent " ∷ key ∷ [])
body_of (line.Unfit tx) = concat (codes "  " ∷ tx ∷ codes " unfit" ∷ [])
body_of (line.Checkpoint number txs last) = concat (codes "  checkpoint " ∷ decimal number ∷ codes ":" ∷ []) ++ names_text txs ++ only_if last (codes " last")
body_of (line.Close member text) = concat (codes "close " ∷ decimal member ∷ codes ": " ∷ []) ++ close_text text
body_of (line.End member text) = concat (codes "end " ∷ decimal member ∷ codes ": " ∷ []) ++ end_text text
body_of (line.Turn member text) = concat (codes "turn " ∷ decimal member ∷ codes ": " ∷ []) ++ turn_text text
body_of (line.Reverted tx) = concat (codes "  reverted " ∷ tx ∷ [])
body_of (line.Stop member kept) = concat (codes "stop " ∷ decimal member ∷ codes ": armed " ∷ []) ++ kept_text kept
body_of (line.Restart member text) = concat (codes "restart " ∷ decimal member ∷ codes ": " ∷ []) ++ restart_text text
body_of (line.RawVote member text) = concat (codes "raw " ∷ decimal member ∷ codes " vote: " ∷ []) ++ vote_text text
body_of (line.RawHold member text) = concat (codes "raw " ∷ decimal member ∷ codes " hold: " ∷ []) ++ send_text text
body_of (line.Show member text) = concat (codes "show " ∷ decimal member ∷ codes ": " ∷ []) ++ show_text text
body_of (line.Object object version owner content) = concat (codes "  " ∷ object ∷ codes " v" ∷ decimal version ∷ codes " " ∷ []) ++ owner_text owner ++ codes " " ++ content_text content
body_of (line.Ack member tx text) = concat (codes "ack " ∷ decimal member ∷ codes " " ∷ tx ∷ codes ": " ∷ []) ++ ack_text text
body_of (line.Final tx text) = concat (codes "final " ∷ tx ∷ codes ": " ∷ []) ++ final_text text
body_of (line.Make number transactions checkpoints objects sum) = concat (codes "make " ∷ decimal number ∷ codes ": transactions " ∷ decimal transactions ∷ codes " checkpoints " ∷ decimal checkpoints ∷ codes " objects " ∷ decimal objects ∷ codes " sum " ∷ decimal sum ∷ [])
body_of (line.Refused line cause) = concat (codes "refused line " ∷ decimal line ∷ codes " cause " ∷ decimal cause ∷ [])

-- the line, ended by LF
unfoldable pub text_of : Line → List ℕ
text_of line = body_of line ++ 10 ∷ []
