-- A run through two epochs that meets the run assumptions: in the first alice sends bob a coin, and in the second bob
-- sends it on. A faulty member states an End, and votes.
use Rattle.std.specs.Prelude.{ℕ, List, [], ◌∷◌, true, false, None, codes}
use Rattle.report_text.specs.declared.lines.Line.{Line}
use Rattle.report_text.specs.declared.lines.Line.TheVariants as line
use Rattle.report_text.specs.declared.lines.VoteText.TheVariants as vote_text
use Rattle.report_text.specs.declared.lines.CertText.TheVariants as cert_text
use Rattle.report_text.specs.declared.lines.OrderText.TheVariants as order_text
use Rattle.report_text.specs.declared.lines.OrderEndText.TheVariants as order_end_text
use Rattle.report_text.specs.declared.lines.EntryText.TheVariants as entry_text
use Rattle.report_text.specs.declared.lines.RunText.TheVariants as run_text
use Rattle.report_text.specs.declared.lines.CloseText.TheVariants as close_text
use Rattle.report_text.specs.declared.lines.EndText.TheVariants as end_text
use Rattle.report_text.specs.declared.lines.TurnText.TheVariants as turn_text
use Rattle.rows_law.specs.Met.{IsMetBy}

abbrev pub lines : List (List ℕ)
lines =
    codes "member 1 honest" ∷
    codes "member 1 honest" ∷
    codes "member 1 honest" ∷
    codes "member 1 faulty" ∷
    codes "coin a0 alice 10000" ∷
    codes "tx give alice 0 a0@1 2000 a:bob transfer(gas,i0)" ∷
    codes "vote 0 give" ∷
    codes "vote 1 give" ∷
    codes "vote 2 give" ∷
    codes "cert give 0 1 2" ∷
    codes "order give" ∷
    codes "see 0 1" ∷
    codes "run 0 1" ∷
    codes "close 0" ∷
    codes "end 0" ∷
    codes "order end 0" ∷
    codes "close 1" ∷
    codes "end 1" ∷
    codes "order end 1" ∷
    codes "order end 3" ∷
    codes "see 0 3" ∷
    codes "turn 0" ∷
    codes "see 1 4" ∷
    codes "run 1 1" ∷
    codes "turn 1" ∷
    codes "tx pass bob 1 a0@2 2000 a:carol transfer(gas,i0)" ∷
    codes "vote 0 pass" ∷
    codes "vote 1 pass" ∷
    codes "fvote 3 pass" ∷
    codes "cert pass 0 1 3" ∷
    codes "order pass" ∷
    codes "order commit" ∷
    codes "see 0 2" ∷
    codes "run 0 1" ∷ []

abbrev pub report : List Line
report =
    line.TxMade (codes "give") ∷
    line.Vote 0 (codes "give") (vote_text.Voted (None ∷ [])) ∷
    line.Vote 1 (codes "give") (vote_text.Voted (None ∷ [])) ∷
    line.Vote 2 (codes "give") (vote_text.Voted (None ∷ [])) ∷
    line.Cert (codes "give") (cert_text.Formed (0 ∷ 1 ∷ 2 ∷ [])) ∷
    line.Order (codes "give") (order_text.Entry 0) ∷
    line.SeeEntry 0 0 (entry_text.Taken (codes "give" ∷ []) []) ∷
    line.Run 0 (run_text.Executed 1) ∷
    line.Done (codes "give") 2 1100 ∷
    line.Close 0 close_text.Closed ∷
    line.End 0 end_text.Said ∷
    line.OrderEnd 0 (order_end_text.Entry 1) ∷
    line.Close 1 close_text.Closed ∷
    line.End 1 end_text.Said ∷
    line.OrderEnd 1 (order_end_text.Entry 2) ∷
    line.OrderEnd 3 (order_end_text.Entry 3) ∷
    line.SeeEntry 0 1 (entry_text.EndOf 0 1 4 false) ∷
    line.SeeEntry 0 2 (entry_text.EndOf 1 2 4 false) ∷
    line.SeeEntry 0 3 (entry_text.EndOf 3 3 4 true) ∷
    line.Checkpoint 0 (codes "give" ∷ []) true ∷
    line.Turn 0 (turn_text.Turned 1 0) ∷
    line.SeeEntry 1 0 (entry_text.Taken (codes "give" ∷ []) []) ∷
    line.SeeEntry 1 1 (entry_text.EndOf 0 1 4 false) ∷
    line.SeeEntry 1 2 (entry_text.EndOf 1 2 4 false) ∷
    line.SeeEntry 1 3 (entry_text.EndOf 3 3 4 true) ∷
    line.Run 1 (run_text.Executed 1) ∷
    line.Done (codes "give") 2 1100 ∷
    line.Checkpoint 0 (codes "give" ∷ []) true ∷
    line.Turn 1 (turn_text.Turned 1 0) ∷
    line.TxMade (codes "pass") ∷
    line.Vote 0 (codes "pass") (vote_text.Voted (None ∷ [])) ∷
    line.Vote 1 (codes "pass") (vote_text.Voted (None ∷ [])) ∷
    line.Fvote 3 (codes "pass") (None ∷ []) ∷
    line.Cert (codes "pass") (cert_text.Formed (0 ∷ 1 ∷ 3 ∷ [])) ∷
    line.Order (codes "pass") (order_text.Entry 0) ∷
    line.OrderCommit 1 ∷
    line.SeeEntry 0 0 (entry_text.Taken (codes "pass" ∷ []) []) ∷
    line.SeeEntry 0 1 (entry_text.Commit [] []) ∷
    line.Run 0 (run_text.Executed 1) ∷
    line.Done (codes "pass") 3 1100 ∷
    line.Checkpoint 1 (codes "pass" ∷ []) false ∷ []

abbrev pub HonestThroughTwoEpochs : Type 0
HonestThroughTwoEpochs = IsMetBy lines report
