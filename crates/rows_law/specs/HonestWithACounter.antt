-- A run that meets the run assumptions, with an object that everybody may change: alice and bob add to one counter, a
-- faulty member votes for bob's addition, and the checkpoint has both.
use Rattle.std.specs.Prelude.{ℕ, List, [], ◌∷◌, false, None, codes}
use Rattle.report_text.specs.declared.lines.Line.{Line}
use Rattle.report_text.specs.declared.lines.Line.TheVariants as line
use Rattle.report_text.specs.declared.lines.VoteText.TheVariants as vote_text
use Rattle.report_text.specs.declared.lines.CertText.TheVariants as cert_text
use Rattle.report_text.specs.declared.lines.OrderText.TheVariants as order_text
use Rattle.report_text.specs.declared.lines.EntryText.TheVariants as entry_text
use Rattle.report_text.specs.declared.lines.RunText.TheVariants as run_text
use Rattle.rows_law.specs.Met.{IsMetBy}

abbrev pub lines : List (List ℕ)
lines =
    codes "member 1 honest" ∷
    codes "member 1 honest" ∷
    codes "member 1 honest" ∷
    codes "member 1 faulty" ∷
    codes "coin a0 alice 10000" ∷
    codes "coin b0 bob 10000" ∷
    codes "counter hits 5" ∷
    codes "tx ten alice 0 a0@1 2000 n:10 s:hits@1 counter_add(i1,i0)" ∷
    codes "tx one bob 0 b0@1 2000 n:1 s:hits@1 counter_add(i1,i0)" ∷
    codes "vote 0 ten" ∷
    codes "vote 1 ten" ∷
    codes "vote 2 ten" ∷
    codes "cert ten 0 1 2" ∷
    codes "vote 0 one" ∷
    codes "vote 1 one" ∷
    codes "fvote 3 one" ∷
    codes "cert one 0 1 3" ∷
    codes "order ten" ∷
    codes "order one" ∷
    codes "order commit" ∷
    codes "see 0 3" ∷
    codes "run 0 1" ∷ []

abbrev pub report : List Line
report =
    line.TxMade (codes "ten") ∷
    line.TxMade (codes "one") ∷
    line.Vote 0 (codes "ten") (vote_text.Voted (None ∷ None ∷ [])) ∷
    line.Vote 1 (codes "ten") (vote_text.Voted (None ∷ None ∷ [])) ∷
    line.Vote 2 (codes "ten") (vote_text.Voted (None ∷ None ∷ [])) ∷
    line.Cert (codes "ten") (cert_text.Formed (0 ∷ 1 ∷ 2 ∷ [])) ∷
    line.Vote 0 (codes "one") (vote_text.Voted (None ∷ None ∷ [])) ∷
    line.Vote 1 (codes "one") (vote_text.Voted (None ∷ None ∷ [])) ∷
    line.Fvote 3 (codes "one") (None ∷ None ∷ []) ∷
    line.Cert (codes "one") (cert_text.Formed (0 ∷ 1 ∷ 3 ∷ [])) ∷
    line.Order (codes "ten") (order_text.Entry 0) ∷
    line.Order (codes "one") (order_text.Entry 1) ∷
    line.OrderCommit 2 ∷
    line.SeeEntry 0 0 (entry_text.Taken (codes "ten" ∷ []) []) ∷
    line.SeeEntry 0 1 (entry_text.Taken (codes "one" ∷ []) []) ∷
    line.SeeEntry 0 2 (entry_text.Commit [] []) ∷
    line.Run 0 (run_text.Executed 2) ∷
    line.Done (codes "ten") 2 1100 ∷
    line.Done (codes "one") 3 1100 ∷
    line.Checkpoint 0 (codes "ten" ∷ codes "one" ∷ []) false ∷ []

abbrev pub HonestWithACounter : Type 0
HonestWithACounter = IsMetBy lines report
