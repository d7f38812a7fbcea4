use Rattle.std.proofs.Common.{◌≡◌, ◌∙◌, ◌==◌, ℕ, false, true, List, [], ◌∷◌, Result, IsErrAnd, length, codes, sym}
use Rattle.wire_bcs.specs.declared.seq.OutOfMemory.{OutOfMemory}
use Rattle.wire_bcs.specs.Wrote.{Writes, is_part}
use Rattle.report_text.specs.Text.{part_text, taken_text}
use Rattle.report_text.proofs.Appends.{writes_part}
use Rattle.report_text.proofs.pieces.print_taken.Goals as goal

admits : {X : Type 0} (Q : OutOfMemory → Type 0) (r : Result X OutOfMemory) (old new : List ℕ) (admitted dropped : List (List ℕ)) → (length admitted == 0) ≡ false
    → IsErrAnd r Q → is_part old new (part_text (codes "admitted") admitted) ≡ true → Writes old new (taken_text admitted dropped) r
admits Q r old new [] dropped some error refused = absurd cc
admits Q r old new (tx ∷ admitted) dropped some error refused = writes_part Q r old new _ _ error refused

pub returns-in_err-print_part : goal.returns-in_err-print_part
returns-in_err-print_part c =
    admits _ c.from_residual.result c.args.out.now c.print_part-2.new.out c.args.admitted.now c.args.dropped.now (sym c.is_empty.ensures ∙ c.if-is_empty.false) c.from_residual.ensures.1 c.in_err-print_part.ensures
