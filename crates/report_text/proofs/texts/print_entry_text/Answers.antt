use Rattle.report_text.specs.Text.{entry_text}
use Rattle.report_text.proofs.Appends.{joined, part_behind, writes_part, writes_then, writes_whole}
use Rattle.report_text.proofs.texts.print_entry_text.Goals as goal

pub returns-in_err-print_part-in-Commit : goal.returns-in_err-print_part-in-Commit
unfolding entry_text
returns-in_err-print_part-in-Commit c =
    rw c.in-Commit.is (writes_part _ c.from_residual-in_err-print_part-in-Commit.result c.args.out.now c.print_part.new.out _ _ c.from_residual-in_err-print_part-in-Commit.ensures.1 (part_behind c.args.out.now c.extend.new.self c.print_part.new.out _ _ c.in_ok-extend-in-Commit.ensures.ok c.in_err-print_part-in-Commit.ensures))

pub returns-in_ok-print_part-in-Commit : goal.returns-in_ok-print_part-in-Commit
unfolding entry_text
returns-in_ok-print_part-in-Commit c =
    rw c.in-Commit.is (writes_then c.print_part-in-Commit.result c.args.out.now c.print_part.new.out c.print_part-in-Commit.new.out _ _ (joined c.args.out.now c.extend.new.self c.print_part.new.out _ _ c.in_ok-extend-in-Commit.ensures.ok c.in_ok-print_part-in-Commit.ensures) c.print_part-in-Commit.ensures)

pub returns-in-IgnoredMalformed : goal.returns-in-IgnoredMalformed
unfolding entry_text
returns-in-IgnoredMalformed c =
    rw c.in-IgnoredMalformed.is (writes_whole c.extend-in-IgnoredMalformed.result c.args.out.now c.extend-in-IgnoredMalformed.new.self _ c.extend-in-IgnoredMalformed.ensures.ok c.extend-in-IgnoredMalformed.ensures.err)

pub returns-in-IgnoredStatement : goal.returns-in-IgnoredStatement
unfolding entry_text
returns-in-IgnoredStatement c =
    rw c.in-IgnoredStatement.is (writes_whole c.extend-in-IgnoredStatement.result c.args.out.now c.extend-in-IgnoredStatement.new.self _ c.extend-in-IgnoredStatement.ensures.ok c.extend-in-IgnoredStatement.ensures.err)

pub returns-in-IgnoredSeal : goal.returns-in-IgnoredSeal
unfolding entry_text
returns-in-IgnoredSeal c =
    rw c.in-IgnoredSeal.is (writes_whole c.extend-in-IgnoredSeal.result c.args.out.now c.extend-in-IgnoredSeal.new.self _ c.extend-in-IgnoredSeal.ensures.ok c.extend-in-IgnoredSeal.ensures.err)

pub returns-in-IgnoredRepeat : goal.returns-in-IgnoredRepeat
unfolding entry_text
returns-in-IgnoredRepeat c =
    rw c.in-IgnoredRepeat.is (writes_whole c.extend-in-IgnoredRepeat.result c.args.out.now c.extend-in-IgnoredRepeat.new.self _ c.extend-in-IgnoredRepeat.ensures.ok c.extend-in-IgnoredRepeat.ensures.err)
