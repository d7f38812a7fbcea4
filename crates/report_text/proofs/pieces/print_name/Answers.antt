use Rattle.std.specs.Prelude.{[], ◌∷◌}
use Rattle.report_text.proofs.Appends.{writes_then, writes_whole}
use Rattle.report_text.proofs.pieces.print_name.Goals as goal

pub returns : goal.returns
returns c =
    writes_then c.extend.result c.args.out.now c.push.new.self c.extend.new.self (32 ∷ []) c.args.name.now c.in_ok-push.ensures.ok (writes_whole c.extend.result c.push.new.self c.extend.new.self c.args.name.now c.extend.ensures.ok c.extend.ensures.err)
