use Rattle.std.proofs.lemmas.Result.{IfOk-weaker}
use Rattle.command_words.proofs.Taking.{grown}
use Rattle.command_words.proofs.parsing.program.Goals as goal

pub returns : goal.returns
returns c = IfOk-weaker c.with_one-4.result _ _ (λ p is. grown _ _ _ _ _ _ _ c.program_top.ensures c.in_ok-program.ensures c.in_ok-program-2.ensures c.in_ok-program-3.ensures c.in_ok-program-4.ensures c.in_ok-program-5.ensures is) c.with_one-4.ensures
