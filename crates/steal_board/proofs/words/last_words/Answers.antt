use Rattle.std.proofs.Common.{ap, sym, ◌∙◌, ◌∷◌, ◌++◌, []}
use Rattle.std.specs.Slots.{slots_items}
use Rattle.steal_board.proofs.Laying.{take_found}
use Rattle.steal_board.proofs.words.last_words.Goals as goal

pub loop-task-preserved : goal.loop-task-preserved
loop-task-preserved g c = c.in_ok-push.ensures.ok ∙ (ap (λ l. l ++ c.word.result ∷ []) c.loop-task.invariant ∙ sym (take_found (slots_items c.args.closed.now.words) c.loop-task.task c.word.result c.word.ensures))
