use Rattle.std.proofs.lemmas.Result.{IfOk-weaker}
use Rattle.std.specs.Slots.{slots_items}
use Rattle.steal_board.specs.Views.{paper_of}
use Rattle.steal_board.specs.Boards.{over}
use Rattle.steal_board.proofs.Laying.{closing}
use Rattle.steal_board.proofs.Moves.{closes_once}
use Rattle.steal_board.proofs.board.Board.close.Goals as goal

pub returns-clause-claimed : goal.returns-clause-claimed
returns-clause-claimed g c =
    let closed = c.close_with-closed in
    let x = c.args.seat.seat in
    IfOk-weaker c.last_words-words.result _ _ (λ words all task lt. (all task lt).0)
    (closing (paper_of (over c.args.self)) c.last_words-words.result (slots_items closed.result.words) (slots_items closed.result.slots) c.args.self.tasks x.id x.me.0 c.last_words-words.ensures c.args.self.counted c.requires.all closed.ensures.values.2)

pub returns-clause-marked : goal.returns-clause-marked
returns-clause-marked g c =
    let closed = c.close_with-closed in
    let x = c.args.seat.seat in
    IfOk-weaker c.last_words-words.result _ _ (λ words all task lt. (all task lt).1)
    (closing (paper_of (over c.args.self)) c.last_words-words.result (slots_items closed.result.words) (slots_items closed.result.slots) c.args.self.tasks x.id x.me.0 c.last_words-words.ensures c.args.self.counted c.requires.all closed.ensures.values.2)

pub returns-clause-free : goal.returns-clause-free
returns-clause-free g c =
    let closed = c.close_with-closed in
    let x = c.args.seat.seat in
    IfOk-weaker c.last_words-words.result _ _ (λ words all task lt. (all task lt).2)
    (closing (paper_of (over c.args.self)) c.last_words-words.result (slots_items closed.result.words) (slots_items closed.result.slots) c.args.self.tasks x.id x.me.0 c.last_words-words.ensures c.args.self.counted c.requires.all closed.ensures.values.2)

pub returns-clause-once : goal.returns-clause-once
returns-clause-once g c =
    let closed = c.close_with-closed in
    let x = c.args.seat.seat in closes_once (paper_of (over c.args.self)) (slots_items closed.result.words) (slots_items closed.result.slots) x.id x.me.0 c.requires.all closed.ensures.values.2
