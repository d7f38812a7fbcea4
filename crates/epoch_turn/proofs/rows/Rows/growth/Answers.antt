use Rattle.std.proofs.Common.{arith, ap, sym, ◌∙◌, ◌-◌, length, drop}
use Rattle.epoch_turn.specs.Dues.{front_length, is_due_done, size_of}
use Rattle.epoch_turn.proofs.Growing.{starts}
use Rattle.epoch_turn.proofs.rows.Rows.growth.Goals as goal

pub due_from-due-requires : goal.due_from-due-requires
due_from-due-requires c =
    let within = (starts c.args.epoch c.args.store.now.executed c.args.self.now c.requires.kept c.requires.behind).within in
    let due = ap length c.deref.ensures.value in
    omega (arith, within, due)

pub overflow_sub-done : goal.overflow_sub-done
overflow_sub-done c =
    let reached = (starts c.args.epoch c.args.store.now.executed c.args.self.now c.requires.kept c.requires.behind).reached in
    let done = c.requires.done in
    omega (arith, reached, done)

pub add_all-requires-clause-ready : goal.add_all-requires-clause-ready
add_all-requires-clause-ready c =
    let start = starts c.args.epoch c.args.store.now.executed c.args.self.now c.requires.kept c.requires.behind in
    ap (λ n. n - c.args.self.now.tip.taken) c.requires.done ∙ start.ready
    ∙ ap (front_length (is_due_done c.args.store.now.executed)) (ap (drop c.args.self.now.tip.taken) (sym c.deref.ensures.value) ∙ sym c.due_from-due.ensures)

pub add_all-requires-clause-sizes : goal.add_all-requires-clause-sizes
add_all-requires-clause-sizes c =
    let sizes = (starts c.args.epoch c.args.store.now.executed c.args.self.now c.requires.kept c.requires.behind).sizes in
    let due = ap length (c.due_from-due.ensures ∙ ap (drop c.args.self.now.tip.taken) c.deref.ensures.value) in
    let marks = ap size_of (c.marks_from-marks.ensures ∙ ap (drop c.args.self.now.tip.cuts) c.deref-2.ensures.value) in
    omega (arith, sizes, due, marks)
