use Rattle.std.proofs.Common.{◌<◌, arith}
use Rattle.std.specs.Slots.{slots_items, slots_len}
use Rattle.vote_desk.proofs.Calls.{closes_with}
use Rattle.vote_desk.proofs.serial.SerialDesk.close.Goals as goal

pub take-clerk-requires : goal.take-clerk-requires
take-clerk-requires g c =
    let told = c.close_with-closed.ensures in
    let deep = c.requires.of.deep in
    let some_slot : 0 < slots_len c.close_with-closed.result.slots = let counts = told.counts in omega (arith, counts, deep) in (some_slot, told.values.1 0 (omega arith) some_slot)

pub returns-clause-history : goal.returns-clause-history
returns-clause-history g c =
    let closed = c.close_with-closed in
    (closes_with g.C.Clerk.step g.C.Clerk.state c.args.self c.args.pass (slots_items closed.result.words) (slots_items closed.result.slots) c.take-clerk.result c.from_vec.result c.requires.of c.requires.all closed.ensures.values.2 c.take-clerk.ensures.value c.from_vec.ensures).0

pub returns-clause-seen : goal.returns-clause-seen
returns-clause-seen g c =
    let closed = c.close_with-closed in
    (closes_with g.C.Clerk.step g.C.Clerk.state c.args.self c.args.pass (slots_items closed.result.words) (slots_items closed.result.slots) c.take-clerk.result c.from_vec.result c.requires.of c.requires.all closed.ensures.values.2 c.take-clerk.ensures.value c.from_vec.ensures).1

pub returns-clause-mine : goal.returns-clause-mine
returns-clause-mine g c =
    let closed = c.close_with-closed in
    (closes_with g.C.Clerk.step g.C.Clerk.state c.args.self c.args.pass (slots_items closed.result.words) (slots_items closed.result.slots) c.take-clerk.result c.from_vec.result c.requires.of c.requires.all closed.ensures.values.2 c.take-clerk.ensures.value c.from_vec.ensures).2
