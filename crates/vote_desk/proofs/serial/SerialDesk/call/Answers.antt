use Rattle.std.proofs.Common.{◌∙◌, arith}
use Rattle.atomic_table.specs.Table.{rest}
use Rattle.vote_desk.proofs.Answering.{same_slot, front_slot, adds_over, returns_over, calls_of, is_of_called, is_of_waited, waits_of}
use Rattle.vote_desk.proofs.serial.SerialDesk.call.Goals as goal

pub slot_mut-requires : goal.slot_mut-requires
slot_mut-requires g c = let h = c.wait.ensures.holds in (h.table, (h.held, front_slot c.wait.new.pass.seat.me.1 h.held h.slot))

pub swap-requires : goal.swap-requires
swap-requires g c =
    let d = c.args.self.now in
    let wide = c.requires.of.wide in
    let h = c.wait.ensures.holds in
    let x = c.wait.new.pass.seat in (
      h.table,
      omega (arith, wide),
      adds_over g.C.Clerk.step g.C.Clerk.state g.C.Clerk.tells d c.args.pass.now c.wait.new.pass c.requires.of h c.slot_mut.result.now c.call-answered.new.self c.slot_mut.ensures.value d.table.shared.table_id.slots x.id (rest x.me.1) c.args.request c.in-Ok.reply c.in-Ok.ensures.made,
    )

pub swap-requires-in-Err : goal.swap-requires-in-Err
swap-requires-in-Err g c =
    let d = c.args.self.now in
    let wide = c.requires.of.wide in
    let h = c.wait.ensures.holds in
    let x = c.wait.new.pass.seat in (
      h.table,
      omega (arith, wide),
      returns_over g.C.Clerk.step g.C.Clerk.state g.C.Clerk.tells d c.args.pass.now c.wait.new.pass c.requires.of h c.slot_mut.result.now c.call-answered.new.self c.slot_mut.ensures.value d.table.shared.table_id.slots x.id (rest x.me.1) c.in-Err.ensures.clerk c.in-Err.ensures.entries,
    )

pub returns-in-Ok-clause-of : goal.returns-in-Ok-clause-of
returns-in-Ok-clause-of g c =
    let h = c.wait.ensures.holds in
    let x = c.wait.new.pass.seat in
    is_of_called g.C.Clerk.step g.C.Clerk.state g.C.Clerk.tells c.args.self.now c.args.pass.now c.wait.new.pass c.requires.of h c.slot_mut.result.now c.call-answered.new.self c.slot_mut.ensures.value record { seat = c.swap.new.seat } _ c.swap.result (rest x.me.1) c.args.request c.in-Ok.reply c.in-Ok.ensures.made
    c.swap.ensures.0 (same_slot x.me.1 h.held _ h.slot c.slot_mut.ensures.value).1 c.swap.ensures.2

pub returns-in-Ok-clause-made : goal.returns-in-Ok-clause-made
returns-in-Ok-clause-made g c =
    let x = c.wait.new.pass.seat in
    calls_of g.C.Clerk.step g.C.Clerk.state g.C.Clerk.tells c.args.self.now c.args.pass.now c.wait.new.pass c.requires.of c.wait.ensures.holds c.slot_mut.result.now c.call-answered.new.self c.slot_mut.ensures.value _ c.swap.result c.swap.new.seat.me (rest x.me.1) c.args.request c.in-Ok.reply c.in-Ok.ensures.made c.swap.ensures.2

pub returns-in-Err-clause-of : goal.returns-in-Err-clause-of
returns-in-Err-clause-of g c =
    let h = c.wait.ensures.holds in
    let x = c.wait.new.pass.seat in
    let left = c.swap-in-Err.ensures.2 in
    is_of_waited g.C.Clerk.step g.C.Clerk.state g.C.Clerk.tells c.args.self.now c.args.pass.now c.wait.new.pass c.requires.of h c.slot_mut.result.now c.call-answered.new.self c.slot_mut.ensures.value record { seat = c.swap-in-Err.new.seat } c.swap-in-Err.ensures.0
    (left.1 ∙ (same_slot x.me.1 h.held _ h.slot c.slot_mut.ensures.value).1) left.0

pub returns-in-Err-clause-refused : goal.returns-in-Err-clause-refused
returns-in-Err-clause-refused g c =
    waits_of g.C.Clerk.step g.C.Clerk.state g.C.Clerk.tells c.args.self.now c.args.pass.now c.wait.new.pass c.requires.of c.wait.ensures.holds c.slot_mut.result.now c.call-answered.new.self c.slot_mut.ensures.value c.swap-in-Err.new.seat.me.0 c.swap-in-Err.ensures.2.0
