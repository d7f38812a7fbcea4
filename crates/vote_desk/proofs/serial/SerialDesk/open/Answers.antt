use Rattle.std.proofs.Common.{◌∙◌, ap, length}
use Rattle.vote_desk.proofs.Calls.{one_item, opens_with, is_opened}
use Rattle.vote_desk.proofs.serial.SerialDesk.open.Goals as goal

pub new-requires-2 : goal.new-requires-2
new-requires-2 g c = opens_with g.C.Clerk.step g.C.Clerk.state c.with-opened.result.clerk.value _ c.in-Ok.slots.items c.push_reserved.new.self.items c.in-Ok.ensures.items c.push_reserved.ensures.items c.new.ensures.items c.with-opened.ensures

pub returns-in-Ok-new-clause-of : goal.returns-in-Ok-new-clause-of
returns-in-Ok-new-clause-of g c = let ok = c.in-Ok-new.ensures.ok in is_opened g.C.Clerk.step g.C.Clerk.state _ _ c.with-opened.result ok.0 (ok.1 ∙ ap length (one_item c.in-Ok.slots.items c.push_reserved.new.self.items _ c.in-Ok.ensures.items c.push_reserved.ensures.items)) ok.2 ok.4 ok.5

pub clerk_of-requires : goal.clerk_of-requires
clerk_of-requires g c = (_, c.in-Err.ensures.err ∙ one_item c.in-Ok.slots.items c.push_reserved.new.self.items _ c.in-Ok.ensures.items c.push_reserved.ensures.items)

pub returns-clause-err : goal.returns-clause-err
returns-clause-err g c = c.clerk_of.ensures _ (c.in-Err.ensures.err ∙ one_item c.in-Ok.slots.items c.push_reserved.new.self.items _ c.in-Ok.ensures.items c.push_reserved.ensures.items)
