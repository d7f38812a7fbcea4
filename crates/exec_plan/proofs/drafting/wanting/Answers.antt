use Rattle.version_store.specs.Stores.{held_in}
use Rattle.exec_plan.specs.Drafts.{link_in, want_in}
use Rattle.exec_plan.proofs.LaidOut.{front_mapped, front_picked}
use Rattle.exec_plan.proofs.drafting.wanting.Goals as goal

pub loop-need-preserved : goal.loop-need-preserved
loop-need-preserved c = record {
  wants = front_mapped (want_in (held_in c.args.store.now) c.args.numbers.now.keys) c.loop-need.wants c.add_need.new.wants c.loop-need.needs c.take_next.new.self c.in-Some.need
      c.in-Some.ensures c.in_ok-add_need.ensures.wants c.loop-need.invariant.wants;
  links = front_picked (link_in (held_in c.args.store.now) c.args.numbers.now.keys) c.loop-need.links c.add_need.new.links c.loop-need.needs c.take_next.new.self c.in-Some.need
      c.in-Some.ensures c.in_ok-add_need.ensures.links c.loop-need.invariant.links;
}
