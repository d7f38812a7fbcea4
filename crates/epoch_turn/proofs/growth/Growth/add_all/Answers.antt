use Rattle.std.proofs.Common.{sym, ◌∙◌}
use Rattle.epoch_turn.proofs.Marking.{goes_on, still_ready, still_sized, stops}
use Rattle.epoch_turn.proofs.growth.Growth.add_all.Goals as goal

pub returns-then-ready-mark : goal.returns-then-ready-mark
returns-then-ready-mark c =
    let i = c.loop-rest.invariant in
    sym (stops c.args.epoch c.args.store.now.executed c.loop-rest.self c.loop-rest.ready c.loop-rest.left.now c.loop-rest.rest.now c.in-len1-up.len_at_least i.front i.sizes c.if-ready-mark.true) ∙ i.same

pub loop-rest-preserved : goal.loop-rest-preserved
loop-rest-preserved c =
    let i = c.loop-rest.invariant in
    let rest = c.loop-rest.rest.now in
    let left = c.loop-rest.left.now in
    record {
      front = still_ready c.args.epoch c.args.store.now.executed c.loop-rest.ready left c.split_at.result.1.now rest i.front c.if-ready-mark.false c.split_at.ensures.back;
      sizes = still_sized left c.split_at.result.1.now rest c.in-len1-up.len_at_least i.sizes c.split_at.ensures.back;
      same = goes_on c.args.epoch c.args.store.now.executed c.loop-rest.self _ c.loop-rest.ready left c.split_at.result.0.now c.split_at.result.1.now rest _ c.in-len1-up.len_at_least i.front
          c.if-ready-mark.false c.split_at.ensures.front c.split_at.ensures.back c.in_ok-add.ensures i.same;
    }
