use Rattle.std.proofs.Common.{arith, ◌<◌}
use Rattle.std.proofs.lemmas.Result.{on_ok_weaker}
use Rattle.epoch_turn.specs.Chains.{uncut}
use Rattle.epoch_turn.specs.Kept.{shown}
use Rattle.epoch_turn.proofs.Told.{adds_one}
use Rattle.epoch_turn.proofs.rows.Rows.mark.Goals as goal

some_left : (c : goal.After-cut) → 0 < uncut (shown c.args.self.now)
some_left c =
    let len = c.len.ensures in
    let ok = c.args.self.now.due.ok.0 in
    let sized = c.requires.sized in
    let room = c.requires.room in
    let other = c.if-self-len.false in
    omega (arith, len, ok, sized, room, other)

pub returns-clause-cuts : goal.returns-clause-cuts
returns-clause-cuts c = on_ok_weaker c.cut.result (λ adds. adds_one (shown c.args.self.now) (shown c.cut.new.self) (some_left c) adds) c.cut.ensures.cuts
