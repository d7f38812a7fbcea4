use Rattle.std.proofs.Common.{◌≡◌, ◌+◌, subst, length, cond, arith}
use Rattle.steal_board.specs.Boards.{view}
use Rattle.dag_pool.specs.Crews.{plan_of}
use Rattle.dag_pool.proofs.Few.{few}
use Rattle.dag_pool.proofs.worker.run_turns.Goals as goal

pub loop-smaller : goal.loop-smaller
loop-smaller g c =
    let turned = c.in_ok-turn.ensures.turned in
    let more = subst (λ b. length (view c.turn.new.post.seat).mine ≡ length (view c.loop.post.seat).mine + cond b 1 0) c.if-branch.true turned.mine in
    let most = few (length (plan_of c.args.crew.now).jobs) (view c.turn.new.post.seat).mine turned.ready.good.sound.once turned.ready.good.sound.inside in
    omega (arith, more, most)
