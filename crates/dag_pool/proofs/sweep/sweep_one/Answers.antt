use Rattle.std.proofs.Common.{[], ◌∷◌, refl, ap, sym, subst, ◌∙◌, arith, length, length-append}
use Rattle.steal_board.specs.Boards.{view}
use Rattle.dag_pool.specs.Work.{NoneLeft}
use Rattle.dag_pool.specs.Crews.{plan_of}
use Rattle.dag_pool.proofs.Sweeps.{none_waits, all_more, none_gone}
use Rattle.dag_pool.proofs.sweep.sweep_one.Goals as goal

pub unreachable-requires : goal.unreachable-requires
unreachable-requires g c =
    let plan = plan_of c.args.crew.now in
    let swept = c.requires.swept in
    let left = c.claim.ensures.all_waiting c.in-Waiting.field-0 swept.share c.in-Waiting.is in
    let some = (c.claim.ensures.waiting c.in-Waiting.field-0 c.in-Waiting.is).0 in
    let none = none_waits plan.edges (length plan.jobs) (view c.args.post.now.seat) c.args.task plan.forward swept.clean swept.all in
    omega (arith, left, some, none)

pub returns-in_ok-execute-in-Mine-clause-swept : goal.returns-in_ok-execute-in-Mine-clause-swept
returns-in_ok-execute-in-Mine-clause-swept g c =
    let plan = plan_of c.args.crew.now in
    let claimed = c.claim.ensures.mine c.in-Mine.is in
    let ran = c.in_ok-execute-in-Mine.ensures in
    record {
      of = ran.good.of;
      share = ran.share ∙ (ap (λ v. v.share) claimed ∙ c.requires.swept.share);
      clean = ran.good.sound.clean;
      brings = ran.good.sound.brings;
      all = all_more plan.edges (length plan.jobs) (view c.args.post.now.seat) (view c.execute.new.post.seat) c.args.task (ran.mine ∙ ap (λ v. v.mine) claimed) c.requires.swept.all;
      once = λ _. ran.good.sound.once;
    }

pub returns-in_ok-execute-in-Mine-clause-gained : goal.returns-in_ok-execute-in-Mine-clause-gained
returns-in_ok-execute-in-Mine-clause-gained g c =
    ap length (c.in_ok-execute-in-Mine.ensures.mine ∙ ap (λ v. v.mine) (c.claim.ensures.mine c.in-Mine.is)) ∙ length-append (view c.args.post.now.seat).mine (c.args.task ∷ [])

pub returns-in-Taken-clause-gained : goal.returns-in-Taken-clause-gained
returns-in-Taken-clause-gained g c =
    let same = ap length (ap (λ v. v.mine) (c.claim.ensures.taken c.in-Taken.is)) in
    omega (arith, same)

pub returns-in-Taken-clause-none : goal.returns-in-Taken-clause-none
returns-in-Taken-clause-none g c =
    let plan = plan_of c.args.crew.now in
    λ none. (refl, subst (NoneLeft plan.edges (length plan.jobs)) (sym (c.claim.ensures.taken c.in-Taken.is)) (none_gone plan.edges (length plan.jobs) (view c.args.post.now.seat) c.args.task none))
