use Rattle.std.proofs.Common.{◌≡◌}
use Rattle.vote_desk.specs.Passes.{view, IsOf}
use Rattle.vote_desk.proofs.serial.SerialDesk.wait.Given as goal

abbrev pub invariant-loop : goal.invariant-loop
invariant-loop g l =
    (goal.iterator-loop g).can_next l.iterator' × (goal.iterator-loop g).is_finite l.iterator' × IsOf g.C.Clerk.step g.C.Clerk.state l.self l.pass × (view l.pass ≡ view l.fn.pass)
