use Rattle.std.proofs.Common.{◌≡◌, ◌+◌}
use Rattle.vote_desk.specs.Callers.{asked_in}
use Rattle.vote_desk.specs.Dealt.{HaveMade, IsDue}
use Rattle.vote_desk.specs.Desks.{IsOf, mine, seen, share}
use Rattle.vote_desk.proofs.callers.ask_own.Given as goal

abbrev pub invariant-loop-place : goal.invariant-loop-place
invariant-loop-place g l = record {
  of : IsOf l.crew.desk.now l.pass;
  share : share l.pass ≡ share l.fn.pass;
  made : HaveMade (IsDue l.crew.callers l.number (l.number + 1) l.place) l.crew.callers l.crew.requests.now (asked_in (seen l.pass)) (mine l.pass);
}
