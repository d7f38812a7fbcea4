use Rattle.std.proofs.Common.{◌+◌, List, ℕ, length, subst, sym}
use Rattle.vote_desk.specs.Callers.{asked_in}
use Rattle.vote_desk.specs.Dealt.{HaveMade, IsDue}
use Rattle.vote_desk.specs.Desks.{mine, seen}
use Rattle.vote_desk.proofs.Asking.{both_made}
use Rattle.vote_desk.proofs.callers.CrewTeamTurn.join.Goals as goal

pub returns-clause-worked : goal.returns-clause-worked
returns-clause-worked g c =
    let crew = c.args.self.now in
    let one = c.args.others.pass in
    let other = c.args.one.pass in
    let many = length crew.requests.now in record {
      of = c.join.ensures.of;
      asked = λ all.
          let two = c.both.ensures all in
          subst (λ (own : List ℕ). HaveMade (IsDue crew.callers 0 (c.args._number + 1) many) crew.callers crew.requests.now (asked_in (seen c.join.result)) own) (sym c.join.ensures.mine)
          (both_made crew.callers c.args._number many crew.requests.now (seen one) (seen other) (seen c.join.result) (mine one) (mine other) c.requires.others.of.below c.requires.one.of.below c.join.ensures.front.0 c.join.ensures.front.1 c.join.ensures.apart (c.requires.others.asked two.0) (c.requires.one.asked two.1));
    }
