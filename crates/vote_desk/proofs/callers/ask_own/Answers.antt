use Rattle.std.proofs.Common.{◌+◌, refl, sym, subst, arith}
use Rattle.vote_desk.specs.Callers.{asked_in}
use Rattle.vote_desk.specs.Dealt.{HaveMade, IsDue}
use Rattle.vote_desk.specs.Desks.{seen}
use Rattle.vote_desk.proofs.Dealing.{made_none}
use Rattle.vote_desk.proofs.callers.ask_own.Goals as goal

pub loop-place-init : goal.loop-place-init
loop-place-init g c =
    let crew = c.args.crew.now in
    let calls = asked_in (seen c.args.pass.now) in record {
      of = c.requires.of;
      share = refl;
      made = subst (HaveMade (IsDue crew.callers c.args.number (c.args.number + 1) 0) crew.callers crew.requests.now calls) (sym c.requires.none)
          (made_none crew.callers crew.requests.now (IsDue crew.callers c.args.number (c.args.number + 1) 0) calls (λ i due. let b = due.before in omega (arith, b)));
    }
