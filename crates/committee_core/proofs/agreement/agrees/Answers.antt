use Rattle.std.proofs.Common.{List, ℕ, refl, subst}
use Rattle.light_check.specs.declared.chain.Link.{Link}
use Rattle.light_check.specs.Certified.{IsCertified}
use Rattle.committee_core.specs.Agreement.{AllAgree, IsFirstDifference}
use Rattle.committee_core.proofs.Agreeing.{never_differs}
use Rattle.committee_core.proofs.agreement.agrees.Goals as goal

pub returns-in-Some-clause-never : goal.returns-in-Some-clause-never
returns-in-Some-clause-never g c = λ trust lines events shows same run_is chain place member is.
    never_differs c.certified_agrees_in_schedules.ensures trust lines events c.args.world.now shows (g.S.Checker.accepts c.args.sealer.now) same c.args.chain.now.links
    (subst (λ (stakes : List ℕ). IsCertified stakes (g.S.Checker.accepts c.args.sealer.now) c.args.chain.now.links) c.committee.ensures c.in-Ok.ensures.certified)
    run_is chain c.in-Some.place c.in-Some.member
    (subst (λ (links : List Link). IsFirstDifference c.args.world.now.posts links c.in-Some.place c.in-Some.member) c.as_slice.ensures.value c.in-Some.ensures.some)

pub returns-in-None-clause-answered : goal.returns-in-None-clause-answered
returns-in-None-clause-answered g c = (
  subst (λ (stakes : List ℕ). IsCertified stakes (g.S.Checker.accepts c.args.sealer.now) c.args.chain.now.links) c.committee.ensures c.in-Ok.ensures.certified,
  subst (λ (links : List Link). AllAgree c.args.world.now.posts links) c.as_slice.ensures.value (c.in-None.ensures.none refl),
)
