use Rattle.std.proofs.Common.{subst}
use Rattle.light_check.specs.declared.chain.Link.{Link}
use Rattle.committee_core.specs.Agreement.{Differs}
use Rattle.committee_core.proofs.Agreeing.{lowest_is, no_link, same_link}
use Rattle.committee_core.proofs.agreement.lowest_in.Goals as goal

pub returns-in-Some-clause-none : goal.returns-in-Some-clause-none
returns-in-Some-clause-none c = λ is l there m d.
    c.lowest_at.ensures.none is m (subst (λ (x : Link). Differs c.args.world.now.posts c.args.place x m) (same_link c.args.links.now c.args.place c.in-Some.link.now l c.in-Some.ensures there) d)

pub returns-in-Some-clause-some : goal.returns-in-Some-clause-some
returns-in-Some-clause-some c = lowest_is c.args.world.now.posts c.args.links.now c.args.place c.in-Some.link.now c.lowest_at.result c.in-Some.ensures c.lowest_at.ensures.some c.lowest_at.ensures.lowest

pub returns-in-None-clause-none : goal.returns-in-None-clause-none
returns-in-None-clause-none c = λ is l there m d. no_link c.args.links.now c.args.place l c.in-None.ensures there
