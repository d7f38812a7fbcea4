use Rattle.std.proofs.Common.{◌≤◌, sym, subst, length}
use Rattle.light_check.specs.Chains.{AllShort}
use Rattle.light_check.specs.Causes.{Checks, first_bad}
use Rattle.light_check.proofs.Certifying.{if_bad, if_checked}
use Rattle.light_check.proofs.Shorts.{links_few, links_short}
use Rattle.light_check.proofs.check.check_chain.Goals as goal

pub check_links-requires-clause-short : goal.check_links-requires-clause-short
check_links-requires-clause-short g c = subst AllShort (sym c.as_slice.ensures.value) (links_short c.args.chain.now c.requires.short)

pub check_links-requires-clause-few : goal.check_links-requires-clause-few
check_links-requires-clause-few g c = subst (λ links. length links ≤ 2147483647) (sym c.as_slice.ensures.value) (links_few c.args.chain.now c.requires.short)

pub returns-clause-certified : goal.returns-clause-certified
returns-clause-certified g c = if_checked c.args.committee.now (g.C.Checker.accepts c.args.checker.now) c.args.chain.now.links c.check_links.result (subst (λ links. Checks c.check_links.result (first_bad c.args.committee.now (g.C.Checker.accepts c.args.checker.now) links)) c.as_slice.ensures.value c.check_links.ensures)

pub returns-clause-bad : goal.returns-clause-bad
returns-clause-bad g c = if_bad c.args.committee.now (g.C.Checker.accepts c.args.checker.now) c.args.chain.now.links c.check_links.result (subst (λ links. Checks c.check_links.result (first_bad c.args.committee.now (g.C.Checker.accepts c.args.checker.now) links)) c.as_slice.ensures.value c.check_links.ensures)
