use Rattle.std.proofs.Common.{◌∙◌, sym}
use Rattle.light_check.proofs.Walking.{goes_further, next_short}
use Rattle.light_check.proofs.check.check_links.Goals as goal

pub tip_of-requires : goal.tip_of-requires
tip_of-requires g c = next_short c.args.committee.now (g.C.Checker.accepts c.args.checker.now) c.args.links.now c.loop-rest.rest.now c.loop-rest.place c.loop-rest.before c.link-item.result c.link-item.is c.in-len1-up.len_at_least c.loop-rest.invariant

pub loop-rest-preserved : goal.loop-rest-preserved
loop-rest-preserved g c = goes_further c.args.committee.now (g.C.Checker.accepts c.args.checker.now) c.args.links.now c.loop-rest.rest.now c.loop-rest.place c.loop-rest.before c.link-item.result c.in-Ok.tip c.link-item.is c.in-len1-up.len_at_least c.loop-rest.invariant (sym c.in-Ok-None.ensures ∙ c.in-Ok-None.field-0-is) c.in-Ok.ensures
