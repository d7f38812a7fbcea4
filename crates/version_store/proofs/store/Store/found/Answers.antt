use Rattle.std.proofs.Common.{◌∙◌}
use Rattle.version_store.proofs.Based.{found_first, found_later}
use Rattle.version_store.proofs.store.Store.found.Goals as goal

pub returns-in-Some : goal.returns-in-Some
returns-in-Some c = found_first c.self.invariant c.self.view_is c.args.key.now c.args.producer.now c.in-Some.object.now c.in-Some.ensures

pub returns-in-None : goal.returns-in-None
returns-in-None c =
    c.found_among.ensures.made ∙ found_later c.self.invariant c.self.view_is c.args.key.now c.args.producer.now c.in-None.ensures c.found_among.ensures.unique
