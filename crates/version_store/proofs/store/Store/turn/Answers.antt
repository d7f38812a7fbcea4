use Rattle.std.proofs.Common.{subst, sym}
use Rattle.version_store.specs.Changes.{IsEmpty}
use Rattle.version_store.proofs.Turned.{turns}
use Rattle.version_store.proofs.store.Store.turn.Goals as goal

pub invariant_of-self-2 : goal.invariant_of-self-2
invariant_of-self-2 c =
    (turns c.add_newest.new.base.entries c.take_out.new.base.entries c.self.invariant c.self.view_is c.in_ok-reserve.ensures.entries c.add_newest.ensures c.len.ensures.unique c.take_out.ensures c.len-held.ensures.unique (subst IsEmpty (sym c.replace.ensures.after) c.new.ensures)).0

pub returns-clause-ok : goal.returns-clause-ok
returns-clause-ok c =
    (turns c.add_newest.new.base.entries c.take_out.new.base.entries c.self.invariant c.self.view_is c.in_ok-reserve.ensures.entries c.add_newest.ensures c.len.ensures.unique c.take_out.ensures c.len-held.ensures.unique (subst IsEmpty (sym c.replace.ensures.after) c.new.ensures)).1
