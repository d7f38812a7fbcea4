use Rattle.std.proofs.Common.{refl}
use Rattle.version_store.proofs.Opened.{written_over}
use Rattle.version_store.proofs.store.Store.write.Goals as goal

pub invariant_of-self-2 : goal.invariant_of-self-2
invariant_of-self-2 c =
    (written_over c.self.invariant c.self.view_is c.in_ok-make_room.ensures.same c.add.ensures c.as_slice-4.ensures.value refl c.requires.first c.requires.new).0

pub returns-clause-ok : goal.returns-clause-ok
returns-clause-ok c =
    (written_over c.self.invariant c.self.view_is c.in_ok-make_room.ensures.same c.add.ensures c.as_slice-4.ensures.value refl c.requires.first c.requires.new).1
