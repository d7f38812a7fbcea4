use Rattle.std.proofs.Common.{◌<◌, subst, sym}
use Rattle.sui_validator.specs.Journals.{Adds, first_of}
use Rattle.sui_validator.proofs.Alone.{first_adds}
use Rattle.sui_validator.proofs.journal.FirstListJournal.append.Goals as goal

pub returns-clause-records : goal.returns-clause-records
returns-clause-records g c =
    let some = subst (λ n. 0 < n) (sym c.members-members.ensures.width) c.self.invariant in
    subst (λ k. Adds (first_of (g.D.Keeper.lists k)) (first_of (g.D.Keeper.lists c.append.new.self)) c.args.bytes.now c.append.result) c.self.view_is
    (first_adds (g.D.Keeper.lists c.self.inside.keeper) (g.D.Keeper.lists c.append.new.self) c.members-members.result c.args.bytes.now c.append.result c.members-members.ensures.told some c.append.ensures.lists)
