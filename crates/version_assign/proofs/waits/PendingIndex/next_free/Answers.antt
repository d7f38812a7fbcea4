use Rattle.std.proofs.Common.{◌∙◌, ap, is_some, sym}
use Rattle.std.proofs.lemmas.Map.Keys.{le_from_not_gt}
use Rattle.version_assign.specs.Books.{shown}
use Rattle.version_assign.proofs.Filed.{first_is, none_is}
use Rattle.version_assign.proofs.Rows.{clash}
use Rattle.version_assign.proofs.Shelving.{nothing_in}
use Rattle.version_assign.proofs.waits.PendingIndex.next_free.Goals as goal

pub returns-in_default-clause-place : goal.returns-in_default-clause-place
returns-in_default-clause-place c =
    none_is (shown c.args.book.now) c.args.book.now.rows.items c.loop-round.self c.loop-round.invariant c.if-not-self.false
    (nothing_in c.loop-round.self.awake (λ more. clash (sym (c.first.ensures.variant.1 more) ∙ ap is_some c.in_default.is)))

pub returns-then-is_free_at-clause-place : goal.returns-then-is_free_at-clause-place
returns-then-is_free_at-clause-place c =
    first_is (shown c.args.book.now) c.args.book.now.rows.items c.loop-round.self c.loop-round.invariant c.if-not-self.false c.in-Some.place.now
    (λ q h. le_from_not_gt c.in-Some.place.now q (c.in-Some.ensures.least q h)) (sym c.if-is_free_at.ensures)
