use Rattle.std.proofs.Common.{◌<◌, ap, sym, subst, ◌∙◌, length, Some}
use Rattle.version_assign.specs.Books.{admission_of, placed, shown}
use Rattle.version_assign.specs.Calls.{Admitting, settled}
use Rattle.version_assign.proofs.Settling.{one_same, one_smaller}
use Rattle.version_assign.proofs.register.IndexedAdmission.settle.Goals as goal

pub loop-place-smaller : goal.loop-place-smaller
loop-place-smaller c =
    subst (λ (s : Admitting). length s.admission.pending < length (admission_of c.loop-place.self.book).pending) (sym c.take.ensures.taken)
    (one_smaller (shown c.loop-place.self.book) (placed c.loop-place.self.book.rows.items (Some c.in-Some.place)) c.in-Some.ensures.place c.in-Some.ensures.free)

pub loop-place-preserved : goal.loop-place-preserved
loop-place-preserved c = record {
  kept = c.take.ensures.kept;
  same =
      ap settled c.take.ensures.taken
      ∙ one_same (shown c.loop-place.self.book) (placed c.loop-place.self.book.rows.items (Some c.in-Some.place)) c.in-Some.ensures.place c.in-Some.ensures.free
      ∙ c.loop-place.invariant.same;
}
