use Rattle.std.proofs.Common.{◌≡◌, ◌<◌, ap, sym, ◌∙◌, arith, length}
use Rattle.std.specs.Prelude.{find}
use Rattle.std.specs.Vec.{vec_len}
use Rattle.protocol_spec.specs.Member.Admission.{is_free}
use Rattle.version_assign.specs.Books.{admission_of, shown}
use Rattle.version_assign.proofs.Freeing.{place_found, place_passed}
use Rattle.version_assign.proofs.Rows.{pending_behind}
use Rattle.version_assign.proofs.book.AdmissionTables.first_free.Goals as goal

pub loop-place-init : goal.loop-place-init
loop-place-init c = ap (find (is_free c.args.self.now.writers (admission_of c.args.self.now))) (pending_behind c.args.self.now.low c.args.self.now.rows.items c.requires.skipped)

pub returns-then-is_free_at-clause-place : goal.returns-then-is_free_at-clause-place
returns-then-is_free_at-clause-place c = place_found (shown c.args.self.now) c.args.self.now.rows.items c.loop-place.place (sym c.if-is_free_at.ensures) ∙ c.loop-place.invariant

pub loop-place-preserved : goal.loop-place-preserved
loop-place-preserved c =
    let n : c.len-place-end.result ≡ vec_len c.args.self.now.rows = c.len-place-end.ensures in
    let m : vec_len c.args.self.now.rows ≡ length c.args.self.now.rows.items = c.args.self.now.rows.ok.0 in
    let t : c.loop-place.place < c.len-place-end.result = c.loop-place-test.true in
    place_passed (shown c.args.self.now) c.args.self.now.rows.items c.loop-place.place (omega arith) (sym c.if-is_free_at.ensures) ∙ c.loop-place.invariant
