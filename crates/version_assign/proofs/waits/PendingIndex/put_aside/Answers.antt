use Rattle.std.proofs.Common.{◌≡◌, ◌∙◌, List, [], Option, Some, ap, subst, sym}
use Rattle.std.specs.Prelude.{option_map}
use Rattle.chain_types.specs.declared.objects.ObjectId.{ObjectId}
use Rattle.version_assign.specs.declared.book.PendingCertificate.{PendingCertificate}
use Rattle.version_assign.specs.Books.{held_in, row_at, shown}
use Rattle.version_assign.specs.Steps.{is_free_one}
use Rattle.version_assign.specs.Waiting.{Opens, admits_in, none_open, room_in}
use Rattle.version_assign.proofs.Filed.{filed_grows}
use Rattle.version_assign.proofs.Moved.{aside_rests, rests_aside, rests_none}
use Rattle.version_assign.proofs.waits.PendingIndex.put_aside.Goals as goal

pub returns-in-Some : goal.returns-in-Some
returns-in-Some c = λ filed.
    let b = c.args.book.now in
    let y = c.in-Some.row.now in
    let there : row_at b.rows.items c.args.place ≡ Some y = ap (λ (rows : List (Option PendingCertificate)). row_at rows c.args.place) (sym c.as_slice.ensures.value) ∙ sym c.row_at.ensures ∙ ap (option_map (λ (r : _). r.now)) c.in-Some.is in
    let off = sym (ap (λ (o : Option PendingCertificate). is_free_one (shown b) (held_in o)) there) ∙ c.requires.waits in
    (subst (λ (ids : List ObjectId). Opens b.rows.items (room_in b) c.rest.new.self c.open_all.new.self ids []) c.writes.ensures c.open_all.ensures).at (admits_in b) none_open
    (rests_aside b.rows.items (admits_in b) (room_in b) c.args.place c.file.new.self c.rest.new.self y c.rest.ensures there
    (λ whole. aside_rests (admits_in b) (room_in b) c.args.place y.held.cert c.file.new.self c.rest.new.self c.rest.ensures (c.file.ensures.filed (c.rest.ensures.whole whole) off))
    (filed_grows b.rows.items (admits_in b) (room_in b) none_open c.args.self.now c.file.new.self c.file.ensures.kept filed))

pub returns-in-None : goal.returns-in-None
returns-in-None c = λ filed.
    let b = c.args.book.now in
    rests_none b.rows.items (admits_in b) (room_in b) c.args.place c.args.self.now c.rest-in-None.new.self c.rest-in-None.ensures
    (ap (λ (rows : List (Option PendingCertificate)). row_at rows c.args.place) (sym c.as_slice.ensures.value) ∙ sym c.row_at.ensures ∙ ap (option_map (λ (r : _). r.now)) c.in-None.is) filed
