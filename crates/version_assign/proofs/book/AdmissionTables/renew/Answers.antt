use Rattle.std.proofs.Common.{◌≡◌, [], ap, map}
use Rattle.protocol_spec.proofs.Truth.{on_ok_then}
use Rattle.version_assign.specs.Books.{admission_of, object_in, opening_of, shown}
use Rattle.version_assign.specs.Calls.{Admitting}
use Rattle.version_assign.specs.Changes.{Changes}
use Rattle.version_assign.proofs.Changing.{lines_alike, no_rows, opening_shares, reopens, shares_opening}
use Rattle.version_assign.proofs.book.AdmissionTables.renew.Goals as goal

pub change_all-answer-requires-clause-shared : goal.change_all-answer-requires-clause-shared
change_all-answer-requires-clause-shared c = opening_shares c.clear.new.self.opening.entries c.clear.ensures.kept.opening

pub returns-clause-kept : goal.returns-clause-kept
returns-clause-kept c =
    let b = c.clear.new.self in
    let k = c.clear.ensures.kept in
    let entries = c.change_all-answer.new.opening.entries in
    let none : (admission_of b).admitted ≡ [] = ap (λ (a : Admitting). a.admission.admitted) c.clear.ensures.value in
    record {
      opening = shares_opening entries c.len-distinct.ensures.unique c.change_all-answer.ensures.shared;
      lines = lines_alike b.writers (opening_of b) (map object_in entries) (admission_of b) b.lines.entries none k.lines;
      small = k.small;
      rows = no_rows (map object_in entries) b.lines.entries b.rows.items c.clear.ensures.rows;
      lets = k.lets;
      aligned = k.aligned;
      apart = k.apart;
      known = k.known;
      new = k.new;
      waiting = k.waiting;
      within = k.within;
      room = record { admitted = k.room.admitted; dropped = k.room.dropped };
      skipped = k.skipped;
    }

pub returns-clause-value : goal.returns-clause-value
returns-clause-value c =
    let b = c.clear.new.self in
    let entries = c.change_all-answer.new.opening.entries in
    on_ok_then c.change_all-answer.result (Changes b.opening.entries entries c.args.changes.now) _
    (λ by. record {
      nothing = ap (λ (a : Admitting). a.admission) c.clear.ensures.value;
      opening =
          reopens (shown c.args.self.now).opening b.opening.entries entries c.args.changes.now (ap (λ (a : Admitting). a.opening) c.clear.ensures.value) c.clear.ensures.kept.opening
          (shares_opening entries c.len-distinct.ensures.unique c.change_all-answer.ensures.shared) by;
    })
    c.change_all-answer.ensures.changes
