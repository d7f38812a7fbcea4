use Rattle.std.proofs.Common.{ap, refl, ◌∙◌}
use Rattle.version_assign.specs.Books.{row_at, shown}
use Rattle.version_assign.specs.Lines.{LineMap, are_lined}
use Rattle.version_assign.proofs.Registering.{given_filed, lines_out}
use Rattle.version_assign.proofs.Rows.{free_there}
use Rattle.version_assign.proofs.Taking.{row_free, seen_as, took, waits_some}
use Rattle.version_assign.proofs.register.IndexedAdmission.take.Goals as goal

pub take_out-row-requires-clause-waits : goal.take_out-row-requires-clause-waits
take_out-row-requires-clause-waits c =
    waits_some c.args.self.now.book c.requires.kept.kept c.args.place (free_there (shown c.args.self.now.book) (row_at c.args.self.now.book.rows.items c.args.place) c.requires.free)

pub release-requires : goal.release-requires
release-requires c = lines_out c.args.self.now.book c.take_out-row.new.self c.args.place c.take_out-row.result c.requires.kept.kept c.take_out-row.ensures

pub give-requires-clause-lined : goal.give-requires-clause-lined
give-requires-clause-lined c =
    ap (λ (es : LineMap). are_lined es c.take_out-row.result.assigned.items) c.take_out-row.ensures.lines
    ∙ (c.requires.kept.kept.rows.at c.args.place c.take_out-row.result c.take_out-row.ensures.row).lined

pub returns-clause-kept : goal.returns-clause-kept
returns-clause-kept c = record {
  kept =
      (took c.args.self.now.book c.take_out-row.new.self c.give.new.self c.args.place c.take_out-row.result c.requires.kept.kept c.take_out-row.ensures c.give.ensures
      (row_free (shown c.args.self.now.book) (row_at c.args.self.now.book.rows.items c.args.place) c.take_out-row.result c.take_out-row.ensures.row c.requires.free)).0;
  filed =
      given_filed c.args.self.now.book c.take_out-row.new.self c.give.new.self c.args.place c.take_out-row.result c.release.new.self c.requires.kept.kept c.take_out-row.ensures c.give.ensures
      (took c.args.self.now.book c.take_out-row.new.self c.give.new.self c.args.place c.take_out-row.result c.requires.kept.kept c.take_out-row.ensures c.give.ensures
      (row_free (shown c.args.self.now.book) (row_at c.args.self.now.book.rows.items c.args.place) c.take_out-row.result c.take_out-row.ensures.row c.requires.free)).1
      (c.release.ensures c.args.self.now.book c.take_out-row.result refl c.take_out-row.ensures c.requires.kept.filed);
}

pub returns-clause-taken : goal.returns-clause-taken
returns-clause-taken c =
    (took c.args.self.now.book c.take_out-row.new.self c.give.new.self c.args.place c.take_out-row.result c.requires.kept.kept c.take_out-row.ensures c.give.ensures
    (row_free (shown c.args.self.now.book) (row_at c.args.self.now.book.rows.items c.args.place) c.take_out-row.result c.take_out-row.ensures.row c.requires.free)).1
    ∙ seen_as (shown c.args.self.now.book) (row_at c.args.self.now.book.rows.items c.args.place) c.take_out-row.result c.take_out-row.ensures.row
