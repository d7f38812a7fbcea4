use Rattle.std.proofs.Common.{◌∙◌, ap}
use Rattle.version_assign.specs.Books.{shown}
use Rattle.version_assign.specs.Calls.{settled}
use Rattle.version_assign.proofs.Entering.{entry_is, row_added}
use Rattle.version_assign.proofs.Registering.{added_filed}
use Rattle.version_assign.proofs.register.IndexedAdmission.add_row.Goals as goal

pub returns-clause-kept : goal.returns-clause-kept
returns-clause-kept c = record {
  kept = (row_added c.args.self.now.book c.add_row.new.self c.args.row c.requires.kept.kept c.add_row.ensures c.requires.room c.requires.shaped c.requires.origins c.requires.begins c.requires.new).0;
  filed =
      added_filed c.args.self.now.book c.add_row.new.self c.args.row c.mend.new.self c.wake.new.self c.len-place.result (c.len-place.ensures ∙ c.args.self.now.book.rows.ok.0)
      c.add_row.ensures c.wake.ensures.kept c.wake.ensures.awake (c.mend.ensures c.requires.kept.filed);
}

pub returns-clause-settled : goal.returns-clause-settled
returns-clause-settled c =
    ap settled (row_added c.args.self.now.book c.add_row.new.self c.args.row c.requires.kept.kept c.add_row.ensures c.requires.room c.requires.shaped c.requires.origins c.requires.begins c.requires.new).1
    ∙ entry_is (shown c.args.self.now.book) c.args.row.held
