use Rattle.std.proofs.Common.{◌≡◌, ◌≤◌, ◌+◌, sym, refl, ◌∙◌, arith, length}
use Rattle.std.proofs.lemmas.List.{length-map}
use Rattle.std.specs.Vec.{vec_capacity, vec_len}
use Rattle.version_assign.specs.Books.{admission_of, admitted_as}
use Rattle.version_assign.proofs.Entering.{few_entries, few_gone, listed_since}
use Rattle.version_assign.proofs.register.IndexedAdmission.settle_listed.Goals as goal

pub list_taken-requires-clause-room : goal.list_taken-requires-clause-room
list_taken-requires-clause-room c =
    let a : length c.settle_all.new.self.book.admitted.entries ≤ length c.args.self.now.book.admitted.entries + c.args.self.now.book.waiting = few_entries c.args.self.now.book c.settle_all.new.self.book c.requires.kept.kept c.settle_all.ensures.settled in
    let d : length c.settle_all.new.self.book.dropped.items ≤ length c.args.self.now.book.dropped.items + c.args.self.now.book.waiting = few_gone c.args.self.now.book c.settle_all.new.self.book c.requires.kept.kept c.settle_all.ensures.settled in
    let n : c.len-from.result ≡ length c.args.self.now.book.admitted.entries = c.len-from.ensures.len in
    let m : c.len-from_dropped.result ≡ vec_len c.args.self.now.book.dropped = c.len-from_dropped.ensures in
    let k : vec_len c.args.self.now.book.dropped ≡ length c.args.self.now.book.dropped.items = c.args.self.now.book.dropped.ok.0 in
    let x : c.args.self.now.book.waiting ≤ vec_capacity c.args.admitted = c.requires.room.0 in
    let y : c.args.self.now.book.waiting ≤ vec_capacity c.args.dropped = c.requires.room.1 in
    (omega arith, omega arith)

pub returns-clause-admitted : goal.returns-clause-admitted
returns-clause-admitted c =
    c.list_taken.ensures.admitted
    ∙ listed_since (admission_of c.args.self.now.book) (admission_of c.settle_all.new.self.book) c.settle_all.new.self.book.admitted.entries c.len-from.result refl
    (c.len-from.ensures.len ∙ sym (length-map c.args.self.now.book.admitted.entries admitted_as))
