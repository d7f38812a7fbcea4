use Rattle.std.proofs.Common.{List, ℕ, Option, subst, arith, rules}
use Rattle.std.specs.Borrow.{Bor}
use Rattle.schedule_text.specs.Left.{parts_left}
use Rattle.command_words.proofs.ListWords.{ReadsOn, all_read, not_read, one_read, too_many}
use Rattle.command_words.proofs.list_words.read_numbers.Goals as goal

pub returns-in_default-number_of-clause-numbers : goal.returns-in_default-number_of-clause-numbers
returns-in_default-number_of-clause-numbers c =
    let reads = subst (λ (o : Option (Bor (List ℕ))). ReadsOn c.args.low c.args.high c.args.word.now c.loop-left.row c.loop-left.count (parts_left 44 o)) c.in-Some.is c.loop-left.invariant.reads in
    not_read c.args.low c.args.high c.args.word.now c.loop-left.row c.loop-left.count c.in-Some.text.now c.cut_part.result.0.now (parts_left 44 c.cut_part.result.1) reads c.cut_part.ensures.parts c.in_default-number_of.ensures

pub returns-then-count-eq-MOST_NUMBERS-clause-numbers : goal.returns-then-count-eq-MOST_NUMBERS-clause-numbers
returns-then-count-eq-MOST_NUMBERS-clause-numbers c =
    let reads = subst (λ (o : Option (Bor (List ℕ))). ReadsOn c.args.low c.args.high c.args.word.now c.loop-left.row c.loop-left.count (parts_left 44 o)) c.in-Some.is c.loop-left.invariant.reads in
    too_many c.args.low c.args.high c.args.word.now c.loop-left.row c.loop-left.count c.in-Some.text.now c.cut_part.result.0.now (parts_left 44 c.cut_part.result.1) c.in-Some-number_of.number reads c.cut_part.ensures.parts c.in-Some-number_of.ensures
    c.if-count-eq-MOST_NUMBERS.true c.loop-left.invariant.size

pub loop-left-preserved : goal.loop-left-preserved
loop-left-preserved c =
    let reads = subst (λ (o : Option (Bor (List ℕ))). ReadsOn c.args.low c.args.high c.args.word.now c.loop-left.row c.loop-left.count (parts_left 44 o)) c.in-Some.is c.loop-left.invariant.reads in
    let size = c.loop-left.invariant.size in
    let room = c.loop-left.invariant.room in
    let other = c.if-count-eq-MOST_NUMBERS.false in
    record {
      reads = one_read c.args.low c.args.high c.args.word.now c.loop-left.row c.loop-left.count c.in-Some.text.now c.cut_part.result.0.now (parts_left 44 c.cut_part.result.1) c.in-Some-number_of.number reads c.cut_part.ensures.parts c.in-Some-number_of.ensures (grind arith);
      size = search rules;
      room = grind arith;
    }

pub returns-clause-numbers : goal.returns-clause-numbers
returns-clause-numbers c =
    let reads = subst (λ (o : Option (Bor (List ℕ))). ReadsOn c.args.low c.args.high c.args.word.now c.loop-left.row c.loop-left.count (parts_left 44 o)) c.in_default.is c.loop-left.invariant.reads in
    all_read c.args.low c.args.high c.args.word.now c.loop-left.row c.loop-left.count reads c.loop-left.invariant.room c.loop-left.invariant.size
