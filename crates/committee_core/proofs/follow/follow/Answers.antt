use Rattle.std.proofs.Common.{List, ℕ, inr, subst, sym}
use Rattle.schedule_text.specs.Schedule.{longest_text}
use Rattle.outside.specs.Streams.{ReadsText}
use Rattle.committee_core.proofs.Caught.{fault_of}
use Rattle.committee_core.proofs.follow.follow.Goals as goal

pub returns-in-Ok-clause-keep_fault : goal.returns-in-Ok-clause-keep_fault
returns-in-Ok-clause-keep_fault g c = λ is.
    let read = subst (λ (text : List ℕ). ReadsText longest_text (g.S.Source.left c.args.source.now) (g.S.Source.left c.read_text.new.source) text) (sym c.as_slice.ensures.value) c.in-Ok.ensures.ok in
    fault_of c.as_slice.result.now c.args.member _ _ _ _ _ _ read (c.follow_text.ensures.keep_fault is)

pub returns-in-Ok-clause-cut : goal.returns-in-Ok-clause-cut
returns-in-Ok-clause-cut g c = λ is.
    let read = subst (λ (text : List ℕ). ReadsText longest_text (g.S.Source.left c.args.source.now) (g.S.Source.left c.read_text.new.source) text) (sym c.as_slice.ensures.value) c.in-Ok.ensures.ok in
    inr (c.as_slice.result.now, read, c.follow_text.ensures.cut is)
