use Rattle.std.proofs.Common.{List, ℕ, subst, sym}
use Rattle.light_check.specs.Said.{longest_chain}
use Rattle.outside.specs.Streams.{ReadsText}
use Rattle.light_check.proofs.Saying.{says, says_certified, says_front, says_refused}
use Rattle.light_check.proofs.client.check_source.Goals as goal

pub returns-in-Ok-clause-said : goal.returns-in-Ok-clause-said
returns-in-Ok-clause-said g c =
    let read = subst (λ (text : List ℕ). ReadsText longest_chain (g.S.Source.left c.args.source.now) (g.S.Source.left c.read_text.new.source) text) (sym c.as_slice.ensures.value) c.in-Ok.ensures.ok in
    says _ _ _ _ _ _ _ c.as_slice.result.now read _ c.check_read.ensures.said

pub returns-in-Ok-clause-certified : goal.returns-in-Ok-clause-certified
returns-in-Ok-clause-certified g c =
    let read = subst (λ (text : List ℕ). ReadsText longest_chain (g.S.Source.left c.args.source.now) (g.S.Source.left c.read_text.new.source) text) (sym c.as_slice.ensures.value) c.in-Ok.ensures.ok in
    says_certified _ _ _ _ _ _ _ c.as_slice.result.now read _ c.check_read.ensures.said c.check_read.ensures.certified

pub returns-in-Ok-clause-refused : goal.returns-in-Ok-clause-refused
returns-in-Ok-clause-refused g c =
    let read = subst (λ (text : List ℕ). ReadsText longest_chain (g.S.Source.left c.args.source.now) (g.S.Source.left c.read_text.new.source) text) (sym c.as_slice.ensures.value) c.in-Ok.ensures.ok in
    says_refused _ _ _ _ _ _ _ c.as_slice.result.now read _ c.check_read.ensures.said

pub returns-in-Ok-clause-cut : goal.returns-in-Ok-clause-cut
returns-in-Ok-clause-cut g c = λ h.
    let read = subst (λ (text : List ℕ). ReadsText longest_chain (g.S.Source.left c.args.source.now) (g.S.Source.left c.read_text.new.source) text) (sym c.as_slice.ensures.value) c.in-Ok.ensures.ok in
    says_front _ _ _ _ _ _ _ c.as_slice.result.now read c.check_read.result (c.check_read.ensures.cut h)
