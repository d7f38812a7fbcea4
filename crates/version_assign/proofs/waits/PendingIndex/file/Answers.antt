use Rattle.std.proofs.Common.{ap, sym, ◌∙◌}
use Rattle.protocol_spec.specs.Chain.Words.{first_of}
use Rattle.protocol_spec.specs.Member.Admission.{full_id, missing_origin, mutable_ids}
use Rattle.version_assign.specs.Books.{admission_of}
use Rattle.version_assign.specs.Waiting.{aside_behind, aside_queued}
use Rattle.version_assign.proofs.Filed.{full_has, missing_has, must_wait}
use Rattle.version_assign.proofs.waits.PendingIndex.file.Goals as goal

pub returns-in-Some-clause-filed : goal.returns-in-Some-clause-filed
returns-in-Some-clause-filed c = λ whole off.
    let m = missing_has (admission_of c.args.book.now) c.args.held.now.cert.origins c.in-Some.tx
    (sym (c.missing.ensures ∙ ap (first_of (missing_origin (admission_of c.args.book.now))) c.origins.ensures) ∙ c.in-Some.is) in
    aside_behind c.in-Some.tx m.0 m.1 (c.put_behind.ensures.behind whole)

pub returns-in-Some-full-clause-filed : goal.returns-in-Some-full-clause-filed
returns-in-Some-full-clause-filed c = λ whole off.
    let m = full_has c.args.book.now.writers (admission_of c.args.book.now) (mutable_ids c.args.held.now.cert) c.in-Some-full.id
    (sym (c.full.ensures ∙ ap (first_of (full_id c.args.book.now.writers (admission_of c.args.book.now))) c.writes.ensures) ∙ c.in-Some-full.is) in
    aside_queued c.in-Some-full.id m.0 (c.put_in_queue.ensures.queued whole) m.1

pub returns-in_default-clause-filed : goal.returns-in_default-clause-filed
returns-in_default-clause-filed c = λ whole off.
    must_wait c.args.book.now.writers (admission_of c.args.book.now) c.args.held.now
    (sym (c.missing.ensures ∙ ap (first_of (missing_origin (admission_of c.args.book.now))) c.origins.ensures) ∙ c.in-None.is)
    (sym (c.full.ensures ∙ ap (first_of (full_id c.args.book.now.writers (admission_of c.args.book.now))) c.writes.ensures) ∙ c.in_default.is) off
