use Rattle.std.proofs.Common.{◌∙◌, ap, map, List}
use Rattle.std.proofs.lemmas.Result.{err_from_is_err_and}
use Rattle.chain_messages.specs.declared.messages.MemberSeal.{MemberSeal}
use Rattle.protocol_spec.specs.Chain.Words.{first_of, unless_refused}
use Rattle.cert_rules.specs.Parts.{refused_seal}
use Rattle.protocol_spec.specs.Chain.Certificates.{rules_of}
use Rattle.cert_rules.proofs.Whole.{at_members, at_objects, at_seals}
use Rattle.cert_rules.proofs.check.check_cert.Goals as goal

pub returns-in_err-check_objects : goal.returns-in_err-check_objects
returns-in_err-check_objects g c = λ writers.
    let p = err_from_is_err_and c.from_residual.result c.from_residual.ensures.1 in
    rw (p.1, p.2) (at_objects (rules_of c.args.committee.now writers (g.C.Checker.accepts c.args.checker.now)) c.args.cert.now c.in_err-check_objects.field-0.0 c.in_err-check_objects.ensures.refusal)

pub returns-in_err-check_members : goal.returns-in_err-check_members
returns-in_err-check_members g c = λ writers.
    let p = err_from_is_err_and c.from_residual-in_err-check_members.result c.from_residual-in_err-check_members.ensures.1 in
    rw (p.1, p.2)
    (at_members (rules_of c.args.committee.now writers (g.C.Checker.accepts c.args.checker.now)) c.args.cert.now c.deref.result.now c.in_err-check_members.field-0.0
    c.in_ok-check_objects.ensures.refusal (c.deref.ensures.value ∙ c.in-Ok.ensures ∙ ap (map (λ (s : MemberSeal). s.member)) c.as_slice.ensures.value) c.in_err-check_members.ensures)

pub returns : goal.returns
returns g c = λ writers.
    at_seals (rules_of c.args.committee.now writers (g.C.Checker.accepts c.args.checker.now)) c.args.cert.now c.deref.result.now c.as_slice-2.result.now c.check_seals.result c.in_ok-check_members.field-0
    c.in_ok-check_objects.ensures.refusal (c.deref.ensures.value ∙ c.in-Ok.ensures ∙ ap (map (λ (s : MemberSeal). s.member)) c.as_slice.ensures.value) c.in_ok-check_members.ensures
    (c.as_slice-2.ensures.value ∙ c.in-Ok-vote_bytes.ensures)
    (c.check_seals.ensures ∙ ap (λ (seals : List MemberSeal). unless_refused (first_of (refused_seal (g.C.Checker.accepts c.args.checker.now) c.as_slice-2.result.now) seals) tt) c.as_slice-3.ensures.value)
