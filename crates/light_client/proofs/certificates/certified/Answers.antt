use Rattle.std.proofs.Common.{◌≡◌, ◌∙◌, ℕ, false, Ok, Err, None, sym, ap, subst}
use Rattle.std.specs.Prelude.{Result}
use Rattle.digest_core.specs.declared.Digest.{Digest}
use Rattle.light_client.specs.declared.refusal.Refusal.{Refusal}
use Rattle.light_client.specs.Certificates.{certified_answer}
use Rattle.light_client.specs.Input.{is_memory}
use Rattle.light_client.proofs.Votes.{is_refused, is_valid}
use Rattle.light_client.proofs.certificates.certified.Goals as goal

pub returns-in-Err : goal.returns-in-Err
returns-in-Err g c =
    subst (λ (r : Refusal). is_memory r ≡ false → certified_answer c.args.committee.now (g.C.Checker.accepts c.args.checker.now) c.args.cert.now ≡ Err r) (sym c.of_certificate.ensures)
    (is_refused c.args.committee.now (g.C.Checker.accepts c.args.checker.now) c.args.cert.now c.in-Err.refusal (c.in-Err.ensures None))

pub returns-in-Ok : goal.returns-in-Ok
returns-in-Ok g c =
    is_valid c.args.committee.now (g.C.Checker.accepts c.args.checker.now) c.args.cert.now (c.in-Ok.ensures None)
    ∙ ap (λ (d : Digest). let said : Result (Digest × ℕ) Refusal = Ok (d, c.args.cert.now.tx.epoch) in said) (sym c.in_ok-digest.ensures)
