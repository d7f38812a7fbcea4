-- What is said of rivals, as the code finds it.
use Rattle.std.proofs.Common.{◌≡◌, ◌∙◌, ℕ, List, map, None, refl, ap}
use Rattle.schedule_text.specs.declared.words.Event.{Event}
use Rattle.protocol_spec.specs.Chain.Certificates.{rules_of}
use Rattle.world_spec.specs.Names.{cert_in, tx_name}
use Rattle.world_spec.specs.Known.{world_with}
use Rattle.world_spec.specs.Scene.{Scene, rules_in}
use Rattle.committee_core.specs.Headline.{program_trust}
use Rattle.light_check.specs.Certified.{Accepting}
use Rattle.inspect.specs.Blame.{SaysBlame, pairs_text}
use Rattle.inspect.specs.Certified.{certified}
use Rattle.inspect.proofs.Validity.{writers_aside}

pub says_blame : (sc : Scene) (accepts : Accepting) (events : List Event) (text : List ℕ) → accepts ≡ program_trust.accepts
    → text ≡ pairs_text (tx_name (world_with sc.known)) sc.terms.stakes (certified (rules_of sc.terms.stakes None accepts) (map cert_in sc.certs) events)
    → SaysBlame (rules_in program_trust.accepts sc) (tx_name (world_with sc.known)) (map cert_in sc.certs) events 0 text
says_blame sc accepts events text same is = record {
  done = refl;
  is =
      is ∙ ap (λ (a : Accepting). pairs_text (tx_name (world_with sc.known)) sc.terms.stakes (certified (rules_of sc.terms.stakes None a) (map cert_in sc.certs) events)) same
      ∙ ap (pairs_text (tx_name (world_with sc.known)) sc.terms.stakes) (writers_aside sc.terms.stakes sc.terms.writers program_trust.accepts (map cert_in sc.certs) events);
}
