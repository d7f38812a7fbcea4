-- What is passed is certified.
use Rattle.std.proofs.Common.{◌≡◌, ℕ, List, length, Option, Some, None, Result, Ok, refl, subst}
use Rattle.std.specs.Prelude.{option_map}
use Rattle.protocol_spec.specs.Chain.Words.{unless_refused}
use Rattle.light_check.specs.declared.chain.Chain.{Chain}
use Rattle.light_check.specs.Chains as codecs
use Rattle.light_check.specs.Certified.{Accepting}
use Rattle.light_check.specs.Causes.{first_bad}
use Rattle.light_check.proofs.Certifying.{certifies}
use Rattle.light_client.specs.declared.refusal.Refusal.{Refusal}
use Rattle.light_client.specs.Input.{Answers}
use Rattle.light_client.specs.Chains.{SpellsCertified, bad_link, links_answer}

pub passed : (stakes : List ℕ) (accepts : Accepting) (bytes : List ℕ) (c : Chain) → (bytes ≡ codecs.chain.spell c) × codecs.chain.fits c → (links : ℕ) → links_answer stakes accepts c.links ≡ Ok links → SpellsCertified stakes accepts bytes links
passed stakes accepts bytes c spelled links is = go (first_bad stakes accepts c.links) refl is
  where
    same : (n m : ℕ) → unless_refused None n ≡ (let r : Result ℕ Refusal = Ok m in r) → m ≡ n
    same n m e = cc

    go : (bad : Option (ℕ × ℕ)) → first_bad stakes accepts c.links ≡ bad → unless_refused (option_map bad_link bad) (length c.links) ≡ Ok links → SpellsCertified stakes accepts bytes links
    go (Some x) e is = absurd (cc)
    go None e is = record { chain = c; spelled = spelled.0; fits = spelled.1; certified = certifies stakes accepts 0 None c.links e; count = same (length c.links) links is }

pub passes : (stakes : List ℕ) (accepts : Accepting) (bytes : List ℕ) (c : Chain) (result : Result ℕ Refusal) → (bytes ≡ codecs.chain.spell c) × codecs.chain.fits c → Answers result (links_answer stakes accepts c.links)
    → (links : ℕ) → result ≡ Ok links → SpellsCertified stakes accepts bytes links
passes stakes accepts bytes c result spelled answers links is = passed stakes accepts bytes c spelled links (subst (λ (r : Result ℕ Refusal). Answers r (links_answer stakes accepts c.links)) is answers)
