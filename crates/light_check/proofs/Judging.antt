-- What is said of bytes, and what they encode.
use Rattle.std.proofs.Common.{◌≡◌, ◌∙◌, ℕ, List, length, Option, Some, None, Result, Ok, Err, IfOk, refl, sym, ap, subst}
use Rattle.digest_core.specs.declared.Digest.{Digest}
use Rattle.wire_bcs.specs.Whole.{whole, whole-only}
use Rattle.light_check.specs.declared.chain.Chain.{Chain}
use Rattle.light_check.specs.declared.verdict.Verdict.{Verdict}
use Rattle.light_check.specs.declared.verdict.Verdict.TheVariants as verdict
use Rattle.light_check.specs.Chains as codecs
use Rattle.light_check.specs.Certified.{Accepting, IsCertified}
use Rattle.light_check.specs.Causes.{first_bad}
use Rattle.light_check.specs.Verdicts.{SpellsCertified, number_with, verdict_on, verdict_on_chain, verdict_on_read}
use Rattle.light_check.proofs.Certifying.{certified_is_good, certifies}

-- what is called certified is certified
pub called_certified : (stakes : List ℕ) (accepts : Accepting) (tx : Digest) (bytes : List ℕ) (c : Chain) → bytes ≡ codecs.chain.spell c → codecs.chain.fits c
    → (links : ℕ) (included : Option ℕ) → verdict_on_chain tx c.links (first_bad stakes accepts c.links) ≡ verdict.Certified links included → SpellsCertified stakes accepts tx bytes links included
called_certified stakes accepts tx bytes c spelled fits links included is = go (first_bad stakes accepts c.links) refl is
  where
    count : (n m : ℕ) (i j : Option ℕ) → verdict.Certified n i ≡ verdict.Certified m j → m ≡ n
    count n m i j e = cc

    at : (n m : ℕ) (i j : Option ℕ) → verdict.Certified n i ≡ verdict.Certified m j → j ≡ i
    at n m i j e = cc

    go : (bad : Option (ℕ × ℕ)) → first_bad stakes accepts c.links ≡ bad → verdict_on_chain tx c.links bad ≡ verdict.Certified links included → SpellsCertified stakes accepts tx bytes links included
    go (Some x) none is = absurd (cc)
    go None none is = record {
      chain = c;
      spelled = spelled;
      fits = fits;
      certified = certifies stakes accepts 0 None c.links none;
      count = count (length c.links) links (number_with tx c.links) included is;
      found_in = at (length c.links) links (number_with tx c.links) included is;
    }

-- what is certified is called so
pub is_called : (stakes : List ℕ) (accepts : Accepting) (tx : Digest) (bytes : List ℕ) (c : Chain) → codecs.chain.fits c → bytes ≡ codecs.chain.spell c → IsCertified stakes accepts c.links
    → verdict_on stakes accepts tx bytes ≡ verdict.Certified (length c.links) (number_with tx c.links)
unfolding verdict_on
is_called stakes accepts tx bytes c fits spelled certified =
    rw (whole-only codecs.chain bytes c fits spelled, certified_is_good stakes accepts 0 None c.links certified) refl

-- so the answer says it, if there is one
pub answers_certified : {E : Type 0} (stakes : List ℕ) (accepts : Accepting) (tx : Digest) (bytes : List ℕ) (read : Chain) (result : Result Verdict E) → whole codecs.chain bytes ≡ Ok read
    → IfOk result (λ v. v ≡ verdict_on_chain tx read.links (first_bad stakes accepts read.links))
    → (c : Chain) → codecs.chain.fits c → bytes ≡ codecs.chain.spell c → IsCertified stakes accepts c.links → IfOk result (λ v. v ≡ verdict.Certified (length c.links) (number_with tx c.links))
unfolding verdict_on
answers_certified stakes accepts tx bytes read (Ok v) is says c fits spelled certified = says ∙ sym (ap (verdict_on_read stakes accepts tx) is) ∙ is_called stakes accepts tx bytes c fits spelled certified
answers_certified stakes accepts tx bytes read (Err e) is says c fits spelled certified = tt

-- an answer that calls the chain certified
pub answer_spells : {E : Type 0} (stakes : List ℕ) (accepts : Accepting) (tx : Digest) (bytes : List ℕ) (read : Chain) (result : Result Verdict E) → (bytes ≡ codecs.chain.spell read) × codecs.chain.fits read
    → IfOk result (λ v. v ≡ verdict_on_chain tx read.links (first_bad stakes accepts read.links))
    → (links : ℕ) (included : Option ℕ) → result ≡ Ok (verdict.Certified links included) → SpellsCertified stakes accepts tx bytes links included
answer_spells {E} stakes accepts tx bytes read result found says links included is =
    called_certified stakes accepts tx bytes read found.0 found.1 links included (sym (subst (λ (r : Result Verdict E). IfOk r (λ v. v ≡ verdict_on_chain tx read.links (first_bad stakes accepts read.links))) is says))
