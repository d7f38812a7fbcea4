-- The verdict of a client on bytes that should be a chain. Source: this profile.
use Rattle.std.specs.Prelude.{◌≡◌, ℕ, List, length, Option, Some, None, option_map, Result, Ok, Err}
use Rattle.digest_core.specs.declared.Digest.{Digest}
use Rattle.wire_bcs.specs.Place.{Stop}
use Rattle.wire_bcs.specs.Whole.{whole}
use Rattle.light_check.specs.declared.chain.Link.{Link}
use Rattle.light_check.specs.declared.chain.Chain.{Chain}
use Rattle.light_check.specs.declared.verdict.Verdict.{Verdict}
use Rattle.light_check.specs.declared.verdict.Verdict.TheVariants as verdict
use Rattle.light_check.specs.Chains as codecs
use Rattle.light_check.specs.Certified.{Accepting, IsCertified}
use Rattle.light_check.specs.Causes.{first_bad}
use Rattle.light_check.specs.Found.{found}

-- the number of the first checkpoint that lists the transaction
abbrev pub number_with : Digest → List Link → Option ℕ
number_with tx links = option_map (λ at. at.0) (found tx links)

-- the verdict on a decoded chain, by its first bad link: if there is none, certified, with the number of links and the
-- first checkpoint that lists the transaction
abbrev pub verdict_on_chain : Digest → List Link → Option (ℕ × ℕ) → Verdict
verdict_on_chain tx links None = verdict.Certified (length links) (number_with tx links)
verdict_on_chain tx links (Some bad) = verdict.Bad bad.0 bad.1

abbrev pub verdict_on_read : List ℕ → Accepting → Digest → Result Chain Stop → Verdict
verdict_on_read stakes accepts tx (Ok c) = verdict_on_chain tx c.links (first_bad stakes accepts c.links)
verdict_on_read stakes accepts tx (Err stop) = verdict.Malformed stop.place.at stop.why

-- the verdict on bytes: malformed if they do not decode to a chain, else the verdict on the chain
unfoldable pub verdict_on : List ℕ → Accepting → Digest → List ℕ → Verdict
verdict_on stakes accepts tx bytes = verdict_on_read stakes accepts tx (whole codecs.chain bytes)

-- the bytes encode a certified chain of this many links, and the transaction stands in this checkpoint of it, or in none
pub record SpellsCertified (stakes : List ℕ) (accepts : Accepting) (tx : Digest) (bytes : List ℕ) (links : ℕ) (included : Option ℕ) : Type 0 where
  pub chain : Chain
  pub spelled : bytes ≡ codecs.chain.spell chain
  pub fits : codecs.chain.fits chain
  pub certified : IsCertified stakes accepts chain.links
  pub count : links ≡ length chain.links
  pub found_in : included ≡ number_with tx chain.links
