-- The answer for bytes that should be a chain of checkpoints. Source: this profile, over the certified chains of Sui
-- Lutris.
use Rattle.std.specs.Prelude.{◌≡◌, ℕ, List, length, Option, Some, None, option_map, Result, Ok, Err}
use Rattle.digest_core.specs.declared.Digest.{Digest}
use Rattle.protocol_spec.specs.Chain.Words.{and_then, unless_refused}
use Rattle.light_check.specs.declared.chain.Link.{Link}
use Rattle.light_check.specs.declared.chain.Chain.{Chain}
use Rattle.light_check.specs.Chains as codecs
use Rattle.light_check.specs.Certified.{Accepting, IsCertified}
use Rattle.light_check.specs.Causes.{first_bad}
use Rattle.light_check.specs.Found.{found}
use Rattle.light_client.specs.Input.{input}
use Rattle.light_client.specs.declared.refusal.Refusal.{Refusal}
use Rattle.light_client.specs.declared.refusal.Refusal.TheVariants as refusal

abbrev pub bad_link : ℕ × ℕ → Refusal
bad_link at = refusal.BadLink at.0 at.1

-- the answer for decoded links: how many there are, or which is the first bad one
abbrev pub links_answer : List ℕ → Accepting → List Link → Result ℕ Refusal
links_answer stakes accepts links = unless_refused (option_map bad_link (first_bad stakes accepts links)) (length links)

-- the answer for bytes: why they do not decode to a chain, else the answer for its links
unfoldable pub chain_answer : List ℕ → Accepting → List ℕ → Result ℕ Refusal
chain_answer stakes accepts bytes = and_then (input codecs.chain bytes) (λ (c : Chain). links_answer stakes accepts c.links)

-- the bytes encode a certified chain of this many links
pub record SpellsCertified (stakes : List ℕ) (accepts : Accepting) (bytes : List ℕ) (links : ℕ) : Type 0 where
  pub chain : Chain
  pub spelled : bytes ≡ codecs.chain.spell chain
  pub fits : codecs.chain.fits chain
  pub certified : IsCertified stakes accepts chain.links
  pub count : links ≡ length chain.links

-- ---- a transaction in a chain

abbrev pub included : Option (ℕ × Digest) → Result (ℕ × Digest) Refusal
included None = Err refusal.NotIncluded
included (Some at) = Ok at

-- the number of the first checkpoint that lists the transaction, and the digest of its effects there
unfoldable pub found_answer : Digest → List ℕ → Result (ℕ × Digest) Refusal
found_answer tx bytes = and_then (input codecs.chain bytes) (λ (c : Chain). included (found tx c.links))
