-- The digest of what bytes encode. Source: this profile.
use Rattle.std.specs.Prelude.{ℕ, List, Result, Ok}
use Rattle.digest_core.specs.declared.Digest.{Digest}
use Rattle.wire_bcs.specs.Codec.{Codec}
use Rattle.protocol_spec.specs.Chain.Words.{and_then}
use Rattle.light_client.specs.Input.{input}
use Rattle.light_client.specs.declared.refusal.Refusal.{Refusal}

unfoldable pub digest_answer : {A : Type 0} → Codec A → (A → Digest) → List ℕ → Result Digest Refusal
digest_answer codec digest_of bytes = and_then (input codec bytes) (λ x. Ok (digest_of x))
