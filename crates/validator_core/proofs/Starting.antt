-- One record after the other.
use Rattle.std.proofs.Common.{◌≡◌, ◌+◌, ℕ, List, ◌∷◌, ap}
use Rattle.std.specs.Prelude.{Ok, Err}
use Rattle.protocol_spec.specs.Chain.Certificates.{Rules}
use Rattle.protocol_spec.specs.Chain.Words.{and_then}
use Rattle.protocol_spec.specs.declared.refusals.StartRefusal.{StartRefusal}
use Rattle.protocol_spec.specs.declared.refusals.StartRefusal.TheVariants as no_start
use Rattle.protocol_spec.specs.Member.Member.{Member}
use Rattle.validator_core.specs.Starts.{StateAs}
use Rattle.world_spec.specs.Starts.{read_record, started_from, taken_at}

pub taken_on : (r : Rules) (m next : Member) (place : ℕ) (bytes : List ℕ) (kept : List (List ℕ)) → taken_at r m place (read_record bytes) ≡ Ok next → started_from r m place (bytes ∷ kept) ≡ started_from r next (place + 1) kept
taken_on r m next place bytes kept e = ap (λ x. and_then x (λ (n : Member). started_from r n (place + 1) kept)) e

pub stopped_on : (r : Rules) (m state : Member) (place : ℕ) (bytes : List ℕ) (kept : List (List ℕ)) (e : StartRefusal) → StateAs (taken_at r m place (read_record bytes)) state (Err e) → StateAs (started_from r m place (bytes ∷ kept)) state (Err e)
stopped_on r m state place bytes kept (no_start.BadRecord at why) h = ap (λ x. and_then x (λ (n : Member). started_from r n (place + 1) kept)) h
stopped_on r m state place bytes kept no_start.OutOfMemory h = tt
