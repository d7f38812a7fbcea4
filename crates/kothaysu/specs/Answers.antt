-- Answers as numbers. Source: this profile.
use Rattle.std.specs.Prelude.{◌≡◌, ℕ, Bool, ◌==◌, false, bytes_eq, List, Result, Ok, Err}
use Rattle.digest_core.specs.declared.Digest.{Digest}
use Rattle.quorum_core.specs.Committee.{committee_of}
use Rattle.quorum_core.specs.Seals.{keyed_seal}
use Rattle.quorum_core.specs.declared.signer.Signer.{Signer}
use Rattle.quorum_core.specs.declared.committee.CommitteeRefusal.{CommitteeRefusal}
use Rattle.quorum_core.specs.declared.committee.CommitteeRefusal.TheVariants as no_one
use Rattle.light_client.specs.declared.refusal.Refusal.{Refusal}
use Rattle.light_client.specs.declared.refusal.Refusal.TheVariants as refusal
use Rattle.kothaysu.specs.declared.answer.Answer.{Answer}
use Rattle.kothaysu.specs.declared.answer.Bytes32.{Bytes32}

abbrev pub said : ℕ → ℕ → ℕ → ℕ → Answer
said code cause first second = record { code = code; cause = cause; first = first; second = second }

-- the answer for a refusal of the light client: its code, and the numbers that go with it
abbrev pub refused : Refusal → Answer
refused refusal.OutOfMemory = said 1 0 0 0
refused refusal.TooLarge = said 2 0 0 0
refused (refusal.Malformed at why) = said 3 why at 0
refused (refusal.BadLink place cause) = said 5 cause place 0
refused refusal.NotIncluded = said 6 0 0 0
refused (refusal.Shape fault) = said 7 fault 0 0
refused refusal.Order = said 8 0 0 0
refused (refusal.ShortStake weight total) = said 9 0 weight total
refused (refusal.BadSeal member) = said 10 0 member 0
refused (refusal.NoAcknowledgement place) = said 11 0 place 0
refused (refusal.Differ a b) = said 12 0 a b
refused refusal.NoRivals = said 13 0 0 0

-- the answer for stakes that are not a committee: code 4, and why
abbrev pub no_committee : CommitteeRefusal → Answer
no_committee no_one.NoMembers = said 4 1 0 0
no_committee no_one.TooManyMembers = said 4 2 0 0
no_committee (no_one.ZeroStake member) = said 4 3 member 0

abbrev pub as_answer : {A : Type 0} → Result A Refusal → Result A Answer
as_answer (Ok x) = Ok x
as_answer (Err why) = Err (refused why)

abbrev pub by_committee : {A : Type 0} → Result (List ℕ) CommitteeRefusal → (List ℕ → Result A Refusal) → Result A Answer
by_committee (Ok stakes) asks = as_answer (asks stakes)
by_committee (Err why) asks = Err (no_committee why)

-- the answer to a question about the committee of these stakes; if they make no committee, the answer that says why
abbrev pub for_committee : {A : Type 0} → List ℕ → (List ℕ → Result A Refusal) → Result A Answer
for_committee stakes asks = by_committee (committee_of stakes) asks

-- the code's answer is the definition's; an answer with code 1 (out of memory) says nothing about it
abbrev pub Answered : {A : Type 0} → Result A Answer → Result A Answer → Type 0
Answered (Ok x) answer = answer ≡ Ok x
Answered (Err why) answer = (why.code == 1) ≡ false → answer ≡ Err why

abbrev pub told : {A : Type 0} → (A → Answer) → Result A Answer → Answer
told says (Ok x) = says x
told says (Err why) = why

-- the answer that a caller in C sees is the definition's, in numbers; code 1 (out of memory) says nothing about it
abbrev pub Tells : {A : Type 0} → (A → Answer) → Answer → Result A Answer → Type 0
Tells says answer result = (answer.code == 1) ≡ false → answer ≡ told says result

-- what stands in an output buffer after code 0
abbrev pub Puts : {A O : Type 0} → (A → O) → O → Result A Answer → Type 0
Puts puts out (Ok x) = out ≡ puts x
Puts puts out (Err why) = ⊥

abbrev pub as_bytes : Digest → Bytes32
as_bytes d = record { bytes = d.0 }

abbrev pub of_bytes : Bytes32 → Digest
of_bytes b = record { 0 = b.bytes }

-- whether a seal is the keyed seal of these bytes by this signer under this secret
abbrev pub keyed : Bytes32 → Signer → List ℕ → Digest → Bool
keyed secret who bytes seal = bytes_eq seal.0 (keyed_seal secret.bytes who bytes).0
