-- The code's `EntryOutcome` of an entry as the definition's `What`, and what an entry must be to be taken.
use Rattle.std.specs.Prelude.{◌≡◌, ◌<◌, ◌+◌, ℕ, false, List, Option, Some, None, length}
use Rattle.digest_core.specs.declared.Digest.{Digest}
use Rattle.chain_types.specs.declared.objects.ObjectId.{ObjectId}
use Rattle.chain_types.specs.Digests.{transaction_digest}
use Rattle.protocol_spec.specs.declared.answers.Held.{Held}
use Rattle.protocol_spec.specs.declared.answers.SeenWhat.{SeenWhat}
use Rattle.protocol_spec.specs.declared.answers.SeenWhat.TheVariants as seen_as
use Rattle.version_assign.specs.declared.taken.Taken.{Taken}
use Rattle.protocol_spec.specs.Chain.Certificates.{Rules}
use Rattle.protocol_spec.specs.Chain.Committee.{is_among}
use Rattle.protocol_spec.specs.Chain.Keys.{objects_of}
use Rattle.protocol_spec.specs.Chain.Shape.{shape_fault}
use Rattle.protocol_spec.specs.Member.Admission.{is_known}
use Rattle.protocol_spec.specs.Member.Member.{Member, held_with}
use Rattle.protocol_spec.specs.Member.Sequence.{Sequence, What, commits, counts, ignores, takes, with_entry}
use Rattle.validator_core.specs.declared.entries.EntryOutcome.{EntryOutcome}
use Rattle.validator_core.specs.declared.entries.EntryOutcome.TheVariants as arrival

abbrev pub what_as : EntryOutcome → What
what_as (arrival.Takes h) = takes h
what_as arrival.Commits = commits
what_as (arrival.Counts m) = counts m
what_as (arrival.Ignores cause) = ignores cause

-- a valid certificate whose transaction is not in the sequence
pub record IsArriving (q : Sequence) (h : Held) : Type 0 where
  pub is : h.digest ≡ transaction_digest h.cert.tx
  pub shape : shape_fault h.cert.tx ≡ None
  pub origins : length h.cert.origins ≡ length (objects_of h.cert.tx)
  pub new : is_known q.admission h.digest ≡ false

-- an End of a known member of which none was counted
pub record IsEnding (stakes : List ℕ) (q : Sequence) (m : ℕ) : Type 0 where
  pub known : m < length stakes
  pub new : is_among q.counted m ≡ false

-- what holds of an arrival that `read_entry` gives, so that it may be taken
abbrev pub MayArrive : List ℕ → Sequence → EntryOutcome → Type 0
MayArrive stakes q (arrival.Takes h) = IsArriving q h
MayArrive stakes q arrival.Commits = Unit {0}
MayArrive stakes q (arrival.Counts m) = IsEnding stakes q m
MayArrive stakes q (arrival.Ignores cause) = Unit {0}

-- the answer to a certificate's entry: pending on an origin, deferred on an object, or else what was taken
abbrev pub waiting_answer : Option Digest → Option ObjectId → Digest → Taken → SeenWhat
waiting_answer (Some origin) deferred tx t = seen_as.Pending tx origin
waiting_answer None (Some id) tx t = seen_as.Deferred tx id
waiting_answer None None tx t = seen_as.Taken t.admitted t.dropped

-- the member after the record of this entry
abbrev pub behind_entry : Rules → Member → What → Member
behind_entry r m what = record m { sequence = with_entry r m.opening m.sequence what; held = held_with m.held what; records = m.records + 1 }
