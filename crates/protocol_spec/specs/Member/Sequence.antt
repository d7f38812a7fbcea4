-- What a member makes of the entries of an epoch's sequence. Source: Sui Lutris; the causes and their order
-- are this profile's own.
use Rattle.std.specs.Prelude.{ℕ, ◌+◌, Bool, true, false, not, ◌&&◌, ◌==◌, nat_lt, List, [], ◌∷◌, ◌++◌, map, drop, length, fold, Option, Some, None, is_some, Result, Ok, Err, if◌then◌else◌}
use Rattle.wire_bcs.specs.declared.fault.WireFault.{WireFault}
use Rattle.digest_core.specs.declared.Digest.{Digest}
use Rattle.chain_types.specs.declared.objects.ObjectId.{ObjectId}
use Rattle.chain_types.specs.declared.objects.Object.{Object}
use Rattle.chain_messages.specs.declared.messages.Statement.{Statement}
use Rattle.chain_messages.specs.declared.messages.Statement.TheVariants as statement
use Rattle.chain_messages.specs.declared.messages.Sealed.{Sealed}
use Rattle.chain_messages.specs.declared.messages.Certificate.{Certificate}
use Rattle.chain_messages.specs.declared.messages.Entry.{Entry}
use Rattle.chain_messages.specs.declared.messages.Entry.TheVariants as entry
use Rattle.protocol_spec.specs.declared.answers.Held.{Held}
use Rattle.protocol_spec.specs.declared.answers.Ignore.{Ignore}
use Rattle.protocol_spec.specs.declared.answers.Ignore.TheVariants as ignore
use Rattle.protocol_spec.specs.declared.answers.SeenWhat.{SeenWhat}
use Rattle.protocol_spec.specs.declared.answers.SeenWhat.TheVariants as seen_as
use Rattle.chain_types.specs.Digests.{transaction_digest}
use Rattle.protocol_spec.specs.Chain.Words.{first_some, where_true}
use Rattle.protocol_spec.specs.Chain.Committee.{weight, is_quorum, is_among}
use Rattle.protocol_spec.specs.Chain.Certificates.{Rules, accepts_statement, read_entry, cert_refusal}
use Rattle.protocol_spec.specs.Member.Admission.{Admitted, Admission, nothing_admitted, is_known, since_mark, entered, passed_mark, digest_of_admitted, pending_on, deferred_on}

-- the transactions of one checkpoint, and whether it is the last of its epoch
pub record Cut : Type 0 where
  pub txs : List Admitted
  pub last : Bool

-- what a member has of its epoch's sequence: the number of entries seen, the admission, the checkpoints
-- cut, the members whose End was counted, and whether the epoch has ended
pub record Sequence : Type 0 where
  pub number : ℕ
  pub admission : Admission
  pub cuts : List Cut
  pub counted : List ℕ
  pub ended : Bool

abbrev pub nothing_seen : Sequence
nothing_seen = record { number = 0; admission = nothing_admitted; cuts = []; counted = []; ended = false }

-- ---- what an entry is

pub data What : Type 0 where
  takes : Held → What
  commits : What
  counts : ℕ → What
  ignores : Ignore → What

abbrev pub ignored_or : Option Ignore → What → What
ignored_or None what = what
ignored_or (Some cause) what = ignores cause

abbrev pub certificate_cases : Rules → ℕ → Sequence → Certificate → Digest → List (Option Ignore)
certificate_cases r epoch q c tx =
    where_true (not (c.tx.epoch == epoch)) ignore.Epoch ∷
    where_true (is_some (cert_refusal r c)) ignore.Cert ∷
    where_true (is_known q.admission tx) ignore.Repeat ∷ []

abbrev pub held_as : Certificate → Held
held_as c = record { digest = transaction_digest c.tx; cert = c }

abbrev pub end_cases : Rules → ℕ → Sequence → Sealed → ℕ → List (Option Ignore)
end_cases r epoch q s of_epoch =
    where_true (not (of_epoch == epoch)) ignore.Epoch ∷
    where_true (not (nat_lt s.member (length r.stakes) && accepts_statement r s.member s.statement s.seal)) ignore.Seal ∷
    where_true (is_among q.counted s.member) ignore.Repeat ∷ []

abbrev pub what_stated : Rules → ℕ → Sequence → Sealed → Statement → What
what_stated r epoch q s (statement.Vote of_epoch tx origins) = ignores ignore.Statement
what_stated r epoch q s (statement.End of_epoch) = ignored_or (first_some (end_cases r epoch q s of_epoch)) (counts s.member)
what_stated r epoch q s (statement.Checkpoint of_epoch number digest) = ignores ignore.Statement
what_stated r epoch q s (statement.Ack of_epoch tx effects) = ignores ignore.Statement

abbrev pub what_read : Rules → ℕ → Sequence → Result Entry WireFault → What
what_read r epoch q (Err fault) = ignores ignore.Malformed
what_read r epoch q (Ok (entry.Cert c)) = ignored_or (first_some (certificate_cases r epoch q c (transaction_digest c.tx))) (takes (held_as c))
what_read r epoch q (Ok (entry.End s)) = what_stated r epoch q s s.statement
what_read r epoch q (Ok entry.Commit) = commits

-- what the bytes of the next entry are to a member in this epoch
unfoldable pub what_of : Rules → ℕ → Sequence → List ℕ → What
what_of r epoch q bytes = what_read r epoch q (read_entry bytes)

-- ---- what an entry does

-- a mark cuts what was admitted since the last one, if anything was
abbrev pub cut_of : List Admitted → List Cut
cut_of [] = []
cut_of (a ∷ more) = record { txs = a ∷ more; last = false } ∷ []

abbrev pub last_cut : List Admitted → Cut
last_cut txs = record { txs = txs; last = true }

-- the members whose End is counted are a quorum with this one
abbrev pub ends_with_member : Rules → Sequence → ℕ → Bool
ends_with_member r q member = is_quorum r.stakes (weight r.stakes (q.counted ++ member ∷ []))

abbrev pub counted_as : Bool → Sequence → ℕ → Sequence
counted_as true q member = record q { counted = q.counted ++ member ∷ []; ended = true; cuts = q.cuts ++ last_cut (since_mark q.admission) ∷ [] }
counted_as false q member = record q { counted = q.counted ++ member ∷ [] }

abbrev pub with_what : Rules → List Object → Sequence → What → Sequence
with_what r opening q (takes h) = record q { admission = entered r.writers opening q.admission h }
with_what r opening q commits = record q { admission = passed_mark r.writers opening q.admission; cuts = q.cuts ++ cut_of (since_mark q.admission) }
with_what r opening q (counts member) = counted_as (ends_with_member r q member) q member
with_what r opening q (ignores cause) = q

abbrev pub numbered : Sequence → Sequence
numbered q = record q { number = q.number + 1 }

-- one more entry, and what it gives
unfoldable pub with_entry : Rules → List Object → Sequence → What → Sequence
with_entry r opening q what = numbered (with_what r opening q what)

-- entries after the end of the epoch are not taken
unfoldable pub saw : Rules → List Object → ℕ → Sequence → List ℕ → Sequence
saw r opening epoch q bytes = if q.ended then q else with_entry r opening q (what_of r epoch q bytes)

-- what a member that opened the epoch with these objects has of these entries
unfoldable pub seen : Rules → List Object → ℕ → List (List ℕ) → Sequence
seen r opening epoch entries = fold (saw r opening epoch) nothing_seen entries

-- ---- what is answered of an entry

abbrev pub newly_admitted : Sequence → Sequence → List Digest
newly_admitted old new = map digest_of_admitted (drop (length old.admission.admitted) new.admission.admitted)

abbrev pub newly_dropped : Sequence → Sequence → List Digest
newly_dropped old new = drop (length old.admission.dropped) new.admission.dropped

abbrev pub waiting_on : Sequence → Sequence → Digest → Option Digest → Option ObjectId → SeenWhat
waiting_on old new tx (Some origin) deferred = seen_as.Pending tx origin
waiting_on old new tx None (Some id) = seen_as.Deferred tx id
waiting_on old new tx None None = seen_as.Taken (newly_admitted old new) (newly_dropped old new)

abbrev pub counted_what : Bool → ℕ → ℕ → SeenWhat
counted_what true member w = seen_as.Ended member w
counted_what false member w = seen_as.Counted member w

-- what the entry did, between the sequence before it and after it
unfoldable pub seen_what : Rules → Sequence → Sequence → What → SeenWhat
seen_what r old new (takes h) = waiting_on old new h.digest (pending_on new.admission h.digest) (deferred_on r.writers new.admission h.digest)
seen_what r old new commits = seen_as.Commit (newly_admitted old new) (newly_dropped old new)
seen_what r old new (counts member) = counted_what new.ended member (weight r.stakes new.counted)
seen_what r old new (ignores cause) = seen_as.Ignored cause
