-- A member of the committee: its state, which is a function of its records. Source: Sui Lutris; the records
-- are this profile's own.
use Rattle.std.specs.Prelude.{ℕ, ◌+◌, Bool, true, false, List, [], ◌∷◌, ◌++◌, filter, find, fold, Option, None, option_map, is_some, if◌then◌else◌}
use Rattle.digest_core.specs.declared.Digest.{Digest}
use Rattle.chain_types.specs.declared.objects.ObjectKey.{ObjectKey}
use Rattle.chain_types.specs.declared.objects.Object.{Object}
use Rattle.chain_types.specs.declared.transactions.Transaction.{Transaction}
use Rattle.checkpoint_core.specs.declared.checkpoints.Checkpoint.{Checkpoint}
use Rattle.journal_core.specs.declared.records.Record.{Record}
use Rattle.journal_core.specs.declared.records.Record.TheVariants as record_as
use Rattle.protocol_spec.specs.declared.answers.Held.{Held}
use Rattle.chain_types.specs.Equal.{digest_eq}
use Rattle.chain_types.specs.Digests.{transaction_digest, consumed_keys}
use Rattle.protocol_spec.specs.Chain.Words.{first_of, first_some}
use Rattle.protocol_spec.specs.Chain.Tests.{has_key}
use Rattle.protocol_spec.specs.Chain.Certificates.{Rules}
use Rattle.protocol_spec.specs.Member.Versions.{Execution, live_list}
use Rattle.protocol_spec.specs.Member.Votes.{Cast, Ballot}
use Rattle.protocol_spec.specs.Member.Sequence.{Sequence, What, takes, commits, counts, ignores, nothing_seen, what_of, saw, held_as}
use Rattle.protocol_spec.specs.Member.Rounds.{Books, rounds}
use Rattle.protocol_spec.specs.Member.Checkpoints.{chained, held_of, is_cut}

-- The number of records, and then what the present epoch has: its opening objects, what was executed, voted
-- for, held and seen, whether the member closed it, and the checkpoints of the epochs before.
pub record Member : Type 0 where
  pub records : ℕ
  pub epoch : ℕ
  pub opening : List Object
  pub executed : List Execution
  pub votes : List Cast
  pub held : List Held
  pub sequence : Sequence
  pub closed : Bool
  pub past : List Checkpoint

abbrev pub fresh : List Object → Member
fresh opening = record { records = 0; epoch = 0; opening = opening; executed = []; votes = []; held = []; sequence = nothing_seen; closed = false; past = [] }

-- ---- what follows from the state

abbrev pub ballot : Member → Ballot
ballot m = record { opening = m.opening; executed = m.executed; votes = m.votes }

abbrev pub books : Member → Books
books m = record { opening = m.opening; held = m.held; admission = m.sequence.admission }

-- all checkpoints that the member has built
unfoldable pub built : Member → List Checkpoint
built m = chained m.epoch m.held m.executed m.past m.sequence.cuts

abbrev pub live_objects : Member → List Object
live_objects m = live_list m.opening m.executed

abbrev pub vote_for : Member → Digest → Option Cast
vote_for m tx = find (λ (v : Cast). digest_eq v.digest tx) m.votes

-- two held certificates that consume one version: the version, the transaction held before, and the second
pub record Fork : Type 0 where
  pub key : ObjectKey
  pub first : Digest
  pub second : Digest

abbrev pub consumes : ObjectKey → Held → Bool
consumes key h = has_key (consumed_keys h.cert.tx) key

abbrev pub fork_at : List Held → Held → ObjectKey → Option Fork
fork_at earlier h key = option_map (λ (e : Held). record { key = key; first = e.digest; second = h.digest }) (find (consumes key) earlier)

abbrev pub fork_with : List Held → Held → Option Fork
fork_with earlier h = first_of (fork_at earlier h) (consumed_keys h.cert.tx)

abbrev pub fork_in : List Held → List Held → Option Fork
fork_in earlier [] = None
fork_in earlier (h ∷ hs) = first_some (fork_with earlier h ∷ fork_in (earlier ++ h ∷ []) hs ∷ [])

-- the first fork among the held certificates
unfoldable pub fork_of : Member → Option Fork
fork_of m = fork_in [] m.held

-- ---- records

abbrev pub cast_of : Transaction → List (Option Digest) → Cast
cast_of t origins = record { digest = transaction_digest t; consumed = consumed_keys t; origins = origins }

abbrev pub holding_as : Member → Held → Member
holding_as m h = record m { held = m.held ++ h ∷ [] }

-- a certificate of the sequence is held, if it was not
abbrev pub held_with : List Held → What → List Held
held_with held (takes h) = if is_some (held_of held h.digest) then held else held ++ h ∷ []
held_with held commits = held
held_with held (counts member) = held
held_with held (ignores cause) = held

abbrev pub with_seen : Rules → Member → List ℕ → Member
with_seen r m bytes = record m {
  sequence = saw r m.opening m.epoch m.sequence bytes;
  held = held_with m.held (what_of r m.epoch m.sequence bytes);
}

abbrev pub with_rounds : Member → Member
with_rounds m = record m { executed = m.executed ++ rounds (books m) m.executed }

-- the executed transactions that stand in a checkpoint of the epoch
abbrev pub kept : Member → List Execution
kept m = filter (λ (x : Execution). is_cut m.sequence.cuts x.digest) m.executed

-- the next epoch opens with what the checkpointed transactions left
abbrev pub turned : Member → Member
turned m = record (fresh (live_list m.opening (kept m))) { records = m.records; epoch = m.epoch + 1; past = built m }

abbrev pub changed : Rules → Member → Record → Member
changed r m (record_as.Vote tx origins) = record m { votes = m.votes ++ cast_of tx origins ∷ [] }
changed r m (record_as.Hold c) = holding_as m (held_as c)
changed r m (record_as.See bytes) = with_seen r m bytes
changed r m record_as.Close = record m { closed = true }
changed r m (record_as.Ran txs) = with_rounds m
changed r m record_as.Turn = turned m
changed r m (record_as.Ran2 items) = with_rounds m

-- the state after one more record
unfoldable pub after : Rules → Member → Record → Member
after r m x = record (changed r m x) { records = m.records + 1 }

-- the state of these records, one applied after the other to a fresh member
unfoldable pub state : Rules → List Object → List Record → Member
state r opening records = fold (after r) (fresh opening) records
