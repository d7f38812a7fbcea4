-- What a chain of checkpoints keeps of admitted transactions and of their cuts. Source: Sui Lutris.
use Rattle.std.specs.Prelude.{ℕ, suc, ◌+◌, Bool, not, ◌&&◌, Option, List, [], ◌∷◌, take, drop, if◌then◌else◌}
use Rattle.digest_core.specs.declared.Digest.{Digest}
use Rattle.checkpoint_core.specs.declared.checkpoints.Item.{Item}
use Rattle.protocol_spec.specs.declared.answers.Held.{Held}
use Rattle.protocol_spec.specs.Member.Versions.{Execution, execution_of, is_executed}
use Rattle.protocol_spec.specs.Chain.Words.{where_true}
use Rattle.protocol_spec.specs.Member.Admission.{Admission, Admitted, is_known}
use Rattle.protocol_spec.specs.Member.Sequence.{Cut}
use Rattle.protocol_spec.specs.Member.Checkpoints.{held_of, names_same_origins, effects_digest_of}
use Rattle.epoch_turn.specs.declared.due.Due.{Due}
use Rattle.epoch_turn.specs.declared.due.CutMark.{CutMark}

-- what is kept of an admitted transaction, at a member that holds these certificates
abbrev pub due_of : List Held → Admitted → Due
due_of held a = record { tx = a.digest; same = names_same_origins (held_of held a.digest) a }

-- it is done: executed, and held with the origins with which it was admitted
abbrev pub is_due_done : List Execution → Due → Bool
is_due_done executed d = is_executed executed d.tx && d.same

abbrev pub due_item : List Execution → Due → Item
due_item executed d = record { tx = d.tx; effects = effects_digest_of (execution_of executed d.tx) }

-- how many at the start of a list pass a test
abbrev pub front_length : {A : Type 0} → (A → Bool) → List A → ℕ
front_length test [] = 0
front_length test (x ∷ xs) = if test x then suc (front_length test xs) else 0

-- the cuts of a list of admitted transactions: each has the next of them, as many as its mark says
abbrev pub cuts_of : List Admitted → List CutMark → List Cut
cuts_of admitted [] = []
cuts_of admitted (m ∷ ms) = record { txs = take m.size admitted; last = m.last } ∷ cuts_of (drop m.size admitted) ms

-- how many transactions these cuts have
abbrev pub size_of : List CutMark → ℕ
size_of [] = 0
size_of (m ∷ ms) = m.size + size_of ms

-- a held certificate whose transaction is in the sequence
abbrev pub is_ordered : Admission → Held → Bool
is_ordered a h = is_known a h.digest

-- the transaction of a held certificate, if it is not in the sequence
abbrev pub unordered : Admission → Held → Option Digest
unordered a h = where_true (not (is_ordered a h)) h.digest
