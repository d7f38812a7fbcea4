-- What contracts see of a `CheckpointBuilder`, and what each of its calls makes of that. Source: Sui Lutris.
use Rattle.std.specs.Prelude.{◌≡◌, ℕ, ◌≤◌, ◌-◌, ◌==◌, Bool, not, true, false, List, [], ◌∷◌, ◌++◌, map, take, drop, length, Option, is_some, if◌then◌else◌}
use Rattle.std.specs.List.{list_all}
use Rattle.digest_core.specs.declared.Digest.{Digest}
use Rattle.checkpoint_core.specs.declared.checkpoints.Checkpoint.{Checkpoint}
use Rattle.protocol_spec.specs.declared.answers.Held.{Held}
use Rattle.protocol_spec.specs.Chain.Words.{Each, IsFront, first_of, last_of, where_true}
use Rattle.protocol_spec.specs.Member.Versions.{Execution}
use Rattle.protocol_spec.specs.Member.Admission.{Admitted}
use Rattle.protocol_spec.specs.Member.Sequence.{Cut, last_cut}
use Rattle.protocol_spec.specs.Member.Checkpoints.{chained, cut_digests, digest_before, held_of, is_done}
use Rattle.epoch_turn.specs.declared.due.Due.{Due}
use Rattle.epoch_turn.specs.declared.due.CutMark.{CutMark}
use Rattle.epoch_turn.specs.Dues.{cuts_of, due_of, is_due_done, due_item, front_length, size_of}

-- `past` has the checkpoints of the epochs before, `built` all that were built. Of the present epoch: `due` has the
-- admitted transactions, `marks` how many of them each cut has, and the first `done` of them were found done
pub record Chaining : Type 0 where
  pub past : List Checkpoint
  pub built : List Checkpoint
  pub due : List Due
  pub marks : List CutMark
  pub done : ℕ

abbrev pub nothing_built : Chaining
nothing_built = record { past = []; built = []; due = []; marks = []; done = 0 }

abbrev pub tx_of : Due → Digest
tx_of d = d.tx

-- ---- what is reported to a chain

abbrev pub with_due : Chaining → Due → Chaining
with_due c d = record c { due = c.due ++ d ∷ [] }

-- how many were admitted since the last cut
abbrev pub uncut : Chaining → ℕ
uncut c = length c.due - size_of c.marks

-- the transactions of all cuts, in order
abbrev pub cut_of_chain : Chaining → List Digest
cut_of_chain c = map tx_of (take (size_of c.marks) c.due)

abbrev pub with_cut : Bool → Chaining → Chaining
with_cut last c = record c { marks = c.marks ++ record { size = uncut c; last = last } ∷ [] }

-- a Commit mark: what was admitted since the last cut is cut, if anything was
abbrev pub with_mark : Chaining → Chaining
with_mark c = if uncut c == 0 then c else with_cut false c

-- the chain in the next epoch: its checkpoints stay, and nothing is admitted yet
abbrev pub turned : Chaining → Chaining
turned c = record { past = c.built; built = c.built; due = []; marks = []; done = 0 }

-- ---- what is built

-- the checkpoint of a cut after those before it
abbrev pub due_checkpoint : ℕ → List Execution → List Checkpoint → List Due → Bool → Checkpoint
due_checkpoint epoch executed before txs last = record {
  epoch = epoch;
  number = length before;
  parent = digest_before (last_of before);
  items = map (due_item executed) txs;
  last = last;
}

-- the checkpoints of the cuts, up to the first cut with a transaction that is not done: the definition's `chained`,
-- computed from what a chain keeps
abbrev pub due_chain : ℕ → List Execution → List Checkpoint → List Due → List CutMark → List Checkpoint
due_chain epoch executed before due [] = before
due_chain epoch executed before due (m ∷ ms) =
    if list_all (is_due_done executed) (take m.size due)
    then due_chain epoch executed (before ++ due_checkpoint epoch executed before (take m.size due) m.last ∷ []) (drop m.size due) ms
    else before

-- `advance`: the checkpoints of all cuts whose transactions are done are built
abbrev pub advanced : ℕ → List Execution → Chaining → Chaining
advanced epoch executed c = record c { built = due_chain epoch executed c.past c.due c.marks; done = front_length (is_due_done executed) c.due }

-- what a chain has built is a prefix of what `advance` gives, and it has found no more done than is
pub record IsBehind (epoch : ℕ) (executed : List Execution) (c : Chaining) : Type 0 where
  pub front : IsFront c.built (due_chain epoch executed c.past c.due c.marks)
  pub found : c.done ≤ front_length (is_due_done executed) c.due

-- a chain with nothing admitted is behind, whatever is executed
abbrev pub StartsBehind : Chaining → Type 0
StartsBehind c = (epoch : ℕ) (executed : List Execution) → IsBehind epoch executed c

-- a chain stays behind if more is executed
abbrev pub IsAhead : ℕ → List Execution → Chaining → Type 0
IsAhead epoch executed c = (more : List Execution) → IsBehind epoch (executed ++ more) c

-- a step keeps a chain behind
abbrev pub StaysBehind : Chaining → Chaining → Type 0
StaysBehind old new = (epoch : ℕ) (executed : List Execution) → IsBehind epoch executed old → IsBehind epoch executed new

-- ---- what a chain stands for, at a member that has these certificates and executions

-- the transactions that were reported to the chain are the admitted ones
abbrev pub IsTold : List Held → List Admitted → Chaining → Type 0
IsTold held admitted c = c.due ≡ map (due_of held) admitted

-- a step that admits more leaves the cuts as they are
abbrev pub KeepsCuts : Chaining → Chaining → Type 0
KeepsCuts old new = (held : List Held) (admitted more : List Admitted) → IsTold held admitted old → cuts_of (admitted ++ more) new.marks ≡ cuts_of admitted old.marks

-- a step that cuts adds to the cuts what `made` gives of the transactions admitted since the last cut
abbrev pub AddsCuts : (List Admitted → List Cut) → Chaining → Chaining → Type 0
AddsCuts made old new = (held : List Held) (admitted : List Admitted) → IsTold held admitted old → cuts_of admitted new.marks ≡ cuts_of admitted old.marks ++ made (drop (size_of old.marks) admitted)

abbrev pub cuts_with : Bool → List Admitted → List Cut
cuts_with last txs = record { txs = txs; last = last } ∷ []

abbrev pub last_cuts : List Admitted → List Cut
last_cuts txs = last_cut txs ∷ []

-- these are the transactions of the chain's cuts
abbrev pub AreCut : Chaining → List Digest → Type 0
AreCut c txs = (held : List Held) (admitted : List Admitted) → IsTold held admitted c → txs ≡ cut_digests (cuts_of admitted c.marks)

-- the chain has built the definition's checkpoints, and `done` counts the done transactions at the start
pub record IsBuilt (epoch : ℕ) (held : List Held) (executed : List Execution) (admitted : List Admitted) (c : Chaining) : Type 0 where
  pub told : IsTold held admitted c
  pub built : c.built ≡ chained epoch held executed c.past (cuts_of admitted c.marks)
  pub found : c.done ≡ front_length (is_done held executed) admitted

abbrev pub BuildsAll : ℕ → List Execution → Chaining → Type 0
BuildsAll epoch executed c = (held : List Held) (admitted : List Admitted) → IsTold held admitted c → IsBuilt epoch held executed admitted c

-- a certificate of each admitted transaction is held
abbrev pub AreHeld : List Held → List Admitted → Type 0
AreHeld held admitted = Each (λ (a : Admitted). is_some (held_of held a.digest) ≡ true) admitted

-- the digest of an admitted transaction that is not done
abbrev pub waiting_one : List Held → List Execution → Admitted → Option Digest
waiting_one held executed a = where_true (not (is_done held executed a)) a.digest

abbrev pub FindsFirst : Option Digest → Chaining → Type 0
FindsFirst answer c = (epoch : ℕ) (held : List Held) (executed : List Execution) (admitted : List Admitted) → IsBuilt epoch held executed admitted c → answer ≡ first_of (waiting_one held executed) admitted
