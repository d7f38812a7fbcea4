-- The checkpoints that a member has built. Source: Sui Lutris.
use Rattle.std.specs.Prelude.{ℕ, Bool, false, ◌&&◌, List, [], ◌∷◌, ◌++◌, map, find, length, replicate, Option, Some, None, if◌then◌else◌}
use Rattle.std.specs.List.{list_all, list_any}
use Rattle.digest_core.specs.declared.Digest.{Digest}
use Rattle.checkpoint_core.specs.declared.checkpoints.Item.{Item}
use Rattle.checkpoint_core.specs.declared.checkpoints.Checkpoint.{Checkpoint}
use Rattle.protocol_spec.specs.declared.answers.Held.{Held}
use Rattle.chain_types.specs.Equal.{digest_eq}
use Rattle.effects_core.specs.Effects.{digest_of_effects}
use Rattle.checkpoint_core.specs.Checkpoints.{digest_of_checkpoint}
use Rattle.protocol_spec.specs.Chain.Words.{last_of}
use Rattle.protocol_spec.specs.Chain.Tests.{origins_eq}
use Rattle.protocol_spec.specs.Member.Versions.{Execution, execution_of, is_executed}
use Rattle.protocol_spec.specs.Member.Admission.{Admitted}
use Rattle.protocol_spec.specs.Member.Sequence.{Cut}

abbrev pub names_same_origins : Option Held → Admitted → Bool
names_same_origins None a = false
names_same_origins (Some h) a = origins_eq h.cert.origins a.cert.origins

abbrev pub held_of : List Held → Digest → Option Held
held_of held tx = find (λ (h : Held). digest_eq h.digest tx) held

-- the transaction was executed here, and the held certificate names the origins with which it was admitted
abbrev pub is_done : List Held → List Execution → Admitted → Bool
is_done held executed a = is_executed executed a.digest && names_same_origins (held_of held a.digest) a

abbrev pub zero_digest : Digest
zero_digest = record { 0 = replicate 32 0 }

abbrev pub effects_digest_of : Option Execution → Digest
effects_digest_of None = zero_digest
effects_digest_of (Some x) = digest_of_effects x.gave.effects

abbrev pub item_of : List Execution → Admitted → Item
item_of executed a = record { tx = a.digest; effects = effects_digest_of (execution_of executed a.digest) }

abbrev pub digest_before : Option Checkpoint → Digest
digest_before None = zero_digest
digest_before (Some c) = digest_of_checkpoint c

-- the checkpoint of a cut, after those before it: numbers go on, and the parent is the one before
unfoldable pub checkpoint_behind : ℕ → List Execution → List Checkpoint → Cut → Checkpoint
checkpoint_behind epoch executed before c = record {
  epoch = epoch;
  number = length before;
  parent = digest_before (last_of before);
  items = map (item_of executed) c.txs;
  last = c.last;
}

-- the checkpoints of these cuts, up to the first that is not done
abbrev pub chained : ℕ → List Held → List Execution → List Checkpoint → List Cut → List Checkpoint
chained epoch held executed before [] = before
chained epoch held executed before (c ∷ cs) =
    if list_all (is_done held executed) c.txs
    then chained epoch held executed (before ++ checkpoint_behind epoch executed before c ∷ []) cs
    else before

-- the transactions in the checkpoints of an epoch
abbrev pub cut_digests : List Cut → List Digest
cut_digests [] = []
cut_digests (c ∷ cs) = map (λ (a : Admitted). a.digest) c.txs ++ cut_digests cs

abbrev pub is_cut : List Cut → Digest → Bool
is_cut cuts tx = list_any (digest_eq tx) (cut_digests cuts)
