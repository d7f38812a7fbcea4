-- One checkpoint more.
use Rattle.std.proofs.Common.{◌≡◌, ◌∙◌, refl, sym, ap, suc, List, [], ◌∷◌, ◌++◌, Option, Some, None, option_map, length, append_assoc, append-nil}
use Rattle.std.specs.Prelude.{map}
use Rattle.digest_core.specs.declared.Digest.{Digest}
use Rattle.effects_core.specs.Effects.{digest_of_effects}
use Rattle.checkpoint_core.specs.declared.checkpoints.Item.{Item}
use Rattle.protocol_spec.specs.Member.Versions.{Execution}
use Rattle.protocol_spec.specs.Member.Checkpoints.{effects_digest_of, zero_digest}
use Rattle.epoch_turn.specs.declared.due.Due.{Due}
use Rattle.epoch_turn.specs.Dues.{due_item}
use Rattle.epoch_turn.specs.Kept.{items_after}

abbrev pub digest_in : Option Execution → Option Digest
digest_in x = option_map (λ (y : Execution). digest_of_effects y.gave.effects) x

pub digest_known : (x : Option Execution) (d : Digest) → Some d ≡ digest_in x → effects_digest_of x ≡ d
digest_known None d is = absurd (cc)
digest_known (Some x) d is = sym (cc is)

pub digest_unknown : (x : Option Execution) → None ≡ digest_in x → effects_digest_of x ≡ zero_digest
digest_unknown None is = refl
digest_unknown (Some x) is = absurd (cc)

items_behind : (executed : List Execution) (items : List Item) (txs : List Due) → items_after executed items txs ≡ items ++ map (due_item executed) txs
items_behind executed items [] = sym (append-nil items)
items_behind executed items (d ∷ ds) = items_behind executed (items ++ due_item executed d ∷ []) ds ∙ append_assoc items (due_item executed d ∷ []) (map (due_item executed) ds)

pub items_all : (executed : List Execution) (txs : List Due) → items_after executed [] txs ≡ map (due_item executed) txs
items_all executed txs = items_behind executed [] txs

pub items_many : (executed : List Execution) (txs : List Due) → length (map (due_item executed) txs) ≡ length txs
items_many executed [] = refl
items_many executed (d ∷ ds) = ap suc (items_many executed ds)
