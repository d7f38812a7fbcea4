-- A transaction in a chain. Source: this profile.
use Rattle.std.specs.Prelude.{ℕ, List, Option, find, bytes_eq, option_map}
use Rattle.digest_core.specs.declared.Digest.{Digest}
use Rattle.checkpoint_core.specs.declared.checkpoints.Item.{Item}
use Rattle.protocol_spec.specs.Chain.Words.{first_of}
use Rattle.light_check.specs.declared.chain.Link.{Link}

abbrev pub item_with : Digest → List Item → Option Item
item_with tx items = find (λ (i : Item). bytes_eq i.tx.0 tx.0) items

abbrev pub found_in : Digest → Link → Option (ℕ × Digest)
found_in tx l = option_map (λ (i : Item). (l.checkpoint.number, i.effects)) (item_with tx l.checkpoint.items)

-- the number of the first checkpoint that lists the transaction, and the digest of its effects there
unfoldable pub found : Digest → List Link → Option (ℕ × Digest)
found tx links = first_of (found_in tx) links
