-- Checkpoints on the wire (BCS), and their digests (this profile).
use Rattle.std.specs.Prelude.{ℕ, List, length, sum_by, refl}
use Rattle.digest_core.specs.declared.Digest.{Digest}
use Rattle.digest_core.specs.Tagged.{checkpoint_tag, tagged_digest}
use Rattle.wire_bcs.specs.Codec.{Codec}
use Rattle.wire_bcs.specs.Items.{number, bool_codec}
use Rattle.wire_bcs.specs.Shapes.{pair, by, seq}
use Rattle.wire_bcs.specs.Digests.{digest}
use Rattle.checkpoint_core.specs.declared.checkpoints.Item.{Item}
use Rattle.checkpoint_core.specs.declared.checkpoints.Checkpoint.{Checkpoint}

-- tx digest, effects digest
unfoldable pub item : Codec Item
item = by (λ i. (i.tx, i.effects)) (λ p. record { tx = p.0; effects = p.1 }) (λ _. refl) (λ _. refl) (pair digest digest)

-- epoch, number, parent digest, items, last
unfoldable pub checkpoint : Codec Checkpoint
checkpoint = by (λ c. (c.epoch, (c.number, (c.parent, (c.items, c.last)))))
    (λ p. record { epoch = p.0; number = p.1.0; parent = p.1.1.0; items = p.1.1.1.0; last = p.1.1.1.1 }) (λ _. refl) (λ _. refl)
    (pair (number 8) (pair (number 8) (pair digest (pair (seq item) bool_codec))))

-- the digest of a checkpoint
unfoldable pub digest_of_checkpoint : Checkpoint → Digest
digest_of_checkpoint c = tagged_digest checkpoint_tag (checkpoint.spell c)

-- how many transactions stand in these checkpoints
abbrev pub transactions_in : List Checkpoint → ℕ
transactions_in checkpoints = sum_by (λ (c : Checkpoint). length c.items) checkpoints
