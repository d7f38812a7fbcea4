-- Chains on the wire (BCS).
use Rattle.std.specs.Prelude.{refl, List}
use Rattle.wire_bcs.specs.Codec.{Codec}
use Rattle.protocol_spec.specs.Chain.Words.{Each}
use Rattle.wire_bcs.specs.Shapes.{pair, by, seq}
use Rattle.chain_messages.specs.Messages.{member_seal}
use Rattle.checkpoint_core.specs.declared.checkpoints.Checkpoint.{Checkpoint}
use Rattle.checkpoint_core.specs.Checkpoints.{checkpoint}
use Rattle.light_check.specs.declared.chain.Link.{Link}
use Rattle.light_check.specs.declared.chain.Chain.{Chain}

-- checkpoint, seals
unfoldable pub link : Codec Link
link = by (λ l. (l.checkpoint, l.seals)) (λ p. record { checkpoint = p.0; seals = p.1 }) (λ _. refl) (λ _. refl) (pair checkpoint (seq member_seal))

-- links
unfoldable pub chain : Codec Chain
chain = by (λ c. c.links) (λ links. record { links = links }) (λ _. refl) (λ _. refl) (seq link)

-- checkpoints in order
unfoldable pub checkpoints : Codec (List Checkpoint)
checkpoints = seq checkpoint

-- each link can be encoded
abbrev pub AllShort : List Link → Type 0
AllShort links = Each link.short links
