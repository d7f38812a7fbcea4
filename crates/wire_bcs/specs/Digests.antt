-- Digests on the wire: their 32 bytes, with no length.
use Rattle.std.specs.Prelude.{refl}
use Rattle.digest_core.specs.declared.Digest.{Digest}
use Rattle.wire_bcs.specs.Codec.{Codec}
use Rattle.wire_bcs.specs.Items.{fixed}
use Rattle.wire_bcs.specs.Shapes.{by}

unfoldable pub digest : Codec Digest
digest = by (λ d. d.0) (λ bytes. record { 0 = bytes }) (λ _. refl) (λ _. refl) (fixed 32)
