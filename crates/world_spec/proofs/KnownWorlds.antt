-- Names in a world are those of what is known in it.
use Rattle.std.proofs.Common.{◌≡◌, refl, List}
use Rattle.digest_core.specs.declared.Digest.{Digest}
use Rattle.chain_types.specs.declared.objects.Address.{Address}
use Rattle.chain_types.specs.declared.objects.Object.{Object}
use Rattle.chain_types.specs.declared.objects.ObjectId.{ObjectId}
use Rattle.chain_types.specs.declared.objects.ObjectKey.{ObjectKey}
use Rattle.world_spec.specs.Setting.{Name, Setting}
use Rattle.world_spec.specs.World.{Made, World}
use Rattle.world_spec.specs.Names.{address_name, key_name, made_named, object_name, shown_order, tx_name}
use Rattle.world_spec.specs.Making.{TxLine, digest_named, with_made}
use Rattle.world_spec.specs.Known.{names_of, setting_with, with_line, world_with}

module _ (s : Setting) (w : World) where
  pub made_as_known : (name : Name) → made_named w name ≡ made_named (world_with (names_of s w)) name
  made_as_known name = refl

  pub digest_as_known : (name : Name) → digest_named w name ≡ digest_named (world_with (names_of s w)) name
  digest_as_known name = refl

  pub tx_as_known : (tx : Digest) → tx_name w tx ≡ tx_name (world_with (names_of s w)) tx
  tx_as_known tx = refl

  pub address_as_known : (a : Address) → address_name w a ≡ address_name (world_with (names_of s w)) a
  address_as_known a = refl

  pub object_as_known : (id : ObjectId) → object_name s w id ≡ object_name (setting_with (names_of s w)) (world_with (names_of s w)) id
  object_as_known id = refl

  pub key_as_known : (key : ObjectKey) → key_name s w key ≡ key_name (setting_with (names_of s w)) (world_with (names_of s w)) key
  key_as_known key = refl

  pub order_as_known : (objects : List Object) → shown_order s w objects ≡ shown_order (setting_with (names_of s w)) (world_with (names_of s w)) objects
  order_as_known objects = refl

  -- what is known after a line
  pub line_as_known : (l : TxLine) (t : Made) → names_of s (with_made w l t) ≡ with_line (names_of s w) l t
  line_as_known l t = refl
