-- How often versions are consumed by the transactions of certificates.
use Rattle.std.specs.Prelude.{Bool, false, List, fold, is_some, Option, Some, None}
use Rattle.std.specs.List.{list_any}
use Rattle.std.specs.Map.{lookup}
use Rattle.indexmap.specs.IndexMap.{insert_entry}
use Rattle.chain_types.specs.declared.objects.ObjectKey.{ObjectKey}
use Rattle.chain_types.specs.Digests.{consumed_keys}
use Rattle.chain_types.specs.Equal.{key_eq}
use Rattle.chain_messages.specs.declared.messages.Certificate.{Certificate}

-- each consumed version, with whether it is consumed more than once
abbrev pub Uses : Type 0
Uses = List (ObjectKey × Bool)

abbrev pub use_of : Uses → ObjectKey → Option Bool
use_of uses key = lookup (key_eq key) uses

abbrev pub is_more : Option Bool → Bool
is_more None = false
is_more (Some more) = more

abbrev pub is_shared : Uses → ObjectKey → Bool
is_shared uses key = is_more (use_of uses key)

-- the uses with one more of this version
abbrev pub with_use : Uses → ObjectKey → Uses
with_use uses key = insert_entry key_eq uses key (is_some (use_of uses key))

abbrev pub with_uses : Uses → List ObjectKey → Uses
with_uses uses keys = fold with_use uses keys

abbrev pub with_cert : Uses → Certificate → Uses
with_cert uses c = with_uses uses (consumed_keys c.tx)

-- whether a certificate's transaction consumes a version that is consumed more than once
abbrev pub is_suspect : Uses → Certificate → Bool
is_suspect uses c = list_any (is_shared uses) (consumed_keys c.tx)
