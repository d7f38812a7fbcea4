-- What a member opened its epoch with. Source: Sui Lutris.
use Rattle.std.specs.Prelude.{List}
use Rattle.chain_types.specs.declared.objects.Object.{Object}
use Rattle.protocol_spec.specs.Member.Member.{Member}
use Rattle.version_store.specs.Openings.{ascending}

-- the objects with which its present epoch opened, by ascending id
abbrev pub opening_objects : Member → List Object
opening_objects m = ascending m.opening
