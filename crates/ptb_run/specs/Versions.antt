-- The greatest version among objects.
use Rattle.std.specs.Prelude.{ℕ, max, List, fold, map}
use Rattle.chain_types.specs.declared.objects.Object.{Object}

abbrev pub version_in : Object → ℕ
version_in o = o.version

abbrev pub greatest_version : List Object → ℕ
greatest_version objects = fold max 0 (map version_in objects)
