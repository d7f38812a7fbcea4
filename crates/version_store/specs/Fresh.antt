-- Whether written objects are new versions, as the code finds it.
use Rattle.std.specs.Prelude.{Bool, true, false, ◌||◌, List, [], ◌∷◌, ◌++◌, if◌then◌else◌}
use Rattle.chain_types.specs.declared.objects.Object.{Object}
use Rattle.chain_types.specs.declared.objects.ObjectKey.{ObjectKey}
use Rattle.protocol_spec.specs.Chain.Tests.{has_key}
use Rattle.protocol_spec.specs.Chain.Keys.{object_key}
use Rattle.protocol_spec.specs.Member.Versions.{Version}
use Rattle.protocol_spec.specs.Member.Rounds.{holds_key}

-- each of these objects is a version that is neither held nor in `seen`, nor that of an object before it
abbrev pub all_fresh : List Version → List ObjectKey → List Object → Bool
all_fresh held seen [] = true
all_fresh held seen (o ∷ os) =
    if holds_key held (object_key o) || has_key seen (object_key o)
    then false
    else all_fresh held (seen ++ object_key o ∷ []) os
