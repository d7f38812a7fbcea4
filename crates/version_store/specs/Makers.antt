-- What the map has under a key, if a certain producer made it.
use Rattle.std.specs.Prelude.{Option, Some, None, if◌then◌else◌}
use Rattle.chain_types.specs.declared.objects.Object.{Object}
use Rattle.chain_types.specs.declared.objects.Producer.{Producer}
use Rattle.protocol_spec.specs.Chain.Tests.{producer_eq}
use Rattle.version_store.specs.declared.maps.Kept.{Kept}

abbrev pub made_by : Producer → Option Kept → Option Object
made_by p None = None
made_by p (Some kept) = if producer_eq kept.producer p then Some kept.object else None
