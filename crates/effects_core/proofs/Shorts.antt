-- Effects can be encoded exactly if their lists are short.
use Rattle.std.proofs.Common.{◌<◌, length}
use Rattle.wire_bcs.specs.Digests.{digest}
use Rattle.wire_bcs.specs.Items.{length_limit}
use Rattle.chain_types.specs.declared.objects.Owner.{Owner}
use Rattle.chain_types.specs.declared.objects.Owner.TheVariants as owners
use Rattle.chain_types.specs.Objects.{address, object_id, owner}
use Rattle.effects_core.specs.declared.effects.Effects.{Effects}
use Rattle.effects_core.specs.declared.effects.Status.{Status}
use Rattle.effects_core.specs.declared.effects.Status.TheVariants as statuses
use Rattle.effects_core.specs.Effects as codecs

owner_short : (o : Owner) → owner.short o
unfolding owner address digest
owner_short (owners.Address a) = tt
owner_short (owners.Shared initial) = tt
owner_short owners.Immutable = tt

status_short : (s : Status) → codecs.status.short s
unfolding codecs.status
status_short statuses.Done = tt
status_short (statuses.Failed command cause) = (tt, tt)
status_short (statuses.Aborted command code) = (tt, tt)

pub effects_short : (e : Effects) → length e.written < length_limit → length e.deleted < length_limit → codecs.effects.short e
unfolding codecs.effects codecs.written object_id digest
effects_short e written deleted = (tt, (status_short e.status, (tt, (tt, (tt, ((written, λ k d l. (tt, (owner_short _, tt))), (deleted, λ k d l. tt)))))))

pub short_written : (e : Effects) → codecs.effects.short e → length e.written < length_limit
unfolding codecs.effects
short_written e short = short.1.1.1.1.1.0.0

pub short_deleted : (e : Effects) → codecs.effects.short e → length e.deleted < length_limit
unfolding codecs.effects
short_deleted e short = short.1.1.1.1.1.1.0
