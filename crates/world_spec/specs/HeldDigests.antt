-- The digests of versions that the members of a world hold.
use Rattle.std.specs.Prelude.{Option}
use Rattle.digest_core.specs.declared.Digest.{Digest}
use Rattle.chain_types.specs.declared.objects.ObjectKey.{ObjectKey}
use Rattle.world_spec.specs.Setting.{Setting}
use Rattle.world_spec.specs.World.{Seating, World, WorldOf, by_records, says_over}
use Rattle.world_spec.specs.Making.{held_digest}

-- the digest of the version at the lowest-numbered honest member that is up and holds it
abbrev pub held_over : {S : Type 0} → Seating S → WorldOf S → ObjectKey → Option Digest
held_over k w key = says_over k (held_digest key) w.seats

abbrev pub held_in : Setting → World → ObjectKey → Option Digest
held_in s w key = held_over (by_records s) w key
