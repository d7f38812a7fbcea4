-- What the maps of a store have room for, and how an execution changes them.
use Rattle.std.specs.Prelude.{◌≡◌, ◌≤◌, ℕ, List, [], length, filter}
use Rattle.indexmap.specs.IndexMap.{insert_entry, spare, values}
use Rattle.indexmap.specs.IndexSet.{insert_all, spare as set_spare}
use Rattle.digest_core.specs.declared.Digest.{Digest}
use Rattle.chain_types.specs.declared.objects.Object.{Object}
use Rattle.chain_types.specs.declared.objects.ObjectKey.{ObjectKey}
use Rattle.chain_types.specs.declared.objects.Producer.{Producer}
use Rattle.chain_types.specs.declared.objects.Producer.TheVariants as producers
use Rattle.chain_types.specs.Equal.{digest_eq, id_eq}
use Rattle.effects_core.specs.declared.effects.Effects.{Effects}
use Rattle.version_store.specs.declared.maps.Maps.{Maps}
use Rattle.version_store.specs.Steps.{with_all_newer, with_consumers, with_versions}
use Rattle.version_store.specs.Reverts.{consumers_staying, deleted_staying, newest_staying, ran_stays, version_stays}

-- maps that hold nothing
pub record IsEmpty (maps : Maps) : Type 0 where
  pub versions : maps.versions.entries ≡ []
  pub executed : maps.executed.entries ≡ []
  pub consumers : maps.consumers.entries ≡ []
  pub newest : maps.newest.entries ≡ []
  pub deleted : maps.deleted.keys ≡ []

-- nothing was added or lost
pub record SameEntries (old new : Maps) : Type 0 where
  pub versions : new.versions.entries ≡ old.versions.entries
  pub executed : new.executed.entries ≡ old.executed.entries
  pub consumers : new.consumers.entries ≡ old.consumers.entries
  pub newest : new.newest.entries ≡ old.newest.entries
  pub deleted : new.deleted.keys ≡ old.deleted.keys

-- room for an execution that writes, consumes and deletes this many
pub record HasRoom (maps : Maps) (written consumed deleted : ℕ) : Type 0 where
  pub for_versions : written ≤ spare maps.versions
  pub for_newest : written ≤ spare maps.newest
  pub for_consumers : consumed ≤ spare maps.consumers
  pub for_deleted : deleted ≤ set_spare maps.deleted
  pub for_execution : 1 ≤ spare maps.executed

-- the epoch opens with these objects, and did nothing yet
pub record Opens (maps : Maps) (objects : List Object) : Type 0 where
  pub versions : maps.versions.entries ≡ with_versions producers.Opening [] objects
  pub newest : maps.newest.entries ≡ with_all_newer [] objects
  pub executed : maps.executed.entries ≡ []
  pub consumers : maps.consumers.entries ≡ []
  pub deleted : maps.deleted.keys ≡ []

-- these objects, which this producer made, were added to the versions and to the newest of their ids
pub record Holds (old new : Maps) (producer : Producer) (objects : List Object) : Type 0 where
  pub versions : new.versions.entries ≡ with_versions producer old.versions.entries objects
  pub newest : new.newest.entries ≡ with_all_newer old.newest.entries objects
  pub executed : new.executed ≡ old.executed
  pub consumers : new.consumers ≡ old.consumers
  pub deleted : new.deleted ≡ old.deleted

-- one execution was added: what it wrote, consumed and deleted, and its effects
pub record Adds (old new : Maps) (effects : Effects) (objects : List Object) (consumed : List ObjectKey) : Type 0 where
  pub versions : new.versions.entries ≡ with_versions (producers.Tx effects.tx) old.versions.entries objects
  pub newest : new.newest.entries ≡ with_all_newer old.newest.entries objects
  pub deleted : new.deleted.keys ≡ insert_all id_eq old.deleted.keys effects.deleted
  pub consumers : new.consumers.entries ≡ with_consumers effects.tx old.consumers.entries consumed
  pub executed : new.executed.entries ≡ insert_entry digest_eq old.executed.entries effects.tx (record { consumed = consumed; effects = effects; written = length objects })

-- what the transactions that are not kept did was taken out of every map
pub record Keeps (old new : Maps) (kept : List Digest) : Type 0 where
  pub versions : new.versions.entries ≡ filter (version_stays kept) old.versions.entries
  pub executed : new.executed.entries ≡ filter (ran_stays kept) old.executed.entries
  pub newest : new.newest.entries ≡ newest_staying kept [] (values old.versions)
  pub consumers : new.consumers.entries ≡ consumers_staying kept [] old.executed.entries
  pub deleted : new.deleted.keys ≡ deleted_staying kept [] old.executed.entries
