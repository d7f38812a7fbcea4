-- The maps are kept when a store opens, and after one more execution.
use Rattle.std.proofs.Common.{◌≡◌, ℕ, ◌+◌, true, false, List, [], ◌∷◌, ◌++◌, length, map, drop, refl, ap, sym, ◌∙◌, option_map, arith, subst}
use Rattle.std.specs.List.{list_any}
use Rattle.std.specs.Map.{lookup}
use Rattle.std.proofs.lemmas.List.{map-append, length-append, length-map}
use Rattle.std.proofs.Math.Seq.{take-length}
use Rattle.tables.proofs.Lookups.{goes_last}
use Rattle.chain_types.specs.declared.objects.Object.{Object}
use Rattle.chain_types.specs.declared.objects.ObjectKey.{ObjectKey}
use Rattle.chain_types.specs.declared.objects.Producer.TheVariants as producers
use Rattle.chain_types.specs.Equal.{digest_eq, id_eq, key_eq}
use Rattle.effects_core.specs.declared.effects.Effects.{Effects}
use Rattle.protocol_spec.specs.Member.Versions.{Execution, newest, is_deleted, consumer_of, is_executed}
use Rattle.version_store.specs.declared.maps.Maps.{Maps}
use Rattle.version_store.specs.declared.maps.Ran.{Ran}
use Rattle.version_store.specs.Stores.{Stored, are_new, executed_as, held_in, with_execution}
use Rattle.version_store.specs.Kept.{IsKept, kept_as, kept_object, stored, stored_as, written_in}
use Rattle.version_store.specs.Changes.{Adds, IsEmpty, Opens, SameEntries}
use Rattle.version_store.specs.Steps.{with_versions, with_all_newer}
use Rattle.version_store.proofs.Held.{made, new_go_last, objects_kept, objects_made, versions_more, versions_opened}
use Rattle.version_store.proofs.Newest.{newest_more, deleted_more, consumed_more}
use Rattle.version_store.proofs.Executions.{stored_more, has_ran, written_more}

-- ---- one more execution

abbrev pub ran_of : Effects → List Object → List ObjectKey → Ran
ran_of effects objects consumed = record { consumed = consumed; effects = effects; written = length objects }

module _ (opened : ℕ) (old new : Maps) (effects : Effects) (objects : List Object) (consumed : List ObjectKey) (kept : IsKept opened old) (adds : Adds old new effects objects consumed)
    (first : is_executed (stored opened old).executed effects.tx ≡ false) (fresh : are_new (held_in (stored opened old)) objects ≡ true) where
  abbrev before : Stored
  before = stored opened old

  abbrev x : Execution
  x = executed_as effects objects consumed

  -- the entries of the versions
  entries : new.versions.entries ≡ old.versions.entries ++ map kept_as (map (made (producers.Tx effects.tx)) objects)
  entries =
      adds.versions
      ∙ ap (λ es. with_versions (producers.Tx effects.tx) es objects) kept.versions
      ∙ new_go_last (producers.Tx effects.tx) (held_in before) objects fresh
      ∙ map-append kept_as (held_in before) (map (made (producers.Tx effects.tx)) objects)
      ∙ ap (λ es. es ++ map kept_as (map (made (producers.Tx effects.tx)) objects)) (sym kept.versions)

  objects_now : map kept_object new.versions.entries ≡ map kept_object old.versions.entries ++ objects
  objects_now =
      ap (map kept_object) entries
      ∙ map-append kept_object old.versions.entries (map kept_as (map (made (producers.Tx effects.tx)) objects))
      ∙ ap (λ os. map kept_object old.versions.entries ++ os) (objects_kept (map (made (producers.Tx effects.tx)) objects) ∙ objects_made (producers.Tx effects.tx) objects)

  ran_now : new.executed.entries ≡ old.executed.entries ++ (effects.tx, ran_of effects objects consumed) ∷ []
  ran_now =
      adds.executed
      ∙ goes_last digest_eq old.executed.entries effects.tx (ran_of effects objects consumed)
      (has_ran old.executed.entries (drop opened (map kept_object old.versions.entries)) effects.tx ∙ first)

  counted : opened + written_in old.executed.entries ≡ length (map kept_object old.versions.entries)
  counted = kept.counts ∙ sym (length-map old.versions.entries kept_object)

  pub stands : stored opened new ≡ with_execution before x
  stands =
      ap (λ os. stored_as opened os new.executed.entries) objects_now
      ∙ ap (λ rs. stored_as opened (map kept_object old.versions.entries ++ objects) rs) ran_now
      ∙ stored_more opened (map kept_object old.versions.entries) objects old.executed.entries effects.tx (ran_of effects objects consumed) counted refl

  held_now : held_in (stored opened new) ≡ held_in before ++ map (made (producers.Tx effects.tx)) objects
  held_now = ap held_in stands ∙ versions_more before.opening before.executed x

  pub keeps : IsKept opened new
  keeps = record {
    versions =
        entries
        ∙ ap (λ es. es ++ map kept_as (map (made (producers.Tx effects.tx)) objects)) kept.versions
        ∙ sym (map-append kept_as (held_in before) (map (made (producers.Tx effects.tx)) objects))
        ∙ ap (map kept_as) (sym held_now);
    newest = λ id.
        ap (lookup (id_eq id)) adds.newest
        ∙ newest_more objects old.newest.entries (held_in before) (producers.Tx effects.tx) kept.newest id
        ∙ ap (newest id) (sym held_now);
    deleted = λ id.
        ap (list_any (id_eq id)) adds.deleted
        ∙ deleted_more old.deleted.keys before.executed x kept.deleted id
        ∙ ap (λ (s : Stored). is_deleted s.executed id) (sym stands);
    consumers = λ key.
        ap (lookup (key_eq key)) adds.consumers
        ∙ consumed_more old.consumers.entries before.executed x kept.consumers key
        ∙ ap (λ (s : Stored). option_map (λ (y : Execution). y.digest) (consumer_of s.executed key)) (sym stands);
    counts =
        ap (λ rs. opened + written_in rs) ran_now
        ∙ grow
        ∙ sym (ap length entries);
  }
    where
      grow : opened + written_in (old.executed.entries ++ (effects.tx, ran_of effects objects consumed) ∷ []) ≡ length (old.versions.entries ++ map kept_as (map (made (producers.Tx effects.tx)) objects))
      grow =
          let sums : written_in (old.executed.entries ++ (effects.tx, ran_of effects objects consumed) ∷ []) ≡ written_in old.executed.entries + length objects =
          written_more old.executed.entries effects.tx (ran_of effects objects consumed) in
          let lengths : length (old.versions.entries ++ map kept_as (map (made (producers.Tx effects.tx)) objects)) ≡ length old.versions.entries + length objects =
          length-append old.versions.entries (map kept_as (map (made (producers.Tx effects.tx)) objects))
          ∙ ap (λ n. length old.versions.entries + n) (length-map (map (made (producers.Tx effects.tx)) objects) kept_as ∙ length-map objects (made (producers.Tx effects.tx))) in
          let known : opened + written_in old.executed.entries ≡ length old.versions.entries = kept.counts in
          grind arith

-- ---- the same entries

pub same_stored : (opened : ℕ) (old new : Maps) → SameEntries old new → stored opened new ≡ stored opened old
same_stored opened old new same = ap (λ es. stored_as opened (map kept_object es) new.executed.entries) same.versions ∙ ap (λ rs. stored_as opened (map kept_object old.versions.entries) rs) same.executed

pub same_kept : (opened : ℕ) (old new : Maps) → SameEntries old new → IsKept opened old → IsKept opened new
same_kept opened old new same kept = record {
  versions = same.versions ∙ kept.versions ∙ ap (λ s. map kept_as (held_in s)) (sym (same_stored opened old new same));
  newest = λ id. ap (lookup (id_eq id)) same.newest ∙ kept.newest id ∙ ap (λ s. newest id (held_in s)) (sym (same_stored opened old new same));
  deleted = λ id. ap (list_any (id_eq id)) same.deleted ∙ kept.deleted id ∙ ap (λ (s : Stored). is_deleted s.executed id) (sym (same_stored opened old new same));
  consumers = λ key.
      ap (lookup (key_eq key)) same.consumers ∙ kept.consumers key
      ∙ ap (λ (s : Stored). option_map (λ (y : Execution). y.digest) (consumer_of s.executed key)) (sym (same_stored opened old new same));
  counts = ap (λ rs. opened + written_in rs) same.executed ∙ kept.counts ∙ sym (ap length same.versions);
}

-- ---- what the calls of a store rest on

-- after an execution that was made room for
pub written : {opened : ℕ} {old mid new : Maps} {s : Stored} {effects : Effects} {objects slice : List Object} {consumed copy : List ObjectKey}
    → IsKept opened old → stored opened old ≡ s → SameEntries old mid → Adds mid new effects slice copy → slice ≡ objects → copy ≡ consumed
    → is_executed s.executed effects.tx ≡ false → are_new (held_in s) objects ≡ true
    → IsKept opened new × (stored opened new ≡ with_execution s (executed_as effects objects consumed))
written {opened} {old} {mid} {new} {s} {effects} {objects} {slice} {consumed} {copy} kept view same adds os ks first fresh =
    let kept_mid : IsKept opened mid = same_kept opened old mid same kept in
    let at : stored opened mid ≡ s = same_stored opened old mid same ∙ view in
    let first_mid : is_executed (stored opened mid).executed effects.tx ≡ false = ap (λ (t : Stored). is_executed t.executed effects.tx) at ∙ first in
    let fresh_mid : are_new (held_in (stored opened mid)) slice ≡ true = ap (λ t. are_new (held_in t) slice) at ∙ ap (are_new (held_in s)) os ∙ fresh in (
      keeps opened mid new effects slice copy kept_mid adds first_mid fresh_mid,
      stands opened mid new effects slice copy kept_mid adds first_mid fresh_mid
          ∙ ap (λ t. with_execution t (executed_as effects slice copy)) at
          ∙ ap (λ xs. with_execution s (executed_as effects xs copy)) os
          ∙ ap (λ xs. with_execution s (executed_as effects objects xs)) ks,
    )

-- ---- a store that opens

abbrev pub opening_of : List Object → Stored
opening_of objects = record { opening = objects; executed = [] }

module _ (maps : Maps) (objects : List Object) (versions_are : maps.versions.entries ≡ with_versions producers.Opening [] objects) (newest_is : maps.newest.entries ≡ with_all_newer [] objects)
    (no_executed : maps.executed.entries ≡ []) (no_consumers : maps.consumers.entries ≡ []) (no_deleted : maps.deleted.keys ≡ []) (fresh : are_new [] objects ≡ true) where
  entries_opened : maps.versions.entries ≡ map kept_as (map (made producers.Opening) objects)
  entries_opened = versions_are ∙ new_go_last producers.Opening [] objects fresh

  objects_opened : map kept_object maps.versions.entries ≡ objects
  objects_opened = ap (map kept_object) entries_opened ∙ objects_kept (map (made producers.Opening) objects) ∙ objects_made producers.Opening objects

  stands_opened : stored (length objects) maps ≡ opening_of objects
  stands_opened =
      ap (λ os. stored_as (length objects) os maps.executed.entries) objects_opened
      ∙ ap (stored_as (length objects) objects) no_executed
      ∙ ap (λ os. let s : Stored = record { opening = os; executed = [] } in s) (take-length objects)

  held_opened : held_in (stored (length objects) maps) ≡ map (made producers.Opening) objects
  held_opened = ap held_in stands_opened ∙ versions_opened objects

  keeps_opened : IsKept (length objects) maps
  keeps_opened = record {
    versions = entries_opened ∙ ap (map kept_as) (sym held_opened);
    newest = λ id. ap (lookup (id_eq id)) newest_is ∙ newest_more objects [] [] producers.Opening (λ i. refl) id ∙ ap (newest id) (sym held_opened);
    deleted = λ id. ap (list_any (id_eq id)) no_deleted ∙ ap (λ (s : Stored). is_deleted s.executed id) (sym stands_opened);
    consumers = λ key. ap (lookup (key_eq key)) no_consumers ∙ ap (λ (s : Stored). option_map (λ (y : Execution). y.digest) (consumer_of s.executed key)) (sym stands_opened);
    counts = ap (λ rs. length objects + written_in rs) no_executed ∙ count;
  }
    where
      count : length objects + 0 ≡ length maps.versions.entries
      count =
          let lengths : length maps.versions.entries ≡ length objects =
          ap length entries_opened ∙ length-map (map (made producers.Opening) objects) kept_as ∙ length-map objects (made producers.Opening) in
          grind arith

pub opens : {n : ℕ} {maps : Maps} {objects : List Object} → Opens maps objects → n ≡ length objects → are_new [] objects ≡ true → IsKept n maps × (stored n maps ≡ opening_of objects)
opens {n} {maps} {objects} o count fresh = (
  subst (λ k. IsKept k maps) (sym count) (keeps_opened maps objects o.versions o.newest o.executed o.consumers o.deleted fresh),
  ap (λ k. stored k maps) count ∙ stands_opened maps objects o.versions o.newest o.executed o.consumers o.deleted fresh,
)

-- maps that hold nothing
pub kept_empty : (maps : Maps) → IsEmpty maps → IsKept 0 maps
kept_empty maps empty = keeps_opened maps [] empty.versions empty.newest empty.executed empty.consumers empty.deleted refl

pub stored_empty : (maps : Maps) → IsEmpty maps → stored 0 maps ≡ opening_of []
stored_empty maps empty = stands_opened maps [] empty.versions empty.newest empty.executed empty.consumers empty.deleted refl
