-- The maps are kept if executed transactions are undone.
use Rattle.std.proofs.Common.{◌≡◌, ℕ, ◌+◌, ◌-◌, ◌≤◌, Bool, true, false, cond, not, List, [], ◌∷◌, ◌++◌, Option, length, map, take, drop, refl, ap, sym, ◌∙◌, option_map, append_assoc, append-nil, arith}
use Rattle.std.specs.Prelude.{filter, flat_map, ◌==◌}
use Rattle.std.proofs.lemmas.Bool.Decides.{Decides-eqb}
use Rattle.std.specs.List.{list_any}
use Rattle.std.specs.Map.{lookup}
use Rattle.std.proofs.lemmas.List.{length-append, length-drop, length-map, length-take-le}
use Rattle.std.proofs.lemmas.List.Elements.{filter-append}
use Rattle.std.proofs.Math.Path.{fun_ext}
use Rattle.std.proofs.Math.Seq.{take-append_seam, drop-append_seam}
use Rattle.indexmap.specs.IndexSet.{insert_all}
use Rattle.digest_core.specs.declared.Digest.{Digest}
use Rattle.chain_types.specs.declared.objects.Object.{Object}
use Rattle.chain_types.specs.declared.objects.ObjectId.{ObjectId}
use Rattle.chain_types.specs.declared.objects.ObjectKey.{ObjectKey}
use Rattle.chain_types.specs.Equal.{digest_eq, id_eq, key_eq}
use Rattle.protocol_spec.proofs.Equality.{digest_same}
use Rattle.protocol_spec.specs.Member.Versions.{Execution, Version, versions, opened, written, written_by, newest, is_deleted, consumer_of, object_in}
use Rattle.version_store.specs.declared.maps.Kept.{Kept}
use Rattle.version_store.specs.declared.maps.Maps.{Maps}
use Rattle.version_store.specs.declared.maps.Ran.{Ran}
use Rattle.version_store.specs.Stores.{Stored, held_in}
use Rattle.version_store.specs.Kept.{IsKept, kept_as, kept_object, ran_as, stored, stored_as, executions, written_in}
use Rattle.version_store.specs.Steps.{with_consumers, with_newer}
use Rattle.version_store.specs.Changes.{Keeps}
use Rattle.version_store.specs.Reverts.{consumers_staying, deleted_staying, is_among, is_kept, newest_staying, ran_stays, reverted_to, stays, undone, version_stays}
use Rattle.version_store.proofs.Held.{kept_of, objects_kept}
use Rattle.version_store.proofs.Lists.{any_insert_all}
use Rattle.version_store.proofs.Newest.{newest_step, deleted_more, consumed_more}

-- ---- the versions that stay

abbrev stays_of : List Digest → Version → Bool
stays_of kept v = stays kept v.producer

filter_kept : (kept : List Digest) (held : List Version) → filter (version_stays kept) (map kept_as held) ≡ map kept_as (filter (stays_of kept) held)
filter_kept kept [] = refl
filter_kept kept (v ∷ vs) = by (stays_of kept v) (filter_kept kept vs)
  where
    by : (b : Bool) → filter (version_stays kept) (map kept_as vs) ≡ map kept_as (filter (stays_of kept) vs)
        → cond b (kept_as v ∷ filter (version_stays kept) (map kept_as vs)) (filter (version_stays kept) (map kept_as vs)) ≡ map kept_as (cond b (v ∷ filter (stays_of kept) vs) (filter (stays_of kept) vs))
    by true more = ap (λ es. kept_as v ∷ es) more
    by false more = more

opened_stay : (kept : List Digest) (objects : List Object) → filter (stays_of kept) (map opened objects) ≡ map opened objects
opened_stay kept [] = refl
opened_stay kept (o ∷ os) = ap (λ vs. opened o ∷ vs) (opened_stay kept os)

written_stay : (kept : List Digest) (tx : Digest) (objects : List Object) → filter (stays_of kept) (map (written tx) objects) ≡ cond (is_among kept tx) (map (written tx) objects) []
written_stay kept tx [] = by (is_among kept tx)
  where
    by : (b : Bool) → [] ≡ cond b (map (written tx) []) []
    by true = refl
    by false = refl
written_stay kept tx (o ∷ os) = by (is_among kept tx) (written_stay kept tx os)
  where
    by : (b : Bool) → filter (stays_of kept) (map (written tx) os) ≡ cond b (map (written tx) os) []
        → cond b (written tx o ∷ filter (stays_of kept) (map (written tx) os)) (filter (stays_of kept) (map (written tx) os)) ≡ cond b (written tx o ∷ map (written tx) os) []
    by true more = ap (λ vs. written tx o ∷ vs) more
    by false more = more

executed_stay : (kept : List Digest) (executed : List Execution) → filter (stays_of kept) (flat_map written_by executed) ≡ flat_map written_by (filter (is_kept kept) executed)
executed_stay kept [] = refl
executed_stay kept (x ∷ xs) =
    filter-append (stays_of kept) (written_by x) (flat_map written_by xs)
    ∙ ap (λ vs. vs ++ filter (stays_of kept) (flat_map written_by xs)) (written_stay kept x.digest x.gave.objects)
    ∙ by (is_kept kept x) (executed_stay kept xs)
  where
    by : (b : Bool) → filter (stays_of kept) (flat_map written_by xs) ≡ flat_map written_by (filter (is_kept kept) xs)
        → cond b (written_by x) [] ++ filter (stays_of kept) (flat_map written_by xs) ≡ flat_map written_by (cond b (x ∷ filter (is_kept kept) xs) (filter (is_kept kept) xs))
    by true more = ap (λ vs. written_by x ++ vs) more
    by false more = more

-- of all versions those stay that the store holds after it
versions_stay : (kept : List Digest) (opening : List Object) (executed : List Execution) → filter (stays_of kept) (versions opening executed) ≡ versions opening (filter (is_kept kept) executed)
unfolding versions
versions_stay kept opening executed =
    filter-append (stays_of kept) (map opened opening) (flat_map written_by executed)
    ∙ ap (λ vs. vs ++ filter (stays_of kept) (flat_map written_by executed)) (opened_stay kept opening)
    ∙ ap (λ vs. map opened opening ++ vs) (executed_stay kept executed)

-- ---- the executions that stay

abbrev objects_of : List Execution → List Object
objects_of executed = flat_map (λ (x : Execution). x.gave.objects) executed

objects_written : (tx : Digest) (objects : List Object) (more : List Version) → map object_in (map (written tx) objects ++ more) ≡ objects ++ map object_in more
objects_written tx [] more = refl
objects_written tx (o ∷ os) more = ap (λ xs. o ∷ xs) (objects_written tx os more)

objects_executed : (executed : List Execution) → map object_in (flat_map written_by executed) ≡ objects_of executed
objects_executed [] = refl
objects_executed (x ∷ xs) = objects_written x.digest x.gave.objects (flat_map written_by xs) ∙ ap (λ os. x.gave.objects ++ os) (objects_executed xs)

objects_before : (objects : List Object) (more : List Version) → map object_in (map opened objects ++ more) ≡ objects ++ map object_in more
objects_before [] more = refl
objects_before (o ∷ os) more = ap (λ xs. o ∷ xs) (objects_before os more)

-- the objects of all versions
pub objects_held : (opening : List Object) (executed : List Execution) → map object_in (versions opening executed) ≡ opening ++ objects_of executed
unfolding versions
objects_held opening executed = objects_before opening (flat_map written_by executed) ∙ ap (λ os. opening ++ os) (objects_executed executed)

-- each of those that stay keeps its share of the objects
record Shares (kept : List Digest) (ran : List (Digest × Ran)) (objects : List Object) : Type 0 where
  same : executions (filter (ran_stays kept) ran) (objects_of (filter (is_kept kept) (executions ran objects))) ≡ filter (is_kept kept) (executions ran objects)
  count : written_in (filter (ran_stays kept) ran) ≡ length (objects_of (filter (is_kept kept) (executions ran objects)))

-- one execution more that stays
share_here : (e : Digest × Ran) (os : List Object) (left : List (Digest × Ran)) (more : List Execution) → length os ≡ e.1.written → executions left (objects_of more) ≡ more
    → executions (e ∷ left) (os ++ objects_of more) ≡ ran_as e.0 e.1 os ∷ more
share_here e os left more own same =
    ap (λ n. ran_as e.0 e.1 (take n (os ++ objects_of more)) ∷ executions left (drop n (os ++ objects_of more))) (sym own)
    ∙ ap (λ xs. ran_as e.0 e.1 xs ∷ executions left (drop (length os) (os ++ objects_of more))) (take-append_seam os (objects_of more))
    ∙ ap (λ xs. ran_as e.0 e.1 os ∷ executions left xs) (drop-append_seam os (objects_of more))
    ∙ ap (λ xs. ran_as e.0 e.1 os ∷ xs) same

count_here : (written left : ℕ) (os more : List Object) → length os ≡ written → left ≡ length more → written + left ≡ length (os ++ more)
count_here written left os more own count =
    let sum : length (os ++ more) ≡ length os + length more = length-append os more in
    omega arith

shares : (kept : List Digest) (ran : List (Digest × Ran)) (objects : List Object) → written_in ran ≤ length objects → Shares kept ran objects
shares kept [] objects h = record { same = refl; count = refl }
shares kept (e ∷ es) objects h =
    let total : e.1.written + written_in es ≤ length objects = h in
    let within : e.1.written ≤ length objects = omega arith in
    let cut : length (drop e.1.written objects) ≡ length objects - e.1.written = length-drop e.1.written objects in
    let rest : written_in es ≤ length (drop e.1.written objects) = omega arith in
    let s : Shares kept es (drop e.1.written objects) = shares kept es (drop e.1.written objects) rest in
    let p = by (is_among kept e.0) (take e.1.written objects) (filter (ran_stays kept) es) (filter (is_kept kept) (executions es (drop e.1.written objects))) (length-take-le e.1.written objects within) s.same s.count in
    record { same = p.0; count = p.1 }
  where
    by : (b : Bool) (os : List Object) (left : List (Digest × Ran)) (more : List Execution) → length os ≡ e.1.written → executions left (objects_of more) ≡ more → written_in left ≡ length (objects_of more)
        → (executions (cond b (e ∷ left) left) (objects_of (cond b (ran_as e.0 e.1 os ∷ more) more)) ≡ cond b (ran_as e.0 e.1 os ∷ more) more)
        × (written_in (cond b (e ∷ left) left) ≡ length (objects_of (cond b (ran_as e.0 e.1 os ∷ more) more)))
    by true os left more own same count = (share_here e os left more own same, count_here e.1.written (written_in left) os (objects_of more) own count)
    by false os left more own same count = (same, count)

-- ---- the maps beside the versions

-- the newest versions
newest_behind : (kept : List Digest) (held before : List Version) (live : List (ObjectId × Object)) → ((id : ObjectId) → lookup (id_eq id) live ≡ newest id before)
    → (id : ObjectId) → lookup (id_eq id) (newest_staying kept live (map kept_of held)) ≡ newest id (before ++ filter (stays_of kept) held)
newest_behind kept [] before live is id = is id ∙ ap (newest id) (sym (append-nil before))
newest_behind kept (v ∷ vs) before live is id = by (stays_of kept v) (λ more known same. newest_behind kept vs more known same id)
  where
    by : (b : Bool)
        → ((more : List Version) (known : List (ObjectId × Object)) → ((i : ObjectId) → lookup (id_eq i) known ≡ newest i more) → lookup (id_eq id) (newest_staying kept known (map kept_of vs)) ≡ newest id (more ++ filter (stays_of kept) vs))
        → lookup (id_eq id) (newest_staying kept (cond b (with_newer live v.object) live) (map kept_of vs)) ≡ newest id (before ++ cond b (v ∷ filter (stays_of kept) vs) (filter (stays_of kept) vs))
    by true rest = rest (before ++ v ∷ []) (with_newer live v.object) (newest_step live before v.producer v.object is) ∙ ap (newest id) (append_assoc before (v ∷ []) (filter (stays_of kept) vs))
    by false rest = rest before live is

abbrev digest_in : Option Execution → Option Digest
digest_in o = option_map (λ (x : Execution). x.digest) o

-- the transaction that consumed a key
consumed_behind : (kept : List Digest) (ran : List (Digest × Ran)) (objects : List Object) (before : List Execution) (consumers : List (ObjectKey × Digest))
    → ((key : ObjectKey) → lookup (key_eq key) consumers ≡ digest_in (consumer_of before key))
    → (key : ObjectKey) → lookup (key_eq key) (consumers_staying kept consumers ran) ≡ digest_in (consumer_of (before ++ filter (is_kept kept) (executions ran objects)) key)
consumed_behind kept [] objects before consumers is key = is key ∙ ap (λ xs. digest_in (consumer_of xs key)) (sym (append-nil before))
consumed_behind kept (e ∷ es) objects before consumers is key =
    by (is_among kept e.0) (ran_as e.0 e.1 (take e.1.written objects)) (filter (is_kept kept) (executions es (drop e.1.written objects))) refl refl
    (λ more known same. consumed_behind kept es (drop e.1.written objects) more known same key)
  where
    by : (b : Bool) (x : Execution) (xs : List Execution) → x.digest ≡ e.0 → x.consumed ≡ e.1.consumed
        → ((more : List Execution) (known : List (ObjectKey × Digest)) → ((k : ObjectKey) → lookup (key_eq k) known ≡ digest_in (consumer_of more k)) → lookup (key_eq key) (consumers_staying kept known es) ≡ digest_in (consumer_of (more ++ xs) key))
        → lookup (key_eq key) (consumers_staying kept (cond b (with_consumers e.0 consumers e.1.consumed) consumers) es) ≡ digest_in (consumer_of (before ++ cond b (x ∷ xs) xs) key)
    by true x xs d c rest =
        ap (λ tx. lookup (key_eq key) (consumers_staying kept (with_consumers tx consumers e.1.consumed) es)) (sym d)
        ∙ ap (λ ks. lookup (key_eq key) (consumers_staying kept (with_consumers x.digest consumers ks) es)) (sym c)
        ∙ rest (before ++ x ∷ []) (with_consumers x.digest consumers x.consumed) (consumed_more consumers before x is)
        ∙ ap (λ ys. digest_in (consumer_of ys key)) (append_assoc before (x ∷ []) xs)
    by false x xs d c rest = rest before consumers is

-- the deleted ids
deleted_behind : (kept : List Digest) (ran : List (Digest × Ran)) (objects : List Object) (before : List Execution) (ids : List ObjectId)
    → ((id : ObjectId) → list_any (id_eq id) ids ≡ is_deleted before id)
    → (id : ObjectId) → list_any (id_eq id) (deleted_staying kept ids ran) ≡ is_deleted (before ++ filter (is_kept kept) (executions ran objects)) id
deleted_behind kept [] objects before ids is id = is id ∙ ap (λ xs. is_deleted xs id) (sym (append-nil before))
deleted_behind kept (e ∷ es) objects before ids is id =
    by (is_among kept e.0) (ran_as e.0 e.1 (take e.1.written objects)) (filter (is_kept kept) (executions es (drop e.1.written objects))) refl
    (λ more known same. deleted_behind kept es (drop e.1.written objects) more known same id)
  where
    by : (b : Bool) (x : Execution) (xs : List Execution) → x.gave.effects.deleted ≡ e.1.effects.deleted
        → ((more : List Execution) (known : List ObjectId) → ((i : ObjectId) → list_any (id_eq i) known ≡ is_deleted more i) → list_any (id_eq id) (deleted_staying kept known es) ≡ is_deleted (more ++ xs) id)
        → list_any (id_eq id) (deleted_staying kept (cond b (insert_all id_eq ids e.1.effects.deleted) ids) es) ≡ is_deleted (before ++ cond b (x ∷ xs) xs) id
    by true x xs d rest =
        ap (λ more. list_any (id_eq id) (deleted_staying kept (insert_all id_eq ids more) es)) (sym d)
        ∙ rest (before ++ x ∷ []) (insert_all id_eq ids x.gave.effects.deleted) (deleted_more ids before x is)
        ∙ ap (λ ys. is_deleted ys id) (append_assoc before (x ∷ []) xs)
    by false x xs d rest = rest before ids is

-- ---- the maps after it

kept_values : (held : List Version) → map (λ (e : ObjectKey × Kept). e.1) (map kept_as held) ≡ map kept_of held
kept_values [] = refl
kept_values (v ∷ vs) = ap (λ ks. kept_of v ∷ ks) (kept_values vs)

module _ (opened : ℕ) (old new : Maps) (kept : List Digest) (good : IsKept opened old) (does : Keeps old new kept) where
  abbrev before : Stored
  before = stored opened old

  abbrev after : Stored
  after = reverted_to kept before

  abbrev objects : List Object
  objects = map kept_object old.versions.entries

  held_entries : new.versions.entries ≡ map kept_as (held_in after)
  held_entries =
      does.versions
      ∙ ap (filter (version_stays kept)) good.versions
      ∙ filter_kept kept (held_in before)
      ∙ ap (map kept_as) (versions_stay kept before.opening before.executed)

  objects_now : map kept_object new.versions.entries ≡ after.opening ++ objects_of after.executed
  objects_now = ap (map kept_object) held_entries ∙ objects_kept (held_in after) ∙ objects_held after.opening after.executed

  counted : opened + written_in old.executed.entries ≡ length objects
  counted = good.counts ∙ sym (length-map old.versions.entries kept_object)

  opening_length : length (take opened objects) ≡ opened
  opening_length =
      let c : opened + written_in old.executed.entries ≡ length objects = counted in
      length-take-le opened objects (omega arith)

  rest_shares : Shares kept old.executed.entries (drop opened objects)
  rest_shares =
      let c : opened + written_in old.executed.entries ≡ length objects = counted in
      let cut : length (drop opened objects) ≡ length objects - opened = length-drop opened objects in
      shares kept old.executed.entries (drop opened objects) (omega arith)

  pub stands : stored opened new ≡ after
  stands =
      ap (λ os. stored_as opened os new.executed.entries) objects_now
      ∙ ap (λ rs. stored_as opened (after.opening ++ objects_of after.executed) rs) does.executed
      ∙ ap (λ n. stored_as n (after.opening ++ objects_of after.executed) (filter (ran_stays kept) old.executed.entries)) (sym opening_length)
      ∙ ap (λ os. let s : Stored = record { opening = os; executed = executions (filter (ran_stays kept) old.executed.entries) (drop (length after.opening) (after.opening ++ objects_of after.executed)) } in s)
      (take-append_seam after.opening (objects_of after.executed))
      ∙ ap (λ os. let s : Stored = record { opening = after.opening; executed = executions (filter (ran_stays kept) old.executed.entries) os } in s) (drop-append_seam after.opening (objects_of after.executed))
      ∙ ap (λ xs. let s : Stored = record { opening = after.opening; executed = xs } in s) rest_shares.same

  pub keeps : IsKept opened new
  keeps = record {
    versions = held_entries ∙ ap (λ s. map kept_as (held_in s)) (sym stands);
    newest = λ id.
        ap (lookup (id_eq id)) (does.newest ∙ ap (newest_staying kept []) (ap (map (λ (e : ObjectKey × Kept). e.1)) good.versions ∙ kept_values (held_in before)))
        ∙ newest_behind kept (held_in before) [] [] (λ i. refl) id
        ∙ ap (newest id) (versions_stay kept before.opening before.executed)
        ∙ ap (λ s. newest id (held_in s)) (sym stands);
    deleted = λ id.
        ap (list_any (id_eq id)) does.deleted
        ∙ deleted_behind kept old.executed.entries (drop opened objects) [] [] (λ i. refl) id
        ∙ ap (λ (s : Stored). is_deleted s.executed id) (sym stands);
    consumers = λ key.
        ap (lookup (key_eq key)) does.consumers
        ∙ consumed_behind kept old.executed.entries (drop opened objects) [] [] (λ k. refl) key
        ∙ ap (λ (s : Stored). digest_in (consumer_of s.executed key)) (sym stands);
    counts = ap (λ rs. opened + written_in rs) does.executed ∙ count;
  }
    where
      count : opened + written_in (filter (ran_stays kept) old.executed.entries) ≡ length new.versions.entries
      count =
          let shared : written_in (filter (ran_stays kept) old.executed.entries) ≡ length (objects_of after.executed) = rest_shares.count in
          let own : length after.opening ≡ opened = opening_length in
          let all : length new.versions.entries ≡ length after.opening + length (objects_of after.executed) =
          sym (length-map new.versions.entries kept_object) ∙ ap length objects_now ∙ length-append after.opening (objects_of after.executed) in
          omega arith

-- ---- what the call rests on

same_kept_set : (kept set : List Digest) → set ≡ insert_all digest_eq [] kept → is_among set ≡ is_among kept
same_kept_set kept set is = fun_ext (λ tx. ap (λ ds. is_among ds tx) is ∙ any_insert_all digest_eq digest_same kept [] tx)

same_reverted : (kept set : List Digest) (s : Stored) → is_among set ≡ is_among kept → reverted_to set s ≡ reverted_to kept s
same_reverted kept set s same = ap (λ (test : Digest → Bool). let t : Stored = record { opening = s.opening; executed = filter (λ (x : Execution). test x.digest) s.executed } in t) same

pub reverted : (kept : List Digest) {opened : ℕ} {old new : Maps} {s : Stored} {set : List Digest} → IsKept opened old → stored opened old ≡ s → Keeps old new set → set ≡ insert_all digest_eq [] kept
    → IsKept opened new × (stored opened new ≡ reverted_to kept s)
reverted kept {opened} {old} {new} {s} {set} good view does is = (
  keeps opened old new set good does,
  stands opened old new set good does ∙ ap (reverted_to set) view ∙ same_reverted kept set s (same_kept_set kept set is),
)

-- the transactions that are not kept
undone_among : (test : Digest → Bool) (ran : List (Digest × Ran)) (os : List Object)
    → filter (λ tx. not (test tx)) (map (λ (e : Digest × Ran). e.0) ran) ≡ map (λ (x : Execution). x.digest) (filter (λ (x : Execution). not (test x.digest)) (executions ran os))
undone_among test [] os = refl
undone_among test (e ∷ es) os =
    by (not (test e.0)) (filter (λ tx. not (test tx)) (map (λ (f : Digest × Ran). f.0) es)) (filter (λ (x : Execution). not (test x.digest)) (executions es (drop e.1.written os)))
    (undone_among test es (drop e.1.written os))
  where
    by : (b : Bool) (others : List Digest) (more : List Execution) → others ≡ map (λ (x : Execution). x.digest) more
        → cond b (e.0 ∷ others) others ≡ map (λ (x : Execution). x.digest) (cond b (ran_as e.0 e.1 (take e.1.written os) ∷ more) more)
    by true others more is = ap (λ ds. e.0 ∷ ds) is
    by false others more is = is

pub undone_are : (kept : List Digest) (opened : ℕ) (maps : Maps) {s : Stored} {set : List Digest} → stored opened maps ≡ s → set ≡ insert_all digest_eq [] kept
    → filter (λ tx. not (is_among set tx)) (map (λ (e : Digest × Ran). e.0) maps.executed.entries) ≡ undone kept s
undone_are kept opened maps {s} {set} view is =
    ap (λ (test : Digest → Bool). filter (λ tx. not (test tx)) (map (λ (e : Digest × Ran). e.0) maps.executed.entries)) (same_kept_set kept set is)
    ∙ undone_among (is_among kept) maps.executed.entries (drop opened (map kept_object maps.versions.entries))
    ∙ ap (undone kept) view

-- if none is undone, the store stays
all_kept : (test : Digest → Bool) (executed : List Execution) → map (λ (x : Execution). x.digest) (filter (λ (x : Execution). not (test x.digest)) executed) ≡ []
    → filter (λ (x : Execution). test x.digest) executed ≡ executed
all_kept test [] none = refl
all_kept test (x ∷ xs) none = by (test x.digest) none (all_kept test xs)
  where
    by : (b : Bool) → map (λ (y : Execution). y.digest) (cond (not b) (x ∷ filter (λ (y : Execution). not (test y.digest)) xs) (filter (λ (y : Execution). not (test y.digest)) xs)) ≡ []
        → (map (λ (y : Execution). y.digest) (filter (λ (y : Execution). not (test y.digest)) xs) ≡ [] → filter (λ (y : Execution). test y.digest) xs ≡ xs)
        → cond b (x ∷ filter (λ (y : Execution). test y.digest) xs) (filter (λ (y : Execution). test y.digest) xs) ≡ x ∷ xs
    by true none more = ap (λ ys. x ∷ ys) (more none)
    by false none more = absurd (cc)

pub none_undone : (kept : List Digest) (s : Stored) → undone kept s ≡ [] → s ≡ reverted_to kept s
none_undone kept s none = sym (ap (λ xs. let t : Stored = record { opening = s.opening; executed = xs } in t) (all_kept (is_among kept) s.executed none))

pub no_items : (n : ℕ) (txs : List Digest) → n ≡ length txs → (n == 0) ≡ true → txs ≡ []
no_items n [] count none = refl
no_items n (tx ∷ txs) count none =
    let zero_long : n ≡ 0 = (Decides-eqb n 0).0 none in
    let longer : n ≡ length (tx ∷ txs) = count in
    absurd (omega arith)
