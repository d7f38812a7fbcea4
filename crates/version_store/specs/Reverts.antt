-- What a store is once executed transactions are undone. Source: Sui Lutris.
use Rattle.std.specs.Prelude.{Bool, true, not, List, [], ◌∷◌, map, filter, if◌then◌else◌}
use Rattle.std.specs.List.{list_any}
use Rattle.indexmap.specs.IndexSet.{insert_all}
use Rattle.digest_core.specs.declared.Digest.{Digest}
use Rattle.chain_types.specs.declared.objects.Object.{Object}
use Rattle.chain_types.specs.declared.objects.ObjectId.{ObjectId}
use Rattle.chain_types.specs.declared.objects.ObjectKey.{ObjectKey}
use Rattle.chain_types.specs.declared.objects.Producer.{Producer}
use Rattle.chain_types.specs.declared.objects.Producer.TheVariants as producers
use Rattle.chain_types.specs.Equal.{digest_eq, id_eq}
use Rattle.protocol_spec.specs.Member.Versions.{Execution}
use Rattle.version_store.specs.declared.maps.Kept.{Kept}
use Rattle.version_store.specs.declared.maps.Ran.{Ran}
use Rattle.version_store.specs.Stores.{Stored}
use Rattle.version_store.specs.Steps.{with_consumers, with_newer}

-- the transaction is among these
abbrev pub is_among : List Digest → Digest → Bool
is_among txs tx = list_any (digest_eq tx) txs

abbrev pub is_kept : List Digest → Execution → Bool
is_kept kept x = is_among kept x.digest

-- the store of the opening and of the executed transactions that are kept
abbrev pub reverted_to : List Digest → Stored → Stored
reverted_to kept s = record s { executed = filter (is_kept kept) s.executed }

-- the executed transactions that are not kept, in order
abbrev pub undone : List Digest → Stored → List Digest
undone kept s = map (λ (x : Execution). x.digest) (filter (λ (x : Execution). not (is_kept kept x)) s.executed)

-- ---- what stays in the maps

-- an opening object stays, and what a kept transaction wrote
abbrev pub stays : List Digest → Producer → Bool
stays kept producers.Opening = true
stays kept (producers.Tx tx) = is_among kept tx

abbrev pub version_stays : List Digest → ObjectKey × Kept → Bool
version_stays kept e = stays kept e.1.producer

abbrev pub ran_stays : List Digest → Digest × Ran → Bool
ran_stays kept e = is_among kept e.0

-- the newest of the versions that stay
abbrev pub newest_staying : List Digest → List (ObjectId × Object) → List Kept → List (ObjectId × Object)
newest_staying kept done [] = done
newest_staying kept done (k ∷ ks) = newest_staying kept (if stays kept k.producer then with_newer done k.object else done) ks

-- for each key, the first of the kept transactions that consumed it
abbrev pub consumers_staying : List Digest → List (ObjectKey × Digest) → List (Digest × Ran) → List (ObjectKey × Digest)
consumers_staying kept done [] = done
consumers_staying kept done (e ∷ es) = consumers_staying kept (if is_among kept e.0 then with_consumers e.0 done e.1.consumed else done) es

-- what the kept deleted
abbrev pub deleted_staying : List Digest → List ObjectId → List (Digest × Ran) → List ObjectId
deleted_staying kept done [] = done
deleted_staying kept done (e ∷ es) = deleted_staying kept (if is_among kept e.0 then insert_all id_eq done e.1.effects.deleted else done) es
