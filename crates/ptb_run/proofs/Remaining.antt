-- The objects that are gathered at the end of a block are those of the definition.
use Rattle.std.proofs.Common.{◌≡◌, ℕ, zero, suc, cond, List, [], ◌∷◌, ◌++◌, map, Option, Some, None, refl, ap, sym, ◌∙◌, append-nil, append_assoc}
use Rattle.std.specs.Prelude.{filter_map}
use Rattle.std.specs.List.{cons_option}
use Rattle.std.proofs.lemmas.List.Elements.{filter_map-append}
use Rattle.digest_core.specs.declared.Digest.{Digest}
use Rattle.digest_core.specs.Tagged.{created_id_of}
use Rattle.chain_types.specs.declared.objects.ObjectId.{ObjectId}
use Rattle.chain_types.specs.declared.objects.Object.{Object}
use Rattle.chain_types.specs.declared.transactions.Transaction.{Transaction}
use Rattle.effects_core.specs.declared.effects.Written.{Written}
use Rattle.protocol_spec.specs.declared.pieces.Placed.{Placed}
use Rattle.protocol_spec.specs.Chain.Keys.{version_of}
use Rattle.protocol_spec.specs.Chain.Words.{numbers_below}
use Rattle.protocol_spec.specs.Block.Block as block
use Rattle.protocol_spec.specs.Block.Execution.{after_block, deleted_id, deleted_ids, done_objects, failed_objects, is_none_left, left_in, less_cost_first, same_object, with_rest_first, written_of, written_places}
use Rattle.ptb_run.specs.declared.written.Moved.{Moved}
use Rattle.ptb_run.specs.Values.{spot_of}
use Rattle.ptb_run.specs.Written.{moved_of}
use Rattle.ptb_run.specs.Left.{Left, firsts_after, moved_now}
use Rattle.ptb_run.specs.Remains.{created_below, gone_after, kept_after, listed_after, same_after, with_gone, with_object}
use Rattle.ptb_run.proofs.FirstLeft.{same_left, same_now}

abbrev now_of : ℕ → block.Block → (block.Place × Object) → Option Object
now_of version b x = after_block version b x.0 x.1

kept_from : (version : ℕ) (b : block.Block) (objects : List Object) (ms : List Moved)
    → kept_after version (firsts_after [] b.placed) b objects ms ≡ objects ++ filter_map (now_of version b) (map moved_of ms)
kept_from version b objects [] = sym (append-nil objects)
kept_from version b objects (m ∷ ms) =
    kept_from version b (with_object objects (moved_now version (firsts_after [] b.placed) b m)) ms
    ∙ ap (λ (o : Option Object). with_object objects o ++ filter_map (now_of version b) (map moved_of ms)) (same_now version b m)
    ∙ go (after_block version b (spot_of m.spot) m.object)
  where
    go : (o : Option Object) → with_object objects o ++ filter_map (now_of version b) (map moved_of ms) ≡ objects ++ cons_option o (filter_map (now_of version b) (map moved_of ms))
    go None = refl
    go (Some o) = append_assoc objects (o ∷ []) (filter_map (now_of version b) (map moved_of ms))

gone_from : (version : ℕ) (b : block.Block) (ids : List ObjectId) (ms : List Moved)
    → gone_after version (firsts_after [] b.placed) b ids ms ≡ ids ++ filter_map (deleted_id version b) (map moved_of ms)
gone_from version b ids [] = sym (append-nil ids)
gone_from version b ids (m ∷ ms) =
    gone_from version b (with_gone ids m.object.id (moved_now version (firsts_after [] b.placed) b m)) ms
    ∙ ap (λ (o : Option Object). with_gone ids m.object.id o ++ filter_map (deleted_id version b) (map moved_of ms)) (same_now version b m)
    ∙ go (after_block version b (spot_of m.spot) m.object)
  where
    go : (o : Option Object) → with_gone ids m.object.id o ++ filter_map (deleted_id version b) (map moved_of ms)
        ≡ ids ++ cons_option (cond (is_none_left o) (Some m.object.id) None) (filter_map (deleted_id version b) (map moved_of ms))
    go None = append_assoc ids (m.object.id ∷ []) (filter_map (deleted_id version b) (map moved_of ms))
    go (Some o) = refl

abbrev created_at : Digest → ℕ → List Placed → ℕ → Option Object
created_at tx version placed n = left_in version placed (record { 0 = created_id_of tx n })

created_from : (tx : Digest) (version : ℕ) (placed : List Placed) (n : ℕ) → created_below tx version (firsts_after [] placed) n ≡ filter_map (created_at tx version placed) (numbers_below n)
created_from tx version placed zero = refl
created_from tx version placed (suc n) =
    ap (λ (o : Option Object). with_object (created_below tx version (firsts_after [] placed) n) o) (same_left version placed (record { 0 = created_id_of tx n }))
    ∙ ap (λ (l : List Object). with_object l (created_at tx version placed n)) (created_from tx version placed n)
    ∙ go (created_at tx version placed n) (filter_map (created_at tx version placed) (numbers_below n))
    ∙ sym (filter_map-append (created_at tx version placed) (numbers_below n) (n ∷ []))
  where
    go : (o : Option Object) (l : List Object) → with_object l o ≡ l ++ cons_option o []
    go None l = sym (append-nil l)
    go (Some o) l = refl

pub done_are : (t : Transaction) (tx : Digest) (objects : List Object) (b : block.Block) (version : ℕ) (left : Left) (ms : List Moved)
    → version ≡ version_of objects → left ≡ firsts_after [] b.placed → map moved_of ms ≡ written_places t objects
    → with_rest_first t (kept_after version left b [] ms) ++ created_below tx version left b.made ≡ done_objects t tx objects b
done_are t tx objects b version left ms at is are =
    ap (λ (v : ℕ). with_rest_first t (kept_after v left b [] ms) ++ created_below tx v left b.made) at
    ∙ ap (λ (l : Left). with_rest_first t (kept_after (version_of objects) l b [] ms) ++ created_below tx (version_of objects) l b.made) is
    ∙ ap (λ (l : List Object). with_rest_first t l ++ created_below tx (version_of objects) (firsts_after [] b.placed) b.made)
    (kept_from (version_of objects) b [] ms ∙ ap (λ (l : List (block.Place × Object)). filter_map (now_of (version_of objects) b) l) are)
    ∙ ap (λ (l : List Object). with_rest_first t (filter_map (now_of (version_of objects) b) (written_places t objects)) ++ l) (created_from tx (version_of objects) b.placed b.made)

pub deleted_are : (t : Transaction) (objects : List Object) (b : block.Block) (version : ℕ) (left : Left) (ms : List Moved)
    → version ≡ version_of objects → left ≡ firsts_after [] b.placed → map moved_of ms ≡ written_places t objects → gone_after version left b [] ms ≡ deleted_ids t objects b
deleted_are t objects b version left ms at is are =
    ap (λ (v : ℕ). gone_after v left b [] ms) at
    ∙ ap (λ (l : Left). gone_after (version_of objects) l b [] ms) is
    ∙ gone_from (version_of objects) b [] ms
    ∙ ap (λ (l : List (block.Place × Object)). filter_map (deleted_id (version_of objects) b) l) are

same_from : (version : ℕ) (objects : List Object) (ms : List Moved) → same_after version objects ms ≡ objects ++ map (λ (x : block.Place × Object). same_object version x.1) (map moved_of ms)
same_from version objects [] = sym (append-nil objects)
same_from version objects (m ∷ ms) =
    same_from version (objects ++ same_object version m.object ∷ []) ms
    ∙ append_assoc objects (same_object version m.object ∷ []) (map (λ (x : block.Place × Object). same_object version x.1) (map moved_of ms))

pub failed_are : (t : Transaction) (objects : List Object) (version : ℕ) (ms : List Moved)
    → version ≡ version_of objects → map moved_of ms ≡ written_places t objects → less_cost_first t (same_after version [] ms) ≡ failed_objects t objects
failed_are t objects version ms at are =
    ap (λ (v : ℕ). less_cost_first t (same_after v [] ms)) at
    ∙ ap (λ (l : List Object). less_cost_first t l)
    (same_from (version_of objects) [] ms ∙ ap (λ (l : List (block.Place × Object)). map (λ (x : block.Place × Object). same_object (version_of objects) x.1) l) are)

listed_from : (written : List Written) (objects : List Object) → listed_after written objects ≡ written ++ map written_of objects
listed_from written [] = sym (append-nil written)
listed_from written (o ∷ rest) = listed_from (written ++ written_of o ∷ []) rest ∙ append_assoc written (written_of o ∷ []) (map written_of rest)

pub listed_are : (objects : List Object) → listed_after [] objects ≡ map written_of objects
listed_are objects = listed_from [] objects
