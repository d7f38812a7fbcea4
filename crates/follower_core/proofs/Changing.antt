-- Objects that are changed: what is found then, and a change more or less.
use Rattle.std.proofs.Common.{◌≡◌, Bool, true, false, cond, List, [], ◌∷◌, ◌++◌, Option, Some, None, refl, ap, sym, ◌∙◌}
use Rattle.std.specs.Map.{lookup}
use Rattle.std.specs.FinMap.{get, get-insert, get-remove}
use Rattle.indexmap.specs.IndexMap.{insert_entry}
use Rattle.chain_types.specs.declared.objects.Object.{Object}
use Rattle.chain_types.specs.declared.objects.ObjectId.{ObjectId}
use Rattle.chain_types.specs.Equal.{id_eq}
use Rattle.protocol_spec.proofs.Equality.{id_same, id_turned, ids_tie}
use Rattle.protocol_spec.specs.Member.Sequential.{Objects}
use Rattle.follower_core.specs.Ledgers.{Changes, Entries, changed, changed_by, objects_under, overlaid}
use Rattle.follower_core.proofs.Objects.{ids_total, same_objects, under}

at_change : (m : Objects) (k : ObjectId) (c : Option Object) (id : ObjectId) → get (changed m k c) id ≡ cond (id_eq id k) c (get m id)
at_change m k None id = get-remove ids_total m k id ∙ ap (λ b. cond b None (get m id)) (sym (ids_tie id k))
at_change m k (Some o) id = get-insert ids_total m k o id ∙ ap (λ b. cond b (Some o) (get m id)) (sym (ids_tie id k))

-- what is found if objects are changed
pub now_under : (es : Entries) (cs : Changes) (id : ObjectId) → get (changed_by es cs) id ≡ overlaid (lookup (id_eq id) cs) (lookup (id_eq id) es)
now_under es [] id = under es id
now_under es (c ∷ cs) id = at_change (changed_by es cs) c.0 c.1 id ∙ ap (cond (id_eq id c.0) c.1) (now_under es cs id) ∙ by (id_eq id c.0)
  where
    by : (b : Bool) → cond b c.1 (overlaid (lookup (id_eq id) cs) (lookup (id_eq id) es)) ≡ overlaid (cond b (Some c.1) (lookup (id_eq id) cs)) (lookup (id_eq id) es)
    by true = refl
    by false = refl

-- ---- one more change

pub inserted : {X : Type 0} → (cs : List (ObjectId × X)) (k : ObjectId) (c : X) (id : ObjectId) → lookup (id_eq id) (insert_entry id_eq cs k c) ≡ cond (id_eq id k) (Some c) (lookup (id_eq id) cs)
inserted [] k c id = refl
inserted {X} (e ∷ es) k c id = by (id_eq k e.0) refl (inserted es k c id)
  where
    found : Option X
    found = lookup (id_eq id) es

    nested : (b : Bool) → cond b (Some c) found ≡ cond b (Some c) (cond b (Some e.1) found)
    nested true = refl
    nested false = refl

    same_key : k ≡ e.0 → cond (id_eq id e.0) (Some c) found ≡ cond (id_eq id k) (Some c) (cond (id_eq id e.0) (Some e.1) found)
    same_key p =
        ap (λ (i : ObjectId). cond (id_eq id i) (Some c) found) (sym p)
        ∙ nested (id_eq id k)
        ∙ ap (λ (i : ObjectId). cond (id_eq id k) (Some c) (cond (id_eq id i) (Some e.1) found)) p

    apart : id_eq k e.0 ≡ false → (a b : Bool) → id_eq id e.0 ≡ a → id_eq id k ≡ b → cond a (Some e.1) (cond b (Some c) found) ≡ cond b (Some c) (cond a (Some e.1) found)
    apart differs true true p q =
        let one : id_eq k e.0 ≡ true = ap (λ (i : ObjectId). id_eq i e.0) (sym (id_same id k q)) ∙ p in
        absurd (cc)
    apart differs true false p q = refl
    apart differs false b p q = refl

    by : (b : Bool) → id_eq k e.0 ≡ b → lookup (id_eq id) (insert_entry id_eq es k c) ≡ cond (id_eq id k) (Some c) found
        → lookup (id_eq id) (cond b ((e.0, c) ∷ es) (e ∷ insert_entry id_eq es k c)) ≡ cond (id_eq id k) (Some c) (cond (id_eq id e.0) (Some e.1) found)
    by true is more = same_key (id_same k e.0 is)
    by false is more = ap (cond (id_eq id e.0) (Some e.1)) more ∙ apart is (id_eq id e.0) (id_eq id k) refl refl

pub one_more : (es : Entries) (cs : Changes) (k : ObjectId) (c : Option Object) → changed_by es (insert_entry id_eq cs k c) ≡ changed (changed_by es cs) k c
one_more es cs k c = same_objects (changed_by es (insert_entry id_eq cs k c)) (changed (changed_by es cs) k c) (λ id.
    now_under es (insert_entry id_eq cs k c) id
    ∙ ap (λ o. overlaid o (lookup (id_eq id) es)) (inserted cs k c id)
    ∙ by (id_eq id k) (lookup (id_eq id) cs) (lookup (id_eq id) es)
    ∙ ap (cond (id_eq id k) c) (sym (now_under es cs id))
    ∙ sym (at_change (changed_by es cs) k c id))
  where
    by : (b : Bool) (o : Option (Option Object)) (p : Option Object) → overlaid (cond b (Some c) o) p ≡ cond b c (overlaid o p)
    by true o p = refl
    by false o p = refl

-- ---- one change less

-- objects that are as the last change says
abbrev pub IsChanged : Entries → ObjectId → Option Object → Entries → Type 0
IsChanged es k c fs = (id : ObjectId) → lookup (id_eq id) fs ≡ cond (id_eq id k) c (lookup (id_eq id) es)

pub settles : (es fs : Entries) (cs : Changes) (k : ObjectId) (c : Option Object) → IsChanged es k c fs → changed_by fs cs ≡ changed_by es (cs ++ (k, c) ∷ [])
settles es fs [] k c is = same_objects (objects_under fs) (changed (objects_under es) k c) (λ id.
    under fs id ∙ is id ∙ ap (cond (id_eq id k) c) (sym (under es id)) ∙ sym (at_change (objects_under es) k c id))
settles es fs (d ∷ ds) k c is = ap (λ m. changed m d.0 d.1) (settles es fs ds k c is)

-- a map that was written at a key
pub written_at : (es fs : Entries) (k : ObjectId) (c : Option Object) → ((id : ObjectId) → lookup (id_eq id) fs ≡ cond (id_eq k id) c (lookup (id_eq id) es)) → IsChanged es k c fs
written_at es fs k c h = λ id. h id ∙ ap (λ b. cond b c (lookup (id_eq id) es)) (id_turned k id)
