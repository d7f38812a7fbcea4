-- Ids that a transaction names, and that it creates.
use Rattle.std.proofs.Common.{◌≡◌, Bool, true, false, cond, ◌&&◌, ◌||◌, not, List, [], ◌∷◌, ◌++◌, Option, Some, None, is_some, refl, ap, sym, ◌∙◌}
use Rattle.std.specs.Prelude.{filter, filter_map}
use Rattle.std.specs.List.{list_any}
use Rattle.indexmap.specs.IndexSet.{insert_key}
use Rattle.chain_types.specs.declared.objects.Object.{Object}
use Rattle.chain_types.specs.declared.objects.ObjectId.{ObjectId}
use Rattle.chain_types.specs.declared.transactions.Input.{Input}
use Rattle.chain_types.specs.declared.transactions.Input.TheVariants as inputs
use Rattle.chain_types.specs.declared.transactions.Transaction.{Transaction}
use Rattle.chain_types.specs.Digests.{is_object}
use Rattle.chain_types.specs.Equal.{id_eq}
use Rattle.protocol_spec.specs.declared.pieces.Executed.{Executed}
use Rattle.protocol_spec.proofs.Equality.{id_same}
use Rattle.protocol_spec.proofs.Truth.{or_assoc}
use Rattle.protocol_spec.specs.Chain.Keys.{named_id, named_ids}
use Rattle.protocol_spec.specs.Chain.Tests.{has_id}
use Rattle.protocol_spec.specs.Chain.Words.{repeats}
use Rattle.follower_core.specs.Courses.{Course, creates_held, is_bad, is_held, written_ids}
use Rattle.follower_core.specs.Steps.{creates_in, named_after}

-- ---- truth values

or_none : (a : Bool) → (a || false) ≡ a
or_none true = refl
or_none false = refl

pub no_fault : {A : Type 0} → (o : Option A) → is_some o ≡ false → o ≡ None
no_fault None h = refl
no_fault (Some x) h = absurd (cc)

-- ---- lists of ids

any_join : (test : ObjectId → Bool) (xs ys : List ObjectId) → list_any test (xs ++ ys) ≡ (list_any test xs || list_any test ys)
any_join test [] ys = refl
any_join test (x ∷ xs) ys = ap (λ b. test x || b) (any_join test xs ys) ∙ sym (or_assoc (test x) (list_any test xs) (list_any test ys))

has_behind : (ids : List ObjectId) (i id : ObjectId) → has_id (ids ++ i ∷ []) id ≡ (has_id ids id || id_eq id i)
has_behind ids i id = any_join (id_eq id) ids (i ∷ []) ∙ ap (λ b. has_id ids id || b) (or_none (id_eq id i))

-- ---- the ids that are named

insert_has : (ids : List ObjectId) (i id : ObjectId) → has_id (insert_key id_eq ids i) id ≡ (has_id ids id || id_eq id i)
insert_has ids i id = by (list_any (id_eq i) ids) refl
  where
    absorb : (a b : Bool) → (b ≡ true → a ≡ true) → a ≡ (a || b)
    absorb true b f = refl
    absorb false false f = refl
    absorb false true f = f refl

    by : (b : Bool) → list_any (id_eq i) ids ≡ b → has_id (cond b ids (ids ++ i ∷ [])) id ≡ (has_id ids id || id_eq id i)
    by true there = absorb (has_id ids id) (id_eq id i) (λ same. ap (λ (x : ObjectId). has_id ids x) (id_same id i same) ∙ there)
    by false there = has_behind ids i id

named_has : (is : List Input) (ids : List ObjectId) (id : ObjectId) → has_id (named_after ids is) id ≡ (has_id ids id || has_id (filter_map named_id (filter is_object is)) id)
named_has [] ids id = sym (or_none (has_id ids id))
named_has (inputs.Pure bytes ∷ is) ids id = named_has is ids id
named_has (inputs.Owned r ∷ is) ids id = named_has is (insert_key id_eq ids r.id) id ∙ ap (λ b. b || has_id (filter_map named_id (filter is_object is)) id) (insert_has ids r.id id) ∙ or_assoc (has_id ids id) (id_eq id r.id) (has_id (filter_map named_id (filter is_object is)) id)
named_has (inputs.Immutable r ∷ is) ids id = named_has is (insert_key id_eq ids r.id) id ∙ ap (λ b. b || has_id (filter_map named_id (filter is_object is)) id) (insert_has ids r.id id) ∙ or_assoc (has_id ids id) (id_eq id r.id) (has_id (filter_map named_id (filter is_object is)) id)
named_has (inputs.Shared i initial mutable ∷ is) ids id = named_has is (insert_key id_eq ids i) id ∙ ap (λ b. b || has_id (filter_map named_id (filter is_object is)) id) (insert_has ids i id) ∙ or_assoc (has_id ids id) (id_eq id i) (has_id (filter_map named_id (filter is_object is)) id)

all_named : (t : Transaction) (id : ObjectId) → has_id (named_after (t.gas.id ∷ []) t.inputs) id ≡ has_id (named_ids t) id
all_named t id = named_has t.inputs (t.gas.id ∷ []) id ∙ ap (λ b. b || has_id (filter_map named_id (filter is_object t.inputs)) id) (or_none (id_eq id t.gas.id))

-- ---- what is created

each_creates : (m : Course) (t : Transaction) (os : List Object) → list_any (creates_in m (named_after (t.gas.id ∷ []) t.inputs)) os ≡ list_any (creates_held m t) os
each_creates m t [] = refl
each_creates m t (o ∷ os) =
    ap (λ b. (not b && is_held m o.id) || list_any (creates_in m (named_after (t.gas.id ∷ []) t.inputs)) os) (all_named t o.id)
    ∙ ap (λ b. creates_held m t o || b) (each_creates m t os)

pub creates_whole : (m : Course) (t : Transaction) (x : Executed) → repeats id_eq (written_ids x) ≡ false → list_any (creates_in m (named_after (t.gas.id ∷ []) t.inputs)) x.objects ≡ is_bad m t (Some x)
creates_whole m t x once = each_creates m t x.objects ∙ ap (λ b. b || list_any (creates_held m t) x.objects) (sym once)
