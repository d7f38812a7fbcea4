-- The newest version of an id: of two lists together, whose id it has, and when there is none.
use Rattle.std.proofs.Common.{◌≡◌, ℕ, Bool, true, false, cond, ◌||◌, List, [], ◌∷◌, ◌++◌, Option, Some, None, is_some, map, refl, ap, sym, ◌∙◌, nat_lt, arith}
use Rattle.std.specs.Prelude.{filter, fold}
use Rattle.std.specs.List.{list_any}
use Rattle.std.proofs.lemmas.List.{map-append}
use Rattle.std.proofs.lemmas.List.Elements.{filter-append}
use Rattle.std.proofs.lemmas.List.Sums.{fold-append}
use Rattle.std.proofs.lemmas.Bool.Decides.{nat_tests}
use Rattle.chain_types.specs.declared.objects.Object.{Object}
use Rattle.chain_types.specs.declared.objects.ObjectId.{ObjectId}
use Rattle.chain_types.specs.Equal.{id_eq}
use Rattle.protocol_spec.proofs.Equality.{id_same, test_turned, id_self}
use Rattle.protocol_spec.proofs.Truth.{or_false}
use Rattle.protocol_spec.specs.Member.Versions.{Version, is_id, newer, newest, object_in}

-- the newer of two that may be there
abbrev pub merge : Option Object → Option Object → Option Object
merge held None = held
merge held (Some o) = newer held o

below_both : (a b c : ℕ) → nat_lt a b ≡ true → nat_lt b c ≡ true → nat_lt a c ≡ true
below_both a b c h i = grind (arith, nat_tests)

not_below_both : (a b c : ℕ) → nat_lt a b ≡ false → nat_lt b c ≡ false → nat_lt a c ≡ false
not_below_both a b c h i = grind (arith, nat_tests)

-- the newer of three does not depend on where one begins
newer_twice : (a b : Option Object) (o : Object) → newer (merge a b) o ≡ merge a (newer b o)
newer_twice a None o = refl
newer_twice None (Some p) o = by (nat_lt p.version o.version)
  where
    by : (b : Bool) → cond b (Some o) (Some p) ≡ merge None (cond b (Some o) (Some p))
    by true = refl
    by false = refl
newer_twice (Some q) (Some p) o = by (nat_lt q.version p.version) (nat_lt p.version o.version) refl refl
  where
    by : (b c : Bool) → nat_lt q.version p.version ≡ b → nat_lt p.version o.version ≡ c → newer (cond b (Some p) (Some q)) o ≡ merge (Some q) (cond c (Some o) (Some p))
    by true true h i = ap (λ c. cond c (Some o) (Some p)) i ∙ sym (ap (λ c. cond c (Some o) (Some q)) (below_both q.version p.version o.version h i))
    by true false h i = ap (λ c. cond c (Some o) (Some p)) i ∙ sym (ap (λ c. cond c (Some p) (Some q)) h)
    by false true h i = refl
    by false false h i = ap (λ c. cond c (Some o) (Some q)) (not_below_both q.version p.version o.version h i) ∙ sym (ap (λ c. cond c (Some p) (Some q)) h)

newer_behind : (objects : List Object) (a b : Option Object) → fold newer (merge a b) objects ≡ merge a (fold newer b objects)
newer_behind [] a b = refl
newer_behind (o ∷ os) a b = ap (λ x. fold newer x os) (newer_twice a b o) ∙ newer_behind os a (newer b o)

-- of two lists together it is the newer one
pub newest_both : (id : ObjectId) (xs ys : List Version) → newest id (xs ++ ys) ≡ merge (newest id xs) (newest id ys)
newest_both id xs ys =
    ap (λ vs. fold newer None (map object_in vs)) (filter-append (is_id id) xs ys)
    ∙ ap (fold newer None) (map-append object_in (filter (is_id id) xs) (filter (is_id id) ys))
    ∙ fold-append newer None (map object_in (filter (is_id id) xs)) (map object_in (filter (is_id id) ys))
    ∙ newer_behind (map object_in (filter (is_id id) ys)) (newest id xs) None

pub some_merged : (a b : Option Object) → is_some (merge a b) ≡ (is_some a || is_some b)
some_merged None None = refl
some_merged None (Some o) = refl
some_merged (Some p) None = refl
some_merged (Some p) (Some o) = by (nat_lt p.version o.version)
  where
    by : (b : Bool) → is_some (cond b (Some o) (Some p)) ≡ true
    by true = refl
    by false = refl

-- ---- its id

abbrev pub HasId : ObjectId → Option Object → Type 0
HasId id None = Unit {0}
HasId id (Some o) = o.id ≡ id

newer_has : (id : ObjectId) (a : Option Object) (o : Object) → HasId id a → o.id ≡ id → HasId id (newer a o)
newer_has id None o h i = i
newer_has id (Some p) o h i = by (nat_lt p.version o.version)
  where
    by : (b : Bool) → HasId id (cond b (Some o) (Some p))
    by true = i
    by false = h

all_have : (id : ObjectId) (held : List Version) (a : Option Object) → HasId id a → HasId id (fold newer a (map object_in (filter (is_id id) held)))
all_have id [] a h = h
all_have id (v ∷ vs) a h = by (is_id id v) refl (λ b i. all_have id vs b i)
  where
    by : (b : Bool) → is_id id v ≡ b → ((c : Option Object) → HasId id c → HasId id (fold newer c (map object_in (filter (is_id id) vs))))
        → HasId id (fold newer a (map object_in (cond b (v ∷ filter (is_id id) vs) (filter (is_id id) vs))))
    by true is more = more (newer a v.object) (newer_has id a v.object h (id_same v.object.id id is))
    by false is more = more a h

pub newest_has : (id : ObjectId) (held : List Version) → HasId id (newest id held)
newest_has id held = all_have id held None tt

-- ---- if there is none

abbrev pub version_id : Version → ObjectId
version_id v = v.object.id

none_of : (id : ObjectId) (held : List Version) → list_any (id_eq id) (map version_id held) ≡ false → filter (is_id id) held ≡ []
none_of id [] h = refl
none_of id (v ∷ vs) h =
    let p : (id_eq id v.object.id ≡ false) × (list_any (id_eq id) (map version_id vs) ≡ false) = or_false (id_eq id v.object.id) (list_any (id_eq id) (map version_id vs)) h in
    ap (λ b. cond b (v ∷ filter (is_id id) vs) (filter (is_id id) vs)) (test_turned id_eq id_same id_self v.object.id id ∙ p.0) ∙ none_of id vs p.1

pub newest_none : (id : ObjectId) (held : List Version) → list_any (id_eq id) (map version_id held) ≡ false → newest id held ≡ None
newest_none id held h = ap (λ vs. fold newer None (map object_in vs)) (none_of id held h)
