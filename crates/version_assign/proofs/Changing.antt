-- Tables of shared objects after changes.
use Rattle.std.proofs.Common.{◌≡◌, ◌∙◌, refl, arith, ap, sym, subst, ℕ, ◌-◌, ◌≤◌, length, take, drop, get_or, Bool, true, false, cond, List, [], ◌∷◌, Option, Some, None, is_some, map}
use Rattle.std.specs.List.{AllByRecursion, IsDistinct}
use Rattle.std.specs.Map.{lookup, keys_of}
use Rattle.std.proofs.lemmas.Map.Keys.{IsDistinct-head, IsDistinct-tail}
use Rattle.indexmap.specs.IndexMap.{insert_entry}
use Rattle.chain_types.specs.declared.objects.Object.{Object}
use Rattle.chain_types.specs.declared.objects.ObjectId.{ObjectId}
use Rattle.chain_types.specs.Equal.{id_eq}
use Rattle.protocol_spec.proofs.Equality.{id_same, id_turned, id_self}
use Rattle.protocol_spec.proofs.ListLemmas.{tail_is}
use Rattle.protocol_spec.specs.Chain.Keys.{is_shared}
use Rattle.protocol_spec.specs.Member.Admission.{Admission, Admitted, is_shared_object, opening_object}
use Rattle.version_assign.specs.declared.changes.Change.{Change}
use Rattle.version_assign.specs.Books.{AreLines, AreRows, IsOpening, object_in, stands}
use Rattle.version_assign.specs.declared.book.PendingCertificate.{PendingCertificate}
use Rattle.version_assign.specs.Lines.{LineMap}
use Rattle.version_assign.specs.Changes.{AreShared, Changes, ChangesOn, HasId, IsOwn, IsSharedUnder, Puts, Shelved, changed_by}
use Rattle.version_assign.specs.Sharing.{if_shared}
use Rattle.tables.proofs.Lookups.{lookup_insert}
use Rattle.version_assign.proofs.Opening.{none_at}

-- ---- one table step

pub puts_some : (old new : Shelved) (id : ObjectId) (o : Object) → new ≡ insert_entry id_eq old id o → Puts old new id (Some o)
puts_some old new id o is q = ap (lookup (id_eq q)) is ∙ lookup_insert id_eq id_same id_self old id o q

pub puts_none : (old new : Shelved) (id : ObjectId) → ((q : ObjectId) → lookup (id_eq q) new ≡ cond (id_eq id q) None (lookup (id_eq q) old)) → Puts old new id None
puts_none old new id is q = is q ∙ ap (λ b. cond b None (lookup (id_eq q) old)) (id_turned id q)

-- ---- shared objects under their ids

shared_own : (id : ObjectId) (o : Option Object) → HasId id o → IsSharedUnder id (if_shared o)
shared_own id None own = tt
shared_own id (Some o) own = by (is_shared o.owner) refl
  where
    by : (b : Bool) → is_shared o.owner ≡ b → IsSharedUnder id (cond b (Some o) None)
    by true is = (own, is)
    by false is = tt

pub shared_step : (old new : Shelved) (c : Change) → IsOwn c → AreShared old → Puts old new c.id (if_shared c.lives) → AreShared new
shared_step old new c own shared puts id = subst (IsSharedUnder id) (sym (puts id)) (by (id_eq id c.id) refl)
  where
    by : (b : Bool) → id_eq id c.id ≡ b → IsSharedUnder id (cond b (if_shared c.lives) (lookup (id_eq id) old))
    by true is = subst (λ (i : ObjectId). IsSharedUnder i (if_shared c.lives)) (sym (id_same id c.id is)) (shared_own c.id c.lives own)
    by false is = shared id

pub change_step : (old mid new : Shelved) (all rest : List Change) (d : Change) → 1 ≤ length rest → ChangesOn old mid all rest → Puts mid new (get_or rest 0 d).id (if_shared (get_or rest 0 d).lives) → ChangesOn old new all (take (length rest - 1) (drop 1 rest))
change_step old mid new all [] d some so puts = absurd (omega (arith, some))
change_step old mid new all (x ∷ rest) d some so puts = subst (ChangesOn old new all) (sym (tail_is x rest)) (record {
  own = so.own.1;
  shared = shared_step mid new x so.own.0 so.shared puts;
  changes = λ q. ap (changed_by rest q) (puts q) ∙ so.changes q;
})

-- ---- as an opening

-- what a search among the objects finds has the id
pub found_has : (os : List Object) (id : ObjectId) (o : Object) → opening_object os id ≡ Some o → o.id ≡ id
found_has [] id o is = absurd (cc)
found_has (x ∷ xs) id o is = by (id_eq x.id id) refl is (found_has xs id o)
  where
    by : (b : Bool) → id_eq x.id id ≡ b → cond b (Some x) (opening_object xs id) ≡ Some o → (opening_object xs id ≡ Some o → o.id ≡ id) → o.id ≡ id
    by true here is more = let same : o ≡ x = cc in ap (λ (y : Object). y.id) same ∙ id_same x.id id here
    by false here is more = more is

pub opening_shares : (entries : Shelved) → IsOpening entries → AreShared entries
opening_shares entries opening id = by (lookup (id_eq id) entries) refl
  where
    by : (o : Option Object) → lookup (id_eq id) entries ≡ o → IsSharedUnder id o
    by None is = tt
    by (Some o) is =
        let at : opening_object (map object_in entries) id ≡ Some o = sym (opening.at id) ∙ is in (
          found_has (map object_in entries) id o at,
          sym (ap is_shared_object at) ∙ opening.shared id ∙ ap is_some is,
        )

-- none of the rows has the id
none_under : (id : ObjectId) (entries : Shelved) → AllByRecursion (λ y. id_eq id y ≡ false) (keys_of entries) → lookup (id_eq id) entries ≡ None
none_under id [] h = refl
none_under id (e ∷ es) h = ap (λ b. cond b (Some e.1) (lookup (id_eq id) es)) h.0 ∙ none_under id es h.1

abbrev AreApart : Shelved → Type 0
AreApart entries = IsDistinct id_eq (keys_of entries)

first_own : (e : ObjectId × Object) (es : Shelved) → AreShared (e ∷ es) → e.1.id ≡ e.0
first_own e es shared = by (id_eq e.0 e.0) (id_self e.0) (shared e.0)
  where
    by : (b : Bool) → b ≡ true → IsSharedUnder e.0 (cond b (Some e.1) (lookup (id_eq e.0) es)) → e.1.id ≡ e.0
    by true is h = h.0
    by false is h = absurd (cc)

rest_shared : (e : ObjectId × Object) (es : Shelved) → AreApart (e ∷ es) → AreShared (e ∷ es) → AreShared es
rest_shared e es apart shared id = by (id_eq id e.0) refl (shared id)
  where
    by : (b : Bool) → id_eq id e.0 ≡ b → IsSharedUnder id (cond b (Some e.1) (lookup (id_eq id) es)) → IsSharedUnder id (lookup (id_eq id) es)
    by true is h = subst (IsSharedUnder id) (sym (ap (λ i. lookup (id_eq i) es) (id_same id e.0 is) ∙ none_under e.0 es (IsDistinct-head id_eq e.0 (keys_of es) apart))) tt
    by false is h = h

looks_alike : (entries : Shelved) → AreApart entries → AreShared entries → (id : ObjectId) → lookup (id_eq id) entries ≡ opening_object (map object_in entries) id
looks_alike [] apart shared id = refl
looks_alike (e ∷ es) apart shared id =
    ap (cond (id_eq id e.0) (Some e.1)) (looks_alike es (IsDistinct-tail id_eq e.0 (keys_of es) apart) (rest_shared e es apart shared) id)
    ∙ ap (λ b. cond b (Some e.1) (opening_object (map object_in es) id)) (id_turned id e.0 ∙ ap (λ i. id_eq i id) (sym (first_own e es shared)))

pub shares_opening : (entries : Shelved) → AreApart entries → AreShared entries → IsOpening entries
shares_opening entries apart shared = record {
  at = looks_alike entries apart shared;
  shared = λ id. ap is_shared_object (sym (looks_alike entries apart shared id)) ∙ by (lookup (id_eq id) entries) id (shared id);
}
  where
    by : (o : Option Object) (id : ObjectId) → IsSharedUnder id o → is_shared_object o ≡ is_some o
    by None id h = refl
    by (Some o) id h = h.1

-- ---- a book of which nothing is admitted, with another opening

pub lines_alike : (limit : Option ℕ) (opening other : List Object) (a : Admission) (lines : LineMap) → a.admitted ≡ [] → AreLines limit opening a lines → AreLines limit other a lines
lines_alike limit opening other a lines none are = record {
  standing = λ id. are.standing id ∙ ap (λ (xs : List Admitted). stands opening xs id) none ∙ sym (ap (λ (xs : List Admitted). stands other xs id) none);
  writers = are.writers;
}

pub no_rows : (opening : List Object) (lines : LineMap) (rows : List (Option PendingCertificate)) → rows ≡ [] → AreRows opening lines rows
no_rows opening lines rows none = subst (AreRows opening lines) (sym none) (record { at = λ n r at. none_at n r at })

pub reopens : (old : List Object) (mid new : Shelved) (changes : List Change) → map object_in mid ≡ old → IsOpening mid → IsOpening new → Changes mid new changes
    → (id : ObjectId) → opening_object (map object_in new) id ≡ changed_by changes id (opening_object old id)
reopens old mid new changes was opens opens_new by id =
    sym (opens_new.at id) ∙ by id ∙ ap (changed_by changes id) (opens.at id ∙ ap (λ (os : List Object). opening_object os id) was)
