-- A shared input keeps its place: the object of a mutable one is written under its id and with its owner.
use Rattle.std.proofs.Common.{inl, inr, refl, ap, sym, subst, ◌∙◌, arith}
use Rattle.std.proofs.lemmas.Bool.{eq-eqb}
use Rattle.std.specs.Prelude.{◌≡◌, ◌+◌, ℕ, suc, Bool, true, false, cond, List, [], ◌∷◌, ◌++◌, map, zip, filter, filter_map, find, slice_get, option_and_then, Option, Some, None, Result, Ok, Err}
use Rattle.std.specs.List.{cons_option}
use Rattle.chain_types.specs.declared.objects.ObjectId.{ObjectId}
use Rattle.chain_types.specs.declared.objects.Object.{Object}
use Rattle.chain_types.specs.declared.transactions.Input.{Input}
use Rattle.chain_types.specs.declared.transactions.Input.TheVariants as inputs
use Rattle.chain_types.specs.declared.transactions.Transaction.{Transaction}
use Rattle.chain_types.specs.Digests.{transaction_digest, is_object}
use Rattle.protocol_spec.specs.declared.pieces.Item.{Item}
use Rattle.protocol_spec.proofs.ListLemmas.{each_has, has_left, has_map}
use Rattle.protocol_spec.specs.Chain.Words.{Has}
use Rattle.protocol_spec.specs.Chain.Keys.{objects_of, version_of}
use Rattle.protocol_spec.specs.Block.Block.{Place, gas, input, result, Value, pure, object, vector, Slot, Block, place_eq, slot_value, value_in}
use Rattle.protocol_spec.specs.Block.Commands.{is_common, is_read_only, piece_of}
use Rattle.protocol_spec.specs.Block.Execution.{Failure, first_slots, outcome, object_at, now_in, after_block, written_inputs, written_places, created_objects, with_rest, with_rest_first, done_objects, same_object, less_cost, less_cost_first, failed_objects, execution, executed_by}
use Rattle.block_law.proofs.Slots.{place-same, Every}
use Rattle.block_law.proofs.Kept.{Turned, Good, Stands}
use Rattle.block_law.proofs.Blocks.{done-is}
use Rattle.block_law.proofs.Effects.{IsOrigin, origins, good-id}
use Rattle.block_law.specs.Shared.{IsWrittenAgain}

-- ---- lists

pub has-chosen : {A B : Type 0} (f : A → Option B) (xs : List A) (x : A) (y : B) → Has xs x → f x ≡ Some y → Has (filter_map f xs) y
has-chosen f [] x y h e = absurd h
has-chosen {A = A} {B = B} f (z ∷ zs) x y h e = go (f z) refl h (λ k. has-chosen f zs x y k e)
  where
    same : (a b : B) → Some a ≡ Some b → a ≡ b
    same a b e = cc

    go : (o : Option B) → f z ≡ o → Has (z ∷ zs) x → (Has zs x → Has (filter_map f zs) y) → Has (cons_option o (filter_map f zs)) y
    go None q (inl p) rest = absurd (let s = ap f p in cc)
    go None q (inr k) rest = rest k
    go (Some w) q (inl p) rest = inl (same w y (sym q ∙ ap f p ∙ e))
    go (Some w) q (inr k) rest = inr (rest k)

pub at-index : {A : Type 0} (xs : List A) (a b : ℕ) → a ≡ b → slice_get xs a ≡ slice_get xs b
at-index xs a b e = ap (slice_get xs) e

-- ---- the place of an input that may be written

-- the list of inputs from this number on
abbrev pub From : List Input → ℕ → List Input → Type 0
From whole n is = (k : ℕ) → slice_get whole (n + k) ≡ slice_get is k

pub from-next : (whole : List Input) (n : ℕ) (i : Input) (is : List Input) → From whole n (i ∷ is) → From whole (suc n) is
from-next whole n i is from = λ k. at-index whole (suc n + k) (n + suc k) (omega arith) ∙ from (suc k)

pub from-here : (whole : List Input) (n : ℕ) (i : Input) (is : List Input) → From whole n (i ∷ is) → slice_get whole n ≡ Some i
from-here whole n i is from = at-index whole n (n + 0) (omega arith) ∙ from 0

-- the place has the number of the input
record IsLying (whole : List Input) (places : List (Place × Object)) (i : Input) (o : Object) : Type 0 where
  number : ℕ
  at : slice_get whole number ≡ Some i
  among : Has places (input number, o)

lying-more : (whole : List Input) (places : List (Place × Object)) (x : Place × Object) (i : Input) (o : Object) → IsLying whole places i o → IsLying whole (x ∷ places) i o
lying-more whole places x i o it = record { number = it.number; at = it.at; among = inr it.among }

module _ (whole : List Input) (id : ObjectId) (initial : ℕ) (o : Object) where
  abbrev shared : Input
  shared = inputs.Shared id initial true

  lies : (n : ℕ) (is : List Input) (os : List Object) → From whole n is → Has (zip (filter is_object is) os) (shared, o) → IsLying whole (written_inputs n is os) shared o
  lies n [] os from h = absurd h
  lies n (inputs.Pure bytes ∷ is) os from h = lies (suc n) is os (from-next whole n (inputs.Pure bytes) is from) h
  lies n (inputs.Owned r ∷ is) [] from h = absurd h
  lies n (inputs.Owned r ∷ is) (p ∷ os) from (inl e) = absurd (let first = ap (λ (z : Input × Object). z.0) e in cc)
  lies n (inputs.Owned r ∷ is) (p ∷ os) from (inr h) = lying-more whole (written_inputs (suc n) is os) (input n, p) shared o (lies (suc n) is os (from-next whole n (inputs.Owned r) is from) h)
  lies n (inputs.Immutable r ∷ is) [] from h = absurd h
  lies n (inputs.Immutable r ∷ is) (p ∷ os) from (inl e) = absurd (let first = ap (λ (z : Input × Object). z.0) e in cc)
  lies n (inputs.Immutable r ∷ is) (p ∷ os) from (inr h) = lies (suc n) is os (from-next whole n (inputs.Immutable r) is from) h
  lies n (inputs.Shared x k mutable ∷ is) [] from h = absurd h
  lies n (inputs.Shared x k true ∷ is) (p ∷ os) from (inl e) = record {
    number = n;
    at = from-here whole n (inputs.Shared x k true) is from ∙ ap (λ (z : Input × Object). Some z.0) e;
    among = inl (ap (λ (z : Input × Object). (input n, z.1)) e);
  }
  lies n (inputs.Shared x k true ∷ is) (p ∷ os) from (inr h) = lying-more whole (written_inputs (suc n) is os) (input n, p) shared o (lies (suc n) is os (from-next whole n (inputs.Shared x k true) is from) h)
  lies n (inputs.Shared x k false ∷ is) (p ∷ os) from (inl e) = absurd (let first = ap (λ (z : Input × Object). z.0) e in cc)
  lies n (inputs.Shared x k false ∷ is) (p ∷ os) from (inr h) = lies (suc n) is os (from-next whole n (inputs.Shared x k false) is from) h

-- ---- a place is found after all commands

place-refl : (p : Place) → place_eq p p ≡ true
place-refl gas = refl
place-refl (input n) = eq-eqb n n refl
place-refl (result c k) = let a = eq-eqb c c refl in let b = eq-eqb k k refl in rw a b

find-here : (p : Place) (s : Slot) (slots : List Slot) → s.place ≡ p → find (λ (z : Slot). place_eq z.place p) (s ∷ slots) ≡ Some s
find-here p s slots e = let same : place_eq s.place p ≡ true = subst (λ q. place_eq q p ≡ true) (sym e) (place-refl p) in rw same refl

abbrev IsThere : Place → List Slot → Type 0
IsThere p slots = (s : Slot) × (find (λ (z : Slot). place_eq z.place p) slots ≡ Some s)

there-next : (p : Place) (s : Slot) (slots : List Slot) → IsThere p slots → IsThere p (s ∷ slots)
there-next p s slots there = go (place_eq s.place p)
  where
    go : (b : Bool) → (z : Slot) × (cond b (Some s) (find (λ (z : Slot). place_eq z.place p) slots) ≡ Some z)
    go true = (s, refl)
    go false = there

stands-there : (places : List Place) (p : Place) (slots : List Slot) → Has places p → Stands places slots → IsThere p slots
stands-there [] p slots h stands = absurd h
stands-there (q ∷ places) p [] h stands = absurd stands
stands-there (q ∷ places) p (s ∷ slots) (inl e) stands = (s, find-here p s slots (stands.0 ∙ e))
stands-there (q ∷ places) p (s ∷ slots) (inr h) stands = there-next p s slots (stands-there places p slots h stands.1)

value-there : (p : Place) (v : Value) (slots : List Slot) → value_in p slots ≡ Some v → Has (map (λ (s : Slot). s.place) slots) p
value-there p v [] e = absurd (cc)
value-there p v (s ∷ slots) e = go (place_eq s.place p) refl e (value-there p v slots)
  where
    go : (b : Bool) → place_eq s.place p ≡ b → option_and_then slot_value (cond b (Some s) (find (λ (z : Slot). place_eq z.place p) slots)) ≡ Some v → (value_in p slots ≡ Some v → Has (map (λ (z : Slot). z.place) slots) p) → Has (map (λ (z : Slot). z.place) (s ∷ slots)) p
    go true h e rest = inl (place-same s.place p h)
    go false h e rest = inr (rest e)

found-every : (P : Place → Option Value → Type 0) (p : Place) (s : Slot) (slots : List Slot) → Every P slots → find (λ (z : Slot). place_eq z.place p) slots ≡ Some s → P p s.value
found-every P p s [] each e = absurd (cc)
found-every P p s (z ∷ slots) each e = go (place_eq z.place p) refl e (found-every P p s slots each.1)
  where
    same : Some z ≡ Some s → z ≡ s
    same e = cc

    go : (b : Bool) → place_eq z.place p ≡ b → cond b (Some z) (find (λ (y : Slot). place_eq y.place p) slots) ≡ Some s → (find (λ (y : Slot). place_eq y.place p) slots ≡ Some s → P p s.value) → P p s.value
    go true h e rest = subst (λ (y : Slot). P p y.value) (same e) (subst (λ q. P q z.value) (place-same z.place p h) each.0)
    go false h e rest = rest e

-- ---- a shared input is never spent

pub record IsStill (b : Block) (p : Place) (o : Object) : Type 0 where
  pub now : Item
  pub there : value_in p b.slots ≡ Some (object now)
  pub same : now.id ≡ o.id

module _ (t : Transaction) (first : List Slot) (b : Block) (n : ℕ) (id : ObjectId) (initial : ℕ) (o : Object) (at : slice_get t.inputs n ≡ Some (inputs.Shared id initial true)) (origin : IsOrigin first (input n, o)) where
  still-value : (v : Option Value) → value_in (input n) b.slots ≡ v → Good t first b.placed (input n) v → IsStill b (input n) o
  still-value None e good = absurd (let common = ap is_common at in cc)
  still-value (Some (object now)) e good = record { now = now; there = e; same = good-id t first b.placed (input n, o) now origin good }
  still-value (Some (pure bytes)) e good = absurd (turned (subst (λ (i : Option Input). Turned (is_read_only i) (value_in (input n) first) (pure bytes)) at good))
    where
      turned : Turned false (value_in (input n) first) (pure bytes) → ⊥
      turned g = subst (λ (v : Option Value). Turned false v (pure bytes)) origin.there g
  still-value (Some (vector k is)) e good = absurd (turned (subst (λ (i : Option Input). Turned (is_read_only i) (value_in (input n) first) (vector k is)) at good))
    where
      turned : Turned false (value_in (input n) first) (vector k is) → ⊥
      turned g = subst (λ (v : Option Value). Turned false v (vector k is)) origin.there g

  pub still : Every (Good t first b.placed) b.slots → Stands (map (λ (s : Slot). s.place) first) b.slots → IsStill b (input n) o
  still good stands =
      let s = stands-there (map (λ (s : Slot). s.place) first) (input n) b.slots (value-there (input n) (object origin.before) first origin.there) stands in
      still-value s.0.value (ap (option_and_then slot_value) s.1) (found-every (Good t first b.placed) (input n) s.0 b.slots good s.1)

-- ---- so it is written

again-front : (xs ys : List Object) (version : ℕ) (o : Object) → IsWrittenAgain xs version o → IsWrittenAgain (xs ++ ys) version o
again-front xs ys version o it = record { now = it.now; written = has_left xs ys it.now it.written; id = it.id; version_is = it.version_is; owner_is = it.owner_is }

-- the gas coin keeps all but its content
again-rest : (t : Transaction) (xs : List Object) (version : ℕ) (o : Object) → IsWrittenAgain xs version o → IsWrittenAgain (with_rest_first t xs) version o
again-rest t [] version o it = absurd it.written
again-rest t (x ∷ xs) version o it = go it.written
  where
    go : Has (x ∷ xs) it.now → IsWrittenAgain (with_rest_first t (x ∷ xs)) version o
    go (inl e) = record { now = with_rest t x; written = inl refl; id = ap (λ (y : Object). y.id) e ∙ it.id; version_is = ap (λ (y : Object). y.version) e ∙ it.version_is; owner_is = ap (λ (y : Object). y.owner) e ∙ it.owner_is }
    go (inr h) = record { now = it.now; written = inr h; id = it.id; version_is = it.version_is; owner_is = it.owner_is }

again-cost : (t : Transaction) (xs : List Object) (version : ℕ) (o : Object) → IsWrittenAgain xs version o → IsWrittenAgain (less_cost_first t xs) version o
again-cost t [] version o it = absurd it.written
again-cost t (x ∷ xs) version o it = go it.written
  where
    go : Has (x ∷ xs) it.now → IsWrittenAgain (less_cost_first t (x ∷ xs)) version o
    go (inl e) = record { now = less_cost t x; written = inl refl; id = ap (λ (y : Object). y.id) e ∙ it.id; version_is = ap (λ (y : Object). y.version) e ∙ it.version_is; owner_is = ap (λ (y : Object). y.owner) e ∙ it.owner_is }
    go (inr h) = record { now = it.now; written = inr h; id = it.id; version_is = it.version_is; owner_is = it.owner_is }

module _ (t : Transaction) (objects : List Object) (id : ObjectId) (initial : ℕ) (o : Object) (lie : IsLying t.inputs (written_places t objects) (inputs.Shared id initial true) o) where
  abbrev place : Place × Object
  place = (input lie.number, o)

  done-again : (b : Block) → outcome t (transaction_digest t) objects ≡ Ok b → IsWrittenAgain (done_objects t (transaction_digest t) objects b) (version_of objects) o
  done-again b e =
      let kept = (done-is t (transaction_digest t) objects b e).kept in
      let s = still t (first_slots t objects) b lie.number id initial o lie.at (each_has (IsOrigin (first_slots t objects)) (written_places t objects) place (origins t objects) lie.among) kept.good kept.stands in
      let left : after_block (version_of objects) b (input lie.number) o ≡ Some (object_at (version_of objects) o.owner s.now) = ap (λ (v : Option Value). now_in (version_of objects) b.placed o (piece_of v)) s.there in
      again-front (with_rest_first t (filter_map (λ (x : Place × Object). after_block (version_of objects) b x.0 x.1) (written_places t objects))) (created_objects (transaction_digest t) (version_of objects) b) (version_of objects) o
      (again-rest t (filter_map (λ (x : Place × Object). after_block (version_of objects) b x.0 x.1) (written_places t objects)) (version_of objects) o (record {
        now = object_at (version_of objects) o.owner s.now;
        written = has-chosen (λ (x : Place × Object). after_block (version_of objects) b x.0 x.1) (written_places t objects) place (object_at (version_of objects) o.owner s.now) lie.among left;
        id = s.same;
        version_is = refl;
        owner_is = refl;
      }))

  failed-again : IsWrittenAgain (failed_objects t objects) (version_of objects) o
  failed-again = again-cost t (map (λ (x : Place × Object). same_object (version_of objects) x.1) (written_places t objects)) (version_of objects) o (record {
    now = same_object (version_of objects) o;
    written = has_map (λ (x : Place × Object). same_object (version_of objects) x.1) (written_places t objects) place lie.among;
    id = refl;
    version_is = refl;
    owner_is = refl;
  })

  both-again : IsWrittenAgain (execution t objects).objects (version_of objects) o
  unfolding execution
  both-again = go (outcome t (transaction_digest t) objects) refl
    where
      go : (r : Result Block Failure) → outcome t (transaction_digest t) objects ≡ r → IsWrittenAgain (executed_by t (transaction_digest t) objects r).objects (version_of objects) o
      go (Ok b) e = done-again b e
      go (Err failure) e = failed-again

pub shared-written : (t : Transaction) (objects : List Object) (id : ObjectId) (initial : ℕ) (o : Object) → Has (zip (objects_of t) objects) (inputs.Shared id initial true, o) → IsWrittenAgain (execution t objects).objects (version_of objects) o
shared-written t [] id initial o h = absurd h
shared-written t (coin ∷ os) id initial o (inl e) = absurd (let first = ap (λ (z : Input × Object). z.0) e in cc)
shared-written t (coin ∷ os) id initial o (inr h) = both-again t (coin ∷ os) id initial o
    (lying-more t.inputs (written_inputs 0 t.inputs os) (gas, coin) (inputs.Shared id initial true) o (lies t.inputs id initial o 0 t.inputs os (λ k. at-index t.inputs (0 + k) k (omega arith)) h))
