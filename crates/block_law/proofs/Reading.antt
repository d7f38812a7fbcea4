-- What is known of arguments that no cause refuses.
use Rattle.std.proofs.Common.{refl, ap, subst, ◌∙◌}
use Rattle.std.specs.Prelude.{◌≡◌, Bool, true, false, not, ◌&&◌, ◌||◌, List, [], ◌∷◌, ◌++◌, map, Option, Some, None}
use Rattle.std.specs.List.{list_any}
use Rattle.chain_types.specs.declared.objects.Kind.{Kind}
use Rattle.chain_types.specs.declared.transactions.Argument.{Argument}
use Rattle.chain_types.specs.declared.transactions.Command.{Command}
use Rattle.chain_types.specs.declared.transactions.Transaction.{Transaction}
use Rattle.protocol_spec.specs.declared.pieces.Item.{Item}
use Rattle.protocol_spec.proofs.ListLemmas.{all_none}
use Rattle.protocol_spec.proofs.Truth.{where_false, or_false_left}
use Rattle.protocol_spec.specs.Chain.Words.{Each, where_true}
use Rattle.protocol_spec.specs.Chain.Tests.{kind_eq}
use Rattle.protocol_spec.specs.Block.Natives.{kind_of}
use Rattle.protocol_spec.specs.Block.Block.{Value, pure, object, vector, Block, place_eq, value_in}
use Rattle.protocol_spec.specs.Block.Commands.{Need, by_value, by_mut, all_by, place_of, has_no_result, is_right_kind, takes_value, changes_value, stays_in_place, is_frozen_place, is_pure, is_aliased, value_cases, value_cause, argument_cause, arguments_cause, items_in}
use Rattle.block_law.proofs.Slots.{Others, Lies}

-- ---- no case applies

-- ---- one argument

pub record IsRead (t : Transaction) (b : Block) (c : Command) (earlier : List Argument) (a : Argument) (need : Need) : Type 0 where
  pub value : Value
  pub there : value_in (place_of a) b.slots ≡ Some value
  pub fitting : is_right_kind need value ≡ true
  pub moves : (takes_value need && stays_in_place t c (place_of a)) ≡ false
  pub thaws : (changes_value need && is_frozen_place t (place_of a)) ≡ false
  pub apart : is_aliased earlier a value ≡ false

pub argument-read : (t : Transaction) (b : Block) (c : Command) (earlier : List Argument) (a : Argument) (need : Need) → argument_cause t b c earlier a need ≡ None → IsRead t b c earlier a need
argument-read t b c earlier a need e = go (value_in (place_of a) b.slots) refl (all_none (where_true (has_no_result b a) 2 ∷ value_cause t c earlier a need (value_in (place_of a) b.slots) ∷ []) e).1.0
  where
    go : (v : Option Value) → value_in (place_of a) b.slots ≡ v → value_cause t c earlier a need v ≡ None → IsRead t b c earlier a need
    go None h e = absurd (cc)
    go (Some value) h e =
        let n = all_none (value_cases t c earlier a need value) e in
        record {
          value = value;
          there = h;
          fitting = not-false (is_right_kind need value) (where_false (not (is_right_kind need value)) 4 n.1.0);
          moves = where_false (takes_value need && stays_in_place t c (place_of a)) 5 n.1.1.0;
          thaws = where_false (changes_value need && is_frozen_place t (place_of a)) 6 n.1.1.1.0;
          apart = where_false (is_aliased earlier a value) 7 n.1.1.1.1.0;
        }
      where
        not-false : (x : Bool) → not x ≡ false → x ≡ true
        not-false true e = refl
        not-false false e = absurd (cc)

-- ---- all arguments, from left to right

abbrev pub AllRead : Transaction → Block → Command → List Argument → List (Argument × Need) → Type 0
AllRead t b c earlier [] = Unit {0}
AllRead t b c earlier (x ∷ rest) = IsRead t b c earlier x.0 x.1 × AllRead t b c (earlier ++ x.0 ∷ []) rest

pub all-read : (t : Transaction) (b : Block) (c : Command) (earlier : List Argument) (needs : List (Argument × Need)) → arguments_cause t b c earlier needs ≡ None → AllRead t b c earlier needs
all-read t b c earlier [] e = tt
all-read t b c earlier (x ∷ rest) e =
    let n = all_none (argument_cause t b c earlier x.0 x.1 ∷ arguments_cause t b c (earlier ++ x.0 ∷ []) rest ∷ []) e in
    (argument-read t b c earlier x.0 x.1 n.0, all-read t b c (earlier ++ x.0 ∷ []) rest n.1.0)

-- ---- places are apart

-- the argument is among the earlier ones
abbrev pub Covers : Argument → List Argument → Type 0
Covers a earlier = (test : Argument → Bool) → list_any test earlier ≡ false → test a ≡ false

any-split : (test : Argument → Bool) (xs : List Argument) (y : Argument) → list_any test (xs ++ y ∷ []) ≡ false → (list_any test xs ≡ false) × (test y ≡ false)
any-split test [] y e = (refl, or_false_left (test y) false e)
any-split test (x ∷ xs) y e = go (test x) e (any-split test xs y)
  where
    go : (b : Bool) → (b || list_any test (xs ++ y ∷ [])) ≡ false → (list_any test (xs ++ y ∷ []) ≡ false → (list_any test xs ≡ false) × (test y ≡ false)) → ((b || list_any test xs) ≡ false) × (test y ≡ false)
    go true e rest = absurd (cc)
    go false e rest = rest e

pub covers-last : (a : Argument) (earlier : List Argument) → Covers a (earlier ++ a ∷ [])
covers-last a earlier = λ test e. (any-split test earlier a e).1

pub covers-more : (a x : Argument) (earlier : List Argument) → Covers a earlier → Covers a (earlier ++ x ∷ [])
covers-more a x earlier covers = λ test e. covers test (any-split test earlier x e).0

-- an object or vector lies elsewhere than an earlier argument
pub apart-from : (t : Transaction) (b : Block) (c : Command) (earlier : List Argument) (x a : Argument) (need : Need) → Covers x earlier → (r : IsRead t b c earlier a need) → is_pure r.value ≡ false → place_eq (place_of x) (place_of a) ≡ false
apart-from t b c earlier x a need covers r solid = covers (λ e. place_eq (place_of e) (place_of a)) (go (is_pure r.value) solid r.apart)
  where
    go : (p : Bool) → p ≡ false → (not p && list_any (λ e. place_eq (place_of e) (place_of a)) earlier) ≡ false → list_any (λ e. place_eq (place_of e) (place_of a)) earlier ≡ false
    go true s e = absurd (cc)
    go false s e = e

-- ---- kinds

pub is-object : (k : Option Kind) (v : Value) → is_right_kind (by_value k) v ≡ true → (i : Item) × (v ≡ object i)
is-object None (object i) e = (i, refl)
is-object (Some k) (object i) e = (i, refl)
is-object None (pure bytes) e = absurd (cc)
is-object (Some k) (pure bytes) e = absurd (cc)
is-object None (vector k is) e = absurd (cc)
is-object (Some l) (vector k is) e = absurd (cc)

pub is-changed : (k : Kind) (v : Value) → is_right_kind (by_mut k) v ≡ true → (i : Item) × ((v ≡ object i) × (kind_eq (kind_of i.content) k ≡ true))
is-changed k (object i) e = (i, (refl, e))
is-changed k (pure bytes) e = absurd (cc)
is-changed k (vector l is) e = absurd (cc)

-- ---- arguments by value

-- they lie apart, are objects, and none of their places must stay
pub record Takes (t : Transaction) (b : Block) (c : Command) (args : List Argument) : Type 0 where
  pub items : List Item
  pub lies : Lies b.slots args (map object items)
  pub found : items_in b args ≡ items
  pub moves : Each (λ (a : Argument). stays_in_place t c (place_of a) ≡ false) args

pub takes-others : (t : Transaction) (b : Block) (c : Command) (k : Option Kind) (earlier args : List Argument) (more : List (Argument × Need)) (x : Argument) → Covers x earlier → AllRead t b c earlier (all_by (by_value k) args ++ more) → Others (place_of x) args
takes-others t b c k earlier [] more x covers read = tt
takes-others t b c k earlier (a ∷ args) more x covers read =
    let o = is-object k read.0.value read.0.fitting in (
      apart-from t b c earlier x a (by_value k) covers read.0 (ap is_pure o.1),
      takes-others t b c k (earlier ++ a ∷ []) args more x (covers-more x a earlier covers) read.1,
    )

pub takes : (t : Transaction) (b : Block) (c : Command) (k : Option Kind) (earlier args : List Argument) (more : List (Argument × Need)) → AllRead t b c earlier (all_by (by_value k) args ++ more) → Takes t b c args
takes t b c k earlier [] more read = record { items = []; lies = tt; found = refl; moves = tt }
takes t b c k earlier (a ∷ args) more read =
    let o = is-object k read.0.value read.0.fitting in
    let rest = takes t b c k (earlier ++ a ∷ []) args more read.1 in
    let there : value_in (place_of a) b.slots ≡ Some (object o.0) = read.0.there ∙ ap Some o.1 in
    record {
      items = o.0 ∷ rest.items;
      lies = (there, (takes-others t b c k (earlier ++ a ∷ []) args more a (covers-last a earlier) read.1, rest.lies));
      found = rw there (ap (λ is. o.0 ∷ is) rest.found);
      moves = (read.0.moves, rest.moves);
    }

-- what all of them have
pub takes-each : (P : Item → Type 0) (t : Transaction) (b : Block) (c : Command) (k : Kind) (earlier args : List Argument) (more : List (Argument × Need)) (read : AllRead t b c earlier (all_by (by_value (Some k)) args ++ more)) → ((i : Item) → kind_eq (kind_of i.content) k ≡ true → P i) → Each P (items_in b args)
takes-each P t b c k earlier [] more read fact = tt
takes-each P t b c k earlier (a ∷ args) more read fact =
    let o = is-object (Some k) read.0.value read.0.fitting in
    let there : value_in (place_of a) b.slots ≡ Some (object o.0) = read.0.there ∙ ap Some o.1 in
    let fitting : kind_eq (kind_of o.0.content) k ≡ true = subst (λ (v : Value). is_right_kind (by_value (Some k)) v ≡ true) o.1 read.0.fitting in
    rw there (fact o.0 fitting, takes-each P t b c k (earlier ++ a ∷ []) args more read.1 fact)
