-- Along admitted transactions the versions that are assigned to a shared object rise with each that writes it.
use Rattle.std.proofs.Common.{inl, inr, refl, sym, subst, ap, ◌∙◌, arith, append_assoc, append-nil}
use Rattle.std.specs.Prelude.{◌≡◌, ◌⊎◌, ◌<◌, ◌≤◌, ℕ, max, Bool, true, false, ◌||◌, List, [], ◌∷◌, ◌++◌, map, fold, filter, filter_map, Option, Some, None, option_map}
use Rattle.chain_types.specs.declared.objects.ObjectId.{ObjectId}
use Rattle.chain_types.specs.declared.objects.Object.{Object}
use Rattle.chain_types.specs.declared.transactions.Input.{Input}
use Rattle.chain_types.specs.declared.transactions.Input.TheVariants as inputs
use Rattle.chain_types.specs.Equal.{id_eq}
use Rattle.chain_types.specs.Digests.{is_object, lamport_version}
use Rattle.chain_messages.specs.declared.messages.Certificate.{Certificate}
use Rattle.protocol_spec.proofs.Equality.{id_same, id_self}
use Rattle.protocol_spec.proofs.ListLemmas.{has_parts, has_map}
use Rattle.protocol_spec.specs.Chain.Words.{Has, Along, first_some, first_of, where_true, last_where}
use Rattle.protocol_spec.specs.Chain.Tests.{has_id}
use Rattle.protocol_spec.specs.Chain.Keys.{objects_of, mutable_id}
use Rattle.protocol_spec.specs.Member.Admission.{Admitted, writes, cert_of, beginning_by, standing_after, standing_or, current, taken_version, admit}
use Rattle.block_law.specs.Admitted.{IsInOrder}
use Rattle.safety_law.proofs.Lists.{has-split, along-front}

-- ---- the last of which a test holds

three : {A : Type 0} (a b c : Option A) → first_some (first_some (a ∷ b ∷ []) ∷ c ∷ []) ≡ first_some (a ∷ first_some (b ∷ c ∷ []) ∷ [])
three (Some x) b c = refl
three None (Some y) c = refl
three None None (Some z) = refl
three None None None = refl

swapped : {A : Type 0} (w : Option A) → first_some (None ∷ w ∷ []) ≡ first_some (w ∷ None ∷ [])
swapped (Some x) = refl
swapped None = refl

last-push : {A : Type 0} (test : A → Bool) (xs : List A) (x : A) → last_where test (xs ++ x ∷ []) ≡ first_some (where_true (test x) x ∷ last_where test xs ∷ [])
last-push test [] x = swapped (where_true (test x) x)
last-push {A = A} test (y ∷ ys) x = ap (λ (l : Option A). first_some (l ∷ where_true (test y) y ∷ [])) (last-push test ys x) ∙ three (where_true (test x) x) (last_where test ys) (where_true (test y) y)

-- ---- places

-- the one stands before the other
pub record IsAhead {A : Type 0} (xs : List A) (a b : A) : Type 0 where
  pub front : List A
  pub mid : List A
  pub rest : List A
  pub split : xs ≡ front ++ (a ∷ (mid ++ (b ∷ rest)))

pub two-places : {A : Type 0} (xs : List A) (a b : A) → Has xs a → Has xs b → (a ≡ b) ⊎ (IsAhead xs a b ⊎ IsAhead xs b a)
two-places {A = A} xs a b h k = go (has-split xs a h)
  where
    go : (front : List A) × (rest : List A) × (xs ≡ front ++ (a ∷ rest)) → (a ≡ b) ⊎ (IsAhead xs a b ⊎ IsAhead xs b a)
    go (front, rest, split) = pick (has_parts front (a ∷ rest) b (subst (λ (zs : List A). Has zs b) split k))
      where
        pick : Has front b ⊎ Has (a ∷ rest) b → (a ≡ b) ⊎ (IsAhead xs a b ⊎ IsAhead xs b a)
        pick (inl before) =
            let r = has-split front b before in
            inr (inr (record { front = r.0; mid = r.1; rest = rest; split = split ∙ ap (λ (zs : List A). zs ++ (a ∷ rest)) r.2 ∙ append_assoc r.0 (b ∷ r.1) (a ∷ rest) }))
        pick (inr (inl e)) = inl e
        pick (inr (inr behind)) =
            let r = has-split rest b behind in
            inr (inl (record { front = front; mid = r.0; rest = r.1; split = split ∙ ap (λ (zs : List A). front ++ (a ∷ zs)) r.2 }))

along-rest : {A : Type 0} (P : List A → A → Type 0) (before front back : List A) → Along P before (front ++ back) → Along P (before ++ front) back
along-rest {A = A} P before [] back along = subst (λ (xs : List A). Along P xs back) (sym (append-nil before)) along
along-rest {A = A} P before (y ∷ front) back along = subst (λ (xs : List A). Along P xs back) (append_assoc before (y ∷ []) front) (along-rest P (before ++ y ∷ []) front back along.1)

-- ---- the ids that a transaction may write

mutable-named : (is : List Input) (id : ObjectId) → has_id (filter_map mutable_id is) id ≡ true → (initial : ℕ) × Has (filter is_object is) (inputs.Shared id initial true)
mutable-named [] id e = absurd (cc)
mutable-named (inputs.Pure bytes ∷ is) id e = mutable-named is id e
mutable-named (inputs.Owned r ∷ is) id e = let k = mutable-named is id e in (k.0, inr k.1)
mutable-named (inputs.Immutable r ∷ is) id e = let k = mutable-named is id e in (k.0, inr k.1)
mutable-named (inputs.Shared x n false ∷ is) id e = let k = mutable-named is id e in (k.0, inr k.1)
mutable-named (inputs.Shared x n true ∷ is) id e = go (id_eq id x) refl e (mutable-named is id)
  where
    go : (b : Bool) → id_eq id x ≡ b → (b || has_id (filter_map mutable_id is) id) ≡ true → (has_id (filter_map mutable_id is) id ≡ true → (initial : ℕ) × Has (filter is_object is) (inputs.Shared id initial true)) → (initial : ℕ) × Has (inputs.Shared x n true ∷ filter is_object is) (inputs.Shared id initial true)
    go true q e rest = (n, inl (ap (λ (z : ObjectId). inputs.Shared z n true) (sym (id_same id x q))))
    go false q e rest = let k = rest e in (k.0, inr k.1)

named-mutable : (is : List Input) (id : ObjectId) (initial : ℕ) → Has (filter is_object is) (inputs.Shared id initial true) → has_id (filter_map mutable_id is) id ≡ true
named-mutable [] id initial h = absurd h
named-mutable (inputs.Pure bytes ∷ is) id initial h = named-mutable is id initial h
named-mutable (inputs.Owned r ∷ is) id initial (inl e) = absurd (cc)
named-mutable (inputs.Owned r ∷ is) id initial (inr h) = named-mutable is id initial h
named-mutable (inputs.Immutable r ∷ is) id initial (inl e) = absurd (cc)
named-mutable (inputs.Immutable r ∷ is) id initial (inr h) = named-mutable is id initial h
named-mutable (inputs.Shared x n false ∷ is) id initial (inl e) = absurd (cc)
named-mutable (inputs.Shared x n false ∷ is) id initial (inr h) = named-mutable is id initial h
named-mutable (inputs.Shared x n true ∷ is) id initial h = go (id_eq id x) refl h (named-mutable is id initial)
  where
    same : inputs.Shared x n true ≡ inputs.Shared id initial true → x ≡ id
    same e = cc

    go : (b : Bool) → id_eq id x ≡ b → Has (inputs.Shared x n true ∷ filter is_object is) (inputs.Shared id initial true) → (Has (filter is_object is) (inputs.Shared id initial true) → has_id (filter_map mutable_id is) id ≡ true) → (b || has_id (filter_map mutable_id is) id) ≡ true
    go true q h rest = refl
    go false q (inl e) rest = absurd (let s = subst (λ (z : ObjectId). id_eq id z ≡ true) (sym (same e)) (id_self id) in cc)
    go false q (inr h) rest = rest h

pub writes-it : (a : Admitted) (id : ObjectId) (initial : ℕ) → Has (objects_of a.cert.tx) (inputs.Shared id initial true) → writes id a ≡ true
writes-it a id initial (inl e) = absurd (cc)
writes-it a id initial (inr h) = named-mutable a.cert.tx.inputs id initial h

-- ---- versions rise

max-start : (a : ℕ) (vs : List ℕ) → a ≤ fold max a vs
max-start a [] = omega arith
max-start a (v ∷ vs) = let rest = max-start (max a v) vs in omega (arith, rest)

max-each : (a : ℕ) (vs : List ℕ) (v : ℕ) → Has vs v → v ≤ fold max a vs
max-each a [] v h = absurd h
max-each a (w ∷ vs) v (inl e) = let rest = max-start (max a w) vs in omega (arith, rest, e)
max-each a (w ∷ vs) v (inr h) = max-each (max a w) vs v h

below-lamport : (vs : List ℕ) (v : ℕ) → Has vs v → v < lamport_version vs
unfolding lamport_version
below-lamport vs v h = let e = max-each 0 vs v h in omega (arith, e)

module _ (opening : List Object) (id : ObjectId) where
  -- a transaction that writes the object is admitted above the version that is assigned to it
  writer-above : (before : List Admitted) (y : Admitted) → IsInOrder opening before y → writes id y ≡ true → (current opening before y.cert id).0 < y.version
  unfolding admit
  writer-above before y next w =
      let i = mutable-named y.cert.tx.inputs id w in
      subst (λ (v : ℕ). (current opening before y.cert id).0 < v) (sym (ap (λ (x : Admitted). x.version) next.versions))
      (below-lamport (map (taken_version opening before y.cert) (objects_of y.cert.tx)) (current opening before y.cert id).0
      (has_map (taken_version opening before y.cert) (objects_of y.cert.tx) (inputs.Shared id i.0 true) (inr i.1)))

  current-last : (before : List Admitted) (c : Certificate) (w : Admitted) → last_where (writes id) before ≡ Some w → (current opening before c id).0 ≡ w.version
  unfolding current
  current-last before c w e = ap (λ (l : Option Admitted). (standing_or (first_some (option_map standing_after l ∷ first_of (beginning_by opening id) (map cert_of before ++ c ∷ []) ∷ []))).0) e

  -- the last that wrote it did so above this version
  record IsTop (v : ℕ) (before : List Admitted) : Type 0 where
    last : Admitted
    is_last : last_where (writes id) before ≡ Some last
    over : v < last.version

  pushed : (before : List Admitted) (y : Admitted) (t : Bool) → writes id y ≡ t → last_where (writes id) (before ++ y ∷ []) ≡ first_some (where_true t y ∷ last_where (writes id) before ∷ [])
  pushed before y t e = last-push (writes id) before y ∙ ap (λ (b : Bool). first_some (where_true b y ∷ last_where (writes id) before ∷ [])) e

  top-push : (v : ℕ) (before : List Admitted) (y : Admitted) → IsInOrder opening before y → IsTop v before → IsTop v (before ++ y ∷ [])
  top-push v before y next top = go (writes id y) refl
    where
      go : (t : Bool) → writes id y ≡ t → IsTop v (before ++ y ∷ [])
      go true w =
          let low = writer-above before y next w in
          let at = current-last before y.cert top.last top.is_last in
          let over = top.over in
          record { last = y; is_last = pushed before y true w; over = omega (arith, low, at, over) }
      go false w = record { last = top.last; is_last = pushed before y false w ∙ ap (λ (l : Option Admitted). first_some (None ∷ l ∷ [])) top.is_last; over = top.over }

  top-all : (v : ℕ) (mid before : List Admitted) → IsTop v before → Along (IsInOrder opening) before mid → IsTop v (before ++ mid)
  top-all v [] before top along = subst (IsTop v) (sym (append-nil before)) top
  top-all v (y ∷ mid) before top along = subst (IsTop v) (append_assoc before (y ∷ []) mid) (top-all v mid (before ++ y ∷ []) (top-push v before y along.0 top) along.1)

  -- of two admitted transactions the later one is assigned a greater version, if the earlier one writes the object
  pub rising : (front mid rest : List Admitted) (a b : Admitted) → Along (IsInOrder opening) [] (front ++ (a ∷ (mid ++ (b ∷ rest)))) → writes id a ≡ true → (current opening front a.cert id).0 < (current opening (front ++ (a ∷ mid)) b.cert id).0
  rising front mid rest a b along w =
      let behind = along-rest (IsInOrder opening) [] front (a ∷ (mid ++ (b ∷ rest))) along in
      let low = writer-above front a behind.0 w in
      let first : IsTop (current opening front a.cert id).0 (front ++ a ∷ []) = record { last = a; is_last = pushed front a true w; over = low } in
      let top = top-all (current opening front a.cert id).0 mid (front ++ a ∷ []) first (along-front (IsInOrder opening) (front ++ a ∷ []) mid (b ∷ rest) behind.1) in
      let at = current-last ((front ++ a ∷ []) ++ mid) b.cert top.last top.is_last in
      let over = top.over in
      subst (λ (zs : List Admitted). (current opening front a.cert id).0 < (current opening zs b.cert id).0) (append_assoc front (a ∷ []) mid) (omega (arith, at, over))

  -- both stand in order
  pub in-order : (front mid rest : List Admitted) (a b : Admitted) → Along (IsInOrder opening) [] (front ++ (a ∷ (mid ++ (b ∷ rest)))) → IsInOrder opening front a × IsInOrder opening (front ++ (a ∷ mid)) b
  in-order front mid rest a b along =
      let behind = along-rest (IsInOrder opening) [] front (a ∷ (mid ++ (b ∷ rest))) along in (
        behind.0,
        subst (λ (zs : List Admitted). IsInOrder opening zs b) (append_assoc front (a ∷ []) mid) (along-rest (IsInOrder opening) (front ++ a ∷ []) mid (b ∷ rest) behind.1).0,
      )
