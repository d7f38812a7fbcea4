-- What an equality test says, and that its two sides may be swapped.
use Rattle.std.proofs.Common.{◌≡◌, ap, ℕ, true, List, ◌∙◌, sym, Option, Some, None, refl, subst, Bool, false, ◌||◌, [], ◌∷◌, ◌++◌}
use Rattle.std.proofs.lemmas.Bool.Decides.{Decides-eqb, same_from_decides}
use Rattle.std.proofs.lemmas.Bool.{eqb-true}
use Rattle.std.proofs.lemmas.List.Folds.{list_any-append}
use Rattle.std.proofs.lemmas.Slice.Eq.{bytes_eq-Decides}
use Rattle.std.specs.Cmp.Lexicographic.{texts_ties}
use Rattle.std.specs.FinMap.{nat_cmp-IsAntisymmetric, slice_cmp-IsAntisymmetric}
use Rattle.std.specs.List.{list_any}
use Rattle.std.specs.Ordering.{eq_by_cmp}
use Rattle.std.specs.Prelude.{◌==◌, bytes_eq, ◌&&◌}
use Rattle.std.specs.declared.cmp.Ordering.TheVariants.{Equal}
use Rattle.digest_core.specs.declared.Digest.{Digest}
use Rattle.chain_types.specs.Equal.{digest_eq, id_eq, key_eq}
use Rattle.chain_types.specs.declared.objects.ObjectId.{ObjectId}
use Rattle.chain_types.specs.declared.objects.ObjectKey.{ObjectKey}
use Rattle.protocol_spec.proofs.ListLemmas.{and-first, and-second}
use Rattle.protocol_spec.proofs.Truth.{and_true}
use Rattle.protocol_spec.specs.Chain.Tests.{origin_eq, origins_eq, list_eq}
use Rattle.protocol_spec.specs.Chain.Words.{repeats}
use Rattle.protocol_spec.specs.Member.Rounds.{holds_key}
use Rattle.protocol_spec.specs.Member.Versions.{id_cmp}

pub digest_self : (a : Digest) → digest_eq a a ≡ true
digest_self a = (bytes_eq-Decides a.0 a.0).1 refl

pub id_self : (a : ObjectId) → id_eq a a ≡ true
id_self a = digest_self a.0

pub key_self : (a : ObjectKey) → key_eq a a ≡ true
key_self a = ap (λ b. b && (a.version == a.version)) (id_self a.id) ∙ (Decides-eqb a.version a.version).1 refl

pub digest_same : (a b : Digest) → digest_eq a b ≡ true → a ≡ b
digest_same a b h = ap (λ (x : List ℕ). record { 0 = x }) ((bytes_eq-Decides a.0 b.0).0 h)

pub id_same : (a b : ObjectId) → id_eq a b ≡ true → a ≡ b
id_same a b e = ap (λ (x : List ℕ). let id : ObjectId = record { 0 = record { 0 = x } } in id) ((bytes_eq-Decides a.0.0 b.0.0).0 e)

pub key_same : (a b : ObjectKey) → key_eq a b ≡ true → a ≡ b
key_same a b h =
    let p : (id_eq a.id b.id ≡ true) × ((a.version == b.version) ≡ true) = and_true (id_eq a.id b.id) (a.version == b.version) h in
    let i : a.id ≡ b.id = id_same a.id b.id p.0 in
    let v : a.version ≡ b.version = (Decides-eqb a.version b.version).0 p.1 in
    ap (λ (d : ObjectId). let k : ObjectKey = record { id = d; version = a.version } in k) i ∙ ap (λ (n : ℕ). let k : ObjectKey = record { id = b.id; version = n } in k) v

pub bytes_turned : (a b : List ℕ) → bytes_eq a b ≡ bytes_eq b a
bytes_turned a b = same_from_decides (bytes_eq a b) (bytes_eq b a) (bytes_eq-Decides a b) ((λ h. sym ((bytes_eq-Decides b a).0 h)), (λ e. (bytes_eq-Decides b a).1 (sym e)))

pub digest_turned : (a b : Digest) → digest_eq a b ≡ digest_eq b a
digest_turned a b = same_from_decides (digest_eq a b) (digest_eq b a) (bytes_eq-Decides a.0 b.0) ((λ h. sym ((bytes_eq-Decides b.0 a.0).0 h)), (λ e. (bytes_eq-Decides b.0 a.0).1 (sym e)))

pub id_turned : (x y : ObjectId) → id_eq x y ≡ id_eq y x
id_turned x y = bytes_turned x.0.0 y.0.0

pub origin_same : (a b : Option Digest) → origin_eq a b ≡ true → a ≡ b
origin_same None None e = refl
origin_same (Some a) (Some b) e = ap Some (digest_same a b e)
origin_same None (Some b) e = absurd (cc)
origin_same (Some a) None e = absurd (cc)

pub origins_same : (xs ys : List (Option Digest)) → origins_eq xs ys ≡ true → xs ≡ ys
origins_same [] [] e = refl
origins_same [] (y ∷ ys) e = absurd (cc)
origins_same (x ∷ xs) [] e = absurd (cc)
origins_same (x ∷ xs) (y ∷ ys) e = both (origin_same x y (and-first (origin_eq x y) (list_eq origin_eq xs ys) e)) (origins_same xs ys (and-second (origin_eq x y) (list_eq origin_eq xs ys) e))
  where
    both : x ≡ y → xs ≡ ys → x ∷ xs ≡ y ∷ ys
    both p q = cc

pub bytes_same : (xs ys : List ℕ) → bytes_eq xs ys ≡ true → xs ≡ ys
bytes_same [] [] e = refl
bytes_same [] (y ∷ ys) e = absurd (cc)
bytes_same (x ∷ xs) [] e = absurd (cc)
bytes_same (x ∷ xs) (y ∷ ys) e = go (x == y) refl e (bytes_same xs ys)
  where
    go : (b : Bool) → (x == y) ≡ b → (b && bytes_eq xs ys) ≡ true → (bytes_eq xs ys ≡ true → xs ≡ ys) → x ∷ xs ≡ y ∷ ys
    go true q e rest = subst (λ (z : ℕ). x ∷ xs ≡ z ∷ ys) (eqb-true x y q) (ap (λ (zs : List ℕ). x ∷ zs) (rest e))
    go false q e rest = absurd (cc)

pub test_turned : {A : Type 0} → (same : A → A → Bool) → ((a b : A) → same a b ≡ true → a ≡ b) → ((a : A) → same a a ≡ true) → (a b : A) → same a b ≡ same b a
test_turned same one self a b = go (same a b) (same b a) refl refl
  where
    go : (x y : Bool) → same a b ≡ x → same b a ≡ y → same a b ≡ same b a
    go true true p q = p ∙ sym q
    go false false p q = p ∙ sym q
    go true false p q = absurd (clash (sym (sym (ap (λ c. same b c) (sym (one a b p))) ∙ self b) ∙ q))
      where
        clash : true ≡ false → ⊥
        clash h = cc
    go false true p q = absurd (clash (sym (ap (λ c. same a c) (one b a q) ∙ self a) ∙ p))
      where
        clash : true ≡ false → ⊥
        clash h = cc

pub ids_unique : (a b : ObjectId) → id_cmp a b ≡ Equal → a ≡ b
ids_unique a b e =
    let bytes : a.0.0 ≡ b.0.0 = slice_cmp-IsAntisymmetric nat_cmp-IsAntisymmetric a.0.0 b.0.0 e in
    ap (λ (x : List ℕ). let d : Digest = record { 0 = x } in let id : ObjectId = record { 0 = d } in id) bytes

pub ids_tie : (a b : ObjectId) → id_eq a b ≡ eq_by_cmp id_cmp a b
ids_tie a b = texts_ties a.0.0 b.0.0

pub still_apart : (ds : List Digest) (d : Digest) → repeats digest_eq ds ≡ false → list_any (digest_eq d) ds ≡ false → repeats digest_eq (ds ++ d ∷ []) ≡ false
still_apart [] d apart new = refl
still_apart (x ∷ xs) d apart new =
    ap (λ b. b || repeats digest_eq (xs ++ d ∷ [])) (list_any-append (digest_eq x) xs (d ∷ []) ∙ ap (λ b. list_any (digest_eq x) xs || (b || false)) (digest_turned x d))
    ∙ by (list_any (digest_eq x) xs) (repeats digest_eq xs) (digest_eq d x) (list_any (digest_eq d) xs) apart new (still_apart xs d)
  where
    by : (a b c e : Bool) → (a || b) ≡ false → (c || e) ≡ false → (b ≡ false → e ≡ false → repeats digest_eq (xs ++ d ∷ []) ≡ false)
        → ((a || (c || false)) || repeats digest_eq (xs ++ d ∷ [])) ≡ false
    by true b c e apart new more = absurd (cc)
    by false b true e apart new more = absurd (cc)
    by false b false e apart new more = more apart new

pub none_held : (keys : List ObjectKey) → list_any (holds_key []) keys ≡ false
none_held [] = refl
none_held (k ∷ ks) = none_held ks

pub id_back : (a b : ObjectId) → id_eq a b ≡ true → id_eq b a ≡ true
id_back a b h = id_turned b a ∙ h
