-- Places under names, as one comes or goes.
use Rattle.std.proofs.Common.{◌≡◌, ℕ, Bool, true, false, cond, List, [], ◌∷◌, Option, Some, None, length, refl, ap, sym, subst, ◌∙◌, inl, inr, ◌<◌, ◌≤◌, arith}
use Rattle.std.specs.Prelude.{◌⊎◌, IfNone, IfSome, IsSome, ◌↔◌}
use Rattle.std.specs.List.{list_any}
use Rattle.std.specs.Map.{lookup}
use Rattle.std.specs.Ordering.{is_eq, nat_cmp}
use Rattle.std.specs.declared.cmp.Ordering.{Ordering}
use Rattle.std.specs.declared.cmp.Ordering.TheVariants.{Less, Equal, Greater}
use Rattle.std.specs.BTreeMap.{is_at}
use Rattle.std.specs.BTreeSet.{BTreeSet, IsLowerBound, Updates, UpdatesBy, contains}
use Rattle.std.proofs.lemmas.Map.Keys.{le_from_not_gt}
use Rattle.std.proofs.lemmas.Map.Lookups.{exact_unsigned}
use Rattle.digest_core.specs.declared.Digest.{Digest}
use Rattle.chain_types.specs.Equal.{digest_eq}
use Rattle.version_assign.specs.Waiting.{KeepsShelf, Pops, Shelf, count_in, count_under, is_in, is_under}
use Rattle.protocol_spec.proofs.Equality.{digest_same, digest_self}

-- ---- sets

at_same : (k q : ℕ) → is_at (nat_cmp k) q ≡ true → k ≡ q
at_same k q at = go (nat_cmp k q) refl at
  where
    go : (o : Ordering) → nat_cmp k q ≡ o → is_eq o ≡ true → k ≡ q
    go Less is at = absurd (cc)
    go Equal is at = exact_unsigned k q is
    go Greater is at = absurd (cc)

pub set_grows : (old new : BTreeSet ℕ) (k : ℕ) → Updates nat_cmp old new k true → (p : ℕ) → contains nat_cmp old p ≡ true → contains nat_cmp new p ≡ true
set_grows old new k u p has = u.0 p ∙ by (is_at (nat_cmp k) p)
  where
    by : (b : Bool) → cond b true (contains nat_cmp old p) ≡ true
    by true = refl
    by false = has

pub set_left : (old new : BTreeSet ℕ) (k : ℕ) → UpdatesBy nat_cmp (nat_cmp k) old new false → (p : ℕ) → contains nat_cmp old p ≡ true → (p ≡ k) ⊎ (contains nat_cmp new p ≡ true)
set_left old new k u p has = go (is_at (nat_cmp k) p) refl
  where
    go : (b : Bool) → is_at (nat_cmp k) p ≡ b → (p ≡ k) ⊎ (contains nat_cmp new p ≡ true)
    go true is = inl (sym (at_same k p is))
    go false is = inr (u.0 p ∙ ap (λ b. cond b false (contains nat_cmp old p)) is ∙ has)

was_in : (old new : BTreeSet ℕ) (k : ℕ) → UpdatesBy nat_cmp (nat_cmp k) old new false → (p : ℕ) → contains nat_cmp new p ≡ true → contains nat_cmp old p ≡ true
was_in old new k u p has = go (is_at (nat_cmp k) p) (sym (u.0 p) ∙ has)
  where
    go : (b : Bool) → cond b false (contains nat_cmp old p) ≡ true → contains nat_cmp old p ≡ true
    go true e = absurd (cc)
    go false e = e

pub set_least : (old new : BTreeSet ℕ) (k : ℕ) → UpdatesBy nat_cmp (nat_cmp k) old new false → IsLowerBound nat_cmp old k → (q : ℕ) → contains nat_cmp new q ≡ true → k ≤ q
set_least old new k u least q has = le_from_not_gt k q (least q (was_in old new k u q has))

-- ---- shelves

abbrev pub Reads : Shelf → Shelf → Digest → BTreeSet ℕ → Type 0
Reads old new name after = (q : Digest) → lookup (digest_eq q) new ≡ cond (digest_eq name q) (Some after) (lookup (digest_eq q) old)

reads_same : (old new : Shelf) (name other : Digest) (after : BTreeSet ℕ) (p : ℕ) → Reads old new name after → digest_eq name other ≡ true → is_under new other p ≡ contains nat_cmp after p
reads_same old new name other after p reads same = ap (λ o. is_in o p) (reads other ∙ ap (λ c. cond c (Some after) (lookup (digest_eq other) old)) same)

reads_other : (old new : Shelf) (name other : Digest) (after : BTreeSet ℕ) (p : ℕ) → Reads old new name after → digest_eq name other ≡ false → is_under new other p ≡ is_under old other p
reads_other old new name other after p reads apart = ap (λ o. is_in o p) (reads other ∙ ap (λ c. cond c (Some after) (lookup (digest_eq other) old)) apart)

pub shelf_kept : (old new : Shelf) (name : Digest) (after : BTreeSet ℕ) → ((p : ℕ) → is_under old name p ≡ true → contains nat_cmp after p ≡ true) → Reads old new name after → KeepsShelf old new
shelf_kept old new name after more reads other p has = go (digest_eq name other) refl
  where
    go : (b : Bool) → digest_eq name other ≡ b → is_under new other p ≡ true
    go true same = reads_same old new name other after p reads same ∙ more p (subst (λ (d : Digest). is_under old d p ≡ true) (sym (digest_same name other same)) has)
    go false apart = reads_other old new name other after p reads apart ∙ has

pub nothing_in : (set : BTreeSet ℕ) → (0 < length set.keys → ⊥) → (q : ℕ) → contains nat_cmp set q ≡ false
nothing_in set none q = go set.keys none
  where
    go : (ks : List ℕ) → (0 < length ks → ⊥) → list_any (is_at (nat_cmp q)) ks ≡ false
    go [] none = refl
    go (k ∷ ks) none = absurd (none (omega arith))

pub popped : (old new : Shelf) (name : Digest) (before after : BTreeSet ℕ) (r : Option ℕ) → lookup (digest_eq name) old ≡ Some before → Reads old new name after
    → (IsSome r ↔ (0 < length before.keys)) → IfSome r (λ k. before.keys ≡ k ∷ after.keys) → IfSome r (IsLowerBound nat_cmp before) → IfSome r (λ k. Updates nat_cmp before after k false) → IfNone r (after.keys ≡ before.keys)
    → Pops old new name r
popped old new name before after None was reads some removal least updates same = record {
  kept = shelf_kept old new name after (λ p has. ap (λ ks. list_any (is_at (nat_cmp p)) ks) same ∙ sym (ap (λ o. is_in o p) was) ∙ has) reads;
  none = λ q. reads_same old new name name after q reads (digest_self name) ∙ ap (λ ks. list_any (is_at (nat_cmp q)) ks) same ∙ nothing_in before (λ more. none_some (some.1 more)) q;
}
  where
    none_some : IsSome {T = ℕ} None → ⊥
    none_some h = cc
popped old new name before after (Some k) was reads some removal least updates same = record {
  kept = λ other q has. go other q has (digest_eq name other) refl;
  least = λ q has. set_least before after k updates least q (sym (reads_same old new name name after q reads (digest_self name)) ∙ has);
  fewer =
      let n : count_under new name ≡ length after.keys = ap count_in (reads name ∙ ap (λ c. cond c (Some after) (lookup (digest_eq name) old)) (digest_self name)) in
      let m : count_under old name ≡ length before.keys = ap count_in was in
      let l : length before.keys ≡ length (k ∷ after.keys) = ap length removal in
      omega arith;
}
  where
    go : (other : Digest) (q : ℕ) → is_under old other q ≡ true → (b : Bool) → digest_eq name other ≡ b → (is_under new other q ≡ true) ⊎ ((name ≡ other) × (q ≡ k))
    go other q has true same =
        by (set_left before after k updates q (sym (ap (λ o. is_in o q) was) ∙ subst (λ (d : Digest). is_under old d q ≡ true) (sym (digest_same name other same)) has))
      where
        by : (q ≡ k) ⊎ (contains nat_cmp after q ≡ true) → (is_under new other q ≡ true) ⊎ ((name ≡ other) × (q ≡ k))
        by (inl is) = inr (digest_same name other same, is)
        by (inr in_) = inl (reads_same old new name other after q reads same ∙ in_)
    go other q has false apart = inl (reads_other old new name other after q reads apart ∙ has)
