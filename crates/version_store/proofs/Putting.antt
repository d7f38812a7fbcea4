-- A value is put under a key, and what stood there is put back.
use Rattle.std.proofs.Common.{arith, ◌≡◌, ◌≤◌, Bool, true, false, cond, List, [], ◌∷◌, Option, Some, None, is_some, nat_lt, refl, ap, sym, ◌∙◌}
use Rattle.std.specs.Map.{lookup, set_value}
use Rattle.std.proofs.lemmas.Bool.Decides.{nat_tests}
use Rattle.std.proofs.lemmas.Option.{same_Some}
use Rattle.indexmap.specs.IndexMap.{insert_entry}
use Rattle.digest_core.specs.declared.Digest.{Digest}
use Rattle.chain_types.specs.declared.objects.Object.{Object}
use Rattle.chain_types.specs.declared.objects.ObjectId.{ObjectId}
use Rattle.chain_types.specs.declared.objects.ObjectKey.{ObjectKey}
use Rattle.chain_types.specs.Equal.{id_eq, key_eq}
use Rattle.version_store.specs.Steps.{newer_of, with_consumer, with_newer}

module _ {K V : Type 0} (eq : K → K → Bool) (k : K) (new old : V) where
  -- a value stands there
  pub put_there : (es : List (K × V)) → lookup (eq k) es ≡ Some old → is_some (lookup (eq k) (insert_entry eq es k new)) ≡ true
  put_there [] stood = absurd (cc)
  put_there (e ∷ es) stood = go (eq k e.0) refl (put_there es)
    where
      go : (b : Bool) → eq k e.0 ≡ b → (lookup (eq k) es ≡ Some old → is_some (lookup (eq k) (insert_entry eq es k new)) ≡ true) → is_some (lookup (eq k) (cond b ((e.0, new) ∷ es) (e ∷ insert_entry eq es k new))) ≡ true
      go true is later = ap (λ t. is_some (cond t (Some new) (lookup (eq k) es))) is
      go false is later =
          ap (λ t. is_some (cond t (Some e.1) (lookup (eq k) (insert_entry eq es k new)))) is
          ∙ later (sym (ap (λ t. cond t (Some e.1) (lookup (eq k) es)) is) ∙ stood)

  -- what stood there is put after the new value, as if there had been none
  put_after : (es : List (K × V)) → lookup (eq k) es ≡ Some old → set_value (eq k) (insert_entry eq es k new) old ≡ insert_entry eq es k old
  put_after [] stood = absurd (cc)
  put_after (e ∷ es) stood = go (eq k e.0) refl (put_after es)
    where
      go : (b : Bool) → eq k e.0 ≡ b → (lookup (eq k) es ≡ Some old → set_value (eq k) (insert_entry eq es k new) old ≡ insert_entry eq es k old) → set_value (eq k) (cond b ((e.0, new) ∷ es) (e ∷ insert_entry eq es k new)) old ≡ cond b ((e.0, old) ∷ es) (e ∷ insert_entry eq es k old)
      go true is later = ap (λ t. cond t ((e.0, old) ∷ es) ((e.0, new) ∷ set_value (eq k) es old)) is
      go false is later =
          ap (λ t. cond t ((e.0, old) ∷ insert_entry eq es k new) (e ∷ set_value (eq k) (insert_entry eq es k new) old)) is
          ∙ ap (λ l. e ∷ l) (later (sym (ap (λ t. cond t (Some e.1) (lookup (eq k) es)) is) ∙ stood))

  -- nothing has changed then
  put_again : (es : List (K × V)) → lookup (eq k) es ≡ Some old → insert_entry eq es k old ≡ es
  put_again [] stood = absurd (cc)
  put_again (e ∷ es) stood = go (eq k e.0) refl (put_again es)
    where
      go : (b : Bool) → eq k e.0 ≡ b → (lookup (eq k) es ≡ Some old → insert_entry eq es k old ≡ es) → cond b ((e.0, old) ∷ es) (e ∷ insert_entry eq es k old) ≡ e ∷ es
      go true is later = ap (λ v. (e.0, v) ∷ es) (sym (same_Some _ _ (sym (ap (λ t. cond t (Some e.1) (lookup (eq k) es)) is) ∙ stood)))
      go false is later = ap (λ l. e ∷ l) (later (sym (ap (λ t. cond t (Some e.1) (lookup (eq k) es)) is) ∙ stood))

-- ---- the newer object stays

module _ (live : List (ObjectId × Object)) (o : Object) where
  pub newer_back : (held : Object) → Some held ≡ lookup (id_eq o.id) live → o.version ≤ held.version → set_value (id_eq o.id) (insert_entry id_eq live o.id o) held ≡ with_newer live o
  newer_back held stood least =
      let less : nat_lt held.version o.version ≡ false = grind (arith, nat_tests, least) in
      put_after id_eq o.id o held live (sym stood)
      ∙ ap (λ t. insert_entry id_eq live o.id (cond t o held)) (sym less)
      ∙ ap (λ old. insert_entry id_eq live o.id (newer_of old o)) stood

-- ---- the first consumer stays

module _ (tx : Digest) (consumers : List (ObjectKey × Digest)) (key : ObjectKey) where
  pub consumer_back : (first : Digest) → Some first ≡ lookup (key_eq key) consumers → set_value (key_eq key) (insert_entry key_eq consumers key tx) first ≡ with_consumer tx consumers key
  consumer_back first stood =
      put_after key_eq key tx first consumers (sym stood)
      ∙ put_again key_eq key tx first consumers (sym stood)
      ∙ ap (λ old. cond (is_some old) consumers (insert_entry key_eq consumers key tx)) stood
