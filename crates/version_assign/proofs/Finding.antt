-- What is found in the tables.
use Rattle.std.proofs.Common.{◌≡◌, ℕ, zero, suc, Bool, true, false, cond, ◌||◌, not, List, [], ◌∷◌, Option, Some, None, is_some, map, refl, ap, sym, ◌∙◌, option_map, ◌+◌, ◌≤◌, arith, length, slice_get, ltb}
use Rattle.std.specs.Prelude.{find, position}
use Rattle.std.specs.List.{list_any, position_or_len}
use Rattle.std.proofs.lemmas.Bool.{ltb-false}
use Rattle.std.specs.Map.{lookup}
use Rattle.digest_core.specs.declared.Digest.{Digest}
use Rattle.chain_types.specs.Equal.{digest_eq}
use Rattle.protocol_spec.specs.declared.answers.Held.{Held}
use Rattle.protocol_spec.proofs.Equality.{digest_turned, digest_same}
use Rattle.protocol_spec.proofs.Truth.{or_false_left, or_false_right}
use Rattle.protocol_spec.specs.Chain.Words.{repeats}
use Rattle.protocol_spec.specs.Member.Admission.{Admission, Admitted, assigned_in, assigned_of, is_admitted}
use Rattle.version_assign.specs.declared.book.AdmittedCertificate.{AdmittedCertificate}
use Rattle.version_assign.specs.declared.book.PendingCertificate.{PendingCertificate}
use Rattle.version_assign.specs.Books.{Aligned, admitted_as, held_in, pending_in, placed, row_at, row_in}

pub admitted_is : (es : List (Digest × AdmittedCertificate)) (tx : Digest) → is_some (lookup (digest_eq tx) es) ≡ is_admitted (map admitted_as es) tx
admitted_is [] tx = refl
admitted_is (e ∷ es) tx = by (digest_eq tx e.0) (admitted_is es tx) ∙ ap (λ b. b || is_admitted (map admitted_as es) tx) (digest_turned tx e.0)
  where
    by : (b : Bool) → is_some (lookup (digest_eq tx) es) ≡ is_admitted (map admitted_as es) tx → is_some (cond b (Some e.1) (lookup (digest_eq tx) es)) ≡ (b || is_admitted (map admitted_as es) tx)
    by true more = refl
    by false more = more

-- what is found of an admitted transaction
found_admitted : {A : Type 0} → (says : Admitted → A) (told : AdmittedCertificate → A) → ((e : Digest × AdmittedCertificate) → told e.1 ≡ says (admitted_as e)) → (es : List (Digest × AdmittedCertificate)) (tx : Digest)
    → option_map told (lookup (digest_eq tx) es) ≡ option_map says (find (λ (x : Admitted). digest_eq x.digest tx) (map admitted_as es))
found_admitted says told same [] tx = refl
found_admitted says told same (e ∷ es) tx = by (digest_eq tx e.0) (found_admitted says told same es tx) ∙ ap (λ b. option_map says (cond b (Some (admitted_as e)) (find (λ (x : Admitted). digest_eq x.digest tx) (map admitted_as es)))) (digest_turned tx e.0)
  where
    by : (b : Bool) → option_map told (lookup (digest_eq tx) es) ≡ option_map says (find (λ (x : Admitted). digest_eq x.digest tx) (map admitted_as es))
        → option_map told (cond b (Some e.1) (lookup (digest_eq tx) es)) ≡ option_map says (cond b (Some (admitted_as e)) (find (λ (x : Admitted). digest_eq x.digest tx) (map admitted_as es)))
    by true more = ap Some (same e)
    by false more = more

pub found_assigned : (es : List (Digest × AdmittedCertificate)) (a : Admission) (tx : Digest) (o : Option AdmittedCertificate) → a.admitted ≡ map admitted_as es → o ≡ lookup (digest_eq tx) es → option_map (λ (x : AdmittedCertificate). x.assigned) o ≡ assigned_of a tx
unfolding assigned_of
found_assigned es a tx o is found =
    ap (option_map (λ (x : AdmittedCertificate). x.assigned)) found
    ∙ found_admitted assigned_in (λ (x : AdmittedCertificate). x.assigned) (λ e. refl) es tx
    ∙ ap (λ xs. option_map assigned_in (find (λ (x : Admitted). digest_eq x.digest tx) xs)) (sym is)

pub found_version : (es : List (Digest × AdmittedCertificate)) (tx : Digest) (o : Option AdmittedCertificate) → o ≡ lookup (digest_eq tx) es → option_map (λ (x : AdmittedCertificate). x.version) o ≡ option_map (λ (x : Admitted). x.version) (find (λ (x : Admitted). digest_eq x.digest tx) (map admitted_as es))
found_version es tx o found = ap (option_map (λ (x : AdmittedCertificate). x.version)) found ∙ found_admitted (λ (x : Admitted). x.version) (λ (x : AdmittedCertificate). x.version) (λ e. refl) es tx

-- ---- what is found of one that waits

none_waits : (rows : List (Option PendingCertificate)) (keys : List Digest) (tx : Digest) → Aligned rows keys → list_any (digest_eq tx) keys ≡ false → find (λ (h : Held). digest_eq h.digest tx) (pending_in rows) ≡ None
none_waits [] keys tx all away = refl
none_waits (r ∷ rows) [] tx all away = absurd all
none_waits (None ∷ rows) (k ∷ ks) tx all away = none_waits rows ks tx all (second (digest_eq tx k) away)
  where
    second : (b : Bool) → (b || list_any (digest_eq tx) ks) ≡ false → list_any (digest_eq tx) ks ≡ false
    second true e = absurd (cc)
    second false e = e
none_waits (Some x ∷ rows) (k ∷ ks) tx all away = go (digest_eq tx k) refl away (none_waits rows ks tx all.1)
  where
    go : (b : Bool) → digest_eq tx k ≡ b → (b || list_any (digest_eq tx) ks) ≡ false → (list_any (digest_eq tx) ks ≡ false → find (λ (h : Held). digest_eq h.digest tx) (pending_in rows) ≡ None)
        → cond (digest_eq x.held.digest tx) (Some x.held) (find (λ (h : Held). digest_eq h.digest tx) (pending_in rows)) ≡ None
    go true is e more = absurd (cc)
    go false is e more =
        ap (λ b. cond b (Some x.held) (find (λ (h : Held). digest_eq h.digest tx) (pending_in rows))) (digest_turned x.held.digest tx ∙ ap (digest_eq tx) all.0 ∙ is)
        ∙ more e

one_more : (n : ℕ) → 1 + n ≡ suc n
one_more n = omega arith

waits_at : (rows : List (Option PendingCertificate)) (keys : List Digest) (tx : Digest) → Aligned rows keys → repeats digest_eq keys ≡ false
    → held_in (row_at rows (position_or_len (digest_eq tx) keys)) ≡ find (λ (h : Held). digest_eq h.digest tx) (pending_in rows)
waits_at [] [] tx all apart = refl
waits_at [] (k ∷ ks) tx all apart = absurd all
waits_at (r ∷ rows) [] tx all apart = absurd all
waits_at (None ∷ rows) (k ∷ ks) tx all apart = go (digest_eq tx k) refl (waits_at rows ks tx all (or_false_right (list_any (digest_eq k) ks) (repeats digest_eq ks) apart))
  where
    go : (b : Bool) → digest_eq tx k ≡ b → held_in (row_at rows (position_or_len (digest_eq tx) ks)) ≡ find (λ (h : Held). digest_eq h.digest tx) (pending_in rows)
        → held_in (row_at (None ∷ rows) (cond (not b) (1 + position_or_len (digest_eq tx) ks) 0)) ≡ find (λ (h : Held). digest_eq h.digest tx) (pending_in rows)
    go true is more =
        sym (none_waits rows ks tx all (ap (λ (d : Digest). list_any (digest_eq d) ks) (digest_same tx k is) ∙ or_false_left (list_any (digest_eq k) ks) (repeats digest_eq ks) apart))
    go false is more = ap (λ n. held_in (row_at (None ∷ rows) n)) (one_more (position_or_len (digest_eq tx) ks)) ∙ more
waits_at (Some x ∷ rows) (k ∷ ks) tx all apart = go (digest_eq tx k) refl (waits_at rows ks tx all.1 (or_false_right (list_any (digest_eq k) ks) (repeats digest_eq ks) apart))
  where
    go : (b : Bool) → digest_eq tx k ≡ b → held_in (row_at rows (position_or_len (digest_eq tx) ks)) ≡ find (λ (h : Held). digest_eq h.digest tx) (pending_in rows)
        → held_in (row_at (Some x ∷ rows) (cond (not b) (1 + position_or_len (digest_eq tx) ks) 0)) ≡ cond (digest_eq x.held.digest tx) (Some x.held) (find (λ (h : Held). digest_eq h.digest tx) (pending_in rows))
    go true is more = sym (ap (λ b. cond b (Some x.held) (find (λ (h : Held). digest_eq h.digest tx) (pending_in rows))) (digest_turned x.held.digest tx ∙ ap (digest_eq tx) all.0 ∙ is))
    go false is more =
        ap (λ n. held_in (row_at (Some x ∷ rows) n)) (one_more (position_or_len (digest_eq tx) ks)) ∙ more
        ∙ sym (ap (λ b. cond b (Some x.held) (find (λ (h : Held). digest_eq h.digest tx) (pending_in rows))) (digest_turned x.held.digest tx ∙ ap (digest_eq tx) all.0 ∙ is))

past_rows : (rows : List (Option PendingCertificate)) (keys : List Digest) (n : ℕ) → Aligned rows keys → length keys ≤ n → row_at rows n ≡ None
past_rows [] keys n all past = ap row_in (none n)
  where
    none : (m : ℕ) → slice_get {X = Option PendingCertificate} [] m ≡ None
    none zero = refl
    none (suc m) = refl
past_rows (r ∷ rows) [] n all past = absurd all
past_rows (r ∷ rows) (k ∷ ks) zero all past = absurd (omega (arith, past))
past_rows (None ∷ rows) (k ∷ ks) (suc n) all past = past_rows rows ks n all (omega arith)
past_rows (Some x ∷ rows) (k ∷ ks) (suc n) all past = past_rows rows ks n all.1 (omega arith)

-- the certificate at the place of its digest
pub waits_found : (rows : List (Option PendingCertificate)) (keys : List Digest) (tx : Digest) → Aligned rows keys → repeats digest_eq keys ≡ false
    → placed rows (position (digest_eq tx) keys) ≡ find (λ (h : Held). digest_eq h.digest tx) (pending_in rows)
waits_found rows keys tx all apart = by (ltb n (length keys)) refl ∙ waits_at rows keys tx all apart
  where
    n : ℕ
    n = position_or_len (digest_eq tx) keys

    by : (b : Bool) → ltb n (length keys) ≡ b → placed rows (cond b (Some n) None) ≡ held_in (row_at rows n)
    by true is = refl
    by false is = sym (ap held_in (past_rows rows keys n all (ltb-false n (length keys) is)))
