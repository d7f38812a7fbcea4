-- Rows, as one of them is taken out or one more comes.
use Rattle.std.proofs.Common.{◌≡◌, ℕ, zero, suc, Bool, true, false, cond, not, ◌||◌, List, [], ◌∷◌, ◌++◌, Option, Some, None, is_some, length, refl, ap, sym, subst, ◌∙◌, ◌+◌, ◌<◌, ◌≤◌, arith, slice_set, drop, length-append}
use Rattle.std.specs.Prelude.{filter}
use Rattle.std.specs.List.{list_any}
use Rattle.digest_core.specs.declared.Digest.{Digest}
use Rattle.chain_types.specs.Equal.{digest_eq}
use Rattle.protocol_spec.specs.declared.answers.Held.{Held}
use Rattle.protocol_spec.proofs.Equality.{digest_same, digest_self}
use Rattle.protocol_spec.proofs.Truth.{or_false_left, or_false_right}
use Rattle.protocol_spec.specs.Chain.Words.{Each, repeats}
use Rattle.protocol_spec.specs.Member.Admission.{not_of}
use Rattle.version_assign.specs.declared.book.PendingCertificate.{PendingCertificate}
use Rattle.version_assign.specs.Books.{Aligned, IsSkipped, held_in, pending_in, row_at}
use Rattle.version_assign.specs.Calls.{Admitting}
use Rattle.version_assign.specs.Steps.{is_free_one}

pub clash : true ≡ false → ⊥
clash f = cc

abbrev pub of_tx : Digest → Held → Bool
of_tx tx h = digest_eq h.digest tx

pub free_there : (s : Admitting) (o : Option PendingCertificate) → is_free_one s (held_in o) ≡ true → is_some o ≡ true
free_there s None free = absurd (cc)
free_there s (Some r) free = refl

pub the_row : (o : Option PendingCertificate) → is_some o ≡ true → (r : PendingCertificate) × (o ≡ Some r)
the_row None some = absurd (cc)
the_row (Some r) some = (r, refl)

-- one fewer
pub out_length : (rows : List (Option PendingCertificate)) (p : ℕ) (r : PendingCertificate) → row_at rows p ≡ Some r → length (pending_in (slice_set rows p None)) + 1 ≡ length (pending_in rows)
out_length [] zero r at = absurd (cc)
out_length [] (suc p) r at = absurd (cc)
out_length (None ∷ rows) zero r at = absurd (cc)
out_length (Some x ∷ rows) zero r at = omega arith
out_length (None ∷ rows) (suc p) r at = out_length rows p r at
out_length (Some x ∷ rows) (suc p) r at = let l : length (pending_in (slice_set rows p None)) + 1 ≡ length (pending_in rows) = out_length rows p r at in omega arith

pub out_aligned : (rows : List (Option PendingCertificate)) (keys : List Digest) (p : ℕ) → Aligned rows keys → Aligned (slice_set rows p None) keys
out_aligned [] [] p all = tt
out_aligned [] (k ∷ ks) p all = absurd all
out_aligned (r ∷ rows) [] p all = absurd all
out_aligned (None ∷ rows) (k ∷ ks) zero all = all
out_aligned (Some x ∷ rows) (k ∷ ks) zero all = all.1
out_aligned (None ∷ rows) (k ∷ ks) (suc p) all = out_aligned rows ks p all
out_aligned (Some x ∷ rows) (k ∷ ks) (suc p) all = (all.0, out_aligned rows ks p all.1)

pub out_at : (rows : List (Option PendingCertificate)) (p q : ℕ) (r : PendingCertificate) → row_at (slice_set rows p None) q ≡ Some r → row_at rows q ≡ Some r
out_at [] p q r at = at
out_at (x ∷ rows) zero zero r at = absurd (cc)
out_at (x ∷ rows) zero (suc q) r at = at
out_at (x ∷ rows) (suc p) zero r at = at
out_at (x ∷ rows) (suc p) (suc q) r at = out_at rows p q r at

-- the digest of a row is among the digests
pub has_key : (rows : List (Option PendingCertificate)) (keys : List Digest) (p : ℕ) (r : PendingCertificate) → Aligned rows keys → row_at rows p ≡ Some r → list_any (digest_eq r.held.digest) keys ≡ true
has_key [] keys zero r all at = absurd (cc)
has_key [] keys (suc p) r all at = absurd (cc)
has_key (x ∷ rows) [] p r all at = absurd all
has_key (None ∷ rows) (k ∷ ks) zero r all at = absurd (cc)
has_key (None ∷ rows) (k ∷ ks) (suc p) r all at = later (digest_eq r.held.digest k) (has_key rows ks p r all at)
  where
    later : (b : Bool) → list_any (digest_eq r.held.digest) ks ≡ true → (b || list_any (digest_eq r.held.digest) ks) ≡ true
    later true h = refl
    later false h = h
has_key (Some x ∷ rows) (k ∷ ks) zero r all at =
    ap (λ b. b || list_any (digest_eq r.held.digest) ks) (ap (digest_eq r.held.digest) (sym all.0 ∙ ap (λ (y : PendingCertificate). y.held.digest) (same at)) ∙ digest_self r.held.digest)
  where
    same : Some x ≡ Some r → x ≡ r
    same f = cc
has_key (Some x ∷ rows) (k ∷ ks) (suc p) r all at = later (digest_eq r.held.digest k) (has_key rows ks p r all.1 at)
  where
    later : (b : Bool) → list_any (digest_eq r.held.digest) ks ≡ true → (b || list_any (digest_eq r.held.digest) ks) ≡ true
    later true h = refl
    later false h = h

-- none of the others has its digest
none_same : (rows : List (Option PendingCertificate)) (keys : List Digest) (h : Held) → Aligned rows keys → list_any (digest_eq h.digest) keys ≡ false → filter (not_of h) (pending_in rows) ≡ pending_in rows
none_same [] keys h all off = refl
none_same (r ∷ rows) [] h all off = absurd all
none_same (None ∷ rows) (k ∷ ks) h all off = none_same rows ks h all (second (digest_eq h.digest k) off)
  where
    second : (b : Bool) → (b || list_any (digest_eq h.digest) ks) ≡ false → list_any (digest_eq h.digest) ks ≡ false
    second true e = absurd (cc)
    second false e = e
none_same (Some x ∷ rows) (k ∷ ks) h all off = go (digest_eq h.digest k) refl off (none_same rows ks h all.1)
  where
    go : (b : Bool) → digest_eq h.digest k ≡ b → (b || list_any (digest_eq h.digest) ks) ≡ false → (list_any (digest_eq h.digest) ks ≡ false → filter (not_of h) (pending_in rows) ≡ pending_in rows)
        → filter (not_of h) (x.held ∷ pending_in rows) ≡ x.held ∷ pending_in rows
    go true is e more = absurd (cc)
    go false is e more =
        ap (λ b. cond (not b) (x.held ∷ filter (not_of h) (pending_in rows)) (filter (not_of h) (pending_in rows))) (ap (digest_eq h.digest) all.0 ∙ is)
        ∙ ap (λ hs. x.held ∷ hs) (more e)

pub out_pending : (rows : List (Option PendingCertificate)) (keys : List Digest) (p : ℕ) (r : PendingCertificate) → Aligned rows keys → repeats digest_eq keys ≡ false → row_at rows p ≡ Some r
    → pending_in (slice_set rows p None) ≡ filter (not_of r.held) (pending_in rows)
out_pending [] keys zero r all apart at = absurd (cc)
out_pending [] keys (suc p) r all apart at = absurd (cc)
out_pending (x ∷ rows) [] p r all apart at = absurd all
out_pending (None ∷ rows) (k ∷ ks) zero r all apart at = absurd (cc)
out_pending (Some x ∷ rows) (k ∷ ks) zero r all apart at =
    sym (
    ap (λ b. cond (not b) (x.held ∷ filter (not_of r.held) (pending_in rows)) (filter (not_of r.held) (pending_in rows))) (ap (λ (y : PendingCertificate). digest_eq r.held.digest y.held.digest) (same at) ∙ digest_self r.held.digest)
    ∙ none_same rows ks r.held all.1 (ap (λ (d : Digest). list_any (digest_eq d) ks) (ap (λ (y : PendingCertificate). y.held.digest) (sym (same at)) ∙ all.0) ∙ or_false_left (list_any (digest_eq k) ks) (repeats digest_eq ks) apart))
  where
    same : Some x ≡ Some r → x ≡ r
    same f = cc
out_pending (None ∷ rows) (k ∷ ks) (suc p) r all apart at = out_pending rows ks p r all (or_false_right (list_any (digest_eq k) ks) (repeats digest_eq ks) apart) at
out_pending (Some x ∷ rows) (k ∷ ks) (suc p) r all apart at =
    go (digest_eq r.held.digest x.held.digest) refl (has_key rows ks p r all.1 at) (out_pending rows ks p r all.1 (or_false_right (list_any (digest_eq k) ks) (repeats digest_eq ks) apart) at)
  where
    go : (b : Bool) → digest_eq r.held.digest x.held.digest ≡ b → list_any (digest_eq r.held.digest) ks ≡ true → pending_in (slice_set rows p None) ≡ filter (not_of r.held) (pending_in rows)
        → x.held ∷ pending_in (slice_set rows p None) ≡ filter (not_of r.held) (x.held ∷ pending_in rows)
    go true is has more =
        absurd (clash (sym has ∙ ap (λ (d : Digest). list_any (digest_eq d) ks) (digest_same r.held.digest x.held.digest is ∙ all.0) ∙ or_false_left (list_any (digest_eq k) ks) (repeats digest_eq ks) apart))
    go false is has more = ap (λ hs. x.held ∷ hs) more ∙ sym (ap (λ b. cond (not b) (x.held ∷ filter (not_of r.held) (pending_in rows)) (filter (not_of r.held) (pending_in rows))) is)

-- ---- what is known

-- of another digest as many are left
pub other_left : (h : Held) (tx : Digest) (xs : List Held) → digest_eq h.digest tx ≡ false → list_any (of_tx tx) (filter (not_of h) xs) ≡ list_any (of_tx tx) xs
other_left h tx [] off = refl
other_left h tx (x ∷ xs) off = go (digest_eq h.digest x.digest) refl (other_left h tx xs off)
  where
    go : (b : Bool) → digest_eq h.digest x.digest ≡ b → list_any (of_tx tx) (filter (not_of h) xs) ≡ list_any (of_tx tx) xs
        → list_any (of_tx tx) (cond (not (digest_eq h.digest x.digest)) (x ∷ filter (not_of h) xs) (filter (not_of h) xs)) ≡ (digest_eq x.digest tx || list_any (of_tx tx) xs)
    go true is more =
        ap (λ b. list_any (of_tx tx) (cond (not b) (x ∷ filter (not_of h) xs) (filter (not_of h) xs))) is
        ∙ more
        ∙ ap (λ b. b || list_any (of_tx tx) xs) (sym (ap (λ (d : Digest). digest_eq d tx) (sym (digest_same h.digest x.digest is)) ∙ off))
    go false is more =
        ap (λ b. list_any (of_tx tx) (cond (not b) (x ∷ filter (not_of h) xs) (filter (not_of h) xs))) is
        ∙ ap (λ b. digest_eq x.digest tx || b) more

pub row_waits : (rows : List (Option PendingCertificate)) (p : ℕ) (r : PendingCertificate) (tx : Digest) → row_at rows p ≡ Some r → digest_eq r.held.digest tx ≡ true → list_any (of_tx tx) (pending_in rows) ≡ true
row_waits [] zero r tx at is = absurd (cc)
row_waits [] (suc p) r tx at is = absurd (cc)
row_waits (None ∷ rows) zero r tx at is = absurd (cc)
row_waits (Some x ∷ rows) zero r tx at is = ap (λ b. b || list_any (of_tx tx) (pending_in rows)) (ap (λ (y : PendingCertificate). digest_eq y.held.digest tx) (same at) ∙ is)
  where
    same : Some x ≡ Some r → x ≡ r
    same f = cc
row_waits (None ∷ rows) (suc p) r tx at is = row_waits rows p r tx at is
row_waits (Some x ∷ rows) (suc p) r tx at is = later (digest_eq x.held.digest tx) (row_waits rows p r tx at is)
  where
    later : (b : Bool) → list_any (of_tx tx) (pending_in rows) ≡ true → (b || list_any (of_tx tx) (pending_in rows)) ≡ true
    later true h = refl
    later false h = h

-- a property of each that waits
pub each_row : (P : Held → Type 0) (rows : List (Option PendingCertificate)) (p : ℕ) (r : PendingCertificate) → Each P (pending_in rows) → row_at rows p ≡ Some r → P r.held
each_row P [] zero r all at = absurd (cc)
each_row P [] (suc p) r all at = absurd (cc)
each_row P (None ∷ rows) zero r all at = absurd (cc)
each_row P (Some x ∷ rows) zero r all at = subst (λ (y : PendingCertificate). P y.held) (same at) all.0
  where
    same : Some x ≡ Some r → x ≡ r
    same f = cc
each_row P (None ∷ rows) (suc p) r all at = each_row P rows p r all at
each_row P (Some x ∷ rows) (suc p) r all at = each_row P rows p r all.1 at

-- ---- places below which nothing waits

none_set : (rows : List (Option PendingCertificate)) (p q : ℕ) → row_at rows q ≡ None → row_at (slice_set rows p None) q ≡ None
none_set [] p q at = at
none_set (x ∷ rows) zero zero at = refl
none_set (x ∷ rows) zero (suc q) at = at
none_set (x ∷ rows) (suc p) zero at = at
none_set (x ∷ rows) (suc p) (suc q) at = none_set rows p q at

pub skipped_out : (low : ℕ) (rows : List (Option PendingCertificate)) (p : ℕ) → IsSkipped low rows → IsSkipped low (slice_set rows p None)
skipped_out low rows p skipped = record {
  none = λ q below. none_set rows p q (skipped.none q below);
  within = subst (λ n. low ≤ n) (sym (same_length rows p)) skipped.within;
}
  where
    same_length : (xs : List (Option PendingCertificate)) (i : ℕ) → length (slice_set xs i None) ≡ length xs
    same_length [] i = refl
    same_length (x ∷ xs) zero = refl
    same_length (x ∷ xs) (suc i) = ap suc (same_length xs i)

none_push : (rows : List (Option PendingCertificate)) (r : Option PendingCertificate) (q : ℕ) → q < length rows → row_at rows q ≡ None → row_at (rows ++ r ∷ []) q ≡ None
none_push [] r q within at = absurd (omega (arith, within))
none_push (x ∷ rows) r zero within at = at
none_push (x ∷ rows) r (suc q) within at = none_push rows r q (omega arith) at

pub skipped_push : (low : ℕ) (rows : List (Option PendingCertificate)) (r : Option PendingCertificate) → IsSkipped low rows → IsSkipped low (rows ++ r ∷ [])
skipped_push low rows r skipped = record {
  none = λ q below. let w : low ≤ length rows = skipped.within in none_push rows r q (omega arith) (skipped.none q below);
  within = let w : low ≤ length rows = skipped.within in simp length-append (omega arith);
}

-- what waits, waits after them
pub pending_behind : (low : ℕ) (rows : List (Option PendingCertificate)) → IsSkipped low rows → pending_in (drop low rows) ≡ pending_in rows
pending_behind low rows skipped = go low rows skipped.none
  where
    go : (n : ℕ) (xs : List (Option PendingCertificate)) → ((q : ℕ) → q < n → row_at xs q ≡ None) → pending_in (drop n xs) ≡ pending_in xs
    go zero xs none = refl
    go (suc n) [] none = refl
    go (suc n) (None ∷ xs) none = go n xs (λ q below. none (suc q) (omega arith))
    go (suc n) (Some x ∷ xs) none = absurd (taken (none zero (omega arith)))
      where
        taken : Some x ≡ None → ⊥
        taken f = cc
