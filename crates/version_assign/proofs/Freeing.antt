-- Whether a certificate is free, and the first place at which a free one waits.
use Rattle.std.proofs.Common.{◌≡◌, ℕ, zero, suc, Bool, true, false, cond, not, ◌&&◌, List, [], ◌∷◌, Option, Some, None, is_some, length, refl, ap, sym, ◌∙◌, ◌<◌, ◌+◌, drop, arith, add-one}
use Rattle.std.specs.Prelude.{find}
use Rattle.std.specs.List.{list_all}
use Rattle.digest_core.specs.declared.Digest.{Digest}
use Rattle.chain_types.specs.declared.objects.ObjectId.{ObjectId}
use Rattle.protocol_spec.specs.declared.answers.Held.{Held}
use Rattle.protocol_spec.specs.Chain.Words.{first_of, first_some, where_true}
use Rattle.protocol_spec.specs.Member.Admission.{Admission, full_id, has_room, is_admitted, is_free, is_origin_admitted, missing_origin, mutable_ids, without_room}
use Rattle.version_assign.specs.declared.book.PendingCertificate.{PendingCertificate}
use Rattle.version_assign.specs.Books.{held_in, pending_in, row_at}
use Rattle.version_assign.specs.Calls.{Admitting}
use Rattle.version_assign.specs.Steps.{is_free_one}

pub alone : {A : Type 0} → (o : Option A) → first_some (o ∷ []) ≡ o
alone None = refl
alone (Some x) = refl

passed : {A : Type 0} → (o : Option A) → not (is_some (first_some (o ∷ []))) ≡ not (is_some o)
passed o = ap (λ x. not (is_some x)) (alone o)

origins_free : (a : Admission) (os : List (Option Digest)) → list_all (is_origin_admitted a) os ≡ not (is_some (first_of (missing_origin a) os))
origins_free a [] = refl
origins_free a (None ∷ os) = origins_free a os ∙ sym (passed (first_of (missing_origin a) os))
origins_free a (Some tx ∷ os) = by (is_admitted a.admitted tx) (origins_free a os)
  where
    by : (b : Bool) → list_all (is_origin_admitted a) os ≡ not (is_some (first_of (missing_origin a) os))
        → (b && list_all (is_origin_admitted a) os) ≡ not (is_some (first_some (where_true (not b) tx ∷ first_of (missing_origin a) os ∷ [])))
    by true more = more ∙ sym (passed (first_of (missing_origin a) os))
    by false more = refl

room_free : (writers : Option ℕ) (a : Admission) (ids : List ObjectId) → list_all (has_room writers a) ids ≡ not (is_some (first_of (full_id writers a) ids))
room_free writers a [] = refl
room_free writers a (id ∷ ids) = by (has_room writers a id) (room_free writers a ids)
  where
    by : (b : Bool) → list_all (has_room writers a) ids ≡ not (is_some (first_of (full_id writers a) ids))
        → (b && list_all (has_room writers a) ids) ≡ not (is_some (first_some (where_true (not b) id ∷ first_of (full_id writers a) ids ∷ [])))
    by true more = more ∙ sym (passed (first_of (full_id writers a) ids))
    by false more = refl

-- what the code looks at is whether it is free
pub free_is : (writers : Option ℕ) (a : Admission) (h : Held) → (not (is_some (first_of (missing_origin a) h.cert.origins)) && not (is_some (first_of (full_id writers a) (mutable_ids h.cert)))) ≡ is_free writers a h
free_is writers a h =
    ap (λ b. b && not (is_some (first_of (full_id writers a) (mutable_ids h.cert)))) (sym (origins_free a h.cert.origins))
    ∙ ap (λ b. list_all (is_origin_admitted a) h.cert.origins && b) (sym (room_free writers a (mutable_ids h.cert)))

pub flipped : (a b : Bool) → a ≡ not b → not a ≡ b
flipped true true e = absurd (cc)
flipped true false e = refl
flipped false true e = refl
flipped false false e = absurd (cc)

pub free_both : (writers : Option ℕ) (a : Admission) (h : Held) (m : Option Digest) (f : Option ObjectId) (x y : Bool) → m ≡ first_of (missing_origin a) h.cert.origins → f ≡ first_of (full_id writers a) (mutable_ids h.cert)
    → is_some m ≡ not x → is_some f ≡ not y → x ≡ true → y ≡ is_free writers a h
free_both writers a h m f x y m_is f_is xm yf xt =
    sym (flipped (is_some f) y yf) ∙ ap (λ o. not (is_some o)) f_is
    ∙ ap (λ b. b && not (is_some (first_of (full_id writers a) (mutable_ids h.cert)))) (sym (sym (ap (λ o. not (is_some o)) m_is) ∙ flipped (is_some m) x xm ∙ xt))
    ∙ free_is writers a h

pub free_not : (writers : Option ℕ) (a : Admission) (h : Held) (m : Option Digest) (x : Bool) → m ≡ first_of (missing_origin a) h.cert.origins → is_some m ≡ not x → x ≡ false → x ≡ is_free writers a h
free_not writers a h m x m_is xm xf =
    xf
    ∙ ap (λ b. b && not (is_some (first_of (full_id writers a) (mutable_ids h.cert)))) (sym (sym (ap (λ o. not (is_some o)) m_is) ∙ flipped (is_some m) x xm ∙ xf))
    ∙ free_is writers a h

-- an origin is missing
pub held_back : (writers : Option ℕ) (a : Admission) (h : Held) (m : Option Digest) → m ≡ first_of (missing_origin a) h.cert.origins → is_some m ≡ true
    → None ≡ without_room (list_all (is_origin_admitted a) h.cert.origins) writers a h
held_back writers a h m is missing = sym (ap (λ b. without_room b writers a h) (origins_free a h.cert.origins ∙ ap (λ o. not (is_some o)) (sym is) ∙ ap not missing))

-- none is
pub let_on : (writers : Option ℕ) (a : Admission) (h : Held) (m : Option Digest) (f : Option ObjectId) → m ≡ first_of (missing_origin a) h.cert.origins → is_some m ≡ false → f ≡ first_of (full_id writers a) (mutable_ids h.cert)
    → f ≡ without_room (list_all (is_origin_admitted a) h.cert.origins) writers a h
let_on writers a h m f is missing found =
    found
    ∙ sym (ap (λ b. without_room b writers a h) (origins_free a h.cert.origins ∙ ap (λ o. not (is_some o)) (sym is) ∙ ap not missing))

-- ---- places

-- a free certificate at a place is the first after the places before it
pub place_found : (s : Admitting) (rows : List (Option PendingCertificate)) (i : ℕ) → is_free_one s (held_in (row_at rows i)) ≡ true → held_in (row_at rows i) ≡ find (is_free s.writers s.admission) (pending_in (drop i rows))
place_found s [] zero free = absurd (cc)
place_found s [] (suc i) free = absurd (cc)
place_found s (None ∷ rows) zero free = absurd (cc)
place_found s (Some r ∷ rows) zero free = sym (ap (λ b. cond b (Some r.held) (find (is_free s.writers s.admission) (pending_in rows))) free)
place_found s (r ∷ rows) (suc i) free = place_found s rows i free

next_passed : (s : Admitting) (rows : List (Option PendingCertificate)) (i : ℕ) → i < length rows → is_free_one s (held_in (row_at rows i)) ≡ false
    → find (is_free s.writers s.admission) (pending_in (drop (suc i) rows)) ≡ find (is_free s.writers s.admission) (pending_in (drop i rows))
next_passed s [] i h free = absurd (omega (arith, h))
next_passed s (None ∷ rows) zero h free = refl
next_passed s (Some r ∷ rows) zero h free = sym (ap (λ b. cond b (Some r.held) (find (is_free s.writers s.admission) (pending_in rows))) free)
next_passed s (r ∷ rows) (suc i) h free = next_passed s rows i (omega arith) free

pub place_passed : (s : Admitting) (rows : List (Option PendingCertificate)) (i : ℕ) → i < length rows → is_free_one s (held_in (row_at rows i)) ≡ false
    → find (is_free s.writers s.admission) (pending_in (drop (i + 1) rows)) ≡ find (is_free s.writers s.admission) (pending_in (drop i rows))
place_passed s rows i h free = rw add-one (next_passed s rows i h free)
