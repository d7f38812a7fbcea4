-- What a run leaves.
use Rattle.std.proofs.Common.{◌≡◌, ℕ, ◌+◌, Bool, true, false, cond, not, ◌&&◌, List, [], ◌∷◌, ◌++◌, map, length, Option, Some, None, is_some, inl, inr, refl, ap, sym, subst, ◌∙◌, append_assoc, append-nil, arith}
use Rattle.std.specs.Prelude.{◌⊎◌, ◌≤◌, filter, slice_get}
use Rattle.std.specs.List.Sorted.{IsStrictlySortedBy}
use Rattle.std.specs.Ordering.{nat_cmp}
use Rattle.std.specs.List.{list_all}
use Rattle.protocol_spec.specs.declared.answers.Held.{Held}
use Rattle.protocol_spec.specs.declared.answers.Left.{Left}
use Rattle.protocol_spec.specs.Chain.Words.{Each, Has, first_of, where_true}
use Rattle.protocol_spec.specs.Member.Versions.{is_executed}
use Rattle.protocol_spec.specs.Member.Admission.{Admission}
use Rattle.protocol_spec.specs.Member.Rounds.{Books, is_due, is_origin_done, left, left_as, missing, wants_of}
use Rattle.version_store.specs.Stores.{Stored, held_in}
use Rattle.exec_plan.specs.Books.{books_of, is_let, left_in, may_be_left}
use Rattle.exec_plan.specs.Makers.{are_made, awaited_of}
use Rattle.exec_plan.specs.Steps.{left_add, left_after, left_of}
use Rattle.exec_plan.specs.Places.{Picks}
use Rattle.exec_plan.proofs.Making.{waits_where}
use Rattle.exec_plan.proofs.Rounding.{all_far, ascends, at_front, at_none, longer, picks_of}

-- ---- how a certificate is left

and_assoc : (x y z m : Bool) → (x && y && z && m) ≡ ((x && y && z) && m)
and_assoc true true true m = refl
and_assoc true true false m = refl
and_assoc true false z m = refl
and_assoc false y z m = refl

-- a certificate is left if it waits for no transaction, nor for an origin
pub left_so : (s : Stored) (a : Admission) (h : Held)
    → left_in s a h ≡ where_true (may_be_left s.executed a h && not (is_some (awaited_of s.executed a h))) (record { tx = h.digest; key = first_of (missing (held_in s)) (wants_of a h) })
left_so s a h =
    ap (λ (b : Bool). where_true b (left_as (books_of s a []) s.executed h))
    (and_assoc (not (is_executed s.executed h.digest)) (is_let a h) (list_all (is_origin_done s.executed) h.cert.origins) (are_made s.executed a h)
    ∙ ap (λ (m : Bool). may_be_left s.executed a h && m) (waits_where s.executed a h))

-- ---- all that are left

module _ (s : Stored) (a : Admission) (all : List Held) where
  abbrev b : Books
  b = books_of s a all

  abbrev left_of_all : List Held → List Left
  left_of_all hs = map (left_as b s.executed) (filter (is_due b s.executed) hs)

  abbrev Stays : Held → Type 0
  Stays h = left_in s a h ≡ None

  one_more : (acc : List Left) (h : Held) (hs : List Held) → left_add acc (left_in s a h) ++ left_of_all hs ≡ acc ++ left_of_all (h ∷ hs)
  one_more acc h hs = go (is_due b s.executed h)
    where
      go : (d : Bool) → left_add acc (where_true d (left_as b s.executed h)) ++ left_of_all hs ≡ acc ++ map (left_as b s.executed) (cond d (h ∷ filter (is_due b s.executed) hs) (filter (is_due b s.executed) hs))
      go true = append_assoc acc (left_as b s.executed h ∷ []) (left_of_all hs)
      go false = refl

  stays : (acc : List Left) (h : Held) (hs : List Held) → Stays h → acc ++ left_of_all hs ≡ acc ++ left_of_all (h ∷ hs)
  stays acc h hs none = ap (λ (o : Option Left). left_add acc o ++ left_of_all hs) (sym none) ∙ one_more acc h hs

  none_left : (places : List ℕ) (acc : List Left) → Each (λ p. length all ≤ p) places → left_after s a all acc places ≡ acc
  none_left [] acc far = refl
  none_left (p ∷ ps) acc far = ap (λ (o : Option Held). left_after s a all (left_add acc (left_of s a o)) ps) (at_none all p far.0) ∙ none_left ps acc far.1

  picks_left : (places : List ℕ) (hs front : List Held) (acc : List Left) → all ≡ front ++ hs → Picks Stays (length front) places hs → left_after s a all acc places ≡ acc ++ left_of_all hs
  picks_left places [] front acc is picks = none_left places acc (all_far all places front is picks) ∙ sym (append-nil acc)
  picks_left [] (h ∷ hs) front acc is picks =
      picks_left [] hs (front ++ h ∷ []) acc (is ∙ sym (append_assoc front (h ∷ []) hs)) (subst (λ n. Picks Stays n [] hs) (sym (longer front h)) picks.1)
      ∙ stays acc h hs picks.0
  picks_left (p ∷ ps) (h ∷ hs) front acc is (inl picks) =
      ap (λ n. left_after s a all (left_add acc (left_of s a (slice_get all n))) ps) picks.0
      ∙ ap (λ (o : Option Held). left_after s a all (left_add acc (left_of s a o)) ps) (ap (λ xs. slice_get xs (length front)) is ∙ at_front front h hs)
      ∙ picks_left ps hs (front ++ h ∷ []) (left_add acc (left_in s a h)) (is ∙ sym (append_assoc front (h ∷ []) hs)) (subst (λ n. Picks Stays n ps hs) (sym (longer front h)) picks.1)
      ∙ one_more acc h hs
  picks_left (p ∷ ps) (h ∷ hs) front acc is (inr picks) =
      picks_left (p ∷ ps) hs (front ++ h ∷ []) acc (is ∙ sym (append_assoc front (h ∷ []) hs)) (subst (λ n. Picks Stays n (p ∷ ps) hs) (sym (longer front h)) picks.1)
      ∙ stays acc h hs picks.0

-- a certificate that was executed is not left
pub executed_stays : (s : Stored) (a : Admission) (h : Held) → is_executed s.executed h.digest ≡ true → left_in s a h ≡ None
executed_stays s a h is =
    ap (λ (e : Bool). where_true (not e && is_let a h && list_all (is_origin_done s.executed) h.cert.origins && are_made s.executed a h) (left_as (books_of s a []) s.executed h)) is

-- a certificate that needs its admission is not left
pub unlet_stays : (s : Stored) (a : Admission) (h : Held) → is_let a h ≡ false → left_in s a h ≡ None
unlet_stays s a h out =
    ap (λ (m : Bool). where_true (not (is_executed s.executed h.digest) && m && list_all (is_origin_done s.executed) h.cert.origins && are_made s.executed a h) (left_as (books_of s a []) s.executed h)) out
    ∙ go (not (is_executed s.executed h.digest)) (list_all (is_origin_done s.executed) h.cert.origins) (are_made s.executed a h) (left_as (books_of s a []) s.executed h)
  where
    go : (x y z : Bool) (l : Left) → where_true (x && false && y && z) l ≡ None
    go true y z l = refl
    go false y z l = refl

-- those left of ascending places are all that are left, if those at other places are not
pub left_of_places : (s : Stored) (a : Admission) (held : List Held) (places : List ℕ) → IsStrictlySortedBy nat_cmp places → ((i : ℕ) (h : Held) → slice_get held i ≡ Some h → Has places i ⊎ (left_in s a h ≡ None))
    → left_after s a held [] places ≡ left (books_of s a held) s.executed
unfolding left
left_of_places s a held places sorted names =
    picks_left s a held places held [] [] refl (picks_of (λ h. left_in s a h ≡ None) held 0 places (ascends places sorted) (low places) named)
  where
    low : (ps : List ℕ) → Each (λ p. 0 ≤ p) ps
    low [] = tt
    low (p ∷ ps) = (omega arith, low ps)

    named : (i : ℕ) (h : Held) → slice_get held i ≡ Some h → Has places (0 + i) ⊎ (left_in s a h ≡ None)
    named i h at =
        let same : i ≡ 0 + i = omega arith in
        subst (λ n. Has places n ⊎ (left_in s a h ≡ None)) same (names i h at)
