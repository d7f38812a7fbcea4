-- At the end of an epoch its cuts hold all that was admitted, and the members whose End was counted are a quorum.
use Rattle.std.proofs.Common.{refl, sym, ap, arith, ◌∙◌, append-nil}
use Rattle.std.proofs.lemmas.List.{length-append, length-drop}
use Rattle.std.specs.Prelude.{◌≡◌, ◌≤◌, ℕ, zero, suc, Bool, true, false, cond, List, [], ◌∷◌, ◌++◌, flat_map, find, fold, length, Option, Some, None}
use Rattle.chain_types.specs.declared.objects.Object.{Object}
use Rattle.protocol_spec.specs.declared.answers.Held.{Held}
use Rattle.protocol_spec.proofs.ListLemmas.{front_length, flat_append}
use Rattle.protocol_spec.specs.Chain.Words.{IsFront}
use Rattle.protocol_spec.specs.Chain.Committee.{weight, is_quorum}
use Rattle.protocol_spec.specs.Chain.Certificates.{Rules}
use Rattle.protocol_spec.specs.Member.Admission.{Admission, entered, is_dropped, is_free, passed_mark, since_mark, take_free, taken, taken_as, taken_next}
use Rattle.protocol_spec.specs.Member.Sequence.{Cut, Sequence, What, takes, commits, counts, ignores, nothing_seen, what_of, cut_of, last_cut, counted_as, ends_with_member, with_what, with_entry, saw, seen}
use Rattle.safety_law.specs.Checkpointed.{admitted_in}
use Rattle.safety_law.proofs.Cuts.{cut-seen, cut-txs}
use Rattle.safety_law.proofs.Prefixes.{earlier-saw}
use Rattle.headline_law.specs.Ended.{IsWhole}

-- ---- the cuts

module _ (writers : Option ℕ) (opening : List Object) where
  marked-taken_as : (b : Bool) (a : Admission) (h : Held) → (taken_as b opening a h).marked ≡ a.marked
  marked-taken_as true a h = refl
  marked-taken_as false a h = refl

  marked-free : (n : ℕ) (a : Admission) → (take_free writers opening n a).marked ≡ a.marked
  marked-free zero a = refl
  marked-free (suc n) a = go (find (is_free writers a) a.pending) (marked-free n)
    where
      go : (o : Option Held) → ((b : Admission) → (take_free writers opening n b).marked ≡ b.marked) → (taken_next (take_free writers opening n) opening a o).marked ≡ a.marked
      go None rest = refl
      go (Some h) rest = rest (taken opening a h) ∙ marked-taken_as (is_dropped opening a.admitted h.cert) a h

abbrev cut_length : List Cut → ℕ
cut_length cuts = length (flat_map admitted_in cuts)

-- as many transactions are cut as were admitted before the mark; at the end, as were admitted
record IsCutUp (q : Sequence) : Type 0 where
  marked : q.ended ≡ false → cut_length q.cuts ≡ q.admission.marked
  low : q.admission.marked ≤ length q.admission.admitted
  whole : q.ended ≡ true → cut_length q.cuts ≡ length q.admission.admitted

-- cut once more, with what was admitted since the mark
cut-more : (q : Sequence) (c : List Cut) → IsCutUp q → q.ended ≡ false → flat_map admitted_in c ≡ since_mark q.admission → cut_length (q.cuts ++ c) ≡ length q.admission.admitted
cut-more q c up going e =
    let joined = ap length (flat_append admitted_in q.cuts c) ∙ length-append (flat_map admitted_in q.cuts) (flat_map admitted_in c) in
    let since = ap length e ∙ length-drop q.admission.marked q.admission.admitted in
    let before = up.marked going in
    let low = up.low in
    omega (arith, joined, since, before, low)

module _ (r : Rules) (opening : List Object) (epoch : ℕ) where
  -- what an entry does to a sequence that goes on; admission only appends
  up-what : (q : Sequence) (what : What) → IsCutUp q → q.ended ≡ false → length q.admission.admitted ≤ length (with_what r opening q what).admission.admitted → IsCutUp (with_what r opening q what)
  unfolding entered passed_mark
  up-what q (takes h) up going more =
      let mark = marked-free r.writers opening (length (q.admission.pending ++ h ∷ [])) (record q.admission { pending = q.admission.pending ++ h ∷ [] }) in
      record {
        marked = λ e. up.marked going ∙ sym mark;
        low = let low = up.low in omega (arith, low, more, mark);
        whole = λ e. absurd (cc);
      }
  up-what q commits up going more =
      let mark = marked-free r.writers opening (length q.admission.pending) (record q.admission { marked = length q.admission.admitted }) in
      record {
        marked = λ e. cut-more q (cut_of (since_mark q.admission)) up going (cut-txs (since_mark q.admission)) ∙ sym mark;
        low = omega (arith, more, mark);
        whole = λ e. absurd (cc);
      }
  up-what q (counts m) up going more = go (ends_with_member r q m)
    where
      go : (b : Bool) → IsCutUp (counted_as b q m)
      go true = record {
        marked = λ e. absurd (cc);
        low = up.low;
        whole = λ e. cut-more q (last_cut (since_mark q.admission) ∷ []) up going (append-nil (since_mark q.admission));
      }
      go false = record { marked = up.marked; low = up.low; whole = up.whole }
  up-what q (ignores cause) up going more = up

  up-saw : (q : Sequence) (bytes : List ℕ) → IsCutUp q → IsCutUp (saw r opening epoch q bytes)
  unfolding saw with_entry
  up-saw q bytes up = go q.ended refl (front_length q.admission.admitted (saw r opening epoch q bytes).admission.admitted (earlier-saw r opening epoch q bytes).admitted)
    where
      go : (b : Bool) → q.ended ≡ b → length q.admission.admitted ≤ length (cond b q (with_entry r opening q (what_of r epoch q bytes))).admission.admitted → IsCutUp (cond b q (with_entry r opening q (what_of r epoch q bytes)))
      go true e more = up
      go false e more = let it = up-what q (what_of r epoch q bytes) up e more in record { marked = it.marked; low = it.low; whole = it.whole }

  up-fold : (entries : List (List ℕ)) (q : Sequence) → IsCutUp q → IsCutUp (fold (saw r opening epoch) q entries)
  up-fold [] q up = up
  up-fold (bytes ∷ entries) q up = up-fold entries (saw r opening epoch q bytes) (up-saw q bytes up)

  up-seen : (entries : List (List ℕ)) → IsCutUp (seen r opening epoch entries)
  unfolding seen
  up-seen entries = up-fold entries nothing_seen (record { marked = λ e. refl; low = omega arith; whole = λ e. absurd (cc) })

same-length : {A : Type 0} (xs ys : List A) → IsFront xs ys → length xs ≡ length ys → xs ≡ ys
same-length xs ys ([], e) same = sym (e ∙ append-nil xs)
same-length xs ys (y ∷ more, e) same = absurd (let n = ap length e ∙ length-append xs (y ∷ more) in omega (arith, n, same))

pub last-cuts : (r : Rules) (opening : List Object) (epoch : ℕ) (entries : List (List ℕ)) → (seen r opening epoch entries).ended ≡ true
    → flat_map admitted_in (seen r opening epoch entries).cuts ≡ (seen r opening epoch entries).admission.admitted
last-cuts r opening epoch entries ended =
    same-length (flat_map admitted_in (seen r opening epoch entries).cuts) (seen r opening epoch entries).admission.admitted (cut-seen r opening epoch entries) ((up-seen r opening epoch entries).whole ended)

-- ---- the quorum

abbrev IsCounted : Rules → Sequence → Type 0
IsCounted r q = q.ended ≡ true → is_quorum r.stakes (weight r.stakes q.counted) ≡ true

module _ (r : Rules) (opening : List Object) (epoch : ℕ) where
  counted-member : (q : Sequence) (m : ℕ) (b : Bool) → ends_with_member r q m ≡ b → q.ended ≡ false → IsCounted r (counted_as b q m)
  counted-member q m true e going = λ _. e
  counted-member q m false e going = λ ended. absurd (cc)

  counted-what : (q : Sequence) (what : What) → IsCounted r q → q.ended ≡ false → IsCounted r (with_what r opening q what)
  counted-what q (takes h) counted going = counted
  counted-what q commits counted going = counted
  counted-what q (counts m) counted going = counted-member q m (ends_with_member r q m) refl going
  counted-what q (ignores cause) counted going = counted

  counted-saw : (q : Sequence) (bytes : List ℕ) → IsCounted r q → IsCounted r (saw r opening epoch q bytes)
  unfolding saw with_entry
  counted-saw q bytes counted = go q.ended refl
    where
      go : (b : Bool) → q.ended ≡ b → IsCounted r (cond b q (with_entry r opening q (what_of r epoch q bytes)))
      go true e = counted
      go false e = counted-what q (what_of r epoch q bytes) counted e

  counted-fold : (entries : List (List ℕ)) (q : Sequence) → IsCounted r q → IsCounted r (fold (saw r opening epoch) q entries)
  counted-fold [] q counted = counted
  counted-fold (bytes ∷ entries) q counted = counted-fold entries (saw r opening epoch q bytes) (counted-saw q bytes counted)

  pub ends-quorum : (entries : List (List ℕ)) → IsCounted r (seen r opening epoch entries)
  unfolding seen
  ends-quorum entries = counted-fold entries nothing_seen (λ e. absurd (cc))

pub ends-whole : (r : Rules) (opening : List Object) (epoch : ℕ) (entries : List (List ℕ)) → (seen r opening epoch entries).ended ≡ true → IsWhole r (seen r opening epoch entries)
ends-whole r opening epoch entries ended = record { cuts = last-cuts r opening epoch entries ended; quorum = ends-quorum r opening epoch entries ended }
