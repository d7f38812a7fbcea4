-- The transactions of the cuts are admitted first.
use Rattle.std.proofs.Common.{refl, sym, subst, ap, ◌∙◌, append_assoc, append-nil}
use Rattle.std.specs.Prelude.{◌≡◌, ℕ, zero, suc, Bool, true, false, cond, List, [], ◌∷◌, ◌++◌, drop, fold, find, flat_map, length, Option, Some, None}
use Rattle.chain_types.specs.declared.objects.Object.{Object}
use Rattle.protocol_spec.specs.declared.answers.Held.{Held}
use Rattle.protocol_spec.proofs.ListLemmas.{drop_all, flat_append}
use Rattle.protocol_spec.specs.Chain.Words.{IsFront}
use Rattle.protocol_spec.specs.Chain.Certificates.{Rules}
use Rattle.protocol_spec.specs.Member.Admission.{Admitted, Admission, is_free, taken_as, taken, is_dropped, taken_next, take_free, entered, passed_mark, admit, since_mark}
use Rattle.safety_law.specs.Checkpointed.{admitted_in}
use Rattle.protocol_spec.specs.Member.Sequence.{Cut, Sequence, What, takes, commits, counts, ignores, nothing_seen, what_of, cut_of, last_cut, counted_as, ends_with_member, with_what, with_entry, saw, seen}

pub cut-txs : (all : List Admitted) → flat_map admitted_in (cut_of all) ≡ all
cut-txs [] = refl
cut-txs (a ∷ more) = append-nil (a ∷ more)

-- ---- admission only appends, and keeps the mark

abbrev GoesOn : Admission → Admission → Type 0
GoesOn a b = IsFront a.admitted b.admitted × (b.marked ≡ a.marked)

goes-same : (a : Admission) → GoesOn a a
goes-same a = (([], sym (append-nil a.admitted)), refl)

goes-then : (a b c : Admission) → GoesOn a b → GoesOn b c → GoesOn a c
goes-then a b c ((more, e), m) ((rest, h), k) = ((more ++ rest, h ∙ ap (λ zs. zs ++ rest) e ∙ append_assoc a.admitted more rest), k ∙ m)

goes-taken_as : (opening : List Object) (b : Bool) (a : Admission) (h : Held) → GoesOn a (taken_as b opening a h)
goes-taken_as opening true a h = (([], sym (append-nil a.admitted)), refl)
goes-taken_as opening false a h = ((admit opening a.admitted h ∷ [], refl), refl)

goes-next : (opening : List Object) (next : Admission → Admission) → ((a : Admission) → GoesOn a (next a)) → (a : Admission) (h : Option Held) → GoesOn a (taken_next next opening a h)
goes-next opening next goes a None = goes-same a
goes-next opening next goes a (Some h) = goes-then a (taken opening a h) (next (taken opening a h)) (goes-taken_as opening (is_dropped opening a.admitted h.cert) a h) (goes (taken opening a h))

goes-free : (writers : Option ℕ) (opening : List Object) (n : ℕ) (a : Admission) → GoesOn a (take_free writers opening n a)
goes-free writers opening zero a = goes-same a
goes-free writers opening (suc n) a = goes-next opening (take_free writers opening n) (goes-free writers opening n) a (find (is_free writers a) a.pending)

-- ---- the cuts, and what was admitted since the last mark, are what was admitted

-- what a mark leaves after it stays after it
drop-more : {A : Type 0} (n : ℕ) (xs front ys : List A) → front ++ drop n xs ≡ xs → length front ≡ n → front ++ drop n (xs ++ ys) ≡ xs ++ ys
drop-more {A = A} n xs front ys e k =
    subst (λ (m : ℕ). front ++ drop m (xs ++ ys) ≡ xs ++ ys) k
    (subst (λ (zs : List A). front ++ drop (length front) (zs ++ ys) ≡ zs ++ ys) e
    (ap (λ (zs : List A). front ++ drop (length front) zs) (append_assoc front (drop n xs) ys)
    ∙ ap (λ (zs : List A). front ++ zs) (drop_all front (drop n xs ++ ys)) ∙ sym (append_assoc front (drop n xs) ys)))

-- the cut transactions are those admitted before the mark; if the epoch has ended, all of them
record IsCutUp (q : Sequence) : Type 0 where
  marked : length (flat_map admitted_in q.cuts) ≡ q.admission.marked
  joined : flat_map admitted_in q.cuts ++ drop q.admission.marked q.admission.admitted ≡ q.admission.admitted

record IsCut (q : Sequence) : Type 0 where
  front : IsFront (flat_map admitted_in q.cuts) q.admission.admitted
  upto : q.ended ≡ false → IsCutUp q

grown-cut : (q : Sequence) (b : Admission) → GoesOn q.admission b → IsCut q → IsCut (record q { admission = b })
grown-cut q b ((more, e), m) cut = record {
  front = (cut.front.0 ++ more, e ∙ ap (λ (zs : List Admitted). zs ++ more) cut.front.1 ∙ append_assoc (flat_map admitted_in q.cuts) cut.front.0 more);
  upto = λ open_yet.
      let up = cut.upto open_yet in
      record {
        marked = up.marked ∙ sym m;
        joined = subst (λ (zs : List Admitted). flat_map admitted_in q.cuts ++ drop b.marked zs ≡ zs) (sym e)
            (subst (λ (n : ℕ). flat_map admitted_in q.cuts ++ drop n (q.admission.admitted ++ more) ≡ q.admission.admitted ++ more) (sym m)
            (drop-more q.admission.marked q.admission.admitted (flat_map admitted_in q.cuts) more up.joined up.marked));
      };
}

-- the cuts with those since the last mark
cuts-with : (q : Sequence) → IsCutUp q → (c : List Cut) → flat_map admitted_in c ≡ since_mark q.admission → flat_map admitted_in (q.cuts ++ c) ≡ q.admission.admitted
cuts-with q up c e = flat_append admitted_in q.cuts c ∙ ap (λ (zs : List Admitted). flat_map admitted_in q.cuts ++ zs) e ∙ up.joined

marked-cut : (q : Sequence) (b : Admission) → GoesOn (record q.admission { marked = length q.admission.admitted }) b → IsCutUp q → IsCut (record q { admission = b; cuts = q.cuts ++ cut_of (since_mark q.admission) })
marked-cut q b ((more, e), m) up =
    let all = cuts-with q up (cut_of (since_mark q.admission)) (cut-txs (since_mark q.admission)) in
    record {
      front = (more, e ∙ ap (λ (zs : List Admitted). zs ++ more) (sym all));
      upto = λ open_yet. record {
        marked = ap length all ∙ sym m;
        joined = ap (λ (zs : List Admitted). zs ++ drop b.marked b.admitted) all
            ∙ ap (λ (n : ℕ). q.admission.admitted ++ drop n b.admitted) m
            ∙ ap (λ (zs : List Admitted). q.admission.admitted ++ drop (length q.admission.admitted) zs) e
            ∙ ap (λ (zs : List Admitted). q.admission.admitted ++ zs) (drop_all q.admission.admitted more) ∙ sym e;
      };
    }

counted-cut : (b : Bool) (q : Sequence) (m : ℕ) → IsCutUp q → IsCut q → IsCut (counted_as b q m)
counted-cut true q m up cut = record {
  front = ([], sym (append-nil (flat_map admitted_in (q.cuts ++ last_cut (since_mark q.admission) ∷ [])) ∙ cuts-with q up (last_cut (since_mark q.admission) ∷ []) (append-nil (since_mark q.admission))));
  upto = λ open_yet. absurd (cc);
}
counted-cut false q m up cut = record { front = cut.front; upto = λ open_yet. record { marked = up.marked; joined = up.joined } }

what-cut : (r : Rules) (opening : List Object) (q : Sequence) (what : What) → IsCutUp q → IsCut q → IsCut (with_what r opening q what)
unfolding entered passed_mark
what-cut r opening q (takes h) up cut =
    let n = length (q.admission.pending ++ h ∷ []) in
    grown-cut q (take_free r.writers opening n (record q.admission { pending = q.admission.pending ++ h ∷ [] })) (goes-free r.writers opening n (record q.admission { pending = q.admission.pending ++ h ∷ [] })) cut
what-cut r opening q commits up cut =
    let n = length q.admission.pending in
    marked-cut q (take_free r.writers opening n (record q.admission { marked = length q.admission.admitted })) (goes-free r.writers opening n (record q.admission { marked = length q.admission.admitted })) up
what-cut r opening q (counts m) up cut = counted-cut (ends_with_member r q m) q m up cut
what-cut r opening q (ignores cause) up cut = cut

saw-cut : (r : Rules) (opening : List Object) (epoch : ℕ) (q : Sequence) (bytes : List ℕ) → IsCut q → IsCut (saw r opening epoch q bytes)
unfolding saw with_entry
saw-cut r opening epoch q bytes cut = go q.ended refl
  where
    taken : IsCut (with_what r opening q (what_of r epoch q bytes)) → IsCut (with_entry r opening q (what_of r epoch q bytes))
    taken it = record { front = it.front; upto = λ e. record { marked = (it.upto e).marked; joined = (it.upto e).joined } }

    go : (b : Bool) → q.ended ≡ b → IsCut (cond b q (with_entry r opening q (what_of r epoch q bytes)))
    go true e = cut
    go false e = taken (what-cut r opening q (what_of r epoch q bytes) (cut.upto e) cut)

fold-cut : (r : Rules) (opening : List Object) (epoch : ℕ) (entries : List (List ℕ)) (q : Sequence) → IsCut q → IsCut (fold (saw r opening epoch) q entries)
fold-cut r opening epoch [] q cut = cut
fold-cut r opening epoch (bytes ∷ entries) q cut = fold-cut r opening epoch entries (saw r opening epoch q bytes) (saw-cut r opening epoch q bytes cut)

pub cut-seen : (r : Rules) (opening : List Object) (epoch : ℕ) (entries : List (List ℕ)) → IsFront (flat_map admitted_in (seen r opening epoch entries).cuts) (seen r opening epoch entries).admission.admitted
unfolding seen
cut-seen r opening epoch entries = (fold-cut r opening epoch entries nothing_seen (record { front = ([], refl); upto = λ e. record { marked = refl; joined = refl } })).front
