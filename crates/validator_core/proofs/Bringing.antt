-- How the course of an epoch stays sound if an entry of its sequence is taken.
use Rattle.std.proofs.Common.{◌≡◌, ◌∙◌, arith, ℕ, ◌+◌, ◌≤◌, Bool, true, false, cond, List, [], ◌∷◌, ◌++◌, map, length, take, drop, refl, sym, ap, subst}
use Rattle.std.specs.Prelude.{Option, Some, None, is_some, ◌==◌}
use Rattle.std.proofs.lemmas.List.{length-map}
use Rattle.std.proofs.lemmas.Bool.{eqb-true}
use Rattle.digest_core.specs.declared.Digest.{Digest}
use Rattle.chain_types.specs.declared.objects.ObjectId.{ObjectId}
use Rattle.chain_types.specs.Equal.{digest_eq}
use Rattle.quorum_core.specs.Committee.{is_among, is_quorum, weight}
use Rattle.protocol_spec.specs.declared.answers.Held.{Held}
use Rattle.protocol_spec.specs.declared.answers.SeenWhat.{SeenWhat}
use Rattle.protocol_spec.specs.declared.answers.SeenWhat.TheVariants as seen_as
use Rattle.protocol_spec.proofs.Equality.{digest_self}
use Rattle.protocol_spec.proofs.ListLemmas.{front_length, drop_all}
use Rattle.protocol_spec.specs.Chain.Certificates.{Rules}
use Rattle.protocol_spec.specs.Chain.Words.{IsFront}
use Rattle.protocol_spec.specs.Member.Admission.{Admission, Admitted, deferred_on, digest_of_admitted, entered, passed_mark, pending_on, since_mark}
use Rattle.protocol_spec.specs.Member.Checkpoints.{held_of, zero_digest}
use Rattle.protocol_spec.specs.Member.Votes.{Cast}
use Rattle.world_spec.specs.Terms.{rules_for}
use Rattle.protocol_spec.specs.Member.Sequence.{Cut, Sequence, What, with_entry, commits, counted_what, counts, cut_of, ignores, newly_admitted, newly_dropped, numbered, seen_what, takes, waiting_on}
use Rattle.epoch_turn.specs.declared.due.CutMark.{CutMark}
use Rattle.epoch_turn.specs.Chains.{AddsCuts, Chaining, KeepsCuts, StaysBehind, uncut, with_cut, with_mark}
use Rattle.epoch_turn.specs.Ends.{counted_after, said_of_end}
use Rattle.epoch_turn.specs.declared.ends.Counted.TheVariants as counted
use Rattle.epoch_turn.specs.Dues.{cuts_of, due_of, size_of}
use Rattle.epoch_turn.proofs.Told.{keeps_cuts}
use Rattle.version_assign.specs.declared.taken.Taken.{Taken}
use Rattle.version_assign.specs.Calls.{Admitting, with_entry as with_certificate, with_mark as with_mark_passed}
use Rattle.version_assign.specs.Sharing.{HasShared, ServesAs}
use Rattle.version_assign.proofs.Sharing.{kept_serve}
use Rattle.validator_core.specs.declared.epoch_state.EpochState.{EpochState}
use Rattle.validator_core.specs.Courses.{Coursed, IsAdmitting, IsSound, IsUnbuilt, WaitsIn, arrives, brings, coursed, marks, numbered_in}
use Rattle.validator_core.specs.declared.entries.EntryOutcome.{EntryOutcome}
use Rattle.validator_core.specs.declared.entries.EntryOutcome.TheVariants as arrivals
use Rattle.validator_core.specs.Entries.{behind_entry, waiting_answer, what_as}
use Rattle.validator_core.specs.Limits.{Accepting}
use Rattle.validator_core.specs.Sound.{member_with}
use Rattle.validator_core.proofs.Entering.{entered_front, entered_held, entered_marked, passed_front, passed_held, passed_marked}

-- ---- prefixes

take_all : {A : Type 0} (xs ys : List A) → take (length xs) (xs ++ ys) ≡ xs
take_all [] ys = refl
take_all (x ∷ xs) ys = ap (λ zs. x ∷ zs) (take_all xs ys)

rest_of : {A : Type 0} (xs ys : List A) → IsFront xs ys → ys ≡ xs ++ drop (length xs) ys
rest_of xs ys (rest, e) = e ∙ ap (λ zs. xs ++ zs) (sym (drop_all xs rest) ∙ sym (ap (drop (length xs)) e))

front_of : {A : Type 0} (xs ys : List A) → IsFront xs ys → take (length xs) ys ≡ xs
front_of xs ys (rest, e) = ap (take (length xs)) e ∙ take_all xs rest

-- ---- sizes of cuts

size_push : (ms : List CutMark) (m : CutMark) → size_of (ms ++ m ∷ []) ≡ size_of ms + m.size
size_push [] m = omega arith
size_push (n ∷ ns) m = let rest = size_push ns m in omega (arith, rest)

-- a cut takes all that was not cut
cut_size : (last : Bool) (c : Chaining) → size_of c.marks ≤ length c.due → size_of (with_cut last c).marks ≡ length c.due
cut_size last c few = let s = size_push c.marks (record { size = uncut c; last = last }) in omega (arith, s, few)

mark_size : (c : Chaining) → size_of c.marks ≤ length c.due → size_of (with_mark c).marks ≡ length c.due
mark_size c few = by (uncut c == 0) refl
  where
    by : (b : Bool) → (uncut c == 0) ≡ b → size_of (cond b c (with_cut false c)).marks ≡ length c.due
    by true e = let none = eqb-true (uncut c) 0 e in omega (arith, none, few)
    by false e = cut_size false c few

mark_due : (c : Chaining) → (with_mark c).due ≡ c.due
mark_due c = by (uncut c == 0)
  where
    by : (b : Bool) → (cond b c (with_cut false c)).due ≡ c.due
    by true = refl
    by false = refl

mark_past : (c : Chaining) → (with_mark c).past ≡ c.past
mark_past c = by (uncut c == 0)
  where
    by : (b : Bool) → (cond b c (with_cut false c)).past ≡ c.past
    by true = refl
    by false = refl

-- the cuts stay if more is admitted
same_cuts : (c : Chaining) → size_of c.marks ≤ length c.due → KeepsCuts c c
same_cuts c few = keeps_cuts c (record { tx = zero_digest; same = false }) few

module _ (c : EpochState) (sound : IsSound c) where
  u : IsUnbuilt c
  u = sound.unbuilt

  abbrev a : Admission
  a = c.admission.admission

  serve : ServesAs c.admission.opening c.store.opening
  serve = kept_serve c.admission.opening c.store.opening u.opening.0

  told_length : length c.chain.due ≡ length a.admitted
  told_length = ap length u.told ∙ length-map a.admitted (due_of c.held)

  -- ---- a certificate

  module _ (h : Held) where
    entered_is : entered c.admission.writers c.admission.opening a h ≡ entered c.admission.writers c.store.opening a h
    entered_is = (serve.entered c.admission.writers a h u.shared).0

    abbrev now : Admission
    now = entered c.admission.writers c.admission.opening a h

    pub bring_sound : (adm : Admitting) → WaitsIn c.held h → adm ≡ with_certificate c.admission h → IsAdmitting (length c.admission.admission.admitted) (record c { admission = adm })
    bring_sound adm here is = subst (λ (x : Admitting). IsAdmitting (length c.admission.admission.admitted) (record c { admission = x })) (sym is) entered_sound
      where
        front : IsFront a.admitted now.admitted
        front = entered_front c.admission.writers c.admission.opening c.held a u.known h here

        entered_sound : IsAdmitting (length a.admitted) (record c { admission = with_certificate c.admission h })
        entered_sound = record {
          held = u.held;
          waits = record { before = a; admits = record { more = drop (length a.admitted) now.admitted; admitted = rest_of a.admitted now.admitted front; named = refl }; waits = u.waits };
          opening = u.opening;
          shared = subst (HasShared c.store.opening) (sym entered_is) (serve.entered c.admission.writers a h u.shared).1;
          known = entered_held c.admission.writers c.admission.opening c.held a u.known h here;
          marked = λ unended. entered_marked c.admission.writers c.admission.opening c.held a u.known h here ∙ u.marked unended;
          few = u.few;
          within = front_length a.admitted now.admitted front;
          told = u.told ∙ sym (ap (map (due_of c.held)) (front_of a.admitted now.admitted front));
          behind = u.behind;
        }

    pub bring_is : (adm : Admitting) → WaitsIn c.held h → adm ≡ with_certificate c.admission h → coursed (record c { admission = adm }) ≡ record (coursed c) { sequence = record (coursed c).sequence { admission = entered c.admission.writers c.store.opening c.admission.admission h } }
    bring_is adm here is =
        ap (λ (x : Admitting). coursed (record c { admission = x })) is
        ∙ ap
        (λ (cuts : List Cut). record (coursed c) { sequence = record (coursed c).sequence { admission = now; cuts = cuts } })
        (ap (λ (xs : List Admitted). cuts_of xs c.chain.marks) (rest_of a.admitted now.admitted front) ∙ same_cuts c.chain u.few c.held a.admitted (drop (length a.admitted) now.admitted) u.told)
        ∙ ap (λ (x : Admission). record (coursed c) { sequence = record (coursed c).sequence { admission = x } }) entered_is
      where
        front : IsFront a.admitted now.admitted
        front = entered_front c.admission.writers c.admission.opening c.held a u.known h here

  -- ---- a mark

  module _ (unended : c.ended ≡ false) (chain : Chaining) (adm : Admitting) (marked : chain ≡ with_mark c.chain) (adds : AddsCuts cut_of c.chain chain) (stays : StaysBehind c.chain chain) (is : adm ≡ with_mark_passed c.admission) where
    abbrev passed : Admission
    passed = passed_mark c.admission.writers c.admission.opening a

    passed_is : passed ≡ passed_mark c.admission.writers c.store.opening a
    passed_is = (serve.passed c.admission.writers a u.shared).0

    passes : IsFront a.admitted passed.admitted
    passes = passed_front c.admission.writers c.admission.opening c.held a u.known

    size : size_of chain.marks ≡ length c.chain.due
    size = ap (λ (ch : Chaining). size_of ch.marks) marked ∙ mark_size c.chain u.few

    due : chain.due ≡ c.chain.due
    due = ap (λ (ch : Chaining). ch.due) marked ∙ mark_due c.chain

    few : size_of chain.marks ≤ length chain.due
    few = let s = size in let d = ap length due in omega (arith, s, d)

    pub mark_sound : IsAdmitting (length c.admission.admission.admitted) (record c { chain = chain; admission = adm })
    mark_sound = subst (λ (x : Admitting). IsAdmitting (length c.admission.admission.admitted) (record c { chain = chain; admission = x })) (sym is) (record {
      held = u.held;
      waits = record { before = a; admits = record { more = drop (length a.admitted) passed.admitted; admitted = rest_of a.admitted passed.admitted passes; named = refl }; waits = u.waits };
      opening = u.opening;
      shared = subst (HasShared c.store.opening) (sym passed_is) (serve.passed c.admission.writers a u.shared).1;
      known = passed_held c.admission.writers c.admission.opening c.held a u.known;
      marked = λ _. passed_marked c.admission.writers c.admission.opening c.held a u.known ∙ sym told_length ∙ sym size;
      few = few;
      within = front_length a.admitted passed.admitted passes;
      told = due ∙ u.told ∙ sym (ap (map (due_of c.held)) (front_of a.admitted passed.admitted passes));
      behind = stays c.epoch c.store.executed u.behind;
    })

    pub mark_is : coursed (record c { chain = chain; admission = adm }) ≡ marks (coursed c)
    mark_is =
        ap (λ (x : Admitting). coursed (record c { chain = chain; admission = x })) is
        ∙ ap
        (λ (cuts : List Cut). record (coursed c) { sequence = record (coursed c).sequence { admission = passed; cuts = cuts }; past = chain.past })
        (ap (λ (xs : List Admitted). cuts_of xs chain.marks) (rest_of a.admitted passed.admitted passes)
        ∙ same_cuts chain few c.held a.admitted (drop (length a.admitted) passed.admitted) (due ∙ u.told)
        ∙ adds c.held a.admitted u.told
        ∙ ap (λ n. cuts_of a.admitted c.chain.marks ++ cut_of (drop n a.admitted)) (sym (u.marked unended)))
        ∙ ap (λ xs. record (coursed c) { sequence = record (coursed c).sequence { admission = passed; cuts = cuts_of a.admitted c.chain.marks ++ cut_of (since_mark a) }; past = xs }) (ap (λ (ch : Chaining). ch.past) marked ∙ mark_past c.chain)
        ∙ ap (λ (x : Admission). record (coursed c) { sequence = record (coursed c).sequence { admission = x; cuts = cuts_of a.admitted c.chain.marks ++ cut_of (since_mark a) } }) passed_is

  -- ---- an End

  pub end_sound : (chain : Chaining) (members : List ℕ) → chain ≡ with_cut true c.chain → StaysBehind c.chain chain → IsUnbuilt (record c { chain = chain; ends = members; ended = true })
  end_sound chain members is stays = record {
    held = u.held;
    waits = u.waits;
    opening = u.opening;
    shared = u.shared;
    known = u.known;
    marked = λ e. absurd (cc);
    few = let s : size_of chain.marks ≡ length c.chain.due = ap (λ (ch : Chaining). size_of ch.marks) is ∙ cut_size true c.chain u.few in let d = ap (λ (ch : Chaining). length ch.due) is in omega (arith, s, d);
    told = ap (λ (ch : Chaining). ch.due) is ∙ u.told;
    behind = stays c.epoch c.store.executed u.behind;
  }

-- ---- what is held after an entry

pub brings_with : (cs : Coursed) (h : Held) (b : Bool) → is_some (held_of cs.held h.digest) ≡ b
    → record cs { held = cond b cs.held (cs.held ++ h ∷ []); sequence = record cs.sequence { admission = entered cs.writers cs.opening cs.sequence.admission h } } ≡ brings cs h
brings_with cs h b e = ap (λ (x : Bool). record cs { held = cond x cs.held (cs.held ++ h ∷ []); sequence = record cs.sequence { admission = entered cs.writers cs.opening cs.sequence.admission h } }) (sym e)

pub held_last : (held : List Held) (h : Held) → is_some (held_of (held ++ h ∷ []) h.digest) ≡ true
held_last [] h = ap (λ (b : Bool). is_some (cond b (Some h) None)) (digest_self h.digest)
held_last (g ∷ gs) h = by (digest_eq g.digest h.digest) (held_last gs h)
  where
    by : (b : Bool) → is_some (held_of (gs ++ h ∷ []) h.digest) ≡ true → is_some (cond b (Some g) (held_of (gs ++ h ∷ []) h.digest)) ≡ true
    by true rest = refl
    by false rest = rest

-- ---- what is answered

pub commit_what : (r : Rules) (old new : Sequence) (taken : Taken) (mid : Admission) → new.admission ≡ mid → taken.admitted ≡ map digest_of_admitted (drop (length old.admission.admitted) mid.admitted) → taken.dropped ≡ drop (length old.admission.dropped) mid.dropped
    → seen_as.Commit taken.admitted taken.dropped ≡ seen_what r old new commits
unfolding seen_what
commit_what r old new taken mid is admitted dropped =
    ap (λ xs. seen_as.Commit xs taken.dropped) (admitted ∙ sym (ap (λ (x : Admission). map digest_of_admitted (drop (length old.admission.admitted) x.admitted)) is))
    ∙ ap (λ xs. seen_as.Commit (newly_admitted old new) xs) (dropped ∙ sym (ap (λ (x : Admission). drop (length old.admission.dropped) x.dropped) is))

waiting_same : (old new : Sequence) (tx : Digest) (p : Option Digest) (d : Option ObjectId) (taken : Taken) → taken.admitted ≡ newly_admitted old new → taken.dropped ≡ newly_dropped old new → waiting_answer p d tx taken ≡ waiting_on old new tx p d
waiting_same old new tx (Some origin) d taken admitted dropped = refl
waiting_same old new tx None (Some id) taken admitted dropped = refl
waiting_same old new tx None None taken admitted dropped = ap (λ xs. seen_as.Taken xs taken.dropped) admitted ∙ ap (λ xs. seen_as.Taken (newly_admitted old new) xs) dropped

pub taken_what : (r : Rules) (old new : Sequence) (h : Held) (writers : Option ℕ) (mid : Admission) (taken : Taken) (what : SeenWhat) → r.writers ≡ writers → new.admission ≡ mid → taken.admitted ≡ map digest_of_admitted (drop (length old.admission.admitted) mid.admitted)
    → taken.dropped ≡ drop (length old.admission.dropped) mid.dropped → what ≡ waiting_answer (pending_on new.admission h.digest) (deferred_on writers new.admission h.digest) h.digest taken → what ≡ seen_what r old new (takes h)
unfolding seen_what
taken_what r old new h writers mid taken what limit is admitted dropped said =
    said
    ∙ waiting_same old new h.digest (pending_on new.admission h.digest) (deferred_on writers new.admission h.digest) taken
    (admitted ∙ sym (ap (λ (x : Admission). map digest_of_admitted (drop (length old.admission.admitted) x.admitted)) is))
    (dropped ∙ sym (ap (λ (x : Admission). drop (length old.admission.dropped) x.dropped) is))
    ∙ ap (λ w. waiting_on old new h.digest (pending_on new.admission h.digest) (deferred_on w new.admission h.digest)) (sym limit)

weight_is : (stakes members : List ℕ) (member w : ℕ) (among quorum : Bool) → among ≡ false → counted.Weight w ≡ cond among counted.Repeat (cond quorum (counted.Ended (weight stakes (members ++ member ∷ []))) (counted.Weight (weight stakes (members ++ member ∷ [])))) → w ≡ weight stakes (members ++ member ∷ [])
weight_is stakes members member w true quorum new e = absurd (cc)
weight_is stakes members member w false true new e = absurd (cc)
weight_is stakes members member w false false new e = cc

ended_is : (stakes members : List ℕ) (member w : ℕ) (among quorum : Bool) → among ≡ false → counted.Ended w ≡ cond among counted.Repeat (cond quorum (counted.Ended (weight stakes (members ++ member ∷ []))) (counted.Weight (weight stakes (members ++ member ∷ [])))) → w ≡ weight stakes (members ++ member ∷ [])
ended_is stakes members member w true quorum new e = absurd (cc)
ended_is stakes members member w false false new e = absurd (cc)
ended_is stakes members member w false true new e = cc

module _ (r : Rules) (stakes : List ℕ) (old new : Sequence) (member w : ℕ) (same : r.stakes ≡ stakes) (first : is_among old.counted member ≡ false) (counts_it : new.counted ≡ counted_after old.counted member) where
  now_counted : new.counted ≡ old.counted ++ member ∷ []
  now_counted = counts_it ∙ ap (λ (b : Bool). cond b old.counted (old.counted ++ member ∷ [])) first

  weighs : weight stakes (old.counted ++ member ∷ []) ≡ weight r.stakes new.counted
  weighs = ap (λ ms. weight stakes ms) (sym now_counted) ∙ ap (λ ss. weight ss new.counted) (sym same)

  pub weight_what : new.ended ≡ false → counted.Weight w ≡ said_of_end stakes old.counted member → seen_as.Counted member w ≡ seen_what r old new (counts member)
  unfolding seen_what
  weight_what goes said =
      ap (seen_as.Counted member) (weight_is stakes old.counted member w (is_among old.counted member) (is_quorum stakes (weight stakes (old.counted ++ member ∷ []))) first said ∙ weighs)
      ∙ ap (λ (b : Bool). counted_what b member (weight r.stakes new.counted)) (sym goes)

  pub ended_what : new.ended ≡ true → counted.Ended w ≡ said_of_end stakes old.counted member → seen_as.Ended member w ≡ seen_what r old new (counts member)
  unfolding seen_what
  ended_what ends_it said =
      ap (seen_as.Ended member) (ended_is stakes old.counted member w (is_among old.counted member) (is_quorum stakes (weight stakes (old.counted ++ member ∷ []))) first said ∙ weighs)
      ∙ ap (λ (b : Bool). counted_what b member (weight r.stakes new.counted)) (sym ends_it)

-- the number of an entry plays no part in its answer
pub numbered_what : (r : Rules) (old new : Sequence) (what : What) → seen_what r old (numbered new) what ≡ seen_what r old new what
unfolding seen_what
numbered_what r old new (takes h) = refl
numbered_what r old new commits = refl
numbered_what r old new (counts member) = refl
numbered_what r old new (ignores cause) = refl

-- the member after an entry that was taken
pub entry_is : (stakes : List ℕ) (cs new : Coursed) (arrival : EntryOutcome) (records : ℕ) (closed : Bool) (votes : List Cast) (accepts : Accepting) → new ≡ numbered_in (arrives stakes cs arrival)
    → member_with (records + 1) closed votes new ≡ behind_entry (rules_for (record { stakes = stakes; writers = cs.writers }) accepts) (member_with records closed votes cs) (what_as arrival)
unfolding with_entry
entry_is stakes cs new (arrivals.Takes h) records closed votes accepts is = ap (member_with (records + 1) closed votes) is
entry_is stakes cs new arrivals.Commits records closed votes accepts is = ap (member_with (records + 1) closed votes) is
entry_is stakes cs new (arrivals.Counts member) records closed votes accepts is = ap (member_with (records + 1) closed votes) is
entry_is stakes cs new (arrivals.Ignores cause) records closed votes accepts is = ap (member_with (records + 1) closed votes) is
