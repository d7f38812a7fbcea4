-- Admission and the cuts only grow, and a member has seen a prefix of its epoch's sequence.
use Rattle.std.proofs.Common.{inl, inr, refl, sym, subst, ap, ◌∙◌, append_assoc}
use Rattle.std.specs.Prelude.{◌≡◌, ◌⊎◌, ℕ, zero, suc, ◌+◌, Bool, true, false, cond, not, ◌==◌, List, [], ◌∷◌, ◌++◌, map, fold, find, length, slice_get, Option, Some, None}
use Rattle.chain_types.specs.declared.objects.Object.{Object}
use Rattle.chain_messages.specs.Messages as messages
use Rattle.chain_messages.specs.declared.messages.Entry.{Entry}
use Rattle.journal_core.specs.declared.records.Record.{Record}
use Rattle.journal_core.specs.declared.records.Record.TheVariants as record_as
use Rattle.protocol_spec.specs.declared.answers.Held.{Held}
use Rattle.protocol_spec.specs.declared.refusals.SeeRefusal.{SeeRefusal}
use Rattle.protocol_spec.specs.declared.refusals.SeeRefusal.TheVariants as no_see
use Rattle.schedule_text.specs.declared.words.Event.{Event}
use Rattle.protocol_spec.proofs.ListLemmas.{push_length, front_whole, front_then}
use Rattle.protocol_spec.specs.Chain.Words.{IsFront, first_some, where_true}
use Rattle.protocol_spec.specs.Chain.Certificates.{Rules}
use Rattle.protocol_spec.specs.Member.Admission.{Admission, is_free, taken_as, taken, is_dropped, taken_next, take_free, entered, passed_mark, admit, since_mark}
use Rattle.protocol_spec.specs.Member.Sequence.{Sequence, What, takes, commits, counts, ignores, nothing_seen, what_of, cut_of, last_cut, counted_as, ends_with_member, with_what, with_entry, saw, seen}
use Rattle.protocol_spec.specs.Member.Member.{Member, after, state}
use Rattle.protocol_spec.specs.Member.Calls.{Call, votes, holds, sees, runs, closes, ends, turns, acks, halted, full, see_cases, see_record, due}
use Rattle.world_spec.specs.Setting.{Setting}
use Rattle.world_spec.specs.World.{Seat, member_in, entries_at}
use Rattle.world_spec.specs.Run.{world_after}
use Rattle.safety_law.proofs.Apart.{state-push}
use Rattle.safety_law.specs.Agreed.{IsTaken, IsEarlier}
use Rattle.safety_law.proofs.Appends.{due-appends}
use Rattle.safety_law.proofs.Growth.{Grown, front-push}
use Rattle.safety_law.proofs.InSequences.{Comes, in_sequences}

-- ---- lists

-- of two prefixes of one list the one is a prefix of the other
pub either-front : {A : Type 0} (xs ys us vs : List A) → xs ++ us ≡ ys ++ vs → IsFront xs ys ⊎ IsFront ys xs
either-front [] ys us vs e = inl (ys, refl)
either-front (x ∷ xs) [] us vs e = inr (x ∷ xs, refl)
either-front {A = A} (x ∷ xs) (y ∷ ys) us vs e = go (either-front xs ys us vs (tails x y (xs ++ us) (ys ++ vs) e))
  where
    tails : (x y : A) (ps qs : List A) → x ∷ ps ≡ y ∷ qs → ps ≡ qs
    tails x y ps qs e = cc

    heads : (x y : A) (ps qs : List A) → x ∷ ps ≡ y ∷ qs → x ≡ y
    heads x y ps qs e = cc

    go : IsFront xs ys ⊎ IsFront ys xs → IsFront (x ∷ xs) (y ∷ ys) ⊎ IsFront (y ∷ ys) (x ∷ xs)
    go (inl (more, h)) = inl (more, rw (h, heads x y (xs ++ us) (ys ++ vs) e) refl)
    go (inr (more, h)) = inr (more, rw (h, heads x y (xs ++ us) (ys ++ vs) e) refl)

-- the element after a prefix is the first of the rest
next-of : {A : Type 0} (front rest : List A) (e : A) → slice_get (front ++ rest) (length front) ≡ Some e → (more : List A) × (rest ≡ e ∷ more)
next-of [] [] e h = absurd (cc)
next-of [] (x ∷ rest) e h = (rest, ap (λ (z : _). z ∷ rest) (same x e h))
  where
    same : {A : Type 0} (x e : A) → Some x ≡ Some e → x ≡ e
    same x e h = cc
next-of (x ∷ front) rest e h = next-of front rest e h

fold-map-push : {A B C : Type 0} (f : C → B → C) (g : A → B) (c : C) (xs : List A) (x : A) → fold f c (map g (xs ++ x ∷ [])) ≡ f (fold f c (map g xs)) (g x)
fold-map-push f g c [] x = refl
fold-map-push f g c (y ∷ ys) x = fold-map-push f g (f c (g y)) ys x

fold-map-append : {A B C : Type 0} (f : C → B → C) (g : A → B) (c : C) (xs ys : List A) → fold f c (map g (xs ++ ys)) ≡ fold f (fold f c (map g xs)) (map g ys)
fold-map-append f g c [] ys = refl
fold-map-append f g c (x ∷ xs) ys = fold-map-append f g (f c (g x)) xs ys

-- ---- what only grows

grows-taken_as : (opening : List Object) (b : Bool) (a : Admission) (h : Held) → IsFront a.admitted (taken_as b opening a h).admitted
grows-taken_as opening true a h = front_whole a.admitted
grows-taken_as opening false a h = front-push a.admitted (admit opening a.admitted h)

grows-next : (opening : List Object) (next : Admission → Admission) → ((a : Admission) → IsFront a.admitted (next a).admitted) → (a : Admission) (h : Option Held) → IsFront a.admitted (taken_next next opening a h).admitted
grows-next opening next grows a None = front_whole a.admitted
grows-next opening next grows a (Some h) = front_then a.admitted (taken opening a h).admitted (next (taken opening a h)).admitted
    (grows-taken_as opening (is_dropped opening a.admitted h.cert) a h) (grows (taken opening a h))

grows-free : (writers : Option ℕ) (opening : List Object) (n : ℕ) (a : Admission) → IsFront a.admitted (take_free writers opening n a).admitted
grows-free writers opening zero a = front_whole a.admitted
grows-free writers opening (suc n) a = grows-next opening (take_free writers opening n) (grows-free writers opening n) a (find (is_free writers a) a.pending)

grows-entered : (writers : Option ℕ) (opening : List Object) (a : Admission) (h : Held) → IsFront a.admitted (entered writers opening a h).admitted
unfolding entered
grows-entered writers opening a h = grows-free writers opening (length (a.pending ++ h ∷ [])) (record a { pending = a.pending ++ h ∷ [] })

grows-mark : (writers : Option ℕ) (opening : List Object) (a : Admission) → IsFront a.admitted (passed_mark writers opening a).admitted
unfolding passed_mark
grows-mark writers opening a = grows-free writers opening (length a.pending) (record a { marked = length a.admitted })

pub earlier-same : (q : Sequence) → IsEarlier q q
earlier-same q = record { admitted = front_whole q.admission.admitted; cuts = front_whole q.cuts }

earlier-counted : (b : Bool) (q : Sequence) (m : ℕ) → IsEarlier q (counted_as b q m)
earlier-counted true q m = record { admitted = front_whole q.admission.admitted; cuts = front-push q.cuts (last_cut (since_mark q.admission)) }
earlier-counted false q m = record { admitted = front_whole q.admission.admitted; cuts = front_whole q.cuts }

earlier-what : (r : Rules) (opening : List Object) (q : Sequence) (what : What) → IsEarlier q (with_what r opening q what)
earlier-what r opening q (takes h) = record { admitted = grows-entered r.writers opening q.admission h; cuts = front_whole q.cuts }
earlier-what r opening q commits = record { admitted = grows-mark r.writers opening q.admission; cuts = (cut_of (since_mark q.admission), refl) }
earlier-what r opening q (counts m) = earlier-counted (ends_with_member r q m) q m
earlier-what r opening q (ignores cause) = earlier-same q

pub earlier-saw : (r : Rules) (opening : List Object) (epoch : ℕ) (q : Sequence) (bytes : List ℕ) → IsEarlier q (saw r opening epoch q bytes)
unfolding saw with_entry
earlier-saw r opening epoch q bytes = go q.ended (earlier-what r opening q (what_of r epoch q bytes))
  where
    go : (b : Bool) → IsEarlier q (with_what r opening q (what_of r epoch q bytes)) → IsEarlier q (cond b q (with_entry r opening q (what_of r epoch q bytes)))
    go true e = earlier-same q
    go false e = record { admitted = e.admitted; cuts = e.cuts }

pub earlier-then : (q p o : Sequence) → IsEarlier q p → IsEarlier p o → IsEarlier q o
earlier-then q p o one two = record {
  admitted = front_then q.admission.admitted p.admission.admitted o.admission.admitted one.admitted two.admitted;
  cuts = front_then q.cuts p.cuts o.cuts one.cuts two.cuts;
}

earlier-fold : (r : Rules) (opening : List Object) (epoch : ℕ) (entries : List Entry) (q : Sequence) → IsEarlier q (fold (saw r opening epoch) q (map messages.entry.spell entries))
earlier-fold r opening epoch [] q = earlier-same q
earlier-fold r opening epoch (e ∷ entries) q = earlier-then q (saw r opening epoch q (messages.entry.spell e)) (fold (saw r opening epoch) q (map messages.entry.spell (e ∷ entries)))
    (earlier-saw r opening epoch q (messages.entry.spell e)) (earlier-fold r opening epoch entries (saw r opening epoch q (messages.entry.spell e)))

-- more entries give more
pub earlier-front : (r : Rules) (opening : List Object) (epoch : ℕ) (front longer : List Entry) → IsFront front longer → IsEarlier (seen r opening epoch (map messages.entry.spell front)) (seen r opening epoch (map messages.entry.spell longer))
unfolding seen
earlier-front r opening epoch front longer (rest, e) = subst (λ (o : Sequence). IsEarlier (fold (saw r opening epoch) nothing_seen (map messages.entry.spell front)) o)
    (sym (ap (λ (xs : List Entry). fold (saw r opening epoch) nothing_seen (map messages.entry.spell xs)) e ∙ fold-map-append (saw r opening epoch) messages.entry.spell nothing_seen front rest))
    (earlier-fold r opening epoch rest (fold (saw r opening epoch) nothing_seen (map messages.entry.spell front)))

-- ---- one more entry

number-counted : (b : Bool) (q : Sequence) (m : ℕ) → (counted_as b q m).number ≡ q.number
number-counted true q m = refl
number-counted false q m = refl

number-what : (r : Rules) (opening : List Object) (q : Sequence) (what : What) → (with_what r opening q what).number ≡ q.number
number-what r opening q (takes h) = refl
number-what r opening q commits = refl
number-what r opening q (counts m) = number-counted (ends_with_member r q m) q m
number-what r opening q (ignores cause) = refl

number-saw : (r : Rules) (opening : List Object) (epoch : ℕ) (q : Sequence) (bytes : List ℕ) → q.ended ≡ false → (saw r opening epoch q bytes).number ≡ q.number + 1
unfolding saw with_entry
number-saw r opening epoch q bytes going = go q.ended going
  where
    go : (b : Bool) → b ≡ false → (cond b q (with_entry r opening q (what_of r epoch q bytes))).number ≡ q.number + 1
    go true e = absurd (cc)
    go false e = ap (λ (n : ℕ). n + 1) (number-what r opening q (what_of r epoch q bytes))

seen-push : (r : Rules) (opening : List Object) (epoch : ℕ) (front : List Entry) (e : Entry) → seen r opening epoch (map messages.entry.spell (front ++ e ∷ [])) ≡ saw r opening epoch (seen r opening epoch (map messages.entry.spell front)) (messages.entry.spell e)
unfolding seen
seen-push r opening epoch front e = fold-map-push (saw r opening epoch) messages.entry.spell nothing_seen front e

-- ---- the call that appends an entry

-- a call with these bytes, to a member whose epoch has not ended
abbrev pub IsSee : Member → List ℕ → Call → Type 0
IsSee m bytes (votes b) = ⊥
IsSee m bytes (holds b) = ⊥
IsSee m bytes (sees number b) = (b ≡ bytes) × (m.sequence.ended ≡ false)
IsSee m bytes runs = ⊥
IsSee m bytes closes = ⊥
IsSee m bytes ends = ⊥
IsSee m bytes turns = ⊥
IsSee m bytes (acks tx) = ⊥

see-see : (m : Member) (number : ℕ) (b bytes : List ℕ) → see_record m number b (first_some (see_cases m number)) ≡ Some (record_as.See bytes) → (b ≡ bytes) × (m.sequence.ended ≡ false)
see-see m number b bytes e = go (halted no_see.Halted m) (full no_see.Full m) m.sequence.ended refl (where_true (not (number == m.sequence.number)) (no_see.Gap number m.sequence.number)) e
  where
    same : Some (record_as.See b) ≡ Some (record_as.See bytes) → b ≡ bytes
    same e = cc

    go : (x y : Option SeeRefusal) (ended : Bool) → m.sequence.ended ≡ ended → (z : Option SeeRefusal) → see_record m number b (first_some (x ∷ y ∷ where_true ended no_see.Over ∷ z ∷ [])) ≡ Some (record_as.See bytes) → (b ≡ bytes) × (m.sequence.ended ≡ false)
    go (Some x) y ended q z e = absurd (cc)
    go None (Some y) ended q z e = absurd (cc)
    go None None true q z e = absurd (cc)
    go None None false q (Some z) e = absurd (cc)
    go None None false q None e = (same e, q)

-- only a call with an entry appends an entry
pub due-see : (r : Rules) (m : Member) (bytes : List ℕ) (call : Call) → due r m call ≡ Some (record_as.See bytes) → IsSee m bytes call
unfolding due
due-see r m bytes (votes b) e = let k = due-appends (record_as.See bytes) r m (votes b) e in absurd (cc)
due-see r m bytes (holds b) e = let k = due-appends (record_as.See bytes) r m (holds b) e in absurd (cc)
due-see r m bytes (sees number b) e = see-see m number b bytes e
due-see r m bytes runs e = let k = due-appends (record_as.See bytes) r m runs e in absurd (cc)
due-see r m bytes closes e = let k = due-appends (record_as.See bytes) r m closes e in absurd (cc)
due-see r m bytes ends e = absurd (cc)
due-see r m bytes turns e = let k = due-appends (record_as.See bytes) r m turns e in absurd (cc)
due-see r m bytes (acks tx) e = absurd (cc)

-- ---- every record keeps it

module _ (r : Rules) (sequences : List (List Entry)) where
  abbrev Follows : Member → Type 0
  Follows m = IsTaken r (entries_at sequences m.epoch) m

  taken-see : (m : Member) (bytes : List ℕ) (e : Entry) → slice_get (entries_at sequences m.epoch) m.sequence.number ≡ Some e → bytes ≡ messages.entry.spell e → m.sequence.ended ≡ false → Follows m → Follows (after r m (record_as.See bytes))
  unfolding after
  taken-see m bytes e next spelled going taken =
      let rest = next-of taken.front taken.is_front.0 e (subst (λ (n : ℕ). slice_get (taken.front ++ taken.is_front.0) n ≡ Some e) (sym taken.number) (subst (λ (xs : List Entry). slice_get xs m.sequence.number ≡ Some e) taken.is_front.1 next)) in
      record {
        front = taken.front ++ e ∷ [];
        is_front = (rest.0, taken.is_front.1 ∙ (ap (λ (xs : List Entry). taken.front ++ xs) rest.1 ∙ sym (append_assoc taken.front (e ∷ []) rest.0)));
        number = push_length taken.front e ∙ (ap (λ (n : ℕ). n + 1) taken.number ∙ sym (number-saw r m.opening m.epoch m.sequence bytes going));
        gives = ap (λ (q : Sequence). saw r m.opening m.epoch q bytes) taken.gives ∙ (ap (saw r m.opening m.epoch (seen r m.opening m.epoch (map messages.entry.spell taken.front))) spelled ∙ sym (seen-push r m.opening m.epoch taken.front e));
      }

  taken-call : (m : Member) (bytes : List ℕ) (call : Call) → Comes sequences m call → IsSee m bytes call → Follows m → Follows (after r m (record_as.See bytes))
  taken-call m bytes (votes b) comes see taken = absurd see
  taken-call m bytes (holds b) comes see taken = absurd see
  taken-call m bytes (sees number b) (e, next, spelled) see taken = taken-see m bytes e next (sym see.0 ∙ spelled) see.1 taken
  taken-call m bytes runs comes see taken = absurd see
  taken-call m bytes closes comes see taken = absurd see
  taken-call m bytes ends comes see taken = absurd see
  taken-call m bytes turns comes see taken = absurd see
  taken-call m bytes (acks tx) comes see taken = absurd see

  same-sequence : (m : Member) → Follows m → (n : Member) → n.epoch ≡ m.epoch → n.opening ≡ m.opening → n.sequence ≡ m.sequence → Follows n
  same-sequence m taken n e o q = record {
    front = taken.front;
    is_front = subst (λ (epoch : ℕ). IsFront taken.front (entries_at sequences epoch)) (sym e) taken.is_front;
    number = taken.number ∙ sym (ap (λ (x : Sequence). x.number) q);
    gives = q ∙ (taken.gives ∙ rw (e, o) refl);
  }

  none-taken : (m : Member) → m.sequence ≡ nothing_seen → Follows m
  unfolding seen
  none-taken m e = record { front = []; is_front = (entries_at sequences m.epoch, refl); number = sym (ap (λ (q : Sequence). q.number) e); gives = e }

  taken-after : (m : Member) (call : Call) (x : Record) → Comes sequences m call → due r m call ≡ Some x → Follows m → Follows (after r m x)
  unfolding after
  taken-after m call (record_as.Vote tx origins) comes d taken = same-sequence m taken (after r m (record_as.Vote tx origins)) refl refl refl
  taken-after m call (record_as.Hold c) comes d taken = same-sequence m taken (after r m (record_as.Hold c)) refl refl refl
  taken-after m call (record_as.See bytes) comes d taken = taken-call m bytes call comes (due-see r m bytes call d) taken
  taken-after m call record_as.Close comes d taken = same-sequence m taken (after r m record_as.Close) refl refl refl
  taken-after m call (record_as.Ran txs) comes d taken = same-sequence m taken (after r m (record_as.Ran txs)) refl refl refl
  taken-after m call record_as.Turn comes d taken = none-taken (after r m record_as.Turn) refl
  taken-after m call (record_as.Ran2 items) comes d taken = same-sequence m taken (after r m (record_as.Ran2 items)) refl refl refl

pub more-taken : (r : Rules) (old new : List (List Entry)) (m : Member) → Grown old new → IsTaken r (entries_at old m.epoch) m → IsTaken r (entries_at new m.epoch) m
more-taken r old new m grown taken = record {
  front = taken.front;
  is_front = front_then taken.front (entries_at old m.epoch) (entries_at new m.epoch) taken.is_front (grown m.epoch);
  number = taken.number;
  gives = taken.gives;
}

none-yet : (r : Rules) (opening : List Object) → IsTaken r (entries_at ([] ∷ []) (state r opening []).epoch) (state r opening [])
unfolding state
none-yet r opening = none-taken r ([] ∷ []) (state r opening []) refl

pub follows : (s : Setting) (events : List Event) (m : ℕ) (seat : Seat) → slice_get (world_after s events).seats m ≡ Some seat
    → IsTaken s.rules (entries_at (world_after s events).sequences (member_in s seat).epoch) (member_in s seat)
follows s events m seat e =
    in_sequences s (λ sequences records. IsTaken s.rules (entries_at sequences (state s.rules s.opening records).epoch) (state s.rules s.opening records))
    (λ old new records grown taken. more-taken s.rules old new (state s.rules s.opening records) grown taken)
    (λ sequences records call x comes d taken. subst (λ (n : Member). IsTaken s.rules (entries_at sequences n.epoch) n) (sym (state-push s.rules s.opening records x)) (taken-after s.rules sequences (state s.rules s.opening records) call x comes d taken))
    (none-yet s.rules s.opening) events m seat e

-- ---- of two members the one is earlier

pub alike : (r : Rules) (entries : List Entry) (a b : Member) → IsTaken r entries a → IsTaken r entries b → a.epoch ≡ b.epoch → a.opening ≡ b.opening → IsEarlier a.sequence b.sequence ⊎ IsEarlier b.sequence a.sequence
alike r entries a b one two epoch opening = go (either-front one.front two.front one.is_front.0 two.is_front.0 (sym one.is_front.1 ∙ two.is_front.1))
  where
    -- what the entries give to the first is what they give to the second
    gives : b.sequence ≡ seen r a.opening a.epoch (map messages.entry.spell two.front)
    gives = two.gives ∙ rw (epoch, opening) refl

    go : IsFront one.front two.front ⊎ IsFront two.front one.front → IsEarlier a.sequence b.sequence ⊎ IsEarlier b.sequence a.sequence
    go (inl front) = inl (subst (λ (q : Sequence). IsEarlier q b.sequence) (sym one.gives) (subst (λ (p : Sequence). IsEarlier (seen r a.opening a.epoch (map messages.entry.spell one.front)) p) (sym gives) (earlier-front r a.opening a.epoch one.front two.front front)))
    go (inr front) = inr (subst (λ (q : Sequence). IsEarlier q a.sequence) (sym gives) (subst (λ (p : Sequence). IsEarlier (seen r a.opening a.epoch (map messages.entry.spell two.front)) p) (sym one.gives) (earlier-front r a.opening a.epoch two.front one.front front)))

pub one-sequence : (s : Setting) (events : List Event) (m n : ℕ) (a b : Seat) → slice_get (world_after s events).seats m ≡ Some a → slice_get (world_after s events).seats n ≡ Some b
    → (member_in s a).epoch ≡ (member_in s b).epoch → (member_in s a).opening ≡ (member_in s b).opening
    → IsEarlier (member_in s a).sequence (member_in s b).sequence ⊎ IsEarlier (member_in s b).sequence (member_in s a).sequence
one-sequence s events m n a b at by epoch opening = alike s.rules (entries_at (world_after s events).sequences (member_in s a).epoch) (member_in s a) (member_in s b) (follows s events m a at)
    (subst (λ (k : ℕ). IsTaken s.rules (entries_at (world_after s events).sequences k) (member_in s b)) (sym epoch) (follows s events n b by)) epoch opening
