-- What is dropped was delivered and is dropped for a cause; a valid certificate without shared inputs has none.
use Rattle.std.proofs.Common.{inl, inr, refl, sym, subst, arith}
use Rattle.std.proofs.lemmas.Bool.{eq-eqb, ltb-false, lt-leb}
use Rattle.std.specs.Prelude.{◌≡◌, ◌⊎◌, ◌≤◌, ◌-◌, ℕ, zero, suc, max, Bool, true, false, cond, nat_lt, nat_le, ◌==◌, List, [], ◌∷◌, ◌++◌, find, flat_map, fold, length, map, slice_get, Option, Some, None}
use Rattle.std.specs.List.{list_any}
use Rattle.digest_core.specs.declared.Digest.{Digest}
use Rattle.chain_types.specs.declared.objects.Object.{Object}
use Rattle.chain_types.specs.declared.transactions.Input.{Input}
use Rattle.chain_types.specs.declared.transactions.Input.TheVariants as inputs
use Rattle.chain_types.specs.declared.transactions.Transaction.{Transaction}
use Rattle.chain_types.specs.Digests.{is_object, lamport_version}
use Rattle.chain_messages.specs.declared.messages.Certificate.{Certificate}
use Rattle.journal_core.specs.declared.records.Record.{Record}
use Rattle.journal_core.specs.declared.records.Record.TheVariants as record_as
use Rattle.protocol_spec.specs.declared.answers.Held.{Held}
use Rattle.schedule_text.specs.declared.words.Event.{Event}
use Rattle.protocol_spec.specs.Chain.Words.{Has, Each}
use Rattle.protocol_spec.specs.Chain.Keys.{has_shared_input, is_shared_input, objects_of, version_limit}
use Rattle.protocol_spec.specs.Chain.Shape.{is_bad_version, names_bad_version, shape_cases, shape_fault}
use Rattle.protocol_spec.specs.Chain.Certificates.{Rules, cert_cases, cert_refusal, read_entry}
use Rattle.protocol_spec.proofs.ListLemmas.{filter-each, find-each, each_push, has_mapped}
use Rattle.protocol_spec.proofs.Truth.{where_false, or_false_left, or_false_right, map_none}
use Rattle.protocol_spec.specs.Member.Admission.{Admitted, Admission, admit, entered, is_dropped, is_free, joined_inputs, lacks_shared, not_of, passed_mark, take_free, taken, taken_as, taken_next, taken_version, version_at_admission}
use Rattle.protocol_spec.specs.Member.Sequence.{Sequence, What, takes, commits, counts, ignores, what_of, counted_as, ends_with_member, with_what, with_entry, saw}
use Rattle.protocol_spec.specs.Member.Member.{Member, after, fork_of, fresh, held_with, state}
use Rattle.protocol_spec.specs.Member.Calls.{Call, votes, holds, sees, runs, closes, ends, turns, acks, due}
use Rattle.world_spec.specs.Setting.{Setting}
use Rattle.world_spec.specs.World.{Seat, new_world, member_in}
use Rattle.world_spec.specs.Run.{world_after}
use Rattle.world_spec.specs.Assumptions.{all_delivered, entry_certificates, read_list}
use Rattle.safety_law.proofs.InWorld.{in_world_given}
use Rattle.safety_law.proofs.Apart.{none-each, state-push}
use Rattle.safety_law.proofs.Once.{has-push}
use Rattle.block_law.proofs.ReadingSteps.{has-zip, has-kept}
use Rattle.safety_law.specs.Agreed.{IsHeldAsGiven}
use Rattle.safety_law.proofs.Prefixes.{IsSee, due-see}
use Rattle.safety_law.proofs.Supply.{Delivers, IsSupplied, Stocked, after-stocked, delivers-run, none-stocked}

-- ---- what an entry takes was given

-- a member that holds nothing and has seen this much of the sequence
abbrev holding_nothing : ℕ → Sequence → Member
holding_nothing epoch q = record (fresh []) { epoch = epoch; sequence = q }

see-due : (r : Rules) (epoch : ℕ) (q : Sequence) (bytes : List ℕ) → q.ended ≡ false → due r (holding_nothing epoch q) (sees q.number bytes) ≡ Some (record_as.See bytes)
unfolding due fork_of
see-due r epoch q bytes going = rw (going, eq-eqb q.number q.number refl) refl

module _ (r : Rules) (total : List Certificate) where
  abbrev Given : ℕ → Held → Type 0
  Given epoch h = IsHeldAsGiven r total epoch h

  takes-given : (epoch : ℕ) (q : Sequence) (bytes : List ℕ) (h : Held) → q.ended ≡ false → IsSupplied r total epoch q.admission → Each (Has total) (flat_map entry_certificates (read_list (read_entry bytes))) → what_of r epoch q bytes ≡ takes h → Given epoch h
  unfolding after
  takes-given epoch q bytes h going supplied brought e =
      let next = after-stocked r total (holding_nothing epoch q) (sees q.number bytes) (record_as.See bytes) brought (see-due r epoch q bytes going) (record { in_hand = tt; supplied = supplied }) in
      (subst (λ (what : What). Each (Given epoch) (held_with [] what)) e next.in_hand).0

  -- ---- what was dropped

  pub record WasDropped (epoch : ℕ) (opening : List Object) (tx : Digest) : Type 0 where
    pub of : Held
    pub named : of.digest ≡ tx
    pub given : Given epoch of
    pub earlier : List Admitted
    pub dropped : is_dropped opening earlier of.cert ≡ true

  record IsSorted (epoch : ℕ) (opening : List Object) (a : Admission) : Type 0 where
    pending : Each (Given epoch) a.pending
    dropped : (tx : Digest) → Has a.dropped tx → WasDropped epoch opening tx

  module _ (epoch : ℕ) (opening : List Object) where
    sorted-taken_as : (b : Bool) (a : Admission) (h : Held) → is_dropped opening a.admitted h.cert ≡ b → Given epoch h → IsSorted epoch opening a → IsSorted epoch opening (taken_as b opening a h)
    unfolding admit
    sorted-taken_as true a h e given sorted = record {
      pending = filter-each (Given epoch) (Given epoch) (not_of h) a.pending (λ x t p. p) sorted.pending;
      dropped = λ tx there. go tx (has-push a.dropped h.digest tx there);
    }
      where
        go : (tx : Digest) → Has a.dropped tx ⊎ (h.digest ≡ tx) → WasDropped epoch opening tx
        go tx (inl there) = sorted.dropped tx there
        go tx (inr same) = record { of = h; named = same; given = given; earlier = a.admitted; dropped = e }
    sorted-taken_as false a h e given sorted = record { pending = filter-each (Given epoch) (Given epoch) (not_of h) a.pending (λ x t p. p) sorted.pending; dropped = sorted.dropped }

    sorted-free : (n : ℕ) (a : Admission) → IsSorted epoch opening a → IsSorted epoch opening (take_free r.writers opening n a)
    sorted-free zero a sorted = sorted
    sorted-free (suc n) a sorted = go (find (is_free r.writers a) a.pending) refl (sorted-free n)
      where
        go : (o : Option Held) → find (is_free r.writers a) a.pending ≡ o → ((b : Admission) → IsSorted epoch opening b → IsSorted epoch opening (take_free r.writers opening n b)) → IsSorted epoch opening (taken_next (take_free r.writers opening n) opening a o)
        go None e rest = sorted
        go (Some h) e rest = rest (taken opening a h) (sorted-taken_as (is_dropped opening a.admitted h.cert) a h refl (find-each (Given epoch) (is_free r.writers a) a.pending h sorted.pending e) sorted)

    sorted-what : (q : Sequence) (what : What) → ((h : Held) → what ≡ takes h → Given epoch h) → IsSorted epoch opening q.admission → IsSorted epoch opening (with_what r opening q what).admission
    unfolding entered passed_mark
    sorted-what q (takes h) given sorted = sorted-free (length (q.admission.pending ++ h ∷ [])) (record q.admission { pending = q.admission.pending ++ h ∷ [] })
        (record { pending = each_push (Given epoch) q.admission.pending h sorted.pending (given h refl); dropped = sorted.dropped })
    sorted-what q commits given sorted = sorted-free (length q.admission.pending) (record q.admission { marked = length q.admission.admitted }) (record { pending = sorted.pending; dropped = sorted.dropped })
    sorted-what q (counts m) given sorted = go (ends_with_member r q m)
      where
        go : (b : Bool) → IsSorted epoch opening (counted_as b q m).admission
        go true = sorted
        go false = sorted
    sorted-what q (ignores cause) given sorted = sorted

    sorted-saw : (q : Sequence) (bytes : List ℕ) → (q.ended ≡ false → (h : Held) → what_of r epoch q bytes ≡ takes h → Given epoch h) → IsSorted epoch opening q.admission → IsSorted epoch opening (saw r opening epoch q bytes).admission
    unfolding saw with_entry
    sorted-saw q bytes given sorted = go q.ended refl
      where
        go : (b : Bool) → q.ended ≡ b → IsSorted epoch opening (cond b q (with_entry r opening q (what_of r epoch q bytes))).admission
        go true e = sorted
        go false e = sorted-what q (what_of r epoch q bytes) (given e) sorted

  -- ---- a member

  record IsClear (m : Member) : Type 0 where
    stocked : Stocked r total m
    sorted : IsSorted m.epoch m.opening m.sequence.admission

  see-sorted : (m : Member) (bytes : List ℕ) (call : Call) → Delivers r total call → IsSee m bytes call → IsClear m → IsSorted m.epoch m.opening (saw r m.opening m.epoch m.sequence bytes).admission
  see-sorted m bytes (votes b) k see clear = absurd see
  see-sorted m bytes (holds b) k see clear = absurd see
  see-sorted m bytes (sees number b) k see clear = sorted-saw m.epoch m.opening m.sequence bytes
      (λ going h e. takes-given m.epoch m.sequence bytes h going clear.stocked.supplied (subst (λ (z : List ℕ). Each (Has total) (flat_map entry_certificates (read_list (read_entry z)))) see.0 k) e) clear.sorted
  see-sorted m bytes runs k see clear = absurd see
  see-sorted m bytes closes k see clear = absurd see
  see-sorted m bytes ends k see clear = absurd see
  see-sorted m bytes turns k see clear = absurd see
  see-sorted m bytes (acks tx) k see clear = absurd see

  after-sorted : (m : Member) (call : Call) (x : Record) → Delivers r total call → due r m call ≡ Some x → IsClear m → IsSorted (after r m x).epoch (after r m x).opening (after r m x).sequence.admission
  unfolding after
  after-sorted m call (record_as.Vote tx origins) k d clear = clear.sorted
  after-sorted m call (record_as.Hold c) k d clear = clear.sorted
  after-sorted m call (record_as.See bytes) k d clear = see-sorted m bytes call k (due-see r m bytes call d) clear
  after-sorted m call record_as.Close k d clear = clear.sorted
  after-sorted m call (record_as.Ran txs) k d clear = clear.sorted
  after-sorted m call record_as.Turn k d clear = record { pending = tt; dropped = λ tx h. absurd h }
  after-sorted m call (record_as.Ran2 items) k d clear = clear.sorted

  after-clear : (m : Member) (call : Call) (x : Record) → Delivers r total call → due r m call ≡ Some x → IsClear m → IsClear (after r m x)
  after-clear m call x k d clear = record { stocked = after-stocked r total m call x k d clear.stocked; sorted = after-sorted m call x k d clear }

  none-sorted : (opening : List Object) → IsSorted (state r opening []).epoch (state r opening []).opening (state r opening []).sequence.admission
  unfolding state
  none-sorted opening = record { pending = tt; dropped = λ tx h. absurd h }

  none-clear : (opening : List Object) → IsClear (state r opening [])
  none-clear opening = record { stocked = none-stocked r total opening; sorted = none-sorted opening }

-- in a run
pub was-dropped : (s : Setting) (events : List Event) (m : ℕ) (seat : Seat) → slice_get (world_after s events).seats m ≡ Some seat
    → (tx : Digest) → Has (member_in s seat).sequence.admission.dropped tx → WasDropped s.rules (all_delivered s events) (member_in s seat).epoch (member_in s seat).opening tx
unfolding all_delivered
was-dropped s events m seat at =
    let total = all_delivered s events in
    (in_world_given s (Delivers s.rules total) (λ (records : List Record). IsClear s.rules total (state s.rules s.opening records))
    (λ records call x k d clear. subst (IsClear s.rules total) (sym (state-push s.rules s.opening records x)) (after-clear s.rules total (state s.rules s.opening records) call x k d clear))
    (none-clear s.rules total s.opening) events (delivers-run s total events (new_world s) (λ c h. h)) m seat at).sorted.dropped

-- ---- without shared inputs there is no cause

pub any-none : {A : Type 0} (test : A → Bool) (xs : List A) → ((x : A) → Has xs x → test x ≡ false) → list_any test xs ≡ false
any-none test [] each = refl
any-none test (x ∷ xs) each = rw (each x (inl refl)) (any-none test xs (λ y h. each y (inr h)))

none-any : {A : Type 0} (test : A → Bool) (xs : List A) → list_any test xs ≡ false → (x : A) → Has xs x → test x ≡ false
none-any test [] e x h = absurd h
none-any {A = A} test (y ∷ ys) e x (inl same) = subst (λ (z : A). test z ≡ false) same (or_false_left (test y) (list_any test ys) e)
none-any test (y ∷ ys) e x (inr h) = none-any test ys (or_false_right (test y) (list_any test ys) e) x h

-- no object of the transaction is a shared input
pub unshared : (t : Transaction) → has_shared_input t ≡ false → (i : Input) → Has (objects_of t) i → is_shared_input i ≡ false
unshared t none i (inl e) = subst (λ (j : Input). is_shared_input j ≡ false) e refl
unshared t none i (inr h) = none-any is_shared_input t.inputs none i (has-kept is_object t.inputs i h)

valid-versions : (r : Rules) (c : Certificate) → cert_refusal r c ≡ None → (i : Input) → Has (objects_of c.tx) i → names_bad_version i ≡ false
unfolding cert_refusal shape_fault
valid-versions r c valid =
    none-any names_bad_version (objects_of c.tx)
    (where_false (list_any names_bad_version (objects_of c.tx)) 11 (none-each (shape_cases c.tx) (map_none _ (shape_fault c.tx) (none-each (cert_cases r c) valid).0)).1.1.1.1.1.1.1.1.1.1.0)

greatest-low : (vs : List ℕ) (a n : ℕ) → a ≤ n → ((v : ℕ) → Has vs v → v ≤ n) → fold max a vs ≤ n
greatest-low [] a n low each = low
greatest-low (v ∷ vs) a n low each = let one = each v (inl refl) in greatest-low vs (max a v) n (omega (arith, low, one)) (λ w h. each w (inr h))

module _ (r : Rules) (opening : List Object) (earlier : List Admitted) (c : Certificate) (valid : cert_refusal r c ≡ None) (none : has_shared_input c.tx ≡ false) where
  named-low : (v : ℕ) → is_bad_version v ≡ false → v ≤ version_limit - 2
  named-low v e = ltb-false (version_limit - 2) v (or_false_right (v == 0) (nat_lt (version_limit - 2) v) e)

  taken-low : (i : Input) → is_shared_input i ≡ false → names_bad_version i ≡ false → taken_version opening earlier c i ≤ version_limit - 2
  taken-low (inputs.Pure bytes) own good = omega arith
  taken-low (inputs.Owned ref) own good = named-low ref.version good
  taken-low (inputs.Immutable ref) own good = named-low ref.version good
  taken-low (inputs.Shared id initial mutable) own good = absurd (cc)

  low : nat_le version_limit (version_at_admission opening earlier c) ≡ false
  unfolding lamport_version
  low =
      let greatest = greatest-low (map (taken_version opening earlier c) (objects_of c.tx)) 0 (version_limit - 2) (omega arith) (λ v h.
      let i = has_mapped (taken_version opening earlier c) (objects_of c.tx) v h in
      subst (λ (w : ℕ). w ≤ version_limit - 2) i.2 (taken-low i.0 (unshared c.tx none i.0 i.1) (valid-versions r c valid i.0 i.1))) in
      lt-leb version_limit (version_at_admission opening earlier c) (omega (arith, greatest))

  lacks-none : (i : Input) (d : Option Digest) → is_shared_input i ≡ false → lacks_shared opening (i, d) ≡ false
  lacks-none (inputs.Pure bytes) d own = refl
  lacks-none (inputs.Owned ref) d own = refl
  lacks-none (inputs.Immutable ref) d own = refl
  lacks-none (inputs.Shared id initial mutable) d own = absurd (cc)

  there : list_any (lacks_shared opening) (joined_inputs c) ≡ false
  there = any-none (lacks_shared opening) (joined_inputs c) (λ x h. lacks-none x.0 x.1 (unshared c.tx none x.0 (has-zip (objects_of c.tx) c.origins x.0 x.1 h)))

  pub never-dropped : is_dropped opening earlier c ≡ false
  never-dropped = rw (low, there) refl
