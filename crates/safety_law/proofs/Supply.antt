-- What members hold and admit was given to them.
use Rattle.std.proofs.Common.{refl, sym, subst}
use Rattle.std.proofs.lemmas.Bool.{eqb-true}
use Rattle.std.specs.Prelude.{◌≡◌, ℕ, zero, suc, Bool, true, false, cond, not, ◌==◌, nat_le, List, [], ◌∷◌, ◌++◌, find, flat_map, length, map, slice_get, Option, Some, None, option_map, is_some, Result, Ok, Err}
use Rattle.wire_bcs.specs.declared.fault.WireFault.{WireFault}
use Rattle.chain_types.specs.declared.objects.Object.{Object}
use Rattle.chain_types.specs.declared.refusals.CertRefusal.{CertRefusal}
use Rattle.chain_types.specs.Digests.{transaction_digest}
use Rattle.chain_messages.specs.declared.messages.Certificate.{Certificate}
use Rattle.chain_messages.specs.declared.messages.Entry.{Entry}
use Rattle.chain_messages.specs.declared.messages.Entry.TheVariants as entry
use Rattle.chain_messages.specs.declared.messages.Sealed.{Sealed}
use Rattle.chain_messages.specs.declared.messages.Statement.{Statement}
use Rattle.chain_messages.specs.declared.messages.Statement.TheVariants as statement
use Rattle.journal_core.specs.declared.records.Record.{Record}
use Rattle.journal_core.specs.declared.records.Record.TheVariants as record_as
use Rattle.protocol_spec.specs.declared.answers.Held.{Held}
use Rattle.protocol_spec.specs.declared.answers.Ignore.{Ignore}
use Rattle.protocol_spec.specs.declared.refusals.HoldRefusal.TheVariants as no_hold
use Rattle.schedule_text.specs.declared.words.Event.{Event}
use Rattle.protocol_spec.specs.Chain.Words.{Has, Each, Along, first_some, where_true, unless_refused, refused_or}
use Rattle.protocol_spec.specs.Chain.Certificates.{Rules, read_certificate, read_entry, cert_refusal}
use Rattle.protocol_spec.proofs.ListLemmas.{find-each, filter-each, each_join, has_right, each_push, has_left}
use Rattle.protocol_spec.specs.Member.Admission.{Admission, is_known, is_free, not_of, taken_as, taken, is_dropped, taken_next, take_free, entered, passed_mark, admit}
use Rattle.protocol_spec.specs.Member.Sequence.{Sequence, What, takes, commits, counts, ignores, ignored_or, end_cases, what_stated, what_read, what_of, counted_as, ends_with_member, with_what, with_entry, saw, held_as}
use Rattle.protocol_spec.specs.Member.Checkpoints.{held_of}
use Rattle.protocol_spec.specs.Member.Member.{Member, Fork, fork_of, fork_with, held_with, after, state}
use Rattle.protocol_spec.specs.Member.Calls.{Call, votes, holds, sees, runs, closes, ends, turns, acks, record_limit, new_hold, hold_read, is_hold_kept, hold_record, hold_answer, due}
use Rattle.world_spec.specs.Setting.{Setting}
use Rattle.world_spec.specs.World.{Seat, World, new_world, member_in}
use Rattle.world_spec.specs.Step.{happens}
use Rattle.world_spec.specs.Run.{world_after}
use Rattle.world_spec.specs.Assumptions.{calls_of, read_list, entry_certificates, certificates_read, delivered, all_of, all_delivered}
use Rattle.safety_law.proofs.InWorld.{in_world_given}
use Rattle.safety_law.proofs.Apart.{state-push}
use Rattle.safety_law.proofs.Totals.{each-all}
use Rattle.block_law.specs.Admitted.{IsInOrder}
use Rattle.block_law.proofs.Tidy.{tidy-seen}
use Rattle.chain_messages.specs.Messages as messages
use Rattle.safety_law.specs.Agreed.{IsGiven, IsAdmittedAsGiven, IsHeldAsGiven, IsAdmittedInOrder}
use Rattle.safety_law.proofs.Appends.{due-appends}
use Rattle.safety_law.proofs.Prefixes.{IsSee, due-see, follows}

-- ---- what the calls of a run deliver

-- each certificate that is read from the call was delivered
abbrev pub Delivers : Rules → List Certificate → Call → Type 0
Delivers r total call = Each (Has total) (certificates_read r call)

delivers-calls : (r : Rules) (total : List Certificate) (calls : List Call) → ((c : Certificate) → Has (flat_map (certificates_read r) calls) c → Has total c) → Each (Delivers r total) calls
delivers-calls r total [] h = tt
delivers-calls r total (call ∷ calls) h = (
  each-all (Has total) (certificates_read r call) (λ c k. h c (has_left (certificates_read r call) (flat_map (certificates_read r) calls) c k)),
  delivers-calls r total calls (λ c k. h c (has_right (certificates_read r call) (flat_map (certificates_read r) calls) c k)),
)

pub delivers-run : (s : Setting) (total : List Certificate) (events : List Event) (w : World) → ((c : Certificate) → Has (all_of delivered s events w) c → Has total c) → Each (Delivers s.rules total) (all_of calls_of s events w)
unfolding delivered
delivers-run s total [] w h = tt
delivers-run s total (e ∷ events) w h = each_join (Delivers s.rules total) (calls_of s w e) (all_of calls_of s events (happens s w e))
    (delivers-calls s.rules total (calls_of s w e) (λ c k. h c (has_left (delivered s w e) (all_of delivered s events (happens s w e)) c k)))
    (delivers-run s total events (happens s w e) (λ c k. h c (has_right (delivered s w e) (all_of delivered s events (happens s w e)) c k)))

-- ---- what a call gives

module _ (r : Rules) (total : List Certificate) where
  -- if the refusal is none
  new-given : (m : Member) (d c : Certificate) (closed : Bool) (refusal : Option CertRefusal) (fork : Option Fork) → cert_refusal r d ≡ refusal → d.tx.epoch ≡ m.epoch → Has total d
      → where_true (is_hold_kept (unless_refused (first_some (where_true closed no_hold.Closed ∷ option_map no_hold.Cert refusal ∷ option_map (λ (f : Fork). no_hold.Fork f.key f.first f.second) fork ∷ [])) true)) (record_as.Hold d) ≡ Some (record_as.Hold c)
      → IsGiven r total m.epoch (transaction_digest c.tx) c
  new-given m d c true refusal fork q same h e = absurd (cc)
  new-given m d c false (Some refusal) fork q same h e = absurd (cc)
  new-given m d c false None (Some fork) q same h e = subst (λ (x : Certificate). IsGiven r total m.epoch (transaction_digest x.tx) x) (it e) (record { digest_is = refl; valid = q; epoch_is = same; comes = h })
    where
      it : Some (record_as.Hold d) ≡ Some (record_as.Hold c) → d ≡ c
      it e = cc
  new-given m d c false None None q same h e = subst (λ (x : Certificate). IsGiven r total m.epoch (transaction_digest x.tx) x) (it e) (record { digest_is = refl; valid = q; epoch_is = same; comes = h })
    where
      it : Some (record_as.Hold d) ≡ Some (record_as.Hold c) → d ≡ c
      it e = cc

  certificate-given : (m : Member) (d c : Certificate) (same there : Bool) → (d.tx.epoch == m.epoch) ≡ same → Has total d
      → where_true (is_hold_kept (refused_or (where_true (not same) (no_hold.WrongEpoch d.tx.epoch m.epoch)) (cond there (Ok false) (new_hold r m d)))) (record_as.Hold d) ≡ Some (record_as.Hold c)
      → IsGiven r total m.epoch (transaction_digest c.tx) c
  certificate-given m d c false there q h e = absurd (cc)
  certificate-given m d c true true q h e = absurd (cc)
  certificate-given m d c true false q h e = new-given m d c m.closed (cert_refusal r d) (fork_with m.held (held_as d)) refl (eqb-true d.tx.epoch m.epoch q) h e

  read-given : (m : Member) (c : Certificate) (read : Result Certificate WireFault) (fork : Option Fork) (is_full : Bool) → Each (Has total) (read_list read)
      → hold_record read (refused_or (first_some (option_map (λ (f : Fork). no_hold.Halted f.first f.second) fork ∷ where_true is_full no_hold.Full ∷ [])) (hold_read r m read)) ≡ Some (record_as.Hold c)
      → IsGiven r total m.epoch (transaction_digest c.tx) c
  read-given m c (Err fault) fork is_full h e = absurd (cc)
  read-given m c (Ok d) (Some fork) is_full h e = absurd (cc)
  read-given m c (Ok d) None true h e = absurd (cc)
  read-given m c (Ok d) None false h e = certificate-given m d c (d.tx.epoch == m.epoch) (is_some (held_of m.held (transaction_digest d.tx))) refl h.0 e

  hold-given : (m : Member) (c : Certificate) (call : Call) → Delivers r total call → due r m call ≡ Some (record_as.Hold c) → IsGiven r total m.epoch (transaction_digest c.tx) c
  unfolding due hold_answer
  hold-given m c (votes b) h e = let k = due-appends (record_as.Hold c) r m (votes b) e in absurd (cc)
  hold-given m c (holds b) h e = read-given m c (read_certificate b) (fork_of m) (nat_le record_limit m.records) h e
  hold-given m c (sees number b) h e = let k = due-appends (record_as.Hold c) r m (sees number b) e in absurd (cc)
  hold-given m c runs h e = let k = due-appends (record_as.Hold c) r m runs e in absurd (cc)
  hold-given m c closes h e = let k = due-appends (record_as.Hold c) r m closes e in absurd (cc)
  hold-given m c ends h e = absurd (cc)
  hold-given m c turns h e = let k = due-appends (record_as.Hold c) r m turns e in absurd (cc)
  hold-given m c (acks tx) h e = absurd (cc)

  -- ---- what an entry gives

  abbrev pub Given : ℕ → Held → Type 0
  Given = IsHeldAsGiven r total

  it-takes : (x h : Held) → takes x ≡ takes h → x ≡ h
  it-takes x h e = cc

  taken-given : (epoch : ℕ) (c : Certificate) (h : Held) (same : Bool) (refusal : Option CertRefusal) (known : Bool) → (c.tx.epoch == epoch) ≡ same → cert_refusal r c ≡ refusal → Has total c
      → ignored_or (first_some (where_true (not same) Ignore.Epoch ∷ where_true (is_some refusal) Ignore.Cert ∷ where_true known Ignore.Repeat ∷ [])) (takes (held_as c)) ≡ takes h → Given epoch h
  taken-given epoch c h false refusal known q v k e = absurd (cc)
  taken-given epoch c h true (Some refusal) known q v k e = absurd (cc)
  taken-given epoch c h true None true q v k e = absurd (cc)
  taken-given epoch c h true None false q v k e = subst (Given epoch) (it-takes (held_as c) h e) (record { digest_is = refl; valid = v; epoch_is = eqb-true c.tx.epoch epoch q; comes = k })

  ignored-none : (cause : Option Ignore) (m : ℕ) (h : Held) → ignored_or cause (counts m) ≡ takes h → ⊥
  ignored-none None m h e = cc
  ignored-none (Some cause) m h e = cc

  stated-none : (epoch : ℕ) (q : Sequence) (s : Sealed) (st : Statement) (h : Held) → what_stated r epoch q s st ≡ takes h → ⊥
  stated-none epoch q s (statement.Vote of_epoch tx origins) h e = cc
  stated-none epoch q s (statement.End of_epoch) h e = ignored-none (first_some (end_cases r epoch q s of_epoch)) s.member h e
  stated-none epoch q s (statement.Checkpoint of_epoch number digest) h e = cc
  stated-none epoch q s (statement.Ack of_epoch tx effects) h e = cc

  entry-given : (epoch : ℕ) (q : Sequence) (read : Result Entry WireFault) (h : Held) → Each (Has total) (flat_map entry_certificates (read_list read)) → what_read r epoch q read ≡ takes h → Given epoch h
  entry-given epoch q (Err fault) h k e = absurd (cc)
  entry-given epoch q (Ok (entry.Cert c)) h k e = taken-given epoch c h (c.tx.epoch == epoch) (cert_refusal r c) (is_known q.admission (transaction_digest c.tx)) refl refl k.0 e
  entry-given epoch q (Ok (entry.End s)) h k e = absurd (stated-none epoch q s s.statement h e)
  entry-given epoch q (Ok entry.Commit) h k e = absurd (cc)

  what-given : (epoch : ℕ) (q : Sequence) (bytes : List ℕ) (h : Held) → Each (Has total) (flat_map entry_certificates (read_list (read_entry bytes))) → what_of r epoch q bytes ≡ takes h → Given epoch h
  unfolding what_of
  what-given epoch q bytes h k e = entry-given epoch q (read_entry bytes) h k e

  -- ---- admission

  pub record IsSupplied (epoch : ℕ) (a : Admission) : Type 0 where
    pub admitted : Each (IsAdmittedAsGiven r total epoch) a.admitted
    pub pending : Each (Given epoch) a.pending

  module _ (epoch : ℕ) (opening : List Object) where
    supplied-taken_as : (b : Bool) (a : Admission) (h : Held) → IsSupplied epoch a → Given epoch h → IsSupplied epoch (taken_as b opening a h)
    unfolding admit
    supplied-taken_as true a h supplied given = record { admitted = supplied.admitted; pending = filter-each (Given epoch) (Given epoch) (not_of h) a.pending (λ x t p. p) supplied.pending }
    supplied-taken_as false a h supplied given = record {
      admitted = each_push (IsAdmittedAsGiven r total epoch) a.admitted (admit opening a.admitted h) supplied.admitted given;
      pending = filter-each (Given epoch) (Given epoch) (not_of h) a.pending (λ x t p. p) supplied.pending;
    }

    supplied-next : (next : Admission → Admission) → ((a : Admission) → IsSupplied epoch a → IsSupplied epoch (next a)) → (a : Admission) (h : Option Held) → find (is_free r.writers a) a.pending ≡ h → IsSupplied epoch a → IsSupplied epoch (taken_next next opening a h)
    supplied-next next keeps a None e supplied = supplied
    supplied-next next keeps a (Some h) e supplied = keeps (taken opening a h) (supplied-taken_as (is_dropped opening a.admitted h.cert) a h supplied (find-each (Given epoch) (is_free r.writers a) a.pending h supplied.pending e))

    supplied-free : (n : ℕ) (a : Admission) → IsSupplied epoch a → IsSupplied epoch (take_free r.writers opening n a)
    supplied-free zero a supplied = supplied
    supplied-free (suc n) a supplied = supplied-next (take_free r.writers opening n) (supplied-free n) a (find (is_free r.writers a) a.pending) refl supplied

    supplied-entered : (a : Admission) (h : Held) → IsSupplied epoch a → Given epoch h → IsSupplied epoch (entered r.writers opening a h)
    unfolding entered
    supplied-entered a h supplied given = supplied-free (length (a.pending ++ h ∷ [])) (record a { pending = a.pending ++ h ∷ [] })
        (record { admitted = supplied.admitted; pending = each_push (Given epoch) a.pending h supplied.pending given })

    supplied-mark : (a : Admission) → IsSupplied epoch a → IsSupplied epoch (passed_mark r.writers opening a)
    unfolding passed_mark
    supplied-mark a supplied = supplied-free (length a.pending) (record a { marked = length a.admitted }) (record { admitted = supplied.admitted; pending = supplied.pending })

    supplied-counted : (b : Bool) (q : Sequence) (m : ℕ) → IsSupplied epoch q.admission → IsSupplied epoch (counted_as b q m).admission
    supplied-counted true q m supplied = supplied
    supplied-counted false q m supplied = supplied

    supplied-what : (q : Sequence) (what : What) → IsSupplied epoch q.admission → ((h : Held) → what ≡ takes h → Given epoch h) → IsSupplied epoch (with_what r opening q what).admission
    supplied-what q (takes h) supplied given = supplied-entered q.admission h supplied (given h refl)
    supplied-what q commits supplied given = supplied-mark q.admission supplied
    supplied-what q (counts m) supplied given = supplied-counted (ends_with_member r q m) q m supplied
    supplied-what q (ignores cause) supplied given = supplied

    supplied-saw : (q : Sequence) (bytes : List ℕ) → IsSupplied epoch q.admission → ((h : Held) → what_of r epoch q bytes ≡ takes h → Given epoch h) → IsSupplied epoch (saw r opening epoch q bytes).admission
    unfolding saw with_entry
    supplied-saw q bytes supplied given = go q.ended
      where
        go : (b : Bool) → IsSupplied epoch (cond b q (with_entry r opening q (what_of r epoch q bytes))).admission
        go true = supplied
        go false = supplied-what q (what_of r epoch q bytes) supplied given

    held-given : (held : List Held) (what : What) → Each (Given epoch) held → ((h : Held) → what ≡ takes h → Given epoch h) → Each (Given epoch) (held_with held what)
    held-given held (takes h) each given = go (is_some (held_of held h.digest))
      where
        go : (b : Bool) → Each (Given epoch) (cond b held (held ++ h ∷ []))
        go true = each
        go false = each_push (Given epoch) held h each (given h refl)
    held-given held commits each given = each
    held-given held (counts m) each given = each
    held-given held (ignores cause) each given = each

  -- ---- members

  pub record IsStocked (epoch : ℕ) (held : List Held) (a : Admission) : Type 0 where
    pub in_hand : Each (Given epoch) held
    pub supplied : IsSupplied epoch a

  abbrev pub Stocked : Member → Type 0
  Stocked m = IsStocked m.epoch m.held m.sequence.admission

  see-stocked : (m : Member) (bytes : List ℕ) → Each (Has total) (flat_map entry_certificates (read_list (read_entry bytes))) → Stocked m → Stocked (after r m (record_as.See bytes))
  unfolding after
  see-stocked m bytes k stocked = record {
    in_hand = held-given m.epoch m.opening m.held (what_of r m.epoch m.sequence bytes) stocked.in_hand (λ h e. what-given m.epoch m.sequence bytes h k e);
    supplied = supplied-saw m.epoch m.opening m.sequence bytes stocked.supplied (λ h e. what-given m.epoch m.sequence bytes h k e);
  }

  call-stocked : (m : Member) (bytes : List ℕ) (call : Call) → Delivers r total call → IsSee m bytes call → Stocked m → Stocked (after r m (record_as.See bytes))
  call-stocked m bytes (votes b) k see stocked = absurd see
  call-stocked m bytes (holds b) k see stocked = absurd see
  call-stocked m bytes (sees number b) k see stocked = see-stocked m bytes (subst (λ (z : List ℕ). Each (Has total) (flat_map entry_certificates (read_list (read_entry z)))) see.0 k) stocked
  call-stocked m bytes runs k see stocked = absurd see
  call-stocked m bytes closes k see stocked = absurd see
  call-stocked m bytes ends k see stocked = absurd see
  call-stocked m bytes turns k see stocked = absurd see
  call-stocked m bytes (acks tx) k see stocked = absurd see

  pub after-stocked : (m : Member) (call : Call) (x : Record) → Delivers r total call → due r m call ≡ Some x → Stocked m → Stocked (after r m x)
  unfolding after
  after-stocked m call (record_as.Vote tx origins) k d stocked = record { in_hand = stocked.in_hand; supplied = stocked.supplied }
  after-stocked m call (record_as.Hold c) k d stocked = record { in_hand = each_push (Given m.epoch) m.held (held_as c) stocked.in_hand (hold-given m c call k d); supplied = stocked.supplied }
  after-stocked m call (record_as.See bytes) k d stocked = call-stocked m bytes call k (due-see r m bytes call d) stocked
  after-stocked m call record_as.Close k d stocked = record { in_hand = stocked.in_hand; supplied = stocked.supplied }
  after-stocked m call (record_as.Ran txs) k d stocked = record { in_hand = stocked.in_hand; supplied = stocked.supplied }
  after-stocked m call record_as.Turn k d stocked = record { in_hand = tt; supplied = record { admitted = tt; pending = tt } }
  after-stocked m call (record_as.Ran2 items) k d stocked = record { in_hand = stocked.in_hand; supplied = stocked.supplied }

  pub none-stocked : (opening : List Object) → Stocked (state r opening [])
  unfolding state
  none-stocked opening = record { in_hand = tt; supplied = record { admitted = tt; pending = tt } }

pub stocked : (s : Setting) (events : List Event) (m : ℕ) (seat : Seat) → slice_get (world_after s events).seats m ≡ Some seat → Stocked s.rules (all_delivered s events) (member_in s seat)
unfolding all_delivered
stocked s events m seat e =
    in_world_given s (Delivers s.rules (all_delivered s events)) (λ records. Stocked s.rules (all_delivered s events) (state s.rules s.opening records))
    (λ records call x k d p. subst (Stocked s.rules (all_delivered s events)) (sym (state-push s.rules s.opening records x)) (after-stocked s.rules (all_delivered s events) (state s.rules s.opening records) call x k d p))
    (none-stocked s.rules (all_delivered s events) s.opening) events
    (delivers-run s (all_delivered s events) events (new_world s) (λ c k. k)) m seat e

pub every-held : (s : Setting) (events : List Event) (m : ℕ) (seat : Seat) → slice_get (world_after s events).seats m ≡ Some seat → Each (IsHeldAsGiven s.rules (all_delivered s events) (member_in s seat).epoch) (member_in s seat).held
every-held s events m seat e = (stocked s events m seat e).in_hand

-- in order, since it is what some entries give
pub every-admission : (s : Setting) (events : List Event) (m : ℕ) (seat : Seat) → slice_get (world_after s events).seats m ≡ Some seat → IsAdmittedInOrder s events (member_in s seat)
every-admission s events m seat e =
    let taken = follows s events m seat e in
    record {
      order = subst (λ (q : Sequence). Along (IsInOrder (member_in s seat).opening) [] q.admission.admitted) (sym taken.gives) (tidy-seen s.rules (member_in s seat).opening (member_in s seat).epoch (map messages.entry.spell taken.front));
      given = (stocked s events m seat e).supplied.admitted;
    }
