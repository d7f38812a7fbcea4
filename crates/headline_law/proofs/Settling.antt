-- Along an epoch what was executed stays executed, and a member that closed and whose certificates are all in the
-- sequence stays so: what it holds later comes by the sequence.
use Rattle.std.proofs.Common.{inl, inr, refl, sym, subst, ap, ◌∙◌, arith, append_assoc, append-nil}
use Rattle.std.specs.Prelude.{◌≡◌, ◌⊎◌, ◌≤◌, ℕ, Bool, true, false, cond, not, nat_le, ◌==◌, List, [], ◌∷◌, ◌++◌, Option, Some, None, option_map, is_some, Result, Ok, Err}
use Rattle.wire_bcs.specs.declared.fault.WireFault.{WireFault}
use Rattle.digest_core.specs.declared.Digest.{Digest}
use Rattle.chain_types.specs.declared.objects.Object.{Object}
use Rattle.chain_types.specs.Digests.{transaction_digest}
use Rattle.chain_messages.specs.declared.messages.Certificate.{Certificate}
use Rattle.journal_core.specs.declared.records.Record.{Record}
use Rattle.journal_core.specs.declared.records.Record.TheVariants as record_as
use Rattle.protocol_spec.specs.declared.answers.Held.{Held}
use Rattle.protocol_spec.specs.declared.refusals.HoldRefusal.{HoldRefusal}
use Rattle.protocol_spec.specs.declared.refusals.HoldRefusal.TheVariants as no_hold
use Rattle.protocol_spec.proofs.ListLemmas.{has_left}
use Rattle.protocol_spec.specs.Chain.Words.{Has, Along, IsFront, first_some, where_true, unless_refused, refused_or}
use Rattle.protocol_spec.specs.Chain.Certificates.{Rules, read_certificate, cert_refusal}
use Rattle.protocol_spec.specs.Member.Versions.{Execution}
use Rattle.protocol_spec.specs.Member.Sequence.{What, takes, commits, counts, ignores, what_of, held_as, saw}
use Rattle.protocol_spec.specs.Member.Rounds.{rounds}
use Rattle.protocol_spec.specs.Member.Checkpoints.{held_of}
use Rattle.protocol_spec.specs.Member.Member.{Member, Fork, fork_of, fork_with, books, held_with, after, state}
use Rattle.protocol_spec.specs.Member.Calls.{Call, votes, holds, sees, runs, closes, ends, turns, acks, record_limit, new_hold, hold_read, is_hold_kept, hold_record, hold_answer, due}
use Rattle.protocol_spec.specs.Member.Due.{IsDueBehind}
use Rattle.safety_law.proofs.Apart.{state-push}
use Rattle.safety_law.proofs.Once.{has-push}
use Rattle.safety_law.proofs.Appends.{due-appends}
use Rattle.safety_law.proofs.Prefixes.{IsSee, due-see}
use Rattle.headline_law.specs.Stated.{HasExecuted, IsSettled}
use Rattle.headline_law.proofs.Along.{epoch-grows}
use Rattle.headline_law.proofs.Knowing.{IsIn, in-known, known-in, in-saw, in-taken}

-- ---- a closed member takes no certificate but from the sequence

module _ (r : Rules) (m : Member) (c : Certificate) where
  new-open : (d : Certificate) (closed : Bool) (rest : List (Option HoldRefusal)) → where_true (is_hold_kept (unless_refused (first_some (where_true closed no_hold.Closed ∷ rest)) true)) (record_as.Hold d) ≡ Some (record_as.Hold c) → closed ≡ false
  new-open d true rest e = absurd (cc)
  new-open d false rest e = refl

  certificate-open : (d : Certificate) (same there : Bool)
      → where_true (is_hold_kept (refused_or (where_true (not same) (no_hold.WrongEpoch d.tx.epoch m.epoch)) (cond there (Ok false) (new_hold r m d)))) (record_as.Hold d) ≡ Some (record_as.Hold c) → m.closed ≡ false
  certificate-open d false there e = absurd (cc)
  certificate-open d true true e = absurd (cc)
  certificate-open d true false e = new-open d m.closed (option_map no_hold.Cert (cert_refusal r d) ∷ option_map (λ (f : Fork). no_hold.Fork f.key f.first f.second) (fork_with m.held (held_as d)) ∷ []) e

  read-open : (read : Result Certificate WireFault) (fork : Option Fork) (is_full : Bool)
      → hold_record read (refused_or (first_some (option_map (λ (f : Fork). no_hold.Halted f.first f.second) fork ∷ where_true is_full no_hold.Full ∷ [])) (hold_read r m read)) ≡ Some (record_as.Hold c) → m.closed ≡ false
  read-open (Err fault) fork is_full e = absurd (cc)
  read-open (Ok d) (Some fork) is_full e = absurd (cc)
  read-open (Ok d) None true e = absurd (cc)
  read-open (Ok d) None false e = certificate-open d (d.tx.epoch == m.epoch) (is_some (held_of m.held (transaction_digest d.tx))) e

  hold-open : (call : Call) → due r m call ≡ Some (record_as.Hold c) → m.closed ≡ false
  unfolding due hold_answer
  hold-open (votes b) e = let k = due-appends (record_as.Hold c) r m (votes b) e in absurd (cc)
  hold-open (holds b) e = read-open (read_certificate b) (fork_of m) (nat_le record_limit m.records) e
  hold-open (sees number b) e = let k = due-appends (record_as.Hold c) r m (sees number b) e in absurd (cc)
  hold-open runs e = let k = due-appends (record_as.Hold c) r m runs e in absurd (cc)
  hold-open closes e = let k = due-appends (record_as.Hold c) r m closes e in absurd (cc)
  hold-open ends e = absurd (cc)
  hold-open turns e = let k = due-appends (record_as.Hold c) r m turns e in absurd (cc)
  hold-open (acks tx) e = absurd (cc)

-- ---- one record

-- what the sequence hands over is in it
held-from : (held : List Held) (what : What) (h : Held) → Has (held_with held what) h → Has held h ⊎ (what ≡ takes h)
held-from held (takes k) h there = go (is_some (held_of held k.digest)) there
  where
    pushed : Has held h ⊎ (k ≡ h) → Has held h ⊎ (takes k ≡ takes h)
    pushed (inl t) = inl t
    pushed (inr e) = inr (ap takes e)

    go : (b : Bool) → Has (cond b held (held ++ k ∷ [])) h → Has held h ⊎ (takes k ≡ takes h)
    go true t = inl t
    go false t = pushed (has-push held k h t)
held-from held commits h there = inl there
held-from held (counts m) h there = inl there
held-from held (ignores cause) h there = inl there

-- the later state has what the earlier one executed, and is settled if that was
record IsOnward (m n : Member) : Type 0 where
  executed : (x : Execution) → Has m.executed x → Has n.executed x
  settled : (epoch : ℕ) → IsSettled epoch m → IsSettled epoch n

module _ (r : Rules) where
  call-going : (m : Member) (bytes : List ℕ) (call : Call) → IsSee m bytes call → m.sequence.ended ≡ false
  call-going m bytes (votes b) see = absurd see
  call-going m bytes (holds b) see = absurd see
  call-going m bytes (sees number b) see = see.1
  call-going m bytes runs see = absurd see
  call-going m bytes closes see = absurd see
  call-going m bytes ends see = absurd see
  call-going m bytes turns see = absurd see
  call-going m bytes (acks tx) see = absurd see

  see-settled : (m : Member) (bytes : List ℕ) → m.sequence.ended ≡ false → (epoch : ℕ) → IsSettled epoch m → IsSettled epoch (after r m (record_as.See bytes))
  unfolding after
  see-settled m bytes going epoch settled = record {
    epoch_is = settled.epoch_is;
    closed = settled.closed;
    known = λ h there. known-in (saw r m.opening m.epoch m.sequence bytes).admission h.digest (go h (held-from m.held (what_of r m.epoch m.sequence bytes) h there));
  }
    where
      go : (h : Held) → Has m.held h ⊎ (what_of r m.epoch m.sequence bytes ≡ takes h) → IsIn (saw r m.opening m.epoch m.sequence bytes).admission h.digest
      go h (inl there) = in-saw r m.opening h.digest m.epoch m.sequence bytes (in-known m.sequence.admission h.digest (settled.known h there))
      go h (inr e) = in-taken r m.opening m.epoch m.sequence bytes h going e

  one-onward : (m : Member) (call : Call) (x : Record) → due r m call ≡ Some x → (after r m x).epoch ≡ m.epoch → IsOnward m (after r m x)
  unfolding after
  one-onward m call (record_as.Vote tx origins) d same = record { executed = λ y h. h; settled = λ e st. record { epoch_is = st.epoch_is; closed = st.closed; known = st.known } }
  one-onward m call (record_as.Hold c) d same = record {
    executed = λ y h. h;
    settled = λ e st. absurd (let open_yet = hold-open r m c call d in let closed = st.closed in cc);
  }
  one-onward m call (record_as.See bytes) d same = record { executed = λ y h. h; settled = λ e st. see-settled m bytes (call-going m bytes call (due-see r m bytes call d)) e st }
  one-onward m call record_as.Close d same = record { executed = λ y h. h; settled = λ e st. record { epoch_is = st.epoch_is; closed = refl; known = st.known } }
  one-onward m call (record_as.Ran txs) d same = record { executed = λ y h. has_left m.executed (rounds (books m) m.executed) y h; settled = λ e st. record { epoch_is = st.epoch_is; closed = st.closed; known = st.known } }
  one-onward m call record_as.Turn d same = absurd (omega (arith, same))
  one-onward m call (record_as.Ran2 items) d same = record { executed = λ y h. has_left m.executed (rounds (books m) m.executed) y h; settled = λ e st. record { epoch_is = st.epoch_is; closed = st.closed; known = st.known } }

-- ---- along an epoch

onward-same : (m : Member) → IsOnward m m
onward-same m = record { executed = λ x h. h; settled = λ e st. st }

onward-then : (m n p : Member) → IsOnward m n → IsOnward n p → IsOnward m p
onward-then m n p one two = record { executed = λ x h. two.executed x (one.executed x h); settled = λ e st. two.settled e (one.settled e st) }

module _ (r : Rules) (opening : List Object) where
  abbrev at : List Record → Member
  at records = state r opening records

  onward : (more before : List Record) → Along (IsDueBehind r opening) before more → (at (before ++ more)).epoch ≡ (at before).epoch → IsOnward (at before) (at (before ++ more))
  onward [] before along same = subst (λ (rs : List Record). IsOnward (at before) (at rs)) (sym (append-nil before)) (onward-same (at before))
  onward (x ∷ more) before along same = onward-then (at before) (at (before ++ x ∷ [])) (at (before ++ (x ∷ more))) one
      (subst (λ (rs : List Record). IsOnward (at (before ++ x ∷ [])) (at rs)) joined (onward more (before ++ x ∷ []) along.1 (ap (λ (rs : List Record). (at rs).epoch) joined ∙ rest)))
    where
      joined : (before ++ x ∷ []) ++ more ≡ before ++ (x ∷ more)
      joined = append_assoc before (x ∷ []) more

      low : (at before).epoch ≤ (at (before ++ x ∷ [])).epoch
      low = epoch-grows r opening (x ∷ []) before

      high : (at (before ++ x ∷ [])).epoch ≤ (at (before ++ (x ∷ more))).epoch
      high = subst (λ (rs : List Record). (at (before ++ x ∷ [])).epoch ≤ (at rs).epoch) joined (epoch-grows r opening more (before ++ x ∷ []))

      stays : (at (before ++ x ∷ [])).epoch ≡ (at before).epoch
      stays = omega (arith, low, high, same)

      rest : (at (before ++ (x ∷ more))).epoch ≡ (at (before ++ x ∷ [])).epoch
      rest = omega (arith, low, high, same)

      one : IsOnward (at before) (at (before ++ x ∷ []))
      one = subst (IsOnward (at before)) (sym (state-push r opening before x))
          (one-onward r (at before) along.0.0 x along.0.1 (ap (λ (p : Member). p.epoch) (sym (state-push r opening before x)) ∙ stays))

  along-behind : {A : Type 0} (P : List A → A → Type 0) (before front back : List A) → Along P before (front ++ back) → Along P (before ++ front) back
  along-behind {A = A} P before [] back along = subst (λ (xs : List A). Along P xs back) (sym (append-nil before)) along
  along-behind {A = A} P before (x ∷ front) back along = subst (λ (xs : List A). Along P xs back) (append_assoc before (x ∷ []) front) (along-behind P (before ++ x ∷ []) front back along.1)

  -- from a prefix of a journal to all of it, in one epoch
  module _ (records : List Record) (each : Along (IsDueBehind r opening) [] records) (front : List Record) (is : IsFront front records) (epoch : ℕ) (early : (at front).epoch ≡ epoch) (late : (at records).epoch ≡ epoch) where
    forward : IsOnward (at front) (at records)
    forward = subst (λ (rs : List Record). IsOnward (at front) (at rs)) (sym is.1)
        (onward is.0 front (along-behind (IsDueBehind r opening) [] front is.0 (subst (Along (IsDueBehind r opening) []) is.1 each)) (ap (λ (rs : List Record). (at rs).epoch) (sym is.1) ∙ late ∙ sym early))

    pub still-settled : IsSettled epoch (at front) → IsSettled epoch (at records)
    still-settled st = forward.settled epoch st

    pub still-executed : (tx effects : Digest) → HasExecuted epoch tx effects (at front) → HasExecuted epoch tx effects (at records)
    still-executed tx effects had = record { epoch_is = late; of = had.of; there = forward.executed had.of had.there; named = had.named; gave = had.gave }
