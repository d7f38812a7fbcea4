-- A run executes all that was admitted, one after the other: each waits for admitted ones before it. So it builds the
-- checkpoint of each cut.
use Rattle.std.proofs.Common.{inl, inr, refl, sym, subst, ◌∙◌, append_assoc, append-nil}
use Rattle.std.specs.Prelude.{◌≡◌, ◌⊎◌, ℕ, Bool, true, false, not, List, [], ◌∷◌, ◌++◌, map, flat_map, slice_get, Option, Some, None, option_map, Ok, nat_le, Err}
use Rattle.digest_core.specs.declared.Digest.{Digest}
use Rattle.chain_types.specs.declared.objects.ObjectId.{ObjectId}
use Rattle.chain_types.specs.declared.objects.Object.{Object}
use Rattle.chain_types.specs.declared.transactions.Input.{Input}
use Rattle.chain_types.specs.declared.transactions.Input.TheVariants as inputs
use Rattle.chain_types.specs.Equal.{digest_eq, id_eq}
use Rattle.chain_messages.specs.declared.messages.Certificate.{Certificate}
use Rattle.protocol_spec.specs.declared.answers.Held.{Held}
use Rattle.protocol_spec.specs.declared.answers.Ran.{Ran}
use Rattle.protocol_spec.specs.declared.refusals.TurnRefusal.{TurnRefusal}
use Rattle.protocol_spec.specs.declared.refusals.TurnRefusal.TheVariants as no_turn
use Rattle.schedule_text.specs.declared.words.Event.{Event}
use Rattle.protocol_spec.proofs.Equality.{digest_same, digest_self}
use Rattle.protocol_spec.proofs.ListLemmas.{each_has, has_left, has_parts, has_mapped, flat_has}
use Rattle.protocol_spec.proofs.Truth.{or_right, some_same}
use Rattle.protocol_spec.specs.Chain.Words.{Has, Each, Along, first_some, first_of, where_true, last_where, unless_refused}
use Rattle.protocol_spec.specs.Chain.Tests.{origins_eq}
use Rattle.protocol_spec.specs.Chain.Keys.{objects_of, has_shared_input}
use Rattle.protocol_spec.specs.Member.Versions.{Execution, is_executed}
use Rattle.protocol_spec.specs.Member.Admission.{Admitted, Standing, is_admitted, writes, cert_of, joined_inputs, begins, beginning, beginning_by, standing_after, standing_or, current, assigned_of}
use Rattle.protocol_spec.specs.Member.Rounds.{Wanted, wanted_by, wants_of, is_maker_done, is_origin_done}
use Rattle.protocol_spec.specs.Member.Checkpoints.{is_done}
use Rattle.protocol_spec.specs.Member.Member.{Member, with_rounds, Fork, fork_of}
use Rattle.protocol_spec.specs.Member.Calls.{run_answer, record_limit, not_done, reverted, turn_answer}
use Rattle.world_spec.specs.Setting.{Setting}
use Rattle.world_spec.specs.World.{Seat, member_in}
use Rattle.world_spec.specs.Run.{world_after}
use Rattle.world_spec.specs.Assumptions.{IsHonestRun, all_delivered}
use Rattle.safety_law.proofs.Once.{has-push}
use Rattle.safety_law.proofs.Totals.{each-all}
use Rattle.block_law.proofs.Live.{any-has, has-any}
use Rattle.block_law.specs.Admitted.{IsInOrder, is_origin_in}
use Rattle.safety_law.specs.Agreed.{IsHeldAsGiven}
use Rattle.safety_law.proofs.Supply.{every-held, every-admission}
use Rattle.block_law.specs.Orderly.{AreApart}
use Rattle.safety_law.specs.Checkpointed.{admitted_in, IsBuilt}
use Rattle.safety_law.proofs.Lists.{has-middle, all-has, first-says}
use Rattle.safety_law.proofs.SameSteps.{given-alike}
use Rattle.safety_law.proofs.Executed.{admitted-given}
use Rattle.safety_law.proofs.Checkpointed.{all-cut}
use Rattle.safety_law.proofs.Turned.{has-all}
use Rattle.headline_law.specs.Runs.{HasNothingToWaitFor}
use Rattle.headline_law.proofs.Undropped.{IsKept, none-dropped}
use Rattle.headline_law.proofs.AssignedShared.{along-both, last-has, IsAdmittedAs, wanted-current}
use Rattle.headline_law.proofs.Running.{runs-execute-all}
use Rattle.headline_law.proofs.Stock.{IsHeldUnder, admitted-held}
use Rattle.block_law.proofs.Written.{second}

along-at : {A : Type 0} (P : List A → A → Type 0) (before front : List A) (x : A) (back : List A) → Along P before (front ++ (x ∷ back)) → P (before ++ front) x
along-at {A = A} P before [] x back along = subst (λ (b : List A). P b x) (sym (append-nil before)) along.0
along-at {A = A} P before (y ∷ front) x back along = subst (λ (b : List A). P b x) (append_assoc before (y ∷ []) front) (along-at P (before ++ y ∷ []) front x back along.1)

same-origins : (xs : List (Option Digest)) → origins_eq xs xs ≡ true
same-origins [] = refl
same-origins (None ∷ xs) = same-origins xs
same-origins (Some d ∷ xs) = rw (digest_self d) (same-origins xs)

-- ---- what was executed of an admitted transaction and of what it comes from

module _ (executed : List Execution) where
  pub record IsDone (a : Admitted) : Type 0 where
    pub itself : is_executed executed a.digest ≡ true
    pub origins : (d : Option Digest) → Has a.cert.origins d → is_origin_done executed d ≡ true

  module _ (front : List Admitted) (each : (b : Admitted) → Has front b → IsDone b) where
    origin-done : (d : Option Digest) → is_origin_in front d ≡ true → is_origin_done executed d ≡ true
    origin-done None e = refl
    origin-done (Some tx) e =
        let b = any-has (λ (b : Admitted). digest_eq b.digest tx) front e in
        subst (λ (d : Digest). is_executed executed d ≡ true) (digest_same b.0.digest tx b.2) (each b.0 b.1).itself

    module _ (a : Admitted) (origins : (d : Option Digest) → Has a.cert.origins d → is_origin_done executed d ≡ true) where
      abbrev certs : List Certificate
      certs = map cert_of front ++ a.cert ∷ []

      cert-origins : (c : Certificate) → Has certs c → (d : Option Digest) → Has c.origins d → is_origin_done executed d ≡ true
      cert-origins c h = go (has_parts (map cert_of front) (a.cert ∷ []) c h)
        where
          Origins : Certificate → Type 0
          Origins c = (d : Option Digest) → Has c.origins d → is_origin_done executed d ≡ true

          go : Has (map cert_of front) c ⊎ Has (a.cert ∷ []) c → Origins c
          go (inl k) = let b = has_mapped cert_of front c k in subst Origins b.2 (each b.0 b.1).origins
          go (inr (inl e)) = subst Origins e origins
          go (inr (inr k)) = absurd k

      begun-done : (opening : List Object) (id : ObjectId) (i : Input) (d : Option Digest) → is_origin_done executed d ≡ true → (st : Standing) → beginning opening id (i, d) ≡ Some st → is_maker_done executed (Some st.1) ≡ true
      begun-done opening id (inputs.Pure bytes) d done st e = absurd (cc)
      begun-done opening id (inputs.Owned r) d done st e = absurd (cc)
      begun-done opening id (inputs.Immutable r) d done st e = absurd (cc)
      begun-done opening id (inputs.Shared x initial mutable) d done st e = go (id_eq x id) e
        where
          by : (d : Option Digest) → is_origin_done executed d ≡ true → is_maker_done executed (Some (begins opening x initial d).1) ≡ true
          by None done = refl
          by (Some tx) done = done

          go : (t : Bool) → where_true t (begins opening x initial d) ≡ Some st → is_maker_done executed (Some st.1) ≡ true
          go true e = subst (λ (z : Standing). is_maker_done executed (Some z.1) ≡ true) (some_same (begins opening x initial d) st e) (by d done)
          go false e = absurd (cc)

      -- the writer of the current version of a shared object
      current-done : (opening : List Object) (id : ObjectId) → is_maker_done executed (Some (current opening front a.cert id).1) ≡ true
      unfolding current
      current-done opening id = go (last_where (writes id) front) refl (first_of (beginning_by opening id) certs) refl
        where
          go : (l : Option Admitted) → last_where (writes id) front ≡ l → (f : Option Standing) → first_of (beginning_by opening id) certs ≡ f
              → is_maker_done executed (Some (standing_or (first_some (option_map standing_after l ∷ f ∷ []))).1) ≡ true
          go (Some w) h f k = (each w (last-has (writes id) front w h).0).itself
          go None h None k = refl
          go None h (Some st) k =
              let c = first-says (beginning_by opening id) certs st k in
              let x = first-says (beginning opening id) (joined_inputs c.0) st c.2 in
              begun-done opening id x.0.0 x.0.1 (cert-origins c.0 c.1 x.0.1 (second (objects_of c.0.tx) c.0.origins x.0.0 x.0.1 x.1)) st x.2

-- ---- a run

module _ (s : Setting) (events : List Event) (honest : IsHonestRun s events) (distinct : AreApart s.opening) (n : ℕ) (seat : Seat) (at : slice_get (world_after s events).seats n ≡ Some seat) (ran : Ran) (e : run_answer s.rules (member_in s seat) ≡ Ok ran) where
  abbrev m : Member
  m = member_in s seat

  abbrev admitted : List Admitted
  admitted = m.sequence.admission.admitted

  abbrev executed : List Execution
  executed = (with_rounds m).executed

  -- the certificate that is held of an admitted transaction
  record IsHeldOf (a : Admitted) : Type 0 where
    under : IsHeldUnder m a.digest
    alike : (a.cert.tx ≡ under.of.cert.tx) × (a.cert.origins ≡ under.of.cert.origins)

  held-of : (a : Admitted) → Has admitted a → IsHeldOf a
  held-of a there =
      let under = admitted-held s.rules s.opening seat.records a there in
      record {
        under = under;
        alike = given-alike s events honest m.epoch m.epoch a.digest under.of.digest a.cert under.of.cert (admitted-given s events honest n seat at a there)
            (each_has (IsHeldAsGiven s.rules (all_delivered s events) m.epoch) m.held under.of (every-held s events n seat at) under.held) (sym under.digest);
      }

  module _ (front back : List Admitted) (a : Admitted) (split : admitted ≡ front ++ (a ∷ back)) (each : (b : Admitted) → Has front b → IsDone executed b) where
    there : Has admitted a
    there = subst (λ (zs : List Admitted). Has zs a) (sym split) (has-middle front a back)

    in-order : IsInOrder m.opening front a × IsKept m.opening front a
    in-order =
        let both = along-both (IsInOrder m.opening) (IsKept m.opening) [] admitted (every-admission s events n seat at).order (none-dropped s events n seat at) in
        along-at (λ (b : List Admitted) (x : Admitted). IsInOrder m.opening b x × IsKept m.opening b x) [] front a back
        (subst (Along (λ (b : List Admitted) (x : Admitted). IsInOrder m.opening b x × IsKept m.opening b x) []) split both)

    origins-done : (d : Option Digest) → Has a.cert.origins d → is_origin_done executed d ≡ true
    origins-done d h = origin-done executed front each d (all-has (is_origin_in front) a.cert.origins d in-order.0.origins h)

    module _ (held : IsHeldOf a) where
      abbrev h : Held
      h = held.under.of

      as-admitted : IsAdmittedAs s events honest distinct n seat at h
      as-admitted = record { front = front; back = back; of = a; split = split; next = in-order.0; undropped = in-order.1; digest = sym held.under.digest; tx = held.alike.0; origins = held.alike.1 }

      held-origins : (d : Option Digest) → Has h.cert.origins d → is_origin_done executed d ≡ true
      held-origins d k = origins-done d (subst (λ (ds : List (Option Digest)). Has ds d) (sym held.alike.1) k)

      writer-done : (i : Input) (d : Option Digest) → Has (joined_inputs h.cert) (i, d) → is_maker_done executed (wanted_by (assigned_of m.sequence.admission h.digest) (i, d)).producer ≡ true
      unfolding as-admitted
      writer-done (inputs.Pure bytes) d k = refl
      writer-done (inputs.Owned r) None k = refl
      writer-done (inputs.Owned r) (Some tx) k = held-origins (Some tx) (second (objects_of h.cert.tx) h.cert.origins (inputs.Owned r) (Some tx) k)
      writer-done (inputs.Immutable r) None k = refl
      writer-done (inputs.Immutable r) (Some tx) k = held-origins (Some tx) (second (objects_of h.cert.tx) h.cert.origins (inputs.Immutable r) (Some tx) k)
      writer-done (inputs.Shared id initial mutable) d k = subst (λ (w : Wanted). is_maker_done executed w.producer ≡ true)
          (sym (wanted-current s events honest distinct n seat at h as-admitted id initial mutable d k)) (current-done executed front each a origins-done m.opening id)

      waits-for-nothing : HasNothingToWaitFor (with_rounds m) h
      unfolding wants_of
      waits-for-nothing = record {
        may = or_right (not (has_shared_input h.cert.tx)) (is_admitted admitted h.digest)
            (has-any (λ (x : Admitted). digest_eq x.digest h.digest) admitted a there (subst (λ (d : Digest). digest_eq a.digest d ≡ true) (sym held.under.digest) (digest_self a.digest)));
        origins = has-all (is_origin_done executed) h.cert.origins held-origins;
        writers = has-all (λ (w : Wanted). is_maker_done executed w.producer) (map (wanted_by (assigned_of m.sequence.admission h.digest)) (joined_inputs h.cert)) (λ w k.
            let x = has_mapped (wanted_by (assigned_of m.sequence.admission h.digest)) (joined_inputs h.cert) w k in
            subst (λ (z : Wanted). is_maker_done executed z.producer ≡ true) x.2 (writer-done x.0.0 x.0.1 x.1));
      }

      done : IsDone executed a
      done = record {
        itself = subst (λ (d : Digest). is_executed executed d ≡ true) held.under.digest (runs-execute-all s events honest distinct n seat at ran e h held.under.held waits-for-nothing);
        origins = origins-done;
      }

  all-done : (front back : List Admitted) → admitted ≡ front ++ back → ((b : Admitted) → Has front b → IsDone executed b) → (b : Admitted) → Has back b → IsDone executed b
  all-done front [] split each b h = absurd h
  all-done front (a ∷ back) split each b (inl q) = subst (IsDone executed) q (done front back a split each (held-of a (there front back a split each)))
  all-done front (a ∷ back) split each b (inr h) = all-done (front ++ a ∷ []) back (split ∙ sym (append_assoc front (a ∷ []) back)) (λ c k. which c (has-push front a c k)) b h
    where
      which : (c : Admitted) → Has front c ⊎ (a ≡ c) → IsDone executed c
      which c (inl k) = each c k
      which c (inr q) = subst (IsDone executed) q (done front back a split each (held-of a (there front back a split each)))

  pub runs-execute-admitted : (a : Admitted) → Has admitted a → is_executed (with_rounds m).executed a.digest ≡ true
  runs-execute-admitted a h = (all-done [] admitted refl (λ b none. absurd none) a h).itself

  admitted-done : (a : Admitted) → Has admitted a → is_done m.held executed a ≡ true
  admitted-done a h =
      let held = held-of a h in
      rw (runs-execute-admitted a h, held.under.found) (subst (λ (ds : List (Option Digest)). origins_eq held.under.of.cert.origins ds ≡ true) (sym held.alike.1) (same-origins held.under.of.cert.origins))

  pub runs-build-all : Each (IsBuilt (with_rounds m)) m.sequence.cuts
  runs-build-all = each-all (IsBuilt (with_rounds m)) m.sequence.cuts (λ c h. has-all (is_done m.held executed) c.txs (λ a k.
      let front = all-cut s events n seat at in
      admitted-done a (subst (λ (zs : List Admitted). Has zs a) (sym front.1) (has_left (flat_map admitted_in m.sequence.cuts) front.0 a (flat_has admitted_in m.sequence.cuts c a h k)))))

  -- after the run no admitted certificate keeps the member in its epoch
  none-waits : (txs : List Admitted) → ((a : Admitted) → Has txs a → Has admitted a) → first_of (not_done (with_rounds m)) txs ≡ None
  none-waits [] inside = refl
  none-waits (a ∷ txs) inside = rw (admitted-done a (inside a (inl refl)), none-waits txs (λ b h. inside b (inr h))) refl

  pub no-turn-waits : (tx : Digest) → turn_answer s.rules (with_rounds m) ≡ Err (no_turn.Waits tx) → ⊥
  unfolding turn_answer
  no-turn-waits tx = go (fork_of (with_rounds m)) (nat_le record_limit m.records) m.sequence.ended (first_of (not_done (with_rounds m)) admitted) (none-waits admitted (λ a h. h))
    where
      go : (fork : Option Fork) (is_full ended : Bool) (waits : Option TurnRefusal) → waits ≡ None
          → unless_refused (first_some (option_map (λ (f : Fork). no_turn.Halted f.first f.second) fork ∷ where_true is_full no_turn.Full ∷ where_true (not ended) no_turn.NotEnded ∷ waits ∷ [])) (reverted (with_rounds m)) ≡ Err (no_turn.Waits tx) → ⊥
      go (Some fork) is_full ended waits none e = cc
      go None true ended waits none e = cc
      go None false false waits none e = cc
      go None false true (Some refusal) none e = absurd (cc)
      go None false true None none e = cc
