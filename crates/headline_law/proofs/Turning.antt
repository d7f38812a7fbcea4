-- The last moment of a member in an epoch: where it turns out of it, or the present one. All states in which it was in
-- that epoch come before.
use Rattle.std.proofs.Common.{inl, inr, refl, sym, subst, ap, ◌∙◌, arith, append_assoc, append-nil}
use Rattle.std.specs.Prelude.{◌≡◌, ◌⊎◌, ◌<◌, ◌≤◌, ◌+◌, ℕ, List, [], ◌∷◌, ◌++◌, slice_get, Some}
use Rattle.checkpoint_core.specs.declared.checkpoints.Checkpoint.{Checkpoint}
use Rattle.journal_core.specs.declared.records.Record.{Record}
use Rattle.journal_core.specs.declared.records.Record.TheVariants as record_as
use Rattle.schedule_text.specs.declared.words.Event.{Event}
use Rattle.protocol_spec.proofs.ListLemmas.{each_at, front_then}
use Rattle.protocol_spec.specs.Chain.Words.{Has, Each, IsFront}
use Rattle.protocol_spec.specs.Member.Member.{Member, after, built, state}
use Rattle.protocol_spec.specs.Member.Calls.{Call, turns, due}
use Rattle.world_spec.specs.Setting.{Setting}
use Rattle.world_spec.specs.World.{Seat, World, new_world, member_in, numbered_call}
use Rattle.world_spec.specs.Step.{happens}
use Rattle.world_spec.specs.Run.{world_after}
use Rattle.safety_law.proofs.InWorld.{new-seats}
use Rattle.safety_law.proofs.Apart.{state-push}
use Rattle.safety_law.proofs.Grown.{world-append}
use Rattle.safety_law.proofs.Appends.{a_turn, appended_as, appended_by, due-appends}
use Rattle.safety_law.proofs.Prefixes.{either-front}
use Rattle.safety_law.proofs.OneCall.{one-line}
use Rattle.safety_law.proofs.Turned.{CanTurn, turn-due}
use Rattle.headline_law.proofs.Along.{IsBeyond, IsTurn, built-beyond, cancel, epoch-grows, first-beyond, more-beyond, past-built, past-grows, push-split, same-or-less, turn-between, turn-epoch, turn-past}

-- ---- calls that are not a turn

abbrev NoTurn : Call → Type 0
NoTurn call = appended_by call ≡ Some a_turn → ⊥

-- ---- line by line

module _ (s : Setting) where
  -- after a prefix of the run a member had these records, and could turn
  pub record IsTurning (events : List Event) (records : List Record) : Type 0 where
    pub front : List Event
    pub back : List Event
    pub whole : front ++ back ≡ events
    pub member : ℕ
    pub seat : Seat
    pub there : slice_get (world_after s front).seats member ≡ Some seat
    pub same : seat.records ≡ records
    pub can : CanTurn (member_in s seat)

  -- at the records before each turn the member could turn (`IsTurning`), after some prefix of the run
  abbrev TurnsIn : List Event → List Record → Type 0
  TurnsIn events records = (front back : List Record) → records ≡ front ++ (record_as.Turn ∷ back) → IsTurning events front

  abbrev AllTurn : List Event → List Seat → Type 0
  AllTurn events seats = Each (λ (seat : Seat). TurnsIn events seat.records) seats

  turning-more : (front : List Event) (e : Event) (records : List Record) → IsTurning front records → IsTurning (front ++ e ∷ []) records
  turning-more front e records t = record {
    front = t.front;
    back = t.back ++ e ∷ [];
    whole = sym (append_assoc t.front t.back (e ∷ [])) ∙ ap (λ (es : List Event). es ++ e ∷ []) t.whole;
    member = t.member;
    seat = t.seat;
    there = t.there;
    same = t.same;
    can = t.can;
  }

  other-kept : (front : List Event) (records : List Record) (call : Call) (x : Record) → NoTurn call → due s.rules (state s.rules s.opening records) call ≡ Some x → TurnsIn front records → TurnsIn front (records ++ x ∷ [])
  other-kept front records call x never d all before back e = go (push-split records x before record_as.Turn back e)
    where
      go : ((before ≡ records) × (x ≡ record_as.Turn)) ⊎ ((more : List Record) × (records ≡ before ++ (record_as.Turn ∷ more))) → IsTurning front before
      go (inl p) = absurd (never (due-appends x s.rules (state s.rules s.opening records) call d ∙ ap (λ (y : Record). Some (appended_as y)) p.1))
      go (inr q) = all before q.0 q.1

  turn-kept : (front : List Event) (m : ℕ) (seat : Seat) → slice_get (world_after s front).seats m ≡ Some seat → (x : Record) → due s.rules (member_in s seat) turns ≡ Some x → TurnsIn front seat.records → TurnsIn front (seat.records ++ x ∷ [])
  turn-kept front m seat there x d all before back e = go (push-split seat.records x before record_as.Turn back e)
    where
      go : ((before ≡ seat.records) × (x ≡ record_as.Turn)) ⊎ ((more : List Record) × (seat.records ≡ before ++ (record_as.Turn ∷ more))) → IsTurning front before
      go (inl p) = record { front = front; back = []; whole = append-nil front; member = m; seat = seat; there = there; same = sym p.0; can = (turn-due s.rules (member_in s seat) x d).1 }
      go (inr q) = all before q.0 q.1

  -- at these seats a turn is where a member turned, and no other call is a turn
  here-turn : (front : List Event) (call : Call) (m : ℕ) (seat : Seat) → slice_get (world_after s front).seats m ≡ Some seat → (x : Record) → due s.rules (member_in s seat) call ≡ Some x → TurnsIn front seat.records → TurnsIn front (seat.records ++ x ∷ [])
  here-turn front turns m seat there x d all = turn-kept front m seat there x d all
  here-turn front call m seat there x d all = other-kept front seat.records call x (λ q. absurd (cc)) d all

  line-turn : (front : List Event) (e : Event) → AllTurn front (world_after s front).seats → AllTurn front (happens s (world_after s front) e).seats
  line-turn front e all = one-line s (TurnsIn front) (world_after s front) (here-turn front) (λ number n records x d p. other-kept front records (numbered_call number n) x (λ q. absurd (cc)) d p) e all

  all-more : (front : List Event) (e : Event) (seats : List Seat) → AllTurn front seats → AllTurn (front ++ e ∷ []) seats
  all-more front e [] all = tt
  all-more front e (seat ∷ seats) all = (λ before back q. turning-more front e before (all.0 before back q), all-more front e seats all.1)

  run-turn : (back front : List Event) → AllTurn front (world_after s front).seats → AllTurn (front ++ back) (world_after s (front ++ back)).seats
  run-turn [] front all = subst (λ (es : List Event). AllTurn es (world_after s es).seats) (sym (append-nil front)) all
  run-turn (e ∷ back) front all =
      subst (λ (es : List Event). AllTurn es (world_after s es).seats) (append_assoc front (e ∷ []) back)
      (run-turn back (front ++ e ∷ []) (all-more front e (world_after s (front ++ e ∷ [])).seats
      (subst (λ (v : World). AllTurn front v.seats) (sym (world-append s front (e ∷ []))) (line-turn front e all))))

  no-records : (events : List Event) → TurnsIn events []
  no-records events [] back e = absurd (cc)
  no-records events (x ∷ front) back e = absurd (cc)

  new-turn : AllTurn [] (world_after s []).seats
  unfolding world_after new_world
  new-turn = new-seats s (λ call. ⊥) (TurnsIn []) (λ records call x g d p. absurd g) s.honest (no-records [])

  turns-in : (events : List Event) (m : ℕ) (seat : Seat) → slice_get (world_after s events).seats m ≡ Some seat → TurnsIn events seat.records
  turns-in events m seat there = each_at (λ (y : Seat). TurnsIn events y.records) (world_after s events).seats m seat (run-turn events [] new-turn) there

  -- ---- the moments of a member

  abbrev of : List Record → Member
  of records = state s.rules s.opening records

  -- A moment of the run at which a member was in the epoch; each state of these records in that epoch is one of its.
  pub record IsLast (events : List Event) (records : List Record) (epoch : ℕ) : Type 0 where
    pub front : List Event
    pub back : List Event
    pub whole : front ++ back ≡ events
    pub member : ℕ
    pub seat : Seat
    pub there : slice_get (world_after s front).seats member ≡ Some seat
    pub epoch_is : (member_in s seat).epoch ≡ epoch
    pub covers : (early : List Record) → IsFront early records → (of early).epoch ≡ epoch → IsFront early seat.records

  -- if it left the epoch, it could turn there, and has the checkpoints that it had built
  pub record HasLeft (events : List Event) (records : List Record) (epoch : ℕ) : Type 0 where
    pub last : IsLast events records epoch
    pub can : CanTurn (member_in s last.seat)
    pub keeps : IsFront (built (member_in s last.seat)) (built (of records))
    pub adds_none : (c : Checkpoint) → Has (built (of records)) c → c.epoch ≡ epoch → Has (built (member_in s last.seat)) c

  module _ (events : List Event) (m : ℕ) (seat : Seat) (there : slice_get (world_after s events).seats m ≡ Some seat) (epoch : ℕ) where
    covered : (front back : List Record) → seat.records ≡ front ++ (record_as.Turn ∷ back) → (of front).epoch ≡ epoch → (early : List Record) → IsFront early seat.records → (of early).epoch ≡ epoch → IsFront early front
    covered front back split same early (rest, e) is = go (either-front early front rest (record_as.Turn ∷ back) (sym e ∙ split))
      where
        late : (more : List Record) → early ≡ front ++ more → IsFront early front
        late [] q = ([], sym (append-nil early ∙ q ∙ append-nil front))
        late (y ∷ more) q = absurd (let n = grows in let k = now in omega (arith, n, k, same, is))
          where
            turn : y ≡ record_as.Turn
            turn = head (more ++ rest) back (cancel front ((y ∷ more) ++ rest) (record_as.Turn ∷ back) (sym (append_assoc front (y ∷ more) rest) ∙ ap (λ (rs : List Record). rs ++ rest) (sym q) ∙ sym e ∙ split))
              where
                head : (us vs : List Record) → y ∷ us ≡ record_as.Turn ∷ vs → y ≡ record_as.Turn
                head us vs h = cc

            now : (of (front ++ y ∷ [])).epoch ≡ (of front).epoch + 1
            now = ap (λ (p : Member). p.epoch) (state-push s.rules s.opening front y) ∙ ap (λ (z : Record). (after s.rules (of front) z).epoch) turn ∙ turn-epoch s.rules (of front)

            grows : (of (front ++ y ∷ [])).epoch ≤ (of early).epoch
            grows = subst (λ (rs : List Record). (of (front ++ y ∷ [])).epoch ≤ (of rs).epoch) (append_assoc front (y ∷ []) more ∙ sym q) (epoch-grows s.rules s.opening more (front ++ y ∷ []))

        go : IsFront early front ⊎ IsFront front early → IsFront early front
        go (inl f) = f
        go (inr (more, q)) = late more q

    -- what was built after the turn is kept
    kept-built : (front back : List Record) → seat.records ≡ front ++ (record_as.Turn ∷ back) → IsFront (built (of front)) (built (of seat.records))
    kept-built front back split =
        front_then (built (of front)) (of seat.records).past (built (of seat.records))
        (subst (λ (cs : List Checkpoint). IsFront cs (of seat.records).past) (ap (λ (p : Member). p.past) (state-push s.rules s.opening front record_as.Turn) ∙ turn-past s.rules (of front))
        (subst (λ (rs : List Record). IsFront (of (front ++ record_as.Turn ∷ [])).past (of rs).past) (append_assoc front (record_as.Turn ∷ []) back ∙ sym split) (past-grows s.rules s.opening back (front ++ record_as.Turn ∷ []))))
        (past-built (of seat.records))

    -- no other checkpoint of the epoch is built after the turn out of it
    none-added : (front back : List Record) → seat.records ≡ front ++ (record_as.Turn ∷ back) → (of front).epoch ≡ epoch → (c : Checkpoint) → Has (built (of seat.records)) c → c.epoch ≡ epoch → Has (built (of front)) c
    none-added front back split same c h e =
        built-beyond s.rules (of front) (of seat.records) (subst (λ (rs : List Record). IsBeyond (of front) (of rs)) (append_assoc front (record_as.Turn ∷ []) back ∙ sym split)
        (more-beyond s.rules s.opening (of front) back (front ++ record_as.Turn ∷ []) (subst (IsBeyond (of front)) (sym (state-push s.rules s.opening front record_as.Turn)) (first-beyond s.rules (of front))))) c h (e ∙ sym same)

    first-epoch : (of []).epoch ≡ 0
    unfolding state
    first-epoch = refl

    pub left-epoch : epoch < (member_in s seat).epoch → HasLeft events seat.records epoch
    left-epoch less = go (turn-between s.rules s.opening seat.records [] epoch none less)
      where
        none : (of []).epoch ≤ epoch
        none = let e = first-epoch in omega (arith, e)

        go : IsTurn s.rules s.opening seat.records epoch → HasLeft events seat.records epoch
        go t = with_turning (turns-in events m seat there t.front t.back t.split)
          where
            with_turning : IsTurning events t.front → HasLeft events seat.records epoch
            with_turning it = record {
              last = record {
                front = it.front;
                back = it.back;
                whole = it.whole;
                member = it.member;
                seat = it.seat;
                there = it.there;
                epoch_is = subst (λ (rs : List Record). (of rs).epoch ≡ epoch) (sym it.same) t.epoch_is;
                covers = λ early front is. subst (IsFront early) (sym it.same) (covered t.front t.back t.split t.epoch_is early front is);
              };
              can = it.can;
              keeps = subst (λ (rs : List Record). IsFront (built (of rs)) (built (of seat.records))) (sym it.same) (kept-built t.front t.back t.split);
              adds_none = λ c h e. subst (λ (rs : List Record). Has (built (of rs)) c) (sym it.same) (none-added t.front t.back t.split t.epoch_is c h e);
            }

    pub last-moment : epoch ≤ (member_in s seat).epoch → IsLast events seat.records epoch
    last-moment low = go (same-or-less epoch (member_in s seat).epoch low)
      where
        go : (epoch ≡ (member_in s seat).epoch) ⊎ (epoch < (member_in s seat).epoch) → IsLast events seat.records epoch
        go (inl same) = record { front = events; back = []; whole = append-nil events; member = m; seat = seat; there = there; epoch_is = sym same; covers = λ early front is. front }
        go (inr less) = (left-epoch less).last
