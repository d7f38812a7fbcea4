-- What holds of each statement that a call makes, and is kept by further records, holds of every statement of an
-- honest member in every run.
use Rattle.std.proofs.Common.{inl, inr, refl, sym, subst, ap, ◌∙◌}
use Rattle.std.specs.Prelude.{◌≡◌, ◌⊎◌, ℕ, zero, suc, Bool, true, false, cond, List, [], ◌∷◌, ◌++◌, map, slice_get, slice_set, Option, Some, None}
use Rattle.chain_messages.specs.declared.messages.Statement.{Statement}
use Rattle.journal_core.specs.declared.records.Record.{Record}
use Rattle.schedule_text.specs.declared.words.Event.{Event}
use Rattle.protocol_spec.proofs.ListLemmas.{has_parts, each_at}
use Rattle.protocol_spec.specs.Chain.Words.{Has, Each}
use Rattle.protocol_spec.specs.Member.Member.{Member, state}
use Rattle.protocol_spec.specs.Member.Calls.{Call, due}
use Rattle.world_spec.specs.Setting.{Setting}
use Rattle.world_spec.specs.World.{Seat, Said, World, Reached, finds_down, stops, answers, new_world, member_in, reached_up, reached_seat, appended, stopped_seat, behind, called_seat, called_in, stated, sealed_by, honest_seat, is_honest, called_over}
use Rattle.world_spec.specs.Step.{says}
use Rattle.world_spec.specs.Run.{run, world_after}
use Rattle.world_spec.specs.Assumptions.{HasSaid}
use Rattle.safety_law.proofs.InWorld.{any-given, kept-called, new-seats, set-kept}
use Rattle.safety_law.proofs.Steps.{Keeps, step-run}

-- the seat at a place, after a change of one
pub get-set : {A : Type 0} (xs : List A) (m n : ℕ) (y q : A) → slice_get (slice_set xs m y) n ≡ Some q → ((n ≡ m) × (y ≡ q)) ⊎ (slice_get xs n ≡ Some q)
get-set [] m n y q e = inr e
get-set (x ∷ xs) zero zero y q e = inl (refl, same y q e)
  where
    same : {A : Type 0} (y q : A) → Some y ≡ Some q → y ≡ q
    same y q e = cc
get-set (x ∷ xs) zero (suc n) y q e = inr e
get-set (x ∷ xs) (suc m) zero y q e = inr e
get-set (x ∷ xs) (suc m) (suc n) y q e = go (get-set xs m n y q e)
  where
    go : ((n ≡ m) × (y ≡ q)) ⊎ (slice_get xs n ≡ Some q) → ((suc n ≡ suc m) × (y ≡ q)) ⊎ (slice_get xs n ≡ Some q)
    go (inl p) = inl (ap suc p.0, p.1)
    go (inr h) = inr h

-- what was said by one member
pub has-said : (s : Setting) (m : ℕ) (sts : List Statement) (x : Said) → Has (map (sealed_by s.seal m) sts) x → (x.member ≡ m) × Has sts x.statement
has-said s m [] x h = absurd h
has-said s m (st ∷ sts) x (inl e) = (sym (ap (λ (y : Said). y.member) e), inl (ap (λ (y : Said). y.statement) e))
has-said s m (st ∷ sts) x (inr h) = let rest = has-said s m sts x h in (rest.0, inr rest.1)

module _ (s : Setting) (P : List Record → Type 0) (B : List Record → Statement → Type 0)
    (step : (records : List Record) (call : Call) (x : Record) → due s.rules (state s.rules s.opening records) call ≡ Some x → P records → P (records ++ x ∷ []))
    (more : (records : List Record) (x : Record) (st : Statement) → B records st → B (records ++ x ∷ []) st)
    (tells : (records : List Record) (call : Call) (st : Statement) → P records → Has (stated s.rules (state s.rules s.opening records) call) st → B (appended records (due s.rules (state s.rules s.opening records) call)) st) where
  abbrev Back : List Said → List Seat → Type 0
  Back said seats = (x : Said) → Has said x → (seat : Seat) → slice_get seats x.member ≡ Some seat → seat.honest ≡ true → B seat.records x.statement

  abbrev Backs : World → Type 0
  Backs w = Back w.said w.seats

  back-set : (said : List Said) (seats : List Seat) (m : ℕ) (seat new : Seat) → slice_get seats m ≡ Some seat → new.honest ≡ seat.honest → ((st : Statement) → B seat.records st → B new.records st) → Back said seats → Back said (slice_set seats m new)
  back-set said seats m seat new e same keeps back x h q at honest = go (get-set seats m x.member new q at)
    where
      go : ((x.member ≡ m) × (new ≡ q)) ⊎ (slice_get seats x.member ≡ Some q) → B q.records x.statement
      go (inl p) = subst (λ (y : Seat). B y.records x.statement) p.1
          (keeps x.statement (back x h seat (ap (slice_get seats) p.0 ∙ e) (sym same ∙ (ap (λ (y : Seat). y.honest) p.1 ∙ honest))))
      go (inr a) = back x h q a honest

  back-add : (said : List Said) (seats : List Seat) (m : ℕ) (seat : Seat) (sts : List Statement) → slice_get seats m ≡ Some seat → ((st : Statement) → Has sts st → B seat.records st) → Back said seats → Back (said ++ map (sealed_by s.seal m) sts) seats
  back-add said seats m seat sts e new back x h q at honest = go (has_parts said (map (sealed_by s.seal m) sts) x h)
    where
      same : (a b : Seat) → Some a ≡ Some b → a ≡ b
      same a b e = cc

      go : Has said x ⊎ Has (map (sealed_by s.seal m) sts) x → B q.records x.statement
      go (inl h) = back x h q at honest
      go (inr h) = let by = has-said s m sts x h in
          subst (λ (y : Seat). B y.records x.statement) (same seat q (sym e ∙ (ap (slice_get seats) (sym by.0) ∙ at))) (new x.statement by.1)

  -- a faulty member may say what it likes
  back-faulty : (w : World) (m : ℕ) (st : Statement) → is_honest w m ≡ false → Backs w → Backs (says s.seal w m st)
  back-faulty w m st faulty back x h q at honest = go (has_parts w.said (sealed_by s.seal m st ∷ []) x h)
    where
      go : Has w.said x ⊎ Has (sealed_by s.seal m st ∷ []) x → B q.records x.statement
      go (inl h) = back x h q at honest
      go (inr (inl e)) = absurd (let flag = ap honest_seat (ap (slice_get w.seats) (ap (λ (y : Said). y.member) e) ∙ at) in cc)
      go (inr (inr h)) = absurd h

  set-get : (seats : List Seat) (m : ℕ) (seat new : Seat) → slice_get seats m ≡ Some seat → slice_get (slice_set seats m new) m ≡ Some new
  set-get [] m seat new e = absurd (cc)
  set-get (x ∷ seats) zero seat new e = refl
  set-get (x ∷ seats) (suc m) seat new e = set-get seats m seat new e

  more-appended : (records : List Record) (x : Option Record) (st : Statement) → B records st → B (appended records x) st
  more-appended records None st b = b
  more-appended records (Some x) st b = more records x st b

  more-stopped : (seat : Seat) (kept : Bool) (x : Record) (st : Statement) → B seat.records st → B (stopped_seat seat kept x).records st
  more-stopped seat true x st b = more seat.records x st b
  more-stopped seat false x st b = b

  -- what an answer was given in
  answered-in : (seat : Seat) (call : Call) (m : Member) (x : Option Record) → reached_seat s call seat ≡ answers m x → (member_in s seat ≡ m) × (due s.rules (member_in s seat) call ≡ x)
  answered-in seat call m x e = go seat.up seat.armed (due s.rules (member_in s seat) call) refl e
    where
      go : (up : Bool) (armed : Option Bool) (y : Option Record) → due s.rules (member_in s seat) call ≡ y → cond up (reached_up (member_in s seat) armed y) finds_down ≡ answers m x → (member_in s seat ≡ m) × (due s.rules (member_in s seat) call ≡ x)
      go false armed y d e = absurd (cc)
      go true None y d e = (state_in y e, d ∙ due_in y e)
        where
          state_in : (y : Option Record) → answers (member_in s seat) y ≡ answers m x → member_in s seat ≡ m
          state_in y e = cc

          due_in : (y : Option Record) → answers (member_in s seat) y ≡ answers m x → y ≡ x
          due_in y e = cc
      go true (Some k) None d e = (state_in e, d ∙ due_in e)
        where
          state_in : answers (member_in s seat) None ≡ answers m x → member_in s seat ≡ m
          state_in e = cc

          due_in : answers (member_in s seat) None ≡ answers m x → None ≡ x
          due_in e = cc
      go true (Some k) (Some z) d e = absurd (cc)

  back-behind : (w : World) (m : ℕ) (call : Call) (seat : Seat) (r : Reached) → slice_get w.seats m ≡ Some seat → reached_seat s call seat ≡ r → P seat.records → Backs w → Backs (behind s w m call seat r)
  back-behind w m call seat finds_down at e p back = back
  back-behind w m call seat (stops kept x) at e p back = back-set w.said w.seats m seat (stopped_seat seat kept x) at refl (more-stopped seat kept x) back
  back-behind w m call seat (answers before x) at e p back =
      let was = answered-in seat call before x e in
      back-add w.said (slice_set w.seats m (record seat { records = appended seat.records x })) m (record seat { records = appended seat.records x }) (stated s.rules before call)
      (set-get w.seats m seat (record seat { records = appended seat.records x }) at)
      (λ st h. subst (λ (y : Option Record). B (appended seat.records y) st) was.1 (tells seat.records call st p (subst (λ (n : Member). Has (stated s.rules n call) st) (sym was.0) h)))
      (back-set w.said w.seats m seat (record seat { records = appended seat.records x }) at refl (more-appended seat.records x) back)

  abbrev All : World → Type 0
  All w = Each (λ (seat : Seat). P seat.records) w.seats

  back-called_seat : (w : World) (m : ℕ) (call : Call) (seat : Option Seat) → slice_get w.seats m ≡ seat → All w → Backs w → Backs (called_seat s w m call seat)
  back-called_seat w m call None at all back = back
  back-called_seat w m call (Some seat) at all back = back-behind w m call seat (reached_seat s call seat) at refl (each_at (λ (y : Seat). P y.records) w.seats m seat all at) back

  back-called : (w : World) (m : ℕ) (call : Call) → All w → Backs w → Backs (called_in s w m call)
  unfolding called_over
  back-called w m call all back = back-called_seat w m call (slice_get w.seats m) refl all back

  kept-all : (w : World) (m : ℕ) (call : Call) → All w → All (called_in s w m call)
  kept-all w m call all = kept-called s (λ _. Unit {0}) P (λ records call x g. step records call x) w m call tt all

  abbrev Both : World → Type 0
  Both w = All w × Backs w

  set-records : (seat new : Seat) (st : Statement) → new.records ≡ seat.records → B seat.records st → B new.records st
  set-records seat new st same b = subst (λ (records : List Record). B records st) (sym same) b

  both-keeps : Keeps s (λ _ _. Unit {0}) Both
  both-keeps = record {
    calls = λ w m call _ q. (kept-all w m call q.0, back-called w m call q.0 q.1);
    lies = λ w m st faulty _ q. (q.0, back-faulty w m st faulty q.1);
    seats = λ w m seat new at honest same q. (
      set-kept s (λ _. Unit {0}) P (λ records call x g. step records call x) w m seat new at same q.0,
      back-set w.said w.seats m seat new at honest (λ st b. set-records seat new st same b) q.1,
    );
    enters = λ w e _ q. q;
    rises = λ w q. q;
    makes = λ w l t _ q. q;
    forms = λ w t ms _ _ q. q;
  }

  back-run : (events : List Event) (w : World) → All w → Backs w → Both (run s events w)
  back-run events w all back = step-run s (λ _ _. Unit {0}) Both both-keeps events w (any-given s events w) (all, back)

  pub backed : P [] → (events : List Event) (m : ℕ) (seat : Seat) → slice_get (world_after s events).seats m ≡ Some seat → seat.honest ≡ true → (st : Statement) → HasSaid (world_after s events) m st → B seat.records st
  unfolding world_after new_world
  backed none events m seat at honest st h =
      let both = back-run events (new_world s) (new-seats s (λ _. Unit {0}) P (λ records call x g. step records call x) s.honest none) (λ x no. absurd no) in
      both.1 (record { member = m; statement = st; seal = h.0 }) h.1 seat at honest
