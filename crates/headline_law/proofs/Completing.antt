-- What is ready before a run, or after some of its rounds, is executed by it, if nothing keeps it out of its round.
use Rattle.std.proofs.Common.{inl, inr, refl, sym, subst, ap, append_assoc, append-nil, ◌∙◌}
use Rattle.std.specs.Prelude.{◌≡◌, ◌⊎◌, ℕ, zero, suc, Bool, true, false, cond, nat_le, List, [], ◌∷◌, ◌++◌, length, Option, Some, None, option_map, Ok}
use Rattle.protocol_spec.specs.declared.answers.Held.{Held}
use Rattle.protocol_spec.specs.declared.refusals.RunRefusal.TheVariants as no_run
use Rattle.protocol_spec.proofs.ListLemmas.{push_has, has_left, has_right, has_map}
use Rattle.protocol_spec.specs.Chain.Words.{Has, first_some, unless_refused, where_true}
use Rattle.protocol_spec.specs.Chain.Certificates.{Rules}
use Rattle.protocol_spec.specs.Member.Versions.{Execution}
use Rattle.protocol_spec.specs.Member.Rounds.{Books, clashes, ready, round_add, round_among, round_of, rounds, rounds_within}
use Rattle.protocol_spec.specs.Member.Member.{Fork, Member, books, fork_of, with_rounds}
use Rattle.protocol_spec.specs.Member.Calls.{effects_of, ran_as, record_limit, run_answer}
use Rattle.safety_law.proofs.Lists.{has-split}
use Rattle.headline_law.specs.Runs.{CompletesRuns, IsKeptOut, IsKeptOutBehind, RoundsTakeReady, RunsAs}
use Rattle.headline_law.proofs.Rounds.{among-more, nothing-ready}

-- ---- one round

module _ (b : Books) (executed : List Execution) where
  pub among-append : (front back : List Held) (round : List Execution) → round_among b executed round (front ++ back) ≡ round_among b executed (round_among b executed round front) back
  among-append [] back round = refl
  among-append (k ∷ front) back round = among-append front back (round_add round (ready b executed k))

  -- what is ready is taken at its place, or kept out by those before it
  round-takes-or : (h : Held) (x : Execution) → Has b.held h → ready b executed h ≡ Some x → Has (round_of b executed) x ⊎ IsKeptOut b executed h x
  unfolding round_of
  round-takes-or h x held e = go (has-split b.held h held)
    where
      placed : (front back : List Held) → b.held ≡ front ++ h ∷ back → (c : Bool) → clashes (round_among b executed [] front) x ≡ c
          → (Has (cond c (round_among b executed [] front) (round_among b executed [] front ++ x ∷ [])) x → Has (round_among b executed [] b.held) x) → Has (round_among b executed [] b.held) x ⊎ IsKeptOut b executed h x
      placed front back split true c more = inr (record { front = front; back = back; split = split; clash = c })
      placed front back split false c more = inl (more (push_has (round_among b executed [] front) x))

      go : (front : List Held) × (back : List Held) × (b.held ≡ front ++ (h ∷ back)) → Has (round_among b executed [] b.held) x ⊎ IsKeptOut b executed h x
      go (front, back, split) =
          let round = round_among b executed [] front in
          let whole : round_among b executed [] b.held ≡ round_among b executed (round_add round (Some x)) back =
          ap (round_among b executed []) split ∙ (among-append front (h ∷ back) [] ∙ ap (λ (o : Option Execution). round_among b executed (round_add round o) back) e) in
          placed front back split (clashes round x) refl (λ k. subst (λ (r : List Execution). Has r x) (sym whole) (among-more b executed back (round_add round (Some x)) x k))

  -- if nothing is ready the round is empty
  among-empty : (hs : List Held) → ((h : Held) → Has hs h → ready b executed h ≡ None) → round_among b executed [] hs ≡ []
  among-empty [] none = refl
  among-empty (h ∷ hs) none = ap (λ (o : Option Execution). round_among b executed (round_add [] o) hs) (none h (inl refl)) ∙ among-empty hs (λ k there. none k (inr there))

  round-empty : ((h : Held) → Has b.held h → ready b executed h ≡ None) → round_of b executed ≡ []
  unfolding round_of
  round-empty none = among-empty b.held none

-- ---- rounds

-- this many more, counted up
abbrev beyond : ℕ → ℕ → ℕ
beyond zero k = k
beyond (suc n) k = suc (beyond n k)

module _ (b : Books) where
  rounds-empty : (n : ℕ) (executed : List Execution) → round_of b executed ≡ [] → rounds_within n b executed ≡ []
  rounds-empty zero executed none = refl
  rounds-empty (suc n) executed none =
      ap (λ (r : List Execution). r ++ rounds_within n b (executed ++ r)) none
      ∙ (ap (rounds_within n b) (append-nil executed) ∙ rounds-empty n executed none)

  -- this many rounds, and more after them
  rounds-append : (n k : ℕ) (executed : List Execution) → rounds_within (beyond n k) b executed ≡ rounds_within n b executed ++ rounds_within k b (executed ++ rounds_within n b executed)
  rounds-append zero k executed = ap (rounds_within k b) (sym (append-nil executed))
  rounds-append (suc n) k executed =
      let one = round_of b executed in
      let rest = rounds_within n b (executed ++ one) in
      ap (λ (r : List Execution). one ++ r) (rounds-append n k (executed ++ one))
      ∙ (ap (λ (xs : List Execution). one ++ (rest ++ rounds_within k b xs)) (append_assoc executed one rest)
      ∙ sym (append_assoc one rest (rounds_within k b (executed ++ (one ++ rest)))))

-- one of two numbers is the other and some more
more-or-less : (n limit : ℕ) → ((k : ℕ) × (limit ≡ beyond n (suc k))) ⊎ ((k : ℕ) × (n ≡ beyond limit k))
more-or-less zero zero = inr (0, refl)
more-or-less zero (suc limit) = inl (limit, refl)
more-or-less (suc n) zero = inr (suc n, refl)
more-or-less (suc n) (suc limit) = go (more-or-less n limit)
  where
    go : ((k : ℕ) × (limit ≡ beyond n (suc k))) ⊎ ((k : ℕ) × (n ≡ beyond limit k)) → ((k : ℕ) × (suc limit ≡ beyond (suc n) (suc k))) ⊎ ((k : ℕ) × (suc n ≡ beyond (suc limit) k))
    go (inl (k, e)) = inl (k, ap suc e)
    go (inr (k, e)) = inr (k, ap suc e)

-- if something is ready after this many rounds, the round after these is one of the run's
pub is-one-round : (b : Books) (executed : List Execution) (n : ℕ) (h : Held) (x : Execution) → Has b.held h → ready b (executed ++ rounds_within n b executed) h ≡ Some x
    → (more : List Execution) × (rounds b executed ≡ rounds_within n b executed ++ (round_of b (executed ++ rounds_within n b executed) ++ more))
unfolding rounds
is-one-round b executed n h x held e = go (more-or-less n (length b.held))
  where
    behind : List Execution
    behind = executed ++ rounds_within n b executed

    -- after the run's last round nothing is ready
    none : (k : ℕ) → n ≡ beyond (length b.held) k → ready b behind h ≡ None
    none k q =
        let all : List Execution = rounds_within (length b.held) b executed in
        let over : rounds_within k b (executed ++ all) ≡ [] = rounds-empty b k (executed ++ all) (round-empty b (executed ++ all) (nothing-ready b executed)) in
        let same : rounds_within n b executed ≡ all = ap (λ (l : ℕ). rounds_within l b executed) q ∙ (rounds-append b (length b.held) k executed ∙ (ap (λ (r : List Execution). all ++ r) over ∙ append-nil all)) in
        ap (λ (r : List Execution). ready b (executed ++ r) h) same ∙ nothing-ready b executed h held

    go : ((k : ℕ) × (length b.held ≡ beyond n (suc k))) ⊎ ((k : ℕ) × (n ≡ beyond (length b.held) k)) → (more : List Execution) × (rounds_within (length b.held) b executed ≡ rounds_within n b executed ++ (round_of b behind ++ more))
    go (inl (k, q)) = (rounds_within k b (behind ++ round_of b behind), ap (λ (l : ℕ). rounds_within l b executed) q ∙ rounds-append b n (suc k) executed)
    go (inr (k, q)) = absurd (let no = none k q in let yes = e in cc)

pub what-is-ready : (b : Books) (executed : List Execution) → RoundsTakeReady b executed
what-is-ready b executed n h x held e = go (round-takes-or b behind h x held e)
  where
    behind : List Execution
    behind = executed ++ rounds_within n b executed

    go : Has (round_of b behind) x ⊎ IsKeptOut b behind h x → Has (rounds b executed) x ⊎ IsKeptOut b behind h x
    go (inr out) = inr out
    go (inl there) =
        let one = is-one-round b executed n h x held e in
        inl (subst (λ (r : List Execution). Has r x) (sym one.1) (has_right (rounds_within n b executed) (round_of b behind ++ one.0) x (has_left (round_of b behind) one.0 x there)))

-- ---- the answer

module _ (r : Rules) (m : Member) where
  answer-is : fork_of m ≡ None → nat_le record_limit m.records ≡ false → run_answer r m ≡ Ok (ran_as m (rounds (books m) m.executed) (with_rounds m))
  unfolding run_answer
  answer-is none room = go (fork_of m) none (nat_le record_limit m.records) room
    where
      go : (f : Option Fork) → f ≡ None → (over : Bool) → over ≡ false
          → unless_refused (first_some (option_map (λ (f : Fork). no_run.Halted f.first f.second) f ∷ where_true over no_run.Full ∷ [])) (ran_as m (rounds (books m) m.executed) (with_rounds m)) ≡ Ok (ran_as m (rounds (books m) m.executed) (with_rounds m))
      go (Some f) e over q = absurd (cc)
      go None e true q = absurd (cc)
      go None e false q = refl

  pub runs-complete : CompletesRuns r m
  runs-complete none room n h x held e = go (what-is-ready (books m) m.executed n h x held e)
    where
      go : Has (rounds (books m) m.executed) x ⊎ IsKeptOutBehind n m h x → RunsAs r m x ⊎ IsKeptOutBehind n m h x
      go (inl there) = inl (record {
        ran = ran_as m (rounds (books m) m.executed) (with_rounds m);
        answer = answer-is none room;
        told = has_map effects_of (rounds (books m) m.executed) x there;
        stands = has_right m.executed (rounds (books m) m.executed) x there;
      })
      go (inr out) = inr out
