-- What a member has built it has built for good, and it has built each checkpoint that it stated.
use Rattle.std.proofs.Common.{inl, inr, refl, sym, subst, ap, ◌∙◌, append-nil}
use Rattle.std.specs.Prelude.{◌≡◌, ℕ, zero, suc, Bool, true, false, cond, not, ◌==◌, List, [], ◌∷◌, ◌++◌, map, drop, find, length, slice_get, Option, Some, None, is_some, Result, Ok, Err}
use Rattle.std.specs.List.{list_all}
use Rattle.wire_bcs.specs.declared.fault.WireFault.{WireFault}
use Rattle.digest_core.specs.declared.Digest.{Digest}
use Rattle.chain_types.specs.Equal.{digest_eq}
use Rattle.chain_types.specs.Digests.{transaction_digest}
use Rattle.chain_types.specs.declared.transactions.Transaction.{Transaction}
use Rattle.chain_types.specs.declared.transactions.SignedTx.{SignedTx}
use Rattle.chain_messages.specs.declared.messages.Statement.{Statement}
use Rattle.chain_messages.specs.declared.messages.Statement.TheVariants as statement
use Rattle.checkpoint_core.specs.declared.checkpoints.Checkpoint.{Checkpoint}
use Rattle.journal_core.specs.declared.records.Record.{Record}
use Rattle.journal_core.specs.declared.records.Record.TheVariants as record_as
use Rattle.protocol_spec.specs.declared.answers.Held.{Held}
use Rattle.protocol_spec.specs.declared.refusals.VoteRefusal.{VoteRefusal}
use Rattle.protocol_spec.specs.declared.refusals.VoteRefusal.TheVariants as no_vote
use Rattle.protocol_spec.specs.declared.refusals.SeeRefusal.{SeeRefusal}
use Rattle.protocol_spec.specs.declared.refusals.RunRefusal.{RunRefusal}
use Rattle.protocol_spec.specs.declared.refusals.RunRefusal.TheVariants as no_run
use Rattle.protocol_spec.specs.declared.refusals.EndRefusal.{EndRefusal}
use Rattle.protocol_spec.specs.declared.refusals.AckRefusal.{AckRefusal}
use Rattle.protocol_spec.specs.declared.refusals.AckRefusal.TheVariants as no_ack
use Rattle.schedule_text.specs.declared.words.Event.{Event}
use Rattle.protocol_spec.specs.Chain.Words.{Has, IsFront, first_some, refused_or, unless_refused, where_true}
use Rattle.protocol_spec.specs.Chain.Certificates.{Rules, read_signed}
use Rattle.protocol_spec.proofs.ListLemmas.{and-first, and-second, has_mapped, find_front, front_whole}
use Rattle.protocol_spec.specs.Member.Versions.{Execution, execution_of}
use Rattle.protocol_spec.specs.Member.Votes.{Cast, vote_origins}
use Rattle.protocol_spec.specs.Member.Admission.{Admitted}
use Rattle.protocol_spec.specs.Member.Sequence.{Cut, What, takes, commits, counts, ignores, held_as, saw, what_of}
use Rattle.protocol_spec.specs.Member.Rounds.{rounds}
use Rattle.protocol_spec.specs.Member.Checkpoints.{chained, checkpoint_behind, held_of, is_done, item_of, names_same_origins}
use Rattle.protocol_spec.specs.Member.Member.{Member, after, ballot, books, built, held_with, state, vote_for, with_rounds}
use Rattle.protocol_spec.specs.Member.Calls.{Call, votes, holds, sees, runs, closes, ends, turns, acks, Voted, acknowledged, ack_answer, due, end_answer, end_cases, full, halted, new_vote, new_vote_cases, newly_built, ran_as, ran_item, ran_record, run_answer, run_record, see_after, see_answer, see_cases, see_fork, see_record, seen_as, unsealed_of, vote_again, vote_answer, vote_read, vote_stopped, voted_as}
use Rattle.world_spec.specs.Setting.{Setting}
use Rattle.world_spec.specs.World.{Seat, answered_statement, appended, built_statements, checkpoint_statement, ran_statements, stated, voted_statement}
use Rattle.world_spec.specs.Run.{world_after}
use Rattle.safety_law.proofs.Apart.{state-push}
use Rattle.safety_law.proofs.Backed.{backed}
use Rattle.safety_law.proofs.Prefixes.{earlier-saw}
use Rattle.headline_law.proofs.Along.{chained-more}
use Rattle.headline_law.proofs.Standing.{front-has}
use Rattle.world_spec.specs.Assumptions.{HasSaid}

-- ---- more held, executed and cut

-- what is found in the first is found in the second
abbrev FindsMore : {A : Type 0} → (Digest → A → Bool) → List A → List A → Type 0
FindsMore {A} same xs ys = (tx : Digest) (x : A) → find (same tx) xs ≡ Some x → find (same tx) ys ≡ Some x

abbrev same_held : Digest → Held → Bool
same_held tx h = digest_eq h.digest tx

abbrev same_execution : Digest → Execution → Bool
same_execution tx x = digest_eq x.digest tx

finds-same : {A : Type 0} (same : Digest → A → Bool) (xs : List A) → FindsMore same xs xs
finds-same same xs tx x e = e

finds-push : {A : Type 0} (same : Digest → A → Bool) (xs ys : List A) → FindsMore same xs (xs ++ ys)
finds-push same xs ys tx x e = find_front (same tx) xs ys x e

module _ (epoch : ℕ) (held held' : List Held) (executed executed' : List Execution) (more_held : FindsMore same_held held held') (more_executed : FindsMore same_execution executed executed') where
  -- the execution that a done transaction has
  done-execution : (a : Admitted) → is_done held executed a ≡ true → (x : Execution) × (execution_of executed a.digest ≡ Some x)
  done-execution a done = go (execution_of executed a.digest) refl (and-first (is_some (execution_of executed a.digest)) (names_same_origins (held_of held a.digest) a) done)
    where
      go : (o : Option Execution) → execution_of executed a.digest ≡ o → is_some o ≡ true → (x : Execution) × (execution_of executed a.digest ≡ Some x)
      go None e is = absurd (cc)
      go (Some x) e is = (x, e)

  done-held : (a : Admitted) → is_done held executed a ≡ true → (h : Held) × (held_of held a.digest ≡ Some h)
  done-held a done = go (held_of held a.digest) refl (and-second (is_some (execution_of executed a.digest)) (names_same_origins (held_of held a.digest) a) done)
    where
      go : (o : Option Held) → held_of held a.digest ≡ o → names_same_origins o a ≡ true → (h : Held) × (held_of held a.digest ≡ Some h)
      go None e is = absurd (cc)
      go (Some h) e is = (h, e)

  -- it has the same there
  same-execution : (a : Admitted) → is_done held executed a ≡ true → execution_of executed' a.digest ≡ execution_of executed a.digest
  same-execution a done = let x = done-execution a done in more_executed a.digest x.0 x.1 ∙ sym x.1

  same-held : (a : Admitted) → is_done held executed a ≡ true → held_of held' a.digest ≡ held_of held a.digest
  same-held a done = let h = done-held a done in more_held a.digest h.0 h.1 ∙ sym h.1

  still-done : (a : Admitted) → is_done held executed a ≡ true → is_done held' executed' a ≡ true
  still-done a done = rw (same-execution a done, same-held a done) done

  all-done : (txs : List Admitted) → list_all (is_done held executed) txs ≡ true → (list_all (is_done held' executed') txs ≡ true) × (map (item_of executed') txs ≡ map (item_of executed) txs)
  all-done [] done = (refl, refl)
  all-done (a ∷ txs) done =
      let one = and-first (is_done held executed a) (list_all (is_done held executed) txs) done in
      let rest = all-done txs (and-second (is_done held executed a) (list_all (is_done held executed) txs) done) in
      (rw (still-done a one) rest.0, rw (same-execution a one, rest.1) refl)

  same-behind : (before : List Checkpoint) (c : Cut) → list_all (is_done held executed) c.txs ≡ true → checkpoint_behind epoch executed' before c ≡ checkpoint_behind epoch executed before c
  unfolding checkpoint_behind
  same-behind before c done = rw (all-done c.txs done).1 refl

  -- the checkpoints of more cuts begin with those of the first
  chained-front : (cuts more : List Cut) (before : List Checkpoint) → IsFront (chained epoch held executed before cuts) (chained epoch held' executed' before (cuts ++ more))
  chained-front [] more before = chained-more epoch held' executed' more before
  chained-front (c ∷ cs) more before = go (list_all (is_done held executed) c.txs) refl (chained-front cs more (before ++ checkpoint_behind epoch executed before c ∷ []))
    where
      next : List Checkpoint
      next = before ++ checkpoint_behind epoch executed before c ∷ []

      later : list_all (is_done held executed) c.txs ≡ true → chained epoch held' executed' before (c ∷ cs ++ more) ≡ chained epoch held' executed' next (cs ++ more)
      later done = rw ((all-done c.txs done).0, same-behind before c done) refl

      go : (b : Bool) → list_all (is_done held executed) c.txs ≡ b → IsFront (chained epoch held executed next cs) (chained epoch held' executed' next (cs ++ more))
          → IsFront (cond b (chained epoch held executed next cs) before) (chained epoch held' executed' before (c ∷ cs ++ more))
      go true done front = subst (IsFront (chained epoch held executed next cs)) (sym (later done)) front
      go false done front = chained-more epoch held' executed' (c ∷ cs ++ more) before

-- ---- one record

finds-taken : (held : List Held) (what : What) → FindsMore same_held held (held_with held what)
finds-taken held (takes h) = go (is_some (held_of held h.digest))
  where
    go : (b : Bool) → FindsMore same_held held (cond b held (held ++ h ∷ []))
    go true = finds-same same_held held
    go false = finds-push same_held held (h ∷ [])
finds-taken held commits = finds-same same_held held
finds-taken held (counts m) = finds-same same_held held
finds-taken held (ignores cause) = finds-same same_held held

module _ (r : Rules) (m : Member) where
  front-cuts : (held : List Held) (executed : List Execution) → FindsMore same_held m.held held → FindsMore same_execution m.executed executed → (cuts : List Cut) → IsFront m.sequence.cuts cuts
      → IsFront (chained m.epoch m.held m.executed m.past m.sequence.cuts) (chained m.epoch held executed m.past cuts)
  front-cuts held executed more_held more_executed cuts (more, e) =
      subst (λ (cs : List Cut). IsFront (chained m.epoch m.held m.executed m.past m.sequence.cuts) (chained m.epoch held executed m.past cs)) (sym e)
      (chained-front m.epoch m.held held m.executed executed more_held more_executed m.sequence.cuts more m.past)

  -- what a member has built is a prefix of what it has built after one more record
  pub built-after : (x : Record) → IsFront (built m) (built (after r m x))
  unfolding built after
  built-after (record_as.Vote tx origins) = front_whole (built m)
  built-after (record_as.Hold c) = front-cuts (m.held ++ held_as c ∷ []) m.executed (finds-push same_held m.held (held_as c ∷ [])) (finds-same same_execution m.executed) m.sequence.cuts (front_whole m.sequence.cuts)
  built-after (record_as.See bytes) = front-cuts (held_with m.held (what_of r m.epoch m.sequence bytes)) m.executed (finds-taken m.held (what_of r m.epoch m.sequence bytes)) (finds-same same_execution m.executed) (saw r m.opening m.epoch m.sequence bytes).cuts (earlier-saw r m.opening m.epoch m.sequence bytes).cuts
  built-after record_as.Close = front_whole (built m)
  built-after (record_as.Ran txs) = front-cuts m.held (m.executed ++ rounds (books m) m.executed) (finds-same same_held m.held) (finds-push same_execution m.executed (rounds (books m) m.executed)) m.sequence.cuts (front_whole m.sequence.cuts)
  built-after record_as.Turn = front_whole (built m)
  built-after (record_as.Ran2 items) = front-cuts m.held (m.executed ++ rounds (books m) m.executed) (finds-same same_held m.held) (finds-push same_execution m.executed (rounds (books m) m.executed)) m.sequence.cuts (front_whole m.sequence.cuts)

-- ---- each stated checkpoint is built

drop-has : {A : Type 0} (n : ℕ) (xs : List A) (x : A) → Has (drop n xs) x → Has xs x
drop-has zero xs x h = h
drop-has (suc n) [] x h = h
drop-has (suc n) (y ∷ xs) x h = inr (drop-has n xs x h)

-- the kind of a statement
abbrev is_of_checkpoint : Statement → Bool
is_of_checkpoint (statement.Vote epoch tx origins) = false
is_of_checkpoint (statement.End epoch) = false
is_of_checkpoint (statement.Checkpoint epoch number digest) = true
is_of_checkpoint (statement.Ack epoch tx effects) = false

-- a checkpoint that was built under this statement
abbrev pub IsStatedOf : Member → Statement → Type 0
IsStatedOf m st = (c : Checkpoint) × Has (built m) c × (checkpoint_statement c ≡ st)

-- of a statement of a checkpoint, there is one
abbrev HasBuilt : Member → Statement → Type 0
HasBuilt m st = is_of_checkpoint st ≡ true → IsStatedOf m st

still-built : (m n : Member) (st : Statement) → IsFront (built m) (built n) → HasBuilt m st → HasBuilt n st
still-built m n st front has is = go (has is)
  where
    go : IsStatedOf m st → IsStatedOf n st
    go (c, h, e) = (c, front-has (built m) (built n) c front h, e)

module _ (st : Statement) (m : Member) where
  abbrev Never : Type 0
  Never = HasBuilt m st

  other-voted : (v : Voted) → is_of_checkpoint v.statement ≡ false → Has (v.statement ∷ []) st → Never
  other-voted v k (inl e) is = absurd (clash (sym is ∙ ap is_of_checkpoint (sym e) ∙ k))
    where
      clash : true ≡ false → ⊥
      clash h = absurd (cc)
  other-voted v k (inr h) is = absurd h

  other-refused : (refusal : Option VoteRefusal) (rest : Result Voted VoteRefusal) → (Has (voted_statement rest) st → Never) → Has (voted_statement (refused_or refusal rest)) st → Never
  other-refused None rest is h = is h
  other-refused (Some refusal) rest is h = absurd h

  other-new : (p : Member) (t : Transaction) (unsealed : Option VoteRefusal) → Has (voted_statement (new_vote p t unsealed)) st → Never
  other-new p t unsealed = go (first_some (new_vote_cases p t unsealed))
    where
      go : (refusal : Option VoteRefusal) → Has (voted_statement (unless_refused refusal (voted_as p t (vote_origins (ballot p) t) true))) st → Never
      go None h = other-voted (voted_as p t (vote_origins (ballot p) t) true) refl h
      go (Some refusal) h = absurd h

  other-again : (p : Member) (t : Transaction) (unsealed : Option VoteRefusal) (v : Option Cast) → Has (voted_statement (vote_again p t unsealed v)) st → Never
  other-again p t unsealed None h = other-new p t unsealed h
  other-again p t unsealed (Some v) h = other-voted (voted_as p t v.origins false) refl h

  other-read : (r : Rules) (p : Member) (read : Result SignedTx WireFault) → Has (voted_statement (vote_read r p read)) st → Never
  other-read r p (Err fault) h = absurd h
  other-read r p (Ok x) h =
      other-refused (where_true (not (x.tx.epoch == p.epoch)) (no_vote.WrongEpoch x.tx.epoch p.epoch)) (vote_again p x.tx (unsealed_of r x) (vote_for p (transaction_digest x.tx)))
      (other-again p x.tx (unsealed_of r x) (vote_for p (transaction_digest x.tx))) h

  other-vote : (r : Rules) (p : Member) (bytes : List ℕ) → Has (voted_statement (vote_answer r p bytes)) st → Never
  unfolding vote_answer
  other-vote r p bytes h = other-refused (vote_stopped p) (vote_read r p (read_signed bytes)) (other-read r p (read_signed bytes)) h

  other-answered : (k : Statement) → is_of_checkpoint k ≡ false → Has (k ∷ []) st → Never
  other-answered k of (inl e) is = absurd (clash (sym is ∙ ap is_of_checkpoint (sym e) ∙ of))
    where
      clash : true ≡ false → ⊥
      clash h = absurd (cc)
  other-answered k of (inr h) is = absurd h

  other-end : (epoch : ℕ) (refusal : Option EndRefusal) → Has (answered_statement (unless_refused refusal (statement.End epoch))) st → Never
  other-end epoch None h = other-answered (statement.End epoch) refl h
  other-end epoch (Some refusal) h = absurd h

  other-ack : (p : Member) (tx : Digest) (refusal : Option AckRefusal) (x : Option Execution) → Has (answered_statement (refused_or refusal (acknowledged p tx x))) st → Never
  other-ack p tx (Some refusal) x h = absurd h
  other-ack p tx None None h = absurd h
  other-ack p tx None (Some x) h = other-answered (statement.Ack p.epoch tx _) refl h

  -- what was newly built is built
  new-built : (old : Member) → Has (map checkpoint_statement (newly_built old m)) st → Never
  new-built old h is = go (has_mapped checkpoint_statement (newly_built old m) st h)
    where
      go : (c : Checkpoint) × Has (newly_built old m) c × (checkpoint_statement c ≡ st) → IsStatedOf m st
      go (c, k, e) = (c, drop-has (length (built old)) (built m) c k, e)

module _ (s : Setting) (records : List Record) (st : Statement) where
  abbrev here : Member
  here = state s.rules s.opening records

  abbrev behind : Option Record → Member
  behind x = state s.rules s.opening (appended records x)

  sees-builds : (number : ℕ) (bytes : List ℕ) → Has (built_statements (see_answer s.rules here number bytes)) st → HasBuilt (behind (see_record here number bytes (first_some (see_cases here number)))) st
  unfolding see_answer
  sees-builds number bytes = go (first_some (see_cases here number))
    where
      next : Member
      next = after s.rules here (record_as.See bytes)

      seen : (fork : Option SeeRefusal) → Has (built_statements (unless_refused fork (seen_as s.rules here next bytes))) st → HasBuilt next st
      seen None h = new-built st next here h
      seen (Some refusal) h = absurd h

      go : (refusal : Option SeeRefusal) → Has (built_statements (refused_or refusal (see_after s.rules here next bytes))) st → HasBuilt (behind (see_record here number bytes refusal)) st
      go (Some refusal) h = absurd h
      go None h = subst (λ (p : Member). HasBuilt p st) (sym (state-push s.rules s.opening records (record_as.See bytes))) (seen (see_fork next) h)

  abbrev ran_next : List Execution → Member
  ran_next xs = record here { executed = here.executed ++ xs }

  none-ran : ran_next [] ≡ here
  none-ran = ap (λ (xs : List Execution). record here { executed = xs }) (append-nil here.executed)

  some-ran : (x : Execution) (xs : List Execution) → rounds (books here) here.executed ≡ x ∷ xs → built (behind (Some (record_as.Ran2 (map ran_item (x ∷ xs))))) ≡ built (ran_next (x ∷ xs))
  unfolding built after
  some-ran x xs e = ap built (state-push s.rules s.opening records (record_as.Ran2 (map ran_item (x ∷ xs)))) ∙ ap (λ (ys : List Execution). built (ran_next ys)) e

  runs-builds : Has (ran_statements (run_answer s.rules here)) st → HasBuilt (behind (run_record here (run_answer s.rules here))) st
  unfolding run_answer
  runs-builds = go (first_some (halted no_run.Halted here ∷ full no_run.Full here ∷ []))
    where
      ran : (xs : List Execution) → rounds (books here) here.executed ≡ xs → Has (map checkpoint_statement (newly_built here (ran_next xs))) st → HasBuilt (behind (ran_record (map ran_item xs))) st
      ran [] e h = subst (λ (p : Member). HasBuilt p st) none-ran (new-built st (ran_next []) here h)
      ran (x ∷ xs) e h = λ is. go (new-built st (ran_next (x ∷ xs)) here h is)
        where
          go : IsStatedOf (ran_next (x ∷ xs)) st → IsStatedOf (behind (Some (record_as.Ran2 (map ran_item (x ∷ xs))))) st
          go (c, k, q) = (c, subst (λ (cs : List Checkpoint). Has cs c) (sym (some-ran x xs e)) k, q)

      go : (refusal : Option RunRefusal) → Has (ran_statements (unless_refused refusal (ran_as here (rounds (books here) here.executed) (with_rounds here)))) st
          → HasBuilt (behind (run_record here (unless_refused refusal (ran_as here (rounds (books here) here.executed) (with_rounds here))))) st
      go (Some refusal) h = absurd h
      go None h = ran (rounds (books here) here.executed) refl h

  call-builds : (call : Call) → Has (stated s.rules here call) st → HasBuilt (behind (due s.rules here call)) st
  unfolding stated due end_answer ack_answer
  call-builds (votes bytes) h = other-vote st (behind (due s.rules here (votes bytes))) s.rules here bytes h
  call-builds (holds bytes) h = absurd h
  call-builds (sees number bytes) h = sees-builds number bytes h
  call-builds runs h = runs-builds h
  call-builds closes h = absurd h
  call-builds ends h = other-end st here here.epoch (first_some (end_cases here)) h
  call-builds turns h = absurd h
  call-builds (acks tx) h = other-ack st here here tx (halted no_ack.Halted here) (execution_of here.executed tx) h

-- a checkpoint that an honest member stated it has built, under that statement
pub stated-built : (s : Setting) (events : List Event) (m : ℕ) (seat : Seat) → slice_get (world_after s events).seats m ≡ Some seat → seat.honest ≡ true
    → (epoch number : ℕ) (digest : Digest) → HasSaid (world_after s events) m (statement.Checkpoint epoch number digest) → IsStatedOf (state s.rules s.opening seat.records) (statement.Checkpoint epoch number digest)
stated-built s events m seat at honest epoch number digest h =
    backed s (λ records. Unit {0}) (λ (records : List Record) (st : Statement). HasBuilt (state s.rules s.opening records) st) (λ records call x d p. tt)
    (λ records x st has. subst (λ (p : Member). HasBuilt p st) (sym (state-push s.rules s.opening records x)) (still-built (state s.rules s.opening records) (after s.rules (state s.rules s.opening records) x) st (built-after s.rules (state s.rules s.opening records) x) has))
    (λ records call st p h. call-builds s records st call h)
    tt events m seat at honest (statement.Checkpoint epoch number digest) h refl
