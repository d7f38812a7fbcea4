-- What a member answers that holds no two certificates that consume one version: it is not halted, and it meets a fork
-- only if the call leaves two such certificates with it.
use Rattle.std.proofs.Common.{inl, inr, refl, sym, subst}
use Rattle.std.specs.Prelude.{◌≡◌, ◌⊎◌, ℕ, Bool, true, false, cond, not, ◌==◌, nat_le, List, [], ◌∷◌, ◌++◌, map, Option, Some, None, option_map, is_some, Result, Ok, Err}
use Rattle.wire_bcs.specs.declared.fault.WireFault.{WireFault}
use Rattle.digest_core.specs.declared.Digest.{Digest}
use Rattle.chain_types.specs.declared.transactions.SignedTx.{SignedTx}
use Rattle.chain_types.specs.declared.refusals.DecideRefusal.{DecideRefusal}
use Rattle.chain_types.specs.declared.refusals.DecideRefusal.TheVariants as decided
use Rattle.chain_types.specs.declared.refusals.CertRefusal.{CertRefusal}
use Rattle.chain_types.specs.declared.refusals.CertRefusal.TheVariants as bad_cert
use Rattle.chain_types.specs.Digests.{transaction_digest}
use Rattle.chain_messages.specs.declared.messages.Statement.{Statement}
use Rattle.chain_messages.specs.declared.messages.Statement.TheVariants as statement
use Rattle.chain_messages.specs.declared.messages.Certificate.{Certificate}
use Rattle.effects_core.specs.declared.effects.Status.{Status}
use Rattle.effects_core.specs.declared.effects.Status.TheVariants as status
use Rattle.checkpoint_core.specs.declared.checkpoints.Checkpoint.{Checkpoint}
use Rattle.journal_core.specs.declared.records.Record.TheVariants as record_as
use Rattle.protocol_spec.specs.declared.answers.Ignore.{Ignore}
use Rattle.protocol_spec.specs.declared.answers.Ignore.TheVariants as ignore
use Rattle.protocol_spec.specs.declared.answers.Left.{Left}
use Rattle.protocol_spec.specs.declared.answers.Ran.{Ran}
use Rattle.protocol_spec.specs.declared.answers.SeenWhat.{SeenWhat}
use Rattle.protocol_spec.specs.declared.answers.SeenWhat.TheVariants as seen_as
use Rattle.protocol_spec.specs.declared.refusals.VoteRefusal.{VoteRefusal}
use Rattle.protocol_spec.specs.declared.refusals.VoteRefusal.TheVariants as no_vote
use Rattle.protocol_spec.specs.declared.refusals.HoldRefusal.{HoldRefusal}
use Rattle.protocol_spec.specs.declared.refusals.HoldRefusal.TheVariants as no_hold
use Rattle.protocol_spec.specs.declared.refusals.SeeRefusal.{SeeRefusal}
use Rattle.protocol_spec.specs.declared.refusals.SeeRefusal.TheVariants as no_see
use Rattle.protocol_spec.specs.declared.refusals.RunRefusal.{RunRefusal}
use Rattle.protocol_spec.specs.declared.refusals.RunRefusal.TheVariants as no_run
use Rattle.protocol_spec.specs.declared.refusals.CloseRefusal.TheVariants as no_close
use Rattle.protocol_spec.specs.declared.refusals.EndRefusal.{EndRefusal}
use Rattle.protocol_spec.specs.declared.refusals.EndRefusal.TheVariants as no_end
use Rattle.protocol_spec.specs.declared.refusals.TurnRefusal.{TurnRefusal}
use Rattle.protocol_spec.specs.declared.refusals.TurnRefusal.TheVariants as no_turn
use Rattle.protocol_spec.specs.declared.refusals.AckRefusal.TheVariants as no_ack
use Rattle.report_text.specs.declared.lines.Line.{Line}
use Rattle.report_text.specs.declared.lines.Line.TheVariants as line
use Rattle.protocol_spec.proofs.ListLemmas.{each_join}
use Rattle.protocol_spec.proofs.Truth.{some_same}
use Rattle.protocol_spec.specs.Chain.Words.{Each, first_of, first_some, where_true, unless_refused, refused_or}
use Rattle.protocol_spec.specs.Chain.Shape.{shape_fault}
use Rattle.protocol_spec.specs.Chain.Certificates.{accepts_sender, read_signed, read_certificate, cert_refusal}
use Rattle.protocol_spec.specs.Member.Admission.{is_known}
use Rattle.protocol_spec.specs.Member.Votes.{Cast, vote_refusal, vote_origins}
use Rattle.protocol_spec.specs.Member.Versions.{Execution, execution_of}
use Rattle.protocol_spec.specs.Member.Rounds.{rounds}
use Rattle.protocol_spec.specs.Member.Sequence.{held_as}
use Rattle.protocol_spec.specs.Member.Checkpoints.{held_of, is_done}
use Rattle.protocol_spec.specs.Member.Member.{Fork, Member, after, ballot, books, fork_of, fork_with, vote_for, with_rounds}
use Rattle.protocol_spec.specs.Member.Calls.{Voted, ack_answer, acknowledged, close_answer, decided_as, end_answer, hold_answer, hold_read, new_hold, not_done, ran_as, record_limit, reverted, run_answer, see_after, see_answer, see_cases, seen_as as seen_by, turn_answer, unsealed_of, unseen, vote_again, vote_answer, vote_read}
use Rattle.world_spec.specs.Setting.{Name, Setting}
use Rattle.world_spec.specs.World.{World}
use Rattle.world_spec.specs.Names.{tx_name}
use Rattle.world_spec.specs.Report.{ack_answered, checkpoint_line, checkpoint_lines, close_answered, effects_line, end_answered, entry_lines, hold_answered, ignored_text, left_line, run_answered, status_line, turn_answered, vote_answered, what_text}
use Rattle.safety_law.proofs.Lists.{first-says}
use Rattle.headline_law.specs.Alarms.{halts_ack, halts_close, halts_end, halts_entry, halts_send, halts_vote, is_alarm}

abbrev pub IsCalmLine : Line → Type 0
IsCalmLine l = is_alarm l ≡ false

pub calm-mapped : {A : Type 0} (f : A → Line) (xs : List A) → ((x : A) → IsCalmLine (f x)) → Each IsCalmLine (map f xs)
calm-mapped f [] each = tt
calm-mapped f (x ∷ xs) each = (each x, calm-mapped f xs each)

module _ (s : Setting) (w : World) where
  -- ---- vote

  abbrev VoteIsCalm : Result Voted VoteRefusal → Type 0
  VoteIsCalm a = halts_vote (vote_answered s w a) ≡ false

  decided-calm : (x : DecideRefusal) → VoteIsCalm (Err (decided_as x))
  decided-calm (decided.Absent key) = refl
  decided-calm (decided.Consumed key by) = refl
  decided-calm (decided.WrongDigest key) = refl
  decided-calm (decided.WrongOwner key) = refl
  decided-calm (decided.WrongKind key) = refl
  decided-calm (decided.PoorGas had want) = refl
  decided-calm (decided.Locked key by) = refl
  decided-calm decided.OutOfMemory = refl

  new-vote-calm : (epoch : ℕ) (tx : Digest) (origins : List (Option Digest)) (closed : Bool) (fault : Option ℕ) (unsealed : Bool) (refusal : Option DecideRefusal)
      → VoteIsCalm (unless_refused (first_some (where_true closed no_vote.Closed ∷ option_map no_vote.Invalid fault ∷ where_true unsealed no_vote.Unsealed ∷ option_map decided_as refusal ∷ []))
      (record { statement = statement.Vote epoch tx origins; fresh = true }))
  new-vote-calm epoch tx origins true fault unsealed refusal = refl
  new-vote-calm epoch tx origins false (Some n) unsealed refusal = refl
  new-vote-calm epoch tx origins false None true refusal = refl
  new-vote-calm epoch tx origins false None false (Some x) = decided-calm x
  new-vote-calm epoch tx origins false None false None = refl

  pub vote-calm : (m : Member) (bytes : List ℕ) → fork_of m ≡ None → VoteIsCalm (vote_answer s.rules m bytes)
  unfolding vote_answer
  vote-calm m bytes none = go (fork_of m) none (nat_le record_limit m.records) (read_signed bytes)
    where
      voted : (x : SignedTx) (same : Bool) (again : Option Cast)
          → VoteIsCalm (refused_or (where_true (not same) (no_vote.WrongEpoch x.tx.epoch m.epoch)) (vote_again m x.tx (unsealed_of s.rules x) again))
      voted x false again = refl
      voted x true (Some v) = refl
      voted x true None = new-vote-calm m.epoch (transaction_digest x.tx) (vote_origins (ballot m) x.tx) m.closed (shape_fault x.tx) (not (accepts_sender s.rules x.tx x.seal)) (vote_refusal (ballot m) x.tx (transaction_digest x.tx))

      go : (f : Option Fork) → f ≡ None → (over : Bool) (read : Result SignedTx WireFault)
          → VoteIsCalm (refused_or (first_some (option_map (λ (f : Fork). no_vote.Halted f.first f.second) f ∷ where_true over no_vote.Full ∷ [])) (vote_read s.rules m read))
      go (Some f) e over read = absurd (cc)
      go None e true read = refl
      go None e false (Err fault) = refl
      go None e false (Ok x) = voted x (x.tx.epoch == m.epoch) (vote_for m (transaction_digest x.tx))

  -- ---- hold

  abbrev pub HoldIsCalm : Result Bool HoldRefusal → Type 0
  HoldIsCalm a = halts_send (hold_answered s w a) ≡ false

  -- the certificate is valid, and consumes a version that a held one consumes
  pub record MeetsFork (m : Member) (bytes : List ℕ) : Type 0 where
    pub cert : Certificate
    pub read : read_certificate bytes ≡ Ok cert
    pub fork : Fork
    pub meets : fork_with m.held (held_as cert) ≡ Some fork
    pub answer : hold_answer s.rules m bytes ≡ Err (no_hold.Fork fork.key fork.first fork.second)

  bad-calm : (x : CertRefusal) → HoldIsCalm (Err (no_hold.Cert x))
  bad-calm (bad_cert.Shape n) = refl
  bad-calm bad_cert.Order = refl
  bad-calm (bad_cert.ShortStake weight total) = refl
  bad-calm (bad_cert.BadSeal m) = refl
  bad-calm bad_cert.OutOfMemory = refl

  pub hold-calm : (m : Member) (bytes : List ℕ) → fork_of m ≡ None → HoldIsCalm (hold_answer s.rules m bytes) ⊎ MeetsFork m bytes
  unfolding hold_answer
  hold-calm m bytes none = go (fork_of m) none (nat_le record_limit m.records) (read_certificate bytes) refl refl
    where
      newly : (c : Certificate) → read_certificate bytes ≡ Ok c → (closed : Bool) (bad : Option CertRefusal) (fork : Option Fork) → fork_with m.held (held_as c) ≡ fork
          → hold_answer s.rules m bytes ≡ unless_refused (first_some (where_true closed no_hold.Closed ∷ option_map no_hold.Cert bad ∷ option_map (λ (f : Fork). no_hold.Fork f.key f.first f.second) fork ∷ [])) true
          → HoldIsCalm (unless_refused (first_some (where_true closed no_hold.Closed ∷ option_map no_hold.Cert bad ∷ option_map (λ (f : Fork). no_hold.Fork f.key f.first f.second) fork ∷ [])) true) ⊎ MeetsFork m bytes
      newly c r true bad fork f q = inl refl
      newly c r false (Some x) fork f q = inl (bad-calm x)
      newly c r false None (Some fork) f q = inr (record { cert = c; read = r; fork = fork; meets = f; answer = q })
      newly c r false None None f q = inl refl

      held : (c : Certificate) → read_certificate bytes ≡ Ok c → (same there : Bool)
          → hold_answer s.rules m bytes ≡ refused_or (where_true (not same) (no_hold.WrongEpoch c.tx.epoch m.epoch)) (cond there (Ok false) (new_hold s.rules m c))
          → HoldIsCalm (refused_or (where_true (not same) (no_hold.WrongEpoch c.tx.epoch m.epoch)) (cond there (Ok false) (new_hold s.rules m c))) ⊎ MeetsFork m bytes
      held c r false there q = inl refl
      held c r true true q = inl refl
      held c r true false q = newly c r m.closed (cert_refusal s.rules c) (fork_with m.held (held_as c)) refl q

      go : (f : Option Fork) → f ≡ None → (over : Bool) (read : Result Certificate WireFault) → read_certificate bytes ≡ read
          → hold_answer s.rules m bytes ≡ refused_or (first_some (option_map (λ (f : Fork). no_hold.Halted f.first f.second) f ∷ where_true over no_hold.Full ∷ [])) (hold_read s.rules m read)
          → HoldIsCalm (refused_or (first_some (option_map (λ (f : Fork). no_hold.Halted f.first f.second) f ∷ where_true over no_hold.Full ∷ [])) (hold_read s.rules m read)) ⊎ MeetsFork m bytes
      go (Some f) e over read r q = absurd (cc)
      go None e true read r q = inl refl
      go None e false (Err fault) r q = inl refl
      go None e false (Ok c) r q = held c r (c.tx.epoch == m.epoch) (is_some (held_of m.held (transaction_digest c.tx))) q

  -- ---- see

  pub checkpoints-calm : (cs : List Checkpoint) → Each IsCalmLine (checkpoint_lines w cs)
  checkpoints-calm cs = calm-mapped (checkpoint_line w) cs (λ c. refl)

  -- the entry is taken, and after it the member holds two certificates that consume one version
  pub record SeesFork (m : Member) (number : ℕ) (bytes : List ℕ) : Type 0 where
    pub taken : first_some (see_cases m number) ≡ None
    pub fork : Fork
    pub meets : fork_of (after s.rules m (record_as.See bytes)) ≡ Some fork

  ignored-calm : (x : Ignore) → halts_entry (ignored_text x) ≡ false
  ignored-calm ignore.Malformed = refl
  ignored-calm ignore.Statement = refl
  ignored-calm ignore.Epoch = refl
  ignored-calm ignore.Cert = refl
  ignored-calm ignore.Seal = refl
  ignored-calm ignore.Repeat = refl

  what-calm : (what : SeenWhat) → halts_entry (what_text s w what) ≡ false
  what-calm (seen_as.Taken admitted dropped) = refl
  what-calm (seen_as.Pending tx origin) = refl
  what-calm (seen_as.Deferred tx id) = refl
  what-calm (seen_as.Commit admitted dropped) = refl
  what-calm (seen_as.Counted m weight) = refl
  what-calm (seen_as.Ended m weight) = refl
  what-calm (seen_as.Ignored cause) = ignored-calm cause

  -- what keeps the member from the entry: it is halted as said, full, past the end, or at another number
  abbrev see_causes : Member → ℕ → Option Fork → Bool → Bool → Bool → List (Option SeeRefusal)
  see_causes m number f over ended gap = option_map (λ (f : Fork). no_see.Halted f.first f.second) f ∷ where_true over no_see.Full ∷ where_true ended no_see.Over ∷ where_true gap (no_see.Gap number m.sequence.number) ∷ []

  pub see-calm : (n : ℕ) (m : Member) (number : ℕ) (bytes : List ℕ) → fork_of m ≡ None → Each IsCalmLine (entry_lines s w n number (see_answer s.rules m number bytes)).0 ⊎ SeesFork m number bytes
  unfolding see_answer
  see-calm n m number bytes none = go (fork_of m) none (nat_le record_limit m.records) m.sequence.ended (not (number == m.sequence.number)) refl
    where
      taken : (fork : Option Fork) → fork_of (after s.rules m (record_as.See bytes)) ≡ fork → first_some (see_cases m number) ≡ None
          → Each IsCalmLine (entry_lines s w n number (unless_refused (option_map (λ (f : Fork). no_see.Fork f.key f.first f.second) fork) (seen_by s.rules m (after s.rules m (record_as.See bytes)) bytes))).0 ⊎ SeesFork m number bytes
      taken (Some fork) f q = inr (record { taken = q; fork = fork; meets = f })
      taken None f q = inl (what-calm (seen_by s.rules m (after s.rules m (record_as.See bytes)) bytes).what, checkpoints-calm (seen_by s.rules m (after s.rules m (record_as.See bytes)) bytes).built)

      go : (f : Option Fork) → f ≡ None → (over ended gap : Bool) → first_some (see_cases m number) ≡ first_some (see_causes m number f over ended gap)
          → Each IsCalmLine (entry_lines s w n number (refused_or (first_some (see_causes m number f over ended gap)) (see_after s.rules m (after s.rules m (record_as.See bytes)) bytes))).0 ⊎ SeesFork m number bytes
      go (Some f) e over ended gap q = absurd (cc)
      go None e true ended gap q = inl (refl, tt)
      go None e false true gap q = inl tt
      go None e false false true q = inl tt
      go None e false false false q = taken (fork_of (after s.rules m (record_as.See bytes))) refl q

  -- ---- run

  status-calm : (tx : Name) (version gas : ℕ) (st : Status) → IsCalmLine (status_line tx version gas st)
  status-calm tx version gas status.Done = refl
  status-calm tx version gas (status.Failed command cause) = refl
  status-calm tx version gas (status.Aborted command code) = refl

  ran-calm : (n : ℕ) (ran : Ran) → ran.left ≡ [] → Each IsCalmLine (run_answered s w n (Ok ran))
  ran-calm n ran none = (
    refl,
    each_join IsCalmLine (map (effects_line w) ran.executed) (map (left_line s w) ran.left ++ checkpoint_lines w ran.built) (calm-mapped (effects_line w) ran.executed (λ e. status-calm (tx_name w e.tx) e.version e.gas e.status))
        (subst (λ (left : List Left). Each IsCalmLine (map (left_line s w) left ++ checkpoint_lines w ran.built)) (sym none) (checkpoints-calm ran.built)),
  )

  abbrev run_as : Member → Option Fork → Bool → Result Ran RunRefusal
  run_as m f over = unless_refused (first_some (option_map (λ (f : Fork). no_run.Halted f.first f.second) f ∷ where_true over no_run.Full ∷ [])) (ran_as m (rounds (books m) m.executed) (with_rounds m))

  pub run-calm : (n : ℕ) (m : Member) → fork_of m ≡ None → ((ran : Ran) → run_answer s.rules m ≡ Ok ran → ran.left ≡ []) → Each IsCalmLine (run_answered s w n (run_answer s.rules m))
  unfolding run_answer
  run-calm n m none leaves = go (fork_of m) none (nat_le record_limit m.records) refl
    where
      go : (f : Option Fork) → f ≡ None → (over : Bool) → run_answer s.rules m ≡ run_as m f over → Each IsCalmLine (run_answered s w n (run_as m f over))
      go (Some f) e over q = absurd (cc)
      go None e true q = (refl, tt)
      go None e false q = ran-calm n (ran_as m (rounds (books m) m.executed) (with_rounds m)) (leaves (ran_as m (rounds (books m) m.executed) (with_rounds m)) q)

  -- ---- close, end, turn, ack

  pub close-calm : (m : Member) → fork_of m ≡ None → halts_close (close_answered w (close_answer s.rules m)) ≡ false
  unfolding close_answer
  close-calm m none = go (fork_of m) none (nat_le record_limit m.records) m.closed
    where
      go : (f : Option Fork) → f ≡ None → (over closed : Bool)
          → halts_close (close_answered w (unless_refused (first_some (option_map (λ (f : Fork). no_close.Halted f.first f.second) f ∷ where_true over no_close.Full ∷ [])) (not closed))) ≡ false
      go (Some f) e over closed = absurd (cc)
      go None e true closed = refl
      go None e false true = refl
      go None e false false = refl

  abbrev EndIsCalm : Result Statement EndRefusal → Type 0
  EndIsCalm a = halts_end (end_answered w a) ≡ false

  waits-calm : (b : Bool) (tx : Digest) (x : EndRefusal) → where_true b (no_end.Waits tx) ≡ Some x → EndIsCalm (Err x)
  waits-calm false tx x e = absurd (cc)
  waits-calm true tx x e = subst (λ (y : EndRefusal). EndIsCalm (Err y)) (some_same (no_end.Waits tx) x e) refl

  pub end-calm : (m : Member) → fork_of m ≡ None → EndIsCalm (end_answer s.rules m)
  unfolding end_answer
  end-calm m none = go (fork_of m) none (not m.closed) (first_of (unseen m) m.held) refl
    where
      go : (f : Option Fork) → f ≡ None → (open_ : Bool) (waits : Option EndRefusal) → first_of (unseen m) m.held ≡ waits
          → EndIsCalm (unless_refused (first_some (option_map (λ (f : Fork). no_end.Halted f.first f.second) f ∷ where_true open_ no_end.NotClosed ∷ waits ∷ [])) (statement.End m.epoch))
      go (Some f) e open_ waits q = absurd (cc)
      go None e true waits q = refl
      go None e false None q = refl
      go None e false (Some x) q = let h = first-says (unseen m) m.held x q in waits-calm (not (is_known m.sequence.admission h.0.digest)) h.0.digest x h.2

  abbrev TurnIsCalm : ℕ → Member → Result (List Digest) TurnRefusal → Type 0
  TurnIsCalm n m a = Each IsCalmLine (turn_answered w n m a)

  unfinished-calm : (n : ℕ) (m : Member) (b : Bool) (tx : Digest) (x : TurnRefusal) → where_true b (no_turn.Waits tx) ≡ Some x → TurnIsCalm n m (Err x)
  unfinished-calm n m false tx x e = absurd (cc)
  unfinished-calm n m true tx x e = subst (λ (y : TurnRefusal). TurnIsCalm n m (Err y)) (some_same (no_turn.Waits tx) x e) (refl, tt)

  pub turn-calm : (n : ℕ) (m : Member) → fork_of m ≡ None → TurnIsCalm n m (turn_answer s.rules m)
  unfolding turn_answer
  turn-calm n m none = go (fork_of m) none (nat_le record_limit m.records) (not m.sequence.ended) (first_of (not_done m) m.sequence.admission.admitted) refl
    where
      go : (f : Option Fork) → f ≡ None → (over early : Bool) (waits : Option TurnRefusal) → first_of (not_done m) m.sequence.admission.admitted ≡ waits
          → TurnIsCalm n m (unless_refused (first_some (option_map (λ (f : Fork). no_turn.Halted f.first f.second) f ∷ where_true over no_turn.Full ∷ where_true early no_turn.NotEnded ∷ waits ∷ [])) (reverted m))
      go (Some f) e over early waits q = absurd (cc)
      go None e true early waits q = (refl, tt)
      go None e false true waits q = (refl, tt)
      go None e false false None q = (refl, calm-mapped (λ tx. line.Reverted (tx_name w tx)) (reverted m) (λ tx. refl))
      go None e false false (Some x) q = let a = first-says (not_done m) m.sequence.admission.admitted x q in unfinished-calm n m (not (is_done m.held m.executed a.0)) a.0.digest x a.2

  pub ack-calm : (m : Member) (tx : Digest) → fork_of m ≡ None → halts_ack (ack_answered w (ack_answer s.rules m tx)) ≡ false
  unfolding ack_answer
  ack-calm m tx none = go (fork_of m) none (execution_of m.executed tx)
    where
      go : (f : Option Fork) → f ≡ None → (x : Option Execution) → halts_ack (ack_answered w (refused_or (option_map (λ (f : Fork). no_ack.Halted f.first f.second) f) (acknowledged m tx x))) ≡ false
      go (Some f) e x = absurd (cc)
      go None e None = refl
      go None e (Some x) = refl
