-- The state that a start leaves: what it names are digests, and the origins of its votes can be encoded.
use Rattle.std.proofs.Common.{refl, sym, subst, ap, append-nil, append_assoc}
use Rattle.std.specs.Prelude.{◌≡◌, ℕ, ◌==◌, Bool, true, false, not, is_none, is_ok, List, [], ◌∷◌, ◌++◌, map, Option, Some, None, Result, Ok, Err}
use Rattle.digest_core.specs.declared.Digest.{Digest}
use Rattle.chain_types.specs.Digests.{transaction_digest}
use Rattle.chain_types.specs.declared.objects.Object.{Object}
use Rattle.chain_types.specs.declared.transactions.Transaction.{Transaction}
use Rattle.chain_types.specs.Equal.{digest_eq}
use Rattle.chain_messages.specs.declared.messages.Certificate.{Certificate}
use Rattle.chain_messages.specs.declared.messages.Statement.{Statement}
use Rattle.chain_messages.specs.declared.messages.Statement.TheVariants as statement
use Rattle.journal_core.specs.declared.records.RanItem.{RanItem}
use Rattle.journal_core.specs.declared.records.Record.{Record}
use Rattle.journal_core.specs.declared.records.Record.TheVariants as record_as
use Rattle.protocol_spec.specs.declared.answers.Held.{Held}
use Rattle.protocol_spec.specs.declared.answers.Ran.{Ran}
use Rattle.protocol_spec.specs.declared.refusals.VoteRefusal.{VoteRefusal}
use Rattle.protocol_spec.specs.declared.refusals.VoteRefusal.TheVariants as no_vote
use Rattle.protocol_spec.specs.declared.refusals.RunRefusal.{RunRefusal}
use Rattle.protocol_spec.proofs.Equality.{origins_same}
use Rattle.protocol_spec.proofs.ListLemmas.{and-second, each_has, each_join, find_has}
use Rattle.protocol_spec.proofs.Truth.{map_none}
use Rattle.protocol_spec.specs.Chain.Words.{Along, first_some, refused_or, unless_refused, where_true}
use Rattle.protocol_spec.specs.Chain.Tests.{list_eq}
use Rattle.protocol_spec.specs.Chain.Shape.{shape_fault}
use Rattle.protocol_spec.specs.Chain.Certificates.{Rules}
use Rattle.protocol_spec.specs.Member.Votes.{Cast, vote_origins}
use Rattle.protocol_spec.specs.Member.Sequence.{held_as}
use Rattle.protocol_spec.specs.Member.Member.{Member, after, ballot, cast_of, state, vote_for}
use Rattle.protocol_spec.specs.Member.Calls.{Call, sees, runs, Voted, due, new_vote, new_vote_cases, ran_items, ran_record, run_answer, run_record, see_cases, see_record, vote_again, vote_on, vote_stopped, voted_as}
use Rattle.protocol_spec.specs.Member.Replay.{is_allowed, is_some_list, is_vote_for, ran_item_eq, states_origins}
use Rattle.safety_law.proofs.Apart.{none-each, state-push}
use Rattle.run_law.proofs.Members.{AreOrigins, IsDigest, IsFitMember, IsFitStatement, digest-of, fit-none, fit-step, named-origins}
use Rattle.run_law.proofs.SaidLines.{three}
use Rattle.lives_law.proofs.Along.{IsAllowedBehind, IsSound}

abbrev IsFitVote : Result Voted VoteRefusal → Type 0
IsFitVote (Ok v) = IsFitStatement v.statement
IsFitVote (Err refusal) = Unit {0}

-- ---- a vote that a start takes

module _ (m : Member) (fit : IsFitMember m) where
  new-vote : (t : Transaction) (unsealed : Option VoteRefusal) → IsFitVote (new_vote m t unsealed)
  new-vote t unsealed = go (first_some (new_vote_cases m t unsealed)) refl
    where
      go : (refusal : Option VoteRefusal) → first_some (new_vote_cases m t unsealed) ≡ refusal → IsFitVote (unless_refused refusal (voted_as m t (vote_origins (ballot m) t) true))
      go (Some refusal) e = tt
      go None e = named-origins (ballot m) t fit.executed (map_none no_vote.Invalid (shape_fault t) (none-each (new_vote_cases m t unsealed) e).1.0)

  again-vote : (t : Transaction) (unsealed : Option VoteRefusal) (v : Option Cast) → vote_for m (transaction_digest t) ≡ v → IsFitVote (vote_again m t unsealed v)
  again-vote t unsealed None e = new-vote t unsealed
  again-vote t unsealed (Some v) e = each_has (λ (w : Cast). AreOrigins w.origins) m.votes v fit.votes (find_has (λ (w : Cast). digest_eq w.digest (transaction_digest t)) m.votes v e)

  on-vote : (t : Transaction) (unsealed : Option VoteRefusal) (same : Bool)
      → IsFitVote (refused_or (where_true (not same) (no_vote.WrongEpoch t.epoch m.epoch)) (vote_again m t unsealed (vote_for m (transaction_digest t))))
  on-vote t unsealed true = again-vote t unsealed (vote_for m (transaction_digest t)) refl
  on-vote t unsealed false = tt

  any-vote : (t : Transaction) (unsealed stopped : Option VoteRefusal) → IsFitVote (refused_or stopped (vote_on m t unsealed))
  any-vote t unsealed None = on-vote t unsealed (t.epoch == m.epoch)
  any-vote t unsealed (Some refusal) = tt

named-so : (origins : List (Option Digest)) (st : Statement) → states_origins origins st ≡ true → IsFitStatement st → AreOrigins origins
named-so origins (statement.Vote epoch tx named) e fit = subst AreOrigins (origins_same named origins e) fit
named-so origins (statement.End epoch) e fit = absurd (cc)
named-so origins (statement.Checkpoint epoch number digest) e fit = absurd (cc)
named-so origins (statement.Ack epoch tx effects) e fit = absurd (cc)

vote-for : (origins : List (Option Digest)) (answer : Result Voted VoteRefusal) → is_vote_for origins answer ≡ true → IsFitVote answer → AreOrigins origins
vote-for origins (Err refusal) e fit = absurd (cc)
vote-for origins (Ok v) e fit = named-so origins v.statement (and-second v.fresh (states_origins origins v.statement) e) fit

-- ---- a record that a start takes

none-of : {A : Type 0} (o : Option A) → is_none o ≡ true → o ≡ None
none-of None e = refl
none-of (Some x) e = absurd (cc)

some-txs : (txs : List Digest) (items : List RanItem) → is_some_list txs ≡ true → list_eq digest_eq txs (map (λ (i : RanItem). i.tx) items) ≡ true → ran_record items ≡ Some (record_as.Ran2 items)
some-txs [] items some same = absurd (cc)
some-txs (t ∷ txs) [] some same = absurd (cc)
some-txs (t ∷ txs) (i ∷ items) some same = refl

some-items : (these items : List RanItem) → is_some_list these ≡ true → list_eq ran_item_eq these items ≡ true → ran_record items ≡ Some (record_as.Ran2 items)
some-items [] items some same = absurd (cc)
some-items (t ∷ these) [] some same = absurd (cc)
some-items (t ∷ these) (i ∷ items) some same = refl

module _ (r : Rules) (opening : List Object) (records : List Record) (fit : IsFitMember (state r opening records)) where
  abbrev m : Member
  m = state r opening records

  fit-vote : (t : Transaction) (origins : List (Option Digest)) → AreOrigins origins → IsFitMember (after r m (record_as.Vote t origins))
  unfolding after
  fit-vote t origins are = record { executed = fit.executed; held = fit.held; votes = each_join (λ (v : Cast). AreOrigins v.origins) m.votes (cast_of t origins ∷ []) fit.votes (are, tt) }

  fit-hold : (c : Certificate) → IsFitMember (after r m (record_as.Hold c))
  unfolding after
  fit-hold c = record { executed = fit.executed; held = each_join (λ (h : Held). IsDigest h.digest) m.held (held_as c ∷ []) fit.held (digest-of c.tx, tt); votes = fit.votes }

  fit-close : IsFitMember (after r m record_as.Close)
  unfolding after
  fit-close = record { executed = fit.executed; held = fit.held; votes = fit.votes }

  fit-turn : IsFitMember (after r m record_as.Turn)
  unfolding after
  fit-turn = record { executed = tt; held = tt; votes = tt }

  stepped : (call : Call) (x : Record) → due r m call ≡ Some x → IsFitMember (after r m x)
  stepped call x d = subst IsFitMember (state-push r opening records x) (fit-step r opening records call x tt d fit)

  see-due : (bytes : List ℕ) → first_some (see_cases m m.sequence.number) ≡ None → due r m (sees m.sequence.number bytes) ≡ Some (record_as.See bytes)
  unfolding due
  see-due bytes e = ap (see_record m m.sequence.number bytes) e

  fit-see : (bytes : List ℕ) → is_none (first_some (see_cases m m.sequence.number)) ≡ true → IsFitMember (after r m (record_as.See bytes))
  fit-see bytes e = stepped (sees m.sequence.number bytes) (record_as.See bytes) (see-due bytes (none-of (first_some (see_cases m m.sequence.number)) e))

  ran-due : (answer : Result Ran RunRefusal) → is_ok answer ≡ true → ran_record (ran_items m) ≡ Some (record_as.Ran2 (ran_items m)) → run_record m answer ≡ Some (record_as.Ran2 (ran_items m))
  ran-due (Ok ran) ok e = e
  ran-due (Err refusal) ok e = absurd (cc)

  runs-due : is_ok (run_answer r m) ≡ true → ran_record (ran_items m) ≡ Some (record_as.Ran2 (ran_items m)) → due r m runs ≡ Some (record_as.Ran2 (ran_items m))
  unfolding due
  runs-due ok e = ran-due (run_answer r m) ok e

  fit-ran : (txs : List Digest) → IsFitMember (after r m (record_as.Ran2 (ran_items m))) → IsFitMember (after r m (record_as.Ran txs))
  unfolding after
  fit-ran txs next = record { executed = next.executed; held = next.held; votes = next.votes }

  fit-ran2 : (items : List RanItem) → IsFitMember (after r m (record_as.Ran2 (ran_items m))) → IsFitMember (after r m (record_as.Ran2 items))
  unfolding after
  fit-ran2 items next = record { executed = next.executed; held = next.held; votes = next.votes }

  fit-taken : (x : Record) → is_allowed r m x ≡ true → IsFitMember (after r m x)
  unfolding is_allowed
  fit-taken (record_as.Vote t origins) e = fit-vote t origins (vote-for origins (refused_or (vote_stopped m) (vote_on m t None)) e (any-vote m fit t None (vote_stopped m)))
  fit-taken (record_as.Hold c) e = fit-hold c
  fit-taken (record_as.See bytes) e = fit-see bytes e
  fit-taken record_as.Close e = fit-close
  fit-taken (record_as.Ran txs) e =
      let all = three (is_ok (run_answer r m)) (is_some_list txs) (list_eq digest_eq txs (map (λ (i : RanItem). i.tx) (ran_items m))) e in
      fit-ran txs (stepped runs (record_as.Ran2 (ran_items m)) (runs-due all.0 (some-txs txs (ran_items m) all.1 all.2)))
  fit-taken record_as.Turn e = fit-turn
  fit-taken (record_as.Ran2 items) e =
      let all = three (is_ok (run_answer r m)) (is_some_list items) (list_eq ran_item_eq items (ran_items m)) e in
      fit-ran2 items (stepped runs (record_as.Ran2 (ran_items m)) (runs-due all.0 (some-items items (ran_items m) all.1 all.2)))

-- ---- a start

module _ (r : Rules) (opening : List Object) where
  fit-along : (before xs : List Record) → Along (IsAllowedBehind r opening) before xs → IsFitMember (state r opening before) → IsFitMember (state r opening (before ++ xs))
  fit-along before [] along fit = subst (λ (rs : List Record). IsFitMember (state r opening rs)) (sym (append-nil before)) fit
  fit-along before (x ∷ xs) along fit =
      let next = subst IsFitMember (sym (state-push r opening before x)) (fit-taken r opening before fit x along.0) in
      subst (λ (rs : List Record). IsFitMember (state r opening rs)) (append_assoc before (x ∷ []) xs) (fit-along (before ++ x ∷ []) xs along.1 next)

  pub fit-sound : (records : List Record) → IsSound r opening records → IsFitMember (state r opening records)
  fit-sound records sound = fit-along [] records sound (fit-none r opening)
