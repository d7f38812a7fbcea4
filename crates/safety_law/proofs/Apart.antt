-- The votes of a member's epoch are apart: a new one was not locked by an earlier one.
use Rattle.std.proofs.Common.{inl, inr, refl, sym, subst}
use Rattle.std.specs.Prelude.{◌≡◌, ℕ, Bool, true, false, cond, not, ◌&&◌, ◌==◌, List, [], ◌∷◌, ◌++◌, find, fold, slice_get, Option, Some, None, Result, Ok, Err}
use Rattle.wire_bcs.specs.declared.fault.WireFault.{WireFault}
use Rattle.digest_core.specs.declared.Digest.{Digest}
use Rattle.chain_types.specs.Equal.{digest_eq}
use Rattle.chain_types.specs.Digests.{transaction_digest, consumed_keys}
use Rattle.chain_types.specs.declared.objects.ObjectKey.{ObjectKey}
use Rattle.chain_types.specs.declared.objects.Object.{Object}
use Rattle.chain_types.specs.declared.transactions.Transaction.{Transaction}
use Rattle.chain_types.specs.declared.transactions.SignedTx.{SignedTx}
use Rattle.chain_messages.specs.declared.messages.Certificate.{Certificate}
use Rattle.journal_core.specs.declared.records.RanItem.{RanItem}
use Rattle.journal_core.specs.declared.records.Record.{Record}
use Rattle.journal_core.specs.declared.records.Record.TheVariants as record_as
use Rattle.protocol_spec.specs.declared.answers.Ran.{Ran}
use Rattle.protocol_spec.specs.declared.refusals.VoteRefusal.{VoteRefusal}
use Rattle.protocol_spec.specs.declared.refusals.VoteRefusal.TheVariants as no_vote
use Rattle.protocol_spec.specs.declared.refusals.HoldRefusal.{HoldRefusal}
use Rattle.protocol_spec.specs.declared.refusals.SeeRefusal.{SeeRefusal}
use Rattle.protocol_spec.specs.declared.refusals.RunRefusal.{RunRefusal}
use Rattle.protocol_spec.specs.declared.refusals.CloseRefusal.{CloseRefusal}
use Rattle.protocol_spec.specs.declared.refusals.TurnRefusal.{TurnRefusal}
use Rattle.schedule_text.specs.declared.words.Event.{Event}
use Rattle.protocol_spec.specs.Chain.Words.{Has, Each, first_some, first_of, where_true, refused_or, unless_refused}
use Rattle.protocol_spec.specs.Chain.Tests.{has_key}
use Rattle.protocol_spec.specs.Chain.Certificates.{Rules, accepts_sender, read_signed, read_certificate}
use Rattle.protocol_spec.proofs.ListLemmas.{along-push}
use Rattle.protocol_spec.proofs.Truth.{where_not_true, map_none}
use Rattle.protocol_spec.specs.Member.Votes.{Cast, Ballot, vote_refusal, vote_cases, vote_origins, locked, is_lock}
use Rattle.protocol_spec.specs.Member.Member.{Member, ballot, vote_for, cast_of, fresh, after, state}
use Rattle.protocol_spec.specs.Member.Calls.{Call, votes, holds, sees, runs, closes, ends, turns, acks, decided_as, new_vote_cases, voted_as, new_vote, vote_again, unsealed_of, vote_read, vote_stopped, vote_answer, hold_answer, is_hold_kept, see_cases, run_answer, close_answer, turn_answer, vote_record, hold_record, see_record, ran_items, ran_record, run_record, close_record, turn_record, due}
use Rattle.world_spec.specs.Setting.{Setting}
use Rattle.world_spec.specs.World.{Seat, member_in}
use Rattle.world_spec.specs.Run.{world_after}
use Rattle.safety_law.specs.Members.{IsApartFrom, AreApart}
use Rattle.world_spec.specs.Assumptions.{read_list, signed_read}
use Rattle.safety_law.proofs.InWorld.{in_world, each-any}

-- ---- no case applies

pub none-each : {A : Type 0} (cases : List (Option A)) → first_some cases ≡ None → Each (λ o. o ≡ None) cases
none-each [] e = tt
none-each (Some x ∷ cases) e = absurd (cc)
none-each (None ∷ cases) e = (refl, none-each cases e)

pub none-of : {A B : Type 0} (says : A → Option B) (xs : List A) (x : A) → first_of says xs ≡ None → Has xs x → says x ≡ None
none-of says [] x e h = absurd h
none-of says (y ∷ ys) x e (inl h) = subst (λ z. says z ≡ None) h (none-each (says y ∷ first_of says ys ∷ []) e).0
none-of says (y ∷ ys) x e (inr h) = none-of says ys x (none-each (says y ∷ first_of says ys ∷ []) e).1.0 h

pub none-found : {A : Type 0} (test : A → Bool) (x : A) (xs : List A) → find test (x ∷ xs) ≡ None → (test x ≡ false) × (find test xs ≡ None)
none-found test x xs e = go (test x) refl e
  where
    go : (b : Bool) → test x ≡ b → cond b (Some x) (find test xs) ≡ None → (test x ≡ false) × (find test xs ≡ None)
    go true t e = absurd (cc)
    go false t e = (t, e)

-- a vote that no lock refuses is apart from each
unlocked : (tx : Digest) (v : Cast) (key : ObjectKey) → is_lock tx key v ≡ false → digest_eq v.digest tx ≡ false → has_key v.consumed key ≡ false
unlocked tx v key e other = go (digest_eq v.digest tx) other e
  where
    go : (b : Bool) → b ≡ false → (not b && has_key v.consumed key) ≡ false → has_key v.consumed key ≡ false
    go true f e = absurd (cc)
    go false f e = e

each-apart : (later : Cast) (vs : List Cast) → ((key : ObjectKey) → Has later.consumed key → find (is_lock later.digest key) vs ≡ None) → Each (IsApartFrom later) vs
each-apart later [] none = tt
each-apart later (v ∷ vs) none = (
  λ other key h. unlocked later.digest v key (none-found (is_lock later.digest key) v vs (none key h)).0 other,
  each-apart later vs (λ key h. (none-found (is_lock later.digest key) v vs (none key h)).1),
)

pub not-locked : (b : Ballot) (t : Transaction) (origins : List (Option Digest)) → vote_refusal b t (transaction_digest t) ≡ None → Each (IsApartFrom (cast_of t origins)) b.votes
unfolding vote_refusal
not-locked b t origins e = each-apart (cast_of t origins) b.votes (λ key h.
    map_none _ (find (is_lock (transaction_digest t) key) b.votes) (none-of (locked b.votes (transaction_digest t)) (consumed_keys t) key
    (none-each (vote_cases b t (transaction_digest t)) e).1.1.1.1.1.1.1.0 h))

-- ---- only a vote appends a Vote, and then no case refuses it

same-tx : (t u : Transaction) (o p : List (Option Digest)) → Some (record_as.Vote t o) ≡ Some (record_as.Vote u p) → t ≡ u
same-tx t u o p e = cc

-- no case refuses the transaction, it is of the member's epoch, which has no vote for it yet, and it was read
-- with an accepted seal; P holds of what was read
pub record IsCastFreely (P : SignedTx → Type 0) (r : Rules) (m : Member) (t : Transaction) : Type 0 where
  pub free : vote_refusal (ballot m) t (transaction_digest t) ≡ None
  pub epoch : (t.epoch == m.epoch) ≡ true
  pub new : vote_for m (transaction_digest t) ≡ None
  pub given : (x : SignedTx) × (x.tx ≡ t) × (accepts_sender r x.tx x.seal ≡ true) × P x

module _ (P : SignedTx → Type 0) (r : Rules) (m : Member) (tx : Transaction) (origins : List (Option Digest)) where
  abbrev Free : Transaction → Type 0
  Free t = IsCastFreely P r m t

  new-free : (x : SignedTx) → P x → (x.tx.epoch == m.epoch) ≡ true → vote_for m (transaction_digest x.tx) ≡ None → vote_record (Ok x) (new_vote m x.tx (unsealed_of r x)) ≡ Some (record_as.Vote tx origins) → Free tx
  new-free x p same new e = go (first_some (new_vote_cases m x.tx (unsealed_of r x))) refl e
    where
      go : (refusal : Option VoteRefusal) → first_some (new_vote_cases m x.tx (unsealed_of r x)) ≡ refusal → vote_record (Ok x) (unless_refused refusal (voted_as m x.tx (vote_origins (ballot m) x.tx) true)) ≡ Some (record_as.Vote tx origins) → Free tx
      go (Some refusal) none e = absurd (cc)
      go None none e = subst Free (same-tx x.tx tx (vote_origins (ballot m) x.tx) origins e) (record {
        free = map_none decided_as (vote_refusal (ballot m) x.tx (transaction_digest x.tx)) (none-each (new_vote_cases m x.tx (unsealed_of r x)) none).1.1.1.0;
        epoch = same;
        new = new;
        given = (x, refl, where_not_true (accepts_sender r x.tx x.seal) no_vote.Unsealed (none-each (new_vote_cases m x.tx (unsealed_of r x)) none).1.1.0, p);
      })

  again-free : (x : SignedTx) (v : Option Cast) → vote_for m (transaction_digest x.tx) ≡ v → P x → (x.tx.epoch == m.epoch) ≡ true → vote_record (Ok x) (vote_again m x.tx (unsealed_of r x) v) ≡ Some (record_as.Vote tx origins) → Free tx
  again-free x (Some v) q p same e = absurd (cc)
  again-free x None q p same e = new-free x p same q e

  on-free : (x : SignedTx) (same : Bool) → (x.tx.epoch == m.epoch) ≡ same → P x → vote_record (Ok x) (refused_or (where_true (not same) (no_vote.WrongEpoch x.tx.epoch m.epoch)) (vote_again m x.tx (unsealed_of r x) (vote_for m (transaction_digest x.tx)))) ≡ Some (record_as.Vote tx origins) → Free tx
  on-free x false q p e = absurd (cc)
  on-free x true q p e = again-free x (vote_for m (transaction_digest x.tx)) refl p q e

  read-free : (read : Result SignedTx WireFault) (stopped : Option VoteRefusal) → Each P (read_list read) → vote_record read (refused_or stopped (vote_read r m read)) ≡ Some (record_as.Vote tx origins) → Free tx
  read-free (Err fault) stopped g e = absurd (cc)
  read-free (Ok x) (Some refusal) g e = absurd (cc)
  read-free (Ok x) None g e = on-free x (x.tx.epoch == m.epoch) refl g.0 e

  hold-none : (read : Result Certificate WireFault) (answer : Result Bool HoldRefusal) → hold_record read answer ≡ Some (record_as.Vote tx origins) → ⊥
  hold-none (Err fault) answer e = cc
  hold-none (Ok c) answer e = go (is_hold_kept answer) e
    where
      go : (b : Bool) → where_true b (record_as.Hold c) ≡ Some (record_as.Vote tx origins) → ⊥
      go true e = cc
      go false e = cc

  see-none : (number : ℕ) (bytes : List ℕ) (refusal : Option SeeRefusal) → see_record m number bytes refusal ≡ Some (record_as.Vote tx origins) → ⊥
  see-none number bytes None e = cc
  see-none number bytes (Some refusal) e = cc

  ran-none : (items : List RanItem) → ran_record items ≡ Some (record_as.Vote tx origins) → ⊥
  ran-none [] e = cc
  ran-none (item ∷ items) e = cc

  run-none : (answer : Result Ran RunRefusal) → run_record m answer ≡ Some (record_as.Vote tx origins) → ⊥
  run-none (Err refusal) e = cc
  run-none (Ok ran) e = ran-none (ran_items m) e

  close-none : (answer : Result Bool CloseRefusal) → close_record answer ≡ Some (record_as.Vote tx origins) → ⊥
  close-none (Err refusal) e = cc
  close-none (Ok true) e = cc
  close-none (Ok false) e = cc

  turn-none : (answer : Result (List Digest) TurnRefusal) → turn_record answer ≡ Some (record_as.Vote tx origins) → ⊥
  turn-none (Err refusal) e = cc
  turn-none (Ok txs) e = cc

  pub due-free : (call : Call) → Each P (signed_read r call) → due r m call ≡ Some (record_as.Vote tx origins) → Free tx
  unfolding due vote_answer
  due-free (votes bytes) g e = read-free (read_signed bytes) (vote_stopped m) g e
  due-free (holds bytes) g e = absurd (hold-none (read_certificate bytes) (hold_answer r m bytes) e)
  due-free (sees number bytes) g e = absurd (see-none number bytes (first_some (see_cases m number)) e)
  due-free runs g e = absurd (run-none (run_answer r m) e)
  due-free closes g e = absurd (close-none (close_answer r m) e)
  due-free ends g e = absurd (cc)
  due-free turns g e = absurd (turn-none (turn_answer r m) e)
  due-free (acks d) g e = absurd (cc)

-- ---- each record keeps the votes apart

apart-after : (r : Rules) (m : Member) (call : Call) (x : Record) → due r m call ≡ Some x → AreApart m.votes → AreApart (after r m x).votes
unfolding after
apart-after r m call (record_as.Vote tx origins) e apart = along-push (λ before later. Each (IsApartFrom later) before) [] m.votes (cast_of tx origins) apart (not-locked (ballot m) tx origins (due-free (λ _. Unit {0}) r m tx origins call (each-any (signed_read r call)) e).free)
apart-after r m call (record_as.Hold c) e apart = apart
apart-after r m call (record_as.See bytes) e apart = apart
apart-after r m call record_as.Close e apart = apart
apart-after r m call (record_as.Ran txs) e apart = apart
apart-after r m call record_as.Turn e apart = tt
apart-after r m call (record_as.Ran2 items) e apart = apart

fold-push : {A B : Type 0} (f : B → A → B) (b : B) (xs : List A) (x : A) → fold f b (xs ++ x ∷ []) ≡ f (fold f b xs) x
fold-push f b [] x = refl
fold-push f b (y ∷ ys) x = fold-push f (f b y) ys x

pub state-push : (r : Rules) (opening : List Object) (records : List Record) (x : Record) → state r opening (records ++ x ∷ []) ≡ after r (state r opening records) x
unfolding state
state-push r opening records x = fold-push (after r) (fresh opening) records x

none-voted : (r : Rules) (opening : List Object) → AreApart (state r opening []).votes
unfolding state
none-voted r opening = tt

pub votes-apart : (s : Setting) (events : List Event) (m : ℕ) (seat : Seat) → slice_get (world_after s events).seats m ≡ Some seat → AreApart (member_in s seat).votes
votes-apart s events m seat e =
    in_world s (λ records. AreApart (state s.rules s.opening records).votes)
    (λ records call x d apart. subst (λ (n : Member). AreApart n.votes) (sym (state-push s.rules s.opening records x)) (apart-after s.rules (state s.rules s.opening records) call x d apart))
    (none-voted s.rules s.opening) events m seat e
