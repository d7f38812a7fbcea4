-- Each vote in a journal was cast after some prefix of the run.
use Rattle.std.proofs.Common.{inl, inr, sym, subst, ap, ◌∙◌, append_assoc, append-nil}
use Rattle.std.proofs.lemmas.Bool.{eqb-true}
use Rattle.std.specs.Prelude.{◌≡◌, ◌⊎◌, ℕ, true, not, ◌==◌, List, [], ◌∷◌, ◌++◌, slice_get, Option, Some, None, Result, Ok, Err}
use Rattle.wire_bcs.specs.declared.fault.WireFault.{WireFault}
use Rattle.digest_core.specs.declared.Digest.{Digest}
use Rattle.chain_types.specs.declared.transactions.Transaction.{Transaction}
use Rattle.chain_types.specs.declared.transactions.SignedTx.{SignedTx}
use Rattle.chain_types.specs.Digests.{transaction_digest}
use Rattle.journal_core.specs.declared.records.Record.{Record}
use Rattle.journal_core.specs.declared.records.Record.TheVariants as record_as
use Rattle.protocol_spec.specs.declared.refusals.VoteRefusal.{VoteRefusal}
use Rattle.protocol_spec.specs.declared.refusals.VoteRefusal.TheVariants as no_vote
use Rattle.schedule_text.specs.declared.words.Event.{Event}
use Rattle.protocol_spec.proofs.ListLemmas.{each_at}
use Rattle.protocol_spec.specs.Chain.Words.{Has, Each, first_some, where_true, unless_refused, refused_or}
use Rattle.protocol_spec.specs.Chain.Certificates.{Rules, read_signed}
use Rattle.protocol_spec.specs.Member.Votes.{Cast, vote_origins}
use Rattle.protocol_spec.specs.Member.Member.{Member, ballot, vote_for, state}
use Rattle.protocol_spec.specs.Member.Calls.{Call, votes, new_vote_cases, voted_as, vote_again, vote_read, vote_stopped, vote_answer, unsealed_of, vote_record, due}
use Rattle.world_spec.specs.Setting.{Setting}
use Rattle.world_spec.specs.World.{Seat, World, new_world, member_in, numbered_call}
use Rattle.world_spec.specs.Step.{happens}
use Rattle.world_spec.specs.Run.{world_after}
use Rattle.world_spec.specs.Assumptions.{signed_read}
use Rattle.safety_law.proofs.InWorld.{each-any, new-seats}
use Rattle.safety_law.proofs.Apart.{due-free}
use Rattle.safety_law.proofs.Once.{has-push}
use Rattle.safety_law.proofs.Grown.{world-append}
use Rattle.safety_law.proofs.Appends.{a_vote, appended_as, appended_by, due-appends}
use Rattle.safety_law.proofs.OneCall.{one-line}
use Rattle.headline_law.specs.Cast.{WasCast}

-- ---- the origins of a new vote

module _ (r : Rules) (m : Member) (tx : Transaction) (origins : List (Option Digest)) where
  abbrev Names : Type 0
  Names = vote_origins (ballot m) tx ≡ origins

  same-vote : (t : Transaction) → Some (record_as.Vote t (vote_origins (ballot m) t)) ≡ Some (record_as.Vote tx origins) → Names
  same-vote t e = subst (λ (u : Transaction). vote_origins (ballot m) u ≡ origins) (txs t (vote_origins (ballot m) t) e) (lists t (vote_origins (ballot m) t) e)
    where
      txs : (t : Transaction) (o : List (Option Digest)) → Some (record_as.Vote t o) ≡ Some (record_as.Vote tx origins) → t ≡ tx
      txs t o e = cc

      lists : (t : Transaction) (o : List (Option Digest)) → Some (record_as.Vote t o) ≡ Some (record_as.Vote tx origins) → o ≡ origins
      lists t o e = cc

  new-names : (x : SignedTx) (refusal : Option VoteRefusal) → vote_record (Ok x) (unless_refused refusal (voted_as m x.tx (vote_origins (ballot m) x.tx) true)) ≡ Some (record_as.Vote tx origins) → Names
  new-names x (Some refusal) e = absurd (cc)
  new-names x None e = same-vote x.tx e

  again-names : (x : SignedTx) (v : Option Cast) → vote_record (Ok x) (vote_again m x.tx (unsealed_of r x) v) ≡ Some (record_as.Vote tx origins) → Names
  again-names x (Some v) e = absurd (cc)
  again-names x None e = new-names x (first_some (new_vote_cases m x.tx (unsealed_of r x))) e

  on-names : (x : SignedTx) (refusal : Option VoteRefusal) → vote_record (Ok x) (refused_or refusal (vote_again m x.tx (unsealed_of r x) (vote_for m (transaction_digest x.tx)))) ≡ Some (record_as.Vote tx origins) → Names
  on-names x (Some refusal) e = absurd (cc)
  on-names x None e = again-names x (vote_for m (transaction_digest x.tx)) e

  read-names : (read : Result SignedTx WireFault) (stopped : Option VoteRefusal) → vote_record read (refused_or stopped (vote_read r m read)) ≡ Some (record_as.Vote tx origins) → Names
  read-names (Err fault) stopped e = absurd (cc)
  read-names (Ok x) (Some refusal) e = absurd (cc)
  read-names (Ok x) None e = on-names x (where_true (not (x.tx.epoch == m.epoch)) (no_vote.WrongEpoch x.tx.epoch m.epoch)) e

  due-names : (bytes : List ℕ) → due r m (votes bytes) ≡ Some (record_as.Vote tx origins) → Names
  unfolding due vote_answer
  due-names bytes e = read-names (read_signed bytes) (vote_stopped m) e

-- ---- calls that are not a vote

abbrev NoVote : Call → Type 0
NoVote call = appended_by call ≡ Some a_vote → ⊥

-- ---- line by line

module _ (s : Setting) where
  abbrev CastIn : List Event → List Record → Type 0
  CastIn events records = (tx : Transaction) (o : List (Option Digest)) → Has records (record_as.Vote tx o) → WasCast s events tx o

  abbrev AllCast : List Event → List Seat → Type 0
  AllCast events seats = Each (λ (seat : Seat). CastIn events seat.records) seats

  cast-more : (front : List Event) (e : Event) (tx : Transaction) (o : List (Option Digest)) → WasCast s front tx o → WasCast s (front ++ e ∷ []) tx o
  cast-more front e tx o c = record {
    front = c.front;
    back = c.back ++ e ∷ [];
    whole = sym (append_assoc c.front c.back (e ∷ [])) ∙ ap (λ (es : List Event). es ++ e ∷ []) c.whole;
    member = c.member;
    seat = c.seat;
    at = c.at;
    epoch = c.epoch;
    free = c.free;
    named = c.named;
  }

  other-kept : (front : List Event) (records : List Record) (call : Call) (x : Record) → NoVote call → due s.rules (state s.rules s.opening records) call ≡ Some x → CastIn front records → CastIn front (records ++ x ∷ [])
  other-kept front records call x never d cast tx o h = go (has-push records x (record_as.Vote tx o) h)
    where
      go : Has records (record_as.Vote tx o) ⊎ (x ≡ record_as.Vote tx o) → WasCast s front tx o
      go (inl k) = cast tx o k
      go (inr e) = absurd (never (due-appends x s.rules (state s.rules s.opening records) call d ∙ ap (λ (y : Record). Some (appended_as y)) e))

  vote-kept : (front : List Event) (bytes : List ℕ) (m : ℕ) (seat : Seat) → slice_get (world_after s front).seats m ≡ Some seat → (x : Record) → due s.rules (member_in s seat) (votes bytes) ≡ Some x → CastIn front seat.records → CastIn front (seat.records ++ x ∷ [])
  vote-kept front bytes m seat at x d cast tx o h = go (has-push seat.records x (record_as.Vote tx o) h)
    where
      go : Has seat.records (record_as.Vote tx o) ⊎ (x ≡ record_as.Vote tx o) → WasCast s front tx o
      go (inl k) = cast tx o k
      go (inr e) =
          let now = subst (λ (y : Record). due s.rules (member_in s seat) (votes bytes) ≡ Some y) e d in
          let freely = due-free (λ _. Unit {0}) s.rules (member_in s seat) tx o (votes bytes) (each-any (signed_read s.rules (votes bytes))) now in
          record {
            front = front;
            back = [];
            whole = append-nil front;
            member = m;
            seat = seat;
            at = at;
            epoch = eqb-true tx.epoch (member_in s seat).epoch freely.epoch;
            free = freely.free;
            named = due-names s.rules (member_in s seat) tx o bytes now;
          }

  here-cast : (front : List Event) (call : Call) (m : ℕ) (seat : Seat) → slice_get (world_after s front).seats m ≡ Some seat → (x : Record) → due s.rules (member_in s seat) call ≡ Some x → CastIn front seat.records → CastIn front (seat.records ++ x ∷ [])
  here-cast front (votes bytes) m seat at x d cast = vote-kept front bytes m seat at x d cast
  here-cast front call m seat at x d cast = other-kept front seat.records call x (λ q. absurd (cc)) d cast

  line-cast : (front : List Event) (e : Event) → AllCast front (world_after s front).seats → AllCast front (happens s (world_after s front) e).seats
  line-cast front e all = one-line s (CastIn front) (world_after s front) (here-cast front) (λ number n records x d cast. other-kept front records (numbered_call number n) x (λ q. absurd (cc)) d cast) e all

  all-more : (front : List Event) (e : Event) (seats : List Seat) → AllCast front seats → AllCast (front ++ e ∷ []) seats
  all-more front e [] all = tt
  all-more front e (seat ∷ seats) all = (λ tx o h. cast-more front e tx o (all.0 tx o h), all-more front e seats all.1)

  run-cast : (back front : List Event) → AllCast front (world_after s front).seats → AllCast (front ++ back) (world_after s (front ++ back)).seats
  run-cast [] front all = subst (λ (es : List Event). AllCast es (world_after s es).seats) (sym (append-nil front)) all
  run-cast (e ∷ back) front all =
      subst (λ (es : List Event). AllCast es (world_after s es).seats) (append_assoc front (e ∷ []) back)
      (run-cast back (front ++ e ∷ []) (all-more front e (world_after s (front ++ e ∷ [])).seats
      (subst (λ (v : World). AllCast front v.seats) (sym (world-append s front (e ∷ []))) (line-cast front e all))))

  new-cast : AllCast [] (world_after s []).seats
  unfolding world_after new_world
  new-cast = new-seats s (λ call. ⊥) (CastIn []) (λ records call x g d p. absurd g) s.honest (λ tx o h. absurd h)

pub every-vote-was-cast : (s : Setting) (events : List Event) (m : ℕ) (seat : Seat) → slice_get (world_after s events).seats m ≡ Some seat → (tx : Transaction) (origins : List (Option Digest)) → Has seat.records (record_as.Vote tx origins) → WasCast s events tx origins
every-vote-was-cast s events m seat at = each_at (λ (y : Seat). CastIn s events y.records) (world_after s events).seats m seat (run-cast s events [] (new-cast s)) at
