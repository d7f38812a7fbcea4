-- A record that is due is allowed, so a start from a member's records goes through all of them.
use Rattle.std.proofs.Common.{refl, sym, subst, ap, ◌∙◌, append_assoc, append-nil}
use Rattle.std.proofs.lemmas.Bool.{eq-eqb}
use Rattle.std.specs.Prelude.{◌≡◌, ℕ, suc, Bool, true, false, cond, not, ◌==◌, List, [], ◌∷◌, ◌++◌, slice_get, Option, Some, None, Result, Ok, Err, is_none}
use Rattle.wire_bcs.specs.declared.fault.WireFault.{WireFault}
use Rattle.digest_core.specs.declared.Digest.{Digest}
use Rattle.chain_types.specs.declared.objects.Object.{Object}
use Rattle.chain_types.specs.declared.transactions.Transaction.{Transaction}
use Rattle.chain_types.specs.declared.transactions.SignedTx.{SignedTx}
use Rattle.chain_types.specs.Digests.{transaction_digest}
use Rattle.chain_messages.specs.declared.messages.Statement.{Statement}
use Rattle.chain_messages.specs.declared.messages.Statement.TheVariants as statement
use Rattle.chain_messages.specs.declared.messages.Certificate.{Certificate}
use Rattle.journal_core.specs.declared.records.RanItem.{RanItem}
use Rattle.journal_core.specs.declared.records.Record.{Record}
use Rattle.journal_core.specs.declared.records.Record.TheVariants as record_as
use Rattle.protocol_spec.specs.declared.answers.Ran.{Ran}
use Rattle.protocol_spec.specs.declared.refusals.VoteRefusal.{VoteRefusal}
use Rattle.protocol_spec.specs.declared.refusals.VoteRefusal.TheVariants as no_vote
use Rattle.protocol_spec.specs.declared.refusals.SeeRefusal.{SeeRefusal}
use Rattle.protocol_spec.specs.declared.refusals.SeeRefusal.TheVariants as no_see
use Rattle.protocol_spec.specs.declared.refusals.RunRefusal.{RunRefusal}
use Rattle.protocol_spec.specs.declared.refusals.CloseRefusal.{CloseRefusal}
use Rattle.protocol_spec.specs.declared.refusals.TurnRefusal.{TurnRefusal}
use Rattle.schedule_text.specs.declared.words.Event.{Event}
use Rattle.protocol_spec.proofs.Equality.{digest_self}
use Rattle.protocol_spec.proofs.Truth.{some_same}
use Rattle.protocol_spec.specs.Chain.Words.{Along, first_some, where_true, unless_refused, refused_or}
use Rattle.protocol_spec.specs.Chain.Tests.{list_eq, origin_eq}
use Rattle.protocol_spec.specs.Chain.Certificates.{Rules, read_signed, read_certificate}
use Rattle.protocol_spec.specs.Member.Votes.{Cast}
use Rattle.protocol_spec.specs.Member.Member.{Member, vote_for, after, state}
use Rattle.protocol_spec.specs.Member.Calls.{Call, votes, holds, sees, runs, closes, ends, turns, acks, Voted, halted, full, vote_again, vote_on, unsealed_of, vote_read, vote_stopped, vote_answer, hold_certificate, hold_read, hold_stopped, hold_answer, see_cases, run_answer, close_answer, turn_answer, kept_vote, vote_record, is_hold_kept, hold_record, see_record, ran_items, ran_record, run_record, close_record, turn_record, due}
use Rattle.protocol_spec.specs.Member.Replay.{ran_item_eq, is_allowed, replayed_from, replayed}
use Rattle.world_spec.specs.Setting.{Setting}
use Rattle.world_spec.specs.World.{Seat, member_in}
use Rattle.world_spec.specs.Run.{world_after}
use Rattle.protocol_spec.specs.Member.Due.{IsDueBehind}
use Rattle.safety_law.proofs.Apart.{state-push}
use Rattle.safety_law.proofs.Journals.{every-record}

-- ---- equal lists pass their test

same-list : {A : Type 0} (same : A → A → Bool) → ((x : A) → same x x ≡ true) → (xs : List A) → list_eq same xs xs ≡ true
same-list same one [] = refl
same-list same one (x ∷ xs) = rw (one x) (same-list same one xs)

same-origin : (o : Option Digest) → origin_eq o o ≡ true
same-origin None = refl
same-origin (Some d) = digest_self d

same-item : (i : RanItem) → ran_item_eq i i ≡ true
same-item i = rw (digest_self i.tx) (digest_self i.effects)

module _ (r : Rules) (m : Member) (x : Record) where
  abbrev Allows : Record → Type 0
  Allows y = is_allowed r m y ≡ true

  named : (y : Record) → Some y ≡ Some x → Allows y → Allows x
  named y e a = subst Allows (some_same y x e) a

  -- ---- votes: the seal does not matter to a vote that was cast

  unless-sealed : (v : Voted) (a b u d : Option VoteRefusal) (y : Voted) → unless_refused (first_some (a ∷ b ∷ u ∷ d ∷ [])) y ≡ Ok v → unless_refused (first_some (a ∷ b ∷ None ∷ d ∷ [])) y ≡ Ok v
  unless-sealed v (Some q) b u d y e = e
  unless-sealed v None (Some q) u d y e = e
  unless-sealed v None None (Some q) d y e = absurd (cc)
  unless-sealed v None None None d y e = e

  vote-unsealed : (t : Transaction) (unsealed : Option VoteRefusal) (v : Voted) → vote_on m t unsealed ≡ Ok v → vote_on m t None ≡ Ok v
  vote-unsealed t unsealed v e = go (where_true (not (t.epoch == m.epoch)) (no_vote.WrongEpoch t.epoch m.epoch)) (vote_for m (transaction_digest t)) e
    where
      go : (refusal : Option VoteRefusal) (cast : Option Cast) → refused_or refusal (vote_again m t unsealed cast) ≡ Ok v → refused_or refusal (vote_again m t None cast) ≡ Ok v
      go (Some q) cast e = e
      go None (Some c) e = e
      go None None e = unless-sealed v _ _ unsealed _ _ e

  cast-allowed : (t : Transaction) (v : Voted) → vote_stopped m ≡ None → vote_on m t None ≡ Ok v → v.fresh ≡ true → (st : Statement) → v.statement ≡ st → kept_vote t st ≡ Some x → Allows x
  unfolding is_allowed
  cast-allowed t v free on new (statement.Vote epoch tx origins) says e = named (record_as.Vote t origins) e
      (rw (free, on, new, says) (same-list origin_eq same-origin origins))
  cast-allowed t v free on new (statement.End epoch) says e = absurd (cc)
  cast-allowed t v free on new (statement.Checkpoint epoch number digest) says e = absurd (cc)
  cast-allowed t v free on new (statement.Ack epoch tx effects) says e = absurd (cc)

  fresh-allowed : (s : SignedTx) (v : Voted) → vote_stopped m ≡ None → vote_on m s.tx None ≡ Ok v → (b : Bool) → v.fresh ≡ b → cond b (kept_vote s.tx v.statement) None ≡ Some x → Allows x
  fresh-allowed s v free on true new e = cast-allowed s.tx v free on new v.statement refl e
  fresh-allowed s v free on false new e = absurd (cc)

  signed-allowed : (s : SignedTx) → vote_stopped m ≡ None → (answer : Result Voted VoteRefusal) → vote_on m s.tx (unsealed_of r s) ≡ answer → vote_record (Ok s) answer ≡ Some x → Allows x
  signed-allowed s free (Err refusal) on e = absurd (cc)
  signed-allowed s free (Ok v) on e = fresh-allowed s v free (vote-unsealed s.tx (unsealed_of r s) v on) v.fresh refl e

  vote-allowed : (read : Result SignedTx WireFault) → vote_record read (refused_or (vote_stopped m) (vote_read r m read)) ≡ Some x → Allows x
  vote-allowed (Err fault) e = absurd (cc)
  vote-allowed (Ok s) e = go (vote_stopped m) refl e
    where
      go : (refusal : Option VoteRefusal) → vote_stopped m ≡ refusal → vote_record (Ok s) (refused_or refusal (vote_on m s.tx (unsealed_of r s))) ≡ Some x → Allows x
      go (Some q) free e = absurd (cc)
      go None free e = signed-allowed s free (vote_on m s.tx (unsealed_of r s)) refl e

  -- ---- the other calls

  hold-allowed : (read : Result Certificate WireFault) → hold_record read (refused_or (hold_stopped m) (hold_read r m read)) ≡ Some x → Allows x
  unfolding is_allowed
  hold-allowed (Err fault) e = absurd (cc)
  hold-allowed (Ok c) e = go (is_hold_kept (refused_or (hold_stopped m) (hold_certificate r m c))) refl e
    where
      go : (b : Bool) → is_hold_kept (refused_or (hold_stopped m) (hold_certificate r m c)) ≡ b → where_true b (record_as.Hold c) ≡ Some x → is_allowed r m x ≡ true
      go true keeps e = named (record_as.Hold c) e keeps
      go false keeps e = absurd (cc)

  see-free : (a b c d f : Option SeeRefusal) → first_some (a ∷ b ∷ c ∷ d ∷ []) ≡ None → f ≡ None → is_none (first_some (a ∷ b ∷ c ∷ f ∷ [])) ≡ true
  see-free (Some q) b c d f e n = absurd (cc)
  see-free None (Some q) c d f e n = absurd (cc)
  see-free None None (Some q) d f e n = absurd (cc)
  see-free None None None d f e n = rw n refl

  own-number : where_true (not (m.sequence.number == m.sequence.number)) (no_see.Gap m.sequence.number m.sequence.number) ≡ None
  own-number = rw (eq-eqb m.sequence.number m.sequence.number refl) refl

  see-allowed : (number : ℕ) (bytes : List ℕ) → see_record m number bytes (first_some (see_cases m number)) ≡ Some x → Allows x
  unfolding is_allowed
  see-allowed number bytes e = go (first_some (see_cases m number)) refl e
    where
      go : (refusal : Option SeeRefusal) → first_some (see_cases m number) ≡ refusal → see_record m number bytes refusal ≡ Some x → is_allowed r m x ≡ true
      go (Some q) free e = absurd (cc)
      go None free e = named (record_as.See bytes) e (see-free (halted no_see.Halted m) (full no_see.Full m) (where_true m.sequence.ended no_see.Over) (where_true (not (number == m.sequence.number)) (no_see.Gap number m.sequence.number)) (where_true (not (m.sequence.number == m.sequence.number)) (no_see.Gap m.sequence.number m.sequence.number)) free own-number)

  ran-allowed : (ran : Ran) → run_answer r m ≡ Ok ran → (items : List RanItem) → ran_items m ≡ items → ran_record items ≡ Some x → Allows x
  unfolding is_allowed
  ran-allowed ran answers [] are e = absurd (cc)
  ran-allowed ran answers (i ∷ is) are e = named (record_as.Ran2 (i ∷ is)) e (rw (answers, are) (same-list ran_item_eq same-item (i ∷ is)))

  run-allowed : (answer : Result Ran RunRefusal) → run_answer r m ≡ answer → run_record m answer ≡ Some x → Allows x
  run-allowed (Err refusal) answers e = absurd (cc)
  run-allowed (Ok ran) answers e = ran-allowed ran answers (ran_items m) refl e

  close-allowed : (answer : Result Bool CloseRefusal) → close_answer r m ≡ answer → close_record answer ≡ Some x → Allows x
  unfolding is_allowed
  close-allowed (Err refusal) answers e = absurd (cc)
  close-allowed (Ok true) answers e = named record_as.Close e (rw answers refl)
  close-allowed (Ok false) answers e = absurd (cc)

  turn-allowed : (answer : Result (List Digest) TurnRefusal) → turn_answer r m ≡ answer → turn_record answer ≡ Some x → Allows x
  unfolding is_allowed
  turn-allowed (Err refusal) answers e = absurd (cc)
  turn-allowed (Ok txs) answers e = named record_as.Turn e (rw answers refl)

  pub due-allowed : (call : Call) → due r m call ≡ Some x → is_allowed r m x ≡ true
  unfolding due vote_answer hold_answer
  due-allowed (votes bytes) e = vote-allowed (read_signed bytes) e
  due-allowed (holds bytes) e = hold-allowed (read_certificate bytes) e
  due-allowed (sees number bytes) e = see-allowed number bytes e
  due-allowed runs e = run-allowed (run_answer r m) refl e
  due-allowed closes e = close-allowed (close_answer r m) refl e
  due-allowed ends e = absurd (cc)
  due-allowed turns e = turn-allowed (turn_answer r m) refl e
  due-allowed (acks tx) e = absurd (cc)

-- ---- all records

module _ (r : Rules) (opening : List Object) where
  goes-through : (xs before : List Record) (place : ℕ) → Along (IsDueBehind r opening) before xs → replayed_from r (state r opening before) place xs ≡ Ok (state r opening (before ++ xs))
  goes-through [] before place along = ap (λ (records : List Record). Ok (state r opening records)) (sym (append-nil before))
  goes-through (x ∷ xs) before place along =
      ap (λ (b : Bool). cond b (replayed_from r (after r (state r opening before) x) (suc place) xs) (Err place)) (due-allowed r (state r opening before) x along.0.0 along.0.1)
      ∙ ap (λ (m : Member). replayed_from r m (suc place) xs) (sym (state-push r opening before x))
      ∙ goes-through xs (before ++ x ∷ []) (suc place) along.1
      ∙ ap (λ (records : List Record). Ok (state r opening records)) (append_assoc before (x ∷ []) xs)

  all-through : (records : List Record) → Along (IsDueBehind r opening) [] records → replayed r opening records ≡ Ok (state r opening records)
  unfolding replayed state
  all-through records along = goes-through records [] 0 along

pub no-record-is-bad : (s : Setting) (events : List Event) (m : ℕ) (seat : Seat) → slice_get (world_after s events).seats m ≡ Some seat → replayed s.rules s.opening seat.records ≡ Ok (member_in s seat)
no-record-is-bad s events m seat at = all-through s.rules s.opening seat.records (every-record s events m seat at)
