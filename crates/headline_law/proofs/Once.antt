-- No two quorums acknowledged different effects of a transaction, nor in different epochs: an honest member is in both.
use Rattle.std.proofs.Common.{sym, subst, ap, ◌∙◌, arith}
use Rattle.std.specs.Prelude.{◌≡◌, ◌<◌, ◌≤◌, ℕ, true, false, List, [], ◌++◌, length, slice_get, Some}
use Rattle.digest_core.specs.declared.Digest.{Digest}
use Rattle.chain_types.specs.declared.transactions.Transaction.{Transaction}
use Rattle.chain_messages.specs.declared.messages.Statement.TheVariants as statement
use Rattle.effects_core.specs.Effects.{digest_of_effects}
use Rattle.protocol_spec.specs.declared.answers.Held.{Held}
use Rattle.protocol_spec.specs.declared.pieces.Executed.{Executed}
use Rattle.journal_core.specs.declared.records.Record.{Record}
use Rattle.schedule_text.specs.declared.words.Event.{Event}
use Rattle.protocol_spec.proofs.ListLemmas.{each_has}
use Rattle.protocol_spec.specs.Chain.Words.{Has}
use Rattle.protocol_spec.specs.Chain.Committee.{is_among}
use Rattle.protocol_spec.specs.Member.Versions.{Execution}
use Rattle.protocol_spec.specs.Member.Member.{books, state}
use Rattle.world_spec.specs.Setting.{Setting}
use Rattle.world_spec.specs.World.{Seat, member_in, new_world}
use Rattle.world_spec.specs.Run.{world_after}
use Rattle.world_spec.specs.Assumptions.{IsFinal, IsHonestRun, all_delivered, delivered, is_faulty_in, HasSaid}
use Rattle.safety_law.proofs.Forks.{all-front}
use Rattle.safety_law.proofs.Fronts.{honest-front}
use Rattle.safety_law.proofs.Journals.{every-record}
use Rattle.safety_law.proofs.Meeting.{two_meet}
use Rattle.safety_law.proofs.Owner.{honest-after}
use Rattle.safety_law.proofs.Voted.{seat-of}
use Rattle.block_law.specs.Orderly.{AreApart}
use Rattle.safety_law.specs.Agreed.{IsHeldAsGiven}
use Rattle.safety_law.specs.Explained.{IsExplained}
use Rattle.safety_law.proofs.Executed.{one-gave}
use Rattle.safety_law.proofs.Executing.{executions-explained}
use Rattle.safety_law.proofs.Lists.{along-split}
use Rattle.safety_law.proofs.SameSteps.{given-alike}
use Rattle.safety_law.proofs.Supply.{every-held}
use Rattle.headline_law.specs.Stated.{HasExecuted, WasOnce}
use Rattle.headline_law.proofs.Saying.{every-ack}
use Rattle.headline_law.proofs.Settling.{still-executed}
use Rattle.headline_law.proofs.Standing.{among-has, are-alike}
use Rattle.headline_law.proofs.Along.{epoch-grows}
use Rattle.headline_law.proofs.Turning.{IsLast, last-moment}

module _ (s : Setting) (events : List Event) (run_is : IsHonestRun s events) (m : ℕ) (seat : Seat) (at : slice_get (world_after s events).seats m ≡ Some seat) (tx : Digest) where
  -- at the last moment of the epoch the member had executed it
  last-of : (epoch : ℕ) (effects : Digest) → WasOnce s seat.records (HasExecuted epoch tx effects) → IsLast s events seat.records epoch
  last-of epoch effects was = last-moment s events m seat at epoch (
      let early = was.held.epoch_is in
      let grows = subst (λ (rs : List Record). (state s.rules s.opening was.front).epoch ≤ (state s.rules s.opening rs).epoch) (sym was.whole) (epoch-grows s.rules s.opening was.back was.front) in
      omega (arith, early, grows)
      )

  had-at : (epoch : ℕ) (effects : Digest) → WasOnce s seat.records (HasExecuted epoch tx effects) → (l : IsLast s events seat.records epoch) → HasExecuted epoch tx effects (member_in s l.seat)
  had-at epoch effects was l = still-executed s.rules s.opening l.seat.records (every-record s l.front l.member l.seat l.there) was.front
      (l.covers was.front (was.back, was.whole) was.held.epoch_is) epoch was.held.epoch_is l.epoch_is tx effects was.held

  abbrev Given : ℕ → Held → Type 0
  Given epoch h = IsHeldAsGiven s.rules (all_delivered s events) epoch h

  -- so a certificate of the transaction, of that epoch, was delivered in the run
  given-of : (epoch : ℕ) (effects : Digest) (l : IsLast s events seat.records epoch) → HasExecuted epoch tx effects (member_in s l.seat) → (h : Held) × Given epoch h × (h.digest ≡ tx)
  unfolding all_delivered
  given-of epoch effects l had =
      let it = (along-split (IsExplained (books (member_in s l.seat))) [] (member_in s l.seat).executed had.of (executions-explained s l.front l.member l.seat l.there) had.there).3 in
      let g = each_has (IsHeldAsGiven s.rules (all_delivered s l.front) (member_in s l.seat).epoch) (member_in s l.seat).held it.of (every-held s l.front l.member l.seat l.there) it.is_held in (
        it.of,
        record {
          digest_is = g.digest_is;
          valid = g.valid;
          epoch_is = g.epoch_is ∙ l.epoch_is;
          comes = subst (λ (es : List Event). Has (all_delivered s es) it.of.cert) l.whole (all-front delivered s l.front l.back (new_world s) it.of.cert g.comes);
        },
        sym (ap (λ (x : Execution). x.digest) it.is) ∙ had.named,
      )

  one-epoch : (epoch other : ℕ) (effects others : Digest) → WasOnce s seat.records (HasExecuted epoch tx effects) → WasOnce s seat.records (HasExecuted other tx others) → epoch ≡ other
  one-epoch epoch other effects others one two =
      let a = given-of epoch effects (last-of epoch effects one) (had-at epoch effects one (last-of epoch effects one)) in
      let b = given-of other others (last-of other others two) (had-at other others two (last-of other others two)) in
      let same = (given-alike s events run_is epoch other a.0.digest b.0.digest a.0.cert b.0.cert a.1 b.1 (a.2 ∙ sym b.2)).0 in
      sym a.1.epoch_is ∙ ap (λ (t : Transaction). t.epoch) same ∙ b.1.epoch_is

  one-effects : (epoch : ℕ) (effects others : Digest) → WasOnce s seat.records (HasExecuted epoch tx effects) → WasOnce s seat.records (HasExecuted epoch tx others) → effects ≡ others
  one-effects epoch effects others one two =
      let l = last-of epoch effects one in
      let a = had-at epoch effects one l in
      let b = had-at epoch others two l in
      let honest = honest-front s l.front l.back (subst (IsHonestRun s) (sym l.whole) run_is) in
      sym a.gave ∙ ap (λ (g : Executed). digest_of_effects g.effects) (one-gave s l.front honest l.member l.seat l.there a.of b.of a.there b.there (a.named ∙ sym b.named)) ∙ b.gave

-- an honest member acknowledged it, and every member that executed it agrees with that one
pub final-agreed : (s : Setting) (events : List Event) → IsHonestRun s events → AreApart s.opening
    → (epoch : ℕ) (tx effects : Digest) (members : List ℕ) → IsFinal s (world_after s events) epoch tx effects members
    → (front back : List Event) → events ≡ front ++ back → (m : ℕ) (seat : Seat) → slice_get (world_after s front).seats m ≡ Some seat
    → (others : Digest) → HasExecuted epoch tx others (member_in s seat) → others ≡ effects
final-agreed s events run_is distinct epoch tx effects members final front back split m seat at others had =
    go (two_meet s.rules.stakes (is_among members) (is_among members) (is_faulty_in s.honest) final.quorum final.quorum run_is.few_faulty)
  where
    go : (k : ℕ) × (k < length s.rules.stakes) × (is_among members k ≡ true) × (is_among members k ≡ true) × (is_faulty_in s.honest k ≡ false) → others ≡ effects
    go (k, low, first, second, sound) =
        let there = seat-of s events run_is k (honest-after s events k sound) in
        let acked = every-ack s events k there.0 there.1 there.2 epoch tx effects (each_has (λ (n : ℕ). HasSaid (world_after s events) n (statement.Ack epoch tx effects)) members k final.said (among-has members k first)) in
        let l = last-of s events run_is k there.0 there.1 tx epoch effects acked in
        let also = had-at s events run_is k there.0 there.1 tx epoch effects acked l in
        let alike = are-alike s events run_is distinct front l.front back l.back (sym split) l.whole m l.member seat l.seat at l.there (had.epoch_is ∙ sym also.epoch_is) in
        sym had.gave ∙ ap (λ (g : Executed). digest_of_effects g.effects) (alike.executions had.of also.of had.there also.there (had.named ∙ sym also.named)) ∙ also.gave

pub final-once : (s : Setting) (events : List Event) → IsHonestRun s events → (tx : Digest)
    → (epoch other : ℕ) (effects others : Digest) (members peers : List ℕ) → IsFinal s (world_after s events) epoch tx effects members → IsFinal s (world_after s events) other tx others peers
    → (epoch ≡ other) × (effects ≡ others)
final-once s events run_is tx epoch other effects others members peers one two =
    go (two_meet s.rules.stakes (is_among members) (is_among peers) (is_faulty_in s.honest) one.quorum two.quorum run_is.few_faulty)
  where
    go : (k : ℕ) × (k < length s.rules.stakes) × (is_among members k ≡ true) × (is_among peers k ≡ true) × (is_faulty_in s.honest k ≡ false) → (epoch ≡ other) × (effects ≡ others)
    go (k, low, first, second, sound) =
        let there = seat-of s events run_is k (honest-after s events k sound) in
        let acked = every-ack s events k there.0 there.1 there.2 epoch tx effects (each_has (λ (n : ℕ). HasSaid (world_after s events) n (statement.Ack epoch tx effects)) members k one.said (among-has members k first)) in
        let also = every-ack s events k there.0 there.1 there.2 other tx others (each_has (λ (n : ℕ). HasSaid (world_after s events) n (statement.Ack other tx others)) peers k two.said (among-has peers k second)) in
        let same = one-epoch s events run_is k there.0 there.1 tx epoch other effects others acked also in
        (same, one-effects s events run_is k there.0 there.1 tx epoch effects others acked (subst (λ (e : ℕ). WasOnce s there.0.records (HasExecuted e tx others)) (sym same) also))
