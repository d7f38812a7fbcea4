-- Histories over a keeper that never fails, and by the seals that are accepted.
use Rattle.std.proofs.Common.{◌≡◌, ℕ, ◌||◌, Bool, true, false, List, [], ◌∷◌, Result, Ok, Err, refl, sym, ap, ◌∙◌, arith}
use Rattle.std.specs.List.{list_any}
use Rattle.digest_core.specs.declared.Digest.{Digest}
use Rattle.quorum_core.specs.declared.signer.Signer.{Signer}
use Rattle.protocol_spec.specs.declared.answers.Voted.{Voted as Sent}
use Rattle.protocol_spec.specs.declared.refusals.VoteRefusal.{VoteRefusal}
use Rattle.protocol_spec.specs.declared.refusals.VoteRefusal.TheVariants as no_vote
use Rattle.validator_core.specs.Calls.{vote_ended}
use Rattle.validator_core.specs.Seats.{answered}
use Rattle.vote_desk.specs.declared.entry.DeskEntry.{DeskEntry}
use Rattle.vote_desk.specs.declared.standing.DeskView.{DeskView}
use Rattle.vote_desk.specs.Callers.{AreAnswered, is_starved, is_starved_call}
use Rattle.vote_desk.specs.Histories.{IsHistory, IsLegal}
use Rattle.vote_desk.specs.Votes.{Accepts, Follows, FollowsUnder, Replies, standing}

-- ---- by the seals that are accepted

module _ {S : Type 0} (accepts : S → Signer → List ℕ → Digest → Bool) where
  -- what stands behind a desk, with the accepted seals in place of the sealer
  abbrev under : DeskView S → DeskView Accepts
  under s = standing s.validator (accepts s.sealer) s.faults s.lists

  replies-under : (s : DeskView S) (bytes : List ℕ) (reply : Result Sent VoteRefusal) → Replies accepts s bytes reply → Replies (λ (a : Accepts). a) (under s) bytes reply
  replies-under s bytes (Ok v) is = is
  replies-under s bytes (Err no_vote.KeepFault) is = is
  replies-under s bytes (Err no_vote.OutOfMemory) is = is
  replies-under s bytes (Err no_vote.Down) is = is
  replies-under s bytes (Err (no_vote.Halted first second)) is = is
  replies-under s bytes (Err no_vote.Full) is = is
  replies-under s bytes (Err (no_vote.Malformed fault)) is = is
  replies-under s bytes (Err (no_vote.WrongEpoch had want)) is = is
  replies-under s bytes (Err no_vote.Closed) is = is
  replies-under s bytes (Err (no_vote.Invalid fault)) is = is
  replies-under s bytes (Err no_vote.Unsealed) is = is
  replies-under s bytes (Err (no_vote.Absent key)) is = is
  replies-under s bytes (Err (no_vote.Consumed key by)) is = is
  replies-under s bytes (Err (no_vote.WrongDigest key)) is = is
  replies-under s bytes (Err (no_vote.WrongOwner key)) is = is
  replies-under s bytes (Err (no_vote.WrongKind key)) is = is
  replies-under s bytes (Err (no_vote.PoorGas had want)) is = is
  replies-under s bytes (Err (no_vote.Locked key by)) is = is

  follows-under : (before : DeskView S) (entry : DeskEntry) (after : DeskView S) → Follows accepts before entry after → FollowsUnder (under before) entry (under after)
  follows-under before entry after is = record {
    reply = replies-under before entry.bytes entry.reply is.reply;
    state = is.state;
    sealer = ap accepts is.sealer;
    count = is.count;
    later = is.later;
    rose = is.rose;
    kept = is.kept;
  }

  history-under : (from to : DeskView S) (entries : List DeskEntry) → IsHistory (Follows accepts) from entries to → IsHistory FollowsUnder (under from) entries (under to)
  history-under from to [] is = ap under is
  history-under from to (entry ∷ entries) is = (under is.0, follows-under from entry is.0 is.1, history-under is.0 to entries is.2)

  pub legal_under : (from to : DeskView S) (entries : List DeskEntry) → IsHistory (Follows accepts) from entries to → IsLegal FollowsUnder (under from) entries
  legal_under from to entries is = (under to, history-under from to entries is)

  -- ---- no fault of the keeper

  answered-where : (reply : Result Sent VoteRefusal) → (reply ≡ Err no_vote.KeepFault → ⊥) → is_starved reply ≡ false → vote_ended reply ≡ answered
  answered-where (Ok v) never fed = refl
  answered-where (Err no_vote.KeepFault) never fed = absurd (never refl)
  answered-where (Err no_vote.OutOfMemory) never fed = absurd (cc)
  answered-where (Err no_vote.Down) never fed = refl
  answered-where (Err (no_vote.Halted first second)) never fed = refl
  answered-where (Err no_vote.Full) never fed = refl
  answered-where (Err (no_vote.Malformed fault)) never fed = refl
  answered-where (Err (no_vote.WrongEpoch had want)) never fed = refl
  answered-where (Err no_vote.Closed) never fed = refl
  answered-where (Err (no_vote.Invalid fault)) never fed = refl
  answered-where (Err no_vote.Unsealed) never fed = refl
  answered-where (Err (no_vote.Absent key)) never fed = refl
  answered-where (Err (no_vote.Consumed key by)) never fed = refl
  answered-where (Err (no_vote.WrongDigest key)) never fed = refl
  answered-where (Err (no_vote.WrongOwner key)) never fed = refl
  answered-where (Err (no_vote.WrongKind key)) never fed = refl
  answered-where (Err (no_vote.PoorGas had want)) never fed = refl
  answered-where (Err (no_vote.Locked key by)) never fed = refl

  -- a count of faults that ends at 0 was 0 all along
  low : (from to : DeskView S) (entries : List DeskEntry) → IsHistory (Follows accepts) from entries to → to.faults ≡ 0 → from.faults ≡ 0
  low from to [] is none = sym (ap (λ (s : DeskView S). s.faults) is) ∙ none
  low from to (entry ∷ entries) is none =
      let next = low is.0 to entries is.2 none in let count = is.1.count in let later = is.1.later in omega (arith, next, count, later)

  neither : (a b : Bool) → (a || b) ≡ false → (a ≡ false) × (b ≡ false)
  neither true b is = absurd (cc)
  neither false b is = (refl, is)

  pub all_answered : (from to : DeskView S) (entries : List DeskEntry) → IsHistory (Follows accepts) from entries to → to.faults ≡ 0 → list_any is_starved_call entries ≡ false → AreAnswered entries
  all_answered from to [] is none fed = tt
  all_answered from to (entry ∷ entries) is none fed =
      let both = neither (is_starved_call entry) (list_any is_starved_call entries) fed in
      let next = low is.0 to entries is.2 none in
      (answered-where entry.reply (λ faulty. let rose = is.1.rose faulty in let count = is.1.count in omega (arith, rose, count, next)) both.0, all_answered is.0 to entries is.2 none both.1)
