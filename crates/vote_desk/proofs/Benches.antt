-- One call of the member behind a vote desk, and the desk's clauses from those of the general one.
use Rattle.std.proofs.Common.{◌≡◌, ℕ, true, false, Bool, cond, List, [], ◌∷◌, ◌++◌, None, is_some, Result, Ok, Err, IsErrOf, refl, sym, ap, ◌∙◌, subst}
use Rattle.outside.specs.declared.keeper.Keeper.{Ghosts as Keeping}
use Rattle.quorum_core.specs.declared.sealer.Checker.{Ghosts as Sealing}
use Rattle.quorum_core.specs.declared.signer.Signer.{Signer}
use Rattle.digest_core.specs.declared.Digest.{Digest}
use Rattle.protocol_spec.specs.declared.answers.Voted.{Voted as Sent}
use Rattle.protocol_spec.specs.declared.refusals.VoteRefusal.{VoteRefusal}
use Rattle.protocol_spec.specs.declared.refusals.VoteRefusal.TheVariants as no_vote
use Rattle.protocol_spec.specs.Chain.Certificates.{Rules}
use Rattle.protocol_spec.specs.Member.Member.{fork_of}
use Rattle.protocol_spec.specs.Member.Calls.{Call, called}
use Rattle.world_spec.specs.Seats.{Seated}
use Rattle.validator_core.specs.Calls.{Votes}
use Rattle.validator_core.specs.Seats.{Behaves, Ended, answered, fell}
use Rattle.vote_desk.specs.declared.bench.MemberClerk.{MemberClerk}
use Rattle.vote_desk.specs.declared.desk.Desk.{Desk}
use Rattle.vote_desk.specs.declared.desk.DeskPass.{DeskPass}
use Rattle.vote_desk.specs.declared.entry.Asked.{Asked}
use Rattle.vote_desk.specs.declared.entry.DeskEntry.{DeskEntry}
use Rattle.vote_desk.specs.declared.standing.DeskView.{DeskView}
use Rattle.vote_desk.specs.declared.view.View.{View}
use Rattle.vote_desk.specs.Histories.{IsFront, IsHistory}
use Rattle.vote_desk.specs.Passes as passes
use Rattle.vote_desk.specs.Votes.{Follows, Replies, due, said, standing}
use Rattle.vote_desk.specs.Desks.{Asks, mine, opening, seen, state_of}

-- ---- the member

pub replies : {S : Type 0} (accepts : S → Signer → List ℕ → Digest → Bool) (s : DeskView S) (bytes : List ℕ) (reply : Result Sent VoteRefusal) → Votes (accepts s.sealer) s.validator.member (said accepts s bytes) reply
    → (IsErrOf reply no_vote.KeepFault → is_some (due accepts s bytes) ≡ true) → (IsErrOf reply no_vote.OutOfMemory → (s.validator.up ≡ true) × (fork_of s.validator.state ≡ None)) → Replies accepts s bytes reply
replies accepts s bytes (Ok v) is owed able = is
replies accepts s bytes (Err no_vote.KeepFault) is owed able = owed refl
replies accepts s bytes (Err no_vote.OutOfMemory) is owed able = able refl
replies accepts s bytes (Err no_vote.Down) is owed able = is
replies accepts s bytes (Err (no_vote.Halted first second)) is owed able = is
replies accepts s bytes (Err no_vote.Full) is owed able = is
replies accepts s bytes (Err (no_vote.Malformed fault)) is owed able = is
replies accepts s bytes (Err (no_vote.WrongEpoch had want)) is owed able = is
replies accepts s bytes (Err no_vote.Closed) is owed able = is
replies accepts s bytes (Err (no_vote.Invalid fault)) is owed able = is
replies accepts s bytes (Err no_vote.Unsealed) is owed able = is
replies accepts s bytes (Err (no_vote.Absent key)) is owed able = is
replies accepts s bytes (Err (no_vote.Consumed key by)) is owed able = is
replies accepts s bytes (Err (no_vote.WrongDigest key)) is owed able = is
replies accepts s bytes (Err (no_vote.WrongOwner key)) is owed able = is
replies accepts s bytes (Err (no_vote.WrongKind key)) is owed able = is
replies accepts s bytes (Err (no_vote.PoorGas had want)) is owed able = is
replies accepts s bytes (Err (no_vote.Locked key by)) is owed able = is

-- a call leaves the number of the member
pub number_stays : (r : Rules) (call : Call) (old new : Seated) (e : Ended) → Behaves r call old new e → new.member ≡ old.member
number_stays r call old new answered is = ap (λ (s : Seated). s.member) is ∙ go old.up
  where
    go : (up : Bool) → (cond up (record old { state = called r old.state call }) old).member ≡ old.member
    go true = refl
    go false = refl
number_stays r call old new fell is = ap (λ (s : Seated). s.member) is

-- ---- the desk

pub same_share : {S E : Type 0} (v w : View S E) → v ≡ w → v.share ≡ w.share
same_share v w is = ap (λ (u : View _ _). u.share) is

pub same_seen : {S E : Type 0} (v w : View S E) → v ≡ w → v.seen ≡ w.seen
same_seen v w is = ap (λ (u : View _ _). u.seen) is

pub same_mine : {S E : Type 0} (v w : View S E) → v ≡ w → v.mine ≡ w.mine
same_mine v w is = ap (λ (u : View _ _). u.mine) is

-- calls leave the sealer
pub sealer_stays : {S : Type 0} (accepts : S → Signer → List ℕ → Digest → Bool) (old new : DeskView S) (entries : List DeskEntry) → IsHistory (Follows accepts) old entries new → new.sealer ≡ old.sealer
sealer_stays accepts old new [] is = ap (λ (s : DeskView _). s.sealer) is
sealer_stays accepts old new (entry ∷ entries) is = sealer_stays accepts is.0 new entries is.2 ∙ is.1.sealer

module _ {D S : Type 0} {k : Keeping D} {z : Sealing S} where
  pub opening_is : (desk : Desk D S k z) (bench : MemberClerk D S k z) → passes.opened desk.serial ≡ bench → opening desk ≡ state_of bench
  opening_is desk bench is = ap (λ (b : MemberClerk D S k z). state_of b) is

  pub asks_of : (desk : Desk D S k z) (old new : DeskPass D S k z) (bytes : List ℕ) (asked : Asked) (reply : Result Sent VoteRefusal) → asked.bytes ≡ bytes
      → passes.Calls (Follows z.accepts) state_of (λ entry asked reply. (entry.bytes ≡ asked.bytes) × (entry.reply ≡ reply)) desk.serial (passes.view old.pass) (passes.view new.pass) asked reply → Asks desk old new bytes reply
  asks_of desk old new bytes asked reply same c =
      let here : DeskEntry = record { bytes = bytes; reply = reply; faults = c.entry.faults } in
      let is : c.entry ≡ here = λ i. record { bytes = (c.told.0 ∙ same) i; reply = c.told.1 i; faults = c.entry.faults } in record {
        before = c.before;
        front = c.front;
        left = c.left;
        history = c.history;
        faults = c.entry.faults;
        after = c.after;
        made = subst (λ (e : DeskEntry). Follows z.accepts c.left e c.after) is c.made;
        saw = ap (λ (v : View (DeskView S) DeskEntry). v.seen) c.view ∙ ap (λ (e : DeskEntry). c.before ++ e ∷ []) is;
        places = ap (λ (v : View (DeskView S) DeskEntry). v.mine) c.view;
      }

  pub waited_of : (old new : DeskPass D S k z) → passes.Waits (passes.view old.pass) (passes.view new.pass) → IsFront (seen old) (seen new) × (mine new ≡ mine old)
  waited_of old new w = (subst (IsFront (seen old)) (sym (ap (λ (v : View (DeskView S) DeskEntry). v.seen) w.view)) w.front, ap (λ (v : View (DeskView S) DeskEntry). v.mine) w.view)

  -- what a desk is closed with
  pub closed_of : (desk : Desk D S k z) (bench : MemberClerk D S k z) (entries : List DeskEntry) → IsHistory (Follows z.accepts) (opening desk) entries (state_of bench)
      → IsHistory (Follows z.accepts) (opening desk) entries (standing bench.validator (opening desk).sealer (k.failed bench.keeper) (k.lists bench.keeper))
  closed_of desk bench entries is =
      subst (λ (s : S). IsHistory (Follows z.accepts) (opening desk) entries (standing bench.validator s (k.failed bench.keeper) (k.lists bench.keeper)))
      (sealer_stays z.accepts (opening desk) (state_of bench) entries is) is
