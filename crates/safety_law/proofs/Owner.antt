-- Two certified transactions of one epoch share an honest voter, so they consume no common version; and what that
-- voter was handed was signed by the sender.
use Rattle.std.proofs.Common.{inl, inr, refl, sym, subst, ap, ◌∙◌}
use Rattle.std.proofs.lemmas.Bool.{eqb-true}
use Rattle.std.specs.Prelude.{◌≡◌, ◌<◌, ◌==◌, ◌||◌, ℕ, zero, suc, Bool, true, false, List, [], ◌∷◌, map, length, slice_get, Some}
use Rattle.digest_core.specs.declared.Digest.{Digest}
use Rattle.chain_types.specs.Equal.{digest_eq}
use Rattle.chain_types.specs.declared.objects.ObjectKey.{ObjectKey}
use Rattle.chain_types.specs.declared.transactions.Transaction.{Transaction}
use Rattle.chain_types.specs.declared.transactions.SignedTx.{SignedTx}
use Rattle.chain_types.specs.Digests.{transaction_digest, consumed_keys}
use Rattle.chain_messages.specs.declared.messages.MemberSeal.{MemberSeal}
use Rattle.chain_messages.specs.declared.messages.Certificate.{Certificate}
use Rattle.journal_core.specs.declared.records.Record.TheVariants as record_as
use Rattle.schedule_text.specs.declared.words.Event.{Event}
use Rattle.protocol_spec.proofs.Equality.{digest_same, digest_self}
use Rattle.protocol_spec.specs.Chain.Words.{Has}
use Rattle.protocol_spec.specs.Chain.Committee.{is_among}
use Rattle.protocol_spec.specs.Chain.Certificates.{accepts_sender, members_of}
use Rattle.world_spec.specs.Setting.{Setting}
use Rattle.world_spec.specs.World.{Seat, new_seat, new_world, honest_seat, is_honest}
use Rattle.world_spec.specs.Run.{world_after}
use Rattle.world_spec.specs.Assumptions.{IsHonestRun, is_faulty_in}
use Rattle.safety_law.proofs.Meeting.{two_meet}
use Rattle.safety_law.proofs.Once.{voted-once, voted-alike}
use Rattle.safety_law.specs.Owners.{IsFormedOrValid, HasStated, all_handed}
use Rattle.safety_law.proofs.Grown.{grown-run}
use Rattle.safety_law.proofs.Handed.{WasHanded, voted-handed}
use Rattle.safety_law.proofs.Voted.{certified-quorum, certified-among, certified-stated, stated-kept, seat-of}

-- a member among the seals has one of them
among-seal : (xs : List MemberSeal) (m : ℕ) → is_among (map (λ (x : MemberSeal). x.member) xs) m ≡ true → (x : MemberSeal) × Has xs x × (x.member ≡ m)
among-seal [] m e = absurd (cc)
among-seal (x ∷ xs) m e = go (x.member == m) refl e (among-seal xs m)
  where
    longer : (y : MemberSeal) × Has xs y × (y.member ≡ m) → (y : MemberSeal) × Has (x ∷ xs) y × (y.member ≡ m)
    longer (y, h, q) = (y, inr h, q)

    go : (b : Bool) → (x.member == m) ≡ b → (b || is_among (map (λ (y : MemberSeal). y.member) xs) m) ≡ true → (is_among (map (λ (y : MemberSeal). y.member) xs) m ≡ true → (y : MemberSeal) × Has xs y × (y.member ≡ m)) → (y : MemberSeal) × Has (x ∷ xs) y × (y.member ≡ m)
    go true q e rest = (x, inl refl, eqb-true x.member m q)
    go false q e rest = longer (rest e)

-- a member that is not faulty is honest
pub honest-in : (honest : List Bool) (m : ℕ) → is_faulty_in honest m ≡ false → honest_seat (slice_get (map new_seat honest) m) ≡ true
honest-in [] m e = absurd (cc)
honest-in (true ∷ honest) zero e = refl
honest-in (false ∷ honest) zero e = absurd (cc)
honest-in (h ∷ honest) (suc m) e = honest-in honest m e

honest-first : (s : Setting) (m : ℕ) → is_faulty_in s.honest m ≡ false → is_honest (new_world s) m ≡ true
unfolding new_world
honest-first s m e = honest-in s.honest m e

pub honest-after : (s : Setting) (events : List Event) (m : ℕ) → is_faulty_in s.honest m ≡ false → is_honest (world_after s events) m ≡ true
unfolding world_after
honest-after s events m e = (grown-run s events (new_world s)).honest m ∙ honest-first s m e

-- an honest member that has both votes in its journal
pub record IsVoter (s : Setting) (events : List Event) (c d : Certificate) : Type 0 where
  pub member : ℕ
  pub seat : Seat
  pub at : slice_get (world_after s events).seats member ≡ Some seat
  pub honest : is_honest (world_after s events) member ≡ true
  pub first : Has seat.records (record_as.Vote c.tx c.origins)
  pub second : Has seat.records (record_as.Vote d.tx d.origins)

module _ (s : Setting) (events : List Event) (run_is : IsHonestRun s events) where
  kept-vote : (c : Certificate) → IsFormedOrValid s events c → (m : ℕ) (seat : Seat) → slice_get (world_after s events).seats m ≡ Some seat → is_honest (world_after s events) m ≡ true → seat.honest ≡ true → is_among (members_of c) m ≡ true → Has seat.records (record_as.Vote c.tx c.origins)
  kept-vote c certified m seat at honest is among = go (among-seal c.seals m among)
    where
      go : (x : MemberSeal) × Has c.seals x × (x.member ≡ m) → Has seat.records (record_as.Vote c.tx c.origins)
      go (x, h, q) =
          let told = certified-stated s events run_is c certified x h (subst (λ (n : ℕ). is_honest (world_after s events) n ≡ true) (sym q) honest) in
          stated-kept s events run_is c certified m seat at is (subst (λ (n : ℕ). HasStated (world_after s events) c n) q told)

  pub voter : (c d : Certificate) → IsFormedOrValid s events c → IsFormedOrValid s events d → IsVoter s events c d
  voter c d is_c is_d = found (two_meet s.rules.stakes (is_among (members_of c)) (is_among (members_of d)) (is_faulty_in s.honest) (certified-quorum s events run_is c is_c) (certified-quorum s events run_is d is_d) run_is.few_faulty)
    where
      found : (m : ℕ) × (m < length s.rules.stakes) × (is_among (members_of c) m ≡ true) × (is_among (members_of d) m ≡ true) × (is_faulty_in s.honest m ≡ false) → IsVoter s events c d
      found (m, low, in_c, in_d, sound) =
          let honest = honest-after s events m sound in
          let at = seat-of s events run_is m honest in
          record {
            member = m;
            seat = at.0;
            at = at.1;
            honest = honest;
            first = kept-vote c is_c m at.0 at.1 honest at.2 in_c;
            second = kept-vote d is_d m at.0 at.1 honest at.2 in_d;
          }

  pub owner : (c d : Certificate) → IsFormedOrValid s events c → IsFormedOrValid s events d → c.tx.epoch ≡ d.tx.epoch → (key : ObjectKey) → Has (consumed_keys c.tx) key → Has (consumed_keys d.tx) key → c.tx ≡ d.tx
  owner c d is_c is_d same key k l = go (digest_eq (transaction_digest c.tx) (transaction_digest d.tx)) refl
    where
      both : IsVoter s events c d
      both = voter c d is_c is_d

      differ : digest_eq (transaction_digest c.tx) (transaction_digest d.tx) ≡ false → transaction_digest c.tx ≡ transaction_digest d.tx → ⊥
      differ other e = let is = subst (λ (x : Digest). digest_eq (transaction_digest c.tx) x ≡ true) e (digest_self (transaction_digest c.tx)) in cc

      go : (b : Bool) → digest_eq (transaction_digest c.tx) (transaction_digest d.tx) ≡ b → c.tx ≡ d.tx
      go true e = run_is.transactions c.tx d.tx (certified-among s events run_is c is_c) (certified-among s events run_is d is_d) (digest_same (transaction_digest c.tx) (transaction_digest d.tx) e)
      go false e = absurd (voted-once s events both.member both.seat both.at c.tx d.tx c.origins d.origins both.first both.second same (differ e) key k l)

  pub origins : (c d : Certificate) → IsFormedOrValid s events c → IsFormedOrValid s events d → transaction_digest c.tx ≡ transaction_digest d.tx → c.origins ≡ d.origins
  origins c d is_c is_d same =
      let both = voter c d is_c is_d in
      let one = run_is.transactions c.tx d.tx (certified-among s events run_is c is_c) (certified-among s events run_is d is_d) same in
      voted-alike s events both.member both.seat both.at c.tx d.tx c.origins d.origins both.first both.second (ap (λ (t : Transaction). t.epoch) one) same

  pub signed : (c : Certificate) → IsFormedOrValid s events c → (m : ℕ) × (x : SignedTx) × (is_honest (world_after s events) m ≡ true) × Has (all_handed s events m) x × (x.tx ≡ c.tx) × (accepts_sender s.rules x.tx x.seal ≡ true)
  signed c is_c = go (voter c c is_c is_c)
    where
      go : IsVoter s events c c → (m : ℕ) × (x : SignedTx) × (is_honest (world_after s events) m ≡ true) × Has (all_handed s events m) x × (x.tx ≡ c.tx) × (accepts_sender s.rules x.tx x.seal ≡ true)
      go v = with_handed (voted-handed s events v.member v.seat v.at c.tx c.origins v.first)
        where
          with_handed : WasHanded s (all_handed s events) v.member c.tx → (m : ℕ) × (x : SignedTx) × (is_honest (world_after s events) m ≡ true) × Has (all_handed s events m) x × (x.tx ≡ c.tx) × (accepts_sender s.rules x.tx x.seal ≡ true)
          with_handed (x, h, e, a) = (v.member, x, v.honest, h, e, a)
