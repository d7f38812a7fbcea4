-- Two certificates share a voter that is not faulty, and over its lives it voted for one of them only.
use Rattle.std.proofs.Common.{refl, sym, subst, ◌∙◌}
use Rattle.std.specs.Prelude.{◌≡◌, ◌<◌, ◌*◌, ℕ, Bool, true, false, List}
use Rattle.digest_core.specs.declared.Digest.{Digest}
use Rattle.chain_types.specs.Equal.{digest_eq}
use Rattle.chain_types.specs.declared.objects.Object.{Object}
use Rattle.chain_types.specs.declared.objects.ObjectKey.{ObjectKey}
use Rattle.chain_types.specs.declared.transactions.Transaction.{Transaction}
use Rattle.chain_types.specs.Digests.{consumed_keys, transaction_digest}
use Rattle.chain_messages.specs.declared.messages.Certificate.{Certificate}
use Rattle.journal_core.specs.declared.records.Record.{Record}
use Rattle.protocol_spec.proofs.Equality.{digest_same, digest_self}
use Rattle.protocol_spec.specs.Chain.Words.{Has}
use Rattle.protocol_spec.specs.Chain.Certificates.{Rules, members_of}
use Rattle.protocol_spec.specs.Chain.Committee.{is_among, total_of, weight_of}
use Rattle.safety_law.proofs.Meeting.{two_meet}
use Rattle.safety_law.proofs.Voted.{valid-quorum}
use Rattle.lives_law.specs.Certified.{HaveLived, IsGood, Members}
use Rattle.lives_law.specs.Lives.{AreTwoVotes, IsVote, last_records}
use Rattle.lives_law.proofs.Standing.{nothing-back}

module _ (r : Rules) (opening : List Object) (all : Members) (lived : HaveLived r opening all) (few : 3 * weight_of r.stakes all.faulty < total_of r.stakes) (c d : Certificate) (good_c : IsGood r opening all c) (good_d : IsGood r opening all d) (epoch : c.tx.epoch ≡ d.tx.epoch) where
  abbrev file : ℕ → List Record
  file m = last_records (all.first m) (all.lives m)

  abbrev Both : ℕ → Type 0
  Both m = AreTwoVotes (file m) c.tx.epoch (transaction_digest c.tx) (transaction_digest d.tx) c.origins d.origins

  both : (m : ℕ) → all.faulty m ≡ false → is_among (members_of c) m ≡ true → is_among (members_of d) m ≡ true → Both m
  both m sound in_c in_d =
      let a = good_c.voted_for m sound in_c in
      let b = good_d.voted_for m sound in_d in
      (nothing-back r opening (all.first m) (all.lives m) (lived m sound)).votes a.0 b.0 a.1 b.1 c.tx.epoch (transaction_digest c.tx) (transaction_digest d.tx) c.origins d.origins a.2
      (subst (λ (n : ℕ). IsVote r opening b.0 n (transaction_digest d.tx) d.origins) (sym epoch) b.2)

  apart-digests : (x y : Digest) → digest_eq x y ≡ false → x ≡ y → ⊥
  apart-digests x y other e = let is = subst (λ (z : Digest). digest_eq x z ≡ true) e (digest_self x) in cc

  one-of : (m : ℕ) → all.faulty m ≡ false → Both m → (key : ObjectKey) → Has (consumed_keys c.tx) key → Has (consumed_keys d.tx) key → c.tx ≡ d.tx
  one-of m sound two key k l = go (digest_eq (transaction_digest c.tx) (transaction_digest d.tx)) refl
    where
      first : two.first.transaction ≡ c.tx
      first = good_c.alone m sound two.first.transaction c.origins two.first.stands two.first.digest_is

      second : two.second.transaction ≡ d.tx
      second = good_d.alone m sound two.second.transaction d.origins two.second.stands two.second.digest_is

      go : (b : Bool) → digest_eq (transaction_digest c.tx) (transaction_digest d.tx) ≡ b → c.tx ≡ d.tx
      go true e = sym first ∙ good_d.alone m sound two.first.transaction c.origins two.first.stands (two.first.digest_is ∙ digest_same (transaction_digest c.tx) (transaction_digest d.tx) e)
      go false e = absurd (two.apart (apart-digests (transaction_digest c.tx) (transaction_digest d.tx) e) key
          (subst (λ (t : Transaction). Has (consumed_keys t) key) (sym first) k)
          (subst (λ (t : Transaction). Has (consumed_keys t) key) (sym second) l))

  owned : (key : ObjectKey) → Has (consumed_keys c.tx) key → Has (consumed_keys d.tx) key → c.tx ≡ d.tx
  owned key k l =
      let at = two_meet r.stakes (is_among (members_of c)) (is_among (members_of d)) all.faulty (valid-quorum r c good_c.valid) (valid-quorum r d good_d.valid) few in
      one-of at.0 at.4 (both at.0 at.4 at.2 at.3) key k l

pub one-owner-over-lives : (r : Rules) (opening : List Object) (all : Members) → HaveLived r opening all → 3 * weight_of r.stakes all.faulty < total_of r.stakes
    → (c d : Certificate) → IsGood r opening all c → IsGood r opening all d → c.tx.epoch ≡ d.tx.epoch
    → (key : ObjectKey) → Has (consumed_keys c.tx) key → Has (consumed_keys d.tx) key → c.tx ≡ d.tx
one-owner-over-lives r opening all lived few c d good_c good_d epoch key k l = owned r opening all lived few c d good_c good_d epoch key k l
