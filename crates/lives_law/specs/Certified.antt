-- Two certificates over the lives of the members of a committee, whatever they were asked. Source: Sui Lutris.
use Rattle.std.specs.Prelude.{◌≡◌, ◌<◌, ◌*◌, ℕ, Bool, true, false, List, Option, None}
use Rattle.digest_core.specs.declared.Digest.{Digest}
use Rattle.chain_types.specs.declared.objects.Object.{Object}
use Rattle.chain_types.specs.declared.objects.ObjectKey.{ObjectKey}
use Rattle.chain_types.specs.declared.transactions.Transaction.{Transaction}
use Rattle.chain_types.specs.Digests.{consumed_keys, transaction_digest}
use Rattle.chain_messages.specs.declared.messages.Certificate.{Certificate}
use Rattle.journal_core.specs.declared.records.Record.{Record}
use Rattle.journal_core.specs.declared.records.Record.TheVariants as record_as
use Rattle.protocol_spec.specs.Chain.Words.{Has}
use Rattle.protocol_spec.specs.Chain.Certificates.{Rules, cert_refusal, members_of}
use Rattle.protocol_spec.specs.Chain.Committee.{is_among, total_of, weight_of}
use Rattle.lives_law.specs.Lives.{Answered, AreLives, IsVote, Life, all_answered, last_records}

-- the members of a committee: which of them are faulty, the records that each of the others found at first, and its lives
pub record Members : Type 0 where
  pub faulty : ℕ → Bool
  pub first : ℕ → List Record
  pub lives : ℕ → List Life

module _ (r : Rules) (opening : List Object) (all : Members) where
  abbrev pub HaveLived : Type 0
  HaveLived = (m : ℕ) → all.faulty m ≡ false → AreLives r opening (all.first m) (all.lives m)

  -- each member that is not faulty, and whose seal stands in the certificate, answered the certificate's vote in one
  -- of its lives
  abbrev pub IsVotedFor : Certificate → Type 0
  IsVotedFor c = (m : ℕ) → all.faulty m ≡ false → is_among (members_of c) m ≡ true
      → (a : Answered) × Has (all_answered r opening (all.lives m)) a × IsVote r opening a c.tx.epoch (transaction_digest c.tx) c.origins

  -- no member that is not faulty has voted for another transaction with the digest of this certificate's
  abbrev pub IsAlone : Certificate → Type 0
  IsAlone c = (m : ℕ) → all.faulty m ≡ false → (t : Transaction) (o : List (Option Digest)) → Has (last_records (all.first m) (all.lives m)) (record_as.Vote t o)
      → transaction_digest t ≡ transaction_digest c.tx → t ≡ c.tx

  -- a valid certificate of which no seal is forged, and whose digest names one transaction
  pub record IsGood (c : Certificate) : Type 0 where
    pub valid : cert_refusal r c ≡ None
    pub voted_for : IsVotedFor c
    pub alone : IsAlone c

-- if less than a third of the stake is faulty, two good certificates of one epoch that consume one version are of one
-- transaction
abbrev pub OneOwnerOverLives : Type 0
OneOwnerOverLives = (r : Rules) (opening : List Object) (all : Members) → HaveLived r opening all → 3 * weight_of r.stakes all.faulty < total_of r.stakes
    → (c d : Certificate) → IsGood r opening all c → IsGood r opening all d → c.tx.epoch ≡ d.tx.epoch
    → (key : ObjectKey) → Has (consumed_keys c.tx) key → Has (consumed_keys d.tx) key → c.tx ≡ d.tx
