-- What the sequence of an epoch gives to all members alike.
use Rattle.std.specs.Prelude.{◌≡◌, ◌⊎◌, ℕ, List, [], map, length, slice_get, Some, None}
use Rattle.digest_core.specs.declared.Digest.{Digest}
use Rattle.protocol_spec.specs.declared.answers.Held.{Held}
use Rattle.chain_messages.specs.declared.messages.Certificate.{Certificate}
use Rattle.chain_messages.specs.declared.messages.Entry.{Entry}
use Rattle.chain_messages.specs.Messages as messages
use Rattle.schedule_text.specs.declared.words.Event.{Event}
use Rattle.chain_types.specs.Digests.{transaction_digest}
use Rattle.protocol_spec.specs.Chain.Words.{Has, Each, Along, IsFront}
use Rattle.protocol_spec.specs.Chain.Certificates.{Rules, cert_refusal}
use Rattle.protocol_spec.specs.Member.Admission.{Admitted}
use Rattle.protocol_spec.specs.Member.Sequence.{Sequence, seen}
use Rattle.protocol_spec.specs.Member.Member.{Member}
use Rattle.world_spec.specs.Setting.{Setting}
use Rattle.world_spec.specs.World.{Seat, member_in, entries_at}
use Rattle.world_spec.specs.Run.{world_after}
use Rattle.world_spec.specs.Assumptions.{all_delivered}
use Rattle.block_law.specs.Admitted.{IsInOrder}

-- what a member has of its sequence is what the first entries of its epoch give
pub record IsTaken (r : Rules) (entries : List Entry) (m : Member) : Type 0 where
  pub front : List Entry
  pub is_front : IsFront front entries
  pub number : length front ≡ m.sequence.number
  pub gives : m.sequence ≡ seen r m.opening m.epoch (map messages.entry.spell front)

abbrev pub MembersFollowTheSequence : Type 0
MembersFollowTheSequence = (s : Setting) (events : List Event) (m : ℕ) (seat : Seat) → slice_get (world_after s events).seats m ≡ Some seat
    → IsTaken s.rules (entries_at (world_after s events).sequences (member_in s seat).epoch) (member_in s seat)

-- the admitted transactions and the cuts of the one are prefixes of those of the other
pub record IsEarlier (q p : Sequence) : Type 0 where
  pub admitted : IsFront q.admission.admitted p.admission.admitted
  pub cuts : IsFront q.cuts p.cuts

-- of two members of one epoch that opened it with equal objects, one has admitted and cut a prefix of what the other has
abbrev pub OneSequence : Type 0
OneSequence = (s : Setting) (events : List Event) (m n : ℕ) (a b : Seat)
    → slice_get (world_after s events).seats m ≡ Some a → slice_get (world_after s events).seats n ≡ Some b
    → (member_in s a).epoch ≡ (member_in s b).epoch → (member_in s a).opening ≡ (member_in s b).opening
    → IsEarlier (member_in s a).sequence (member_in s b).sequence ⊎ IsEarlier (member_in s b).sequence (member_in s a).sequence

-- the certificate has this digest, is valid and of this epoch, and was delivered
pub record IsGiven (r : Rules) (delivered : List Certificate) (epoch : ℕ) (digest : Digest) (c : Certificate) : Type 0 where
  pub digest_is : digest ≡ transaction_digest c.tx
  pub valid : cert_refusal r c ≡ None
  pub epoch_is : c.tx.epoch ≡ epoch
  pub comes : Has delivered c

abbrev pub IsAdmittedAsGiven : Rules → List Certificate → ℕ → Admitted → Type 0
IsAdmittedAsGiven r delivered epoch a = IsGiven r delivered epoch a.digest a.cert

abbrev pub IsHeldAsGiven : Rules → List Certificate → ℕ → Held → Type 0
IsHeldAsGiven r delivered epoch h = IsGiven r delivered epoch h.digest h.cert

-- a member's admitted transactions are in order, and each has a certificate that was given (`IsGiven`)
pub record IsAdmittedInOrder (s : Setting) (events : List Event) (m : Member) : Type 0 where
  pub order : Along (IsInOrder m.opening) [] m.sequence.admission.admitted
  pub given : Each (IsAdmittedAsGiven s.rules (all_delivered s events) m.epoch) m.sequence.admission.admitted

abbrev pub EveryAdmission : Type 0
EveryAdmission = (s : Setting) (events : List Event) (m : ℕ) (seat : Seat) → slice_get (world_after s events).seats m ≡ Some seat
    → IsAdmittedInOrder s events (member_in s seat)

abbrev pub HeldAsGiven : Type 0
HeldAsGiven = (s : Setting) (events : List Event) (m : ℕ) (seat : Seat) → slice_get (world_after s events).seats m ≡ Some seat
    → Each (IsHeldAsGiven s.rules (all_delivered s events) (member_in s seat).epoch) (member_in s seat).held
