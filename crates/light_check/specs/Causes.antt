-- The first link of a chain that is bad, and the first cause. Source: this profile.
use Rattle.std.specs.Prelude.{◌≡◌, ℕ, ◌+◌, Bool, true, not, ◌&&◌, ◌==◌, List, [], ◌∷◌, Option, Some, None, option_map, Result, Ok, Err, if◌then◌else◌}
use Rattle.digest_core.specs.declared.Digest.{Digest}
use Rattle.quorum_core.specs.declared.signer.Signer.TheVariants as signers
use Rattle.quorum_core.specs.Committee.{is_quorum, is_roll, weight}
use Rattle.chain_messages.specs.declared.messages.MemberSeal.{MemberSeal}
use Rattle.checkpoint_core.specs.declared.checkpoints.Checkpoint.{Checkpoint}
use Rattle.checkpoint_core.specs.declared.links.LinkRefusal.{LinkRefusal}
use Rattle.checkpoint_core.specs.declared.links.LinkRefusal.TheVariants as link_refused
use Rattle.checkpoint_core.specs.Checkpoints.{digest_of_checkpoint}
use Rattle.checkpoint_core.specs.Links.{link_answer}
use Rattle.protocol_spec.specs.Chain.Words.{first_some, where_true}
use Rattle.light_check.specs.declared.cause.LinkCause.{LinkCause}
use Rattle.light_check.specs.declared.cause.LinkCause.TheVariants as link_cause
use Rattle.light_check.specs.declared.chain.Link.{Link}
use Rattle.light_check.specs.declared.chain.ChainRefusal.{ChainRefusal}
use Rattle.light_check.specs.declared.chain.ChainRefusal.TheVariants as refused
use Rattle.light_check.specs.declared.link.Tip.{Tip}
use Rattle.light_check.specs.Certified.{Accepting, members_in, stated}

-- what a link leaves for the check of the next one: number, digest, epoch, and whether the epoch ended
abbrev pub tip_of : Checkpoint → Tip
tip_of c = record { number = c.number; digest = digest_of_checkpoint c; epoch = c.epoch; last = c.last }

abbrev pub place_of_tip : Tip → ℕ × Digest
place_of_tip tip = (tip.number, tip.digest)

abbrev pub epoch_behind : Option Tip → ℕ
epoch_behind None = 0
epoch_behind (Some tip) = if tip.last then tip.epoch + 1 else tip.epoch

-- the number that a cause has in a refusal
abbrev pub number_of_cause : LinkCause → ℕ
number_of_cause link_cause.WrongNumber = 1
number_of_cause link_cause.WrongParent = 2
number_of_cause link_cause.WrongEpoch = 3
number_of_cause link_cause.Order = 4
number_of_cause link_cause.ShortStake = 5
number_of_cause link_cause.BadSeal = 6

abbrev pub cause_of_link : Result (Unit {0}) LinkRefusal → Option LinkCause
cause_of_link (Ok done) = None
cause_of_link (Err (link_refused.WrongNumber had want)) = Some link_cause.WrongNumber
cause_of_link (Err (link_refused.WrongParent had want)) = Some link_cause.WrongParent

abbrev pub all_accepted : Accepting → List ℕ → List MemberSeal → Bool
all_accepted accepts bytes [] = true
all_accepted accepts bytes (s ∷ seals) = accepts (signers.Member s.member) bytes s.seal && all_accepted accepts bytes seals

-- the first cause that applies
unfoldable pub cause_of : List ℕ → Accepting → Option Tip → Link → Option LinkCause
cause_of stakes accepts before l = first_some (
    cause_of_link (link_answer (option_map place_of_tip before) l.checkpoint) ∷
    where_true (not (l.checkpoint.epoch == epoch_behind before)) link_cause.WrongEpoch ∷
    where_true (not (is_roll stakes (members_in l))) link_cause.Order ∷
    where_true (not (is_quorum stakes (weight stakes (members_in l)))) link_cause.ShortStake ∷
    where_true (not (all_accepted accepts (stated l.checkpoint) l.seals)) link_cause.BadSeal ∷ [])

abbrev pub at_place : ℕ → Option LinkCause → Option (ℕ × ℕ)
at_place place cause = option_map (λ c. (place, number_of_cause c)) cause

-- the place of the first bad link and the number of its cause; the first link of the list stands at this place, after
-- this tip
abbrev pub first_bad_from : List ℕ → Accepting → ℕ → Option Tip → List Link → Option (ℕ × ℕ)
first_bad_from stakes accepts place before [] = None
first_bad_from stakes accepts place before (l ∷ ls) =
    first_some (at_place place (cause_of stakes accepts before l) ∷ first_bad_from stakes accepts (place + 1) (Some (tip_of l.checkpoint)) ls ∷ [])

abbrev pub first_bad : List ℕ → Accepting → List Link → Option (ℕ × ℕ)
first_bad stakes accepts links = first_bad_from stakes accepts 0 None links

-- the code's answer about a chain is the definition's; that memory was refused says nothing
abbrev pub Checks : Result (Unit {0}) ChainRefusal → Option (ℕ × ℕ) → Type 0
Checks (Ok done) bad = bad ≡ None
Checks (Err (refused.Bad place cause)) bad = bad ≡ Some (place, cause)
Checks (Err refused.OutOfMemory) bad = Unit {0}
