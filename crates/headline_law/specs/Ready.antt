-- All inputs that a held certificate wants, shared ones included, are there once their makers were executed, and they
-- fit.
use Rattle.std.specs.Prelude.{◌≡◌, ℕ, true, List, slice_get, Option, Some, is_some}
use Rattle.digest_core.specs.declared.Digest.{Digest}
use Rattle.chain_types.specs.declared.objects.Object.{Object}
use Rattle.chain_types.specs.declared.transactions.Input.{Input}
use Rattle.protocol_spec.specs.declared.answers.Held.{Held}
use Rattle.schedule_text.specs.declared.words.Event.{Event}
use Rattle.protocol_spec.specs.Chain.Words.{Has}
use Rattle.protocol_spec.specs.Chain.Keys.{is_shared_input, fits_input, fits}
use Rattle.protocol_spec.specs.Member.Versions.{versions}
use Rattle.protocol_spec.specs.Member.Admission.{is_admitted, joined_inputs, assigned_of}
use Rattle.protocol_spec.specs.Member.Rounds.{Wanted, wanted_by, found, present, may_run, is_maker_done}
use Rattle.protocol_spec.specs.Member.Member.{Member, books}
use Rattle.world_spec.specs.Setting.{Setting}
use Rattle.world_spec.specs.World.{Seat, member_in}
use Rattle.world_spec.specs.Run.{world_after}
use Rattle.world_spec.specs.Assumptions.{IsHonestRun}
use Rattle.block_law.specs.Orderly.{AreApart}

-- the version that an input of a held certificate wants: the named one of its origin, or the assigned one of its writer
abbrev pub wanted_of : Member → Held → Input → Option Digest → Wanted
wanted_of m h i origin = wanted_by (assigned_of m.sequence.admission h.digest) (i, origin)

-- The version that admission assigned to a shared input of an admitted certificate is there, at each member that holds
-- the certificate and executed the writer of the version.
abbrev pub SharedInputsArePresent : Type 0
SharedInputsArePresent = (s : Setting) (events : List Event) → IsHonestRun s events → AreApart s.opening
    → (m : ℕ) (seat : Seat) → slice_get (world_after s events).seats m ≡ Some seat
    → (h : Held) → Has (member_in s seat).held h → is_admitted (member_in s seat).sequence.admission.admitted h.digest ≡ true
    → (i : Input) (origin : Option Digest) → Has (joined_inputs h.cert) (i, origin) → is_shared_input i ≡ true
    → is_maker_done (member_in s seat).executed (wanted_of (member_in s seat) h i origin).producer ≡ true
    → is_some (found (versions (member_in s seat).opening (member_in s seat).executed) (wanted_of (member_in s seat) h i origin)) ≡ true

-- what is found for a shared input of a held certificate is an object of the input's id that is shared since the
-- version that the input says
abbrev pub SharedInputsFit : Type 0
SharedInputsFit = (s : Setting) (events : List Event) → IsHonestRun s events → AreApart s.opening
    → (m : ℕ) (seat : Seat) → slice_get (world_after s events).seats m ≡ Some seat
    → (h : Held) → Has (member_in s seat).held h → (i : Input) (origin : Option Digest) → Has (joined_inputs h.cert) (i, origin) → is_shared_input i ≡ true
    → (o : Object) → found (versions (member_in s seat).opening (member_in s seat).executed) (wanted_of (member_in s seat) h i origin) ≡ Some o → fits_input h.cert.tx i o ≡ true

-- No held certificate is unfit: if all that it wants is there, and it is admitted if it has a shared input, the
-- objects fit its transaction.
abbrev pub NoneIsUnfit : Type 0
NoneIsUnfit = (s : Setting) (events : List Event) → IsHonestRun s events → AreApart s.opening
    → (m : ℕ) (seat : Seat) → slice_get (world_after s events).seats m ≡ Some seat
    → (h : Held) → Has (member_in s seat).held h → may_run (books (member_in s seat)) h ≡ true
    → (objects : List Object) → present (books (member_in s seat)) (member_in s seat).executed h ≡ Some objects → fits h.cert.tx objects ≡ true
