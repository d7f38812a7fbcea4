-- The owned and immutable inputs of a held certificate are there once their origins were executed, and they fit.
use Rattle.std.specs.Prelude.{◌≡◌, ℕ, true, false, List, slice_get, Option, Some, is_some}
use Rattle.digest_core.specs.declared.Digest.{Digest}
use Rattle.chain_types.specs.declared.objects.Object.{Object}
use Rattle.chain_types.specs.declared.transactions.Transaction.{Transaction}
use Rattle.chain_types.specs.declared.transactions.Input.{Input}
use Rattle.chain_types.specs.declared.transactions.Input.TheVariants as inputs
use Rattle.chain_types.specs.Digests.{key_of}
use Rattle.protocol_spec.specs.declared.answers.Held.{Held}
use Rattle.schedule_text.specs.declared.words.Event.{Event}
use Rattle.protocol_spec.specs.Chain.Words.{Has}
use Rattle.protocol_spec.specs.Chain.Keys.{has_shared_input, fits_input, fits}
use Rattle.protocol_spec.specs.Member.Versions.{versions}
use Rattle.protocol_spec.specs.Member.Admission.{joined_inputs}
use Rattle.protocol_spec.specs.Member.Rounds.{wanted_version, found, present, is_origin_done}
use Rattle.protocol_spec.specs.Member.Member.{Member, books}
use Rattle.world_spec.specs.Setting.{Setting}
use Rattle.world_spec.specs.World.{Seat, member_in}
use Rattle.world_spec.specs.Run.{world_after}
use Rattle.world_spec.specs.Assumptions.{IsHonestRun}
use Rattle.block_law.specs.Orderly.{AreApart}

-- the version that an owned or immutable input names, of the origin that the certificate names
abbrev pub IsPresent : Member → Input → Option Digest → Type 0
IsPresent m (inputs.Pure bytes) origin = Unit {0}
IsPresent m (inputs.Owned r) origin = is_some (found (versions m.opening m.executed) (wanted_version (key_of r) origin)) ≡ true
IsPresent m (inputs.Immutable r) origin = is_some (found (versions m.opening m.executed) (wanted_version (key_of r) origin)) ≡ true
IsPresent m (inputs.Shared id initial mutable) origin = Unit {0}

-- under the run assumptions, each owned or immutable input is present at each member that holds the certificate and
-- executed the input's origin
abbrev pub OwnedInputsArePresent : Type 0
OwnedInputsArePresent = (s : Setting) (events : List Event) → IsHonestRun s events → AreApart s.opening
    → (m : ℕ) (seat : Seat) → slice_get (world_after s events).seats m ≡ Some seat
    → (h : Held) → Has (member_in s seat).held h → (i : Input) (origin : Option Digest) → Has (joined_inputs h.cert) (i, origin)
    → is_origin_done (member_in s seat).executed origin ≡ true → IsPresent (member_in s seat) i origin

-- what is found for such an input is what the transaction's input says
abbrev pub FitsAsNamed : Member → Transaction → Input → Option Digest → Type 0
FitsAsNamed m t (inputs.Pure bytes) origin = Unit {0}
FitsAsNamed m t (inputs.Owned r) origin = (o : Object) → found (versions m.opening m.executed) (wanted_version (key_of r) origin) ≡ Some o → fits_input t (inputs.Owned r) o ≡ true
FitsAsNamed m t (inputs.Immutable r) origin = (o : Object) → found (versions m.opening m.executed) (wanted_version (key_of r) origin) ≡ Some o → fits_input t (inputs.Immutable r) o ≡ true
FitsAsNamed m t (inputs.Shared id initial mutable) origin = Unit {0}

-- under the run assumptions, what is found for each owned or immutable input fits it, at each member that holds the
-- certificate
abbrev pub OwnedInputsFit : Type 0
OwnedInputsFit = (s : Setting) (events : List Event) → IsHonestRun s events → AreApart s.opening
    → (m : ℕ) (seat : Seat) → slice_get (world_after s events).seats m ≡ Some seat
    → (h : Held) → Has (member_in s seat).held h → (i : Input) (origin : Option Digest) → Has (joined_inputs h.cert) (i, origin)
    → FitsAsNamed (member_in s seat) h.cert.tx i origin

-- under the run assumptions, if all inputs of a certificate without shared inputs are there, they fit the transaction
abbrev pub CertificatesFit : Type 0
CertificatesFit = (s : Setting) (events : List Event) → IsHonestRun s events → AreApart s.opening
    → (m : ℕ) (seat : Seat) → slice_get (world_after s events).seats m ≡ Some seat
    → (h : Held) → Has (member_in s seat).held h → has_shared_input h.cert.tx ≡ false
    → (objects : List Object) → present (books (member_in s seat)) (member_in s seat).executed h ≡ Some objects → fits h.cert.tx objects ≡ true
