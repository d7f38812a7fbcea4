-- What two members of one epoch execute alike.
use Rattle.std.specs.Prelude.{◌≡◌, ℕ, List, slice_get, Some}
use Rattle.protocol_spec.specs.declared.answers.Held.{Held}
use Rattle.schedule_text.specs.declared.words.Event.{Event}
use Rattle.protocol_spec.specs.Chain.Words.{Has}
use Rattle.protocol_spec.specs.Member.Versions.{Execution}
use Rattle.protocol_spec.specs.Member.Member.{Member}
use Rattle.world_spec.specs.Setting.{Setting}
use Rattle.world_spec.specs.World.{Seat, member_in}
use Rattle.world_spec.specs.Run.{world_after}
use Rattle.world_spec.specs.Assumptions.{IsHonestRun}

-- certificates of one digest have one transaction, and name the same origins
abbrev pub AreHeldAlike : Member → Member → Type 0
AreHeldAlike a b = (h k : Held) → Has a.held h → Has b.held k → h.digest ≡ k.digest → (h.cert.tx ≡ k.cert.tx) × (h.cert.origins ≡ k.cert.origins)

-- if their certificates are alike in this sense, two members of one epoch that opened it with equal objects give the
-- same for a transaction that both executed, in whatever order they executed
abbrev pub ExecutionsAgree : Type 0
ExecutionsAgree = (s : Setting) (events : List Event) (m n : ℕ) (a b : Seat)
    → slice_get (world_after s events).seats m ≡ Some a → slice_get (world_after s events).seats n ≡ Some b
    → (member_in s a).epoch ≡ (member_in s b).epoch → (member_in s a).opening ≡ (member_in s b).opening
    → AreHeldAlike (member_in s a) (member_in s b)
    → (x y : Execution) → Has (member_in s a).executed x → Has (member_in s b).executed y → x.digest ≡ y.digest → x.gave ≡ y.gave

-- under the run assumptions, held certificates of one digest have one transaction
abbrev pub OneTransaction : Type 0
OneTransaction = (s : Setting) (events : List Event) → IsHonestRun s events → (m n : ℕ) (a b : Seat)
    → slice_get (world_after s events).seats m ≡ Some a → slice_get (world_after s events).seats n ≡ Some b
    → (h k : Held) → Has (member_in s a).held h → Has (member_in s b).held k → h.digest ≡ k.digest → h.cert.tx ≡ k.cert.tx
