-- A held certificate is ready if its inputs are present and, if one is shared, it has been admitted: the inputs fit, and
-- no key that it writes exists yet. A certificate that is due (its origins and assigned writers were executed) is ready
-- too, and the next round executes it. Source: Sui Lutris (execution of certificates); this profile (rounds).
use Rattle.std.specs.Prelude.{◌≡◌, ℕ, true, false, List, ◌++◌, slice_get, Some}
use Rattle.chain_types.specs.declared.objects.ObjectKey.{ObjectKey}
use Rattle.chain_types.specs.declared.objects.Object.{Object}
use Rattle.protocol_spec.specs.declared.answers.Held.{Held}
use Rattle.schedule_text.specs.declared.words.Event.{Event}
use Rattle.protocol_spec.specs.Chain.Words.{Has}
use Rattle.protocol_spec.specs.Block.Execution.{execution, written_keys}
use Rattle.protocol_spec.specs.Member.Versions.{Execution, versions, is_executed}
use Rattle.protocol_spec.specs.Member.Rounds.{present, may_run, writes_new, executes_as, ready, round_of, is_due}
use Rattle.protocol_spec.specs.Member.Member.{Member, books}
use Rattle.world_spec.specs.Setting.{Setting}
use Rattle.world_spec.specs.World.{Seat, member_in}
use Rattle.world_spec.specs.Run.{world_after}
use Rattle.world_spec.specs.Assumptions.{IsHonestRun}
use Rattle.block_law.specs.Orderly.{AreApart}

-- the member holds the certificate, its inputs are these, and it is admitted if it has a shared input
pub record MayExecute (m : Member) (h : Held) (objects : List Object) : Type 0 where
  pub is_held : Has m.held h
  pub may : may_run (books m) h ≡ true
  pub there : present (books m) m.executed h ≡ Some objects

-- a certificate that may execute and was not executed writes no key that is there already, and no key twice
abbrev pub WritesNewKeys : Type 0
WritesNewKeys = (s : Setting) (events : List Event) → IsHonestRun s events → AreApart s.opening
    → (m : ℕ) (seat : Seat) → slice_get (world_after s events).seats m ≡ Some seat
    → (h : Held) (objects : List Object) → MayExecute (member_in s seat) h objects → is_executed (member_in s seat).executed h.digest ≡ false
    → writes_new (versions (member_in s seat).opening (member_in s seat).executed) (written_keys (execution h.cert.tx objects)) ≡ true

-- a certificate that may execute and was not executed is ready
abbrev pub PresentIsReady : Type 0
PresentIsReady = (s : Setting) (events : List Event) → IsHonestRun s events → AreApart s.opening
    → (m : ℕ) (seat : Seat) → slice_get (world_after s events).seats m ≡ Some seat
    → (h : Held) (objects : List Object) → MayExecute (member_in s seat) h objects → is_executed (member_in s seat).executed h.digest ≡ false
    → ready (books (member_in s seat)) (member_in s seat).executed h ≡ Some (executes_as h (execution h.cert.tx objects))

-- a held certificate whose inputs are all there, and that is ready on them
pub record IsReady (m : Member) (h : Held) : Type 0 where
  pub objects : List Object
  pub there : present (books m) m.executed h ≡ Some objects
  pub ready_is : ready (books m) m.executed h ≡ Some (executes_as h (execution h.cert.tx objects))

-- each certificate that is due (not executed, although all its origins and assigned writers were) is ready
abbrev pub DueIsReady : Type 0
DueIsReady = (s : Setting) (events : List Event) → IsHonestRun s events → AreApart s.opening
    → (m : ℕ) (seat : Seat) → slice_get (world_after s events).seats m ≡ Some seat
    → (h : Held) → Has (member_in s seat).held h → is_due (books (member_in s seat)) (member_in s seat).executed h ≡ true
    → IsReady (member_in s seat) h

-- no two certificates that may execute write one key, so none keeps another out of a round
abbrev pub NothingClashes : Type 0
NothingClashes = (s : Setting) (events : List Event) → IsHonestRun s events → AreApart s.opening
    → (m : ℕ) (seat : Seat) → slice_get (world_after s events).seats m ≡ Some seat
    → (h k : Held) (objects others : List Object) → MayExecute (member_in s seat) h objects → MayExecute (member_in s seat) k others
    → (key : ObjectKey) → Has (written_keys (execution h.cert.tx objects)) key → Has (written_keys (execution k.cert.tx others)) key → h.digest ≡ k.digest

-- the next round executes each certificate that is ready
abbrev pub NextRoundTakesAll : Type 0
NextRoundTakesAll = (s : Setting) (events : List Event) → IsHonestRun s events → AreApart s.opening
    → (m : ℕ) (seat : Seat) → slice_get (world_after s events).seats m ≡ Some seat
    → (h : Held) (x : Execution) → Has (member_in s seat).held h → ready (books (member_in s seat)) (member_in s seat).executed h ≡ Some x
    → is_executed ((member_in s seat).executed ++ round_of (books (member_in s seat)) (member_in s seat).executed) h.digest ≡ true

-- the next round executes each certificate that is due
abbrev pub NextRoundTakesDue : Type 0
NextRoundTakesDue = (s : Setting) (events : List Event) → IsHonestRun s events → AreApart s.opening
    → (m : ℕ) (seat : Seat) → slice_get (world_after s events).seats m ≡ Some seat
    → (h : Held) → Has (member_in s seat).held h → is_due (books (member_in s seat)) (member_in s seat).executed h ≡ true
    → is_executed ((member_in s seat).executed ++ round_of (books (member_in s seat)) (member_in s seat).executed) h.digest ≡ true
