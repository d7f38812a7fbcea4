-- Where the executions of a member come from.
use Rattle.std.specs.Prelude.{◌≡◌, ℕ, true, false, List, [], slice_get, Some}
use Rattle.chain_types.specs.declared.objects.Object.{Object}
use Rattle.protocol_spec.specs.declared.answers.Held.{Held}
use Rattle.schedule_text.specs.declared.words.Event.{Event}
use Rattle.chain_types.specs.Equal.{key_eq}
use Rattle.protocol_spec.specs.Chain.Words.{Has, Along, repeats}
use Rattle.protocol_spec.specs.Chain.Keys.{fits}
use Rattle.protocol_spec.specs.Block.Execution.{execution, written_keys}
use Rattle.protocol_spec.specs.Member.Versions.{Execution}
use Rattle.protocol_spec.specs.Member.Rounds.{Books, present, may_run, executes_as}
use Rattle.protocol_spec.specs.Member.Member.{books}
use Rattle.world_spec.specs.Setting.{Setting}
use Rattle.world_spec.specs.World.{Seat, member_in}
use Rattle.world_spec.specs.Run.{world_after}

-- After these executions, one of a held certificate, on the objects that it wants, which were there and fit it;
-- no key is written twice. If it has a shared input it was admitted.
pub record IsExplained (b : Books) (before : List Execution) (x : Execution) : Type 0 where
  pub of : Held
  pub inputs : List Object
  pub is_held : Has b.held of
  pub may : may_run b of ≡ true
  pub were_there : present b before of ≡ Some inputs
  pub fit : fits of.cert.tx inputs ≡ true
  pub is : x ≡ executes_as of (execution of.cert.tx inputs)
  pub once : repeats key_eq (written_keys (execution of.cert.tx inputs)) ≡ false

abbrev pub ExecutionsExplained : Type 0
ExecutionsExplained = (s : Setting) (events : List Event) (m : ℕ) (seat : Seat) → slice_get (world_after s events).seats m ≡ Some seat
    → Along (IsExplained (books (member_in s seat))) [] (member_in s seat).executed
