-- The objects that a block writes, with their places.
use Rattle.std.specs.Prelude.{ℕ, ◌+◌, List, [], ◌∷◌, ◌++◌, if◌then◌else◌}
use Rattle.chain_types.specs.declared.objects.Object.{Object}
use Rattle.chain_types.specs.declared.transactions.Input.{Input}
use Rattle.chain_types.specs.declared.transactions.Input.TheVariants as inputs
use Rattle.protocol_spec.specs.Block.Block as block
use Rattle.protocol_spec.specs.Block.Execution.{is_written}
use Rattle.ptb_run.specs.declared.value.Spot.TheVariants as spots
use Rattle.ptb_run.specs.declared.written.Moved.{Moved}
use Rattle.ptb_run.specs.Values.{spot_of}

abbrev pub moved_of : Moved → block.Place × Object
moved_of m = (spot_of m.spot, m.object)

abbrev pub with_written : Input → ℕ → Object → List Moved → List Moved
with_written i n o moved = if is_written i then moved ++ record { spot = spots.Input n; object = o } ∷ [] else moved

-- the list so far, and after it the written objects of these inputs, the first of which has this number
abbrev pub moved_after : List Moved → ℕ → List Input → List Object → List Moved
moved_after moved n [] os = moved
moved_after moved n (inputs.Pure bytes ∷ is) os = moved_after moved (n + 1) is os
moved_after moved n (inputs.Owned r ∷ is) [] = moved
moved_after moved n (inputs.Immutable r ∷ is) [] = moved
moved_after moved n (inputs.Shared id initial mutable ∷ is) [] = moved
moved_after moved n (inputs.Owned r ∷ is) (o ∷ os) = moved_after (with_written (inputs.Owned r) n o moved) (n + 1) is os
moved_after moved n (inputs.Immutable r ∷ is) (o ∷ os) = moved_after (with_written (inputs.Immutable r) n o moved) (n + 1) is os
moved_after moved n (inputs.Shared id initial mutable ∷ is) (o ∷ os) = moved_after (with_written (inputs.Shared id initial mutable) n o moved) (n + 1) is os
