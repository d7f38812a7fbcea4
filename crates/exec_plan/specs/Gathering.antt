-- The loop that collects the objects on which a task executes.
use Rattle.std.specs.Prelude.{Bool, true, false, List, [], ◌∷◌, ◌++◌, if◌then◌else◌}
use Rattle.std.specs.Option.{option_to_list}
use Rattle.chain_types.specs.declared.objects.Object.{Object}
use Rattle.exec_plan.specs.declared.task.Carry.{Carry}
use Rattle.exec_plan.specs.declared.task.Carry.TheVariants as carries
use Rattle.exec_plan.specs.declared.task.Gathered.{Gathered}
use Rattle.exec_plan.specs.declared.task.Gathered.TheVariants as gathered
use Rattle.exec_plan.specs.declared.task.Want.{Want}
use Rattle.exec_plan.specs.Tasks.{first_carry, object_of, other_carries}

abbrev pub is_lacking : Carry → Bool
is_lacking (carries.Object o) = false
is_lacking carries.Lacks = true
is_lacking carries.NotRun = false

-- the objects so far, and after them those of these wants; or the first want of which there is nothing
abbrev pub gathered_after : List Object → List Want → List Carry → Gathered
gathered_after objects [] inputs = gathered.All objects
gathered_after objects (w ∷ ws) inputs =
    if is_lacking (first_carry w.slot inputs) then gathered.Lacking w
    else gathered_after (objects ++ option_to_list (object_of (first_carry w.slot inputs))) ws (other_carries w.slot inputs)
