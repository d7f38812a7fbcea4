use Rattle.std.proofs.Common.{◌≡◌, ◌++◌, length, map}
use Rattle.std.specs.Prelude.{filter_map}
use Rattle.protocol_spec.specs.Member.Rounds.{wants_of}
use Rattle.version_store.specs.Stores.{held_in}
use Rattle.exec_plan.specs.Drafts.{link_in, want_in}
use Rattle.exec_plan.proofs.drafting.wanting.Given as goal

-- what was passed, and then the rest
abbrev pub invariant-loop-need : goal.invariant-loop-need
invariant-loop-need l = record {
  wants : l.wants ++ map (want_in (held_in l.store) l.numbers.keys) l.needs ≡ map (want_in (held_in l.store) l.numbers.keys) (wants_of l.admission.admission l.held);
  links : l.links ++ filter_map (link_in (held_in l.store) l.numbers.keys) l.needs ≡ filter_map (link_in (held_in l.store) l.numbers.keys) (wants_of l.admission.admission l.held);
}

abbrev pub decreases-loop-need : goal.decreases-loop-need
decreases-loop-need l = length l.needs
