use Rattle.std.proofs.Common.{List, ℕ, ◌≡◌, ◌∙◌, sym, subst, true}
use Rattle.quorum_core.specs.Committee.{is_roll}
use Rattle.inspect.proofs.Rivals.{double_roll, sound_short}
use Rattle.inspect.proofs.pairs.add_pair.Goals as goal

pub blame-requires-clause-one : goal.blame-requires-clause-one
blame-requires-clause-one c = sound_short c.args.committee.now c.args.one.now c.requires.one

pub blame-requires-clause-other : goal.blame-requires-clause-other
blame-requires-clause-other c = sound_short c.args.committee.now c.args.other.now c.requires.other

pub add_double-requires-clause-one : goal.add_double-requires-clause-one
add_double-requires-clause-one c = sound_short c.args.committee.now c.args.one.now c.requires.one

pub add_double-requires-clause-other : goal.add_double-requires-clause-other
add_double-requires-clause-other c = sound_short c.args.committee.now c.args.other.now c.requires.other

pub add_double-requires-clause-roll : goal.add_double-requires-clause-roll
add_double-requires-clause-roll c =
    subst (λ (members : List ℕ). is_roll c.args.committee.now members ≡ true) (sym c.as_slice-members.ensures.value)
    (double_roll c.args.committee.now c.args.one.now c.args.other.now c.in-Ok-Some.double c.requires.other (sym c.in-Ok-Some.field-0-is ∙ c.in-Ok-Some.ensures))
