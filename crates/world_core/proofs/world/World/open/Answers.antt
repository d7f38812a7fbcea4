use Rattle.std.proofs.Common.{◌∙◌, ap, ℕ, Option}
use Rattle.world_spec.specs.Terms.{Terms}
use Rattle.world_core.specs.Trusts.{trust_by}
use Rattle.world_core.proofs.First.{crew_of, scene_first}
use Rattle.world_lines.proofs.Opened.{opening_apart}
use Rattle.world_core.proofs.Sound.{sound_first}
use Rattle.world_core.proofs.world.World.open.Goals as goal

pub returns : goal.returns
returns g c = scene_first (trust_by (g.S.MakesSeals.made c.args.sealer.now) (g.S.Checker.accepts c.args.sealer.now)) c.args.setup.now c.args.committee.now c.as_slice.result.now c.in_ok-directory.opening c.in_ok-directory.directory c.new-2.result c.new-3.result c.new-4.result c.in-Ok.seats c.requires (c.as_slice.ensures.value ∙ c.in_ok-honest.ensures) c.in_ok-directory.ensures.opening c.in_ok-directory.ensures.known c.new-2.ensures c.new-3.ensures c.new-4.ensures
    (c.in-Ok.ensures
    ∙ ap (λ (terms : Terms). crew_of terms c.in_ok-directory.opening c.as_slice.result.now) (c.new-terms.ensures ∙ ap (λ (writers : Option ℕ). record { stakes = c.args.committee.now; writers = writers }) c.writers_of.ensures))

pub new-requires-clause-apart : goal.new-requires-clause-apart
new-requires-clause-apart g c = opening_apart c.args.setup.now c.in_ok-directory.opening c.in_ok-directory.ensures.opening

pub invariant_of-result : goal.invariant_of-result
invariant_of-result g c = sound_first c.args.setup.now c.in_ok-directory.opening c.in_ok-directory.directory c.new-2.result c.new-4.result c.in_ok-directory.ensures.opening c.in_ok-directory.ensures.known c.new-2.ensures c.new-4.ensures
