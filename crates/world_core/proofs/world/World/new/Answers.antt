use Rattle.std.proofs.Common.{◌∙◌, ap, sym}
use Rattle.quorum_core.specs.Committee.{committee_of}
use Rattle.world_spec.specs.Setting.{stakes_of}
use Rattle.world_core.proofs.Sound.{committee_whole}
use Rattle.world_core.proofs.world.World.new.Goals as goal

pub returns-in-Ok-open-clause-committee : goal.returns-in-Ok-open-clause-committee
returns-in-Ok-open-clause-committee g c = committee_whole (stakes_of c.args.setup.now) c.in-Ok-new.committee (ap committee_of (sym (c.as_slice.ensures.value ∙ c.in-Ok.ensures)) ∙ sym c.in-Ok-new.ensures)
