use Rattle.std.proofs.Common.{List, subst, sym}
use Rattle.checkpoint_core.specs.declared.checkpoints.Checkpoint.{Checkpoint}
use Rattle.light_check.specs.Making.{AllShort, AreSealedBy}
use Rattle.light_check.proofs.Sealing.{chain_is_short, checkpoints_short}
use Rattle.light_check.proofs.make.make_chain.Goals as goal

pub links_of-requires : goal.links_of-requires
links_of-requires g c = subst AllShort (sym c.as_slice.ensures.value) (checkpoints_short c.args.checkpoints.now c.requires.short)

pub returns-in-Ok-clause-short : goal.returns-in-Ok-clause-short
returns-in-Ok-clause-short g c =
    chain_is_short (g.S.Checker.accepts c.args.sealer.now) c.args.members.now c.args.checkpoints.now c.in-Ok.links
    (subst (λ (cs : List Checkpoint). AreSealedBy (g.S.Checker.accepts c.args.sealer.now) c.args.members.now cs c.in-Ok.links) c.as_slice.ensures.value c.in-Ok.ensures)
    c.requires.short c.requires.few
