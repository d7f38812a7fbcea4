use Rattle.std.proofs.Common.{◌∙◌, ap}
use Rattle.chain_types.specs.declared.objects.Address.{Address}
use Rattle.chain_types.specs.declared.objects.Owner.TheVariants as owner
use Rattle.protocol_spec.specs.Block.Commands as commands
use Rattle.ptb_run.specs.Blocks.{block_of}
use Rattle.ptb_run.proofs.Leaving.{transfer_is}
use Rattle.ptb_run.proofs.commands.transfer.Goals as goal

pub returns-clause-after : goal.returns-clause-after
returns-clause-after c =
    transfer_is (block_of c.args.block.now) (block_of c.place_all.new.self) (block_of c.spend_all.new.self) (block_of c.add_nothing.new.self) c.args.values.now (owner.Address c.address_in.result)
    c.in_ok-place_all.ensures.after
    c.spend_all.ensures.after
    c.in_ok-add_nothing.ensures.after
    ∙ ap (λ (a : Address). commands.transfer_block (block_of c.args.block.now) c.args.values.now a) c.address_in.ensures
