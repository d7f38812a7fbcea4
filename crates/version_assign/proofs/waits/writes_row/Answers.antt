use Rattle.std.proofs.Common.{List, ap, ◌∙◌}
use Rattle.chain_types.specs.declared.objects.ObjectId.{ObjectId}
use Rattle.protocol_spec.specs.Chain.Tests.{has_id}
use Rattle.version_assign.proofs.waits.writes_row.Goals as goal

pub returns : goal.returns
returns c = c.is_one_of.ensures ∙ ap (λ (ids : List ObjectId). has_id ids c.args.id.now) c.writes.ensures
