use Rattle.std.proofs.Common.{◌∙◌, ap, cond, sym}
use Rattle.std.specs.Map.{lookup}
use Rattle.chain_types.specs.Equal.{id_eq}
use Rattle.follower_core.proofs.Changing.{inserted}
use Rattle.follower_core.proofs.ledger.settle_one.Goals as goal

pub returns-in-Some-clause-change : goal.returns-in-Some-clause-change
returns-in-Some-clause-change c = λ other.
    ap (λ es. lookup (id_eq other) es) c.insert_in_room.ensures.entries
    ∙ inserted c.args.objects.now.entries c.args.id c.in-Some.object other
    ∙ ap (λ o. cond (id_eq other c.args.id) o (lookup (id_eq other) c.args.objects.now.entries)) (sym c.in-Some.is)
