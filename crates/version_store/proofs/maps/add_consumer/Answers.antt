use Rattle.std.proofs.Common.{◌∙◌, ap, sym, is_some}
use Rattle.std.specs.Map.{lookup, set_value}
use Rattle.chain_types.specs.Equal.{key_eq}
use Rattle.version_store.proofs.Putting.{consumer_back, put_there}
use Rattle.version_store.proofs.maps.add_consumer.Goals as goal

pub put_back-requires : goal.put_back-requires
put_back-requires c =
    ap (λ es. is_some (lookup (key_eq c.args.key) es)) c.put.ensures.entries
    ∙ put_there key_eq c.args.key c.args.tx c.in-Some.first c.args.consumers.now.entries (sym c.in-Some.ensures.old)

pub returns-clause-entries : goal.returns-clause-entries
returns-clause-entries c =
    c.put_back.ensures.entries
    ∙ ap (λ es. set_value (key_eq c.args.key) es c.in-Some.first) c.put.ensures.entries
    ∙ consumer_back c.args.tx c.args.consumers.now.entries c.args.key c.in-Some.first c.in-Some.ensures.old
