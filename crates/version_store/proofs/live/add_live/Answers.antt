use Rattle.std.proofs.Common.{◌∙◌, ap, sym}
use Rattle.protocol_spec.specs.Member.Versions.{id_cmp, with_live}
use Rattle.version_store.proofs.Places.{entry_put}
use Rattle.version_store.proofs.live.add_live.Goals as goal

pub returns-in_ok-insert : goal.returns-in_ok-insert
returns-in_ok-insert c = c.in_ok-insert.ensures.entries ∙ entry_put id_cmp c.args.live.now.entries c.in-Some.object.id c.in-Some.object ∙ ap (with_live c.args.live.now.entries) (sym c.in-Some.is)
