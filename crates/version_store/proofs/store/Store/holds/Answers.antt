use Rattle.std.proofs.Common.{◌∙◌, Bor, option_copied, sym}
use Rattle.chain_types.specs.declared.objects.Object.{Object}
use Rattle.version_store.specs.Stores.{held_in}
use Rattle.version_store.proofs.Based.{held_where}
use Rattle.version_store.proofs.store.Store.holds.Goals as goal
use Rattle.protocol_spec.proofs.Truth.{some_mapped}

pub returns : goal.returns
returns c =
    c.is_some.ensures ∙ sym (some_mapped (λ (x : Bor Object). x.now) c.get.result)
    ∙ held_where (held_in c.args.self.now) c.args.key.now (option_copied c.get.result) c.get.ensures
