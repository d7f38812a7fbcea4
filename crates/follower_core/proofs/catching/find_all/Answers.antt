use Rattle.std.proofs.Common.{◌∙◌, Err, IfSome, Option, ap, subst, sym}
use Rattle.chain_types.specs.Transactions.{transaction}
use Rattle.chain_types.specs.declared.transactions.Transaction.{Transaction}
use Rattle.follower_core.proofs.Caught.{gathers_more, missed, place_is}
use Rattle.follower_core.proofs.catching.find_all.Goals as goal

pub returns-in-None-clause-missing : goal.returns-in-None-clause-missing
returns-in-None-clause-missing g c = λ place is.
    missed (g.A.Archive.known c.args.archive.now) c.args.items.now c.loop-rest.txs c.loop-rest.rest.now _ c.in-len1-up.len_at_least c.loop-rest.invariant (sym c.in-None.is ∙ c.in_ok-tx.ensures.value)
    ∙ ap Err (sym c.len.ensures ∙ place_is c.len.result place is)

pub loop-rest-preserved : goal.loop-rest-preserved
loop-rest-preserved g c =
    gathers_more (g.A.Archive.known c.args.archive.now) c.args.items.now c.loop-rest.txs c.push.new.self c.loop-rest.rest.now _ c.in-Some.tx c.in-len1-up.len_at_least c.loop-rest.invariant (sym c.in-Some.is ∙ c.in_ok-tx.ensures.value)
    (subst (λ (o : Option Transaction). IfSome o transaction.short) c.in-Some.is c.in_ok-tx.ensures.short) c.in_ok-push-in-Some.ensures.ok
