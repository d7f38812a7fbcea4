use Rattle.version_store.specs.Stores.{held_in}
use Rattle.version_store.proofs.News.{all_seen}
use Rattle.version_store.proofs.store.Store.many_are_new.Goals as goal

pub returns : goal.returns
returns c = all_seen (held_in c.args.self.now) c.loop-rest.seen.keys c.loop-rest.rest.now c.args.objects.now c.in_default.len_below c.loop-rest.invariant
