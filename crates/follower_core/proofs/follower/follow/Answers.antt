use Rattle.std.proofs.Common.{◌≤◌, length, subst, sym}
use Rattle.follower_core.proofs.Counting.{few_items}
use Rattle.follower_core.proofs.follower.follow.Goals as goal

pub apply_all-requires-clause-few : goal.apply_all-requires-clause-few
apply_all-requires-clause-few c = subst (λ items. length items ≤ 2147483647) (sym c.as_slice.ensures.value) (few_items c.args.checkpoint.now c.requires.short)
