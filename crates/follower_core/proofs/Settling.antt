-- Changes that are done one after the other, from the last on.
use Rattle.std.proofs.Common.{◌≡◌, ◌≤◌, ◌+◌, [], ◌∷◌, ◌++◌, Option, length, ap, sym, ◌∙◌, arith, length-append}
use Rattle.indexmap.specs.IndexMap.{IndexMap, spare}
use Rattle.chain_types.specs.declared.objects.Object.{Object}
use Rattle.chain_types.specs.declared.objects.ObjectId.{ObjectId}
use Rattle.follower_core.specs.Ledgers.{Changes, Entries, changed_by}
use Rattle.follower_core.proofs.Changing.{IsChanged, settles}

pub record Settles {S R : Type 0} (es : Entries) (cs : Changes) (objects : IndexMap ObjectId Object S) (changes : IndexMap ObjectId (Option Object) R) : Type 0 where
  pub same : changed_by objects.entries changes.entries ≡ changed_by es cs
  pub room : length changes.entries ≤ spare objects

-- the last change was done
pub settles_more : {S R : Type 0} (es : Entries) (cs : Changes) (objects later : IndexMap ObjectId Object S) (changes fewer : IndexMap ObjectId (Option Object) R) (k : ObjectId) (c : Option Object)
    → Settles es cs objects changes → changes.entries ≡ fewer.entries ++ (k, c) ∷ [] → IsChanged objects.entries k c later.entries → spare objects ≤ spare later + 1 → Settles es cs later fewer
settles_more es cs objects later changes fewer k c so split is room = record {
  same = settles objects.entries later.entries fewer.entries k c is ∙ ap (changed_by objects.entries) (sym split) ∙ so.same;
  room = omega (arith, ap length split, length-append fewer.entries ((k, c) ∷ []), so.room, room);
}
