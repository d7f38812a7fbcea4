-- Objects in the order in which they are shown, put into their places one after the other.
use Rattle.std.specs.Prelude.{ℕ, List, length, fold}
use Rattle.std.specs.BTreeMap.{insert_entry}
use Rattle.std.specs.Ordering.{ordering_then, nat_cmp}
use Rattle.std.specs.declared.cmp.Ordering.{Ordering}
use Rattle.chain_types.specs.declared.objects.Object.{Object}
use Rattle.world_spec.specs.Names.{rank}
use Rattle.world_spec.specs.Known.{Known, setting_with, world_with}
use Rattle.world_lines.specs.declared.shown.Rank.{Rank}
use Rattle.world_lines.specs.declared.shown.Place.{Place}

-- a rank as the nested pairs of the definition
abbrev pub rank_as : Rank → (ℕ × ℕ) × ℕ
rank_as r = ((r.group, r.place), r.number)

-- places ascend by their ranks, and of one rank by their numbers
abbrev pub rank_cmp : Rank → Rank → Ordering
rank_cmp a b = ordering_then (ordering_then (nat_cmp a.group b.group) (nat_cmp a.place b.place)) (nat_cmp a.number b.number)

abbrev pub place_cmp : Place → Place → Ordering
place_cmp a b = ordering_then (rank_cmp a.rank b.rank) (nat_cmp a.index b.index)

-- the place of the next object: its rank, and how many objects came before it, so that objects of one rank stay in
-- order
abbrev pub place_of : Known → List (Place × Object) → Object → Place
place_of k shown o =
    let r = rank (setting_with k) (world_with k) o in
    record { rank = record { group = r.0.0; place = r.0.1; number = r.1 }; index = length shown }

abbrev pub with_shown : Known → List (Place × Object) → Object → List (Place × Object)
with_shown k shown o = insert_entry place_cmp shown (place_of k shown o) o

abbrev pub all_shown : Known → List (Place × Object) → List Object → List (Place × Object)
all_shown k shown objects = fold (with_shown k) shown objects
