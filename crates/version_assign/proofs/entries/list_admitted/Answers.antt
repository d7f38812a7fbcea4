use Rattle.std.proofs.Common.{◌≡◌, ◌≤◌, ◌+◌, length, arith, map, drop}
use Rattle.std.specs.Vec.{vec_capacity, vec_len}
use Rattle.version_assign.specs.Steps.{digest_in}
use Rattle.version_assign.proofs.Listing.{next_listed}
use Rattle.version_assign.proofs.entries.list_admitted.Goals as goal

pub loop-place-preserved : goal.loop-place-preserved
loop-place-preserved c =
    let l : vec_len c.push_in_room.new.all ≡ vec_len c.loop-place.list + 1 = c.push_in_room.ensures.len in
    let i : vec_len c.loop-place.list + c.args.from ≡ c.loop-place.place = c.loop-place.invariant.len in
    let k : vec_capacity c.loop-place.list ≤ vec_capacity c.push_in_room.new.all = c.push_in_room.ensures.capacity in
    let r : length c.args.admitted.now.entries ≤ c.args.from + vec_capacity c.loop-place.list = c.loop-place.invariant.room in
    record {
      same =
          next_listed digest_in c.args.admitted.now.entries c.loop-place.place c.digest_at.result c.loop-place.list.items c.push_in_room.new.all.items (map digest_in (drop c.args.from c.args.admitted.now.entries))
          c.digest_at.ensures c.push_in_room.ensures.items c.loop-place.invariant.same;
      len = omega arith;
      room = omega arith;
    }
