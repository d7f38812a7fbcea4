use Rattle.std.proofs.Common.{◌≡◌, refl, arith}
use Rattle.std.specs.Vec.{vec_len}
use Rattle.version_assign.proofs.Opening.{starts}
use Rattle.version_assign.proofs.Registering.{nothing_filed}
use Rattle.version_assign.proofs.admission.Admission.new.Goals as goal

pub invariant_of-result : goal.invariant_of-result
invariant_of-result c =
    record {
      kept =
          (starts (record { rows = c.new.result; known = c.new-2.result; admitted = c.new-3.result; dropped = c.new-4.result; marked = 0; waiting = 0; low = 0; lines = c.new-5.result; opening = c.in_ok-opening.opening; writers = c.args.writers })
          c.args.opening.now c.args.writers
          (record { opening = refl; writers = refl; lines = c.new-5.ensures.empty; rows = c.new.ensures.items; admitted = c.new-3.ensures.empty; dropped = c.new-4.ensures.items; known = c.new-2.ensures.empty; marked = refl; waiting = refl })
          c.in_ok-opening.ensures c.requires c.bound_of.ensures
          (let n : vec_len c.new-4.result ≡ 0 = c.new-4.ensures.len in record { admitted = omega arith; dropped = omega arith }) refl).0;
      filed = nothing_filed (record { rows = c.new.result; known = c.new-2.result; admitted = c.new-3.result; dropped = c.new-4.result; marked = 0; waiting = 0; low = 0; lines = c.new-5.result; opening = c.in_ok-opening.opening; writers = c.args.writers }) c.new-6.result c.new.ensures.items;
    }

pub returns : goal.returns
returns c =
    (starts (record { rows = c.new.result; known = c.new-2.result; admitted = c.new-3.result; dropped = c.new-4.result; marked = 0; waiting = 0; low = 0; lines = c.new-5.result; opening = c.in_ok-opening.opening; writers = c.args.writers })
    c.args.opening.now c.args.writers
    (record { opening = refl; writers = refl; lines = c.new-5.ensures.empty; rows = c.new.ensures.items; admitted = c.new-3.ensures.empty; dropped = c.new-4.ensures.items; known = c.new-2.ensures.empty; marked = refl; waiting = refl })
    c.in_ok-opening.ensures c.requires c.bound_of.ensures
    (let n : vec_len c.new-4.result ≡ 0 = c.new-4.ensures.len in record { admitted = omega arith; dropped = omega arith }) refl).1
