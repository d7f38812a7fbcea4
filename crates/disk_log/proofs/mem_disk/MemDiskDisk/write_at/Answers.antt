use Rattle.std.proofs.Common.{◌≡◌, ◌+◌, ◌^◌, ◌<◌, ◌≤◌, ◌++◌, ◌∷◌, [], List, length, sym, ◌∙◌, ap, subst, arith, ℕ, Bool, true, false, max}
use Rattle.std.specs.Prelude.{All}
use Rattle.std.proofs.lemmas.List.Elements.{All-push}
use Rattle.disk_log.specs.declared.mem_disk.Change.{Change}
use Rattle.disk_log.specs.Disk.{with_bytes}
use Rattle.disk_log.specs.Memory.{DiskState, history_of}
use Rattle.disk_log.proofs.Changes.{Fits, tried, wrote, reads-tried, reads-wrote, length-with_bytes}
use Rattle.disk_log.proofs.mem_disk.MemDiskDisk.write_at.Goals as goal

-- all changes still end below the limit
still : (old new room : List Change) (at : ℕ) (bytes given : List ℕ) (failed : Bool) → new ≡ room ++ record { at = at; bytes = given; failed = failed; synced = false } ∷ [] → room ≡ old → given ≡ bytes → at + length bytes < 2 ^ 63 → All Fits old → All Fits new
still old new room at bytes given failed is kept same fits all =
    subst (λ (l : List Change). All Fits l) (sym is)
    (All-push Fits room (record { at = at; bytes = given; failed = failed; synced = false }) (subst (λ (l : List Change). All Fits l) (sym kept) all) (rw same fits))

-- what was pushed, in the words of the call
pushed : (old new room : List Change) (at : ℕ) (bytes given : List ℕ) (failed : Bool) → new ≡ room ++ record { at = at; bytes = given; failed = failed; synced = false } ∷ [] → room ≡ old → given ≡ bytes → new ≡ old ++ record { at = at; bytes = bytes; failed = failed; synced = false } ∷ []
pushed old new room at bytes given failed is kept same = rw (← kept, ← same) is

pub invariant_of-self-then-failed : goal.invariant_of-self-then-failed
invariant_of-self-then-failed c =
    let e = pushed c.self.inside.changes.items c.push_reserved.new.self.items c.make_room.new.changes.items c.args.at c.args.bytes.now c.in_ok-bytes.bytes c.next_fails-failed.result c.push_reserved.ensures.items c.make_room.ensures.items c.in_ok-bytes.ensures in (
      c.self.invariant.0 ∙ sym (reads-tried c.self.inside.first c.self.inside.changes.items c.push_reserved.new.self.items c.args.at c.args.bytes.now c.next_fails-failed.result e c.if-failed.true),
      c.self.invariant.1,
      still c.self.inside.changes.items c.push_reserved.new.self.items c.make_room.new.changes.items c.args.at c.args.bytes.now c.in_ok-bytes.bytes c.next_fails-failed.result c.push_reserved.ensures.items c.make_room.ensures.items c.in_ok-bytes.ensures c.requires.end c.self.invariant.2,
    )

pub returns-then-failed-clause-written : goal.returns-then-failed-clause-written
returns-then-failed-clause-written c =
    let e = pushed c.self.inside.changes.items c.push_reserved.new.self.items c.make_room.new.changes.items c.args.at c.args.bytes.now c.in_ok-bytes.bytes c.next_fails-failed.result c.push_reserved.ensures.items c.make_room.ensures.items c.in_ok-bytes.ensures in
    rw (← c.self.view_is) (tried c.self.inside.first c.self.inside.changes.items c.push_reserved.new.self.items c.args.at c.args.bytes.now c.next_fails-failed.result e c.if-failed.true)

pub returns-then-failed-clause-extent : goal.returns-then-failed-clause-extent
returns-then-failed-clause-extent c =
    let e = pushed c.self.inside.changes.items c.push_reserved.new.self.items c.make_room.new.changes.items c.args.at c.args.bytes.now c.in_ok-bytes.bytes c.next_fails-failed.result c.push_reserved.ensures.items c.make_room.ensures.items c.in_ok-bytes.ensures in
    let same = reads-tried c.self.inside.first c.self.inside.changes.items c.push_reserved.new.self.items c.args.at c.args.bytes.now c.next_fails-failed.result e c.if-failed.true in
    rw (← c.self.view_is) (omega (arith, ap length same), omega (arith, ap length same))

pub invariant_of-self-2 : goal.invariant_of-self-2
invariant_of-self-2 c =
    let e = pushed c.self.inside.changes.items c.push_reserved.new.self.items c.make_room.new.changes.items c.args.at c.args.bytes.now c.in_ok-bytes.bytes c.next_fails-failed.result c.push_reserved.ensures.items c.make_room.ensures.items c.in_ok-bytes.ensures in
    let wrote = reads-wrote c.self.inside.first c.self.inside.changes.items c.push_reserved.new.self.items c.args.at c.args.bytes.now c.next_fails-failed.result e c.if-failed.false in
    let is : c.in_ok-reads.reads ≡ with_bytes c.self.inside.reads c.args.at c.args.bytes.now =
    c.in_ok-reads.ensures ∙ ap (λ (l : List ℕ). with_bytes l c.args.at c.args.bytes.now) c.as_slice.ensures.value in
    let at : c.args.at ≤ length (history_of c.self.inside.first c.self.inside.changes.items).now.reads =
    subst (λ (d : DiskState). c.args.at ≤ length (history_of d.first d.changes).now.reads) (sym c.self.view_is) c.requires.at in
    let size : length c.in_ok-reads.reads ≡ max (length c.self.inside.reads) (c.args.at + length c.args.bytes.now) =
    ap length is ∙ length-with_bytes c.self.inside.reads c.args.at c.args.bytes.now (omega (arith, at, ap length c.self.invariant.0)) in (
      is ∙ ap (λ (l : List ℕ). with_bytes l c.args.at c.args.bytes.now) c.self.invariant.0 ∙ sym wrote,
      omega (arith, size, c.self.invariant.1, c.requires.end),
      still c.self.inside.changes.items c.push_reserved.new.self.items c.make_room.new.changes.items c.args.at c.args.bytes.now c.in_ok-bytes.bytes c.next_fails-failed.result c.push_reserved.ensures.items c.make_room.ensures.items c.in_ok-bytes.ensures c.requires.end c.self.invariant.2,
    )

pub returns-clause-written : goal.returns-clause-written
returns-clause-written c =
    let e = pushed c.self.inside.changes.items c.push_reserved.new.self.items c.make_room.new.changes.items c.args.at c.args.bytes.now c.in_ok-bytes.bytes c.next_fails-failed.result c.push_reserved.ensures.items c.make_room.ensures.items c.in_ok-bytes.ensures in
    rw (← c.self.view_is) (wrote c.self.inside.first c.self.inside.changes.items c.push_reserved.new.self.items c.args.at c.args.bytes.now c.next_fails-failed.result e c.if-failed.false)

pub returns-clause-extent : goal.returns-clause-extent
returns-clause-extent c =
    let e = pushed c.self.inside.changes.items c.push_reserved.new.self.items c.make_room.new.changes.items c.args.at c.args.bytes.now c.in_ok-bytes.bytes c.next_fails-failed.result c.push_reserved.ensures.items c.make_room.ensures.items c.in_ok-bytes.ensures in
    let wrote = reads-wrote c.self.inside.first c.self.inside.changes.items c.push_reserved.new.self.items c.args.at c.args.bytes.now c.next_fails-failed.result e c.if-failed.false in
    let at : c.args.at ≤ length (history_of c.self.inside.first c.self.inside.changes.items).now.reads =
    subst (λ (d : DiskState). c.args.at ≤ length (history_of d.first d.changes).now.reads) (sym c.self.view_is) c.requires.at in
    rw (← c.self.view_is) (ap length wrote ∙ length-with_bytes (history_of c.self.inside.first c.self.inside.changes.items).now.reads c.args.at c.args.bytes.now at)
