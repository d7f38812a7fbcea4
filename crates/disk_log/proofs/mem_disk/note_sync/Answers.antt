use Rattle.std.proofs.Common.{◌≡◌, ℕ, ◌-◌, suc, length, arith}
use Rattle.disk_log.proofs.Changes.{set-last}
use Rattle.disk_log.proofs.mem_disk.note_sync.Goals as goal

pub returns-then-count-gt0 : goal.returns-then-count-gt0
returns-then-count-gt0 c =
    let n : ℕ = c.len-count.result - 1 in
    set-last c.args.changes.now.items n c.index_mut-last.result.now (omega (arith, c.len-count.ensures, c.args.changes.now.ok.0)) c.index_mut-last.ensures.value
