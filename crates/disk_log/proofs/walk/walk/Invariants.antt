use Rattle.std.proofs.Common.{◌≡◌, ◌⊎◌, ◌-◌, ◌<◌, ◌≤◌, length}
use Rattle.disk_log.specs.Disk.{IfTold}
use Rattle.disk_log.specs.Log.{IsInside, IsWalked}
use Rattle.disk_log.proofs.walk.walk.Given as goal

abbrev pub invariant-loop-next : goal.invariant-loop-next
invariant-loop-next g l = record {
  gate : (l.at ≡ 0) ⊎ (l.at < g.K.Disk.extent l.disk);
  within : l.at ≤ g.K.Disk.extent l.disk;
  inside : IsInside l.at l.index;
  walked : IfTold (g.K.Disk.history l.disk) (λ h. IsWalked l.at l.index h.now.reads);
  width : length l.index ≡ length l.initial.index;
  history : g.K.Disk.history l.disk ≡ g.K.Disk.history l.initial.disk;
  extent : g.K.Disk.extent l.disk ≡ g.K.Disk.extent l.initial.disk;
  later : g.K.Disk.failed l.initial.disk ≤ g.K.Disk.failed l.disk;
}

abbrev pub decreases-loop-next : goal.decreases-loop-next
decreases-loop-next g l = g.K.Disk.extent l.disk - l.at
