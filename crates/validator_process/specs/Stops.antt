-- Why a process ends before its input does, and its status. Source: this profile.
use Rattle.std.specs.Prelude.{ℕ, Result, Ok, Err}
use Rattle.disk_log.specs.declared.refusals.LogRefusal.{LogRefusal}
use Rattle.disk_log.specs.declared.refusals.LogRefusal.TheVariants as log
use Rattle.outside.specs.declared.faults.OutFault.{OutFault}
use Rattle.outside.specs.declared.faults.OutFault.TheVariants as fault
use Rattle.validator_process.specs.declared.stop.Stop.{Stop}
use Rattle.validator_process.specs.declared.stop.Stop.TheVariants as stop

abbrev pub status_of : Stop → ℕ
status_of stop.ReadFault = 4
status_of stop.WriteFault = 5
status_of stop.KeepFault = 6
status_of stop.OutOfMemory = 7

abbrev pub unread : OutFault → Stop
unread fault.Failed = stop.ReadFault
unread fault.OutOfMemory = stop.OutOfMemory

abbrev pub unwritten : OutFault → Stop
unwritten fault.Failed = stop.WriteFault
unwritten fault.OutOfMemory = stop.OutOfMemory

-- the stop after the log's answer to an append, if it is a refusal: a fault of the disk is a fault of the journal, and
-- all else counts as running out of memory
abbrev pub unkept : Result (Unit {0}) LogRefusal → Result (Unit {0}) Stop
unkept (Ok done) = Ok done
unkept (Err log.DiskFault) = Err stop.KeepFault
unkept (Err refusal) = Err stop.OutOfMemory
