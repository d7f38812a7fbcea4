-- What a call does to a count of faults, and what an answer says of it. Source: this profile.
use Rattle.std.specs.Prelude.{◌≡◌, ℕ, ◌+◌, ◌-◌, ◌^◌, ◌≤◌, min, Ok, Result, IsErrOf}
use Rattle.outside.specs.declared.faults.OutFault.{OutFault}
use Rattle.outside.specs.declared.faults.OutFault.TheVariants as fault

-- the count rose; one that stands at its last value is taken as risen
abbrev pub Rose : ℕ → ℕ → Type 0
Rose before now = min (before + 1) (2 ^ 64 - 1) ≤ now

-- what a write's answer says of the sink's count of faults: it never falls, and it rose if the
-- write failed or took nothing
pub record WriteCause (before now : ℕ) (result : Result ℕ OutFault) : Type 0 where
  pub later : before ≤ now
  pub failed : IsErrOf result fault.Failed → Rose before now
  pub nothing : result ≡ Ok 0 → Rose before now

-- what the answer of a keeper's call says of its count of faults
pub record KeepCause {A : Type 0} (before now : ℕ) (result : Result A OutFault) : Type 0 where
  pub later : before ≤ now
  pub failed : IsErrOf result fault.Failed → Rose before now
