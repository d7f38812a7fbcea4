-- Which calls of an object in memory are to fail. Source: this profile.
use Rattle.std.specs.Prelude.{ℕ, ◌+◌, ◌-◌, ◌^◌, ◌==◌, min, Bool, if◌then◌else◌}
use Rattle.std.specs.List.{list_any}
use Rattle.outside.specs.declared.turns.Turns.{Turns}

-- the number of the next call: one more than the calls so far, as far as a u64 counts
abbrev pub next_number : Turns → ℕ
next_number turns = min (turns.calls + 1) (2 ^ 64 - 1)

-- whether the next call is one of those that are to fail
abbrev pub fails_next : Turns → Bool
fails_next turns = list_any (λ n. n == next_number turns) turns.failing

-- one call was made
abbrev pub after_call : Turns → Turns
after_call turns = record turns { calls = next_number turns }

-- the count of faults after a call: one more if it was to fail, as far as a u64 counts
abbrev pub faults_after : Turns → ℕ → ℕ
faults_after turns faults = if fails_next turns then min (faults + 1) (2 ^ 64 - 1) else faults

-- `faults_after` for a sink that takes at most so many bytes of a piece: one that takes none counts a fault at each
-- write
abbrev pub narrow_faults_after : ℕ → Turns → ℕ → ℕ
narrow_faults_after most turns faults = if most == 0 then min (faults + 1) (2 ^ 64 - 1) else faults_after turns faults
