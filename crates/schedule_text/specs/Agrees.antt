-- The invariant of the reader's state: its tables hold what the definitions find in the lines so far.
use Rattle.std.specs.Prelude.{◌≡◌, ℕ, false, List, [], Option, Some, None, nat_eq}
use Rattle.std.specs.List.{list_any}
use Rattle.schedule_text.specs.declared.words.Schedule.{Schedule}
use Rattle.schedule_text.specs.declared.reading.Reading.{Reading}
use Rattle.schedule_text.specs.Known.{roles, object_names, tx_names, currencies, has_limit, is_among}

abbrev pub no_lines : Schedule
no_lines = record { setup = []; events = [] }

pub record Agrees (r : Reading) : Type 0 where
  pub roles : r.roles ≡ roles r.schedule.setup
  pub objects : r.objects ≡ object_names r.schedule.setup
  pub txs : r.txs ≡ tx_names r.schedule.events
  pub currencies : r.currencies.keys ≡ currencies r.schedule.setup
  pub limited : r.limited ≡ has_limit r.schedule.setup

-- a new line's name, if it gives one, is none of these names
abbrev pub IsNewName : List (List ℕ) → Option (List ℕ) → Type 0
IsNewName names None = Unit {0}
IsNewName names (Some name) = is_among names name ≡ false

abbrev pub IsNewNumber : List ℕ → Option ℕ → Type 0
IsNewNumber numbers None = Unit {0}
IsNewNumber numbers (Some n) = list_any (nat_eq n) numbers ≡ false
