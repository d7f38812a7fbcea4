-- What holds of schedules and their texts.
use Rattle.std.specs.Prelude.{◌≡◌, ℕ, ◌≤◌, List, length, Ok}
use Rattle.schedule_make.specs.Make.{make_text_of}
use Rattle.schedule_text.specs.declared.words.Schedule.{Schedule}
use Rattle.schedule_text.specs.Schedule.{longest_text, schedule_of}
use Rattle.run_law.specs.Canonical.{canonical}
use Rattle.run_law.specs.Made.{made}
use Rattle.run_law.specs.Sayable.{IsSayable}

-- a schedule that a text can say is read back from its canonical text, if that is not too long
abbrev pub CanonicalTextReadsBack : Type 0
CanonicalTextReadsBack = (s : Schedule) → IsSayable s → length (canonical s) ≤ longest_text → schedule_of (canonical s) ≡ Ok s

-- a schedule that is read from any text is one that a text can say, so it is read back from its canonical text too
abbrev pub WhatIsReadCanBeSaid : Type 0
WhatIsReadCanBeSaid = (text : List ℕ) (s : Schedule) → schedule_of text ≡ Ok s → IsSayable s

abbrev pub WhatIsReadReadsBack : Type 0
WhatIsReadReadsBack = (text : List ℕ) (s : Schedule) → schedule_of text ≡ Ok s → length (canonical s) ≤ longest_text
    → schedule_of (canonical s) ≡ Ok s

-- the generator's text is the text of a schedule, with the set-up and the events that it means
abbrev pub GeneratedTextIsASchedule : Type 0
GeneratedTextIsASchedule = (number workers : ℕ) → number ≤ 10000 → 1 ≤ workers → workers ≤ 16
    → schedule_of (make_text_of number workers) ≡ Ok (made number workers)
