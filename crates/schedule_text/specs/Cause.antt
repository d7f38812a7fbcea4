-- The causes of a refusal. Source: this profile.
use Rattle.std.specs.Prelude.{◌≡◌, ℕ, Result, Ok, Err}
use Rattle.schedule_text.specs.declared.cause.Cause.{Cause}
use Rattle.schedule_text.specs.declared.cause.Cause.TheVariants as cause
use Rattle.schedule_text.specs.declared.cause.LineFault.{LineFault}
use Rattle.schedule_text.specs.declared.cause.LineFault.TheVariants as fault

-- the number that a cause has in a refusal
abbrev pub number_of_cause : Cause → ℕ
number_of_cause cause.TooLarge = 1
number_of_cause cause.NoMembers = 2
number_of_cause cause.BadByte = 3
number_of_cause cause.BadForm = 4
number_of_cause cause.BadNumber = 5
number_of_cause cause.LateSetup = 6
number_of_cause cause.TooManyMembers = 7
number_of_cause cause.TooManyTransactions = 8
number_of_cause cause.RepeatedName = 9
number_of_cause cause.UnknownName = 10
number_of_cause cause.UnknownMember = 11
number_of_cause cause.WrongRole = 12
number_of_cause cause.BadOrder = 13

-- the answer of the code is the one that the definition gives; an answer that memory was refused says nothing about it
abbrev pub Reads : {A : Type 0} → Result A LineFault → Result A Cause → Type 0
Reads (Ok a) said = said ≡ Ok a
Reads (Err (fault.Bad c)) said = said ≡ Err c
Reads (Err fault.OutOfMemory) said = Unit {0}

-- likewise for a call that writes its value into `after` in place of answering it
abbrev pub ReadsInto : {A : Type 0} → Result (Unit {0}) LineFault → A → Result A Cause → Type 0
ReadsInto (Ok u) after said = said ≡ Ok after
ReadsInto (Err (fault.Bad c)) after said = said ≡ Err c
ReadsInto (Err fault.OutOfMemory) after said = Unit {0}
