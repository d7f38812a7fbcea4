-- How the program ends, by what its words ask.
use Rattle.std.proofs.Common.{◌≡◌, ℕ, Option, Some, None, refl, sym, ◌∙◌}
use Rattle.committee_core.proofs.Usage.{clash}
use Rattle.committee_core.specs.Outside.{Outside}
use Rattle.inspect.specs.declared.questions.Question.{Question}
use Rattle.inspect.specs.Ends.{AskEnds, Ends}

pub no_words : {A B : Type 0} (x : A) (o : Option A) → Some x ≡ o → o ≡ None → B
no_words x o is none = absurd (clash (is ∙ none))

-- words that ask nothing
pub unused : (asked : Option Question) (o : Outside) → asked ≡ None → Ends asked o o 2
unused None o is = record { two = refl; same = refl }
unused (Some q) o is = absurd (clash is)

pub obeyed : (asked : Option Question) (q : Question) (before now : Outside) (status : ℕ) → Some q ≡ asked → AskEnds q before now status → Ends asked before now status
obeyed asked q before now status is ends = rw (sym is) ends
