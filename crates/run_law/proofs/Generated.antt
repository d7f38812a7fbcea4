-- The generator's text is read as the schedule that it says.
use Rattle.std.proofs.Common.{◌≡◌, ℕ, ◌≤◌, length, Ok, refl, ap, ◌∙◌, subst}
use Rattle.schedule_make.specs.Make.{make_text_of}
use Rattle.schedule_text.specs.Schedule.{longest_text, schedule_of}
use Rattle.run_law.specs.Made.{made}
use Rattle.run_law.specs.Sayable.{IsSayable}
use Rattle.run_law.proofs.MadeLength.{made_short}
use Rattle.run_law.proofs.MadeOrder.{made_in_order}
use Rattle.run_law.proofs.MadeText.{made_same}
use Rattle.run_law.proofs.MadeWords.{made_fits}
use Rattle.run_law.proofs.Whole.{reads_back}

sayable : (number workers : ℕ) → number ≤ 10000 → 1 ≤ workers → workers ≤ 16 → IsSayable (made number workers)
sayable number workers few low high = record {
  words = made_fits number workers few low high;
  members = refl;
  order = made_in_order number workers few;
}

pub generated : (number workers : ℕ) → number ≤ 10000 → 1 ≤ workers → workers ≤ 16 → schedule_of (make_text_of number workers) ≡ Ok (made number workers)
generated number workers few low high =
    let same = made_same number workers in
    ap schedule_of same
    ∙ reads_back (made number workers) (sayable number workers few low high) (subst (λ text. length text ≤ longest_text) same (made_short number workers few high))
