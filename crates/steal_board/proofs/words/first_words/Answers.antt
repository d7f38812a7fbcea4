use Rattle.std.proofs.Common.{◌≡◌, ◌+◌, ◌<◌, ◌∙◌, ◌++◌, ◌∷◌, [], ℕ, List, ap, arith, get_or, inl, inr, length, subst, sym}
use Rattle.std.proofs.Math.ListN.{get_or-append}
use Rattle.std.proofs.lemmas.Bool.{cases_lt}
use Rattle.std.proofs.lemmas.List.{get_or_push, length_push}
use Rattle.steal_board.proofs.words.first_words.Goals as goal

-- one word more, that of the next task
filed : (words new : List ℕ) (word task : ℕ) (count : ℕ → ℕ) → new ≡ words ++ word ∷ [] → length words ≡ task → ((t : ℕ) → t < task → get_or words t 0 ≡ count t) → word ≡ count task → (t : ℕ) → t < task + 1 → get_or new t 0 ≡ count t
filed words new word task count more size each last t low =
    elim (cases_lt t task) [
      | inl less ↦ ap (λ l. get_or l t 0) more ∙ get_or-append words (word ∷ []) 0 t (subst (λ n. t < n) (sym size) less) ∙ each t less
      | inr other ↦ let same : task ≡ t = omega arith in subst (λ n. get_or new n 0 ≡ count n) same (ap (λ l. get_or l task 0) more ∙ get_or_push words word 0 task size ∙ last)
    ]

pub loop-task-preserved : goal.loop-task-preserved
loop-task-preserved g c =
    let more = c.in_ok-push.ensures.items in record {
      counted = ap length more ∙ length_push c.loop-task.words.items _ ∙ ap (λ n. n + 1) c.loop-task.invariant.counted;
      each = filed c.loop-task.words.items c.push.new.self.items _ c.loop-task.task _ more c.loop-task.invariant.counted c.loop-task.invariant.each (ap length c.edges_into.ensures);
    }
