-- No line of the report of an honest run says that a member met two certificates that consume one version, or that a run
-- left something.
use Rattle.std.proofs.Common.{refl, sym, subst, append_assoc, ◌∙◌}
use Rattle.std.specs.Prelude.{◌≡◌, ℕ, List, [], ◌∷◌, ◌++◌, slice_get, Some, Ok}
use Rattle.protocol_spec.specs.declared.answers.Ran.{Ran}
use Rattle.schedule_text.specs.declared.words.Event.{Event}
use Rattle.protocol_spec.proofs.ListLemmas.{each_join, each_has}
use Rattle.protocol_spec.specs.Chain.Words.{Each}
use Rattle.protocol_spec.specs.Member.Calls.{run_answer}
use Rattle.world_spec.specs.Setting.{Setting}
use Rattle.world_spec.specs.World.{Seat, World, member_in}
use Rattle.world_spec.specs.Step.{happens}
use Rattle.world_spec.specs.Report.{lines_of}
use Rattle.world_spec.specs.Run.{report, report_from, world_after}
use Rattle.world_spec.specs.Assumptions.{IsHonestRun}
use Rattle.safety_law.proofs.Forks.{no-fork}
use Rattle.safety_law.proofs.Fronts.{honest-front}
use Rattle.safety_law.proofs.Grown.{world-append}
use Rattle.block_law.specs.Orderly.{AreApart}
use Rattle.headline_law.proofs.Running.{no-run-leaves-anything}
use Rattle.headline_law.specs.Alarms.{IsCalm}
use Rattle.headline_law.proofs.Calming.{IsCalmLine}
use Rattle.headline_law.proofs.Halting.{NoneForked, line-calm}

module _ (s : Setting) (events : List Event) (honest : IsHonestRun s events) (distinct : AreApart s.opening) where
  none-forked : (front back : List Event) → events ≡ front ++ back → NoneForked s (world_after s front)
  none-forked front back split m seat at = no-fork s front back (subst (IsHonestRun s) split honest) m seat at

  none-left : (front back : List Event) → events ≡ front ++ back → (m : ℕ) (seat : Seat) → slice_get (world_after s front).seats m ≡ Some seat → (ran : Ran) → run_answer s.rules (member_in s seat) ≡ Ok ran → ran.left ≡ []
  none-left front back split m seat at = no-run-leaves-anything s front (honest-front s front back (subst (IsHonestRun s) split honest)) distinct m seat at

  calm-from : (front back : List Event) → events ≡ front ++ back → Each IsCalmLine (report_from s back (world_after s front))
  calm-from front [] split = tt
  calm-from front (e ∷ back) split =
      let next : events ≡ (front ++ e ∷ []) ++ back = split ∙ sym (append_assoc front (e ∷ []) back) in
      let world : world_after s (front ++ e ∷ []) ≡ happens s (world_after s front) e = world-append s front (e ∷ []) in
      each_join IsCalmLine (lines_of s (world_after s front) e) (report_from s back (happens s (world_after s front) e))
      (line-calm s (world_after s front) (none-forked front (e ∷ back) split) e (subst (NoneForked s) world (none-forked (front ++ e ∷ []) back next)) (none-left front (e ∷ back) split))
      (subst (λ (w : World). Each IsCalmLine (report_from s back w)) world (calm-from (front ++ e ∷ []) back next))

  calm-lines : Each IsCalmLine (report s events)
  unfolding report world_after
  calm-lines = calm-from [] events refl

pub report-calm : (s : Setting) (events : List Event) → IsHonestRun s events → AreApart s.opening → IsCalm s events
report-calm s events honest distinct l h = each_has IsCalmLine (report s events) l (calm-lines s events honest distinct) h
