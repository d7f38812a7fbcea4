-- A run with other numbers of workers.
use Rattle.std.proofs.Common.{refl, ap, ◌∙◌}
use Rattle.std.specs.Prelude.{◌≡◌, ℕ, List, [], ◌∷◌, ◌++◌, map, slice_get}
use Rattle.schedule_text.specs.declared.words.Event.{Event}
use Rattle.schedule_text.specs.declared.words.Event.TheVariants as event
use Rattle.journal_core.specs.Records as journals
use Rattle.world_spec.specs.Setting.{Setting}
use Rattle.world_spec.specs.World.{World, new_world}
use Rattle.world_spec.specs.Step.{happens, happens_over}
use Rattle.world_spec.specs.Report.{lines_of, lines_over}
use Rattle.world_spec.specs.Run.{run, report_from, report, world_after, journal, records_of}
use Rattle.run_law.specs.Laws.{with_workers}

same-happens : (s : Setting) (w : World) (n : ℕ) (e : Event) → happens s w (with_workers n e) ≡ happens s w e
unfolding happens_over
same-happens s w count (event.Run m workers) = refl
same-happens s w count e = refl

same-lines : (s : Setting) (w : World) (n : ℕ) (e : Event) → lines_of s w (with_workers n e) ≡ lines_of s w e
unfolding lines_over
same-lines s w count (event.Run m workers) = refl
same-lines s w count e = refl

same-report : (s : Setting) (n : ℕ) (events : List Event) (w : World) → report_from s (map (with_workers n) events) w ≡ report_from s events w
same-report s n [] w = refl
same-report s n (e ∷ events) w =
    ap (λ lines. lines ++ report_from s (map (with_workers n) events) (happens s w (with_workers n e))) (same-lines s w n e)
    ∙ ap (λ (v : World). lines_of s w e ++ report_from s (map (with_workers n) events) v) (same-happens s w n e)
    ∙ ap (λ rest. lines_of s w e ++ rest) (same-report s n events (happens s w e))

same-world : (s : Setting) (n : ℕ) (events : List Event) (w : World) → run s (map (with_workers n) events) w ≡ run s events w
same-world s n [] w = refl
same-world s n (e ∷ events) w =
    ap (λ (v : World). run s (map (with_workers n) events) v) (same-happens s w n e)
    ∙ same-world s n events (happens s w e)

pub change_nothing : (s : Setting) (events : List Event) (n : ℕ) → (report s (map (with_workers n) events) ≡ report s events) × ((m : ℕ) → journal s (map (with_workers n) events) m ≡ journal s events m)
unfolding report journal world_after
change_nothing s events n = (
  same-report s n events (new_world s),
  λ m. ap (λ (w : World). map journals.journal_record.spell (records_of (slice_get w.seats m))) (same-world s n events (new_world s)),
)
