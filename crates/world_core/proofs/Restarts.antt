-- What a restart of a seat is to the world.
use Rattle.std.proofs.Common.{◌≡◌, ◌∙◌, ap, ℕ, List, [], ◌∷◌, Option, Some, None, Ok}
use Rattle.std.specs.Prelude.{slice_set}
use Rattle.outside.specs.Lists.{Journals}
use Rattle.report_text.specs.declared.lines.Line.{Line}
use Rattle.report_text.specs.declared.lines.Line.TheVariants as line
use Rattle.report_text.specs.declared.lines.RestartText.TheVariants as restart_text
use Rattle.world_spec.specs.Posts.{Post}
use Rattle.world_spec.specs.Scene.{Scene, rules_in}
use Rattle.world_core.specs.SeatRestarts.{Restarted}
use Rattle.world_core.specs.Restarts.{Accepting, RestartsAs}

pub comes_back : (accepts : Accepting) (told : Option Journals) (m : ℕ) (old new : Scene) (p : Option Post) (count : ℕ) (lines : List Line) → Restarted (rules_in accepts old) old.opening told old.terms m old.posts new.posts p count
    → new ≡ record old { posts = new.posts } → lines ≡ line.Restart m (restart_text.Records count) ∷ [] → RestartsAs accepts told m old new p (Ok lines)
comes_back accepts told m old new None count lines is n l =
    record {
      scene = n ∙ ap (λ ps. let s : Scene = record old { posts = ps } in s) is.posts;
      says = l ∙ ap (λ k. line.Restart m (restart_text.Records k) ∷ []) is.many;
    }
comes_back accepts told m old new (Some p) count lines is n l =
    record {
      kept = is.kept;
      state = is.state;
      is = is.is;
      starts = is.starts;
      scene = n ∙ ap (λ ps. let s : Scene = record old { posts = ps } in s) is.posts;
      says = l ∙ ap (λ k. line.Restart m (restart_text.Records k) ∷ []) is.many;
    }

-- the line was there before, with another number
pub comes_set : (accepts : Accepting) (told : Option Journals) (m : ℕ) (old new : Scene) (p : Option Post) (count : ℕ) (lines first : List Line) (x y : Line) → Restarted (rules_in accepts old) old.opening told old.terms m old.posts new.posts p count
    → new ≡ record old { posts = new.posts } → first ≡ x ∷ [] → y ≡ line.Restart m (restart_text.Records count) → lines ≡ slice_set first 0 y → RestartsAs accepts told m old new p (Ok lines)
comes_set accepts told m old new p count lines first x y is n f same l =
    comes_back accepts told m old new p count lines is n (l ∙ ap (λ (ls : List Line). slice_set ls 0 y) f ∙ ap (λ (z : Line). z ∷ []) same)
