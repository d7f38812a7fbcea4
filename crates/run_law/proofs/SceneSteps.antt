-- A step of the scene is the definition's step, and gives its lines.
use Rattle.std.proofs.Common.{refl, sym, subst, ap, ◌∙◌}
use Rattle.std.proofs.lemmas.List.{length-map}
use Rattle.std.specs.Prelude.{◌≡◌, ◌<◌, ℕ, suc, Bool, false, List, [], ◌∷◌, map, slice_get, length, Option, Some, None, Result, Ok}
use Rattle.digest_core.specs.declared.Digest.{Digest}
use Rattle.quorum_core.specs.declared.signer.Signer.{Signer}
use Rattle.journal_core.specs.Records as journals
use Rattle.report_text.specs.declared.lines.Line.{Line}
use Rattle.report_text.specs.declared.lines.Line.TheVariants as line
use Rattle.report_text.specs.declared.lines.RestartText.TheVariants as restart_text
use Rattle.schedule_text.specs.declared.words.Setup.{Setup}
use Rattle.schedule_text.specs.declared.words.Event.{Event}
use Rattle.schedule_text.specs.declared.words.Event.TheVariants as event
use Rattle.protocol_spec.specs.Chain.Certificates.{Rules}
use Rattle.protocol_spec.specs.Member.Member.{Member, state}
use Rattle.protocol_spec.specs.declared.refusals.StartRefusal.{StartRefusal}
use Rattle.world_spec.specs.Setting.{Trust, Setting, setting_of}
use Rattle.world_spec.specs.World as worlds
use Rattle.world_spec.specs.World.{World, WorldOf, by_records, member_in, new_seat, new_world, reseated, started_seat}
use Rattle.world_spec.specs.Step.{happens, happens_over}
use Rattle.world_spec.specs.Report.{lines_of, lines_over, record_count}
use Rattle.world_spec.specs.Run.{records_of}
use Rattle.world_spec.specs.Terms.{rules_for, terms_of}
use Rattle.world_spec.specs.Starts.{started}
use Rattle.world_spec.specs.Posts.{Post, by_posts, new_posts, seat_at, started_at, starting}
use Rattle.world_spec.specs.Scene.{Scene, new_scene, scene_with}
use Rattle.world_spec.specs.SceneSteps.{lines_in, steps_to}
use Rattle.world_spec.specs.SceneWorlds.{Restarts, Shows, is_restart, journal_in, post_of, posts_from, scene_of, spelled}
use Rattle.run_law.proofs.Carried.{aside, lines-look, step-looks}
use Rattle.run_law.proofs.CarriedPosts.{records-carried}
use Rattle.run_law.proofs.ScenePosts.{place-first, changed-same}

-- ---- the first scene

fresh-posts : (s : Setting) (k : ℕ) (honest : List Bool) → new_posts (terms_of s.rules) s.opening k honest ≡ posts_from s k (map new_seat honest)
unfolding state
fresh-posts s k [] = refl
fresh-posts s k (h ∷ honest) = ap (λ (ps : List Post). post_of s k (new_seat h) ∷ ps) (fresh-posts s (suc k) honest)

pub first-shown : (trust : Trust) (lines : List Setup) → Shows trust (setting_of trust lines) (new_world (setting_of trust lines)) (new_scene (setting_of trust lines) lines)
unfolding setting_of new_world
first-shown trust lines =
    let s = setting_of trust lines in
    record {
      rules = refl;
      seal = refl;
      scene = ap (λ (posts : List Post). record (new_scene s lines) { posts = posts }) (fresh-posts s 0 s.honest);
    }

-- a post for each seat
pub posts-many : (s : Setting) (k : ℕ) (seats : List worlds.Seat) → length (posts_from s k seats) ≡ length seats
posts-many s k [] = refl
posts-many s k (seat ∷ seats) = ap (λ (n : ℕ). suc n) (posts-many s (suc k) seats)

pub posts-shown : (trust : Trust) (s : Setting) (w : World) (sc : Scene) → Shows trust s w sc → length sc.posts ≡ length w.seats
posts-shown trust s w sc shows = ap (λ (x : Scene). length x.posts) shows.scene ∙ posts-many s 0 w.seats

-- ---- a line

module _ (trust : Trust) (s : Setting) (w : World) where
  -- the step of the definitions at posts, by these rules and seals
  abbrev step_by : Rules → (Signer → List ℕ → Digest) → Event → Scene
  step_by r seal e = scene_with (scene_of s w) (happens_over (by_posts seal r) (aside (record s { rules = r; seal = seal }) [] s.opening []) (reseated (post_of s) w) e)

  scene-step : s.rules ≡ rules_for (terms_of s.rules) trust.accepts → s.seal ≡ trust.seal → (e : Event) → is_restart e ≡ false → scene_of s (happens s w e) ≡ steps_to trust (scene_of s w) e
  unfolding steps_to
  scene-step rules seal e other =
      ap (λ (v : WorldOf Post). scene_with (scene_of s w) v) (step-looks (by_records s) (by_posts s.seal s.rules) (post_of s) s [] s.opening [] (records-carried s) w e other)
      ∙ ap (λ (r : Rules). step_by r s.seal e) rules
      ∙ ap (λ (f : Signer → List ℕ → Digest). step_by (rules_for (terms_of s.rules) trust.accepts) f e) seal

  -- likewise its lines
  abbrev lines_by : Rules → (Signer → List ℕ → Digest) → Event → List Line
  lines_by r seal e = lines_over (by_posts seal r) (aside (record s { rules = r; seal = seal }) [] s.opening []) (reseated (post_of s) w) e

  scene-lines : s.rules ≡ rules_for (terms_of s.rules) trust.accepts → s.seal ≡ trust.seal → (e : Event) → is_restart e ≡ false → lines_of s w e ≡ lines_in trust (scene_of s w) e
  unfolding lines_in
  scene-lines rules seal e other =
      lines-look (by_records s) (by_posts s.seal s.rules) (post_of s) s [] s.opening [] (records-carried s) w e other
      ∙ ap (λ (r : Rules). lines_by r s.seal e) rules
      ∙ ap (λ (f : Signer → List ℕ → Digest). lines_by (rules_for (terms_of s.rules) trust.accepts) f e) seal

shown-in : (trust : Trust) (s : Setting) (w : World) (sc : Scene) (e : Event) (next : Scene) → Shows trust s w sc → next ≡ scene_of s (happens s w e) → Shows trust s (happens s w e) next
shown-in trust s w sc e next shows is = record { rules = shows.rules; seal = shows.seal; scene = is }

pub step-shown : (trust : Trust) (s : Setting) (w : World) (sc : Scene) (e : Event) → Shows trust s w sc → is_restart e ≡ false → Shows trust s (happens s w e) (steps_to trust sc e)
step-shown trust s w sc e shows other =
    shown-in trust s w sc e (steps_to trust sc e) shows
    (ap (λ (x : Scene). steps_to trust x e) shows.scene ∙ sym (scene-step trust s w shows.rules shows.seal e other))

pub lines-shown : (trust : Trust) (s : Setting) (w : World) (sc : Scene) (e : Event) → Shows trust s w sc → is_restart e ≡ false → lines_of s w e ≡ lines_in trust sc e
lines-shown trust s w sc e shows other = scene-lines trust s w shows.rules shows.seal e other ∙ ap (λ (x : Scene). lines_in trust x e) (sym shows.scene)

-- ---- restarts

counted : (s : Setting) (seat : Option worlds.Seat) → record_count (by_records s) seat ≡ length (spelled (records_of seat))
counted s None = refl
counted s (Some seat) = sym (length-map seat.records journals.journal_record.spell)

pub restart-lines : (s : Setting) (w : World) (m : ℕ) → lines_of s w (event.Restart m) ≡ line.Restart m (restart_text.Records (length (journal_in w m))) ∷ []
unfolding lines_over
restart-lines s w m = ap (λ (n : ℕ). line.Restart m (restart_text.Records n) ∷ []) (counted s (slice_get w.seats m))

abbrev ok_state : Member → Result Member StartRefusal
ok_state m = Ok m

said-state : (m n : Member) → ok_state m ≡ ok_state n → m ≡ n
said-state m n e = cc

restart-same : (s : Setting) (w : World) (m : ℕ) (state : Member) → Restarts s w → started s.rules s.opening (journal_in w m) ≡ Ok state
    → scene_of s (happens s w (event.Restart m)) ≡ record (scene_of s w) { posts = started_at (terms_of s.rules) (posts_from s 0 w.seats) m state }
unfolding happens_over
restart-same s w m state restarts starts =
    changed-same s w m started_seat (starting (terms_of s.rules) m state) (λ seat at.
    let from : started s.rules s.opening (spelled seat.records) ≡ Ok state = subst (λ (x : Option worlds.Seat). started s.rules s.opening (spelled (records_of x)) ≡ Ok state) at starts in
    let is : state ≡ member_in s seat = said-state state (member_in s seat) (sym from ∙ restarts.starts m seat at) in
    ap (λ (x : Member). record { honest = seat.honest; standing = Some (seat_at (terms_of s.rules) m x); armed = None }) is
    ∙ ap (λ (k : ℕ). record { honest = seat.honest; standing = Some (seat_at (terms_of s.rules) k (member_in s seat)); armed = None }) (sym (place-first m)))

pub restart-shown : (trust : Trust) (s : Setting) (w : World) (sc : Scene) (m : ℕ) (state : Member) → Shows trust s w sc → Restarts s w → m < length w.seats → started s.rules s.opening (journal_in w m) ≡ Ok state
    → Shows trust s (happens s w (event.Restart m)) (record sc { posts = started_at sc.terms sc.posts m state })
restart-shown trust s w sc m state shows restarts lt starts =
    shown-in trust s w sc (event.Restart m) (record sc { posts = started_at sc.terms sc.posts m state }) shows
    (ap (λ (x : Scene). record x { posts = started_at x.terms x.posts m state }) shows.scene ∙ sym (restart-same s w m state restarts starts))
