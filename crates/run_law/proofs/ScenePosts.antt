-- The members of a world as they stand: what a call, a stop and a start do to them.
use Rattle.std.proofs.Common.{refl, sym, ap, ◌∙◌, append-nil, arith}
use Rattle.std.specs.Prelude.{◌≡◌, ℕ, ◌+◌, zero, suc, Bool, true, false, cond, List, [], ◌∷◌, ◌++◌, map, slice_get, slice_set, Option, Some, None, option_map}
use Rattle.journal_core.specs.declared.records.Record.{Record}
use Rattle.protocol_spec.proofs.ListLemmas.{set_same}
use Rattle.protocol_spec.specs.Member.Member.{Member, state}
use Rattle.protocol_spec.specs.Member.Calls.{Call, after_due, due}
use Rattle.world_spec.specs.Setting.{Setting}
use Rattle.world_spec.specs.World as worlds
use Rattle.world_spec.specs.World.{Said, World, Reached, finds_down, stops, answers, appended, behind, called_in, called_seat, honest_seat, member_in, reached, reached_at, reached_seat, reached_up, seat_is, stopped_seat, called_over, reached_over, sealed_by}
use Rattle.world_spec.specs.Step.{on_seat}
use Rattle.world_spec.proofs.Plain.{IsPlain, plain_in}
use Rattle.safety_law.proofs.Apart.{state-push}
use Rattle.safety_law.proofs.InWorld.{answered-due}
use Rattle.world_spec.specs.Terms.{terms_of}
use Rattle.world_spec.specs.Seats.{Seated}
use Rattle.world_spec.specs.Posts.{Post, changed_at, post_behind, post_honest, posts_behind, posts_with, reached_in, reached_post, reached_standing, seat_at, seat_behind, stated_in}
use Rattle.world_spec.specs.Scene.{Scene}
use Rattle.world_spec.specs.SceneSteps.{called_scene}
use Rattle.world_spec.specs.SceneWorlds.{post_of, posts_from, scene_of}

-- ---- the member at a number

-- the number of the member at this place, if the first has number k
abbrev pub place : ℕ → ℕ → ℕ
place k zero = k
place k (suc m) = place (suc k) m

pub place-is : (k m : ℕ) → place k m ≡ k + m
place-is k zero = omega arith
place-is k (suc m) = let same = place-is (suc k) m in omega (arith, same)

pub place-first : (m : ℕ) → place 0 m ≡ m
place-first m = let same = place-is 0 m in omega (arith, same)

pub posts-get : (s : Setting) (k : ℕ) (seats : List worlds.Seat) (m : ℕ) → slice_get (posts_from s k seats) m ≡ option_map (post_of s (place k m)) (slice_get seats m)
posts-get s k [] m = refl
posts-get s k (seat ∷ seats) zero = refl
posts-get s k (seat ∷ seats) (suc m) = posts-get s (suc k) seats m

pub posts-set : (s : Setting) (k : ℕ) (seats : List worlds.Seat) (m : ℕ) (seat : worlds.Seat) → slice_set (posts_from s k seats) m (post_of s (place k m) seat) ≡ posts_from s k (slice_set seats m seat)
posts-set s k [] m seat = refl
posts-set s k (x ∷ xs) zero seat = refl
posts-set s k (x ∷ xs) (suc m) seat = ap (λ (ps : List Post). post_of s k x ∷ ps) (posts-set s (suc k) xs m seat)

-- honest in both
pub post-honest : (s : Setting) (k : ℕ) (seats : List worlds.Seat) (m : ℕ) → honest_seat (slice_get seats m) ≡ seat_is post_honest (slice_get (posts_from s k seats) m)
post-honest s k [] m = refl
post-honest s k (seat ∷ seats) zero = refl
post-honest s k (seat ∷ seats) (suc m) = post-honest s (suc k) seats m

-- ---- what becomes of a call

module _ (s : Setting) where
  reached-standing : (call : Call) (k : ℕ) (seat : worlds.Seat) (up : Bool)
      → reached_standing s.rules call seat.armed (cond up (Some (seat_at (terms_of s.rules) k (member_in s seat))) None)
      ≡ cond up (reached_up (member_in s seat) seat.armed (due s.rules (member_in s seat) call)) finds_down
  reached-standing call k seat true = refl
  reached-standing call k seat false = refl

  reached-seat : (call : Call) (k : ℕ) (seat : worlds.Seat) → reached_post s.rules call (Some (post_of s k seat)) ≡ reached_seat s call seat
  reached-seat call k seat = reached-standing call k seat seat.up

  reached-where : (call : Call) (k : ℕ) (seat : Option worlds.Seat) → reached_post s.rules call (option_map (post_of s k) seat) ≡ reached_at s call seat
  reached-where call k None = refl
  reached-where call k (Some seat) = reached-seat call k seat

  pub reached-same : (w : World) (m : ℕ) (call : Call) → reached_in s.rules (posts_from s 0 w.seats) m call ≡ reached s w m call
  unfolding reached_over
  reached-same w m call = ap (reached_post s.rules call) (posts-get s 0 w.seats m) ∙ reached-where call (place 0 m) (slice_get w.seats m)

  -- ---- the members after a call

  -- what the outcome makes of a seat
  abbrev left_by : worlds.Seat → Reached → worlds.Seat
  left_by seat finds_down = seat
  left_by seat (stops kept x) = stopped_seat seat kept x
  left_by seat (answers before x) = record seat { records = appended seat.records x }

  after-appended : (records : List Record) (x : Option Record) → after_due s.rules (state s.rules s.opening records) x ≡ state s.rules s.opening (appended records x)
  after-appended records None = refl
  after-appended records (Some x) = sym (state-push s.rules s.opening records x)

  standing-behind : (call : Call) (k : ℕ) (seat : worlds.Seat) (x : Option Record) (up : Bool) → due s.rules (member_in s seat) call ≡ x
      → option_map (seat_behind s.rules call) (cond up (Some (seat_at (terms_of s.rules) k (member_in s seat))) None)
      ≡ cond up (Some (seat_at (terms_of s.rules) k (state s.rules s.opening (appended seat.records x)))) None
  standing-behind call k seat x false d = refl
  standing-behind call k seat x true d =
      ap (λ (y : Option Record). Some (seat_at (terms_of s.rules) k (after_due s.rules (member_in s seat) y))) d
      ∙ ap (λ (m : Member). Some (seat_at (terms_of s.rules) k m)) (after-appended seat.records x)

  post-left : (call : Call) (k : ℕ) (seat : worlds.Seat) (r : Reached) → reached_seat s call seat ≡ r → post_behind s.rules call (post_of s k seat) r ≡ post_of s k (left_by seat r)
  post-left call k seat finds_down e = refl
  post-left call k seat (stops kept x) e = refl
  post-left call k seat (answers before x) e =
      ap (λ (standing : Option Seated). record { honest = seat.honest; standing = standing; armed = seat.armed })
      (standing-behind call k seat x seat.up (answered-due s (λ _. Unit {0}) (λ _. Unit {0}) (λ _ _ _ _ _ _. tt) seat call before x e))

  seats-left : (w : World) (m : ℕ) (call : Call) (seat : worlds.Seat) (r : Reached) → slice_get w.seats m ≡ Some seat → slice_set w.seats m (left_by seat r) ≡ (behind s w m call seat r).seats
  seats-left w m call seat finds_down e = set_same w.seats m seat e
  seats-left w m call seat (stops kept x) e = refl
  seats-left w m call seat (answers before x) e = refl

  posts-left : (w : World) (m : ℕ) (call : Call) (seat : Option worlds.Seat) → slice_get w.seats m ≡ seat
      → posts_with s.rules call (posts_from s 0 w.seats) m (option_map (post_of s (place 0 m)) seat) ≡ posts_from s 0 (called_seat s w m call seat).seats
  posts-left w m call None e = refl
  posts-left w m call (Some seat) e =
      ap (λ (r : Reached). slice_set (posts_from s 0 w.seats) m (post_behind s.rules call (post_of s (place 0 m) seat) r)) (reached-seat call (place 0 m) seat)
      ∙ ap (λ (p : Post). slice_set (posts_from s 0 w.seats) m p) (post-left call (place 0 m) seat (reached_seat s call seat) refl)
      ∙ posts-set s 0 w.seats m (left_by seat (reached_seat s call seat))
      ∙ ap (λ (seats : List worlds.Seat). posts_from s 0 seats) (seats-left w m call seat (reached_seat s call seat) e)

  posts-same : (w : World) (m : ℕ) (call : Call) → posts_behind s.rules (posts_from s 0 w.seats) m call ≡ posts_from s 0 (called_in s w m call).seats
  unfolding called_over
  posts-same w m call =
      ap (λ (p : Option Post). posts_with s.rules call (posts_from s 0 w.seats) m p) (posts-get s 0 w.seats m)
      ∙ posts-left w m call (slice_get w.seats m) refl

  -- ---- what is said

  said-left : (w : World) (m : ℕ) (call : Call) (seat : worlds.Seat) (r : Reached) → w.said ++ map (sealed_by s.seal m) (stated_in s.rules call r) ≡ (behind s w m call seat r).said
  said-left w m call seat finds_down = append-nil w.said
  said-left w m call seat (stops kept x) = append-nil w.said
  said-left w m call seat (answers before x) = refl

  said-where : (w : World) (m : ℕ) (call : Call) (seat : Option worlds.Seat) → w.said ++ map (sealed_by s.seal m) (stated_in s.rules call (reached_at s call seat)) ≡ (called_seat s w m call seat).said
  said-where w m call None = append-nil w.said
  said-where w m call (Some seat) = said-left w m call seat (reached_seat s call seat)

  said-same : (w : World) (m : ℕ) (call : Call) → w.said ++ map (sealed_by s.seal m) (stated_in s.rules call (reached_in s.rules (posts_from s 0 w.seats) m call)) ≡ (called_in s w m call).said
  unfolding called_over reached_over
  said-same w m call =
      ap (λ (r : Reached). w.said ++ map (sealed_by s.seal m) (stated_in s.rules call r)) (reached-same w m call)
      ∙ said-where w m call (slice_get w.seats m)

  -- ---- the scene

  abbrev with_both : World → List Post → List Said → Scene
  with_both w posts said = record (scene_of s w) { posts = posts; said = said }

  scene-left : (w : World) (m : ℕ) (call : Call) (seat : worlds.Seat) (r : Reached) → scene_of s (behind s w m call seat r) ≡ with_both w (posts_from s 0 (behind s w m call seat r).seats) (behind s w m call seat r).said
  scene-left w m call seat finds_down = refl
  scene-left w m call seat (stops kept x) = refl
  scene-left w m call seat (answers before x) = refl

  scene-where : (w : World) (m : ℕ) (call : Call) (seat : Option worlds.Seat) → scene_of s (called_seat s w m call seat) ≡ with_both w (posts_from s 0 (called_seat s w m call seat).seats) (called_seat s w m call seat).said
  scene-where w m call None = refl
  scene-where w m call (Some seat) = scene-left w m call seat (reached_seat s call seat)

  scene-both : (w : World) (m : ℕ) (call : Call) → scene_of s (called_in s w m call) ≡ with_both w (posts_from s 0 (called_in s w m call).seats) (called_in s w m call).said
  unfolding called_over
  scene-both w m call = scene-where w m call (slice_get w.seats m)

  sealed-same : (w : World) (m : ℕ) (call : Call) → scene_of s (called_in s w m call)
      ≡ with_both w (posts_behind s.rules (posts_from s 0 w.seats) m call) (w.said ++ map (sealed_by s.seal m) (stated_in s.rules call (reached_in s.rules (posts_from s 0 w.seats) m call)))
  sealed-same w m call =
      scene-both w m call
      ∙ ap (λ (posts : List Post). with_both w posts (called_in s w m call).said) (sym (posts-same w m call))
      ∙ ap (λ (said : List Said). with_both w (posts_behind s.rules (posts_from s 0 w.seats) m call) said) (sym (said-same w m call))

  pub called-same : (w : World) (m : ℕ) (call : Call) → IsPlain s.seal s.rules call → scene_of s (called_in s w m call) ≡ called_scene s.rules (scene_of s w) m call
  called-same w m call plain =
      sealed-same w m call
      ∙ ap (λ (new : List Said). with_both w (posts_behind s.rules (posts_from s 0 w.seats) m call) (w.said ++ new)) (plain_in s.seal s.rules m call plain (reached_in s.rules (posts_from s 0 w.seats) m call))

  -- ---- one seat changes

  module _ (w : World) (m : ℕ) (change : worlds.Seat → worlds.Seat) (post : Post → Post) where
    posts-on : (seat : Option worlds.Seat) → ((x : worlds.Seat) → seat ≡ Some x → post (post_of s (place 0 m) x) ≡ post_of s (place 0 m) (change x))
        → changed_at (posts_from s 0 w.seats) m post (option_map (post_of s (place 0 m)) seat) ≡ posts_from s 0 (on_seat w m change seat).seats
    posts-on None same = refl
    posts-on (Some seat) same =
        ap (λ (p : Post). slice_set (posts_from s 0 w.seats) m p) (same seat refl)
        ∙ posts-set s 0 w.seats m (change seat)

    scene-on : (seat : Option worlds.Seat) → scene_of s (on_seat w m change seat) ≡ record (scene_of s w) { posts = posts_from s 0 (on_seat w m change seat).seats }
    scene-on None = refl
    scene-on (Some seat) = refl

    pub changed-same : ((x : worlds.Seat) → slice_get w.seats m ≡ Some x → post (post_of s (place 0 m) x) ≡ post_of s (place 0 m) (change x))
        → scene_of s (on_seat w m change (slice_get w.seats m)) ≡ record (scene_of s w) { posts = changed_at (posts_from s 0 w.seats) m post (slice_get (posts_from s 0 w.seats) m) }
    changed-same same =
        scene-on (slice_get w.seats m)
        ∙ ap (λ (posts : List Post). record (scene_of s w) { posts = posts })
        (sym (posts-on (slice_get w.seats m) same) ∙ ap (λ (p : Option Post). changed_at (posts_from s 0 w.seats) m post p) (sym (posts-get s 0 w.seats m)))
