-- Entries that a member takes: the calls that hand them in are the same in a world and in its scene.
use Rattle.std.proofs.Common.{refl, sym, subst, ap, ◌∙◌, inl, inr}
use Rattle.std.specs.Prelude.{◌≡◌, ◌⊎◌, ℕ, zero, suc, min, Bool, true, false, cond, List, [], ◌∷◌, slice_get, Option, Some, None, option_map, option_and_then}
use Rattle.chain_messages.specs.Messages as messages
use Rattle.chain_messages.specs.declared.messages.Entry.{Entry}
use Rattle.protocol_spec.proofs.ListLemmas.{each_at, each_join}
use Rattle.protocol_spec.specs.Chain.Words.{Each}
use Rattle.protocol_spec.specs.Member.Member.{Member}
use Rattle.protocol_spec.specs.Member.Calls.{Call, sees, due}
use Rattle.world_spec.specs.Setting.{Setting}
use Rattle.world_spec.specs.World as worlds
use Rattle.world_spec.specs.World.{World, Reached, finds_down, answers, appended, behind, called_if, called_in, called_seat, entries_at, member_at, member_in, next_call, next_call_of, numbered_call, reached, reached_at, reached_seat, reached_up, sees_on, state_of, called_over, reached_over, is_seat_up, next_entry}
use Rattle.world_spec.specs.Step.{entries_left}
use Rattle.world_spec.specs.Assumptions.{call_list, see_calls}
use Rattle.world_spec.specs.Terms.{terms_of}
use Rattle.world_spec.specs.Posts.{Post, seat_at}
use Rattle.world_spec.specs.Scene.{post_world}
use Rattle.world_spec.specs.SceneSteps as scenes
use Rattle.world_spec.specs.SceneSteps.{next_on, seat_state, sees_to, standing_at, state_at}
use Rattle.world_spec.specs.SceneWorlds.{post_of, scene_of}
use Rattle.safety_law.proofs.Growth.{called_if-same}
use Rattle.world_spec.proofs.Plain.{plain_sees}
use Rattle.run_law.proofs.ScenePosts.{called-same, place, posts-get}

-- a member is there and up
pub record IsUp (w : World) (m : ℕ) : Type 0 where
  pub seat : worlds.Seat
  pub at : slice_get w.seats m ≡ Some seat
  pub up : seat.up ≡ true

-- a member is down or not there: its scene has no state of it, and no call changes anything
pub record IsDown (s : Setting) (w : World) (m : ℕ) : Type 0 where
  pub down : is_seat_up (slice_get w.seats m) ≡ false
  pub state : state_at (scene_of s w) m ≡ None
  pub same : (call : Call) → called_in s w m call ≡ w

module _ (s : Setting) where
  -- ---- the state of a member that is up

  abbrev up_state : Option worlds.Seat → Option Member
  up_state None = None
  up_state (Some seat) = cond seat.up (Some (member_in s seat)) None

  state-if : (k : ℕ) (seat : worlds.Seat) (up : Bool) → option_map seat_state (cond up (Some (seat_at (terms_of s.rules) k (member_in s seat))) None) ≡ cond up (Some (member_in s seat)) None
  state-if k seat true = refl
  state-if k seat false = refl

  state-where : (k : ℕ) (seat : Option worlds.Seat) → option_map seat_state (standing_at (option_map (post_of s k) seat)) ≡ up_state seat
  state-where k None = refl
  state-where k (Some seat) = state-if k seat seat.up

  state-same : (w : World) (m : ℕ) → state_at (scene_of s w) m ≡ up_state (slice_get w.seats m)
  state-same w m = ap (λ (p : Option Post). option_map seat_state (standing_at p)) (posts-get s 0 w.seats m) ∙ state-where (place 0 m) (slice_get w.seats m)

  -- ---- up, or down

  down-left : (w : World) (m : ℕ) (call : Call) (seat : worlds.Seat) → seat.up ≡ false → behind s w m call seat (reached_seat s call seat) ≡ w
  down-left w m call seat down = ap (λ (up : Bool). behind s w m call seat (cond up (reached_up (member_in s seat) seat.armed (due s.rules (member_in s seat) call)) finds_down)) down

  down-called : (w : World) (m : ℕ) (call : Call) (seat : worlds.Seat) → slice_get w.seats m ≡ Some seat → seat.up ≡ false → called_in s w m call ≡ w
  unfolding called_over
  down-called w m call seat at down = ap (λ (o : Option worlds.Seat). called_seat s w m call o) at ∙ down-left w m call seat down

  none-called : (w : World) (m : ℕ) (call : Call) → slice_get w.seats m ≡ None → called_in s w m call ≡ w
  unfolding called_over
  none-called w m call at = ap (λ (o : Option worlds.Seat). called_seat s w m call o) at

  stands-if : (w : World) (m : ℕ) (seat : worlds.Seat) (up : Bool) → slice_get w.seats m ≡ Some seat → seat.up ≡ up → IsUp w m ⊎ IsDown s w m
  stands-if w m seat true at is = inl (record { seat = seat; at = at; up = is })
  stands-if w m seat false at is = inr (record {
    down = ap (λ (o : Option worlds.Seat). is_seat_up o) at ∙ is;
    state = state-same w m ∙ ap up_state at ∙ ap (λ (up : Bool). cond up (Some (member_in s seat)) None) is;
    same = λ call. down-called w m call seat at is;
  })

  stands-at : (w : World) (m : ℕ) (seat : Option worlds.Seat) → slice_get w.seats m ≡ seat → IsUp w m ⊎ IsDown s w m
  stands-at w m None at = inr (record {
    down = ap (λ (o : Option worlds.Seat). is_seat_up o) at;
    state = state-same w m ∙ ap up_state at;
    same = λ call. none-called w m call at;
  })
  stands-at w m (Some seat) at = stands-if w m seat seat.up at refl

  pub stands : (w : World) (m : ℕ) → IsUp w m ⊎ IsDown s w m
  stands w m = stands-at w m (slice_get w.seats m) refl

  -- a member that is up has its state in the world and in the scene
  pub up-member : (w : World) (m : ℕ) (is : IsUp w m) → member_at s w m ≡ Some (member_in s is.seat)
  up-member w m is = ap (λ (o : Option worlds.Seat). option_and_then (state_of s) o) is.at

  pub up-state : (w : World) (m : ℕ) (is : IsUp w m) → state_at (scene_of s w) m ≡ Some (member_in s is.seat)
  up-state w m is = state-same w m ∙ ap up_state is.at ∙ ap (λ (up : Bool). cond up (Some (member_in s is.seat)) None) is.up

  -- ---- the next entry

  pub up-next : (w : World) (m : ℕ) (is : IsUp w m) → next_call s w m ≡ next_call_of w (member_in s is.seat)
  up-next w m is = ap (λ (o : Option Member). option_and_then (next_call_of w) o) (up-member w m is)

  pub up-next-on : (w : World) (m : ℕ) (is : IsUp w m) → next_on (scene_of s w) m ≡ next_call_of w (member_in s is.seat)
  up-next-on w m is = ap (λ (o : Option Member). option_and_then (next_call_of (post_world (scene_of s w))) o) (up-state w m is)

  pub down-next : (w : World) (m : ℕ) → IsDown s w m → next_on (scene_of s w) m ≡ None
  down-next w m is = ap (λ (o : Option Member). option_and_then (next_call_of (post_world (scene_of s w))) o) is.state

  pub down-step : (w : World) (m : ℕ) (call : Option Call) → IsDown s w m → called_if s w m call ≡ w
  down-step w m None is = refl
  down-step w m (Some call) is = is.same call

  step-if : (w : World) (m number : ℕ) (e : Option Entry) → scene_of s (called_if s w m (option_map (numbered_call number) e)) ≡ scenes.called_if s.rules (scene_of s w) m (option_map (numbered_call number) e)
  step-if w m number None = refl
  step-if w m number (Some e) = called-same s w m (numbered_call number e) (plain_sees s.seal s.rules number (messages.entry.spell e))

  step-by : (w : World) (m : ℕ) → IsUp w m ⊎ IsDown s w m → scene_of s (called_if s w m (next_call s w m)) ≡ scenes.called_if s.rules (scene_of s w) m (next_on (scene_of s w) m)
  step-by w m (inl is) =
      ap (λ (call : Option Call). scene_of s (called_if s w m call)) (up-next w m is)
      ∙ step-if w m (member_in s is.seat).sequence.number (next_entry w (member_in s is.seat))
      ∙ sym (ap (λ (call : Option Call). scenes.called_if s.rules (scene_of s w) m call) (up-next-on w m is))
  step-by w m (inr is) =
      ap (λ (v : World). scene_of s v) (down-step w m (next_call s w m) is)
      ∙ sym (ap (λ (call : Option Call). scenes.called_if s.rules (scene_of s w) m call) (down-next w m is))

  pub next-same : (w : World) (m : ℕ) → scene_of s (called_if s w m (next_call s w m)) ≡ scenes.called_if s.rules (scene_of s w) m (next_on (scene_of s w) m)
  next-same w m = step-by w m (stands w m)

  -- ---- this many entries

  down-sees : (n : ℕ) (w : World) (m : ℕ) → IsDown s w m → sees_on s n w m ≡ w
  down-sees zero w m is = refl
  down-sees (suc n) w m is = ap (λ (v : World). sees_on s n v m) (down-step w m (next_call s w m) is) ∙ down-sees n w m is

  count-by : (w : World) (m n : ℕ) → IsUp w m ⊎ IsDown s w m
      → sees_on s (min n (entries_left w (member_at s w m))) w m ≡ sees_on s (min n (entries_left (post_world (scene_of s w)) (state_at (scene_of s w) m))) w m
  count-by w m n (inl is) =
      ap (λ (o : Option Member). sees_on s (min n (entries_left w o)) w m) (up-member w m is)
      ∙ sym (ap (λ (o : Option Member). sees_on s (min n (entries_left (post_world (scene_of s w)) o)) w m) (up-state w m is))
  count-by w m n (inr is) = down-sees (min n (entries_left w (member_at s w m))) w m is ∙ sym (down-sees (min n (entries_left (post_world (scene_of s w)) (state_at (scene_of s w) m))) w m is)

  -- the scene counts the entries of a member that is up
  pub count-same : (w : World) (m n : ℕ) → sees_on s (min n (entries_left w (member_at s w m))) w m ≡ sees_on s (min n (entries_left (post_world (scene_of s w)) (state_at (scene_of s w) m))) w m
  count-same w m n = count-by w m n (stands w m)

  -- ---- the calls that hand in entries of which Q holds

  module _ (Q : Entry → Type 0) (P : Call → Type 0) (tells : (number : ℕ) (e : Entry) → Q e → P (sees number (messages.entry.spell e))) where
    entry-of : (m : Member) (ended : Bool) (es : List Entry) → Each Q es → Each P (call_list (option_map (numbered_call m.sequence.number) (cond ended None (slice_get es m.sequence.number))))
    entry-of m true es each = tt
    entry-of m false es each = go (slice_get es m.sequence.number) refl
      where
        go : (o : Option Entry) → slice_get es m.sequence.number ≡ o → Each P (call_list (option_map (numbered_call m.sequence.number) o))
        go None at = tt
        go (Some e) at = (tells m.sequence.number e (each_at Q es m.sequence.number e each at), tt)

    entries-of : (qs : List (List Entry)) (n : ℕ) → Each (Each Q) qs → Each Q (entries_at qs n)
    entries-of [] n each = tt
    entries-of (es ∷ qs) zero each = each.0
    entries-of (es ∷ qs) (suc n) each = entries-of qs n each.1

    next-of : (w : World) (seat : Option worlds.Seat) → Each (Each Q) w.sequences → Each P (call_list (option_and_then (next_call_of w) (option_and_then (state_of s) seat)))
    next-of w None each = tt
    next-of w (Some seat) each = let m = member_in s seat in entry-of m m.sequence.ended (entries_at w.sequences m.epoch) (entries-of w.sequences m.epoch each)

    pub see-each : (n : ℕ) (w : World) (m : ℕ) → Each (Each Q) w.sequences → Each P (see_calls s n w m)
    see-each zero w m each = tt
    see-each (suc n) w m each =
        let v = called_if s w m (next_call s w m) in
        each_join P (call_list (next_call s w m)) (see_calls s n v m)
        (next-of w (slice_get w.seats m) each)
        (see-each n v m (subst (λ (qs : List (List Entry)). Each (Each Q) qs) (sym (called_if-same s w m (next_call s w m))) each))
