-- Calls that keep no record: the members stay as they are, and what the member states is its answer in its state.
use Rattle.std.proofs.Common.{◌≡◌, ◌∙◌, ap, sym, refl, subst, ℕ, Bool, List, [], ◌∷◌, ◌++◌, map, Option, Some, None, option_map, Result}
use Rattle.std.proofs.lemmas.Result.{IfOk-weaker}
use Rattle.std.specs.Prelude.{IfOk, OnOk, slice_get, slice_set}
use Rattle.digest_core.specs.declared.Digest.{Digest}
use Rattle.chain_messages.specs.declared.messages.Statement.{Statement}
use Rattle.journal_core.specs.declared.records.Record.{Record}
use Rattle.outside.specs.Lists.{Journals}
use Rattle.protocol_spec.proofs.ListLemmas.{set_same}
use Rattle.protocol_spec.specs.Chain.Certificates.{Rules}
use Rattle.report_text.specs.declared.lines.EndText.{EndText}
use Rattle.report_text.specs.declared.lines.Line.{Line}
use Rattle.report_text.specs.declared.lines.Line.TheVariants as line
use Rattle.protocol_spec.specs.Member.Member.{Member}
use Rattle.protocol_spec.specs.Member.Calls.{Call, ack_answer, acks, due, end_answer, ends}
use Rattle.world_spec.specs.Setting.{Trust}
use Rattle.world_spec.specs.World.{Reached, Said, answers, finds_down, reached_up, said_by, stated}
use Rattle.world_spec.specs.Report.{ack_reached, end_reached}
use Rattle.world_spec.proofs.LineWorlds.{ack_same, end_same}
use Rattle.world_spec.specs.Seats.{Seated}
use Rattle.world_spec.specs.Posts.{AddsLeft, Post, post_behind, posts_behind, posts_with, reached_in, reached_post, reached_standing, record_left, seat_behind, stated_in}
use Rattle.world_spec.specs.Scene.{Scene, bare_setting, post_world, rules_in}
use Rattle.world_spec.specs.SceneSteps.{asks, called_scene, seat_state, standing_at, state_at}
use Rattle.world_core.specs.Steps.{comes_to}
use Rattle.world_core.specs.Epochs.{ack_statements, ack_text_by, end_statements, end_text_by}
use Rattle.world_core.specs.Kept.{LeavesAs}
use Rattle.world_core.proofs.Lines.{left_on}
use Rattle.world_core.proofs.Sound.{on_ok}
use Rattle.validator_core.proofs.Settling.{keeps_same}

-- a member in this state answers in it; one that is down finds nobody
abbrev pub reached_of : Option Member → Reached
reached_of None = finds_down
reached_of (Some state) = answers state None

module _ (r : Rules) (call : Call) (silent : (s : Member) → due r s call ≡ None) where
  armed_none : (m : Member) (armed : Option Bool) → reached_up m armed None ≡ answers m None
  armed_none m None = refl
  armed_none m (Some kept) = refl

  stands_as : (armed : Option Bool) (standing : Option Seated) → reached_standing r call armed standing ≡ reached_of (option_map seat_state standing)
  stands_as armed None = refl
  stands_as armed (Some seat) = ap (λ (x : Option Record). reached_up seat.state armed x) (silent seat.state) ∙ armed_none seat.state armed

  post_as : (p : Option Post) → reached_post r call p ≡ reached_of (option_map seat_state (standing_at p))
  post_as None = refl
  post_as (Some p) = stands_as p.armed p.standing

  pub reached_as : (posts : List Post) (m : ℕ) → reached_in r posts m call ≡ reached_of (option_map seat_state (standing_at (slice_get posts m)))
  reached_as posts m = post_as (slice_get posts m)

  none_of : (state : Option Member) → record_left (reached_of state) ≡ None
  none_of None = refl
  none_of (Some state) = refl

  pub none_left : (posts : List Post) (m : ℕ) → record_left (reached_in r posts m call) ≡ None
  none_left posts m = ap (λ (x : Reached). record_left x) (reached_as posts m) ∙ none_of (option_map seat_state (standing_at (slice_get posts m)))

  same_seat : (standing : Option Seated) → option_map (seat_behind r call) standing ≡ standing
  same_seat None = refl
  same_seat (Some seat) = rw (silent seat.state) refl

  same_post : (p : Post) (standing : Option Seated) → standing ≡ p.standing → post_behind r call p (reached_of (option_map seat_state standing)) ≡ p
  same_post p None is = refl
  same_post p (Some seat) is = ap (λ (s : Option Seated). record { honest = p.honest; standing = s; armed = p.armed }) (same_seat p.standing)

  same_at : (posts : List Post) (m : ℕ) (p : Option Post) → slice_get posts m ≡ p → posts_with r call posts m p ≡ posts
  same_at posts m None at = refl
  same_at posts m (Some p) at =
      ap (λ (x : Reached). slice_set posts m (post_behind r call p x)) (post_as (Some p))
      ∙ ap (λ (q : Post). slice_set posts m q) (same_post p p.standing refl)
      ∙ set_same posts m p at

  same_posts : (posts : List Post) (m : ℕ) → posts_behind r posts m call ≡ posts
  same_posts posts m = same_at posts m (slice_get posts m) refl

  -- the scene after it has more that was said, and nothing else
  pub silent_scene : (sc : Scene) (m : ℕ) → called_scene r sc m call ≡ record sc { said = sc.said ++ map (said_by m) (stated_in r call (reached_of (state_at sc m))) }
  silent_scene sc m =
      ap (λ (posts : List Post). record sc { posts = posts; said = sc.said ++ map (said_by m) (stated_in r call (reached_in r sc.posts m call)) }) (same_posts sc.posts m)
      ∙ ap (λ (x : Reached). record sc { said = sc.said ++ map (said_by m) (stated_in r call x) }) (reached_as sc.posts m)

ends_silent : (r : Rules) (s : Member) → due r s ends ≡ None
unfolding due
ends_silent r s = refl

acks_silent : (r : Rules) (tx : Digest) (s : Member) → due r s (acks tx) ≡ None
unfolding due
acks_silent r tx s = refl

abbrev pub saying : Scene → List Said → Scene
saying sc said = record sc { said = said }

-- ---- what a member says of its End, and of an acknowledgement

end_stated : (r : Rules) (state : Option Member) → stated_in r ends (reached_of state) ≡ end_statements r state
unfolding stated
end_stated r None = refl
end_stated r (Some state) = refl

ack_stated : (r : Rules) (tx : Digest) (state : Option Member) → stated_in r (acks tx) (reached_of state) ≡ ack_statements r tx state
unfolding stated
ack_stated r tx None = refl
ack_stated r tx (Some state) = refl

module _ (trust : Trust) (sc : Scene) (m : ℕ) where
  abbrev r : Rules
  r = rules_in trust.accepts sc

  -- the scene after an End
  pub end_scene : (said : List Said) → said ≡ sc.said ++ map (said_by m) (end_statements r (state_at sc m)) → saying sc said ≡ called_scene r sc m ends
  end_scene said told =
      ap (saying sc) (told ∙ ap (λ (xs : List Statement). sc.said ++ map (said_by m) xs) (sym (end_stated r (state_at sc m))))
      ∙ sym (silent_scene r ends (ends_silent r) sc m)

  end_text_as : (state : Option Member) → end_text_by sc.known r state ≡ end_reached (bare_setting trust sc) (post_world sc) (reached_of state)
  end_text_as None = refl
  end_text_as (Some state) = sym (end_same (bare_setting trust sc) (post_world sc) (end_answer r state))

  pub end_text_is : end_text_by sc.known r (state_at sc m) ≡ end_reached (bare_setting trust sc) (post_world sc) (comes_to trust sc m ends)
  end_text_is = end_text_as (state_at sc m) ∙ sym (ap (λ (x : Reached). end_reached (bare_setting trust sc) (post_world sc) x) (reached_as r ends (ends_silent r) sc.posts m))

  pub end_leaves : {A E : Type 0} (told : Option Journals) (result : Result A E) → LeavesAs r sc (asks m ends) told told result
  end_leaves told result = left_on r sc m ends told told result (subst (λ (x : Option Record). AddsLeft told told m x) (sym (none_left r ends (ends_silent r) sc.posts m)) (keeps_same told))

  module _ (tx : Digest) where
    -- the scene after an acknowledgement is that of a call without a record
    pub ack_scene : (said : List Said) → said ≡ sc.said ++ map (said_by m) (ack_statements r tx (state_at sc m)) → saying sc said ≡ called_scene r sc m (acks tx)
    ack_scene said told =
        ap (saying sc) (told ∙ ap (λ (xs : List Statement). sc.said ++ map (said_by m) xs) (sym (ack_stated r tx (state_at sc m))))
        ∙ sym (silent_scene r (acks tx) (acks_silent r tx) sc m)

    ack_text_as : (state : Option Member) → ack_text_by sc.known r tx state ≡ ack_reached (bare_setting trust sc) (post_world sc) tx (reached_of state)
    ack_text_as None = refl
    ack_text_as (Some state) = sym (ack_same (bare_setting trust sc) (post_world sc) (ack_answer r state tx))

    pub ack_text_is : ack_text_by sc.known r tx (state_at sc m) ≡ ack_reached (bare_setting trust sc) (post_world sc) tx (comes_to trust sc m (acks tx))
    ack_text_is = ack_text_as (state_at sc m) ∙ sym (ap (λ (x : Reached). ack_reached (bare_setting trust sc) (post_world sc) tx x) (reached_as r (acks tx) (acks_silent r tx) sc.posts m))

    pub ack_leaves : {A E : Type 0} (told : Option Journals) (result : Result A E) → LeavesAs r sc (asks m (acks tx)) told told result
    ack_leaves told result = left_on r sc m (acks tx) told told result (subst (λ (x : Option Record). AddsLeft told told m x) (sym (none_left r (acks tx) (acks_silent r tx) sc.posts m)) (keeps_same told))

-- ---- an End, said of the world as it was

module _ {E : Type 0} (trust : Trust) (v sc : Scene) (m : ℕ) (result : Result (List Line) E) (view : v ≡ sc) where
  pub end_told : (said : List Said) → said ≡ v.said ++ map (said_by m) (end_statements (rules_in trust.accepts v) (state_at v m)) → OnOk result (saying v said ≡ called_scene (rules_in trust.accepts sc) sc m ends)
  end_told said told =
      on_ok (saying v said ≡ called_scene (rules_in trust.accepts sc) sc m ends) result
      (subst (λ (x : Scene). saying v said ≡ called_scene (rules_in trust.accepts x) x m ends) view (end_scene trust v m said told))

  -- its line
  abbrev IsEnd : Scene → List Line → Type 0
  IsEnd x lines = lines ≡ line.End m (end_reached (bare_setting trust x) (post_world x) (comes_to trust x m ends)) ∷ []

  pub end_lines_told : (text : EndText) → text ≡ end_text_by v.known (rules_in trust.accepts v) (state_at v m) → IfOk result (λ lines. lines ≡ line.End m text ∷ []) → IfOk result (IsEnd sc)
  end_lines_told text said told =
      subst (λ (x : Scene). IfOk result (IsEnd x)) view
      (IfOk-weaker result (λ lines. lines ≡ line.End m text ∷ []) (IsEnd v) (λ lines now. now ∙ ap (λ (t : EndText). line.End m t ∷ []) (said ∙ end_text_is trust v m)) told)
