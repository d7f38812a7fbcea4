-- Seats of records are carried to posts, so a line's step and its lines are the same over both.
use Rattle.std.proofs.Common.{refl, ap}
use Rattle.std.specs.Prelude.{◌≡◌, ℕ, Bool, true, false, cond, Option, Some, None, option_map, is_some}
use Rattle.journal_core.specs.declared.records.Record.{Record}
use Rattle.schedule_text.specs.declared.words.Event.{Event}
use Rattle.protocol_spec.specs.Member.Member.{Member, state}
use Rattle.world_spec.specs.Setting.{Setting}
use Rattle.world_spec.specs.World as worlds
use Rattle.world_spec.specs.World.{World, Deed, keeps, halts, arms, starts, acts_on, appended, by_records, member_in, reseated}
use Rattle.world_spec.specs.Step.{happens, happens_over}
use Rattle.world_spec.specs.Report.{lines_of, lines_over}
use Rattle.safety_law.proofs.Apart.{state-push}
use Rattle.world_spec.specs.Terms.{terms_of}
use Rattle.world_spec.specs.Seats.{Seated}
use Rattle.world_spec.specs.Posts.{Post, by_posts, post_acts, seat_at, seat_with, state_or}
use Rattle.world_spec.specs.SceneWorlds.{is_restart, post_of}
use Rattle.run_law.proofs.Carried.{IsCarried, is_start, lines-look, step-looks}

module _ (s : Setting) where
  abbrev standing : ℕ → Bool → Member → Option Seated
  standing k up n = cond up (Some (seat_at (terms_of s.rules) k n)) None

  up-same : (k : ℕ) (n : Member) (up : Bool) → up ≡ is_some (standing k up n)
  up-same k n true = refl
  up-same k n false = refl

  state-same : (k : ℕ) (n : Member) (up : Bool) → up ≡ true → n ≡ state_or (standing k up n)
  state-same k n true is = refl
  state-same k n false is = absurd (cc)

  keeps-same : (k : ℕ) (seat : worlds.Seat) (x : Option Record) (up : Bool) → standing k up (state s.rules s.opening (appended seat.records x)) ≡ option_map (seat_with s.rules x) (standing k up (member_in s seat))
  keeps-same k seat x false = refl
  keeps-same k seat None true = refl
  keeps-same k seat (Some x) true = ap (λ (n : Member). standing k true n) (state-push s.rules s.opening seat.records x)

  acts-same : (k : ℕ) (seat : worlds.Seat) (d : Deed) → is_start d ≡ false → post_of s k (acts_on seat d) ≡ post_acts s.rules (post_of s k seat) d
  acts-same k seat (keeps x) other = ap (λ (o : Option Seated). let post : Post = record { honest = seat.honest; standing = o; armed = seat.armed } in post) (keeps-same k seat x seat.up)
  acts-same k seat (halts kept x) other = refl
  acts-same k seat (arms kept) other = refl
  acts-same k seat starts other = absurd (cc)

  pub records-carried : IsCarried (by_records s) (by_posts s.seal s.rules) (post_of s)
  records-carried = record {
    honest = λ k seat. refl;
    up = λ k seat. up-same k (member_in s seat) seat.up;
    armed = λ k seat. refl;
    state = λ k seat is. state-same k (member_in s seat) seat.up is;
    acts = acts-same;
    stays = λ seat x. refl;
    seal = refl;
  }

  pub posts-step : (w : World) (e : Event) → is_restart e ≡ false → reseated (post_of s) (happens s w e) ≡ happens_over (by_posts s.seal s.rules) s (reseated (post_of s) w) e
  posts-step = step-looks (by_records s) (by_posts s.seal s.rules) (post_of s) s s.honest s.opening s.users records-carried

  pub posts-lines : (w : World) (e : Event) → is_restart e ≡ false → lines_of s w e ≡ lines_over (by_posts s.seal s.rules) s (reseated (post_of s) w) e
  posts-lines = lines-look (by_records s) (by_posts s.seal s.rules) (post_of s) s s.honest s.opening s.users records-carried
