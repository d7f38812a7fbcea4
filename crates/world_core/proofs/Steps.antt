-- The step of the definitions at posts, in the words of the code.
use Rattle.std.proofs.Common.{◌≡◌, ◌∙◌, ap, sym, refl, subst, ℕ, zero, suc, Bool, true, false, cond, List, [], ◌∷◌, ◌++◌, map, append-nil, Option, Some, None, option_map}
use Rattle.std.specs.Prelude.{◌&&◌, ◌==◌, min, is_some, option_and_then, slice_get, slice_set}
use Rattle.digest_core.specs.declared.Digest.{Digest}
use Rattle.quorum_core.specs.declared.signer.Signer.{Signer}
use Rattle.chain_types.specs.declared.objects.ObjectKey.{ObjectKey}
use Rattle.chain_messages.specs.declared.messages.Certificate.{Certificate}
use Rattle.chain_messages.specs.declared.messages.Entry.{Entry}
use Rattle.chain_messages.specs.declared.messages.Entry.TheVariants as entry
use Rattle.chain_messages.specs.declared.messages.Statement.{Statement}
use Rattle.chain_messages.specs.declared.messages.Statement.TheVariants as statement
use Rattle.chain_messages.specs.Messages as messages
use Rattle.journal_core.specs.declared.records.Record.{Record}
use Rattle.chain_types.specs.Transactions as transactions
use Rattle.report_text.specs.declared.lines.Line.{Line}
use Rattle.report_text.specs.declared.lines.Line.TheVariants as line
use Rattle.report_text.specs.declared.lines.AckText.TheVariants as ack_text
use Rattle.report_text.specs.declared.lines.SendText.{SendText}
use Rattle.schedule_text.specs.declared.words.Event.{Event}
use Rattle.schedule_text.specs.declared.words.Event.TheVariants as event
use Rattle.protocol_spec.proofs.ListLemmas.{set_get, set_same}
use Rattle.protocol_spec.specs.Chain.Certificates.{Rules}
use Rattle.protocol_spec.specs.Chain.Collecting.{Collected, lacks, short, differ, whole}
use Rattle.protocol_spec.specs.Chain.Words.{first_some}
use Rattle.protocol_spec.specs.Member.Member.{Fork, Member, fork_of, fresh}
use Rattle.protocol_spec.specs.Member.Calls.{Call, votes, holds, sees, runs, closes, ends, turns, acks, after_due, due}
use Rattle.world_spec.specs.Setting.{Name, Setting, Trust}
use Rattle.world_spec.specs.World.{Made, Said, WorldOf, Seating, Reached, finds_down, stops, answers, reached_up, reached_by, reached_where, reached_over, behind_over, called_where, called_over, honest_in, if_called, member_over, next_call_of, next_entry, next_over, numbered_call, said_by, says_over, sealed_by, seat_is, sees_over, stated, state_in}
use Rattle.world_spec.specs.Names.{made_named, cert_named}
use Rattle.world_spec.specs.Making.{TxLine, digest_or_zero, held_digest, made_over, spoiled_if}
use Rattle.world_spec.specs.Moves.{Move, looks_on, makes_tx, requests, delivers, claims, certifies, submits, submits_end, arms_stop, starts_again, claims_vote, claims_ack, cert_submitted, mark_submitted, is_start_move, move_of, requested}
use Rattle.world_spec.specs.Step.{acked_over, appended_entry, end_in, entries_left, executed_digest, false_ack_over, formed, formed_as, fvoted_by, happens_over, has_ended, honest_end, last_said, moved, on_seat, ordered, ordered_end, origins_by, risen_if, says, sealed_end, votes_collected}
use Rattle.world_spec.specs.Report.{ack_lines, ack_reached, and_lines, call_lines, close_reached, end_reached, entries_lines, entry_reached, hold_reached, lines_over, none_taken, run_reached, see_halted, see_up, send_said, show_up, turn_reached, vote_lines, vote_reached}
use Rattle.world_spec.specs.Known.{with_line}
use Rattle.world_spec.specs.HeldDigests.{held_over}
use Rattle.world_spec.specs.MadeLines.{line_made}
use Rattle.world_spec.proofs.MadeWorlds.{line_same}
use Rattle.world_spec.proofs.Plain.{IsPlain, plain_acks, plain_closes, plain_ends, plain_holds, plain_in, plain_runs, plain_sees, plain_turns}
use Rattle.world_spec.specs.Seats.{Seated}
use Rattle.world_spec.specs.Posts.{Post, arming, by_posts, changed_at, post_behind, post_honest, posts_behind, posts_with, reached_in, reached_post, reached_standing, seat_behind, seat_with, stated_in, state_or}
use Rattle.world_spec.specs.Scene.{Scene, bare_setting, post_seating, post_world, rules_in, scene_with}
use Rattle.world_spec.specs.SceneSteps.{asked, called_if, called_scene, next_on, seat_state, sees_to, standing_at, state_at, lines_in, steps_to}
use Rattle.world_spec.specs.SceneWorlds.{is_restart}
use Rattle.world_core.specs.Steps.{ack_lines_in, acked_in, asked_scene, call_lines_in, comes_to, entries_lines_in, false_ack_in, held_by, held_in, lines_after, says_in, scene_after, see_halted_in, see_lines_in, send_text_in, show_in, steps_by, vote_lines_in, with_order, with_tx, worked}

-- ---- a call

-- an answer that is given leaves the record that was due
due_left : (m before : Member) (armed : Option Bool) (d x : Option Record) → reached_up m armed d ≡ answers before x → d ≡ x
due_left m before None d x e = let same : answers m d ≡ answers before x = e in cc
due_left m before (Some kept) None x e = let same : answers m None ≡ answers before x = e in cc
due_left m before (Some kept) (Some y) x e = absurd (let same : stops kept y ≡ answers before x = e in cc)

module _ (seal : Signer → List ℕ → Digest) (r : Rules) where
  abbrev seating : Seating Post
  seating = by_posts seal r

  standing_is : (call : Call) (armed : Option Bool) (standing : Option Seated)
      → cond (is_some standing) (reached_up (state_or standing) armed (due r (state_or standing) call)) finds_down ≡ reached_standing r call armed standing
  standing_is call armed None = refl
  standing_is call armed (Some seat) = refl

  post_is : (call : Call) (p : Post) → reached_by seating r call p ≡ reached_post r call (Some p)
  post_is call p = standing_is call p.armed p.standing

  reached_at_post : (call : Call) (p : Option Post) → reached_where seating r call p ≡ reached_post r call p
  reached_at_post call None = refl
  reached_at_post call (Some p) = post_is call p

  -- what becomes of a call
  pub reached_is : (w : WorldOf Post) (m : ℕ) (call : Call) → reached_over seating r w m call ≡ reached_in r w.seats m call
  unfolding reached_over
  reached_is w m call = reached_at_post call (slice_get w.seats m)

  kept_standing : (call : Call) (armed : Option Bool) (standing : Option Seated) (before : Member) (x : Option Record) → reached_standing r call armed standing ≡ answers before x
      → option_map (seat_with r x) standing ≡ option_map (seat_behind r call) standing
  kept_standing call armed None before x e = refl
  kept_standing call armed (Some seat) before x e =
      sym (ap (λ (y : Option Record). Some (record seat { state = after_due r seat.state y })) (due_left seat.state before armed (due r seat.state call) x e))

  -- the world in which these members stand, and this was said too
  abbrev left : WorldOf Post → List Post → List Said → WorldOf Post
  left w posts more = record w { seats = posts; said = w.said ++ more }

  behind_is : (w : WorldOf Post) (m : ℕ) (call : Call) (p : Post) (o : Reached) → slice_get w.seats m ≡ Some p → reached_post r call (Some p) ≡ o
      → behind_over seating r w m call p o ≡ left w (slice_set w.seats m (post_behind r call p o)) (map (sealed_by seal m) (stated_in r call o))
  behind_is w m call p finds_down at e =
      ap (λ (posts : List Post). record w { seats = posts }) (sym (set_same w.seats m p at))
      ∙ ap (λ (said : List Said). record w { seats = slice_set w.seats m p; said = said }) (sym (append-nil w.said))
  behind_is w m call p (stops kept x) at e =
      ap (λ (said : List Said). record w { seats = slice_set w.seats m (record p { standing = None; armed = None }); said = said }) (sym (append-nil w.said))
  behind_is w m call p (answers before x) at e =
      ap (λ (standing : Option Seated). left w (slice_set w.seats m (record p { standing = standing })) (map (sealed_by seal m) (stated r before call)))
      (kept_standing call p.armed p.standing before x e)

  called_at : (w : WorldOf Post) (m : ℕ) (call : Call) (p : Option Post) → slice_get w.seats m ≡ p
      → called_where seating r w m call p ≡ left w (posts_with r call w.seats m p) (map (sealed_by seal m) (stated_in r call (reached_post r call p)))
  called_at w m call None at = ap (λ (said : List Said). record w { said = said }) (sym (append-nil w.said))
  called_at w m call (Some p) at =
      ap (λ (o : Reached). behind_over seating r w m call p o) (post_is call p)
      ∙ behind_is w m call p (reached_post r call (Some p)) at refl

  called_is : (w : WorldOf Post) (m : ℕ) (call : Call) → called_over seating r w m call ≡ left w (posts_behind r w.seats m call) (map (sealed_by seal m) (stated_in r call (reached_in r w.seats m call)))
  unfolding called_over
  called_is w m call = called_at w m call (slice_get w.seats m) refl

  -- the scene after it
  plain_scene : (sc : Scene) (m : ℕ) (call : Call) → IsPlain seal r call → scene_with sc (called_over seating r (post_world sc) m call) ≡ called_scene r sc m call
  plain_scene sc m call plain =
      ap (scene_with sc) (called_is (post_world sc) m call)
      ∙ ap (λ (more : List Said). record sc { posts = posts_behind r sc.posts m call; said = sc.said ++ more }) (plain_in seal r m call plain (reached_in r sc.posts m call))

  call_scene : (sc : Scene) (m : ℕ) (call : Call) → scene_with sc (called_over seating r (post_world sc) m call) ≡ asked_scene seal r sc m call
  call_scene sc m (votes bytes) = ap (scene_with sc) (called_is (post_world sc) m (votes bytes))
  call_scene sc m (holds bytes) = plain_scene sc m (holds bytes) (plain_holds seal r bytes)
  call_scene sc m (sees number bytes) = plain_scene sc m (sees number bytes) (plain_sees seal r number bytes)
  call_scene sc m runs = plain_scene sc m runs (plain_runs seal r)
  call_scene sc m closes = plain_scene sc m closes (plain_closes seal r)
  call_scene sc m ends = plain_scene sc m ends (plain_ends seal r)
  call_scene sc m turns = plain_scene sc m turns (plain_turns seal r)
  call_scene sc m (acks tx) = plain_scene sc m (acks tx) (plain_acks seal r tx)

  -- ---- entries

  -- a call on a member that is down changes nothing
  asleep : (w : WorldOf Post) (m : ℕ) (p : Post) (call : Option Call) → slice_get w.seats m ≡ Some p → None ≡ p.standing → if_called seating r w m call ≡ w
  unfolding called_over
  asleep w m p None at down = refl
  asleep w m p (Some call) at down =
      ap (λ (o : Option Post). called_where seating r w m call o) at
      ∙ ap (λ (standing : Option Seated). behind_over seating r w m call p (cond (is_some standing) (reached_up (state_or standing) p.armed (due r (state_or standing) call)) finds_down)) (sym down)

  entry_scene : (sc : Scene) (m number : ℕ) (e : Option Entry) → scene_with sc (if_called seating r (post_world sc) m (option_map (numbered_call number) e)) ≡ called_if r sc m (option_map (numbered_call number) e)
  entry_scene sc m number None = refl
  entry_scene sc m number (Some e) = plain_scene sc m (numbered_call number e) (plain_sees seal r number (messages.entry.spell e))

  next_standing : (sc : Scene) (m : ℕ) (p : Post) (standing : Option Seated) → slice_get sc.posts m ≡ Some p → standing ≡ p.standing
      → scene_with sc (if_called seating r (post_world sc) m (next_call_of (post_world sc) (state_or standing))) ≡ called_if r sc m (option_and_then (next_call_of (post_world sc)) (option_map seat_state standing))
  next_standing sc m p None at is = ap (scene_with sc) (asleep (post_world sc) m p (next_call_of (post_world sc) (fresh [])) at is)
  next_standing sc m p (Some seat) at is = entry_scene sc m seat.state.sequence.number (next_entry (post_world sc) seat.state)

  next_at : (sc : Scene) (m : ℕ) (p : Option Post) → slice_get sc.posts m ≡ p
      → scene_with sc (if_called seating r (post_world sc) m (option_and_then (next_call_of (post_world sc)) (option_and_then (state_in seating) p))) ≡ called_if r sc m (option_and_then (next_call_of (post_world sc)) (option_map seat_state (standing_at p)))
  next_at sc m None at = refl
  next_at sc m (Some p) at = next_standing sc m p p.standing at refl

  pub next_scene : (sc : Scene) (m : ℕ) → scene_with sc (if_called seating r (post_world sc) m (next_over seating (post_world sc) m)) ≡ called_if r sc m (next_on sc m)
  next_scene sc m = next_at sc m (slice_get sc.posts m) refl

  pub sees_scene : (n : ℕ) (sc : Scene) (m : ℕ) → scene_with sc (sees_over seating r n (post_world sc) m) ≡ sees_to r n sc m
  sees_scene zero sc m = refl
  sees_scene (suc n) sc m =
      sees_scene n (scene_with sc (if_called seating r (post_world sc) m (next_over seating (post_world sc) m))) m
      ∙ ap (λ (x : Scene). sees_to r n x m) (next_scene sc m)

  -- a member that is down takes none, whatever their number
  none_seen : (n : ℕ) (sc : Scene) (m : ℕ) → next_on sc m ≡ None → sees_to r n sc m ≡ sc
  none_seen zero sc m none = refl
  none_seen (suc n) sc m none = ap (λ (call : Option Call). sees_to r n (called_if r sc m call) m) none ∙ none_seen n sc m none

  count_standing : (sc : Scene) (m e : ℕ) (standing : Option Seated) → standing ≡ standing_at (slice_get sc.posts m)
      → sees_to r (min e (entries_left (post_world sc) (Some (state_or standing)))) sc m ≡ sees_to r (min e (entries_left (post_world sc) (option_map seat_state standing))) sc m
  count_standing sc m e None is =
      let none : next_on sc m ≡ None = ap (λ (s : Option Seated). option_and_then (next_call_of (post_world sc)) (option_map seat_state s)) (sym is) in
      none_seen (min e (entries_left (post_world sc) (Some (fresh [])))) sc m none ∙ sym (none_seen (min e (entries_left (post_world sc) None)) sc m none)
  count_standing sc m e (Some seat) is = refl

  count_at : (sc : Scene) (m e : ℕ) (p : Option Post) → slice_get sc.posts m ≡ p
      → sees_to r (min e (entries_left (post_world sc) (option_and_then (state_in seating) p))) sc m ≡ sees_to r (min e (entries_left (post_world sc) (option_map seat_state (standing_at p)))) sc m
  count_at sc m e None at = refl
  count_at sc m e (Some p) at = count_standing sc m e p.standing (sym (ap standing_at at))

  see_scene : (sc : Scene) (m e : ℕ) → scene_with sc (sees_over seating r (min e (entries_left (post_world sc) (member_over seating (post_world sc) m))) (post_world sc) m) ≡ sees_to r (min e (entries_left (post_world sc) (state_at sc m))) sc m
  see_scene sc m e =
      sees_scene (min e (entries_left (post_world sc) (member_over seating (post_world sc) m))) sc m
      ∙ count_at sc m e (slice_get sc.posts m) refl

  -- ---- what a member that is up says of something

  says_one : {A : Type 0} (says : Member → Option A) (honest : Bool) (standing : Option Seated)
      → cond (honest && is_some standing) (says (state_or standing)) None ≡ cond honest (option_and_then (λ (seat : Seated). says seat.state) standing) None
  says_one says true None = refl
  says_one says true (Some seat) = refl
  says_one says false None = refl
  says_one says false (Some seat) = refl

  says_is : {A : Type 0} (says : Member → Option A) (posts : List Post) → says_over seating says posts ≡ says_in says posts
  says_is says [] = refl
  says_is {A} says (p ∷ posts) =
      ap (λ (x : Option A). first_some (x ∷ says_over seating says posts ∷ [])) (says_one says p.honest p.standing)
      ∙ ap (λ (x : Option A). first_some (cond p.honest (option_and_then (λ (seat : Seated). says seat.state) p.standing) None ∷ x ∷ [])) (says_is says posts)

  held_one : (key : ObjectKey) (standing : Option Seated) → option_and_then (λ (seat : Seated). held_digest key seat.state) standing ≡ held_by key standing
  held_one key None = refl
  held_one key (Some seat) = refl

  held_same : (key : ObjectKey) (posts : List Post) → says_in (held_digest key) posts ≡ held_in posts key
  held_same key [] = refl
  held_same key (p ∷ posts) =
      ap (λ (x : Option Digest). first_some (cond p.honest x None ∷ says_in (held_digest key) posts ∷ [])) (held_one key p.standing)
      ∙ ap (λ (x : Option Digest). first_some (cond p.honest (held_by key p.standing) None ∷ x ∷ [])) (held_same key posts)

  held_is : (w : WorldOf Post) (key : ObjectKey) → held_over seating w key ≡ held_in w.seats key
  held_is w key = says_is (held_digest key) w.seats ∙ held_same key w.seats

-- ---- each line

module _ (trust : Trust) (sc : Scene) where
  abbrev r : Rules
  r = rules_in trust.accepts sc

  abbrev k : Seating Post
  k = post_seating trust sc

  abbrev s : Setting
  s = bare_setting trust sc

  abbrev w : WorldOf Post
  w = post_world sc

  tx_scene : (l : TxLine) → scene_with sc (made_over k s w l) ≡ with_tx trust sc l
  unfolding made_over
  tx_scene l =
      ap (λ (t : Made). record sc { known = with_line sc.known l t })
      (line_same k s w l
      ∙ ap (λ (held : ObjectKey → Option Digest). line_made sc.known held trust.seal l) (λ i key. held_is trust.seal r w key i))

  asked_as : (m : ℕ) (call : Option Call) → scene_with sc (if_called k r w m call) ≡ worked trust.seal r sc (asked m call)
  asked_as m None = refl
  asked_as m (Some call) = call_scene trust.seal r sc m call

  said_if : (m : ℕ) (st : Statement) (b : Bool) → scene_with sc (cond b w (says trust.seal w m st)) ≡ record sc { said = (cond b w (says trust.seal w m st)).said }
  said_if m st true = refl
  said_if m st false = refl

  fvote_scene : (m : ℕ) (words : List (Option Name)) (t : Option Made) → scene_with sc (fvoted_by post_honest s w m words t) ≡ record sc { said = (fvoted_by post_honest s w m words t).said }
  fvote_scene m words None = refl
  fvote_scene m words (Some t) = said_if m (statement.Vote t.signed.tx.epoch t.digest (origins_by post_honest w t words)) (honest_in post_honest w m)

  ack_if : (m : ℕ) (t : Made) (spoiled b : Bool) → scene_with sc (cond b (called_over k r w m (acks t.digest)) (says trust.seal w m (false_ack_over k w t spoiled)))
      ≡ cond b (called_scene r sc m (acks t.digest)) (record sc { said = sc.said ++ said_by m (false_ack_in sc t spoiled) ∷ [] })
  ack_if m t spoiled true = plain_scene trust.seal r sc m (acks t.digest) (plain_acks trust.seal r t.digest)
  ack_if m t spoiled false =
      ap (λ (d : Option Digest). record sc { said = sc.said ++ said_by m (statement.Ack t.signed.tx.epoch t.digest (spoiled_if spoiled (digest_or_zero d))) ∷ [] })
      (says_is trust.seal r (executed_digest t.digest) sc.posts)

  ack_scene : (m : ℕ) (spoiled : Bool) (t : Option Made) → scene_with sc (acked_over k r w m spoiled t) ≡ acked_in r sc m spoiled t
  ack_scene m spoiled None = refl
  ack_scene m spoiled (Some t) = ack_if m t spoiled (honest_in post_honest w m)

  formed_scene : (t : Made) (ms : List ℕ) (c : Collected) → scene_with sc (formed_as w t ms c) ≡ record sc { certs = (formed_as w t ms c).certs }
  formed_scene t ms (lacks m) = refl
  formed_scene t ms (short weight total) = refl
  formed_scene t ms (differ a b) = refl
  formed_scene t ms whole = refl

  cert_scene : (ms : List ℕ) (t : Option Made) → scene_with sc (formed s w ms t) ≡ record sc { certs = (formed s w ms t).certs }
  cert_scene ms None = refl
  cert_scene ms (Some t) = formed_scene t ms (votes_collected s w t ms)

  entry_if : (e : Entry) (b : Bool) → scene_with sc (cond b (appended_entry w e) w) ≡ with_order sc (cond b (appended_entry w e) w)
  entry_if e true = refl
  entry_if e false = refl

  order_scene : (c : Option Certificate) → scene_with sc (ordered w c) ≡ with_order sc (ordered w c)
  order_scene None = refl
  order_scene (Some c) = entry_if (entry.Cert c) (c.tx.epoch == w.epoch)

  rise_if : (sequences : List (List Entry)) (said : List Said) (b : Bool)
      → scene_with sc (risen_if b (record w { sequences = sequences; said = said })) ≡ with_order sc (risen_if b (record w { sequences = sequences; said = said }))
  rise_if sequences said true = refl
  rise_if sequences said false = refl

  honest_if : (m epoch : ℕ) (b : Bool) → scene_with sc (cond b (ordered_end s w m epoch) w) ≡ with_order sc (cond b (ordered_end s w m epoch) w)
  honest_if m epoch true = rise_if (appended_entry w (sealed_end s m epoch)).sequences w.said (has_ended s (appended_entry w (sealed_end s m epoch)))
  honest_if m epoch false = refl

  honest_scene : (m : ℕ) (epoch : Option ℕ) → scene_with sc (honest_end s w m epoch) ≡ with_order sc (honest_end s w m epoch)
  honest_scene m None = refl
  honest_scene m (Some epoch) = honest_if m epoch (epoch == w.epoch)

  end_if : (m : ℕ) (b : Bool)
      → scene_with sc (cond b (honest_end s w m (last_said end_in m w.said)) (ordered_end s (says trust.seal w m (statement.End w.epoch)) m w.epoch))
      ≡ with_order sc (cond b (honest_end s w m (last_said end_in m w.said)) (ordered_end s (says trust.seal w m (statement.End w.epoch)) m w.epoch))
  end_if m true = honest_scene m (last_said end_in m w.said)
  end_if m false =
      let v = says trust.seal w m (statement.End w.epoch) in
      rise_if (appended_entry v (sealed_end s m w.epoch)).sequences v.said (has_ended s (appended_entry v (sealed_end s m w.epoch)))

  stop_scene : (m : ℕ) (kept : Bool) (p : Option Post) → scene_with sc (on_seat w m (arming kept) p) ≡ record sc { posts = changed_at sc.posts m (arming kept) p }
  stop_scene m kept None = refl
  stop_scene m kept (Some p) = refl

  move_is : (mv : Move) → is_start_move mv ≡ false → scene_with sc (moved k s w mv) ≡ steps_by trust sc mv
  move_is looks_on other = refl
  move_is (makes_tx l) other = tx_scene l
  move_is (requests m ask) other = asked_as m (requested w ask)
  move_is (delivers m entries) other = see_scene trust.seal r sc m entries
  move_is (claims m tx (claims_vote origins)) other = fvote_scene m origins (made_named w tx)
  move_is (claims m tx (claims_ack spoiled)) other = ack_scene m spoiled (made_named w tx)
  move_is (certifies tx members) other = cert_scene members (made_named w tx)
  move_is (submits (cert_submitted tx)) other = order_scene (cert_named w tx)
  move_is (submits mark_submitted) other = refl
  move_is (submits_end m) other = end_if m (honest_in post_honest w m)
  move_is (arms_stop m kept) other = stop_scene m kept (slice_get sc.posts m)
  move_is (starts_again m) other = absurd (cc)

  pub step_is : (e : Event) → is_restart e ≡ false → steps_to trust sc e ≡ scene_after trust sc e
  unfolding steps_to happens_over scene_after
  step_is e other = move_is (move_of e) other

  -- nothing is said at a start
  started_said : (m : ℕ) (p : Option Post) → (on_seat w m (λ (q : Post). q) p).said ≡ sc.said
  started_said m None = refl
  started_said m (Some p) = refl

  move_said : (mv : Move) → (scene_with sc (moved k s w mv)).said ≡ (steps_by trust sc mv).said
  move_said (starts_again m) = started_said m (slice_get sc.posts m)
  move_said mv = ap (λ (x : Scene). x.said) (move_is mv refl)

  pub said_is : (e : Event) → (steps_to trust sc e).said ≡ (scene_after trust sc e).said
  unfolding steps_to happens_over scene_after
  said_is e = move_said (move_of e)

-- ---- its lines

-- the member is up
abbrev IsUp : Scene → ℕ → Type 0
IsUp sc m = (p : Post) × (seat : Seated) × (slice_get sc.posts m ≡ Some p) × (p.standing ≡ Some seat)

module _ (trust : Trust) where
  -- what becomes of a call
  reached_here : (sc : Scene) (m : ℕ) (call : Call) → reached_over (k trust sc) (r trust sc) (w trust sc) m call ≡ comes_to trust sc m call
  reached_here sc m call = reached_is trust.seal (r trust sc) (w trust sc) m call

  vote_is : (sc : Scene) (m : ℕ) (tx : Name) (t : Option Made) → vote_lines (k trust sc) (s trust sc) (w trust sc) m tx t ≡ vote_lines_in trust sc m tx t
  vote_is sc m tx None = refl
  vote_is sc m tx (Some t) =
      ap (λ (o : Reached). line.Vote m tx (vote_reached (s trust sc) (w trust sc) (transactions.signed.spell t.signed) o) ∷ []) (reached_here sc m (votes (transactions.signed.spell t.signed)))

  send_is : (sc : Scene) (m : ℕ) (c : Option Certificate) → send_said (k trust sc) (s trust sc) (w trust sc) m c ≡ send_text_in trust sc m c
  send_is sc m None = refl
  send_is sc m (Some c) = ap (hold_reached (s trust sc) (w trust sc) (messages.certificate.spell c)) (reached_here sc m (holds (messages.certificate.spell c)))

  ack_is : (sc : Scene) (m : ℕ) (tx : Name) (t : Option Made) → ack_lines (k trust sc) (s trust sc) (w trust sc) m tx t ≡ ack_lines_in trust sc m tx t
  ack_is sc m tx None = refl
  ack_is sc m tx (Some t) =
      ap (λ (o : Reached). line.Ack m tx (cond (honest_in post_honest (w trust sc) m) (ack_reached (s trust sc) (w trust sc) t.digest o) ack_text.Said) ∷ []) (reached_here sc m (acks t.digest))

  show_at : (sc : Scene) (m : ℕ) (standing : Option Seated) → show_up (s trust sc) (w trust sc) m (is_some standing) (Some (state_or standing)) ≡ show_in trust sc m standing
  show_at sc m None = refl
  show_at sc m (Some seat) = refl

  show_is : (sc : Scene) (m : ℕ) (p : Option Post) → show_up (s trust sc) (w trust sc) m (seat_is (k trust sc).up p) (option_and_then (state_in (k trust sc)) p) ≡ show_in trust sc m (standing_at p)
  show_is sc m None = refl
  show_is sc m (Some p) = show_at sc m p.standing

  -- ---- entries

  -- a member that answers stays up
  answered_up : (sc : Scene) (m : ℕ) (call : Call) (before : Member) (x : Option Record) → IsUp sc m → comes_to trust sc m call ≡ answers before x → IsUp (called_scene (r trust sc) sc m call) m
  answered_up sc m call before x (p, seat, at, up) e =
      let new_seat : Seated = seat_behind (r trust sc) call seat in
      let new : Post = record p { standing = Some new_seat } in
      let posts_are : posts_behind (r trust sc) sc.posts m call ≡ slice_set sc.posts m new =
      ap (λ (o : Option Post). posts_with (r trust sc) call sc.posts m o) at
      ∙ ap (λ (o : Reached). slice_set sc.posts m (post_behind (r trust sc) call p o)) (sym (ap (reached_post (r trust sc) call) at) ∙ e)
      ∙ ap (λ (standing : Option Seated). slice_set sc.posts m (record p { standing = option_map (seat_behind (r trust sc) call) standing })) up in
      (new, new_seat, ap (λ (posts : List Post). slice_get posts m) posts_are ∙ set_get sc.posts m p new at, refl)

  -- after a call, whose line goes on only if the member has answered
  entry_then : (sc : Scene) (m number : ℕ) (bytes : List ℕ) (rest in_rest : List Line) (o : Reached) → ((before : Member) (x : Option Record) → o ≡ answers before x → rest ≡ in_rest)
      → and_lines (entry_reached (s trust sc) (w trust sc) m number bytes o) rest ≡ and_lines (entry_reached (s trust sc) (w trust sc) m number bytes o) in_rest
  entry_then sc m number bytes rest in_rest finds_down same = refl
  entry_then sc m number bytes rest in_rest (stops kept x) same = refl
  entry_then sc m number bytes rest in_rest (answers before x) same =
      ap (λ (ls : List Line). and_lines (entry_reached (s trust sc) (w trust sc) m number bytes (answers before x)) ls) (same before x refl)

  next_up : (sc : Scene) (m : ℕ) → IsUp sc m → next_over (k trust sc) (w trust sc) m ≡ next_on sc m
  next_up sc m (p, seat, at, up) =
      ap (λ (o : Option Post). option_and_then (next_call_of (w trust sc)) (option_and_then (state_in (k trust sc)) o)) at
      ∙ ap (λ (standing : Option Seated). next_call_of (w trust sc) (state_or standing)) up
      ∙ ap (λ (standing : Option Seated). option_and_then (next_call_of (w trust sc)) (option_map seat_state standing)) (sym up)
      ∙ sym (ap (λ (o : Option Post). option_and_then (next_call_of (w trust sc)) (option_map seat_state (standing_at o))) at)

  entries_is : (n : ℕ) (sc : Scene) (m : ℕ) → IsUp sc m → entries_lines (k trust sc) (s trust sc) n (w trust sc) m ≡ entries_lines_in trust n sc m
  entries_is zero sc m up = refl
  entries_is (suc n) sc m up =
      ap (λ (call : Option Call). and_lines (call_lines (k trust sc) (s trust sc) (w trust sc) m call) (entries_lines (k trust sc) (s trust sc) n (if_called (k trust sc) (r trust sc) (w trust sc) m call) m)) (next_up sc m up)
      ∙ one (λ y is. entries_is n y m is) (next_on sc m)
    where
      one : ((y : Scene) → IsUp y m → entries_lines (k trust y) (s trust y) n (w trust y) m ≡ entries_lines_in trust n y m) → (call : Option Call)
          → and_lines (call_lines (k trust sc) (s trust sc) (w trust sc) m call) (entries_lines (k trust sc) (s trust sc) n (if_called (k trust sc) (r trust sc) (w trust sc) m call) m)
          ≡ and_lines (call_lines_in trust sc m call) (entries_lines_in trust n (called_if (r trust sc) sc m call) m)
      one more None = refl
      one more (Some (votes bytes)) = refl
      one more (Some (holds bytes)) = refl
      one more (Some runs) = refl
      one more (Some closes) = refl
      one more (Some ends) = refl
      one more (Some turns) = refl
      one more (Some (acks tx)) = refl
      one more (Some (sees number bytes)) =
          let v = called_over (k trust sc) (r trust sc) (w trust sc) m (sees number bytes) in
          let scene : scene_with sc v ≡ called_scene (r trust sc) sc m (sees number bytes) = plain_scene trust.seal (r trust sc) sc m (sees number bytes) (plain_sees trust.seal (r trust sc) number bytes) in
          ap (λ (o : Reached). and_lines (entry_reached (s trust sc) (w trust sc) m number bytes o) (entries_lines (k trust sc) (s trust sc) n v m)) (reached_here sc m (sees number bytes))
          ∙ entry_then sc m number bytes (entries_lines (k trust sc) (s trust sc) n v m) (entries_lines_in trust n (called_scene (r trust sc) sc m (sees number bytes)) m) (comes_to trust sc m (sees number bytes))
          (λ before x e.
          more (scene_with sc v) (subst (λ (y : Scene). IsUp y m) (sym scene) (answered_up sc m (sees number bytes) before x up e))
          ∙ ap (λ (y : Scene). entries_lines_in trust n y m) scene)

  halted_is : (sc : Scene) (m n : ℕ) (fork : Option Fork) → IsUp sc m → see_halted (k trust sc) (s trust sc) (w trust sc) m n fork ≡ see_halted_in trust sc m n fork
  halted_is sc m n (Some fork) up = refl
  halted_is sc m n None up = ap (none_taken m) (entries_is n sc m up)

  see_standing : (sc : Scene) (m n : ℕ) (p : Post) (standing : Option Seated) → slice_get sc.posts m ≡ Some p → p.standing ≡ standing
      → see_up (k trust sc) (s trust sc) (w trust sc) m n (is_some standing) (Some (state_or standing)) ≡ see_lines_in trust sc m n (option_map seat_state standing)
  see_standing sc m n p None at is = refl
  see_standing sc m n p (Some seat) at is = halted_is sc m (min n (entries_left (w trust sc) (Some seat.state))) (fork_of seat.state) (p, seat, at, is)

  see_at : (sc : Scene) (m n : ℕ) (p : Option Post) → slice_get sc.posts m ≡ p
      → see_up (k trust sc) (s trust sc) (w trust sc) m n (seat_is (k trust sc).up p) (option_and_then (state_in (k trust sc)) p) ≡ see_lines_in trust sc m n (option_map seat_state (standing_at p))
  see_at sc m n None at = refl
  see_at sc m n (Some p) at = see_standing sc m n p p.standing at refl

  pub lines_are : (sc : Scene) (e : Event) → is_restart e ≡ false → lines_in trust sc e ≡ lines_after trust sc e
  unfolding lines_in lines_over lines_after
  lines_are sc (event.Vote m tx) other = vote_is sc m tx (made_named (w trust sc) tx)
  lines_are sc (event.Send m tx) other = ap (λ (text : SendText). line.Send m tx text ∷ []) (send_is sc m (cert_named (w trust sc) tx))
  lines_are sc (event.See m entries) other = see_at sc m entries (slice_get sc.posts m) refl
  lines_are sc (event.Run m workers) other = ap (run_reached (s trust sc) (w trust sc) m) (reached_here sc m runs)
  lines_are sc (event.Close m) other = ap (λ (o : Reached). line.Close m (close_reached (s trust sc) (w trust sc) o) ∷ []) (reached_here sc m closes)
  lines_are sc (event.End m) other = ap (λ (o : Reached). line.End m (end_reached (s trust sc) (w trust sc) o) ∷ []) (reached_here sc m ends)
  lines_are sc (event.Turn m) other = ap (turn_reached (s trust sc) (w trust sc) m) (reached_here sc m turns)
  lines_are sc (event.Show m) other = show_is sc m (slice_get sc.posts m)
  lines_are sc (event.Restart m) other = absurd (cc)
  lines_are sc (event.RawVote m bytes) other = ap (λ (o : Reached). line.RawVote m (vote_reached (s trust sc) (w trust sc) bytes o) ∷ []) (reached_here sc m (votes bytes))
  lines_are sc (event.RawHold m bytes) other = ap (λ (o : Reached). line.RawHold m (hold_reached (s trust sc) (w trust sc) bytes o) ∷ []) (reached_here sc m (holds bytes))
  lines_are sc (event.Ack m tx spoiled) other = ack_is sc m tx (made_named (w trust sc) tx)
  lines_are sc e other = refl
