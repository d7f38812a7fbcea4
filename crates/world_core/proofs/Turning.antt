-- What a member answers to a turn, and what becomes of the call.
use Rattle.std.proofs.Common.{◌≡◌, ◌∙◌, ap, sym, refl, ℕ, Bool, List, ◌++◌, map, append-nil, Option, Some, None, Result, Ok, Err}
use Rattle.std.specs.Prelude.{slice_get}
use Rattle.digest_core.specs.declared.Digest.{Digest}
use Rattle.protocol_spec.specs.declared.refusals.TurnRefusal.{TurnRefusal}
use Rattle.protocol_spec.specs.declared.refusals.TurnRefusal.TheVariants as no_turn
use Rattle.journal_core.specs.declared.records.Record.{Record}
use Rattle.protocol_spec.specs.Chain.Certificates.{Rules}
use Rattle.protocol_spec.specs.Member.Member.{Member}
use Rattle.protocol_spec.specs.Member.Calls.{due, turn_answer, turns}
use Rattle.validator_core.specs.Calls.{Turns, turn_ended}
use Rattle.validator_core.specs.Seats.{answered}
use Rattle.world_lines.specs.Answers.{member_in}
use Rattle.world_spec.specs.Setting.{Trust}
use Rattle.world_spec.specs.World.{Reached, Said, World, answers, finds_down, reached_up, said_by, stated, stops}
use Rattle.world_spec.specs.Report.{turn_answered, turn_reached}
use Rattle.world_spec.proofs.LineWorlds.{turn_same}
use Rattle.world_spec.specs.Known.{world_with}
use Rattle.world_spec.specs.Seats.{Seated}
use Rattle.world_spec.specs.Posts.{Post, reached_in, reached_post, reached_standing, stated_in}
use Rattle.world_spec.specs.Scene.{Scene, bare_setting, post_world, rules_in}
use Rattle.world_spec.specs.SceneSteps.{standing_at}
use Rattle.world_core.specs.Crews.{epoch_of}
use Rattle.world_core.specs.Epochs.{turn_replied}
use Rattle.world_core.specs.Replies.{Replies, SaysTurn}
use Rattle.world_core.specs.declared.reply.Reply.{Reply}
use Rattle.world_core.specs.declared.reply.Reply.TheVariants as reply

pub epoch_none : (standing : Option Seated) → None ≡ standing → 0 ≡ epoch_of standing
epoch_none standing is = ap epoch_of is

pub epoch_some : (seat : Seated) (standing : Option Seated) (n : ℕ) → Some seat ≡ standing → n ≡ seat.state.epoch → n ≡ epoch_of standing
epoch_some seat standing n is same = same ∙ ap epoch_of is

turn_is : (said given : Result (List Digest) TurnRefusal) → Turns said given → turn_ended given ≡ answered → said ≡ given
turn_is said (Ok txs) is e = is
turn_is said (Err no_turn.OutOfMemory) is e = absurd (cc)
turn_is said (Err no_turn.KeepFault) is e = absurd (cc)
turn_is said (Err no_turn.Down) is e = is
turn_is said (Err (no_turn.Halted first second)) is e = is
turn_is said (Err no_turn.Full) is e = is
turn_is said (Err no_turn.NotEnded) is e = is
turn_is said (Err (no_turn.Waits tx)) is e = is

-- the lines look at nothing of the member but its epoch
epoch_alone : (w : World) (m : ℕ) (before : Member) (given : Result (List Digest) TurnRefusal) → turn_answered w m (member_in before.epoch) given ≡ turn_answered w m before given
epoch_alone w m before (Ok txs) = refl
epoch_alone w m before (Err no_turn.Down) = refl
epoch_alone w m before (Err (no_turn.Halted first second)) = refl
epoch_alone w m before (Err no_turn.Full) = refl
epoch_alone w m before (Err no_turn.NotEnded) = refl
epoch_alone w m before (Err (no_turn.Waits tx)) = refl
epoch_alone w m before (Err no_turn.KeepFault) = refl
epoch_alone w m before (Err no_turn.OutOfMemory) = refl

-- a member that answers stands in the state in which it answers
answers_in : (before : Member) (x : Option Record) (state : Member) (armed : Option Bool) (d : Option Record) → reached_up state armed d ≡ answers before x → before ≡ state
answers_in before x state None d e = let same : answers state d ≡ answers before x = e in cc
answers_in before x state (Some kept) None e = let same : answers state None ≡ answers before x = e in cc
answers_in before x state (Some kept) (Some y) e = absurd (let same : stops kept y ≡ answers before x = e in cc)

epoch_standing : (r : Rules) (before : Member) (x : Option Record) (armed : Option Bool) (standing : Option Seated) → reached_standing r turns armed standing ≡ answers before x → epoch_of standing ≡ before.epoch
epoch_standing r before x armed None e = absurd (let same : finds_down ≡ answers before x = e in cc)
epoch_standing r before x armed (Some seat) e = sym (ap (λ (m : Member). m.epoch) (answers_in before x seat.state armed (due r seat.state turns) e))

epoch_post : (r : Rules) (before : Member) (x : Option Record) (p : Option Post) → reached_post r turns p ≡ answers before x → epoch_of (standing_at p) ≡ before.epoch
epoch_post r before x None e = absurd (let same : finds_down ≡ answers before x = e in cc)
epoch_post r before x (Some p) e = epoch_standing r before x p.armed p.standing e

pub turn_reply : (trust : Trust) (sc : Scene) (m epoch : ℕ) (given : Reply (Result (List Digest) TurnRefusal)) → epoch ≡ epoch_of (standing_at (slice_get sc.posts m)) → Replies (SaysTurn (rules_in trust.accepts sc)) (reached_in (rules_in trust.accepts sc) sc.posts m turns) given
    → turn_replied sc.known m epoch given ≡ turn_reached (bare_setting trust sc) (post_world sc) m (reached_in (rules_in trust.accepts sc) sc.posts m turns)
turn_reply trust sc m epoch reply.Down at is = sym (ap (turn_reached (bare_setting trust sc) (post_world sc) m) is)
turn_reply trust sc m epoch reply.Stopped at is = sym (ap (turn_reached (bare_setting trust sc) (post_world sc) m) is.is)
turn_reply trust sc m epoch (reply.Answered given) at is =
    ap (λ (n : ℕ). turn_answered (world_with sc.known) m (member_in n) given) (at ∙ epoch_post (rules_in trust.accepts sc) is.before is.due (slice_get sc.posts m) is.is)
    ∙ epoch_alone (world_with sc.known) m is.before given
    ∙ sym (ap (turn_answered (world_with sc.known) m is.before) (turn_is (turn_answer (rules_in trust.accepts sc) is.before) given is.says.answer is.says.ended))
    ∙ sym (turn_same (bare_setting trust sc) (post_world sc) m is.before (turn_answer (rules_in trust.accepts sc) is.before))
    ∙ sym (ap (turn_reached (bare_setting trust sc) (post_world sc) m) is.is)

-- nothing is stated
pub turn_states : (r : Rules) (m : ℕ) (xs : List Said) (what : Reached) → xs ≡ xs ++ map (said_by m) (stated_in r turns what)
unfolding stated
turn_states r m xs finds_down = sym (append-nil xs)
turn_states r m xs (stops kept x) = sym (append-nil xs)
turn_states r m xs (answers before x) = sym (append-nil xs)
