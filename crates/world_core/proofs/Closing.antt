-- What a member answers to the close of its epoch, and what becomes of the call.
use Rattle.std.proofs.Common.{◌≡◌, ◌∙◌, ap, sym, ℕ, Bool, List, ◌++◌, map, append-nil, Result, Ok, Err}
use Rattle.protocol_spec.specs.declared.refusals.CloseRefusal.{CloseRefusal}
use Rattle.protocol_spec.specs.declared.refusals.CloseRefusal.TheVariants as no_close
use Rattle.protocol_spec.specs.Chain.Certificates.{Rules}
use Rattle.protocol_spec.specs.Member.Calls.{close_answer, closes}
use Rattle.validator_core.specs.Calls.{Closes, close_ended}
use Rattle.validator_core.specs.Seats.{answered}
use Rattle.world_spec.specs.Setting.{Trust}
use Rattle.world_spec.specs.World.{Reached, Said, answers, finds_down, said_by, stated, stops}
use Rattle.world_spec.specs.Report.{close_answered, close_reached}
use Rattle.world_spec.proofs.LineWorlds.{close_same}
use Rattle.world_spec.specs.Known.{world_with}
use Rattle.world_spec.specs.Posts.{reached_in, stated_in}
use Rattle.world_spec.specs.Scene.{Scene, bare_setting, post_world, rules_in}
use Rattle.world_core.specs.Replies.{Replies, SaysClose}
use Rattle.world_core.specs.declared.reply.Reply.{Reply}
use Rattle.world_core.specs.declared.reply.Reply.TheVariants as reply
use Rattle.world_core.specs.Texts.{close_replied}

close_is : (said given : Result Bool CloseRefusal) → Closes said given → close_ended given ≡ answered → said ≡ given
close_is said (Ok new) is e = is
close_is said (Err no_close.OutOfMemory) is e = absurd (cc)
close_is said (Err no_close.KeepFault) is e = absurd (cc)
close_is said (Err no_close.Down) is e = is
close_is said (Err (no_close.Halted first second)) is e = is
close_is said (Err no_close.Full) is e = is

pub close_reply : (trust : Trust) (sc : Scene) (m : ℕ) (given : Reply (Result Bool CloseRefusal)) → Replies (SaysClose (rules_in trust.accepts sc)) (reached_in (rules_in trust.accepts sc) sc.posts m closes) given
    → close_replied sc.known given ≡ close_reached (bare_setting trust sc) (post_world sc) (reached_in (rules_in trust.accepts sc) sc.posts m closes)
close_reply trust sc m given is = go (reached_in (rules_in trust.accepts sc) sc.posts m closes) given is
  where
    go : (what : Reached) (given : Reply (Result Bool CloseRefusal)) → Replies (SaysClose (rules_in trust.accepts sc)) what given → close_replied sc.known given ≡ close_reached (bare_setting trust sc) (post_world sc) what
    go what reply.Down is = sym (ap (close_reached (bare_setting trust sc) (post_world sc)) is)
    go what reply.Stopped is = sym (ap (close_reached (bare_setting trust sc) (post_world sc)) is.is)
    go what (reply.Answered given) is =
        sym (ap (close_answered (world_with sc.known)) (close_is (close_answer (rules_in trust.accepts sc) is.before) given is.says.answer is.says.ended))
        ∙ sym (close_same (bare_setting trust sc) (post_world sc) (close_answer (rules_in trust.accepts sc) is.before))
        ∙ sym (ap (close_reached (bare_setting trust sc) (post_world sc)) is.is)

-- nothing is stated
pub close_states : (r : Rules) (m : ℕ) (xs : List Said) (what : Reached) → xs ≡ xs ++ map (said_by m) (stated_in r closes what)
unfolding stated
close_states r m xs finds_down = sym (append-nil xs)
close_states r m xs (stops kept x) = sym (append-nil xs)
close_states r m xs (answers before x) = sym (append-nil xs)
