-- What a member makes of an entry, and what becomes of the call.
use Rattle.std.proofs.Common.{◌≡◌, ◌∙◌, ap, sym, ℕ, List, map, Result, Ok, Err}
use Rattle.protocol_spec.specs.declared.answers.Seen.{Seen}
use Rattle.protocol_spec.specs.declared.refusals.SeeRefusal.{SeeRefusal}
use Rattle.protocol_spec.specs.declared.refusals.SeeRefusal.TheVariants as no_see
use Rattle.protocol_spec.specs.Chain.Certificates.{Rules}
use Rattle.protocol_spec.specs.Member.Calls.{see_answer, sees}
use Rattle.validator_core.specs.Calls.{Sees, see_ended}
use Rattle.validator_core.specs.Seats.{answered}
use Rattle.world_spec.specs.Setting.{Trust}
use Rattle.world_spec.specs.World.{Reached, built_statements, said_by, stated}
use Rattle.world_spec.specs.Report.{entry_lines, entry_reached}
use Rattle.world_spec.proofs.LineWorlds.{see_same}
use Rattle.world_spec.specs.Known.{setting_staked, world_with}
use Rattle.world_spec.specs.Posts.{stated_in}
use Rattle.world_spec.specs.Scene.{Scene, bare_setting, post_world, rules_in}
use Rattle.world_core.specs.Replies.{Replies, SaysSee}
use Rattle.world_core.specs.declared.reply.Reply.{Reply}
use Rattle.world_core.specs.declared.reply.Reply.TheVariants as reply
use Rattle.world_core.specs.Sees.{see_replied, see_stated}

see_is : (said given : Result Seen SeeRefusal) → Sees said given → see_ended given ≡ answered → said ≡ given
see_is said (Ok seen) is e = is
see_is said (Err no_see.OutOfMemory) is e = absurd (cc)
see_is said (Err no_see.KeepFault) is e = absurd (cc)
see_is said (Err no_see.Down) is e = is
see_is said (Err (no_see.Halted first second)) is e = is
see_is said (Err no_see.Full) is e = is
see_is said (Err no_see.Over) is e = is
see_is said (Err (no_see.Gap had want)) is e = is
see_is said (Err (no_see.Fork key first second)) is e = is

-- the lines for a reply are the definition's, by what became of the call
pub see_reply : (trust : Trust) (sc : Scene) (stakes : List ℕ) (m number : ℕ) (bytes : List ℕ) (what : Reached) (given : Reply (Result Seen SeeRefusal)) → stakes ≡ sc.terms.stakes → Replies (SaysSee (rules_in trust.accepts sc) number bytes) what given
    → see_replied sc.known stakes m number given ≡ entry_reached (bare_setting trust sc) (post_world sc) m number bytes what
see_reply trust sc stakes m number bytes what reply.Down by is = sym (ap (entry_reached (bare_setting trust sc) (post_world sc) m number bytes) is)
see_reply trust sc stakes m number bytes what reply.Stopped by is = sym (ap (entry_reached (bare_setting trust sc) (post_world sc) m number bytes) is.is)
see_reply trust sc stakes m number bytes what (reply.Answered given) by is =
    ap (λ (s : List ℕ). entry_lines (setting_staked s sc.known) (world_with sc.known) m number given) by
    ∙ sym (ap (λ (a : Result Seen SeeRefusal). entry_lines (setting_staked sc.terms.stakes sc.known) (world_with sc.known) m number a) (see_is (see_answer (rules_in trust.accepts sc) is.before number bytes) given is.says.answer is.says.ended))
    ∙ sym (see_same (bare_setting trust sc) (post_world sc) m number (see_answer (rules_in trust.accepts sc) is.before number bytes))
    ∙ sym (ap (entry_reached (bare_setting trust sc) (post_world sc) m number bytes) is.is)

pub see_states : (r : Rules) (m number : ℕ) (bytes : List ℕ) (what : Reached) (given : Reply (Result Seen SeeRefusal)) → Replies (SaysSee r number bytes) what given → map (said_by m) (see_stated given) ≡ map (said_by m) (stated_in r (sees number bytes) what)
unfolding stated
see_states r m number bytes what reply.Down is = sym (ap (λ x. map (said_by m) (stated_in r (sees number bytes) x)) is)
see_states r m number bytes what reply.Stopped is = sym (ap (λ x. map (said_by m) (stated_in r (sees number bytes) x)) is.is)
see_states r m number bytes what (reply.Answered given) is =
    sym (ap (λ a. map (said_by m) (built_statements a)) (see_is (see_answer r is.before number bytes) given is.says.answer is.says.ended))
    ∙ sym (ap (λ x. map (said_by m) (stated_in r (sees number bytes) x)) is.is)
