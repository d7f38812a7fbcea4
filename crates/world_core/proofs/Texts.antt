-- What is said of calls, by what is known, is what the scene's lines say.
use Rattle.std.proofs.Common.{◌≡◌, ◌∙◌, ap, sym, refl, ℕ, Bool, true, List, [], ◌∷◌, ◌++◌, map, append-nil, Option, Some, None, Result, Ok, Err}
use Rattle.std.specs.Prelude.{option_map}
use Rattle.digest_core.specs.declared.Digest.{Digest}
use Rattle.quorum_core.specs.declared.signer.Signer.{Signer}
use Rattle.chain_messages.specs.Messages as messages
use Rattle.quorum_core.specs.declared.signer.Signer.TheVariants as signers
use Rattle.chain_types.specs.declared.objects.Object.{Object}
use Rattle.protocol_spec.specs.declared.answers.Ran.{Ran}
use Rattle.protocol_spec.specs.declared.answers.Voted.{Voted as Sent}
use Rattle.protocol_spec.specs.declared.refusals.HoldRefusal.{HoldRefusal}
use Rattle.protocol_spec.specs.declared.refusals.HoldRefusal.TheVariants as no_hold
use Rattle.protocol_spec.specs.declared.refusals.RunRefusal.{RunRefusal}
use Rattle.protocol_spec.specs.declared.refusals.RunRefusal.TheVariants as no_run
use Rattle.protocol_spec.specs.declared.refusals.VoteRefusal.{VoteRefusal}
use Rattle.protocol_spec.specs.declared.refusals.VoteRefusal.TheVariants as no_vote
use Rattle.protocol_spec.specs.Member.Member.{Member, live_objects}
use Rattle.protocol_spec.specs.Member.Calls.{Voted, hold_answer, holds, run_answer, runs, vote_answer, votes}
use Rattle.protocol_spec.specs.Chain.Certificates.{Rules}
use Rattle.report_text.specs.declared.lines.Line.{Line}
use Rattle.report_text.specs.declared.lines.Line.TheVariants as line
use Rattle.report_text.specs.declared.lines.ShowText.TheVariants as show_text
use Rattle.world_spec.specs.Setting.{Trust}
use Rattle.world_spec.specs.World.{Reached, Said, answers, finds_down, ran_statements, said_by, stated, stops, voted_statement, sealed_by, said_under}
use Rattle.world_spec.specs.Report.{hold_answered, hold_reached, run_answered, run_reached, shown, vote_answered, vote_reached}
use Rattle.world_spec.specs.Known.{Known, setting_with, world_with}
use Rattle.world_lines.specs.Answers.{vote_as}
use Rattle.world_spec.proofs.LineWorlds.{hold_same, run_same, shown_same, vote_same}
use Rattle.validator_core.specs.Calls.{Holds, Votes, hold_ended, vote_ended}
use Rattle.world_spec.specs.Seats.{Seated}
use Rattle.validator_core.specs.Seats.{answered}
use Rattle.world_spec.specs.Posts.{reached_in, stated_in}
use Rattle.world_spec.specs.Scene.{Scene, bare_setting, post_world, rules_in}
use Rattle.world_core.specs.Steps.{hold_text_in, show_in, vote_text_in}
use Rattle.world_core.specs.Crews.{shown_of}
use Rattle.world_core.specs.Replies.{Replies, SaysHold, SaysRun, SaysVote}
use Rattle.world_core.specs.declared.reply.Reply.{Reply}
use Rattle.world_core.specs.declared.reply.Reply.TheVariants as reply
use Rattle.world_core.specs.Texts.{hold_replied, run_replied, run_stated, show_by, vote_replied}
use Rattle.world_core.specs.Votes.{vote_stated, vote_under}

-- ---- show

pub shown_some : (k : Known) (m epoch : ℕ) (objects : List Object) (seat : Option Seated) (lines : List Line)
    → Some (epoch, objects) ≡ option_map shown_of seat → lines ≡ shown (setting_with k) (world_with k) m epoch objects → lines ≡ show_by k m seat
shown_some k m epoch objects None lines e is = absurd (cc)
shown_some k m epoch objects (Some seat) lines e is = is ∙ ap (λ (x : ℕ × List Object). shown (setting_with k) (world_with k) m x.0 x.1) (cc)

pub shown_none : (k : Known) (m : ℕ) (seat : Option Seated) (lines : List Line)
    → None ≡ option_map shown_of seat → lines ≡ line.Show m show_text.Down ∷ [] → lines ≡ show_by k m seat
shown_none k m None lines e is = is
shown_none k m (Some seat) lines e is = absurd (cc)

pub show_is : (trust : Trust) (sc : Scene) (m : ℕ) (seat : Option Seated) → show_by sc.known m seat ≡ show_in trust sc m seat
show_is trust sc m None = refl
show_is trust sc m (Some seat) = sym (shown_same (bare_setting trust sc) (post_world sc) m seat.state.epoch (live_objects seat.state))

-- ---- votes

-- what is replied is the definition's answer
vote_is : (accepts : Signer → List ℕ → Digest → Bool) (m : ℕ) (said : Result Voted VoteRefusal) (given : Result Sent VoteRefusal) → Votes accepts m said given → vote_ended given ≡ answered → said ≡ vote_as given
vote_is accepts m said (Ok v) is e = is.0
vote_is accepts m said (Err no_vote.OutOfMemory) is e = absurd (cc)
vote_is accepts m said (Err no_vote.KeepFault) is e = absurd (cc)
vote_is accepts m said (Err no_vote.Down) is e = is
vote_is accepts m said (Err (no_vote.Halted first second)) is e = is
vote_is accepts m said (Err no_vote.Full) is e = is
vote_is accepts m said (Err (no_vote.Malformed fault)) is e = is
vote_is accepts m said (Err (no_vote.WrongEpoch had want)) is e = is
vote_is accepts m said (Err no_vote.Closed) is e = is
vote_is accepts m said (Err (no_vote.Invalid n)) is e = is
vote_is accepts m said (Err no_vote.Unsealed) is e = is
vote_is accepts m said (Err (no_vote.Absent key)) is e = is
vote_is accepts m said (Err (no_vote.Consumed key by)) is e = is
vote_is accepts m said (Err (no_vote.WrongDigest key)) is e = is
vote_is accepts m said (Err (no_vote.WrongOwner key)) is e = is
vote_is accepts m said (Err (no_vote.WrongKind key)) is e = is
vote_is accepts m said (Err (no_vote.PoorGas had want)) is e = is
vote_is accepts m said (Err (no_vote.Locked key by)) is e = is

-- the text for a reply is the definition's, by what became of the call
pub vote_reply : (trust : Trust) (sc : Scene) (m : ℕ) (bytes : List ℕ) (given : Reply (Result Sent VoteRefusal)) → Replies (SaysVote (rules_in trust.accepts sc) trust.accepts m bytes) (reached_in (rules_in trust.accepts sc) sc.posts m (votes bytes)) given
    → vote_replied sc.known given ≡ vote_text_in trust sc m bytes
vote_reply trust sc m bytes given is = go (reached_in (rules_in trust.accepts sc) sc.posts m (votes bytes)) given is
  where
    go : (what : Reached) (given : Reply (Result Sent VoteRefusal)) → Replies (SaysVote (rules_in trust.accepts sc) trust.accepts m bytes) what given → vote_replied sc.known given ≡ vote_reached (bare_setting trust sc) (post_world sc) bytes what
    go what reply.Down is = sym (ap (vote_reached (bare_setting trust sc) (post_world sc) bytes) is)
    go what reply.Stopped is = sym (ap (vote_reached (bare_setting trust sc) (post_world sc) bytes) is.is)
    go what (reply.Answered given) is =
        sym (ap (vote_answered (setting_with sc.known) (world_with sc.known)) (vote_is trust.accepts m (vote_answer (rules_in trust.accepts sc) is.before bytes) given is.says.answer is.says.ended))
        ∙ sym (vote_same (bare_setting trust sc) (post_world sc) (vote_answer (rules_in trust.accepts sc) is.before bytes))
        ∙ sym (ap (vote_reached (bare_setting trust sc) (post_world sc) bytes) is.is)

-- ---- statements

-- the seal of a vote is accepted, so it is the one that is made
vote_made : (accepts : Signer → List ℕ → Digest → Bool) (seal : Signer → List ℕ → Digest) → ((by : Signer) (text : List ℕ) (d : Digest) → accepts by text d ≡ true → d ≡ seal by text)
    → (m : ℕ) (said : Result Voted VoteRefusal) (given : Result Sent VoteRefusal) → Votes accepts m said given → vote_under m given ≡ map (sealed_by seal m) (voted_statement (vote_as given))
vote_made accepts seal exact m said (Ok v) is = ap (λ (d : Digest). said_under d m v.sealed.statement ∷ []) (exact (signers.Member m) (messages.statement.spell v.sealed.statement) v.sealed.seal is.1.accepted)
vote_made accepts seal exact m said (Err refusal) is = refl

pub vote_states : (r : Rules) (accepts : Signer → List ℕ → Digest → Bool) (seal : Signer → List ℕ → Digest) → ((by : Signer) (text : List ℕ) (d : Digest) → accepts by text d ≡ true → d ≡ seal by text) → (m : ℕ) (bytes : List ℕ) (what : Reached) (given : Reply (Result Sent VoteRefusal))
    → Replies (SaysVote r accepts m bytes) what given → vote_stated m given ≡ map (sealed_by seal m) (stated_in r (votes bytes) what)
unfolding stated
vote_states r accepts seal exact m bytes what reply.Down is = sym (ap (λ x. map (sealed_by seal m) (stated_in r (votes bytes) x)) is)
vote_states r accepts seal exact m bytes what reply.Stopped is = sym (ap (λ x. map (sealed_by seal m) (stated_in r (votes bytes) x)) is.is)
vote_states r accepts seal exact m bytes what (reply.Answered given) is =
    vote_made accepts seal exact m (vote_answer r is.before bytes) given is.says.answer
    ∙ sym (ap (λ a. map (sealed_by seal m) (voted_statement a)) (vote_is accepts m (vote_answer r is.before bytes) given is.says.answer is.says.ended))
    ∙ sym (ap (λ x. map (sealed_by seal m) (stated_in r (votes bytes) x)) is.is)

-- nothing is stated when a certificate is held
pub hold_states : (r : Rules) (m : ℕ) (bytes : List ℕ) (xs : List Said) (what : Reached) → xs ≡ xs ++ map (said_by m) (stated_in r (holds bytes) what)
unfolding stated
hold_states r m bytes xs finds_down = sym (append-nil xs)
hold_states r m bytes xs (stops kept x) = sym (append-nil xs)
hold_states r m bytes xs (answers before x) = sym (append-nil xs)

-- ---- certificates

hold_is : (said given : Result Bool HoldRefusal) → Holds said given → hold_ended given ≡ answered → said ≡ given
hold_is said (Ok new) is e = is
hold_is said (Err no_hold.OutOfMemory) is e = absurd (cc)
hold_is said (Err no_hold.KeepFault) is e = absurd (cc)
hold_is said (Err no_hold.Down) is e = is
hold_is said (Err (no_hold.Halted first second)) is e = is
hold_is said (Err no_hold.Full) is e = is
hold_is said (Err (no_hold.Malformed fault)) is e = is
hold_is said (Err (no_hold.WrongEpoch had want)) is e = is
hold_is said (Err no_hold.Closed) is e = is
hold_is said (Err (no_hold.Cert refusal)) is e = is
hold_is said (Err (no_hold.Fork key first second)) is e = is

pub hold_reply : (trust : Trust) (sc : Scene) (m : ℕ) (bytes : List ℕ) (given : Reply (Result Bool HoldRefusal)) → Replies (SaysHold (rules_in trust.accepts sc) bytes) (reached_in (rules_in trust.accepts sc) sc.posts m (holds bytes)) given
    → hold_replied sc.known given ≡ hold_text_in trust sc m bytes
hold_reply trust sc m bytes given is = go (reached_in (rules_in trust.accepts sc) sc.posts m (holds bytes)) given is
  where
    go : (what : Reached) (given : Reply (Result Bool HoldRefusal)) → Replies (SaysHold (rules_in trust.accepts sc) bytes) what given → hold_replied sc.known given ≡ hold_reached (bare_setting trust sc) (post_world sc) bytes what
    go what reply.Down is = sym (ap (hold_reached (bare_setting trust sc) (post_world sc) bytes) is)
    go what reply.Stopped is = sym (ap (hold_reached (bare_setting trust sc) (post_world sc) bytes) is.is)
    go what (reply.Answered given) is =
        sym (ap (hold_answered (setting_with sc.known) (world_with sc.known)) (hold_is (hold_answer (rules_in trust.accepts sc) is.before bytes) given is.says.answer is.says.ended))
        ∙ sym (hold_same (bare_setting trust sc) (post_world sc) (hold_answer (rules_in trust.accepts sc) is.before bytes))
        ∙ sym (ap (hold_reached (bare_setting trust sc) (post_world sc) bytes) is.is)

-- ---- runs

run_is : (r : Rules) (before : Member) (given : Result Ran RunRefusal) → SaysRun r before given → run_answer r before ≡ given
run_is r before (Ok ran) is = is.answer
run_is r before (Err no_run.OutOfMemory) is = absurd (let e = is.ended in cc)
run_is r before (Err no_run.KeepFault) is = absurd (let e = is.ended in cc)
run_is r before (Err no_run.Down) is = is.answer
run_is r before (Err (no_run.Halted first second)) is = is.answer
run_is r before (Err no_run.Full) is = is.answer

pub run_reply : (trust : Trust) (sc : Scene) (m : ℕ) (given : Reply (Result Ran RunRefusal)) → Replies (SaysRun (rules_in trust.accepts sc)) (reached_in (rules_in trust.accepts sc) sc.posts m runs) given
    → run_replied sc.known m given ≡ run_reached (bare_setting trust sc) (post_world sc) m (reached_in (rules_in trust.accepts sc) sc.posts m runs)
run_reply trust sc m given is = go (reached_in (rules_in trust.accepts sc) sc.posts m runs) given is
  where
    go : (what : Reached) (given : Reply (Result Ran RunRefusal)) → Replies (SaysRun (rules_in trust.accepts sc)) what given → run_replied sc.known m given ≡ run_reached (bare_setting trust sc) (post_world sc) m what
    go what reply.Down is = sym (ap (run_reached (bare_setting trust sc) (post_world sc) m) is)
    go what reply.Stopped is = sym (ap (run_reached (bare_setting trust sc) (post_world sc) m) is.is)
    go what (reply.Answered given) is =
        sym (ap (run_answered (setting_with sc.known) (world_with sc.known) m) (run_is (rules_in trust.accepts sc) is.before given is.says))
        ∙ sym (run_same (bare_setting trust sc) (post_world sc) m (run_answer (rules_in trust.accepts sc) is.before))
        ∙ sym (ap (run_reached (bare_setting trust sc) (post_world sc) m) is.is)

pub run_states : (r : Rules) (m : ℕ) (what : Reached) (given : Reply (Result Ran RunRefusal)) → Replies (SaysRun r) what given → map (said_by m) (run_stated given) ≡ map (said_by m) (stated_in r runs what)
unfolding stated
run_states r m what reply.Down is = sym (ap (λ x. map (said_by m) (stated_in r runs x)) is)
run_states r m what reply.Stopped is = sym (ap (λ x. map (said_by m) (stated_in r runs x)) is.is)
run_states r m what (reply.Answered given) is =
    sym (ap (λ ss. map (said_by m) ss) (ap ran_statements (run_is r is.before given is.says)))
    ∙ sym (ap (λ x. map (said_by m) (stated_in r runs x)) is.is)
