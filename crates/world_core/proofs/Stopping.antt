-- The stop that may cut a call: a member that met a fork keeps no record, so none cuts its calls.
use Rattle.std.proofs.Common.{◌≡◌, ◌∙◌, ap, sym, refl, ℕ, Bool, true, false, cond, List, [], ◌∷◌, Option, Some, None, is_some, option_map}
use Rattle.std.specs.Prelude.{Result, Ok, Err}
use Rattle.digest_core.specs.declared.Digest.{Digest}
use Rattle.wire_bcs.specs.declared.fault.WireFault.{WireFault}
use Rattle.chain_types.specs.declared.transactions.SignedTx.{SignedTx}
use Rattle.chain_messages.specs.declared.messages.Certificate.{Certificate}
use Rattle.journal_core.specs.declared.records.Record.{Record}
use Rattle.protocol_spec.specs.declared.answers.Ran.{Ran}
use Rattle.protocol_spec.specs.declared.refusals.CloseRefusal.{CloseRefusal}
use Rattle.protocol_spec.specs.declared.refusals.CloseRefusal.TheVariants as no_close
use Rattle.protocol_spec.specs.declared.refusals.HoldRefusal.{HoldRefusal}
use Rattle.protocol_spec.specs.declared.refusals.HoldRefusal.TheVariants as no_hold
use Rattle.protocol_spec.specs.declared.refusals.RunRefusal.{RunRefusal}
use Rattle.protocol_spec.specs.declared.refusals.RunRefusal.TheVariants as no_run
use Rattle.protocol_spec.specs.declared.refusals.SeeRefusal.{SeeRefusal}
use Rattle.protocol_spec.specs.declared.refusals.SeeRefusal.TheVariants as no_see
use Rattle.protocol_spec.specs.declared.refusals.TurnRefusal.{TurnRefusal}
use Rattle.protocol_spec.specs.declared.refusals.TurnRefusal.TheVariants as no_turn
use Rattle.protocol_spec.specs.declared.refusals.VoteRefusal.{VoteRefusal}
use Rattle.protocol_spec.specs.declared.refusals.VoteRefusal.TheVariants as no_vote
use Rattle.protocol_spec.specs.Chain.Certificates.{Rules, read_certificate, read_signed}
use Rattle.protocol_spec.specs.Chain.Words.{first_some, refused_or, unless_refused}
use Rattle.protocol_spec.specs.Member.Member.{Fork, Member, fork_of}
use Rattle.protocol_spec.specs.Member.Calls.{Call, Voted, acks, close_answer, close_record, closes, due, ends, hold_answer, hold_record, holds, run_answer, run_record, runs, see_record, sees, turn_answer, turn_record, turns, vote_answer, vote_record, votes}
use Rattle.world_spec.specs.World.{answers, reached_up, stops}
use Rattle.world_spec.specs.Posts.{record_left}
use Rattle.world_core.specs.Replies.{spelled_due, stop_at}
use Rattle.world_core.proofs.Replying.{something_due}

-- ---- a member that met a fork keeps no record

no_vote_kept : (read : Result SignedTx WireFault) (refusal : VoteRefusal) → vote_record read (Err refusal) ≡ None
no_vote_kept (Err fault) refusal = refl
no_vote_kept (Ok s) refusal = refl

no_hold_kept : (read : Result Certificate WireFault) (first second : Digest) → hold_record read (Err (no_hold.Halted first second)) ≡ None
no_hold_kept (Err fault) first second = refl
no_hold_kept (Ok c) first second = refl

vote_forked : (read : Result SignedTx WireFault) (fork : Option Fork) (over : Option VoteRefusal) (rest : Result Voted VoteRefusal) → is_some fork ≡ true
    → vote_record read (refused_or (first_some (option_map (λ (f : Fork). no_vote.Halted f.first f.second) fork ∷ over ∷ [])) rest) ≡ None
vote_forked read None over rest some = absurd (cc)
vote_forked read (Some f) over rest some = no_vote_kept read (no_vote.Halted f.first f.second)

hold_forked : (read : Result Certificate WireFault) (fork : Option Fork) (over : Option HoldRefusal) (rest : Result Bool HoldRefusal) → is_some fork ≡ true
    → hold_record read (refused_or (first_some (option_map (λ (f : Fork). no_hold.Halted f.first f.second) fork ∷ over ∷ [])) rest) ≡ None
hold_forked read None over rest some = absurd (cc)
hold_forked read (Some f) over rest some = no_hold_kept read f.first f.second

see_forked : (m : Member) (number : ℕ) (bytes : List ℕ) (fork : Option Fork) (rest : List (Option SeeRefusal)) → is_some fork ≡ true
    → see_record m number bytes (first_some (option_map (λ (f : Fork). no_see.Halted f.first f.second) fork ∷ rest)) ≡ None
see_forked m number bytes None rest some = absurd (cc)
see_forked m number bytes (Some f) rest some = refl

run_forked : (m : Member) (fork : Option Fork) (over : Option RunRefusal) (ran : Ran) → is_some fork ≡ true
    → run_record m (unless_refused (first_some (option_map (λ (f : Fork). no_run.Halted f.first f.second) fork ∷ over ∷ [])) ran) ≡ None
run_forked m None over ran some = absurd (cc)
run_forked m (Some f) over ran some = refl

close_forked : (fork : Option Fork) (over : Option CloseRefusal) (new : Bool) → is_some fork ≡ true
    → close_record (unless_refused (first_some (option_map (λ (f : Fork). no_close.Halted f.first f.second) fork ∷ over ∷ [])) new) ≡ None
close_forked None over new some = absurd (cc)
close_forked (Some f) over new some = refl

turn_forked : (fork : Option Fork) (rest : List (Option TurnRefusal)) (txs : List Digest) → is_some fork ≡ true
    → turn_record (unless_refused (first_some (option_map (λ (f : Fork). no_turn.Halted f.first f.second) fork ∷ rest)) txs) ≡ None
turn_forked None rest txs some = absurd (cc)
turn_forked (Some f) rest txs some = refl

forked_due : (r : Rules) (m : Member) (call : Call) → is_some (fork_of m) ≡ true → due r m call ≡ None
unfolding due vote_answer hold_answer run_answer close_answer turn_answer
forked_due r m (votes bytes) some = vote_forked (read_signed bytes) (fork_of m) _ _ some
forked_due r m (holds bytes) some = hold_forked (read_certificate bytes) (fork_of m) _ _ some
forked_due r m (sees number bytes) some = see_forked m number bytes (fork_of m) _ some
forked_due r m runs some = run_forked m (fork_of m) _ _ some
forked_due r m closes some = close_forked (fork_of m) _ _ some
forked_due r m ends some = refl
forked_due r m turns some = turn_forked (fork_of m) _ _ some
forked_due r m (acks tx) some = refl

-- ---- the stop that may cut a call

forked_where : (forked kept : Bool) → None ≡ cond forked None (Some kept) → forked ≡ true
forked_where true kept e = refl
forked_where false kept e = absurd (cc)

-- none cuts it: the call is answered
pub reached_idle : (r : Rules) (m : Member) (call : Call) (armed : Option Bool) → None ≡ stop_at m armed → reached_up m armed (due r m call) ≡ answers m (due r m call)
reached_idle r m call None idle = refl
reached_idle r m call (Some kept) idle =
    let none = forked_due r m call (forked_where (is_some (fork_of m)) kept idle) in
    ap (reached_up m (Some kept)) none ∙ ap (answers m) (sym none)

stop_where : (forked : Bool) (armed : Option Bool) (kept : Bool) → Some kept ≡ cond forked None armed → (armed ≡ Some kept) × (forked ≡ false)
stop_where true armed kept e = absurd (cc)
stop_where false armed kept e = (sym e, refl)

no_fork : (o : Option Fork) → is_some o ≡ false → o ≡ None
no_fork None e = refl
no_fork (Some f) e = absurd (cc)

-- one may cut it: it is the one that is armed, and the member met no fork
pub stop_is : (m : Member) (armed : Option Bool) (kept : Bool) → Some kept ≡ stop_at m armed → armed ≡ Some kept
stop_is m armed kept e = (stop_where (is_some (fork_of m)) armed kept e).0

pub stop_free : (m : Member) (armed : Option Bool) (kept : Bool) → Some kept ≡ stop_at m armed → fork_of m ≡ None
stop_free m armed kept e = no_fork (fork_of m) (stop_where (is_some (fork_of m)) armed kept e).1

-- a stop whose record was not kept is one that keeps
pub stop_owed : (state : Member) (kept : Bool) (x : Option Record) (o : Option (List ℕ)) (bytes : List ℕ) → o ≡ spelled_due x → o ≡ Some bytes → kept ≡ true → is_some (record_left (reached_up state (Some kept) x)) ≡ true
stop_owed state kept x o bytes e some_ keeps =
    let d = something_due x o bytes e some_ in
    ap (λ (y : Option Record). is_some (record_left (reached_up state (Some kept) y))) d.1 ∙ ap (λ (b : Bool). is_some (record_left (stops b d.0))) keeps
