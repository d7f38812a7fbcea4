-- A line of a schedule and its lines of the report, in the words of the code: a call leaves the members as
-- `posts_behind` says and the report's lines are by `reached_in`. `proofs/Steps` shows that this is the step of the
-- definitions.
use Rattle.std.specs.Prelude.{ℕ, zero, suc, min, Bool, false, List, [], ◌∷◌, ◌++◌, map, length, slice_get, Option, Some, None, option_and_then, if◌then◌else◌}
use Rattle.digest_core.specs.declared.Digest.{Digest}
use Rattle.quorum_core.specs.declared.signer.Signer.{Signer}
use Rattle.chain_types.specs.declared.objects.ObjectKey.{ObjectKey}
use Rattle.chain_types.specs.Transactions as transactions
use Rattle.chain_messages.specs.declared.messages.Certificate.{Certificate}
use Rattle.chain_messages.specs.declared.messages.Statement.{Statement}
use Rattle.chain_messages.specs.declared.messages.Statement.TheVariants as statement
use Rattle.chain_messages.specs.Messages as messages
use Rattle.protocol_spec.specs.Chain.Certificates.{Rules}
use Rattle.protocol_spec.specs.Chain.Words.{first_some}
use Rattle.schedule_text.specs.declared.words.Event.{Event}
use Rattle.schedule_text.specs.declared.words.Event.TheVariants as event
use Rattle.report_text.specs.declared.lines.Line.{Line}
use Rattle.report_text.specs.declared.lines.Line.TheVariants as line
use Rattle.report_text.specs.declared.lines.AckText.{AckText}
use Rattle.report_text.specs.declared.lines.AckText.TheVariants as ack_text
use Rattle.report_text.specs.declared.lines.SeeText.TheVariants as see_text
use Rattle.report_text.specs.declared.lines.SendText.{SendText}
use Rattle.report_text.specs.declared.lines.SendText.TheVariants as send_text
use Rattle.report_text.specs.declared.lines.ShowText.TheVariants as show_text
use Rattle.report_text.specs.declared.lines.VoteText.{VoteText}
use Rattle.report_text.specs.declared.lines.VoteText.TheVariants as vote_text
use Rattle.protocol_spec.specs.Member.Member.{Fork, Member, fork_of, live_objects}
use Rattle.protocol_spec.specs.Member.Calls.{Call, votes, holds, sees, runs, closes, ends, turns, acks}
use Rattle.world_spec.specs.Setting.{Name, Trust}
use Rattle.world_spec.specs.World.{Made, Reached, WorldOf, honest_in, said_by, sealed_by}
use Rattle.world_spec.specs.Names.{made_named, cert_named, tx_name}
use Rattle.world_spec.specs.Making.{TxLine, digest_or_zero, held_digest, spoiled_if}
use Rattle.world_spec.specs.Moves.{Move, looks_on, makes_tx, requests, delivers, claims, certifies, submits, submits_end, arms_stop, starts_again, Claim, claims_vote, claims_ack, move_of}
use Rattle.world_spec.specs.Step.{end_by, entries_left, executed_digest, formed, fvoted_by, open_entries, submitted}
use Rattle.world_spec.specs.Report.{Lines, ack_reached, and_lines, cert_lines, close_reached, end_reached, entry_reached, final_lines, fvote_lines_by, hold_reached, none_taken, order_end_by, order_said, run_reached, shown, turn_reached, vote_reached}
use Rattle.world_spec.specs.Known.{with_line}
use Rattle.world_spec.specs.MadeLines.{line_made}
use Rattle.world_spec.specs.Seats.{Seated}
use Rattle.world_spec.specs.Posts.{Post, armed_at, post_honest, posts_behind, reached_in, stated_in}
use Rattle.world_spec.specs.Scene.{Scene, bare_setting, post_world, rules_in}
use Rattle.world_spec.specs.SceneSteps.{Work, idle, asks, hands, called_if, called_scene, next_on, sees_to, standing_at, state_at, work_by}

-- ---- transactions

abbrev pub held_by : ObjectKey → Option Seated → Option Digest
held_by key None = None
held_by key (Some seat) = held_digest key seat.state

-- the digest of the version at the lowest-numbered honest member that is up and holds it
abbrev pub held_in : List Post → ObjectKey → Option Digest
held_in [] key = None
held_in (p ∷ posts) key = first_some ((if p.honest then held_by key p.standing else None) ∷ held_in posts key ∷ [])

abbrev pub made_in : Trust → Scene → TxLine → Made
made_in trust sc l = line_made sc.known (held_in sc.posts) trust.seal l

abbrev pub with_tx : Trust → Scene → TxLine → Scene
with_tx trust sc l = record sc { known = with_line sc.known l (made_in trust sc l) }

-- ---- calls

-- after a member was asked for its vote, which it gives under its seal
abbrev pub voted_scene : (Signer → List ℕ → Digest) → Rules → Scene → ℕ → List ℕ → Scene
voted_scene seal r sc m bytes = record sc {
  posts = posts_behind r sc.posts m (votes bytes);
  said = sc.said ++ map (sealed_by seal m) (stated_in r (votes bytes) (reached_in r sc.posts m (votes bytes)));
}

-- after any call
abbrev pub asked_scene : (Signer → List ℕ → Digest) → Rules → Scene → ℕ → Call → Scene
asked_scene seal r sc m (votes bytes) = voted_scene seal r sc m bytes
asked_scene seal r sc m call = called_scene r sc m call

-- the scene after this work
abbrev pub worked : (Signer → List ℕ → Digest) → Rules → Scene → Work → Scene
worked seal r sc idle = sc
worked seal r sc (asks m call) = asked_scene seal r sc m call
worked seal r sc (hands m n) = sees_to r n sc m

-- ---- the step of every line but `restart`, which reads records

-- the scene with the sequences, the open epoch and the statements of this world
abbrev pub with_order : Scene → WorldOf Post → Scene
with_order sc w = record sc { sequences = w.sequences; epoch = w.epoch; said = w.said }

-- what the lowest-numbered honest member that is up says, if one says anything
abbrev pub says_in : {A : Type 0} → (Member → Option A) → List Post → Option A
says_in says [] = None
says_in says (p ∷ posts) = first_some ((if p.honest then option_and_then (λ (seat : Seated). says seat.state) p.standing else None) ∷ says_in says posts ∷ [])

-- what a faulty member acknowledges: the digest of the lowest-numbered honest member that is up and executed the
-- transaction, else zeros; with one bit flipped if the line spoils it
abbrev pub false_ack_in : Scene → Made → Bool → Statement
false_ack_in sc t spoiled = statement.Ack t.signed.tx.epoch t.digest (spoiled_if spoiled (digest_or_zero (says_in (executed_digest t.digest) sc.posts)))

abbrev pub acked_in : Rules → Scene → ℕ → Bool → Option Made → Scene
acked_in r sc m spoiled None = sc
acked_in r sc m spoiled (Some t) = if honest_in post_honest (post_world sc) m then called_scene r sc m (acks t.digest) else record sc { said = sc.said ++ said_by m (false_ack_in sc t spoiled) ∷ [] }

abbrev pub claimed_in : Trust → Scene → ℕ → Claim → Option Made → Scene
claimed_in trust sc m (claims_vote origins) t = record sc { said = (fvoted_by post_honest (bare_setting trust sc) (post_world sc) m origins t).said }
claimed_in trust sc m (claims_ack spoiled) t = acked_in (rules_in trust.accepts sc) sc m spoiled t

-- the scene after a move
abbrev pub steps_by : Trust → Scene → Move → Scene
steps_by trust sc looks_on = sc
steps_by trust sc (makes_tx l) = with_tx trust sc l
steps_by trust sc (requests m ask) = worked trust.seal (rules_in trust.accepts sc) sc (work_by sc (requests m ask))
steps_by trust sc (delivers m entries) = worked trust.seal (rules_in trust.accepts sc) sc (work_by sc (delivers m entries))
steps_by trust sc (claims m tx claim) = claimed_in trust sc m claim (made_named (post_world sc) tx)
steps_by trust sc (certifies tx members) = record sc { certs = (formed (bare_setting trust sc) (post_world sc) members (made_named (post_world sc) tx)).certs }
steps_by trust sc (submits x) = with_order sc (submitted (post_world sc) x)
steps_by trust sc (submits_end m) = with_order sc (end_by post_honest (bare_setting trust sc) (post_world sc) m)
steps_by trust sc (arms_stop m kept) = record sc { posts = armed_at sc.posts m kept }
steps_by trust sc (starts_again m) = sc

unfoldable pub scene_after : Trust → Scene → Event → Scene
scene_after trust sc e = steps_by trust sc (move_of e)

-- ---- the lines

-- what a call on a member meets: a member that is down, a stop, or an answer
abbrev pub comes_to : Trust → Scene → ℕ → Call → Reached
comes_to trust sc m call = reached_in (rules_in trust.accepts sc) sc.posts m call

abbrev pub vote_text_in : Trust → Scene → ℕ → List ℕ → VoteText
vote_text_in trust sc m bytes = vote_reached (bare_setting trust sc) (post_world sc) bytes (comes_to trust sc m (votes bytes))

abbrev pub vote_lines_in : Trust → Scene → ℕ → Name → Option Made → List Line
vote_lines_in trust sc m tx None = line.Vote m tx vote_text.Down ∷ []
vote_lines_in trust sc m tx (Some t) = line.Vote m tx (vote_text_in trust sc m (transactions.signed.spell t.signed)) ∷ []

abbrev pub hold_text_in : Trust → Scene → ℕ → List ℕ → SendText
hold_text_in trust sc m bytes = hold_reached (bare_setting trust sc) (post_world sc) bytes (comes_to trust sc m (holds bytes))

abbrev pub send_text_in : Trust → Scene → ℕ → Option Certificate → SendText
send_text_in trust sc m None = send_text.NoCertificate
send_text_in trust sc m (Some c) = hold_text_in trust sc m (messages.certificate.spell c)

-- the lines of one entry, and whether the line goes on after it
abbrev pub call_lines_in : Trust → Scene → ℕ → Option Call → Lines
call_lines_in trust sc m None = ([], false)
call_lines_in trust sc m (Some (votes bytes)) = ([], false)
call_lines_in trust sc m (Some (holds bytes)) = ([], false)
call_lines_in trust sc m (Some (sees number bytes)) = entry_reached (bare_setting trust sc) (post_world sc) m number bytes (comes_to trust sc m (sees number bytes))
call_lines_in trust sc m (Some runs) = ([], false)
call_lines_in trust sc m (Some closes) = ([], false)
call_lines_in trust sc m (Some ends) = ([], false)
call_lines_in trust sc m (Some turns) = ([], false)
call_lines_in trust sc m (Some (acks tx)) = ([], false)

-- the lines for the next n entries of a member, up to the first after which the line does not go on
abbrev pub entries_lines_in : Trust → ℕ → Scene → ℕ → List Line
entries_lines_in trust zero sc m = []
entries_lines_in trust (suc n) sc m =
    and_lines (call_lines_in trust sc m (next_on sc m)) (entries_lines_in trust n (called_if (rules_in trust.accepts sc) sc m (next_on sc m)) m)

-- a halted member reports that it is halted, even if it has no entry to take
abbrev pub see_halted_in : Trust → Scene → ℕ → ℕ → Option Fork → List Line
see_halted_in trust sc m n (Some fork) = line.See m (see_text.Halted (tx_name (post_world sc) fork.first) (tx_name (post_world sc) fork.second)) ∷ []
see_halted_in trust sc m n None = none_taken m (entries_lines_in trust n sc m)

abbrev pub see_lines_in : Trust → Scene → ℕ → ℕ → Option Member → List Line
see_lines_in trust sc m n None = line.See m see_text.Down ∷ []
see_lines_in trust sc m n (Some member) = see_halted_in trust sc m (min n (entries_left (post_world sc) (Some member))) (fork_of member)

abbrev pub ack_text_in : Trust → Scene → ℕ → Digest → AckText
ack_text_in trust sc m tx = if honest_in post_honest (post_world sc) m then ack_reached (bare_setting trust sc) (post_world sc) tx (comes_to trust sc m (acks tx)) else ack_text.Said

abbrev pub ack_lines_in : Trust → Scene → ℕ → Name → Option Made → List Line
ack_lines_in trust sc m tx None = line.Ack m tx ack_text.Down ∷ []
ack_lines_in trust sc m tx (Some t) = line.Ack m tx (ack_text_in trust sc m t.digest) ∷ []

abbrev pub show_in : Trust → Scene → ℕ → Option Seated → List Line
show_in trust sc m (Some seat) = shown (bare_setting trust sc) (post_world sc) m seat.state.epoch (live_objects seat.state)
show_in trust sc m None = line.Show m show_text.Down ∷ []

unfoldable pub lines_after : Trust → Scene → Event → List Line
lines_after trust sc (event.Tx name sender spoiled epoch gas budget inputs commands) = line.TxMade name ∷ []
lines_after trust sc (event.Vote m tx) = vote_lines_in trust sc m tx (made_named (post_world sc) tx)
lines_after trust sc (event.Fvote m tx origins) = fvote_lines_by post_honest (post_world sc) m tx origins (made_named (post_world sc) tx)
lines_after trust sc (event.Cert tx members) = cert_lines (bare_setting trust sc) (post_world sc) tx members (made_named (post_world sc) tx)
lines_after trust sc (event.Send m tx) = line.Send m tx (send_text_in trust sc m (cert_named (post_world sc) tx)) ∷ []
lines_after trust sc (event.Order tx) = line.Order tx (order_said (post_world sc) (cert_named (post_world sc) tx)) ∷ []
lines_after trust sc (event.OrderEnd m) = line.OrderEnd m (order_end_by post_honest (post_world sc) m) ∷ []
lines_after trust sc event.OrderCommit = line.OrderCommit (length (open_entries (post_world sc))) ∷ []
lines_after trust sc (event.See m entries) = see_lines_in trust sc m entries (state_at sc m)
lines_after trust sc (event.Run m workers) = run_reached (bare_setting trust sc) (post_world sc) m (comes_to trust sc m runs)
lines_after trust sc (event.Close m) = line.Close m (close_reached (bare_setting trust sc) (post_world sc) (comes_to trust sc m closes)) ∷ []
lines_after trust sc (event.End m) = line.End m (end_reached (bare_setting trust sc) (post_world sc) (comes_to trust sc m ends)) ∷ []
lines_after trust sc (event.Turn m) = turn_reached (bare_setting trust sc) (post_world sc) m (comes_to trust sc m turns)
lines_after trust sc (event.Show m) = show_in trust sc m (standing_at (slice_get sc.posts m))
lines_after trust sc (event.Stop m kept) = line.Stop m kept ∷ []
lines_after trust sc (event.Restart m) = []
lines_after trust sc (event.RawVote m bytes) = line.RawVote m (vote_text_in trust sc m bytes) ∷ []
lines_after trust sc (event.RawHold m bytes) = line.RawHold m (hold_text_in trust sc m bytes) ∷ []
lines_after trust sc (event.Ack m tx spoiled) = ack_lines_in trust sc m tx (made_named (post_world sc) tx)
lines_after trust sc (event.Final tx members) = final_lines (bare_setting trust sc) (post_world sc) tx members (made_named (post_world sc) tx)
