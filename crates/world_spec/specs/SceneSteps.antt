-- A line of a schedule as a step of the scene, what it hands to a member, and the lines of the report that it gives.
-- Source: this profile.
use Rattle.std.specs.Prelude.{ℕ, zero, suc, min, List, [], ◌++◌, map, slice_get, Option, Some, None, option_and_then, option_map, if◌then◌else◌}
use Rattle.journal_core.specs.declared.records.Record.{Record}
use Rattle.outside.specs.Lists.{Journals, KeepsJournals}
use Rattle.protocol_spec.specs.Chain.Certificates.{Rules}
use Rattle.schedule_text.specs.declared.words.Event.{Event}
use Rattle.report_text.specs.declared.lines.Line.{Line}
use Rattle.protocol_spec.specs.Member.Member.{Member}
use Rattle.protocol_spec.specs.Member.Calls.{Call, acks}
use Rattle.world_spec.specs.Setting.{Trust}
use Rattle.world_spec.specs.World.{Made, honest_in, next_call_of, said_by}
use Rattle.world_spec.specs.Names.{made_named}
use Rattle.world_spec.specs.Moves.{Move, requests, delivers, claims, Claim, claims_vote, claims_ack, requested, move_of}
use Rattle.world_spec.specs.Step.{entries_left, happens_over}
use Rattle.world_spec.specs.Report.{lines_over}
use Rattle.world_spec.specs.Seats.{Seated}
use Rattle.world_spec.specs.Posts.{AddsAll, AddsFront, Post, list_of, post_honest, posts_behind, reached_in, record_left, stated_in}
use Rattle.world_spec.specs.Scene.{Scene, bare_setting, post_seating, post_world, scene_with}

-- ---- calls

-- after a call that asks for no vote
abbrev pub called_scene : Rules → Scene → ℕ → Call → Scene
called_scene r sc m call = record sc {
  posts = posts_behind r sc.posts m call;
  said = sc.said ++ map (said_by m) (stated_in r call (reached_in r sc.posts m call));
}

-- ---- see

abbrev pub standing_at : Option Post → Option Seated
standing_at None = None
standing_at (Some p) = p.standing

abbrev pub seat_state : Seated → Member
seat_state seat = seat.state

-- the state of a member that is up
abbrev pub state_at : Scene → ℕ → Option Member
state_at sc m = option_map seat_state (standing_at (slice_get sc.posts m))

-- the next entry of a member that is up, as the call that hands it in
abbrev pub next_on : Scene → ℕ → Option Call
next_on sc m = option_and_then (next_call_of (post_world sc)) (state_at sc m)

abbrev pub called_if : Rules → Scene → ℕ → Option Call → Scene
called_if r sc m None = sc
called_if r sc m (Some call) = called_scene r sc m call

-- the scene after a member took its next n entries, or as many as there are
abbrev pub sees_to : Rules → ℕ → Scene → ℕ → Scene
sees_to r zero sc m = sc
sees_to r (suc n) sc m = sees_to r n (called_if r sc m (next_on sc m)) m

-- the records that the call leaves: one or none; none if there is no call
abbrev pub left_if : Rules → Scene → ℕ → Option Call → List Record
left_if r sc m None = []
left_if r sc m (Some call) = list_of (record_left (reached_in r sc.posts m call))

abbrev pub sees_left : Rules → ℕ → Scene → ℕ → List Record
sees_left r zero sc m = []
sees_left r (suc n) sc m = left_if r sc m (next_on sc m) ++ sees_left r n (called_if r sc m (next_on sc m)) m

-- ---- what a line hands to a member

-- a line calls no member, makes one call on a member, or hands a member its next n entries
pub data Work : Type 0 where
  idle : Work
  asks : ℕ → Call → Work
  hands : ℕ → ℕ → Work

abbrev pub asked : ℕ → Option Call → Work
asked m None = idle
asked m (Some call) = asks m call

-- an `ack` line calls an honest member only
abbrev pub ack_work : Scene → ℕ → Option Made → Work
ack_work sc m None = idle
ack_work sc m (Some t) = if honest_in post_honest (post_world sc) m then asks m (acks t.digest) else idle

-- a faulty member is handed nothing for its claim
abbrev pub claim_work : Scene → ℕ → Claim → Option Made → Work
claim_work sc m (claims_vote origins) t = idle
claim_work sc m (claims_ack spoiled) t = ack_work sc m t

abbrev pub work_by : Scene → Move → Work
work_by sc (requests m ask) = asked m (requested (post_world sc) ask)
work_by sc (delivers m entries) = hands m (min entries (entries_left (post_world sc) (state_at sc m)))
work_by sc (claims m tx claim) = claim_work sc m claim (made_named (post_world sc) tx)
work_by sc mv = idle

unfoldable pub work_of : Scene → Event → Work
work_of sc e = work_by sc (move_of e)

-- the member that this work calls and the records that it leaves, oldest first; none if it calls no member
abbrev pub records_left : Rules → Scene → Work → Option (ℕ × List Record)
records_left r sc idle = None
records_left r sc (asks m call) = Some (m, list_of (record_left (reached_in r sc.posts m call)))
records_left r sc (hands m n) = Some (m, sees_left r n sc m)

-- if lists are observable, the records that a line leaves were added; if it leaves none, they are as before
abbrev pub AddsLine : Option (ℕ × List Record) → Option Journals → Option Journals → Type 0
AddsLine None before now = KeepsJournals before now
AddsLine (Some (m, records)) before now = AddsAll before now m records

-- after a line that was not completed: a prefix of its records was added
abbrev pub MayAddLine : Option (ℕ × List Record) → Option Journals → Option Journals → Type 0
MayAddLine None before now = KeepsJournals before now
MayAddLine (Some (m, records)) before now = AddsFront before now m records

-- ---- the step of every line but `restart`, which reads records, and the lines of the report

-- the scene after a line: the step of the definitions, at posts
unfoldable pub steps_to : Trust → Scene → Event → Scene
steps_to trust sc e = scene_with sc (happens_over (post_seating trust sc) (bare_setting trust sc) (post_world sc) e)

-- the lines that it gives: those of the definitions, at posts
unfoldable pub lines_in : Trust → Scene → Event → List Line
lines_in trust sc e = lines_over (post_seating trust sc) (bare_setting trust sc) (post_world sc) e
