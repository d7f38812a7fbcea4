-- How a member starts: from the text of a set-up, from what its journal is, and from its records. Source: this profile.
use Rattle.std.specs.Prelude.{◌==◌, ℕ, List, length, slice_get, Result, Ok, Err, if◌then◌else◌}
use Rattle.schedule_text.specs.declared.words.Schedule.{Schedule}
use Rattle.schedule_text.specs.Schedule.{Refused, schedule_of}
use Rattle.protocol_spec.specs.declared.refusals.StartRefusal.{StartRefusal}
use Rattle.protocol_spec.specs.declared.refusals.StartRefusal.TheVariants as no_start
use Rattle.protocol_spec.specs.Member.Member.{Member, built}
use Rattle.world_spec.specs.Setting.{Trust, setting_of}
use Rattle.world_spec.specs.Posts.{seat_at}
use Rattle.world_spec.specs.Scene.{Scene, new_scene, rules_in}
use Rattle.world_spec.specs.Seats.{Seated}
use Rattle.world_spec.specs.Starts.{started}
use Rattle.world_core.specs.Crews.{honest_post}
use Rattle.world_core.specs.Replies.{Accepting}
use Rattle.process_lines.specs.declared.starts.StartLine.{StartLine}
use Rattle.process_lines.specs.declared.starts.StartLine.TheVariants as start

-- ---- the set-up

abbrev pub scene_in : Trust → Schedule → Scene
scene_in trust s = new_scene (setting_of trust s.setup) s.setup

-- the committee, if its member of this number is honest; else the line that refuses the start
abbrev pub member_checked : ℕ → Scene → Result Scene StartLine
member_checked m scene = if honest_post (slice_get scene.posts m) then Ok scene else Err (start.NoMember m)

abbrev pub scene_of : Trust → ℕ → Result Schedule Refused → Result Scene StartLine
scene_of trust m (Err r) = Err (start.NoSchedule r.line r.cause)
scene_of trust m (Ok s) = if length s.events == 0 then member_checked m (scene_in trust s) else Err start.HasEvents

-- the committee that a text sets up, or the line that refuses the start
unfoldable pub genesis_of : Trust → ℕ → List ℕ → Result Scene StartLine
genesis_of trust m text = scene_of trust m (schedule_of text)

-- ---- the journal

abbrev pub member_started : Scene → ℕ → Result Member StartRefusal → Result Seated StartLine
member_started scene m (Ok state) = Ok (seat_at scene.terms m state)
member_started scene m (Err (no_start.BadRecord place why)) = Err (start.BadRecord place)
member_started scene m (Err no_start.OutOfMemory) = Err start.NotMade

-- a member of the committee as it starts from its records, or the line that refuses the start
abbrev pub started_in : Accepting → Scene → ℕ → List (List ℕ) → Result Seated StartLine
started_in accepts scene m records = member_started scene m (started (rules_in accepts scene) scene.opening records)

-- the line that says where a member starts from
abbrev pub ready_line : Seated → StartLine
ready_line seat = start.Ready seat.member seat.state.epoch seat.state.sequence.number (length (built seat.state)) seat.state.records

-- the status with which a process ends after this line: 0 after `ready` or `made`
abbrev pub line_status : StartLine → ℕ
line_status (start.Ready member epoch seen checkpoints records) = 0
line_status (start.Made member genesis) = 0
line_status (start.NoSchedule line cause) = 3
line_status start.HasEvents = 8
line_status (start.NoMember member) = 8
line_status start.NotMade = 8
line_status start.OtherMember = 8
line_status start.OtherGenesis = 8
line_status start.NotEmpty = 8
line_status (start.BadRecord place) = 6
