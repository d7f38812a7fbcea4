-- What the program promises of `follow M`: it runs the schedule and writes no report; then a follower that opens with
-- the objects of the set-up takes the checkpoints that member M built in the epochs before its own, and one line says
-- how far it got.
use Rattle.std.specs.Prelude.{◌≡◌, ◌⊎◌, ℕ, Bool, true, false, List, [], ◌∷◌, ◌++◌, length, Option, None, Some, Result, Ok, Err, option_map, slice_get, codes, decimal, if◌then◌else◌}
use Rattle.std.specs.FinMap.{values}
use Rattle.std.specs.Io.KnownBytes.{Appends, Keeps}
use Rattle.outside.specs.Causes.{Rose}
use Rattle.outside.specs.Lists.{Journals, KeepsJournals}
use Rattle.outside.specs.Streams.{AppendsFront, ReadsText}
use Rattle.chain_types.specs.declared.objects.Object.{Object}
use Rattle.schedule_text.specs.declared.words.Schedule.{Schedule}
use Rattle.schedule_text.specs.Schedule.{Refused, longest_text, schedule_of}
use Rattle.protocol_spec.specs.Member.Member.{Member, built}
use Rattle.world_spec.specs.Setting.{Setting}
use Rattle.world_spec.specs.World as worlds
use Rattle.world_spec.specs.World.{World, is_honest, member_in}
use Rattle.world_spec.specs.Run.{world_after}
use Rattle.world_spec.specs.Assumptions.{IsHonestRun}
use Rattle.world_spec.specs.Posts.{Post}
use Rattle.world_spec.specs.Seats.{Seated}
use Rattle.validator_core.specs.Opened.{opening_objects}
use Rattle.world_core.specs.Crews.{honest_at, honest_post}
use Rattle.follower_core.specs.declared.catching.CatchUpRefusal.{CatchUpRefusal}
use Rattle.follower_core.specs.declared.catching.CatchUpRefusal.TheVariants as stopped
use Rattle.follower_core.specs.Catching.{Known, before_epoch, caught_up}
use Rattle.follower_core.specs.Following.{State, applied_in, opened}
use Rattle.headline_law.specs.Followed.{AllMade, made_as}
use Rattle.committee_core.specs.declared.verdict.Verdict.{Verdict}
use Rattle.committee_core.specs.declared.verdict.Verdict.TheVariants as verdict
use Rattle.committee_core.specs.Headline.{HoldsAlong, IsRefused, program_trust}
use Rattle.committee_core.specs.Journals.{KeepsFronts, KeepsRun, ReadsBack}
use Rattle.committee_core.specs.Outside.{Outside}
use Rattle.committee_core.specs.Report.{refusal_text, setting_in}
use Rattle.committee_core.specs.Ways.{MeetsBadRecord}

-- ---- the verdict on a member

-- a member that is asked for: whether the set-up makes it honest, and its state if it is honest and up
pub record Asked : Type 0 where
  pub honest : Bool
  pub state : Option Member

abbrev pub state_in : Setting → Option worlds.Seat → Option Member
state_in s None = None
state_in s (Some seat) = if seat.honest then (if seat.up then Some (member_in s seat) else None) else None

abbrev pub asked_in : Setting → World → ℕ → Asked
asked_in s w m = record { honest = is_honest w m; state = state_in s (slice_get w.seats m) }

-- how far a follower gets with the checkpoints of the member's epochs before its own
abbrev pub follower_of : Known → List Object → Member → Result State CatchUpRefusal
follower_of known opening m = caught_up known (opened opening) (before_epoch m.epoch (built m))

-- the member is honest and up, and how far a follower gets with its checkpoints satisfies `Far`
pub record ComesTo (known : Known) (opening : List Object) (asked : Asked) (Far : Member → Result State CatchUpRefusal → Type 0) : Type 0 where
  pub honest : asked.honest ≡ true
  pub member : Member
  pub stands : asked.state ≡ Some member
  pub far : Far member (follower_of known opening member)

-- the follower takes all checkpoints, and its live objects, by ascending id, satisfy `Live`
pub record LeavesObjects (r : Result State CatchUpRefusal) (Live : List Object → Type 0) : Type 0 where
  pub state : State
  pub is : r ≡ Ok state
  pub live : Live (values state.course.map)

-- the follower's objects are those with which the member opened its epoch; the numbers are those of the verdict
-- `Equal`
pub record IsEqual (m : Member) (checkpoints epoch objects : ℕ) (live : List Object) : Type 0 where
  pub same : live ≡ opening_objects m
  pub checkpoints_are : checkpoints ≡ length (before_epoch m.epoch (built m))
  pub epoch_is : epoch ≡ m.epoch
  pub objects_are : objects ≡ length live

-- which verdict is the right one for a member, given the set-up's objects and the transactions that are known by their
-- digests: the cases exclude each other
abbrev pub IsVerdict : Known → List Object → Asked → Verdict → Type 0
IsVerdict known opening asked verdict.NoHonest = asked.honest ≡ false
IsVerdict known opening asked verdict.Down = (asked.honest ≡ true) × (asked.state ≡ None)
IsVerdict known opening asked (verdict.Stuck number place) = ComesTo known opening asked (λ m r. r ≡ Err (stopped.Stuck number place))
IsVerdict known opening asked (verdict.Differs number place) = ComesTo known opening asked (λ m r. r ≡ Err (stopped.Differs number place))
IsVerdict known opening asked verdict.Unequal = ComesTo known opening asked (λ m r. LeavesObjects r (λ live. live ≡ opening_objects m → ⊥))
IsVerdict known opening asked (verdict.Equal checkpoints epoch objects) = ComesTo known opening asked (λ m r. LeavesObjects r (IsEqual m checkpoints epoch objects))

-- the status of `follow` for each verdict; below, its words and its line
abbrev pub verdict_status : Verdict → ℕ
verdict_status verdict.NoHonest = 8
verdict_status verdict.Down = 8
verdict_status (verdict.Stuck number place) = 8
verdict_status (verdict.Differs number place) = 8
verdict_status verdict.Unequal = 8
verdict_status (verdict.Equal checkpoints epoch objects) = 0

abbrev pub verdict_words : Verdict → List ℕ
verdict_words verdict.NoHonest = codes "no honest member"
verdict_words verdict.Down = codes "down"
verdict_words (verdict.Stuck number place) = codes "stuck " ++ decimal number ++ codes " " ++ decimal place
verdict_words (verdict.Differs number place) = codes "differs " ++ decimal number ++ codes " " ++ decimal place
verdict_words verdict.Unequal = codes "unequal"
verdict_words (verdict.Equal checkpoints epoch objects) = codes "equal checkpoints " ++ decimal checkpoints ++ codes " epoch " ++ decimal epoch ++ codes " objects " ++ decimal objects

abbrev pub verdict_text : ℕ → Verdict → List ℕ
verdict_text m v = codes "follow " ++ decimal m ++ codes ": " ++ verdict_words v ++ 10 ∷ []

-- a verdict that finds no fault: the follower took all and has the member's objects, or there was no member to follow
abbrev pub IsThrough : Verdict → Type 0
IsThrough verdict.NoHonest = Unit {0}
IsThrough verdict.Down = Unit {0}
IsThrough (verdict.Stuck number place) = ⊥
IsThrough (verdict.Differs number place) = ⊥
IsThrough verdict.Unequal = ⊥
IsThrough (verdict.Equal checkpoints epoch objects) = Unit {0}

-- ---- by what the code sees of a member

abbrev pub asked_at : Option Post → Asked
asked_at p = record { honest = honest_post p; state = option_map (λ (seat : Seated). seat.state) (honest_at p) }

abbrev pub asked_up : Member → Asked
asked_up m = record { honest = true; state = Some m }

-- which verdict is the right one for a member once a follower took all its checkpoints: the objects are equal or not
abbrev pub IsVerdictFrom : Member → State → Verdict → Type 0
IsVerdictFrom m s verdict.NoHonest = ⊥
IsVerdictFrom m s verdict.Down = ⊥
IsVerdictFrom m s (verdict.Stuck number place) = ⊥
IsVerdictFrom m s (verdict.Differs number place) = ⊥
IsVerdictFrom m s verdict.Unequal = values s.course.map ≡ opening_objects m → ⊥
IsVerdictFrom m s (verdict.Equal checkpoints epoch objects) =
    (values s.course.map ≡ opening_objects m) × (checkpoints ≡ applied_in s.tip) × (epoch ≡ m.epoch) × (objects ≡ length (values s.course.map))

-- ---- after the run of a text

-- which verdict is the right one for a member after all lines of a schedule; the known transactions are those that
-- lines made
abbrev pub IsVerdictBehind : Schedule → ℕ → Verdict → Type 0
IsVerdictBehind s m v =
    let at : Setting = setting_in program_trust s in
    let w : World = world_after at s.events in
    IsVerdict (made_as w) at.opening (asked_in at w m) v

-- under the run assumptions, if lines made all transactions of the run, no follower is stuck, and none differs from a member
abbrev pub ComesThrough : Schedule → Verdict → Type 0
ComesThrough s v = IsHonestRun (setting_in program_trust s) s.events → AllMade (setting_in program_trust s) s.events → IsThrough v

-- the text is a schedule whose events all ran, with this verdict after them if what is read back is what was appended; its
-- journals were kept, and the headline holds at each moment
pub record Finds (text : List ℕ) (m : ℕ) (kept kept' : Option Journals) (v : Verdict) : Type 0 where
  pub schedule : Schedule
  pub is : schedule_of text ≡ Ok schedule
  pub true_of : ReadsBack kept schedule.events → IsVerdictBehind schedule m v
  pub through : ReadsBack kept schedule.events → ComesThrough schedule v
  pub journals : KeepsRun program_trust schedule kept kept'
  pub holds : HoldsAlong schedule

-- the line of a verdict was written, and this is the verdict's status
abbrev pub SaysVerdict : ℕ → Verdict → ℕ → Option (List ℕ) → Option (List ℕ) → Type 0
SaysVerdict m v status held held' = (verdict_status v ≡ status) × Appends held held' (verdict_text m v)

pub record SaysOf (text : List ℕ) (m status : ℕ) (held held' : Option (List ℕ)) (kept kept' : Option Journals) : Type 0 where
  pub said : Verdict
  pub finds : Finds text m kept kept' said
  pub says : SaysVerdict m said status held held'

-- the text was read, to the end of the source or to one byte past the limit, and this was said of it
pub record Follows (m status : ℕ) (left left' held held' : Option (List ℕ)) (kept kept' : Option Journals) : Type 0 where
  pub text : List ℕ
  pub read : ReadsText longest_text left left' text
  pub says : SaysOf text m status held held' kept kept'

-- how far `follow` came with a text when it broke off: in the run, in the line of the verdict (then the keeper's count
-- of faults had not risen), or in the line of a refusal
pub data FrontOf (text : List ℕ) (m : ℕ) (held held' : Option (List ℕ)) (kept kept' : Option Journals) (HasRisen : Type 0) : Type 0 where
  unrun : (s : Schedule) → schedule_of text ≡ Ok s → KeepsFronts program_trust s kept kept' → Keeps held held' → FrontOf text m held held' kept kept' HasRisen
  unsaid : (v : Verdict) → Finds text m kept kept' v → (HasRisen → ⊥) → AppendsFront held held' (verdict_text m v) → FrontOf text m held held' kept kept' HasRisen
  unrefused : (r : Refused) → schedule_of text ≡ Err r → KeepsJournals kept kept' → AppendsFront held held' (refusal_text r) → FrontOf text m held held' kept kept' HasRisen

-- `follow` broke off: before it read a whole text, when nothing is written or kept, or at a later point (`FrontOf`)
abbrev pub FollowsFront : ℕ → Option (List ℕ) → Option (List ℕ) → Option (List ℕ) → Option (List ℕ) → Option Journals → Option Journals → Type 0 → Type 0
FollowsFront m left left' held held' kept kept' HasRisen =
    (Keeps held held' × KeepsJournals kept kept') ⊎ ((text : List ℕ) × ReadsText longest_text left left' text × FrontOf text m held held' kept kept' HasRisen)

-- a record that was read back in the run is bad. A keeper that shows its lists gives none.
pub record FollowsBad (left left' : Option (List ℕ)) (kept : Option Journals) : Type 0 where
  pub text : List ℕ
  pub schedule : Schedule
  pub read : ReadsText longest_text left left' text
  pub is : schedule_of text ≡ Ok schedule
  pub meets : MeetsBadRecord program_trust schedule Appends None None kept

-- how `follow M` may end, by its status
pub record FollowEnds (m : ℕ) (before now : Outside) (status : ℕ) : Type 0 where
  pub known : (status ≡ 0) ⊎ (status ≡ 3) ⊎ (status ≡ 4) ⊎ (status ≡ 5) ⊎ (status ≡ 6) ⊎ (status ≡ 7) ⊎ (status ≡ 8)
  pub whole : (status ≡ 0) ⊎ (status ≡ 8) → Follows m status before.left now.left before.held now.held before.kept now.kept
  pub steady : (status ≡ 0) ⊎ (status ≡ 8) → Rose before.keep_faults now.keep_faults → ⊥
  pub refused : status ≡ 3 → IsRefused before.left now.left before.held now.held before.kept now.kept
  pub read_fault : status ≡ 4 → Rose before.read_faults now.read_faults × KeepsJournals before.kept now.kept
  pub unwritten : (status ≡ 4) ⊎ (status ≡ 6) → Keeps before.held now.held
  pub write_fault : status ≡ 5 → Rose before.write_faults now.write_faults
  pub keep_fault : status ≡ 6 → (Rose before.keep_faults now.keep_faults × FollowsFront m before.left now.left before.held now.held before.kept now.kept (Rose before.keep_faults now.keep_faults)) ⊎ FollowsBad before.left now.left before.kept
  pub cut : (status ≡ 5) ⊎ (status ≡ 7) → FollowsFront m before.left now.left before.held now.held before.kept now.kept (Rose before.keep_faults now.keep_faults)
