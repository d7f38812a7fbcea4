-- Members without their records, as code keeps them: a member that is up has its state. What a call does to one.
-- Source: this profile.
use Rattle.std.specs.Prelude.{◌≡◌, ◌⊎◌, ⊤, ℕ, suc, Bool, true, false, List, [], ◌∷◌, ◌++◌, fold, Option, Some, None, option_map, is_some, slice_get, slice_set}
use Rattle.digest_core.specs.declared.Digest.{Digest}
use Rattle.quorum_core.specs.declared.signer.Signer.{Signer}
use Rattle.chain_types.specs.declared.objects.Object.{Object}
use Rattle.chain_messages.specs.declared.messages.Statement.{Statement}
use Rattle.journal_core.specs.declared.records.Record.{Record}
use Rattle.journal_core.specs.Records as journals
use Rattle.outside.specs.Lists.{Journals, AddsRecord, KeepsJournals, with_record}
use Rattle.protocol_spec.specs.Chain.Certificates.{Rules}
use Rattle.protocol_spec.specs.Member.Member.{Member, fresh}
use Rattle.protocol_spec.specs.Member.Calls.{Call, called, after_due, due}
use Rattle.world_spec.specs.World.{Seating, Deed, keeps, halts, arms, starts, Reached, finds_down, stops, answers, reached_up, stated}
use Rattle.world_spec.specs.Terms.{Terms}
use Rattle.world_spec.specs.Seats.{Seated}

-- whether the member is honest, the member if it is up, and an armed stop, which keeps the next record or loses it
pub record Post : Type 0 where
  pub honest : Bool
  pub standing : Option Seated
  pub armed : Option Bool

-- a member that is up
abbrev pub seat_at : Terms → ℕ → Member → Seated
seat_at terms m state = record { member = m; terms = terms; up = true; state = state }

abbrev pub standing_with : Terms → ℕ → Bool → Member → Post
standing_with terms m honest state = record { honest = honest; standing = Some (seat_at terms m state); armed = None }

-- the members at the start, of which the first has this number
abbrev pub new_posts : Terms → List Object → ℕ → List Bool → List Post
new_posts terms opening m [] = []
new_posts terms opening m (honest ∷ flags) = standing_with terms m honest (fresh opening) ∷ new_posts terms opening (suc m) flags

-- ---- posts as seats of a world

-- the state of a member; of one that is down, which nothing looks at, that of a fresh one
abbrev pub state_or : Option Seated → Member
state_or None = fresh []
state_or (Some seat) = seat.state

abbrev pub seat_with : Rules → Option Record → Seated → Seated
seat_with r x seat = record seat { state = after_due r seat.state x }

abbrev pub post_honest : Post → Bool
post_honest p = p.honest

-- a start needs the member's records, which a post does not have: see `started_at`
abbrev pub post_acts : Rules → Post → Deed → Post
post_acts r p (keeps x) = record p { standing = option_map (seat_with r x) p.standing }
post_acts r p (halts kept x) = record p { standing = None; armed = None }
post_acts r p (arms kept) = record p { armed = Some kept }
post_acts r p starts = p

abbrev pub by_posts : (Signer → List ℕ → Digest) → Rules → Seating Post
by_posts seal r = record {
  honest = post_honest;
  up = λ p. is_some p.standing;
  armed = λ p. p.armed;
  state = λ p. state_or p.standing;
  count = λ p. (state_or p.standing).records;
  acts = post_acts r;
  seal = seal;
}

-- ---- what becomes of a call

abbrev pub reached_standing : Rules → Call → Option Bool → Option Seated → Reached
reached_standing r call armed None = finds_down
reached_standing r call armed (Some seat) = reached_up seat.state armed (due r seat.state call)

abbrev pub reached_post : Rules → Call → Option Post → Reached
reached_post r call None = finds_down
reached_post r call (Some p) = reached_standing r call p.armed p.standing

abbrev pub reached_in : Rules → List Post → ℕ → Call → Reached
reached_in r posts m call = reached_post r call (slice_get posts m)

-- the member after a call that it answered
abbrev pub seat_behind : Rules → Call → Seated → Seated
seat_behind r call seat = record seat { state = called r seat.state call }

abbrev pub post_behind : Rules → Call → Post → Reached → Post
post_behind r call p finds_down = p
post_behind r call p (stops kept x) = record p { standing = None; armed = None }
post_behind r call p (answers before x) = record p { standing = option_map (seat_behind r call) p.standing }

abbrev pub posts_with : Rules → Call → List Post → ℕ → Option Post → List Post
posts_with r call posts m None = posts
posts_with r call posts m (Some p) = slice_set posts m (post_behind r call p (reached_post r call (Some p)))

-- the members after a call on one of them
abbrev pub posts_behind : Rules → List Post → ℕ → Call → List Post
posts_behind r posts m call = posts_with r call posts m (slice_get posts m)

-- ---- the record that a call leaves, and what it states

abbrev pub record_left : Reached → Option Record
record_left finds_down = None
record_left (stops true x) = Some x
record_left (stops false x) = None
record_left (answers before x) = x

abbrev pub stated_in : Rules → Call → Reached → List Statement
stated_in r call finds_down = []
stated_in r call (stops kept x) = []
stated_in r call (answers before x) = stated r before call

-- an optional value as a list
abbrev pub list_of : {A : Type 0} → Option A → List A
list_of None = []
list_of (Some x) = x ∷ []

-- these lists with the records added, in order, at the end of the member's
abbrev pub with_all : Journals → ℕ → List Record → Journals
with_all lists m records = fold (λ (told : Journals) (x : Record). with_record told m (journals.journal_record.spell x)) lists records

-- if lists are observable, exactly these records of the member were added
abbrev pub AddsAll : Option Journals → Option Journals → ℕ → List Record → Type 0
AddsAll None now m records = ⊤
AddsAll (Some lists) now m records = now ≡ Some (with_all lists m records)

-- if lists are observable, a prefix of these records of the member was added
pub record AddsFront (before now : Option Journals) (m : ℕ) (records : List Record) : Type 0 where
  pub front : List Record
  pub rest : List Record
  pub is : records ≡ front ++ rest
  pub adds : AddsAll before now m front

-- if lists are observable, the record that a call leaves was added; if it leaves none, they are as before
abbrev pub AddsLeft : Option Journals → Option Journals → ℕ → Option Record → Type 0
AddsLeft before now m None = KeepsJournals before now
AddsLeft before now m (Some x) = AddsRecord before now m (journals.journal_record.spell x)

-- after a call that was not completed: `AddsLeft`, or observable lists are as before
abbrev pub MayAddLeft : Option Journals → Option Journals → ℕ → Option Record → Type 0
MayAddLeft before now m x = AddsLeft before now m x ⊎ KeepsJournals before now

-- ---- stops and starts

abbrev pub changed_at : List Post → ℕ → (Post → Post) → Option Post → List Post
changed_at posts m change None = posts
changed_at posts m change (Some p) = slice_set posts m (change p)

abbrev pub arming : Bool → Post → Post
arming kept p = record p { armed = Some kept }

-- the next record of a member will be kept or lost, and the member stops there
abbrev pub armed_at : List Post → ℕ → Bool → List Post
armed_at posts m kept = changed_at posts m (arming kept) (slice_get posts m)

abbrev pub starting : Terms → ℕ → Member → Post → Post
starting terms m state p = standing_with terms m p.honest state

-- a member starts in this state
abbrev pub started_at : Terms → List Post → ℕ → Member → List Post
started_at terms posts m state = changed_at posts m (starting terms m state) (slice_get posts m)
