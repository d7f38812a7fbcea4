-- The world of a run: the members with their records, what was said, made and ordered. Source: this profile;
-- one consensus sequence for each epoch is the premise of the Sui Lutris paper.
use Rattle.std.specs.Prelude.{ℕ, zero, suc, Bool, true, false, ◌&&◌, List, [], ◌∷◌, ◌++◌, map, length, slice_get, slice_set, Option, Some, None, option_map, option_and_then, Result, Ok, Err, if◌then◌else◌}
use Rattle.digest_core.specs.declared.Digest.{Digest}
use Rattle.quorum_core.specs.declared.signer.Signer.{Signer}
use Rattle.chain_types.specs.declared.objects.ObjectId.{ObjectId}
use Rattle.chain_types.specs.declared.transactions.SignedTx.{SignedTx}
use Rattle.chain_messages.specs.declared.messages.Statement.{Statement}
use Rattle.chain_messages.specs.declared.messages.Statement.TheVariants as statement
use Rattle.chain_messages.specs.declared.messages.Certificate.{Certificate}
use Rattle.chain_messages.specs.declared.messages.Entry.{Entry}
use Rattle.checkpoint_core.specs.declared.checkpoints.Checkpoint.{Checkpoint}
use Rattle.journal_core.specs.declared.records.Record.{Record}
use Rattle.protocol_spec.specs.declared.answers.Seen.{Seen}
use Rattle.protocol_spec.specs.declared.answers.Ran.{Ran}
use Rattle.protocol_spec.specs.declared.refusals.VoteRefusal.{VoteRefusal}
use Rattle.protocol_spec.specs.declared.refusals.SeeRefusal.{SeeRefusal}
use Rattle.protocol_spec.specs.declared.refusals.RunRefusal.{RunRefusal}
use Rattle.checkpoint_core.specs.Checkpoints.{digest_of_checkpoint}
use Rattle.chain_messages.specs.Messages as messages
use Rattle.protocol_spec.specs.Chain.Words.{first_some}
use Rattle.protocol_spec.specs.Chain.Certificates.{Rules}
use Rattle.protocol_spec.specs.Member.Member.{Member, state}
use Rattle.protocol_spec.specs.Member.Calls.{Call, votes, holds, sees, runs, closes, ends, turns, acks, Voted, due, vote_answer, see_answer, run_answer, end_answer, ack_answer}
use Rattle.world_spec.specs.Setting.{Name, User, Setting, seal_of_member}

-- a member: whether it is honest, its records, whether it is up, and an armed stop, which keeps the record or loses it
pub record Seat : Type 0 where
  pub honest : Bool
  pub records : List Record
  pub up : Bool
  pub armed : Option Bool

-- a statement that a member made, and if it is a vote the seal that the member put on it
pub record Said : Type 0 where
  pub member : ℕ
  pub statement : Statement
  pub seal : Option Digest

-- a transaction by the name of its line
pub record Made : Type 0 where
  pub name : Name
  pub digest : Digest
  pub signed : SignedTx

-- a certificate, under the name for which it was formed
pub record Formed : Type 0 where
  pub name : Name
  pub cert : Certificate

-- an id that a transaction's creation number draws
pub record Drawn : Type 0 where
  pub id : ObjectId
  pub tx : Digest
  pub number : ℕ

pub record WorldOf (S : Type 0) : Type 0 where
  -- the sequences of the epochs up to the open one, which is the last
  pub sequences : List (List Entry)
  pub epoch : ℕ
  pub seats : List S
  -- all statements made, oldest first
  pub said : List Said
  -- the transactions made, the certificates formed, and the names that lines gave to users and created objects
  pub txs : List Made
  pub certs : List Formed
  pub users : List User
  pub drawn : List Drawn

abbrev pub World : Type 0
World = WorldOf Seat

-- each seat by its number, of which the first has this one
abbrev pub placed : {A B : Type 0} → (ℕ → A → B) → ℕ → List A → List B
placed h n [] = []
placed h n (x ∷ xs) = h n x ∷ placed h (suc n) xs

-- the world with each seat replaced by a function of its number and the seat
abbrev pub reseated : {A B : Type 0} → (ℕ → A → B) → WorldOf A → WorldOf B
reseated h w = record { sequences = w.sequences; epoch = w.epoch; seats = placed h 0 w.seats; said = w.said; txs = w.txs; certs = w.certs; users = w.users; drawn = w.drawn }

-- what a line does to a seat: the member answers and keeps its record, if one is due (`keeps`); it stops at a record,
-- which is kept (true) or lost (`halts`); a stop is armed, to keep (true) or lose (`arms`); it starts again (`starts`)
pub data Deed : Type 0 where
  keeps : Option Record → Deed
  halts : Bool → Record → Deed
  arms : Bool → Deed
  starts : Deed

-- what the definitions need of a seat, whatever it is: whether the member is honest and up, its armed stop, its state,
-- the number of its records, and how a deed changes it; and how members make seals. Worlds use it at seats of records,
-- scenes at posts
pub record Seating (S : Type 0) : Type 0 where
  pub honest : S → Bool
  pub up : S → Bool
  pub armed : S → Option Bool
  pub state : S → Member
  pub count : S → ℕ
  pub acts : S → Deed → S
  pub seal : Signer → List ℕ → Digest

abbrev pub new_seat : Bool → Seat
new_seat honest = record { honest = honest; records = []; up = true; armed = None }

unfoldable pub new_world : Setting → World
new_world s = record { sequences = [] ∷ []; epoch = 0; seats = map new_seat s.honest; said = []; txs = []; certs = []; users = s.users; drawn = [] }

-- a member's state is always computed from its records
abbrev pub member_in : Setting → Seat → Member
member_in s seat = state s.rules s.opening seat.records

-- the list, empty if there is none
abbrev pub list_or_none : {A : Type 0} → Option (List A) → List A
list_or_none None = []
list_or_none (Some xs) = xs

abbrev pub entries_at : List (List Entry) → ℕ → List Entry
entries_at sequences epoch = list_or_none (slice_get sequences epoch)

-- ---- one call

-- the statement of a built checkpoint
abbrev pub checkpoint_statement : Checkpoint → Statement
checkpoint_statement c = statement.Checkpoint c.epoch c.number (digest_of_checkpoint c)

abbrev pub voted_statement : Result Voted VoteRefusal → List Statement
voted_statement (Ok v) = v.statement ∷ []
voted_statement (Err refusal) = []

abbrev pub built_statements : Result Seen SeeRefusal → List Statement
built_statements (Ok seen) = map checkpoint_statement seen.built
built_statements (Err refusal) = []

abbrev pub ran_statements : Result Ran RunRefusal → List Statement
ran_statements (Ok ran) = map checkpoint_statement ran.built
ran_statements (Err refusal) = []

abbrev pub answered_statement : {E : Type 0} → Result Statement E → List Statement
answered_statement (Ok st) = st ∷ []
answered_statement (Err refusal) = []

-- the statements that a call makes if it answers: a vote, new or again; an End; an acknowledgement; a
-- checkpoint if it is listed as built
unfoldable pub stated : Rules → Member → Call → List Statement
stated r m (votes bytes) = voted_statement (vote_answer r m bytes)
stated r m (holds bytes) = []
stated r m (sees number bytes) = built_statements (see_answer r m number bytes)
stated r m runs = ran_statements (run_answer r m)
stated r m closes = []
stated r m ends = answered_statement (end_answer r m)
stated r m turns = []
stated r m (acks tx) = answered_statement (ack_answer r m tx)

-- what becomes of a call: the member is down, it stops at the append, or it answers in this state
pub data Reached : Type 0 where
  finds_down : Reached
  stops : Bool → Record → Reached
  answers : Member → Option Record → Reached

abbrev pub reached_up : Member → Option Bool → Option Record → Reached
reached_up m None x = answers m x
reached_up m (Some kept) None = answers m None
reached_up m (Some kept) (Some x) = stops kept x

abbrev pub reached_by : {S : Type 0} → Seating S → Rules → Call → S → Reached
reached_by k r call seat = if k.up seat then reached_up (k.state seat) (k.armed seat) (due r (k.state seat) call) else finds_down

abbrev pub reached_where : {S : Type 0} → Seating S → Rules → Call → Option S → Reached
reached_where k r call None = finds_down
reached_where k r call (Some seat) = reached_by k r call seat

unfoldable pub reached_over : {S : Type 0} → Seating S → Rules → WorldOf S → ℕ → Call → Reached
reached_over k r w m call = reached_where k r call (slice_get w.seats m)

-- votes are collected with their seals; of other statements the seal is not kept
abbrev pub kept_seal : Statement → Digest → Option Digest
kept_seal (statement.Vote epoch tx origins) seal = Some seal
kept_seal (statement.End epoch) seal = None
kept_seal (statement.Checkpoint epoch number digest) seal = None
kept_seal (statement.Ack epoch tx effects) seal = None

-- a statement under this seal, and one that is not a vote
abbrev pub said_under : Digest → ℕ → Statement → Said
said_under seal m st = record { member = m; statement = st; seal = kept_seal st seal }

abbrev pub said_by : ℕ → Statement → Said
said_by m st = record { member = m; statement = st; seal = None }

-- a statement under its member's seal, if seals are made so
abbrev pub sealed_by : (Signer → List ℕ → Digest) → ℕ → Statement → Said
sealed_by seal m st = said_under (seal_of_member seal m st) m st

abbrev pub appended : List Record → Option Record → List Record
appended records None = records
appended records (Some x) = records ++ x ∷ []

abbrev pub with_seat : {S : Type 0} → WorldOf S → ℕ → S → WorldOf S
with_seat w m seat = record w { seats = slice_set w.seats m seat }

-- a stop suppresses the answer and the statements; the record is kept or lost
abbrev pub stopped_seat : Seat → Bool → Record → Seat
stopped_seat seat kept x = record seat { records = if kept then seat.records ++ x ∷ [] else seat.records; up = false; armed = None }

abbrev pub behind_over : {S : Type 0} → Seating S → Rules → WorldOf S → ℕ → Call → S → Reached → WorldOf S
behind_over k r w m call seat finds_down = w
behind_over k r w m call seat (stops kept x) = with_seat w m (k.acts seat (halts kept x))
behind_over k r w m call seat (answers before x) =
    record (with_seat w m (k.acts seat (keeps x))) { said = w.said ++ map (sealed_by k.seal m) (stated r before call) }

abbrev pub called_where : {S : Type 0} → Seating S → Rules → WorldOf S → ℕ → Call → Option S → WorldOf S
called_where k r w m call None = w
called_where k r w m call (Some seat) = behind_over k r w m call seat (reached_by k r call seat)

-- the world after a call on a member
unfoldable pub called_over : {S : Type 0} → Seating S → Rules → WorldOf S → ℕ → Call → WorldOf S
called_over k r w m call = called_where k r w m call (slice_get w.seats m)

-- ---- seats of records: the laws take all of the above at these

abbrev pub seat_honest : Seat → Bool
seat_honest seat = seat.honest

abbrev pub seat_up : Seat → Bool
seat_up seat = seat.up

abbrev pub armed_seat : Bool → Seat → Seat
armed_seat kept seat = record seat { armed = Some kept }

abbrev pub started_seat : Seat → Seat
started_seat seat = record seat { up = true; armed = None }

abbrev pub acts_on : Seat → Deed → Seat
acts_on seat (keeps x) = record seat { records = appended seat.records x }
acts_on seat (halts kept x) = stopped_seat seat kept x
acts_on seat (arms kept) = armed_seat kept seat
acts_on seat starts = started_seat seat

abbrev pub by_records : Setting → Seating Seat
by_records s = record { honest = seat_honest; up = seat_up; armed = λ seat. seat.armed; state = member_in s; count = λ seat. length seat.records; acts = acts_on; seal = s.seal }

abbrev pub reached_seat : Setting → Call → Seat → Reached
reached_seat s call seat = reached_by (by_records s) s.rules call seat

abbrev pub reached_at : Setting → Call → Option Seat → Reached
reached_at s call seat = reached_where (by_records s) s.rules call seat

abbrev pub reached : Setting → World → ℕ → Call → Reached
reached s w m call = reached_over (by_records s) s.rules w m call

abbrev pub behind : Setting → World → ℕ → Call → Seat → Reached → World
behind s w m call seat r = behind_over (by_records s) s.rules w m call seat r

abbrev pub called_seat : Setting → World → ℕ → Call → Option Seat → World
called_seat s w m call seat = called_where (by_records s) s.rules w m call seat

abbrev pub called_in : Setting → World → ℕ → Call → World
called_in s w m call = called_over (by_records s) s.rules w m call

-- ---- members

-- whether the test holds of a member; false if there is no such member
abbrev pub seat_is : {S : Type 0} → (S → Bool) → Option S → Bool
seat_is test None = false
seat_is test (Some seat) = test seat

abbrev pub honest_in : {S : Type 0} → (S → Bool) → WorldOf S → ℕ → Bool
honest_in honest w m = seat_is honest (slice_get w.seats m)

abbrev pub honest_seat : Option Seat → Bool
honest_seat seat = seat_is seat_honest seat

abbrev pub is_seat_up : Option Seat → Bool
is_seat_up seat = seat_is seat_up seat

abbrev pub is_honest : World → ℕ → Bool
is_honest w m = honest_in seat_honest w m

abbrev pub state_in : {S : Type 0} → Seating S → S → Option Member
state_in k seat = Some (k.state seat)

abbrev pub state_of : Setting → Seat → Option Member
state_of s seat = Some (member_in s seat)

-- the state of a member
abbrev pub member_over : {S : Type 0} → Seating S → WorldOf S → ℕ → Option Member
member_over k w m = option_and_then (state_in k) (slice_get w.seats m)

abbrev pub member_at : Setting → World → ℕ → Option Member
member_at s w m = member_over (by_records s) w m

-- what the lowest-numbered honest member that is up says of something, if one says anything
abbrev pub says_over : {A S : Type 0} → Seating S → (Member → Option A) → List S → Option A
says_over k says [] = None
says_over k says (seat ∷ seats) = first_some ((if k.honest seat && k.up seat then says (k.state seat) else None) ∷ says_over k says seats ∷ [])

abbrev pub says_first : {A : Type 0} → Setting → (Member → Option A) → List Seat → Option A
says_first s says seats = says_over (by_records s) says seats

-- ---- entries

-- the next entry of a member's sequence, as a call; none once its epoch has ended
abbrev pub numbered_call : ℕ → Entry → Call
numbered_call number e = sees number (messages.entry.spell e)

abbrev pub next_entry : {S : Type 0} → WorldOf S → Member → Option Entry
next_entry w m = if m.sequence.ended then None else slice_get (entries_at w.sequences m.epoch) m.sequence.number

abbrev pub next_call_of : {S : Type 0} → WorldOf S → Member → Option Call
next_call_of w m = option_map (numbered_call m.sequence.number) (next_entry w m)

abbrev pub next_over : {S : Type 0} → Seating S → WorldOf S → ℕ → Option Call
next_over k w m = option_and_then (next_call_of w) (member_over k w m)

abbrev pub next_call : Setting → World → ℕ → Option Call
next_call s w m = next_over (by_records s) w m

abbrev pub if_called : {S : Type 0} → Seating S → Rules → WorldOf S → ℕ → Option Call → WorldOf S
if_called k r w m None = w
if_called k r w m (Some call) = called_over k r w m call

abbrev pub called_if : Setting → World → ℕ → Option Call → World
called_if s w m call = if_called (by_records s) s.rules w m call

-- the world after a member took its next n entries, or as many as there are
abbrev pub sees_over : {S : Type 0} → Seating S → Rules → ℕ → WorldOf S → ℕ → WorldOf S
sees_over k r zero w m = w
sees_over k r (suc n) w m = sees_over k r n (if_called k r w m (next_over k w m)) m

abbrev pub sees_on : Setting → ℕ → World → ℕ → World
sees_on s n w m = sees_over (by_records s) s.rules n w m
