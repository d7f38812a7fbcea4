-- The scene of a world, and observable records. Source: this profile.
use Rattle.std.specs.Prelude.{◌≡◌, ◌<◌, ◌≤◌, ℕ, length, Bool, List, [], ◌++◌, map, slice_get, Option, Some, None, Ok, if◌then◌else◌}
use Rattle.journal_core.specs.declared.records.Record.{Record}
use Rattle.journal_core.specs.Records as journals
use Rattle.outside.specs.Lists.{Journals, journal_of}
use Rattle.schedule_text.specs.declared.words.Event.{Event}
use Rattle.chain_types.specs.declared.transactions.SignedTx.{SignedTx}
use Rattle.chain_types.specs.Transactions as transactions
use Rattle.chain_messages.specs.declared.messages.Certificate.{Certificate}
use Rattle.chain_messages.specs.declared.messages.Entry.{Entry}
use Rattle.chain_messages.specs.Messages as messages
use Rattle.wire_bcs.specs.Items.{length_limit}
use Rattle.protocol_spec.specs.Chain.Words.{Along, Each}
use Rattle.protocol_spec.specs.Chain.Certificates.{read_signed, read_certificate, read_entry}
use Rattle.protocol_spec.specs.Member.Calls.{Call, votes, holds, sees, runs, closes, ends, turns, acks}
use Rattle.protocol_spec.specs.Member.Due.{IsDueBehind}
use Rattle.world_spec.specs.Setting.{Trust, Setting}
use Rattle.world_spec.specs.World as worlds
use Rattle.world_spec.specs.World.{World, member_in, placed}
use Rattle.world_spec.specs.Run.{records_of}
use Rattle.world_spec.specs.Known.{names_of}
use Rattle.world_spec.specs.Moves.{is_start_move, move_of}
use Rattle.world_spec.specs.Terms.{rules_for, terms_of}
use Rattle.world_spec.specs.Seats.{Seated}
use Rattle.world_spec.specs.Starts.{started}
use Rattle.world_spec.specs.Posts.{Post, seat_at}
use Rattle.world_spec.specs.Scene.{Scene}
use Rattle.world_spec.specs.SceneSteps.{Work, idle, asks, hands}

-- ---- the scene of a world

abbrev pub standing_of : Setting → ℕ → worlds.Seat → Option Seated
standing_of s m seat = if seat.up then Some (seat_at (terms_of s.rules) m (member_in s seat)) else None

abbrev pub post_of : Setting → ℕ → worlds.Seat → Post
post_of s m seat = record { honest = seat.honest; standing = standing_of s m seat; armed = seat.armed }

abbrev pub posts_from : Setting → ℕ → List worlds.Seat → List Post
posts_from s m seats = placed (post_of s) m seats

abbrev pub scene_of : Setting → World → Scene
scene_of s w = record {
  terms = terms_of s.rules;
  opening = s.opening;
  known = names_of s w;
  sequences = w.sequences;
  epoch = w.epoch;
  said = w.said;
  certs = w.certs;
  posts = posts_from s 0 w.seats;
}

-- the scene is that of the world, and the setting makes and accepts seals as `trust` does
pub record Shows (trust : Trust) (s : Setting) (w : World) (sc : Scene) : Type 0 where
  pub rules : s.rules ≡ rules_for (terms_of s.rules) trust.accepts
  pub seal : s.seal ≡ trust.seal
  pub scene : sc ≡ scene_of s w

-- `restart` is the only line that reads records
abbrev pub is_restart : Event → Bool
is_restart e = is_start_move (move_of e)

-- ---- records

abbrev pub spelled : List Record → List (List ℕ)
spelled records = map journals.journal_record.spell records

abbrev pub journal_in : World → ℕ → List (List ℕ)
journal_in w m = spelled (records_of (slice_get w.seats m))

-- lists are observable, and each is its member's journal in the world
abbrev pub Tells : Option Journals → World → Type 0
Tells None w = ⊥
Tells (Some lists) w = (m : ℕ) → journal_of lists m ≡ journal_in w m

abbrev pub IsFront : {A : Type 0} → List A → List A → Type 0
IsFront {A} front whole = (rest : List A) × (whole ≡ front ++ rest)

-- lists are observable, and each is a prefix of the world's journal
abbrev pub TellsFront : Option Journals → World → Type 0
TellsFront None w = ⊥
TellsFront (Some lists) w = (m : ℕ) → IsFront (journal_of lists m) (journal_in w m)

-- starting any member from its journal gives its state, and each of its records was due after those before it
pub record Restarts (s : Setting) (w : World) : Type 0 where
  pub starts : (m : ℕ) (seat : worlds.Seat) → slice_get w.seats m ≡ Some seat → started s.rules s.opening (spelled seat.records) ≡ Ok (member_in s seat)
  pub due : (m : ℕ) (seat : worlds.Seat) → slice_get w.seats m ≡ Some seat → Along (IsDueBehind s.rules s.opening) [] seat.records

-- whatever the bytes of a call decode to is in the range of its Rust type
abbrev pub ReadsFit : Call → Type 0
ReadsFit (votes bytes) = (x : SignedTx) → read_signed bytes ≡ Ok x → transactions.signed.fits x
ReadsFit (holds bytes) = (c : Certificate) → read_certificate bytes ≡ Ok c → messages.certificate.fits c
ReadsFit (sees number bytes) = (e : Entry) → read_entry bytes ≡ Ok e → messages.entry.fits e
ReadsFit runs = Unit {0}
ReadsFit closes = Unit {0}
ReadsFit ends = Unit {0}
ReadsFit turns = Unit {0}
ReadsFit (acks tx) = Unit {0}

-- `ReadsFit` for the call that a line makes, if it makes one
abbrev pub WorkReadsFit : Work → Type 0
WorkReadsFit idle = Unit {0}
WorkReadsFit (asks m call) = ReadsFit call
WorkReadsFit (hands m n) = Unit {0}

-- if lists are observable, there are at least as many as members
abbrev pub HasRoom : Option Journals → World → Type 0
HasRoom None w = Unit {0}
HasRoom (Some lists) w = length w.seats ≤ length lists

-- ---- entries that can be kept

-- the encoding of the entry fits into a record; below, that of each entry of the sequences does
abbrev pub IsKeepable : Entry → Type 0
IsKeepable e = length (messages.entry.spell e) < length_limit

abbrev pub AreKeepable : List (List Entry) → Type 0
AreKeepable sequences = Each (Each IsKeepable) sequences
