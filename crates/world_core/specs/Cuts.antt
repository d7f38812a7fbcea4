-- What stands of a world after a line that did not come to its end: the line's member by what became of its call, all
-- other members as before. Source: this profile.
use Rattle.std.specs.Prelude.{◌≡◌, ◌⊎◌, ◌≤◌, ℕ, List, Option, Some, None, length}
use Rattle.chain_types.specs.declared.objects.Object.{Object}
use Rattle.chain_messages.specs.declared.messages.Entry.{Entry}
use Rattle.journal_core.specs.declared.records.Record.{Record}
use Rattle.outside.specs.Lists.{Journals, KeepsJournals}
use Rattle.protocol_spec.specs.Chain.Certificates.{Rules}
use Rattle.protocol_spec.specs.Member.Calls.{Call}
use Rattle.schedule_text.specs.declared.words.Event.{Event}
use Rattle.world_spec.specs.Setting.{Trust}
use Rattle.world_spec.specs.Moves.{Move, submits_end, move_of}
use Rattle.world_spec.specs.Step.{appended_entry, sealed_end}
use Rattle.world_spec.specs.World.{Formed}
use Rattle.world_spec.specs.Known.{Known}
use Rattle.world_spec.specs.Terms.{Terms}
use Rattle.world_spec.specs.Posts.{AddsAll, AddsLeft, MayAddLeft, Post, posts_behind, reached_in, record_left}
use Rattle.world_spec.specs.Scene.{Scene, bare_setting, post_world}
use Rattle.world_spec.specs.SceneSteps.{Work, asks, hands, idle, next_on, sees_left, sees_to}
use Rattle.world_core.specs.Steps.{with_order}
use Rattle.world_core.specs.Crews.{fallen_at}

-- ---- beside the members

-- how many members there are, their terms and opening objects, the names, the sequences, the open epoch and the certificates:
-- all but how the members stand and what was stated
pub record Books : Type 0 where
  pub many : ℕ
  pub terms : Terms
  pub opening : List Object
  pub known : Known
  pub sequences : List (List Entry)
  pub epoch : ℕ
  pub certs : List Formed

abbrev pub books_in : Scene → Books
books_in sc = record { many = length sc.posts; terms = sc.terms; opening = sc.opening; known = sc.known; sequences = sc.sequences; epoch = sc.epoch; certs = sc.certs }

-- these books, and how the members stand: all of a scene but what was stated
pub record Still : Type 0 where
  pub books : Books
  pub posts : List Post

abbrev pub still_in : Scene → Still
still_in sc = record { books = books_in sc; posts = sc.posts }

-- the scene with a member's End of the open epoch as one more entry of the sequence, and no new epoch opened
abbrev pub end_appended : Trust → Scene → ℕ → Scene
end_appended trust sc m = with_order sc (appended_entry (post_world sc) (sealed_end (bare_setting trust sc) m sc.epoch))

-- the member whose End a move is to order
abbrev pub submits_end_of : Move → Option ℕ
submits_end_of (submits_end m) = Some m
submits_end_of mv = None

-- the member whose End this line orders; none for every line but `order end`
abbrev pub orders_end : Event → Option ℕ
orders_end e = submits_end_of (move_of e)

-- what is seen of a world (through `seen`) after a line that broke off: as before, or, for a line that orders an End,
-- as before with that End ordered
abbrev pub SeenCut : {A : Type 0} → (Scene → A) → Trust → Scene → Option ℕ → Scene → Type 0
SeenCut seen trust old None new = seen new ≡ seen old
SeenCut seen trust old (Some m) new = (seen new ≡ seen old) ⊎ (seen new ≡ seen (end_appended trust old m))

-- ---- the members and their records

-- neither a member nor an observable list of records changed
pub record IsAsBefore (old new : List Post) (before now : Option Journals) : Type 0 where
  pub posts : new ≡ old
  pub lists : KeepsJournals before now

-- how far the call of a broken-off line came: it was not made (`unmade`); it failed and its member is down (`fell`);
-- or it was completed and only its line of the report is missing (`ended`)
pub data Outcome : Type 0 where
  unmade : Outcome
  fell : Outcome
  ended : Outcome

-- how the members stand if the call came that far
abbrev pub posts_at : Outcome → Rules → List Post → ℕ → Call → List Post
posts_at unmade r posts m call = posts
posts_at fell r posts m call = fallen_at posts m
posts_at ended r posts m call = posts_behind r posts m call

-- what was added to the observable lists if the call came that far: for a member that fell, its record or nothing
abbrev pub ListsAt : Outcome → Option Journals → Option Journals → ℕ → Option Record → Type 0
ListsAt unmade before now m x = KeepsJournals before now
ListsAt fell before now m x = MayAddLeft before now m x
ListsAt ended before now m x = AddsLeft before now m x

-- what a line leaves that broke off at this call: how far the call came, and the members and lists accordingly
pub record CallCut (r : Rules) (m : ℕ) (call : Call) (old new : List Post) (before now : Option Journals) : Type 0 where
  pub outcome : Outcome
  pub posts : new ≡ posts_at outcome r old m call
  pub lists : ListsAt outcome before now m (record_left (reached_in r old m call))

-- what a line leaves that broke off at the call of the next entry; if there is no next entry, nothing changed
abbrev pub NextCut : Rules → Scene → ℕ → Option Call → List Post → Option Journals → Option Journals → Type 0
NextCut r sc m None new before now = IsAsBefore sc.posts new before now
NextCut r sc m (Some call) new before now = CallCut r m call sc.posts new before now

-- what a `see` line for `n` entries leaves that broke off: the first `taken` entries were handed in, and it broke off
-- at the one after them
pub record EntriesCut (r : Rules) (m n : ℕ) (old : Scene) (new : List Post) (before now : Option Journals) : Type 0 where
  pub taken : ℕ
  pub few : taken ≤ n
  pub told : Option Journals
  pub adds : AddsAll before told m (sees_left r taken old m)
  pub next : NextCut r (sees_to r taken old m) m (next_on (sees_to r taken old m) m) new told now

-- what any line leaves that broke off, by the work that it had to do: none, one call, or several entries
abbrev pub LineCut : Rules → Scene → Work → List Post → Option Journals → Option Journals → Type 0
LineCut r sc idle new before now = IsAsBefore sc.posts new before now
LineCut r sc (asks m call) new before now = CallCut r m call sc.posts new before now
LineCut r sc (hands m n) new before now = EntriesCut r m n sc new before now
