-- A desk and a pass of it, as contracts see them.
use Rattle.std.specs.Prelude.{◌≡◌, ℕ, ◌<◌, List, [], ◌∷◌, Some, length}
use Rattle.vote_desk.specs.declared.serial.SerialDesk.{SerialDesk}
use Rattle.vote_desk.specs.declared.serial.Pass.{Pass}
use Rattle.vote_desk.specs.declared.kept.Kept.{Kept}
use Rattle.vote_desk.specs.declared.view.View.{View}
use Rattle.vote_desk.specs.Counts.{times, IsAscending}
use Rattle.vote_desk.specs.Histories.{IsFront, IsHistory, IsLegal}
use Rattle.vote_desk.specs.Views.{holding, called, waited}
use Rattle.vote_desk.specs.Kept.{Stands}

-- the clerk as the desk was opened with it, and its state
abbrev pub opened : {C Q A E S : Type 0} → SerialDesk C Q A E S → C
opened desk = desk.table.shared.key.clerk.value

abbrev pub opening : {C Q A E S : Type 0} → (C → S) → SerialDesk C Q A E S → S
opening state desk = state (opened desk)

-- what a pass has seen and done
abbrev pub view : {C Q A E S : Type 0} → Pass C Q A E S → View S E
view pass = pass.seat.me.0

-- the desk has one word and one slot. The pass is of the desk, has a share, and between calls holds no slot. What it has seen is a legal history from the opening state on, and its own places ascend in it
pub record IsOf {C Q A E S : Type 0} (goes : S → E → S → Type 0) (state : C → S) (desk : SerialDesk C Q A E S) (pass : Pass C Q A E S) : Type 0 where
  pub wide : desk.table.shared.table_id.words ≡ 1
  pub deep : desk.table.shared.table_id.slots ≡ 1
  pub table : pass.seat.table_id ≡ desk.table.shared.table_id
  pub clear : pass.seat.me.1 ≡ []
  pub calm : (view pass).out ≡ 0
  pub part : 0 < (view pass).share
  pub same : (view pass).opening ≡ Some (opening state desk)
  pub legal : IsLegal goes (opening state desk) (view pass).seen
  pub rises : IsAscending (view pass).mine
  pub below : (place : ℕ) → 0 < times place (view pass).mine → place < length (view pass).seen

-- the slot is out with the pass, which has seen the history that led to what it holds
pub record Holds {C Q A E S : Type 0} (goes : S → E → S → Type 0) (state : C → S) (desk : SerialDesk C Q A E S) (old new : Pass C Q A E S) : Type 0 where
  pub table : new.seat.table_id ≡ desk.table.shared.table_id
  pub log : List E
  pub front : IsFront (view old).seen log
  pub held : Kept C Q A E S
  pub stands : Stands goes state (opening state desk) log held
  pub view : view new ≡ holding (view old) log
  pub slot : new.seat.me.1 ≡ (0, held) ∷ []

-- one call was made, and its entry stands after all that the pass had seen, at a place that is now the pass's own. It names the request and the reply, and is one that may be made in the state that the calls before it left
pub record Calls {C Q A E S : Type 0} (goes : S → E → S → Type 0) (state : C → S) (tells : E → Q → A → Type 0) (desk : SerialDesk C Q A E S) (old new : View S E) (request : Q) (reply : A) : Type 0 where
  pub before : List E
  pub front : IsFront old.seen before
  pub entry : E
  pub told : tells entry request reply
  pub left : S
  pub history : IsHistory goes (opening state desk) before left
  pub after : S
  pub made : goes left entry after
  pub view : new ≡ called old before entry

-- no call was made. The pass has seen the history, which goes on from what it had seen
pub record Waits {E S : Type 0} (old new : View S E) : Type 0 where
  pub log : List E
  pub front : IsFront old.seen log
  pub view : new ≡ waited old log
