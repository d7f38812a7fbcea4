-- A board and a seat of it, as contracts see them.
use Rattle.std.specs.Prelude.{◌≡◌, ℕ, ◌<◌, []}
use Rattle.dag_core.specs.declared.job.Job.{Ghosts}
use Rattle.dag_core.specs.declared.plan.Plan.{Plan}
use Rattle.steal_board.specs.declared.board.Board.{Board}
use Rattle.steal_board.specs.declared.board.BoardSeat.{BoardSeat}
use Rattle.steal_board.specs.declared.board.Claim.{Claim}
use Rattle.steal_board.specs.declared.board.Claim.TheVariants.{Mine, Taken, Waiting}
use Rattle.steal_board.specs.declared.view.View.{View}
use Rattle.steal_board.specs.Views.{paper_of, with_mine, with_gone}

-- the plan that the board is laid over
abbrev pub over : {J V O : Type 0} {g : Ghosts J V O} → Board J V O g → Plan J V O g
over board = board.table.shared.key

-- what was done with a seat
abbrev pub view : {J V O : Type 0} → BoardSeat J V O → View V
view seat = seat.seat.me.0

-- the seat is of the board, has a share, and between calls holds no slot and turns no edge
pub record IsOf {J V O : Type 0} {g : Ghosts J V O} (board : Board J V O g) (seat : BoardSeat J V O) : Type 0 where
  pub table : seat.seat.table_id ≡ board.table.shared.table_id
  pub clear : seat.seat.me.1 ≡ []
  pub calm : (view seat).turn ≡ []
  pub part : 0 < (view seat).share
  pub paper : (view seat).paper ≡ paper_of (over board)

-- what a seat's view is after a claim, by its answer
abbrev pub Claimed : {V : Type 0} → Claim → ℕ → View V → View V → Type 0
Claimed Mine task v w = w ≡ with_mine v task
Claimed Taken task v w = w ≡ with_gone v task
Claimed (Waiting left) task v w = (0 < left) × (w ≡ v)
