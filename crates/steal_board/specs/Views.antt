-- What a seat's view is after each call.
use Rattle.std.specs.Prelude.{ℕ, ◌+◌, [], ◌∷◌, ◌++◌, drop, length}
use Rattle.dag_core.specs.declared.job.Job.{Ghosts}
use Rattle.dag_core.specs.declared.plan.Plan.{Plan}
use Rattle.dag_core.specs.Plans.{plan_values}
use Rattle.steal_board.specs.declared.view.Paper.{Paper}
use Rattle.steal_board.specs.declared.view.View.{View}

-- the whole share, 2^20
abbrev pub whole : ℕ
whole = 1048576

-- the word of a claimed task, 2^64 - 1
abbrev pub mark : ℕ
mark = 18446744073709551615

-- the plan, as the rule reads it
abbrev pub paper_of : {J V O : Type 0} {g : Ghosts J V O} → Plan J V O g → Paper V
paper_of plan = record { tasks = length plan.jobs; edges = plan.edges; values = plan_values plan }

module _ {T : Type 0} where
  -- a seat with this share, with which nothing was done
  abbrev pub seat_view : Paper T → ℕ → View T
  seat_view paper share = record { paper = paper; share = share; mine = []; turn = []; paid = []; taken = []; ready = []; gone = [] }

  abbrev pub with_share : View T → ℕ → View T
  with_share v share = record v { share = share }

  abbrev pub with_mine : View T → ℕ → View T
  with_mine v task = record v { mine = v.mine ++ task ∷ [] }

  abbrev pub with_gone : View T → ℕ → View T
  with_gone v task = record v { gone = v.gone ++ task ∷ [] }

  abbrev pub with_ready : View T → ℕ → View T
  with_ready v task = record v { ready = v.ready ++ task ∷ [] }

  abbrev pub with_paid : View T → ℕ → View T
  with_paid v edge = record v { paid = v.paid ++ edge ∷ [] }

  abbrev pub with_taken : View T → ℕ → View T
  with_taken v edge = record v { taken = v.taken ++ edge ∷ [] }

  -- the edge is about to be paid
  abbrev pub turning : View T → ℕ → View T
  turning v edge = record v { turn = edge ∷ v.turn }

  -- the edge that is about to be paid is paid
  abbrev pub settling : View T → ℕ → View T
  settling v edge = record v { turn = drop 1 v.turn; paid = v.paid ++ edge ∷ [] }

  -- two seats made one
  abbrev pub joined : View T → View T → View T
  joined v w = record {
    paper = v.paper;
    share = v.share + w.share;
    mine = v.mine ++ w.mine;
    turn = v.turn ++ w.turn;
    paid = v.paid ++ w.paid;
    taken = v.taken ++ w.taken;
    ready = v.ready ++ w.ready;
    gone = v.gone ++ w.gone;
  }

  -- a seat that was joined away
  abbrev pub spent : View T
  spent = seat_view record { tasks = 0; edges = []; values = [] } 0
