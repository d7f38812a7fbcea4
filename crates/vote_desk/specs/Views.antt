-- What a pass's view is after each step.
use Rattle.std.specs.Prelude.{ℕ, ◌+◌, nat_lt, if◌then◌else◌, List, [], ◌∷◌, ◌++◌, length, Some, None}
use Rattle.vote_desk.specs.Counts.{merged}
use Rattle.vote_desk.specs.declared.view.View.{View}

-- the whole share, 2^20
abbrev pub whole : ℕ
whole = 1048576

-- the longer of two lists, the first if they are equally long; and below, the shorter one
abbrev pub longer : {A : Type 0} → List A → List A → List A
longer xs ys = if nat_lt (length xs) (length ys) then ys else xs

abbrev pub shorter : {A : Type 0} → List A → List A → List A
shorter xs ys = if nat_lt (length xs) (length ys) then xs else ys

module _ {S E : Type 0} where
  -- the pass of a desk that was opened in this state
  abbrev pub first_view : S → View S E
  first_view opening = record { opening = Some opening; share = whole; seen = []; heard = []; mine = []; out = 0 }

  abbrev pub with_share : View S E → ℕ → View S E
  with_share v share = record v { share = share }

  -- a new pass, split from another: it has seen as much, and made no call
  abbrev pub parted : View S E → View S E
  parted v = record v { share = 1; mine = []; out = 0 }

  -- the slot is out with the pass, which knows the history
  abbrev pub holding : View S E → List E → View S E
  holding v log = record v { seen = log; out = 1 }

  -- the slot was given back as it was
  abbrev pub returning : View S E → View S E
  returning v = record v { out = 0 }

  -- the slot was given back one entry longer
  abbrev pub adding : View S E → E → View S E
  adding v entry = record v { seen = v.seen ++ entry ∷ []; mine = v.mine ++ length v.seen ∷ []; out = 0 }

  -- after a call: these entries had been made before it, and this is its own
  abbrev pub called : View S E → List E → E → View S E
  called v before entry = record v { seen = before ++ entry ∷ []; mine = v.mine ++ length before ∷ []; out = 0 }

  -- after a call that was not made, with this history
  abbrev pub waited : View S E → List E → View S E
  waited v log = record v { seen = log; out = 0 }

  -- the view of two passes that were joined: the longer history, both passes' places, and the sum of the shares
  abbrev pub joined : View S E → View S E → View S E
  joined v w = record {
    opening = v.opening;
    share = v.share + w.share;
    seen = longer v.seen w.seen;
    heard = shorter v.seen w.seen;
    mine = merged v.mine w.mine;
    out = v.out + w.out;
  }

  -- a pass that was joined away
  abbrev pub spent : View S E
  spent = record { opening = None; share = 0; seen = []; heard = []; mine = []; out = 0 }
