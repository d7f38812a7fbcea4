-- The board as it is laid and as it is closed.
use Rattle.std.proofs.Common.{◌≡◌, ℕ, zero, suc, ◌+◌, ◌<◌, ◌≤◌, ◌^◌, List, [], ◌∷◌, ◌++◌, length, get_or, take, replicate, Option, None, Result, sym, ap, ◌∙◌, subst, arith}
use mathlib.Core.Option.{some, some-injective, some-ne-none}
use lib.ListN.{get_elem?}
use Rattle.std.specs.Prelude.{IfOk}
use Rattle.std.proofs.lemmas.Result.{IfOk-weaker}
use Rattle.std.proofs.lemmas.List.{get_or-take}
use Rattle.atomic_table.specs.Table.{opening, Final, Seen}
use Rattle.dag_core.specs.Places.{times}
use Rattle.dag_core.specs.Values.{count_in}
use Rattle.steal_board.specs.declared.view.Paper.{Paper}
use Rattle.steal_board.specs.declared.view.View.{View}
use Rattle.steal_board.specs.Views.{whole, mark, seat_view}
use Rattle.steal_board.specs.Rule.{owing, Held}
use Rattle.steal_board.proofs.Moves.{opens, closes, closes_mark}

-- the rule as the board is laid, over the words as they were made
pub lays : {T : Type 0} (p : Paper T) (ws made : List ℕ) (n : ℕ) → ws ≡ made → n ≡ length p.edges → p.tasks ≤ length made → length p.edges < 2 ^ 31 → ((t : ℕ) → t < p.tasks → get_or made t 0 ≡ count_in p.edges t)
    → ((t : ℕ) → p.tasks ≤ t → t < length made → get_or made t 0 ≡ mark) → Held p (opening ws (replicate n None) (seat_view p whole))
lays p ws made n same count wide few counted spare =
    subst (λ l. Held p (opening l (replicate n None) (seat_view p whole))) (sym same) (subst (λ k. Held p (opening made (replicate k None) (seat_view p whole))) (sym count) (opens p made wide few counted spare))

-- one more item taken, which is known by its place
pub take_found : (l : List ℕ) (i x : ℕ) → get_elem? l i ≡ some x → take (i + 1) l ≡ take i l ++ x ∷ []
take_found l i x at = subst (λ n. take n l ≡ take i l ++ x ∷ []) (sym next) (go l i at)
  where
    next : i + 1 ≡ suc i
    next = omega arith

    go : (l : List ℕ) (i : ℕ) → get_elem? l i ≡ some x → take (suc i) l ≡ take i l ++ x ∷ []
    go [] i at = absurd (some-ne-none x (sym at))
    go (y ∷ ys) zero at = ap (λ z. z ∷ []) (some-injective y x at)
    go (y ∷ ys) (suc i) at = ap (λ m. y ∷ m) (go ys i at)

-- what is said of the last words, if the first of them are answered
pub closing : {T E : Type 0} (p : Paper T) (r : Result (List ℕ) E) (ws : List ℕ) (xs : List (Option T)) (n i : ℕ) (v : View T) → IfOk r (λ words. words ≡ take n ws) → n ≡ p.tasks → v.share ≡ whole → Final (Seen (Held p) i v) ws xs
    → IfOk r (λ words. (t : ℕ) → t < p.tasks → (0 < times t v.mine → get_or words t 0 ≡ mark) × (get_or words t 0 ≡ mark → 0 < times t v.mine) × (times t v.mine ≡ 0 → get_or words t 0 ≡ owing (λ e. times e v.paid) p.edges t))
closing p r ws xs n i v ok tasks all last = IfOk-weaker r (λ words. words ≡ take n ws) _ (λ words is t lt.
    let same : get_or words t 0 ≡ get_or ws t 0 = ap (λ l. get_or l t 0) is ∙ get_or-take n ws t 0 (omega (arith, tasks, lt)) in
    let c = closes p ws xs i v all last t lt in (
      λ has. same ∙ c.0 has,
      λ q. closes_mark p ws xs i v all last t lt (sym same ∙ q),
      λ free. same ∙ c.1 free,
    )) ok
