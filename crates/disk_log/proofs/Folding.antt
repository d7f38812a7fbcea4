-- The present moment of a file in memory, from its changes.
use Rattle.std.proofs.Common.{◌≡◌, ℕ, ◌-◌, ◌≤◌, List, [], ◌∷◌, length, take, drop, get_or, refl, sym, ◌∙◌, ap, subst, arith}
use Rattle.disk_log.specs.declared.moment.Moment.{Moment}
use Rattle.disk_log.specs.declared.mem_disk.Change.{Change}
use Rattle.disk_log.specs.Memory.{history_of, moment_behind, moment_by, settled_at}
use Rattle.disk_log.specs.SeenLaws.{history_seen, now-seen}
use Rattle.disk_log.proofs.Changes.{grown-now}

all_taken : {A : Type 0} (xs : List A) → take (length xs) xs ≡ xs
all_taken [] = refl
all_taken (x ∷ xs) = ap (λ l. x ∷ l) (all_taken xs)

tail_is : {A : Type 0} (x : A) (xs : List A) → take (length (x ∷ xs) - 1) (drop 1 (x ∷ xs)) ≡ xs
tail_is x xs = let less : length (x ∷ xs) - 1 ≡ length xs = omega arith in rw less (all_taken xs)

-- one more change comes after
pub one_behind : (whole m n : Moment) (rest : List Change) (c : Change) → c ≡ get_or rest 0 c → 1 ≤ length rest → moment_by m rest ≡ whole → n ≡ moment_behind m c → moment_by n (take (length rest - 1) (drop 1 rest)) ≡ whole
one_behind whole m n [] c first some same is = absurd (omega (arith, some))
one_behind whole m n (d ∷ rest) c first some same is =
    ap (λ (l : List Change). moment_by n l) (tail_is d rest)
    ∙ ap (λ (x : Moment). moment_by x rest) (is ∙ ap (moment_behind m) first)
    ∙ same

pub moment_is : (m : Moment) (first : List ℕ) (changes : List Change) → m ≡ moment_by (settled_at first) changes → m ≡ (history_of first changes).now
moment_is m first changes is = is ∙ sym (grown-now (record { past = []; now = settled_at first }) changes)

pub moment_sizes : (m : Moment) (first : List ℕ) (changes : List Change) → m ≡ moment_by (settled_at first) changes → length m.stable ≤ m.most
moment_sizes m first changes is =
    let seen = now-seen (history_of first changes) (history_seen first changes) in
    subst (λ (n : Moment). length n.stable ≤ n.most) (sym (moment_is m first changes is)) (omega (arith, seen.no_shorter, seen.no_longer))
