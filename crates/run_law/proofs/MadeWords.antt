-- The words of the generator's schedule have their forms and ranges.
use Rattle.std.proofs.Common.{◌≡◌, ◌==◌, ℕ, ◌+◌, ◌-◌, ◌%◌, ◌<◌, ◌≤◌, nat_le, Bool, true, false, cond, ◌&&◌, [], ◌∷◌, ◌++◌, map, length, codes, decimal, refl, arith, lit<}
use Rattle.std.proofs.lemmas.Bool.{and_from, le-leb}
use Rattle.std.proofs.lemmas.Fmt.{length-decimal-le}
use Rattle.std.specs.List.{AllByRecursion, flat_map, list_all, range_with_len}
use Rattle.schedule_text.specs.declared.words.Setup.TheVariants as setup
use Rattle.schedule_text.specs.declared.words.Event.TheVariants as event
use Rattle.schedule_text.specs.declared.statement.Statement.TheVariants as statement
use Rattle.schedule_text.specs.Bytes.{is_lower, is_name, is_name_byte}
use Rattle.run_law.specs.Canonical.{statements}
use Rattle.run_law.specs.Sayable.{IsName, IsSetup, IsEvent, IsStatement}
use Rattle.run_law.specs.Made.{transaction, coin, counter, member_items, coin_item, items, split_event, spend_event, write_event, read_event, vote_events, send_events, certified, ordered, late, ending, rest, made}
use Rattle.run_law.proofs.Ranges.{all-append, all-map, all-range, all-each}
use Rattle.run_law.proofs.Words.{number_passes}

-- a letter and digits
lettered : (letter k : ℕ) → is_lower letter ≡ true → k < 100000 → IsName (letter ∷ decimal k)
unfolding is_name
lettered letter k lower small =
    let few = length-decimal-le 5 k (omega arith) small (omega arith) in
    and_from (is_lower letter && nat_le (length (decimal k)) 15) (list_all is_name_byte (decimal k))
    (and_from (is_lower letter) (nat_le (length (decimal k)) 15) lower (le-leb (length (decimal k)) 15 (omega (arith, few)))) (number_passes k (omega arith))

tx_named : (k : ℕ) → k < 100000 → IsName (transaction k)
tx_named k small = lettered 116 k refl small

coin_named : (k : ℕ) → k < 100000 → IsName (coin k)
coin_named k small = lettered 103 k refl small

coin_pick : (second : Bool) (k : ℕ) → k < 100000 → IsSetup (cond second (setup.Coin (coin k) (codes "u1") 1000000) (setup.Coin (coin k) (codes "u0") 1000000))
unfolding is_name
coin_pick true k small = (coin_named k small, refl, omega arith)
coin_pick false k small = (coin_named k small, refl, omega arith)

items_fit : (number : ℕ) → number ≤ 10000 → AllByRecursion IsSetup (items number)
unfolding is_name
items_fit number few =
    all-append IsSetup (member_items ++ map coin_item (range_with_len 0 number)) (setup.Counter counter 0 ∷ [])
    (all-append IsSetup member_items (map coin_item (range_with_len 0 number))
    ((omega arith, omega arith), ((omega arith, omega arith), ((omega arith, omega arith), ((omega arith, omega arith), tt))))
    (all-range IsSetup coin_item 100000 (λ k small. coin_pick (k % 4 == 1) k small) 0 number (omega (arith, few))))
    ((refl, omega arith), tt)

split_fits : (k : ℕ) → k < 100000 → IsEvent (split_event k)
unfolding is_name
split_fits k small = (
  tx_named k small,
  refl,
  omega arith,
  (coin_named k small, omega arith),
  omega arith,
  (omega arith, (refl, tt)),
  ((omega arith, (tt, (omega arith, tt))), ((omega arith, (omega arith, (omega arith, tt))), tt)),
)

spend_fits : (k : ℕ) → k < 100000 → IsEvent (spend_event k)
unfolding is_name
spend_fits k small = (
  tx_named k small,
  refl,
  omega arith,
  (coin_named k small, omega arith),
  omega arith,
  (((tx_named (k - 1) (omega (arith, small)), omega arith), omega arith), (refl, tt)),
  ((omega arith, (omega arith, (omega arith, tt))), tt),
)

write_fits : (k : ℕ) → k < 100000 → IsEvent (write_event k)
unfolding is_name
write_fits k small = (
  tx_named k small,
  refl,
  omega arith,
  (coin_named k small, omega arith),
  omega arith,
  (omega arith, ((refl, omega arith), tt)),
  ((lit< tt, (omega arith, (omega arith, tt))), tt),
)

read_fits : (k : ℕ) → k < 100000 → IsEvent (read_event k)
unfolding is_name
read_fits k small = (
  tx_named k small,
  refl,
  omega arith,
  (coin_named k small, omega arith),
  omega arith,
  (omega arith, ((refl, omega arith), tt)),
  ((lit< tt, (omega arith, (omega arith, tt))), tt),
)

tx_pick : (first second third : Bool) (k : ℕ) → k < 100000 → IsEvent (cond first (split_event k) (cond second (spend_event k) (cond third (write_event k) (read_event k))))
tx_pick true second third k small = split_fits k small
tx_pick false true third k small = spend_fits k small
tx_pick false false true k small = write_fits k small
tx_pick false false false k small = read_fits k small

votes_fit : (k : ℕ) → k < 100000 → AllByRecursion IsEvent (vote_events k)
votes_fit k small =
    let name = tx_named k small in (
      (omega arith, name),
      (
        (omega arith, name),
        (
          (omega arith, name),
          ((name, omega arith, (omega arith, (omega arith, (omega arith, tt)))), tt),
        ),
      ),
    )

sends_fit : (k : ℕ) → k < 100000 → AllByRecursion IsEvent (send_events k)
sends_fit k small =
    let name = tx_named k small in (
      (omega arith, name),
      (
        (omega arith, (omega arith, omega arith)),
        (
          (omega arith, name),
          (
            (omega arith, (omega arith, omega arith)),
            ((omega arith, name), ((omega arith, (omega arith, omega arith)), tt)),
          ),
        ),
      ),
    )

after_pick : (first : Bool) (k : ℕ) → k < 100000 → AllByRecursion IsEvent (cond first (vote_events k ++ send_events k) (vote_events k))
after_pick true k small = all-append IsEvent (vote_events k) (send_events k) (votes_fit k small) (sends_fit k small)
after_pick false k small = votes_fit k small

certified_fits : (k : ℕ) → k < 100000 → AllByRecursion IsEvent (certified k)
certified_fits k small = (tx_pick (k % 4 == 0) (k % 4 == 1) (k % 4 == 2) k small, after_pick (k % 4 == 0) k small)

order_pick : (mark : Bool) (k : ℕ) → k < 100000 → AllByRecursion IsEvent (cond mark (event.Order (transaction k) ∷ event.OrderCommit ∷ []) (event.Order (transaction k) ∷ []))
order_pick true k small = ((tx_named k small, refl), (tt, tt))
order_pick false k small = ((tx_named k small, refl), tt)

late_fits : (workers : ℕ) → 1 ≤ workers → workers ≤ 16 → AllByRecursion IsEvent (late workers)
late_fits workers low high = ((omega arith, (omega arith, omega arith)), ((omega arith, (low, high)), tt))

ending_fits : AllByRecursion IsEvent ending
ending_fits =
    ((omega arith, (omega arith, omega arith)), ((omega arith, (omega arith, omega arith)), ((omega arith, (omega arith, omega arith)), ((omega arith, (omega arith, omega arith)), ((omega arith, (omega arith, omega arith)), ((omega arith, (omega arith, omega arith)), (omega arith, (omega arith, (omega arith, (omega arith, (omega arith, (omega arith, (omega arith, (omega arith, (omega arith, ((omega arith, (omega arith, omega arith)), (omega arith, ((omega arith, (omega arith, omega arith)), (omega arith, ((omega arith, (omega arith, omega arith)), (omega arith, ((omega arith, (omega arith, omega arith)), (omega arith, (omega arith, tt))))))))))))))))))))))))

pub made_fits : (number workers : ℕ) → number ≤ 10000 → 1 ≤ workers → workers ≤ 16 → AllByRecursion IsStatement (statements (made number workers))
made_fits number workers few low high =
    let transactions = flat_map certified (range_with_len 0 number) in
    let orders = flat_map ordered (range_with_len 0 number) in
    all-append IsStatement (map (λ x. statement.Setup x) (items number)) (map (λ e. statement.Event e) (transactions ++ rest number workers))
    (all-map IsStatement (λ x. statement.Setup x) (items number) (items_fit number few))
    (all-map IsStatement (λ e. statement.Event e) (transactions ++ rest number workers)
    (all-append IsEvent transactions (rest number workers) (all-each IsEvent certified 100000 certified_fits 0 number (omega (arith, few)))
    (all-append IsEvent orders (late workers ++ ending) (all-each IsEvent ordered 100000 (λ k small. order_pick ((k + 1) % 64 == 0) k small) 0 number (omega (arith, few)))
    (all-append IsEvent (late workers) ending (late_fits workers low high) ending_fits))))
