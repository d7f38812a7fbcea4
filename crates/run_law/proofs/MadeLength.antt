-- The generator's text is short.
use Rattle.std.proofs.Common.{◌≡◌, ◌==◌, ℕ, zero, suc, ◌+◌, ◌-◌, ◌*◌, ◌%◌, ◌<◌, ◌≤◌, Bool, true, false, cond, List, [], ◌∷◌, ◌++◌, length, codes, decimal, refl, ap, ◌∙◌, arith, length-append}
use Rattle.std.proofs.lemmas.Fmt.{length-decimal-le}
use Rattle.std.specs.List.{concat, flat_map, range_with_len}
use Rattle.schedule_make.specs.Make.{coin_text, split_text, spend_text, write_text, read_text, tx_text, votes_text, sends_text, certified_text, order_text, members_text, late_text, end_text, for_each, make_text_of}
use Rattle.schedule_text.specs.Schedule.{longest_text}

-- the sum of the lengths
abbrev total_length : List (List ℕ) → ℕ
total_length [] = 0
total_length (x ∷ xs) = length x + total_length xs

length-concat : (xs : List (List ℕ)) → length (concat xs) ≡ total_length xs
length-concat [] = refl
length-concat (x ∷ xs) = length-append x (concat xs) ∙ ap (λ n. length x + n) (length-concat xs)

short : (xs : List (List ℕ)) (n : ℕ) → total_length xs ≤ n → length (concat xs) ≤ n
short xs n h = rw (length-concat xs) h

digits_few : (k : ℕ) → k < 100000 → length (decimal k) ≤ 5
digits_few k small = length-decimal-le 5 k (omega arith) small (omega arith)

-- ---- each part

coin_pick : (second : Bool) (k : ℕ) → length (decimal k) ≤ 5 → length (cond second (concat (codes "coin g" ∷ decimal k ∷ codes " u1 1000000\n" ∷ [])) (concat (codes "coin g" ∷ decimal k ∷ codes " u0 1000000\n" ∷ []))) ≤ 100
coin_pick true k d = let e : 6 + (length (decimal k) + (12 + 0)) ≤ 100 = omega (arith, d) in short (codes "coin g" ∷ decimal k ∷ codes " u1 1000000\n" ∷ []) 100 e
coin_pick false k d = let e : 6 + (length (decimal k) + (12 + 0)) ≤ 100 = omega (arith, d) in short (codes "coin g" ∷ decimal k ∷ codes " u0 1000000\n" ∷ []) 100 e

coin_short : (k : ℕ) → k < 100000 → length (coin_text k) ≤ 100
unfolding coin_text
coin_short k small = coin_pick (k % 4 == 1) k (digits_few k small)

split_short : (k : ℕ) → k < 100000 → length (split_text k) ≤ 100
unfolding split_text
split_short k small =
    let d = digits_few k small in
    let e : 4 + (length (decimal k) + (7 + (length (decimal k) + (47 + 0)))) ≤ 100 = omega (arith, d) in short (codes "tx t" ∷ decimal k ∷ codes " u0 0 g" ∷ decimal k ∷ codes "@1 2000 n:5 a:u1 split(gas,i0) transfer(r0,i1)\n" ∷ []) 100 e

spend_short : (k : ℕ) → k < 100000 → length (spend_text k) ≤ 100
unfolding spend_text
spend_short k small =
    let d = digits_few k small in
    let j = digits_few (k - 1) (omega arith) in
    let e : 4 + (length (decimal k) + (7 + (length (decimal k) + (11 + (length (decimal (k - 1)) + (26 + 0)))))) ≤ 100 = omega (arith, d, j) in short (codes "tx t" ∷ decimal k ∷ codes " u1 0 g" ∷ decimal k ∷ codes "@1 2000 o:t" ∷ decimal (k - 1) ∷ codes ".0@2 a:u0 transfer(i0,i1)\n" ∷ []) 100 e

write_short : (k : ℕ) → k < 100000 → length (write_text k) ≤ 100
unfolding write_text
write_short k small =
    let d = digits_few k small in
    let e : 4 + (length (decimal k) + (7 + (length (decimal k) + (38 + 0)))) ≤ 100 = omega (arith, d) in short (codes "tx t" ∷ decimal k ∷ codes " u0 0 g" ∷ decimal k ∷ codes "@1 2000 n:1 s:c0@1 counter_add(i1,i0)\n" ∷ []) 100 e

read_short : (k : ℕ) → k < 100000 → length (read_text k) ≤ 100
unfolding read_text
read_short k small =
    let d = digits_few k small in
    let e : 4 + (length (decimal k) + (7 + (length (decimal k) + (42 + 0)))) ≤ 100 = omega (arith, d) in short (codes "tx t" ∷ decimal k ∷ codes " u0 0 g" ∷ decimal k ∷ codes "@1 2000 n:0 r:c0@1 counter_require(i1,i0)\n" ∷ []) 100 e

votes_short : (k : ℕ) → k < 100000 → length (votes_text k) ≤ 100
unfolding votes_text
votes_short k small =
    let d = digits_few k small in
    let e : 8 + (length (decimal k) + (9 + (length (decimal k) + (9 + (length (decimal k) + (7 + (length (decimal k) + (7 + 0)))))))) ≤ 100 = omega (arith, d) in short (codes "vote 0 t" ∷ decimal k ∷ codes "\nvote 1 t" ∷ decimal k ∷ codes "\nvote 2 t" ∷ decimal k ∷ codes "\ncert t" ∷ decimal k ∷ codes " 0 1 2\n" ∷ []) 100 e

sends_short : (k : ℕ) → k < 100000 → length (sends_text k) ≤ 100
unfolding sends_text
sends_short k small =
    let d = digits_few k small in
    let e : 8 + (length (decimal k) + (17 + (length (decimal k) + (17 + (length (decimal k) + (9 + 0)))))) ≤ 100 = omega (arith, d) in short (codes "send 0 t" ∷ decimal k ∷ codes "\nrun 0 1\nsend 1 t" ∷ decimal k ∷ codes "\nrun 1 1\nsend 2 t" ∷ decimal k ∷ codes "\nrun 2 1\n" ∷ []) 100 e

tx_pick : (first second third : Bool) (k : ℕ) → k < 100000 → length (cond first (split_text k) (cond second (spend_text k) (cond third (write_text k) (read_text k)))) ≤ 100
tx_pick true second third k small = split_short k small
tx_pick false true third k small = spend_short k small
tx_pick false false true k small = write_short k small
tx_pick false false false k small = read_short k small

tx_short : (k : ℕ) → k < 100000 → length (tx_text k) ≤ 100
tx_short k small = tx_pick (k % 4 == 0) (k % 4 == 1) (k % 4 == 2) k small

certified_pick : (first : Bool) (t v s : List ℕ) → length t ≤ 100 → length v ≤ 100 → length s ≤ 100 → length (cond first (t ++ v ++ s) (t ++ v)) ≤ 300
certified_pick true t v s ht hv hs =
    let outer = length-append (t ++ v) s in
    let inner = length-append t v in
    omega (arith, outer, inner, ht, hv, hs)
certified_pick false t v s ht hv hs = let inner = length-append t v in omega (arith, inner, ht, hv)

certified_short : (k : ℕ) → k < 100000 → length (certified_text k) ≤ 300
unfolding certified_text
certified_short k small =
    certified_pick (k % 4 == 0) (tx_text k) (votes_text k) (sends_text k) (tx_short k small) (votes_short k small) (sends_short k small)

order_pick : (mark : Bool) (k : ℕ) → length (decimal k) ≤ 5 → length (cond mark (concat (codes "order t" ∷ decimal k ∷ codes "\norder commit\n" ∷ [])) (concat (codes "order t" ∷ decimal k ∷ codes "\n" ∷ []))) ≤ 100
order_pick true k d = let e : 7 + (length (decimal k) + (14 + 0)) ≤ 100 = omega (arith, d) in short (codes "order t" ∷ decimal k ∷ codes "\norder commit\n" ∷ []) 100 e
order_pick false k d = let e : 7 + (length (decimal k) + (1 + 0)) ≤ 100 = omega (arith, d) in short (codes "order t" ∷ decimal k ∷ codes "\n" ∷ []) 100 e

order_short : (k : ℕ) → k < 100000 → length (order_text k) ≤ 100
unfolding order_text
order_short k small = order_pick ((k + 1) % 64 == 0) k (digits_few k small)

late_short : (workers : ℕ) → workers ≤ 16 → length (late_text workers) ≤ 100
unfolding late_text
late_short workers small =
    let d = digits_few workers (omega arith) in
    let e : 18 + (length (decimal workers) + (1 + 0)) ≤ 100 = omega (arith, d) in short (codes "see 3 65535\nrun 3 " ∷ decimal workers ∷ codes "\n" ∷ []) 100 e

-- ---- the whole

wide : (text : List ℕ) → length text ≤ 100 → length text ≤ 300
wide text h = omega (arith, h)

each_short : (text : ℕ → List ℕ) → ((k : ℕ) → k < 100000 → length (text k) ≤ 300) → (from n : ℕ) → from + n ≤ 10000 → length (flat_map text (range_with_len from n)) ≤ n * 300
each_short text h from zero few = omega arith
each_short text h from (suc n) few =
    let one = h from (omega (arith, few)) in
    let more = each_short text h (from + 1) n (omega (arith, few)) in
    let both = length-append (text from) (flat_map text (range_with_len (from + 1) n)) in
    omega (arith, one, more, both)

pub made_short : (number workers : ℕ) → number ≤ 10000 → workers ≤ 16 → length (make_text_of number workers) ≤ longest_text
unfolding make_text_of end_text
made_short number workers few small =
    let coins = each_short coin_text (λ k h. wide (coin_text k) (coin_short k h)) 0 number (omega (arith, few)) in
    let certificates = each_short certified_text certified_short 0 number (omega (arith, few)) in
    let orders = each_short order_text (λ k h. wide (order_text k) (order_short k h)) 0 number (omega (arith, few)) in
    let late = late_short workers small in
    let c = for_each coin_text number in
    let t = for_each certified_text number in
    let o = for_each order_text number in
    let a = length-append members_text c in
    let b = length-append (members_text ++ c) (codes "counter c0 0\n") in
    let d = length-append (members_text ++ c ++ codes "counter c0 0\n") t in
    let e = length-append (members_text ++ c ++ codes "counter c0 0\n" ++ t) o in
    let f = length-append (members_text ++ c ++ codes "counter c0 0\n" ++ t ++ o) (late_text workers) in
    let g = length-append (members_text ++ c ++ codes "counter c0 0\n" ++ t ++ o ++ late_text workers) end_text in
    let m : length members_text ≤ 100 = omega arith in
    let k : length (codes "counter c0 0\n") ≤ 100 = omega arith in
    let l : length end_text ≤ 1000 = omega arith in
    omega (arith, coins, certificates, orders, late, a, b, d, e, f, g, m, k, l)
