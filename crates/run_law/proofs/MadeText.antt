-- The generator's text is the canonical text of the schedule that it says.
use Rattle.std.proofs.Common.{◌≡◌, ◌==◌, ℕ, ◌+◌, ◌-◌, ◌%◌, Bool, true, false, cond, List, [], ◌∷◌, ◌++◌, map, codes, decimal, refl, ap, ap₂, sym, ◌∙◌, append_assoc, append-nil}
use Rattle.std.proofs.lemmas.List.Concat.{flat_map-append}
use Rattle.std.specs.Fmt.{digits}
use Rattle.std.specs.List.{concat, flat_map, range_with_len}
use Rattle.schedule_text.specs.declared.words.Setup.{Setup}
use Rattle.schedule_text.specs.declared.words.Setup.TheVariants as setup
use Rattle.schedule_text.specs.declared.words.Event.{Event}
use Rattle.schedule_text.specs.declared.words.Event.TheVariants as event
use Rattle.schedule_text.specs.declared.statement.Statement.{Statement}
use Rattle.schedule_text.specs.declared.statement.Statement.TheVariants as statement
use Rattle.schedule_make.specs.Make.{coin_text, split_text, spend_text, write_text, read_text, tx_text, votes_text, sends_text, certified_text, order_text, members_text, late_text, end_text, for_each, make_text_of}
use Rattle.run_law.specs.Canonical.{line_text, text_of, canonical}
use Rattle.run_law.specs.Made.{transaction, coin, counter, member_items, coin_item, items, split_event, spend_event, write_event, read_event, tx_event, vote_events, send_events, certified, ordered, late, ending, rest, made}

abbrev event_text : List Event → List ℕ
event_text es = text_of (map (λ e. statement.Event e) es)

abbrev setup_text : List Setup → List ℕ
setup_text xs = text_of (map (λ x. statement.Setup x) xs)

text-append : (xs ys : List Statement) → text_of (xs ++ ys) ≡ text_of xs ++ text_of ys
text-append xs ys = flat_map-append (λ x. line_text x ++ 10 ∷ []) xs ys

event-append : (xs ys : List Event) → event_text (xs ++ ys) ≡ event_text xs ++ event_text ys
event-append [] ys = refl
event-append (x ∷ xs) ys =
    ap (λ (t : List ℕ). (line_text (statement.Event x) ++ 10 ∷ []) ++ t) (event-append xs ys)
    ∙ sym (append_assoc (line_text (statement.Event x) ++ 10 ∷ []) (event_text xs) (event_text ys))

setup-append : (xs ys : List Setup) → setup_text (xs ++ ys) ≡ setup_text xs ++ setup_text ys
setup-append [] ys = refl
setup-append (x ∷ xs) ys =
    ap (λ (t : List ℕ). (line_text (statement.Setup x) ++ 10 ∷ []) ++ t) (setup-append xs ys)
    ∙ sym (append_assoc (line_text (statement.Setup x) ++ 10 ∷ []) (setup_text xs) (setup_text ys))

-- a text for each number is the text of the events for each number
events_each : (text : ℕ → List ℕ) (f : ℕ → List Event) → ((k : ℕ) → text k ≡ event_text (f k)) → (ks : List ℕ) → flat_map text ks ≡ event_text (flat_map f ks)
events_each text f same [] = refl
events_each text f same (k ∷ ks) =
    ap (λ (t : List ℕ). t ++ flat_map text ks) (same k) ∙ ap (λ (t : List ℕ). event_text (f k) ++ t) (events_each text f same ks)
    ∙ sym (event-append (f k) (flat_map f ks))

items_each : (text : ℕ → List ℕ) (f : ℕ → Setup) → ((k : ℕ) → text k ≡ setup_text (f k ∷ [])) → (ks : List ℕ) → flat_map text ks ≡ setup_text (map f ks)
items_each text f same [] = refl
items_each text f same (k ∷ ks) =
    ap (λ (t : List ℕ). t ++ flat_map text ks) (same k) ∙ ap (λ (t : List ℕ). setup_text (f k ∷ []) ++ t) (items_each text f same ks)
    ∙ sym (setup-append (f k ∷ []) (map f ks))

-- ---- the numbers of the lines

zero_text : decimal 0 ≡ 48 ∷ []
unfolding digits
zero_text = refl

one_text : decimal 1 ≡ 49 ∷ []
unfolding digits
one_text = refl

two_text : decimal 2 ≡ 50 ∷ []
unfolding digits
two_text = refl

three_text : decimal 3 ≡ 51 ∷ []
unfolding digits
three_text = refl

five_text : decimal 5 ≡ 53 ∷ []
unfolding digits
five_text = refl

budget_text : decimal 2000 ≡ codes "2000"
unfolding digits
budget_text = refl

balance_text : decimal 1000000 ≡ codes "1000000"
unfolding digits
balance_text = refl

sixteen_text : decimal 65535 ≡ codes "65535"
unfolding digits
sixteen_text = refl

-- ---- how a line is put together, K being a number's digits

one_number : (K a b n : List ℕ) → a ++ (K ++ ((b ++ n) ++ [])) ≡ ((a ++ (K ++ b)) ++ n) ++ []
one_number K a b n = simp (append_assoc, append-nil) refl

two_numbers : (K a b c d n : List ℕ) → a ++ (K ++ (b ++ (K ++ ((d ++ (c ++ n)) ++ [])))) ≡ ((a ++ (K ++ (b ++ ((K ++ d) ++ c)))) ++ n) ++ []
two_numbers K a b c d n = simp (append_assoc, append-nil) refl

three_numbers : (K J a b c d p q r n : List ℕ) → a ++ (K ++ (b ++ (K ++ ((d ++ c) ++ (J ++ ((p ++ (q ++ (r ++ n))) ++ [])))))) ≡ ((a ++ (K ++ (b ++ ((K ++ d) ++ (c ++ (((J ++ p) ++ q) ++ r)))))) ++ n) ++ []
three_numbers K J a b c d p q r n = simp (append_assoc, append-nil) refl

four_lines : (K a b c d e n : List ℕ) → a ++ (K ++ ((n ++ b) ++ (K ++ ((n ++ c) ++ (K ++ ((n ++ d) ++ (K ++ ((e ++ n) ++ []))))))))
    ≡ ((a ++ K) ++ n) ++ (((b ++ K) ++ n) ++ (((c ++ K) ++ n) ++ (((d ++ (K ++ e)) ++ n) ++ [])))
four_lines K a b c d e n = simp (append_assoc, append-nil) refl

six_lines : (K a b c d e f n : List ℕ) → a ++ (K ++ ((n ++ (b ++ (n ++ c))) ++ (K ++ ((n ++ (d ++ (n ++ e))) ++ (K ++ ((n ++ (f ++ n)) ++ []))))))
    ≡ ((a ++ K) ++ n) ++ ((b ++ n) ++ (((c ++ K) ++ n) ++ ((d ++ n) ++ (((e ++ K) ++ n) ++ ((f ++ n) ++ [])))))
six_lines K a b c d e f n = simp (append_assoc, append-nil) refl

two_lines : (K a b n : List ℕ) → a ++ (K ++ ((n ++ (b ++ n)) ++ [])) ≡ ((a ++ K) ++ n) ++ ((b ++ n) ++ [])
two_lines K a b n = simp (append_assoc, append-nil) refl

last_line : (K a b n : List ℕ) → (a ++ (n ++ b)) ++ (K ++ (n ++ [])) ≡ (a ++ n) ++ (((b ++ K) ++ n) ++ [])
last_line K a b n = simp (append_assoc, append-nil) refl

-- ---- line by line

coin_pick : (second : Bool) (k : ℕ)
    → cond second (concat (codes "coin g" ∷ decimal k ∷ codes " u1 1000000\n" ∷ [])) (concat (codes "coin g" ∷ decimal k ∷ codes " u0 1000000\n" ∷ []))
    ≡ setup_text (cond second (setup.Coin (coin k) (codes "u1") 1000000) (setup.Coin (coin k) (codes "u0") 1000000) ∷ [])
coin_pick true k = rw (balance_text) (one_number (decimal k) (codes "coin g") (codes " u1 1000000") (10 ∷ []))
coin_pick false k = rw (balance_text) (one_number (decimal k) (codes "coin g") (codes " u0 1000000") (10 ∷ []))

coin_same : (k : ℕ) → coin_text k ≡ setup_text (coin_item k ∷ [])
unfolding coin_text
coin_same k = coin_pick (k % 4 == 1) k

split_same : (k : ℕ) → split_text k ≡ event_text (split_event k ∷ [])
unfolding split_text
split_same k =
    rw (zero_text, one_text, five_text, budget_text)
    (two_numbers (decimal k) (codes "tx t") (codes " u0 0 g") (codes " 2000 n:5 a:u1 split(gas,i0) transfer(r0,i1)") (codes "@1") (10 ∷ []))

spend_same : (k : ℕ) → spend_text k ≡ event_text (spend_event k ∷ [])
unfolding spend_text
spend_same k =
    rw (zero_text, one_text, two_text, budget_text)
    (three_numbers (decimal k) (decimal (k - 1)) (codes "tx t") (codes " u1 0 g") (codes " 2000 o:t") (codes "@1") (codes ".0") (codes "@2") (codes " a:u0 transfer(i0,i1)") (10 ∷ []))

write_same : (k : ℕ) → write_text k ≡ event_text (write_event k ∷ [])
unfolding write_text
write_same k =
    rw (zero_text, one_text, budget_text)
    (two_numbers (decimal k) (codes "tx t") (codes " u0 0 g") (codes " 2000 n:1 s:c0@1 counter_add(i1,i0)") (codes "@1") (10 ∷ []))

read_same : (k : ℕ) → read_text k ≡ event_text (read_event k ∷ [])
unfolding read_text
read_same k =
    rw (zero_text, one_text, budget_text)
    (two_numbers (decimal k) (codes "tx t") (codes " u0 0 g") (codes " 2000 n:0 r:c0@1 counter_require(i1,i0)") (codes "@1") (10 ∷ []))

tx_pick : (first second third : Bool) (k : ℕ)
    → cond first (split_text k) (cond second (spend_text k) (cond third (write_text k) (read_text k)))
    ≡ event_text (cond first (split_event k) (cond second (spend_event k) (cond third (write_event k) (read_event k))) ∷ [])
tx_pick true second third k = split_same k
tx_pick false true third k = spend_same k
tx_pick false false true k = write_same k
tx_pick false false false k = read_same k

tx_same : (k : ℕ) → tx_text k ≡ event_text (tx_event k ∷ [])
tx_same k = tx_pick (k % 4 == 0) (k % 4 == 1) (k % 4 == 2) k

votes_same : (k : ℕ) → votes_text k ≡ event_text (vote_events k)
unfolding votes_text
votes_same k =
    rw (zero_text, one_text, two_text)
    (four_lines (decimal k) (codes "vote 0 t") (codes "vote 1 t") (codes "vote 2 t") (codes "cert t") (codes " 0 1 2") (10 ∷ []))

sends_same : (k : ℕ) → sends_text k ≡ event_text (send_events k)
unfolding sends_text
sends_same k =
    rw (zero_text, one_text, two_text)
    (six_lines (decimal k) (codes "send 0 t") (codes "run 0 1") (codes "send 1 t") (codes "run 1 1") (codes "send 2 t") (codes "run 2 1") (10 ∷ []))

after_pick : (first : Bool) (k : ℕ) → cond first (tx_text k ++ votes_text k ++ sends_text k) (tx_text k ++ votes_text k) ≡ event_text ((tx_event k ∷ []) ++ cond first (vote_events k ++ send_events k) (vote_events k))
after_pick true k =
    append_assoc (tx_text k) (votes_text k) (sends_text k) ∙ ap (λ (t : List ℕ). t ++ (votes_text k ++ sends_text k)) (tx_same k)
    ∙ ap (λ (t : List ℕ). event_text (tx_event k ∷ []) ++ (t ++ sends_text k)) (votes_same k)
    ∙ ap (λ (t : List ℕ). event_text (tx_event k ∷ []) ++ (event_text (vote_events k) ++ t)) (sends_same k)
    ∙ ap (λ (t : List ℕ). event_text (tx_event k ∷ []) ++ t) (sym (event-append (vote_events k) (send_events k)))
    ∙ sym (event-append (tx_event k ∷ []) (vote_events k ++ send_events k))
after_pick false k =
    ap (λ (t : List ℕ). t ++ votes_text k) (tx_same k) ∙ ap (λ (t : List ℕ). event_text (tx_event k ∷ []) ++ t) (votes_same k)
    ∙ sym (event-append (tx_event k ∷ []) (vote_events k))

certified_same : (k : ℕ) → certified_text k ≡ event_text (certified k)
unfolding certified_text
certified_same k = after_pick (k % 4 == 0) k

order_pick : (mark : Bool) (k : ℕ)
    → cond mark (concat (codes "order t" ∷ decimal k ∷ codes "\norder commit\n" ∷ [])) (concat (codes "order t" ∷ decimal k ∷ codes "\n" ∷ []))
    ≡ event_text (cond mark (event.Order (transaction k) ∷ event.OrderCommit ∷ []) (event.Order (transaction k) ∷ []))
order_pick true k = two_lines (decimal k) (codes "order t") (codes "order commit") (10 ∷ [])
order_pick false k = sym (ap (λ (t : List ℕ). codes "order t" ++ t) (append_assoc (decimal k) (10 ∷ []) []))

order_same : (k : ℕ) → order_text k ≡ event_text (ordered k)
unfolding order_text
order_same k = order_pick ((k + 1) % 64 == 0) k

late_same : (workers : ℕ) → late_text workers ≡ event_text (late workers)
unfolding late_text
late_same workers = rw (three_text, sixteen_text) (last_line (decimal workers) (codes "see 3 65535") (codes "run 3 ") (10 ∷ []))

ending_same : end_text ≡ event_text ending
unfolding end_text digits
ending_same = refl

members_same : members_text ≡ setup_text member_items
unfolding digits
members_same = refl

counter_same : codes "counter c0 0\n" ≡ setup_text (setup.Counter counter 0 ∷ [])
unfolding digits
counter_same = refl

-- ---- the whole text

app : {a b c d : List ℕ} → a ≡ b → c ≡ d → a ++ c ≡ b ++ d
app e f = ap₂ (λ (x y : List ℕ). x ++ y) e f

regroup : (m c k t o l e : List ℕ) → ((((((m ++ c) ++ k) ++ t) ++ o) ++ l) ++ e) ≡ ((m ++ c) ++ k) ++ (t ++ (o ++ (l ++ e)))
regroup m c k t o l e = simp append_assoc refl

items_same : (number : ℕ) → members_text ++ for_each coin_text number ++ codes "counter c0 0\n" ≡ setup_text (items number)
items_same number =
    let coins = map coin_item (range_with_len 0 number) in
    app (app members_same (items_each coin_text coin_item coin_same (range_with_len 0 number)) ∙ sym (setup-append member_items coins)) counter_same
    ∙ sym (setup-append (member_items ++ coins) (setup.Counter counter 0 ∷ []))

events_same : (number workers : ℕ) → for_each certified_text number ++ (for_each order_text number ++ (late_text workers ++ end_text)) ≡ event_text (flat_map certified (range_with_len 0 number) ++ rest number workers)
events_same number workers =
    let orders = flat_map ordered (range_with_len 0 number) in
    app (events_each certified_text certified certified_same (range_with_len 0 number))
    (app (events_each order_text ordered order_same (range_with_len 0 number))
    (app (late_same workers) ending_same ∙ sym (event-append (late workers) ending))
    ∙ sym (event-append orders (late workers ++ ending)))
    ∙ sym (event-append (flat_map certified (range_with_len 0 number)) (rest number workers))

pub made_same : (number workers : ℕ) → make_text_of number workers ≡ canonical (made number workers)
unfolding make_text_of
made_same number workers =
    let events = flat_map certified (range_with_len 0 number) ++ rest number workers in
    regroup members_text (for_each coin_text number) (codes "counter c0 0\n") (for_each certified_text number) (for_each order_text number) (late_text workers) end_text
    ∙ app (items_same number) (events_same number workers)
    ∙ sym (text-append (map (λ x. statement.Setup x) (items number)) (map (λ e. statement.Event e) events))
