-- The lines of the generator's schedule may follow one another.
use Rattle.std.proofs.Common.{◌≡◌, ◌==◌, ℕ, zero, suc, ◌+◌, ◌-◌, ◌%◌, ◌<◌, ◌≤◌, nat_lt, Bool, true, false, cond, not, List, [], ◌∷◌, ◌++◌, map, length, slice_get, None, Result, Ok, codes, decimal, refl, ap, sym, ◌∙◌, arith, append_assoc, append-nil, ◌⊎◌, inl, inr, add-one}
use Rattle.std.proofs.lemmas.Bool.{cases_Bool, eqb-true, false_from_ne_true, lt-ltb, or_left, or_right}
use Rattle.std.proofs.lemmas.Fmt.{decimal_injective}
use Rattle.std.proofs.lemmas.List.{map-append}
use Rattle.std.proofs.lemmas.List.Concat.{flat_map-append}
use Rattle.std.proofs.lemmas.List.Elements.{filter_map-append}
use Rattle.std.proofs.lemmas.List.Folds.{list_any-append}
use Rattle.std.proofs.lemmas.Slice.Eq.{bytes_eq-Decides}
use Rattle.std.specs.List.{AllByRecursion, filter_map, flat_map, range_with_len}
use Rattle.std.specs.Str.{bytes_eq}
use Rattle.schedule_text.specs.declared.cause.Cause.{Cause}
use Rattle.schedule_text.specs.declared.cause.Cause.TheVariants as cause
use Rattle.schedule_text.specs.declared.words.Schedule.{Schedule}
use Rattle.schedule_text.specs.declared.words.Setup.{Setup}
use Rattle.schedule_text.specs.declared.words.Setup.TheVariants as setup
use Rattle.schedule_text.specs.declared.words.Event.{Event}
use Rattle.schedule_text.specs.declared.words.Event.TheVariants as event
use Rattle.schedule_text.specs.declared.words.ObjWord.{ObjWord}
use Rattle.schedule_text.specs.declared.words.ObjWord.TheVariants as object
use Rattle.schedule_text.specs.declared.words.InputWord.{InputWord}
use Rattle.schedule_text.specs.declared.words.InputWord.TheVariants as input
use Rattle.schedule_text.specs.declared.statement.Statement.{Statement}
use Rattle.schedule_text.specs.declared.statement.Statement.TheVariants as statement
use Rattle.schedule_text.specs.Agrees.{no_lines}
use Rattle.schedule_text.specs.Known.{Check, check, also, is_among, role_of, role_is, object_name, tx_name, roles, object_names, tx_names, tx_check, object_check, input_check, role_check, each_check, new_object_check, setup_kind_check, setup_check, new_tx_check, event_check, add_line}
use Rattle.run_law.specs.Canonical.{statements}
use Rattle.run_law.specs.Sayable.{then_read, added}
use Rattle.run_law.specs.Made.{transaction, coin, counter, member_items, coin_item, items, plain_ref, split_event, spend_event, write_event, read_event, tx_event, vote_events, send_events, after_tx, certified, ordered, late, ending, rest, made}
use Rattle.run_law.proofs.Added.{go_on}
use Rattle.run_law.proofs.Ranges.{all-append, all-each, range-push, not-among, among-range}

-- ---- from stage to stage

-- a stage for each number
chain : (f : ℕ → List Statement) (stage : ℕ → Schedule) (last : ℕ) → ((k : ℕ) → k < last → added (stage k) (f k) ≡ Ok (stage (k + 1)))
    → (from n : ℕ) → from + n ≤ last → added (stage from) (flat_map f (range_with_len from n)) ≡ Ok (stage (from + n))
chain f stage last step from zero few = let e : from ≡ from + 0 = omega arith in ap (λ (k : ℕ). Ok (stage k)) e
chain f stage last step from (suc n) few =
    let e : from + 1 + n ≡ from + suc n = omega arith in
    go_on (stage from) (stage (from + 1)) (Ok (stage (from + suc n))) (f from) (flat_map f (range_with_len (from + 1) n)) (step from (omega (arith, few)))
    (chain f stage last step (from + 1) n (omega (arith, few)) ∙ ap (λ (k : ℕ). Ok (stage k)) e)

setup_step : (s : Schedule) (x : Setup) → setup_check s x ≡ Ok tt → added s (statement.Setup x ∷ []) ≡ Ok (record s { setup = s.setup ++ x ∷ [] })
unfolding add_line
setup_step s x h = rw h refl

-- ---- the set-up

pick-coin : (P : Setup → Type 0) (k : ℕ) → P (setup.Coin (coin k) (codes "u1") 1000000) → P (setup.Coin (coin k) (codes "u0") 1000000) → P (coin_item k)
pick-coin P k h g = pick (k % 4 == 1)
  where
    pick : (b : Bool) → P (cond b (setup.Coin (coin k) (codes "u1") 1000000) (setup.Coin (coin k) (codes "u0") 1000000))
    pick true = h
    pick false = g

coin_names : (ks : List ℕ) (more : List Setup) → filter_map object_name (map coin_item ks ++ more) ≡ map coin ks ++ filter_map object_name more
coin_names [] more = refl
coin_names (k ∷ ks) more =
    pick-coin (λ x. filter_map object_name (x ∷ (map coin_item ks ++ more)) ≡ coin k ∷ (map coin ks ++ filter_map object_name more)) k
    (ap (λ (t : List (List ℕ)). coin k ∷ t) (coin_names ks more)) (ap (λ (t : List (List ℕ)). coin k ∷ t) (coin_names ks more))

coin_roles : (ks : List ℕ) (more : List Setup) → filter_map role_of (map coin_item ks ++ more) ≡ filter_map role_of more
coin_roles [] more = refl
coin_roles (k ∷ ks) more =
    pick-coin (λ x. filter_map role_of (x ∷ (map coin_item ks ++ more)) ≡ filter_map role_of more) k (coin_roles ks more) (coin_roles ks more)

other_digits : (k m : ℕ) → k < 100000 → m < k → bytes_eq (decimal k) (decimal m) ≡ false
other_digits k m small low =
    false_from_ne_true (bytes_eq (decimal k) (decimal m))
    (λ h. let e = decimal_injective k m (omega arith) (omega arith) ((bytes_eq-Decides (decimal k) (decimal m)).0 h) in omega (arith, e, low))

-- the set-up with the first coins
stage : ℕ → Schedule
stage k = record { setup = member_items ++ map coin_item (range_with_len 0 k); events = [] }

stage_names : (k : ℕ) → object_names (stage k).setup ≡ map coin (range_with_len 0 k)
unfolding stage object_names
stage_names k =
    ap (λ (xs : List Setup). filter_map object_name xs) (sym (append-nil (map coin_item (range_with_len 0 k))))
    ∙ coin_names (range_with_len 0 k) [] ∙ append-nil (map coin (range_with_len 0 k))

new_item : (k : ℕ) (name : List ℕ) → ((j : ℕ) → j < k → bytes_eq name (coin j) ≡ false) → new_object_check (stage k) name ≡ Ok tt
new_item k name h =
    let none = not-among name coin k h 0 k (omega arith) in
    ap (λ (names : List (List ℕ)). check (not (is_among names name)) cause.RepeatedName) (stage_names k)
    ∙ ap (λ (b : Bool). check (not b) cause.RepeatedName) none

coin_check : (k : ℕ) → k < 100000 → setup_check (stage k) (coin_item k) ≡ Ok tt
unfolding setup_check setup_kind_check stage
coin_check k small =
    let fresh = new_item k (coin k) (λ j low. other_digits k j small low) in
    pick-coin (λ x. setup_check (stage k) x ≡ Ok tt) k fresh fresh

next_stage : (k : ℕ) → record (stage k) { setup = (stage k).setup ++ coin_item k ∷ [] } ≡ stage (k + 1)
unfolding stage
next_stage k =
    ap (λ (xs : List Setup). record { setup = xs; events = [] })
    (append_assoc member_items (map coin_item (range_with_len 0 k)) (coin_item k ∷ [])
    ∙ ap (λ (xs : List Setup). member_items ++ xs) (sym (ap (map coin_item) (range-push k) ∙ map-append coin_item (range_with_len 0 k) (k ∷ []))))

coin_step : (k : ℕ) → k < 100000 → added (stage k) (statement.Setup (coin_item k) ∷ []) ≡ Ok (stage (k + 1))
coin_step k small = setup_step (stage k) (coin_item k) (coin_check k small) ∙ ap (λ (s : Schedule). Ok s) (next_stage k)

singles : (ks : List ℕ) → map (λ x. statement.Setup x) (map coin_item ks) ≡ flat_map (λ k. statement.Setup (coin_item k) ∷ []) ks
singles [] = refl
singles (k ∷ ks) = ap (λ (xs : List Statement). statement.Setup (coin_item k) ∷ xs) (singles ks)

members_added : added no_lines (map (λ x. statement.Setup x) member_items) ≡ Ok (stage 0)
unfolding add_line setup_check setup_kind_check roles stage
members_added = refl

-- the whole set-up, and events after it
module _ (number : ℕ) (few : number ≤ 10000) where
  whole : List Event → Schedule
  whole events = record { setup = items number; events = events }

  counter_check : setup_check (stage number) (setup.Counter counter 0) ≡ Ok tt
  unfolding setup_check setup_kind_check stage
  counter_check = new_item number counter (λ j low. refl)

  counter_step : added (stage number) (statement.Setup (setup.Counter counter 0) ∷ []) ≡ Ok (whole [])
  unfolding stage whole
  counter_step = setup_step (stage number) (setup.Counter counter 0) counter_check

  coins_added : added (stage 0) (map (λ x. statement.Setup x) (map coin_item (range_with_len 0 number))) ≡ Ok (stage number)
  coins_added =
      let e : 0 + number ≡ number = omega arith in
      ap (added (stage 0)) (singles (range_with_len 0 number))
      ∙ chain (λ k. statement.Setup (coin_item k) ∷ []) stage 10000 (λ k low. coin_step k (omega (arith, low))) 0 number (omega (arith, few))
      ∙ ap (λ (k : ℕ). Ok (stage k)) e

  items_added : added no_lines (map (λ x. statement.Setup x) (items number)) ≡ Ok (whole [])
  items_added =
      let coins = map coin_item (range_with_len 0 number) in
      let f : Setup → Statement = λ x. statement.Setup x in
      ap (added no_lines) (map-append f (member_items ++ coins) (setup.Counter counter 0 ∷ []) ∙ ap (λ (xs : List Statement). xs ++ statement.Setup (setup.Counter counter 0) ∷ []) (map-append f member_items coins))
      ∙ go_on no_lines (stage number) (Ok (whole [])) (map f member_items ++ map f coins) (statement.Setup (setup.Counter counter 0) ∷ [])
      (go_on no_lines (stage 0) (Ok (stage number)) (map f member_items) (map f coins) members_added coins_added) counter_step

  -- ---- what the set-up makes known

  quad : List Bool
  quad = true ∷ true ∷ true ∷ true ∷ []

  roles_are : roles (items number) ≡ quad
  unfolding roles quad
  roles_are = ap (λ (bs : List Bool). true ∷ true ∷ true ∷ true ∷ bs) (coin_roles (range_with_len 0 number) (setup.Counter counter 0 ∷ []))

  names_are : object_names (items number) ≡ map coin (range_with_len 0 number) ++ counter ∷ []
  unfolding object_names
  names_are = coin_names (range_with_len 0 number) (setup.Counter counter 0 ∷ [])

  coin_known : (k : ℕ) → k < number → is_among (object_names (items number)) (coin k) ≡ true
  coin_known k low =
      ap (λ (names : List (List ℕ)). is_among names (coin k)) names_are
      ∙ list_any-append (bytes_eq (coin k)) (map coin (range_with_len 0 number)) (counter ∷ [])
      ∙ or_left (is_among (map coin (range_with_len 0 number)) (coin k)) (is_among (counter ∷ []) (coin k)) (among-range coin k 0 number (omega arith) (omega (arith, low)))

  counter_known : is_among (object_names (items number)) counter ≡ true
  counter_known =
      ap (λ (names : List (List ℕ)). is_among names counter) names_are
      ∙ list_any-append (bytes_eq counter) (map coin (range_with_len 0 number)) (counter ∷ [])
      ∙ or_right (is_among (map coin (range_with_len 0 number)) counter) (is_among (counter ∷ []) counter) refl

  -- the check of an honest member, by the roles
  role_in : List Bool → ℕ → Check
  role_in rs m = also (check (nat_lt m (length rs)) cause.UnknownMember) (check (role_is true (slice_get rs m)) cause.WrongRole)

  honest : (m : ℕ) → role_in quad m ≡ Ok tt → (es : List Event) → role_check true (whole es) m ≡ Ok tt
  unfolding whole role_in
  honest m h es = ap (λ (rs : List Bool). role_in rs m) roles_are ∙ h

  known : (m : ℕ) → nat_lt m 4 ≡ true → check (nat_lt m (length (roles (items number)))) cause.UnknownMember ≡ Ok tt
  unfolding quad
  known m h = ap (λ (rs : List Bool). check (nat_lt m (length rs)) cause.UnknownMember) roles_are ∙ ap (λ (b : Bool). check b cause.UnknownMember) h

  -- ---- events

  event_step : (es : List Event) (e : Event) → event_check (whole es) e ≡ Ok tt → add_line (whole es) (statement.Event e) ≡ Ok (whole (es ++ e ∷ []))
  unfolding add_line whole
  event_step es e h = rw h refl

  -- an event that names no transaction may follow events that name these
  abbrev IsQuiet : List (List ℕ) → Event → Type 0
  IsQuiet names e = (tx_name e ≡ None) × ((es : List Event) → tx_names es ≡ names → event_check (whole es) e ≡ Ok tt)

  named_push : (es : List Event) (e : Event) → tx_names (es ++ e ∷ []) ≡ tx_names es ++ filter_map tx_name (e ∷ [])
  unfolding tx_names
  named_push es e = filter_map-append tx_name es (e ∷ [])

  quiet_push : (es : List Event) (e : Event) → tx_name e ≡ None → tx_names (es ++ e ∷ []) ≡ tx_names es
  quiet_push es e h = named_push es e ∙ rw h (append-nil (tx_names es))

  all_quiet : (names : List (List ℕ)) (more es : List Event) → AllByRecursion (IsQuiet names) more → tx_names es ≡ names
      → added (whole es) (map (λ e. statement.Event e) more) ≡ Ok (whole (es ++ more))
  all_quiet names [] es h same = ap (λ (xs : List Event). Ok (whole xs)) (sym (append-nil es))
  all_quiet names (e ∷ more) es h same =
      ap (λ (r : Result Schedule Cause). then_read r (λ t. added t (map (λ e. statement.Event e) more))) (event_step es e (h.0.1 es same))
      ∙ all_quiet names more (es ++ e ∷ []) h.1 (quiet_push es e h.0.0 ∙ same)
      ∙ ap (λ (xs : List Event). Ok (whole xs)) (append_assoc es (e ∷ []) more)

  -- ---- transactions

  tx_known : (names : List (List ℕ)) (tx : List ℕ) (es : List Event) → is_among names tx ≡ true → tx_names es ≡ names → tx_check (whole es) tx ≡ Ok tt
  unfolding whole
  tx_known names tx es h same = rw (same, h) refl

  new_tx_ok : (names : List (List ℕ)) (es : List Event) (name : List ℕ) (gas : ObjWord) (inputs : List InputWord) → tx_names es ≡ names
      → nat_lt (length names) 65535 ≡ true → is_among names name ≡ false → object_check (whole es) gas ≡ Ok tt → each_check (input_check (whole es)) inputs ≡ Ok tt
      → new_tx_check (whole es) name gas inputs ≡ Ok tt
  unfolding new_tx_check whole
  new_tx_ok names es name gas inputs same few_names fresh known_gas known_inputs = rw (known_gas, known_inputs) (first same)
    where
      first : tx_names es ≡ names → also (check (nat_lt (length (tx_names es)) 65535) cause.TooManyTransactions) (also (check (not (is_among (tx_names es) name)) cause.RepeatedName) (Ok tt)) ≡ Ok tt
      first e = rw (e, few_names, fresh) refl

  -- the names of the first transactions
  abbrev firsts : ℕ → List (List ℕ)
  firsts k = map transaction (range_with_len 0 k)

  length-range : (from n : ℕ) → length (map transaction (range_with_len from n)) ≡ n
  length-range from zero = refl
  length-range from (suc n) = let ih = length-range (from + 1) n in omega (arith, ih)

  few_names : (k : ℕ) → k < 10000 → nat_lt (length (firsts k)) 65535 ≡ true
  few_names k low = let e = length-range 0 k in lt-ltb (length (firsts k)) 65535 (omega (arith, e, low))

  fresh : (k : ℕ) → k < 10000 → is_among (firsts k) (transaction k) ≡ false
  fresh k low = not-among (transaction k) transaction k (λ j below. other_digits k j (omega (arith, low)) below) 0 k (omega arith)

  gas_known : (k : ℕ) → k < number → (es : List Event) → object_check (whole es) (object.Setup (coin k)) ≡ Ok tt
  unfolding whole
  gas_known k low es = ap (λ (b : Bool). check b cause.UnknownName) (coin_known k low)

  counter_here : (es : List Event) → object_check (whole es) (object.Setup counter) ≡ Ok tt
  unfolding whole
  counter_here es = ap (λ (b : Bool). check b cause.UnknownName) counter_known

  nothing_named : (es : List Event) → (n : ℕ) (name : List ℕ) → each_check (input_check (whole es)) (input.Number n ∷ input.Address name ∷ []) ≡ Ok tt
  unfolding each_check
  nothing_named es n name = refl

  one_object : (es : List Event) (x y : InputWord) → input_check (whole es) x ≡ Ok tt → input_check (whole es) y ≡ Ok tt → each_check (input_check (whole es)) (x ∷ y ∷ []) ≡ Ok tt
  unfolding each_check
  one_object es x y h k = rw (h, k) refl

  module _ (k : ℕ) (low : k < number) (es : List Event) (same : tx_names es ≡ firsts k) where
    small : k < 10000
    small = omega (arith, few, low)

    split_check : event_check (whole es) (split_event k) ≡ Ok tt
    unfolding event_check
    split_check =
        new_tx_ok (firsts k) es (transaction k) (object.Setup (coin k)) (input.Number 5 ∷ input.Address (codes "u1") ∷ []) same
        (few_names k small) (fresh k small) (gas_known k low es) (nothing_named es 5 (codes "u1"))

    before_known : 0 < k → is_among (firsts k) (transaction (k - 1)) ≡ true
    before_known some = among-range transaction (k - 1) 0 k (omega arith) (omega (arith, some))

    spend_check : 0 < k → event_check (whole es) (spend_event k) ≡ Ok tt
    unfolding event_check
    spend_check some =
        new_tx_ok (firsts k) es (transaction k) (object.Setup (coin k))
        (input.Owned (plain_ref (object.Created (transaction (k - 1)) 0) 2) ∷ input.Address (codes "u0") ∷ []) same
        (few_names k small) (fresh k small) (gas_known k low es)
        (one_object es (input.Owned (plain_ref (object.Created (transaction (k - 1)) 0) 2)) (input.Address (codes "u0")) (tx_known (firsts k) (transaction (k - 1)) es (before_known some) same) refl)

    write_check : event_check (whole es) (write_event k) ≡ Ok tt
    unfolding event_check
    write_check =
        new_tx_ok (firsts k) es (transaction k) (object.Setup (coin k)) (input.Number 1 ∷ input.Shared (object.Setup counter) 1 true ∷ []) same
        (few_names k small) (fresh k small) (gas_known k low es) (one_object es (input.Number 1) (input.Shared (object.Setup counter) 1 true) refl (counter_here es))

    read_check : event_check (whole es) (read_event k) ≡ Ok tt
    unfolding event_check
    read_check =
        new_tx_ok (firsts k) es (transaction k) (object.Setup (coin k)) (input.Number 0 ∷ input.Shared (object.Setup counter) 1 false ∷ []) same
        (few_names k small) (fresh k small) (gas_known k low es) (one_object es (input.Number 0) (input.Shared (object.Setup counter) 1 false) refl (counter_here es))

    tx_pick : (first second third : Bool) → ((k % 4 == 1) ≡ true ⊎ (second ≡ false))
        → event_check (whole es) (cond first (split_event k) (cond second (spend_event k) (cond third (write_event k) (read_event k)))) ≡ Ok tt
    tx_pick true second third h = split_check
    tx_pick false true third (inl e) = spend_check (let odd = eqb-true (k % 4) 1 e in omega (arith, odd))
    tx_pick false true third (inr e) = absurd (cc)
    tx_pick false false true h = write_check
    tx_pick false false false h = read_check

    tx_may_follow : event_check (whole es) (tx_event k) ≡ Ok tt
    tx_may_follow = tx_pick (k % 4 == 0) (k % 4 == 1) (k % 4 == 2) (cases_Bool (k % 4 == 1))

  -- ---- what follows a transaction

  -- the name is among the names
  module _ (names : List (List ℕ)) (tx : List ℕ) (there : is_among names tx ≡ true) where
    vote_quiet : (m : ℕ) → role_in quad m ≡ Ok tt → IsQuiet names (event.Vote m tx)
    unfolding event_check
    vote_quiet m h = (refl, λ es same. rw (tx_known names tx es there same) (honest m h es))

    send_quiet : (m : ℕ) → role_in quad m ≡ Ok tt → IsQuiet names (event.Send m tx)
    unfolding event_check
    send_quiet m h = (refl, λ es same. rw (tx_known names tx es there same) (honest m h es))

    order_quiet : IsQuiet names (event.Order tx)
    unfolding event_check
    order_quiet = (refl, λ es same. tx_known names tx es there same)

    cert_quiet : IsQuiet names (event.Cert tx (0 ∷ 1 ∷ 2 ∷ []))
    unfolding event_check each_check whole
    cert_quiet = (refl, λ es same. rw (tx_known names tx es there same, known 0 refl, known 1 refl, known 2 refl) refl)

  run_quiet : (names : List (List ℕ)) (m workers : ℕ) → role_in quad m ≡ Ok tt → IsQuiet names (event.Run m workers)
  unfolding event_check
  run_quiet names m workers h = (refl, λ es same. honest m h es)

  see_quiet : (names : List (List ℕ)) (m entries : ℕ) → role_in quad m ≡ Ok tt → IsQuiet names (event.See m entries)
  unfolding event_check
  see_quiet names m entries h = (refl, λ es same. honest m h es)

  votes_quiet : (names : List (List ℕ)) (k : ℕ) → is_among names (transaction k) ≡ true → AllByRecursion (IsQuiet names) (vote_events k)
  unfolding role_in quad
  votes_quiet names k there =
      let tx = transaction k in
      (vote_quiet names tx there 0 refl, (vote_quiet names tx there 1 refl, (vote_quiet names tx there 2 refl, (cert_quiet names tx there, tt))))

  sends_quiet : (names : List (List ℕ)) (k : ℕ) → is_among names (transaction k) ≡ true → AllByRecursion (IsQuiet names) (send_events k)
  unfolding role_in quad
  sends_quiet names k there =
      let tx = transaction k in
      (send_quiet names tx there 0 refl, (run_quiet names 0 1 refl, (send_quiet names tx there 1 refl, (run_quiet names 1 1 refl, (send_quiet names tx there 2 refl, (run_quiet names 2 1 refl, tt))))))

  after_pick : (names : List (List ℕ)) (k : ℕ) (first : Bool) → is_among names (transaction k) ≡ true → AllByRecursion (IsQuiet names) (cond first (vote_events k ++ send_events k) (vote_events k))
  after_pick names k true there = all-append (IsQuiet names) (vote_events k) (send_events k) (votes_quiet names k there) (sends_quiet names k there)
  after_pick names k false there = votes_quiet names k there

  -- ---- the transactions, one after another

  pick-tx : (P : Event → Type 0) (k : ℕ) → P (split_event k) → P (spend_event k) → P (write_event k) → P (read_event k) → P (tx_event k)
  pick-tx P k a b c d = pick (k % 4 == 0) (k % 4 == 1) (k % 4 == 2)
    where
      pick : (first second third : Bool) → P (cond first (split_event k) (cond second (spend_event k) (cond third (write_event k) (read_event k))))
      pick true second third = a
      pick false true third = b
      pick false false true = c
      pick false false false = d

  named_once : (k : ℕ) → filter_map tx_name (tx_event k ∷ []) ≡ transaction k ∷ []
  named_once k = pick-tx (λ e. filter_map tx_name (e ∷ []) ≡ transaction k ∷ []) k refl refl refl refl

  none_named : (names : List (List ℕ)) (more : List Event) → AllByRecursion (IsQuiet names) more → filter_map tx_name more ≡ []
  none_named names [] h = refl
  none_named names (e ∷ more) h = rw h.0.0 (none_named names more h.1)

  -- the events of the first transactions
  abbrev done : ℕ → List Event
  done k = flat_map certified (range_with_len 0 k)

  done_next : (k : ℕ) → done (k + 1) ≡ (done k ++ tx_event k ∷ []) ++ after_tx k
  done_next k =
      ap (flat_map certified) (range-push k) ∙ flat_map-append certified (range_with_len 0 k) (k ∷ [])
      ∙ ap (λ (es : List Event). done k ++ es) (append-nil (certified k)) ∙ sym (append_assoc (done k) (tx_event k ∷ []) (after_tx k))

  firsts_next : (k : ℕ) → firsts (k + 1) ≡ firsts k ++ transaction k ∷ []
  firsts_next k = ap (map transaction) (range-push k) ∙ map-append transaction (range_with_len 0 k) (k ∷ [])

  here : (k : ℕ) → is_among (firsts (k + 1)) (transaction k) ≡ true
  here k = among-range transaction k 0 (k + 1) (omega arith) (omega arith)

  after_quiet : (k : ℕ) → AllByRecursion (IsQuiet (firsts (k + 1))) (after_tx k)
  after_quiet k = after_pick (firsts (k + 1)) k (k % 4 == 0) (here k)

  tx_push : (es : List Event) (k : ℕ) → tx_names es ≡ firsts k → tx_names (es ++ tx_event k ∷ []) ≡ firsts (k + 1)
  tx_push es k same =
      named_push es (tx_event k) ∙ ap (λ (names : List (List ℕ)). tx_names es ++ names) (named_once k)
      ∙ ap (λ (names : List (List ℕ)). names ++ transaction k ∷ []) same ∙ sym (firsts_next k)

  names_append : (es more : List Event) → filter_map tx_name more ≡ [] → tx_names (es ++ more) ≡ tx_names es
  unfolding tx_names
  names_append es more h = filter_map-append tx_name es more ∙ rw h (append-nil (filter_map tx_name es))

  done_names : (k : ℕ) → tx_names (done k) ≡ firsts k
  unfolding tx_names
  done_names zero = refl
  done_names (suc k) =
      ap (λ (n : ℕ). tx_names (done n)) (sym (add-one k)) ∙ ap tx_names (done_next k)
      ∙ names_append (done k ++ tx_event k ∷ []) (after_tx k) (none_named (firsts (k + 1)) (after_tx k) (after_quiet k))
      ∙ tx_push (done k) k (done_names k) ∙ ap firsts (add-one k)

  certified_step : (k : ℕ) → k < number → added (whole (done k)) (map (λ e. statement.Event e) (certified k)) ≡ Ok (whole (done (k + 1)))
  certified_step k low =
      ap (λ (r : Result Schedule Cause). then_read r (λ t. added t (map (λ e. statement.Event e) (after_tx k)))) (event_step (done k) (tx_event k) (tx_may_follow k low (done k) (done_names k)))
      ∙ all_quiet (firsts (k + 1)) (after_tx k) (done k ++ tx_event k ∷ []) (after_quiet k) (tx_push (done k) k (done_names k))
      ∙ ap (λ (es : List Event). Ok (whole es)) (sym (done_next k))

  grouped : (ks : List ℕ) → map (λ e. statement.Event e) (flat_map certified ks) ≡ flat_map (λ k. map (λ e. statement.Event e) (certified k)) ks
  grouped [] = refl
  grouped (k ∷ ks) =
      map-append (λ e. statement.Event e) (certified k) (flat_map certified ks)
      ∙ ap (λ (xs : List Statement). map (λ e. statement.Event e) (certified k) ++ xs) (grouped ks)

  transactions_added : added (whole []) (map (λ e. statement.Event e) (done number)) ≡ Ok (whole (done number))
  transactions_added =
      let e : 0 + number ≡ number = omega arith in
      ap (added (whole [])) (grouped (range_with_len 0 number))
      ∙ chain (λ k. map (λ e. statement.Event e) (certified k)) (λ k. whole (done k)) number certified_step 0 number (omega arith)
      ∙ ap (λ (k : ℕ). Ok (whole (done k))) e

  -- ---- what follows all transactions

  own_quiet : (names : List (List ℕ)) (e : Event) → tx_name e ≡ None → ((es : List Event) → event_check (whole es) e ≡ Ok tt) → IsQuiet names e
  own_quiet names e h g = (h, λ es same. g es)

  order_pick : (k : ℕ) (mark : Bool) → is_among (firsts number) (transaction k) ≡ true → AllByRecursion (IsQuiet (firsts number)) (cond mark (event.Order (transaction k) ∷ event.OrderCommit ∷ []) (event.Order (transaction k) ∷ []))
  unfolding event_check
  order_pick k true there = (order_quiet (firsts number) (transaction k) there, (own_quiet (firsts number) event.OrderCommit refl (λ es. refl), tt))
  order_pick k false there = (order_quiet (firsts number) (transaction k) there, tt)

  orders_quiet : AllByRecursion (IsQuiet (firsts number)) (flat_map ordered (range_with_len 0 number))
  orders_quiet =
      all-each (IsQuiet (firsts number)) ordered number
      (λ k low. order_pick k ((k + 1) % 64 == 0) (among-range transaction k 0 number (omega arith) (omega (arith, low)))) 0 number (omega arith)

  late_quiet : (names : List (List ℕ)) (workers : ℕ) → AllByRecursion (IsQuiet names) (late workers)
  unfolding role_in quad
  late_quiet names workers = (see_quiet names 3 65535 refl, (run_quiet names 3 workers refl, tt))

  ending_quiet : (names : List (List ℕ)) → AllByRecursion (IsQuiet names) ending
  unfolding role_in quad event_check whole
  ending_quiet names =
      (see_quiet names 0 65535 refl, (run_quiet names 0 1 refl, (see_quiet names 1 65535 refl, (run_quiet names 1 1 refl, (see_quiet names 2 65535 refl, (run_quiet names 2 1 refl, (own_quiet names (event.Close 0) refl (λ es. honest 0 refl es), (own_quiet names (event.End 0) refl (λ es. honest 0 refl es), (own_quiet names (event.OrderEnd 0) refl (λ es. known 0 refl), (own_quiet names (event.Close 1) refl (λ es. honest 1 refl es), (own_quiet names (event.End 1) refl (λ es. honest 1 refl es), (own_quiet names (event.OrderEnd 1) refl (λ es. known 1 refl), (own_quiet names (event.Close 2) refl (λ es. honest 2 refl es), (own_quiet names (event.End 2) refl (λ es. honest 2 refl es), (own_quiet names (event.OrderEnd 2) refl (λ es. known 2 refl), (see_quiet names 0 3 refl, (own_quiet names (event.Turn 0) refl (λ es. honest 0 refl es), (see_quiet names 1 3 refl, (own_quiet names (event.Turn 1) refl (λ es. honest 1 refl es), (see_quiet names 2 3 refl, (own_quiet names (event.Turn 2) refl (λ es. honest 2 refl es), (see_quiet names 3 3 refl, (own_quiet names (event.Turn 3) refl (λ es. honest 3 refl es), (own_quiet names (event.Show 0) refl (λ es. honest 0 refl es), tt))))))))))))))))))))))))

  rest_quiet : (workers : ℕ) → AllByRecursion (IsQuiet (firsts number)) (rest number workers)
  rest_quiet workers =
      let names = firsts number in
      all-append (IsQuiet names) (flat_map ordered (range_with_len 0 number)) (late workers ++ ending) orders_quiet
      (all-append (IsQuiet names) (late workers) ending (late_quiet names workers) (ending_quiet names))

  made_order : (workers : ℕ) → added no_lines (statements (made number workers)) ≡ Ok (made number workers)
  unfolding whole
  made_order workers =
      let f : Event → Statement = λ e. statement.Event e in
      let first = map (λ x. statement.Setup x) (items number) in
      ap (λ (xs : List Statement). added no_lines (first ++ xs)) (map-append f (done number) (rest number workers))
      ∙ go_on no_lines (whole []) (Ok (made number workers)) first (map f (done number) ++ map f (rest number workers)) items_added
      (go_on (whole []) (whole (done number)) (Ok (made number workers)) (map f (done number)) (map f (rest number workers)) transactions_added
      (all_quiet (firsts number) (rest number workers) (done number) (rest_quiet workers) (done_names number)))

pub made_in_order : (number workers : ℕ) → number ≤ 10000 → added no_lines (statements (made number workers)) ≡ Ok (made number workers)
made_in_order number workers few = made_order number few workers
