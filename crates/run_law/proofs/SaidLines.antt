-- What is read has its form and its ranges: the lines.
use Rattle.std.proofs.Common.{◌≡◌, ℕ, nat_lt, Bool, true, false, cond, ◌&&◌, ◌||◌, List, [], ◌∷◌, length, Option, Some, None, Result, Ok, Err, codes, option_map, option_and_then, refl, subst, arith, inl, inr}
use Rattle.std.proofs.lemmas.Bool.{and_parts, cases_Bool, ltb-true}
use Rattle.std.specs.List.{list_all, AllByRecursion}
use Rattle.std.specs.Str.{bytes_eq}
use Rattle.schedule_text.specs.declared.cause.Cause.{Cause}
use Rattle.schedule_text.specs.declared.cause.Cause.TheVariants as cause
use Rattle.schedule_text.specs.declared.words.Setup.TheVariants as setup
use Rattle.schedule_text.specs.declared.words.Event.{Event}
use Rattle.schedule_text.specs.declared.words.Event.TheVariants as event
use Rattle.schedule_text.specs.declared.words.InputWord.{InputWord}
use Rattle.schedule_text.specs.declared.statement.Statement.{Statement}
use Rattle.schedule_text.specs.declared.statement.Statement.TheVariants as statement
use Rattle.schedule_text.specs.Bytes.{is_name, is_digits, number_of, number_in, without_mark, with_both, each_of}
use Rattle.schedule_text.specs.Refs.{is_ref, ref_of}
use Rattle.schedule_text.specs.Inputs.{is_hex, hex_of, is_input, input_of}
use Rattle.schedule_text.specs.Commands.{is_command, command_of}
use Rattle.schedule_text.specs.Lines.{then_make, member_number, role_word, member_setup, member_line, coin_line, counter_line, cap_line, writers_line, after_inputs, front_inputs, block_form, block_of, tx_line, member_and_tx, member_alone, member_and_number, tx_and_members, is_origin, origin_of, origins_of, fvote_line, order_tx, order_end, order_line, kept_of, stop_event, stop_line, call_of, raw_value, raw_event, raw_line, ack_event, ack_line, member_event, event_of, statement_of}
use Rattle.run_law.specs.Sayable.{IsName, IsNumber, IsMember, IsBetween, IsInput, IsCommand, IsOrigin, AreMembers, AreBytes, IsEvent, IsStatement}
use Rattle.run_law.proofs.Said.{map_said, then_said, both_said, form_said, make_said, number_said, range_said, member_said, ref_said}
use Rattle.run_law.proofs.SaidWords.{choose, each_said, hex_said, input_said, command_said}
use Rattle.protocol_spec.proofs.Truth.{some_same}

-- a refusal is not an answer
none : {A : Type 0} → (P : Type 0) (c : Cause) (x : A) → Err c ≡ Ok x → P
none P c x h = absurd (cc)

ok_said : {A : Type 0} → (x y : A) (r q : Result A Cause) → r ≡ Ok x → q ≡ Ok y → r ≡ q → x ≡ y
ok_said x y r q a b h = cc

-- ---- set-up lines

pub three : (a b c : Bool) → (a && b && c) ≡ true → (a ≡ true) × (b ≡ true) × (c ≡ true)
three a b c h = let hs = and_parts (a && b) c h in let front = and_parts a b hs.0 in (front.0, front.1, hs.1)

role_said : (stake : List ℕ) (role : Option Bool) (x : Statement) → member_setup stake role ≡ Ok x → IsStatement x
role_said stake None x h = none (IsStatement x) cause.BadForm x h
role_said stake (Some honest) x h =
    let said = form_said (is_digits stake) (option_map (λ n. statement.Setup (setup.Member n honest)) (number_in 1 4294967295 stake)) x h in
    let read = map_said (λ n. statement.Setup (setup.Member n honest)) (number_in 1 4294967295 stake) x said.1 in
    subst IsStatement read.2 (range_said 1 4294967295 stake read.0 read.1)

member_line_said : (words : List (List ℕ)) (x : Statement) → member_line words ≡ Ok x → IsStatement x
unfolding member_line
member_line_said (stake ∷ role ∷ []) x h = role_said stake (role_word role) x h
member_line_said words x h = none (IsStatement x) cause.BadForm x h

coin_line_said : (words : List (List ℕ)) (x : Statement) → coin_line words ≡ Ok x → IsStatement x
unfolding coin_line
coin_line_said (name ∷ owner ∷ balance ∷ []) x h =
    let f = λ (n : ℕ). statement.Setup (setup.Coin name owner n) in
    let said = form_said (is_name name && is_name owner && is_digits balance) (option_map f (number_of balance)) x h in
    let form = three (is_name name) (is_name owner) (is_digits balance) said.0 in
    let read = map_said f (number_of balance) x said.1 in
    subst IsStatement read.2 (form.0, form.1, number_said balance read.0 read.1)
coin_line_said words x h = none (IsStatement x) cause.BadForm x h

counter_line_said : (words : List (List ℕ)) (x : Statement) → counter_line words ≡ Ok x → IsStatement x
unfolding counter_line
counter_line_said (name ∷ value ∷ []) x h =
    let f = λ (n : ℕ). statement.Setup (setup.Counter name n) in
    let said = form_said (is_name name && is_digits value) (option_map f (number_of value)) x h in
    let read = map_said f (number_of value) x said.1 in
    subst IsStatement read.2 ((and_parts (is_name name) (is_digits value) said.0).0, number_said value read.0 read.1)
counter_line_said words x h = none (IsStatement x) cause.BadForm x h

cap_line_said : (words : List (List ℕ)) (x : Statement) → cap_line words ≡ Ok x → IsStatement x
unfolding cap_line
cap_line_said (name ∷ owner ∷ currency ∷ []) x h =
    let f = λ (n : ℕ). statement.Setup (setup.Cap name owner n) in
    let said = form_said (is_name name && is_name owner && is_digits currency) (option_map f (number_in 1 18446744073709551615 currency)) x h in
    let form = three (is_name name) (is_name owner) (is_digits currency) said.0 in
    let read = map_said f (number_in 1 18446744073709551615 currency) x said.1 in
    subst IsStatement read.2 (form.0, form.1, range_said 1 18446744073709551615 currency read.0 read.1)
cap_line_said words x h = none (IsStatement x) cause.BadForm x h

writers_line_said : (words : List (List ℕ)) (x : Statement) → writers_line words ≡ Ok x → IsStatement x
unfolding writers_line
writers_line_said (limit ∷ []) x h =
    let f = λ (n : ℕ). statement.Setup (setup.Writers n) in
    let said = form_said (is_digits limit) (option_map f (number_in 1 65535 limit)) x h in
    let read = map_said f (number_in 1 65535 limit) x said.1 in
    subst IsStatement read.2 (range_said 1 65535 limit read.0 read.1)
writers_line_said words x h = none (IsStatement x) cause.BadForm x h

-- ---- the parts of event lines

member_and_tx_said : (words : List (List ℕ)) (p : ℕ × List ℕ) → member_and_tx words ≡ Ok p → IsMember p.0 × IsName p.1
unfolding member_and_tx
member_and_tx_said (member ∷ tx ∷ []) p h =
    let f : ℕ → ℕ × List ℕ = λ m. (m, tx) in
    let said = form_said (is_digits member && is_name tx) (option_map f (member_number member)) p h in
    let read = map_said f (member_number member) p said.1 in
    subst (λ (q : ℕ × List ℕ). IsMember q.0 × IsName q.1) read.2 (member_said member read.0 read.1, (and_parts (is_digits member) (is_name tx) said.0).1)
member_and_tx_said words p h = none (IsMember p.0 × IsName p.1) cause.BadForm p h

member_alone_said : (words : List (List ℕ)) (m : ℕ) → member_alone words ≡ Ok m → IsMember m
unfolding member_alone
member_alone_said (member ∷ []) m h = member_said member m (form_said (is_digits member) (member_number member) m h).1
member_alone_said words m h = none (IsMember m) cause.BadForm m h

member_and_number_said : (most : ℕ) (words : List (List ℕ)) (p : ℕ × ℕ) → member_and_number most words ≡ Ok p → IsMember p.0 × IsBetween 1 most p.1
unfolding member_and_number
member_and_number_said most (member ∷ number ∷ []) p h =
    let f : ℕ → ℕ → ℕ × ℕ = λ m n. (m, n) in
    let said = form_said (is_digits member && is_digits number) (with_both (member_number member) (number_in 1 most number) f) p h in
    let read = both_said f (member_number member) (number_in 1 most number) p said.1 in
    subst (λ (q : ℕ × ℕ). IsMember q.0 × IsBetween 1 most q.1) read.4 (member_said member read.0 read.2, range_said 1 most number read.1 read.3)
member_and_number_said most words p h = none (IsMember p.0 × IsBetween 1 most p.1) cause.BadForm p h

tx_and_members_said : (words : List (List ℕ)) (p : List ℕ × List ℕ) → tx_and_members words ≡ Ok p → AreMembers p.0 p.1
unfolding tx_and_members
tx_and_members_said (tx ∷ members) p h =
    let f : List ℕ → List ℕ × List ℕ = λ ms. (tx, ms) in
    let said = form_said (is_name tx && nat_lt 0 (length members) && list_all is_digits members) (option_map f (each_of member_number members)) p h in
    let form = three (is_name tx) (nat_lt 0 (length members)) (list_all is_digits members) said.0 in
    let read = map_said f (each_of member_number members) p said.1 in
    let each = each_said IsMember member_number member_said members read.0 read.1 in
    let same = each.1 in
    let some = ltb-true 0 (length members) form.1 in
    subst (λ (q : List ℕ × List ℕ). AreMembers q.0 q.1) read.2 (form.0, omega (arith, same, some), each.0)
tx_and_members_said [] p h = none (AreMembers p.0 p.1) cause.BadForm p h

origin_said : (w : List ℕ) → is_origin w ≡ true → IsOrigin (origin_of w)
origin_said w h = pick (bytes_eq w (codes "-")) h
  where
    pick : (b : Bool) → (b || is_name w) ≡ true → IsOrigin (cond b None (Some w))
    pick true k = tt
    pick false k = k

origins_said : (ws : List (List ℕ)) → list_all is_origin ws ≡ true → AllByRecursion IsOrigin (origins_of ws)
unfolding origins_of
origins_said [] h = tt
origins_said (w ∷ ws) h = let hs = and_parts (is_origin w) (list_all is_origin ws) h in (origin_said w hs.0, origins_said ws hs.1)

front_said : (ws : List (List ℕ)) (xs : List InputWord) → front_inputs ws ≡ Some xs → AllByRecursion IsInput xs
unfolding front_inputs
front_said [] xs h = subst (AllByRecursion IsInput) (some_same [] xs h) tt
front_said (w ∷ ws) xs h =
    elim (cases_Bool (is_input w)) [
      | inl e ↦
          let k = rw e at h in
          let read = both_said (λ y ys. y ∷ ys) (input_of w) (front_inputs ws) xs k in
          subst (AllByRecursion IsInput) read.4 (input_said w read.0 e read.2, front_said ws read.1 read.3)
      | inr e ↦ let k = rw e at h in subst (AllByRecursion IsInput) (some_same [] xs k) tt
    ]

block_said : (name sender : List ℕ) (epoch : ℕ) (words : List (List ℕ)) (e : Event) → IsName name → IsName (without_mark 63 sender) → IsNumber epoch → block_form words ≡ true → block_of name sender epoch words ≡ Some e → IsEvent e
unfolding block_form block_of
block_said name sender epoch (gas ∷ budget ∷ words) e hn hs he form h =
    let forms = three (is_ref gas) (is_digits budget) (list_all is_command (after_inputs words)) form in
    let g = then_said _ (ref_of gas) e h in
    let b = then_said _ (number_of budget) e g.2 in
    let is = then_said _ (front_inputs words) e b.2 in
    let cs = map_said _ (each_of command_of (after_inputs words)) e is.2 in
    subst IsEvent cs.2
    (hn, hs, he, ref_said gas g.0 forms.0 g.1, number_said budget b.0 b.1, front_said words is.0 is.1, (each_said IsCommand command_of command_said (after_inputs words) cs.0 cs.1).0)
block_said name sender epoch words e hn hs he form h = absurd (cc)

tx_line_said : (words : List (List ℕ)) (e : Event) → tx_line words ≡ Ok e → IsEvent e
unfolding tx_line
tx_line_said (name ∷ sender ∷ epoch ∷ words) e h =
    let said = form_said (is_name name && is_name (without_mark 63 sender) && is_digits epoch && block_form words) (option_and_then (λ n. block_of name sender n words) (number_of epoch)) e h in
    let whole = and_parts (is_name name && is_name (without_mark 63 sender) && is_digits epoch) (block_form words) said.0 in
    let form = three (is_name name) (is_name (without_mark 63 sender)) (is_digits epoch) whole.0 in
    let read = then_said (λ n. block_of name sender n words) (number_of epoch) e said.1 in
    block_said name sender read.0 words e form.0 form.1 (number_said epoch read.0 read.1) whole.1 read.2
tx_line_said words e h = none (IsEvent e) cause.BadForm e h

fvote_line_said : (words : List (List ℕ)) (e : Event) → fvote_line words ≡ Ok e → IsEvent e
unfolding fvote_line
fvote_line_said (member ∷ tx ∷ origins) e h =
    let f = λ (m : ℕ). event.Fvote m tx (origins_of origins) in
    let said = form_said (is_digits member && is_name tx && list_all is_origin origins) (option_map f (member_number member)) e h in
    let form = three (is_digits member) (is_name tx) (list_all is_origin origins) said.0 in
    let read = map_said f (member_number member) e said.1 in
    subst IsEvent read.2 (member_said member read.0 read.1, form.1, origins_said origins form.2)
fvote_line_said words e h = none (IsEvent e) cause.BadForm e h

order_tx_said : (tx : List ℕ) (e : Event) → order_tx tx ≡ Ok e → IsEvent e
unfolding order_tx
order_tx_said tx e h =
    elim (cases_Bool (bytes_eq tx (codes "commit"))) [
      | inl b ↦ let k = rw b at h in subst IsEvent (ok_said event.OrderCommit e (Ok event.OrderCommit) (Ok e) refl refl k) tt
      | inr b ↦
          let k = rw b at h in
          let said = form_said (is_name tx) (Some (event.Order tx)) e k in
          subst IsEvent (some_same (event.Order tx) e said.1) (said.0, b)
    ]

order_line_said : (words : List (List ℕ)) (e : Event) → order_line words ≡ Ok e → IsEvent e
unfolding order_line order_end
order_line_said (tx ∷ []) e h = order_tx_said tx e h
order_line_said (word ∷ member ∷ []) e h =
    let f = λ (m : ℕ). event.OrderEnd m in
    let said = form_said (bytes_eq word (codes "end") && is_digits member) (option_map f (member_number member)) e h in
    let read = map_said f (member_number member) e said.1 in
    subst IsEvent read.2 (member_said member read.0 read.1)
order_line_said words e h = none (IsEvent e) cause.BadForm e h

stop_event_said : (member : List ℕ) (kept : Option Bool) (e : Event) → stop_event member kept ≡ Ok e → IsEvent e
stop_event_said member None e h = none (IsEvent e) cause.BadForm e h
stop_event_said member (Some kept) e h =
    let f = λ (m : ℕ). event.Stop m kept in
    let said = form_said (is_digits member) (option_map f (member_number member)) e h in
    let read = map_said f (member_number member) e said.1 in
    subst IsEvent read.2 (member_said member read.0 read.1)

stop_line_said : (words : List (List ℕ)) (e : Event) → stop_line words ≡ Ok e → IsEvent e
unfolding stop_line
stop_line_said (member ∷ kept ∷ []) e h = stop_event_said member (kept_of kept) e h
stop_line_said words e h = none (IsEvent e) cause.BadForm e h

raw_fits : (vote : Bool) (m : ℕ) (bytes : List ℕ) → IsMember m → AreBytes bytes → IsEvent (raw_value vote m bytes)
raw_fits true m bytes hm hb = (hm, hb)
raw_fits false m bytes hm hb = (hm, hb)

raw_event_said : (member : List ℕ) (call : Option Bool) (word : List ℕ) (e : Event) → raw_event member call word ≡ Ok e → IsEvent e
raw_event_said member None word e h = none (IsEvent e) cause.BadForm e h
raw_event_said member (Some vote) word e h =
    let said = form_said (is_digits member && nat_lt 0 (length word) && is_hex word) (with_both (member_number member) (hex_of word) (raw_value vote)) e h in
    let form = three (is_digits member) (nat_lt 0 (length word)) (is_hex word) said.0 in
    let read = both_said (raw_value vote) (member_number member) (hex_of word) e said.1 in
    let bytes = hex_said word read.1 read.3 in
    let twice = bytes.1 in
    let some = ltb-true 0 (length word) form.1 in
    subst IsEvent read.4 (raw_fits vote read.0 read.1 (member_said member read.0 read.2) (omega (arith, twice, some), bytes.0))

raw_line_said : (words : List (List ℕ)) (e : Event) → raw_line words ≡ Ok e → IsEvent e
unfolding raw_line
raw_line_said (member ∷ call ∷ bytes ∷ []) e h = raw_event_said member (call_of call) bytes e h
raw_line_said words e h = none (IsEvent e) cause.BadForm e h

ack_event_said : (member tx : List ℕ) (spoiled : Bool) (e : Event) → ack_event member tx spoiled ≡ Ok e → IsEvent e
unfolding ack_event
ack_event_said member tx spoiled e h =
    let f = λ (m : ℕ). event.Ack m tx spoiled in
    let said = form_said (is_digits member && is_name tx) (option_map f (member_number member)) e h in
    let read = map_said f (member_number member) e said.1 in
    subst IsEvent read.2 (member_said member read.0 read.1, (and_parts (is_digits member) (is_name tx) said.0).1)

ack_line_said : (words : List (List ℕ)) (e : Event) → ack_line words ≡ Ok e → IsEvent e
unfolding ack_line
ack_line_said (member ∷ tx ∷ []) e h = ack_event_said member tx false e h
ack_line_said (member ∷ tx ∷ mark ∷ []) e h =
    choose (IsEvent e) (bytes_eq mark (codes "!")) (ack_event member tx true) (Err cause.BadForm) (Ok e) h (λ k. ack_event_said member tx true e k) (λ k. none (IsEvent e) cause.BadForm e k)
ack_line_said words e h = none (IsEvent e) cause.BadForm e h

-- ---- all lines

one_said : (f : ℕ → Event) (words : List (List ℕ)) (e : Event) → ((m : ℕ) → IsMember m → IsEvent (f m)) → then_make f (member_alone words) ≡ Ok e → IsEvent e
one_said f words e fits h =
    let read = make_said f (member_alone words) e h in
    subst IsEvent read.2 (fits read.0 (member_alone_said words read.0 read.1))

member_event_said : (word : List ℕ) (words : List (List ℕ)) (e : Event) → member_event word words ≡ Ok e → IsEvent e
unfolding member_event
member_event_said word words e h =
    choose (IsEvent e) (bytes_eq word (codes "see")) _ _ (Ok e) h (λ k. let read = make_said (λ p. event.See p.0 p.1) (member_and_number 4294967295 words) e k in subst IsEvent read.2 (member_and_number_said 4294967295 words read.0 read.1))
    (λ h2. choose (IsEvent e) (bytes_eq word (codes "run")) _ _ (Ok e) h2 (λ k. let read = make_said (λ p. event.Run p.0 p.1) (member_and_number 16 words) e k in subst IsEvent read.2 (member_and_number_said 16 words read.0 read.1))
    (λ h3. choose (IsEvent e) (bytes_eq word (codes "close")) _ _ (Ok e) h3 (λ k. one_said (λ m. event.Close m) words e (λ m q. q) k)
    (λ h4. choose (IsEvent e) (bytes_eq word (codes "end")) _ _ (Ok e) h4 (λ k. one_said (λ m. event.End m) words e (λ m q. q) k)
    (λ h5. choose (IsEvent e) (bytes_eq word (codes "turn")) _ _ (Ok e) h5 (λ k. one_said (λ m. event.Turn m) words e (λ m q. q) k)
    (λ h6. choose (IsEvent e) (bytes_eq word (codes "show")) _ _ (Ok e) h6 (λ k. one_said (λ m. event.Show m) words e (λ m q. q) k)
    (λ h7. choose (IsEvent e) (bytes_eq word (codes "restart")) _ _ (Ok e) h7 (λ k. one_said (λ m. event.Restart m) words e (λ m q. q) k)
    (λ h8. choose (IsEvent e) (bytes_eq word (codes "stop")) _ _ (Ok e) h8 (λ k. stop_line_said words e k)
    (λ h9. choose (IsEvent e) (bytes_eq word (codes "raw")) _ _ (Ok e) h9 (λ k. raw_line_said words e k) (λ k. none (IsEvent e) cause.BadForm e k)))))))))

event_said : (word : List ℕ) (words : List (List ℕ)) (e : Event) → event_of word words ≡ Ok e → IsEvent e
unfolding event_of
event_said word words e h =
    choose (IsEvent e) (bytes_eq word (codes "tx")) _ _ (Ok e) h (λ k. tx_line_said words e k)
    (λ h2. choose (IsEvent e) (bytes_eq word (codes "vote")) _ _ (Ok e) h2 (λ k. let read = make_said (λ p. event.Vote p.0 p.1) (member_and_tx words) e k in subst IsEvent read.2 (member_and_tx_said words read.0 read.1))
    (λ h3. choose (IsEvent e) (bytes_eq word (codes "fvote")) _ _ (Ok e) h3 (λ k. fvote_line_said words e k)
    (λ h4. choose (IsEvent e) (bytes_eq word (codes "cert")) _ _ (Ok e) h4 (λ k. let read = make_said (λ p. event.Cert p.0 p.1) (tx_and_members words) e k in subst IsEvent read.2 (tx_and_members_said words read.0 read.1))
    (λ h5. choose (IsEvent e) (bytes_eq word (codes "send")) _ _ (Ok e) h5 (λ k. let read = make_said (λ p. event.Send p.0 p.1) (member_and_tx words) e k in subst IsEvent read.2 (member_and_tx_said words read.0 read.1))
    (λ h6. choose (IsEvent e) (bytes_eq word (codes "order")) _ _ (Ok e) h6 (λ k. order_line_said words e k)
    (λ h7. choose (IsEvent e) (bytes_eq word (codes "ack")) _ _ (Ok e) h7 (λ k. ack_line_said words e k)
    (λ h8. choose (IsEvent e) (bytes_eq word (codes "final")) _ _ (Ok e) h8 (λ k. let read = make_said (λ p. event.Final p.0 p.1) (tx_and_members words) e k in subst IsEvent read.2 (tx_and_members_said words read.0 read.1))
    (λ k. member_event_said word words e k))))))))

pub statement_said : (words : List (List ℕ)) (x : Statement) → statement_of words ≡ Ok x → IsStatement x
unfolding statement_of
statement_said [] x h = none (IsStatement x) cause.BadForm x h
statement_said (word ∷ words) x h =
    choose (IsStatement x) (bytes_eq word (codes "member")) _ _ (Ok x) h (λ k. member_line_said words x k)
    (λ h2. choose (IsStatement x) (bytes_eq word (codes "coin")) _ _ (Ok x) h2 (λ k. coin_line_said words x k)
    (λ h3. choose (IsStatement x) (bytes_eq word (codes "counter")) _ _ (Ok x) h3 (λ k. counter_line_said words x k)
    (λ h4. choose (IsStatement x) (bytes_eq word (codes "cap")) _ _ (Ok x) h4 (λ k. cap_line_said words x k)
    (λ h5. choose (IsStatement x) (bytes_eq word (codes "writers")) _ _ (Ok x) h5 (λ k. writers_line_said words x k)
    (λ k. let read = make_said (λ e. statement.Event e) (event_of word words) x k in subst IsStatement read.2 (event_said word words read.0 read.1))))))
