-- What is read has no list that is longer than the text, and no more events than the text has lines: the lines.
use Rattle.std.proofs.Common.{◌≡◌, ◌==◌, ℕ, suc, ◌+◌, ◌≤◌, nat_lt, Bool, true, false, ◌&&◌, List, [], ◌∷◌, ◌++◌, length, Option, Some, None, Result, Ok, Err, codes, option_map, option_and_then, refl, subst, arith, inl, inr}
use Rattle.std.proofs.lemmas.Bool.{cases_Bool, ltb-false}
use Rattle.std.proofs.lemmas.List.{length-append}
use Rattle.std.specs.List.{AllByRecursion, list_all, list_any}
use Rattle.std.specs.Str.{bytes_eq}
use Rattle.schedule_text.specs.declared.cause.Cause.{Cause}
use Rattle.schedule_text.specs.declared.cause.Cause.TheVariants as cause
use Rattle.schedule_text.specs.declared.words.Schedule.{Schedule}
use Rattle.schedule_text.specs.declared.words.Setup.{Setup}
use Rattle.schedule_text.specs.declared.words.Setup.TheVariants as setup
use Rattle.schedule_text.specs.declared.words.Event.{Event}
use Rattle.schedule_text.specs.declared.words.Event.TheVariants as event
use Rattle.schedule_text.specs.declared.statement.Statement.{Statement}
use Rattle.schedule_text.specs.declared.statement.Statement.TheVariants as statement
use Rattle.schedule_text.specs.Agrees.{no_lines}
use Rattle.schedule_text.specs.Bytes.{is_name, is_digits, number_of, number_in, without_mark, with_both, each_of, is_printable}
use Rattle.schedule_text.specs.Refs.{ref_of}
use Rattle.schedule_text.specs.Inputs.{is_hex, hex_of}
use Rattle.schedule_text.specs.Commands.{command_of}
use Rattle.schedule_text.specs.Known.{Check, after_check, event_check, setup_check, add_line}
use Rattle.schedule_text.specs.Lines.{words_of, if_form, then_make, member_number, role_word, member_setup, after_inputs, front_inputs, block_form, block_of, tx_line, member_and_tx, member_alone, member_and_number, tx_and_members, is_origin, origins_of, fvote_line, order_tx, order_end, order_line, kept_of, stop_event, stop_line, call_of, raw_value, raw_event, raw_line, ack_event, ack_line, member_event, event_of, member_line, coin_line, counter_line, cap_line, writers_line, statement_of}
use Rattle.schedule_text.specs.Schedule.{Refused, longest_text, lines_of, is_skipped, begins_member, add_statement, read_line, or_refuse, read_lines, schedule_of}
use Rattle.run_law.proofs.Ranges.{all-append}
use Rattle.run_law.proofs.Said.{map_said, then_said, both_said, form_said, make_said}
use Rattle.run_law.proofs.SaidWhole.{same}
use Rattle.run_law.proofs.SaidWords.{choose}
use Rattle.run_law.proofs.Texts.{most_words, IsShortCommand, IsShortEvent, AreWords, more-words, parts-short, inputs-short, after-short, each-short, each-many, command-short}
use Rattle.protocol_spec.proofs.Truth.{some_same}

none : {A : Type 0} → (P : Type 0) (c : Cause) (x : A) → Err c ≡ Ok x → P
none P c x h = absurd (cc)

-- the words of a line after the first: at most this many, each of less bytes
abbrev Words : ℕ → List (List ℕ) → Type 0
Words n ws = (length ws ≤ suc n) × AreWords n ws

tail-words : (n : ℕ) (w : List ℕ) (ws : List (List ℕ)) → Words n (w ∷ ws) → Words n ws
tail-words n w ws h = let few = h.0 in (omega (arith, few), h.1.1)

-- ---- lines with lists

block-short : (n : ℕ) (name sender : List ℕ) (epoch : ℕ) (words : List (List ℕ)) (e : Event) → Words n words → block_of name sender epoch words ≡ Some e → IsShortEvent (suc n) e
unfolding block_of
block-short n name sender epoch (gas ∷ budget ∷ words) e within h =
    let g = then_said _ (ref_of gas) e h in
    let b = then_said _ (number_of budget) e g.2 in
    let is = then_said _ (front_inputs words) e b.2 in
    let cs = map_said _ (each_of command_of (after_inputs words)) e is.2 in
    let le : n ≤ suc n = omega arith in
    let few = within.0 in
    let inputs = inputs-short (suc n) words is.0 (more-words n (suc n) words le within.1.1.1) is.1 in
    let fewer = inputs.0 in
    let behind = after-short n words within.1.1.1 in
    let commands = each-short n (IsShortCommand (suc n)) command_of (command-short n) (after_inputs words) cs.0 behind.1 cs.1 in
    let same = commands.0 in
    let rest = behind.0 in
    subst (IsShortEvent (suc n)) cs.2 (omega (arith, few, fewer), inputs.1, omega (arith, few, same, rest), commands.1)
block-short n name sender epoch words e within h = absurd (cc)

tx-short : (n : ℕ) (words : List (List ℕ)) (e : Event) → Words n words → tx_line words ≡ Ok e → IsShortEvent (suc n) e
unfolding tx_line
tx-short n (name ∷ sender ∷ epoch ∷ words) e within h =
    let said = form_said (is_name name && is_name (without_mark 63 sender) && is_digits epoch && block_form words) (option_and_then (λ m. block_of name sender m words) (number_of epoch)) e h in
    let read = then_said (λ m. block_of name sender m words) (number_of epoch) e said.1 in
    let few = within.0 in
    block-short n name sender read.0 words e (omega (arith, few), within.1.1.1.1) read.2
tx-short n words e within h = none (IsShortEvent (suc n) e) cause.BadForm e h

origins-many : (ws : List (List ℕ)) → length (origins_of ws) ≡ length ws
unfolding origins_of
origins-many [] = refl
origins-many (w ∷ ws) = let same = origins-many ws in omega (arith, same)

fvote-short : (n : ℕ) (words : List (List ℕ)) (e : Event) → Words n words → fvote_line words ≡ Ok e → IsShortEvent (suc n) e
unfolding fvote_line
fvote-short n (member ∷ tx ∷ origins) e within h =
    let f = λ (m : ℕ). event.Fvote m tx (origins_of origins) in
    let said = form_said (is_digits member && is_name tx && list_all is_origin origins) (option_map f (member_number member)) e h in
    let read = map_said f (member_number member) e said.1 in
    let few = within.0 in
    let same = origins-many origins in
    let short : length (origins_of origins) ≤ suc n = omega (arith, few, same) in
    subst (IsShortEvent (suc n)) read.2 short
fvote-short n words e within h = none (IsShortEvent (suc n) e) cause.BadForm e h

members-short : (n : ℕ) (words : List (List ℕ)) (p : List ℕ × List ℕ) → Words n words → tx_and_members words ≡ Ok p → length p.1 ≤ suc n
unfolding tx_and_members
members-short n (tx ∷ members) p within h =
    let f : List ℕ → List ℕ × List ℕ = λ ms. (tx, ms) in
    let said = form_said (is_name tx && nat_lt 0 (length members) && list_all is_digits members) (option_map f (each_of member_number members)) p h in
    let read = map_said f (each_of member_number members) p said.1 in
    let same = each-many member_number members read.0 read.1 in
    let few = within.0 in
    let short : length read.0 ≤ suc n = omega (arith, same, few) in
    subst (λ (q : List ℕ × List ℕ). length q.1 ≤ suc n) read.2 short
members-short n [] p within h = none (length p.1 ≤ suc n) cause.BadForm p h

-- ---- lines without

module _ (n : ℕ) where
  abbrev Short : Event → Type 0
  Short e = IsShortEvent n e

  make-short : {A : Type 0} → (f : A → Event) (r : Result A Cause) (e : Event) → ((a : A) → Short (f a)) → then_make f r ≡ Ok e → Short e
  make-short f r e fits h = let read = make_said f r e h in subst (λ (d : Event). Short d) read.2 (fits read.0)

  form-short : (b : Bool) (f : ℕ → Event) (o : Option ℕ) (e : Event) → ((m : ℕ) → Short (f m)) → if_form b (option_map f o) ≡ Ok e → Short e
  form-short b f o e fits h =
      let said = form_said b (option_map f o) e h in
      let read = map_said f o e said.1 in
      subst (λ (d : Event). Short d) read.2 (fits read.0)

  order-tx-short : (tx : List ℕ) (e : Event) → order_tx tx ≡ Ok e → Short e
  unfolding order_tx
  order-tx-short tx e h =
      elim (cases_Bool (bytes_eq tx (codes "commit"))) [
        | inl b ↦ let k = rw b at h in subst (λ (d : Event). Short d) (same event.OrderCommit e k) tt
        | inr b ↦
            let k = rw b at h in
            let said = form_said (is_name tx) (Some (event.Order tx)) e k in
            subst (λ (d : Event). Short d) (some_same (event.Order tx) e said.1) tt
      ]
    where
      same : (d c : Event) → then_make (λ (x : Event). x) (Ok d) ≡ Ok c → d ≡ c
      same d c h = cc

  order-short : (words : List (List ℕ)) (e : Event) → order_line words ≡ Ok e → Short e
  unfolding order_line order_end
  order-short (tx ∷ []) e h = order-tx-short tx e h
  order-short (word ∷ member ∷ []) e h = form-short (bytes_eq word (codes "end") && is_digits member) (λ m. event.OrderEnd m) (member_number member) e (λ m. tt) h
  order-short words e h = none (Short e) cause.BadForm e h

  stop-event-short : (member : List ℕ) (kept : Option Bool) (e : Event) → stop_event member kept ≡ Ok e → Short e
  stop-event-short member None e h = none (Short e) cause.BadForm e h
  stop-event-short member (Some kept) e h = form-short (is_digits member) (λ m. event.Stop m kept) (member_number member) e (λ m. tt) h

  stop-short : (words : List (List ℕ)) (e : Event) → stop_line words ≡ Ok e → Short e
  unfolding stop_line
  stop-short (member ∷ kept ∷ []) e h = stop-event-short member (kept_of kept) e h
  stop-short words e h = none (Short e) cause.BadForm e h

  raw-value-short : (vote : Bool) (m : ℕ) (bytes : List ℕ) → Short (raw_value vote m bytes)
  raw-value-short true m bytes = tt
  raw-value-short false m bytes = tt

  raw-event-short : (member : List ℕ) (call : Option Bool) (word : List ℕ) (e : Event) → raw_event member call word ≡ Ok e → Short e
  raw-event-short member None word e h = none (Short e) cause.BadForm e h
  raw-event-short member (Some vote) word e h =
      let said = form_said (is_digits member && nat_lt 0 (length word) && is_hex word) (with_both (member_number member) (hex_of word) (raw_value vote)) e h in
      let read = both_said (raw_value vote) (member_number member) (hex_of word) e said.1 in
      subst (λ (d : Event). Short d) read.4 (raw-value-short vote read.0 read.1)

  raw-short : (words : List (List ℕ)) (e : Event) → raw_line words ≡ Ok e → Short e
  unfolding raw_line
  raw-short (member ∷ call ∷ bytes ∷ []) e h = raw-event-short member (call_of call) bytes e h
  raw-short words e h = none (Short e) cause.BadForm e h

  ack-event-short : (member tx : List ℕ) (spoiled : Bool) (e : Event) → ack_event member tx spoiled ≡ Ok e → Short e
  unfolding ack_event
  ack-event-short member tx spoiled e h = form-short (is_digits member && is_name tx) (λ m. event.Ack m tx spoiled) (member_number member) e (λ m. tt) h

  ack-short : (words : List (List ℕ)) (e : Event) → ack_line words ≡ Ok e → Short e
  unfolding ack_line
  ack-short (member ∷ tx ∷ []) e h = ack-event-short member tx false e h
  ack-short (member ∷ tx ∷ mark ∷ []) e h =
      choose (Short e) (bytes_eq mark (codes "!")) (ack_event member tx true) (Err cause.BadForm) (Ok e) h (λ k. ack-event-short member tx true e k) (λ k. none (Short e) cause.BadForm e k)
  ack-short words e h = none (Short e) cause.BadForm e h

  member-event-short : (word : List ℕ) (words : List (List ℕ)) (e : Event) → member_event word words ≡ Ok e → Short e
  unfolding member_event
  member-event-short word words e h =
      choose (Short e) (bytes_eq word (codes "see")) _ _ (Ok e) h (λ k. make-short (λ p. event.See p.0 p.1) (member_and_number 4294967295 words) e (λ p. tt) k)
      (λ h2. choose (Short e) (bytes_eq word (codes "run")) _ _ (Ok e) h2 (λ k. make-short (λ p. event.Run p.0 p.1) (member_and_number 16 words) e (λ p. tt) k)
      (λ h3. choose (Short e) (bytes_eq word (codes "close")) _ _ (Ok e) h3 (λ k. make-short (λ m. event.Close m) (member_alone words) e (λ m. tt) k)
      (λ h4. choose (Short e) (bytes_eq word (codes "end")) _ _ (Ok e) h4 (λ k. make-short (λ m. event.End m) (member_alone words) e (λ m. tt) k)
      (λ h5. choose (Short e) (bytes_eq word (codes "turn")) _ _ (Ok e) h5 (λ k. make-short (λ m. event.Turn m) (member_alone words) e (λ m. tt) k)
      (λ h6. choose (Short e) (bytes_eq word (codes "show")) _ _ (Ok e) h6 (λ k. make-short (λ m. event.Show m) (member_alone words) e (λ m. tt) k)
      (λ h7. choose (Short e) (bytes_eq word (codes "restart")) _ _ (Ok e) h7 (λ k. make-short (λ m. event.Restart m) (member_alone words) e (λ m. tt) k)
      (λ h8. choose (Short e) (bytes_eq word (codes "stop")) _ _ (Ok e) h8 (λ k. stop-short words e k)
      (λ h9. choose (Short e) (bytes_eq word (codes "raw")) _ _ (Ok e) h9 (λ k. raw-short words e k) (λ k. none (Short e) cause.BadForm e k)))))))))

-- ---- all lines

cert-short : (n : ℕ) (words : List (List ℕ)) (e : Event) → Words n words → then_make (λ p. event.Cert p.0 p.1) (tx_and_members words) ≡ Ok e → IsShortEvent (suc n) e
cert-short n words e within h =
    let read = make_said (λ p. event.Cert p.0 p.1) (tx_and_members words) e h in
    subst (IsShortEvent (suc n)) read.2 (members-short n words read.0 within read.1)

event-short : (n : ℕ) (word : List ℕ) (words : List (List ℕ)) (e : Event) → Words n words → event_of word words ≡ Ok e → IsShortEvent (suc n) e
unfolding event_of
event-short n word words e within h =
    choose (IsShortEvent (suc n) e) (bytes_eq word (codes "tx")) _ _ (Ok e) h (λ k. tx-short n words e within k)
    (λ h2. choose (IsShortEvent (suc n) e) (bytes_eq word (codes "vote")) _ _ (Ok e) h2 (λ k. make-short (suc n) (λ p. event.Vote p.0 p.1) (member_and_tx words) e (λ p. tt) k)
    (λ h3. choose (IsShortEvent (suc n) e) (bytes_eq word (codes "fvote")) _ _ (Ok e) h3 (λ k. fvote-short n words e within k)
    (λ h4. choose (IsShortEvent (suc n) e) (bytes_eq word (codes "cert")) _ _ (Ok e) h4 (λ k. cert-short n words e within k)
    (λ h5. choose (IsShortEvent (suc n) e) (bytes_eq word (codes "send")) _ _ (Ok e) h5 (λ k. make-short (suc n) (λ p. event.Send p.0 p.1) (member_and_tx words) e (λ p. tt) k)
    (λ h6. choose (IsShortEvent (suc n) e) (bytes_eq word (codes "order")) _ _ (Ok e) h6 (λ k. order-short (suc n) words e k)
    (λ h7. choose (IsShortEvent (suc n) e) (bytes_eq word (codes "ack")) _ _ (Ok e) h7 (λ k. ack-short (suc n) words e k)
    (λ h8. choose (IsShortEvent (suc n) e) (bytes_eq word (codes "final")) _ _ (Ok e) h8 (λ k. make-short (suc n) (λ p. event.Final p.0 p.1) (tx_and_members words) e (λ p. tt) k)
    (λ k. member-event-short (suc n) word words e k))))))))

-- the statement of a line makes no event whose lists are longer
abbrev IsShortStatement : ℕ → Statement → Type 0
IsShortStatement n (statement.Setup x) = Unit {0}
IsShortStatement n (statement.Event e) = IsShortEvent n e

setup-form : (n : ℕ) (b : Bool) (f : ℕ → Setup) (o : Option ℕ) (x : Statement) → if_form b (option_map (λ m. statement.Setup (f m)) o) ≡ Ok x → IsShortStatement n x
setup-form n b f o x h =
    let said = form_said b (option_map (λ m. statement.Setup (f m)) o) x h in
    let read = map_said (λ m. statement.Setup (f m)) o x said.1 in
    subst (IsShortStatement n) read.2 tt

role-short : (n : ℕ) (stake : List ℕ) (role : Option Bool) (x : Statement) → member_setup stake role ≡ Ok x → IsShortStatement n x
role-short n stake None x h = none (IsShortStatement n x) cause.BadForm x h
role-short n stake (Some honest) x h = setup-form n (is_digits stake) (λ m. setup.Member m honest) (number_in 1 4294967295 stake) x h

member-short : (n : ℕ) (words : List (List ℕ)) (x : Statement) → member_line words ≡ Ok x → IsShortStatement n x
unfolding member_line
member-short n (stake ∷ role ∷ []) x h = role-short n stake (role_word role) x h
member-short n words x h = none (IsShortStatement n x) cause.BadForm x h

coin-short : (n : ℕ) (words : List (List ℕ)) (x : Statement) → coin_line words ≡ Ok x → IsShortStatement n x
unfolding coin_line
coin-short n (name ∷ owner ∷ balance ∷ []) x h = setup-form n (is_name name && is_name owner && is_digits balance) (λ m. setup.Coin name owner m) (number_of balance) x h
coin-short n words x h = none (IsShortStatement n x) cause.BadForm x h

counter-short : (n : ℕ) (words : List (List ℕ)) (x : Statement) → counter_line words ≡ Ok x → IsShortStatement n x
unfolding counter_line
counter-short n (name ∷ value ∷ []) x h = setup-form n (is_name name && is_digits value) (λ m. setup.Counter name m) (number_of value) x h
counter-short n words x h = none (IsShortStatement n x) cause.BadForm x h

cap-short : (n : ℕ) (words : List (List ℕ)) (x : Statement) → cap_line words ≡ Ok x → IsShortStatement n x
unfolding cap_line
cap-short n (name ∷ owner ∷ currency ∷ []) x h = setup-form n (is_name name && is_name owner && is_digits currency) (λ m. setup.Cap name owner m) (number_in 1 18446744073709551615 currency) x h
cap-short n words x h = none (IsShortStatement n x) cause.BadForm x h

writers-short : (n : ℕ) (words : List (List ℕ)) (x : Statement) → writers_line words ≡ Ok x → IsShortStatement n x
unfolding writers_line
writers-short n (limit ∷ []) x h = setup-form n (is_digits limit) (λ m. setup.Writers m) (number_in 1 65535 limit) x h
writers-short n words x h = none (IsShortStatement n x) cause.BadForm x h

statement-short : (n : ℕ) (words : List (List ℕ)) (x : Statement) → Words n words → statement_of words ≡ Ok x → IsShortStatement (suc n) x
unfolding statement_of
statement-short n [] x within h = none (IsShortStatement (suc n) x) cause.BadForm x h
statement-short n (word ∷ words) x within h =
    choose (IsShortStatement (suc n) x) (bytes_eq word (codes "member")) _ _ (Ok x) h (λ k. member-short (suc n) words x k)
    (λ h2. choose (IsShortStatement (suc n) x) (bytes_eq word (codes "coin")) _ _ (Ok x) h2 (λ k. coin-short (suc n) words x k)
    (λ h3. choose (IsShortStatement (suc n) x) (bytes_eq word (codes "counter")) _ _ (Ok x) h3 (λ k. counter-short (suc n) words x k)
    (λ h4. choose (IsShortStatement (suc n) x) (bytes_eq word (codes "cap")) _ _ (Ok x) h4 (λ k. cap-short (suc n) words x k)
    (λ h5. choose (IsShortStatement (suc n) x) (bytes_eq word (codes "writers")) _ _ (Ok x) h5 (λ k. writers-short (suc n) words x k)
    (λ k. let read = make_said (λ e. statement.Event e) (event_of word words) x k in subst (IsShortStatement (suc n)) read.2 (event-short n word words read.0 (tail-words n word words within) read.1))))))

-- ---- schedules

after-same : (c : Check) (v u : Schedule) → after_check c v ≡ Ok u → v ≡ u
after-same (Ok tt) v u h = same v u h
after-same (Err c) v u h = absurd (cc)

-- the events are short, and this many lines at most stand after them
record Reads (n most : ℕ) (t : Schedule) : Type 0 where
  short : AllByRecursion (IsShortEvent n) t.events
  few : length t.events ≤ most

more : (n most : ℕ) (t : Schedule) → Reads n most t → Reads n (suc most) t
more n most t r = let few = r.few in record { short = r.short; few = omega (arith, few) }

add-short : (n most : ℕ) (t u : Schedule) (x : Statement) → Reads n most t → IsShortStatement n x → add_line t x ≡ Ok u → Reads n (suc most) u
unfolding add_line
add-short n most t u (statement.Setup x) r is h = subst (Reads n (suc most)) (after-same (setup_check t x) (record t { setup = t.setup ++ x ∷ [] }) u h) (record { short = r.short; few = (more n most t r).few })
add-short n most t u (statement.Event e) r is h =
    let few = r.few in
    let push = length-append t.events (e ∷ []) in
    subst (Reads n (suc most)) (after-same (event_check t e) (record t { events = t.events ++ e ∷ [] }) u h)
    (record { short = all-append (IsShortEvent n) t.events (e ∷ []) r.short (is, tt); few = omega (arith, few, push) })

said-short : (n most : ℕ) (t u : Schedule) (line : List ℕ) (x : Result Statement Cause) → statement_of (words_of line) ≡ x → length line ≤ n → Reads (suc n) most t → add_statement t x ≡ Ok u → Reads (suc n) (suc most) u
said-short n most t u line (Err c) e le r h = absurd (cc)
said-short n most t u line (Ok x) e le r h =
    let parts = parts-short (λ b. b == 32) line in
    let few = parts.0 in
    add-short (suc n) most t u x r (statement-short n (words_of line) x (omega (arith, few, le), more-words (length line) n (words_of line) le parts.1) e) h

line-short : (n most : ℕ) (t u : Schedule) (line : List ℕ) → length line ≤ n → Reads (suc n) most t → read_line t line ≡ Ok u → Reads (suc n) (suc most) u
unfolding read_line
line-short n most t u line le r h =
    elim (cases_Bool (is_skipped line)) [
      | inl e ↦ let k = rw e at h in subst (Reads (suc n) (suc most)) (same t u k) (more (suc n) most t r)
      | inr e ↦
          let k = rw e at h in
          choose (Reads (suc n) (suc most) u) (list_all is_printable line) (add_statement t (statement_of (words_of line))) (Err cause.BadByte) (Ok u) k
          (λ m. said-short n most t u line (statement_of (words_of line)) refl le r m) (λ m. absurd (cc))
    ]

abbrev end_ok : Schedule → Result Schedule Refused
end_ok s = Ok s

end-same : (s t : Schedule) → end_ok s ≡ end_ok t → s ≡ t
end-same s t h = cc

go-on : (k : ℕ) (s : Schedule) (lines : List (List ℕ)) (r : Result Schedule Cause) → or_refuse r k (λ u. read_lines (k + 1) u lines) ≡ Ok s → (u : Schedule) × (r ≡ Ok u) × (read_lines (k + 1) u lines ≡ Ok s)
go-on k s lines (Ok u) h = (u, refl, h)
go-on k s lines (Err c) h = absurd (cc)

lines-short : (n most k : ℕ) (t s : Schedule) (lines : List (List ℕ)) → AreWords n lines → Reads (suc n) most t → read_lines k t lines ≡ Ok s → Reads (suc n) (most + length lines) s
unfolding read_lines
lines-short n most k t s [] short r h =
    let all : most ≡ most + 0 = omega arith in
    subst (λ (m : ℕ). Reads (suc n) m s) all (subst (Reads (suc n) most) (end-same t s h) r)
lines-short n most k t s (line ∷ lines) short r h =
    let next = go-on k s lines (read_line t line) h in
    let all : suc most + length lines ≡ most + suc (length lines) = omega arith in
    subst (λ (m : ℕ). Reads (suc n) m s) all (lines-short n (suc most) (k + 1) next.0 s lines short.1 (line-short n most t next.0 line short.0 r next.1) next.2)

abbrev Whole : Schedule → Type 0
Whole s = AllByRecursion (IsShortEvent most_words) s.events × (length s.events ≤ most_words)

empty-short : (n : ℕ) → Reads n 0 no_lines
empty-short n = record { short = tt; few = omega arith }

lines-whole : (text : List ℕ) (s : Schedule) → length text ≤ longest_text → read_lines 1 no_lines (lines_of text) ≡ Ok s → Whole s
lines-whole text s le h =
    let parts = parts-short (λ b. b == 10) text in
    let few = parts.0 in
    let read = lines-short longest_text 0 1 no_lines s (lines_of text) (more-words (length text) longest_text (lines_of text) le parts.1) (empty-short (suc longest_text)) h in
    let events = read.few in
    (read.short, omega (arith, few, events, le))

pub text-short : (text : List ℕ) (s : Schedule) → schedule_of text ≡ Ok s → AllByRecursion (IsShortEvent most_words) s.events × (length s.events ≤ most_words)
unfolding schedule_of
text-short text s h =
    elim (cases_Bool (nat_lt longest_text (length text))) [
      | inl e ↦ let k = rw e at h in absurd (cc)
      | inr e ↦
          let k = rw e at h in
          choose (Whole s) (list_any begins_member (lines_of text)) _ _ (Ok s) k (λ m. lines-whole text s (ltb-false longest_text (length text) e) m) (λ m. absurd (cc))
    ]
