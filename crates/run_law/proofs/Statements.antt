-- The words of each line, and that they are read as the line.
use Rattle.std.proofs.Common.{◌≡◌, ◌==◌, ℕ, ◌<◌, ◌^◌, nat_le, nat_lt, Bool, true, false, ◌&&◌, List, [], ◌∷◌, ◌++◌, map, length, Option, Some, None, Result, Ok, codes, decimal, option_map, refl, ap, ◌∙◌, arith}
use Rattle.std.proofs.lemmas.Bool.{and_parts, and_from, and_left, or_right, leb-true, lt-ltb, ne_eqb}
use Rattle.std.specs.List.{list_all, AllByRecursion}
use Rattle.std.specs.Str.{bytes_eq}
use Rattle.hex.specs.Hex.{encode_lower, lower_digits}
use Rattle.hex.proofs.HexLemmas.{length-encode_with}
use Rattle.schedule_text.specs.declared.cause.Cause.{Cause}
use Rattle.schedule_text.specs.declared.words.Setup.{Setup}
use Rattle.schedule_text.specs.declared.words.Setup.TheVariants as setup
use Rattle.schedule_text.specs.declared.words.Event.{Event}
use Rattle.schedule_text.specs.declared.words.Event.TheVariants as event
use Rattle.schedule_text.specs.declared.words.RefWord.{RefWord}
use Rattle.schedule_text.specs.declared.words.InputWord.{InputWord}
use Rattle.schedule_text.specs.declared.words.CommandWord.{CommandWord}
use Rattle.schedule_text.specs.declared.statement.Statement.{Statement}
use Rattle.schedule_text.specs.declared.statement.Statement.TheVariants as statement
use Rattle.schedule_text.specs.Bytes.{is_lower, is_name, is_name_byte, is_digits, without_mark, each_of, with_both}
use Rattle.schedule_text.specs.Refs.{is_ref}
use Rattle.schedule_text.specs.Inputs.{is_hex, hex_of}
use Rattle.schedule_text.specs.Commands.{is_command, command_of}
use Rattle.schedule_text.specs.Lines.{if_form, then_make, member_number, member_line, coin_line, counter_line, cap_line, writers_line, after_inputs, front_inputs, block_form, block_of, tx_line, member_and_tx, member_alone, member_and_number, tx_and_members, is_origin, origin_of, origins_of, fvote_line, order_tx, order_end, order_line, stop_line, raw_value, raw_line, ack_event, ack_line, member_event, event_of, statement_of}
use Rattle.run_law.specs.Canonical.{sign, ref_word, input_word, command_word, origin_word, setup_words, event_words, statement_words}
use Rattle.run_law.specs.Sayable.{IsName, IsNumber, IsMember, IsBetween, IsByte, IsRef, IsInput, IsCommand, IsOrigin, AreMembers, AreBytes, IsSetup, IsEvent, IsStatement}
use Rattle.run_law.proofs.Pieces.{Passes, EachPasses, wider, passes-append, mark_read, mark_taken}
use Rattle.run_law.proofs.Numbers.{decimal_form, number_read, range_read, member_read}
use Rattle.run_law.proofs.Words.{is_word_byte, name_in_word, input_in_word, call_in_word, ref_in_input, is_ref_byte, is_input_byte, is_call_byte, name_passes, number_passes, ref_passes, ref_is, ref_read, hex_names, hex_is, hex_read, input_passes, input_is, input_read}
use Rattle.run_law.proofs.Calls.{command_passes, command_is, command_read, not_input}
use Rattle.protocol_spec.proofs.Truth.{both_true}

-- ---- the bytes of the words

-- every word is of such bytes
abbrev AreWords : List (List ℕ) → Type 0
AreWords ws = AllByRecursion (λ w. Passes is_word_byte w) ws

each_passes : (ws : List (List ℕ)) → AreWords ws → EachPasses is_word_byte ws
each_passes [] h = refl
each_passes (w ∷ ws) h = and_from (list_all is_word_byte w) (list_all (λ v. list_all is_word_byte v) ws) h.0 (each_passes ws h.1)

name_word : (w : List ℕ) → IsName w → Passes is_word_byte w
name_word w h = wider is_name_byte is_word_byte name_in_word w (name_passes w h)

number_word : (n : ℕ) → IsNumber n → Passes is_word_byte (decimal n)
number_word n h = wider is_name_byte is_word_byte name_in_word (decimal n) (number_passes n h)

wide : (m : ℕ) → IsMember m → IsNumber m
wide m h = omega arith

member_word : (m : ℕ) → IsMember m → Passes is_word_byte (decimal m)
member_word m h = number_word m (wide m h)

within : (low high n : ℕ) → high < 2 ^ 64 → IsBetween low high n → IsNumber n
within low high n small h = let top = h.1 in omega (arith, small, top)

ref_in_word : (r : RefWord) → IsRef r → Passes is_word_byte (ref_word r)
ref_in_word r h = wider is_ref_byte is_word_byte (λ b k. input_in_word b (ref_in_input b k)) (ref_word r) (ref_passes r h)

hex_word : (bytes : List ℕ) → AllByRecursion IsByte bytes → Passes is_word_byte (encode_lower bytes)
hex_word bytes h = wider is_name_byte is_word_byte name_in_word (encode_lower bytes) (hex_names bytes h)

commands_pass : (xs : List CommandWord) → AllByRecursion IsCommand xs → AreWords (map command_word xs)
commands_pass [] h = tt
commands_pass (x ∷ xs) h = (wider is_call_byte is_word_byte call_in_word (command_word x) (command_passes x h.0), commands_pass xs h.1)

block_passes : (is : List InputWord) (cs : List CommandWord) → AllByRecursion IsInput is → AllByRecursion IsCommand cs → AreWords (map input_word is ++ map command_word cs)
block_passes [] cs hi hc = commands_pass cs hc
block_passes (i ∷ is) cs hi hc = (wider is_input_byte is_word_byte input_in_word (input_word i) (input_passes i hi.0), block_passes is cs hi.1 hc)

members_pass : (ms : List ℕ) → AllByRecursion IsMember ms → AreWords (map decimal ms)
members_pass [] h = tt
members_pass (m ∷ ms) h = (member_word m h.0, members_pass ms h.1)

origin_passes : (o : Option (List ℕ)) → IsOrigin o → Passes is_word_byte (origin_word o)
origin_passes None h = refl
origin_passes (Some tx) h = name_word tx h

origins_pass : (os : List (Option (List ℕ))) → AllByRecursion IsOrigin os → AreWords (map origin_word os)
origins_pass [] h = tt
origins_pass (o ∷ os) h = (origin_passes o h.0, origins_pass os h.1)

sender_passes : (sender : List ℕ) (b : Bool) → IsName sender → Passes is_word_byte (sender ++ sign b (63 ∷ []))
sender_passes sender true h = passes-append is_word_byte sender (63 ∷ []) (name_word sender h) refl
sender_passes sender false h = passes-append is_word_byte sender [] (name_word sender h) refl

setup_passes : (x : Setup) → IsSetup x → AreWords (setup_words x)
setup_passes (setup.Member stake true) h = (refl, (number_word stake (within 1 4294967295 stake (omega arith) h), (refl, tt)))
setup_passes (setup.Member stake false) h = (refl, (number_word stake (within 1 4294967295 stake (omega arith) h), (refl, tt)))
setup_passes (setup.Coin name owner balance) h = (refl, (name_word name h.0, (name_word owner h.1, (number_word balance h.2, tt))))
setup_passes (setup.Counter name value) h = (refl, (name_word name h.0, (number_word value h.1, tt)))
setup_passes (setup.Cap name owner currency) h =
    (refl, (name_word name h.0, (name_word owner h.1, (number_word currency (within 1 18446744073709551615 currency (omega arith) h.2), tt))))
setup_passes (setup.Writers limit) h = (refl, (number_word limit (within 1 65535 limit (omega arith) h), tt))

event_passes : (e : Event) → IsEvent e → AreWords (event_words e)
event_passes (event.Tx name sender spoiled epoch gas budget inputs commands) h =
    (refl, (name_word name h.0, (sender_passes sender spoiled h.1, (number_word epoch h.2, (ref_in_word gas h.3, (number_word budget h.4, block_passes inputs commands h.5 h.6))))))
event_passes (event.Vote member tx) h = (refl, (member_word member h.0, (name_word tx h.1, tt)))
event_passes (event.Fvote member tx origins) h = (refl, (member_word member h.0, (name_word tx h.1, origins_pass origins h.2)))
event_passes (event.Cert tx members) h = (refl, (name_word tx h.0, members_pass members h.2))
event_passes (event.Send member tx) h = (refl, (member_word member h.0, (name_word tx h.1, tt)))
event_passes (event.Order tx) h = (refl, (name_word tx h.0, tt))
event_passes (event.OrderEnd member) h = (refl, (refl, (member_word member h, tt)))
event_passes event.OrderCommit h = (refl, (refl, tt))
event_passes (event.See member entries) h = (refl, (member_word member h.0, (number_word entries (within 1 4294967295 entries (omega arith) h.1), tt)))
event_passes (event.Run member workers) h = (refl, (member_word member h.0, (number_word workers (within 1 16 workers (omega arith) h.1), tt)))
event_passes (event.Close member) h = (refl, (member_word member h, tt))
event_passes (event.End member) h = (refl, (member_word member h, tt))
event_passes (event.Turn member) h = (refl, (member_word member h, tt))
event_passes (event.Show member) h = (refl, (member_word member h, tt))
event_passes (event.Stop member true) h = (refl, (member_word member h, (refl, tt)))
event_passes (event.Stop member false) h = (refl, (member_word member h, (refl, tt)))
event_passes (event.Restart member) h = (refl, (member_word member h, tt))
event_passes (event.RawVote member bytes) h = (refl, (member_word member h.0, (refl, (hex_word bytes h.1.1, tt))))
event_passes (event.RawHold member bytes) h = (refl, (member_word member h.0, (refl, (hex_word bytes h.1.1, tt))))
event_passes (event.Ack member tx true) h = (refl, (member_word member h.0, (name_word tx h.1, (refl, tt))))
event_passes (event.Ack member tx false) h = (refl, (member_word member h.0, (name_word tx h.1, tt)))
event_passes (event.Final tx members) h = (refl, (name_word tx h.0, members_pass members h.2))

pub statement_passes : (x : Statement) → IsStatement x → EachPasses is_word_byte (statement_words x)
statement_passes (statement.Setup x) h = each_passes (setup_words x) (setup_passes x h)
statement_passes (statement.Event e) h = each_passes (event_words e) (event_passes e h)

-- ---- the readings

form_read : {A : Type 0} → (b : Bool) (o : Option A) (a : A) → b ≡ true → o ≡ Some a → if_form b o ≡ Ok a
form_read b o a h e = rw (h, e) refl

three : (a b c : Bool) → a ≡ true → b ≡ true → c ≡ true → (a && b && c) ≡ true
three a b c h k l = and_from (a && b) c (and_from a b h k) l

setup_read : (x : Setup) → IsSetup x → statement_of (setup_words x) ≡ Ok (statement.Setup x)
unfolding statement_of member_line coin_line counter_line cap_line writers_line
setup_read (setup.Member stake true) h =
    let fits = within 1 4294967295 stake (omega arith) h in
    form_read _ _ _ (decimal_form stake fits) (ap (option_map (λ n. statement.Setup (setup.Member n true))) (range_read 1 4294967295 stake fits h.0 h.1))
setup_read (setup.Member stake false) h =
    let fits = within 1 4294967295 stake (omega arith) h in
    form_read _ _ _ (decimal_form stake fits) (ap (option_map (λ n. statement.Setup (setup.Member n false))) (range_read 1 4294967295 stake fits h.0 h.1))
setup_read (setup.Coin name owner balance) h =
    form_read _ _ _ (three (is_name name) (is_name owner) (is_digits (decimal balance)) h.0 h.1 (decimal_form balance h.2))
    (ap (option_map (λ n. statement.Setup (setup.Coin name owner n))) (number_read balance h.2))
setup_read (setup.Counter name value) h =
    form_read _ _ _ (both_true (is_name name) (is_digits (decimal value)) h.0 (decimal_form value h.1))
    (ap (option_map (λ n. statement.Setup (setup.Counter name n))) (number_read value h.1))
setup_read (setup.Cap name owner currency) h =
    let fits = within 1 18446744073709551615 currency (omega arith) h.2 in
    form_read _ _ _ (three (is_name name) (is_name owner) (is_digits (decimal currency)) h.0 h.1 (decimal_form currency fits))
    (ap (option_map (λ n. statement.Setup (setup.Cap name owner n))) (range_read 1 18446744073709551615 currency fits h.2.0 h.2.1))
setup_read (setup.Writers limit) h =
    let fits = within 1 65535 limit (omega arith) h in
    form_read _ _ _ (decimal_form limit fits) (ap (option_map (λ n. statement.Setup (setup.Writers n))) (range_read 1 65535 limit fits h.0 h.1))

member_form : (m : ℕ) → IsMember m → is_digits (decimal m) ≡ true
member_form m h = decimal_form m (wide m h)

member_and_tx_read : (m : ℕ) (tx : List ℕ) → IsMember m → IsName tx → member_and_tx (decimal m ∷ tx ∷ []) ≡ Ok (m, tx)
unfolding member_and_tx
member_and_tx_read m tx hm ht =
    form_read _ _ _ (both_true (is_digits (decimal m)) (is_name tx) (member_form m hm) ht) (ap (option_map (λ n. (n, tx))) (member_read m hm))

member_alone_read : (m : ℕ) → IsMember m → member_alone (decimal m ∷ []) ≡ Ok m
unfolding member_alone
member_alone_read m h = form_read _ _ _ (member_form m h) (member_read m h)

member_and_number_read : (most m n : ℕ) → most < 2 ^ 64 → IsMember m → IsBetween 1 most n → member_and_number most (decimal m ∷ decimal n ∷ []) ≡ Ok (m, n)
unfolding member_and_number
member_and_number_read most m n small hm hn =
    let fits = within 1 most n small hn in
    form_read _ _ _ (both_true (is_digits (decimal m)) (is_digits (decimal n)) (member_form m hm) (decimal_form n fits))
    (rw (member_read m hm, range_read 1 most n fits hn.0 hn.1) refl)

members_form : (ms : List ℕ) → AllByRecursion IsMember ms → list_all is_digits (map decimal ms) ≡ true
members_form [] h = refl
members_form (m ∷ ms) h = both_true (is_digits (decimal m)) (list_all is_digits (map decimal ms)) (member_form m h.0) (members_form ms h.1)

members_read : (ms : List ℕ) → AllByRecursion IsMember ms → each_of member_number (map decimal ms) ≡ Some ms
unfolding each_of
members_read [] h = refl
members_read (m ∷ ms) h = rw (member_read m h.0, members_read ms h.1) refl

some_members : (ms : List ℕ) → 0 < length ms → nat_lt 0 (length (map decimal ms)) ≡ true
some_members [] h = absurd (omega arith)
some_members (m ∷ ms) h = lt-ltb 0 (length (decimal m ∷ map decimal ms)) (omega arith)

tx_and_members_read : (tx : List ℕ) (ms : List ℕ) → AreMembers tx ms → tx_and_members (tx ∷ map decimal ms) ≡ Ok (tx, ms)
unfolding tx_and_members
tx_and_members_read tx ms h =
    form_read _ _ _ (three (is_name tx) (nat_lt 0 (length (map decimal ms))) (list_all is_digits (map decimal ms)) h.0 (some_members ms h.1) (members_form ms h.2))
    (ap (option_map (λ ns. (tx, ns))) (members_read ms h.2))

-- ---- origins

no_dash : (w : List ℕ) → IsName w → bytes_eq w (codes "-") ≡ false
unfolding is_name
no_dash [] h = refl
no_dash (b ∷ bs) h =
    let hs = and_parts (is_lower b && nat_le (length bs) 15) (list_all is_name_byte bs) h in
    let front = and_parts (is_lower b) (nat_le (length bs) 15) hs.0 in
    let lower = and_parts (nat_le 97 b) (nat_le b 122) front.0 in
    let above = leb-true 97 b lower.0 in
    and_left (b == 45) (bytes_eq bs []) (ne_eqb b 45 (λ e. omega (arith, e, above)))

origin_is : (o : Option (List ℕ)) → IsOrigin o → is_origin (origin_word o) ≡ true
origin_is None h = refl
origin_is (Some tx) h = or_right (bytes_eq tx (codes "-")) (is_name tx) h

origin_read : (o : Option (List ℕ)) → IsOrigin o → origin_of (origin_word o) ≡ o
origin_read None h = refl
origin_read (Some tx) h = rw (no_dash tx h) refl

origins_are : (os : List (Option (List ℕ))) → AllByRecursion IsOrigin os → list_all is_origin (map origin_word os) ≡ true
origins_are [] h = refl
origins_are (o ∷ os) h = both_true (is_origin (origin_word o)) (list_all is_origin (map origin_word os)) (origin_is o h.0) (origins_are os h.1)

origins_read : (os : List (Option (List ℕ))) → AllByRecursion IsOrigin os → origins_of (map origin_word os) ≡ os
unfolding origins_of
origins_read [] h = refl
origins_read (o ∷ os) h = rw (origin_read o h.0, origins_read os h.1) refl

-- ---- the block of a transaction

commands_are : (cs : List CommandWord) → AllByRecursion IsCommand cs → list_all is_command (map command_word cs) ≡ true
commands_are [] h = refl
commands_are (c ∷ cs) h = both_true (is_command (command_word c)) (list_all is_command (map command_word cs)) (command_is c h.0) (commands_are cs h.1)

commands_read : (cs : List CommandWord) → AllByRecursion IsCommand cs → each_of command_of (map command_word cs) ≡ Some cs
unfolding each_of
commands_read [] h = refl
commands_read (c ∷ cs) h = rw (command_read c h.0, commands_read cs h.1) refl

after_read : (is : List InputWord) (cs : List CommandWord) → AllByRecursion IsInput is → AllByRecursion IsCommand cs → after_inputs (map input_word is ++ map command_word cs) ≡ map command_word cs
unfolding after_inputs
after_read [] [] hi hc = refl
after_read [] (c ∷ cs) hi hc = rw (not_input c hc.0) refl
after_read (i ∷ is) cs hi hc = rw (input_is i hi.0) (after_read is cs hi.1 hc)

front_read : (is : List InputWord) (cs : List CommandWord) → AllByRecursion IsInput is → AllByRecursion IsCommand cs → front_inputs (map input_word is ++ map command_word cs) ≡ Some is
unfolding front_inputs
front_read [] [] hi hc = refl
front_read [] (c ∷ cs) hi hc = rw (not_input c hc.0) refl
front_read (i ∷ is) cs hi hc = rw (input_is i hi.0, input_read i hi.0, front_read is cs hi.1 hc) refl

block_is : (gas : RefWord) (budget : ℕ) (is : List InputWord) (cs : List CommandWord) → IsRef gas → IsNumber budget → AllByRecursion IsInput is → AllByRecursion IsCommand cs
    → block_form (ref_word gas ∷ decimal budget ∷ (map input_word is ++ map command_word cs)) ≡ true
unfolding block_form
block_is gas budget is cs hg hb hi hc =
    three (is_ref (ref_word gas)) (is_digits (decimal budget)) (list_all is_command (after_inputs (map input_word is ++ map command_word cs)))
    (ref_is gas hg) (decimal_form budget hb) (ap (list_all is_command) (after_read is cs hi hc) ∙ commands_are cs hc)

block_read : (name sender : List ℕ) (spoiled : Bool) (epoch : ℕ) (gas : RefWord) (budget : ℕ) (is : List InputWord) (cs : List CommandWord)
    → IsName sender → IsRef gas → IsNumber budget → AllByRecursion IsInput is → AllByRecursion IsCommand cs
    → block_of name (sender ++ sign spoiled (63 ∷ [])) epoch (ref_word gas ∷ decimal budget ∷ (map input_word is ++ map command_word cs)) ≡ Some (event.Tx name sender spoiled epoch gas budget is cs)
unfolding block_of
block_read name sender spoiled epoch gas budget is cs hs hg hb hi hc =
    rw (
      ref_read gas hg,
      number_read budget hb,
      front_read is cs hi hc,
      after_read is cs hi hc,
      commands_read cs hc,
      mark_taken is_name_byte 63 refl sender spoiled (name_passes sender hs),
      mark_read is_name_byte 63 refl sender spoiled (name_passes sender hs),
    )
    refl

tx_read : (name sender : List ℕ) (spoiled : Bool) (epoch : ℕ) (gas : RefWord) (budget : ℕ) (is : List InputWord) (cs : List CommandWord)
    → IsName name → IsName sender → IsNumber epoch → IsRef gas → IsNumber budget → AllByRecursion IsInput is → AllByRecursion IsCommand cs
    → tx_line (name ∷ (sender ++ sign spoiled (63 ∷ [])) ∷ decimal epoch ∷ ref_word gas ∷ decimal budget ∷ (map input_word is ++ map command_word cs)) ≡ Ok (event.Tx name sender spoiled epoch gas budget is cs)
unfolding tx_line
tx_read name sender spoiled epoch gas budget is cs hn hs he hg hb hi hc =
    let words = ref_word gas ∷ decimal budget ∷ (map input_word is ++ map command_word cs) in
    let bare = mark_taken is_name_byte 63 refl sender spoiled (name_passes sender hs) in
    form_read _ _ _
    (both_true (is_name name && is_name (without_mark 63 (sender ++ sign spoiled (63 ∷ []))) && is_digits (decimal epoch)) (block_form words)
    (three (is_name name) (is_name (without_mark 63 (sender ++ sign spoiled (63 ∷ [])))) (is_digits (decimal epoch)) hn (ap is_name bare ∙ hs) (decimal_form epoch he))
    (block_is gas budget is cs hg hb hi hc))
    (rw (number_read epoch he) (block_read name sender spoiled epoch gas budget is cs hs hg hb hi hc))

-- ---- the event lines

-- the line of an event, by what its words are
made : (r : Result Event Cause) (e : Event) → r ≡ Ok e → then_make (λ e. statement.Event e) r ≡ Ok (statement.Event e)
made r e h = rw h refl

-- of a member and a transaction, of a member, of a member and a number, of a transaction and members
made_pair : {A B : Type 0} → (f : A × B → Event) (r : Result (A × B) Cause) (p : A × B) → r ≡ Ok p → then_make (λ e. statement.Event e) (then_make f r) ≡ Ok (statement.Event (f p))
made_pair f r p h = rw h refl

made_one : (f : ℕ → Event) (r : Result ℕ Cause) (m : ℕ) → r ≡ Ok m → then_make (λ e. statement.Event e) (then_make f r) ≡ Ok (statement.Event (f m))
made_one f r m h = rw h refl

raw_read : (vote : Bool) (member : ℕ) (bytes : List ℕ) → IsMember member → AreBytes bytes
    → if_form (is_digits (decimal member) && nat_lt 0 (length (encode_lower bytes)) && is_hex (encode_lower bytes)) (with_both (member_number (decimal member)) (hex_of (encode_lower bytes)) (raw_value vote)) ≡ Ok (raw_value vote member bytes)
raw_read vote member bytes hm hb =
    let long = length-encode_with lower_digits bytes in
    let some = hb.0 in
    form_read _ _ _ (three (is_digits (decimal member)) (nat_lt 0 (length (encode_lower bytes))) (is_hex (encode_lower bytes)) (member_form member hm) (lt-ltb 0 (length (encode_lower bytes)) (omega (arith, long, some))) (hex_is bytes hb.1))
    (rw (member_read member hm, hex_read bytes hb.1) refl)

event_read : (e : Event) → IsEvent e → statement_of (event_words e) ≡ Ok (statement.Event e)
unfolding statement_of event_of member_event fvote_line order_line order_tx order_end stop_line raw_line ack_line ack_event
event_read (event.Tx name sender spoiled epoch gas budget inputs commands) h =
    made _ (event.Tx name sender spoiled epoch gas budget inputs commands) (tx_read name sender spoiled epoch gas budget inputs commands h.0 h.1 h.2 h.3 h.4 h.5 h.6)
event_read (event.Vote member tx) h = made_pair (λ p. event.Vote p.0 p.1) _ (member, tx) (member_and_tx_read member tx h.0 h.1)
event_read (event.Fvote member tx origins) h =
    made _ (event.Fvote member tx origins)
    (form_read _ _ _ (three (is_digits (decimal member)) (is_name tx) (list_all is_origin (map origin_word origins)) (member_form member h.0) h.1 (origins_are origins h.2))
    (rw (member_read member h.0, origins_read origins h.2) refl))
event_read (event.Cert tx members) h = made_pair (λ p. event.Cert p.0 p.1) _ (tx, members) (tx_and_members_read tx members h)
event_read (event.Send member tx) h = made_pair (λ p. event.Send p.0 p.1) _ (member, tx) (member_and_tx_read member tx h.0 h.1)
event_read (event.Order tx) h = made _ (event.Order tx) (rw h.1 (form_read (is_name tx) (Some (event.Order tx)) (event.Order tx) h.0 refl))
event_read (event.OrderEnd member) h =
    made _ (event.OrderEnd member) (form_read (is_digits (decimal member)) _ (event.OrderEnd member) (member_form member h) (ap (option_map (λ m. event.OrderEnd m)) (member_read member h)))
event_read event.OrderCommit h = refl
event_read (event.See member entries) h = made_pair (λ p. event.See p.0 p.1) _ (member, entries) (member_and_number_read 4294967295 member entries (omega arith) h.0 h.1)
event_read (event.Run member workers) h = made_pair (λ p. event.Run p.0 p.1) _ (member, workers) (member_and_number_read 16 member workers (omega arith) h.0 h.1)
event_read (event.Close member) h = made_one (λ m. event.Close m) _ member (member_alone_read member h)
event_read (event.End member) h = made_one (λ m. event.End m) _ member (member_alone_read member h)
event_read (event.Turn member) h = made_one (λ m. event.Turn m) _ member (member_alone_read member h)
event_read (event.Show member) h = made_one (λ m. event.Show m) _ member (member_alone_read member h)
event_read (event.Stop member true) h =
    made _ (event.Stop member true) (form_read (is_digits (decimal member)) _ (event.Stop member true) (member_form member h) (ap (option_map (λ m. event.Stop m true)) (member_read member h)))
event_read (event.Stop member false) h =
    made _ (event.Stop member false) (form_read (is_digits (decimal member)) _ (event.Stop member false) (member_form member h) (ap (option_map (λ m. event.Stop m false)) (member_read member h)))
event_read (event.Restart member) h = made_one (λ m. event.Restart m) _ member (member_alone_read member h)
event_read (event.RawVote member bytes) h = made _ (event.RawVote member bytes) (raw_read true member bytes h.0 h.1)
event_read (event.RawHold member bytes) h = made _ (event.RawHold member bytes) (raw_read false member bytes h.0 h.1)
event_read (event.Ack member tx true) h =
    made _ (event.Ack member tx true) (form_read _ _ (event.Ack member tx true) (both_true (is_digits (decimal member)) (is_name tx) (member_form member h.0) h.1) (ap (option_map (λ m. event.Ack m tx true)) (member_read member h.0)))
event_read (event.Ack member tx false) h =
    made _ (event.Ack member tx false) (form_read _ _ (event.Ack member tx false) (both_true (is_digits (decimal member)) (is_name tx) (member_form member h.0) h.1) (ap (option_map (λ m. event.Ack m tx false)) (member_read member h.0)))
event_read (event.Final tx members) h = made_pair (λ p. event.Final p.0 p.1) _ (tx, members) (tx_and_members_read tx members h)

pub statement_read : (x : Statement) → IsStatement x → statement_of (statement_words x) ≡ Ok x
statement_read (statement.Setup x) h = setup_read x h
statement_read (statement.Event e) h = event_read e h
