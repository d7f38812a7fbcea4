-- A text of the lines is read as the schedule.
use Rattle.std.proofs.Common.{◌≡◌, ◌==◌, ℕ, ◌+◌, ◌≤◌, true, false, List, [], ◌∷◌, ◌++◌, map, length, Result, Ok, Err, refl, ap, ◌∙◌, append_assoc}
use Rattle.std.proofs.lemmas.Bool.{or_right, le-ltb}
use Rattle.std.specs.List.{list_any, slice_split, AllByRecursion}
use Rattle.schedule_text.specs.declared.cause.Cause.{Cause}
use Rattle.schedule_text.specs.declared.words.Schedule.{Schedule}
use Rattle.schedule_text.specs.declared.words.Setup.{Setup}
use Rattle.schedule_text.specs.declared.words.Setup.TheVariants as setup
use Rattle.schedule_text.specs.declared.words.Event.{Event}
use Rattle.schedule_text.specs.declared.words.Event.TheVariants as event
use Rattle.schedule_text.specs.declared.statement.Statement.{Statement}
use Rattle.schedule_text.specs.declared.statement.Statement.TheVariants as statement
use Rattle.schedule_text.specs.Agrees.{no_lines}
use Rattle.schedule_text.specs.Bytes.{is_printable}
use Rattle.schedule_text.specs.Known.{add_line}
use Rattle.schedule_text.specs.Lines.{words_of}
use Rattle.schedule_text.specs.Schedule.{longest_text, lines_of, is_skipped, begins_member, read_line, or_refuse, read_lines, schedule_of}
use Rattle.run_law.specs.Canonical.{statement_words, line_text, statements, text_of, canonical}
use Rattle.run_law.specs.Sayable.{IsStatement, then_read, added, makes_member, IsSayable}
use Rattle.run_law.proofs.Pieces.{Passes, EachPasses, passes-join, split_yes, split_join}
use Rattle.run_law.proofs.SaidWhole.{same}
use Rattle.run_law.proofs.Words.{is_word_byte, word_printable}
use Rattle.run_law.proofs.Statements.{statement_passes, statement_read}

-- no line begins with `#`
setup_unskipped : (x : Setup) → is_skipped (line_text (statement.Setup x)) ≡ false
setup_unskipped (setup.Member stake honest) = refl
setup_unskipped (setup.Coin name owner balance) = refl
setup_unskipped (setup.Counter name value) = refl
setup_unskipped (setup.Cap name owner currency) = refl
setup_unskipped (setup.Writers limit) = refl

event_unskipped : (e : Event) → is_skipped (line_text (statement.Event e)) ≡ false
event_unskipped event.OrderCommit = refl
event_unskipped e = refl

unskipped : (x : Statement) → is_skipped (line_text x) ≡ false
unskipped (statement.Setup x) = setup_unskipped x
unskipped (statement.Event e) = event_unskipped e

printable : (x : Statement) → IsStatement x → Passes is_printable (line_text x)
printable x h = passes-join is_word_byte is_printable word_printable 32 refl (statement_words x) (statement_passes x h)

setup_split : (x : Setup) → EachPasses is_word_byte (statement_words (statement.Setup x)) → words_of (line_text (statement.Setup x)) ≡ statement_words (statement.Setup x)
setup_split (setup.Member stake honest) h = split_join is_word_byte 32 refl _ _ h
setup_split (setup.Coin name owner balance) h = split_join is_word_byte 32 refl _ _ h
setup_split (setup.Counter name value) h = split_join is_word_byte 32 refl _ _ h
setup_split (setup.Cap name owner currency) h = split_join is_word_byte 32 refl _ _ h
setup_split (setup.Writers limit) h = split_join is_word_byte 32 refl _ _ h

event_split : (e : Event) → EachPasses is_word_byte (statement_words (statement.Event e)) → words_of (line_text (statement.Event e)) ≡ statement_words (statement.Event e)
event_split event.OrderCommit h = split_join is_word_byte 32 refl _ _ h
event_split e h = split_join is_word_byte 32 refl _ _ h

split : (x : Statement) → IsStatement x → words_of (line_text x) ≡ statement_words x
split (statement.Setup x) h = setup_split x (statement_passes (statement.Setup x) h)
split (statement.Event e) h = event_split e (statement_passes (statement.Event e) h)

-- a line is read as its statement
pub line_read : (s : Schedule) (x : Statement) → IsStatement x → read_line s (line_text x) ≡ add_line s x
unfolding read_line
line_read s x h = rw (unskipped x, printable x h, split x h, statement_read x h) refl

-- the text is cut into its lines, and what follows the last line feed
lines_split : (xs : List Statement) → AllByRecursion IsStatement xs → lines_of (text_of xs) ≡ map line_text xs ++ [] ∷ []
lines_split [] h = refl
lines_split (x ∷ xs) h =
    ap (λ (t : List ℕ). slice_split (λ b. b == 10) t) (append_assoc (line_text x) (10 ∷ []) (text_of xs))
    ∙ split_yes is_printable 10 refl (line_text x) (text_of xs) (printable x h.0) ∙ ap (λ (t : List (List ℕ)). line_text x ∷ t) (lines_split xs h.1)

go_on : (n : ℕ) (t : Schedule) (xs : List Statement) (lines : List (List ℕ)) (r : Result Schedule Cause)
    → ((u : Schedule) → added u xs ≡ Ok t → read_lines (n + 1) u lines ≡ Ok t)
    → then_read r (λ u. added u xs) ≡ Ok t → or_refuse r n (λ u. read_lines (n + 1) u lines) ≡ Ok t
go_on n t xs lines (Ok u) ih h = ih u h
go_on n t xs lines (Err c) ih h = absurd (cc)

read_all : (n : ℕ) (s t : Schedule) (xs : List Statement) → AllByRecursion IsStatement xs → added s xs ≡ Ok t → read_lines n s (map line_text xs ++ [] ∷ []) ≡ Ok t
unfolding read_lines read_line
read_all n s t [] h order = ap (λ (u : Schedule). Ok u) (same s t order)
read_all n s t (x ∷ xs) h order =
    ap (λ r. or_refuse r n (λ u. read_lines (n + 1) u (map line_text xs ++ [] ∷ []))) (line_read s x h.0)
    ∙ go_on n t xs (map line_text xs ++ [] ∷ []) (add_line s x) (λ u k. read_all (n + 1) u t xs h.1 k) order

member_found : (xs : List Setup) (rest : List Statement) → list_any makes_member xs ≡ true
    → list_any begins_member (map line_text (map (λ x. statement.Setup x) xs ++ rest) ++ [] ∷ []) ≡ true
member_found [] rest h = absurd (cc)
member_found (setup.Member stake honest ∷ xs) rest h = refl
member_found (x ∷ xs) rest h =
    or_right (begins_member (line_text (statement.Setup x))) (list_any begins_member (map line_text (map (λ y. statement.Setup y) xs ++ rest) ++ [] ∷ [])) (member_found xs rest h)

pub reads_back : (s : Schedule) → IsSayable s → length (canonical s) ≤ longest_text → schedule_of (canonical s) ≡ Ok s
unfolding schedule_of
reads_back s h short =
    let lines = lines_split (statements s) h.words in
    let fits = le-ltb longest_text (length (canonical s)) short in
    rw (fits, lines, member_found s.setup (map (λ e. statement.Event e) s.events) h.members) (read_all 1 no_lines s (statements s) h.words h.order)
