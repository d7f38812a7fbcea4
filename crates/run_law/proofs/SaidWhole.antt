-- What is read is a schedule that a text can say.
use Rattle.std.proofs.Common.{◌≡◌, ◌==◌, ℕ, ◌+◌, nat_lt, Bool, true, false, cond, ◌||◌, List, [], ◌∷◌, ◌++◌, map, length, take, drop, Option, Some, None, option_map, Result, Ok, Err, codes, refl, ap, sym, ◌∙◌, subst, arith, append_assoc, inl, inr, take-append-drop}
use Rattle.std.proofs.lemmas.Bool.{cases_Bool, eqb-true, or_cases}
use Rattle.std.proofs.lemmas.List.{map-append}
use Rattle.std.proofs.lemmas.List.Folds.{list_any-append}
use Rattle.std.proofs.lemmas.Slice.Eq.{bytes_eq-Decides}
use Rattle.std.specs.List.{AllByRecursion, list_all, list_any}
use Rattle.schedule_text.specs.declared.cause.Cause.{Cause}
use Rattle.schedule_text.specs.declared.cause.Cause.TheVariants as cause
use Rattle.schedule_text.specs.declared.words.Schedule.{Schedule}
use Rattle.schedule_text.specs.declared.words.Setup.{Setup}
use Rattle.schedule_text.specs.declared.words.Setup.TheVariants as setup
use Rattle.schedule_text.specs.declared.words.Event.{Event}
use Rattle.schedule_text.specs.declared.statement.Statement.{Statement}
use Rattle.schedule_text.specs.declared.statement.Statement.TheVariants as statement
use Rattle.schedule_text.specs.Agrees.{no_lines}
use Rattle.schedule_text.specs.Bytes.{is_digits, number_in, is_printable}
use Rattle.schedule_text.specs.Known.{Check, check, also, after_check, setup_kind_check, setup_check, event_check, add_line}
use Rattle.schedule_text.specs.Lines.{words_of, role_word, member_setup, member_line, statement_of}
use Rattle.schedule_text.specs.Schedule.{Refused, longest_text, lines_of, is_skipped, begins_member, add_statement, read_line, or_refuse, read_lines, schedule_of}
use Rattle.run_law.specs.Canonical.{statements}
use Rattle.run_law.specs.Sayable.{IsStatement, added, makes_member, IsSayable}
use Rattle.run_law.proofs.Added.{go_on}
use Rattle.run_law.proofs.Ranges.{all-append}
use Rattle.run_law.proofs.Said.{map_said, form_said}
use Rattle.run_law.proofs.SaidWords.{choose}
use Rattle.run_law.proofs.SaidLines.{statement_said}

-- the statement makes a member
abbrev makes : Statement → Bool
makes (statement.Setup x) = makes_member x
makes (statement.Event e) = false

record IsGood (t : Schedule) : Type 0 where
  words : AllByRecursion IsStatement (statements t)
  order : added no_lines (statements t) ≡ Ok t

-- ---- one more line

abbrev read_ok : Schedule → Result Schedule Cause
read_ok s = Ok s

pub same : (s t : Schedule) → read_ok s ≡ read_ok t → s ≡ t
same s t h = cc

pub after_said : (c : Check) (v u : Schedule) → after_check c v ≡ Ok u → (c ≡ Ok tt) × (v ≡ u)
after_said (Ok tt) v u h = (refl, same v u h)
after_said (Err c) v u h = absurd (cc)

first_said : (a b : Check) → also a b ≡ Ok tt → a ≡ Ok tt
first_said (Ok u) b h = refl
first_said (Err c) b h = absurd (cc)

pub check_said : (b : Bool) (c : Cause) → check b c ≡ Ok tt → b ≡ true
check_said true c h = refl
check_said false c h = absurd (cc)

empty : (es : List Event) → (length es == 0) ≡ true → es ≡ []
empty [] h = refl
empty (e ∷ es) h = let none = eqb-true (length (e ∷ es)) 0 h in absurd (omega (arith, none))

-- what the schedule is after a line, and that the line stands last
setup_push : (t u : Schedule) (x : Setup) → add_line t (statement.Setup x) ≡ Ok u → (t.setup ++ x ∷ [] ≡ u.setup) × (statements u ≡ statements t ++ statement.Setup x ∷ [])
unfolding add_line setup_check
setup_push t u x h =
    let said = after_said _ (record t { setup = t.setup ++ x ∷ [] }) u h in
    let none = empty t.events (check_said (length t.events == 0) cause.LateSetup (first_said _ (setup_kind_check t x) said.0)) in
    let f : Setup → Statement = λ y. statement.Setup y in
    let g : Event → Statement = λ e. statement.Event e in (
      ap (λ (v : Schedule). v.setup) said.1,
      ap statements (sym said.1) ∙ ap (λ (es : List Event). map f (t.setup ++ x ∷ []) ++ map g es) none
          ∙ ap (λ (xs : List Statement). xs ++ []) (map-append f t.setup (x ∷ []))
          ∙ append_assoc (map f t.setup) (statement.Setup x ∷ []) [] ∙ ap (λ (xs : List Statement). map f t.setup ++ xs) refl
          ∙ sym (ap (λ (es : List Event). (map f t.setup ++ map g es) ++ statement.Setup x ∷ []) none ∙ append_assoc (map f t.setup) [] (statement.Setup x ∷ [])),
    )

event_push : (t u : Schedule) (e : Event) → add_line t (statement.Event e) ≡ Ok u → (t.setup ≡ u.setup) × (statements u ≡ statements t ++ statement.Event e ∷ [])
unfolding add_line
event_push t u e h =
    let said = after_said (event_check t e) (record t { events = t.events ++ e ∷ [] }) u h in
    let f : Setup → Statement = λ y. statement.Setup y in
    let g : Event → Statement = λ d. statement.Event d in (
      ap (λ (v : Schedule). v.setup) said.1,
      ap statements (sym said.1) ∙ ap (λ (xs : List Statement). map f t.setup ++ xs) (map-append g t.events (e ∷ []))
          ∙ sym (append_assoc (map f t.setup) (map g t.events) (statement.Event e ∷ [])),
    )

last_added : (t u : Schedule) (x : Statement) → add_line t x ≡ Ok u → added t (x ∷ []) ≡ Ok u
last_added t u x h = rw h refl

pushed : (t u : Schedule) (x : Statement) → IsGood t → IsStatement x → add_line t x ≡ Ok u → statements u ≡ statements t ++ x ∷ [] → IsGood u
pushed t u x good fits h e = record {
  words = subst (AllByRecursion IsStatement) (sym e) (all-append IsStatement (statements t) (x ∷ []) good.words (fits, tt));
  order = ap (added no_lines) e ∙ go_on no_lines t (Ok u) (statements t) (x ∷ []) good.order (last_added t u x h);
}

-- a member stays, and one more is found
any_push : (xs : List Setup) (x : Setup) → list_any makes_member (xs ++ x ∷ []) ≡ (list_any makes_member xs || (makes_member x || false))
any_push xs x = list_any-append makes_member xs (x ∷ [])

record Steps (t u : Schedule) (x : Statement) : Type 0 where
  good : IsGood u
  stays : list_any makes_member t.setup ≡ true → list_any makes_member u.setup ≡ true
  found : makes x ≡ true → list_any makes_member u.setup ≡ true

stays_or : (a b : Bool) → a ≡ true → (a || (b || false)) ≡ true
stays_or a b h = rw h refl

found_or : (a b : Bool) → b ≡ true → (a || (b || false)) ≡ true
found_or true b h = refl
found_or false b h = rw h refl

steps : (t u : Schedule) (x : Statement) → IsGood t → IsStatement x → add_line t x ≡ Ok u → Steps t u x
steps t u (statement.Setup x) good fits h =
    let push = setup_push t u x h in
    let any : (list_any makes_member t.setup || (makes_member x || false)) ≡ list_any makes_member u.setup = sym (any_push t.setup x) ∙ ap (list_any makes_member) push.0 in
    record {
      good = pushed t u (statement.Setup x) good fits h push.1;
      stays = λ k. sym any ∙ stays_or (list_any makes_member t.setup) (makes_member x) k;
      found = λ k. sym any ∙ found_or (list_any makes_member t.setup) (makes_member x) k;
    }
steps t u (statement.Event e) good fits h =
    let push = event_push t u e h in
    record {
      good = pushed t u (statement.Event e) good fits h push.1;
      stays = λ k. ap (list_any makes_member) (sym push.0) ∙ k;
      found = λ k. absurd (cc);
    }

-- ---- a line that begins with `member` makes one

role_makes : (stake : List ℕ) (role : Bool) (x : Statement) → member_setup stake (Some role) ≡ Ok x → makes x ≡ true
role_makes stake role x h =
    let f : ℕ → Statement = λ n. statement.Setup (setup.Member n role) in
    let said = form_said (is_digits stake) (option_map f (number_in 1 4294967295 stake)) x h in
    let read = map_said f (number_in 1 4294967295 stake) x said.1 in
    subst (λ (y : Statement). makes y ≡ true) read.2 refl

setup_makes : (stake : List ℕ) (role : Option Bool) (x : Statement) → member_setup stake role ≡ Ok x → makes x ≡ true
setup_makes stake None x h = absurd (cc)
setup_makes stake (Some role) x h = role_makes stake role x h

member_makes : (words : List (List ℕ)) (x : Statement) → member_line words ≡ Ok x → makes x ≡ true
unfolding member_line
member_makes (stake ∷ role ∷ []) x h = setup_makes stake (role_word role) x h
member_makes words x h = absurd (cc)

head_makes : (rest : List ℕ) (x : Statement) → statement_of (words_of (codes "member " ++ rest)) ≡ Ok x → makes x ≡ true
unfolding statement_of
head_makes rest x h = member_makes (words_of rest) x h

line_head : (line : List ℕ) → begins_member line ≡ true → codes "member " ++ drop 7 line ≡ line
line_head line h =
    let e = (bytes_eq-Decides (codes "member ") (take 7 line)).0 h in
    ap (λ (front : List ℕ). front ++ drop 7 line) e ∙ take-append-drop 7 line

line_makes : (line : List ℕ) (x : Statement) → begins_member line ≡ true → statement_of (words_of line) ≡ Ok x → makes x ≡ true
line_makes line x h k =
    head_makes (drop 7 line) x (ap (λ (l : List ℕ). statement_of (words_of l)) (line_head line h) ∙ k)

not_skipped : (line : List ℕ) → begins_member line ≡ true → is_skipped line ≡ false
not_skipped line h = ap is_skipped (sym (line_head line h))

-- ---- all lines

record Read (t u : Schedule) (member : Bool) : Type 0 where
  good : IsGood u
  stays : list_any makes_member t.setup ≡ true → list_any makes_member u.setup ≡ true
  found : member ≡ true → list_any makes_member u.setup ≡ true

statement_step : (t u : Schedule) (line : List ℕ) (r : Result Statement Cause) → statement_of (words_of line) ≡ r → IsGood t → add_statement t r ≡ Ok u → Read t u (begins_member line)
statement_step t u line (Err c) e good h = absurd (cc)
statement_step t u line (Ok x) e good h =
    let step = steps t u x good (statement_said (words_of line) x e) h in
    record { good = step.good; stays = step.stays; found = λ k. step.found (line_makes line x k e) }

skip_step : (t u : Schedule) (line : List ℕ) → is_skipped line ≡ true → IsGood t → t ≡ u → Read t u (begins_member line)
skip_step t u line skipped good e = record {
  good = subst IsGood e good;
  stays = λ k. subst (λ (v : Schedule). list_any makes_member v.setup ≡ true) e k;
  found = λ k. let no_skip = not_skipped line k in absurd (cc);
}

line_step : (t u : Schedule) (line : List ℕ) → IsGood t → read_line t line ≡ Ok u → Read t u (begins_member line)
unfolding read_line
line_step t u line good h =
    elim (cases_Bool (is_skipped line)) [
      | inl e ↦ let k = rw e at h in skip_step t u line e good (same t u k)
      | inr e ↦
          let k = rw e at h in
          choose (Read t u (begins_member line)) (list_all is_printable line) (add_statement t (statement_of (words_of line))) (Err cause.BadByte) (Ok u) k
          (λ m. statement_step t u line (statement_of (words_of line)) refl good m) (λ m. absurd (cc))
    ]

abbrev end_ok : Schedule → Result Schedule Refused
end_ok s = Ok s

end_same : (s t : Schedule) → end_ok s ≡ end_ok t → s ≡ t
end_same s t h = cc

go_lines : (n : ℕ) (s : Schedule) (lines : List (List ℕ)) (r : Result Schedule Cause) → or_refuse r n (λ u. read_lines (n + 1) u lines) ≡ Ok s → (u : Schedule) × (r ≡ Ok u) × (read_lines (n + 1) u lines ≡ Ok s)
go_lines n s lines (Ok u) h = (u, refl, h)
go_lines n s lines (Err c) h = absurd (cc)

lines_said : (n : ℕ) (t s : Schedule) (lines : List (List ℕ)) → IsGood t → read_lines n t lines ≡ Ok s → Read t s (list_any begins_member lines)
unfolding read_lines
lines_said n t s [] good h = let e = end_same t s h in record {
  good = subst IsGood e good;
  stays = λ k. subst (λ (v : Schedule). list_any makes_member v.setup ≡ true) e k;
  found = λ k. absurd (cc);
}
lines_said n t s (line ∷ lines) good h =
    let next = go_lines n s lines (read_line t line) h in
    let one = line_step t next.0 line good next.1 in
    let more = lines_said (n + 1) next.0 s lines one.good next.2 in
    record {
      good = more.good;
      stays = λ k. more.stays (one.stays k);
      found = λ k. elim (or_cases (begins_member line) (list_any begins_member lines) k) [
        | inl e ↦ more.stays (one.found e)
        | inr e ↦ more.found e
      ];
    }

none_good : IsGood no_lines
none_good = record { words = tt; order = refl }

whole_said : (lines : List (List ℕ)) (s : Schedule) (b : Bool) → list_any begins_member lines ≡ b → cond b (read_lines 1 no_lines lines) (Err (record { line = 0; cause = 2 })) ≡ Ok s → IsSayable s
whole_said lines s true e h =
    let read = lines_said 1 no_lines s lines none_good h in
    record { words = read.good.words; members = read.found e; order = read.good.order }
whole_said lines s false e h = absurd (cc)

pub text_said : (text : List ℕ) (s : Schedule) → schedule_of text ≡ Ok s → IsSayable s
unfolding schedule_of
text_said text s h =
    choose (IsSayable s) (nat_lt longest_text (length text)) _ _ (Ok s) h (λ k. absurd (cc))
    (λ k. whole_said (lines_of text) s (list_any begins_member (lines_of text)) refl k)
