-- The members that a `final` line of a read schedule names ascend and are known.
use Rattle.std.proofs.Common.{refl, subst, ap, ◌∙◌}
use Rattle.std.specs.Prelude.{◌≡◌, ℕ, true, nat_lt, List, [], ◌∷◌, ◌++◌, length, map, Result, Ok, Err}
use Rattle.std.specs.List.{filter_map}
use Rattle.wire_bcs.specs.Ascending.{ascends}
use Rattle.schedule_text.specs.declared.cause.Cause.{Cause}
use Rattle.schedule_text.specs.declared.cause.Cause.TheVariants as cause
use Rattle.schedule_text.specs.declared.words.Schedule.{Schedule}
use Rattle.schedule_text.specs.declared.words.Setup.{Setup}
use Rattle.schedule_text.specs.declared.words.Setup.TheVariants as setup
use Rattle.schedule_text.specs.declared.words.Event.{Event}
use Rattle.schedule_text.specs.declared.words.Event.TheVariants as event
use Rattle.schedule_text.specs.declared.statement.Statement.{Statement}
use Rattle.schedule_text.specs.declared.statement.Statement.TheVariants as statement
use Rattle.schedule_text.specs.Agrees.{no_lines}
use Rattle.schedule_text.specs.Known.{Check, add_line, after_check, also, check, each_check, event_check, member_check, role_of, roles, tx_check}
use Rattle.schedule_text.specs.Schedule.{schedule_of}
use Rattle.protocol_spec.proofs.Truth.{both_true}
use Rattle.protocol_spec.specs.Chain.Committee.{all_known, is_roll}
use Rattle.world_spec.specs.Setting.{Name, Trust, setting_of, stakes_of}
use Rattle.run_law.specs.Sayable.{added, then_read}
use Rattle.run_law.proofs.SaidWhole.{text_said, check_said}

-- ---- a check of the lines, one after the other

abbrev event_lines : List Event → List Statement
event_lines es = map (λ e. statement.Event e) es

split-added : (xs ys : List Statement) (s t : Schedule) → added s (xs ++ ys) ≡ Ok t → (u : Schedule) × (added u ys ≡ Ok t)
split-added [] ys s t e = (s, e)
split-added (x ∷ xs) ys s t e = go (add_line s x) e (λ u k. split-added xs ys u t k)
  where
    go : (r : Result Schedule Cause) → then_read r (λ u. added u (xs ++ ys)) ≡ Ok t → ((u : Schedule) → added u (xs ++ ys) ≡ Ok t → (v : Schedule) × (added v ys ≡ Ok t)) → (v : Schedule) × (added v ys ≡ Ok t)
    go (Ok u) e rest = rest u e
    go (Err c) e rest = absurd (cc)

-- the schedule with one more event
abbrev with_event : Schedule → Event → Schedule
with_event s e = record s { events = s.events ++ e ∷ [] }

next-added : (s t : Schedule) (e : Event) (xs : List Statement) → added s (statement.Event e ∷ xs) ≡ Ok t → (event_check s e ≡ Ok tt) × (added (with_event s e) xs ≡ Ok t)
unfolding add_line
next-added s t e xs h = go (event_check s e) refl h
  where
    go : (r : Check) → event_check s e ≡ r → then_read (after_check r (with_event s e)) (λ u. added u xs) ≡ Ok t → (event_check s e ≡ Ok tt) × (added (with_event s e) xs ≡ Ok t)
    go (Ok u) q h = (q, h)
    go (Err c) q h = absurd (cc)

keeps-setup : (es : List Event) (s t : Schedule) → added s (event_lines es) ≡ Ok t → s.setup ≡ t.setup
keeps-setup [] s t e = ap (λ (u : Schedule). u.setup) (same e)
  where
    same : ◌≡◌ {A = Result Schedule Cause} (Ok s) (Ok t) → s ≡ t
    same e = cc
keeps-setup (x ∷ es) s t e = keeps-setup es (with_event s x) t (next-added s t x (event_lines es) e).1

-- each event was checked against the set-up
checked : (front : List Event) (e : Event) (back : List Event) (s t : Schedule) → added s (event_lines (front ++ (e ∷ back))) ≡ Ok t → (u : Schedule) × (u.setup ≡ t.setup) × (event_check u e ≡ Ok tt)
checked [] e back s t h = (s, keeps-setup (e ∷ back) s t h, (next-added s t e (event_lines back) h).0)
checked (x ∷ front) e back s t h = checked front e back (with_event s x) t (next-added s t x (event_lines (front ++ (e ∷ back))) h).1

-- ---- what is checked of a `final` line

both-ok : (a b : Check) → also a b ≡ Ok tt → (a ≡ Ok tt) × (b ≡ Ok tt)
both-ok (Ok u) b e = (refl, e)
both-ok (Err c) b e = absurd (cc)

-- a role for each stake
pub same-count : (lines : List Setup) → length (roles lines) ≡ length (stakes_of lines)
unfolding roles
same-count [] = refl
same-count (setup.Member stake honest ∷ lines) = next (same-count lines)
  where
    next : length (filter_map role_of lines) ≡ length (stakes_of lines) → length (honest ∷ filter_map role_of lines) ≡ length (stake ∷ stakes_of lines)
    next e = rw e refl
same-count (setup.Coin name who balance ∷ lines) = same-count lines
same-count (setup.Counter name value ∷ lines) = same-count lines
same-count (setup.Cap name who currency ∷ lines) = same-count lines
same-count (setup.Writers n ∷ lines) = same-count lines

all-checked : (u : Schedule) (stakes ms : List ℕ) → length (roles u.setup) ≡ length stakes → each_check (member_check u) ms ≡ Ok tt → all_known stakes ms ≡ true
unfolding each_check
all-checked u stakes [] same e = refl
all-checked u stakes (m ∷ ms) same e =
    let both = both-ok (member_check u m) (each_check (member_check u) ms) e in
    both_true (nat_lt m (length stakes)) (all_known stakes ms)
    (subst (λ (n : ℕ). nat_lt m n ≡ true) same (check_said (nat_lt m (length (roles u.setup))) cause.UnknownMember both.0)) (all-checked u stakes ms same both.1)

final-checked : (u : Schedule) (name : Name) (members stakes : List ℕ) → length (roles u.setup) ≡ length stakes → event_check u (event.Final name members) ≡ Ok tt → is_roll stakes members ≡ true
unfolding event_check
final-checked u name members stakes same e =
    let one = both-ok (tx_check u name) (also (each_check (member_check u) members) (check (ascends members) cause.BadOrder)) e in
    let two = both-ok (each_check (member_check u) members) (check (ascends members) cause.BadOrder) one.1 in
    both_true (ascends members) (all_known stakes members) (check_said (ascends members) cause.BadOrder two.1) (all-checked u stakes members same two.0)

pub read-roll : (text : List ℕ) (t : Schedule) → schedule_of text ≡ Ok t → (trust : Trust) (front : List Event) (name : Name) (members : List ℕ) (back : List Event) → t.events ≡ front ++ (event.Final name members ∷ back)
    → is_roll (setting_of trust t.setup).rules.stakes members ≡ true
unfolding setting_of
read-roll text t read trust front name members back split =
    let order = split-added (map (λ x. statement.Setup x) t.setup) (event_lines t.events) no_lines t (text_said text t read).order in
    let u = checked front (event.Final name members) back order.0 t (subst (λ (es : List Event). added order.0 (event_lines es) ≡ Ok t) split order.1) in
    final-checked u.0 name members (stakes_of t.setup) (ap (λ (xs : List Setup). length (roles xs)) u.1 ∙ same-count t.setup) u.2
