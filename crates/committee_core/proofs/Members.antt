-- A schedule that is read has a committee: 1 to 64 members, each with a stake.
use Rattle.std.proofs.Common.{◌≡◌, ◌==◌, ◌+◌, ◌≤◌, ℕ, suc, Bool, true, false, List, [], ◌∷◌, ◌++◌, map, length, Option, Some, None, Result, Ok, Err, nat_lt, if◌then◌else◌, refl, subst, arith}
use Rattle.std.proofs.lemmas.Bool.Decides.{nat_tests}
use Rattle.std.specs.List.{AllByRecursion, list_any}
use Rattle.quorum_core.specs.declared.committee.CommitteeRefusal.TheVariants as refusal
use Rattle.quorum_core.specs.Committee.{committee_of, without_zero, zero_from}
use Rattle.schedule_text.specs.declared.cause.Cause.{Cause}
use Rattle.schedule_text.specs.declared.cause.Cause.TheVariants as cause
use Rattle.schedule_text.specs.declared.words.Schedule.{Schedule}
use Rattle.schedule_text.specs.declared.words.Setup.{Setup}
use Rattle.schedule_text.specs.declared.words.Setup.TheVariants as setup
use Rattle.schedule_text.specs.declared.statement.Statement.{Statement}
use Rattle.schedule_text.specs.declared.statement.Statement.TheVariants as statement
use Rattle.schedule_text.specs.Agrees.{no_lines}
use Rattle.schedule_text.specs.Known.{Check, add_line, also, event_check, roles, setup_check, setup_kind_check}
use Rattle.schedule_text.specs.Schedule.{schedule_of}
use Rattle.run_law.specs.Sayable.{IsSayable, IsStatement, added, makes_member, then_read}
use Rattle.run_law.proofs.SaidWhole.{text_said, same, check_said, after_said}
use Rattle.world_spec.specs.Setting.{stakes_of}
use Rattle.headline_law.proofs.Rolls.{same-count}

-- ---- each has a stake

no-zero : (k stake : ℕ) (rest : Option ℕ) → 1 ≤ stake → rest ≡ None → (if stake == 0 then Some k else rest) ≡ None
no-zero k stake rest has gone = if-false (stake == 0) k rest (grind (arith, nat_tests, has)) gone
  where
    if-false : (b : Bool) (k : ℕ) (rest : Option ℕ) → b ≡ false → rest ≡ None → (if b then Some k else rest) ≡ None
    if-false true k rest is gone = absurd (cc)
    if-false false k rest is gone = gone

stakes-some : (lines : List Setup) (rest : List Statement) (k : ℕ) → AllByRecursion IsStatement (map (λ x. statement.Setup x) lines ++ rest) → zero_from k (stakes_of lines) ≡ None
stakes-some [] rest k all = refl
stakes-some (setup.Member stake honest ∷ lines) rest k all = no-zero k stake (zero_from (suc k) (stakes_of lines)) all.0.0 (stakes-some lines rest (suc k) all.1)
stakes-some (setup.Coin name who balance ∷ lines) rest k all = stakes-some lines rest k all.1
stakes-some (setup.Counter name value ∷ lines) rest k all = stakes-some lines rest k all.1
stakes-some (setup.Cap name who currency ∷ lines) rest k all = stakes-some lines rest k all.1
stakes-some (setup.Writers n ∷ lines) rest k all = stakes-some lines rest k all.1

-- ---- there is one

not-zero : (n : ℕ) → (suc n == 0) ≡ false
not-zero n = grind (arith, nat_tests)

some-member : (lines : List Setup) → list_any makes_member lines ≡ true → (length (stakes_of lines) == 0) ≡ false
some-member [] h = absurd (cc)
some-member (setup.Member stake honest ∷ lines) h = not-zero (length (stakes_of lines))
some-member (setup.Coin name who balance ∷ lines) h = some-member lines h
some-member (setup.Counter name value ∷ lines) h = some-member lines h
some-member (setup.Cap name who currency ∷ lines) h = some-member lines h
some-member (setup.Writers n ∷ lines) h = some-member lines h

-- ---- there are 64 at most

count-push : (lines : List Setup) (x : Setup) → length (stakes_of (lines ++ x ∷ [])) ≡ length (stakes_of lines) + length (stakes_of (x ∷ []))
count-push [] x = omega arith
count-push (setup.Member stake honest ∷ lines) x =
    let more : length (stakes_of (lines ++ x ∷ [])) ≡ length (stakes_of lines) + length (stakes_of (x ∷ [])) = count-push lines x in
    omega (arith, more)
count-push (setup.Coin name who balance ∷ lines) x = count-push lines x
count-push (setup.Counter name value ∷ lines) x = count-push lines x
count-push (setup.Cap name who currency ∷ lines) x = count-push lines x
count-push (setup.Writers n ∷ lines) x = count-push lines x

abbrev IsFew : Schedule → Type 0
IsFew s = length (stakes_of s.setup) ≤ 64

last_said : (a b : Check) → also a b ≡ Ok tt → b ≡ Ok tt
last_said (Ok u) b h = h
last_said (Err c) b h = absurd (cc)

few-more : (n : ℕ) (b : Bool) → b ≡ nat_lt n 64 → b ≡ true → n + 1 ≤ 64
few-more n b is holds = grind (arith, nat_tests)

kind-few : (t : Schedule) (x : Setup) → setup_kind_check t x ≡ Ok tt → IsFew t → length (stakes_of t.setup) + length (stakes_of (x ∷ [])) ≤ 64
unfolding setup_kind_check
kind-few t (setup.Member stake honest) h few =
    let below = few-more (length (roles t.setup)) (nat_lt (length (roles t.setup)) 64) refl (check_said (nat_lt (length (roles t.setup)) 64) cause.TooManyMembers h) in
    let count : length (roles t.setup) ≡ length (stakes_of t.setup) = same-count t.setup in
    omega (arith, below, count)
kind-few t (setup.Coin name who balance) h few = omega (arith, few)
kind-few t (setup.Counter name value) h few = omega (arith, few)
kind-few t (setup.Cap name who currency) h few = omega (arith, few)
kind-few t (setup.Writers n) h few = omega (arith, few)

add-few : (t u : Schedule) (x : Statement) → add_line t x ≡ Ok u → IsFew t → IsFew u
unfolding add_line setup_check
add-few t u (statement.Setup x) h few =
    let said = after_said (setup_check t x) (record t { setup = t.setup ++ x ∷ [] }) u h in
    let count : length (stakes_of (t.setup ++ x ∷ [])) ≡ length (stakes_of t.setup) + length (stakes_of (x ∷ [])) = count-push t.setup x in
    let fits : length (stakes_of t.setup) + length (stakes_of (x ∷ [])) ≤ 64 = kind-few t x (last_said _ (setup_kind_check t x) said.0) few in
    subst IsFew said.1 (omega (arith, count, fits))
add-few t u (statement.Event e) h few = subst IsFew (after_said (event_check t e) (record t { events = t.events ++ e ∷ [] }) u h).1 few

go-on : (r : Result Schedule Cause) (next : Schedule → Result Schedule Cause) (s : Schedule) → then_read r next ≡ Ok s → (u : Schedule) × (r ≡ Ok u) × (next u ≡ Ok s)
go-on (Ok u) next s h = (u, refl, h)
go-on (Err c) next s h = absurd (cc)

added-few : (xs : List Statement) (t s : Schedule) → added t xs ≡ Ok s → IsFew t → IsFew s
added-few [] t s h few = subst IsFew (same t s h) few
added-few (x ∷ xs) t s h few =
    let read = go-on (add_line t x) (λ u. added u xs) s h in
    added-few xs read.0 s read.2 (add-few t read.0 x read.1 few)

-- ---- the committee

committee-said : (stakes : List ℕ) (empty many : Bool) (first : Option ℕ) → empty ≡ false → many ≡ false → first ≡ None
    → (if empty then Err refusal.NoMembers else (if many then Err refusal.TooManyMembers else without_zero stakes first)) ≡ Ok stakes
committee-said stakes true many first e m z = absurd (cc)
committee-said stakes false true first e m z = absurd (cc)
committee-said stakes false false (Some n) e m z = absurd (cc)
committee-said stakes false false None e m z = refl

not-many : (n : ℕ) → n ≤ 64 → nat_lt 64 n ≡ false
not-many n few = grind (arith, nat_tests, few)

pub read_committee : (text : List ℕ) (s : Schedule) → schedule_of text ≡ Ok s → committee_of (stakes_of s.setup) ≡ Ok (stakes_of s.setup)
unfolding committee_of
read_committee text s h =
    let said : IsSayable s = text_said text s h in
    let few : IsFew s = added-few _ no_lines s said.order (omega arith) in
    committee-said (stakes_of s.setup) (length (stakes_of s.setup) == 0) (nat_lt 64 (length (stakes_of s.setup))) (zero_from 0 (stakes_of s.setup))
    (some-member s.setup said.members) (not-many (length (stakes_of s.setup)) few) (stakes-some s.setup _ 0 said.words)
