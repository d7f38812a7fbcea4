-- The run that `make` makes: no line of it stops, starts or reads a member's records, so member 0 stands after it.
use Rattle.std.proofs.Common.{◌≡◌, ◌≤◌, ◌==◌, ◌%◌, ◌+◌, ◌++◌, inl, inr, ℕ, Bool, true, false, cond, List, [], ◌∷◌, slice_get, Option, Some, None, option_map, option_and_then, Result, Ok, Err, refl, sym, ap, ◌∙◌, subst, arith}
use Rattle.std.specs.List.{flat_map, range_with_len}
use Rattle.std.specs.Io.KnownBytes.{Appends}
use Rattle.std.proofs.KnownBytes.{Appends-nil}
use Rattle.outside.specs.Lists.{Journals}
use Rattle.report_text.specs.declared.lines.Line.TheVariants as line
use Rattle.report_text.specs.Text.{text_of}
use Rattle.schedule_make.specs.Make.{make_text_of}
use Rattle.schedule_text.specs.declared.words.Event.{Event}
use Rattle.schedule_text.specs.declared.words.Event.TheVariants as event
use Rattle.schedule_text.specs.declared.words.Schedule.{Schedule}
use Rattle.schedule_text.specs.Schedule.{Refused, schedule_of}
use Rattle.run_law.specs.TextLaws.{GeneratedTextIsASchedule}
use Rattle.run_law.specs.Made.{certified, items, late, ending, made, ordered, rest, tx_event, vote_events, send_events}
use Rattle.protocol_spec.specs.Chain.Words.{Each}
use Rattle.protocol_spec.specs.Member.Member.{Member}
use Rattle.world_spec.specs.Posts.{seat_at}
use Rattle.world_spec.specs.Scene.{Scene}
use Rattle.world_spec.specs.Seats as scene_seats
use Rattle.world_spec.specs.Terms.{terms_of}
use Rattle.world_spec.specs.SceneWorlds.{Shows, is_restart, posts_from}
use Rattle.world_spec.specs.Setting.{Setting, Trust, setting_of, honest_of}
use Rattle.world_spec.specs.World.{Seat, World, member_at, member_in, new_world, state_of}
use Rattle.world_spec.specs.Run.{sums_of, world_after}
use Rattle.world_core.specs.declared.sums.Sums as sums_type
use Rattle.world_core.specs.Sums as told
use Rattle.committee_core.specs.Headline.{program_trust}
use Rattle.committee_core.specs.Journals.{AreEmpty, KeepsFronts, KeepsRun, ReadsNone}
use Rattle.committee_core.specs.Make.{IsMade, IsSummed, KeepsMade, MakesFront, MakesWhole, RunsMade, summary_text}
use Rattle.committee_core.specs.Report.{setting_in}
use Rattle.outside.specs.Streams.{AppendsFront}
use Rattle.committee_core.specs.Ways.{MeetsBadRecord, RunsSilently, ShowsRun, TextCut}
use Rattle.committee_core.proofs.Ended.{holds_along}
use Rattle.committee_core.proofs.Standing.{AreStanding, IsQuiet, first-standing, run-standing}
use Rattle.committee_core.proofs.Whole.{empty_fronts, whole_fronts}

-- ---- the lines that are made

each-joined : (P : Event → Type 0) (xs ys : List Event) → Each P xs → Each P ys → Each P (xs ++ ys)
each-joined P [] ys front back = back
each-joined P (x ∷ xs) ys front back = (front.0, each-joined P xs ys front.1 back)

each-flat : (P : Event → Type 0) (f : ℕ → List Event) → ((k : ℕ) → Each P (f k)) → (ks : List ℕ) → Each P (flat_map f ks)
each-flat P f all [] = tt
each-flat P f all (k ∷ ks) = each-joined P (f k) (flat_map f ks) (all k) (each-flat P f all ks)

either : (b : Bool) (x y : Event) → IsQuiet x → IsQuiet y → IsQuiet (cond b x y)
either true x y one other = one
either false x y one other = other

either-list : (b : Bool) (xs ys : List Event) → Each IsQuiet xs → Each IsQuiet ys → Each IsQuiet (cond b xs ys)
either-list true xs ys one other = one
either-list false xs ys one other = other

quiet-tx : (k : ℕ) → IsQuiet (tx_event k)
quiet-tx k = either (k % 4 == 0) _ _ tt (either (k % 4 == 1) _ _ tt (either (k % 4 == 2) _ _ tt tt))

quiet-votes : (k : ℕ) → Each IsQuiet (vote_events k)
quiet-votes k = (tt, (tt, (tt, (tt, tt))))

quiet-certified : (k : ℕ) → Each IsQuiet (certified k)
quiet-certified k = (
  quiet-tx k,
  either-list (k % 4 == 0) (vote_events k ++ send_events k) (vote_events k)
      (tt, (tt, (tt, (tt, (tt, (tt, (tt, (tt, (tt, (tt, tt)))))))))) (quiet-votes k),
)

quiet-ordered : (k : ℕ) → Each IsQuiet (ordered k)
quiet-ordered k = either-list ((k + 1) % 64 == 0) _ _ (tt, (tt, tt)) (tt, tt)

quiet-ending : Each IsQuiet ending
quiet-ending = (tt, (tt, (tt, (tt, (tt, (tt, (tt, (tt, (tt, (tt, (tt, (tt, (tt, (tt, (tt, (tt, (tt, (tt, (tt, (tt, (tt, (tt, (tt, (tt, tt))))))))))))))))))))))))

pub quiet-made : (number workers : ℕ) → Each IsQuiet (made number workers).events
quiet-made number workers =
    each-joined IsQuiet (flat_map certified (range_with_len 0 number)) (rest number workers) (each-flat IsQuiet certified quiet-certified (range_with_len 0 number))
    (each-joined IsQuiet (flat_map ordered (range_with_len 0 number)) (late workers ++ ending) (each-flat IsQuiet ordered quiet-ordered (range_with_len 0 number))
    (each-joined IsQuiet (late workers) ending (tt, (tt, tt)) quiet-ending))

-- ---- member 0

pub record FirstSeat (seats : List Seat) : Type 0 where
  pub seat : Seat
  pub at : slice_get seats 0 ≡ Some seat
  pub honest : seat.honest ≡ true
  pub up : seat.up ≡ true

abbrev HasFirst : List Bool → Type 0
HasFirst [] = ⊥
HasFirst (honest ∷ flags) = honest ≡ true

seat-first : (flags : List Bool) (seats : List Seat) → HasFirst flags → AreStanding flags seats → FirstSeat seats
seat-first [] seats first all = absurd first
seat-first (honest ∷ flags) [] first all = absurd all
seat-first (honest ∷ flags) (seat ∷ seats) first all = record { seat = seat; at = refl; honest = all.0.0 ∙ first; up = all.0.1 }

-- member 0 is honest and up after the run
pub first-made : (trust : Trust) (number : ℕ) → FirstSeat (world_after (setting_in trust (made number 4)) (made number 4).events).seats
unfolding setting_of world_after new_world
first-made trust number =
    let s : Setting = setting_in trust (made number 4) in
    seat-first (honest_of (items number)) _ refl (run-standing s (honest_of (items number)) (made number 4).events (new_world s) (quiet-made number 4) (first-standing (honest_of (items number))))

abbrev member-made : ℕ → Member
member-made number = member_in (setting_in program_trust (made number 4)) (first-made program_trust number).seat

-- the text is a schedule, and the headline holds along its run
made-one : GeneratedTextIsASchedule → (number : ℕ) → number ≤ 10000 → IsMade number (made number 4) (member-made number)
made-one law number low =
    let is : schedule_of (make_text_of number 4) ≡ Ok (made number 4) = law number 4 low (omega arith) (omega arith) in
    let s : Setting = setting_in program_trust (made number 4) in
    record { is = is; stands = ap (option_and_then (state_of s)) (first-made program_trust number).at; holds = holds_along (make_text_of number 4) (made number 4) is }

-- ---- its sums, as the code sees them

chosen : {A : Type 0} (honest up : Bool) (o : Option A) → honest ≡ true → up ≡ true → cond honest (cond up o None) None ≡ o
chosen true true o h u = refl
chosen true false o h u = absurd (cc)
chosen false up o h u = absurd (cc)

sums-first : (s : Setting) (seats : List Seat) (m : Member) → (f : FirstSeat seats) → option_and_then (state_of s) (slice_get seats 0) ≡ Some m → told.sums_at (slice_get (posts_from s 0 seats) 0) ≡ Some (told.sums_of m)
sums-first s [] m f is = absurd (cc)
sums-first s (x ∷ seats) m f is =
    let same : x ≡ f.seat = just x f.seat f.at in
    ap (option_map (λ (seat : scene_seats.Seated). told.sums_of seat.state)) (chosen x.honest x.up (Some (seat_at (terms_of s.rules) 0 (member_in s x))) (ap (λ (y : Seat). y.honest) same ∙ f.honest) (ap (λ (y : Seat). y.up) same ∙ f.up))
    ∙ ap (option_map told.sums_of) is
  where
    just : (x y : Seat) → Some x ≡ Some y → x ≡ y
    just x y h = cc

sums-shown : (trust : Trust) (s : Setting) (w : World) (sc : Scene) (m : Member) → Shows trust s w sc → FirstSeat w.seats → member_at s w 0 ≡ Some m → told.sums_at (slice_get sc.posts 0) ≡ Some (told.sums_of m)
sums-shown trust s w sc m shows f is = ap (λ (x : Scene). told.sums_at (slice_get x.posts 0)) shows.scene ∙ sums-first s w.seats m f is

reads-none : (e : Event) → IsQuiet e → is_restart e ≡ false
reads-none (event.Stop m kept) quiet = absurd quiet
reads-none (event.Restart m) quiet = absurd quiet
reads-none e quiet = refl

read-none : (events : List Event) → Each IsQuiet events → Each ReadsNone events
read-none [] quiet = tt
read-none (e ∷ events) quiet = (reads-none e quiet.0, read-none events quiet.1)

-- ---- what was read of the text

same-schedule : (number : ℕ) (r : Result Schedule Refused) (s : Schedule) → r ≡ Ok (made number 4) → r ≡ Ok s → s ≡ made number 4
same-schedule number r s law is = cc

read-made : GeneratedTextIsASchedule → (number : ℕ) → number ≤ 10000 → (text : List ℕ) → text ≡ make_text_of number 4 → (s : Schedule) → schedule_of text ≡ Ok s → s ≡ made number 4
read-made law number low text same s is =
    same-schedule number (schedule_of text) s (ap schedule_of same ∙ law number 4 low (omega arith) (omega arith)) is

quiet-at : (front back : List Event) (e : Event) → Each IsQuiet (front ++ e ∷ back) → IsQuiet e
quiet-at [] back e quiet = quiet.0
quiet-at (x ∷ front) back e quiet = quiet-at front back e quiet.1

-- it has no line that reads a record
never-bad : (trust : Trust) (number : ℕ) (s : Schedule) (Writes : Option (List ℕ) → Option (List ℕ) → List ℕ → Type 0) (held held' : Option (List ℕ)) (kept : Option Journals) → s ≡ made number 4
    → MeetsBadRecord trust s Writes held held' kept → ⊥
never-bad trust number s Writes held held' kept is bad =
    quiet-at bad.front bad.back (event.Restart bad.member) (subst (Each IsQuiet) (sym (ap (λ (t : Schedule). t.events) is) ∙ bad.restarts) (quiet-made number 4))

pub not_bad : GeneratedTextIsASchedule → (number : ℕ) → number ≤ 10000 → (text : List ℕ) → text ≡ make_text_of number 4 → (kept : Option Journals)
    → (s : Schedule) × (schedule_of text ≡ Ok s) × MeetsBadRecord program_trust s Appends None None kept → ⊥
not_bad law number low text same kept (s, is, bad) = never-bad program_trust number s Appends None None kept (read-made law number low text same s is) bad

-- ---- what was kept

cut-fronts : (trust : Trust) (number : ℕ) (r : Result Schedule Refused) (kept kept' : Option Journals) → r ≡ Ok (made number 4) → TextCut trust r None None kept kept' → KeepsFronts trust (made number 4) kept kept'
cut-fronts trust number (Ok s) kept kept' law (inl front) = subst (λ (t : Schedule). KeepsFronts trust t kept kept') (same-schedule number (Ok s) s law refl) front.journals
cut-fronts trust number (Ok s) kept kept' law (inr bad) = absurd (never-bad trust number s AppendsFront None None kept (same-schedule number (Ok s) s law refl) bad)
cut-fronts trust number (Err f) kept kept' law cut = absurd (cc)

pub kept_cut : GeneratedTextIsASchedule → (number : ℕ) → number ≤ 10000 → (text : List ℕ) → text ≡ make_text_of number 4 → (kept kept' : Option Journals)
    → TextCut program_trust (schedule_of text) None None kept kept' → KeepsMade number kept kept'
kept_cut law number low text same kept kept' cut = record {
  schedule = made number 4;
  member = member-made number;
  made = made-one law number low;
  journals = cut-fronts program_trust number (schedule_of text) kept kept' (ap schedule_of same ∙ law number 4 low (omega arith) (omega arith)) cut;
}

pub kept_none : GeneratedTextIsASchedule → (number : ℕ) → number ≤ 10000 → (kept : Option Journals) → AreEmpty kept → KeepsMade number kept kept
kept_none law number low kept empty = record {
  schedule = made number 4;
  member = member-made number;
  made = made-one law number low;
  journals = empty_fronts program_trust (made number 4) kept empty;
}

-- ---- the sums of what ran

-- member 0 has sums, and they are the definition's
sums-made : GeneratedTextIsASchedule → (number : ℕ) → number ≤ 10000 → (text : List ℕ) → text ≡ make_text_of number 4 → (kept kept' : Option Journals) (sc : Scene)
    → RunsSilently program_trust text kept kept' sc → told.sums_at (slice_get sc.posts 0) ≡ Some (told.sums_of (member-made number))
sums-made law number low text same kept kept' sc runs =
    let is : runs.schedule ≡ made number 4 = read-made law number low text same runs.schedule runs.is in
    let shown : ShowsRun program_trust (made number 4) kept sc = subst (λ (t : Schedule). ShowsRun program_trust t kept sc) is runs.shows in
    let s : Setting = setting_in program_trust (made number 4) in
    sums-shown program_trust s (world_after s (made number 4).events) sc (member-made number) (shown (inr (read-none (made number 4).events (quiet-made number 4)))) (first-made program_trust number)
    (made-one law number low).stands

-- what ran is the run that is made
pub ran_made : GeneratedTextIsASchedule → (number : ℕ) → number ≤ 10000 → (text : List ℕ) → text ≡ make_text_of number 4 → (kept kept' : Option Journals) (sc : Scene)
    → RunsSilently program_trust text kept kept' sc → RunsMade number kept kept' sc
ran_made law number low text same kept kept' sc runs = record {
  schedule = made number 4;
  member = member-made number;
  made = made-one law number low;
  sums = sums-made law number low text same kept kept' sc runs;
  journals = subst (λ (t : Schedule). KeepsRun program_trust t kept kept') (read-made law number low text same runs.schedule runs.is) runs.journals;
}

pub has_sums : (number : ℕ) (kept kept' : Option Journals) (sc : Scene) → RunsMade number kept kept' sc → (s : sums_type.Sums) × (told.sums_at (slice_get sc.posts 0) ≡ Some s)
has_sums number kept kept' sc runs = (told.sums_of runs.member, runs.sums)

given-some : (a b : sums_type.Sums) → Some a ≡ Some b → a ≡ b
given-some a b h = cc

pub summed : (number : ℕ) (kept kept' : Option Journals) (sc : Scene) → RunsMade number kept kept' sc → (given : sums_type.Sums) → told.sums_at (slice_get sc.posts 0) ≡ Some given → IsSummed number kept kept' given
summed number kept kept' sc runs given says = record {
  schedule = runs.schedule;
  member = runs.member;
  made = runs.made;
  is = given-some given _ (sym says ∙ runs.sums);
  journals = runs.journals;
}

pub kept_whole : (number : ℕ) (kept kept' : Option Journals) (sc : Scene) → RunsMade number kept kept' sc → KeepsMade number kept kept'
kept_whole number kept kept' sc runs = record {
  schedule = runs.schedule;
  member = runs.member;
  made = runs.made;
  journals = whole_fronts program_trust runs.schedule kept kept' runs.journals;
}

-- ---- the summary

abbrev line-of : ℕ → sums_type.Sums → List ℕ
line-of number given = text_of (line.Make number given.transactions given.checkpoints given.objects given.sum)

same-line : (number : ℕ) (m : Member) (given : sums_type.Sums) → given ≡ told.sums_of m → line-of number given ≡ summary_text number (sums_of m)
unfolding sums_of
same-line number m given is = ap (line-of number) is

pub made_whole : (number : ℕ) (held held' : Option (List ℕ)) (kept kept' : Option Journals) (given : sums_type.Sums) → IsSummed number kept kept' given
    → Appends held held' (line-of number given) → MakesWhole number held held' kept kept'
made_whole number held held' kept kept' given sums written = record {
  schedule = sums.schedule;
  member = sums.member;
  made = sums.made;
  written = subst (Appends held held') (same-line number sums.member given sums.is) written;
  journals = sums.journals;
}

pub made_unwritten : (number : ℕ) (held held' : Option (List ℕ)) (kept kept' : Option Journals) (given : sums_type.Sums) → IsSummed number kept kept' given
    → AppendsFront held held' (line-of number given) → MakesFront number held held' kept kept'
made_unwritten number held held' kept kept' given sums written = record {
  schedule = sums.schedule;
  member = sums.member;
  made = sums.made;
  written = subst (AppendsFront held held') (same-line number sums.member given sums.is) written;
  journals = whole_fronts program_trust sums.schedule kept kept' sums.journals;
}

pub made_cut : (number : ℕ) (held : Option (List ℕ)) (kept kept' : Option Journals) → KeepsMade number kept kept' → MakesFront number held held kept kept'
made_cut number held kept kept' fronts = record {
  schedule = fronts.schedule;
  member = fronts.member;
  made = fronts.made;
  written = ([], summary_text number (sums_of fronts.member), refl, Appends-nil held);
  journals = fronts.journals;
}
