-- The definition's world after a prefix of the events, as the code's scene shows it.
use Rattle.std.proofs.Common.{◌≡◌, ◌≤◌, ◌<◌, ◌⊎◌, inl, inr, ℕ, zero, suc, Bool, true, false, List, [], ◌∷◌, ◌++◌, map, length, Option, Some, None, Ok, Err, slice_get, refl, sym, ap, ◌∙◌, subst, arith}
use Rattle.outside.specs.Lists.{Journals, journal_of, with_record}
use Rattle.protocol_spec.proofs.ListLemmas.{set_length}
use Rattle.protocol_spec.specs.Chain.Certificates.{Rules}
use Rattle.journal_core.specs.declared.records.Record.{Record}
use Rattle.journal_core.specs.Records as journals
use Rattle.world_spec.specs.Terms.{rules_for}
use Rattle.report_text.specs.declared.lines.Line.{Line}
use Rattle.report_text.specs.declared.lines.Line.TheVariants as line
use Rattle.report_text.specs.declared.lines.RestartText.TheVariants as restart_text
use Rattle.schedule_text.specs.declared.words.Event.{Event}
use Rattle.schedule_text.specs.declared.words.Event.TheVariants as event
use Rattle.world_spec.specs.Starts.{started}
use Rattle.world_spec.specs.Setting.{Setting, Trust}
use Rattle.world_spec.specs.World as worlds
use Rattle.world_spec.specs.World.{World}
use Rattle.world_spec.specs.Step.{happens, happens_over}
use Rattle.world_spec.specs.Report.{lines_of}
use Rattle.world_spec.specs.Run.{records_of, run}
use Rattle.world_spec.specs.Posts.{Post, with_all}
use Rattle.world_spec.specs.Scene.{Scene, rules_in}
use Rattle.world_spec.specs.SceneSteps.{AddsLine, MayAddLine, records_left, work_of}
use Rattle.world_spec.specs.SceneWorlds.{AreKeepable, Restarts, Shows, Tells, TellsFront, is_restart, journal_in, posts_from}
use Rattle.world_core.specs.Restarts.{RestartsAs, StaysDown}
use Rattle.committee_core.specs.Laws.{SceneLaws}
use Rattle.committee_core.specs.Journals.{AreAtLeast, IsTold, ReadsNone}
use Rattle.committee_core.specs.Steps.{IsTaken}
use Rattle.committee_core.proofs.Restarting.{restart-of}
use Rattle.run_law.proofs.SceneSteps.{posts-shown}

-- ---- observable lists

-- lists that were observable at the start are observable, are as many, and are the journals of the world
abbrev pub TellsFrom : Option Journals → Option Journals → World → Type 0
TellsFrom None now w = Unit {0}
TellsFrom (Some start) now w = (lists : Journals) × (now ≡ Some lists) × (length lists ≡ length start) × Tells (Some lists) w

-- each of them is a prefix of its journal
abbrev pub FrontFrom : Option Journals → Option Journals → World → Type 0
FrontFrom None now w = Unit {0}
FrontFrom (Some start) now w = (lists : Journals) × (now ≡ Some lists) × TellsFront (Some lists) w

all-length : (records : List Record) (lists : Journals) (m : ℕ) → length (with_all lists m records) ≡ length lists
all-length [] lists m = refl
all-length (x ∷ records) lists m =
    all-length records (with_record lists m (journals.journal_record.spell x)) m ∙ set_length lists m (journal_of lists m ++ journals.journal_record.spell x ∷ [])

-- observable lists stay observable after a line
abbrev IsToldAs : Journals → Option Journals → Type 0
IsToldAs lists now = (lists' : Journals) × (now ≡ Some lists') × (length lists' ≡ length lists)

added-told : (lists : Journals) (now : Option Journals) (left : Option (ℕ × List Record)) → AddsLine left (Some lists) now → IsToldAs lists now
added-told lists now None is = (lists, is, refl)
added-told lists now (Some (m, records)) is = (with_all lists m records, is, all-length records lists m)

may-told : (lists : Journals) (now : Option Journals) (left : Option (ℕ × List Record)) → MayAddLine left (Some lists) now → IsToldAs lists now
may-told lists now None is = (lists, is, refl)
may-told lists now (Some (m, records)) cut = (with_all lists m cut.front, cut.adds, all-length cut.front lists m)

-- ---- a restart

-- the sequences of a scene are those of the world
pub keepable-shown : (trust : Trust) (s : Setting) (w : World) (sc : Scene) → Shows trust s w sc → AreKeepable sc.sequences → AreKeepable w.sequences
keepable-shown trust s w sc shows all = subst AreKeepable (ap (λ (x : Scene). x.sequences) shows.scene) all

-- the rules and the opening objects of a scene are those of the setting
pub rules-shown : (trust : Trust) (s : Setting) (w : World) (sc : Scene) → Shows trust s w sc → rules_in trust.accepts sc ≡ s.rules
rules-shown trust s w sc shows = ap (λ (x : Scene). rules_for x.terms trust.accepts) shows.scene ∙ sym shows.rules

pub started-shown : (trust : Trust) (s : Setting) (w : World) (sc : Scene) (kept : List (List ℕ)) → Shows trust s w sc
    → started (rules_in trust.accepts sc) sc.opening kept ≡ started s.rules s.opening kept
started-shown trust s w sc kept shows =
    ap (λ (r : Rules). started r sc.opening kept) (rules-shown trust s w sc shows) ∙ ap (λ (x : Scene). started s.rules x.opening kept) shows.scene

got-below : {A : Type 0} (xs : List A) (m : ℕ) (x : A) → slice_get xs m ≡ Some x → m < length xs
got-below [] m x h = absurd (cc)
got-below (y ∷ xs) zero x h = omega arith
got-below (y ∷ xs) (suc m) x h = let below : m < length xs = got-below xs m x h in omega (arith, below)

seats-none : (s : Setting) (k m : ℕ) (seats : List worlds.Seat) → slice_get (posts_from s k seats) m ≡ None → slice_get seats m ≡ None
seats-none s k m [] h = refl
seats-none s k zero (seat ∷ seats) h = absurd (cc)
seats-none s k (suc m) (seat ∷ seats) h = seats-none s (suc k) m seats h

-- ---- a taken event

-- the records that it leaves are added to observable lists
leaves-told : (trust : Trust) (l : SceneLaws trust) (s : Setting) (w : World) (sc : Scene) (e : Event) (lists : Journals) (now : Option Journals)
    → Shows trust s w sc → length w.seats ≤ length lists → Tells (Some lists) w → AddsLine (records_left (rules_in trust.accepts sc) sc (work_of sc e)) (Some lists) now
    → (lists' : Journals) × (now ≡ Some lists') × (length lists' ≡ length lists) × Tells (Some lists') (happens s w e)
leaves-told trust l s w sc e lists now shows room tells left =
    let told = added-told lists now (records_left (rules_in trust.accepts sc) sc (work_of sc e)) left in
    (told.0, told.1, told.2, subst (λ (j : Option Journals). Tells j (happens s w e)) told.1 (l.told s w sc e (Some lists) now shows room tells left))

may-leave-told : (trust : Trust) (l : SceneLaws trust) (s : Setting) (w : World) (sc : Scene) (e : Event) (lists : Journals) (now : Option Journals)
    → Shows trust s w sc → length w.seats ≤ length lists → Tells (Some lists) w → MayAddLine (records_left (rules_in trust.accepts sc) sc (work_of sc e)) (Some lists) now
    → (lists' : Journals) × (now ≡ Some lists') × TellsFront (Some lists') (happens s w e)
may-leave-told trust l s w sc e lists now shows room tells left =
    let told = may-told lists now (records_left (rules_in trust.accepts sc) sc (work_of sc e)) left in
    (told.0, told.1, subst (λ (j : Option Journals). TellsFront j (happens s w e)) told.1 (l.cut s w sc e (Some lists) now shows room tells left))

-- the scene shows the world after the event, the lines are the definition's, and observable lists are its journals
pub record IsFollowed (trust : Trust) (s : Setting) (w : World) (e : Event) (now : Scene) (given : List Line) : Type 0 where
  pub shows : Shows trust s (happens s w e) now
  pub lines : given ≡ lines_of s w e

-- a restart of a member that is not there
unknown-happens : (s : Setting) (w : World) (m : ℕ) → slice_get w.seats m ≡ None → happens s w (event.Restart m) ≡ w
unfolding happens_over
unknown-happens s w m away = rw away refl

-- the event restarts a member, and what is read back is its journal
restart-followed : (trust : Trust) (l : SceneLaws trust) (s : Setting) (w : World) (sc now : Scene) (m : ℕ) (lists : Journals) (given : List Line) (p : Option Post) → slice_get sc.posts m ≡ p
    → Shows trust s w sc → Restarts s w → Tells (Some lists) w → RestartsAs trust.accepts (Some lists) m sc now p (Ok given) → IsFollowed trust s w (event.Restart m) now given
restart-followed trust l s w sc now m lists given (Some p) at shows starts tells back =
    let is : back.kept ≡ journal_in w m = back.is ∙ tells m in
    let begins : started s.rules s.opening (journal_in w m) ≡ Ok back.state =
    ap (started s.rules s.opening) (sym is) ∙ sym (started-shown trust s w sc back.kept shows) ∙ back.starts in
    let count : length sc.posts ≡ length w.seats = posts-shown trust s w sc shows in
    let low : m < length sc.posts = got-below sc.posts m p at in
    let below : m < length w.seats = omega (arith, count, low) in
    record {
      shows = subst (Shows trust s (happens s w (event.Restart m))) (sym back.scene) (l.restart s w sc m back.state shows starts below begins);
      lines = back.says ∙ ap (λ (kept : List (List ℕ)). line.Restart m (restart_text.Records (length kept)) ∷ []) is ∙ sym (l.restarted s w m);
    }
restart-followed trust l s w sc now m lists given None at shows starts tells back =
    let away : slice_get w.seats m ≡ None = seats-none s 0 m w.seats (sym (ap (λ (x : Scene). slice_get x.posts m) shows.scene) ∙ at) in
    let bare : journal_in w m ≡ [] = ap (λ (o : Option worlds.Seat). map journals.journal_record.spell (records_of o)) away in
    record {
      shows = subst (λ (v : World). Shows trust s v now) (sym (unknown-happens s w m away)) (subst (Shows trust s w) (sym back.scene) shows);
      lines = back.says ∙ ap (λ (kept : List (List ℕ)). line.Restart m (restart_text.Records (length kept)) ∷ []) (sym bare) ∙ sym (l.restarted s w m);
    }

-- lists are observable, or the event reads none
abbrev pub ReadsTold : Option Journals → Event → Type 0
ReadsTold start e = IsTold start ⊎ ReadsNone e

followed-restart : (trust : Trust) (l : SceneLaws trust) (s : Setting) (w : World) (sc now : Scene) (e : Event) (start told told' : Option Journals) (given : List Line)
    → Shows trust s w sc → Restarts s w → TellsFrom start told w → ReadsTold start e → (m : ℕ) → e ≡ event.Restart m → IsTaken trust e sc now told told' given → IsFollowed trust s w e now given
followed-restart trust l s w sc now e None told told' given shows starts tells (inl never) m is taken = absurd never
followed-restart trust l s w sc now e None told told' given shows starts tells (inr gone) m is taken = absurd (cc (gone, ap is_restart is))
followed-restart trust l s w sc now e (Some start) told told' given shows starts (lists, same, size, tells) reads m is taken =
    subst (λ (d : Event). IsFollowed trust s w d now given) (sym is)
    (restart-followed trust l s w sc now m lists given (slice_get sc.posts m) refl shows starts tells
    (subst (λ (j : Option Journals). RestartsAs trust.accepts j m sc now (slice_get sc.posts m) (Ok given)) same (taken.restart m is)))

followed-as : (trust : Trust) (l : SceneLaws trust) (s : Setting) (w : World) (sc now : Scene) (e : Event) (start told told' : Option Journals) (given : List Line) (restarts : Bool) → is_restart e ≡ restarts
    → Shows trust s w sc → Restarts s w → TellsFrom start told w → ReadsTold start e → IsTaken trust e sc now told told' given → IsFollowed trust s w e now given
followed-as trust l s w sc now e start told told' given false is shows starts tells reads taken = record {
  shows = subst (Shows trust s (happens s w e)) (sym (taken.scene is)) (l.steps s w sc e shows is);
  lines = taken.lines is ∙ sym (l.lines s w sc e shows is);
}
followed-as trust l s w sc now e start told told' given true is shows starts tells reads taken =
    let m = restart-of e is in
    followed-restart trust l s w sc now e start told told' given shows starts tells reads m.0 m.1 taken

pub followed : (trust : Trust) (l : SceneLaws trust) (s : Setting) (w : World) (sc now : Scene) (e : Event) (start told told' : Option Journals) (given : List Line)
    → Shows trust s w sc → Restarts s w → TellsFrom start told w → ReadsTold start e → IsTaken trust e sc now told told' given → IsFollowed trust s w e now given
followed trust l s w sc now e start told told' given shows starts tells reads taken =
    followed-as trust l s w sc now e start told told' given (is_restart e) refl shows starts tells reads taken

-- observable lists after a taken event
pub kept-taken : (trust : Trust) (l : SceneLaws trust) (s : Setting) (w : World) (sc now : Scene) (e : Event) (start told told' : Option Journals) (given : List Line)
    → Shows trust s w sc → TellsFrom start told w → AreAtLeast start (length sc.posts) → IsTaken trust e sc now told told' given → TellsFrom start told' (happens s w e)
kept-taken trust l s w sc now e None told told' given shows tells wide taken = tt
kept-taken trust l s w sc now e (Some start) told told' given shows (lists, same, size, tells) wide taken =
    let count : length sc.posts ≡ length w.seats = posts-shown trust s w sc shows in
    let enough : length sc.posts ≤ length start = wide in
    let room : length w.seats ≤ length lists = omega (arith, count, enough, size) in
    let left = leaves-told trust l s w sc e lists told' shows room tells
    (subst (λ (j : Option Journals). AddsLine (records_left (rules_in trust.accepts sc) sc (work_of sc e)) j told') same taken.kept) in
    (left.0, left.1, left.2 ∙ size, left.3)

-- after an event that was not taken, the lists are prefixes of the journals still
pub kept-untaken : (trust : Trust) (l : SceneLaws trust) (s : Setting) (w : World) (sc : Scene) (e : Event) (start told told' : Option Journals)
    → Shows trust s w sc → TellsFrom start told w → AreAtLeast start (length sc.posts) → MayAddLine (records_left (rules_in trust.accepts sc) sc (work_of sc e)) told told' → FrontFrom start told' (happens s w e)
kept-untaken trust l s w sc e None told told' shows tells wide left = tt
kept-untaken trust l s w sc e (Some start) told told' shows (lists, same, size, tells) wide left =
    let count : length sc.posts ≡ length w.seats = posts-shown trust s w sc shows in
    let enough : length sc.posts ≤ length start = wide in
    let room : length w.seats ≤ length lists = omega (arith, count, enough, size) in
    may-leave-told trust l s w sc e lists told' shows room tells
    (subst (λ (j : Option Journals). MayAddLine (records_left (rules_in trust.accepts sc) sc (work_of sc e)) j told') same left)

pub front-told : (trust : Trust) (l : SceneLaws trust) (start told : Option Journals) (w : World) → TellsFrom start told w → FrontFrom start told w
front-told trust l None told w tells = tt
front-told trust l (Some start) told w (lists, same, size, tells) = (lists, same, l.fronts (Some lists) w tells)

pub front-ahead : (trust : Trust) (l : SceneLaws trust) (s : Setting) (start told : Option Journals) (es : List Event) (w : World) → FrontFrom start told w → FrontFrom start told (run s es w)
front-ahead trust l s None told es w tells = tt
front-ahead trust l s (Some start) told [] w tells = tells
front-ahead trust l s (Some start) told (e ∷ es) w (lists, same, tells) =
    front-ahead trust l s (Some start) told es (happens s w e) (lists, same, l.ahead s w e (Some lists) tells)

no-err : {A E : Type 0} (e : E) (a : A) → Err e ≡ Ok a → ⊥
no-err e a h = absurd (cc)

-- a bad record is not read back from observable lists
bad-none : (trust : Trust) (s : Setting) (w : World) (sc : Scene) (m member place : ℕ) (lists : Journals) (seat : Option worlds.Seat) → slice_get w.seats m ≡ seat
    → Shows trust s w sc → Restarts s w → Tells (Some lists) w → StaysDown trust.accepts (Some lists) m sc member place → ⊥
unfolding started
bad-none trust s w sc m member place lists None is shows starts tells down =
    let kept : down.bad.kept ≡ [] = down.bad.is ∙ tells m ∙ ap (λ (o : Option worlds.Seat). map journals.journal_record.spell (records_of o)) is in
    no-err _ _ (sym down.bad.starts ∙ ap (started (rules_in trust.accepts sc) sc.opening) kept)
bad-none trust s w sc m member place lists (Some seat) is shows starts tells down =
    let kept : down.bad.kept ≡ map journals.journal_record.spell seat.records = down.bad.is ∙ tells m ∙ ap (λ (o : Option worlds.Seat). map journals.journal_record.spell (records_of o)) is in
    no-err _ _ (sym down.bad.starts ∙ started-shown trust s w sc down.bad.kept shows ∙ ap (started s.rules s.opening) kept ∙ starts.starts m seat is)

pub bad-untold : (trust : Trust) (s : Setting) (w : World) (sc : Scene) (m member place : ℕ) (start told : Option Journals)
    → Shows trust s w sc → Restarts s w → TellsFrom start told w → StaysDown trust.accepts told m sc member place → start ≡ None
bad-untold trust s w sc m member place None told shows starts tells down = refl
bad-untold trust s w sc m member place (Some start) told shows starts (lists, same, size, tells) down =
    absurd (bad-none trust s w sc m member place lists (slice_get w.seats m) refl shows starts tells
    (subst (λ (j : Option Journals). StaysDown trust.accepts j m sc member place) same down))
