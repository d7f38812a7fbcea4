-- What is written and kept after a prefix of the events.
use Rattle.std.proofs.Common.{◌≡◌, ◌≤◌, ◌<◌, ◌+◌, inl, inr, ℕ, List, [], ◌∷◌, ◌++◌, map, length, take, drop, get_or, Option, Some, None, refl, sym, ap, ◌∙◌, subst, append_assoc, append-nil, take-append-drop}
use Rattle.std.proofs.lemmas.Grind.{flat_map-append}
use Rattle.std.proofs.lemmas.List.{drop_more, take_all, take_more}
use Rattle.std.specs.Io.KnownBytes.{Appends, Keeps}
use Rattle.std.proofs.KnownBytes.{Appends-kept, Appends-nil, Appends-trans}
use Rattle.outside.specs.Lists.{Journals}
use Rattle.protocol_spec.proofs.ListLemmas.{each_front, each_back}
use Rattle.journal_core.specs.Records as journals
use Rattle.report_text.specs.declared.lines.Line.{Line}
use Rattle.report_text.specs.Text.{text_of}
use Rattle.schedule_text.specs.declared.words.Event.{Event}
use Rattle.schedule_text.specs.declared.words.Event.TheVariants as event
use Rattle.schedule_text.specs.declared.words.Schedule.{Schedule}
use Rattle.world_spec.specs.Setting.{Setting, Trust}
use Rattle.world_spec.specs.World.{World, new_world}
use Rattle.world_spec.specs.Step.{happens}
use Rattle.world_spec.specs.Report.{lines_of}
use Rattle.world_spec.specs.Run.{journal, report, report_from, report_of, run, world_after}
use Rattle.world_spec.specs.Scene.{Scene}
use Rattle.world_spec.specs.SceneWorlds.{AreKeepable, Restarts, Shows, journal_in}
use Rattle.world_core.specs.Restarts.{StaysDown}
use Rattle.committee_core.specs.Journals.{AreAtLeast, AreEmpty, IsTold, KeepsFronts, KeepsRun, ReadsBack, ReadsNone, StartsAlong}
use Rattle.committee_core.specs.Laws.{SceneLaws}
use Rattle.committee_core.specs.Report.{lines_text, setting_in}
use Rattle.committee_core.specs.Steps.{IsBadRecord, IsCutAt, untaken, unwritten, unsaid, IsUntaken, IsUnwritten, Passes}
use Rattle.outside.specs.Streams.{AppendsFront}
use Rattle.committee_core.specs.Ways.{MeetsBadRecord, RunsCut, RunsFront, RunsWhole, ShowsRun}
use Rattle.committee_core.proofs.Following.{FrontFrom, IsFollowed, ReadsTold, TellsFrom, bad-untold, followed, front-ahead, front-told, keepable-shown, kept-taken, kept-untaken, started-shown}
use Rattle.committee_core.proofs.Restarting.{restart-of}
use Rattle.run_law.proofs.SceneRecords.{no-records}

-- ---- lists

reads-front : (start : Option Journals) (front back : List Event) → ReadsBack start (front ++ back) → ReadsBack start front
reads-front start front back (inl told) = inl told
reads-front start front back (inr all) = inr (each_front ReadsNone front back all)

reads-next : (start : Option Journals) (front : List Event) (e : Event) (back : List Event) → ReadsBack start (front ++ e ∷ back) → ReadsTold start e
reads-next start front e back (inl told) = inl told
reads-next start front e back (inr all) = inr ((each_back ReadsNone front (e ∷ back) all).0)

-- ---- runs of prefixes

run-append : (s : Setting) (front back : List Event) (w : World) → run s (front ++ back) w ≡ run s back (run s front w)
run-append s [] back w = refl
run-append s (e ∷ front) back w = run-append s front back (happens s w e)

report-append : (s : Setting) (front back : List Event) (w : World) → report_from s (front ++ back) w ≡ report_from s front w ++ report_from s back (run s front w)
report-append s [] back w = refl
report-append s (e ∷ front) back w =
    ap (λ (xs : List Line). lines_of s w e ++ xs) (report-append s front back (happens s w e))
    ∙ sym (append_assoc (lines_of s w e) (report_from s front (happens s w e)) (report_from s back (run s front (happens s w e))))

text-append : (s : Setting) (front back : List Event) (w : World) → lines_text (report_from s (front ++ back) w) ≡ lines_text (report_from s front w) ++ lines_text (report_from s back (run s front w))
text-append s front back w = ap lines_text (report-append s front back w) ∙ flat_map-append text_of (report_from s front w) (report_from s back (run s front w))

text-line : (s : Setting) (e : Event) (back : List Event) (w : World) → lines_text (report_from s (e ∷ back) w) ≡ lines_text (lines_of s w e) ++ lines_text (report_from s back (happens s w e))
text-line s e back w = flat_map-append text_of (lines_of s w e) (report_from s back (happens s w e))

-- every member starts from its journal, if the entries after the prefix can be kept
abbrev StartsBehind : Setting → List Event → Type 0
StartsBehind s front = AreKeepable (run s front (new_world s)).sequences → Restarts s (run s front (new_world s))

starts-at : (s : Setting) (es front back : List Event) → StartsAlong s es → es ≡ front ++ back → StartsBehind s front
unfolding world_after
starts-at s es front back along is = along front back is

-- ---- after a prefix

pub record Behind (trust : Trust) (s : Setting) (start : Option Journals) (held0 : Option (List ℕ)) (front : List Event) (sc : Scene) (told : Option Journals) (held : Option (List ℕ)) : Type 0 where
  pub shows : Shows trust s (run s front (new_world s)) sc
  pub tells : TellsFrom start told (run s front (new_world s))
  pub written : Appends held0 held (lines_text (report_from s front (new_world s)))

no-journal : (s : Setting) (m : ℕ) → journal_in (new_world s) m ≡ []
unfolding new_world
no-journal s m = ap (map journals.journal_record.spell) (no-records s.honest m)

first-tells : (s : Setting) (start : Option Journals) → AreEmpty start → TellsFrom start start (new_world s)
first-tells s None empty = tt
first-tells s (Some lists) empty = (lists, refl, refl, λ m. empty m ∙ sym (no-journal s m))

-- nothing is written and kept yet
pub behind-none : (trust : Trust) (s : Setting) (start : Option Journals) (held : Option (List ℕ)) (sc : Scene) → Shows trust s (new_world s) sc → AreEmpty start
    → Behind trust s start held [] sc start held
behind-none trust s start held sc shows empty = record { shows = shows; tells = first-tells s start empty; written = Appends-nil held }

-- one event more
pub behind-more : (trust : Trust) (l : SceneLaws trust) (s : Setting) (start : Option Journals) (held0 : Option (List ℕ)) (front : List Event) (e : Event) (sc now : Scene) (told told' : Option Journals) (held held' : Option (List ℕ))
    → StartsBehind s front → Behind trust s start held0 front sc told held → ReadsTold start e → AreAtLeast start (length sc.posts) → Passes trust e sc now told told' held held' → Behind trust s start held0 (front ++ e ∷ []) now told' held'
behind-more trust l s start held0 front e sc now told told' held held' starts b reads wide p =
    let w : World = run s front (new_world s) in
    let f : IsFollowed trust s w e now p.given = followed trust l s w sc now e start told told' p.given b.shows (starts (keepable-shown trust s w sc b.shows p.taken.keepable)) b.tells reads p.taken in
    let to : happens s w e ≡ run s (front ++ e ∷ []) (new_world s) = sym (run-append s front (e ∷ []) (new_world s)) in
    let text : lines_text (report_from s front (new_world s)) ++ lines_text (lines_of s w e) ≡ lines_text (report_from s (front ++ e ∷ []) (new_world s)) =
    ap (λ (t : List ℕ). lines_text (report_from s front (new_world s)) ++ t) (sym (append-nil (lines_text (lines_of s w e))) ∙ sym (text-line s e [] w)) ∙ sym (text-append s front (e ∷ []) (new_world s)) in
    record {
      shows = subst (λ (v : World). Shows trust s v now) to f.shows;
      tells = subst (TellsFrom start told') to (kept-taken trust l s w sc now e start told told' p.given b.shows b.tells wide p.taken);
      written = subst (Appends held0 held') text (Appends-trans held0 held held' _ _ b.written (subst (λ (g : List Line). Appends held held' (lines_text g)) f.lines p.written));
    }

-- ---- at a place of the events

event-here : (es : List Event) (i : ℕ) (e : Event) → e ≡ get_or es i e → i < length es → take i es ++ e ∷ drop (i + 1) es ≡ es
event-here es i e is below = ap (λ (xs : List Event). take i es ++ xs) (ap (λ (d : Event). d ∷ drop (i + 1) es) is ∙ sym (drop_more es i e below)) ∙ take-append-drop i es

take-here : (es : List Event) (i : ℕ) (e : Event) → e ≡ get_or es i e → i < length es → take (i + 1) es ≡ take i es ++ e ∷ []
take-here es i e is below = take_more es i e below ∙ ap (λ (d : Event). take i es ++ d ∷ []) (sym is)

pub behind-next : (trust : Trust) (l : SceneLaws trust) (s : Setting) (start : Option Journals) (held0 : Option (List ℕ)) (es : List Event) (i : ℕ) (e : Event) (sc now : Scene) (told told' : Option Journals) (held held' : Option (List ℕ))
    → StartsAlong s es → e ≡ get_or es i e → i < length es → AreAtLeast start (length sc.posts)
    → (ReadsBack start (take i es) → Behind trust s start held0 (take i es) sc told held) → Passes trust e sc now told told' held held'
    → ReadsBack start (take (i + 1) es) → Behind trust s start held0 (take (i + 1) es) now told' held'
behind-next trust l s start held0 es i e sc now told told' held held' along is below wide so p reads =
    let more = take-here es i e is below in
    let back : ReadsBack start (take i es ++ e ∷ []) = subst (ReadsBack start) more reads in
    subst (λ (front : List Event). Behind trust s start held0 front now told' held') (sym more)
    (behind-more trust l s start held0 (take i es) e sc now told told' held held' (starts-at s es (take i es) (drop i es) along (sym (take-append-drop i es))) (so (reads-front start (take i es) (e ∷ []) back)) (reads-next start (take i es) e [] back) wide p)

-- ---- the end

keeps-run : (trust : Trust) (s : Schedule) (start told : Option Journals) → ((t : IsTold start) → TellsFrom start told (world_after (setting_in trust s) s.events)) → KeepsRun trust s start told
unfolding journal
keeps-run trust s None told so = tt
keeps-run trust s (Some lists) told so = let tells = so tt in (tells.0, tells.1, tells.3)

keeps-fronts : (trust : Trust) (s : Schedule) (start told : Option Journals) → ((t : IsTold start) → FrontFrom start told (world_after (setting_in trust s) s.events)) → KeepsFronts trust s start told
unfolding journal
keeps-fronts trust s None told so = tt
keeps-fronts trust s (Some lists) told so = let tells = so tt in (tells.0, tells.1, tells.2)

whole-front : (trust : Trust) (s : Schedule) (start : Option Journals) (held0 : Option (List ℕ)) (sc : Scene) (told : Option Journals) (held : Option (List ℕ))
    → (ReadsBack start s.events → Behind trust (setting_in trust s) start held0 s.events sc told held) → RunsWhole trust s held0 held start told
unfolding world_after report report_of
whole-front trust s start held0 sc told held so = record {
  written = λ reads. (so reads).written;
  journals = keeps-run trust s start told (λ t. (so (inl t)).tells);
}

pub whole-run : (trust : Trust) (s : Schedule) (start : Option Journals) (held0 : Option (List ℕ)) (i : ℕ) (sc : Scene) (told : Option Journals) (held : Option (List ℕ))
    → length s.events ≤ i → (ReadsBack start (take i s.events) → Behind trust (setting_in trust s) start held0 (take i s.events) sc told held) → RunsWhole trust s held0 held start told
whole-run trust s start held0 i sc told held done so =
    whole-front trust s start held0 sc told held
    (subst (λ (es : List Event). ReadsBack start es → Behind trust (setting_in trust s) start held0 es sc told held) (take_all i s.events done) so)

pub whole-shown : (trust : Trust) (s : Schedule) (start : Option Journals) (held0 : Option (List ℕ)) (i : ℕ) (sc : Scene) (told : Option Journals) (held : Option (List ℕ))
    → length s.events ≤ i → (ReadsBack start (take i s.events) → Behind trust (setting_in trust s) start held0 (take i s.events) sc told held) → ShowsRun trust s start sc
unfolding world_after
whole-shown trust s start held0 i sc told held done so = λ reads.
    (subst (λ (es : List Event). ReadsBack start es → Behind trust (setting_in trust s) start held0 es sc told held) (take_all i s.events done) so reads).shows

-- ---- cuts

-- a prefix of the lines of the next event was written
front-written : (s : Setting) (front : List Event) (e : Event) (back : List Event) (a b c : Option (List ℕ)) → Appends a b (lines_text (report_from s front (new_world s)))
    → AppendsFront b c (lines_text (lines_of s (run s front (new_world s)) e)) → AppendsFront a c (lines_text (report_from s (front ++ e ∷ back) (new_world s)))
front-written s front e back a b c done (more, left, split, extra) =
    let w : World = run s front (new_world s) in
    let behind : List ℕ = lines_text (report_from s back (happens s w e)) in (
      lines_text (report_from s front (new_world s)) ++ more,
      left ++ behind,
      text-append s front (e ∷ back) (new_world s)
          ∙ ap (λ (t : List ℕ). lines_text (report_from s front (new_world s)) ++ t) (text-line s e back w ∙ ap (λ (t : List ℕ). t ++ behind) split ∙ append_assoc more left behind)
          ∙ sym (append_assoc (lines_text (report_from s front (new_world s))) more (left ++ behind)),
      Appends-trans a b c _ more done extra,
    )

none-written : (b c : Option (List ℕ)) (text : List ℕ) → Keeps b c → AppendsFront b c text
none-written b c text stays = ([], text, refl, Appends-kept b b c [] (Appends-nil b) stays)

runs-front : (trust : Trust) (s : Schedule) (start told : Option Journals) (held0 held : Option (List ℕ)) (es : List Event) → s.events ≡ es
    → (ReadsBack start es → AppendsFront held0 held (lines_text (report_from (setting_in trust s) es (new_world (setting_in trust s)))))
    → ((t : IsTold start) → FrontFrom start told (run (setting_in trust s) es (new_world (setting_in trust s)))) → RunsFront trust s held0 held start told
unfolding world_after report report_of
runs-front trust s start told held0 held es is written tells = record {
  written = λ reads. subst (λ (xs : List Event). AppendsFront held0 held (lines_text (report_from (setting_in trust s) xs (new_world (setting_in trust s))))) (sym is) (written (subst (ReadsBack start) is reads));
  journals = keeps-fronts trust s start told (λ t. subst (λ (xs : List Event). FrontFrom start told (run (setting_in trust s) xs (new_world (setting_in trust s)))) (sym is) (tells t));
}

ahead-of : (trust : Trust) (l : SceneLaws trust) (s : Setting) (start told : Option Journals) (front : List Event) (e : Event) (back : List Event)
    → FrontFrom start told (happens s (run s front (new_world s)) e) → FrontFrom start told (run s (front ++ e ∷ back) (new_world s))
ahead-of trust l s start told front e back f =
    subst (FrontFrom start told) (sym (run-append s front (e ∷ back) (new_world s))) (front-ahead trust l s start told back (happens s (run s front (new_world s)) e) f)

-- the next event was not taken
cut-untaken : (trust : Trust) (l : SceneLaws trust) (s : Schedule) (start : Option Journals) (held0 : Option (List ℕ)) (front : List Event) (e : Event) (back : List Event) (sc : Scene) (told told' : Option Journals) (held held' : Option (List ℕ))
    → s.events ≡ front ++ e ∷ back → AreAtLeast start (length sc.posts) → (ReadsBack start front → Behind trust (setting_in trust s) start held0 front sc told held)
    → IsUntaken trust e sc told told' held held' → RunsFront trust s held0 held' start told'
cut-untaken trust l s start held0 front e back sc told told' held held' is wide so cut =
    runs-front trust s start told' held0 held' (front ++ e ∷ back) is
    (λ reads. front-written (setting_in trust s) front e back held0 held held' (so (reads-front start front (e ∷ back) reads)).written (none-written held held' _ cut.written))
    (λ t. let b = so (inl t) in
    ahead-of trust l (setting_in trust s) start told' front e back
    (kept-untaken trust l (setting_in trust s) (run (setting_in trust s) front (new_world (setting_in trust s))) sc e start told told' b.shows b.tells wide cut.kept))

-- it was taken, and a prefix of its lines was written
cut-unwritten : (trust : Trust) (l : SceneLaws trust) (s : Schedule) (start : Option Journals) (held0 : Option (List ℕ)) (front : List Event) (e : Event) (back : List Event) (sc : Scene) (told told' : Option Journals) (held held' : Option (List ℕ))
    → s.events ≡ front ++ e ∷ back → AreAtLeast start (length sc.posts) → (ReadsBack start front → Behind trust (setting_in trust s) start held0 front sc told held)
    → StartsAlong (setting_in trust s) s.events → IsUnwritten trust e sc told told' held held' → RunsFront trust s held0 held' start told'
cut-unwritten trust l s start held0 front e back sc told told' held held' is wide so along cut =
    let st : Setting = setting_in trust s in
    let w : World = run st front (new_world st) in
    runs-front trust s start told' held0 held' (front ++ e ∷ back) is
    (λ reads. let b = so (reads-front start front (e ∷ back) reads) in
    let starts : Restarts st w = starts-at st s.events front (e ∷ back) along is (keepable-shown trust st w sc b.shows cut.taken.keepable) in
    let f : IsFollowed trust st w e cut.now cut.given = followed trust l st w sc cut.now e start told told' cut.given b.shows starts b.tells (reads-next start front e back reads) cut.taken in
    front-written st front e back held0 held held' b.written (subst (λ (g : List Line). AppendsFront held held' (lines_text g)) f.lines cut.written))
    (λ t. let b = so (inl t) in
    ahead-of trust l st start told' front e back
    (front-told trust l start told' (happens st w e) (kept-taken trust l st w sc cut.now e start told told' cut.given b.shows b.tells wide cut.taken)))

-- a record that it reads back is bad
untold-where : (start : Option Journals) → ((t : IsTold start) → start ≡ None) → start ≡ None
untold-where None so = refl
untold-where (Some lists) so = so tt

abbrev Joins : (Option (List ℕ) → Option (List ℕ) → List ℕ → Type 0) → Type 0
Joins Writes = (a b c : Option (List ℕ)) (x y : List ℕ) → Appends a b x → Writes b c y → Writes a c (x ++ y)

front-joins : Joins AppendsFront
front-joins a b c x y done (more, left, split, extra) = (x ++ more, left, ap (λ (t : List ℕ). x ++ t) split ∙ sym (append_assoc x more left), Appends-trans a b c x more done extra)

meets : (trust : Trust) (s : Schedule) (Writes : Option (List ℕ) → Option (List ℕ) → List ℕ → Type 0) → Joins Writes → (start : Option Journals) (held0 : Option (List ℕ)) (front : List Event) (e : Event) (back : List Event) (sc : Scene) (told : Option Journals) (held held' : Option (List ℕ))
    → s.events ≡ front ++ e ∷ back → (ReadsBack start front → Behind trust (setting_in trust s) start held0 front sc told held)
    → StartsAlong (setting_in trust s) s.events → IsBadRecord trust e sc told Writes held held' → MeetsBadRecord trust s Writes held0 held' start
unfolding report
meets trust s Writes joins start held0 front e back sc told held held' is so along bad =
    let st : Setting = setting_in trust s in
    let w : World = run st front (new_world st) in
    let m = restart-of e bad.reads.restarts in
    let down : StaysDown trust.accepts told m.0 sc bad.member bad.place = bad.reads.stays m.0 m.1 in
    let which : e ≡ event.Restart bad.member = m.1 ∙ ap (λ (k : ℕ). event.Restart k) (sym down.who) in
    record {
      front = front;
      back = back;
      member = bad.member;
      place = bad.place;
      restarts = is ∙ ap (λ (d : Event). front ++ d ∷ back) which;
      untold = untold-where start (λ t. let b = so (inl t) in
          let starts : Restarts st w = starts-at st s.events front (e ∷ back) along is (keepable-shown trust st w sc b.shows bad.reads.keepable) in
          bad-untold trust st w sc m.0 bad.member bad.place start told b.shows starts b.tells down);
      bad = λ reads. record { records = down.bad.kept; why = down.bad.why; stops = sym (started-shown trust st w sc down.bad.kept (so reads).shows) ∙ down.bad.starts };
      written = λ reads. joins held0 held held' _ _ (so reads).written bad.written;
    }

cut-at : (trust : Trust) (l : SceneLaws trust) (s : Schedule) (start : Option Journals) (held0 : Option (List ℕ)) (front : List Event) (e : Event) (back : List Event) (sc : Scene) (told told' : Option Journals) (held held' : Option (List ℕ))
    → s.events ≡ front ++ e ∷ back → AreAtLeast start (length sc.posts) → (ReadsBack start front → Behind trust (setting_in trust s) start held0 front sc told held)
    → StartsAlong (setting_in trust s) s.events → IsCutAt trust e sc told told' held held' → RunsCut trust s held0 held' start told'
cut-at trust l s start held0 front e back sc told told' held held' is wide so along (untaken cut) = inl (cut-untaken trust l s start held0 front e back sc told told' held held' is wide so cut)
cut-at trust l s start held0 front e back sc told told' held held' is wide so along (unwritten cut) = inl (cut-unwritten trust l s start held0 front e back sc told told' held held' is wide so along cut)
cut-at trust l s start held0 front e back sc told told' held held' is wide so along (unsaid bad) = inr (meets trust s AppendsFront front-joins start held0 front e back sc told held held' is so along bad)

pub cut-here : (trust : Trust) (l : SceneLaws trust) (s : Schedule) (start : Option Journals) (held0 : Option (List ℕ)) (i : ℕ) (e : Event) (sc : Scene) (told told' : Option Journals) (held held' : Option (List ℕ))
    → e ≡ get_or s.events i e → i < length s.events → AreAtLeast start (length sc.posts)
    → (ReadsBack start (take i s.events) → Behind trust (setting_in trust s) start held0 (take i s.events) sc told held)
    → StartsAlong (setting_in trust s) s.events → IsCutAt trust e sc told told' held held' → RunsCut trust s held0 held' start told'
cut-here trust l s start held0 i e sc told told' held held' is below wide so along cut =
    cut-at trust l s start held0 (take i s.events) e (drop (i + 1) s.events) sc told told' held held' (sym (event-here s.events i e is below)) wide so along cut

pub bad-here : (trust : Trust) (s : Schedule) (start : Option Journals) (held0 : Option (List ℕ)) (i : ℕ) (e : Event) (sc : Scene) (told : Option Journals) (held held' : Option (List ℕ))
    → e ≡ get_or s.events i e → i < length s.events
    → (ReadsBack start (take i s.events) → Behind trust (setting_in trust s) start held0 (take i s.events) sc told held)
    → StartsAlong (setting_in trust s) s.events → IsBadRecord trust e sc told Appends held held' → MeetsBadRecord trust s Appends held0 held' start
bad-here trust s start held0 i e sc told held held' is below so along bad =
    meets trust s Appends (λ a b c x y done more. Appends-trans a b c x y done more) start held0 (take i s.events) e (drop (i + 1) s.events) sc told held held' (sym (event-here s.events i e is below)) so along bad
