-- How a replay ends, by what the code sees of the world.
use Rattle.std.proofs.Common.{◌≡◌, ◌⊎◌, inl, inr, ℕ, zero, suc, Bool, true, false, List, [], ◌∷◌, length, map, Option, Some, None, Result, Ok, Err, refl, sym, ◌∙◌, ap, subst, is_some, slice_get, Bor, option_copied, ◌++◌}
use Rattle.std.specs.Prelude.{IfOk, codes, decimal}
use Rattle.std.specs.Io.KnownBytes.{Appends, Keeps}
use Rattle.outside.specs.Lists.{Journals, journal_of}
use Rattle.report_text.specs.declared.lines.Line.{Line}
use Rattle.report_text.specs.declared.lines.Line.TheVariants as line
use Rattle.report_text.specs.declared.lines.RestartText.TheVariants as restart_text
use Rattle.schedule_text.specs.declared.words.Schedule.{Schedule}
use Rattle.schedule_text.specs.declared.words.ScheduleRefusal.{ScheduleRefusal}
use Rattle.schedule_text.specs.declared.words.ScheduleRefusal.TheVariants as schedule_refusal
use Rattle.schedule_text.specs.Schedule.{Refused, RefusesWith, longest_text, schedule_of}
use Rattle.chain_types.specs.declared.objects.Object.{Object}
use Rattle.protocol_spec.specs.declared.refusals.StartRefusal.{StartRefusal}
use Rattle.protocol_spec.specs.declared.refusals.StartRefusal.TheVariants as no_start
use Rattle.protocol_spec.specs.Member.Member.{Member, live_objects}
use Rattle.world_spec.specs.Setting.{Trust, setting_of}
use Rattle.world_spec.specs.World.{honest_seat, is_honest, new_seat, new_world}
use Rattle.world_spec.specs.Report.{shown}
use Rattle.world_spec.specs.Known.{setting_with, world_with}
use Rattle.world_spec.specs.Posts.{new_posts, seat_at}
use Rattle.world_spec.specs.Scene.{Scene, new_scene, rules_in}
use Rattle.world_spec.specs.Starts.{started}
use Rattle.world_spec.specs.Terms.{Terms}
use Rattle.world_spec.proofs.LineWorlds.{shown_same}
use Rattle.world_core.specs.Crews.{honest_at}
use Rattle.world_core.specs.declared.replay.Replayed.{Replayed}
use Rattle.world_core.specs.Replays.{IsReplayed}
use Rattle.world_core.specs.SeatRestarts.{HasBadRecord, IsJournal}
use Rattle.world_core.specs.Texts.{show_by}
use Rattle.committee_core.specs.Headline.{program_trust}
use Rattle.committee_core.specs.Replay.{Ending, Says, SaysFront, SaysOfText, Writing, member_ending, no_member_text, start_ending, text_ending}
use Rattle.committee_core.specs.Report.{lines_text, refusal_text, setting_in}
use Rattle.outside.specs.Streams.{AppendsFront, ReadsText}
use Rattle.committee_core.specs.Ways.{bad_record_text}

-- ---- statuses

abbrev pub Is : ℕ → ℕ → Type 0
Is n m = n ≡ m

pub six_not_zero : {A : Type 0} → Is 6 0 → A
six_not_zero is = absurd (cc)

pub seven_not_zero : {A : Type 0} → Is 7 0 → A
seven_not_zero is = absurd (cc)

pub seven_not_six : {A : Type 0} → Is 7 6 → A
seven_not_six is = absurd (cc)

five-not-zero : {A : Type 0} → Is 5 0 → A
five-not-zero is = absurd (cc)

five-not-six : {A : Type 0} → Is 5 6 → A
five-not-six is = absurd (cc)

zero-not-six : {A : Type 0} → Is 0 6 → A
zero-not-six is = absurd (cc)

eight-not-six : {A : Type 0} → Is 8 6 → A
eight-not-six is = absurd (cc)

five-not-eight : {A : Type 0} → Is 5 8 → A
five-not-eight is = absurd (cc)

six-not-eight : {A : Type 0} → Is 6 8 → A
six-not-eight is = absurd (cc)

seven-not-eight : {A : Type 0} → Is 7 8 → A
seven-not-eight is = absurd (cc)

three-not-six : {A : Type 0} → Is 3 6 → A
three-not-six is = absurd (cc)

pub six_not_cut : {A : Type 0} → (Is 6 5) ⊎ (Is 6 7) → A
six_not_cut (inl is) = absurd (cc)
six_not_cut (inr is) = absurd (cc)

pub seven_not_whole : {A : Type 0} → (Is 7 0) ⊎ (Is 7 8) → A
seven_not_whole (inl is) = seven_not_zero is
seven_not_whole (inr is) = seven-not-eight is

pub seven_not_said : {A : Type 0} → (Is 7 0) ⊎ (Is 7 3) ⊎ (Is 7 8) → A
seven_not_said (inl is) = seven_not_zero is
seven_not_said (inr (inl is)) = absurd (cc)
seven_not_said (inr (inr is)) = seven-not-eight is

pub four_not_said : {A : Type 0} → (Is 4 0) ⊎ (Is 4 3) ⊎ (Is 4 8) → A
four_not_said (inl is) = absurd (cc)
four_not_said (inr (inl is)) = absurd (cc)
four_not_said (inr (inr is)) = absurd (cc)

pub four_not_six : {A : Type 0} → Is 4 6 → A
four_not_six is = absurd (cc)

pub four_not_cut : {A : Type 0} → (Is 4 5) ⊎ (Is 4 7) → A
four_not_cut (inl is) = absurd (cc)
four_not_cut (inr is) = absurd (cc)

-- what a line's writer answers
pub started_not_six : {A : Type 0} (status : ℕ) → (status ≡ 0) ⊎ (status ≡ 5) ⊎ (status ≡ 7) → status ≡ 6 → A
started_not_six status (inl nil) is = zero-not-six (sym nil ∙ is)
started_not_six status (inr (inl five)) is = five-not-six (sym five ∙ is)
started_not_six status (inr (inr seven)) is = seven_not_six (sym seven ∙ is)

pub bad_not_zero : {A : Type 0} (status : ℕ) → (status ≡ 5) ⊎ (status ≡ 6) ⊎ (status ≡ 7) → status ≡ 0 → A
bad_not_zero status (inl five) is = five-not-zero (sym five ∙ is)
bad_not_zero status (inr (inl six)) is = six_not_zero (sym six ∙ is)
bad_not_zero status (inr (inr seven)) is = seven_not_zero (sym seven ∙ is)

pub none_not_six : {A : Type 0} (status : ℕ) → (status ≡ 5) ⊎ (status ≡ 7) ⊎ (status ≡ 8) → status ≡ 6 → A
none_not_six status (inl five) is = five-not-six (sym five ∙ is)
none_not_six status (inr (inl seven)) is = seven_not_six (sym seven ∙ is)
none_not_six status (inr (inr eight)) is = eight-not-six (sym eight ∙ is)

none-is-eight : (status : ℕ) → (status ≡ 5) ⊎ (status ≡ 7) ⊎ (status ≡ 8) → (status ≡ 0) ⊎ (status ≡ 8) → status ≡ 8
none-is-eight status known (inr eight) = eight
none-is-eight status (inl five) (inl is) = five-not-zero (sym five ∙ is)
none-is-eight status (inr (inl seven)) (inl is) = seven_not_zero (sym seven ∙ is)
none-is-eight status (inr (inr eight)) (inl is) = eight

honest-is-zero : (status : ℕ) → (status ≡ 0) ⊎ (status ≡ 5) ⊎ (status ≡ 6) ⊎ (status ≡ 7) → (status ≡ 0) ⊎ (status ≡ 8) → status ≡ 0
honest-is-zero status known (inl nil) = nil
honest-is-zero status (inl nil) (inr is) = nil
honest-is-zero status (inr (inl five)) (inr is) = five-not-eight (sym five ∙ is)
honest-is-zero status (inr (inr (inl six))) (inr is) = six-not-eight (sym six ∙ is)
honest-is-zero status (inr (inr (inr seven))) (inr is) = seven-not-eight (sym seven ∙ is)

pub refused_not_six : {A : Type 0} (status : ℕ) → (status ≡ 3) ⊎ (status ≡ 5) ⊎ (status ≡ 7) → status ≡ 6 → A
refused_not_six status (inl three) is = three-not-six (sym three ∙ is)
refused_not_six status (inr (inl five)) is = five-not-six (sym five ∙ is)
refused_not_six status (inr (inr seven)) is = seven_not_six (sym seven ∙ is)

refused-is-three : (status : ℕ) → (status ≡ 3) ⊎ (status ≡ 5) ⊎ (status ≡ 7) → (status ≡ 0) ⊎ (status ≡ 3) ⊎ (status ≡ 8) → status ≡ 3
refused-is-three status (inl three) said = three
refused-is-three status known (inr (inl three)) = three
refused-is-three status (inr (inl five)) (inl is) = five-not-zero (sym five ∙ is)
refused-is-three status (inr (inl five)) (inr (inr is)) = five-not-eight (sym five ∙ is)
refused-is-three status (inr (inr seven)) (inl is) = seven_not_zero (sym seven ∙ is)
refused-is-three status (inr (inr seven)) (inr (inr is)) = seven-not-eight (sym seven ∙ is)

schedule-said : (status : ℕ) → (status ≡ 0) ⊎ (status ≡ 5) ⊎ (status ≡ 6) ⊎ (status ≡ 7) ⊎ (status ≡ 8) → (status ≡ 0) ⊎ (status ≡ 3) ⊎ (status ≡ 8) → (status ≡ 0) ⊎ (status ≡ 8)
schedule-said status known (inl nil) = inl nil
schedule-said status known (inr (inr eight)) = inr eight
schedule-said status (inl nil) (inr (inl three)) = inl nil
schedule-said status (inr (inr (inr (inr eight)))) (inr (inl three)) = inr eight
schedule-said status (inr (inl five)) (inr (inl three)) = let e : Is 5 3 = sym five ∙ three in absurd (cc)
schedule-said status (inr (inr (inl six))) (inr (inl three)) = let e : Is 6 3 = sym six ∙ three in absurd (cc)
schedule-said status (inr (inr (inr (inl seven)))) (inr (inl three)) = let e : Is 7 3 = sym seven ∙ three in absurd (cc)

pub known_started : (status : ℕ) → (status ≡ 0) ⊎ (status ≡ 5) ⊎ (status ≡ 7) → (status ≡ 0) ⊎ (status ≡ 5) ⊎ (status ≡ 6) ⊎ (status ≡ 7)
known_started status (inl nil) = inl nil
known_started status (inr (inl five)) = inr (inl five)
known_started status (inr (inr seven)) = inr (inr (inr seven))

pub known_bad : (status : ℕ) → (status ≡ 5) ⊎ (status ≡ 6) ⊎ (status ≡ 7) → (status ≡ 0) ⊎ (status ≡ 5) ⊎ (status ≡ 6) ⊎ (status ≡ 7)
known_bad status known = inr known

pub known_honest : (status : ℕ) → (status ≡ 0) ⊎ (status ≡ 5) ⊎ (status ≡ 6) ⊎ (status ≡ 7) → (status ≡ 0) ⊎ (status ≡ 5) ⊎ (status ≡ 6) ⊎ (status ≡ 7) ⊎ (status ≡ 8)
known_honest status (inl nil) = inl nil
known_honest status (inr (inl five)) = inr (inl five)
known_honest status (inr (inr (inl six))) = inr (inr (inl six))
known_honest status (inr (inr (inr seven))) = inr (inr (inr (inl seven)))

pub known_none : (status : ℕ) → (status ≡ 5) ⊎ (status ≡ 7) ⊎ (status ≡ 8) → (status ≡ 0) ⊎ (status ≡ 5) ⊎ (status ≡ 6) ⊎ (status ≡ 7) ⊎ (status ≡ 8)
known_none status (inl five) = inr (inl five)
known_none status (inr more) = inr (inr (inr more))

pub known_schedule : (status : ℕ) → (status ≡ 0) ⊎ (status ≡ 5) ⊎ (status ≡ 6) ⊎ (status ≡ 7) ⊎ (status ≡ 8) → (status ≡ 0) ⊎ (status ≡ 3) ⊎ (status ≡ 5) ⊎ (status ≡ 6) ⊎ (status ≡ 7) ⊎ (status ≡ 8)
known_schedule status (inl nil) = inl nil
known_schedule status (inr more) = inr (inr more)

pub known_refused : (status : ℕ) → (status ≡ 3) ⊎ (status ≡ 5) ⊎ (status ≡ 7) → (status ≡ 0) ⊎ (status ≡ 3) ⊎ (status ≡ 5) ⊎ (status ≡ 6) ⊎ (status ≡ 7) ⊎ (status ≡ 8)
known_refused status (inl three) = inr (inl three)
known_refused status (inr (inl five)) = inr (inr (inl five))
known_refused status (inr (inr seven)) = inr (inr (inr (inr (inl seven))))

pub known_read : (status : ℕ) → (status ≡ 0) ⊎ (status ≡ 3) ⊎ (status ≡ 5) ⊎ (status ≡ 6) ⊎ (status ≡ 7) ⊎ (status ≡ 8) → (status ≡ 0) ⊎ (status ≡ 3) ⊎ (status ≡ 4) ⊎ (status ≡ 5) ⊎ (status ≡ 6) ⊎ (status ≡ 7) ⊎ (status ≡ 8)
known_read status (inl nil) = inl nil
known_read status (inr (inl three)) = inr (inl three)
known_read status (inr (inr more)) = inr (inr (inr more))

pub keeps_held : (held : Option (List ℕ)) → Keeps held held
keeps_held None = tt
keeps_held (Some xs) = refl

-- ---- the line of no member

-- `++` reads from the left
regrouped : (xs ys zs : List ℕ) → xs ++ (ys ++ zs) ≡ (xs ++ ys) ++ zs
regrouped [] ys zs = refl
regrouped (x ∷ xs) ys zs = ap (λ (l : List ℕ). x ∷ l) (regrouped xs ys zs)

pub said_no_member : {E : Type 0} (r : Result (List ℕ) E) (front back : List ℕ) (m : ℕ) → front ≡ codes "replay " → back ≡ (codes ": no honest member" ++ 10 ∷ []) → IfOk r (λ text. text ≡ front ++ decimal m ++ back) → IfOk r (λ text. text ≡ no_member_text m)
said_no_member r front back m f b said =
    subst (λ (x : List ℕ). IfOk r (λ text. text ≡ x)) (ap (λ (x : List ℕ). x ++ decimal m ++ back) f ∙ ap (λ (x : List ℕ). codes "replay " ++ decimal m ++ x) b ∙ regrouped (codes "replay " ++ decimal m) (codes ": no honest member") (10 ∷ [])) said

-- ---- which members are honest

pub is_some_copied : {T : Type 0} (o : Option (Bor T)) → is_some o ≡ is_some (option_copied o)
is_some_copied None = refl
is_some_copied (Some b) = refl

honest-same : (terms : Terms) (opening : List Object) (flags : List Bool) (k m : ℕ) → is_some (honest_at (slice_get (new_posts terms opening k flags) m)) ≡ honest_seat (slice_get (map new_seat flags) m)
honest-same terms opening [] k m = refl
honest-same terms opening (true ∷ flags) k zero = refl
honest-same terms opening (false ∷ flags) k zero = refl
honest-same terms opening (flag ∷ flags) k (suc m) = honest-same terms opening flags (suc k) m

pub honest_is : (trust : Trust) (s : Schedule) (sc : Scene) (m : ℕ) → sc ≡ new_scene (setting_in trust s) s.setup → is_some (honest_at (slice_get sc.posts m)) ≡ is_honest (new_world (setting_in trust s)) m
unfolding new_world
honest_is trust s sc m opened =
    ap (λ (x : Scene). is_some (honest_at (slice_get x.posts m))) opened
    ∙ honest-same (new_scene (setting_in trust s) s.setup).terms (setting_in trust s).opening (setting_in trust s).honest 0 m

-- ---- an ending, by records

-- the records of a member's list, if it is observable
records-in : Option Journals → ℕ → List (List ℕ)
records-in None m = []
records-in (Some lists) m = journal_of lists m

is-journal : (told : Option Journals) (m : ℕ) → IsJournal told m (records-in told m)
unfolding records-in
is-journal None m = tt
is-journal (Some lists) m = refl

says-as : (ending : List (List ℕ) → Ending) (m : ℕ) (Writes : Writing) (status : ℕ) (text : List ℕ) (told : Option Journals) (held held' : Option (List ℕ)) (records : List (List ℕ)) → IsJournal told m records → ending records ≡ record { status = status; text = text } → Writes held held' text → Says ending m Writes status told held held'
says-as ending m Writes status text told held held' records are ends written = record {
  records = records;
  are = are;
  ends = ap (λ (e : Ending). e.status) ends;
  written = subst (Writes held held') (sym (ap (λ (e : Ending). e.text) ends)) written;
}

module _ (trust : Trust) (s : Schedule) (m : ℕ) (told : Option Journals) (held held' : Option (List ℕ)) (Writes : Writing) where
  none-says : is_honest (new_world (setting_in trust s)) m ≡ false → Writes held held' (no_member_text m) → Says (member_ending trust s m) m Writes 8 told held held'
  none-says isnt written = says-as (member_ending trust s m) m Writes 8 (no_member_text m) told held held' (records-in told m) (is-journal told m) (rw isnt refl) written

  module _ (sc : Scene) (opened : sc ≡ new_scene (setting_in trust s) s.setup) (honest : is_honest (new_world (setting_in trust s)) m ≡ true) where
    abbrev Starting : List (List ℕ) → Result Member StartRefusal
    Starting records = started (setting_in trust s).rules (setting_in trust s).opening records

    starting : (records : List (List ℕ)) → started (rules_in trust.accepts sc) sc.opening records ≡ Starting records
    unfolding setting_of
    starting records = ap (λ (x : Scene). started (rules_in trust.accepts x) x.opening records) opened

    ending : (records : List (List ℕ)) (end : Result Member StartRefusal) → started (rules_in trust.accepts sc) sc.opening records ≡ end → member_ending trust s m records ≡ start_ending trust s m (length records) end
    ending records end is = rw honest (ap (start_ending trust s m (length records)) (sym (starting records) ∙ is))

    showing : (state : Member) → show_by sc.known m (Some (seat_at sc.terms m state)) ≡ shown (setting_in trust s) (new_world (setting_in trust s)) m state.epoch (live_objects state)
    unfolding setting_of new_world
    showing state =
        ap (λ (x : Scene). shown (setting_with x.known) (world_with x.known) m state.epoch (live_objects state)) opened
        ∙ sym (shown_same (setting_in trust s) (new_world (setting_in trust s)) m state.epoch (live_objects state))

    started-says : (g : Replayed) → IsReplayed (rules_in trust.accepts sc) sc.opening told sc.terms m g → Writes held held' (lines_text (line.Restart m (restart_text.Records g.count) ∷ show_by sc.known m (Some g.validator))) → Says (member_ending trust s m) m Writes 0 told held held'
    started-says g is written =
        let lines : line.Restart m (restart_text.Records g.count) ∷ show_by sc.known m (Some g.validator) ≡ line.Restart m (restart_text.Records (length is.kept)) ∷ shown (setting_in trust s) (new_world (setting_in trust s)) m is.state.epoch (live_objects is.state) =
        ap (λ (n : ℕ). line.Restart m (restart_text.Records n) ∷ show_by sc.known m (Some g.validator)) is.many
        ∙ ap (λ seat. line.Restart m (restart_text.Records (length is.kept)) ∷ show_by sc.known m (Some seat)) is.stands
        ∙ ap (λ (l : List Line). line.Restart m (restart_text.Records (length is.kept)) ∷ l) (showing is.state) in
        says-as (member_ending trust s m) m Writes 0 _ told held held' is.kept is.is (ending is.kept (Ok is.state) is.starts) (subst (λ (l : List Line). Writes held held' (lines_text l)) lines written)

    bad-says : (place : ℕ) → HasBadRecord (rules_in trust.accepts sc) sc.opening told m place → Writes held held' (bad_record_text m place) → Says (member_ending trust s m) m Writes 6 told held held'
    bad-says place is written = says-as (member_ending trust s m) m Writes 6 (bad_record_text m place) told held held' is.kept is.is (ending is.kept (Err (no_start.BadRecord place is.why)) is.starts) written

module _ (trust : Trust) (m : ℕ) (text : List ℕ) (told : Option Journals) (held held' : Option (List ℕ)) where
  abbrev TextEnding : List (List ℕ) → Ending
  TextEnding = text_ending trust m (schedule_of text)

  refused-says : (Writes : Writing) (r : Refused) → schedule_of text ≡ Err r → Writes held held' (refusal_text r) → Says TextEnding m Writes 3 told held held'
  refused-says Writes r is written = says-as TextEnding m Writes 3 (refusal_text r) told held held' (records-in told m) (is-journal told m) (ap (λ (x : Result Schedule Refused). text_ending trust m x (records-in told m)) is) written

-- ---- as the code says it

pub said_none : (trust : Trust) (s : Schedule) (m : ℕ) (told : Option Journals) (held held' : Option (List ℕ)) → is_honest (new_world (setting_in trust s)) m ≡ false → Appends held held' (no_member_text m) → Says (member_ending trust s m) m Appends 8 told held held'
said_none trust s m told held held' = none-says trust s m told held held' Appends

pub cut_none : (trust : Trust) (s : Schedule) (m : ℕ) (told : Option Journals) (held held' : Option (List ℕ)) → is_honest (new_world (setting_in trust s)) m ≡ false → AppendsFront held held' (no_member_text m) → SaysFront (member_ending trust s m) m told held held'
cut_none trust s m told held held' isnt written = inr (8, none-says trust s m told held held' AppendsFront isnt written)

pub said_started : (trust : Trust) (s : Schedule) (m : ℕ) (told : Option Journals) (held held' : Option (List ℕ)) (sc : Scene) (g : Replayed) → sc ≡ new_scene (setting_in trust s) s.setup → is_honest (new_world (setting_in trust s)) m ≡ true → IsReplayed (rules_in trust.accepts sc) sc.opening told sc.terms m g
    → Appends held held' (lines_text (line.Restart m (restart_text.Records g.count) ∷ show_by sc.known m (Some g.validator))) → Says (member_ending trust s m) m Appends 0 told held held'
said_started trust s m told held held' sc g opened honest is written = started-says trust s m told held held' Appends sc opened honest g is written

pub cut_started : (trust : Trust) (s : Schedule) (m : ℕ) (told : Option Journals) (held held' : Option (List ℕ)) (sc : Scene) (g : Replayed) → sc ≡ new_scene (setting_in trust s) s.setup → is_honest (new_world (setting_in trust s)) m ≡ true → IsReplayed (rules_in trust.accepts sc) sc.opening told sc.terms m g
    → AppendsFront held held' (lines_text (line.Restart m (restart_text.Records g.count) ∷ show_by sc.known m (Some g.validator))) → SaysFront (member_ending trust s m) m told held held'
cut_started trust s m told held held' sc g opened honest is written = inr (0, started-says trust s m told held held' AppendsFront sc opened honest g is written)

pub said_bad : (trust : Trust) (s : Schedule) (m : ℕ) (told : Option Journals) (held held' : Option (List ℕ)) (sc : Scene) (place : ℕ) → sc ≡ new_scene (setting_in trust s) s.setup → is_honest (new_world (setting_in trust s)) m ≡ true → HasBadRecord (rules_in trust.accepts sc) sc.opening told m place → Appends held held' (bad_record_text m place)
    → Says (member_ending trust s m) m Appends 6 told held held'
said_bad trust s m told held held' sc place opened honest is written = bad-says trust s m told held held' Appends sc opened honest place is written

pub cut_bad : (trust : Trust) (s : Schedule) (m : ℕ) (told : Option Journals) (held held' : Option (List ℕ)) (sc : Scene) (place : ℕ) → sc ≡ new_scene (setting_in trust s) s.setup → is_honest (new_world (setting_in trust s)) m ≡ true → HasBadRecord (rules_in trust.accepts sc) sc.opening told m place → AppendsFront held held' (bad_record_text m place)
    → SaysFront (member_ending trust s m) m told held held'
cut_bad trust s m told held held' sc place opened honest is written = inr (6, bad-says trust s m told held held' AppendsFront sc opened honest place is written)

pub said_refused : (trust : Trust) (m : ℕ) (text : List ℕ) (told : Option Journals) (held held' : Option (List ℕ)) (r : Refused) → schedule_of text ≡ Err r → Appends held held' (refusal_text r) → Says (text_ending trust m (schedule_of text)) m Appends 3 told held held'
said_refused trust m text told held held' r is written = refused-says trust m text told held held' Appends r is written

pub cut_refused : (trust : Trust) (m : ℕ) (text : List ℕ) (told : Option Journals) (held held' : Option (List ℕ)) (r : Refused) → schedule_of text ≡ Err r → AppendsFront held held' (refusal_text r) → SaysFront (text_ending trust m (schedule_of text)) m told held held'
cut_refused trust m text told held held' r is written = inr (3, refused-says trust m text told held held' AppendsFront r is written)

-- ---- a text that is a schedule

pub of_schedule : (trust : Trust) (m : ℕ) (text : List ℕ) (s : Schedule) → schedule_of text ≡ Ok s → member_ending trust s m ≡ text_ending trust m (schedule_of text)
of_schedule trust m text s is = λ i. text_ending trust m (sym is i)

-- the member was honest
pub whole_honest : (ending : List (List ℕ) → Ending) (m : ℕ) (told : Option Journals) (held held' : Option (List ℕ)) (status : ℕ) → (status ≡ 0) ⊎ (status ≡ 5) ⊎ (status ≡ 6) ⊎ (status ≡ 7) → (status ≡ 0 → Says ending m Appends 0 told held held') → (status ≡ 0) ⊎ (status ≡ 8) → Says ending m Appends status told held held'
whole_honest ending m told held held' status known says is =
    let nil : status ≡ 0 = honest-is-zero status known is in
    subst (λ (n : ℕ). Says ending m Appends n told held held') (sym nil) (says nil)

-- it was not
pub whole_none : (trust : Trust) (s : Schedule) (m : ℕ) (told : Option Journals) (held held' : Option (List ℕ)) (status : ℕ) → is_honest (new_world (setting_in trust s)) m ≡ false → (status ≡ 5) ⊎ (status ≡ 7) ⊎ (status ≡ 8) → (status ≡ 8 → Appends held held' (no_member_text m)) → (status ≡ 0) ⊎ (status ≡ 8) → Says (member_ending trust s m) m Appends status told held held'
whole_none trust s m told held held' status isnt known written is =
    let eight : status ≡ 8 = none-is-eight status known is in
    subst (λ (n : ℕ). Says (member_ending trust s m) m Appends n told held held') (sym eight) (said_none trust s m told held held' isnt (written eight))

pub whole_read : (trust : Trust) (m : ℕ) (text : List ℕ) (s : Schedule) (told : Option Journals) (held held' : Option (List ℕ)) (status : ℕ) → schedule_of text ≡ Ok s → (status ≡ 0) ⊎ (status ≡ 5) ⊎ (status ≡ 6) ⊎ (status ≡ 7) ⊎ (status ≡ 8)
    → ((status ≡ 0) ⊎ (status ≡ 8) → Says (member_ending trust s m) m Appends status told held held') → (status ≡ 0) ⊎ (status ≡ 3) ⊎ (status ≡ 8) → Says (text_ending trust m (schedule_of text)) m Appends status told held held'
whole_read trust m text s told held held' status read known says is = subst (λ (e : List (List ℕ) → Ending). Says e m Appends status told held held') (of_schedule trust m text s read) (says (schedule-said status known is))

pub bad_read : {R : Type 0} (trust : Trust) (m : ℕ) (text : List ℕ) (s : Schedule) (told : Option Journals) (held held' : Option (List ℕ)) → schedule_of text ≡ Ok s → Says (member_ending trust s m) m Appends 6 told held held' ⊎ R → Says (text_ending trust m (schedule_of text)) m Appends 6 told held held' ⊎ R
bad_read {R} trust m text s told held held' read said = subst (λ (e : List (List ℕ) → Ending). Says e m Appends 6 told held held' ⊎ R) (of_schedule trust m text s read) said

pub cut_read : (trust : Trust) (m : ℕ) (text : List ℕ) (s : Schedule) (told : Option Journals) (held held' : Option (List ℕ)) → schedule_of text ≡ Ok s → SaysFront (member_ending trust s m) m told held held' → SaysFront (text_ending trust m (schedule_of text)) m told held held'
cut_read trust m text s told held held' read said = subst (λ (e : List (List ℕ) → Ending). SaysFront e m told held held') (of_schedule trust m text s read) said

pub whole_refused : (trust : Trust) (m : ℕ) (text : List ℕ) (r : Refused) (told : Option Journals) (held held' : Option (List ℕ)) (status : ℕ) → schedule_of text ≡ Err r → (status ≡ 3) ⊎ (status ≡ 5) ⊎ (status ≡ 7) → (status ≡ 3 → Appends held held' (refusal_text r)) → (status ≡ 0) ⊎ (status ≡ 3) ⊎ (status ≡ 8) → Says (text_ending trust m (schedule_of text)) m Appends status told held held'
whole_refused trust m text r told held held' status read known written is =
    let three : status ≡ 3 = refused-is-three status known is in
    subst (λ (n : ℕ). Says (text_ending trust m (schedule_of text)) m Appends n told held held') (sym three) (said_refused trust m text told held held' r read (written three))

pub refused_with : (text : List ℕ) (e : ScheduleRefusal) (line cause : ℕ) → RefusesWith (schedule_of text) e → e ≡ schedule_refusal.Refused line cause → schedule_of text ≡ Err (record { line = line; cause = cause })
refused_with text e line cause said is = subst (RefusesWith (schedule_of text)) is said

-- ---- a text that was read

pub says_of : (m : ℕ) (Saying : (List (List ℕ) → Ending) → Type 0) (left left' : Option (List ℕ)) (text : List ℕ) → ReadsText longest_text left left' text → Saying (text_ending program_trust m (schedule_of text)) → SaysOfText m Saying left left'
says_of m Saying left left' text read says = record { text = text; read = read; says = says }

pub bad_of : {R : Type 0} (m : ℕ) (Saying : (List (List ℕ) → Ending) → Type 0) (left left' : Option (List ℕ)) (text : List ℕ) → ReadsText longest_text left left' text → Saying (text_ending program_trust m (schedule_of text)) ⊎ R → SaysOfText m Saying left left' ⊎ R
bad_of m Saying left left' text read (inl says) = inl (says_of m Saying left left' text read says)
bad_of m Saying left left' text read (inr rose) = inr rose
