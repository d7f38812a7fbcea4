-- What is asked for at the desk, which member is behind it, and what is said of its history.
use Rattle.std.proofs.Common.{◌≡◌, ◌⊎◌, inl, inr, ℕ, zero, suc, ◌+◌, Bool, true, false, List, [], ◌∷◌, ◌++◌, length, map, take, replicate, Option, Some, option_map, Result, Ok, Err, refl, sym, ap, ◌∙◌, subst, slice_get, add-one}
use Rattle.std.specs.Prelude.{IfOk}
use Rattle.std.specs.List.{flat_map, list_all}
use Rattle.std.specs.Io.KnownBytes.{Appends}
use Rattle.outside.specs.Lists.{Journals, journal_of}
use Rattle.outside.specs.Streams.{AppendsFront, ReadsText}
use Rattle.chain_types.specs.declared.objects.Object.{Object}
use Rattle.chain_types.specs.declared.transactions.SignedTx.{SignedTx}
use Rattle.chain_types.specs.Transactions as transactions
use Rattle.protocol_spec.specs.declared.refusals.StartRefusal.TheVariants as no_start
use Rattle.schedule_text.specs.declared.words.Event.{Event}
use Rattle.schedule_text.specs.declared.words.Event.TheVariants as event
use Rattle.schedule_text.specs.declared.words.Schedule.{Schedule}
use Rattle.schedule_text.specs.Schedule.{Refused, longest_text, schedule_of}
use Rattle.protocol_spec.proofs.Truth.{and_true}
use Rattle.protocol_spec.specs.Chain.Certificates.{Rules, read_signed}
use Rattle.protocol_spec.specs.Member.Member.{fresh}
use Rattle.world_spec.specs.Setting.{Setting, Trust}
use Rattle.world_spec.specs.World as worlds
use Rattle.world_spec.specs.World.{Made, World, honest_seat, is_honest, new_world}
use Rattle.world_spec.specs.Making.{made_over}
use Rattle.world_spec.specs.Names.{tx_name}
use Rattle.world_spec.specs.Run.{run, world_after}
use Rattle.world_spec.specs.Step.{happens, happens_over}
use Rattle.world_spec.specs.Known.{Known, names_of}
use Rattle.world_spec.specs.Posts.{seat_at}
use Rattle.world_spec.specs.Scene.{Scene}
use Rattle.world_spec.specs.Starts.{started}
use Rattle.world_spec.specs.Terms.{Terms}
use Rattle.world_spec.specs.SceneWorlds.{Shows, posts_from}
use Rattle.world_spec.proofs.LineWorlds.{vote_same}
use Rattle.report_text.specs.declared.lines.Line.{Line}
use Rattle.report_text.specs.declared.lines.Line.TheVariants as line
use Rattle.world_core.specs.Crews.{honest_post}
use Rattle.world_core.specs.declared.replay.Replayed.{Replayed}
use Rattle.world_core.specs.Replays.{IsReplayed}
use Rattle.world_core.specs.SeatRestarts.{HasBadRecord}
use Rattle.world_lines.specs.Answers.{vote_as}
use Rattle.vote_desk.specs.declared.entry.DeskEntry.{DeskEntry}
use Rattle.vote_desk.specs.Callers.{AreAnswered, asked_in}
use Rattle.vote_desk.specs.Dealt.{AreMadeBy}
use Rattle.vote_desk.specs.Histories.{IsLegal}
use Rattle.vote_desk.specs.Votes.{FollowsUnder, standing}
use Rattle.committee_core.specs.declared.desk.Said.{Said}
use Rattle.committee_core.specs.Desk.{AreVotes, EndsAs, EndsBy, IsDeskCut, IsSaid, IsSaidCut, SaysOfDesk, are_txs, call_line, call_line_by, call_text, desk_head, desk_text, desk_world, digest_read, is_tx, none_honest_text, only_tx_text, signed_bytes, text_by}
use Rattle.committee_core.specs.Headline.{program_trust}
use Rattle.committee_core.specs.Report.{refusal_text, setting_in}
use Rattle.committee_core.proofs.Replays.{Is}

-- ---- what is asked for

more-taken : (txs : List Made) (n : ℕ) (x : SignedTx) → option_map (λ (t : Made). t.signed) (slice_get txs n) ≡ Some x → map signed_bytes (take (suc n) txs) ≡ map signed_bytes (take n txs) ++ transactions.signed.spell x ∷ []
more-taken [] n x at = absurd (cc)
more-taken (t ∷ txs) zero x at = let same : t.signed ≡ x = cc (at) in ap (λ (y : SignedTx). transactions.signed.spell y ∷ []) same
more-taken (t ∷ txs) (suc n) x at = ap (λ (l : List (List ℕ)). signed_bytes t ∷ l) (more-taken txs n x at)

-- one more transaction
pub more_requests : (txs : List Made) (n : ℕ) (x : SignedTx) (requests : List (List ℕ)) (bytes : List ℕ) → option_map (λ (t : Made). t.signed) (slice_get txs n) ≡ Some x → bytes ≡ transactions.signed.spell x → requests ≡ map signed_bytes (take n txs) → requests ++ bytes ∷ [] ≡ map signed_bytes (take (n + 1) txs)
more_requests txs n x requests bytes at spelled so_far =
    ap (λ (b : List ℕ). requests ++ b ∷ []) spelled ∙ ap (λ (l : List (List ℕ)). l ++ transactions.signed.spell x ∷ []) so_far
    ∙ sym (more-taken txs n x at) ∙ ap (λ (k : ℕ). map signed_bytes (take k txs)) (sym (add-one n))

-- ---- which member is behind the desk

fresh-list : (n : ℕ) → journal_of (replicate n []) 0 ≡ []
fresh-list zero = refl
fresh-list (suc n) = refl

first-of : (lists : Journals) (kept : List (List ℕ)) → lists ≡ replicate 64 [] → kept ≡ journal_of lists 0 → kept ≡ []
first-of lists kept is are = are ∙ ap (λ (l : Journals). journal_of l 0) is ∙ fresh-list 64

-- it starts from no records
pub opened_as : (r : Rules) (opening : List Object) (lists : Journals) (terms : Terms) (g : Replayed) → lists ≡ replicate 64 [] → IsReplayed r opening (Some lists) terms 0 g → g.validator ≡ seat_at terms 0 (fresh opening)
unfolding started
opened_as r opening lists terms g is replayed =
    let empty = first-of lists replayed.kept is replayed.is in
    let starts : started r opening [] ≡ Ok replayed.state = ap (started r opening) (sym empty) ∙ replayed.starts in
    let same : replayed.state ≡ fresh opening = cc (starts) in
    replayed.stands ∙ ap (seat_at terms 0) same

pub never_bad : (r : Rules) (opening : List Object) (lists : Journals) (place : ℕ) → lists ≡ replicate 64 [] → HasBadRecord r opening (Some lists) 0 place → ⊥
unfolding started
never_bad r opening lists place is bad =
    let empty = first-of lists bad.kept is bad.is in
    let starts : started r opening [] ≡ Err (no_start.BadRecord place bad.why) = ap (started r opening) (sym empty) ∙ bad.starts in
    absurd (cc)

-- ---- which members are honest

-- a `tx` line leaves the seats
same-seats : (s : Setting) (w : World) (e : Event) → is_tx e ≡ true → (happens s w e).seats ≡ w.seats
unfolding happens_over made_over
same-seats s w (event.Tx name sender spoiled epoch gas budget inputs commands) is = refl
same-seats s w e is = absurd (cc)

seats-along : (s : Setting) (w : World) (events : List Event) → list_all is_tx events ≡ true → (run s events w).seats ≡ w.seats
seats-along s w [] are = refl
seats-along s w (e ∷ events) are = let two = and_true (is_tx e) (list_all is_tx events) are in seats-along s (happens s w e) events two.1 ∙ same-seats s w e two.0

first-honest : (s : Setting) (seats : List worlds.Seat) → honest_post (slice_get (posts_from s 0 seats) 0) ≡ honest_seat (slice_get seats 0)
first-honest s [] = refl
first-honest s (seat ∷ seats) = refl

-- member 0 is honest in the world after the lines if the set-up makes it so
pub honest_behind : (trust : Trust) (s : Schedule) (sc : Scene) (b : Bool) → are_txs s ≡ true → Shows trust (setting_in trust s) (desk_world trust s) sc → b ≡ honest_post (slice_get sc.posts 0) → is_honest (new_world (setting_in trust s)) 0 ≡ b
unfolding world_after
honest_behind trust s sc b are shows is =
    let setting = setting_in trust s in
    let seats : (desk_world trust s).seats ≡ (new_world setting).seats = seats-along setting (new_world setting) s.events are in
    ap (λ (l : List worlds.Seat). honest_seat (slice_get l 0)) (sym seats)
    ∙ sym (first-honest setting (desk_world trust s).seats)
    ∙ ap (λ (x : Scene). honest_post (slice_get x.posts 0)) (sym shows.scene)
    ∙ sym is

-- ---- what is said

-- by the names that are known in the world
line-same : (s : Setting) (w : World) (e : DeskEntry) → call_line_by (names_of s w) e ≡ call_line s w e
line-same s w e = ap (line.Vote 0 (tx_name w (digest_read (read_signed e.bytes)))) (sym (vote_same s w (vote_as e.reply)))

lines-same : (f g : DeskEntry → Line) → ((e : DeskEntry) → f e ≡ g e) → (entries : List DeskEntry) → flat_map (λ (e : DeskEntry). call_text (f e)) entries ≡ flat_map (λ (e : DeskEntry). call_text (g e)) entries
lines-same f g same [] = refl
lines-same f g same (e ∷ entries) =
    ap (λ (l : Line). call_text l ++ flat_map (λ (x : DeskEntry). call_text (f x)) entries) (same e)
    ∙ ap (λ (t : List ℕ). call_text (g e) ++ t) (lines-same f g same entries)

pub text_same : (s : Setting) (w : World) (k : Known) (entries : List DeskEntry) → k ≡ names_of s w → text_by (call_line_by k) entries ≡ desk_text s w entries
text_same s w k entries is =
    ap (λ (x : Known). text_by (call_line_by x) entries) is
    ∙ ap (λ (t : List ℕ). desk_head (length entries) ++ t) (lines-same (call_line_by (names_of s w)) (call_line s w) (line-same s w) entries)

-- the history of the world
pub votes_of : (trust : Trust) (callers : ℕ) (s : Schedule) (sc : Scene) (entries : List DeskEntry) → Shows trust (setting_in trust s) (desk_world trust s) sc
    → IsLegal FollowsUnder (standing (seat_at sc.terms 0 (fresh sc.opening)) trust.accepts 0 (Some (replicate 64 []))) entries → AreMadeBy callers (map signed_bytes sc.known.txs) (asked_in entries) → AreAnswered entries → AreVotes trust callers s entries
votes_of trust callers s sc entries shows legal made answered = record {
  legal = subst (λ (x : Scene). IsLegal FollowsUnder (standing (seat_at x.terms 0 (fresh x.opening)) trust.accepts 0 (Some (replicate 64 []))) entries) shows.scene legal;
  made = subst (λ (x : Scene). AreMadeBy callers (map signed_bytes x.known.txs) (asked_in entries)) shows.scene made;
  answered = answered;
}

pub ends_voted : (trust : Trust) (callers : ℕ) (s : Schedule) (sc : Scene) (entries : List DeskEntry) (text : List ℕ) → Shows trust (setting_in trust s) (desk_world trust s) sc
    → IsLegal FollowsUnder (standing (seat_at sc.terms 0 (fresh sc.opening)) trust.accepts 0 (Some (replicate 64 []))) entries → AreMadeBy callers (map signed_bytes sc.known.txs) (asked_in entries) → AreAnswered entries → text ≡ text_by (call_line_by sc.known) entries
    → is_honest (new_world (setting_in trust s)) 0 ≡ true → EndsBy true (is_honest (new_world (setting_in trust s)) 0) trust callers s 0 text
ends_voted trust callers s sc entries text shows legal made answered is honest =
    subst (λ (b : Bool). EndsBy true b trust callers s 0 text) (sym honest) (record {
      entries = entries;
      votes = votes_of trust callers s sc entries shows legal made answered;
      nil = refl;
      is = is ∙ text_same (setting_in trust s) (desk_world trust s) sc.known entries (ap (λ (x : Scene). x.known) shows.scene);
    })

pub ends_dishonest : (trust : Trust) (callers : ℕ) (s : Schedule) → is_honest (new_world (setting_in trust s)) 0 ≡ false → EndsBy true (is_honest (new_world (setting_in trust s)) 0) trust callers s 8 none_honest_text
ends_dishonest trust callers s isnt = subst (λ (b : Bool). EndsBy true b trust callers s 8 none_honest_text) (sym isnt) (refl, refl)

pub ends_other : (trust : Trust) (callers : ℕ) (s : Schedule) (honest : Bool) → are_txs s ≡ false → EndsBy (are_txs s) honest trust callers s 8 only_tx_text
ends_other trust callers s honest isnt = subst (λ (b : Bool). EndsBy b honest trust callers s 8 only_tx_text) (sym isnt) (refl, refl)

-- a status is one of three
ends-by : (txs honest : Bool) (trust : Trust) (callers : ℕ) (s : Schedule) (status : ℕ) (text : List ℕ) → EndsBy txs honest trust callers s status text → (status ≡ 0) ⊎ (status ≡ 3) ⊎ (status ≡ 8)
ends-by false honest trust callers s status text ends = inr (inr ends.0)
ends-by true false trust callers s status text ends = inr (inr ends.0)
ends-by true true trust callers s status text ends = inl ends.nil

pub ends_known : (trust : Trust) (callers : ℕ) (r : Result Schedule Refused) (status : ℕ) (text : List ℕ) → EndsAs trust callers r status text → (status ≡ 0) ⊎ (status ≡ 3) ⊎ (status ≡ 8)
ends_known trust callers (Ok s) status text ends = ends-by (are_txs s) (is_honest (new_world (setting_in trust s)) 0) trust callers s status text ends
ends_known trust callers (Err r) status text ends = inr (inl ends.0)

-- ---- what is written

abbrev pub IsThree : ℕ → Type 0
IsThree n = (n ≡ 0) ⊎ (n ≡ 3) ⊎ (n ≡ 8)

pub not_five : {A : Type 0} (n : ℕ) → IsThree n → n ≡ 5 → A
not_five n (inl is) five = let e : Is 0 5 = sym is ∙ five in absurd (cc)
not_five n (inr (inl is)) five = let e : Is 3 5 = sym is ∙ five in absurd (cc)
not_five n (inr (inr is)) five = let e : Is 8 5 = sym is ∙ five in absurd (cc)

pub not_seven : {A : Type 0} (n : ℕ) → IsThree n → n ≡ 7 → A
not_seven n (inl is) seven = let e : Is 0 7 = sym is ∙ seven in absurd (cc)
not_seven n (inr (inl is)) seven = let e : Is 3 7 = sym is ∙ seven in absurd (cc)
not_seven n (inr (inr is)) seven = let e : Is 8 7 = sym is ∙ seven in absurd (cc)

-- what a line's writer answers
abbrev pub IsEnd : ℕ → ℕ → Type 0
IsEnd result status = (result ≡ status) ⊎ (result ≡ 5) ⊎ (result ≡ 7)

pub said_known : (result status : ℕ) → IsThree status → IsEnd result status → (result ≡ 0) ⊎ (result ≡ 3) ⊎ (result ≡ 5) ⊎ (result ≡ 7) ⊎ (result ≡ 8)
said_known result status (inl nil) (inl is) = inl (is ∙ nil)
said_known result status (inr (inl three)) (inl is) = inr (inl (is ∙ three))
said_known result status (inr (inr eight)) (inl is) = inr (inr (inr (inr (is ∙ eight))))
said_known result status known (inr (inl five)) = inr (inr (inl five))
said_known result status known (inr (inr seven)) = inr (inr (inr (inl seven)))

module _ (trust : Trust) (callers : ℕ) (r : Result Schedule Refused) (held held' : Option (List ℕ)) where
  pub said_whole : (result status : ℕ) (text : List ℕ) → EndsAs trust callers r status text → IsEnd result status → (result ≡ status → Appends held held' text) → IsThree result → IsSaid trust callers r Appends result held held'
  said_whole result status text ends (inl is) written known = record { said = text; ends = subst (λ (n : ℕ). EndsAs trust callers r n text) (sym is) ends; written = written is }
  said_whole result status text ends (inr (inl five)) written known = not_five result known five
  said_whole result status text ends (inr (inr seven)) written known = not_seven result known seven

  pub said_cut : (status : ℕ) (text : List ℕ) → EndsAs trust callers r status text → AppendsFront held held' text → IsSaidCut trust callers r held held'
  said_cut status text ends written = inr (status, record { said = text; ends = ends; written = written })

pub known_desk : (status : ℕ) → (status ≡ 0) ⊎ (status ≡ 3) ⊎ (status ≡ 5) ⊎ (status ≡ 7) ⊎ (status ≡ 8) → (status ≡ 0) ⊎ (status ≡ 3) ⊎ (status ≡ 4) ⊎ (status ≡ 5) ⊎ (status ≡ 7) ⊎ (status ≡ 8)
known_desk status (inl nil) = inl nil
known_desk status (inr (inl three)) = inr (inl three)
known_desk status (inr (inr more)) = inr (inr (inr more))

module _ (callers : ℕ) (left left' held held' : Option (List ℕ)) (text : List ℕ) (read : ReadsText longest_text left left' text) where
  pub desk_whole : (status : ℕ) → IsSaid program_trust callers (schedule_of text) Appends status held held' → SaysOfDesk callers Appends status left left' held held'
  desk_whole status said = record { text = text; read = read; says = said }

  pub desk_cut : IsSaidCut program_trust callers (schedule_of text) held held' → IsDeskCut callers left left' held held'
  desk_cut (inl keeps) = inl keeps
  desk_cut (inr said) = inr (said.0, record { text = text; read = read; says = said.1 })

-- ---- as the code says it

module _ {E : Type 0} (r : Result Said E) (trust : Trust) (callers : ℕ) (s : Schedule) where
  line-said : (line want : List ℕ) → (P : ℕ → List ℕ → Type 0) → line ≡ want → P 8 want → IfOk r (λ x. x ≡ record { status = 8; text = line }) → IfOk r (λ x. P x.status x.text)
  line-said line want P same holds said = go r said
    where
      go : (q : Result Said E) → IfOk q (λ x. x ≡ record { status = 8; text = line }) → IfOk q (λ x. P x.status x.text)
      go (Ok x) is = subst (λ (y : Said). P y.status y.text) (sym is) (subst (P 8) (sym same) holds)
      go (Err e) is = tt

  pub said_dishonest : (line : List ℕ) → line ≡ none_honest_text → is_honest (new_world (setting_in trust s)) 0 ≡ false → IfOk r (λ x. x ≡ record { status = 8; text = line }) → IfOk r (λ x. EndsBy true (is_honest (new_world (setting_in trust s)) 0) trust callers s x.status x.text)
  said_dishonest line same isnt = line-said line none_honest_text (EndsBy true (is_honest (new_world (setting_in trust s)) 0) trust callers s) same (ends_dishonest trust callers s isnt)

  pub said_other : (line : List ℕ) → line ≡ only_tx_text → are_txs s ≡ false → IfOk r (λ x. x ≡ record { status = 8; text = line }) → IfOk r (λ x. EndsBy (are_txs s) (is_honest (new_world (setting_in trust s)) 0) trust callers s x.status x.text)
  said_other line same isnt = line-said line only_tx_text (EndsBy (are_txs s) (is_honest (new_world (setting_in trust s)) 0) trust callers s) same (ends_other trust callers s (is_honest (new_world (setting_in trust s)) 0) isnt)

  pub said_txs : are_txs s ≡ true → IfOk r (λ x. EndsBy true (is_honest (new_world (setting_in trust s)) 0) trust callers s x.status x.text) → IfOk r (λ x. EndsBy (are_txs s) (is_honest (new_world (setting_in trust s)) 0) trust callers s x.status x.text)
  said_txs are ends = subst (λ (b : Bool). IfOk r (λ x. EndsBy b (is_honest (new_world (setting_in trust s)) 0) trust callers s x.status x.text)) (sym are) ends

  pub said_schedule : (read : Result Schedule Refused) → read ≡ Ok s → IfOk r (λ x. EndsBy (are_txs s) (is_honest (new_world (setting_in trust s)) 0) trust callers s x.status x.text) → IfOk r (λ x. EndsAs trust callers read x.status x.text)
  said_schedule read is ends = subst (λ (q : Result Schedule Refused). IfOk r (λ x. EndsAs trust callers q x.status x.text)) (sym is) ends

pub said_refusal : {E : Type 0} (r : Result Said E) (trust : Trust) (callers : ℕ) (read : Result Schedule Refused) (why : Refused) → read ≡ Err why → IfOk r (λ x. x ≡ record { status = 3; text = refusal_text why }) → IfOk r (λ x. EndsAs trust callers read x.status x.text)
said_refusal r trust callers read why is said = subst (λ (q : Result Schedule Refused). IfOk r (λ x. EndsAs trust callers q x.status x.text)) (sym is) (go r said)
  where
    go : {E : Type 0} (q : Result Said E) → IfOk q (λ x. x ≡ record { status = 3; text = refusal_text why }) → IfOk q (λ x. EndsAs trust callers (Err why) x.status x.text)
    go (Ok x) is = (ap (λ (y : Said). y.status) is, ap (λ (y : Said). y.text) is)
    go (Err e) is = tt

-- ---- what is said of each schedule that a world may be of, and of one

module _ {A E S : Type 0} (T H : S → Type 0) (P : S → A → Type 0) where
  pub of_each : (r : Result A E) → ((s : S) → T s → H s → IfOk r (P s)) → IfOk r (λ a. (s : S) → T s → H s → P s a)
  of_each (Ok a) all = all
  of_each (Err e) all = tt

  pub of_one : (r : Result A E) (s : S) → T s → H s → IfOk r (λ a. (s : S) → T s → H s → P s a) → IfOk r (P s)
  of_one (Ok a) s t h all = all s t h
  of_one (Err e) s t h all = tt
