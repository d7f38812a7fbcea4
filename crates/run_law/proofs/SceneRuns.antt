-- In the run of a schedule that a text says, all that is read from the bytes of calls fits.
use Rattle.std.proofs.Common.{refl, subst, arith}
use Rattle.std.proofs.lemmas.List.{length-append}
use Rattle.std.specs.Prelude.{◌≡◌, ◌≤◌, ℕ, ◌+◌, min, List, [], ◌∷◌, ◌++◌, map, length, Option, Some, None, option_map, bytes_eq, Ok}
use Rattle.std.specs.List.{AllByRecursion}
use Rattle.chain_messages.specs.Messages as messages
use Rattle.schedule_text.specs.declared.words.Event.{Event}
use Rattle.schedule_text.specs.declared.words.Event.TheVariants as event
use Rattle.schedule_text.specs.declared.words.Schedule.{Schedule}
use Rattle.schedule_text.specs.declared.statement.Statement.TheVariants as statement
use Rattle.schedule_text.specs.Schedule.{schedule_of}
use Rattle.protocol_spec.proofs.ListLemmas.{find_has, each_has, each_join}
use Rattle.protocol_spec.specs.Chain.Words.{Each, last_where}
use Rattle.world_spec.specs.Setting.{Name, Setting}
use Rattle.world_spec.specs.World.{Formed, Made, World, member_at, new_world}
use Rattle.world_spec.specs.Names.{cert_in, made_named}
use Rattle.world_spec.specs.Moves.{Move, requests, delivers, claims, vote_named, hold_named, direct, claims_ack, move_of}
use Rattle.world_spec.specs.Step.{entries_left, happens}
use Rattle.world_spec.specs.Run.{run, world_after}
use Rattle.world_spec.specs.Assumptions.{ack_call, all_of, calls_by, calls_of, see_calls, send_call, vote_call}
use Rattle.run_law.specs.Sayable.{IsStatement}
use Rattle.run_law.proofs.SaidWhole.{text_said}
use Rattle.safety_law.proofs.Steps.{last-has}
use Rattle.run_law.specs.HonestTexts.{keyed_setting}
use Rattle.run_law.proofs.Texts.{most_words}
use Rattle.run_law.proofs.TextLines.{text-short}
use Rattle.run_law.proofs.Fits.{AreThings, IsFitMade}
use Rattle.run_law.proofs.Honest.{all-back, setting-seals, setting-things, fit-events}
use Rattle.run_law.proofs.ReadRuns.{AreSeals, IsFit, IsFitEvent, world-fit}
use Rattle.run_law.proofs.Words.{bytes_by_index}
use Rattle.world_spec.specs.SceneWorlds.{AreKeepable, ReadsFit, Restarts}
use Rattle.run_law.proofs.SceneSees.{see-each}
use Rattle.run_law.proofs.SceneStarts.{entry-spelled, hold-bytes, hold-spelled, run-starts, vote-bytes, vote-spelled}

-- ---- the calls of a line

-- what is read from bytes of the line's own fits
abbrev IsReadMove : Move → Type 0
IsReadMove (requests m (direct call)) = ReadsFit call
IsReadMove mv = Unit {0}

read-move : (e : Event) → IsFitEvent e → IsReadMove (move_of e)
read-move (event.RawVote m bytes) is = vote-bytes bytes (bytes_by_index bytes is.0.1.1)
read-move (event.RawHold m bytes) is = hold-bytes bytes (bytes_by_index bytes is.0.1.1)
read-move e is = tt

module _ (s : Setting) (n : ℕ) (w : World) (fit : IsFit s n w) where
  vote-read : (name : Name) (t : Option Made) → made_named w name ≡ t → Each ReadsFit (vote_call t)
  vote-read name None at = tt
  vote-read name (Some t) at = (vote-spelled t.signed (each_has IsFitMade w.txs t fit.txs (find_has (λ (x : Made). bytes_eq x.name name) w.txs t at)).0, tt)

  send-read : (name : Name) (f : Option Formed) → last_where (λ (x : Formed). bytes_eq x.name name) w.certs ≡ f → Each ReadsFit (send_call (option_map cert_in f))
  send-read name None at = tt
  send-read name (Some f) at =
      (hold-spelled f.cert (each_has (λ (x : Formed). messages.certificate.fits x.cert) w.certs f fit.certs (last-has (λ (x : Formed). bytes_eq x.name name) w.certs f at)), tt)

  see-read : (m count : ℕ) → Each ReadsFit (see_calls s count w m)
  see-read m count = see-each s messages.entry.fits ReadsFit entry-spelled count w m fit.entries

  ack-read : (t : Option Made) → Each ReadsFit (ack_call t)
  ack-read None = tt
  ack-read (Some t) = (tt, tt)

  move-read : (mv : Move) → IsReadMove mv → Each ReadsFit (calls_by s w mv)
  move-read (requests m (vote_named tx)) fits = vote-read tx (made_named w tx) refl
  move-read (requests m (hold_named tx)) fits = send-read tx (last_where (λ (x : Formed). bytes_eq x.name tx) w.certs) refl
  move-read (requests m (direct call)) fits = (fits, tt)
  move-read (delivers m entries) fits = see-read m (min entries (entries_left w (member_at s w m)))
  move-read (claims m tx (claims_ack spoiled)) fits = ack-read (made_named w tx)
  move-read mv fits = tt

  line-read : (e : Event) → IsFitEvent e → Each ReadsFit (calls_of s w e)
  line-read e is = move-read (move_of e) (read-move e is)

-- ---- the calls of a run

run-push : (s : Setting) (before : List Event) (e : Event) (w : World) → run s (before ++ e ∷ []) w ≡ happens s (run s before w) e
run-push s [] e w = refl
run-push s (b ∷ before) e w = run-push s before e (happens s w b)

all-push : {A : Type 0} (P : A → Type 0) (xs : List A) (y : A) → AllByRecursion P xs → P y → AllByRecursion P (xs ++ y ∷ [])
all-push P [] y each last = (last, tt)
all-push P (x ∷ xs) y each last = (each.0, all-push P xs y each.1 last)

all-front : {A : Type 0} (P : A → Type 0) (xs ys : List A) → AllByRecursion P (xs ++ ys) → AllByRecursion P xs
all-front P [] ys each = tt
all-front P (x ∷ xs) ys each = (each.0, all-front P xs ys each.1)

module _ (s : Setting) (seals : AreSeals s.seal) (things : AreThings s.things) where
  fit-behind : (before : List Event) → length before ≤ most_words → AllByRecursion IsFitEvent before → IsFit s (0 + length before) (run s before (new_world s))
  unfolding world_after
  fit-behind before few each = world-fit s seals things before few each

  calls-read : (before events : List Event) → length before + length events ≤ most_words → AllByRecursion IsFitEvent before → AllByRecursion IsFitEvent events
      → Each ReadsFit (all_of calls_of s events (run s before (new_world s)))
  calls-read before [] few done each = tt
  calls-read before (e ∷ events) few done each =
      let w = run s before (new_world s) in
      let fit = fit-behind before (omega (arith, few)) done in
      let long = length-append before (e ∷ []) in
      let rest = calls-read (before ++ e ∷ []) events (omega (arith, few, long)) (all-push IsFitEvent before e done each.0) each.1 in
      each_join ReadsFit (calls_of s w e) (all_of calls_of s events (happens s w e)) (line-read s (0 + length before) w fit e each.0)
      (subst (λ (v : World). Each ReadsFit (all_of calls_of s events v)) (run-push s before e (new_world s)) rest)

  read-starts : (events : List Event) → length events ≤ most_words → AllByRecursion IsFitEvent events → AreKeepable (world_after s events).sequences → Restarts s (world_after s events)
  read-starts events few each keepable = run-starts s events (calls-read [] events (omega (arith, few)) tt each) keepable

-- ---- what a text says

pub text-starts : (text : List ℕ) (t : Schedule) → schedule_of text ≡ Ok t → (secret : List ℕ) → (front rest : List Event) → t.events ≡ front ++ rest
    → AreKeepable (world_after (keyed_setting secret t) front).sequences → Restarts (keyed_setting secret t) (world_after (keyed_setting secret t) front)
text-starts text t read secret front rest is keepable =
    let short = text-short text t read in
    let fits : AllByRecursion IsFitEvent t.events =
    fit-events t.events (all-back IsStatement (map (λ x. statement.Setup x) t.setup) (map (λ e. statement.Event e) t.events) (text_said text t read).words) short.0 in
    let few : length (front ++ rest) ≤ most_words = subst (λ (l : List Event). length l ≤ most_words) is short.1 in
    let long = length-append front rest in
    read-starts (keyed_setting secret t) (setting-seals secret t) (setting-things secret t) front (omega (arith, few, long))
    (all-front IsFitEvent front rest (subst (λ (l : List Event). AllByRecursion IsFitEvent l) is fits))
    keepable
