-- The runs of the schedules that a text says.
use Rattle.std.specs.Prelude.{◌≡◌, ℕ, ◌+◌, false, List, [], ◌∷◌, ◌++◌, map, length, Ok}
use Rattle.std.specs.List.{AllByRecursion}
use Rattle.chain_types.specs.Transactions.{signed}
use Rattle.chain_messages.specs.Messages.{certificate}
use Rattle.schedule_text.specs.declared.words.Event.{Event}
use Rattle.schedule_text.specs.declared.words.Schedule.{Schedule}
use Rattle.schedule_text.specs.declared.words.Setup.{Setup}
use Rattle.schedule_text.specs.declared.words.Setup.TheVariants as line
use Rattle.schedule_text.specs.declared.statement.Statement.TheVariants as statement
use Rattle.schedule_text.specs.Schedule.{schedule_of}
use Rattle.protocol_spec.specs.Chain.Words.{Each}
use Rattle.world_spec.specs.Setting.{things_from, setting_of}
use Rattle.world_spec.specs.Keyed.{keyed_seal}
use Rattle.world_spec.specs.World.{Made, Formed, new_world}
use Rattle.world_spec.specs.Run.{world_after}
use Rattle.world_spec.specs.Assumptions.{all_formed, NoForgery}
use Rattle.run_law.specs.Sayable.{IsStatement}
use Rattle.run_law.proofs.SaidWhole.{text_said}
use Rattle.safety_law.specs.Owners.{is_raw_hold, AreSpellable}
use Rattle.safety_law.proofs.Unforged.{unforged}
use Rattle.run_law.specs.HonestTexts.{keyed_setting}
use Rattle.run_law.proofs.Members.{tagged-digest}
use Rattle.run_law.proofs.Texts.{most_words, IsShortEvent}
use Rattle.run_law.proofs.TextLines.{text-short}
use Rattle.run_law.proofs.Fits.{IsFitMade, AreThings, genesis-digest}
use Rattle.run_law.proofs.ReadRuns.{IsFitEvent, AreSeals, IsFit, world-fit, entries-fit}

-- ---- the setting

keyed-seals : (secret : List ℕ) → AreSeals (keyed_seal secret)
unfolding keyed_seal
keyed-seals secret signer bytes = tagged-digest _ _

pub setting-seals : (secret : List ℕ) (t : Schedule) → AreSeals (keyed_setting secret t).seal
unfolding setting_of
setting-seals secret t = keyed-seals secret

pub line-things : (n : ℕ) (lines : List Setup) → AreThings (things_from n lines)
line-things n [] = tt
line-things n (line.Member stake honest ∷ lines) = line-things n lines
line-things n (line.Coin name who balance ∷ lines) = (genesis-digest n, line-things (n + 1) lines)
line-things n (line.Counter name value ∷ lines) = (genesis-digest n, line-things (n + 1) lines)
line-things n (line.Cap name who currency ∷ lines) = (genesis-digest n, line-things (n + 1) lines)
line-things n (line.Writers w ∷ lines) = line-things n lines

pub setting-things : (secret : List ℕ) (t : Schedule) → AreThings (keyed_setting secret t).things
unfolding setting_of
setting-things secret t = line-things 0 t.setup

-- ---- the events

pub all-back : {A : Type 0} (P : A → Type 0) (xs ys : List A) → AllByRecursion P (xs ++ ys) → AllByRecursion P ys
all-back P [] ys all = all
all-back P (x ∷ xs) ys all = all-back P xs ys all.1

pub fit-events : (events : List Event) → AllByRecursion IsStatement (map (λ e. statement.Event e) events) → AllByRecursion (IsShortEvent most_words) events → AllByRecursion IsFitEvent events
fit-events [] said short = tt
fit-events (e ∷ events) said short = ((said.0, short.0), fit-events events said.1 short.1)

fit-text : (text : List ℕ) (t : Schedule) → schedule_of text ≡ Ok t → AllByRecursion IsFitEvent t.events
fit-text text t read =
    fit-events t.events (all-back IsStatement (map (λ x. statement.Setup x) t.setup) (map (λ e. statement.Event e) t.events) (text_said text t read).words) (text-short text t read).0

fit-run : (text : List ℕ) (t : Schedule) → schedule_of text ≡ Ok t → (secret : List ℕ) → IsFit (keyed_setting secret t) (0 + length t.events) (world_after (keyed_setting secret t) t.events)
fit-run text t read secret = world-fit (keyed_setting secret t) (setting-seals secret t) (setting-things secret t) t.events (text-short text t read).1 (fit-text text t read)

-- ---- the laws

each-signed : (txs : List Made) → Each IsFitMade txs → Each (λ (m : Made). signed.fits m.signed) txs
each-signed [] each = tt
each-signed (t ∷ txs) each = (each.0.0, each-signed txs each.1)

each-formed : (formed : List Formed) → Each (λ (f : Formed). certificate.fits f.cert) formed → Each certificate.fits (map (λ (f : Formed). f.cert) formed)
each-formed [] each = tt
each-formed (f ∷ formed) each = (each.0, each-formed formed each.1)

pub read-transactions : (text : List ℕ) (t : Schedule) → schedule_of text ≡ Ok t → (secret : List ℕ) → Each (λ (m : Made). signed.fits m.signed) (world_after (keyed_setting secret t) t.events).txs
read-transactions text t read secret = each-signed (world_after (keyed_setting secret t) t.events).txs (fit-run text t read secret).txs

pub read-spellable : (text : List ℕ) (t : Schedule) → schedule_of text ≡ Ok t → (secret : List ℕ) → AreSpellable (keyed_setting secret t) t.events
unfolding all_formed
read-spellable text t read secret =
    let fit = fit-run text t read secret in
    record {
      certificates = each-formed (world_after (keyed_setting secret t) t.events).certs fit.certs;
      entries = λ epoch. entries-fit (keyed_setting secret t) (setting-seals secret t) (setting-things secret t) (0 + length t.events) (world_after (keyed_setting secret t) t.events) epoch fit;
    }

pub read-unforged : (text : List ℕ) (t : Schedule) → schedule_of text ≡ Ok t → (secret : List ℕ) → Each (λ (e : Event). is_raw_hold e ≡ false) t.events
    → NoForgery (keyed_setting secret t) t.events (new_world (keyed_setting secret t))
read-unforged text t read secret raw = unforged (keyed_setting secret t) t.events raw (read-spellable text t read secret)
