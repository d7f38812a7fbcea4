-- Texts and runs that ended, or were cut.
use Rattle.std.proofs.Common.{◌≡◌, ◌∙◌, ℕ, ◌≤◌, inl, append-nil, Bool, true, false, List, [], ◌++◌, length, Option, Some, None, Result, Ok, Err, nat_lt, if◌then◌else◌, refl, sym, ap, subst, arith}
use Rattle.std.proofs.lemmas.Bool.Decides.{nat_tests}
use Rattle.std.proofs.KnownBytes.{Appends-nil}
use Rattle.std.specs.Str.{bytes_eq}
use Rattle.quorum_core.specs.Seals.{keyed_seal}
use Rattle.outside.specs.Lists.{Journals, journal_of}
use Rattle.schedule_text.specs.declared.words.Schedule.{Schedule}
use Rattle.schedule_text.specs.Schedule.{Refused, longest_text, schedule_of}
use Rattle.world_spec.specs.Setting.{Trust}
use Rattle.world_spec.specs.Keyed.{keyed, program_secret}
use Rattle.world_spec.specs.Run.{journal}
use Rattle.world_spec.specs.Scene.{Scene}
use Rattle.world_core.specs.Trusts.{trust_by}
use Rattle.committee_core.specs.Headline.{program_trust}
use Rattle.committee_core.specs.Journals.{AreEmpty, KeepsFronts, KeepsRun}
use Rattle.committee_core.specs.Report.{refusal_text, report_text, setting_in}
use Rattle.committee_core.specs.Ways.{RunsCut, RunsSilently, RunsWhole, ShowsRun, TextCut}
use Rattle.validator_core.proofs.Settling.{keeps_same}

-- ---- nothing was done yet

pub empty_fronts : (trust : Trust) (s : Schedule) (start : Option Journals) → AreEmpty start → KeepsFronts trust s start start
empty_fronts trust s None empty = tt
empty_fronts trust s (Some lists) empty =
    (lists, refl, λ m. (journal (setting_in trust s) s.events m, sym (ap (λ (l : List (List ℕ)). l ++ journal (setting_in trust s) s.events m) (empty m))))

pub nothing_run : (trust : Trust) (s : Schedule) (held : Option (List ℕ)) (start : Option Journals) → AreEmpty start → RunsCut trust s held held start start
nothing_run trust s held start empty = inl (record { written = λ reads. ([], report_text trust s, refl, Appends-nil held); journals = empty_fronts trust s start empty })

pub nothing_done : (trust : Trust) (r : Result Schedule Refused) (held : Option (List ℕ)) (start : Option Journals) → AreEmpty start → TextCut trust r held held start start
nothing_done trust (Ok s) held start empty = nothing_run trust s held start empty
nothing_done trust (Err r) held start empty = (([], refusal_text r, refl, Appends-nil held), keeps_same start)

pub schedule_cut : (trust : Trust) (text : List ℕ) (s : Schedule) (held held' : Option (List ℕ)) (kept kept' : Option Journals) → schedule_of text ≡ Ok s → RunsCut trust s held held' kept kept' → TextCut trust (schedule_of text) held held' kept kept'
schedule_cut trust text s held held' kept kept' is cut = subst (λ (r : Result Schedule Refused). TextCut trust r held held' kept kept') (sym is) cut

-- ---- the program's seals

keyed-seals : (secret : List ℕ) → trust_by (λ signer bytes. keyed_seal secret signer bytes) (λ signer bytes seal. bytes_eq seal.0 (keyed_seal secret signer bytes).0) ≡ keyed secret
keyed-seals secret = refl

pub program_seals : (secret : List ℕ) → secret ≡ program_secret → trust_by (λ signer bytes. keyed_seal secret signer bytes) (λ signer bytes seal. bytes_eq seal.0 (keyed_seal secret signer bytes).0) ≡ program_trust
unfolding program_trust
program_seals secret is = subst (λ (x : List ℕ). trust_by (λ signer bytes. keyed_seal secret signer bytes) (λ signer bytes seal. bytes_eq seal.0 (keyed_seal secret signer bytes).0) ≡ keyed x) is (keyed-seals secret)

-- ---- a run that was whole, and is not said to be

pub whole_fronts : (trust : Trust) (s : Schedule) (kept kept' : Option Journals) → KeepsRun trust s kept kept' → KeepsFronts trust s kept kept'
whole_fronts trust s None kept' all = tt
whole_fronts trust s (Some old) kept' (lists, is, all) = (lists, is, λ m. ([], sym (all m) ∙ sym (append-nil (journal_of lists m))))

pub whole_cut : (trust : Trust) (s : Schedule) (held held' : Option (List ℕ)) (kept kept' : Option Journals) → RunsWhole trust s held held' kept kept' → RunsCut trust s held held' kept kept'
whole_cut trust s held held' kept kept' runs = inl (record {
  written = λ reads. (report_text trust s, [], sym (append-nil (report_text trust s)), runs.written reads);
  journals = whole_fronts trust s kept kept' runs.journals;
})

-- ---- a whole text

-- if longer texts are refused, what is read is not longer
short_where : (limit n : ℕ) (long : Bool) (refused : Refused) (rest : Result Schedule Refused) (s : Schedule) → long ≡ nat_lt limit n
    → (if long then Err refused else rest) ≡ Ok s → n ≤ limit
short_where limit n true refused rest s is e = absurd (cc)
short_where limit n false refused rest s is e = grind (arith, nat_tests)

-- a schedule is no longer than the limit
pub short : (text : List ℕ) (s : Schedule) → schedule_of text ≡ Ok s → length text ≤ longest_text
unfolding schedule_of
short text s e = short_where longest_text (length text) (nat_lt longest_text (length text)) _ _ s refl e

-- ---- a run with no report

pub ran_silently : (trust : Trust) (text : List ℕ) (s : Schedule) (kept kept' : Option Journals) (sc : Scene) → schedule_of text ≡ Ok s
    → RunsWhole trust s None None kept kept' → ShowsRun trust s kept sc → RunsSilently trust text kept kept' sc
ran_silently trust text s kept kept' sc is runs shows = record { schedule = s; is = is; shows = shows; journals = runs.journals }
