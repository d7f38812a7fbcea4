-- What a member that is up answers, and what becomes of the call.
use Rattle.std.proofs.Common.{◌≡◌, ◌∙◌, ap, sym, subst, refl, ℕ, ◌<◌, true, false, List, [], ◌∷◌, ◌++◌, replicate, Option, Some, None, inr}
use Rattle.std.specs.Prelude.{Bool, Result, Ok, Err, slice_get}
use Rattle.std.proofs.lemmas.List.{get_or-set_same, length-replicate, get_or-replicate}
use Rattle.journal_core.specs.declared.records.Record.{Record}
use Rattle.journal_core.specs.Records.{journal_record}
use Rattle.outside.specs.Lists.{Journals, journal_of, with_record}
use Rattle.protocol_spec.specs.Member.Member.{Member}
use Rattle.world_spec.specs.World.{stops, reached_up}
use Rattle.world_spec.specs.Posts.{AddsLeft, MayAddLeft, record_left}
use Rattle.world_core.specs.Replies.{KeptWhere, Leaves, Met, spelled_due}
use Rattle.validator_core.proofs.Settling.{keeps_same}

-- ---- the record on paper

none_on_paper : (n m : ℕ) → m < n → journal_of (replicate n []) m ≡ []
none_on_paper n m low = get_or-replicate n m [] [] low

first_on_paper : (n m : ℕ) (bytes : List ℕ) → m < n → slice_get (journal_of (with_record (replicate n []) m bytes) m) 0 ≡ Some bytes
first_on_paper n m bytes low =
    ap (λ (l : List (List ℕ)). slice_get l 0) (get_or-set_same (replicate n []) m (journal_of (replicate n []) m ++ bytes ∷ []) [] (subst (λ (k : ℕ). m < k) (sym (length-replicate n [])) low))
    ∙ ap (λ (l : List (List ℕ)). slice_get (l ++ bytes ∷ []) 0) (none_on_paper n m low)

abbrev told : Option Journals → Journals
told None = []
told (Some lists) = lists

-- after a call the list has the record that is due, or none
pub paper_due : (n m : ℕ) (x : Option Record) (new : Journals) → m < n → AddsLeft (Some (replicate n [])) (Some new) m x → slice_get (journal_of new m) 0 ≡ spelled_due x
paper_due n m None new low h = ap (λ (o : Option Journals). slice_get (journal_of (told o) m) 0) h ∙ ap (λ (l : List (List ℕ)). slice_get l 0) (none_on_paper n m low)
paper_due n m (Some x) new low h = ap (λ (o : Option Journals). slice_get (journal_of (told o) m) 0) h ∙ first_on_paper n m (journal_record.spell x) low

pub nothing_due : (x : Option Record) (o : Option (List ℕ)) → o ≡ spelled_due x → o ≡ None → x ≡ None
nothing_due None o e none_ = refl
nothing_due (Some x) o e none_ = absurd (cc)

pub something_due : (x : Option Record) (o : Option (List ℕ)) (bytes : List ℕ) → o ≡ spelled_due x → o ≡ Some bytes → (due_ : Record) × (x ≡ Some due_) × (bytes ≡ journal_record.spell due_)
something_due None o bytes e some_ = absurd (cc)
something_due (Some x) o bytes e some_ = (x, refl, cc)

-- ---- a member that is up, with an armed stop

pub met_idle : {A : Type 0} (Says : Member → A → Type 0) (state : Member) (kept : Bool) (x : Option Record) (o : Option (List ℕ)) (a : A) → o ≡ spelled_due x → o ≡ None → Says state a → Met Says (reached_up state (Some kept) x) (Some a)
met_idle Says state kept x o a e none_ said = record { before = state; due = None; is = ap (reached_up state (Some kept)) (nothing_due x o e none_); says = said }

pub met_stop : {A : Type 0} (Says : Member → A → Type 0) (state : Member) (kept : Bool) (x : Option Record) (o : Option (List ℕ)) (bytes : List ℕ) → o ≡ spelled_due x → o ≡ Some bytes → Met Says (reached_up state (Some kept) x) None
met_stop Says state kept x o bytes e some_ = let d = something_due x o bytes e some_ in record { kept = kept; due = d.0; is = ap (reached_up state (Some kept)) d.1 }

pub left_idle : (lists : Option Journals) (m : ℕ) (state : Member) (kept : Bool) (x : Option Record) (o : Option (List ℕ)) → o ≡ spelled_due x → o ≡ None → AddsLeft lists lists m (record_left (reached_up state (Some kept) x))
left_idle lists m state kept x o e none_ = subst (λ (y : Option Record). AddsLeft lists lists m (record_left (reached_up state (Some kept) y))) (sym (nothing_due x o e none_)) (keeps_same lists)

stopped : {A E : Type 0} (kept : Bool) (before now : Option Journals) (m : ℕ) (x : Record) (result : Result A E) → KeptWhere kept before now m (journal_record.spell x) result → Leaves before now m (record_left (stops kept x)) result
stopped true before now m x (Ok a) h = h
stopped true before now m x (Err f) h = h
stopped false before now m x (Ok a) h = h
stopped false before now m x (Err f) h = inr h

-- one for each way of ending, so that the ways do not join
pub left_stop : {A E : Type 0} (before now : Option Journals) (m : ℕ) (state : Member) (kept : Bool) (x : Option Record) (o : Option (List ℕ)) (bytes : List ℕ) (result : Result A E) → o ≡ spelled_due x → o ≡ Some bytes
    → KeptWhere kept before now m bytes result → Leaves before now m (record_left (reached_up state (Some kept) x)) result
left_stop before now m state kept x o bytes result e some_ h =
    let d = something_due x o bytes e some_ in
    subst (λ (y : Option Record). Leaves before now m (record_left (reached_up state (Some kept) y)) result) (sym d.1)
    (stopped kept before now m d.0 result (subst (λ (b : List ℕ). KeptWhere kept before now m b result) d.2 h))

pub left_same : (lists : Option Journals) (m : ℕ) (x : Option Record) → MayAddLeft lists lists m x
left_same lists m x = inr (keeps_same lists)
