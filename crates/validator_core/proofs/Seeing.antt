-- An entry that a member sees: what is answered and due, and the state after it.
use Rattle.std.proofs.Common.{◌≡◌, ◌+◌, ℕ, Bool, true, false, cond, List, [], Option, Some, None, inl, inr, refl, ap, sym, ◌∙◌, subst}
use Rattle.std.specs.Prelude.{◌⊎◌, not, is_err, is_none, is_some, option_map, Result, Ok, Err}
use Rattle.outside.specs.Lists.{Journals, KeepsJournals}
use Rattle.checkpoint_core.specs.declared.checkpoints.Checkpoint.{Checkpoint}
use Rattle.journal_core.specs.declared.records.Record.{Record}
use Rattle.journal_core.specs.declared.records.Record.TheVariants as record_as
use Rattle.protocol_spec.specs.declared.answers.Seen.{Seen}
use Rattle.protocol_spec.specs.declared.answers.SeenWhat.{SeenWhat}
use Rattle.protocol_spec.specs.declared.refusals.SeeRefusal.{SeeRefusal}
use Rattle.protocol_spec.specs.declared.refusals.SeeRefusal.TheVariants as no_see
use Rattle.protocol_spec.specs.Chain.Certificates.{Rules}
use Rattle.protocol_spec.specs.Chain.Words.{first_some, refused_or, unless_refused}
use Rattle.protocol_spec.specs.Member.Sequence.{What, saw, seen_what, what_of, with_entry}
use Rattle.protocol_spec.specs.Member.Member.{Fork, Member, after, fork_of, fresh, held_with}
use Rattle.protocol_spec.specs.Member.Calls.{after_due, called, due, newly_built, see_after, see_answer, see_cases, see_fork, see_record, seen_as, sees}
use Rattle.validator_core.specs.Calls.{Sees, see_ended, see_said, unkept_see}
use Rattle.validator_core.specs.declared.keeping.JournalFault.{JournalFault}
use Rattle.validator_core.specs.declared.keeping.JournalFault.TheVariants as unkept
use Rattle.vote_rules.specs.Holders.{sides}
use Rattle.vote_rules.specs.declared.certificate_store.Fork.{Fork as Sides}
use Rattle.validator_core.specs.Entries.{behind_entry}
use Rattle.validator_core.specs.Seats.{Becomes, Behaves, Ended, Journaled, Keeps, answered, fell, has_fallen}
use Rattle.world_spec.specs.Seats.{Seated, due_at, rules_of_seat}
use Rattle.world_spec.specs.Terms.{rules_for}
use Rattle.validator_core.proofs.Refusing.{free, none_stops, stop, stopped_by}
use Rattle.validator_core.proofs.Settling.{Signing, keeps_same, seat_with, settles}

-- the state after the record of an entry
pub behind_seen : (r : Rules) (m : Member) (bytes : List ℕ) → m.sequence.ended ≡ false → (what : What) → what_of r m.epoch m.sequence bytes ≡ what → (new : Member) → new ≡ behind_entry r m what → new ≡ after r m (record_as.See bytes)
unfolding after saw
behind_seen r m bytes unended what is new step =
    step
    ∙ ap (λ (w : What). behind_entry r m w) (sym is)
    ∙ ap (λ (b : Bool). record m { sequence = cond b m.sequence (with_entry r m.opening m.sequence (what_of r m.epoch m.sequence bytes)); held = held_with m.held (what_of r m.epoch m.sequence bytes); records = m.records + 1 }) (sym unended)

-- whether a record of an entry is taken back
may_see : (o : Option SeeRefusal) (result : Result (Unit {0}) SeeRefusal) (b : Bool) → result ≡ unless_refused o tt → is_err result ≡ b → not b ≡ is_none o
may_see None result b is bad = ap not (sym bad ∙ ap (λ (x : Result (Unit {0}) SeeRefusal). is_err x) is)
may_see (Some refusal) result b is bad = ap not (sym bad ∙ ap (λ (x : Result (Unit {0}) SeeRefusal). is_err x) is)

pub see_not_taken : (m : Member) (number : ℕ) (result : Result (Unit {0}) SeeRefusal) → number ≡ m.sequence.number → result ≡ unless_refused (first_some (see_cases m number)) tt → is_err result ≡ true → false ≡ is_none (first_some (see_cases m m.sequence.number))
see_not_taken m number result same is bad = may_see (first_some (see_cases m number)) result true is bad ∙ ap (λ n. is_none (first_some (see_cases m n))) same

pub see_taken_back : (m : Member) (number : ℕ) (result : Result (Unit {0}) SeeRefusal) → number ≡ m.sequence.number → result ≡ unless_refused (first_some (see_cases m number)) tt → is_err result ≡ false → true ≡ is_none (first_some (see_cases m m.sequence.number))
see_taken_back m number result same is good = may_see (first_some (see_cases m number)) result false is good ∙ ap (λ n. is_none (first_some (see_cases m n))) same

module _ (r : Rules) (m : Member) (number : ℕ) (bytes : List ℕ) where
  -- ---- a refused entry

  module _ (refusal : SeeRefusal) (stopped : stop refusal ≡ unless_refused (first_some (see_cases m number)) tt) where
    first : first_some (see_cases m number) ≡ Some refusal
    first = stopped_by (first_some (see_cases m number)) refusal stopped

    said_so : see_answer r m number bytes ≡ Err refusal
    unfolding see_answer
    said_so = ap (λ o. refused_or o (see_after r m (after r m (record_as.See bytes)) bytes)) first

    none_due : due r m (sees number bytes) ≡ None
    unfolding due
    none_due = ap (see_record m number bytes) first

    as_said : (said : Result Seen SeeRefusal) (e : SeeRefusal) → said ≡ Err e → Sees said (Err e)
    as_said said no_see.Down h = h
    as_said said (no_see.Halted one two) h = h
    as_said said no_see.Full h = h
    as_said said no_see.Over h = h
    as_said said (no_see.Gap had want) h = h
    as_said said no_see.KeepFault h = tt
    as_said said (no_see.Fork key one two) h = h
    as_said said no_see.OutOfMemory h = tt

    pub see_refused : Sees (see_answer r m number bytes) (Err refusal)
    see_refused = as_said (see_answer r m number bytes) refusal said_so

    becomes_same : (next : Member) (e : Ended) → m ≡ next → Becomes next m e
    becomes_same next answered is = is
    becomes_same next fell is = tt

    pub see_stays : Becomes (called r m (sees number bytes)) m (see_ended (Err refusal))
    see_stays = becomes_same (called r m (sees number bytes)) (see_ended (Err refusal)) (ap (after_due r m) (sym none_due))

    journals_same : (lists : Option Journals) (member : ℕ) (x : Option Record) (e : Ended) → x ≡ None → Journaled lists lists member x e
    journals_same lists member x answered none = subst (λ (d : Option Record). Keeps lists lists member d) (sym none) (keeps_same lists)
    journals_same lists member x fell none = inr (keeps_same lists)

    pub see_unkept : (lists : Option Journals) (member : ℕ) → Journaled lists lists member (due r m (sees number bytes)) (see_ended (Err refusal))
    see_unkept lists member = journals_same lists member (due r m (sees number bytes)) (see_ended (Err refusal)) none_due

  -- ---- one that is kept

  module _ (goes : free ≡ unless_refused (first_some (see_cases m number)) tt) where
    pub see_due : due r m (sees number bytes) ≡ Some (record_as.See bytes)
    unfolding due
    see_due = ap (see_record m number bytes) (none_stops (first_some (see_cases m number)) goes)

    pub see_owed : is_some (due r m (sees number bytes)) ≡ true
    see_owed = ap (λ (o : Option Record). is_some o) see_due

    module _ (unended : m.sequence.ended ≡ false) (what : What) (is : what_of r m.epoch m.sequence bytes ≡ what) (new : Member) (step : new ≡ behind_entry r m what) where
      behind : new ≡ after r m (record_as.See bytes)
      behind = behind_seen r m bytes unended what is new step

      pub see_called : new ≡ called r m (sees number bytes)
      see_called = behind ∙ ap (after_due r m) (sym see_due)

      answers : see_answer r m number bytes ≡ unless_refused (see_fork new) (seen_as r m new bytes)
      unfolding see_answer
      answers =
          ap (λ o. refused_or o (see_after r m (after r m (record_as.See bytes)) bytes)) (none_stops (first_some (see_cases m number)) goes)
          ∙ ap (λ (x : Member). unless_refused (see_fork x) (seen_as r m x bytes)) (sym behind)

      pub see_taken : (seen : Seen) → fork_of new ≡ None → seen.what ≡ seen_what r m.sequence new.sequence what → seen.built ≡ newly_built m new → see_answer r m number bytes ≡ Ok seen
      see_taken seen none does built =
          answers
          ∙ ap (λ (f : Option Fork). unless_refused (option_map (λ (x : Fork). no_see.Fork x.key x.first x.second) f) (seen_as r m new bytes)) none
          ∙ ap (λ (w : What). Ok (record { what = seen_what r m.sequence new.sequence w; built = newly_built m new })) is
          ∙ ap (λ (w : SeenWhat). Ok (record { what = w; built = newly_built m new })) (sym does)
          ∙ ap (λ (cs : List Checkpoint). Ok (record { what = seen.what; built = cs })) (sym built)

      pub see_forked : (f : Fork) → fork_of new ≡ Some f → see_answer r m number bytes ≡ Err (no_see.Fork f.key f.first f.second)
      see_forked f some = answers ∙ ap (λ (o : Option Fork). unless_refused (option_map (λ (x : Fork). no_see.Fork x.key x.first x.second) o) (seen_as r m new bytes)) some

      pub some_fork : (f : Sides) → Some f ≡ option_map sides (fork_of new) → see_answer r m number bytes ≡ Err (no_see.Fork f.key f.first f.second)
      some_fork f some = by (fork_of new) refl some
        where
          by : (o : Option Fork) → fork_of new ≡ o → Some f ≡ option_map sides o → see_answer r m number bytes ≡ Err (no_see.Fork f.key f.first f.second)
          by None e h = absurd (cc)
          by (Some g) e h = let same : f ≡ sides g = cc in see_forked g e ∙ ap (λ (x : Sides). Err (no_see.Fork x.key x.first x.second)) (sym same)

-- ---- the record and the fork, as the code finds them

pub no_fork : (m : Member) → None ≡ option_map sides (fork_of m) → fork_of m ≡ None
no_fork m none = by (fork_of m) none
  where
    by : (o : Option Fork) → None ≡ option_map sides o → o ≡ None
    by None h = refl
    by (Some f) h = absurd (cc)

pub see_kept : (before now : Option Journals) (member : ℕ) (d x : Option Record) → d ≡ x → Keeps before now member x → Keeps before now member d ⊎ KeepsJournals before now
see_kept before now member d x is kept = inl (subst (λ (y : Option Record). Keeps before now member y) (sym is) kept)

pub see_maybe_kept : (before now : Option Journals) (member : ℕ) (d x : Option Record) (why : JournalFault) → d ≡ x → Keeps before now member x ⊎ KeepsJournals before now → Journaled before now member d (see_ended (Err (unkept_see why)))
see_maybe_kept before now member d x unkept.KeepFault is kept = subst (λ (y : Option Record). Keeps before now member y ⊎ KeepsJournals before now) (sym is) kept
see_maybe_kept before now member d x unkept.OutOfMemory is kept = subst (λ (y : Option Record). Keeps before now member y ⊎ KeepsJournals before now) (sym is) kept

-- ---- at the seat

pub see_settles : (accepts : Signing) (old : Seated) (number : ℕ) (bytes : List ℕ) (mid state : Member) (e : Ended) → old.up ≡ true → Becomes (called (rules_for old.terms accepts) old.state (sees number bytes)) mid e
    → state ≡ cond (has_fallen e) (fresh []) mid → Behaves (rules_of_seat old accepts) (sees number bytes) old (seat_with old state e) e
see_settles accepts old number bytes mid state e up h left = settles (rules_of_seat old accepts) (sees number bytes) old mid state e up h left

pub see_at : (accepts : Signing) (old : Seated) (number : ℕ) (bytes : List ℕ) (answer : Result Seen SeeRefusal) → old.up ≡ true → Sees (see_answer (rules_for old.terms accepts) old.state number bytes) answer
    → Sees (see_said (rules_of_seat old accepts) old number bytes) answer
see_at accepts old number bytes answer up h =
    subst (λ said. Sees said answer) (ap (λ (b : Bool). cond b (see_answer (rules_of_seat old accepts) old.state number bytes) (Err no_see.Down)) (sym up)) h

pub see_due_at : (accepts : Signing) (old : Seated) (number : ℕ) (bytes : List ℕ) (before now : Option Journals) (e : Ended) → old.up ≡ true
    → Journaled before now old.member (due (rules_for old.terms accepts) old.state (sees number bytes)) e → Journaled before now old.member (due_at (rules_of_seat old accepts) old (sees number bytes)) e
see_due_at accepts old number bytes before now e up h =
    subst (λ (x : Option Record). Journaled before now old.member x e) (ap (λ (b : Bool). cond b (due (rules_of_seat old accepts) old.state (sees number bytes)) None) (sym up)) h
