-- The start of a member from the records that it kept. Source: this profile.
use Rattle.std.specs.Prelude.{◌≡◌, ℕ, ◌+◌, false, List, [], ◌∷◌, map, Result, Ok, Err, if◌then◌else◌}
use Rattle.wire_bcs.specs.Whole.{whole}
use Rattle.wire_bcs.specs.declared.fault.WireFault.{WireFault}
use Rattle.chain_types.specs.declared.objects.Object.{Object}
use Rattle.chain_types.specs.Equal.{id_eq}
use Rattle.protocol_spec.specs.Chain.Certificates.{Rules, read_as}
use Rattle.protocol_spec.specs.Chain.Words.{and_then, repeats}
use Rattle.journal_core.specs.declared.records.Record.{Record}
use Rattle.journal_core.specs.Records as journals
use Rattle.protocol_spec.specs.declared.refusals.StartRefusal.{StartRefusal}
use Rattle.protocol_spec.specs.declared.refusals.StartRefusal.TheVariants as no_start
use Rattle.protocol_spec.specs.Member.Member.{Member, after, fresh}
use Rattle.protocol_spec.specs.Member.Replay.{is_allowed}

-- no two objects have one id
abbrev pub AreApart : List Object → Type 0
AreApart objects = repeats id_eq (map (λ (o : Object). o.id) objects) ≡ false

abbrev pub read_record : List ℕ → Result Record WireFault
read_record bytes = read_as (whole journals.journal_record bytes)

-- the state after a record at this place: one that does not decode is refused (1), and so is one that no call
-- would have appended (2)
abbrev pub taken_at : Rules → Member → ℕ → Result Record WireFault → Result Member StartRefusal
taken_at r m place (Err fault) = Err (no_start.BadRecord place 1)
taken_at r m place (Ok x) = if is_allowed r m x then Ok (after r m x) else Err (no_start.BadRecord place 2)

-- the state after these records, of which the first stands at this place
abbrev pub started_from : Rules → Member → ℕ → List (List ℕ) → Result Member StartRefusal
started_from r m place [] = Ok m
started_from r m place (bytes ∷ kept) = and_then (taken_at r m place (read_record bytes)) (λ next. started_from r next (place + 1) kept)

unfoldable pub started : Rules → List Object → List (List ℕ) → Result Member StartRefusal
started r opening kept = started_from r (fresh opening) 0 kept
