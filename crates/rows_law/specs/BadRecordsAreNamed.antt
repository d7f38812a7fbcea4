-- Records that a start refuses.
use Rattle.std.specs.Prelude.{◌≡◌, ℕ, List, [], ◌∷◌, Result, Ok, Err}
use Rattle.wire_bcs.specs.Whole.{whole}
use Rattle.wire_bcs.specs.declared.fault.WireFault.{WireFault}
use Rattle.journal_core.specs.declared.records.Record.{Record}
use Rattle.journal_core.specs.declared.records.Record.TheVariants as record_as
use Rattle.journal_core.specs.Records as journals
use Rattle.protocol_spec.specs.Chain.Certificates.{read_as}
use Rattle.protocol_spec.specs.Member.Replay.{replayed}
use Rattle.world_spec.specs.Keyed.{keyed, program_secret}
use Rattle.world_spec.specs.Setting.{Setting, setting_of}
use Rattle.rows_law.specs.RunSplitIsReported.{lines}

abbrev pub setting : Setting
setting = setting_of (keyed program_secret) lines

abbrev pub read_record : List ℕ → Result Record WireFault
read_record bytes = read_as (whole journals.journal_record bytes)

-- bytes of a turn, of a close, and of no record (no such variant, no length), each with its fault; and the place at
-- which a start refuses a turn of an epoch that has not ended
pub record BadRecordsAreNamed : Type 0 where
  pub turn : read_record (5 ∷ []) ≡ Ok record_as.Turn
  pub close : read_record (3 ∷ []) ≡ Ok record_as.Close
  pub no_variant : read_record (7 ∷ []) ≡ Err (record { at = 0; why = 6 })
  pub no_length : read_record (6 ∷ []) ≡ Err (record { at = 1; why = 1 })
  pub turn_first : replayed setting.rules setting.opening (record_as.Turn ∷ []) ≡ Err 0
  pub turn_second : replayed setting.rules setting.opening (record_as.Close ∷ record_as.Turn ∷ []) ≡ Err 1
