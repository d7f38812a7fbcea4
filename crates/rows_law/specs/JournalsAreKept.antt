-- The journals of a run: the first byte of a record says which it is.
use Rattle.std.specs.Prelude.{◌≡◌, ℕ, List, [], ◌∷◌, map, Option, Some, None}
use Rattle.world_spec.specs.Keyed.{keyed, program_secret}
use Rattle.world_spec.specs.Setting.{setting_of}
use Rattle.world_spec.specs.Run.{journal}
use Rattle.rows_law.specs.RunSplitIsReported.{lines, events}

abbrev pub first_byte : List ℕ → Option ℕ
first_byte [] = None
first_byte (b ∷ bytes) = Some b

abbrev pub kinds : ℕ → List (Option ℕ)
kinds m = map first_byte (journal (setting_of (keyed program_secret) lines) events m)

-- 0 is a vote, 1 a certificate, 6 a run
pub record JournalsAreKept : Type 0 where
  pub first : kinds 0 ≡ Some 0 ∷ Some 1 ∷ Some 6 ∷ []
  pub second : kinds 1 ≡ Some 0 ∷ []
  pub third : kinds 2 ≡ Some 0 ∷ []
  pub fourth : kinds 3 ≡ []
