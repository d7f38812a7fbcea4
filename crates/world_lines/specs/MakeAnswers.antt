-- When a line makes a transaction.
use Rattle.std.specs.Prelude.{◌≡◌, Bool, true, false, Result, Ok, Err}
use Rattle.world_lines.specs.declared.rows.MadeTx.{MadeTx}
use Rattle.world_lines.specs.declared.making.MakeRefusal.{MakeRefusal}
use Rattle.world_lines.specs.declared.making.MakeRefusal.TheVariants as refusal

-- the answer of `make`; `long` says whether a list of the transaction is too long to be encoded: `Ok` only if
-- none is, `TooLong` only if one is
abbrev pub Says : Result MadeTx MakeRefusal → Bool → Type 0
Says (Ok t) long = long ≡ false
Says (Err refusal.TooLong) long = long ≡ true
Says (Err refusal.OutOfMemory) long = Unit {0}
