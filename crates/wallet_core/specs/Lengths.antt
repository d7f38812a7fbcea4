-- Values with a list that is too long for its bytes. Source: BCS (a sequence has at most 2 ^ 31 - 1 items).
use Rattle.std.specs.Prelude.{◌≡◌, ℕ, Bool, true, false, ◌||◌, List, Result, Ok, Err}
use Rattle.chain_types.specs.Long.{has_long_list, is_long_list}
use Rattle.chain_types.specs.declared.transactions.Transaction.{Transaction}
use Rattle.chain_types.specs.declared.transactions.SignedTx.{SignedTx}
use Rattle.chain_messages.specs.declared.messages.Statement.{Statement}
use Rattle.chain_messages.specs.declared.messages.Statement.TheVariants as statements
use Rattle.chain_messages.specs.declared.messages.Sealed.{Sealed}
use Rattle.chain_messages.specs.declared.messages.Certificate.{Certificate}
use Rattle.chain_messages.specs.declared.messages.Entry.{Entry}
use Rattle.chain_messages.specs.declared.messages.Entry.TheVariants as entries
use Rattle.checkpoint_core.specs.declared.checkpoints.Checkpoint.{Checkpoint}
use Rattle.effects_core.specs.declared.effects.Effects.{Effects}
use Rattle.wallet_core.specs.declared.refusals.EncodeRefusal.{EncodeRefusal}
use Rattle.wallet_core.specs.declared.refusals.EncodeRefusal.TheVariants as unencoded

-- a list has more than 2147483647 items
abbrev pub is_long : {A : Type 0} → List A → Bool
is_long xs = is_long_list 2147483647 xs

abbrev pub tx_long : Transaction → Bool
tx_long t = has_long_list 2147483647 t

abbrev pub signed_long : SignedTx → Bool
signed_long s = tx_long s.tx

abbrev pub statement_long : Statement → Bool
statement_long (statements.Vote epoch tx origins) = is_long origins
statement_long (statements.End epoch) = false
statement_long (statements.Checkpoint epoch number digest) = false
statement_long (statements.Ack epoch tx effects) = false

abbrev pub sealed_long : Sealed → Bool
sealed_long s = statement_long s.statement

abbrev pub certificate_long : Certificate → Bool
certificate_long c = tx_long c.tx || (is_long c.origins || is_long c.seals)

abbrev pub entry_long : Entry → Bool
entry_long (entries.Cert cert) = certificate_long cert
entry_long (entries.End said) = sealed_long said
entry_long entries.Commit = false

abbrev pub effects_long : Effects → Bool
effects_long e = is_long e.written || is_long e.deleted

abbrev pub checkpoint_long : Checkpoint → Bool
checkpoint_long c = is_long c.items

-- the answer of an encoder: `made` only if no list of the value is too long (`long` is false), `TooLong` only if one
-- is; that memory was refused says nothing
abbrev pub Encodes : {X : Type 0} → Result X EncodeRefusal → Bool → X → Type 0
Encodes (Ok x) long made = (long ≡ false) × (x ≡ made)
Encodes (Err unencoded.TooLong) long made = long ≡ true
Encodes (Err unencoded.OutOfMemory) long made = Unit {0}
