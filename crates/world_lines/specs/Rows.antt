-- What the rows of the book of statements and of the book of certificates stand for in the definitions.
use Rattle.std.specs.Prelude.{ℕ, Bool, List, map, Option, Some, None, bytes_eq}
use Rattle.digest_core.specs.declared.Digest.{Digest}
use Rattle.chain_messages.specs.declared.messages.Certificate.{Certificate}
use Rattle.chain_messages.specs.declared.messages.Statement.{Statement}
use Rattle.chain_messages.specs.declared.messages.Statement.TheVariants as statement
use Rattle.world_spec.specs.World.{Said, Formed}
use Rattle.world_spec.specs.Step.{end_in}
use Rattle.world_lines.specs.declared.said.SaidRow.{SaidRow}
use Rattle.world_lines.specs.declared.formed.FormedRow.{FormedRow}

-- ---- statements

abbrev pub said_as : SaidRow → Said
said_as r = record { member = r.member; statement = r.statement; seal = r.seal }

-- a statement with this seal, if any
abbrev pub said_with : ℕ → Statement → Option Digest → Said
said_with m st seal = record { member = m; statement = st; seal = seal }

abbrev pub said_list : List SaidRow → List Said
said_list rows = map said_as rows

-- the origins that a statement names if it is a vote, whatever its transaction
abbrev pub origins_in : Statement → Option (List (Option Digest))
origins_in (statement.Vote epoch tx origins) = Some origins
origins_in (statement.End epoch) = None
origins_in (statement.Checkpoint epoch number digest) = None
origins_in (statement.Ack epoch tx effects) = None

abbrev pub row_origins : SaidRow → Option (List (Option Digest))
row_origins r = origins_in r.statement

abbrev pub row_end : SaidRow → Option ℕ
row_end r = end_in r.statement

-- the effects digest that a statement names if it is an acknowledgement, whatever its transaction
abbrev pub effects_in : Statement → Option Digest
effects_in (statement.Vote epoch tx origins) = None
effects_in (statement.End epoch) = None
effects_in (statement.Checkpoint epoch number digest) = None
effects_in (statement.Ack epoch tx effects) = Some effects

abbrev pub row_effects : SaidRow → Option Digest
row_effects r = effects_in r.statement

abbrev pub row_statement : SaidRow → Statement
row_statement r = r.statement

abbrev pub row_seal : SaidRow → Option (Option Digest)
row_seal r = Some r.seal

-- ---- certificates

abbrev pub formed_as : FormedRow → Formed
formed_as r = record { name = r.name.value.items; cert = r.cert }

abbrev pub formed_list : List FormedRow → List Formed
formed_list rows = map formed_as rows

-- the row is of this name
abbrev pub is_named : List ℕ → FormedRow → Bool
is_named name r = bytes_eq r.name.value.items name

abbrev pub row_cert : FormedRow → Certificate
row_cert r = r.cert
