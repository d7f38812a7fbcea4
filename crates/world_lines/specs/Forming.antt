-- What goes into the certificate of members that vote alike. Source: Sui Lutris.
use Rattle.std.specs.Prelude.{ℕ, List, [], ◌∷◌, Option}
use Rattle.digest_core.specs.declared.Digest.{Digest}
use Rattle.chain_types.specs.declared.transactions.Transaction.{Transaction}
use Rattle.chain_messages.specs.declared.messages.Certificate.{Certificate}
use Rattle.chain_messages.specs.declared.messages.MemberSeal.{MemberSeal}
use Rattle.chain_messages.specs.Messages as messages
use Rattle.world_spec.specs.World.{Made, Said, list_or_none}
use Rattle.world_spec.specs.Step.{vote_statement}
use Rattle.world_lines.specs.SaidVotes.{vote_by}

-- the bytes that each voter for these origins of a transaction seals: the encoding of the vote's statement
abbrev pub vote_bytes : Made → List (Option Digest) → List ℕ
vote_bytes t origins = messages.statement.spell (vote_statement t.signed.tx t.digest origins)

-- the certificate of a transaction with these origins and seals
abbrev pub with_seals : Transaction → List (Option Digest) → List MemberSeal → Certificate
with_seals tx origins seals = record { tx = tx; origins = origins; seals = seals }

-- the origins that the first of these members voted for
abbrev pub first_origins_by : List Said → ℕ → Digest → List ℕ → List (Option Digest)
first_origins_by said epoch tx [] = []
first_origins_by said epoch tx (m ∷ ms) = list_or_none (vote_by said epoch tx m)
