-- The seals that a caller has accepted. Source: this profile.
use Rattle.std.specs.Prelude.{ℕ, Bool, false, ◌&&◌, ◌==◌, List, bytes_eq, drop, take}
use Rattle.std.specs.List.{list_any}
use Rattle.digest_core.specs.declared.Digest.{Digest}
use Rattle.quorum_core.specs.declared.signer.Signer.{Signer}
use Rattle.quorum_core.specs.declared.signer.Signer.TheVariants as signers
use Rattle.light_client.specs.declared.accepted.SealRow.{SealRow}

-- the statement that a row names: this many of the bytes from its offset on
abbrev pub statement_of : List ℕ → SealRow → List ℕ
statement_of statements row = take row.length (drop row.at statements)

abbrev pub names_member : SealRow → Signer → Bool
names_member row (signers.Member member) = row.member == member
names_member row (signers.User address) = false

-- a row is of this signer's seal on these bytes
abbrev pub names_seal : List ℕ → Signer → List ℕ → Digest → SealRow → Bool
names_seal statements who bytes seal row = names_member row who && (bytes_eq row.seal seal.0 && bytes_eq (statement_of statements row) bytes)

-- a seal is accepted if some row of the caller names it
abbrev pub accepted_in : List SealRow → List ℕ → Signer → List ℕ → Digest → Bool
accepted_in rows statements who bytes seal = list_any (names_seal statements who bytes seal) rows
