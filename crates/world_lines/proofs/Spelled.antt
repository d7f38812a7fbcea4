-- What lines form and order can be encoded.
use Rattle.std.proofs.Common.{◌≡◌, ◌∙◌, ap, sym, refl, subst, suc, ℕ, ◌+◌, ◌-◌, ◌<◌, ◌≤◌, List, [], ◌∷◌, drop, length, length-append, take, take_all, take_at, Option, arith}
use Rattle.digest_core.specs.declared.Digest.{Digest}
use Rattle.wire_bcs.specs.Digests.{digest}
use Rattle.wire_bcs.specs.Uleb.{uleb}
use Rattle.chain_types.specs.declared.transactions.SignedTx.{SignedTx}
use Rattle.chain_types.specs.Transactions as transactions
use Rattle.chain_messages.specs.declared.messages.Certificate.{Certificate}
use Rattle.chain_messages.specs.declared.messages.Entry.TheVariants as entry
use Rattle.chain_messages.specs.declared.messages.Statement.TheVariants as statement
use Rattle.chain_messages.specs.Messages as messages
use Rattle.protocol_spec.proofs.Checked.{origin_short, tx_short}
use Rattle.world_spec.specs.World.{Said, list_or_none}
use Rattle.world_spec.specs.Step.{certificate_of}
use Rattle.world_lines.specs.declared.rows.MadeTx.{MadeTx}
use Rattle.world_lines.specs.KnownRows.{made_as}
use Rattle.world_lines.specs.Forming.{first_origins_by}
use Rattle.world_lines.specs.SaidVotes.{vote_by}

-- what stands before the seal in the encoding of a signed transaction
pub without_seal : (t : SignedTx) (bytes front : List ℕ) (mid : ℕ) → bytes ≡ transactions.signed.spell t → mid ≡ length bytes - length t.seal.0 → front ≡ take mid bytes → front ≡ transactions.transaction.spell t.tx
unfolding transactions.signed digest
without_seal t bytes front mid of at is =
    is
    ∙ ap (take mid) of
    ∙ take_at (transactions.transaction.spell t.tx) t.seal.0 mid (sym (at ∙ ap (λ xs. length xs - length t.seal.0) of ∙ ap (λ k. k - length t.seal.0) (length-append (transactions.transaction.spell t.tx) t.seal.0) ∙ without (length (transactions.transaction.spell t.tx)) (length t.seal.0)))
  where
    without : (a b : ℕ) → (a + b) - b ≡ a
    without a b = omega arith

-- the encoding of the entry that orders a certificate, and what follows the number in it
entry_is : (c : Certificate) → messages.entry.spell (entry.Cert c) ≡ 0 ∷ messages.certificate.spell c
unfolding messages.entry uleb
entry_is c = refl

pub entry_some : (c : Certificate) (bytes : List ℕ) → bytes ≡ messages.entry.spell (entry.Cert c) → length bytes < 1 → ⊥
entry_some c bytes of few = let many = ap length (of ∙ entry_is c) in omega (arith, few, many)

pub without_number : (c : Certificate) (bytes : List ℕ) → bytes ≡ messages.entry.spell (entry.Cert c) → take (length bytes - 1) (drop 1 bytes) ≡ messages.certificate.spell c
without_number c bytes of =
    ap (λ xs. take (length xs - 1) (drop 1 xs)) (of ∙ entry_is c)
    ∙ take_all (length (0 ∷ messages.certificate.spell c) - 1) (messages.certificate.spell c) (omega arith)

-- votes with origins that are not too many
pub vote_short : (epoch : ℕ) (tx : Digest) (origins : List (Option Digest)) → length origins ≤ 2147483647 → messages.statement.short (statement.Vote epoch tx origins)
unfolding messages.statement digest
vote_short epoch tx origins few = (tt, (tt, (omega arith, λ k d l. origin_short _)))

-- a certificate whose lists are not too long
pub certificate_short : (said : List Said) (t : MadeTx) (origins : List (Option Digest)) (ms : List ℕ) (c : Certificate)
    → transactions.signed.short t.signed → length origins ≤ 2147483647 → length ms ≤ 2147483647 → c ≡ certificate_of said (made_as t) origins ms → messages.certificate.short c
unfolding messages.certificate messages.member_seal digest
certificate_short said t origins ms c tx few some is =
    subst messages.certificate.short (sym is)
    (tx_short t.signed tx, ((omega arith, λ k d l. origin_short _), (let n = seals_length ms in omega arith, λ k d l. (tt, tt))))
  where
    seals_length : (xs : List ℕ) → length (certificate_of said (made_as t) origins xs).seals ≡ length xs
    seals_length [] = refl
    seals_length (x ∷ xs) = ap suc (seals_length xs)

-- the origins of the first of these members
pub first_of_none : (said : List Said) (epoch : ℕ) (tx : Digest) (ms : List ℕ) (origins : List (Option Digest)) → ms ≡ [] → origins ≡ [] → origins ≡ first_origins_by said epoch tx ms
first_of_none said epoch tx ms origins e o = o ∙ sym (ap (first_origins_by said epoch tx) e)

pub first_of_some : (said : List Said) (epoch : ℕ) (tx : Digest) (m : ℕ) (rest ms : List ℕ) (origins : List (Option Digest)) → ms ≡ m ∷ rest → origins ≡ list_or_none (vote_by said epoch tx m) → origins ≡ first_origins_by said epoch tx ms
first_of_some said epoch tx m rest ms origins e o = o ∙ sym (ap (first_origins_by said epoch tx) e)

-- an End under its seal
pub short_end : (m epoch : ℕ) (seal : Digest) → messages.entry.short (entry.End (record { member = m; statement = statement.End epoch; seal = seal }))
unfolding messages.entry messages.sealed messages.statement digest
short_end m epoch seal = (tt, (tt, tt))
