-- What is found of the transactions that lines made can be encoded.
use Rattle.std.proofs.Common.{◌≡◌, ℕ, List, Option, Some, None, option_map, subst, sym, refl}
use Rattle.std.specs.Prelude.{slice_get}
use Rattle.chain_messages.specs.declared.messages.Certificate.{Certificate}
use Rattle.chain_messages.specs.Messages as messages
use Rattle.chain_types.specs.Equal.{digest_eq}
use Rattle.chain_types.specs.Transactions as transactions
use Rattle.digest_core.specs.declared.Digest.{Digest}
use Rattle.protocol_spec.proofs.ListLemmas.{each_at, find-each}
use Rattle.protocol_spec.specs.Chain.Words.{Each}
use Rattle.world_spec.specs.Known.{Known}
use Rattle.world_core.specs.Sound.{IsSpelled, IsSpelledCert}
use Rattle.world_lines.specs.Looks.{made_at, made_of}
use Rattle.world_lines.specs.KnownRows.{made_as}
use Rattle.world_lines.specs.declared.rows.MadeTx.{MadeTx}
use Rattle.world_spec.specs.Names.{cert_in}
use Rattle.world_spec.specs.World.{Formed, Made}

pub short_of : (k : Known) (tx : Digest) (made : MadeTx) → Each IsSpelled k.txs → Some (made_as made) ≡ made_of k tx → transactions.transaction.short made.signed.tx
unfolding transactions.signed
short_of k tx made all e = (find-each IsSpelled (λ (t : Made). digest_eq t.digest tx) k.txs (made_as made) all (sym e)).0

pub short_at : (k : Known) (place : ℕ) (made : MadeTx) → Each IsSpelled k.txs → Some (made_as made) ≡ made_at k place → transactions.signed.short made.signed
short_at k place made all e = each_at IsSpelled k.txs place (made_as made) all (sym e)

pub formed_short : (certs : List Formed) (place : ℕ) (c : Certificate) → Each IsSpelledCert certs → Some c ≡ option_map cert_in (slice_get certs place) → messages.certificate.short c
formed_short certs place c all e = by (slice_get certs place) refl e
  where
    by : (o : Option Formed) → slice_get certs place ≡ o → Some c ≡ option_map cert_in o → messages.certificate.short c
    by None is found = absurd (cc)
    by (Some f) is found = let same : cert_in f ≡ c = cc in subst messages.certificate.short same (each_at IsSpelledCert certs place f all is)
