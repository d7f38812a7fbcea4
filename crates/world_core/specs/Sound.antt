-- What holds of each world: its transactions and certificates can be encoded, its entries can be kept, and its opening
-- objects have distinct ids.
use Rattle.std.specs.Prelude.{List}
use Rattle.chain_types.specs.declared.objects.Object.{Object}
use Rattle.chain_types.specs.Transactions as transactions
use Rattle.chain_messages.specs.declared.messages.Entry.{Entry}
use Rattle.chain_messages.specs.Messages as messages
use Rattle.protocol_spec.specs.Chain.Words.{Each}
use Rattle.world_spec.specs.Starts.{AreApart}
use Rattle.world_spec.specs.World.{Formed, Made}
use Rattle.world_spec.specs.Known.{Known}
use Rattle.world_spec.specs.SceneWorlds.{AreKeepable}

abbrev pub IsSpelled : Made → Type 0
IsSpelled t = transactions.signed.short t.signed

abbrev pub IsSpelledCert : Formed → Type 0
IsSpelledCert f = messages.certificate.short f.cert

pub record IsSound (opening : List Object) (known : Known) (certs : List Formed) (sequences : List (List Entry)) : Type 0 where
  pub made : Each IsSpelled known.txs
  pub formed : Each IsSpelledCert certs
  pub apart : AreApart opening
  pub keepable : AreKeepable sequences
