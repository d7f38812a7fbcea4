-- The transactions that lines made, by their digest and by their place. Source: this profile.
use Rattle.std.specs.Prelude.{ℕ, Option, find, slice_get}
use Rattle.digest_core.specs.declared.Digest.{Digest}
use Rattle.chain_types.specs.Equal.{digest_eq}
use Rattle.world_spec.specs.Known.{Known}
use Rattle.world_spec.specs.World.{Made}

-- the first transaction that has this digest
abbrev pub made_of : Known → Digest → Option Made
made_of k tx = find (λ (t : Made). digest_eq t.digest tx) k.txs

-- the transaction of the line at this place, counted from 0 among the lines that made one
abbrev pub made_at : Known → ℕ → Option Made
made_at k place = slice_get k.txs place
