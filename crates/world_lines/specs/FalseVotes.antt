-- The origins of a false vote, by what is known and was stated.
use Rattle.std.specs.Prelude.{Bool, List, [], ◌∷◌, ◌++◌, map, Option, None, if◌then◌else◌}
use Rattle.digest_core.specs.declared.Digest.{Digest}
use Rattle.chain_types.specs.declared.transactions.Input.{Input}
use Rattle.chain_types.specs.Digests.{is_object}
use Rattle.world_spec.specs.Setting.{Name}
use Rattle.world_spec.specs.World.{Made, Said}
use Rattle.world_spec.specs.Step.{no_origins, origin_word, origins_or}
use Rattle.world_spec.specs.Known.{Known, world_with}
use Rattle.world_lines.specs.SaidVotes.{first_vote}

-- the origins with one `None` more if the input is an object; unchanged for any other input
abbrev pub with_none : List (Option Digest) → Input → List (Option Digest)
with_none origins input = if is_object input then origins ++ None ∷ [] else origins

abbrev pub origins_by : Known → List Said → List Bool → Made → List (Option Name) → List (Option Digest)
origins_by k said honest t [] = origins_or (no_origins t.signed.tx) (first_vote said t.signed.tx.epoch t.digest honest)
origins_by k said honest t (word ∷ words) = map (origin_word (world_with k)) (word ∷ words)
