-- Which versions the executions of a round write.
use Rattle.std.specs.Prelude.{Bool, List}
use Rattle.std.specs.List.{list_any}
use Rattle.chain_types.specs.declared.objects.ObjectKey.{ObjectKey}
use Rattle.protocol_spec.specs.Chain.Tests.{has_key}
use Rattle.protocol_spec.specs.Block.Execution.{written_keys}
use Rattle.protocol_spec.specs.Member.Versions.{Execution}

-- an execution of the round writes the version
abbrev pub writes : List Execution → ObjectKey → Bool
writes round key = list_any (λ (y : Execution). has_key (written_keys y.gave) key) round
