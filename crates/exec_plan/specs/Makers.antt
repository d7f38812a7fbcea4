-- What a certificate waits for: the transactions that make the versions that it wants.
use Rattle.std.specs.Prelude.{Bool, not, List, map, Option, Some, None}
use Rattle.std.specs.List.{list_all}
use Rattle.digest_core.specs.declared.Digest.{Digest}
use Rattle.chain_types.specs.declared.objects.Producer.{Producer}
use Rattle.chain_types.specs.declared.objects.Producer.TheVariants as producers
use Rattle.protocol_spec.specs.declared.answers.Held.{Held}
use Rattle.protocol_spec.specs.Chain.Words.{Has, first_of, where_true}
use Rattle.protocol_spec.specs.Member.Versions.{Execution, is_executed}
use Rattle.protocol_spec.specs.Member.Admission.{Admission}
use Rattle.protocol_spec.specs.Member.Rounds.{Wanted, is_maker_done, wants_of}

-- the transaction that makes a version, if it is not executed
abbrev pub unmade_by : List Execution → Option Producer → Option Digest
unmade_by executed None = None
unmade_by executed (Some producers.Opening) = None
unmade_by executed (Some (producers.Tx tx)) = where_true (not (is_executed executed tx)) tx

abbrev pub unmade : List Execution → Wanted → Option Digest
unmade executed w = unmade_by executed w.producer

-- the first transaction, not executed, that makes what the certificate wants
abbrev pub awaited_of : List Execution → Admission → Held → Option Digest
awaited_of executed a h = first_of (unmade executed) (wants_of a h)

abbrev pub is_made : List Execution → Wanted → Bool
is_made executed w = is_maker_done executed w.producer

-- all transactions that make what the certificate wants are executed
abbrev pub are_made : List Execution → Admission → Held → Bool
are_made executed a h = list_all (is_made executed) (wants_of a h)

abbrev pub producer_in : Wanted → Option Producer
producer_in w = w.producer

-- the transaction makes what the certificate wants
abbrev pub Makes : Digest → Admission → Held → Type 0
Makes tx a h = Has (map producer_in (wants_of a h)) (Some (producers.Tx tx))
