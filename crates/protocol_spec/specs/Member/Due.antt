-- The records that some call appends.
use Rattle.std.specs.Prelude.{◌≡◌, List, Some}
use Rattle.chain_types.specs.declared.objects.Object.{Object}
use Rattle.journal_core.specs.declared.records.Record.{Record}
use Rattle.protocol_spec.specs.Chain.Certificates.{Rules}
use Rattle.protocol_spec.specs.Member.Member.{state}
use Rattle.protocol_spec.specs.Member.Calls.{Call, due}

-- some call appends the record after these
abbrev pub IsDueBehind : Rules → List Object → List Record → Record → Type 0
IsDueBehind r opening before x = (call : Call) × (due r (state r opening before) call ≡ Some x)
