-- What a quorum acknowledged, as C has it. Source: this profile.
use Rattle.light_client.specs.declared.finality.Acknowledged.{Acknowledged}
use Rattle.kothaysu.specs.Answers.{as_bytes}
use Rattle.kothaysu.specs.declared.finality.Final.{Final}

abbrev pub as_final : Acknowledged → Final
as_final a = record { epoch = a.epoch; tx = as_bytes a.tx; effects = as_bytes a.effects }
