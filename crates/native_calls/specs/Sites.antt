-- A call's surroundings, as the definitions of the natives take them.
use Rattle.native_calls.specs.declared.place.Place.{Place}
use Rattle.protocol_spec.specs.Block.Natives.{Site}

abbrev pub site_of : Place → Site
site_of p = record { tx = p.tx; version = p.version; made = p.made }
