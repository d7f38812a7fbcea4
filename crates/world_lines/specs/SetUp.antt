-- The names of the set-up, line by line.
use Rattle.std.specs.Prelude.{List, fold}
use Rattle.schedule_text.specs.declared.words.Setup.{Setup}
use Rattle.schedule_text.specs.declared.words.Setup.TheVariants as line
use Rattle.world_spec.specs.Known.{Known, with_thing, with_user}

abbrev pub with_setup : Known → Setup → Known
with_setup k (line.Member stake honest) = k
with_setup k (line.Coin name who balance) = with_user (with_thing k name) who
with_setup k (line.Counter name value) = with_thing k name
with_setup k (line.Cap name who currency) = with_user (with_thing k name) who
with_setup k (line.Writers n) = k

abbrev pub with_all : Known → List Setup → Known
with_all k lines = fold with_setup k lines
