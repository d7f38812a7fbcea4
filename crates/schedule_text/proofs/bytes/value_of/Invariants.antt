use Rattle.std.proofs.Common.{◌≡◌, ◌^◌, ◌<◌, length, IsTrue}
use Rattle.std.specs.List.{list_all}
use Rattle.schedule_text.specs.Bytes.{is_digit, value_from}
use Rattle.schedule_text.proofs.bytes.value_of.Given as goal

abbrev pub invariant-loop-rest : goal.invariant-loop-rest
invariant-loop-rest l = record {
  same : value_from l.value l.rest ≡ value_from 0 l.digits;
  digits : IsTrue (list_all is_digit l.rest);
  fits : l.value < 2 ^ 64;
}

abbrev pub decreases-loop-rest : goal.decreases-loop-rest
decreases-loop-rest l = length l.rest
