use Rattle.std.proofs.Common.{◌≡◌, ◌++◌, take}
use Rattle.std.specs.List.{flat_map}
use Rattle.process_lines.specs.Texts.{digest_word}
use Rattle.process_lines.proofs.sees.print_digests.Given as goal

abbrev pub invariant-loop-digest : goal.invariant-loop-digest
invariant-loop-digest l = l.out ≡ l.fn.out ++ flat_map (digest_word) (take l.digest-index l.digests)
