use Rattle.std.proofs.Common.{◌≡◌, drop}
use Rattle.world_lines.specs.Shown.{all_shown}
use Rattle.world_lines.proofs.directory.Directory.show_all.Given as goal

-- from here the loop gives what the whole loop gives
abbrev pub invariant-loop-object : goal.invariant-loop-object
invariant-loop-object l = all_shown l.self l.shown.entries (drop l.object-index l.objects) ≡ all_shown l.self l.fn.shown.entries l.objects
