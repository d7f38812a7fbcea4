use Rattle.std.proofs.Common.{◌≡◌, ◌++◌, take}
use Rattle.inspect.specs.Blame.{members_text}
use Rattle.inspect.proofs.blame_line.add_members.Given as goal

abbrev pub invariant-loop-member : goal.invariant-loop-member
invariant-loop-member l = l.text ≡ l.fn.text ++ members_text (take l.member-index l.members)
