use Rattle.std.proofs.Common.{◌≡◌, length}
use Rattle.protocol_spec.specs.Chain.Words.{first_of}
use Rattle.cert_rules.specs.Collecting.{differs_in}
use Rattle.cert_rules.proofs.collecting.first_other.Given as goal

-- each member that was passed agrees with the first
abbrev pub invariant-loop-rest : goal.invariant-loop-rest
invariant-loop-rest g l =
    let test = differs_in g.W.LastWords.same (g.W.LastWords.reads l.words) l.first in
    first_of test l.rest ≡ first_of test l.members

abbrev pub decreases-loop-rest : goal.decreases-loop-rest
decreases-loop-rest g l = length l.rest
