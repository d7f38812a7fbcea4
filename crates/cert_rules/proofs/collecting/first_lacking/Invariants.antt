use Rattle.std.proofs.Common.{◌≡◌, length}
use Rattle.protocol_spec.specs.Chain.Words.{first_of}
use Rattle.cert_rules.specs.Collecting.{lacks_word}
use Rattle.cert_rules.proofs.collecting.first_lacking.Given as goal

-- each member that was passed has a word
abbrev pub invariant-loop-rest : goal.invariant-loop-rest
invariant-loop-rest g l =
    let test = lacks_word (g.W.LastWords.reads l.words) in
    first_of test l.rest ≡ first_of test l.members

abbrev pub decreases-loop-rest : goal.decreases-loop-rest
decreases-loop-rest g l = length l.rest
