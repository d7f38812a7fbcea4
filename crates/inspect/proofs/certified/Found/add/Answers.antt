use Rattle.std.proofs.Common.{◌∙◌}
use Rattle.std.proofs.lemmas.Result.{on_ok_weaker}
use Rattle.inspect.proofs.Finding.{found_pushed}
use Rattle.inspect.proofs.certified.Found.add.Goals as goal

pub returns-clause-found : goal.returns-clause-found
returns-clause-found g c = on_ok_weaker c.push.result (λ pushed.
    found_pushed c.args.committee.now c.args.self.now.certs c.push.new.self c.args.self.now.spelled c.add.new.self c.args.cert.now c.in_ok-copy.copy c.as_slice.result.now c.as_slice-2.result.now
    c.requires.found (record { short = c.requires.short; roll = c.in_ok-is_valid.ensures.roll c.if-not-branch.false })
    c.in_ok-copy.ensures (c.as_slice.ensures.value ∙ c.in_ok-bytes.ensures) (c.as_slice-2.ensures.value ∙ c.in_ok-bytes.ensures) c.if-has.ensures c.in_ok-add.ensures.ok pushed) c.push.ensures.ok
