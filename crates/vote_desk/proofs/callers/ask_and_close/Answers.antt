use Rattle.vote_desk.specs.Desks.{mine, seen}
use Rattle.vote_desk.proofs.Asking.{all_made}
use Rattle.vote_desk.proofs.callers.ask_and_close.Goals as goal

pub returns-then-whole-clause-made : goal.returns-then-whole-clause-made
returns-then-whole-clause-made g c =
    all_made c.args.callers c.args.requests.now (seen c.run_callers-pass.result.pass) _ (mine c.run_callers-pass.result.pass) c.requires.some c.run_callers-pass.ensures.of.below c.close-validator.ensures.seen c.close-validator.ensures.mine (c.run_callers-pass.ensures.made c.if-whole.true)
