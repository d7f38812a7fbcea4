use Rattle.light_client.specs.Accepted.{names_seal}
use Rattle.light_client.proofs.Among.{found_before, found_behind}
use Rattle.light_client.proofs.accepted.place_from.Goals as goal

pub returns-in-Some : goal.returns-in-Some
returns-in-Some c = found_behind (names_seal c.args.statements.now c.args.signer.now c.args.bytes.now c.args.seal.now) _ c.args.rows.now _ c.split_at.ensures.back c.in-Some.ensures

pub returns-in-None : goal.returns-in-None
returns-in-None c = found_before (names_seal c.args.statements.now c.args.signer.now c.args.bytes.now c.args.seal.now) _ c.args.rows.now _ _ _ c.split_at.ensures.back c.split_at.ensures.front c.in-None.ensures c.place_of-in-None.ensures
