use Rattle.std.proofs.Common.{sym, ◌∙◌}
use Rattle.committee_core.proofs.Voting.{more_requests}
use Rattle.committee_core.proofs.desk.signed_requests.Goals as goal

pub loop-place-preserved : goal.loop-place-preserved
loop-place-preserved c =
    c.in_ok-push.ensures.ok
    ∙ more_requests c.args.world.now.known.txs c.loop-place.place c.in-Some.signed.now c.loop-place.requests c.in_ok-encode_signed.field-0 (sym c.in-Some.ensures.value) c.in_ok-encode_signed.ensures c.loop-place.invariant
