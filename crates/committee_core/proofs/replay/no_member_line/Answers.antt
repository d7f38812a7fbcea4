use Rattle.committee_core.proofs.Replays.{said_no_member}
use Rattle.committee_core.proofs.replay.no_member_line.Goals as goal

pub returns : goal.returns
returns c = said_no_member c.text_with_number.result c.as_slice.result.now c.as_slice-2.result.now c.args.member c.as_slice.ensures c.as_slice-2.ensures c.text_with_number.ensures
