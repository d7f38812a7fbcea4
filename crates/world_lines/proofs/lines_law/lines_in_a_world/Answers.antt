use Rattle.world_spec.proofs.LineWorlds.{ack_same, close_same, end_same, hold_same, run_same, see_same, shown_same, vote_same}
use Rattle.world_lines.proofs.TurnTexts.{turn_in}
use Rattle.world_lines.proofs.lines_law.lines_in_a_world.Goals as goal

pub returns : goal.returns
returns c = record {
  votes = vote_same;
  holds = hold_same;
  runs = run_same;
  shows = shown_same;
  entries = see_same;
  closes = close_same;
  ends = end_same;
  turns = turn_in;
  acks = ack_same;
}
