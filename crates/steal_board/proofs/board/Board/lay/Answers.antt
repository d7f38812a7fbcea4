use Rattle.steal_board.specs.Views.{paper_of}
use Rattle.steal_board.proofs.Laying.{lays}
use Rattle.steal_board.proofs.board.Board.lay.Goals as goal

pub vacant-requires : goal.vacant-requires
vacant-requires g c =
    lays (paper_of c.args.plan.now) c.as_slice-2.result.now c.in_ok-words.words.items c.edge_count-count.result c.as_slice-2.ensures.value c.edge_count-count.ensures c.in_ok-words.ensures.wide c.args.plan.now.few.1 c.in_ok-words.ensures.counted c.in_ok-words.ensures.spare
