use Rattle.steal_board.proofs.board.Board.pay.Given as goal

abbrev pub ghosts-pay_at : goal.ghosts-pay_at
ghosts-pay_at g a = record { edge = a.edge }
