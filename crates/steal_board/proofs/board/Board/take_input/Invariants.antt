use Rattle.steal_board.proofs.board.Board.take_input.Given as goal

abbrev pub ghosts-take_at : goal.ghosts-take_at
ghosts-take_at g a = record { edge = a.edge }
