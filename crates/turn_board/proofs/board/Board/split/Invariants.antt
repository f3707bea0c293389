use Rattle.turn_board.proofs.board.Board.split.Given as goal

abbrev pub ghosts-split_seat : goal.ghosts-split_seat
ghosts-split_seat g a = record { count = a._keep }
