use Rattle.board.proofs.board.Board.publish.Given as goal

abbrev pub ghosts-publish_as : goal.ghosts-publish_as
ghosts-publish_as a = record { sectors = a.sectors.now }
