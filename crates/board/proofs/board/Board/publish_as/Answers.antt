use Rattle.std.proofs.Common.{rules}
use Rattle.board.proofs.Editions.{publishes}
use Rattle.board.proofs.board.Board.publish_as.Goals as goal

pub compare_exchange-found-requires : goal.compare_exchange-found-requires
compare_exchange-found-requires g c = (search rules, search rules, publishes _ _ c.args.number _ g.C.NewEdition.sectors c.requires.more)
