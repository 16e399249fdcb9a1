use Rattle.board.proofs.KeeperLaws.{used_but, is_the_one}
use Rattle.board.proofs.counting.keeper.Keeper.has_session.Goals as goal

pub returns-then-number-other : goal.returns-then-number-other
returns-then-number-other g c =
    rw c.in-Some.is (used_but c.args.number c.in-Some.other c.args.self.now.seat.view.used _
    (c.args.self.now.numbers c.args.number c.requires) c.if-number-other.true)

pub returns-else-number-other : goal.returns-else-number-other
returns-else-number-other g c =
    rw c.in-Some.is (is_the_one c.args.number c.in-Some.other c.args.self.now.seat.view.used c.if-number-other.false)
