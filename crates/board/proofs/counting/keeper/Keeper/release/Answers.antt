use Rattle.std.proofs.Common.{sym, ap, ◌∙◌, Option, ℕ}
use Rattle.board.specs.View.{View, is_used, without}
use Rattle.board.proofs.KeeperLaws.{freed}
use Rattle.board.proofs.counting.keeper.Keeper.release.Goals as goal

pub invariant_of-self-clause-numbers : goal.invariant_of-self-clause-numbers
invariant_of-self-clause-numbers g c = λ n lt.
    freed c.args.self.now.used c.args.self.now.seat.view.used c.args.number c.args.self.now.numbers n lt
    ∙ sym (ap (λ (v : View). is_used n v.used) c.spend.ensures.seen ∙ ap (λ (o : Option ℕ). is_used n (without o c.args.self.now.seat.view.used)) c.requires.1)
