use Rattle.std.proofs.Common.{◌≡◌, length}
use Rattle.ninep_fids.specs.Knowledge.{user_of}
use Rattle.ninep_fids.proofs.users.Users.find.Given as goal

abbrev pub invariant-loop-user : goal.invariant-loop-user
invariant-loop-user l = user_of l.left l.uid ≡ user_of l.fn.self.users.items l.uid

abbrev pub decreases-loop-user : goal.decreases-loop-user
decreases-loop-user l = length l.left
