use Rattle.std.proofs.Common.{◌≡◌, take, false}
use Rattle.std.specs.List.{list_any}
use Rattle.tree.specs.Tree.{opens}
use Rattle.descriptors.proofs.opened.OpenFiles.has_inode.Given as goal

abbrev pub invariant-loop-number : goal.invariant-loop-number
invariant-loop-number l = list_any (opens l.inode) (take l.number l.self) ≡ false
