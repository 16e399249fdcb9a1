use Rattle.std.proofs.Common.{arith}
use Rattle.image.proofs.Places.{inode_inside}
use Rattle.image.proofs.Image.inode_place.Goals as goal

pub overflow_mul-result : goal.overflow_mul-result
overflow_mul-result c =
    let i = c.args.self.now in
    let inside = inode_inside i.bytes.now i.geometry i.parsed c.args.n c.requires in
    omega arith

pub overflow_add-result : goal.overflow_add-result
overflow_add-result c =
    let i = c.args.self.now in
    let inside = inode_inside i.bytes.now i.geometry i.parsed c.args.n c.requires in
    omega arith

pub returns-clause-inside : goal.returns-clause-inside
returns-clause-inside c = let i = c.args.self.now in inode_inside i.bytes.now i.geometry i.parsed c.args.n c.requires
