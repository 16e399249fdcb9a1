use Rattle.std.proofs.Common.{◌≡◌, ◌+◌, ℕ, refl, ap, arith}
use Rattle.lemmas.specs.Sums.{sum_below}
use Rattle.image.specs.Contents.{contents}
use Rattle.image.proofs.Contents.{zero_unmarked}
use Rattle.migrate.proofs.UsedNodes.{none_used}
use Rattle.migrate.proofs.Taken.{next_fits}
use Rattle.migrate.proofs.NewInodes.{node_takes, no_inodes, next_inode, all_inodes}
use Rattle.migrate.proofs.write.moved_inodes.Goals as goal

pub loop-n-init : goal.loop-n-init
loop-n-init c =
    let i = c.args.old.now.image in
    no_inodes i _ c.args.zones.now.image.items _ c.in_ok-table.ensures.items
    (none_used i.geometry (contents i) c.args.old.now.sized 0 (zero_unmarked i 0 (omega arith)))

pub moved_inode-requires-clause-room : goal.moved_inode-requires-clause-room
moved_inode-requires-clause-room c =
    let i = c.args.old.now.image in
    let f : ℕ → ℕ = node_takes i in
    let same : c.geometry-inodes.result.inodes ≡ c.args.old.now.image.geometry.inodes = ap (λ g. g.inodes) c.geometry-inodes.ensures in
    next_fits f c.loop-n.n (i.geometry.inodes + 1) (sum_below f (i.geometry.inodes + 1)) (f c.loop-n.n) c.args.zones.now.limit
    c.loop-n.zones.limit c.args.zones.now.image.items c.loop-n.zones.image.items c.loop-n.invariant.takes (omega arith) (omega arith)
    c.requires.room refl

pub loop-n-preserved : goal.loop-n-preserved
loop-n-preserved c =
    let whole = c.args.zones.now.whole in
    next_inode c.args.old.now.image c.requires.sound c.requires.sizes c.args.old.now.sized c.loop-n.n _ _ _ _ _ _ c.loop-n.table.items
    c.in_ok-bytes.bytes _ (omega arith) whole c.in_ok-bytes.ensures.size c.loop-n.invariant c.in_ok-bytes.ensures.takes
    c.in_ok-bytes.ensures.inode c.in_ok-extend_from_slice.ensures.items

pub returns-clause-size : goal.returns-clause-size
returns-clause-size c =
    let same : c.geometry-inodes.result.inodes ≡ c.args.old.now.image.geometry.inodes = ap (λ g. g.inodes) c.geometry-inodes.ensures in
    let size = c.loop-n.invariant.size in
    omega arith

pub returns-clause-takes : goal.returns-clause-takes
returns-clause-takes c =
    let same : c.geometry-inodes.result.inodes ≡ c.args.old.now.image.geometry.inodes = ap (λ g. g.inodes) c.geometry-inodes.ensures in
    (all_inodes c.args.old.now.image c.loop-n.n _ _ _ _ _ (omega arith) c.loop-n.invariant).takes

pub returns-clause-inodes : goal.returns-clause-inodes
returns-clause-inodes c =
    let same : c.geometry-inodes.result.inodes ≡ c.args.old.now.image.geometry.inodes = ap (λ g. g.inodes) c.geometry-inodes.ensures in
    λ n some most. c.loop-n.invariant.inodes n some (omega arith)
