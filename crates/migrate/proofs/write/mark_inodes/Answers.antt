use Rattle.std.proofs.Common.{◌≡◌, sym, ap, ◌∙◌, arith}
use Rattle.volume.specs.Nodes.{is_marked}
use Rattle.volume.proofs.Ranges.{marked_low}
use Rattle.image.specs.Contents.{contents}
use Rattle.image.proofs.Contents.{zero_unmarked}
use Rattle.migrate.proofs.Marked.{none_marked, skip_marked, next_marked, all_marked}
use Rattle.migrate.proofs.write.mark_inodes.Goals as goal

pub loop-n-init : goal.loop-n-init
loop-n-init c =
    let i = c.args.old.now in
    none_marked 2 i.geometry.inodes (is_marked i.geometry (contents i)) c.args.image.now (zero_unmarked i 0 (omega arith))

pub set_bit-requires-clause-there : goal.set_bit-requires-clause-there
set_bit-requires-clause-there c =
    let size = c.loop-n.invariant.size in
    let room = c.requires in
    let same : c.geometry-n-end.result.inodes ≡ c.args.old.now.geometry.inodes = ap (λ g. g.inodes) c.geometry-n-end.ensures in
    omega arith

pub loop-n-preserved : goal.loop-n-preserved
loop-n-preserved c =
    let i = c.args.old.now in
    let same : c.geometry-n-end.result.inodes ≡ i.geometry.inodes = ap (λ g. g.inodes) c.geometry-n-end.ensures in
    next_marked 2 i.geometry.inodes c.loop-n.n (is_marked i.geometry (contents i)) c.args.image.now c.loop-n.image c.loop-n.invariant _
    (sym c.is_marked.ensures ∙ c.if-not-is_marked.false) (omega arith) c.set_bit.ensures

pub loop-n-preserved-then-not-is_marked : goal.loop-n-preserved-then-not-is_marked
loop-n-preserved-then-not-is_marked c =
    let i = c.args.old.now in
    skip_marked 2 i.geometry.inodes c.loop-n.n (is_marked i.geometry (contents i)) c.args.image.now c.loop-n.image c.loop-n.invariant
    (sym c.is_marked.ensures ∙ c.if-not-is_marked.true)

pub returns : goal.returns
returns c =
    let i = c.args.old.now in
    let same : c.geometry-n-end.result.inodes ≡ i.geometry.inodes = ap (λ g. g.inodes) c.geometry-n-end.ensures in
    all_marked 2 i.geometry.inodes c.loop-n.n (is_marked i.geometry (contents i)) c.args.image.now c.loop-n.image c.loop-n.invariant
    (λ k is. let range = (marked_low i.geometry (contents i) k is).1 in omega arith)
