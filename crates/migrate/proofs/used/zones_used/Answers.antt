use Rattle.std.proofs.Common.{◌≡◌, ◌+◌, ℕ, sym, ap, ◌∙◌, arith}
use Rattle.lemmas.specs.Sums.{sum_below}
use Rattle.tree.specs.Space.{zones_of}
use Rattle.image.specs.Contents.{contents}
use Rattle.fsck.proofs.Counts.{sum_more, no_sum}
use Rattle.fsck.specs.Form.{version_2}
use Rattle.fsck.specs.Nodes.{nodes_of}
use Rattle.migrate.proofs.used.zones_used.Goals as goal

pub loop-n-init : goal.loop-n-init
loop-n-init c =
    let i = c.args.old.now.image in
    record { counted = sym (no_sum (λ n. zones_of i.geometry (nodes_of version_2 i.geometry (contents i) n))); few = omega arith }

pub loop-n-preserved : goal.loop-n-preserved
loop-n-preserved c =
    let i = c.args.old.now.image in
    let f : ℕ → ℕ = λ n. zones_of i.geometry (nodes_of version_2 i.geometry (contents i) n) in
    let more = sum_more f c.loop-n.n in
    let before = c.loop-n.invariant.counted in
    let few = c.loop-n.invariant.few in
    let most = c.zones_of_node-used.ensures.few in
    let here : c.zones_of_node-used.result ≡ f c.loop-n.n = c.zones_of_node-used.ensures.value in
    record { counted = omega arith; few = omega arith }

pub overflow_add-used : goal.overflow_add-used
overflow_add-used c =
    let few = c.loop-n.invariant.few in
    let most = c.zones_of_node-used.ensures.few in
    let low = c.loop-n.auto.n-end in
    omega arith

pub returns : goal.returns
returns c =
    let i = c.args.old.now.image in
    let same : c.geometry-n-end.result.inodes ≡ i.geometry.inodes = ap (λ g. g.inodes) c.geometry-n-end.ensures in
    let all : c.loop-n.n ≡ i.geometry.inodes + 1 = omega arith in
    c.loop-n.invariant.counted ∙ ap (sum_below (λ n. zones_of i.geometry (nodes_of version_2 i.geometry (contents i) n))) all
