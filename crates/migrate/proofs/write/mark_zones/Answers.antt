use Rattle.std.proofs.Common.{◌≡◌, ◌+◌, ◌-◌, ◌*◌, ◌/◌, ℕ, length, refl, ap, arith}
use Rattle.std.specs.Prelude.{◌&&◌, nat_le}
use Rattle.std.proofs.lemmas.Bool.{and_from, and_parts, le-leb, leb-true}
use Rattle.migrate.proofs.Marked.{none_marked, next_marked, all_marked}
use Rattle.migrate.proofs.write.mark_zones.Goals as goal

pub loop-k-init : goal.loop-k-init
loop-k-init c = none_marked _ _ _ c.args.image.now refl

pub set_bit-requires-clause-there : goal.set_bit-requires-clause-there
set_bit-requires-clause-there c =
    let h = c.args.geometry.now in
    let zone_map : 8 * h.block_size * h.zone_map_blocks ≡ 8 * 1024 * h.zone_map_blocks
    = ap (λ b. 8 * b * h.zone_map_blocks) c.requires.block in
    let bits = c.requires.sizes.zone_map in
    let first = c.requires.sizes.first in
    let some = c.requires.some in
    let most = c.requires.most in
    let size = c.loop-k.invariant.size in
    omega arith

pub loop-k-preserved : goal.loop-k-preserved
loop-k-preserved c =
    let h = c.args.geometry.now in
    let many : ℕ = length c.args.image.now / 1024 - h.first_zone in
    next_marked (2 + h.inode_map_blocks) many c.loop-k.k (λ k. nat_le 1 k && nat_le k many) c.args.image.now c.loop-k.image
    c.loop-k.invariant c.set_bit.new.image
    (and_from (nat_le 1 c.loop-k.k) (nat_le c.loop-k.k many) (le-leb 1 c.loop-k.k (omega arith)) (le-leb c.loop-k.k many (omega arith)))
    (omega arith) c.set_bit.ensures

pub returns : goal.returns
returns c =
    let h = c.args.geometry.now in
    let many : ℕ = length c.args.image.now / 1024 - h.first_zone in
    all_marked (2 + h.inode_map_blocks) many c.loop-k.k (λ k. nat_le 1 k && nat_le k many) c.args.image.now c.loop-k.image
    c.loop-k.invariant
    (λ k is. let most = leb-true k many (and_parts (nat_le 1 k) (nat_le k many) is).1 in omega arith)
