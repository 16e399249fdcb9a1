use Rattle.std.proofs.Common.{◌≡◌, ◌*◌, ◌++◌, ℕ, length, replicate, ◌≤◌, arith, sym, ap, ◌∙◌}
use Rattle.layout.specs.Places.{table_blocks}
use Rattle.layout.specs.Superblock.{with_superblock}
use Rattle.tree.specs.Space.{data_zones}
use Rattle.inode.specs.Bytes.{bytes_of}
use Rattle.new_volume.specs.Image.{map_bytes, filled}
use Rattle.new_volume.specs.Owned.{owned_inode}
use Rattle.new_volume.proofs.Parts.{all_zeros, put_back, front_length}
use Rattle.new_volume.proofs.Widths.{large}
use Rattle.std.proofs.lemmas.List.{length-replicate}
use Rattle.new_volume.proofs.new_tables.Goals as goal

pub returns : goal.returns
returns c =
    let g = c.args.volume.now in
    let B = g.block_size in
    let zeros : c.resize.new.self.items ≡ replicate (2 * B) 0 = c.in_ok-resize.ensures.items ∙ all_zeros _ _ _ c.in_ok-image.ensures.items c.in_ok-image.ensures.len ∙ ap (λ n. replicate n 0) c.bytes_in.ensures.bytes in
    let head : c.write.new.image ≡ with_superblock g (replicate (2 * B) 0) = c.write.ensures ∙ ap (with_superblock g) (c.deref_mut.ensures.value ∙ zeros) in
    let long : length (replicate {A = ℕ} (2 * B) 0) ≡ 2 * B = length-replicate {A = ℕ} (2 * B) 0 in
    let enough : 1024 ≤ B = large B c.requires.block_size in
    let same : length c.write.new.image ≡ length c.resize.new.self.items
    = ap length head ∙ front_length g (replicate (2 * B) 0) (omega (arith, enough, long)) ∙ sym (ap length zeros) in
    let room : length c.resize.new.self.items ≤ c.resize.new.self.len = omega (arith, ap length c.deref_mut.ensures.value, c.deref_mut.ensures.len) in
    let inodes = c.in_ok-push_map.ensures
    ∙ ap (λ l. l ++ map_bytes g.inodes c.bytes_in-2.result) (put_back c.resize.new.self.len c.write.new.image c.resize.new.self.items same room ∙ head)
    ∙ ap (λ n. with_superblock g (replicate (2 * B) 0) ++ map_bytes g.inodes n) c.bytes_in-2.ensures.bytes in
    let zone = c.in_ok-push_map-2.ensures ∙ (λ i. inodes i ++ map_bytes (data_zones g) (c.bytes_in-3.ensures.bytes i)) in
    let root : c.encode.result ≡ bytes_of (owned_inode g c.args.now c.args.owner) = c.encode.ensures.bytes ∙ ap bytes_of c.root.ensures in
    let blocks : c.bytes_in-4.result ≡ table_blocks g * B = c.bytes_in-4.ensures.bytes ∙ ap (λ n. n * B) c.blocks_for-table.ensures in
    c.in_ok-push_filled.ensures ∙ (λ i. zone i ++ filled (root i) (blocks i))
