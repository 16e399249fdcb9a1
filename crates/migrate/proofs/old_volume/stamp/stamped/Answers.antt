use Rattle.std.proofs.Common.{◌≡◌, ◌≤◌, ◌*◌, ◌++◌, take, length, refl, sym, ap, ◌∙◌, subst, arith}
use Rattle.std.proofs.lemmas.List.{length-take-le}
use Rattle.layout.specs.Superblock.{with_superblock}
use Rattle.migrate.specs.Stamped.{IsStamped}
use Rattle.migrate.proofs.SuperblockPut.{old_fits, is_stamped, put_back, put_length}
use Rattle.migrate.proofs.old_volume.stamp.stamped.Goals as goal

pub slice_bounds-extend_from_slice-end : goal.slice_bounds-extend_from_slice-end
slice_bounds-extend_from_slice-end c =
    let fits = old_fits c.args.image.now c.args.geometry.now c.requires in
    let room = fits.room in
    let flat = fits.flat in
    sym (length-take-le (c.args.geometry.now.zones * c.args.geometry.now.block_size) c.args.image.now (omega arith))

pub write-requires-clause-sizes : goal.write-requires-clause-sizes
write-requires-clause-sizes c = (old_fits c.args.image.now c.args.geometry.now c.requires).sizes

pub write-requires-clause-room : goal.write-requires-clause-room
write-requires-clause-room c =
    let g = c.args.geometry.now in
    let fits = old_fits c.args.image.now g c.requires in
    let sizes = fits.sizes in
    let first = sizes.first in
    let some = sizes.some_zone in
    let room = fits.room in
    let flat = fits.flat in
    let size = length-take-le (g.zones * g.block_size) c.args.image.now (omega arith) in
    let items : length c.extend_from_slice.new.self.items ≡ length (take (g.zones * g.block_size) c.args.image.now)
    = ap length (c.in_ok-extend_from_slice.ensures.items ∙ ap (λ l. l ++ take (g.zones * g.block_size) c.args.image.now)
    c.in_ok-blocks.ensures.items) in
    let value = ap length c.deref_mut.ensures.value in
    omega arith

pub returns : goal.returns
returns c =
    let g = c.args.geometry.now in
    let n = g.zones * g.block_size in
    let fits = old_fits c.args.image.now g c.requires in
    let sizes = fits.sizes in
    let first = sizes.first in
    let some = sizes.some_zone in
    let room = fits.room in
    let flat = fits.flat in
    let size = length-take-le n c.args.image.now (omega arith) in
    let items : c.extend_from_slice.new.self.items ≡ take n c.args.image.now
    = c.in_ok-extend_from_slice.ensures.items ∙ ap (λ l. l ++ take n c.args.image.now) c.in_ok-blocks.ensures.items in
    let written : c.write.new.image ≡ with_superblock g (take n c.args.image.now) = c.write.ensures
    ∙ ap (with_superblock g) (c.deref_mut.ensures.value ∙ items) in
    let same : length c.write.new.image ≡ length c.extend_from_slice.new.self.items
    = ap length written ∙ put_length g (take n c.args.image.now) (omega arith) ∙ sym (ap length items) in
    let long : length c.extend_from_slice.new.self.items ≤ c.extend_from_slice.new.self.len
    = omega (arith, ap length c.deref_mut.ensures.value, c.deref_mut.ensures.len) in
    let back = put_back c.extend_from_slice.new.self.len c.write.new.image c.extend_from_slice.new.self.items same long ∙ written in
    subst (IsStamped g c.args.image.now) (sym back) (is_stamped c.args.image.now g c.requires n refl)
