use Rattle.std.proofs.Common.{◌≡◌, ℕ, refl, ap, subst, arith}
use Rattle.std.proofs.lemmas.List.{length-replicate}
use Rattle.lemmas.specs.Sums.{sum_below}
use Rattle.volume.specs.Nodes.{slot}
use Rattle.image.specs.Contents.{contents}
use Rattle.image.specs.Entered.{level_of}
use Rattle.migrate.specs.Pages.{pages_in}
use Rattle.migrate.specs.Used.{zones_below, zones_in}
use Rattle.migrate.specs.Zones.{Takes, IsTaken}
use Rattle.migrate.proofs.Taken.{next_fits}
use Rattle.migrate.proofs.Taking.{copies_none, copies_next, ten_moved}
use Rattle.migrate.proofs.moving.moved_file.Goals as goal

pub loop-slot-init : goal.loop-slot-init
loop-slot-init c = copies_none (pages_in (contents c.args.old.now.image)) level_of (slot c.args.inode.now) 10 _ _ _
    (length-replicate {A = ℕ} 10 0)

pub copy-requires-clause-room : goal.copy-requires-clause-room
copy-requires-clause-room c =
    let v = contents c.args.old.now.image in
    let f : ℕ → ℕ = λ s. zones_below v (level_of s) (slot c.args.inode.now s) in
    next_fits f c.loop-slot.slot 10 (zones_in v c.args.inode.now) _ c.args.zones.now.limit c.loop-slot.zones.limit
    c.args.zones.now.image.items c.loop-slot.zones.image.items c.loop-slot.invariant.takes (omega arith) (omega arith) c.requires
    (ap (λ l. zones_below v l (slot c.args.inode.now c.loop-slot.slot)) c.level_of.ensures)

pub loop-slot-preserved : goal.loop-slot-preserved
loop-slot-preserved c =
    let s = pages_in (contents c.args.old.now.image) in
    let r : ℕ = c.loop-slot.slot in
    let whole = c.args.zones.now.whole in
    copies_next s level_of (slot c.args.inode.now) 10 r c.in_ok-numbers.field-0 _ _ _ c.loop-slot.numbers _ _ _ whole (omega arith)
    c.loop-slot.invariant
    (subst (λ l. IsTaken s l (slot c.args.inode.now r) c.in_ok-numbers.field-0 c.loop-slot.zones.limit c.copy.new.self.limit
    c.loop-slot.zones.image.items c.copy.new.self.image.items) c.level_of.ensures c.in_ok-numbers.ensures)

pub returns-clause-takes : goal.returns-clause-takes
returns-clause-takes c =
    let v = contents c.args.old.now.image in
    let f : ℕ → ℕ = λ s. zones_below v (level_of s) (slot c.args.inode.now s) in
    subst (λ k. Takes (sum_below f k) c.args.zones.now.limit c.loop-slot.zones.limit c.args.zones.now.image.items
    c.loop-slot.zones.image.items) (let e : c.loop-slot.slot ≡ 10 = omega arith in e) c.loop-slot.invariant.takes

pub returns-clause-moved : goal.returns-clause-moved
returns-clause-moved c =
    ten_moved (pages_in (contents c.args.old.now.image)) (slot c.args.inode.now) _ c.loop-slot.slot _ _ _ _ _ _ (omega arith)
    c.loop-slot.invariant
    (record { mode = refl; links = refl; uid = refl; gid = refl; atime = refl; mtime = refl; ctime = refl }) refl
