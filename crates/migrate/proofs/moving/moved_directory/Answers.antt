use Rattle.std.proofs.Common.{◌≡◌, ◌+◌, ◌*◌, ℕ, length, refl, ap, subst, ◌∙◌, arith}
use Rattle.std.proofs.lemmas.List.{length-replicate}
use Rattle.lemmas.specs.Sums.{sum_below}
use Rattle.image.specs.Contents.{contents}
use Rattle.image.specs.Entered.{level_of}
use Rattle.migrate.specs.Pages.{first_page, pages_for, pages_from, zones_under}
use Rattle.migrate.specs.Used.{name_count, zones_for}
use Rattle.migrate.specs.Zones.{Takes, IsTaken}
use Rattle.migrate.proofs.Laid.{all_laid}
use Rattle.migrate.proofs.Listed.{entries_size}
use Rattle.migrate.proofs.Taken.{next_fits}
use Rattle.migrate.proofs.Taking.{copies_none, copies_next, ten_moved}
use Rattle.migrate.proofs.moving.moved_directory.Goals as goal

pub overflow_cast-result : goal.overflow_cast-result
overflow_cast-result c =
    let many = entries_size c.args.old.now.image.geometry (contents c.args.old.now.image) c.args.inode.now
    c.in_ok-entries.entries.items c.requires.two c.in_ok-entries.ensures in
    let room = c.requires.room in
    let most = c.args.zones.now.few in
    let read = c.len.ensures in
    omega arith

pub lay-requires-clause-short : goal.lay-requires-clause-short
lay-requires-clause-short c =
    let many = entries_size c.args.old.now.image.geometry (contents c.args.old.now.image) c.args.inode.now
    c.in_ok-entries.entries.items c.requires.two c.in_ok-entries.ensures in
    let room = c.requires.room in
    let most = c.args.zones.now.few in
    let read : length c.deref.result.now ≡ length c.in_ok-entries.entries.items = ap length c.deref.ensures.value in
    omega arith

pub loop-slot-init : goal.loop-slot-init
loop-slot-init c = copies_none (pages_from c.in_ok-entries.entries.items) level_of first_page 10 _ _ _ (length-replicate {A = ℕ} 10 0)

pub lay-requires-clause-room : goal.lay-requires-clause-room
lay-requires-clause-room c =
    let v = contents c.args.old.now.image in
    let g = c.args.old.now.image.geometry in
    let count : ℕ = name_count g v c.args.inode.now + 2 in
    let pages : ℕ = pages_for (length c.in_ok-entries.entries.items) in
    let f : ℕ → ℕ = λ s. zones_under (pages_from c.in_ok-entries.entries.items) (level_of s) (first_page s) in
    let many : length c.in_ok-entries.entries.items ≡ 64 * count
    = entries_size g v c.args.inode.now c.in_ok-entries.entries.items c.requires.two c.in_ok-entries.ensures in
    let same : pages ≡ pages_for (64 * count) = ap pages_for many in
    let room = c.requires.room in
    let most = c.args.zones.now.few in
    let all = all_laid c.in_ok-entries.entries.items (omega arith) in
    let needed : zones_for pages ≡ zones_for (pages_for (64 * count)) = ap zones_for same in
    let here : zones_under (pages_from c.deref.result.now) c.level_of.result c.first_page.result ≡ f c.loop-slot.slot
    = (λ i. zones_under (pages_from (c.deref.ensures.value i)) (c.level_of.ensures i) (c.first_page.ensures i)) in
    next_fits f c.loop-slot.slot 10 (zones_for (pages_for (64 * count))) _ c.args.zones.now.limit c.loop-slot.zones.limit
    c.args.zones.now.image.items c.loop-slot.zones.image.items c.loop-slot.invariant.takes (omega arith) (omega arith) room here

pub loop-slot-preserved : goal.loop-slot-preserved
loop-slot-preserved c =
    let s = pages_from c.in_ok-entries.entries.items in
    let r : ℕ = c.loop-slot.slot in
    let whole = c.args.zones.now.whole in
    copies_next s level_of first_page 10 r c.in_ok-numbers.field-0 _ _ _ c.loop-slot.numbers _ _ _ whole (omega arith) c.loop-slot.invariant
    (subst (λ l. IsTaken s l (first_page r) c.in_ok-numbers.field-0 c.loop-slot.zones.limit c.lay.new.self.limit
    c.loop-slot.zones.image.items c.lay.new.self.image.items) c.level_of.ensures
    (subst (λ p. IsTaken s c.level_of.result p c.in_ok-numbers.field-0 c.loop-slot.zones.limit c.lay.new.self.limit
    c.loop-slot.zones.image.items c.lay.new.self.image.items) c.first_page.ensures
    (subst (λ bytes. IsTaken (pages_from bytes) c.level_of.result c.first_page.result c.in_ok-numbers.field-0 c.loop-slot.zones.limit
    c.lay.new.self.limit c.loop-slot.zones.image.items c.lay.new.self.image.items) c.deref.ensures.value c.in_ok-numbers.ensures)))

pub returns-clause-takes : goal.returns-clause-takes
returns-clause-takes c =
    let v = contents c.args.old.now.image in
    let g = c.args.old.now.image.geometry in
    let count : ℕ = name_count g v c.args.inode.now + 2 in
    let pages : ℕ = pages_for (length c.in_ok-entries.entries.items) in
    let f : ℕ → ℕ = λ s. zones_under (pages_from c.in_ok-entries.entries.items) (level_of s) (first_page s) in
    let many : length c.in_ok-entries.entries.items ≡ 64 * count
    = entries_size g v c.args.inode.now c.in_ok-entries.entries.items c.requires.two c.in_ok-entries.ensures in
    let room = c.requires.room in
    let most = c.args.zones.now.few in
    let all = all_laid c.in_ok-entries.entries.items (omega arith) in
    let done : sum_below f c.loop-slot.slot ≡ zones_for (pages_for (64 * count))
    = ap (sum_below f) (let e : c.loop-slot.slot ≡ 10 = omega arith in e) ∙ all ∙ ap (λ b. zones_for (pages_for b)) many in
    subst (λ k. Takes k c.args.zones.now.limit c.loop-slot.zones.limit c.args.zones.now.image.items c.loop-slot.zones.image.items) done
    c.loop-slot.invariant.takes

pub returns-clause-moved : goal.returns-clause-moved
returns-clause-moved c =
    let read = c.len.ensures in
    let size : c.len.result ≡ length c.in_ok-entries.entries.items = omega arith in
    record {
      bytes = c.in_ok-entries.entries.items;
      entries = c.in_ok-entries.ensures;
      moved = ten_moved (pages_from c.in_ok-entries.entries.items) first_page (length c.in_ok-entries.entries.items)
          c.loop-slot.slot _ _ _ _ c.args.inode.now _ (omega arith) c.loop-slot.invariant
          (record { mode = refl; links = refl; uid = refl; gid = refl; atime = refl; mtime = refl; ctime = refl }) size;
    }
