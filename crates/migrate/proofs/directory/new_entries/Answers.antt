use Rattle.std.proofs.Common.{◌≡◌, ℕ, true, false, sym, ap, subst, ◌∙◌, arith}
use Rattle.std.specs.Prelude.{◌==◌, ◌&&◌, nat_le}
use Rattle.volume.specs.Nodes.{file_byte}
use Rattle.image.specs.Contents.{contents}
use Rattle.fsck.specs.Form.{version_2}
use Rattle.fsck.specs.Nodes.{is_dropped, entry_count_of}
use Rattle.migrate.specs.Written.{AreEntries}
use Rattle.migrate.proofs.Listed.{none_listed, free_listed, next_listed}
use Rattle.migrate.proofs.directory.new_entries.Goals as goal

pub loop-number-init : goal.loop-number-init
loop-number-init c =
    let i = c.args.image.now in
    none_listed (file_byte i.geometry (contents i) c.args.inode.now) c.new-bytes.result.items c.new-bytes.ensures.items

pub loop-number-preserved-then-is_free : goal.loop-number-preserved-then-is_free
loop-number-preserved-then-is_free c =
    let i = c.args.image.now in
    let f : ℕ → ℕ = file_byte i.geometry (contents i) c.args.inode.now in
    let here : is_dropped version_2 f c.loop-number.number ≡ true
    = ap (λ (n : ℕ). nat_le 2 c.loop-number.number && (n == 0)) (sym c.entry-entry.ensures.number) ∙ sym c.is_free.ensures
    ∙ c.if-is_free.true in
    free_listed f c.loop-number.number c.loop-number.bytes.items c.loop-number.invariant here

pub loop-number-preserved : goal.loop-number-preserved
loop-number-preserved c =
    let i = c.args.image.now in
    let f : ℕ → ℕ = file_byte i.geometry (contents i) c.args.inode.now in
    let here : is_dropped version_2 f c.loop-number.number ≡ false
    = ap (λ (n : ℕ). nat_le 2 c.loop-number.number && (n == 0)) (sym c.entry-entry.ensures.number) ∙ sym c.is_free.ensures
    ∙ c.if-is_free.false in
    next_listed f c.loop-number.number c.loop-number.bytes.items c.loop-number.invariant c.entry-entry.result
    c.extend_from_slice.new.self.items here c.entry-entry.ensures c.in_ok-extend_from_slice.ensures.items

pub returns : goal.returns
returns c =
    let i = c.args.image.now in
    let all : c.loop-number.number ≡ entry_count_of version_2 c.args.inode.now = omega arith in
    subst (λ n. AreEntries (file_byte i.geometry (contents i) c.args.inode.now) n c.loop-number.bytes.items) all c.loop-number.invariant
