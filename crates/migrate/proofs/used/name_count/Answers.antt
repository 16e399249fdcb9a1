use Rattle.std.proofs.Common.{◌≡◌, ◌+◌, ◌-◌, ◌/◌, ℕ, Bool, true, false, sym, ap, ◌∙◌, arith}
use Rattle.std.specs.Prelude.{not, ◌==◌, ◌&&◌, nat_le}
use Rattle.lemmas.specs.Sums.{count_below, one_if}
use Rattle.volume.specs.Nodes.{file_byte}
use Rattle.image.specs.Contents.{contents}
use Rattle.fsck.proofs.Counts.{sum_more, no_sum}
use Rattle.fsck.specs.Form.{version_2}
use Rattle.fsck.specs.Nodes.{is_dropped}
use Rattle.migrate.proofs.used.name_count.Goals as goal

pub loop-number-init : goal.loop-number-init
loop-number-init c =
    let i = c.args.old.now.image in
    record {
      counted = sym (no_sum (λ e. one_if (not (is_dropped version_2 (file_byte i.geometry (contents i) c.args.inode.now) (e + 2)))));
      few = omega arith;
      near = omega arith;
    }

pub loop-number-preserved-then-is_free : goal.loop-number-preserved-then-is_free
loop-number-preserved-then-is_free c =
    let i = c.args.old.now.image in
    let bytes : ℕ → ℕ = file_byte i.geometry (contents i) c.args.inode.now in
    let k : ℕ = c.loop-number.number - 2 in
    let next : c.loop-number.number + 1 - 2 ≡ k + 1 = omega arith in
    let back : k + 2 ≡ c.loop-number.number = omega arith in
    let here : is_dropped version_2 bytes (k + 2) ≡ true
    = ap (is_dropped version_2 bytes) back
    ∙ ap (λ (n : ℕ). nat_le 2 c.loop-number.number && (n == 0)) (sym c.entry-entry.ensures.number) ∙ sym c.is_free.ensures
    ∙ c.if-is_free.true in
    let p : ℕ → Bool = λ e. not (is_dropped version_2 bytes (e + 2)) in
    let more : count_below p (c.loop-number.number + 1 - 2) ≡ count_below p k + one_if (not true)
    = ap (count_below p) next ∙ sum_more (λ e. one_if (p e)) k ∙ ap (λ b. count_below p k + one_if (not b)) here in
    let before = c.loop-number.invariant.counted in
    let few = c.loop-number.invariant.few in
    record { counted = omega arith; few = omega arith; near = omega arith }

pub loop-number-preserved : goal.loop-number-preserved
loop-number-preserved c =
    let i = c.args.old.now.image in
    let bytes : ℕ → ℕ = file_byte i.geometry (contents i) c.args.inode.now in
    let k : ℕ = c.loop-number.number - 2 in
    let next : c.loop-number.number + 1 - 2 ≡ k + 1 = omega arith in
    let back : k + 2 ≡ c.loop-number.number = omega arith in
    let here : is_dropped version_2 bytes (k + 2) ≡ false
    = ap (is_dropped version_2 bytes) back
    ∙ ap (λ (n : ℕ). nat_le 2 c.loop-number.number && (n == 0)) (sym c.entry-entry.ensures.number) ∙ sym c.is_free.ensures
    ∙ c.if-is_free.false in
    let p : ℕ → Bool = λ e. not (is_dropped version_2 bytes (e + 2)) in
    let more : count_below p (c.loop-number.number + 1 - 2) ≡ count_below p k + one_if (not false)
    = ap (count_below p) next ∙ sum_more (λ e. one_if (p e)) k ∙ ap (λ b. count_below p k + one_if (not b)) here in
    let before = c.loop-number.invariant.counted in
    let few = c.loop-number.invariant.few in
    record { counted = omega arith; few = omega arith; near = omega arith }

pub returns-clause-value : goal.returns-clause-value
returns-clause-value c =
    let i = c.args.old.now.image in
    let near = c.loop-number.invariant.near in
    let all : c.loop-number.number - 2 ≡ c.args.inode.now.size / 16 - 2 = omega arith in
    c.loop-number.invariant.counted
    ∙ ap (count_below (λ e. not (is_dropped version_2 (file_byte i.geometry (contents i) c.args.inode.now) (e + 2)))) all
