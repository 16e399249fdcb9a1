use Rattle.std.proofs.Common.{◌≡◌, ◌≤◌, ◌+◌, ◌-◌, ◌/◌, ℕ, refl, sym, ap, ◌∙◌, arith}
use Rattle.std.specs.Prelude.{◌==◌}
use Rattle.std.proofs.lemmas.Bool.{cond-true, cond-false}
use Rattle.lemmas.specs.Sums.{count_below, one_if}
use Rattle.volume.specs.Nodes.{file_byte}
use Rattle.volume.specs.Entries.{is_directory_inode}
use Rattle.fsck.specs.Form.{form_of}
use Rattle.fsck.specs.Nodes.{entry_count_of, entry_inode}
use Rattle.fsck.specs.Entries.{entry_count, target_at}
use Rattle.fsck.specs.Findings.{names_in_of}
use Rattle.image.specs.Contents.{contents}
use Rattle.fsck.proofs.Counts.{sum_more, no_sum}
use Rattle.fsck.proofs.EntryBytes.{small}
use Rattle.fsck.proofs.Walks.{goes_none, goes_more, goes_same}
use Rattle.fsck.proofs.scan.reached.mark_names.Goals as goal

pub mark-requires : goal.mark-requires
mark-requires c = omega (arith, c.loop-number.invariant.go.less, c.loop-number.invariant.capacity, c.requires.room)

pub returns-then-not-is_directory-clause-goes : goal.returns-then-not-is_directory-clause-goes
returns-then-not-is_directory-clause-goes c =
    let form = form_of c.args.version in
    let i = c.args.image.now in
    goes_none (names_in_of form i.geometry (contents i) c.args.n) c.args.seen.now c.args.waiting.now.items
    (λ k h some. let none : names_in_of form i.geometry (contents i) c.args.n k ≡ 0
    = cond-false (is_directory_inode i.geometry (contents i) c.args.n) _ 0 (sym c.is_directory.ensures
    ∙ c.if-not-is_directory.true) in absurd (omega arith))

pub loop-number-init : goal.loop-number-init
loop-number-init c = record {
  near = omega arith;
  go = goes_none _ c.args.seen.now c.args.waiting.now.items (λ k h some. let none
      = no_sum (λ e. one_if (target_at (form_of c.args.version) c.args.image.now.geometry (contents c.args.image.now) c.args.n
      (e + 2) == k)) in absurd (omega arith));
  capacity = refl;
}

pub loop-number-preserved : goal.loop-number-preserved
loop-number-preserved c =
    let form = form_of c.args.version in
    let i = c.args.image.now in
    let n = c.args.n in
    let e = c.loop-number.number in
    let low : 2 ≤ e = omega arith in
    let target : ℕ → ℕ = target_at form i.geometry (contents i) n in
    let here : target (e - 2 + 2) ≡ c.target.result
    = ap target (let k : e - 2 + 2 ≡ e = omega arith in k) ∙ ap (λ x. entry_inode form (file_byte i.geometry (contents i) x) e)
    (sym c.inode-inode.ensures) ∙ sym c.target.ensures in
    let next : e + 1 - 2 ≡ e - 2 + 1 = omega arith in
    record {
      near = omega arith;
      go = goes_more (λ m. count_below (λ e. target (e + 2) == m) (e - 2)) (λ m. one_if (c.target.result == m))
          (λ m. count_below (λ e. target (e + 2) == m) (e + 1 - 2))
          c.args.seen.now c.args.waiting.now.items c.loop-number.seen c.loop-number.waiting.items c.mark.new.seen c.mark.new.waiting.items
          (λ m. ap (count_below (λ e. target (e + 2) == m)) next ∙ sum_more (λ e. one_if (target (e + 2) == m)) (e - 2)
          ∙ ap (λ t. count_below (λ e. target (e + 2) == m) (e - 2) + one_if (t == m)) here)
          c.loop-number.invariant.go c.mark.ensures.goes;
      capacity = c.mark.ensures.capacity ∙ c.loop-number.invariant.capacity;
    }

pub returns-clause-goes : goal.returns-clause-goes
returns-clause-goes c =
    let form = form_of c.args.version in
    let i = c.args.image.now in
    let n = c.args.n in
    let count : c.entry_count-number-end.result ≡ entry_count form (contents i) n
    = c.entry_count-number-end.ensures.value ∙ ap (entry_count_of form) c.inode-inode.ensures in
    let target : ℕ → ℕ = target_at form i.geometry (contents i) n in
    let near = c.loop-number.invariant.near in
    let all : entry_count form (contents i) n - 2 ≡ c.loop-number.number - 2 = omega arith in
    goes_same (λ m. count_below (λ e. target (e + 2) == m) (c.loop-number.number - 2)) (names_in_of form i.geometry (contents i) n)
    c.args.seen.now c.args.waiting.now.items c.loop-number.seen c.loop-number.waiting.items
    (λ m. cond-true (is_directory_inode i.geometry (contents i) n) _ 0 (sym c.is_directory.ensures ∙ c.if-not-is_directory.false)
    ∙ ap (count_below (λ e. target (e + 2) == m)) all)
    c.loop-number.invariant.go

pub target-requires-clause-small : goal.target-requires-clause-small
target-requires-clause-small c =
    small c.args.version c.args.image.now c.args.n c.inode-inode.result c.inode-inode.ensures
    (sym c.is_directory.ensures ∙ c.if-not-is_directory.false) (c.requires.sizes c.args.n)
