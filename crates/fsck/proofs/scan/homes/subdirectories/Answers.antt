use Rattle.std.proofs.Common.{◌≡◌, ◌≤◌, ◌+◌, ◌-◌, ◌/◌, sym, ap, ◌∙◌, arith}
use Rattle.lemmas.specs.Sums.{count_below, one_if}
use Rattle.volume.specs.Nodes.{file_byte}
use Rattle.fsck.specs.Nodes.{entry_count_of, entry_inode}
use Rattle.volume.specs.Entries.{is_directory_inode}
use Rattle.fsck.specs.Entries.{entry_count, target_at}
use Rattle.volume.proofs.Sums.{one_most}
use Rattle.image.specs.Contents.{contents}
use Rattle.fsck.proofs.Counts.{sum_more, no_sum}
use Rattle.fsck.proofs.EntryBytes.{small}
use Rattle.fsck.proofs.scan.homes.subdirectories.Goals as goal
use Rattle.fsck.specs.Form.{form_of}

pub loop-number-init : goal.loop-number-init
loop-number-init c =
    record { near = omega arith; most = omega arith; value = sym (no_sum _) }

pub loop-number-preserved : goal.loop-number-preserved
loop-number-preserved c =
    let form = form_of c.args.version in
    let i = c.args.image.now in
    let n = c.args.n in
    let e = c.loop-number.number in
    let low : 2 ≤ e = omega arith in
    let target = target_at form i.geometry (contents i) n in
    let here : c.target.result ≡ target (e - 2 + 2)
    = c.target.ensures ∙ ap (λ x. entry_inode form (file_byte i.geometry (contents i) x) e) c.inode-inode.ensures
    ∙ ap target (let k : e ≡ e - 2 + 2 = omega arith in k) in
    let one : c.one_when-count.result ≡ one_if (is_directory_inode i.geometry (contents i) (target (e - 2 + 2)))
    = c.one_when-count.ensures ∙ ap one_if (c.is_directory.ensures ∙ ap (is_directory_inode i.geometry (contents i)) here) in
    let few = one_most (is_directory_inode i.geometry (contents i) (target (e - 2 + 2))) in
    let before = c.loop-number.invariant in
    let next : e - 2 + 1 ≡ e + 1 - 2 = omega arith in
    record {
      near = omega arith;
      most = omega arith;
      value = (λ x. before.value x + one x) ∙ sym (sum_more (λ e. one_if
          (is_directory_inode i.geometry (contents i) (target (e + 2)))) (e - 2))
          ∙ ap (count_below (λ e. is_directory_inode i.geometry (contents i) (target (e + 2)))) next;
    }

pub returns-clause-value : goal.returns-clause-value
returns-clause-value c =
    let form = form_of c.args.version in
    let i = c.args.image.now in
    let n = c.args.n in
    let count : c.entry_count-number-end.result ≡ entry_count form (contents i) n
    = c.entry_count-number-end.ensures.value ∙ ap (entry_count_of form) c.inode-inode.ensures in
    let near = c.loop-number.invariant.near in
    let all : c.loop-number.number - 2 ≡ entry_count form (contents i) n - 2 = omega arith in
    c.loop-number.invariant.value ∙ ap (count_below (λ e. is_directory_inode i.geometry (contents i)
    (target_at form i.geometry (contents i) n (e + 2)))) all

pub target-requires-clause-small : goal.target-requires-clause-small
target-requires-clause-small c =
    small c.args.version c.args.image.now c.args.n c.inode-inode.result c.inode-inode.ensures c.requires.directory
    (c.requires.sizes c.args.n)
