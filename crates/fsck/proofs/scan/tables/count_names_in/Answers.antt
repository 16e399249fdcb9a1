use Rattle.std.proofs.Common.{◌≡◌, ◌≤◌, ◌+◌, ◌-◌, ◌/◌, ℕ, sym, ap, ◌∙◌, arith}
use Rattle.std.specs.Prelude.{◌==◌}
use Rattle.std.proofs.lemmas.Bool.{cond-true, cond-false}
use Rattle.lemmas.specs.Sums.{count_below, one_if}
use Rattle.volume.specs.Nodes.{file_byte}
use Rattle.fsck.specs.Nodes.{entry_count_of, entry_inode}
use Rattle.volume.specs.Entries.{is_directory_inode}
use Rattle.fsck.specs.Entries.{entry_count, target_at}
use Rattle.fsck.specs.Findings.{names_in_of}
use Rattle.image.specs.Contents.{contents}
use Rattle.image.proofs.Contents.{is_geometry}
use Rattle.fsck.proofs.Counts.{named_none, named_more, named_same, sum_more, no_sum}
use Rattle.fsck.proofs.EntryBytes.{small}
use Rattle.fsck.proofs.scan.tables.count_names_in.Goals as goal
use Rattle.fsck.specs.Form.{form_of}

pub returns-then-not-is_directory-clause-more : goal.returns-then-not-is_directory-clause-more
returns-then-not-is_directory-clause-more c =
    let form = form_of c.args.version in
    let i = c.args.image.now in
    named_none c.args.n (names_in_of form i.geometry (contents i) c.args.n) c.args.named.now c.args.namer.now c.requires.most
    (λ m. cond-false (is_directory_inode i.geometry (contents i) c.args.n) _ 0 (sym c.is_directory.ensures ∙ c.if-not-is_directory.true))

pub loop-number-init : goal.loop-number-init
loop-number-init c = record {
  most = c.requires.most;
  near = omega arith;
  sizes = c.requires.sizes;
  more = named_none c.args.n _ c.args.named.now c.args.namer.now c.requires.most (λ m. no_sum _);
}

pub loop-number-preserved : goal.loop-number-preserved
loop-number-preserved c =
    let form = form_of c.args.version in
    let i = c.args.image.now in
    let n = c.args.n in
    let e = c.loop-number.number in
    let low : 2 ≤ e = omega arith in
    let target : ℕ → ℕ = target_at form i.geometry (contents i) n in
    let here : target (e - 2 + 2) ≡ c.target.result
    = ap target (let k : e - 2 + 2 ≡ e = omega arith in k) ∙ ap (λ x. entry_inode form (file_byte i.geometry (contents i) x) e)
    (sym c.inode-inode.ensures) ∙ sym c.target.ensures in
    let next : e + 1 - 2 ≡ e - 2 + 1 = omega arith in
    record {
      most = c.count_name.ensures.most;
      near = omega arith;
      sizes = c.count_name.ensures.more.namer_size ∙ c.loop-number.invariant.sizes ∙ sym c.count_name.ensures.more.named_size;
      more = named_more n (λ m. count_below (λ e. target (e + 2) == m) (e - 2)) (λ m. one_if (c.target.result == m))
          (λ m. count_below (λ e. target (e + 2) == m) (e + 1 - 2))
          c.args.named.now c.args.namer.now c.loop-number.named c.loop-number.namer c.count_name.new.named c.count_name.new.namer
          (λ m. ap (count_below (λ e. target (e + 2) == m)) next ∙ sum_more (λ e. one_if (target (e + 2) == m)) (e - 2)
          ∙ ap (λ t. count_below (λ e. target (e + 2) == m) (e - 2) + one_if (t == m)) here)
          c.loop-number.invariant.more c.count_name.ensures.more;
    }

pub returns-clause-more : goal.returns-clause-more
returns-clause-more c =
    let form = form_of c.args.version in
    let i = c.args.image.now in
    let n = c.args.n in
    let count : c.entry_count-number-end.result ≡ entry_count form (contents i) n
    = c.entry_count-number-end.ensures.value ∙ ap (entry_count_of form) c.inode-inode.ensures in
    let target : ℕ → ℕ = target_at form i.geometry (contents i) n in
    let near = c.loop-number.invariant.near in
    let all : entry_count form (contents i) n - 2 ≡ c.loop-number.number - 2 = omega arith in
    named_same n (λ m. count_below (λ e. target (e + 2) == m) (c.loop-number.number - 2)) (names_in_of form i.geometry (contents i) n)
    c.args.named.now c.args.namer.now c.loop-number.named c.loop-number.namer
    (λ m. cond-true (is_directory_inode i.geometry (contents i) n) _ 0 (sym c.is_directory.ensures ∙ c.if-not-is_directory.false)
    ∙ ap (count_below (λ e. target (e + 2) == m)) all)
    c.loop-number.invariant.more

pub count_name-requires-clause-inode : goal.count_name-requires-clause-inode
count_name-requires-clause-inode c =
    let few = (is_geometry c.args.image.now).inodes in let low = c.requires.inode in omega arith

pub target-requires-clause-small : goal.target-requires-clause-small
target-requires-clause-small c =
    small c.args.version c.args.image.now c.args.n c.inode-inode.result c.inode-inode.ensures
    (sym c.is_directory.ensures ∙ c.if-not-is_directory.false)
    (c.requires.good c.args.n)
