use Rattle.std.proofs.Common.{◌≡◌, ◌/◌, ℕ, false, sym, ap, ◌∙◌, below_more, arith}
use Rattle.volume.proofs.Sums.{some_from, none_from}
use Rattle.image.specs.Contents.{contents}
use Rattle.fsck.proofs.Directories.{no_directory, of_directory}
use Rattle.fsck.specs.Form.{form_of}
use Rattle.fsck.specs.Nodes.{entry_count_of}
use Rattle.fsck.specs.Entries.{entry_count}
use Rattle.fsck.specs.Findings.{is_lost}
use Rattle.fsck.proofs.EntryBytes.{small, lost_same}
use Rattle.fsck.proofs.scan.dots.has_bad_target.Goals as goal

pub returns-then-not-is_directory : goal.returns-then-not-is_directory
returns-then-not-is_directory c =
    no_directory c.args.image.now c.args.n _ (sym c.is_directory.ensures ∙ c.if-not-is_directory.true)

pub entry-requires-clause-small : goal.entry-requires-clause-small
entry-requires-clause-small c =
    small c.args.version c.args.image.now c.args.n c.inode-inode.result c.inode-inode.ensures
    (sym c.is_directory.ensures ∙ c.if-not-is_directory.false)
    (c.requires c.args.n)

pub returns-then-is_lost : goal.returns-then-is_lost
returns-then-is_lost c =
    let form = form_of c.args.version in
    let i = c.args.image.now in
    let n = c.args.n in
    let e = c.loop-number.number in
    let count : c.entry_count-number-end.result ≡ entry_count form (contents i) n
    = c.entry_count-number-end.ensures.value ∙ ap (entry_count_of form) c.inode-inode.ensures in
    sym (some_from (is_lost form i.geometry (contents i) n) (entry_count form (contents i) n) e (omega arith)
    (sym (lost_same c.args.version i n e c.inode-inode.result c.inode-inode.ensures c.entry.result c.entry.ensures) ∙ sym c.is_lost.ensures
    ∙ c.if-is_lost.true))
    ∙ of_directory i n _ (sym c.is_directory.ensures ∙ c.if-not-is_directory.false)

pub returns : goal.returns
returns c =
    let form = form_of c.args.version in
    let i = c.args.image.now in
    let n = c.args.n in
    let count : c.entry_count-number-end.result ≡ entry_count form (contents i) n
    = c.entry_count-number-end.ensures.value ∙ ap (entry_count_of form) c.inode-inode.ensures in
    sym (none_from (is_lost form i.geometry (contents i) n) (entry_count form (contents i) n)
    (λ e h. c.loop-number.invariant e (omega arith)))
    ∙ of_directory i n _ (sym c.is_directory.ensures ∙ c.if-not-is_directory.false)

pub loop-number-preserved : goal.loop-number-preserved
loop-number-preserved c =
    let form = form_of c.args.version in
    let i = c.args.image.now in
    let n = c.args.n in
    let e = c.loop-number.number in
    let P : ℕ → Type 0 = λ e. is_lost form i.geometry (contents i) n e ≡ false in
    below_more P e c.loop-number.invariant
    (sym (lost_same c.args.version i n e c.inode-inode.result c.inode-inode.ensures c.entry.result c.entry.ensures) ∙ sym c.is_lost.ensures
    ∙ c.if-is_lost.false)
