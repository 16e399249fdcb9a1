use Rattle.std.proofs.Common.{◌≡◌, sym, ap, ◌∙◌, cond, arith}
use Rattle.std.specs.Prelude.{not, ◌==◌}
use Rattle.lemmas.specs.Sums.{one_if}
use Rattle.volume.specs.Nodes.{file_byte}
use Rattle.fsck.specs.Nodes.{entry_inode}
use Rattle.fsck.specs.Findings.{all_names_of}
use Rattle.image.specs.Contents.{contents}
use Rattle.volume.proofs.Sums.{one_most}
use Rattle.fsck.proofs.Directories.{no_directory, directory_low}
use Rattle.fsck.proofs.EntryBytes.{two_entries, small}
use Rattle.fsck.proofs.Standing.{unreached, not_once, by_home}
use Rattle.fsck.proofs.scan.homes.is_misplaced.Goals as goal
use Rattle.fsck.specs.Form.{form_of}

pub returns-then-not-is_directory : goal.returns-then-not-is_directory
returns-then-not-is_directory c =
    no_directory c.args.image.now c.args.n _ (sym c.is_directory.ensures ∙ c.if-not-is_directory.true)

pub bounds-seen-place : goal.bounds-seen-place
bounds-seen-place c =
    let low = directory_low c.args.image.now c.args.n (sym c.is_directory.ensures ∙ c.if-not-is_directory.false) in
    let size = c.requires.seen_size in omega arith

pub returns-then-not-seen-place : goal.returns-then-not-seen-place
returns-then-not-seen-place c =
    let form = form_of c.args.version in
    let i = c.args.image.now in
    let is = sym c.is_directory.ensures ∙ c.if-not-is_directory.false in
    let low = directory_low i c.args.n is in
    unreached form i c.args.named.now c.args.namer.now c.requires.named c.args.n low is
    (sym (c.requires.seen c.args.n low) ∙ c.if-not-seen-place.true)

pub bounds-named-place : goal.bounds-named-place
bounds-named-place c =
    let low = directory_low c.args.image.now c.args.n (sym c.is_directory.ensures ∙ c.if-not-is_directory.false) in
    let size = c.requires.named.named_size in omega arith

pub bounds-namer-place : goal.bounds-namer-place
bounds-namer-place c =
    let low = directory_low c.args.image.now c.args.n (sym c.is_directory.ensures ∙ c.if-not-is_directory.false) in
    let size = c.requires.named.namer_size in omega arith

pub target-requires-clause-there : goal.target-requires-clause-there
target-requires-clause-there c =
    two_entries c.args.version c.args.image.now c.args.n c.inode-inode.result c.inode-inode.ensures
    (sym c.is_directory.ensures ∙ c.if-not-is_directory.false) (c.requires.sizes c.args.n) 1 (omega arith)

pub target-requires-clause-small : goal.target-requires-clause-small
target-requires-clause-small c =
    small c.args.version c.args.image.now c.args.n c.inode-inode.result c.inode-inode.ensures
    (sym c.is_directory.ensures ∙ c.if-not-is_directory.false)
    (c.requires.sizes c.args.n)

pub returns : goal.returns
returns c =
    let form = form_of c.args.version in
    let i = c.args.image.now in
    let n = c.args.n in
    let is = sym c.is_directory.ensures ∙ c.if-not-is_directory.false in
    let low = directory_low i n is in
    let counted = c.requires.named.counted n low in
    let most = one_most (not (n == 1)) in
    let read = c.from.ensures in
    let wanted = c.names_wanted.ensures in
    let same = c.if-from-names_wanted.false in
    let once : all_names_of form i.geometry (contents i) n ≡ one_if (not (n == 1)) = omega arith in
    ap not (c.is_home.ensures ∙ ap (λ p. cond (n == 1) (c.target.result == 1) (c.target.result == p)) c.from-2.ensures)
    ∙ by_home form i c.args.named.now c.args.namer.now c.requires.named n low is (sym (c.requires.seen n low)
    ∙ c.if-not-seen-place.false) once
    c.target.result
    (c.target.ensures ∙ ap (λ x. entry_inode form (file_byte i.geometry (contents i) x) 1) c.inode-inode.ensures)

pub returns-then-from-names_wanted : goal.returns-then-from-names_wanted
returns-then-from-names_wanted c =
    let form = form_of c.args.version in
    let i = c.args.image.now in
    let n = c.args.n in
    let is = sym c.is_directory.ensures ∙ c.if-not-is_directory.false in
    let low = directory_low i n is in
    let counted = c.requires.named.counted n low in
    let most = one_most (not (n == 1)) in
    let read = c.from.ensures in
    let wanted = c.names_wanted.ensures in
    not_once form i c.args.named.now c.args.namer.now c.requires.named n low is (λ e. c.if-from-names_wanted.true (omega arith))
