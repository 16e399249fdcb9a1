use Rattle.std.proofs.Common.{◌≡◌, ◌+◌, ◌-◌, ◌*◌, ◌/◌, true, false, sym, ap, ◌∙◌, arith}
use Rattle.std.proofs.lemmas.Bool.{and_from}
use Rattle.volume.specs.Nodes.{is_marked, is_directory_mode}
use Rattle.image.specs.Contents.{contents}
use Rattle.fsck.specs.declared.version.Version.TheVariants.{V2}
use Rattle.fsck.proofs.EntryBytes.{small}
use Rattle.migrate.specs.Used.{name_count, zones_for, zones_in}
use Rattle.migrate.proofs.UsedNodes.{none_used, directory_used, file_used}
use Rattle.migrate.proofs.used.zones_of_node.Goals as goal

pub returns-then-not-is_marked-clause-value : goal.returns-then-not-is_marked-clause-value
returns-then-not-is_marked-clause-value c =
    let i = c.args.old.now.image in
    sym (none_used i.geometry (contents i) c.args.old.now.sized c.args.n (sym c.is_marked.ensures ∙ c.if-not-is_marked.true))

pub name_count-requires : goal.name_count-requires
name_count-requires c =
    let i = c.args.old.now.image in
    let n = c.args.n in
    let mode : is_directory_mode ((contents i).inodes n).mode ≡ true
    = ap (λ x. is_directory_mode x.mode) (sym c.inode-inode.ensures) ∙ sym c.is_directory_mode.ensures ∙ c.if-is_directory_mode.true in
    let marked = sym c.is_marked.ensures ∙ c.if-not-is_marked.false in
    small V2 i n c.inode-inode.result c.inode-inode.ensures (and_from (is_marked i.geometry (contents i) n) _ marked mode)
    (c.requires.sizes n)

pub returns-then-is_directory_mode-clause-value : goal.returns-then-is_directory_mode-clause-value
returns-then-is_directory_mode-clause-value c =
    let i = c.args.old.now.image in
    let n = c.args.n in
    let read = c.inode-inode.ensures in
    let mode : is_directory_mode ((contents i).inodes n).mode ≡ true
    = ap (λ x. is_directory_mode x.mode) (sym read) ∙ sym c.is_directory_mode.ensures ∙ c.if-is_directory_mode.true in
    let marked = sym c.is_marked.ensures ∙ c.if-not-is_marked.false in
    let low = small V2 i n c.inode-inode.result read (and_from (is_marked i.geometry (contents i) n) _ marked mode) (c.requires.sizes n) in
    let size : ((contents i).inodes n).size ≡ c.inode-inode.result.size = ap (λ x. x.size) (sym read) in
    c.zones_for.ensures.value
    ∙ ap (λ k. zones_for ((64 * (k + 2) + 1024 - 1) / 1024)) (c.name_count.ensures.value ∙ ap (name_count i.geometry (contents i)) read)
    ∙ sym (directory_used i.geometry (contents i) c.args.old.now.sized n c.requires.sound marked mode (omega arith))

pub returns-else-is_directory_mode-clause-value : goal.returns-else-is_directory_mode-clause-value
returns-else-is_directory_mode-clause-value c =
    let i = c.args.old.now.image in
    let n = c.args.n in
    let read = c.inode-inode.ensures in
    let mode : is_directory_mode ((contents i).inodes n).mode ≡ false
    = ap (λ x. is_directory_mode x.mode) (sym read) ∙ sym c.is_directory_mode.ensures ∙ c.if-is_directory_mode.false in
    let marked = sym c.is_marked.ensures ∙ c.if-not-is_marked.false in
    c.zones_of_file.ensures.value ∙ ap (zones_in (contents i)) read
    ∙ sym (file_used i.geometry (contents i) c.args.old.now.sized n c.requires.sound marked mode)
