use Rattle.std.proofs.Common.{◌≡◌, ◌<◌, ◌≤◌, ◌+◌, ◌/◌, ℕ, Bool, true, false, sym, ap, ◌∙◌, arith}
use Rattle.std.specs.Prelude.{not, ◌&&◌, ◌||◌, ◌==◌}
use Rattle.std.proofs.lemmas.Bool.{eq-eqb, ne_eqb, or_left, or_right, and_from}
use Rattle.tree.specs.Names.{dot, dot_dot}
use Rattle.tree.specs.Space.{pages_of}
use Rattle.volume.specs.Nodes.{page_zone, entry_inode, file_byte, is_marked}
use Rattle.volume.specs.Entries.{is_directory_inode, is_field, target_at, entry_count}
use Rattle.volume.proofs.Sums.{some_from, none_from}
use Rattle.image.specs.Contents.{contents}
use Rattle.fsck.proofs.Directories.{no_directory, of_directory}
use Rattle.fsck.proofs.scan.dots.has_hole.Goals as goal

pub returns-then-not-is_directory : goal.returns-then-not-is_directory
returns-then-not-is_directory c = no_directory c.args.image.now c.args.n _ (sym c.is_directory.ensures ∙ c.if-not-is_directory.true)

pub returns-then-page_zone-eq0 : goal.returns-then-page_zone-eq0
returns-then-page_zone-eq0 c =
    let i = c.args.image.now in
    let n = c.args.n in
    let pages : c.pages-page-end.result ≡ pages_of i.geometry ((contents i).inodes n).size = c.pages-page-end.ensures
    ∙ ap (λ x. pages_of i.geometry x.size) c.inode-inode.ensures in
    let hole : page_zone i.geometry (contents i) ((contents i).inodes n) c.loop-page.page ≡ 0
    = ap (λ x. page_zone i.geometry (contents i) x c.loop-page.page) (sym c.inode-inode.ensures) ∙ sym c.page_zone.ensures
    ∙ c.if-page_zone-eq0.true in
    sym (some_from (λ p. page_zone i.geometry (contents i) ((contents i).inodes n) p == 0)
    (pages_of i.geometry ((contents i).inodes n).size) c.loop-page.page (omega arith) (eq-eqb _ 0 hole))
    ∙ of_directory i n _ (sym c.is_directory.ensures ∙ c.if-not-is_directory.false)

pub returns : goal.returns
returns c =
    let i = c.args.image.now in
    let n = c.args.n in
    let pages : c.pages-page-end.result ≡ pages_of i.geometry ((contents i).inodes n).size = c.pages-page-end.ensures
    ∙ ap (λ x. pages_of i.geometry x.size) c.inode-inode.ensures in
    sym (none_from (λ p. page_zone i.geometry (contents i) ((contents i).inodes n) p == 0)
    (pages_of i.geometry ((contents i).inodes n).size)
    (λ p h. ne_eqb _ 0 (λ e. c.loop-page.invariant p (omega arith)
    (ap (λ x. page_zone i.geometry (contents i) x p) c.inode-inode.ensures ∙ e))))
    ∙ of_directory i n _ (sym c.is_directory.ensures ∙ c.if-not-is_directory.false)
