use Rattle.std.proofs.Common.{◌≡◌, ◌+◌, ◌*◌, ℕ, true, false, sym, ap, subst, ◌∙◌, arith}
use Rattle.std.proofs.lemmas.Bool.{and_from}
use Rattle.std.specs.Prelude.{Result, IfOk}
use Rattle.lemmas.proofs.Bools.{false_not_true}
use Rattle.layout.specs.declared.Geometry.{Geometry}
use Rattle.volume.specs.Pieces.{Pieces}
use Rattle.tree.specs.Space.{zones_of}
use Rattle.volume.specs.Nodes.{is_marked, is_directory_mode}
use Rattle.image.specs.declared.Image.{Image}
use Rattle.volume.specs.declared.Inode.{Inode}
use Rattle.image.specs.Contents.{contents}
use Rattle.fsck.specs.Form.{version_2}
use Rattle.fsck.specs.Nodes.{nodes_of}
use Rattle.fsck.specs.declared.version.Version.TheVariants.{V2}
use Rattle.fsck.proofs.EntryBytes.{small, two_entries}
use Rattle.migrate.specs.Holds.{IsSound}
use Rattle.migrate.specs.Pages.{pages_for}
use Rattle.migrate.specs.Used.{SizesAreGood, name_count, zones_for, zones_in}
use Rattle.migrate.specs.Zones.{Takes}
use Rattle.migrate.proofs.UsedNodes.{directory_used, file_used}
use Rattle.migrate.proofs.Taken.{on_ok}
use Rattle.migrate.proofs.Taking.{if_ok}
use Rattle.migrate.specs.Written.{IsMovedNode}
use Rattle.migrate.proofs.moving.moved.Goals as goal

-- what is moved so, is so of what was read
moved_read : {E : Type 0} (g : Geometry) (v : Pieces) (d : ℕ → ℕ → ℕ) (e : ℕ) (x z : Inode) → x ≡ z → (r : Result Inode E)
    → IfOk r (IsMovedNode g v d e x) → IfOk r (IsMovedNode g v d e z)
moved_read g v d e x z is r h = subst (λ x. IfOk r (IsMovedNode g v d e x)) is h

module _ (i : Image) (block : i.geometry.block_size ≡ 1024) (n : ℕ) (x : Inode) (read : x ≡ (contents i).inodes n)
    (marked : is_marked i.geometry (contents i) n ≡ true) (sound : IsSound version_2 i.geometry (contents i)) where
  -- what a directory takes
  directory_takes : is_directory_mode x.mode ≡ true → SizesAreGood i
      → zones_of i.geometry (nodes_of version_2 i.geometry (contents i) n)
      ≡ zones_for (pages_for (64 * (name_count i.geometry (contents i) x + 2)))
  directory_takes mode sizes =
      let there : is_directory_mode ((contents i).inodes n).mode ≡ true = ap (λ x. is_directory_mode x.mode) (sym read) ∙ mode in
      let low = small V2 i n x read (and_from (is_marked i.geometry (contents i) n) _ marked there) (sizes n) in
      let size : ((contents i).inodes n).size ≡ x.size = ap (λ x. x.size) (sym read) in
      directory_used i.geometry (contents i) block n sound marked there (omega arith)
      ∙ ap (λ x. zones_for (pages_for (64 * (name_count i.geometry (contents i) x + 2)))) (sym read)

  -- what another node takes
  file_takes : is_directory_mode x.mode ≡ false
      → zones_of i.geometry (nodes_of version_2 i.geometry (contents i) n) ≡ zones_in (contents i) x
  file_takes mode =
      file_used i.geometry (contents i) block n sound marked (ap (λ x. is_directory_mode x.mode) (sym read) ∙ mode)
      ∙ ap (zones_in (contents i)) (sym read)

pub moved_directory-requires : goal.moved_directory-requires
moved_directory-requires c =
    let i = c.args.old.now.image in
    let n = c.args.n in
    let x = c.inode-inode.result in
    let read = c.inode-inode.ensures in
    let mode : is_directory_mode x.mode ≡ true = sym c.is_directory_mode.ensures ∙ c.if-is_directory_mode.true in
    let there : is_directory_mode ((contents i).inodes n).mode ≡ true = ap (λ x. is_directory_mode x.mode) (sym read) ∙ mode in
    let is = and_from (is_marked i.geometry (contents i) n) _ c.requires.marked there in
    let takes = directory_takes i c.args.old.now.sized n x read c.requires.marked c.requires.sound mode c.requires.sizes in
    let room = c.requires.room in
    record {
      small = small V2 i n x read is (c.requires.sizes n);
      two = let two = two_entries V2 i n x read is (c.requires.sizes n) 1 (omega arith) in omega arith;
      room = omega arith;
    }

pub returns-then-is_directory_mode-clause-takes : goal.returns-then-is_directory_mode-clause-takes
returns-then-is_directory_mode-clause-takes c =
    let i = c.args.old.now.image in
    let takes = directory_takes i c.args.old.now.sized c.args.n c.inode-inode.result c.inode-inode.ensures c.requires.marked
    c.requires.sound (sym c.is_directory_mode.ensures ∙ c.if-is_directory_mode.true) c.requires.sizes in
    on_ok c.moved_directory.result _ _ (subst (λ k. Takes k c.args.zones.now.limit c.moved_directory.new.zones.limit
    c.args.zones.now.image.items c.moved_directory.new.zones.image.items) (sym takes)) c.moved_directory.ensures.takes

pub returns-then-is_directory_mode-clause-node : goal.returns-then-is_directory_mode-clause-node
returns-then-is_directory_mode-clause-node c =
    let x = c.inode-inode.result in
    let mode : is_directory_mode x.mode ≡ true = sym c.is_directory_mode.ensures ∙ c.if-is_directory_mode.true in
    moved_read _ _ _ _ x _ c.inode-inode.ensures c.moved_directory.result (if_ok c.moved_directory.result _ _ (λ y m. record {
      directory = λ is. m;
      other = λ out. absurd (false_not_true (sym out ∙ mode));
    }) c.moved_directory.ensures.moved)

pub moved_file-requires : goal.moved_file-requires
moved_file-requires c =
    let takes = file_takes c.args.old.now.image c.args.old.now.sized c.args.n c.inode-inode.result c.inode-inode.ensures c.requires.marked
    c.requires.sound (sym c.is_directory_mode.ensures ∙ c.if-is_directory_mode.false) in
    let room = c.requires.room in
    omega arith

pub returns-else-is_directory_mode-clause-takes : goal.returns-else-is_directory_mode-clause-takes
returns-else-is_directory_mode-clause-takes c =
    let takes = file_takes c.args.old.now.image c.args.old.now.sized c.args.n c.inode-inode.result c.inode-inode.ensures c.requires.marked
    c.requires.sound (sym c.is_directory_mode.ensures ∙ c.if-is_directory_mode.false) in
    on_ok c.moved_file.result _ _ (subst (λ k. Takes k c.args.zones.now.limit c.moved_file.new.zones.limit
    c.args.zones.now.image.items c.moved_file.new.zones.image.items) (sym takes)) c.moved_file.ensures.takes

pub returns-else-is_directory_mode-clause-node : goal.returns-else-is_directory_mode-clause-node
returns-else-is_directory_mode-clause-node c =
    let x = c.inode-inode.result in
    let mode : is_directory_mode x.mode ≡ false = sym c.is_directory_mode.ensures ∙ c.if-is_directory_mode.false in
    moved_read _ _ _ _ x _ c.inode-inode.ensures c.moved_file.result (if_ok c.moved_file.result _ _ (λ y m. record {
      directory = λ is. absurd (false_not_true (sym mode ∙ is));
      other = λ out. m;
    }) c.moved_file.ensures.moved)
