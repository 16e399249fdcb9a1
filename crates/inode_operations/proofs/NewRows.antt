-- The first page of a directory is written: it is in order, and has no names.
use Rattle.std.proofs.Common.{◌≡◌, ◌≢◌, ◌<◌, ◌≤◌, ◌+◌, ◌*◌, ◌-◌, ◌/◌, ℕ, true, false, List, length, refl, sym, ap, subst, ◌∙◌, arith}
use mathlib.Core.Logic.{inl, inr}
use Rattle.std.specs.Prelude.{◌&&◌, nat_le, nat_lt, IsTrue, Some, slice_index, []}
use Rattle.std.proofs.lemmas.Bool.{and_from, cases_eq, cases_lt, cond-false, cond-true, le-leb, le-ltb, lt-ltb}
use Rattle.lemmas.proofs.Numbers.{not_zero}
use Rattle.layout.specs.declared.Geometry.{Geometry}
use Rattle.layout.specs.Places.{IsGeometry, is_block_size}
use Rattle.tree.specs.declared.User.{User}
use Rattle.tree.specs.Names.{dot, dot_dot}
use Rattle.lemmas.specs.Sums.{put}
use Rattle.tree.specs.Tree.{File, directory_type}
use Rattle.tree.specs.Changes.{empty_directory, file_after_write, new_node}
use Rattle.tree.specs.Space.{pages_of}
use Rattle.lemmas.proofs.Maps.{put-same, put-other}
use Rattle.volume.specs.declared.Inode.{Inode}
use Rattle.volume.specs.Pieces.{Pieces, pieces}
use Rattle.volume.specs.Reading.{Disk}
use Rattle.volume.specs.Nodes.{is_directory_mode, nodes_of}
use Rattle.block_store.specs.Volume.{Alters}
use Rattle.zone.specs.ZoneSteps.{node_from}
use Rattle.zone.proofs.Keeps.{sound_but_is_sound}
use Rattle.directory.specs.Rows.{IsEntry}
use Rattle.directory.specs.Directories.{IsDirectoryOf, IsWhole, row_of}
use Rattle.directory.proofs.Directories.{new_directory}
use Rattle.directory.proofs.Pages.{each_size}
use Rattle.file.specs.PageChanges.{BecomesFile, file_at}
use Rattle.file.specs.Changing.{HasZonesFor, MayWriteAt, WritesAt, written_at}
use Rattle.directory.specs.First.{AreFirstEntries}
use Rattle.directory.proofs.Becoming.{body_is}
use Rattle.directory.proofs.EntryBytes.{past}
use Rattle.inode_operations.specs.Steps.{BecomesAt}
use Rattle.inode_operations.specs.NewNodes.{MayMakeDirectory, MakesDirectory, new_inode, with_new_inode}
use Rattle.inode_operations.proofs.Marking.{directory_kind, directory_mode, directory_permissions, directory_no_link, its_file, its_nodes, may_change, nothing, some}
use Rattle.inode_operations.proofs.FirstPages.{has_first_page}
use Rattle.inode_operations.proofs.Nodes.{put_twice}

-- 128 bytes are one page
first_page : (q b : ℕ) → IsTrue (is_block_size b) → q < (128 + b - 1) / b → q ≡ 0
first_page q b size = each_size (λ w. q < (128 + w - 1) / w → q ≡ 0) b size (λ l. omega (arith, l)) (λ l. omega (arith, l)) (λ l. omega (arith, l))

other_page : (q b : ℕ) → IsTrue (is_block_size b) → q ≢ 0 → 128 ≤ q * b
other_page q b size = each_size (λ w. q ≢ 0 → 128 ≤ q * w) b size (λ d. omega (arith, d)) (λ d. omega (arith, d)) (λ d. omega (arith, d))

some_width : (b : ℕ) → IsTrue (is_block_size b) → 0 < (0 + 1) * b
some_width b size = each_size (λ w. 0 < (0 + 1) * w) b size (omega arith) (omega arith) (omega arith)

-- the file with these bytes
abbrev begun : Geometry → List ℕ → File
begun g bytes = file_after_write g nothing 0 bytes

module _ (g : Geometry) (ok : IsGeometry g) (bytes : List ℕ) (many : length bytes ≡ 128) where
  first_held : (begun g bytes).held 0 ≡ true
  first_held = and_from (nat_lt (0 * g.block_size) (0 + length bytes)) (nat_lt 0 ((0 + 1) * g.block_size))
      (lt-ltb (0 * g.block_size) (0 + length bytes) (omega (arith, many))) (lt-ltb 0 ((0 + 1) * g.block_size) (some_width g.block_size ok.block_size))

  other_held : (q : ℕ) → q ≢ 0 → (begun g bytes).held q ≡ false
  other_held q d = let far = other_page q g.block_size ok.block_size d in
      ap (λ b. b && nat_lt 0 ((q + 1) * g.block_size)) (le-ltb (q * g.block_size) (0 + length bytes) (omega (arith, far, many)))

  held_is : (q : ℕ) → (begun g bytes).held q ≡ put nothing.held 0 true q
  held_is q = elim (cases_eq q 0) [
    | inl e ↦ ap (begun g bytes).held e ∙ first_held ∙ sym (ap (put nothing.held 0 true) e ∙ put-same nothing.held 0 true)
    | inr d ↦ other_held q d ∙ sym (put-other nothing.held 0 true q d)
  ]

  byte_is : (q : ℕ) → (begun g bytes).byte q ≡ slice_index bytes q
  byte_is q = elim (cases_lt q (0 + length bytes)) [
    | inl low ↦
        cond-true (nat_le 0 q && nat_lt q (0 + length bytes)) (slice_index bytes (q - 0)) 0
        (and_from (nat_le 0 q) (nat_lt q (0 + length bytes)) (le-leb 0 q (omega arith)) (lt-ltb q (0 + length bytes) low)) ∙ ap (slice_index bytes) (omega arith)
    | inr far ↦
        cond-false (nat_le 0 q && nat_lt q (0 + length bytes)) (slice_index bytes (q - 0)) 0
        (λ t. le-leb 0 q (omega arith) t && le-ltb q (0 + length bytes) far t) ∙ sym (past bytes q (omega (arith, far)))
  ]

  size_is : (begun g bytes).size ≡ 128
  size_is = cond-true (nat_lt 0 (0 + length bytes)) (0 + length bytes) 0 (lt-ltb 0 (0 + length bytes) (omega (arith, many))) ∙ omega (arith, many)

module _ (g : Geometry) (v : Pieces) (n parent now permissions : ℕ) (user : User) (bytes : List ℕ) (ok : IsGeometry g) (few : permissions ≤ 511)
    (may : MayMakeDirectory g v n parent) (first : AreFirstEntries bytes n parent) where
  abbrev i : Inode
  i = new_inode directory_type 2 user now permissions

  abbrev w : Pieces
  w = with_new_inode v n i

  empty : file_at g w n ≡ nothing
  empty = its_file g v n i ok may.make refl refl (directory_mode permissions few)

  written : written_at g w n 0 bytes ≡ begun g bytes
  written = ap (λ (f : File). file_after_write g f 0 bytes) empty

  room : HasZonesFor g w n (written_at g w n 0 bytes).held
  room = subst (λ (f : File). HasZonesFor g w n f.held) (sym written)
      (has_first_page g v n i ok may.make refl refl (directory_mode permissions few) (begun g bytes).held (held_is g ok bytes first.many)
      may.room)

  pub may_write : MayWriteAt g w n 0 bytes
  may_write = record { change = may_change g v n i ok may.make refl refl (directory_mode permissions few); room = room }

  module _ (x : Pieces) (b : BecomesFile g w x n (w.inodes n) (written_at g w n 0 bytes)) where
    file : file_at g x n ≡ begun g bytes
    file = b.file ∙ written

    row : row_of g x n ≡ slice_index bytes
    row = ap (λ (f : File). f.byte) file ∙ (λ t q. byte_is g ok bytes first.many q t)

    size : (x.inodes n).size ≡ 128
    size = ap (λ (f : File). f.size) file ∙ size_is g ok bytes first.many

    whole : IsWhole g x n
    whole p low =
        let pages : pages_of g (x.inodes n).size ≡ (128 + g.block_size - 1) / g.block_size = ap (pages_of g) size in
        let is = first_page p g.block_size ok.block_size (omega (arith, low, pages)) in
        not_zero _ (ap (λ (f : File). f.held p) file ∙ ap (begun g bytes).held is ∙ first_held g ok bytes first.many)

    directory : IsDirectoryOf g x n parent []
    directory = new_directory g x n parent (some g v n i ok may.make refl refl (directory_mode permissions few)) may.some size whole
        (subst (λ (f : ℕ → ℕ). IsEntry f 0 n dot) (sym row) first.dot_entry) (subst (λ (f : ℕ → ℕ). IsEntry f 1 parent dot_dot) (sym row) first.dot_dot_entry)

    its : w.inodes n ≡ i
    its = put-same v.inodes n i

    kind : is_directory_mode i.mode ≡ true
    kind = directory_kind permissions few

    node_is : node_from (w.inodes n) (written_at g w n 0 bytes) ≡ new_node now user permissions 2 (empty_directory parent)
    node_is = (λ t. node_from (its t) (written_at g w n 0 bytes)) ∙ (λ t. record {
      permissions = directory_permissions permissions few t;
      symbolic = directory_no_link permissions few t;
      uid = user.uid;
      gid = user.gid;
      links = 2;
      atime = now;
      mtime = now;
      ctime = now;
      body = body_is g x n parent [] i (written_at g w n 0 bytes) kind b.file directory t;
    })

    pub directory_made : BecomesAt g v x n (Some (new_node now user permissions 2 (empty_directory parent)))
    directory_made = record {
      sound = sound_but_is_sound g x n 0 b.rules (λ _. directory.sound);
      nodes = b.nodes ∙ (λ t. put (its_nodes g v n i ok may.make refl refl (directory_mode permissions few) t) n (Some (node_is t)))
          ∙ twice;
    }
      where
        twice : put (put (nodes_of g v) n (Some (node_from i nothing))) n (Some (new_node now user permissions 2 (empty_directory parent)))
            ≡ put (nodes_of g v) n (Some (new_node now user permissions 2 (empty_directory parent)))
        twice = put_twice (nodes_of g v) n (Some (node_from i nothing)) (Some (new_node now user permissions 2 (empty_directory parent)))

-- an inode is marked and its page written
module _ (g : Geometry) (ok : IsGeometry g) (n parent now permissions : ℕ) (user : User) (bytes : List ℕ) (few : permissions ≤ 511) (d e : Disk)
    (first : AreFirstEntries bytes n parent) (alters : Alters g (with_new_inode (pieces g d) n (new_inode directory_type 2 user now permissions)) d e) where
  pub may_begin : MayMakeDirectory g (pieces g d) n parent → MayWriteAt g (pieces g e) n 0 bytes
  may_begin may = subst (λ (z : Pieces). MayWriteAt g z n 0 bytes) (sym alters.pieces) (may_write g (pieces g d) n parent now permissions user bytes ok few may first)

  pub directory_makes : (f : Disk) → WritesAt g n 0 bytes e f → MakesDirectory g n parent user now permissions d f
  directory_makes f writes = record {
    head = λ b low. writes.head b low ∙ alters.head b low;
    becomes = λ may.
        let v = pieces g d in
        let w = with_new_inode v n (new_inode directory_type 2 user now permissions) in
        directory_made g v n parent now permissions user bytes ok few may first (pieces g f)
        (subst (λ (z : Pieces). BecomesFile g z (pieces g f) n (z.inodes n) (written_at g z n 0 bytes)) alters.pieces (writes.becomes (may_begin may)));
  }
