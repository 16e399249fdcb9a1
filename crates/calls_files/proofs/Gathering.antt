-- The names of a directory, entry by entry, and the numbers that they lead to.
use Rattle.std.proofs.Common.{◌≡◌, ◌<◌, ◌≤◌, ◌+◌, ◌-◌, ◌*◌, ℕ, sym, ap, subst, ◌∙◌, arith, true, Some, Ok, []}
use Rattle.std.specs.Prelude.{List, Result, OnOk, IsTrue, length, slice_index, nat_le, is_some}
use Rattle.std.proofs.lemmas.Bool.{and_parts, and_from, leb-true, cond-true}
use Rattle.layout.specs.declared.Geometry.{Geometry}
use Rattle.layout.specs.Places.{IsGeometry}
use Rattle.tree.specs.Names.{Name, Names, with_name, inode_of}
use Rattle.tree.specs.Tree.{Body, is_file, is_directory, names_of}
use Rattle.volume.specs.Reading.{Disk, is_inode}
use Rattle.volume.specs.declared.Inode.{Inode}
use Rattle.volume.specs.Pieces.{Pieces, pieces}
use Rattle.volume.specs.Nodes.{entry_inode, entry_name, names_in, entry_count_of, is_directory_mode, is_marked, directory_of, file_of, file_byte, node_of}
use Rattle.volume.specs.Entries.{is_directory_inode}
use Rattle.block_store.specs.Rows.{HasBytes}
use Rattle.directory.specs.Rows.{SameEntry}
use Rattle.directory.proofs.Rows.{same_target, same_name_there, next_name, found_at}
use Rattle.directory.proofs.Text.{name_is_field, name_of_good}
use Rattle.directory.proofs.Directories.{directory_is_row}
use Rattle.descriptors.specs.Files.{Files, HasFiles, file_at}
use Rattle.calls_attributes.specs.declared.found.Found.{Found}
use Rattle.calls_attributes.specs.Found.{file_of as open_file}
use Rattle.calls_attributes.specs.Does.{IsHeld}
use Rattle.calls_attributes.proofs.Made.{node_there}
use Rattle.calls_attributes.proofs.Looks.{open_is, node_open}
use Rattle.calls_files.specs.Numbers.{HasInodes}

-- an entry that was read
module _ (f : ℕ → ℕ) (k : ℕ) (bytes : List ℕ) (long : length bytes ≡ 64) (has : HasBytes (64 * k) bytes f) where
  same_entry : SameEntry f (slice_index bytes) k 0
  same_entry o low = ap (slice_index bytes) (let e : 64 * 0 + o ≡ o = omega arith in e) ∙ has o (omega (arith, low, long))

  pub its_number : entry_inode (slice_index bytes) 0 ≡ entry_inode f k
  its_number = same_target f (slice_index bytes) k 0 same_entry

  pub its_name : entry_name (slice_index bytes) 0 ≡ entry_name f k
  its_name = same_name_there f (slice_index bytes) k 0 same_entry

  -- its name with those before it
  pub entry_put : (name : Name) (number : ℕ) (old new : Names) → name ≡ entry_name (slice_index bytes) 0 → number ≡ entry_inode (slice_index bytes) 0 → new ≡ with_name old name number
      → new ≡ with_name old (entry_name f k) (entry_inode f k)
  entry_put name number old new named is put =
      put ∙ ap (λ (n : Name). with_name old n number) (named ∙ its_name) ∙ ap (with_name old (entry_name f k)) (is ∙ its_number)

-- what is said of a good result
pub said_ok : {X E : Type 0} (r : Result X E) (x : X) (P : Type 0) → r ≡ Ok x → OnOk r P → P
said_ok {X = X} {E = E} r x P is h = subst (λ (y : Result X E). OnOk y P) is h

-- the names with one more
pub one_more : (f : ℕ → ℕ) (k : ℕ) (old new : Names) → 2 ≤ k → old ≡ names_in f (k - 2) → new ≡ with_name old (entry_name f k) (entry_inode f k) → new ≡ names_in f (k + 1 - 2)
one_more f k old new two was is = is ∙ ap (λ (names : Names). with_name names (entry_name f k) (entry_inode f k)) was ∙ sym (next_name f k two)

-- no names before the first
pub none_yet : (f : ℕ → ℕ) (names : Names) → names ≡ [] → names ≡ names_in f (2 - 2)
unfolding names_in
none_yet f names is = is

-- ---- the numbers in a directory of a tree

module _ (g : Geometry) (d : Disk) (ok : IsGeometry g) (f : Files) (session fd : ℕ) (x : Found) (is : Some (open_file x) ≡ file_at f session fd)
    (loaded : x.inode ≡ (pieces g d).inodes x.number) (kind : is_directory_mode x.inode.mode ≡ true) where
  abbrev v : Pieces
  v = pieces g d

  pub numbers_small : IsHeld g (HasFiles f) d → HasInodes (file_byte g v x.inode) (entry_count_of x.inode)
  numbers_small held k two low =
      let t = held.tree in
      let o = open_file x in
      let y = open_is t f session fd o held.before (sym is) in
      let n = node_open g d t session fd y.0 o held.holds y.1 in
      let mode : is_directory_mode (v.inodes x.number).mode ≡ true = ap (λ (i : Inode). is_directory_mode i.mode) (sym loaded) ∙ kind in
      let marked : IsTrue (is_directory_inode g v x.number) = and_from (is_marked g v x.number) _ n.0 mode in
      let sound = held.holds.nodes.sound.directories x.number marked in
      let row = directory_is_row g v x.number sound in
      let low' : k < entry_count_of (v.inodes x.number) = subst (λ (i : Inode). k < entry_count_of i) loaded low in
      let r = file_byte g v (v.inodes x.number) in
      let name = entry_name r k in
      let names = (directory_of g v (v.inodes x.number)).names in
      let leads : inode_of names name ≡ Some (entry_inode r k) =
      found_at r x.number (entry_count_of (v.inodes x.number)) k name row (name_of_good r k (row.names k two low')) two low' (name_is_field r x.number (entry_count_of (v.inodes x.number)) k row two low') in
      let body : names_of (t.nodes x.number) ≡ names =
      ap names_of n.1 ∙ ap (λ (b : Body). names_of (Some (record (node_of g v (v.inodes x.number)) { body = b })))
      (cond-true (is_directory_mode (v.inodes x.number).mode) (is_directory (directory_of g v (v.inodes x.number))) (is_file (file_of g v (v.inodes x.number))) mode) in
      let there : IsTrue (is_some (t.nodes (entry_inode r k))) =
      held.holds.nodes.tree.nodes.targets x.number (entry_inode r k) name (ap (λ (ns : Names). inode_of ns name) body ∙ leads) in
      let at = node_there g d t (entry_inode r k) held.holds there in
      let number : is_inode g (entry_inode r k) ≡ true = (and_parts (is_inode g (entry_inode r k)) (v.inode_map (entry_inode r k)) at.0).0 in
      let below = leb-true (entry_inode r k) g.inodes (and_parts (nat_le 1 (entry_inode r k)) (nat_le (entry_inode r k) g.inodes) number).1 in
      let most = ok.inodes in
      let same : entry_inode (file_byte g v x.inode) k ≡ entry_inode r k = ap (λ (i : Inode). entry_inode (file_byte g v i) k) loaded in
      omega (arith, below, most, same)
