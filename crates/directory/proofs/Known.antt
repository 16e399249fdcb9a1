-- An entry that is looked at again.
use Rattle.std.proofs.Common.{◌≡◌, ◌<◌, ◌≤◌, ◌+◌, ◌*◌, ℕ, Bool, true, false, List, length, Some, refl, sym, ap, subst, ◌∙◌, arith}
use Rattle.std.specs.Prelude.{◌==◌, ◌&&◌, IsTrue, nat_le, nat_lt, slice_index}
use Rattle.std.specs.Ordering.{eq_by_cmp}
use Rattle.std.proofs.lemmas.Bool.{and_from, and_parts, eqb-true, le-leb, le-ltb, leb-true, lt-leb, lt-ltb, ltb-true}
use Rattle.layout.specs.declared.Geometry.{Geometry}
use Rattle.block_store.specs.Rows.{HasBytes}
use Rattle.tree.specs.Names.{Name, name_cmp, is_name, inode_of}
use Rattle.volume.specs.declared.Inode.{Inode}
use Rattle.volume.specs.Entries.{entry_count}
use Rattle.volume.specs.Holds.{IsSoundDirectory}
use Rattle.volume.specs.Nodes.{directory_of, entry_count_of, entry_inode, entry_name, file_byte}
use Rattle.volume.specs.Pieces.{Pieces}
use Rattle.directory.specs.declared.entries.Placed.{Placed}
use Rattle.directory.specs.Directories.{row_of}
use Rattle.directory.specs.Finding.{stands_at}
use Rattle.directory.specs.Rows.{SameEntry, has_field}
use Rattle.directory.proofs.Directories.{directory_is_row}
use Rattle.directory.proofs.Names.{same_decides}
use Rattle.directory.proofs.Rows.{found_at, same_name_there, same_target}
use Rattle.directory.proofs.Text.{name_is_field, name_of_good}

not_both : (a b : Bool) → b ≡ false → (a && b) ≡ false
not_both true b e = e
not_both false b e = refl

-- it is looked at where it lies between the second entry and the last
module _ (g : Geometry) (v : Pieces) (i : Inode) (name : Name) (s : Placed) where
  abbrev is_it : Bool
  is_it = eq_by_cmp name_cmp name (entry_name (file_byte g v i) s.place) && (entry_inode (file_byte g v i) s.place == s.number)

  by : (b : Bool) → (nat_le 2 s.place && nat_lt s.place (entry_count_of i)) ≡ b → (b && is_it) ≡ stands_at g v i name s
  by b is = ap (λ (c : Bool). c && is_it) (sym is)

  pub stands_before : s.place < 2 → false ≡ stands_at g v i name s
  stands_before low = by false (ap (λ (c : Bool). c && nat_lt s.place (entry_count_of i)) (lt-leb 2 s.place low))

  pub stands_behind : entry_count_of i ≤ s.place → false ≡ stands_at g v i name s
  stands_behind high = by false (not_both (nat_le 2 s.place) (nat_lt s.place (entry_count_of i)) (le-ltb s.place (entry_count_of i) high))

  -- then its 64 bytes say whether it is the one
  pub stands_between : (bytes : List ℕ) → 2 ≤ s.place → s.place < entry_count_of i → length bytes ≡ 64
      → HasBytes (64 * s.place) bytes (file_byte g v i)
      → (eq_by_cmp name_cmp name (entry_name (slice_index bytes) 0) && (entry_inode (slice_index bytes) 0 == s.number))
      ≡ stands_at g v i name s
  stands_between bytes past low long has =
      let f = file_byte g v i in
      let there : SameEntry f (slice_index bytes) s.place 0 = λ o few.
      ap (slice_index bytes) (let e : 64 * 0 + o ≡ o = omega arith in e) ∙ has o (omega (arith, few, long)) in
      ap (λ (n : Name). eq_by_cmp name_cmp name n && (entry_inode (slice_index bytes) 0 == s.number))
      (same_name_there f (slice_index bytes) s.place 0 there)
      ∙ ap (λ (n : ℕ). eq_by_cmp name_cmp name (entry_name f s.place) && (n == s.number)) (same_target f (slice_index bytes) s.place 0 there)
      ∙ by true (and_from (nat_le 2 s.place) (nat_lt s.place (entry_count_of i)) (le-leb 2 s.place past) (lt-ltb s.place (entry_count_of i) low))

-- A directory in order has each name once, so what stands anywhere in it is what a look-up answers.
pub known_leads : (g : Geometry) (v : Pieces) (n : ℕ) (i : Inode) (name : Name) (s : Placed) → IsSoundDirectory g v n → i ≡ v.inodes n
    → stands_at g v i name s ≡ true → inode_of (directory_of g v i).names name ≡ Some s.number
known_leads g v n i name s sound loaded stands = subst (λ (j : Inode). inode_of (directory_of g v j).names name ≡ Some s.number) (sym loaded)
    (by (subst (λ (j : Inode). stands_at g v j name s ≡ true) loaded stands))
  where
    by : stands_at g v (v.inodes n) name s ≡ true → inode_of (directory_of g v (v.inodes n)).names name ≡ Some s.number
    by is =
        let f = row_of g v n in
        let k = entry_count v n in
        let parts = and_parts (nat_le 2 s.place && nat_lt s.place k)
        (eq_by_cmp name_cmp name (entry_name f s.place) && (entry_inode f s.place == s.number)) is in
        let lies = and_parts (nat_le 2 s.place) (nat_lt s.place k) parts.0 in
        let both = and_parts (eq_by_cmp name_cmp name (entry_name f s.place)) (entry_inode f s.place == s.number) parts.1 in
        let two = leb-true 2 s.place lies.0 in
        let few = ltb-true s.place k lies.1 in
        let same : name ≡ entry_name f s.place = (same_decides name (entry_name f s.place)).0 both.0 in
        let row = directory_is_row g v n sound in
        let good : is_name (entry_name f s.place) ≡ true = name_of_good f s.place (row.names s.place two few) in
        let field : IsTrue (has_field f s.place (entry_name f s.place)) = name_is_field f n k s.place row two few in
        ap (inode_of (directory_of g v (v.inodes n)).names) same
        ∙ found_at f n k s.place (entry_name f s.place) row good two few field
        ∙ ap Some (eqb-true (entry_inode f s.place) s.number both.1)
