-- A name more and a name less of a directory, and room for an entry.
use Rattle.std.proofs.Common.{◌≡◌, ◌<◌, ◌≤◌, ◌+◌, ◌-◌, ◌*◌, ◌/◌, ℕ, Bool, true, false, List, length, Some, None, refl, sym, ap, subst, ◌∙◌, arith, replicate}
use mathlib.Core.Logic.{inl, inr}
use Rattle.std.specs.Prelude.{IsTrue, Option, ◌||◌, ◌&&◌, ◌==◌, not, nat_lt}
use Rattle.std.proofs.lemmas.Bool.{and_parts, cases_eq, cases_lt, cond-true, eq-eqb, ne_eqb, lt-ltb, le-ltb, not_from_false}
use Rattle.layout.specs.declared.Geometry.{Geometry}
use Rattle.layout.specs.Places.{IsGeometry, is_block_size}
use Rattle.lemmas.specs.Sums.{put}
use Rattle.tree.specs.Names.{Name, Names, inode_of, with_name}
use Rattle.tree.specs.Tree.{Body, Node, is_dir, is_directory, is_file, names_of, size_of}
use Rattle.tree.specs.Changes.{with_names}
use Rattle.tree.specs.Space.{data_zones, held_of, pages_of}
use Rattle.tree.proofs.Totals.{weigh_one}
use Rattle.tree.proofs.Weights.{weigh_with_name}
use Rattle.volume.specs.Reading.{Disk}
use Rattle.volume.specs.Pieces.{Pieces, pieces}
use Rattle.volume.specs.Nodes.{directory_of, file_of, is_directory_mode, is_marked, nodes_of, page_zone}
use Rattle.zone.specs.Room.{taken_by}
use Rattle.directory.specs.Directories.{before}
use Rattle.file.specs.PageChanges.{MayChange}
use Rattle.file.specs.Changing.{HasZonesFor, written_at}
use Rattle.file.proofs.Spaces.{room_is_space}
use Rattle.directory.proofs.Pages.{each_size}
use Rattle.directory.specs.Names.{IsOfDirectory}
use Rattle.directory.proofs.Becoming.{in_order, may_change}
use Rattle.inode_operations.specs.Steps.{node_at}
use Rattle.inode_operations.specs.Stands.{Stands}
use Rattle.inode_operations.specs.Naming.{named, IsRoomForEntry, NameIsThere, NameMayBePut, RoomIsForName}
use Rattle.inode_operations.proofs.Between.{node_stands, directory_stands}

-- 64 bytes more at the end of the pages
more_pages : (b s q : ℕ) → IsTrue (is_block_size b) → nat_lt q ((s + 64 + b - 1) / b) ≡ (nat_lt q ((s + b - 1) / b) || (nat_lt (q * b) (s + 64) && nat_lt s ((q + 1) * b)))
more_pages b s q size = elim (cases_lt q ((s + b - 1) / b)) [
  | inl low ↦
      let more = each_size (λ w. q < (s + w - 1) / w → q < (s + 64 + w - 1) / w) b size (λ l. omega (arith, l)) (λ l. omega (arith, l)) (λ l. omega (arith, l)) low in
      lt-ltb q _ more ∙ sym (ap (λ x. x || (nat_lt (q * b) (s + 64) && nat_lt s ((q + 1) * b))) (lt-ltb q _ low))
  | inr far ↦
      let past = each_size (λ w. (s + w - 1) / w ≤ q → s < (q + 1) * w) b size (λ l. omega (arith, l)) (λ l. omega (arith, l)) (λ l. omega (arith, l)) far in
      begun ∙ one (nat_lt (q * b) (s + 64)) (nat_lt s ((q + 1) * b)) (lt-ltb s _ past)
      ∙ sym (ap (λ x. x || (nat_lt (q * b) (s + 64) && nat_lt s ((q + 1) * b))) (le-ltb q _ far))
]
  where
    one : (x y : Bool) → y ≡ true → x ≡ (x && y)
    one true y e = sym e
    one false y e = refl

    begun : nat_lt q ((s + 64 + b - 1) / b) ≡ nat_lt (q * b) (s + 64)
    begun = elim (cases_lt (q * b) (s + 64)) [
      | inl l ↦ lt-ltb q _ (each_size (λ w. q * w < s + 64 → q < (s + 64 + w - 1) / w) b size (λ h. omega (arith, h)) (λ h. omega (arith, h)) (λ h. omega (arith, h)) l) ∙ sym (lt-ltb _ _ l)
      | inr m ↦ le-ltb q _ (each_size (λ w. s + 64 ≤ q * w → (s + 64 + w - 1) / w ≤ q) b size (λ h. omega (arith, h)) (λ h. omega (arith, h)) (λ h. omega (arith, h)) m) ∙ sym (le-ltb _ _ m)
    ]

module _ (g : Geometry) (v : Pieces) (n : ℕ) (of : IsOfDirectory g v n) where
  mode : is_directory_mode (v.inodes n).mode ≡ true
  mode = (and_parts (is_marked g v n) (is_directory_mode (v.inodes n).mode) of.directory).1

  marked : is_marked g v n ≡ true
  marked = (and_parts (is_marked g v n) (is_directory_mode (v.inodes n).mode) of.directory).0

  pub body_is : (node_at g v n).body ≡ is_directory (before g v n)
  body_is = cond-true (is_directory_mode (v.inodes n).mode) (is_directory (directory_of g v (v.inodes n))) (is_file (file_of g v (v.inodes n))) mode

  pub names_are : names_of (Some (node_at g v n)) ≡ (before g v n).names
  names_are = ap (λ (b : Body). names_of (Some (record (node_at g v n) { body = b }))) body_is

  -- the pages that are held are those that its size covers
  covered : (q : ℕ) → not (page_zone g v (v.inodes n) q == 0) ≡ nat_lt q (pages_of g (v.inodes n).size)
  covered q = elim (cases_lt q (pages_of g (v.inodes n).size)) [
    | inl low ↦ not_from_false _ (ne_eqb _ 0 ((in_order g v n of).whole q low)) ∙ sym (lt-ltb q _ low)
    | inr past ↦ elim (cases_eq (page_zone g v (v.inodes n) q) 0) [
      | inl e ↦ ap not (eq-eqb _ 0 e) ∙ sym (le-ltb q _ past)
      | inr some ↦ let low = (of.sound.inodes n marked).inside q some in absurd (omega (arith, low, past))
    ]
  ]

  module _ (size : (v.inodes n).size ≡ size_of (node_at g v n).body) (name : Name) (number now : ℕ) (free : inode_of (before g v n).names name ≡ None) where
    longer : length (with_name (before g v n).names name number) ≡ length (before g v n).names + 1
    longer =
        let more = weigh_with_name (λ _. 1) name number (before g v n).names free in
        let a = weigh_one (with_name (before g v n).names name number) in
        let b = weigh_one (before g v n).names in
        omega (arith, more, a, b)

    after : (named now name number (node_at g v n)).body ≡ is_directory (record (before g v n) { names = with_name (before g v n).names name number })
    after = ap (λ (b : Body). (with_names now (λ names. with_name names name number) (record (node_at g v n) { body = b })).body) body_is

    wider : 64 * (length (with_name (before g v n).names name number) + 2) ≡ (v.inodes n).size + 64
    wider = let l = longer in let s : (v.inodes n).size ≡ 64 * (length (before g v n).names + 2) = size ∙ ap size_of body_is in omega (arith, l, s)

    pub held_with_name : (bytes : List ℕ) → length bytes ≡ 64
        → held_of g (named now name number (node_at g v n)).body ≡ (written_at g v n (v.inodes n).size bytes).held
    held_with_name bytes many =
        ap (held_of g) after
        ∙ (λ t q. nat_lt q (pages_of g (wider t)))
        ∙ (λ t q. more_pages g.block_size (v.inodes n).size q of.geometry.block_size t)
        ∙ (λ t q. sym (covered q) t || (nat_lt (q * g.block_size) ((v.inodes n).size + 64) && nat_lt (v.inodes n).size ((q + 1) * g.block_size)))
        ∙ (λ t q. not (page_zone g v (v.inodes n) q == 0) || (nat_lt (q * g.block_size) ((v.inodes n).size + sym many t) && nat_lt (v.inodes n).size ((q + 1) * g.block_size)))

-- taken away
pub name_is_there : NameIsThere
name_is_there g d e nodes n x name ok s is kind most name_is has =
    let v = pieces g e in
    let node = node_stands g d e nodes n x ok s is in
    let of = directory_stands g d e nodes n x ok s is kind in
    record {
      of = of;
      named = name_is;
      size = omega (arith, most, let z = node.size in z);
      there = ap (λ (names : Names). Rattle.tree.specs.Names.has_name names name) (sym (names_are g v n of) ∙ ap (λ (y : Node). names_of (Some y)) node.node) ∙ has;
    }

module _ (g : Geometry) (d e : Disk) (nodes : ℕ → Option Node) (n : ℕ) (x : Node) (name : Name) (number now : ℕ) (ok : IsGeometry g) (s : Stands g d e nodes)
    (is : nodes n ≡ Some x) (kind : is_dir x ≡ true) (none : inode_of (names_of (Some x)) name ≡ None) where
  abbrev v : Pieces
  v = pieces g e

  of : IsOfDirectory g v n
  of = directory_stands g d e nodes n x ok s is kind

  node : node_at g v n ≡ x
  node = (node_stands g d e nodes n x ok s is).node

  size : (v.inodes n).size ≡ size_of (node_at g v n).body
  size = (node_stands g d e nodes n x ok s is).size ∙ ap (λ (y : Node). size_of y.body) (sym node)

  free : inode_of (before g v n).names name ≡ None
  free = ap (λ (names : Names). inode_of names name) (sym (names_are g v n of) ∙ ap (λ (y : Node). names_of (Some y)) node) ∙ none

  same : taken_by g (put (nodes_of g v) n (Some (named now name number (node_at g v n)))) ≡ taken_by g (put nodes n (Some (named now name number x)))
  same = λ t. taken_by g (put (s.nodes t) n (Some (named now name number (node t))))

  to_room : taken_by g (put nodes n (Some (named now name number x))) ≤ data_zones g → (bytes : List ℕ) → length bytes ≡ 64 → HasZonesFor g v n (written_at g v n (v.inodes n).size bytes).held
  to_room fits bytes many =
      (room_is_space g v n (named now name number (node_at g v n)) _ ok s.sound (marked g v n of) (held_with_name g v n of size name number now free bytes many)).0
      (let q = same in omega (arith, fits, q))

  from_room : (bytes : List ℕ) → length bytes ≡ 64 → HasZonesFor g v n (written_at g v n (v.inodes n).size bytes).held → taken_by g (put nodes n (Some (named now name number x))) ≤ data_zones g
  from_room bytes many room =
      let q = same in
      let fits = (room_is_space g v n (named now name number (node_at g v n)) _ ok s.sound (marked g v n of) (held_with_name g v n of size name number now free bytes many)).1 room in
      omega (arith, fits, q)

-- put
pub name_may_be_put : NameMayBePut
name_may_be_put g d e nodes n x name number now ok s is kind most name_is some none fits =
    record {
      of = of g d e nodes n x name number now ok s is kind none;
      named = name_is;
      some = some;
      new = free g d e nodes n x name number now ok s is kind none;
      size = let z = (node_stands g d e nodes n x ok s is).size in omega (arith, most, z);
      room = to_room g d e nodes n x name number now ok s is kind none fits;
    }

-- asked
pub room_is_for_name : RoomIsForName
room_is_for_name g d e nodes n at x name number now room ok s is kind none at_is asked =
    let v = pieces g e in
    let bytes : List ℕ = replicate 64 0 in
    let answer = subst (λ (k : ℕ). MayChange g v n → IsRoomForEntry g v n k room) at_is asked (may_change g v n (of g d e nodes n x name number now ok s is kind none)) bytes refl in
    (λ yes. from_room g d e nodes n x name number now ok s is kind none bytes refl (answer.0 yes), λ fits. answer.1 (to_room g d e nodes n x name number now ok s is kind none fits bytes refl))
