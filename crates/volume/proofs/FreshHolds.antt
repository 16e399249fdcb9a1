-- A new volume holds a root alone.
use Rattle.std.proofs.Common.{◌≡◌, ◌≢◌, ◌<◌, ◌≤◌, ◌+◌, ◌-◌, ◌*◌, ◌/◌, ◌%◌, ℕ, zero, suc, [], ◌∷◌, replicate, Bool, true, false, refl, sym, ap, subst, ◌∙◌, arith}
use mathlib.Core.Logic.{inl, inr}
use Rattle.std.specs.Prelude.{◌==◌, ◌&&◌, ◌||◌, not, nat_le, nat_lt, slice_index, None, Some, IsTrue, if◌then◌else◌}
use Rattle.std.proofs.lemmas.Bool.{cases_eq, cond-true, cond-false, eq-eqb, ne_eqb, and_from, and_parts, leb-true, le-leb, lt-ltb, eqb-true, or_cases, false_from_ne_true}
use Rattle.std.proofs.Math.Nat.{div-eq_of_lt, div-eq_of_lt-le, mod-eq_of_lt}
use Rattle.layout.specs.declared.Geometry.{Geometry}
use Rattle.layout.specs.Places.{IsGeometry}
use Rattle.lemmas.specs.Sums.{some_below}
use Rattle.tree.specs.Names.{Name, dot, dot_dot}
use Rattle.tree.specs.Tree.{is_directory}
use Rattle.tree.specs.Space.{numbers_in_zone, pages_of}
use Rattle.tree.specs.Laws.{fresh_root, fresh_tree}
use Rattle.lemmas.proofs.Maps.{put-same, put-other}
use Rattle.tree.proofs.Fresh.{fresh_is_tree}
use Rattle.volume.specs.declared.Inode.{Inode}
use Rattle.volume.specs.Reading.{is_inode, is_data_zone, u32_in}
use Rattle.volume.specs.Pieces.{Pieces}
use Rattle.volume.specs.Nodes.{word, number, slot, second_block, last_block, page_zone, page_byte, file_byte, text_in, entry_name, entry_inode, names_in, node_of, is_marked, nodes_of}
use Rattle.volume.specs.Places.{zone_at, Use}
use Rattle.volume.specs.Entries.{name_at, target_at, is_field}
use Rattle.volume.specs.Holds.{ZonesAgree, IsSoundInode, IsSoundDirectory, IsSound}
use Rattle.volume.specs.Fresh.{fresh_inode, fresh_entries, fresh_pieces, FreshHolds}

-- a choice of two values that are one
same_choice : (b : Bool) (x y z : ℕ) → x ≡ z → y ≡ z → (if b then x else y) ≡ z
same_choice true x y z p q = p
same_choice false x y z p q = q

-- rows of bytes that agree below a bound have the same text there
same_text : (f h : ℕ → ℕ) (k p : ℕ) → ((q : ℕ) → q < p + k → f q ≡ h q) → text_in f k p ≡ text_in h k p
same_text f h zero p e = refl
same_text f h (suc k) p e =
    let here = e p (omega arith) in
    let there = same_text f h k (suc p) (λ q under. e q (omega arith)) in
    ap (λ x. if x == 0 then [] else x ∷ text_in f k (suc p)) here ∙ ap (λ t. if h p == 0 then [] else h p ∷ t) there

-- tests that agree below a bound find the same there
same_some : (p q : ℕ → Bool) (n : ℕ) → ((k : ℕ) → k < n → p k ≡ q k) → some_below p n ≡ some_below q n
unfolding some_below
same_some p q zero e = refl
same_some p q (suc n) e = let front = same_some p q n (λ k h. e k (omega arith)) in let last = e n (omega arith) in
    ap (λ b. b || p n) front ∙ ap (λ b. some_below q n || b) last

-- a zero in a row of zeros
zero_there : (n k : ℕ) → slice_index (replicate n 0) k ≡ 0
zero_there zero k = refl
zero_there (suc n) zero = refl
zero_there (suc n) (suc k) = zero_there n k

-- the number in four bytes that are the same
same_number : (f h : ℕ → ℕ) (p : ℕ) → ((q : ℕ) → q < p + 4 → f q ≡ h q) → u32_in f p ≡ u32_in h p
same_number f h p e =
    let e0 = e p (omega arith) in
    let e1 = e (p + 1) (omega arith) in
    let e2 = e (p + 2) (omega arith) in
    let e3 = e (p + 2 + 1) (omega arith) in
    omega arith

module _ (g : Geometry) (now : ℕ) (geometry : IsGeometry g) where
  -- the pieces of the new volume
  abbrev v : Pieces
  v = fresh_pieces g now

  -- the root's inode
  abbrev root : Inode
  root = fresh_inode g now

  -- how many numbers a block holds
  abbrev width : ℕ
  width = numbers_in_zone g

  -- a block holds both entries
  block_is_large : 128 ≤ g.block_size
  block_is_large = elim (or_cases ((g.block_size == 1024) || (g.block_size == 2048)) (g.block_size == 4096) geometry.block_size) [
    | inl small ↦ elim (or_cases (g.block_size == 1024) (g.block_size == 2048) small) [
      | inl is ↦ let size = eqb-true g.block_size 1024 is in omega arith
      | inr is ↦ let size = eqb-true g.block_size 2048 is in omega arith
    ]
    | inr is ↦ let size = eqb-true g.block_size 4096 is in omega arith
  ]

  -- the first data zone lies behind both boot blocks
  first_is_late : 2 ≤ g.first_zone
  first_is_late = let e = geometry.first in omega arith

  -- so it is no hole
  none_first : g.first_zone ≡ 0 → ⊥
  none_first e = let late = first_is_late in omega arith

  -- and it is a data zone
  first_is_zone : is_data_zone g g.first_zone ≡ true
  first_is_zone = and_from _ _ (le-leb g.first_zone g.first_zone (omega arith)) (lt-ltb g.first_zone g.zones geometry.some_zone)

  -- slots past the first are 0
  later_slot : (s : ℕ) → slot root (suc s) ≡ 0
  later_slot s = zero_there 9 s

  -- a number in zone 0
  number_of_none : (z j : ℕ) → z ≡ 0 → number v z j ≡ 0
  number_of_none z j e = cond-true (z == 0) 0 (word v z j) (eq-eqb z 0 e)

  -- there is no block that names blocks
  no_second : (m : ℕ) → second_block width v root m ≡ 0
  no_second m = same_choice (m == 0) (slot root 8) _ 0 (later_slot 7)
      (same_choice (nat_le m width) (number v (slot root 9) (m - 1)) 0 0 (number_of_none (slot root 9) (m - 1) (later_slot 8)) refl)

  -- nor one that names pages
  no_last : (k : ℕ) → last_block width v root k ≡ 0
  no_last k = same_choice (k == 0) (slot root 7) _ 0 (later_slot 6) (number_of_none (second_block width v root ((k - 1) / width)) ((k - 1) % width) (no_second ((k - 1) / width)))

  -- page 0 is the first data zone, and there is no other
  no_page : (p : ℕ) → p ≢ 0 → page_zone g v root p ≡ 0
  no_page zero d = absurd (d refl)
  no_page (suc p) d = same_choice (nat_lt (suc p) 7) (slot root (suc p)) _ 0 (later_slot p)
      (number_of_none (last_block width v root ((suc p - 7) / width)) ((suc p - 7) % width) (no_last ((suc p - 7) / width)))

  -- nor an indirect block
  no_block : (l k : ℕ) → zone_at g v root (suc l) k ≡ 0
  no_block zero k = no_last k
  no_block (suc zero) k = no_second k
  no_block (suc (suc l)) k = same_choice ((l == 0) && (k == 0)) (slot root 9) 0 0 (later_slot 8) refl

  -- byte p of the root's directory
  root_byte : (p : ℕ) → p < 128 → file_byte g v root p ≡ slice_index fresh_entries p
  root_byte p h =
      let large = block_is_large in
      let page : p / g.block_size ≡ 0 = div-eq_of_lt (omega arith) in
      let offset : p % g.block_size ≡ p = mod-eq_of_lt (omega arith) in
      let zone = g.first_zone in
      cond-true (nat_lt p 128) (page_byte v (page_zone g v root (p / g.block_size)) (p % g.block_size)) 0 (lt-ltb p 128 h)
      ∙ ap (λ q. page_byte v (page_zone g v root q) (p % g.block_size)) page
      ∙ ap (page_byte v zone) offset
      ∙ cond-false (zone == 0) 0 (v.zones zone p) (ne_eqb zone 0 (λ e. none_first e))
      ∙ cond-true (zone == zone) (slice_index fresh_entries p) 0 (eq-eqb zone zone refl)

  -- the bytes of the root's directory
  abbrev bytes : ℕ → ℕ
  bytes = file_byte g v root

  -- entry e of two has the number and the name that its bytes spell
  root_target : (e : ℕ) → e < 2 → target_at g v 1 e ≡ entry_inode (slice_index fresh_entries) e
  root_target e h = same_number bytes (slice_index fresh_entries) (64 * e) (λ q under. root_byte q (omega arith))

  -- and the name
  root_name : (e : ℕ) → e < 2 → name_at g v 1 e ≡ entry_name (slice_index fresh_entries) e
  root_name e h = same_text bytes (slice_index fresh_entries) 60 (64 * e + 4) (λ q under. root_byte q (omega arith))

  -- both entries lead to the root
  both_targets : (e : ℕ) → e < 2 → target_at g v 1 e ≡ 1
  both_targets e h = elim (cases_eq e 0) [
    | inl is ↦ ap (target_at g v 1) is ∙ root_target 0 (omega arith)
    | inr other ↦ let is : e ≡ 1 = omega arith in ap (target_at g v 1) is ∙ root_target 1 (omega arith)
  ]

  -- whether a name fills the field of entry e is what its bytes say
  root_field : (e : ℕ) (name : Name) → e < 2
      → is_field g v 1 e name ≡ not (some_below (λ a. not (slice_index fresh_entries (64 * e + 4 + a) == slice_index name a)) 60)
  root_field e name h = ap not (same_some _ _ 60 (λ a under. ap (λ b. not (b == slice_index name a)) (root_byte (64 * e + 4 + a) (omega arith))))

  -- entry 0 is named .
  dot_field : is_field g v 1 0 dot ≡ true
  unfolding some_below
  dot_field = root_field 0 dot (omega arith) ∙ refl

  -- entry 1 is named ..
  dot_dot_field : is_field g v 1 1 dot_dot ≡ true
  unfolding some_below
  dot_dot_field = root_field 1 dot_dot (omega arith) ∙ refl

  -- the root is marked, and no other inode
  root_marked : is_marked g v 1 ≡ true
  root_marked = and_from (is_inode g 1) true (and_from true (nat_le 1 g.inodes) refl (le-leb 1 g.inodes geometry.some_inode)) refl

  -- a marked inode is the root
  only_root : (m : ℕ) → is_marked g v m ≡ true → m ≡ 1
  only_root m e =
      let parts = and_parts (is_inode g m) (nat_le m 1) e in
      let low = leb-true 1 m (and_parts (nat_le 1 m) (nat_le m g.inodes) parts.0).0 in
      let high = leb-true m 1 parts.1 in
      omega arith

  -- another is not marked
  unmarked : (m : ℕ) → m ≢ 1 → is_marked g v m ≡ false
  unmarked m d = false_from_ne_true (is_marked g v m) (λ e. d (only_root m e))

  -- the root covers one page
  one_page : pages_of g 128 ≡ 1
  one_page = let large = block_is_large in div-eq_of_lt-le {k = 1} g.block_size {m = 128 + g.block_size - 1} (omega arith) (omega arith)

  -- a page that the root covers is page 0
  first_page : (p : ℕ) → p < pages_of g 128 → p ≡ 0
  first_page p h = let one = one_page in let under : p < 1 = subst (λ k. p < k) one h in omega arith

  -- the one place of the root at which a number stands
  root_place : (l k z : ℕ) → zone_at g v root l k ≡ z → z ≢ 0 → (l ≡ 0) × (k ≡ 0) × (z ≡ g.first_zone)
  root_place zero k z e d = elim (cases_eq k 0) [
    | inl is ↦ (refl, is, sym e ∙ ap (page_zone g v root) is)
    | inr other ↦ absurd (d (sym e ∙ no_page k other))
  ]
  root_place (suc l) k z e d = absurd (d (sym e ∙ no_block l k))

  -- what a use of a zone is
  record IsRootUse {z : ℕ} (u : Use g v z) : Type 0 where
    pub inode : u.inode ≡ 1
    pub level : u.level ≡ 0
    pub index : u.index ≡ 0
    pub zone : z ≡ g.first_zone

  -- a use of a zone is page 0 of the root
  only_use : (z : ℕ) → z ≢ 0 → (u : Use g v z) → IsRootUse u
  only_use z d u =
      let is = only_root u.inode u.marked in
      let place = root_place u.level u.index z (subst (λ m. zone_at g v (v.inodes m) u.level u.index ≡ z) is u.names) d in
      record { inode = is; level = place.0; index = place.1; zone = place.2 }

  -- the first data zone is the one that is used, and its bit is set
  zones_agree : ZonesAgree g v
  zones_agree = record {
    inode_bit_0 = refl;
    zone_bit_0 = refl;
    numbers = λ z d u. subst (λ q. IsTrue (is_data_zone g q)) (sym (only_use z d u).zone) first_is_zone;
    once = λ z d a b.
        let p = only_use z d a in
        let q = only_use z d b in
        record { inode = p.inode ∙ sym q.inode; level = p.level ∙ sym q.level; index = p.index ∙ sym q.index };
    mapped = λ z is.
        let from = leb-true g.first_zone z (and_parts _ _ is).0 in (
          λ e. let at : z ≡ g.first_zone = let low = leb-true (z - g.first_zone + 1) 1 e in omega arith in
              record { inode = 1; level = 0; index = 0; marked = root_marked; names = sym at },
          λ u. let at = (only_use z (λ e. let late = first_is_late in omega arith) u).zone in le-leb (z - g.first_zone + 1) 1 (omega arith),
        );
  }

  -- the root's inode is sound
  sound_root : IsSoundInode g v root
  sound_root = record {
    mode = refl;
    inside = λ p d. elim (cases_eq p 0) [
      | inl is ↦ let one = one_page in omega arith
      | inr other ↦ absurd (d (no_page p other))
    ];
    full = λ l k d. absurd (d (no_block l k));
  }

  -- the root's directory is sound
  sound_directory : IsSoundDirectory g v 1
  sound_directory = record {
    sized = refl;
    two = omega arith;
    whole = λ p h e. none_first (sym (ap (page_zone g v root) (first_page p h)) ∙ e);
    dot_entry = (dot_field, root_target 0 (omega arith) ∙ refl);
    dot_dot_entry = dot_dot_field;
    used = λ e h is. let one = sym (both_targets e h) ∙ is in absurd (cc);
    names = λ e low high. absurd (omega arith);
    distinct = λ e f below high same.
        let first : e ≡ 0 = omega arith in
        let second : f ≡ 1 = omega arith in
        let names : dot ≡ dot_dot = sym (ap (name_at g v 1) first ∙ root_name 0 (omega arith)) ∙ same ∙ ap (name_at g v 1) second ∙ root_name 1 (omega arith) in
        absurd (cc);
  }

  -- the new volume keeps the rules of the format
  is_sound : IsSound g v
  is_sound = record {
    zones = zones_agree;
    inodes = λ m marked. subst (λ k. IsSoundInode g v (v.inodes k)) (sym (only_root m marked)) sound_root;
    directories = λ m is. subst (IsSoundDirectory g v) (sym (only_root m (and_parts _ _ is).0)) sound_directory;
  }

  -- its one node is that of a new tree
  root_node : node_of g v root ≡ fresh_root now
  unfolding names_in
  root_node = ap (λ parent. record (fresh_root now) { body = is_directory (record { parent = parent; names = [] }) }) (root_target 1 (omega arith))

  -- at each number stands the node of a new tree
  nodes_are : (m : ℕ) → (fresh_tree now).nodes m ≡ nodes_of g v m
  nodes_are m = elim (cases_eq m 1) [
    | inl is ↦ ap (fresh_tree now).nodes is ∙ put-same (λ k. None) 1 (Some (fresh_root now)) ∙ sym (ap (nodes_of g v) is ∙ cond-true (is_marked g v 1) (Some (node_of g v root)) None root_marked ∙ ap Some root_node)
    | inr other ↦ put-other (λ k. None) 1 (Some (fresh_root now)) m other ∙ sym (cond-false (is_marked g v m) (Some (node_of g v (v.inodes m))) None (unmarked m other))
  ]

-- a new volume holds a root alone
pub fresh_holds : FreshHolds
fresh_holds g now geometry small = record {
  nodes = λ i m. nodes_are g now geometry m i;
  sound = is_sound g now geometry;
  tree = fresh_is_tree g now geometry.some_inode small;
}
