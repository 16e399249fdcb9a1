-- A node is freed.
use Rattle.std.proofs.Common.{◌≡◌, ◌≢◌, ◌<◌, ◌+◌, ◌-◌, ◌*◌, ◌/◌, ℕ, zero, suc, Bool, true, false, refl, sym, ap, subst, ◌∙◌, arith}
use mathlib.Core.Logic.{inl, inr}
use Rattle.std.specs.Prelude.{IsTrue, None, Some, Option, not, ◌==◌, ◌&&◌, if◌then◌else◌}
use Rattle.std.proofs.lemmas.Bool.{and_parts, cases_eq, cases_lt, leb-true}
use Rattle.layout.specs.declared.Geometry.{Geometry}
use Rattle.layout.specs.Places.{IsGeometry}
use Rattle.lemmas.specs.Sums.{put}
use Rattle.tree.specs.Tree.{Node}
use Rattle.tree.specs.Space.{numbers_in_zone, pages_of}
use Rattle.tree.specs.Changes.{file_after_resize}
use Rattle.lemmas.proofs.Maps.{put-same, put-other}
use Rattle.volume.specs.declared.Inode.{Inode}
use Rattle.volume.specs.Reading.{Disk, is_inode}
use Rattle.volume.specs.Pieces.{Pieces, pieces}
use Rattle.volume.specs.Nodes.{is_marked, nodes_of, page_zone, word}
use Rattle.volume.specs.Places.{zone_at}
use Rattle.volume.proofs.Bridge.{naming, zone_spot, no_level}
use Rattle.volume.proofs.Naming.{room, spot}
use Rattle.volume.proofs.Spots.{spot_word}
use Rattle.volume.proofs.Sums.{some_witness}
use Rattle.volume.proofs.Volumes.{numbers_sized}
use Rattle.block_store.specs.Volume.{Alters}
use Rattle.zone.specs.ZoneSteps.{IsSoundBut}
use Rattle.zone.specs.Inodes.{ChangesInode}
use Rattle.zone.proofs.ZoneInodes.{change_keeps, changed_nodes}
use Rattle.zone.proofs.Keeps.{sound_but_is_sound}
use Rattle.file.specs.PageChanges.{BecomesFile, SetsSize, file_at}
use Rattle.inode_operations.specs.Steps.{BecomesAt, FreesNode, IsOfNode}
use Rattle.inode_operations.proofs.Nodes.{put_twice}
use Rattle.inode_operations.proofs.Storing.{may_change}

-- An inode without pages has no zone at any place: a block would have a number, and that one a number, down to a page.
module _ (g : Geometry) (v : Pieces) (n : ℕ) (ok : IsGeometry g) (marked : IsTrue (is_marked g v n)) (rules : IsSoundBut g v n 0 0)
    (none : (p : ℕ) → page_zone g v (v.inodes n) p ≡ 0) where
  child : (a i j : ℕ) → a < 3 → j < numbers_in_zone g → zone_at g v (v.inodes n) (suc a) i ≢ 0
      → zone_at g v (v.inodes n) a (room (2 - a) + (i * numbers_in_zone g + j)) ≡ word v (zone_at g v (v.inodes n) (suc a) i) j
  child a i j low under some =
      let sized = numbers_sized g ok in
      let h = 2 - a in
      let up : 3 - a ≡ suc h = omega (arith, low) in
      let at : 3 - suc a ≡ h = omega (arith, low) in
      zone_spot g v sized n a (room h + (i * numbers_in_zone g + j)) (omega (arith, low))
      ∙ ap (λ k. spot (naming g v) n k (room h + (i * numbers_in_zone g + j))) up
      ∙ spot_word (naming g v) n h i j (zone_at g v (v.inodes n) (suc a) i) under (sym (zone_spot g v sized n (suc a) i (omega (arith, low)) ∙ ap (λ k. spot (naming g v) n k i) at)) some

  pub no_places : (a i : ℕ) → zone_at g v (v.inodes n) a i ≡ 0
  no_places zero i = none i
  no_places (suc a) i = elim (cases_lt a 3) [
    | inr far ↦ no_level g v (numbers_sized g ok) n (suc a) i (omega (arith, far))
    | inl low ↦ elim (cases_eq (zone_at g v (v.inodes n) (suc a) i) 0) [
      | inl e ↦ e
      | inr some ↦
          let has = rules.full n a i marked (λ s. absurd (let e = s.1 in omega (arith, e))) some in
          let w = some_witness (λ j. not (word v (zone_at g v (v.inodes n) (suc a) i) j == 0)) (numbers_in_zone g) has in
          let down = sym (child a i w.0 low w.1 some) ∙ no_places a (room (2 - a) + (i * numbers_in_zone g + w.0)) in
          absurd (never (word v (zone_at g v (v.inodes n) (suc a) i) w.0) down w.2)
    ]
  ]
    where
      never : (z : ℕ) → z ≡ 0 → not (z == 0) ≡ true → ⊥
      never z e is = let t : not (0 == 0) ≡ true = sym (ap (λ y. not (y == 0)) e) ∙ is in absurd (cc)

-- the volume in which inode n is no longer marked
abbrev unmarked : Pieces → ℕ → Pieces
unmarked u n = record u { inode_map = put u.inode_map n false }

module _ (g : Geometry) (v u : Pieces) (n : ℕ) (of : IsOfNode g v n) (b : BecomesFile g v u n (v.inodes n) (file_after_resize g (file_at g v n) 0)) where
  still_marked : IsTrue (is_marked g u n)
  still_marked = ap (λ (m : ℕ → Bool). is_inode g n && m n) b.marks ∙ of.marked

  no_size : (u.inodes n).size ≡ 0
  no_size = ap (λ (i : Inode). i.size) b.inode

  no_page : (p : ℕ) → page_zone g u (u.inodes n) p ≡ 0
  no_page p = elim (cases_eq (page_zone g u (u.inodes n) p) 0) [
    | inl e ↦ e
    | inr some ↦
        let low = b.rules.inside n p still_marked some in
        let none : pages_of g (u.inodes n).size ≡ (0 + g.block_size - 1) / g.block_size = ap (pages_of g) no_size in
        let zero_pages = no_pages g.block_size in
        absurd (omega (arith, low, none, zero_pages))
  ]
    where
      no_pages : (w : ℕ) → (0 + w - 1) / w ≡ 0
      no_pages w = elim (cases_eq w 0) [
        | inl e ↦ ap (λ x. (0 + x - 1) / x) e
        | inr some ↦ Rattle.volume.proofs.Bridge.div_none (0 + w - 1) w (omega (arith, some))
      ]

  gone : is_marked g (unmarked u n) n ≡ false
  gone = ap (λ x. is_inode g n && x) (put-same u.inode_map n false) ∙ never (is_inode g n)
    where
      never : (x : Bool) → (x && false) ≡ false
      never true = refl
      never false = refl

  not_marked : IsTrue (is_marked g (unmarked u n) n) → ⊥
  not_marked is = let e : false ≡ true = sym gone ∙ is in absurd (cc)

  frees : ChangesInode g u (unmarked u n) n
  frees = record {
    some = λ e. let low = leb-true 1 n (and_parts (Rattle.std.specs.Prelude.nat_le 1 n) (Rattle.std.specs.Prelude.nat_le n g.inodes) (and_parts (is_inode g n) (v.inode_map n) of.marked).0).0 in absurd (omega (arith, e, low));
    marks = λ m d. put-other u.inode_map n false m d;
    map = refl;
    zones = refl;
    others = λ m d. refl;
    before = λ is a i. no_places g u n of.geometry still_marked b.rules no_page a i;
    after = λ is. absurd (not_marked is);
    mode = λ is. absurd (not_marked is);
  }

  nothing : nodes_of g (unmarked u n) n ≡ None
  nothing = ap (λ x. if x then Some (Rattle.volume.specs.Nodes.node_of g (unmarked u n) (u.inodes n)) else None) gone

  pub freed : BecomesAt g v (unmarked u n) n None
  freed = record {
    sound = sound_but_is_sound g (unmarked u n) n 0 (change_keeps g u (unmarked u n) n 0 of.geometry frees b.rules)
        (λ dir. absurd (not_marked (and_parts (is_marked g (unmarked u n) n) _ dir).0));
    nodes = changed_nodes g u (unmarked u n) n frees ∙ ap (put (nodes_of g u) n) nothing
        ∙ ap (λ (m : ℕ → Option Node). put m n None) b.nodes ∙ put_twice (nodes_of g v) n _ None;
  }

-- its pages are let go, and its mark is cleared
pub frees_node : (g : Geometry) (n : ℕ) (d m e : Disk) → SetsSize g n 0 d m → Alters g (unmarked (pieces g m) n) m e → FreesNode g n d e
frees_node g n d m e sets alters = record {
  head = λ b low. alters.head b low ∙ sets.head b low;
  becomes = λ of. subst (λ (w : Pieces). BecomesAt g (pieces g d) w n None) (sym alters.pieces)
      (freed g (pieces g d) (pieces g m) n of (sets.becomes (may_change g (pieces g d) n of)));
}
