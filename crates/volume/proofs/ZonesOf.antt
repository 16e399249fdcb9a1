-- The zones of a node of a sound volume, level by level.
use Rattle.std.proofs.Common.{◌≡◌, ◌≢◌, ◌<◌, ◌≤◌, ◌+◌, ◌-◌, ◌*◌, ℕ, suc, length, Bool, true, false, refl, sym, ap, ◌∙◌, arith}
use mathlib.Core.Logic.{inl, inr}
use Rattle.std.specs.Prelude.{not, ◌&&◌, ◌==◌, nat_lt}
use Rattle.std.proofs.lemmas.Bool.{cases_Bool, cases_eq, cases_lt, eq-eqb, ne_eqb, lt-ltb, le-ltb, not_from_false}
use Rattle.layout.specs.declared.Geometry.{Geometry}
use Rattle.lemmas.specs.Sums.{sum_below, count_below, some_below}
use Rattle.tree.specs.Space.{pages_of, held_of, numbers_in_zone, zones_of}
use Rattle.volume.specs.Pieces.{Pieces}
use Rattle.volume.specs.Nodes.{page_zone, word, is_marked, body_of, directory_of}
use Rattle.volume.specs.Places.{zone_at, has_number}
use Rattle.volume.specs.Entries.{is_directory_inode}
use Rattle.volume.specs.Holds.{IsSound}
use Rattle.volume.proofs.Naming.{spot}
use Rattle.volume.proofs.Bridge.{naming, zone_spot, limit_at}
use Rattle.volume.proofs.NodesAs.{nodes, names_differ, node_marked, node_unmarked, body_directory, body_file, length_node}
use Rattle.volume.proofs.Swapped.{sum_none}
use Rattle.volume.proofs.Levels.{taken, needed_by_level}

module _ (g : Geometry) (v : Pieces) (sized : 0 < numbers_in_zone g) (s : IsSound g v) where
  -- a block has a number
  full : (n h i : ℕ) → is_marked g v n ≡ true → h < 3 → spot (naming g v) n h i ≢ 0
      → some_below (λ j. not (word v (spot (naming g v) n h i) j == 0)) (numbers_in_zone g) ≡ true
  full n h i is low some =
      let back : 3 - suc (2 - h) ≡ h = omega arith in
      let same : zone_at g v (v.inodes n) (suc (2 - h)) i ≡ spot (naming g v) n h i = zone_spot g v sized n (suc (2 - h)) i (omega arith) ∙ ap (λ a. spot (naming g v) n a i) back in
      ap (has_number g v) (sym same) ∙ (s.inodes n is).full (2 - h) i (λ e. some (sym same ∙ e))

  -- a page past the end has no zone
  not_past : (n p : ℕ) → is_marked g v n ≡ true → page_zone g v (v.inodes n) p ≢ 0 → pages_of g (v.inodes n).size ≤ p → ⊥
  not_past n p is some past = let low = (s.inodes n is).inside p some in absurd (omega arith)

  -- the pages that a directory's size covers are those that have zones
  covered : (n p : ℕ) → is_marked g v n ≡ true → is_directory_inode g v n ≡ true → nat_lt p (pages_of g (v.inodes n).size) ≡ not (page_zone g v (v.inodes n) p == 0)
  covered n p is d = elim (cases_lt p (pages_of g (v.inodes n).size)) [
    | inl low ↦ lt-ltb p _ low ∙ sym (not_from_false (page_zone g v (v.inodes n) p == 0) (ne_eqb _ 0 ((s.directories n d).whole p low)))
    | inr past ↦ le-ltb p _ past ∙ elim (cases_eq (page_zone g v (v.inodes n) p) 0) [
      | inl e ↦ sym (ap not (eq-eqb _ 0 e))
      | inr some ↦ absurd (not_past n p is some past)
    ]
  ]

  -- a page is held where a zone stands at its place
  held_pages : (n p : ℕ) → is_marked g v n ≡ true → held_of g (body_of g v (v.inodes n)) p ≡ taken (naming g v) n 3 p
  held_pages n p is =
      let page : not (page_zone g v (v.inodes n) p == 0) ≡ taken (naming g v) n 3 p = ap (λ z. not (z == 0)) (zone_spot g v sized n 0 p (omega arith)) in
      elim (cases_Bool (is_directory_inode g v n)) [
        | inl d ↦
            let sound = s.directories n d in
            let many = length_node g v (names_differ g v s) n d in
            let size : 64 * (length (directory_of g v (v.inodes n)).names + 2) ≡ (v.inodes n).size = omega (arith, sound.sized, sound.two) in
            ap (λ b. held_of g b p) (body_directory g v n d) ∙ ap (λ b. nat_lt p (pages_of g b)) size ∙ covered n p is d ∙ page
        | inr f ↦ ap (λ b. held_of g b p) (body_file g v n is f) ∙ page
      ]

  -- under a false guard nothing is counted
  guard_none : (b : Bool) (p : ℕ → ℕ → Bool) (c : ℕ → ℕ) → b ≡ false → sum_below (λ h. count_below (λ i. b && p h i) (c h)) 4 ≡ 0
  guard_none true p c e = absurd (cc)
  guard_none false p c e = sum_none _ 4 (λ h _. sum_none _ (c h) (λ i _. refl))

  -- and under a true one all
  guard_all : (b : Bool) (p : ℕ → ℕ → Bool) (c : ℕ → ℕ) → b ≡ true → sum_below (λ h. count_below (p h) (c h)) 4 ≡ sum_below (λ h. count_below (λ i. b && p h i) (c h)) 4
  guard_all true p c e = refl
  guard_all false p c e = absurd (cc)

  -- as many zones as stand at places of the inode, if it is marked
  pub zones_by_level : (n : ℕ) → zones_of g (nodes g v n)
      ≡ sum_below (λ h. count_below (λ i. is_marked g v n && taken (naming g v) n h i) (limit_at (numbers_in_zone g) h)) 4
  zones_by_level n = elim (cases_Bool (is_marked g v n)) [
    | inl is ↦
        ap (zones_of g) (node_marked g v n is)
        ∙ needed_by_level (naming g v) n (λ h i. full n h i is) (held_of g (body_of g v (v.inodes n))) (λ p. held_pages n p is)
        ∙ guard_all (is_marked g v n) (taken (naming g v) n) (limit_at (numbers_in_zone g)) is
    | inr out ↦ ap (zones_of g) (node_unmarked g v n out) ∙ sym (guard_none (is_marked g v n) (taken (naming g v) n) (limit_at (numbers_in_zone g)) out)
  ]
