-- A directory in a tree that fits the volume has a size within the limit.
use Rattle.std.proofs.Common.{◌≡◌, ◌≤◌, ◌<◌, ◌+◌, ◌-◌, ◌*◌, ◌/◌, ℕ, true, refl, sym, ap, subst, ◌∙◌, arith, length}
use mathlib.Core.Logic.{inl, inr}
use Rattle.std.specs.Prelude.{Option, None, Some, nat_lt, ◌==◌, ◌||◌}
use Rattle.std.proofs.Math.Nat.{le-div_iff_mul-le}
use Rattle.std.proofs.lemmas.Bool.{cases_lt, or_cases, eqb-true}
use Rattle.lemmas.proofs.Bools.{false_not_true}
use Rattle.layout.specs.declared.Geometry.{Geometry}
use Rattle.layout.specs.Places.{IsGeometry, is_block_size}
use Rattle.tree.specs.ZonesNeeded.{page_limit, zones_needed}
use Rattle.tree.specs.Tree.{Body, is_file, is_directory, Node, Tree, size_of, most_size}
use Rattle.tree.specs.Space.{zones_of, zones_used, data_zones, numbers_in_zone, pages_of}
use Rattle.tree.proofs.Freed.{part_below}
use Rattle.tree.proofs.Ways.{count_first, count_all}
use Rattle.tree.proofs.Totals.{weigh_one}
use Rattle.tree.proofs.Shapes.{kind_of, weight}

-- the block sizes, and that an inode has room for more pages than a volume has zones
record IsSmall (b : ℕ) : Type 0 where
  some : 0 < b
  most : b ≤ 4096
  room : 65536 < page_limit (b / 4)

-- each block size is one of these
is_small : (b : ℕ) → is_block_size b ≡ true → IsSmall b
is_small b h = elim (or_cases ((b == 1024) || (b == 2048)) (b == 4096) h) [
  | inl e ↦ elim (or_cases (b == 1024) (b == 2048) e) [
    | inl x ↦ subst IsSmall (sym (eqb-true b 1024 x)) (record { some = omega arith; most = omega arith; room = omega arith })
    | inr x ↦ subst IsSmall (sym (eqb-true b 2048 x)) (record { some = omega arith; most = omega arith; room = omega arith })
  ]
  | inr x ↦ subst IsSmall (sym (eqb-true b 4096 x)) (record { some = omega arith; most = omega arith; room = omega arith })
]

-- few pages cover few bytes
few_bytes : (b s : ℕ) → 0 < b → (s + b - 1) / b ≤ 65536 → s ≤ 65536 * b
few_bytes b s some l = elim (cases_lt (65536 * b) s) [
  | inr within ↦ within
  | inl past ↦ let more = (le-div_iff_mul-le {k = b} {x = 65537} {y = s + b - 1} some).1 (omega (arith, past, some)) in absurd (omega (arith, more, l))
]

-- few zones hold few pages
few_pages : (n pages : ℕ) → 65536 < page_limit n → zones_needed n (λ q. nat_lt q pages) ≤ 65536 → pages ≤ 65536
few_pages n pages room l = elim (cases_lt (page_limit n) pages) [
  | inl past ↦ let all = count_all pages (page_limit n) (omega (arith, past)) in absurd (omega (arith, all, room, l))
  | inr within ↦ let all = count_first pages (page_limit n) within in omega (arith, all, l)
]

-- few zones hold a directory within the limit
directory_size : (g : Geometry) → IsGeometry g → (s : ℕ) → zones_needed (numbers_in_zone g) (λ q. nat_lt q (pages_of g s)) ≤ 65536 → s ≤ most_size
directory_size g is s l =
    let small = is_small g.block_size is.block_size in
    let pages = few_pages (numbers_in_zone g) (pages_of g s) small.room l in
    let bytes = few_bytes g.block_size s small.some pages in
    let most = small.most in
    omega (arith, bytes, most)

-- a directory of a tree that fits is within the limit
pub grown_fits : (g : Geometry) → IsGeometry g → (t : Tree) (d : ℕ) → d < g.inodes + 1 → kind_of (t.nodes d) ≡ true → zones_used g t ≤ data_zones g
    → 64 * (weight t.nodes (λ _. 1) d + 2) ≤ most_size
grown_fits g is t d inside directory fits = by_node (t.nodes d) refl directory
  where
    zones : zones_of g (t.nodes d) ≤ 65536
    zones = let part = part_below (λ n. zones_of g (t.nodes n)) (g.inodes + 1) d inside in let most = is.zones in omega (arith, part, most, fits)

    by_body : (body : Body) (node : Node) → node.body ≡ body → t.nodes d ≡ Some node → kind_of (Some node) ≡ true → 64 * (weight t.nodes (λ _. 1) d + 2) ≤ most_size
    by_body (is_file f) node b e k = absurd (false_not_true (sym (ap (λ x. kind_of (Some (record node { body = x }))) b) ∙ k))
    by_body (is_directory x) node b e k =
        let as_directory : t.nodes d ≡ Some (record node { body = is_directory x }) = e ∙ ap (λ y. Some (record node { body = y })) b in
        let size = directory_size g is (size_of (is_directory x)) (subst (λ o. zones_of g o ≤ 65536) as_directory zones) in
        let count : weight t.nodes (λ _. 1) d ≡ length x.names = ap (λ o. weight (λ _. o) (λ _. 1) d) as_directory ∙ weigh_one x.names in
        omega (arith, size, count)

    by_node : (o : Option Node) → t.nodes d ≡ o → kind_of o ≡ true → 64 * (weight t.nodes (λ _. 1) d + 2) ≤ most_size
    by_node None e k = absurd (false_not_true k)
    by_node (Some node) e k = by_body node.body node refl e k
