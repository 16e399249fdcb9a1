-- How many zones the nodes take when one is new, or has a name more.
use Rattle.std.proofs.Common.{◌≡◌, ◌<◌, ◌≤◌, ◌+◌, ◌*◌, ◌-◌, ◌/◌, ℕ, Bool, List, true, false, length, refl, sym, ap, subst, ◌∙◌, arith}
use mathlib.Core.Logic.{inl, inr}
use Rattle.std.specs.Prelude.{◌==◌, IsTrue, None, Option, Some, nat_lt}
use Rattle.std.proofs.lemmas.Bool.{cases_eq, cases_lt, cond-false, eq-eqb, le-ltb, lt-ltb, ltb-true, ne_eqb}
use Rattle.lemmas.proofs.Bools.{false_not_true}
use Rattle.layout.specs.declared.Geometry.{Geometry}
use Rattle.layout.specs.Places.{IsGeometry, is_block_size}
use Rattle.tree.specs.declared.User.{User}
use Rattle.lemmas.specs.Sums.{count_below, one_if, put, some_below, sum_below}
use Rattle.tree.specs.Names.{Name, inode_of, with_name}
use Rattle.tree.specs.Tree.{Body, Directory, Node, is_dir, is_directory, is_file, names_of, size_of}
use Rattle.tree.specs.Changes.{empty_directory, empty_file, new_link, new_node, with_names}
use Rattle.tree.specs.Space.{numbers_in_zone, pages_of, zones_of}
use Rattle.tree.specs.ZonesNeeded.{double_blocks, from_page, page_limit, single_blocks, triple_blocks, zones_needed}
use Rattle.lemmas.proofs.Maps.{put-other, put-same, same_sum, sum_put}
use Rattle.tree.proofs.Needs.{none_counted}
use Rattle.tree.proofs.Freed.{part_below}
use Rattle.tree.proofs.NeedGrows.{need_grows}
use Rattle.tree.proofs.Totals.{weigh_one}
use Rattle.tree.proofs.Ways.{count_all, count_first}
use Rattle.tree.proofs.Weights.{weigh_with_name}
use Rattle.zone.specs.Room.{taken_by}
use Rattle.zone.proofs.Missing.{count_put}
use Rattle.descriptors.proofs.Searches.{none_below}
use Rattle.directory.proofs.Pages.{each_size}

-- one node becomes another
pub taken_put : (g : Geometry) (nodes : ℕ → Option Node) (k : ℕ) (x : Option Node) → k < g.inodes + 1
    → taken_by g (put nodes k x) + zones_of g (nodes k) ≡ taken_by g nodes + zones_of g x
taken_put g nodes k x low =
    let h : ℕ → ℕ = λ m. zones_of g (nodes m) in
    let same : taken_by g (put nodes k x) ≡ sum_below (put h k (zones_of g x)) (g.inodes + 1) = same_sum _ _ (g.inodes + 1) (λ m _. elim (cases_eq m k) [
      | inl e ↦ ap (zones_of g) (ap (put nodes k x) e ∙ put-same nodes k x) ∙ sym (ap (put h k (zones_of g x)) e ∙ put-same h k (zones_of g x))
      | inr d ↦ ap (zones_of g) (put-other nodes k x m d) ∙ sym (put-other h k (zones_of g x) m d)
    ]) in
    let whole = sum_put h k (zones_of g x) (g.inodes + 1) low in
    omega (arith, same, whole)

-- a node takes no more than all
pub part_taken : (g : Geometry) (nodes : ℕ → Option Node) (k : ℕ) → k < g.inodes + 1 → zones_of g (nodes k) ≤ taken_by g nodes
part_taken g nodes k low = part_below (λ m. zones_of g (nodes m)) (g.inodes + 1) k low

-- pages among the first seven take no block beside
few_pages : (n k : ℕ) (held : ℕ → Bool) → ((q : ℕ) → 7 ≤ q → held q ≡ false) → count_below held (page_limit n) ≡ k → zones_needed n held ≡ k
few_pages n k held none count =
    let a : single_blocks n (from_page 7 held) ≡ 0 = ap one_if (none_below (from_page 7 held) n (λ q _. none (7 + q) (omega arith))) in
    let b : double_blocks n (from_page (7 + n) held) ≡ 0 = cond-false (some_below (from_page (7 + n) held) (n * n)) _ 0 (none_below (from_page (7 + n) held) (n * n) (λ q _. none (7 + n + q) (omega arith))) in
    let c : triple_blocks n (from_page (7 + n + n * n) held) ≡ 0 =
    cond-false (some_below (from_page (7 + n + n * n) held) (n * n * n)) _ 0 (none_below (from_page (7 + n + n * n) held) (n * n * n) (λ q _. none (7 + n + n * n + q) (omega arith))) in
    by (count_below held (page_limit n)) (single_blocks n (from_page 7 held)) (double_blocks n (from_page (7 + n) held)) (triple_blocks n (from_page (7 + n + n * n) held)) count a b c
  where
    by : (w x y z : ℕ) → w ≡ k → x ≡ 0 → y ≡ 0 → z ≡ 0 → w + x + y + z ≡ k
    by w x y z d a b c = omega (arith, a, b, c, d)

none_held : (limit : ℕ) → count_below (λ q. false) limit ≡ 0
none_held limit = none_counted (λ q. false) limit (none_below (λ q. false) limit (λ q _. refl))

no_page : (n : ℕ) → zones_needed n (λ q. false) ≡ 0
no_page n = few_pages n 0 (λ q. false) (λ q _. refl) (none_held (page_limit n))

one_page : (n : ℕ) (held : ℕ → Bool) → ((q : ℕ) → held q ≡ put (λ (k : ℕ). false) 0 true q) → zones_needed n held ≡ 1
one_page n held same =
    let one : count_below (put (λ (k : ℕ). false) 0 true) (page_limit n) ≡ 1 =
    (let c = count_put (λ q. false) 0 (page_limit n) (omega arith) in let z = none_held (page_limit n) in omega (arith, c, z)) in
    few_pages n 1 held (λ q l. same q ∙ put-other (λ (k : ℕ). false) 0 true q (omega (arith, l)))
    (ap (λ (f : ℕ → Bool). count_below f (page_limit n)) (λ t q. same q t) ∙ one)

-- the pages below 1, and page 0
below_one : (q : ℕ) → nat_lt q 1 ≡ put (λ (k : ℕ). false) 0 true q
below_one q = elim (cases_eq q 0) [
  | inl e ↦ lt-ltb q 1 (omega (arith, e)) ∙ sym (ap (put (λ (k : ℕ). false) 0 true) e ∙ put-same (λ (k : ℕ). false) 0 true)
  | inr d ↦ le-ltb q 1 (omega (arith, d)) ∙ sym (put-other (λ (k : ℕ). false) 0 true q d)
]

at_zero : (q : ℕ) → (q == 0) ≡ put (λ (k : ℕ). false) 0 true q
at_zero q = elim (cases_eq q 0) [
  | inl e ↦ eq-eqb q 0 e ∙ sym (ap (put (λ (k : ℕ). false) 0 true) e ∙ put-same (λ (k : ℕ). false) 0 true)
  | inr d ↦ ne_eqb q 0 d ∙ sym (put-other (λ (k : ℕ). false) 0 true q d)
]

-- a new file, a new directory, a new symbolic link
pub file_takes : (g : Geometry) (now permissions : ℕ) (user : User) → zones_of g (Some (new_node now user permissions 1 empty_file)) ≡ 0
file_takes g now permissions user = no_page (numbers_in_zone g)

pub directory_takes : (g : Geometry) (now permissions parent : ℕ) (user : User) → IsGeometry g → zones_of g (Some (new_node now user permissions 2 (empty_directory parent))) ≡ 1
directory_takes g now permissions parent user ok =
    let one : pages_of g 128 ≡ 1 = each_size (λ w. (128 + w - 1) / w ≡ 1) g.block_size ok.block_size (omega arith) (omega arith) (omega arith) in
    ap (λ k. zones_needed (numbers_in_zone g) (λ q. nat_lt q k)) one ∙ one_page (numbers_in_zone g) (λ q. nat_lt q 1) below_one

pub link_takes : (g : Geometry) (now : ℕ) (user : User) (target : List ℕ) → zones_of g (Some (new_link now user target)) ≡ 1
link_takes g now user target = one_page (numbers_in_zone g) (λ q. q == 0) at_zero

-- a directory by its body
pub by_directory : (P : Node → Type 0) (node : Node) → is_dir node ≡ true → ((d : Directory) → P (record node { body = is_directory d })) → P node
by_directory P node kind each = by node.body refl
  where
    by : (body : Body) → node.body ≡ body → P node
    by (is_file f) e = absurd (false_not_true (sym (ap (λ b. is_dir (record node { body = b })) e) ∙ kind))
    by (is_directory d) e = subst (λ (b : Body). P (record node { body = b })) (sym e) (each d)

-- a name more takes no zone less
pub name_takes_more : (g : Geometry) (x : Node) (name : Name) (n now : ℕ) → IsGeometry g → is_dir x ≡ true → inode_of (names_of (Some x)) name ≡ None
    → zones_of g (Some x) ≤ zones_of g (Some (with_names now (λ names. with_name names name n) x))
name_takes_more g x name n now ok kind = by_directory
    (λ (y : Node). inode_of (names_of (Some y)) name ≡ None → zones_of g (Some y) ≤ zones_of g (Some (with_names now (λ names. with_name names name n) y))) x kind (λ d free.
    let more = weigh_with_name (λ _. 1) name n d.names free in
    let a = weigh_one (with_name d.names name n) in
    let b = weigh_one d.names in
    let longer : length (with_name d.names name n) ≡ length d.names + 1 = omega (arith, more, a, b) in
    let grows = need_grows (numbers_in_zone g) (λ q. nat_lt q (pages_of g (64 * (length (with_name d.names name n) + 2)))) (λ q. nat_lt q (pages_of g (64 * (length d.names + 2))))
    (λ q low.
    let l = ltb-true q (pages_of g (64 * (length d.names + 2))) low in
    let wide = wider g.block_size (64 * (length d.names + 2)) (64 * (length (with_name d.names name n) + 2)) ok.block_size (omega (arith, longer)) in
    lt-ltb q (pages_of g (64 * (length (with_name d.names name n) + 2))) (omega (arith, l, wide))) in
    omega (arith, grows))
  where
    wider : (b s z : ℕ) → IsTrue (is_block_size b) → s ≤ z → (s + b - 1) / b ≤ (z + b - 1) / b
    wider b s z size l = each_size (λ w. (s + w - 1) / w ≤ (z + w - 1) / w) b size (omega (arith, l)) (omega (arith, l)) (omega (arith, l))

-- few zones hold a directory that may have a name more
pub directory_is_small : (g : Geometry) (x : Node) → IsGeometry g → is_dir x ≡ true → zones_of g (Some x) ≤ 65536 → size_of x.body + 64 ≤ 2147483647
directory_is_small g x ok kind = by_directory (λ (y : Node). zones_of g (Some y) ≤ 65536 → size_of y.body + 64 ≤ 2147483647) x kind (λ d few.
    let s = 64 * (length d.names + 2) in
    let pages = small (pages_of g s) few in
    each_size (λ w. (s + w - 1) / w ≤ 65536 → s + 64 ≤ 2147483647) g.block_size ok.block_size (λ l. omega (arith, l)) (λ l. omega (arith, l)) (λ l. omega (arith, l)) pages)
  where
    roomy : 65536 < page_limit (numbers_in_zone g)
    roomy = each_size (λ w. 65536 < page_limit (w / 4)) g.block_size ok.block_size (omega arith) (omega arith) (omega arith)

    counts : (held : ℕ → Bool) → count_below held (page_limit (numbers_in_zone g)) ≤ zones_needed (numbers_in_zone g) held
    counts held = omega arith

    small : (pages : ℕ) → zones_needed (numbers_in_zone g) (λ q. nat_lt q pages) ≤ 65536 → pages ≤ 65536
    small pages few =
        let c = counts (λ q. nat_lt q pages) in
        let r = roomy in
        elim (cases_lt (page_limit (numbers_in_zone g)) pages) [
          | inl past ↦ let all = count_all pages (page_limit (numbers_in_zone g)) (omega (arith, past)) in absurd (omega (arith, all, r, few, c))
          | inr within ↦ let all = count_first pages (page_limit (numbers_in_zone g)) within in omega (arith, all, few, c)
        ]
