-- Fewer held pages need no more zones, and nodes that hold fewer use no more.
use Rattle.std.proofs.Common.{◌≡◌, ◌≤◌, ◌<◌, ◌+◌, ◌-◌, ◌*◌, ℕ, zero, suc, Bool, true, false, refl, ap, ◌∙◌, arith, [], ◌∷◌, length}
use mathlib.Core.Logic.{inl, inr}
use Rattle.std.specs.Prelude.{Option, None, Some, nat_lt, not, ◌&&◌, if◌then◌else◌}
use Rattle.std.specs.Ordering.{eq_by_cmp}
use Rattle.std.proofs.Math.Nat.{div-mul-le_self, le-div_iff_mul-le}
use Rattle.std.proofs.lemmas.Bool.{cases_eq, cond_both, cond-true, and_parts, ltb-true, lt-ltb}
use Rattle.layout.specs.declared.Geometry.{Geometry}
use Rattle.lemmas.specs.Sums.{sum_below, count_below, some_below, one_if, put}
use Rattle.tree.specs.ZonesNeeded.{page_limit, from_page, quotients, zones_needed}
use Rattle.tree.specs.Names.{Name, Names, name_cmp, without_name}
use Rattle.tree.specs.Tree.{Body, File, is_file, is_directory, Node, Tree, size_of, with_node, on_node, is_open}
use Rattle.tree.specs.Space.{numbers_in_zone, pages_of, zones_of, zones_used}
use Rattle.tree.specs.Walk.{Place}
use Rattle.tree.specs.Changes.{with_names, with_body, without_nameless, has_no_link, file_after_resize}
use Rattle.tree.specs.NameCalls.{without_entry}
use Rattle.lemmas.proofs.Maps.{put-same, put-other}
use Rattle.tree.proofs.Search.{found_below, one_below}
use Rattle.tree.proofs.Views.{on_node_is}

-- Sums and searches.

-- a sum of parts that are no more
pub sum_less : (f h : ℕ → ℕ) (n : ℕ) → ((k : ℕ) → f k ≤ h k) → sum_below f n ≤ sum_below h n
unfolding sum_below
sum_less f h zero less = omega arith
sum_less f h (suc n) less = let front = sum_less f h n less in let last = less n in omega (arith, front, last)

-- a test that implies another
one_if_less : (b c : Bool) → (b ≡ true → c ≡ true) → one_if b ≤ one_if c
one_if_less false c h = omega arith
one_if_less true c h = let one : one_if c ≡ 1 = ap one_if (h refl) in omega (arith, one)

-- a search for what implies another
pub some_less : (p q : ℕ → Bool) (n : ℕ) → ((k : ℕ) → p k ≡ true → q k ≡ true) → some_below p n ≡ true → some_below q n ≡ true
some_less p q n less h = let one = one_below p n h in found_below q n one.0 one.1 (less one.0 one.2)

-- a count of what implies another
count_less : (p q : ℕ → Bool) (n : ℕ) → ((k : ℕ) → p k ≡ true → q k ≡ true) → count_below p n ≤ count_below q n
count_less p q n less = sum_less (λ k. one_if (p k)) (λ k. one_if (q k)) n (λ k. one_if_less (p k) (q k) (less k))

-- fewer pages lie in no more blocks
quotients_less : (p q : ℕ → Bool) (width n : ℕ) → ((k : ℕ) → p k ≡ true → q k ≡ true) → quotients p width n ≤ quotients q width n
quotients_less p q width n less =
    count_less (λ k. some_below (λ j. p (k * width + j)) width) (λ k. some_below (λ j. q (k * width + j)) width) n
    (λ k. some_less (λ j. p (k * width + j)) (λ j. q (k * width + j)) width (λ j. less (k * width + j)))

-- a number behind a test
if_less : (b c : Bool) (x y : ℕ) → (b ≡ true → c ≡ true) → x ≤ y → (if b then x else 0) ≤ (if c then y else 0)
if_less false c x y h l = omega arith
if_less true c x y h l = let is : (if c then y else 0) ≡ y = cond-true c y 0 (h refl) in omega (arith, is, l)

-- fewer pages need no more zones
pub fewer_needed : (n : ℕ) (more fewer : ℕ → Bool) → ((q : ℕ) → fewer q ≡ true → more q ≡ true) → zones_needed n fewer ≤ zones_needed n more
fewer_needed n more fewer less =
    let pages = count_less fewer more (page_limit n) less in
    let single = one_if_less (some_below (from_page 7 fewer) n) (some_below (from_page 7 more) n) (some_less (from_page 7 fewer) (from_page 7 more) n (from 7)) in
    let double = if_less (some_below (from_page (7 + n) fewer) (n * n)) (some_below (from_page (7 + n) more) (n * n))
    (1 + quotients (from_page (7 + n) fewer) n n) (1 + quotients (from_page (7 + n) more) n n)
    (some_less (from_page (7 + n) fewer) (from_page (7 + n) more) (n * n) (from (7 + n)))
    (let q = quotients_less (from_page (7 + n) fewer) (from_page (7 + n) more) n n (from (7 + n)) in omega (arith, q)) in
    let s = 7 + n + n * n in
    let triple = if_less (some_below (from_page s fewer) (n * n * n)) (some_below (from_page s more) (n * n * n))
    (1 + quotients (from_page s fewer) (n * n) n + quotients (from_page s fewer) n (n * n))
    (1 + quotients (from_page s more) (n * n) n + quotients (from_page s more) n (n * n))
    (some_less (from_page s fewer) (from_page s more) (n * n * n) (from s))
    (let q = quotients_less (from_page s fewer) (from_page s more) (n * n) n (from s) in let r = quotients_less (from_page s fewer) (from_page s more) n (n * n) (from s) in omega (arith, q, r)) in
    four_less pages single double triple
  where
    from : (start k : ℕ) → from_page start fewer k ≡ true → from_page start more k ≡ true
    from start k h = less (start + k) h

    four_less : {a b c d x y z u : ℕ} → a ≤ x → b ≤ y → c ≤ z → d ≤ u → a + b + c + d ≤ x + y + z + u
    four_less p q r s = omega (arith, p, q, r, s)

-- Nodes.

-- nodes that each use no more
pub nodes_less : (g : Geometry) (t u : Tree) → ((m : ℕ) → zones_of g (u.nodes m) ≤ zones_of g (t.nodes m)) → zones_used g u ≤ zones_used g t
nodes_less g t u less = sum_less (λ m. zones_of g (u.nodes m)) (λ m. zones_of g (t.nodes m)) (g.inodes + 1) less

-- one node that uses no more
put_less : (g : Geometry) (nodes : ℕ → Option Node) (n : ℕ) (o : Option Node) → zones_of g o ≤ zones_of g (nodes n) → (m : ℕ) → zones_of g (put nodes n o m) ≤ zones_of g (nodes m)
put_less g nodes n o l m = elim (cases_eq m n) [
  | inl e ↦ let is = ap (zones_of g) (ap (put nodes n o) e ∙ put-same nodes n o) in let was = ap (λ k. zones_of g (nodes k)) e in omega (arith, is, was, l)
  | inr d ↦ let same = ap (zones_of g) (put-other nodes n o m d) in omega (arith, same)
]

-- a tree with a node that uses no more
pub with_node_less : (g : Geometry) (t : Tree) (n : ℕ) (o : Option Node) → zones_of g o ≤ zones_of g (t.nodes n) → zones_used g (with_node t n o) ≤ zones_used g t
with_node_less g t n o l = nodes_less g t (with_node t n o) (put_less g t.nodes n o l)

-- a tree whose node is changed and uses no more
pub on_node_less : (g : Geometry) (t : Tree) (n : ℕ) (f : Node → Node) → ((node : Node) → zones_of g (Some (f node)) ≤ zones_of g (Some node)) → zones_used g (on_node t n f) ≤ zones_used g t
on_node_less g t n f less = on_node_is t n f (λ u. zones_used g u ≤ zones_used g t) (omega arith)
    (λ node e. with_node_less g t n (Some (f node)) (let l = less node in let is = ap (zones_of g) e in omega (arith, l, is)))

-- a nameless node that goes
pub nameless_less : (g : Geometry) (t : Tree) (n : ℕ) → zones_used g (without_nameless t n) ≤ zones_used g t
nameless_less g t n =
    cond_both (has_no_link (t.nodes n) && not (is_open t n)) (with_node t n None) t (λ u. zones_used g u ≤ zones_used g t)
    (λ _. with_node_less g t n None (omega arith)) (λ _. omega arith)

-- A file of another size, and a directory without a name.

-- a file of another size holds no page more
pub resized_less : (g : Geometry) (now size : ℕ) (node : Node) (f : File) → node.body ≡ is_file f
    → zones_of g (Some (with_body now (is_file (file_after_resize g f size)) node)) ≤ zones_of g (Some node)
resized_less g now size node f e =
    let less = fewer_needed (numbers_in_zone g) f.held (λ q. f.held q && nat_lt (q * g.block_size) size) (λ q h. (and_parts (f.held q) (nat_lt (q * g.block_size) size) h).0) in
    let is : zones_of g (Some node) ≡ zones_needed (numbers_in_zone g) f.held = ap (λ b. zones_of g (Some (record node { body = b }))) e in
    omega (arith, less, is)

-- names without one are no more
length_less : (name : Name) (es : Names) → length (without_name es name) ≤ length es
length_less name [] = omega arith
length_less name (e ∷ es) =
    let rest = length_less name es in
    cond_both (not (eq_by_cmp name_cmp name e.0)) (e ∷ without_name es name) (without_name es name) (λ xs. length xs ≤ suc (length es)) (λ _. omega (arith, rest)) (λ _. omega (arith, rest))

-- fewer bytes cover no more pages
pages_less : (g : Geometry) → 0 < g.block_size → (a b : ℕ) → a ≤ b → pages_of g a ≤ pages_of g b
pages_less g sized a b l =
    let part = div-mul-le_self (a + g.block_size - 1) g.block_size in
    (le-div_iff_mul-le {k = g.block_size} {x = pages_of g a} {y = b + g.block_size - 1} sized).1 (omega (arith, part, l))

-- a directory without a name uses no more
entry_less_in : (g : Geometry) → 0 < g.block_size → (now : ℕ) (name : Name) (body : Body) (node : Node)
    → zones_of g (Some (with_names now (λ names. without_name names name) (record node { body = body }))) ≤ zones_of g (Some (record node { body = body }))
entry_less_in g sized now name (is_file f) node = omega arith
entry_less_in g sized now name (is_directory d) node =
    let small = size_of (is_directory (record d { names = without_name d.names name })) in
    let big = size_of (is_directory d) in
    let pages = pages_less g sized small big (let l = length_less name d.names in omega (arith, l)) in
    fewer_needed (numbers_in_zone g) (λ q. nat_lt q (pages_of g big)) (λ q. nat_lt q (pages_of g small))
    (λ q h. let below = ltb-true q (pages_of g small) h in lt-ltb q (pages_of g big) (omega (arith, below, pages)))

-- a tree without a name
pub without_entry_less : (g : Geometry) → 0 < g.block_size → (t : Tree) (now : ℕ) (place : Place) → zones_used g (without_entry t now place) ≤ zones_used g t
without_entry_less g sized t now place = on_node_less g t place.directory _ (λ node. entry_less_in g sized now place.name node.body node)
