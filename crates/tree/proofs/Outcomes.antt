-- What holds of each refusal, and of each success, of a call holds of the call. A call is looked at on volumes of all sizes
-- at once: an effect for each number of zones.
use Rattle.std.proofs.Common.{◌≡◌, ◌≤◌, ◌+◌, ◌-◌, ℕ, Bool, true, false, refl, sym, ap, subst, ◌∙◌, arith, length}
use mathlib.Core.Logic.{inl, inr, ◌⊎◌}
use Rattle.std.specs.Prelude.{Option, None, Some, is_some, is_none, IsTrue, Result, Ok, Err, not, ◌==◌, ◌||◌, ◌&&◌, nat_lt, if◌then◌else◌}
use Rattle.std.specs.List.{list_any}
use Rattle.std.proofs.lemmas.Bool.{cases_Bool, cond_both, cond-true, cond-false, eq-eqb, ne_eqb}
use Rattle.lemmas.proofs.Bools.{false_not_true}
use Rattle.layout.specs.declared.Geometry.{Geometry}
use Rattle.errno.specs.declared.Errno.{Errno}
use Rattle.errno.specs.declared.Errno.TheVariants.{ENOENT, EACCES, EINVAL, ENAMETOOLONG, ENOSPC}
use Rattle.tree.specs.declared.PathFrom.{PathFrom}
use Rattle.tree.specs.declared.Start.{Start}
use Rattle.tree.specs.declared.Start.TheVariants.{Root, Inode}
use Rattle.tree.specs.declared.User.{User}
use Rattle.lemmas.specs.Sums.{some_below, least_below}
use Rattle.tree.specs.Names.{Name, Names, same_name, dot, dot_dot, inode_of}
use Rattle.tree.specs.Tree.{Body, is_file, is_directory, Node, Tree}
use Rattle.tree.specs.Refusals.{◌>>=◌, or_refuse, refuse_if, free_place}
use Rattle.tree.specs.Walk.{is_root, first_node, parent_way, has_long_part, read_path, parts_of, begins_with_slash, most_path, enter, next, walk_parts, walk, node_at, parent_walk, Way}
use Rattle.tree.specs.Walk.{has_last_name, last_part, Found, is_there, is_missing, found_at, found_or, finds_link, look_up}
use Rattle.tree.specs.Walk.{open_look_up, walk_to_last, may_access, to_search}
use Rattle.tree.specs.Changes.{free_inode}
use Rattle.tree.specs.Answers.{Effect}
pub use Rattle.tree.specs.Room.{with_zones, NoInodeFree}
use Rattle.tree.proofs.Walks.{walks_keep}
use Rattle.tree.proofs.Search.{found_below, least_is_one, least_is_end, free_place_is}

-- the refusal for want of room
abbrev pub is_enospc : Errno → Bool
is_enospc ENOSPC = true
is_enospc _ = false

-- a result that isn't refused for want of room
abbrev pub is_plain : {A : Type 0} → Result A Errno → Bool
is_plain (Ok x) = true
is_plain (Err e) = not (is_enospc e)

-- an effect for each number of zones
abbrev pub Effects : Type 0
Effects = ℕ → Effect

-- P holds after a step where it holds for each value of the step
abbrev pub IsClosed : (Effects → Type 0) → Type 1
IsClosed P = (A : Type 0) (r : Result A Errno) (f : A → Effects) → is_plain r ≡ true → ((x : A) → r ≡ Ok x → P (f x)) → P (λ z. r >>= λ x. f x z)

-- Steps that don't ask for room.

-- a test
pub plain_refuse : (b : Bool) (e : Errno) → is_enospc e ≡ false → is_plain (refuse_if b e) ≡ true
plain_refuse true e h = ap not h
plain_refuse false e h = refl

-- a value that may be missing
pub plain_or : {A : Type 0} (o : Option A) (e : Errno) → is_enospc e ≡ false → is_plain (or_refuse o e) ≡ true
plain_or None e h = ap not h
plain_or (Some x) e h = refl

-- a step after a step
pub plain_bind : {A B : Type 0} (r : Result A Errno) (f : A → Result B Errno) → is_plain r ≡ true → ((x : A) → is_plain (f x) ≡ true) → is_plain (r >>= f) ≡ true
plain_bind (Ok x) f p h = h x
plain_bind (Err e) f p h = p

-- a search for a free place
pub plain_free_place : {A : Type 0} (f : ℕ → Option A) (limit : ℕ) (e : Errno) → is_enospc e ≡ false → is_plain (free_place f limit e) ≡ true
plain_free_place f limit e h =
    let k = least_below (λ j. is_none (f j)) limit in
    cond_both (k == limit) (Err e) (Ok k) (λ r. is_plain r ≡ true) (λ _. ap not h) (λ _. refl)

-- a node
pub plain_node : (t : Tree) (n : ℕ) → is_plain (node_at t n) ≡ true
plain_node t n = plain_or (t.nodes n) ENOENT refl

-- a directory that is entered, by its body
enter_in : (user : User) (body : Body) (node : Node) → is_plain (enter user (Some (record node { body = body }))) ≡ true
enter_in user (is_file f) node = refl
enter_in user (is_directory d) node = cond_both (may_access user (record node { body = is_directory d }) to_search) (Ok (d.parent, d.names)) (Err EACCES) (λ r. is_plain r ≡ true) (λ _. refl) (λ _. refl)

-- a directory that is entered
plain_enter : (user : User) (o : Option Node) → is_plain (enter user o) ≡ true
plain_enter user None = refl
plain_enter user (Some node) = enter_in user node.body node

-- one part of a path
plain_next : (here parent : ℕ) (names : Names) (part : Name) → is_plain (next here parent names part) ≡ true
plain_next here parent names part =
    cond_both (same_name part dot) (Ok here) _ (λ r. is_plain r ≡ true) (λ _. refl) (λ _.
    cond_both (same_name part dot_dot) (Ok parent) (or_refuse (inode_of names part) ENOENT) (λ r. is_plain r ≡ true) (λ _. refl) (λ _. plain_or (inode_of names part) ENOENT refl))

-- one step of a walk
plain_step : (t : Tree) (user : User) (here : ℕ) (part : Name) → is_plain (enter user (t.nodes here) >>= λ dir. next here dir.0 dir.1 part)
    ≡ true
plain_step t user here part = plain_bind (enter user (t.nodes here)) (λ dir. next here dir.0 dir.1 part) (plain_enter user (t.nodes here))
    (λ dir. plain_next here dir.0 dir.1 part)

-- the node where a walk begins
plain_first : (t : Tree) (user : User) (start : Start) → is_plain (first_node t user start) ≡ true
plain_first t user Root = refl
plain_first t user (Inode n) =
    plain_bind (refuse_if (not (user.uid == 0)) EACCES) (λ _. node_at t n >>= λ _. Ok n) (plain_refuse _ _ refl) (λ _.
    plain_bind (node_at t n) (λ _. Ok n) (plain_node t n) (λ _. refl))

-- a walk
pub plain_walk_parts : (t : Tree) (user : User) (way : Way) → is_plain (walk_parts t user way) ≡ true
plain_walk_parts t user way = walks_keep t user (λ _. Unit {0}) (λ r. is_plain r ≡ true) (record {
  root = tt;
  steps = λ here there part at is none. tt;
  refused = λ here part e is. subst (λ r. is_plain r ≡ true) is (plain_step t user here part);
  looping = refl;
  long = refl;
  reached = λ here at. refl;
}) way (λ n is. tt) (λ e is. subst (λ r. is_plain r ≡ true) is (plain_first t user way.start))

-- a path that is read
pub plain_read : (path : PathFrom) → is_plain (read_path path) ≡ true
plain_read path =
    plain_bind (refuse_if (is_root path.start && (length path.bytes.now == 0)) ENOENT) (λ _. from_some) (plain_refuse _ ENOENT refl) (λ _.
    plain_bind (refuse_if (nat_lt most_path (length path.bytes.now)) ENAMETOOLONG) (λ _. from_fitting) (plain_refuse _ ENAMETOOLONG refl) (λ _.
    plain_bind (refuse_if ((is_root path.start && not (begins_with_slash path.bytes.now)) || list_any (λ c. c == 0) path.bytes.now) EINVAL) (λ _. from_clean) (plain_refuse _ EINVAL refl) (λ _.
    plain_bind (refuse_if (has_long_part path.bytes.now) ENAMETOOLONG) (λ _. from_short) (plain_refuse _ ENAMETOOLONG refl) (λ _. refl))))
  where
    from_short : Result Way Errno
    from_short = Ok (record { start = if begins_with_slash path.bytes.now then Root else path.start; parts = parts_of path.bytes.now })

    from_clean : Result Way Errno
    from_clean = refuse_if (has_long_part path.bytes.now) ENAMETOOLONG >>= λ _. from_short

    from_fitting : Result Way Errno
    from_fitting = refuse_if ((is_root path.start && not (begins_with_slash path.bytes.now)) || list_any (λ c. c == 0) path.bytes.now) EINVAL >>= λ _. from_clean

    from_some : Result Way Errno
    from_some = refuse_if (nat_lt most_path (length path.bytes.now)) ENAMETOOLONG >>= λ _. from_fitting

-- a walk along a path
pub plain_walk : (t : Tree) (user : User) (path : PathFrom) → is_plain (walk t user path) ≡ true
plain_walk t user path = plain_bind (read_path path) (walk_parts t user) (plain_read path) (plain_walk_parts t user)

-- a walk to a place
pub plain_parent_walk : (t : Tree) (user : User) (parts : Way) → is_plain (parent_walk t user parts) ≡ true
plain_parent_walk t user parts =
    plain_bind (walk_parts t user (parent_way parts)) (λ here. enter user (t.nodes here) >>= λ dir. Ok (record { directory = here; names = dir.1; name = last_part parts.parts })) (plain_walk_parts t user (parent_way parts)) (λ here.
    plain_bind (enter user (t.nodes here)) (λ dir. Ok (record { directory = here; names = dir.1; name = last_part parts.parts })) (plain_enter user (t.nodes here)) (λ dir. refl))

-- a look-up
pub plain_look_up : (t : Tree) (user : User) (parts : Way) → is_plain (look_up t user parts) ≡ true
plain_look_up t user parts =
    cond_both (has_last_name parts) (parent_walk t user parts >>= λ place. Ok (found_at place)) (walk_parts t user parts >>= λ n. Ok (is_there n)) (λ r. is_plain r ≡ true)
    (λ _. plain_bind (parent_walk t user parts) (λ place. Ok (found_at place)) (plain_parent_walk t user parts) (λ place. refl))
    (λ _. plain_bind (walk_parts t user parts) (λ n. Ok (is_there n)) (plain_walk_parts t user parts) (λ n. refl))

-- what was found, or a refusal
plain_found : (found : Found) → is_plain (found_or found ENOENT) ≡ true
plain_found (is_there n) = refl
plain_found (is_missing place) = refl

-- a walk that doesn't follow its last part
pub plain_walk_to_last : (t : Tree) (user : User) (parts : Way) → is_plain (walk_to_last t user parts) ≡ true
plain_walk_to_last t user parts = plain_bind (look_up t user parts) (λ found. found_or found ENOENT) (plain_look_up t user parts)
    (λ found. plain_found found)

-- a look-up for open
pub plain_open_look_up : (t : Tree) (user : User) (as_is : Bool) (parts : Way) → is_plain (open_look_up t user as_is parts) ≡ true
plain_open_look_up t user as_is parts =
    plain_bind (look_up t user parts) (λ found. if not as_is && finds_link t found then (walk_parts t user parts >>= λ n. Ok (is_there n))
    else Ok found) (plain_look_up t user parts) (λ found.
    cond_both (not as_is && finds_link t found) (walk_parts t user parts >>= λ n. Ok (is_there n)) (Ok found) (λ r. is_plain r ≡ true)
    (λ _. plain_bind (walk_parts t user parts) (λ n. Ok (is_there n)) (plain_walk_parts t user parts) (λ n. refl)) (λ _. refl))

-- The one that does: the least inode that is free.

pub record IsFree (g : Geometry) (t : Tree) (n : ℕ) : Type 0 where
  pub from : 1 ≤ n
  pub to : n ≤ g.inodes
  pub nothing : t.nodes n ≡ None

-- what is not None is there
some_or_none : {A : Type 0} (o : Option A) → is_none o ≡ false → IsTrue (is_some o)
some_or_none None h = absurd (false_not_true (sym h))
some_or_none (Some x) h = refl

-- where no place is free, each is taken
all_taken : (g : Geometry) (t : Tree) → some_below (λ j. is_none (t.nodes (1 + j))) g.inodes ≡ false → NoInodeFree g t
all_taken g t h n from to = some_or_none (t.nodes n) (elim (cases_Bool (is_none (t.nodes n))) [
  | inr f ↦ f
  | inl none ↦
      let is : 1 + (n - 1) ≡ n = omega (arith, from) in
      absurd (false_not_true (sym h ∙ found_below (λ j. is_none (t.nodes (1 + j))) g.inodes (n - 1) (omega (arith, from, to)) (ap (λ k. is_none (t.nodes k)) is ∙ none)))
])

-- an inode is free, or none is
pub free_inode_is : (g : Geometry) (t : Tree) → ((free_inode g t ≡ Err ENOSPC) × NoInodeFree g t) ⊎ ((n : ℕ) × (free_inode g t ≡ Ok n) × IsFree g t n)
free_inode_is g t = let p = λ (j : ℕ). is_none (t.nodes (1 + j)) in elim (cases_Bool (some_below p g.inodes)) [
  | inl s ↦
      let k = least_below p g.inodes in
      let below = (least_is_one p g.inodes s).0 in
      let is : free_place (λ j. t.nodes (1 + j)) g.inodes ENOSPC ≡ Ok k = cond-false (k == g.inodes) (Err ENOSPC) (Ok k) (ne_eqb k g.inodes (λ e. absurd (omega (arith, below, e)))) in
      let free = free_place_is (λ j. t.nodes (1 + j)) g.inodes ENOSPC k is in
      inr (1 + k, ap (λ r. r >>= λ j. Ok (1 + j)) is, record { from = omega arith; to = omega (arith, free.0); nothing = free.1 })
  | inr s ↦
      let k = least_below p g.inodes in
      let is : free_place (λ j. t.nodes (1 + j)) g.inodes ENOSPC ≡ Err ENOSPC = cond-true (k == g.inodes) (Err ENOSPC) (Ok k) (eq-eqb k g.inodes (least_is_end p g.inodes s)) in
      inl (ap (λ r. r >>= λ j. Ok (1 + j)) is, all_taken g t s)
]

-- what holds where none is free, and where one is, holds after the step
pub at_free_inode : (g : Geometry) (t : Tree) (P : Effects → Type 0) (f : ℕ → Effects) → (NoInodeFree g t → P (λ z. Err ENOSPC)) → ((n : ℕ) → IsFree g t n → P (f n))
    → P (λ z. free_inode g t >>= λ n. f n z)
at_free_inode g t P f full free = elim (free_inode_is g t) [
  | inl h ↦ subst (λ r. P (λ z. r >>= λ n. f n z)) (sym h.0) (full h.1)
  | inr h ↦ subst (λ r. P (λ z. r >>= λ n. f n z)) (sym h.1) (free h.0 h.2)
]
