-- Paths, the walk, and access.
use Rattle.std.specs.Prelude.{ℕ, zero, suc, ◌/◌, ◌%◌, List, [], ◌∷◌, ◌++◌, length, Bool, true, false, not, ◌&&◌, ◌||◌, ◌==◌, nat_lt}
use Rattle.std.specs.Prelude.{if◌then◌else◌, Option, None, Some, Result, Ok, Err}
use Rattle.std.specs.List.{list_any}
use Rattle.errno.specs.declared.Errno.{Errno}
use Rattle.errno.specs.declared.Errno.TheVariants.{ENOENT, EACCES, ENOTDIR, EINVAL, ENAMETOOLONG, ELOOP}
use Rattle.tree.specs.declared.User.{User}
use Rattle.tree.specs.declared.Start.{Start}
use Rattle.tree.specs.declared.Start.TheVariants.{Root, Inode}
use Rattle.tree.specs.declared.PathFrom.{PathFrom}
use Rattle.tree.specs.Names.{Name, most_name, same_name, dot, dot_dot, is_dots, Names, inode_of, has_name}
use Rattle.tree.specs.Flags.{has_bit}
use Rattle.tree.specs.Tree.{is_file, is_directory, Node, Tree, target_of, is_link_at}
use Rattle.tree.specs.Refusals.{◌>>=◌, or_refuse, refuse_if}

-- the parts between slashes (47), empty ones left out; `part` has the bytes so far of the present one
abbrev pub parts_after : Name → List ℕ → List Name
parts_after part [] = if length part == 0 then [] else part ∷ []
parts_after part (c ∷ cs) =
    if c == 47
    then (if length part == 0 then parts_after [] cs else part ∷ parts_after [] cs)
    else parts_after (part ++ c ∷ []) cs

-- the parts of a whole path
abbrev pub parts_of : List ℕ → List Name
parts_of path = parts_after [] path

-- the most bytes of a path
abbrev pub most_path : ℕ
most_path = 1024

-- such a path is read from the root on, wherever it starts
abbrev pub begins_with_slash : List ℕ → Bool
begins_with_slash [] = false
begins_with_slash (c ∷ cs) = c == 47

-- some part is longer than a name may be
abbrev pub has_long_part : List ℕ → Bool
has_long_part path = list_any (λ part. nat_lt most_name (length part)) (parts_of path)

-- a path starts at the root
abbrev pub is_root : Start → Bool
is_root Root = true
is_root (Inode n) = false

-- A path that was read: where its walk begins, and its parts.
pub record Way : Type 0 where
  pub start : Start
  pub parts : List Name

-- What a path means, or why it can't be read. Only one that starts at a node may be empty, or begin without a slash.
abbrev pub read_path : PathFrom → Result Way Errno
read_path path = do
  _ ← refuse_if (is_root path.start && (length path.bytes.now == 0)) ENOENT
  _ ← refuse_if (nat_lt most_path (length path.bytes.now)) ENAMETOOLONG
  _ ← refuse_if ((is_root path.start && not (begins_with_slash path.bytes.now)) || list_any (λ c. c == 0) path.bytes.now) EINVAL
  _ ← refuse_if (has_long_part path.bytes.now) ENAMETOOLONG
  Ok (record { start = if begins_with_slash path.bytes.now then Root else path.start; parts = parts_of path.bytes.now })

-- the three bits that speak for the user: the owner's, else the group's, else the others'
abbrev pub bits_for : User → Node → ℕ
bits_for user node =
    if user.uid == node.uid then node.permissions / 64 % 8 else
    if user.gid == node.gid then node.permissions / 8 % 8 else node.permissions % 8

-- the bit of a wish to read
abbrev pub to_read : ℕ
to_read = 4

-- to write, or to change a directory's names
abbrev pub to_write : ℕ
to_write = 2

-- to search a directory
abbrev pub to_search : ℕ
to_search = 1

-- whether the user may do what it wishes with the node; user 0 may do all
abbrev pub may_access : User → Node → ℕ → Bool
may_access user node wish = (user.uid == 0) || has_bit (bits_for user node) wish

-- the owner of a node, and user 0
abbrev pub is_owner : User → Node → Bool
is_owner user node = (user.uid == 0) || (user.uid == node.uid)

-- The parent and the names of a directory that the user may search. Names lead to nodes, so ENOENT isn't met here.
abbrev pub enter : User → Option Node → Result (ℕ × Names) Errno
enter user None = Err ENOENT
enter user (Some node) = elim node.body [
  | is_file f ↦ Err ENOTDIR
  | is_directory d ↦ if may_access user node to_search then Ok (d.parent, d.names) else Err EACCES
]

-- the node to which a part leads from a directory: . stays, .. goes to the parent
abbrev pub next : ℕ → ℕ → Names → Name → Result ℕ Errno
next here parent names part =
    if same_name part dot then Ok here else
    if same_name part dot_dot then Ok parent else or_refuse (inode_of names part) ENOENT

-- where a walk ends that met a link: the directory where it stands, its target, and the parts that follow
abbrev pub Follow : Type 0
Follow = ℕ → List ℕ → List Name → Result ℕ Errno

-- the node to which the parts lead from a node; where one leads to a link, the walk goes on as `follow` says
abbrev pub walk_from : Tree → User → Follow → ℕ → List Name → Result ℕ Errno
walk_from t user follow here [] = Ok here
walk_from t user follow here (part ∷ parts) = do
  dir ← enter user (t.nodes here)
  there ← next here dir.0 dir.1 part
  elim (target_of (t.nodes there)) [ None ↦ walk_from t user follow there parts | Some target ↦ follow here target parts ]

-- a target that begins with a slash is read from the root on, another from the directory where its link stands
abbrev pub start_of : ℕ → List ℕ → ℕ
start_of here target = if begins_with_slash target then 1 else here

-- a walk that may follow k links more: the target's parts are walked, then the rest
abbrev pub follow_links : Tree → User → ℕ → Follow
follow_links t user zero here target parts = Err ELOOP
follow_links t user (suc k) here target parts = do
  _ ← refuse_if (has_long_part target) ENAMETOOLONG
  walk_from t user (follow_links t user k) (start_of here target) (parts_of target ++ parts)

-- links that one walk follows; the next is ELOOP
abbrev pub most_followed : ℕ
most_followed = 8

-- The node of a number that a walk, a name or an open file gave is there, so ENOENT isn't met then; that of a start may be missing.
abbrev pub node_at : Tree → ℕ → Result Node Errno
node_at t n = or_refuse (t.nodes n) ENOENT

-- The node where a walk begins. The root is there; another node has to be, and as no directory above it is searched it is for user 0 alone.
abbrev pub first_node : Tree → User → Start → Result ℕ Errno
first_node t user Root = Ok 1
first_node t user (Inode n) = do
  _ ← refuse_if (not (user.uid == 0)) EACCES
  _ ← node_at t n
  Ok n

-- The node to which a way leads; a link that stands last is followed too. A way without parts leads to its start, be it a link.
abbrev pub walk_parts : Tree → User → Way → Result ℕ Errno
walk_parts t user way = first_node t user way.start >>= λ here. walk_from t user (follow_links t user most_followed) here way.parts

-- the node that a path leads to
abbrev pub walk : Tree → User → PathFrom → Result ℕ Errno
walk t user path = read_path path >>= walk_parts t user

-- A place for a name: a directory, its names at the time of the walk, and the last part of the path. A later
-- change of the directory leaves `names` as they were.
pub record Place : Type 0 where
  pub directory : ℕ
  pub names : Names
  pub name : Name

-- the last part, or an empty one
abbrev pub last_part : List Name → Name
last_part [] = []
last_part (x ∷ []) = x
last_part (x ∷ y ∷ ys) = last_part (y ∷ ys)

-- the parts before the last
abbrev pub all_but_last : List Name → List Name
all_but_last [] = []
all_but_last (x ∷ []) = []
all_but_last (x ∷ y ∷ ys) = x ∷ all_but_last (y ∷ ys)

-- a path whose last part is missing, . or .. has no last name
abbrev pub has_last_name : Way → Bool
has_last_name way = not (length (last_part way.parts) == 0) && not (is_dots (last_part way.parts))

-- the way to the directory of the last part
abbrev pub parent_way : Way → Way
parent_way way = record way { parts = all_but_last way.parts }

-- the place that a path means: the walk of all parts but the last ends at a directory that the user may search
abbrev pub parent_walk : Tree → User → Way → Result Place Errno
parent_walk t user way = do
  here ← walk_parts t user (parent_way way)
  dir ← enter user (t.nodes here)
  Ok (record { directory = here; names = dir.1; name = last_part way.parts })

-- a node is there already; a path without a last name leads to a directory
abbrev pub is_taken : Place → Way → Bool
is_taken place way = not (has_last_name way) || has_name place.names place.name

-- What a path finds for open: a node, or the place where its last name is missing.
pub data Found : Type 0 where
  is_there : ℕ → Found
  is_missing : Place → Found

-- what a place has
abbrev pub found_at : Place → Found
found_at place = elim (inode_of place.names place.name) [ None ↦ is_missing place | Some n ↦ is_there n ]

-- what a path finds, a link that stands last too; the walk's refusals come first
abbrev pub look_up : Tree → User → Way → Result Found Errno
look_up t user way =
    if has_last_name way
    then (parent_walk t user way >>= λ place. Ok (found_at place))
    else (walk_parts t user way >>= λ n. Ok (is_there n))

-- the node that is found, or the refusal of a name that is missing
abbrev pub found_or : Found → Errno → Result ℕ Errno
found_or (is_there n) e = Ok n
found_or (is_missing place) e = Err e

-- the node to which a way leads, where a link that stands last isn't followed
abbrev pub walk_to_last : Tree → User → Way → Result ℕ Errno
walk_to_last t user way = look_up t user way >>= λ found. found_or found ENOENT

-- a link that stands last
abbrev pub finds_link : Tree → Found → Bool
finds_link t (is_there n) = is_link_at t.nodes n
finds_link t (is_missing place) = false

-- what a path finds for open: where a link stands last, what the whole path leads to; the link itself where it isn't to be followed
abbrev pub open_look_up : Tree → User → Bool → Way → Result Found Errno
open_look_up t user as_is way = do
  found ← look_up t user way
  if not as_is && finds_link t found then (walk_parts t user way >>= λ n. Ok (is_there n)) else Ok found
