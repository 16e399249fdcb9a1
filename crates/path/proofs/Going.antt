-- From node to node of a tree that a volume holds.
use Rattle.std.proofs.Common.{◌≡◌, ◌≤◌, ◌/◌, ℕ, true, false, Option, Some, None, refl, sym, ap, subst, ◌∙◌, arith, inl, inr}
use Rattle.std.specs.Prelude.{◌==◌, List, ◌∷◌, Result, Ok, Err, IsTrue, is_some, if◌then◌else◌}
use Rattle.std.proofs.lemmas.Bool.{cases_Bool, cond-true, cond-false, and_parts, eqb-true, eqb-false}
use Rattle.errno.specs.declared.Errno.{Errno}
use Rattle.errno.specs.declared.Errno.TheVariants.{ENOENT}
use Rattle.layout.specs.declared.Geometry.{Geometry}
use Rattle.tree.specs.declared.User.{User}
use Rattle.tree.specs.Names.{Name, Names, same_name, dot, dot_dot, inode_of}
use Rattle.tree.specs.Tree.{Body, is_file, is_directory, Node, Tree, target_of, names_of, parent_of, is_dir_at, is_dir}
use Rattle.tree.specs.IsTree.{NodesAgree, names_to}
use Rattle.tree.specs.Refusals.{◌>>=◌, or_refuse}
use Rattle.tree.specs.Walk.{Follow, enter, next, walk_from}
use Rattle.volume.specs.declared.Inode.{Inode}
use Rattle.volume.specs.Entries.{is_directory_inode, entry_count}
use Rattle.volume.specs.Holds.{Holds}
use Rattle.volume.specs.Nodes.{directory_of, file_of, is_directory_mode, is_marked, node_of}
use Rattle.volume.specs.Pieces.{Pieces, pieces}
use Rattle.volume.specs.Reading.{Disk}
use Rattle.path.specs.Walking.{Entered, IsDirectoryAt, step, StepsTo, IsThere}

-- a directory is there
pub dir_is_there : (o : Option Node) → IsTrue (elim o [ None ↦ false | Some node ↦ is_dir node ]) → IsTrue (is_some o)
dir_is_there None h = h
dir_is_there (Some node) h = refl

-- what has a name is there
named_is_there : (n : ℕ) (o : Option Node) → names_to n (names_of o) ≡ 1 → IsTrue (is_some o)
named_is_there n None h = absurd (omega (arith, h))
named_is_there n (Some node) h = refl

-- the parent of a directory is there
parent_is_there : (g : Geometry) (nodes : ℕ → Option Node) (n : ℕ) → NodesAgree g nodes → IsTrue (is_dir_at nodes n) → IsTrue (is_some (nodes (parent_of (nodes n))))
parent_is_there g nodes n agree directory = elim (cases_Bool (n == 1)) [
  | inl e ↦ subst (λ (m : ℕ). IsTrue (is_some (nodes m))) (sym (ap (λ (m : ℕ). parent_of (nodes m)) (eqb-true n 1 e) ∙ agree.root_parent)) (dir_is_there (nodes 1) agree.root)
  | inr e ↦ named_is_there n (nodes (parent_of (nodes n))) (agree.placed n (eqb-false n 1 e) directory).in_parent
]

-- the parent, the names and the kind of a node with this body
same_parent : (node : Node) (p : ℕ) (names : Names) → node.body ≡ is_directory (record { parent = p; names = names }) → parent_of (Some node) ≡ p
same_parent node p names e = ap (λ (b : Body). parent_of (Some (record node { body = b }))) e

same_names : (node : Node) (p : ℕ) (names : Names) → node.body ≡ is_directory (record { parent = p; names = names }) → names_of (Some node) ≡ names
same_names node p names e = ap (λ (b : Body). names_of (Some (record node { body = b }))) e

same_kind : (node : Node) (p : ℕ) (names : Names) → node.body ≡ is_directory (record { parent = p; names = names }) → is_dir node ≡ true
same_kind node p names e = ap (λ (b : Body). is_dir (record node { body = b })) e

-- A directory of the tree, as its inode says.
pub record HasEntries (g : Geometry) (d : Disk) (t : Tree) (n : ℕ) (i : Inode) : Type 0 where
  pub directory : IsTrue (is_dir_at t.nodes n)
  pub parent : parent_of (t.nodes n) ≡ (directory_of g (pieces g d) i).parent
  pub names : names_of (t.nodes n) ≡ (directory_of g (pieces g d) i).names
  pub entries : 128 ≤ i.size

pub has_entries : (g : Geometry) (d : Disk) (t : Tree) (n : ℕ) (i : Inode) → Holds g d t → IsTrue (is_directory_inode g (pieces g d) n) → i ≡ (pieces g d).inodes n → HasEntries g d t n i
has_entries g d t n i holds kind loaded =
    let v = pieces g d in
    let parts = and_parts (is_marked g v n) (is_directory_mode (v.inodes n).mode) kind in
    let dir = directory_of g v i in
    let is : t.nodes n ≡ Some (node_of g v i) =
    ap (λ (f : ℕ → Option Node). f n) holds.nodes ∙ cond-true (is_marked g v n) _ _ parts.0 ∙ ap (λ (j : Inode). Some (node_of g v j)) (sym loaded) in
    let mode : is_directory_mode i.mode ≡ true = ap (λ (j : Inode). is_directory_mode j.mode) loaded ∙ parts.1 in
    let body : (node_of g v i).body ≡ is_directory dir = cond-true (is_directory_mode i.mode) (is_directory dir) (is_file (file_of g v i)) mode in
    let two : 2 ≤ entry_count v n = (holds.sound.directories n kind).two in
    let counted : i.size / 64 ≡ entry_count v n = ap (λ (j : Inode). j.size / 64) loaded in
    record {
      directory = ap (λ (o : Option Node). elim o [ None ↦ false | Some node ↦ is_dir node ]) is ∙ same_kind (node_of g v i) dir.parent dir.names body;
      parent = ap parent_of is ∙ same_parent (node_of g v i) dir.parent dir.names body;
      names = ap names_of is ∙ same_names (node_of g v i) dir.parent dir.names body;
      entries = omega (arith, two, counted);
    }

-- a directory that was entered is in order
pub directory_at : (g : Geometry) (d : Disk) (t : Tree) (user : User) (n : ℕ) (i : Inode) → Holds g d t → Entered g d t user n i
    → IsDirectoryAt g (pieces g d) n i
directory_at g d t user n i holds entered = record { loaded = entered.loaded; sound = holds.sound.directories n entered.directory }

-- so it has an entry for its parent
pub has_parent : (g : Geometry) (v : Pieces) (n : ℕ) (i : Inode) → IsDirectoryAt g v n i → 128 ≤ i.size
has_parent g v n i directory =
    let two : 2 ≤ entry_count v n = directory.sound.two in
    let counted : i.size / 64 ≡ entry_count v n = ap (λ (j : Inode). j.size / 64) directory.loaded in
    omega (arith, two, counted)

-- where a part leads that is `..`, and one that is a name
module _ (here parent : ℕ) (names : Names) (part : Name) (no_dot : same_name part dot ≡ false) where
  pub to_parent : same_name part dot_dot ≡ true → next here parent names part ≡ Ok parent
  to_parent dots = cond-false (same_name part dot) (Ok here)
      (if same_name part dot_dot then Ok parent else or_refuse (inode_of names part) ENOENT) no_dot
      ∙ cond-true (same_name part dot_dot) (Ok parent) (or_refuse (inode_of names part) ENOENT) dots

  pub to_name : same_name part dot_dot ≡ false → next here parent names part ≡ or_refuse (inode_of names part) ENOENT
  to_name no_dots = cond-false (same_name part dot) (Ok here)
      (if same_name part dot_dot then Ok parent else or_refuse (inode_of names part) ENOENT) no_dot
      ∙ cond-false (same_name part dot_dot) (Ok parent) (or_refuse (inode_of names part) ENOENT) no_dots

-- a name leads to a node, the parent is one, and so is the directory itself
next_is_there : (g : Geometry) (d : Disk) (t : Tree) (n : ℕ) (i : Inode) (part : Name) → Holds g d t → IsTrue (is_some (t.nodes n)) → HasEntries g d t n i
    → let dir = directory_of g (pieces g d) i in IsThere t (next n dir.parent dir.names part)
next_is_there g d t n i part holds there has =
    let dir = directory_of g (pieces g d) i in
    let agree = holds.tree.nodes in
    elim (cases_Bool (same_name part dot)) [
      | inl e ↦ subst (IsThere t) (sym (cond-true (same_name part dot) (Ok n) _ e)) there
      | inr e ↦ subst (IsThere t) (sym (cond-false (same_name part dot) (Ok n) (if same_name part dot_dot then Ok dir.parent else or_refuse (inode_of dir.names part) ENOENT) e))
          (elim (cases_Bool (same_name part dot_dot)) [
            | inl f ↦ subst (IsThere t) (sym (cond-true (same_name part dot_dot) (Ok dir.parent) _ f))
                (subst (λ (m : ℕ). IsTrue (is_some (t.nodes m))) has.parent (parent_is_there g t.nodes n agree has.directory))
            | inr f ↦ subst (IsThere t) (sym (cond-false (same_name part dot_dot) (Ok dir.parent) (or_refuse (inode_of dir.names part) ENOENT) f))
                (by_name (inode_of dir.names part) (λ m is. agree.targets n m part (ap (λ (ns : Names). inode_of ns part) has.names ∙ is)))
          ])
    ]
  where
    by_name : (o : Option ℕ) → ((m : ℕ) → o ≡ Some m → IsTrue (is_some (t.nodes m))) → IsThere t (or_refuse o ENOENT)
    by_name None h = tt
    by_name (Some m) h = h m refl

-- A step, from entering a node and the next part.
pub stepped : (g : Geometry) (d : Disk) (t : Tree) (user : User) (n : ℕ) (i : Inode) (part : Name) (r : Result ℕ Errno) → Holds g d t → IsTrue (is_some (t.nodes n)) → Entered g d t user n i
    → (let dir = directory_of g (pieces g d) i in r ≡ next n dir.parent dir.names part) → StepsTo t user n part r
stepped g d t user n i part r holds there entered is =
    let has = has_entries g d t n i holds entered.directory entered.loaded in
    record {
      answer = is ∙ sym (ap (λ (x : Result (ℕ × Names) Errno). x >>= λ dir. next n dir.0 dir.1 part) entered.entered);
      there = subst (IsThere t) (sym is) (next_is_there g d t n i part holds there has);
    }

-- what a walk does at a node to which a part led from here
abbrev pub on : Tree → User → Follow → ℕ → List Name → ℕ → Result ℕ Errno
on t user follow here rest there = elim (target_of (t.nodes there)) [
  | None ↦ walk_from t user follow there rest
  | Some target ↦ follow here target rest
]

-- a step, and then the others
pub split : (t : Tree) (user : User) (follow : Follow) (here : ℕ) (part : Name) (rest : List Name)
    → walk_from t user follow here (part ∷ rest) ≡ (step t user here part >>= on t user follow here rest)
split t user follow here part rest = by (enter user (t.nodes here))
  where
    by : (e : Result (ℕ × Names) Errno)
        → (e >>= λ dir. next here dir.0 dir.1 part >>= on t user follow here rest)
        ≡ ((e >>= λ dir. next here dir.0 dir.1 part) >>= on t user follow here rest)
    by (Ok dir) = refl
    by (Err e) = refl
