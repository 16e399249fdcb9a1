-- What the nodes of a volume show of its inodes and entries.
use Rattle.std.proofs.Common.{◌≡◌, ◌≢◌, ◌<◌, ◌≤◌, ◌+◌, ◌-◌, ℕ, zero, suc, [], ◌∷◌, length, Bool, true, false, refl, sym, ap, ◌∙◌, arith}
use mathlib.Core.Logic.{inl, inr}
use Rattle.std.specs.Prelude.{◌&&◌, ◌==◌, Option, None, Some, is_some}
use Rattle.std.specs.List.{list_all}
use Rattle.std.specs.FinMap.Entries.{is_sorted}
use Rattle.std.proofs.lemmas.Bool.{cases_Bool, and_parts, and_left, cond-true, cond-false}
use Rattle.lemmas.proofs.Options.{some_same}
use Rattle.layout.specs.declared.Geometry.{Geometry}
use Rattle.lemmas.specs.Sums.{count_below, one_if}
use Rattle.tree.specs.Names.{Name, Names, name_cmp, is_name, inode_of, with_name}
use Rattle.tree.specs.Tree.{Body, is_file, is_directory, Node, is_dir_at, names_of, parent_of}
use Rattle.tree.specs.IsTree.{names_to, subdirectories, all_names_to}
use Rattle.lemmas.proofs.Maps.{same_sum}
use Rattle.volume.specs.Pieces.{Pieces}
use Rattle.volume.specs.Nodes.{file_byte, entry_inode, entry_name, names_in, is_directory_mode, body_of, node_of, nodes_of, directory_of, file_of, is_marked}
use Rattle.volume.specs.Entries.{is_directory_inode, entry_count, name_at, target_at}
use Rattle.volume.specs.Findings.{names_in_of, all_names_of, subdirectories_of}
use Rattle.volume.specs.Holds.{IsSound}
use Rattle.volume.proofs.Entries.{collected, tally, found_entry, entry_found, tally_entries, length_entries, sorted, all_good, Distinct}

-- the counts of the tree are tallies
names_to_tally : (k : ℕ) (es : Names) → names_to k es ≡ tally (λ t. t == k) es
names_to_tally k [] = refl
names_to_tally k (e ∷ es) = ap (λ s. one_if (e.1 == k) + s) (names_to_tally k es)

-- the counts of subdirectories are tallies too
subdirectories_tally : (nodes : ℕ → Option Node) (es : Names) → subdirectories nodes es ≡ tally (is_dir_at nodes) es
subdirectories_tally nodes [] = refl
subdirectories_tally nodes (e ∷ es) = ap (λ s. one_if (is_dir_at nodes e.1) + s) (subdirectories_tally nodes es)

-- the names of a row of entries are collected from it
names_in_collected : (f : ℕ → ℕ) (k : ℕ) → names_in f k ≡ collected (λ e. entry_name f (e + 2)) (λ e. entry_inode f (e + 2)) k
unfolding names_in collected
names_in_collected f zero = refl
names_in_collected f (suc k) = ap (λ es. with_name es (entry_name f (k + 2)) (entry_inode f (k + 2))) (names_in_collected f k)

-- a body is a directory
body_dir : Body → Bool
body_dir (is_file f) = false
body_dir (is_directory d) = true

-- the names of a body
body_names : Body → Names
body_names (is_file f) = []
body_names (is_directory d) = d.names

-- the parent of a body
body_parent : Body → ℕ
body_parent (is_file f) = 0
body_parent (is_directory d) = d.parent

module _ (g : Geometry) (v : Pieces) where
  -- the nodes of the volume
  abbrev pub nodes : ℕ → Option Node
  nodes = nodes_of g v

  -- a marked inode has a node
  pub node_marked : (n : ℕ) → is_marked g v n ≡ true → nodes n ≡ Some (node_of g v (v.inodes n))
  node_marked n is = cond-true (is_marked g v n) (Some (node_of g v (v.inodes n))) None is

  -- an inode that isn't marked has none
  pub node_unmarked : (n : ℕ) → is_marked g v n ≡ false → nodes n ≡ None
  node_unmarked n out = cond-false (is_marked g v n) (Some (node_of g v (v.inodes n))) None out

  -- so there is a node where an inode is marked
  pub some_node : (n : ℕ) → is_some (nodes n) ≡ is_marked g v n
  some_node n = elim (cases_Bool (is_marked g v n)) [
    | inl is ↦ ap is_some (node_marked n is) ∙ sym is
    | inr out ↦ ap is_some (node_unmarked n out) ∙ sym out
  ]

  -- and it is that of the inode
  pub node_is : (n : ℕ) (node : Node) → nodes n ≡ Some node → (is_marked g v n ≡ true) × (node ≡ node_of g v (v.inodes n))
  node_is n node e =
      let is : is_marked g v n ≡ true = sym (some_node n) ∙ ap is_some e in
      (is, some_same node (node_of g v (v.inodes n)) (sym e ∙ node_marked n is))

  -- the inode of a directory shows a directory
  pub body_directory : (n : ℕ) → is_directory_inode g v n ≡ true → body_of g v (v.inodes n) ≡ is_directory (directory_of g v (v.inodes n))
  body_directory n is = cond-true (is_directory_mode (v.inodes n).mode) _ _ (and_parts (is_marked g v n) (is_directory_mode (v.inodes n).mode) is).1

  -- a marked inode that is no directory has another type
  not_directory : (n : ℕ) → is_marked g v n ≡ true → is_directory_inode g v n ≡ false → is_directory_mode (v.inodes n).mode ≡ false
  not_directory n is out = sym (ap (λ b. b && is_directory_mode (v.inodes n).mode) is) ∙ out

  -- and the body of a file
  pub body_file : (n : ℕ) → is_marked g v n ≡ true → is_directory_inode g v n ≡ false → body_of g v (v.inodes n) ≡ is_file (file_of g v (v.inodes n))
  body_file n is out = cond-false (is_directory_mode (v.inodes n).mode) _ _ (not_directory n is out)

  -- the inode of a directory is marked
  marked_of : (n : ℕ) → is_directory_inode g v n ≡ true → is_marked g v n ≡ true
  marked_of n is = (and_parts (is_marked g v n) (is_directory_mode (v.inodes n).mode) is).0

  -- the node is a directory where the inode is one
  pub dir_node : (n : ℕ) → is_dir_at nodes n ≡ is_directory_inode g v n
  unfolding body_dir
  dir_node n = elim (cases_Bool (is_marked g v n)) [
    | inl is ↦ elim (cases_Bool (is_directory_inode g v n)) [
      | inl d ↦ ap (λ o. elim o [ None ↦ false | Some x ↦ body_dir x.body ]) (node_marked n is) ∙ ap body_dir (body_directory n d) ∙ sym d
      | inr f ↦ ap (λ o. elim o [ None ↦ false | Some x ↦ body_dir x.body ]) (node_marked n is) ∙ ap body_dir (body_file n is f) ∙ sym f
    ]
    | inr out ↦ ap (λ o. elim o [ None ↦ false | Some x ↦ body_dir x.body ]) (node_unmarked n out) ∙ sym (and_left (is_marked g v n) (is_directory_mode (v.inodes n).mode) out)
  ]

  -- the names after the first two
  abbrev pub name_after : ℕ → ℕ → Name
  name_after n e = name_at g v n (e + 2)

  -- the inodes that they lead to
  abbrev pub target_after : ℕ → ℕ → ℕ
  target_after n e = target_at g v n (e + 2)

  -- how many there are
  abbrev pub further : ℕ → ℕ
  further n = entry_count v n - 2

  -- the names of a directory, as the map and as a row
  directory_names : (n : ℕ) → (directory_of g v (v.inodes n)).names ≡ collected (name_after n) (target_after n) (further n)
  directory_names n = names_in_collected (file_byte g v (v.inodes n)) (further n)

  -- the names of the node of a directory
  pub names_node : (n : ℕ) → is_directory_inode g v n ≡ true → names_of (nodes n) ≡ collected (name_after n) (target_after n) (further n)
  unfolding body_names
  names_node n is = ap names_of (node_marked n (marked_of n is)) ∙ ap body_names (body_directory n is) ∙ directory_names n

  -- what is no directory has no names
  pub names_none : (n : ℕ) → is_directory_inode g v n ≡ false → names_of (nodes n) ≡ []
  unfolding body_names
  names_none n out = elim (cases_Bool (is_marked g v n)) [
    | inl is ↦ ap names_of (node_marked n is) ∙ ap body_names (body_file n is out)
    | inr none ↦ ap names_of (node_unmarked n none)
  ]

  -- the parent of a directory
  pub parent_node : (n : ℕ) → is_directory_inode g v n ≡ true → parent_of (nodes n) ≡ target_at g v n 1
  unfolding body_parent
  parent_node n is = ap parent_of (node_marked n (marked_of n is)) ∙ ap body_parent (body_directory n is)

  -- what is no directory has no parent
  pub parent_none : (n : ℕ) → is_directory_inode g v n ≡ false → parent_of (nodes n) ≡ 0
  unfolding body_parent
  parent_none n out = elim (cases_Bool (is_marked g v n)) [
    | inl is ↦ ap parent_of (node_marked n is) ∙ ap body_parent (body_file n is out)
    | inr none ↦ ap parent_of (node_unmarked n none)
  ]

  -- the map is in order
  pub names_sorted : (n : ℕ) → is_sorted name_cmp (directory_of g v (v.inodes n)).names ≡ true
  names_sorted n = ap (is_sorted name_cmp) (directory_names n) ∙ sorted (name_after n) (target_after n) (further n)

  -- the names of the map are good where those of the row are
  pub names_good : (n : ℕ) → ((e : ℕ) → e < further n → is_name (name_after n e) ≡ true) → list_all (λ e. is_name e.0) (directory_of g v (v.inodes n)).names ≡ true
  names_good n each = ap (list_all (λ e. is_name e.0)) (directory_names n) ∙ all_good (name_after n) (target_after n) is_name (further n) each

  -- the names of a sound volume's directories differ
  pub names_differ : IsSound g v → (n e f : ℕ) → is_directory_inode g v n ≡ true → e < f → f < entry_count v n → name_at g v n e ≢ name_at g v n f
  names_differ s n e f is = (s.directories n is).distinct e f

  module _ (different : (n e f : ℕ) → is_directory_inode g v n ≡ true → e < f → f < entry_count v n → name_at g v n e ≢ name_at g v n f) where
    -- those after the first two differ too
    apart : (n : ℕ) → is_directory_inode g v n ≡ true → Distinct (name_after n) (target_after n) (further n)
    apart n is e f less low = different n (e + 2) (f + 2) is (omega arith) (omega arith)

    -- a name of the map is that of an entry
    pub find_entry : (n m : ℕ) (name : Name) → inode_of (names_of (nodes n)) name ≡ Some m
        → (is_directory_inode g v n ≡ true) × ((e : ℕ) × (e + 2 < entry_count v n) × (name_at g v n (e + 2) ≡ name) × (target_at g v n (e + 2) ≡ m))
    find_entry n m name e = elim (cases_Bool (is_directory_inode g v n)) [
      | inl is ↦
          let w = found_entry (name_after n) (target_after n) (further n) name m (ap (λ es. inode_of es name) (sym (names_node n is)) ∙ e) in
          (is, (w.0, omega (arith, w.1), w.2, w.3))
      | inr out ↦ let none : None ≡ Some m = ap (λ es. inode_of es name) (sym (names_none n out)) ∙ e in absurd (cc)
    ]

    -- an entry's name is in the map
    pub entry_in : (n e : ℕ) → is_directory_inode g v n ≡ true → 2 ≤ e → e < entry_count v n → inode_of (names_of (nodes n)) (name_at g v n e) ≡ Some (target_at g v n e)
    entry_in n e is two low =
        let back : e - 2 + 2 ≡ e = omega arith in
        ap (λ k. inode_of (names_of (nodes n)) (name_at g v n k)) (sym back)
        ∙ ap (λ es. inode_of es (name_after n (e - 2))) (names_node n is)
        ∙ entry_found (name_after n) (target_after n) (further n) (e - 2) (apart n is) (omega arith)
        ∙ ap (λ k. Some (target_at g v n k)) back

    -- a count over the map is one over the row
    tally_node : (p : ℕ → Bool) (n : ℕ) → is_directory_inode g v n ≡ true → tally p (names_of (nodes n)) ≡ count_below (λ e. p (target_after n e)) (further n)
    tally_node p n is = ap (tally p) (names_node n is) ∙ tally_entries (name_after n) (target_after n) p (further n) (apart n is)

    -- the counts of names of one directory
    pub named_node : (k n : ℕ) → names_to k (names_of (nodes n)) ≡ names_in_of g v n k
    named_node k n = names_to_tally k (names_of (nodes n)) ∙ elim (cases_Bool (is_directory_inode g v n)) [
      | inl is ↦ tally_node (λ t. t == k) n is ∙ sym (cond-true (is_directory_inode g v n) _ 0 is)
      | inr out ↦ ap (tally (λ t. t == k)) (names_none n out) ∙ sym (cond-false (is_directory_inode g v n) _ 0 out)
    ]

    -- the names of all directories
    pub all_named_node : (k : ℕ) → all_names_to g nodes k ≡ all_names_of g v k
    all_named_node k = same_sum _ _ (g.inodes + 1) (λ n _. named_node k n)

    -- the subdirectories
    pub subdirectories_node : (n : ℕ) → is_directory_inode g v n ≡ true → subdirectories nodes (names_of (nodes n)) ≡ subdirectories_of g v n
    subdirectories_node n is = subdirectories_tally nodes (names_of (nodes n)) ∙ tally_node (is_dir_at nodes) n is
        ∙ same_sum _ _ (further n) (λ e _. ap one_if (dir_node (target_after n e)))

    -- how many names there are
    pub length_node : (n : ℕ) → is_directory_inode g v n ≡ true → length (directory_of g v (v.inodes n)).names ≡ further n
    length_node n is = ap length (directory_names n) ∙ length_entries (name_after n) (target_after n) (further n) (apart n is)
