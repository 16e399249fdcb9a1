-- From a directory to the one that holds it, up to the root.
use Rattle.std.proofs.Common.{◌≡◌, ◌≢◌, ◌<◌, ◌≤◌, ◌+◌, ◌-◌, ℕ, zero, suc, Bool, true, false, Option, Some, None, refl, sym, ap, ◌∙◌, arith}
use mathlib.Core.Logic.{inl, inr}
use Rattle.std.specs.Prelude.{◌==◌, ◌&&◌, IsTrue, if◌then◌else◌}
use Rattle.std.proofs.lemmas.Bool.{cases_Bool, cases_eq, cases_lt, and_parts, eq-eqb, eqb-true}
use Rattle.layout.specs.declared.Geometry.{Geometry}
use Rattle.tree.specs.Tree.{Body, Directory, File, is_file, is_directory, Node, Tree, is_dir, is_dir_at, names_of, parent_of}
use Rattle.tree.specs.IsTree.{NodesAgree, above, names_to}
use Rattle.tree.specs.NameCalls.{is_within}
use Rattle.tree.proofs.Search.{found_below, one_below}
use Rattle.volume.specs.declared.Inode.{Inode}
use Rattle.volume.specs.Entries.{is_directory_inode}
use Rattle.volume.specs.Holds.{Holds}
use Rattle.volume.specs.Nodes.{directory_of, file_of, is_directory_mode, is_marked, node_of}
use Rattle.volume.specs.Pieces.{pieces}
use Rattle.volume.specs.Reading.{Disk, is_inode}
use Rattle.path.proofs.Going.{HasEntries, has_entries}
use Rattle.calls_rename.specs.Within.{HoldsDirectory, SaysWithin}

-- a step more, at the end
above_next : (nodes : ℕ → Option Node) (k n : ℕ) → above nodes (suc k) n ≡ parent_of (nodes (above nodes k n))
above_next nodes zero n = refl
above_next nodes (suc k) n = above_next nodes k (parent_of (nodes n))

-- steps after steps
above_add : (nodes : ℕ → Option Node) (a b n : ℕ) → above nodes (a + b) n ≡ above nodes b (above nodes a n)
above_add nodes zero b n = let e : 0 + b ≡ b = omega arith in ap (λ k. above nodes k n) e
above_add nodes (suc a) b n = let e : suc a + b ≡ suc (a + b) = omega arith in ap (λ k. above nodes k n) e ∙ above_add nodes a b (parent_of (nodes n))

-- from the root they lead to the root
above_root : (nodes : ℕ → Option Node) (k : ℕ) → parent_of (nodes 1) ≡ 1 → above nodes k 1 ≡ 1
above_root nodes zero root = refl
above_root nodes (suc k) root = ap (above nodes k) root ∙ above_root nodes k root

-- what has a name is a directory
named_dir : (n : ℕ) (o : Option Node) → names_to n (names_of o) ≡ 1 → elim o [ None ↦ false | Some node ↦ is_dir node ] ≡ true
named_dir n None h = absurd (omega (arith, h))
named_dir n (Some node) h = by node.body h
  where
    by : (b : Body) → names_to n (elim b [ is_file f ↦ Rattle.std.specs.Prelude.[] | is_directory d ↦ d.names ]) ≡ 1 → elim b [ is_file f ↦ false | is_directory d ↦ true ] ≡ true
    by (is_file f) h = absurd (omega (arith, h))
    by (is_directory d) h = refl

-- the parent of a directory is one
parent_is_dir : (g : Geometry) (nodes : ℕ → Option Node) (n : ℕ) → NodesAgree g nodes → is_dir_at nodes n ≡ true → is_dir_at nodes (parent_of (nodes n)) ≡ true
parent_is_dir g nodes n agree directory = elim (cases_eq n 1) [
  | inl e ↦ ap (is_dir_at nodes) (ap (λ m. parent_of (nodes m)) e ∙ agree.root_parent) ∙ agree.root
  | inr d ↦ named_dir n (nodes (parent_of (nodes n))) (agree.placed n d directory).in_parent
]

-- the inode of a directory is marked, and says so
marked_directory : (g : Geometry) (d : Disk) (t : Tree) (n : ℕ) → Holds g d t → is_dir_at t.nodes n ≡ true → is_directory_inode g (pieces g d) n ≡ true
marked_directory g d t n holds directory =
    let v = pieces g d in
    let i = v.inodes n in
    by (is_marked g v n) (is_directory_mode i.mode) (directory_of g v i) (file_of g v i) (node_of g v i) (ap (λ (f : ℕ → Option Node). is_dir_at f n) (sym holds.nodes) ∙ directory)
  where
    by : (m k : Bool) (dir : Directory) (f : File) (node : Node)
        → elim (if m then Some (record node { body = if k then is_directory dir else is_file f }) else None) [ None ↦ false | Some x ↦ is_dir x ] ≡ true → (m && k) ≡ true
    by true true dir f node h = refl
    by true false dir f node h = h
    by false k dir f node h = h

pub entries_of : (g : Geometry) (d : Disk) (t : Tree) (n : ℕ) (i : Inode) → Holds g d t → is_dir_at t.nodes n ≡ true → i ≡ (pieces g d).inodes n → HasEntries g d t n i
entries_of g d t n i holds directory loaded = has_entries g d t n i holds (marked_directory g d t n holds directory) loaded

pub number_of : (g : Geometry) (d : Disk) (t : Tree) (n : ℕ) → Holds g d t → is_dir_at t.nodes n ≡ true → is_inode g n ≡ true
number_of g d t n holds directory =
    let v = pieces g d in
    (and_parts (is_inode g n) (v.inode_map n) (and_parts (is_marked g v n) (is_directory_mode (v.inodes n).mode) (marked_directory g d t n holds directory)).0).0

-- So many steps lead here, to a directory, and none of the steps before led to the top.
pub record Climbs (t : Tree) (n top steps here : ℕ) : Type 0 where
  pub at : above t.nodes steps n ≡ here
  pub none : (k : ℕ) → k < steps → above t.nodes k n ≢ top
  pub directory : is_dir_at t.nodes here ≡ true

-- it is so of each tree that is held
abbrev pub ClimbsTo : Geometry → Disk → ℕ → ℕ → ℕ → ℕ → Type 0
ClimbsTo g d n top steps here = (t : Tree) → Holds g d t → is_dir_at t.nodes n ≡ true → Climbs t n top steps here

pub at_first : (g : Geometry) (d : Disk) (n top : ℕ) → ClimbsTo g d n top 0 n
at_first g d n top t holds directory = record { at = refl; none = λ k low. absurd (omega (arith, low)); directory = directory }

module _ (g : Geometry) (d : Disk) (n top steps here : ℕ) (climbs : ClimbsTo g d n top steps here) where
  -- a step more
  pub climbed : (i : Inode) (there : ℕ) → here ≢ top → i ≡ (pieces g d).inodes here → there ≡ (directory_of g (pieces g d) i).parent → ClimbsTo g d n top (steps + 1) there
  climbed i there other loaded is t holds directory =
      let c = climbs t holds directory in
      let has = entries_of g d t here i holds c.directory loaded in
      let e : steps + 1 ≡ suc steps = omega arith in
      let parent : parent_of (t.nodes here) ≡ there = has.parent ∙ sym is in
      record {
        at = ap (λ k. above t.nodes k n) e ∙ above_next t.nodes steps n ∙ ap (λ m. parent_of (t.nodes m)) c.at ∙ parent;
        none = λ k low same. elim (cases_lt k steps) [
          | inl l ↦ c.none k l same
          | inr past ↦ let last : k ≡ steps = omega arith in other (sym c.at ∙ ap (λ j. above t.nodes j n) (sym last) ∙ same)
        ];
        directory = ap (is_dir_at t.nodes) (sym parent) ∙ parent_is_dir g t.nodes here holds.tree.nodes c.directory;
      }

  -- the top is reached
  pub reached : steps ≤ g.inodes → here ≡ top → SaysWithin g d n top true
  reached low is t holds directory =
      let c = climbs t holds directory in
      sym (found_below (λ k. above t.nodes k n == top) (g.inodes + 1) steps (omega (arith, low)) (eq-eqb (above t.nodes steps n) top (c.at ∙ is)))

  -- or never is
  never : (t : Tree) → ((k : ℕ) → k < g.inodes + 1 → above t.nodes k n ≢ top) → false ≡ is_within g t n top
  never t none = elim (cases_Bool (is_within g t n top)) [
    | inl yes_ ↦ let one = one_below (λ k. above t.nodes k n == top) (g.inodes + 1) yes_ in absurd (none one.0 one.1 (eqb-true _ top one.2))
    | inr out ↦ sym out
  ]

  pub at_the_root : here ≢ top → here ≡ 1 → SaysWithin g d n top false
  at_the_root other root t holds directory = never t (λ k low same.
      let c = climbs t holds directory in
      elim (cases_lt k steps) [
        | inl l ↦ c.none k l same
        | inr past ↦
            let split : k ≡ steps + (k - steps) = omega arith in
            let stays : above t.nodes k n ≡ 1 =
            ap (λ j. above t.nodes j n) split ∙ above_add t.nodes steps (k - steps) n ∙ ap (above t.nodes (k - steps)) (c.at ∙ root) ∙ above_root t.nodes (k - steps) holds.tree.nodes.root_parent in
            other (root ∙ sym stays ∙ same)
      ])

  pub too_far : g.inodes < steps → SaysWithin g d n top false
  too_far past t holds directory = never t (λ k low same. (climbs t holds directory).none k (omega (arith, low, past)) same)

  -- the inode is one, and it has its two entries
  pub is_one : HoldsDirectory g d n → is_inode g here ≡ true
  is_one h = number_of g d h.tree here h.holds (climbs h.tree h.holds h.directory).directory

  pub has_two : (i : Inode) → i ≡ (pieces g d).inodes here → HoldsDirectory g d n → 128 ≤ i.size
  has_two i loaded h = (entries_of g d h.tree here i h.holds (climbs h.tree h.holds h.directory).directory loaded).entries
