-- The trees of the other rows, against what the calls leave that build them: each node, and what no node has.
use Rattle.std.proofs.Common.{◌≡◌, ℕ, List, [], ◌∷◌, map, refl, Bool}
use Rattle.std.specs.Prelude.{Option, None, Some, option_map}
use Rattle.tree.specs.declared.Attributes.{Attributes}
use Rattle.tree.specs.declared.Call.TheVariants.{Mkdir}
use Rattle.lemmas.specs.Sums.{sum_below, some_below, least_below}
use Rattle.tree.specs.Names.{Names}
use Rattle.tree.specs.Tree.{is_file, is_directory, OpenFile, Tree, names_of, parent_of}
use Rattle.tree.specs.NodeCalls.{attributes_of}
use Rattle.tests_definitions.proofs.SmallTrees.{start, path, after, house, rooms, desk, building, opening}

-- what is told of a node: its attributes, its names, its parent
abbrev told : Tree → ℕ → Option Attributes × Names × ℕ
told t n = (option_map (attributes_of n) (t.nodes n), names_of (t.nodes n), parent_of (t.nodes n))

-- the numbers of the nodes, and one beside them
abbrev numbers : List ℕ
numbers = 0 ∷ 1 ∷ 2 ∷ 3 ∷ 4 ∷ 5 ∷ 6 ∷ 7 ∷ 8 ∷ 9 ∷ []

house_is_built : map (told (after start building)) numbers ≡ map (told house) numbers
unfolding house sum_below some_below least_below
house_is_built = refl

rooms_are_built : map (told (after house (Mkdir (path "/g") 493 ∷ Mkdir (path "/g/h") 493 ∷ []))) numbers ≡ map (told rooms) numbers
unfolding house rooms sum_below some_below least_below
rooms_are_built = refl

-- the desk's nodes too, the bytes of its file and which of its pages are held
desk_is_built : map (told (after house opening)) numbers ≡ map (told desk) numbers
unfolding house desk sum_below some_below least_below
desk_is_built = refl

-- a file's first bytes and pages
abbrev bytes : Tree → List ℕ × List Bool
bytes t = elim (t.nodes 5) [
  | None ↦ ([], [])
  | Some node ↦ elim node.body [ is_file f ↦ (map f.byte (0 ∷ 1 ∷ 2 ∷ 63 ∷ 64 ∷ []), map f.held (0 ∷ 1 ∷ 2 ∷ [])) | is_directory d ↦ ([], []) ]
]

file_is_built : bytes (after house opening) ≡ bytes desk
unfolding house desk sum_below some_below least_below
file_is_built = refl

-- open files and descriptors, of the next session too
abbrev opened : Tree → List (Option OpenFile × Option ℕ × Option ℕ)
opened t = map (λ k. (t.open_files k, t.descriptors 0 k, t.descriptors 1 k)) (0 ∷ 1 ∷ 2 ∷ 3 ∷ 4 ∷ 5 ∷ [])

opened_is_built : opened (after house opening) ≡ opened desk
unfolding house desk sum_below some_below least_below
opened_is_built = refl

house_is_closed : opened (after start building) ≡ opened house
unfolding house sum_below some_below least_below
house_is_closed = refl
