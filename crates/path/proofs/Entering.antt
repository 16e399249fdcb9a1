-- Nodes that are entered, by their inodes.
use Rattle.std.proofs.Common.{◌≡◌, ℕ, Bool, true, false, Option, Some, None, sym, ap, subst, ◌∙◌, inl, inr}
use Rattle.std.specs.Prelude.{Result, Ok, Err, IsTrue, is_some, if◌then◌else◌}
use Rattle.std.proofs.lemmas.Bool.{cases_Bool, cond-true, cond-false, and_from}
use Rattle.errno.specs.declared.Errno.{Errno}
use Rattle.errno.specs.declared.Errno.TheVariants.{EACCES, ENOTDIR}
use Rattle.layout.specs.declared.Geometry.{Geometry}
use Rattle.tree.specs.declared.User.{User}
use Rattle.tree.specs.Names.{Names}
use Rattle.tree.specs.Tree.{Body, is_file, is_directory, Node, Tree}
use Rattle.tree.specs.Walk.{enter, may_access, to_search}
use Rattle.volume.specs.declared.Inode.{Inode}
use Rattle.volume.specs.Holds.{Holds}
use Rattle.volume.specs.Nodes.{directory_of, file_of, is_directory_mode, is_marked, node_of}
use Rattle.volume.specs.Pieces.{pieces}
use Rattle.volume.specs.Reading.{Disk}
use Rattle.path.specs.Walking.{Entered}

-- a node that is there is a marked inode's
pub record IsHeld (g : Geometry) (d : Disk) (t : Tree) (n : ℕ) (i : Inode) : Type 0 where
  pub marked : IsTrue (is_marked g (pieces g d) n)
  pub loaded : i ≡ (pieces g d).inodes n
  pub node : t.nodes n ≡ Some (node_of g (pieces g d) i)

pub is_held : (g : Geometry) (d : Disk) (t : Tree) (n : ℕ) (i : Inode) → Holds g d t → IsTrue (is_some (t.nodes n)) → i ≡ (pieces g d).inodes n → IsHeld g d t n i
is_held g d t n i holds there loaded =
    let v = pieces g d in
    let is : t.nodes n ≡ (if is_marked g v n then Some (node_of g v (v.inodes n)) else None) = ap (λ (f : ℕ → Option Node). f n) holds.nodes in
    elim (cases_Bool (is_marked g v n)) [
      | inl e ↦ record { marked = e; loaded = loaded; node = is ∙ cond-true (is_marked g v n) _ _ e ∙ ap (λ (j : Inode). Some (node_of g v j)) (sym loaded) }
      | inr e ↦ let none : t.nodes n ≡ None = is ∙ cond-false (is_marked g v n) _ _ e in absurd (let bad : false ≡ true = subst (λ (o : Option Node). is_some o ≡ true) none there in cc)
    ]

-- what entering a node of this body answers
abbrev entering : User → Node → Body → Result (ℕ × Names) Errno
entering user node body = elim body [
  | is_file f ↦ Err ENOTDIR
  | is_directory d ↦ if may_access user node to_search then Ok (d.parent, d.names) else Err EACCES
]

-- by the inode's mode
entering_is : (g : Geometry) (d : Disk) (t : Tree) (user : User) (n : ℕ) (i : Inode) (b : Bool) → IsHeld g d t n i → is_directory_mode i.mode ≡ b
    → let v = pieces g d in enter user (t.nodes n)
    ≡ entering user (node_of g v i) (if b then is_directory (directory_of g v i) else is_file (file_of g v i))
entering_is g d t user n i b held mode =
    let v = pieces g d in
    ap (enter user) held.node ∙ ap (λ (c : Bool). entering user (node_of g v i) (if c then is_directory (directory_of g v i) else is_file (file_of g v i))) mode

-- a file isn't entered
pub of_a_file : (g : Geometry) (d : Disk) (t : Tree) (user : User) (n : ℕ) (i : Inode) → IsHeld g d t n i → is_directory_mode i.mode ≡ false → enter user (t.nodes n) ≡ Err ENOTDIR
of_a_file g d t user n i held mode = entering_is g d t user n i false held mode

-- nor a directory that the user may not search
pub of_a_closed : (g : Geometry) (d : Disk) (t : Tree) (user : User) (n : ℕ) (i : Inode) → IsHeld g d t n i → is_directory_mode i.mode ≡ true
    → may_access user (node_of g (pieces g d) i) to_search ≡ false → enter user (t.nodes n) ≡ Err EACCES
of_a_closed g d t user n i held mode may =
    entering_is g d t user n i true held mode ∙ cond-false (may_access user (node_of g (pieces g d) i) to_search) _ _ may

-- another is
pub of_an_open : (g : Geometry) (d : Disk) (t : Tree) (user : User) (n : ℕ) (i : Inode) → IsHeld g d t n i → is_directory_mode i.mode ≡ true
    → may_access user (node_of g (pieces g d) i) to_search ≡ true → Entered g d t user n i
of_an_open g d t user n i held mode may = record {
  loaded = held.loaded;
  directory = and_from (is_marked g (pieces g d) n) _ held.marked (ap (λ (j : Inode). is_directory_mode j.mode) (sym held.loaded) ∙ mode);
  entered = entering_is g d t user n i true held mode ∙ cond-true (may_access user (node_of g (pieces g d) i) to_search) _ _ may;
}
