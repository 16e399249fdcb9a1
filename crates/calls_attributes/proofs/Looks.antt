-- Calls on open files that only look.
use Rattle.std.proofs.Common.{◌≡◌, ◌<◌, ◌≤◌, arith, ℕ, refl, sym, ap, subst, ◌∙◌, Option, Some, None, Ok, Err, true}
use Rattle.std.specs.Prelude.{Result, IsTrue, IfOk, IfSome, option_map}
use Rattle.std.proofs.lemmas.Bool.{cond-true, and_parts}
use Rattle.errno.specs.declared.Errno.{Errno}
use Rattle.errno.specs.declared.Errno.TheVariants.{EBADF, ENOENT}
use Rattle.layout.specs.declared.Geometry.{Geometry}
use Rattle.tree.specs.Tree.{Tree, Node, OpenFile}
use Rattle.tree.specs.Refusals.{◌>>=◌, or_refuse}
use Rattle.tree.specs.Walk.{node_at}
use Rattle.tree.specs.Changes.{open_file_of}
use Rattle.tree.specs.NodeCalls.{attributes_of}
use Rattle.tree.specs.FileCalls.{fstat}
use Rattle.tree.specs.Answers.{Effect, refused, node_is}
use Rattle.volume.specs.Reading.{Disk, is_inode, inode_of_disk}
use Rattle.volume.specs.Pieces.{pieces, blank}
use Rattle.volume.specs.Nodes.{is_marked, node_of}
use Rattle.volume.specs.Holds.{HoldsVolume}
use Rattle.inode.specs.Bytes.{attributes_in}
use Rattle.inode.proofs.Stat.{held_attributes}
use Rattle.descriptors.specs.Files.{Files, HasFiles, file_at, tree_with}
use Rattle.calls_attributes.specs.Does.{Does, IsHeld}
use Rattle.calls_attributes.specs.declared.found.Found.{Found}
use Rattle.calls_attributes.specs.Found.{file_of}
use Rattle.tree.specs.declared.Attributes.{Attributes}
use Rattle.calls_attributes.proofs.Made.{refused_made, looked_made, node_there}

-- a descriptor's open file, of the tree and of its open files
abbrev pub found_in : Option OpenFile → Result (ℕ × OpenFile) Errno → Type 0
found_in None r = r ≡ Err EBADF
found_in (Some o) r = (k : ℕ) × (r ≡ Ok (k, o))

-- the open file of a descriptor, by its number
abbrev found_by : Option ℕ → (ℕ → Option OpenFile) → Result (ℕ × OpenFile) Errno
found_by n h = or_refuse n EBADF >>= λ k. or_refuse (h k) EBADF >>= λ o. Ok (k, o)

-- and by what stands there
abbrev found_at : ℕ → Option OpenFile → Result (ℕ × OpenFile) Errno
found_at k x = or_refuse x EBADF >>= λ o. Ok (k, o)

-- the tree has these open files, so its descriptor leads where theirs does
pub same_found : (t : Tree) (f : Files) (session fd : ℕ) → HasFiles f t → open_file_of t session fd ≡ open_file_of (tree_with f) session fd
same_found t f session fd files =
    ap (λ (x : ℕ → ℕ → Option ℕ). found_by (x session fd) t.open_files) files.descriptors
    ∙ ap (λ (x : ℕ → Option OpenFile). found_by (f.descriptors session fd) x) files.opened

-- what is found, if anything
abbrev file_in : Result (ℕ × OpenFile) Errno → Option OpenFile
file_in a = elim a [ Ok found ↦ Some found.1 | Err e ↦ None ]

-- what a search of two steps answers
by_steps : (n : Option ℕ) (h : ℕ → Option OpenFile) → found_in (file_in (found_by n h)) (found_by n h)
by_steps None h = refl
by_steps (Some k) h = go k (h k)
  where
    go : (k : ℕ) (x : Option OpenFile) → found_in (file_in (found_at k x)) (found_at k x)
    go k None = refl
    go k (Some o) = (k, refl)

pub found_is : (t : Tree) (f : Files) (session fd : ℕ) → HasFiles f t → found_in (file_at f session fd) (open_file_of t session fd)
found_is t f session fd files = subst (λ (r : Result (ℕ × OpenFile) Errno). found_in (file_at f session fd) r) (sym (same_found t f session fd files))
    (by_steps (f.descriptors session fd) f.opened)

-- an open file that get shows, and none
pub open_is : (t : Tree) (f : Files) (session fd : ℕ) (o : OpenFile) → HasFiles f t → file_at f session fd ≡ Some o
    → (k : ℕ) × (open_file_of t session fd ≡ Ok (k, o))
open_is t f session fd o files is = subst (λ (x : Option OpenFile). found_in x (open_file_of t session fd)) is (found_is t f session fd files)

pub none_is : (t : Tree) (f : Files) (session fd : ℕ) → HasFiles f t → file_at f session fd ≡ None → open_file_of t session fd ≡ Err EBADF
none_is t f session fd files is = subst (λ (x : Option OpenFile). found_in x (open_file_of t session fd)) is (found_is t f session fd files)

-- its number's open file is that one
pub opened_by : (n : Option ℕ) (h : ℕ → Option OpenFile) (k : ℕ) (o : OpenFile) → found_by n h ≡ Ok (k, o) → h k ≡ Some o
opened_by None h k o is = cc
opened_by (Some j) h k o is = go (h j) refl is
  where
    key : {X Y : Type 0} (a c : X) (b y : Y) (r s : Result (X × Y) Errno) → r ≡ Ok (a, b) → s ≡ Ok (c, y) → r ≡ s → (a ≡ c) × (b ≡ y)
    key {X = X} {Y = Y} a c b y r s e h is = let p = sym e ∙ is ∙ h in (ap (λ (r : Result (X × Y) Errno). elim r [ Ok x ↦ x.0 | Err z ↦ a ]) p, ap (λ (r : Result (X × Y) Errno). elim r [ Ok x ↦ x.1 | Err z ↦ b ]) p)

    go : (x : Option OpenFile) → h j ≡ x → found_at j x ≡ Ok (k, o) → h k ≡ Some o
    go None e is = cc
    go (Some y) e is = let p = key j k y o _ _ refl refl is in ap h (sym p.0) ∙ e ∙ ap (λ z. Some z) p.1

-- the node of an open file is there
pub node_open : (g : Geometry) (d : Disk) (t : Tree) (session fd k : ℕ) (o : OpenFile) → HoldsVolume g d t → open_file_of t session fd ≡ Ok (k, o)
    → (is_marked g (pieces g d) o.inode ≡ true) × (t.nodes o.inode ≡ Some (node_of g (pieces g d) ((pieces g d).inodes o.inode)))
node_open g d t session fd k o holds is = node_there g d t o.inode holds
    (holds.nodes.tree.open_files.each k o (opened_by (t.descriptors session fd) t.open_files k o is)).node

-- the number of an open file's inode is one of the volume's
pub number_held : (g : Geometry) (d : Disk) (f : Files) (session fd : ℕ) (o : OpenFile) → file_at f session fd ≡ Some o → IsHeld g (HasFiles f) d
    → IsTrue (is_inode g o.inode)
number_held g d f session fd o is h =
    let x = open_is h.tree f session fd o h.before is in
    (and_parts (is_inode g o.inode) ((pieces g d).inode_map o.inode) (node_open g d h.tree session fd x.0 o h.holds x.1).0).0

-- what was found, or that nothing was
pub found_some : (x : Option Found) (y : Found) (o : Option OpenFile) → x ≡ Some y → option_map file_of x ≡ o → Some (file_of y) ≡ o
found_some x y o is h = sym (ap (λ (z : Option Found). option_map file_of z) is) ∙ h

pub found_none : (x : Option Found) (o : Option OpenFile) → x ≡ None → option_map file_of x ≡ o → None ≡ o
found_none x o is h = sym (ap (λ (z : Option Found). option_map file_of z) is) ∙ h

-- what is nothing else is nothing
pub none_left : {X : Type 0} (x : Option X) → ((y : X) → x ≡ Some y → ⊥) → x ≡ None
none_left None h = refl
none_left (Some y) h = absurd (h y refl)

-- what is said of it
pub said_of : {X : Type 0} (x : Option X) (y : X) (P : X → Type 0) → x ≡ Some y → IfSome x P → P y
said_of {X = X} x y P is h = subst (λ (z : Option X). IfSome z P) is h

-- fstat of what is found
abbrev told_of : Tree → Result (ℕ × OpenFile) Errno → Effect
told_of t r = r >>= λ found. node_at t found.1.inode >>= λ node. Ok (node_is (attributes_of found.1.inode node), t)

module _ (g : Geometry) (d e : Disk) (f : Files) (session fd : ℕ) (same : e ≡ d) where
  pub fstat_refused : None ≡ file_at f session fd → Does g (λ t. fstat t session fd) (refused EBADF) (HasFiles f) (HasFiles f) d e
  fstat_refused is = record {
    each = λ t holds files.
        refused_made g t (fstat t session fd) EBADF (HasFiles f) d e
        (ap (told_of t) (none_is t f session fd files (sym is))) same holds files;
  }

  pub fstat_done : (x : Found) (told : Attributes) → Some (file_of x) ≡ file_at f session fd → x.inode ≡ (pieces g d).inodes x.number
      → told ≡ attributes_in x.number x.inode → Does g (λ t. fstat t session fd) (node_is told) (HasFiles f) (HasFiles f) d e
  fstat_done x told is loaded said = record {
    each = λ t holds files.
        let o = file_of x in
        let y = open_is t f session fd o files (sym is) in
        let n = node_open g d t session fd y.0 o holds y.1 in
        let number : is_inode g o.inode ≡ true = (and_parts (is_inode g o.inode) ((pieces g d).inode_map o.inode) n.0).0 in
        let at : x.inode ≡ inode_of_disk g d o.inode = loaded ∙ cond-true (is_inode g o.inode) (inode_of_disk g d o.inode) blank number in
        let all : attributes_of o.inode (node_of g (pieces g d) ((pieces g d).inodes o.inode)) ≡ told =
        held_attributes g d t o.inode (node_of g (pieces g d) ((pieces g d).inodes o.inode)) holds.nodes n.1 ∙ sym (ap (attributes_in o.inode) at) ∙ sym said in
        looked_made g t (fstat t session fd) (node_is told) (HasFiles f) d e
        (ap (told_of t) y.1
        ∙ ap (λ (z : Option Node). or_refuse z ENOENT >>= λ node. Ok (node_is (attributes_of o.inode node), t)) n.1
        ∙ ap (λ (a : Attributes). Ok (node_is a, t)) all) same holds files;
  }

-- what a good result gave
pub given_ok : {X E : Type 0} (r : Result X E) (x : X) (P : X → Type 0) → r ≡ Ok x → IfOk r P → P x
given_ok {X = X} {E = E} r x P e h = subst (λ (z : Result X E). IfOk z P) e h

-- no number is above its limit
pub too_big : (n : ℕ) → 2147483647 < n → n ≤ 2147483647 → ⊥
too_big n over within = absurd (omega (arith, over, within))
