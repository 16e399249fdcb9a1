-- The node that a path leads to.
use Rattle.std.proofs.Common.{◌≡◌, ℕ, refl, sym, ap, subst, ◌∙◌, Ok, Err}
use Rattle.std.specs.Prelude.{IsTrue, Result}
use Rattle.errno.specs.declared.Errno.{Errno}
use Rattle.errno.specs.declared.Errno.TheVariants.{ENOENT}
use Rattle.layout.specs.declared.Geometry.{Geometry}
use Rattle.tree.specs.declared.PathFrom.{PathFrom}
use Rattle.tree.specs.declared.User.{User}
use Rattle.tree.specs.Tree.{Tree}
use Rattle.tree.specs.Refusals.{◌>>=◌}
use Rattle.tree.specs.Walk.{Way, walk, walk_parts, walk_to_last, read_path, look_up, found_or, is_there, is_missing}
use Rattle.tree.specs.Walk as tree
use Rattle.volume.specs.declared.Inode.{Inode}
use Rattle.volume.specs.Reading.{Disk, is_inode}
use Rattle.volume.specs.Pieces.{pieces}
use Rattle.volume.specs.Holds.{Holds, HoldsVolume}
use Rattle.block_store.specs.declared.Halt.{Halt}
use Rattle.block_store.specs.declared.Halt.TheVariants as halt
use Rattle.block_store.specs.Halts.{Ends}
use Rattle.zone.proofs.ZoneInodes.{inode_is}
use Rattle.path.specs.declared.stop.Stop.{Stop}
use Rattle.path.specs.declared.stop.Stop.TheVariants as stop
use Rattle.path.specs.Stops.{Answers}
use Rattle.path.specs.Walking.{Walks}
use Rattle.path.specs.Places.{place_of}
use Rattle.path.specs.Places as place
use Rattle.path.specs.declared.place.NamePlace.{NamePlace}
use Rattle.path.specs.declared.place.Found.{Found}
use Rattle.path.specs.declared.place.Found.TheVariants as found
use Rattle.calls_attributes.proofs.Made.{node_there}
use Rattle.calls_attributes.specs.Named.{IsVolume, IsNamed, Names, NamesBy, LeadsTo, NamesLast, FindsBy}

-- a step after the walk of a path that was read is a step after both
pub after_read : {X Y Z : Type 0} (r : Result X Errno) (walk : X → Result Y Errno) (step : Y → Result Z Errno)
    → ((r >>= walk) >>= step) ≡ (r >>= λ x. walk x >>= step)
after_read (Ok x) walk step = refl
after_read (Err e) walk step = refl

-- the path can't be read
pub not_read : (g : Geometry) (d : Disk) (user : User) (path : PathFrom) (e : Errno) → read_path path ≡ Err e → Names g d user path (Err e)
not_read g d user path e is t holds = record { answer = ap (λ (r : Result Way Errno). r >>= walk_parts t user) is; there = tt }

-- a walk that was halted tells nothing, or the volume holds no tree
halted : {X Y : Type 0} (g : Geometry) (d : Disk) (Q : Tree → Result Y Errno → Type 0) (P : X → Type 0) (h : Halt)
    → ((t : Tree) → HoldsVolume g d t → Answers (Err (stop.Halted h)) (Q t)) → Ends (Err h) P (IsVolume g d)
halted g d Q P (halt.Cut c) a = tt
halted g d Q P halt.Unsound a = λ x. a x.tree x.holds

module _ (g : Geometry) (d : Disk) (user : User) (path : PathFrom) (way : Way) (read : read_path path ≡ Ok way)
    (s : Result ℕ Stop) (walks : (t : Tree) → Holds g d t → Answers s (Walks t user way)) where
  named : (r : Result ℕ Errno) → ((t : Tree) → Walks t user way r → IsNamed t (walk t user path) r)
  named r t w = record { answer = ap (λ (x : Result Way Errno). x >>= walk_parts t user) read ∙ sym w.answer; there = w.there }

  pub walked_to : (n : ℕ) → s ≡ Ok n → Names g d user path (Ok n)
  walked_to n is t holds = named (Ok n) t (subst (λ (x : Result ℕ Stop). Answers x (Walks t user way)) is (walks t holds.nodes))

  pub walk_refused_for : (e : Errno) → s ≡ Err (stop.Refused e) → Names g d user path (Err e)
  walk_refused_for e is t holds = named (Err e) t (subst (λ (x : Result ℕ Stop). Answers x (Walks t user way)) is (walks t holds.nodes))

  pub walk_halted : {X : Type 0} (h : Halt) (P : X → Type 0) → s ≡ Err (stop.Halted h) → Ends (Err h) P (IsVolume g d)
  walk_halted h P is = halted g d (λ t r. Walks t user way r) P h
      (λ t holds. subst (λ (x : Result ℕ Stop). Answers x (Walks t user way)) is (walks t holds.nodes))

-- what a look-up found leads to the node, as it stands there
module _ (g : Geometry) (d : Disk) (user : User) (way : Way)
    (s : Result Found Stop) (looks : (t : Tree) → Holds g d t → Answers s (place.Finds g d t user way)) where
  looked : (r : Result Found Stop) → s ≡ r → (t : Tree) → HoldsVolume g d t → Answers r (place.Finds g d t user way)
  looked r is t holds = subst (λ (x : Result Found Stop). Answers x (place.Finds g d t user way)) is (looks t holds.nodes)

  at_last : (t : Tree) (r : Result tree.Found Errno) → look_up t user way ≡ r
      → walk_to_last t user way ≡ (r >>= λ found. found_or found ENOENT)
  at_last t r is = ap (λ (x : Result tree.Found Errno). x >>= λ found. found_or found ENOENT) is

  pub last_there : (n : ℕ) → s ≡ Ok (found.There n) → LeadsTo g d user way (Ok n)
  last_there n is t holds =
      let x = looked (Ok (found.There n)) is t holds in
      record { answer = at_last t (Ok (is_there n)) x.0; there = x.1 }

  pub last_missing : (p : NamePlace) → s ≡ Ok (found.Missing p) → LeadsTo g d user way (Err ENOENT)
  last_missing p is t holds = record {
    answer = at_last t (Ok (is_missing (place_of g d p))) (looked (Ok (found.Missing p)) is t holds).0;
    there = tt;
  }

  pub last_refused : (e : Errno) → s ≡ Err (stop.Refused e) → LeadsTo g d user way (Err e)
  last_refused e is t holds = record { answer = at_last t (Err e) (looked (Err (stop.Refused e)) is t holds); there = tt }

  pub last_halted : {X : Type 0} (h : Halt) (P : X → Type 0) → s ≡ Err (stop.Halted h) → Ends (Err h) P (IsVolume g d)
  last_halted h P is = halted g d (λ t r. place.Finds g d t user way r) P h (looked (Err (stop.Halted h)) is)

-- and so of the path
pub last_not_read : (g : Geometry) (d : Disk) (user : User) (path : PathFrom) (e : Errno) → read_path path ≡ Err e
    → NamesLast g d user path (Err e)
last_not_read g d user path e is t holds = record {
  answer = ap (λ (r : Result Way Errno). r >>= walk_to_last t user) is;
  there = tt;
}

pub last_read : (g : Geometry) (d : Disk) (user : User) (path : PathFrom) (way : Way) → read_path path ≡ Ok way
    → (r : Result ℕ Errno) → LeadsTo g d user way r → NamesLast g d user path r
last_read g d user path way read r leads t holds =
    let x = leads t holds in
    record { answer = ap (λ (y : Result Way Errno). y >>= walk_to_last t user) read ∙ x.answer; there = x.there }

-- its inode is one of the volume's
pub its_number : (g : Geometry) (d : Disk) (walk : Tree → Result ℕ Errno) (n : ℕ) → NamesBy g d walk (Ok n) → IsVolume g d
    → IsTrue (is_inode g n)
its_number g d walk n names x = inode_is g (pieces g d) n (node_there g d x.tree n x.holds (names x.tree x.holds).there).0

pub found_node : (g : Geometry) (d : Disk) (walk : Tree → Result ℕ Errno) (n : ℕ) (i : Inode) → NamesBy g d walk (Ok n)
    → i ≡ (pieces g d).inodes n → FindsBy g d walk (Ok (n, i))
found_node g d walk n i names loaded t holds =
    let x = names t holds in
    let y = node_there g d t n holds x.there in
    record { walked = x.answer; marked = y.0; node = y.1; loaded = loaded }

pub found_refused : (g : Geometry) (d : Disk) (walk : Tree → Result ℕ Errno) (e : Errno) → NamesBy g d walk (Err e)
    → FindsBy g d walk (Err e)
found_refused g d walk e names t holds = (names t holds).answer
