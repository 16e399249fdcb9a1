-- write, made on a volume.
use Rattle.std.proofs.Common.{◌≡◌, ℕ, ◌+◌, ◌-◌, ◌/◌, ◌<◌, ◌≤◌, ◌^◌, refl, sym, ap, subst, ◌∙◌, Option, Some, None, Ok, Err, Bool, true, false, List, length, arith}
use mathlib.Core.Logic.{inl, inr}
use Rattle.std.specs.Prelude.{Result, not, nat_lt, ◌==◌, ◌||◌, if◌then◌else◌}
use Rattle.std.specs.Borrow.{Bor}
use Rattle.std.specs.List.{All}
use Rattle.std.proofs.lemmas.Bool.{cond-true, cond-false, cases_lt, lt-ltb, le-ltb, eq-eqb, ne_eqb}
use Rattle.errno.specs.declared.Errno.{Errno}
use Rattle.errno.specs.declared.Errno.TheVariants.{EBADF, EINVAL, ENOENT, EFBIG, ENOSPC}
use Rattle.layout.specs.declared.Geometry.{Geometry}
use Rattle.layout.specs.Places.{IsGeometry}
use Rattle.tree.specs.declared.Call.TheVariants.{Write}
use Rattle.lemmas.specs.Sums.{put}
use Rattle.tree.specs.Tree.{Tree, Node, File, Directory, OpenFile, is_file, is_directory, most_bytes, most_size, with_node}
use Rattle.tree.specs.Space.{zones_used, data_zones}
use Rattle.tree.specs.Refusals.{◌>>=◌, refuse_if, or_refuse}
use Rattle.tree.specs.Changes.{open_file_of, at_position, with_body, file_after_write}
use Rattle.tree.specs.NodeCalls.{file_or}
use Rattle.tree.specs.FileCalls.{write}
use Rattle.tree.specs.Flags.{writes, appends}
use Rattle.tree.specs.Answers.{Effect, refused, wrote, if_it_fits}
use Rattle.tree.proofs.ByteCalls.{write_keeps}
use Rattle.volume.specs.Reading.{Disk}
use Rattle.volume.specs.Pieces.{Pieces, pieces}
use Rattle.volume.specs.Nodes.{node_of, directory_of, is_directory_mode, is_link_mode, nodes_of, entry_inode, names_in}
use Rattle.volume.specs.Holds.{HoldsVolume}
use Rattle.zone.specs.ZoneSteps.{node_from}
use Rattle.zone.specs.Room.{taken_by}
use Rattle.descriptors.specs.Files.{Files, HasFiles, file_at as open_at, moved}
use Rattle.file.specs.PageChanges.{MayChange, file_at, stamped}
use Rattle.file.specs.Changing.{HasZonesFor, written_at}
use Rattle.file.proofs.Rest.{wide}
use Rattle.file.proofs.Spaces.{room_is_space}
use Rattle.calls_attributes.specs.declared.found.Found.{Found}
use Rattle.calls_attributes.specs.Found.{file_of as open_file}
use Rattle.calls_attributes.specs.Does.{IsHeld, Does}
use Rattle.calls_attributes.proofs.Made.{refused_made, granted_made, looked_made}
use Rattle.calls_attributes.proofs.Looks.{open_is, none_is, node_open}
use Rattle.calls_attributes.proofs.OpenFiles.{tree_kept, caller, files_moved}
use Rattle.calls_attributes.proofs.Volumes.{may_change, volume_with, no_directory}
use Rattle.calls_files.specs.Dated.{WritesIfRoom}
use Rattle.calls_files.specs.Writing.{write_place, why_unwritten}

-- ---- the effect, step by step

-- the first of the reasons against a write
abbrev first_reason : Bool → Bool → Bool → Bool → Bool → Option Errno
first_reason may wide is symbolic big =
    if not may then Some EBADF else if wide then Some EINVAL else if is || symbolic then Some EBADF else if big then Some EFBIG else None

module _ (g : Geometry) (now : ℕ) (bytes : List ℕ) where
  -- where a write to an open file begins in its file
  abbrev place_in : OpenFile → File → ℕ
  place_in o f = if appends o.flags then f.size else o.position

  -- the node with the bytes, and the tree
  abbrev new_node : OpenFile → Node → File → Node
  new_node o node f = with_body now (is_file (file_after_write g f (place_in o f) bytes)) node

  abbrev after : Tree → ℕ → OpenFile → Node → File → Tree
  after t k o node f = at_position (with_node t o.inode (Some (new_node o node f))) k o (place_in o f + length bytes)

  -- write, of no bytes or of some
  abbrev by_count : Tree → ℕ → OpenFile → Node → File → Bool → Effect
  by_count t k o node f b = if b then Ok (wrote 0, t) else if_it_fits g (wrote (length bytes)) (after t k o node f)

  -- of the file, which may be a link
  abbrev from_file : Tree → ℕ → OpenFile → Node → Bool → Result File Errno → Effect
  from_file t k o node symbolic r = r >>= λ f. refuse_if symbolic EBADF >>= λ _.
      refuse_if (nat_lt most_size (place_in o f + length bytes)) EFBIG >>= λ _. by_count t k o node f (length bytes == 0)

  -- of the node
  abbrev from_node : Tree → ℕ → OpenFile → Option Node → Effect
  from_node t k o x = or_refuse x ENOENT >>= λ node. from_file t k o node node.symbolic (file_or node EBADF)

  -- of an open file
  abbrev from_flags : Tree → ℕ → OpenFile → Bool → Effect
  from_flags t k o b = refuse_if (not b) EBADF >>= λ _. refuse_if (nat_lt most_bytes (length bytes)) EINVAL >>= λ _. from_node t k o (t.nodes o.inode)

  -- of a descriptor
  abbrev from_descriptor : Tree → Result (ℕ × OpenFile) Errno → Effect
  from_descriptor t r = r >>= λ x. from_flags t x.0 x.1 (writes x.1.flags)

  -- by what is asked of the open file and its node
  abbrev asked : Tree → ℕ → OpenFile → Node → File → Directory → Bool → Bool → Bool → Bool → Effect
  asked t k o node h c may wide is symbolic = refuse_if (not may) EBADF >>= λ _. refuse_if wide EINVAL >>= λ _.
      from_file t k o node symbolic (elim (if is then is_directory c else is_file h) [ is_file x ↦ Ok x | is_directory x ↦ Err EBADF ])

  -- the first reason against it is the answer, and without one the bytes are written
  abbrev by_reason : Tree → ℕ → OpenFile → Node → File → Option Errno → Effect
  by_reason t k o node h None = by_count t k o node h (length bytes == 0)
  by_reason t k o node h (Some e) = Err e

  last_reason : (t : Tree) (k : ℕ) (o : OpenFile) (node : Node) (h : File) (big : Bool)
      → (refuse_if big EFBIG >>= λ _. by_count t k o node h (length bytes == 0)) ≡ by_reason t k o node h (if big then Some EFBIG else None)
  last_reason t k o node h true = refl
  last_reason t k o node h false = refl

  reasons : (t : Tree) (k : ℕ) (o : OpenFile) (node : Node) (h : File) (c : Directory) (may wide is symbolic : Bool)
      → asked t k o node h c may wide is symbolic
      ≡ by_reason t k o node h (first_reason may wide is symbolic (nat_lt most_size (place_in o h + length bytes)))
  reasons t k o node h c false wide is symbolic = refl
  reasons t k o node h c true true is symbolic = refl
  reasons t k o node h c true false true symbolic = refl
  reasons t k o node h c true false false true = refl
  reasons t k o node h c true false false false = last_reason t k o node h (nat_lt most_size (place_in o h + length bytes))

-- what may be written is no directory
plain_kind : (may wide is symbolic big : Bool) → first_reason may wide is symbolic big ≡ None → is ≡ false
plain_kind may wide false symbolic big h = refl
plain_kind true false true symbolic big h = cc
plain_kind true true true symbolic big h = cc
plain_kind false wide true symbolic big h = cc

-- what was written where the volume was read before
pub from_start : (g : Geometry) (m n at : ℕ) (bytes : List ℕ) (now : ℕ) (x y : Bool) (z d e : Disk) → m ≡ n → x ≡ y → z ≡ d
    → WritesIfRoom g m at bytes now x z e → WritesIfRoom g n at bytes now y d e
from_start g m n at bytes now x y z d e number answer same w =
    subst (λ (k : ℕ). WritesIfRoom g k at bytes now y d e) number
    (subst (λ (b : Bool). WritesIfRoom g m at bytes now b d e) answer (subst (λ (a : Disk). WritesIfRoom g m at bytes now x a e) same w))

-- ---- what the body does

module _ (g : Geometry) (ok : IsGeometry g) (d : Disk) (session fd now : ℕ) (bytes : Bor (List ℕ)) (f : Files) where
  -- no open file
  pub write_closed : (e : Disk) → e ≡ d → None ≡ open_at f session fd → Does g (λ t. write g t now session fd bytes.now) (refused EBADF) (HasFiles f) (HasFiles f) d e
  write_closed e same is = record {
    each = λ t holds files. refused_made g t (write g t now session fd bytes.now) EBADF (HasFiles f) d e
        (ap (from_descriptor g now bytes.now t) (none_is t f session fd files (sym is))) same holds files;
  }

  module _ (x : Found) (is : Some (open_file x) ≡ open_at f session fd) (loaded : x.inode ≡ (pieces g d).inodes x.number) where
    abbrev v : Pieces
    v = pieces g d

    abbrev n : ℕ
    n = x.number

    abbrev o : OpenFile
    o = open_file x

    abbrev h : File
    h = file_at g v n

    abbrev node : Node
    node = node_of g v (v.inodes n)

    -- the open file with the inode as it stands on the volume
    abbrev y : Found
    y = record x { inode = v.inodes n }

    same_found_file : x ≡ y
    same_found_file = λ i. record x { inode = loaded i }

    -- its effect
    write_is : (t : Tree) (k : ℕ) → HoldsVolume g d t → open_file_of t session fd ≡ Ok (k, o)
        → write g t now session fd bytes.now ≡ by_reason g now bytes.now t k o node h (why_unwritten x (length bytes.now))
    write_is t k holds found =
        ap (from_descriptor g now bytes.now t) found
        ∙ ap (λ (z : Option Node). refuse_if (not (writes o.flags)) EBADF >>= λ _. refuse_if (nat_lt most_bytes (length bytes.now)) EINVAL >>= λ _. from_node g now bytes.now t k o z)
        (node_open g d t session fd k o holds found).1
        ∙ reasons g now bytes.now t k o node h (directory_of g v (v.inodes n)) (writes o.flags) (nat_lt most_bytes (length bytes.now))
        (is_directory_mode (v.inodes n).mode) (is_link_mode (v.inodes n).mode)
        ∙ ap (λ (z : Found). by_reason g now bytes.now t k o node h (why_unwritten z (length bytes.now))) (sym same_found_file)

    pub write_refused : (e : Disk) (error : Errno) → e ≡ d → why_unwritten x (length bytes.now) ≡ Some error
        → Does g (λ t. write g t now session fd bytes.now) (refused error) (HasFiles f) (HasFiles f) d e
    write_refused e error same why = record {
      each = λ t holds files.
          let a = open_is t f session fd o files (sym is) in
          refused_made g t (write g t now session fd bytes.now) error (HasFiles f) d e
          (write_is t a.0 holds a.1 ∙ ap (by_reason g now bytes.now t a.0 o node h) why) same holds files;
    }

    -- its number is that of a file that may change, where a tree is held
    pub may_change_held : IsHeld g (HasFiles f) d → MayChange g v n
    may_change_held held =
        let a = open_is held.tree f session fd o held.before (sym is) in
        may_change g ok d held.tree held.holds n (node_open g d held.tree session fd a.0 o held.holds a.1).0

    module _ (may : why_unwritten x (length bytes.now) ≡ None) where
      granted : (t : Tree) (k : ℕ) → HoldsVolume g d t → open_file_of t session fd ≡ Ok (k, o)
          → write g t now session fd bytes.now ≡ by_count g now bytes.now t k o node h (length bytes.now == 0)
      granted t k holds found = write_is t k holds found ∙ ap (by_reason g now bytes.now t k o node h) may

      -- no bytes
      pub write_none : (e : Disk) → e ≡ d → length bytes.now ≡ 0 → Does g (λ t. write g t now session fd bytes.now) (wrote 0) (HasFiles f) (HasFiles f) d e
      write_none e same none = record {
        each = λ t holds files.
            let a = open_is t f session fd o files (sym is) in
            looked_made g t (write g t now session fd bytes.now) (wrote 0) (HasFiles f) d e
            (granted t a.0 holds a.1 ∙ ap (by_count g now bytes.now t a.0 o node h) (eq-eqb (length bytes.now) 0 none)) same holds files;
      }

      module _ (some : 0 < length bytes.now) (at : ℕ) (place : at ≡ write_place x) where
        begins : at ≡ place_in g now bytes.now o h
        begins = place ∙ ap write_place same_found_file

        -- some bytes
        takes : (t : Tree) (k : ℕ) → HoldsVolume g d t → open_file_of t session fd ≡ Ok (k, o)
            → write g t now session fd bytes.now ≡ if_it_fits g (wrote (length bytes.now)) (after g now bytes.now t k o node h)
        takes t k holds found =
            granted t k holds found ∙ ap (by_count g now bytes.now t k o node h) (ne_eqb (length bytes.now) 0 (λ e. absurd (omega (arith, e, some))))

        -- there is room for them where there are zones enough
        fits : (t : Tree) (k : ℕ) → HoldsVolume g d t → open_file_of t session fd ≡ Ok (k, o)
            → (zones_used g (after g now bytes.now t k o node h) ≤ data_zones g → HasZonesFor g v n (written_at g v n at bytes.now).held)
            × (HasZonesFor g v n (written_at g v n at bytes.now).held → zones_used g (after g now bytes.now t k o node h) ≤ data_zones g)
        fits t k holds found =
            let marked = (node_open g d t session fd k o holds found).0 in
            let both = room_is_space g v n (new_node g now bytes.now o node h) (file_after_write g h (place_in g now bytes.now o h) bytes.now).held ok holds.nodes.sound marked refl in
            let same : zones_used g (after g now bytes.now t k o node h) ≡ taken_by g (put (nodes_of g v) n (Some (new_node g now bytes.now o node h))) =
            ap (λ (z : ℕ → Option Node). taken_by g (put z n (Some (new_node g now bytes.now o node h)))) holds.nodes.nodes in (
              λ few. subst (λ p. HasZonesFor g v n (written_at g v n p bytes.now).held) (sym begins) (both.0 (omega (arith, few, same))),
              λ has. let few = both.1 (subst (λ p. HasZonesFor g v n (written_at g v n p bytes.now).held) begins has) in omega (arith, few, same),
            )

        pub write_full : (e : Disk) → WritesIfRoom g n at bytes.now now false d e
            → Does g (λ t. write g t now session fd bytes.now) (refused ENOSPC) (HasFiles f) (HasFiles f) d e
        write_full e w = record {
          each = λ t holds files.
              let a = open_is t f session fd o files (sym is) in
              let room = w.room (may_change_held (record { tree = t; holds = holds; before = files })) in
              let used = zones_used g (after g now bytes.now t a.0 o node h) in
              let over : data_zones g < used = elim (cases_lt (data_zones g) used) [
                | inl l ↦ l
                | inr few ↦ let is = room.1 ((fits t a.0 holds a.1).0 few) in cc
              ] in
              refused_made g t (write g t now session fd bytes.now) ENOSPC (HasFiles f) d e
              (takes t a.0 holds a.1 ∙ cond-true (nat_lt (data_zones g) used) (Err ENOSPC) _ (lt-ltb (data_zones g) used over)) (w.refused refl) holds files;
        }

        pub write_done : (e : Disk) (to : ℕ) (new : Files) → session < 64 → now < 2 ^ 32 → All (λ b. b < 256) bytes.now → WritesIfRoom g n at bytes.now now true d e
            → to ≡ at + length bytes.now → new ≡ moved f session fd to
            → Does g (λ t. write g t now session fd bytes.now) (wrote (length bytes.now)) (HasFiles f) (HasFiles new) d e
        write_done e to new early small low w is_to is_new = record {
          each = λ t holds files.
              let a = open_is t f session fd o files (sym is) in
              let k = a.0 in
              let change = may_change_held (record { tree = t; holds = holds; before = files }) in
              let u = after g now bytes.now t k o node h in
              let few = (fits t k holds a.1).1 ((w.room change).0 refl) in
              let effect : write g t now session fd bytes.now ≡ Ok (wrote (length bytes.now), u) =
              takes t k holds a.1 ∙ cond-false (nat_lt (data_zones g) (zones_used g u)) _ (Ok (wrote (length bytes.now), u)) (le-ltb (data_zones g) (zones_used g u) few) in
              let kind : is_directory_mode (v.inodes n).mode ≡ false = ap (λ (z : Found). is_directory_mode z.inode.mode) (sym same_found_file)
              ∙ plain_kind (writes o.flags) (nat_lt most_bytes (length bytes.now)) (is_directory_mode x.inode.mode)
              (is_link_mode x.inode.mode) (nat_lt most_size (write_place x + length bytes.now)) may in
              let file : written_at g v n at bytes.now ≡ file_after_write g h (place_in g now bytes.now o h) bytes.now = ap (λ p. written_at g v n p bytes.now) begins in
              let end : place_in g now bytes.now o h + length bytes.now ≡ to = ap (λ p. p + length bytes.now) (sym begins) ∙ sym is_to in
              granted_made g t u (write g t now session fd bytes.now) (wrote (length bytes.now)) (HasFiles new) e effect
              (volume_with g ok d t holds n change.marked e (stamped now (v.inodes n)) (written_at g v n at bytes.now) w.head (w.written change refl)
              (no_directory g ok d t holds n change.marked e (stamped now (v.inodes n)) (written_at g v n at bytes.now) w.head (w.written change refl) kind)
              (new_node g now bytes.now o node h)
              (λ i. record (node_from (stamped now (v.inodes n)) (file i)) { body = if kind i then (is_directory (record { parent = entry_inode (file i).byte 1; names = names_in (file i).byte ((file i).size / 64 - 2) })) else is_file (file i) })
              u refl
              (tree_kept g t (caller session) now (Write fd bytes) early u (wrote (length bytes.now)) effect
              (write_keeps g t (caller session) now fd bytes (wide g ok) small low holds.nodes.tree)))
              (subst (λ (z : Files). HasFiles z u) (sym is_new) (subst (λ p. HasFiles (moved f session fd p) u) end
              (files_moved (with_node t n (Some (new_node g now bytes.now o node h))) f session fd k o (place_in g now bytes.now o h + length bytes.now)
              (record { opened = files.opened; descriptors = files.descriptors }) a.1)));
        }
