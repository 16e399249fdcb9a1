-- A directory whose file changes becomes a node with other names, or another parent.
use Rattle.std.proofs.Common.{◌≡◌, ◌<◌, ◌≤◌, ◌+◌, ◌*◌, ◌-◌, ◌/◌, ℕ, Bool, true, false, List, length, Some, refl, sym, ap, subst, ◌∙◌, arith}
use Rattle.std.specs.Prelude.{◌||◌, ◌&&◌, nat_lt, IsTrue, slice_index, if◌then◌else◌}
use Rattle.std.proofs.lemmas.Bool.{and_parts, cond-true, ltb-true, ne_eqb, not_from_false}
use Rattle.layout.specs.declared.Geometry.{Geometry}
use Rattle.layout.specs.Places.{is_block_size}
use Rattle.lemmas.specs.Sums.{put}
use Rattle.tree.specs.Names.{Name, Names, with_name}
use Rattle.tree.specs.Tree.{File, Directory, Body, is_file, is_directory, Node}
use Rattle.tree.specs.Changes.{with_names, with_parent, with_body}
use Rattle.tree.specs.Space.{data_zones, numbers_in_zone}
use Rattle.tree.specs.ZonesNeeded.{zones_needed}
use Rattle.volume.specs.declared.Inode.{Inode}
use Rattle.volume.specs.Pieces.{Pieces, pieces}
use Rattle.volume.specs.Reading.{Disk, u32_in}
use Rattle.volume.specs.Nodes.{directory_of, entry_inode, file_of, is_directory_mode, is_link_mode, is_marked, names_in, node_of, nodes_of}
use Rattle.volume.specs.Nodes.{permissions_in}
use Rattle.volume.specs.Entries.{entry_count}
use Rattle.volume.specs.Holds.{IsSoundDirectory}
use Rattle.volume.proofs.Sums.{count_most}
use Rattle.file.specs.ZoneSteps.{body_from, node_from, marked_in}
use Rattle.file.proofs.Keeps.{sound_but_is_sound, sound_is_sound_but}
use Rattle.directory.specs.Directories.{IsDirectoryOf, before}
use Rattle.directory.specs.Files.{IsEntryBytes}
use Rattle.directory.proofs.Writes.{file_inserted, file_reparented}
use Rattle.file.specs.PageChanges.{MayChange, BecomesFile, Stamps, stamped, file_at}
use Rattle.file.specs.Changing.{HasZonesFor, MayWriteAt, WritesAt, written_at}
use Rattle.file.proofs.Becoming.{becomes_then, may_change_after}
use Rattle.directory.proofs.Pages.{each_size}
use Rattle.directory.proofs.EntriesStanding.{stands_last, dots_set}
use Rattle.directory.specs.Names.{IsOfDirectory, BecomesNode, NamesBecome, node_at, MayInsert, Inserts, MaySetParent, SetsParent}

-- the file of a directory may change
pub may_change : (g : Geometry) (v : Pieces) (n : ℕ) → IsOfDirectory g v n → MayChange g v n
may_change g v n of = record {
  geometry = of.geometry;
  marked = (and_parts (is_marked g v n) _ of.directory).0;
  rules = sound_is_sound_but g v n 0 of.sound;
}

-- the directory that a file says
abbrev said_by : File → Directory
said_by f = record { parent = entry_inode f.byte 1; names = names_in f.byte (f.size / 64 - 2) }

-- a node, from an inode and another body
abbrev made_of : Inode → Body → Node
made_of i body = record {
  permissions = permissions_in i.mode;
  symbolic = is_link_mode i.mode;
  uid = i.uid;
  gid = i.gid;
  links = i.links;
  atime = i.atime;
  mtime = i.mtime;
  ctime = i.ctime;
  body = body;
}

-- what the file of a directory becomes, as a body
pub body_is : (g : Geometry) (w : Pieces) (n parent : ℕ) (names : Names) (i : Inode) (f : File) → is_directory_mode i.mode ≡ true → file_of g w (w.inodes n) ≡ f
    → IsDirectoryOf g w n parent names → body_from i f ≡ is_directory (record { parent = parent; names = names })
body_is g w n parent names i f mode file is =
    cond-true (is_directory_mode i.mode) (is_directory (said_by f)) (is_file f) mode
    ∙ ap (λ (x : File). is_directory (said_by x)) (sym file)
    ∙ (λ t. is_directory (record { parent = is.parent_is t; names = is.names_are t }))

-- a directory's node with other names, or with another parent
names_are : (g : Geometry) (v : Pieces) (i : Inode) (now : ℕ) (f : Names → Names) → is_directory_mode i.mode ≡ true
    → with_names now f (node_of g v i) ≡ made_of (stamped now i) (is_directory (record { parent = (directory_of g v i).parent; names = f (directory_of g v i).names }))
names_are g v i now f mode =
    let dir = directory_of g v i in
    ap (λ (b : Bool). elim (if b then is_directory dir else is_file (file_of g v i)) [
      | is_file file ↦ node_of g v i
      | is_directory d ↦ with_body now (is_directory (record d { names = f d.names })) (node_of g v i)
    ]) mode

parent_is : (g : Geometry) (v : Pieces) (i : Inode) (parent : ℕ) → is_directory_mode i.mode ≡ true
    → with_parent parent (node_of g v i) ≡ made_of i (is_directory (record { parent = parent; names = (directory_of g v i).names }))
parent_is g v i parent mode =
    let dir = directory_of g v i in
    ap (λ (b : Bool). elim (if b then is_directory dir else is_file (file_of g v i)) [
      | is_file file ↦ node_of g v i
      | is_directory d ↦ record (node_of g v i) { body = is_directory (record d { parent = parent }) }
    ]) mode

module _ (g : Geometry) (v : Pieces) (n : ℕ) (of : IsOfDirectory g v n) where
  abbrev inode : Inode
  inode = v.inodes n

  mode : is_directory_mode inode.mode ≡ true
  mode = (and_parts (is_marked g v n) (is_directory_mode inode.mode) of.directory).1

  pub in_order : IsSoundDirectory g v n
  in_order = of.sound.directories n of.directory

  -- its last entry ends it
  pub ends : 64 * entry_count v n ≡ inode.size
  ends = let sized = in_order.sized in omega (arith, sized)

  pub two_entries : 128 ≤ inode.size
  two_entries = let two = in_order.two in omega (arith, two)

  -- a change that leaves the times
  module _ (w : Pieces) (f : File) (b : BecomesFile g v w n inode f) where
    pub becomes_parent : (parent : ℕ) → IsDirectoryOf g w n parent (before g v n).names → BecomesNode g v w n (with_parent parent (node_at g v n))
    becomes_parent parent is = record {
      sound = sound_but_is_sound g w n 0 b.rules (λ _. is.sound);
      marks = b.marks;
      others = b.others;
      nodes = b.nodes ∙ ap (λ (x : Node). put (nodes_of g v) n (Some x))
          (ap (made_of inode) (body_is g w n parent (before g v n).names inode f mode b.file is) ∙ sym (parent_is g v inode parent mode));
    }

    -- and one that sets them
    module _ (u : Pieces) (now : ℕ) (s : BecomesFile g w u n (stamped now (w.inodes n)) (file_at g w n)) where
      pub becomes_names : (change : Names → Names) → IsDirectoryOf g u n (before g v n).parent (change (before g v n).names) → NamesBecome g v u n now change
      becomes_names change is =
          let all = becomes_then g v w u n inode (stamped now (w.inodes n)) f (file_at g w n) (may_change g v n of) b s in
          record {
            sound = sound_but_is_sound g u n 0 all.rules (λ _. is.sound);
            marks = all.marks;
            others = all.others;
            nodes = all.nodes ∙ ap (λ (x : Node). put (nodes_of g v) n (Some x))
                (ap (λ (i : Inode). node_from (stamped now i) (file_at g w n)) b.inode
                ∙ ap (made_of (stamped now inode)) (body_is g u n (before g v n).parent (change (before g v n).names) (stamped now inode) (file_at g w n) mode s.file is)
                ∙ sym (names_are g v inode now change mode));
          }

-- a page that begins below the end is one of the pages
pages_above : (q s b : ℕ) → IsTrue (is_block_size b) → q * b < s → q < (s + b - 1) / b
pages_above q s b size = each_size (λ w. q * w < s → q < (s + w - 1) / w) b size (λ l. omega arith) (λ l. omega arith) (λ l. omega arith)

-- a write inside the directory takes no zone
pub has_zones : (g : Geometry) (v : Pieces) (n at : ℕ) (bytes : List ℕ) → IsOfDirectory g v n → at + length bytes ≤ (v.inodes n).size
    → HasZonesFor g v n (written_at g v n at bytes).held
has_zones g v n at bytes of inside =
    let few : marked_in g v ≤ data_zones g = count_most (λ k. v.zone_map (k + 1)) (data_zones g) in
    let same = ap (zones_needed (numbers_in_zone g)) (λ t q. held q t) in
    omega (arith, few, same)
  where
    covered : (q : ℕ) → (nat_lt (q * g.block_size) (at + length bytes) && nat_lt at ((q + 1) * g.block_size)) ≡ true → (file_at g v n).held q ≡ true
    covered q h =
        let low = ltb-true (q * g.block_size) (at + length bytes) (and_parts (nat_lt (q * g.block_size) (at + length bytes)) _ h).0 in
        let whole = (in_order g v n of).whole q (pages_above q (v.inodes n).size g.block_size of.geometry.block_size (omega (arith, low, inside))) in
        not_from_false _ (ne_eqb _ 0 whole)

    held : (q : ℕ) → (written_at g v n at bytes).held q ≡ (file_at g v n).held q
    held q = or_same ((file_at g v n).held q) (nat_lt (q * g.block_size) (at + length bytes) && nat_lt at ((q + 1) * g.block_size)) (covered q)
      where
        or_same : (a b : Bool) → (b ≡ true → a ≡ true) → (a || b) ≡ a
        or_same true b h = refl
        or_same false true h = sym (h refl)
        or_same false false h = refl

-- the entry may be written there
pub may_insert : (g : Geometry) (v : Pieces) (n : ℕ) (name : Name) (number : ℕ) (bytes : List ℕ) (i : Inode) → i ≡ v.inodes n → length bytes ≡ 64 → MayInsert g v n name number
    → MayWriteAt g v n i.size bytes
may_insert g v n name number bytes i loaded many may = record {
  change = may_change g v n may.of;
  room = subst (λ (x : ℕ). HasZonesFor g v n (written_at g v n x bytes).held) (sym (ap (λ (j : Inode). j.size) loaded)) (may.room bytes many);
}

-- bytes are written into the file of a directory, and then its times are set
module _ (g : Geometry) (n at : ℕ) (bytes : List ℕ) (now : ℕ) (d e f : Disk) (of : IsOfDirectory g (pieces g d) n) (may : MayWriteAt g (pieces g d) n at bytes)
    (writes : WritesAt g n at bytes d e) (stamps : Stamps g n now e f) where
  wrote : BecomesFile g (pieces g d) (pieces g e) n ((pieces g d).inodes n) (written_at g (pieces g d) n at bytes)
  wrote = writes.becomes may

  then_stamped : BecomesFile g (pieces g e) (pieces g f) n (stamped now ((pieces g e).inodes n)) (file_at g (pieces g e) n)
  then_stamped = stamps.becomes (may_change_after g (pieces g d) (pieces g e) n ((pieces g d).inodes n) _ (may_change g (pieces g d) n of) wrote)

  pub file_then : file_of g (pieces g f) ((pieces g f).inodes n) ≡ written_at g (pieces g d) n at bytes
  file_then = then_stamped.file ∙ wrote.file

  pub names_then : (change : Names → Names) → IsDirectoryOf g (pieces g f) n (before g (pieces g d) n).parent (change (before g (pieces g d) n).names)
      → NamesBecome g (pieces g d) (pieces g f) n now change
  names_then change is = becomes_names g (pieces g d) n of (pieces g e) _ wrote (pieces g f) now then_stamped change is

-- an entry is written behind the last, and the times are set
pub inserted : (g : Geometry) (n : ℕ) (name : Name) (number now : ℕ) (bytes : List ℕ) (i : Inode) (d e f : Disk) → i ≡ (pieces g d).inodes n → IsEntryBytes bytes number name
    → WritesAt g n i.size bytes d e → Stamps g n now e f → Inserts g n name number now d f
inserted g n name number now bytes i d e f loaded is writes stamps = record {
  head = λ b l. stamps.head b l ∙ writes.head b l;
  becomes = λ may.
      names_then g n i.size bytes now d e f may.of (allowed may) writes stamps (λ names. with_name names name number)
      (file_inserted g (pieces g d) (pieces g f) n number name bytes may.of.geometry (in_order g (pieces g d) n may.of) may.named may.some may.new is (file may));
  place = λ may. stands_last g (pieces g d) (pieces g f) n (in_order g (pieces g d) n may.of) number name bytes is (file may);
}
  where
    allowed : MayInsert g (pieces g d) n name number → MayWriteAt g (pieces g d) n i.size bytes
    allowed may = may_insert g (pieces g d) n name number bytes i loaded is.many may

    file : MayInsert g (pieces g d) n name number → file_of g (pieces g f) ((pieces g f).inodes n) ≡ written_at g (pieces g d) n (64 * entry_count (pieces g d) n) bytes
    file may =
        let at : i.size ≡ 64 * entry_count (pieces g d) n = ap (λ (j : Inode). j.size) loaded ∙ sym (ends g (pieces g d) n may.of) in
        file_then g n i.size bytes now d e f may.of (allowed may) writes stamps ∙ ap (λ (x : ℕ). written_at g (pieces g d) n x bytes) at

-- the number of entry 1 is written
pub may_set_parent : (g : Geometry) (v : Pieces) (n parent : ℕ) (bytes : List ℕ) → length bytes ≡ 4 → MaySetParent g v n parent → MayWriteAt g v n 64 bytes
may_set_parent g v n parent bytes many may =
    let two = two_entries g v n may.of in
    record { change = may_change g v n may.of; room = has_zones g v n 64 bytes may.of (omega (arith, two, many)) }

pub parent_set : (g : Geometry) (n parent : ℕ) (bytes : List ℕ) (d e : Disk) → length bytes ≡ 4 → u32_in (slice_index bytes) 0 ≡ parent
    → WritesAt g n 64 bytes d e → SetsParent g n parent d e
parent_set g n parent bytes d e many is writes = record {
  head = writes.head;
  becomes = λ may.
      let v = pieces g d in
      let wrote = writes.becomes (may_set_parent g v n parent bytes many may) in
      becomes_parent g v n may.of (pieces g e) _ wrote parent
      (file_reparented g v (pieces g e) n parent bytes may.of.geometry (in_order g v n may.of) may.some many is wrote.file);
  place = λ may. dots_set g (pieces g d) (pieces g e) n (in_order g (pieces g d) n may.of) parent bytes many is
      (writes.becomes (may_set_parent g (pieces g d) n parent bytes many may)).file;
}
