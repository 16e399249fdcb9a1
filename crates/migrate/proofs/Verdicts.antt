-- What the check of a stamped volume says of the old image, and what a migrated one holds.
use Rattle.std.proofs.Common.{◌≡◌, ◌<◌, ◌≤◌, ℕ, ◌*◌, List, length, true, false, sym, ap, subst, ◌∙◌, arith}
use mathlib.Core.Logic.{inl, inr}
use Rattle.std.specs.Prelude.{Option, None, Some, Result, Ok, Err, IsErr, IsErrAnd, IfErr, not, nat_lt, if◌then◌else◌}
use Rattle.std.proofs.lemmas.Bool.{cases_lt, and_left, cond-true, cond-false, lt-ltb, le-ltb}
use Rattle.layout.specs.declared.Geometry.{Geometry}
use Rattle.layout.specs.declared.LayoutRefusal.{LayoutRefusal}
use Rattle.layout.specs.Places.{IsGeometry, geometry_of}
use Rattle.volume.specs.declared.Finding.{Finding}
use Rattle.volume.specs.Reading.{disk_of}
use Rattle.volume.specs.Pieces.{pieces}
use Rattle.volume.specs.Nodes.{is_marked}
use Rattle.volume.specs.Verdict.{Clean, place_limit}
use Rattle.volume.specs.Findings.{lacks_inode_bit, lacks_zone_bit, lacks_root, has_bad_mode}
use Rattle.volume.proofs.Sums.{none_below}
use Rattle.image.specs.declared.Image.{Image}
use Rattle.image.specs.Contents.{contents}
use Rattle.image.proofs.Contents.{out_of_range, is_geometry}
use Rattle.fsck.specs.Parts.{first_of}
use Rattle.fsck.proofs.Firsts.{verdict_from, first_verdict, none_first}
use Rattle.fsck.specs.Form.{version_2}
use Rattle.fsck.specs.Nodes as nodes_2
use Rattle.fsck.specs.Findings.{has_bad_size}
use Rattle.lemmas.proofs.Bools.{not_false}
use Rattle.migrate.specs.Holds.{IsSound}
use Rattle.fsck.specs.Verdict.{tests, verdict_of_pieces}
use Rattle.migrate.specs.Verdict.{old_verdict_of}
use Rattle.migrate.specs.Stamped.{IsStamped}
use Rattle.migrate.specs.Laws.{HasPlace}
use Rattle.migrate.specs.Superblock.{old_geometry_of}
use Rattle.migrate.proofs.SuperblockPut.{old_fits}
use Rattle.migrate.proofs.SoundDirectories.{clean_is_sound as clean_sound}
use Rattle.new_volume.specs.Sizes.{sizes_of}
use Rattle.migrate.specs.Used.{has_room, zones_of_all}
use Rattle.tree.specs.Space.{data_zones}
use Rattle.volume.specs.Entries.{is_directory_inode}
use Rattle.migrate.specs.declared.refusal.MigrateRefusal.{MigrateRefusal}
use Rattle.migrate.specs.declared.refusal.MigrateRefusal.TheVariants.{OldLayout, Found as FoundOld, TooManyBlocks, DoesNotFit, OutOfMemory}
use Rattle.migrate.specs.Migrated.{IsConfirmed, IsCramped, IsMigrated, IsRefused, refusal_from, refusal_of, refusal_past}
use Rattle.migrate.proofs.RoomLeft.{sizes_known, sizes_are_new}
use Rattle.migrate.proofs.TreeSizes.{tree_over}

-- the sizes of a result
abbrev the_ok : Geometry → Result Geometry LayoutRefusal
the_ok g = Ok g

pub ok_is : (g h : Geometry) → the_ok g ≡ the_ok h → g ≡ h
ok_is g h e = ap (λ r. elim r [ Ok x ↦ x | Err _ ↦ g ]) e

-- an image that is read has the sizes that it is read with
pub sizes_are : (i : Image) (g : Geometry) (bytes : List ℕ) → i.bytes.now ≡ bytes → geometry_of bytes ≡ Ok g → i.geometry ≡ g
sizes_are i g bytes same parsed = ok_is i.geometry g (sym i.parsed ∙ ap geometry_of same ∙ parsed)

module _ (i : Image) (g : Geometry) (old bytes : List ℕ) (same : i.bytes.now ≡ bytes) (stamped : IsStamped g old bytes) where
  -- the stamped volume's pieces are the old one's
  pub pieces_are : contents i ≡ pieces i.geometry (disk_of i.geometry old)
  unfolding contents
  pieces_are =
      let e = sizes_are i g bytes same stamped.parsed in
      ap (λ b. pieces i.geometry (disk_of i.geometry b)) same
      ∙ subst (λ h. pieces h (disk_of h bytes) ≡ pieces h (disk_of h old)) (sym e) stamped.pieces

  -- the first finding of it is the old one's verdict
  pub old_checked : (o : Option Finding) → o ≡ first_of (place_limit i.geometry) 2 (tests version_2 i.geometry (contents i))
      → verdict_from o ≡ old_verdict_of g old
  old_checked o is =
      ap verdict_from is ∙ first_verdict (place_limit i.geometry) 2 (tests version_2 i.geometry (contents i))
      ∙ ap (verdict_of_pieces version_2 i.geometry) pieces_are
      ∙ ap (λ h. old_verdict_of h old) (sizes_are i g bytes same stamped.parsed)

  -- its nodes are the old one's
  pub old_nodes : nodes_2.nodes_of version_2 i.geometry (contents i) ≡ nodes_2.nodes_of version_2 g (pieces g (disk_of g old))
  old_nodes =
      ap (nodes_2.nodes_of version_2 i.geometry) pieces_are
      ∙ ap (λ h. nodes_2.nodes_of version_2 h (pieces h (disk_of h old))) (sizes_are i g bytes same stamped.parsed)

-- where nothing is found, the verdict is clean
pub quiet : (i : Image) → None ≡ first_of (place_limit i.geometry) 2 (tests version_2 i.geometry (contents i))
    → verdict_of_pieces version_2 i.geometry (contents i) ≡ Clean
quiet i none = sym (ap verdict_from none ∙ first_verdict (place_limit i.geometry) 2 (tests version_2 i.geometry (contents i)))

-- and the old volume is sound
pub sound_from : (i : Image) → None ≡ first_of (place_limit i.geometry) 2 (tests version_2 i.geometry (contents i))
    → IsSound version_2 i.geometry (contents i)
unfolding contents
sound_from i none = clean_sound i.geometry (disk_of i.geometry i.bytes.now) (is_geometry i) (quiet i none)

-- where nothing is found, no size is bad
pub sizes_good : (i : Image) → None ≡ first_of (place_limit i.geometry) 2 (tests version_2 i.geometry (contents i)) → (n : ℕ)
    → has_bad_size version_2 i.geometry (contents i) n ≡ false
sizes_good i e n =
    let g = i.geometry in
    let v = contents i in
    let l = place_limit g in
    let a = none_first l 2 (lacks_inode_bit g v) _ e in
    let b = none_first l 3 (lacks_zone_bit g v) _ a.1 in
    let c = none_first l 4 (lacks_root g v) _ b.1 in
    let d = none_first l 5 (has_bad_mode g v) _ c.1 in
    let f = none_first l 6 (has_bad_size version_2 g v) _ d.1 in
    elim (cases_lt n l) [
      | inl low ↦ none_below (has_bad_size version_2 g v) l f.0 n low
      | inr far ↦ and_left (is_marked g v n) _ (out_of_range i n (omega arith))
    ]

-- and the root is there
pub root_there : (i : Image) → None ≡ first_of (place_limit i.geometry) 2 (tests version_2 i.geometry (contents i))
    → is_directory_inode i.geometry (contents i) 1 ≡ true
root_there i e =
    let g = i.geometry in
    let v = contents i in
    let l = place_limit g in
    let a = none_first l 2 (lacks_inode_bit g v) _ e in
    let b = none_first l 3 (lacks_zone_bit g v) _ a.1 in
    let c = none_first l 4 (lacks_root g v) _ b.1 in
    let some = (is_geometry i).some_inode in
    not_false (is_directory_inode g v 1) (none_below (lacks_root g v) l c.0 1 (omega arith))

-- all this is what the new volume is written from
pub has_place : (i : Image) (blocks : ℕ) (h : Geometry)
    → None ≡ first_of (place_limit i.geometry) 2 (tests version_2 i.geometry (contents i))
    → i.geometry.block_size ≡ 1024 → sizes_of blocks 1024 i.geometry.inodes ≡ Ok h → IsGeometry h
    → zones_of_all i.geometry (nodes_2.nodes_of version_2 i.geometry (contents i)) ≤ data_zones h → HasPlace i h
has_place i blocks h none block sizes geometry fits =
    let known = sizes_known blocks i.geometry.inodes h sizes in
    record {
      sound = sound_from i none;
      sizes = sizes_good i none;
      old_block = block;
      geometry = geometry;
      block = known.1;
      inodes = known.0;
      room = fits;
    }

-- what is said of an error is said of a result that has it
pub err_same : {A E : Type 0} (r : Result A E) (e : E) (P : E → Type 0) → IsErr r × IsErrAnd r (λ x. x ≡ e) → P e → IfErr r P
err_same (Ok x) e P h p = let no = h.0 in absurd (cc)
err_same (Err x) e P h p = subst P (sym h.1) p

module _ (i : Image) (old bytes : List ℕ) (blocks : ℕ) (g : Geometry) (same : i.bytes.now ≡ bytes) (parsed : old_geometry_of old ≡ Ok g)
    (stamped : IsStamped g old bytes) where
  -- an old image in which something is found is refused
  pub found_refused : (finding : Finding) → Some finding ≡ first_of (place_limit i.geometry) 2 (tests version_2 i.geometry (contents i))
      → refusal_of old blocks ≡ Some (FoundOld finding)
  found_refused finding is =
      ap (refusal_from old blocks) parsed ∙ ap (refusal_past g old blocks) (sym (old_checked i g old bytes same stamped (Some finding) is))

  module _ (none : None ≡ first_of (place_limit i.geometry) 2 (tests version_2 i.geometry (contents i))) where
    -- a clean one by the blocks that are wanted
    clean_refused : refusal_of old blocks ≡ refusal_past g old blocks Clean
    clean_refused = ap (refusal_from old blocks) parsed ∙ ap (refusal_past g old blocks)
        (sym (old_checked i g old bytes same stamped None none))

    -- too many
    pub many_refused : 65536 < blocks → refusal_of old blocks ≡ Some TooManyBlocks
    many_refused many = clean_refused ∙ cond-true (nat_lt 65536 blocks) (Some TooManyBlocks) _ (lt-ltb 65536 blocks many)

    module _ (few : blocks ≤ 65536) where
      -- whether there is room is said of the stamped volume as of the old one
      room_is : has_room i.geometry (contents i) blocks ≡ has_room g (pieces g (disk_of g old)) blocks
      room_is =
          ap (λ v. has_room i.geometry v blocks) (pieces_are i g old bytes same stamped)
          ∙ ap (λ h. has_room h (pieces h (disk_of h old)) blocks) (sizes_are i g bytes same stamped.parsed)

      -- else by the room
      by_room : refusal_of old blocks ≡ (if not (has_room g (pieces g (disk_of g old)) blocks) then Some DoesNotFit else None)
      by_room = clean_refused ∙ cond-false (nat_lt 65536 blocks) (Some TooManyBlocks) _ (le-ltb 65536 blocks few)

      -- too few
      pub room_refused : has_room i.geometry (contents i) blocks ≡ false → refusal_of old blocks ≡ Some DoesNotFit
      room_refused out = by_room ∙ cond-true (not (has_room g (pieces g (disk_of g old)) blocks)) (Some DoesNotFit) None
          (ap not (sym room_is ∙ out))

      -- enough
      pub none_refused : has_room i.geometry (contents i) blocks ≡ true → refusal_of old blocks ≡ None
      none_refused is = by_room ∙ cond-false (not (has_room g (pieces g (disk_of g old)) blocks)) (Some DoesNotFit) None
          (ap not (sym room_is ∙ is))

      -- why a new volume isn't begun is why the old one is refused
      pub cramped_refused : (e : MigrateRefusal) → IsCramped i.geometry (contents i) blocks e → IsRefused old blocks e
      cramped_refused (OldLayout refusal) h = absurd h
      cramped_refused (FoundOld finding) h = absurd h
      cramped_refused TooManyBlocks h = absurd h
      cramped_refused DoesNotFit h = room_refused h
      cramped_refused OutOfMemory h = (g, parsed)

-- the migration of a clean old image whose new one is confirmed
pub migrated : (i : Image) (old bytes image : List ℕ) (blocks : ℕ) (g h : Geometry) → i.bytes.now ≡ bytes → old_geometry_of old ≡ Ok g
    → IsStamped g old bytes → None ≡ first_of (place_limit i.geometry) 2 (tests version_2 i.geometry (contents i))
    → refusal_of old blocks ≡ None → sizes_of blocks 1024 i.geometry.inodes ≡ Ok h → length image ≡ 1024 * h.zones → IsConfirmed i h image
    → IsMigrated old blocks image
migrated i old bytes image blocks g h same parsed stamped none unrefused sizes whole c =
    let e = sizes_are i g bytes same stamped.parsed in
    let clean = sym (old_checked i g old bytes same stamped None none) in
    let fits = old_fits old g parsed in
    let of_new = sizes_known blocks i.geometry.inodes h sizes in
    let found = c.held.holds in
    let read : c.held.geometry ≡ h = ok_is c.held.geometry h (sym c.held.parsed ∙ c.read) in
    let inodes : c.held.geometry.inodes ≡ g.inodes = ap (λ g. g.inodes) read ∙ of_new.0 ∙ ap (λ g. g.inodes) e in
    let block : c.held.geometry.block_size ≡ g.block_size = ap (λ g. g.block_size) read ∙ of_new.1 ∙ sym fits.block in
    record {
      old_geometry = g;
      parsed = parsed;
      old_clean = clean;
      unrefused = unrefused;
      geometry = h;
      sizes = ap (sizes_of blocks 1024) (ap (λ g. g.inodes) (sym e)) ∙ sizes;
      whole = whole ∙ ap (λ g. 1024 * g.zones) (sym (sizes_are_new blocks i.geometry.inodes h sizes).0);
      read = c.read;
      tree = c.tree;
      held_old = record {
        geometry = g;
        parsed = parsed;
        holds = record {
          nodes = c.nodes ∙ old_nodes i g old bytes same stamped;
          sound = clean_sound g (disk_of g old) fits.sizes clean;
          tree = tree_over c.held.geometry g inodes block c.tree found.tree;
        };
        closed = c.held.closed;
      };
      held = c.held;
      clean = c.clean;
    }
