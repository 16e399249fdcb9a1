-- The image of a clean old volume that is written so is confirmed.
use Rattle.std.proofs.Common.{◌≡◌, ◌<◌, ◌≤◌, ℕ, List, true, sym, ap, ◌∙◌, arith}
use mathlib.Core.Logic.{inl, inr}
use Rattle.std.specs.Prelude.{◌||◌, ◌&&◌, nat_lt, Ok, Err}
use Rattle.std.proofs.lemmas.Bool.{cases_Bool, or_parts, ltb-false}
use Rattle.layout.specs.declared.Geometry.{Geometry}
use Rattle.layout.specs.Places.{geometry_of, refusal_number}
use Rattle.tree.specs.Tree.{most_size}
use Rattle.volume.specs.Pieces.{Pieces, pieces}
use Rattle.volume.specs.Reading.{disk_of}
use Rattle.volume.specs.Nodes as nodes_3
use Rattle.volume.specs.Nodes.{is_marked, is_directory_mode}
use Rattle.volume.specs.Entries.{is_directory_inode}
use Rattle.volume.specs.Holds.{IsSound as SoundVolume}
use Rattle.volume.specs.Verdict.{Clean, found, verdict_of, verdict_of_pieces}
use Rattle.volume.proofs.CleanTree.{clean_is_a_tree}
use Rattle.volume.proofs.Ranges.{at_inode}
use Rattle.volume.proofs.Volumes.{is_volume}
use Rattle.image.specs.declared.Image.{Image}
use Rattle.image.specs.Contents.{contents}
use Rattle.fsck.specs.Form.{version_2}
use Rattle.fsck.specs.Findings.{is_bad_directory_size}
use Rattle.migrate.specs.Laws.{HasPlace, WrittenIsConfirmed}
use Rattle.migrate.specs.Written.{IsWritten}
use Rattle.migrate.proofs.Quiet.{Quiet, clean_quiet}
use Rattle.migrate.proofs.Verdicts.{ok_is}
use Rattle.migrate.proofs.WrittenZones.{zones_agree, inodes_sound, directories_sound, directory_fits, marked_is}
use Rattle.migrate.proofs.WrittenClean.{nodes_moved, clean}

module _ (i : Image) (h : Geometry) (w : Pieces) (p : HasPlace i h) (written : IsWritten i.geometry (contents i) h w) where
  -- the tables stand before the data zones
  front : 0 < h.first_zone
  front = let first = p.geometry.first in omega arith

  -- the rules of the format hold
  pub rules : SoundVolume h w
  rules =
      let some = p.geometry.some_zone in
      record {
        zones = zones_agree i h w p.sound p.sizes p.old_block p.inodes front written p.block p.room some;
        inodes = inodes_sound i h w p.sound p.sizes p.old_block p.inodes front written p.block;
        directories = directories_sound i h w p.sound p.sizes p.old_block p.inodes front written p.block;
      }

  -- no size is over the greatest
  fits : Quiet i.geometry (contents i) → (n : ℕ) → is_marked h w n ≡ true → (w.inodes n).size ≤ most_size
  fits q n is =
      let g = i.geometry in
      let v = contents i in
      let there : is_marked g v n ≡ true = sym (marked_is i h w p.sound p.sizes p.old_block p.inodes front written n) ∙ is in
      elim (cases_Bool (is_directory_mode (v.inodes n).mode)) [
        | inl dir ↦
            let d = (written.nodes n there).directory dir in
            let size = d.moved.size in
            let few = directory_fits i h w p.sound p.sizes p.old_block p.inodes front written n there dir d p.room p.geometry.zones in
            omega arith
        | inr out ↦
            let size = ((written.nodes n there).other out).size in
            let none = at_inode g v (λ n. nat_lt most_size (v.inodes n).size
            || (is_directory_inode g v n && is_bad_directory_size version_2 g v (v.inodes n).size)) n q.sizes there in
            let low = ltb-false most_size (v.inodes n).size (or_parts (nat_lt most_size (v.inodes n).size) _ none).0 in
            omega arith
      ]

-- what the check says of an image that is read
verdict_read : (image : List ℕ) (h : Geometry) → geometry_of image ≡ Ok h
    → verdict_of image ≡ verdict_of_pieces h (pieces h (disk_of h image))
verdict_read image h parsed = ap (λ r. elim r [
  | Err refusal ↦ found 1 (refusal_number refusal)
  | Ok g ↦ verdict_of_pieces g (pieces g (disk_of g image))
]) parsed

-- the law
pub confirmed_so : WrittenIsConfirmed
confirmed_so i h image p old bytes so =
    let w = pieces h (disk_of h image) in
    let q = clean_quiet i.geometry (contents i) old in
    let rules = rules i h w p so.pieces in
    let nothing : verdict_of image ≡ Clean
    = verdict_read image h so.parsed ∙ clean i h w p.sound p.sizes p.old_block p.inodes (front i h w p so.pieces) so.pieces p.block
    (is_volume h (disk_of h image) p.geometry) rules q (fits i h w p so.pieces q) in
    let t = (clean_is_a_tree image bytes).0 nothing in
    let held = t.1 in
    let same : held.geometry ≡ h = ok_is held.geometry h (sym held.parsed ∙ so.parsed) in
    record {
      read = so.parsed;
      tree = t.0;
      held = held;
      nodes = held.holds.nodes ∙ ap (λ g. nodes_3.nodes_of g (pieces g (disk_of g image))) same
          ∙ sym (nodes_moved i h w p.sound p.sizes p.old_block p.inodes (front i h w p so.pieces) so.pieces p.block);
      clean = nothing;
    }
