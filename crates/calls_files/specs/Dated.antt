-- What bytes written into one inode's file leave, with the times of the change.
use Rattle.std.specs.Prelude.{◌≡◌, ◌↔◌, ℕ, List, Bool, true, false}
use Rattle.layout.specs.declared.Geometry.{Geometry}
use Rattle.volume.specs.Reading.{Disk}
use Rattle.volume.specs.Pieces.{pieces}
use Rattle.block_store.specs.Volume.{SameHead}
use Rattle.file.specs.PageChanges.{MayChange, BecomesFile, stamped}
use Rattle.file.specs.Changing.{HasZonesFor, written_at}

-- Where there are zones enough, these bytes are written into the file of inode n at `now`; where not, nothing is changed. x says which.
pub record WritesIfRoom (g : Geometry) (n at : ℕ) (bytes : List ℕ) (now : ℕ) (x : Bool) (d e : Disk) : Type 0 where
  pub head : SameHead d e
  pub room : let v = pieces g d in MayChange g v n → (x ≡ true) ↔ HasZonesFor g v n (written_at g v n at bytes).held
  pub refused : x ≡ false → e ≡ d
  pub written : let v = pieces g d in
      MayChange g v n → x ≡ true → BecomesFile g v (pieces g e) n (stamped now (v.inodes n)) (written_at g v n at bytes)
