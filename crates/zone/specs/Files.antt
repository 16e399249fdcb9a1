-- What attaching does to a file, and to the nodes.
use Rattle.std.specs.Prelude.{◌≡◌, ℕ, true, Some}
use Rattle.layout.specs.declared.Geometry.{Geometry}
use Rattle.lemmas.specs.Sums.{put}
use Rattle.volume.specs.Reading.{Disk}
use Rattle.volume.specs.Pieces.{pieces}
use Rattle.volume.specs.Nodes.{file_of, nodes_of}
use Rattle.volume.specs.Places.{zone_at}
use Rattle.zone.specs.ZoneSteps.{with_page, node_from}
use Rattle.zone.specs.Composite.{Attached}
use Rattle.block_store.specs.Volume.{SameHead}
use Rattle.zone.specs.Pages.{MayHold}

-- Page p of inode n lies in zone z, where it may be held; the nodes change at n alone, whose file holds the page.
pub record AttachesPage (g : Geometry) (n p z : ℕ) (d e : Disk) : Type 0 where
  pub head : SameHead d e
  pub attached : MayHold g (pieces g d) n 0 p → Attached g (pieces g d) (pieces g e) n 0 p
  pub names : MayHold g (pieces g d) n 0 p → zone_at g (pieces g e) ((pieces g e).inodes n) 0 p ≡ z
  pub nodes : MayHold g (pieces g d) n 0 p → let v = pieces g d in
      nodes_of g (pieces g e) ≡ put (nodes_of g v) n (Some (node_from (v.inodes n) (with_page (file_of g v (v.inodes n)) p true)))
