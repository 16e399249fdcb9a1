-- Pages that are held.
use Rattle.std.proofs.Common.{ℕ}
use Rattle.layout.specs.declared.Geometry.{Geometry}
use Rattle.volume.specs.Reading.{Disk}
use Rattle.volume.specs.Pieces.{pieces}
use Rattle.zone.proofs.Composite.{attached_nodes}
use Rattle.zone.specs.Pages.{HoldsPlace}
use Rattle.zone.specs.Files.{AttachesPage}

-- a page that is held
pub page_attached : (g : Geometry) (n p z : ℕ) (d e : Disk) → HoldsPlace g n 0 p z d e → AttachesPage g n p z d e
page_attached g n p z d e x = record {
  head = x.head;
  attached = x.attached;
  names = x.names;
  nodes = λ may. attached_nodes g (pieces g d) (pieces g e) n p may.marked (x.attached may);
}
