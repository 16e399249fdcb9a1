-- What a service guarantees of a record that one of its sessions has seen.
use Rattle.std.specs.Prelude.{List}
use Rattle.layout.specs.declared.Geometry.{Geometry}
use Rattle.tree.specs.Tree.{Tree}
use Rattle.records.specs.Marks.{Mark}
use Rattle.records.specs.Opening.{Opening, contents_at}
use Rattle.records.specs.Legal.{IsAtFirst}
use Rattle.reissue.specs.Calls.{Truth}
use Rattle.shared_server.specs.Held.{HoldsIfTrue, IsGood, IsGuaranteed}

-- Where its replies are true, the volume held a tree as it was handed in. Whichever that was, the record is sound, and over true replies
-- legal from that tree on.
abbrev pub IsServedRecord : Geometry → Opening → List Mark → Type 0
IsServedRecord g v seen = HoldsIfTrue g v seen × ((tree : Tree) → IsAtFirst g (contents_at v) tree → IsGood g v tree seen)

-- and the service's link guaranteed it
abbrev pub Vouched : {L : Type 0} → (L → Truth) → Geometry → Opening → List Mark → Type 0
Vouched truth g v seen = IsServedRecord g v seen × IsGuaranteed truth v seen
