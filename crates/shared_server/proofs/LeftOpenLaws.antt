-- Which descriptors calls left open.
use Rattle.std.proofs.Common.{◌≡◌, List, [], Bool, false, get_or, ◌∙◌, ap}
use Rattle.board.proofs.KeeperLaws.{all_free, is_free}
use Rattle.shared_server.specs.declared.left_open.LeftOpen.{LeftOpen}
use Rattle.shared_server.specs.Descriptors.{AreLeftOpen}

-- none of them is open at first
pub none_open : (o : LeftOpen) → o.flags ≡ all_free 32 → AreLeftOpen o []
none_open o is = record { each = λ fd low. ap (λ (bits : List Bool). get_or bits fd false) is ∙ is_free 32 fd }
