use Rattle.std.proofs.Common.{refl}
use Rattle.shared_server.proofs.LeftOpenLaws.{none_open}
use Rattle.shared_server.proofs.left_open.LeftOpen.new.Goals as goal

pub returns : goal.returns
returns c = none_open _ refl
