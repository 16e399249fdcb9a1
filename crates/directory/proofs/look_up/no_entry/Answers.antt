use Rattle.std.proofs.Common.{◌≡◌, ℕ, zero, suc, get_or, replicate, refl}
use Rattle.lemmas.proofs.Lists.{zero_at}
use Rattle.directory.proofs.look_up.no_entry.Goals as goal

pub returns : goal.returns
returns c = λ o. zero_at 64 o
