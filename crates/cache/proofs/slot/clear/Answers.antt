use Rattle.std.proofs.Common.{◌≡◌, ℕ, List, sym, subst}
use Rattle.std.specs.Prelude.{slice_index}
use Rattle.lemmas.proofs.Lists.{zero_at}
use Rattle.cache.proofs.slot.clear.Goals as goal

pub returns : goal.returns
returns c = λ o. subst (λ (l : List ℕ). slice_index l o ≡ 0) (sym (c.fill.ensures.after (λ y e. e))) (zero_at _ o)
