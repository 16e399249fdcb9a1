-- A fid that goes along with a name.
use Rattle.std.proofs.Common.{◌≡◌, ◌≤◌, ℕ, List, ◌++◌, length, sym, ap, ◌∙◌, inr}
use Rattle.std.proofs.lemmas.List.{append_cancel_left}
use Rattle.ninep_fids.specs.Paths.{IsRest}
use Rattle.ninep_fids.specs.Fids.{IsRenamed}
use Rattle.ninep_fids.specs.Knowledge.{File}

pub goes_along : (old new rest : List ℕ) (f g : File) → f.path ≡ old ++ rest → IsRest rest → g.path ≡ new ++ rest
    → g.gone ≡ f.gone → g.node ≡ f.node → g.user ≡ f.user → g.descriptor ≡ f.descriptor → g.entries ≡ f.entries → length g.path ≤ 1024
    → IsRenamed old new f g
goes_along old new rest f g e h p gone node user descriptor entries short = record {
  moved = λ other is o. inr (p ∙ ap (λ (r : List ℕ). new ++ r) (append_cancel_left old rest other (sym e ∙ o)), gone);
  replaced = λ other is elsewhere o. absurd (elsewhere rest h e);
  others = λ elsewhere other. absurd (elsewhere rest h e);
  path = λ elsewhere. absurd (elsewhere rest h e);
  short = inr short;
  node = node;
  user = user;
  descriptor = descriptor;
  entries = entries;
}
