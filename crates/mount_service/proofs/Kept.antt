-- What a call is answered where there is an archive, where nothing is said of the link.
use Rattle.std.proofs.Common.{ℕ, List}
use Rattle.layout.specs.declared.Geometry.{Geometry}
use Rattle.tree.specs.declared.Call.{Call}
use Rattle.tree.specs.declared.Outcome.{Outcome}
use Rattle.records.specs.Marks.{Mark}
use Rattle.records.specs.Opening.{Opening}
use Rattle.records.specs.Session.{SessionState}
use Rattle.reissue.specs.declared.link.Link.{Ghosts as LinkWords}
use Rattle.archive.specs.Behind.{Puts, IsAnsweredKept, IsKeptCall}

pub answered_kept : {A L : Type 0} (puts : Puts A) (link : LinkWords L) (marks : L → List Mark) (g : Geometry) (v : Opening)
    (before : SessionState) (now : ℕ) (call : Call) (told : Outcome) (after : SessionState)
    → IsKeptCall puts link marks g v before now call told after → IsAnsweredKept puts g v before now call told after
answered_kept puts link marks g v before now call told after it = record {
  came = it.came;
  answered = record { keeps = it.called.keeps; holds = it.called.volume };
  is_told = it.is_told;
}
