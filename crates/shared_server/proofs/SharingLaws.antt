-- What is done at the link of a server leaves the server.
use Rattle.std.proofs.Common.{◌≡◌, ◌≤◌, min, sym, subst, arith, List}
use Rattle.bdev.specs.DriverState.{DriverState}
use Rattle.records.specs.ServerCall.{Serving}
use Rattle.reincarnate.specs.declared.policy.Policy.{Policy}
use Rattle.reissue.specs.declared.link.Link.{Ghosts as LinkWords}
use Rattle.file_server.specs.Over.{SameServing}
use Rattle.board.specs.Recorder.{SameLink}
use Rattle.shared_server.specs.Recorder.{SameServer}

-- a server whose link was lent out, was told nothing and gave nothing, and came back
pub same_over : {S L : Type 0} (link : LinkWords L) (serving : S → Serving) (line : S → L) (is_ready : S → Type 0)
    (runs_on : L → Policy → List DriverState → Type 0) (old new : S) (lent back : L) → lent ≡ line old → line new ≡ back
    → (link.history back ≡ link.history (line old) → SameServing (serving old) (serving new))
    → (link.history back ≡ link.history (line old) → min 33 (link.room (line old)) ≤ link.room back
    → link.budget_left back ≤ link.budget_left (line old) → is_ready old → is_ready new)
    → SameLink link runs_on lent back → SameServer link serving line is_ready runs_on old new
same_over link serving line is_ready runs_on old new lent back was is stays ready same =
    let before : SameLink link runs_on (line old) back = subst (λ (l : _). SameLink link runs_on l back) was same in
    record {
      served = stays before.same_history;
      may = ready before.same_history (omega (arith, before.same_room)) (omega (arith, before.same_budget));
      at_link = subst (λ (l : _). SameLink link runs_on (line old) l) (sym is) before;
    }
