use Rattle.std.proofs.Common.{◌≡◌, ◌∙◌, sym, ap, List, ℕ, false}
use Rattle.std.specs.Str.{bytes_eq}
use Rattle.redo.specs.Record.{closed, Nothing}
use Rattle.redo.specs.Plans.{to_gate, to_recover}
use Rattle.redo.proofs.Left.{all_left, left_as, left_same, last_part}
use Rattle.redo.proofs.Reading.{reads_log}
use Rattle.redo.proofs.Asking.{plan_open}
use Rattle.redo.proofs.recovering.shut.Goals as goal

pub returns : goal.returns
returns g c log shows =
    let known = g.S.Storage.known in
    let gate_is = reads_log log (known c.args.storage.now) 0 c.in_ok-gate.gate shows c.in_ok-gate.ensures.bytes in
    let other : bytes_eq (log 0) closed ≡ false = ap (λ (l : List ℕ). bytes_eq l closed) (sym gate_is) ∙ sym c.is_closed.ensures ∙ c.if-is_closed.false in
    let plan = to_recover Nothing (log 0) in
    last_part plan (to_gate 0 closed) _ _ _ c.close_gate.result
    (left_as plan plan (to_gate 0 closed) _ _ (plan_open (log 0) other) (left_same plan plan _ _ _ (all_left plan (known c.args.storage.now)) c.in_ok-gate.ensures.same))
    c.close_gate.ensures
