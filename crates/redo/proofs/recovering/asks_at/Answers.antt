use Rattle.std.proofs.Common.{◌+◌, ◌∙◌, ap, List, ℕ, []}
use Rattle.redo.specs.Asked.{asks_of}
use Rattle.redo.proofs.Left.{happens-append}
use Rattle.redo.proofs.Reading.{shows_same, reads_log}
use Rattle.redo.proofs.recovering.asks_at.Goals as goal

pub returns-clause-same : goal.returns-clause-same
returns-clause-same g c =
    let known = g.S.Storage.known in
    happens-append [] [] (known c.args.storage.now) (known c.read.new.self) (known c.read-2.new.self) c.in_ok-gate.ensures.same c.in_ok-first.ensures.same

pub returns-clause-asked : goal.returns-clause-asked
returns-clause-asked g c log shows =
    let known = g.S.Storage.known in
    let name = c.args.name in
    let at = c.args.at in
    let gate_is = reads_log log (known c.args.storage.now) at c.in_ok-gate.gate shows c.in_ok-gate.ensures.bytes in
    let first_is = reads_log log (known c.read.new.self) (at + 1) c.in_ok-first.first (shows_same log (known c.args.storage.now) (known c.read.new.self) c.in_ok-gate.ensures.same shows) c.in_ok-first.ensures.bytes in
    c.asks.ensures ∙ ap (λ (g : List ℕ). asks_of name g c.in_ok-first.first) gate_is ∙ ap (λ (h : List ℕ). asks_of name (log at) h) first_is
