use Rattle.std.proofs.Common.{◌≡◌, ◌++◌, ◌∙◌, ℕ, [], sym, ap, arith}
use Rattle.std.proofs.lemmas.Bool.Decides.{nat_tests}
use Rattle.std.proofs.lemmas.List.{append-nil}
use Rattle.stable.specs.Disk.{Changes as Puts}
use Rattle.redo.specs.Record.{said_from}
use Rattle.redo.proofs.Left.{happens-append}
use Rattle.redo.proofs.Reading.{shows_same}
use Rattle.redo.proofs.Records.{said_none}
use Rattle.redo.proofs.log_reading.read_all.Goals as goal

pub returns-in_err-next-clause-same : goal.returns-in_err-next-clause-same
returns-in_err-next-clause-same g c =
    let known = g.S.Storage.known in
    happens-append [] [] (known c.args.storage.now) (known c.loop-left.storage) (known c.read_record.new.storage) c.loop-left.invariant.same c.in_err-next.ensures.same

pub loop-left-preserved : goal.loop-left-preserved
loop-left-preserved g c =
    let known = g.S.Storage.known in
    record {
      room = c.in_ok-next.ensures.room;
      same = happens-append [] [] (known c.args.storage.now) (known c.loop-left.storage) (known c.read_record.new.storage) c.loop-left.invariant.same c.in_ok-next.ensures.same;
      all = λ log shows. c.in_ok-next.ensures.changes log (shows_same log (known c.args.storage.now) (known c.loop-left.storage) c.loop-left.invariant.same shows) ∙ c.loop-left.invariant.all log shows;
    }

pub returns-clause-changes : goal.returns-clause-changes
returns-clause-changes g c log shows =
    let none : c.loop-left.left ≡ 0 = grind (arith, nat_tests) in
    let items : Puts = c.loop-left.changes.items in
    sym (append-nil items)
    ∙ ap (λ (w : Puts). items ++ w) (sym (said_none c.args.name log c.loop-left.at))
    ∙ ap (λ (k : ℕ). items ++ said_from k c.args.name log c.loop-left.at) (sym none)
    ∙ c.loop-left.invariant.all log shows
