use Rattle.std.proofs.Common.{[]}
use Rattle.redo.specs.Record.{from}
use Rattle.redo.proofs.Left.{happens-append}
use Rattle.redo.proofs.Reading.{shows_same, reads_log, changes_more}
use Rattle.redo.proofs.log_reading.read_changes.Goals as goal

pub loop-i-preserved : goal.loop-i-preserved
loop-i-preserved g c =
    let known = g.S.Storage.known in
    record {
      few = c.loop-i.invariant.few;
      same = happens-append [] [] (known c.args.storage.now) (known c.loop-i.storage) (known c.read.new.self) c.loop-i.invariant.same c.in_ok-bytes.ensures.same;
      left = λ log shows.
          let is = reads_log log (known c.loop-i.storage) _ c.in_ok-bytes.bytes (shows_same log (known c.args.storage.now) (known c.loop-i.storage) c.loop-i.invariant.same shows) c.in_ok-bytes.ensures.bytes in
          changes_more (from c.args.at log) c.deref-n-items.result.now c.in_ok-bytes.bytes c.loop-i.changes.items c.push.new.self.items _ _ c.args.count c.loop-i.i c.loop-i-test.true c.loop-i.invariant.few is
          c.in_ok-push.ensures.items (c.loop-i.invariant.left log shows);
    }
