use Rattle.std.proofs.Common.{◌≡◌, ◌+◌, [], ◌∷◌, ◌++◌, List, take, map, get_or, sym, ◌∙◌, ap}
use Rattle.std.proofs.lemmas.Grind.{take_at_read}
use Rattle.stable.specs.declared.memory.Happening.{Happening}
use Rattle.stable.specs.Disk.{Disk, restarted, run}
use Rattle.stable.specs.Runs.{file_of}
use Rattle.stable.specs.Memory.{contents_of, event_of}
use Rattle.stable.proofs.Writes.{after_next}
use Rattle.stable.proofs.memory.Memory.shown.Goals as goal

pub loop-happening-preserved : goal.loop-happening-preserved
loop-happening-preserved c =
    let history : List Happening = c.deref-happening-items.result.now in
    let i = c.loop-happening.happening-index in
    let item : Happening = c.happening-item.result in
    let first : Disk = restarted (contents_of c.args.self.now.log.items) (contents_of c.args.self.now.image.items) in
    let is : get_or history i item ≡ item = sym c.happening-item.is in
    let more : take (i + 1) history ≡ take i history ++ item ∷ [] = (take_at_read history i item c.loop-happening-test.true).1 ∙ ap (λ (h : Happening). take i history ++ h ∷ []) is in
    c.after-next.ensures (run (map event_of (take i history)) first) c.loop-happening.invariant
    ∙ ap (λ (d : Disk). (file_of d c.args.file).shows c.args.n) (sym (after_next history i item first more))
