use Rattle.std.proofs.Common.{◌≡◌, ◌∷◌, ◌++◌, ◌∙◌, List, ℕ, [], map, ap, arith}
use Rattle.std.proofs.lemmas.Bool.Decides.{nat_tests}
use Rattle.stable.specs.declared.Which.TheVariants.{Image}
use Rattle.stable.specs.Disk.{Changes, Contents, Step, Sync}
use Rattle.redo.specs.Record.{closed, from, most, record_standing, said_from, says_of}
use Rattle.redo.specs.Runs.{singly}
use Rattle.redo.specs.Plans.{run_write, to_gate, to_image}
use Rattle.redo.proofs.Left.{left_as, last_part, part_stops, step_done, steps_done}
use Rattle.redo.proofs.Reading.{record_left, shows_runs}
use Rattle.redo.proofs.Records.{said_none, said_split}
use Rattle.redo.proofs.recovering.redo.Goals as goal

abbrev tail : List Step
tail = Sync Image ∷ to_gate 0 closed

-- none is left
all_written : (left name : ℕ) (log : Contents) (at : ℕ) → left ≡ 0 → map (run_write Image) (singly (said_from left name log at)) ++ tail ≡ tail
all_written left name log at none =
    ap (λ (k : ℕ). map (run_write Image) (singly (said_from k name log at)) ++ tail) none
    ∙ ap (λ (l : Changes). map (run_write Image) (singly l) ++ tail) (said_none name log at)

pub returns-in_err-next : goal.returns-in_err-next
returns-in_err-next g c log shows =
    let known = g.S.Storage.known in
    let plan : List Step = to_image (singly (said_from most c.args.name log 0)) in
    let says : Changes = says_of (record_standing c.args.name (from c.loop-left.at log)) in
    let split = said_split c.loop-left.left c.args.name log c.loop-left.at (grind (arith, nat_tests)) in
    part_stops plan (map (run_write Image) (singly says)) (map (run_write Image) (singly split.0) ++ tail) (known c.args.storage.now) (known c.loop-left.storage) (known c.redo_record.new.storage) c.from_residual.result c.from_residual.ensures.0
    (record_left plan (known c.args.storage.now) (known c.loop-left.storage) (said_from c.loop-left.left c.args.name log c.loop-left.at) says split.0 tail split.1 (c.loop-left.invariant.left log shows))
    (c.in_err-next.ensures.follows log (c.loop-left.invariant.shows log shows))

pub loop-left-preserved : goal.loop-left-preserved
loop-left-preserved g c =
    let known = g.S.Storage.known in
    record {
      room = c.in_ok-next.ensures.room;
      left = λ log shows.
          let now = c.loop-left.invariant.shows log shows in
          let plan : List Step = to_image (singly (said_from most c.args.name log 0)) in
          let says : Changes = says_of (record_standing c.args.name (from c.loop-left.at log)) in
          let rest : Changes = said_from c.in_ok-next.next.1 c.args.name log c.in_ok-next.next.0 in
          steps_done plan (map (run_write Image) (singly says)) (map (run_write Image) (singly rest) ++ tail) (known c.args.storage.now) (known c.loop-left.storage) (known c.redo_record.new.storage)
          (record_left plan (known c.args.storage.now) (known c.loop-left.storage) (said_from c.loop-left.left c.args.name log c.loop-left.at) says rest tail (c.in_ok-next.ensures.next log now) (c.loop-left.invariant.left log shows))
          (c.in_ok-next.ensures.follows log now);
      shows = λ log shows.
          let now = c.loop-left.invariant.shows log shows in
          shows_runs log (singly (says_of (record_standing c.args.name (from c.loop-left.at log)))) (known c.loop-left.storage) (known c.redo_record.new.storage) (c.in_ok-next.ensures.follows log now) now;
    }

pub returns-in_err-sync : goal.returns-in_err-sync
returns-in_err-sync g c log shows =
    let known = g.S.Storage.known in
    let plan : List Step = to_image (singly (said_from most c.args.name log 0)) in
    let none : c.loop-left.left ≡ 0 = grind (arith, nat_tests) in
    part_stops plan (Sync Image ∷ []) (to_gate 0 closed) (known c.args.storage.now) (known c.loop-left.storage) (known c.sync.new.self) c.from_residual-in_err-sync.result c.from_residual-in_err-sync.ensures.0
    (left_as plan (map (run_write Image) (singly (said_from c.loop-left.left c.args.name log c.loop-left.at)) ++ tail) tail (known c.args.storage.now) (known c.loop-left.storage) (all_written c.loop-left.left c.args.name log c.loop-left.at none) (c.loop-left.invariant.left log shows))
    c.in_err-sync.ensures

pub returns : goal.returns
returns g c log shows =
    let known = g.S.Storage.known in
    let plan : List Step = to_image (singly (said_from most c.args.name log 0)) in
    let none : c.loop-left.left ≡ 0 = grind (arith, nat_tests) in
    last_part plan (to_gate 0 closed) (known c.args.storage.now) (known c.sync.new.self) (known c.close_gate.new.storage) c.close_gate.result
    (step_done plan (Sync Image) (to_gate 0 closed) (known c.args.storage.now) (known c.loop-left.storage) (known c.sync.new.self)
    (left_as plan (map (run_write Image) (singly (said_from c.loop-left.left c.args.name log c.loop-left.at)) ++ tail) tail (known c.args.storage.now) (known c.loop-left.storage) (all_written c.loop-left.left c.args.name log c.loop-left.at none) (c.loop-left.invariant.left log shows))
    c.in_ok-sync.ensures)
    c.close_gate.ensures
