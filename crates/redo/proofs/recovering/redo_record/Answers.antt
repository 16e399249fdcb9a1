use Rattle.std.proofs.Common.{◌≡◌, ◌+◌, ◌-◌, ◌++◌, ◌∙◌, List, ℕ, [], map, sym, ap, subst, arith}
use Rattle.stable.specs.declared.Which.TheVariants.{Image}
use Rattle.stable.specs.Disk.{Changes as Puts, Step, Did}
use Rattle.stable.specs.Runs.{Happens}
use Rattle.redo.specs.declared.recovering.Asked.TheVariants.{Changes}
use Rattle.redo.specs.Asked.{asks_of}
use Rattle.redo.specs.Record.{changes_in, from, record_standing, said_from, says_of}
use Rattle.redo.specs.Runs.{singly}
use Rattle.redo.specs.Plans.{run_write}
use Rattle.redo.proofs.Left.{all_left, left_as, left_same, last_stops, happens-append}
use Rattle.redo.proofs.Reading.{shows_same}
use Rattle.redo.proofs.Asking.{standing_asked, said_changes, shut_asked, said_behind}
use Rattle.redo.proofs.recovering.redo_record.Goals as goal

pub returns-in_err-redo_changes-in-Changes-clause-follows : goal.returns-in_err-redo_changes-in-Changes-clause-follows
returns-in_err-redo_changes-in-Changes-clause-follows g c log shows =
    let known = g.S.Storage.known in
    let l = from c.args.at log in
    let asked : Changes c.in-Changes.count ≡ asks_of c.args.name (log c.args.at) (log (c.args.at + 1)) = sym c.in-Changes.is ∙ c.in_ok-count.ensures.asked log shows in
    let says : says_of (record_standing c.args.name l) ≡ changes_in l c.in-Changes.count = ap says_of (standing_asked c.args.name c.args.at log (Changes c.in-Changes.count) asked) in
    let plan : List Step = map (run_write Image) (singly (says_of (record_standing c.args.name l))) in
    let xs : List Step = map (run_write Image) (singly (changes_in l c.in-Changes.count)) in
    let mid = known c.asks_at.new.storage in
    last_stops plan xs (known c.args.storage.now) mid (known c.redo_changes.new.storage) c.from_residual-in_err-redo_changes-in-Changes.result c.from_residual-in_err-redo_changes-in-Changes.ensures.0
    (left_as plan plan xs (known c.args.storage.now) mid (ap (λ (w : Puts). map (run_write Image) (singly w)) says) (left_same plan plan (known c.args.storage.now) (known c.args.storage.now) mid (all_left plan (known c.args.storage.now)) c.in_ok-count.ensures.same))
    (c.in_err-redo_changes-in-Changes.ensures log (shows_same log (known c.args.storage.now) mid c.in_ok-count.ensures.same shows))

pub returns-in_ok-redo_changes-in-Changes-clause-follows : goal.returns-in_ok-redo_changes-in-Changes-clause-follows
returns-in_ok-redo_changes-in-Changes-clause-follows g c log shows =
    let known = g.S.Storage.known in
    let l = from c.args.at log in
    let asked : Changes c.in-Changes.count ≡ asks_of c.args.name (log c.args.at) (log (c.args.at + 1)) = sym c.in-Changes.is ∙ c.in_ok-count.ensures.asked log shows in
    let says : says_of (record_standing c.args.name l) ≡ changes_in l c.in-Changes.count = ap says_of (standing_asked c.args.name c.args.at log (Changes c.in-Changes.count) asked) in
    let mid = known c.asks_at.new.storage in
    subst (λ (w : Puts). Happens (map Did (map (run_write Image) (singly w))) (known c.args.storage.now) (known c.redo_changes.new.storage)) (sym says)
    (happens-append [] (map Did (map (run_write Image) (singly (changes_in l c.in-Changes.count)))) (known c.args.storage.now) mid (known c.redo_changes.new.storage) c.in_ok-count.ensures.same
    (c.in_ok-redo_changes-in-Changes.ensures log (shows_same log (known c.args.storage.now) mid c.in_ok-count.ensures.same shows)))

pub returns-in_ok-redo_changes-in-Changes-clause-next : goal.returns-in_ok-redo_changes-in-Changes-clause-next
returns-in_ok-redo_changes-in-Changes-clause-next g c log shows =
    let asked : Changes c.in-Changes.count ≡ asks_of c.args.name (log c.args.at) (log (c.args.at + 1)) = sym c.in-Changes.is ∙ c.in_ok-count.ensures.asked log shows in
    said_changes c.args.name c.args.at log c.in-Changes.count c.args.left asked c.requires.some
    ∙ ap (λ (k : ℕ). says_of (record_standing c.args.name (from c.args.at log)) ++ said_from (c.args.left - 1) c.args.name log (c.args.at + k)) (sym c.record_units.ensures)

pub returns-in-Another : goal.returns-in-Another
returns-in-Another g c =
    let known = g.S.Storage.known in
    record {
      follows = λ log shows. subst (λ (w : Puts). Happens (map Did (map (run_write Image) (singly w))) (known c.args.storage.now) (known c.asks_at.new.storage))
          (sym (shut_asked c.args.name c.args.at log c.in_ok-count.field-0 c.in-Another.is (c.in_ok-count.ensures.asked log shows))) c.in_ok-count.ensures.same;
      next = λ log shows. said_behind c.args.name c.args.at log c.in_ok-count.field-0 c.args.left c.in-Another.is (c.in_ok-count.ensures.asked log shows);
      less = c.requires.some;
      room = omega (arith, c.requires.room);
    }
