use Rattle.std.proofs.Common.{◌≡◌, ◌+◌, ◌-◌, ◌++◌, ◌∙◌, ℕ, [], sym, ap, arith, append_assoc}
use Rattle.stable.specs.Disk.{Changes as Puts}
use Rattle.redo.specs.declared.recovering.Asked.TheVariants.{Changes}
use Rattle.redo.specs.Asked.{asks_of}
use Rattle.redo.specs.Record.{changes_in, from, record_standing, record_units, said_from, says_of}
use Rattle.redo.proofs.Left.{happens-append}
use Rattle.redo.proofs.Reading.{shows_same}
use Rattle.redo.proofs.Asking.{standing_asked, said_changes, said_shut}
use Rattle.redo.proofs.log_reading.read_record.Goals as goal

pub returns-in_err-read_changes-in-Changes-clause-same : goal.returns-in_err-read_changes-in-Changes-clause-same
returns-in_err-read_changes-in-Changes-clause-same g c =
    let known = g.S.Storage.known in
    happens-append [] [] (known c.args.storage.now) (known c.asks_at.new.storage) (known c.read_changes.new.storage) c.in_ok-count.ensures.same c.in_err-read_changes-in-Changes.ensures.same

pub returns-in_ok-read_changes-in-Changes-clause-same : goal.returns-in_ok-read_changes-in-Changes-clause-same
returns-in_ok-read_changes-in-Changes-clause-same g c =
    let known = g.S.Storage.known in
    happens-append [] [] (known c.args.storage.now) (known c.asks_at.new.storage) (known c.read_changes.new.storage) c.in_ok-count.ensures.same c.in_ok-read_changes-in-Changes.ensures.same

pub returns-in_ok-read_changes-in-Changes-clause-changes : goal.returns-in_ok-read_changes-in-Changes-clause-changes
returns-in_ok-read_changes-in-Changes-clause-changes g c log shows =
    let known = g.S.Storage.known in
    let name = c.args.name in
    let at = c.args.at in
    let l = from at log in
    let count = c.in-Changes.count in
    let asked : Changes count ≡ asks_of name (log at) (log (at + 1)) = sym c.in-Changes.is ∙ c.in_ok-count.ensures.asked log shows in
    let says : says_of (record_standing name l) ≡ changes_in l count = ap says_of (standing_asked name at log (Changes count) asked) in
    let rest : Puts = said_from (c.args.left - 1) name log (at + c.record_units.result) in
    let old : Puts = c.args.changes.now.items in
    let said : said_from c.args.left name log at ≡ changes_in l count ++ rest =
    said_changes name at log count c.args.left asked c.requires.some
    ∙ ap (λ (w : Puts). w ++ said_from (c.args.left - 1) name log (at + record_units count)) says
    ∙ ap (λ (k : ℕ). changes_in l count ++ said_from (c.args.left - 1) name log (at + k)) (sym c.record_units.ensures) in
    ap (λ (w : Puts). w ++ rest) (c.in_ok-read_changes-in-Changes.ensures.changes log (shows_same log (known c.args.storage.now) (known c.asks_at.new.storage) c.in_ok-count.ensures.same shows))
    ∙ append_assoc old (changes_in l count) rest
    ∙ ap (λ (w : Puts). old ++ w) (sym said)

pub returns-in-Another : goal.returns-in-Another
returns-in-Another g c =
    record {
      same = c.in_ok-count.ensures.same;
      changes = λ log shows.
          let shut = said_shut c.args.name c.args.at log c.in_ok-count.field-0 0 c.in-Another.is (c.in_ok-count.ensures.asked log shows) in
          let none = said_shut c.args.name c.args.at log c.in_ok-count.field-0 c.args.left c.in-Another.is (c.in_ok-count.ensures.asked log shows) in
          ap (λ (w : Puts). c.args.changes.now.items ++ w) (shut ∙ sym none);
      less = c.requires.some;
      room = omega (arith, c.requires.room);
    }
