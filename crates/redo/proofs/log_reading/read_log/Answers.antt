use Rattle.std.proofs.Common.{◌≡◌, ◌∙◌, [], sym, ap}
use Rattle.stable.specs.Disk.{Changes as Puts}
use Rattle.redo.specs.declared.recovering.Asked.{Asked}
use Rattle.redo.specs.Record.{most, said_from, standing, Nothing, Redo, Foreign}
use Rattle.redo.proofs.Left.{happens-append}
use Rattle.redo.proofs.Reading.{shows_same}
use Rattle.redo.proofs.Asking.{log_stands, log_asked}
use Rattle.redo.proofs.log_reading.read_log.Goals as goal

pub returns-in_err-read_all-in-Changes-clause-same : goal.returns-in_err-read_all-in-Changes-clause-same
returns-in_err-read_all-in-Changes-clause-same g c =
    let known = g.S.Storage.known in
    happens-append [] [] (known c.args.storage.now) (known c.asks_at.new.storage) (known c.read_all.new.storage) c.in_ok-asked.ensures.same c.in_err-read_all-in-Changes.ensures.same

pub returns-in_ok-read_all-in-Changes-clause-same : goal.returns-in_ok-read_all-in-Changes-clause-same
returns-in_ok-read_all-in-Changes-clause-same g c =
    let known = g.S.Storage.known in
    happens-append [] [] (known c.args.storage.now) (known c.asks_at.new.storage) (known c.read_all.new.storage) c.in_ok-asked.ensures.same c.in_ok-read_all-in-Changes.ensures.same

pub returns-in_ok-read_all-in-Changes-clause-says : goal.returns-in_ok-read_all-in-Changes-clause-says
returns-in_ok-read_all-in-Changes-clause-says g c log shows =
    let known = g.S.Storage.known in
    let said : Puts = said_from most c.args.name log 0 in
    let is : standing c.args.name log ≡ Redo said = log_asked c.args.name log c.in_ok-asked.asked (c.in_ok-asked.ensures.asked log shows) ∙ ap (λ (a : Asked). log_stands a said) c.in-Changes.is in
    ap (λ (w : Puts). Redo w) (c.in_ok-read_all-in-Changes.ensures.changes log (shows_same log (known c.args.storage.now) (known c.asks_at.new.storage) c.in_ok-asked.ensures.same shows)) ∙ sym is

pub returns-in-Another-clause-says : goal.returns-in-Another-clause-says
returns-in-Another-clause-says g c log shows =
    let said : Puts = said_from most c.args.name log 0 in
    let is : standing c.args.name log ≡ Foreign = log_asked c.args.name log c.in_ok-asked.asked (c.in_ok-asked.ensures.asked log shows) ∙ ap (λ (a : Asked). log_stands a said) c.in-Another.is in
    sym is

pub returns-in-NothingMore-clause-says : goal.returns-in-NothingMore-clause-says
returns-in-NothingMore-clause-says g c log shows =
    let said : Puts = said_from most c.args.name log 0 in
    let is : standing c.args.name log ≡ Nothing = log_asked c.args.name log c.in_ok-asked.asked (c.in_ok-asked.ensures.asked log shows) ∙ ap (λ (a : Asked). log_stands a said) c.in-NothingMore.is in
    sym is
