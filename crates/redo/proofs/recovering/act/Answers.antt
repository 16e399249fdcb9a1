use Rattle.std.proofs.Common.{◌≡◌, ◌∙◌, ℕ, List, [], sym, ap, Option}
use Rattle.stable.specs.Disk.{Contents, Changes as Puts, Step}
use Rattle.stable.specs.Runs.{Known, Happens}
use Rattle.redo.specs.declared.recovering.Asked.{Asked}
use Rattle.redo.specs.Asked.{answer_of}
use Rattle.redo.specs.Plans.{to_image, to_recover}
use Rattle.redo.specs.Record.{most, said_from, standing, Standing, Nothing, Redo, Foreign}
use Rattle.redo.specs.Runs.{singly}
use Rattle.redo.proofs.Left.{Left, all_left, all_of, left_as, left_same, last_stops, none_left}
use Rattle.redo.proofs.Reading.{shows_same}
use Rattle.redo.proofs.Asking.{log_stands, log_asked}
use Rattle.redo.proofs.recovering.act.Goals as goal

-- what is left once it was asked
asked_left : (name : ℕ) (log : Contents) (a b : Option Known) (s : Standing) → standing name log ≡ s → Happens [] a b → Left (to_recover (standing name log) (log 0)) a b (to_recover s (log 0))
asked_left name log a b s is same =
    let plan : List Step = to_recover (standing name log) (log 0) in
    left_as plan plan (to_recover s (log 0)) a b (ap (λ (t : Standing). to_recover t (log 0)) is) (left_same plan plan a a b (all_left plan a) same)

pub returns-in_err-redo-in-Changes-clause-follows : goal.returns-in_err-redo-in-Changes-clause-follows
returns-in_err-redo-in-Changes-clause-follows g c log shows =
    let known = g.S.Storage.known in
    let said : Puts = said_from most c.args.name log 0 in
    let is : standing c.args.name log ≡ Redo said = log_asked c.args.name log c.in_ok-asked.asked (c.in_ok-asked.ensures.asked log shows) ∙ ap (λ (a : Asked). log_stands a said) c.in-Changes.is in
    let mid = known c.asks_at.new.storage in
    last_stops (to_recover (standing c.args.name log) (log 0)) (to_image (singly said)) (known c.args.storage.now) mid (known c.redo.new.storage) c.from_residual-in_err-redo-in-Changes.result c.from_residual-in_err-redo-in-Changes.ensures.0
    (asked_left c.args.name log (known c.args.storage.now) mid (Redo said) is c.in_ok-asked.ensures.same)
    (c.in_err-redo-in-Changes.ensures log (shows_same log (known c.args.storage.now) mid c.in_ok-asked.ensures.same shows))

pub returns-in_ok-redo-in-Changes-clause-follows : goal.returns-in_ok-redo-in-Changes-clause-follows
returns-in_ok-redo-in-Changes-clause-follows g c log shows =
    let known = g.S.Storage.known in
    let said : Puts = said_from most c.args.name log 0 in
    let is : standing c.args.name log ≡ Redo said = log_asked c.args.name log c.in_ok-asked.asked (c.in_ok-asked.ensures.asked log shows) ∙ ap (λ (a : Asked). log_stands a said) c.in-Changes.is in
    let mid = known c.asks_at.new.storage in
    all_of (to_recover (standing c.args.name log) (log 0)) (to_image (singly said)) (known c.args.storage.now) mid (known c.redo.new.storage)
    (asked_left c.args.name log (known c.args.storage.now) mid (Redo said) is c.in_ok-asked.ensures.same)
    (c.in_ok-redo-in-Changes.ensures log (shows_same log (known c.args.storage.now) mid c.in_ok-asked.ensures.same shows))

pub returns-in_ok-redo-in-Changes-clause-answer : goal.returns-in_ok-redo-in-Changes-clause-answer
returns-in_ok-redo-in-Changes-clause-answer g c log shows =
    let said : Puts = said_from most c.args.name log 0 in
    let is : standing c.args.name log ≡ Redo said = log_asked c.args.name log c.in_ok-asked.asked (c.in_ok-asked.ensures.asked log shows) ∙ ap (λ (a : Asked). log_stands a said) c.in-Changes.is in
    sym (ap answer_of is)

pub returns-in-Another-clause-follows : goal.returns-in-Another-clause-follows
returns-in-Another-clause-follows g c log shows =
    let known = g.S.Storage.known in
    let is : standing c.args.name log ≡ Foreign = log_asked c.args.name log c.in_ok-asked.asked (c.in_ok-asked.ensures.asked log shows) ∙ ap (λ (a : Asked). log_stands a (said_from most c.args.name log 0)) c.in-Another.is in
    none_left (to_recover (standing c.args.name log) (log 0)) (known c.args.storage.now) (known c.asks_at.new.storage)
    (asked_left c.args.name log (known c.args.storage.now) (known c.asks_at.new.storage) Foreign is c.in_ok-asked.ensures.same)

pub returns-in-Another-clause-answer : goal.returns-in-Another-clause-answer
returns-in-Another-clause-answer g c log shows =
    let is : standing c.args.name log ≡ Foreign = log_asked c.args.name log c.in_ok-asked.asked (c.in_ok-asked.ensures.asked log shows) ∙ ap (λ (a : Asked). log_stands a (said_from most c.args.name log 0)) c.in-Another.is in
    sym (ap answer_of is)

pub returns-in_err-shut-in-NothingMore-clause-follows : goal.returns-in_err-shut-in-NothingMore-clause-follows
returns-in_err-shut-in-NothingMore-clause-follows g c log shows =
    let known = g.S.Storage.known in
    let is : standing c.args.name log ≡ Nothing = log_asked c.args.name log c.in_ok-asked.asked (c.in_ok-asked.ensures.asked log shows) ∙ ap (λ (a : Asked). log_stands a (said_from most c.args.name log 0)) c.in-NothingMore.is in
    let mid = known c.asks_at.new.storage in
    last_stops (to_recover (standing c.args.name log) (log 0)) (to_recover Nothing (log 0)) (known c.args.storage.now) mid (known c.shut.new.storage) c.from_residual-in_err-shut-in-NothingMore.result c.from_residual-in_err-shut-in-NothingMore.ensures.0
    (asked_left c.args.name log (known c.args.storage.now) mid Nothing is c.in_ok-asked.ensures.same)
    (c.in_err-shut-in-NothingMore.ensures log (shows_same log (known c.args.storage.now) mid c.in_ok-asked.ensures.same shows))

pub returns-in_ok-shut-in-NothingMore-clause-follows : goal.returns-in_ok-shut-in-NothingMore-clause-follows
returns-in_ok-shut-in-NothingMore-clause-follows g c log shows =
    let known = g.S.Storage.known in
    let is : standing c.args.name log ≡ Nothing = log_asked c.args.name log c.in_ok-asked.asked (c.in_ok-asked.ensures.asked log shows) ∙ ap (λ (a : Asked). log_stands a (said_from most c.args.name log 0)) c.in-NothingMore.is in
    let mid = known c.asks_at.new.storage in
    all_of (to_recover (standing c.args.name log) (log 0)) (to_recover Nothing (log 0)) (known c.args.storage.now) mid (known c.shut.new.storage)
    (asked_left c.args.name log (known c.args.storage.now) mid Nothing is c.in_ok-asked.ensures.same)
    (c.in_ok-shut-in-NothingMore.ensures log (shows_same log (known c.args.storage.now) mid c.in_ok-asked.ensures.same shows))

pub returns-in_ok-shut-in-NothingMore-clause-answer : goal.returns-in_ok-shut-in-NothingMore-clause-answer
returns-in_ok-shut-in-NothingMore-clause-answer g c log shows =
    let is : standing c.args.name log ≡ Nothing = log_asked c.args.name log c.in_ok-asked.asked (c.in_ok-asked.ensures.asked log shows) ∙ ap (λ (a : Asked). log_stands a (said_from most c.args.name log 0)) c.in-NothingMore.is in
    sym (ap answer_of is)
