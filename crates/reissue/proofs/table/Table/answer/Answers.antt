use Rattle.std.proofs.Common.{rules, ◌≡◌, ℕ, arith, sym, ◌∙◌, ap, true, Some, None, List, refl}
use Rattle.std.specs.Prelude.{◌==◌}
use Rattle.std.proofs.lemmas.Bool.Decides.{nat_tests}
use Rattle.message.specs.Good.{moved}
use Rattle.records.specs.Marks.{Mark}
use Rattle.reissue.specs.declared.pending.Pending.{Pending}
use Rattle.reissue.specs.Agrees.{Agrees}
use Rattle.reissue.specs.Answers.{complaints_about}
use Rattle.reissue.proofs.Answering.{dropped_unknown, counted, Counted, agrees_bad, entry_found}
use Rattle.reissue.proofs.Closing.{closing_dropped, closing_bad}
use Rattle.reissue.proofs.Finding.{position_passes}
use Rattle.reissue.proofs.table.Table.answer.Goals as goal

bad_here : (c : goal.In_default-moved_bytes) (marks : List Mark) → Agrees c.args.self.now marks → Counted marks c.args.reply.now None
bad_here c marks h =
    let e = c.count_at.ensures in
    counted c.args.self.now marks c.args.reply.now e.0 c.in-Some.at None h (search rules) (sym c.in-Some.ensures) e.1
    (ap (λ (x : ℕ). moved x c.args.reply.now.outcome) (sym e.2) ∙ sym c.in_default-moved_bytes.ensures)

good_here : (c : goal.After-settle) (marks : List Mark) → Agrees c.args.self.now marks
    → Counted marks c.args.reply.now (Some c.in-Some-moved_bytes.n)
good_here c marks h =
    let e = c.count_at.ensures in
    counted c.args.self.now marks c.args.reply.now e.0 c.in-Some.at (Some c.in-Some-moved_bytes.n) h (search rules) (sym c.in-Some.ensures) e.1
    (ap (λ (x : ℕ). moved x c.args.reply.now.outcome) (sym e.2) ∙ sym c.in-Some-moved_bytes.ensures)

pub settle-requires-clause-there : goal.settle-requires-clause-there
settle-requires-clause-there c = λ p is.
    let passes = position_passes (λ (q : Pending). q.request.id == c.args.reply.now.id) c.args.self.now.pending c.args.self.now.issued c.in-Some.at p (sym c.in-Some.ensures) in
    let same : (p.request.id == c.args.reply.now.id) ≡ true = ap (λ (q : Pending). q.request.id == c.args.reply.now.id) is ∙ passes in
    grind (arith, nat_tests)

pub returns-in_default-clause-agrees : goal.returns-in_default-clause-agrees
returns-in_default-clause-agrees c = λ marks h.
    rw (dropped_unknown c.args.self.now marks c.args.reply.now h (sym c.in_default.ensures)).stays h

pub returns-in_default-clause-hears : goal.returns-in_default-clause-hears
returns-in_default-clause-hears c = λ marks h.
    rw (dropped_unknown c.args.self.now marks c.args.reply.now h (sym c.in_default.ensures)).moves (record { pending = refl; ids = refl; posted = refl; issued = refl })

pub returns-in_default-clause-due : goal.returns-in_default-clause-due
returns-in_default-clause-due c = λ marks h.
    sym (ap complaints_about (dropped_unknown c.args.self.now marks c.args.reply.now h (sym c.in_default.ensures)).due)

pub returns-in_default-clause-closing : goal.returns-in_default-clause-closing
returns-in_default-clause-closing c = λ marks h.
    rw (dropped_unknown c.args.self.now marks c.args.reply.now h (sym c.in_default.ensures)).stays (closing_dropped _ marks)

pub returns-in_default-moved_bytes-clause-agrees : goal.returns-in_default-moved_bytes-clause-agrees
returns-in_default-moved_bytes-clause-agrees c = λ marks h.
    let e = c.count_at.ensures in
    let k = bad_here c marks h in
    rw k.grows (agrees_bad c.args.self.now marks c.args.reply.now e.0.request h (search rules)
    (entry_found c.args.self.now marks c.args.reply.now.id c.in-Some.at e.0 h (sym c.in-Some.ensures) e.1) k.moves)

pub returns-in_default-moved_bytes-clause-hears : goal.returns-in_default-moved_bytes-clause-hears
returns-in_default-moved_bytes-clause-hears c = λ marks h.
    rw (bad_here c marks h).counted (record { pending = refl; ids = refl; posted = refl; issued = refl })

pub returns-in_default-moved_bytes-clause-due : goal.returns-in_default-moved_bytes-clause-due
returns-in_default-moved_bytes-clause-due c = λ marks h. sym (ap complaints_about (bad_here c marks h).due)

pub returns-in_default-moved_bytes-clause-closing : goal.returns-in_default-moved_bytes-clause-closing
returns-in_default-moved_bytes-clause-closing c = λ marks h.
    let e = c.count_at.ensures in
    let k = bad_here c marks h in
    rw k.grows (closing_bad _ marks c.args.reply.now e.0.request
    (entry_found c.args.self.now marks c.args.reply.now.id c.in-Some.at e.0 h (sym c.in-Some.ensures) e.1) k.moves)

pub returns-clause-agrees : goal.returns-clause-agrees
returns-clause-agrees c = λ marks h.
    let k = good_here c marks h in
    rw k.grows (c.settle.ensures.agrees marks h (sym c.in-Some.ensures) k.moves (search rules))

pub returns-clause-hears : goal.returns-clause-hears
returns-clause-hears c = λ marks h. rw (good_here c marks h).counted c.settle.ensures.hears

pub returns-clause-due : goal.returns-clause-due
returns-clause-due c = λ marks h.
    rw c.settle.ensures.good (sym (ap complaints_about (good_here c marks h).due))

pub returns-clause-closing : goal.returns-clause-closing
returns-clause-closing c = λ marks h.
    let k = good_here c marks h in
    rw k.grows (c.settle.ensures.closing marks h (sym c.in-Some.ensures) k.moves (search rules))
