use Rattle.std.proofs.Common.{◌≡◌, ℕ, List, true, arith, refl, sym, ◌∙◌, ap, slice_index}
use Rattle.message.specs.Good.{is_write}
use Rattle.reissue.specs.Entries.{pending_of}
use Rattle.reissue.proofs.Tickets.{fresh_above, pending_none, pending_pushed}
use Rattle.reissue.proofs.Answering.{agrees_add}
use Rattle.reissue.proofs.table.Table.add.Goals as goal

pub push-requires-clause-fresh : goal.push-requires-clause-fresh
push-requires-clause-fresh c = fresh_above c.args.self.now.ids _ c.args.self.now.pending c.args.self.now.numbers.up_to (omega (arith, c.begin.ensures.ticket))

pub returns-clause-agrees : goal.returns-clause-agrees
returns-clause-agrees c = λ marks h.
    let p = c.push.ensures in
    let b = c.begin.ensures in
    let r = b.request in
    agrees_add c.args.self.now c.push.new.self marks c.begin.new.self h p.items p.ids r.number
    p.posted p.issued p.current p.given_up c.requires.room (r.position ∙ sym b.start)
    (λ w k. let w' : is_write c.args.ask.now.kind ≡ true = rw (← r.kind) w in ap (λ (l : List ℕ). slice_index l k) (r.bytes w' ∙ sym (b.bytes w')))
    (rw (b.start, b.size) c.requires.free)

pub returns-clause-fresh : goal.returns-clause-fresh
returns-clause-fresh c = pending_none c.args.self.now.pending _
    (fresh_above c.args.self.now.ids _ c.args.self.now.pending c.args.self.now.numbers.up_to (omega (arith, c.of_id.ensures)))

pub returns-clause-opens : goal.returns-clause-opens
returns-clause-opens c =
    let b = c.begin.ensures in
    ap pending_of c.push.ensures.items
    ∙ pending_pushed c.begin.new.self c.args.self.now.pending
    (fresh_above c.args.self.now.ids _ c.args.self.now.pending c.args.self.now.numbers.up_to (omega (arith, b.ticket)))
    ∙ rw (b.ticket, b.begun, c.of_id.ensures) refl
