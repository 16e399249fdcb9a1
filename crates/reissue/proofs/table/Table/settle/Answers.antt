use Rattle.std.proofs.Common.{◌≡◌, ◌<◌, ◌≤◌, ℕ, arith, List, refl, sym, ◌∙◌, ap, [], ◌∷◌, ◌++◌, true, false}
use Rattle.std.proofs.lemmas.Bool.Decides.{nat_tests}
use Rattle.std.specs.Prelude.{nat_lt}
use Rattle.message.specs.Good.{is_write}
use Rattle.records.specs.Marks.{Answered}
use Rattle.reissue.specs.declared.pending.Pending.{Pending}
use Rattle.reissue.proofs.Answering.{taken, agrees_rest, agrees_done, done_reads, done_joined}
use Rattle.reissue.proofs.Writes.{spares_answered}
use Rattle.reissue.proofs.Closing.{tickets_out, closes_rest, closes_read, closes_written, closing_nothing, closing_read, closing_written, among_here, done_writes}
use Rattle.reissue.proofs.Left.{reads_out, reads_rest}
use Rattle.reissue.proofs.Settling.{issued_within, answered_whole, answered_part}
use Rattle.reissue.proofs.Inside.{in_rest, in_push, in_there, rest_is_in}
use Rattle.reissue.proofs.table.Table.settle.Goals as goal

pub push-requires-clause-fresh : goal.push-requires-clause-fresh
push-requires-clause-fresh c =
    let o = c.take_out.ensures in
    let lt = issued_within c.args.self.now c.args.at c.requires.at in
    let x = tickets_out c.args.self.now.ids c.args.self.now.pending c.args.at c.deref_mut.result.now lt (rw c.deref_mut.ensures.value o.value) c.args.self.now.numbers in
    rw (c.answer.ensures.ticket, o.items) x.1

pub push-requires-clause-ticket : goal.push-requires-clause-ticket
push-requires-clause-ticket c =
    let o = c.take_out.ensures in
    let lt = issued_within c.args.self.now c.args.at c.requires.at in
    let x = tickets_out c.args.self.now.ids c.args.self.now.pending c.args.at c.deref_mut.result.now lt (rw c.deref_mut.ensures.value o.value) c.args.self.now.numbers in
    omega (arith, x.2, c.answer.ensures.ticket, o.ids)

-- something of it is left
part : (c : goal.After-push) → c.args.n < c.deref_mut.result.now.request.count
part c =
    let less : nat_lt c.args.n c.deref_mut.result.now.request.count ≡ true =
    ap (λ (p : Pending). nat_lt c.args.n p.request.count) (c.deref_mut.ensures.value ∙ sym c.deref.ensures) ∙ sym c.goes_on.ensures ∙ c.if-goes_on.true in
    grind (arith, nat_tests)

pub returns-then-goes_on-clause-agrees : goal.returns-then-goes_on-clause-agrees
returns-then-goes_on-clause-agrees c = λ marks h place m from.
    let o = c.take_out.ensures in
    let w = c.answer.ensures in
    let p = c.push.ensures in
    let x = taken c.args.self.now c.take_out.new.self marks c.args.reply.now c.deref_mut.result.now c.args.at c.args.n
    h place m from (rw c.deref_mut.ensures.value o.value) o.items o.issued o.ids o.current o.given_up in
    agrees_rest c.args.self.now c.take_out.new.self c.push.new.self marks c.args.reply.now
    c.deref_mut.result.now c.answer.new.self c.args.n
    x m p.items p.ids w.id p.posted p.issued p.current p.given_up w.start w.size w.kind w.position w.before w.moved w.count (λ h k. rw (w.begun h) refl) w.rest

pub returns-then-goes_on-clause-hears : goal.returns-then-goes_on-clause-hears
returns-then-goes_on-clause-hears c =
    let o = c.take_out.ensures in
    let w = c.answer.ensures in
    let p = c.push.ensures in
    answered_part c.args.self.now _ _ c.args.at c.args.n c.deref_mut.result.now c.answer.new.self c.requires.at (rw c.deref_mut.ensures.value o.value)
    (c.requires.there c.deref_mut.result.now (rw c.deref_mut.ensures.value o.value)) (part c)
    (p.items ∙ ap (λ (l : List Pending). l ++ c.answer.new.self ∷ []) o.items) (omega (arith, p.ids, o.ids))
    (record {
      ticket = w.ticket;
      start = w.start;
      size = w.size;
      number = w.id ∙ omega (arith, o.ids);
      kind = w.kind;
      minor = w.minor;
      position = w.position;
      count = w.count;
      left = w.rest;
    })
    (p.posted ∙ o.posted) (omega (arith, p.issued, o.issued))

pub returns-then-goes_on-clause-closes : goal.returns-then-goes_on-clause-closes
returns-then-goes_on-clause-closes c =
    let o = c.take_out.ensures in
    let w = c.answer.ensures in
    let lt = issued_within c.args.self.now c.args.at c.requires.at in
    closes_rest c.args.self.now.pending c.take_out.new.self.pending _ c.args.at c.deref_mut.result.now c.answer.new.self c.args.self.now.ids
    lt (rw c.deref_mut.ensures.value o.value) c.args.self.now.numbers o.items c.push.ensures.items w.ticket w.start w.size w.kind w.begun

pub returns-then-goes_on-clause-closing : goal.returns-then-goes_on-clause-closing
returns-then-goes_on-clause-closing c = λ marks h place m from.
    let o = c.take_out.ensures in
    let lt = issued_within c.args.self.now c.args.at c.requires.at in
    let x = taken c.args.self.now c.take_out.new.self marks c.args.reply.now c.deref_mut.result.now c.args.at c.args.n
    h place m from (rw c.deref_mut.ensures.value o.value) o.items o.issued o.ids o.current o.given_up in
    let i = among_here c.args.self.now.pending c.args.at c.deref_mut.result.now lt (rw c.deref_mut.ensures.value o.value) in
    closing_nothing _ _ marks _ (λ image. spares_answered image marks c.args.reply.now c.deref_mut.result.now c.args.n c.args.self.now.pending x.there m x.within c.args.self.now.numbers.distinct i)
    (reads_rest c.args.self.now.pending c.take_out.new.self.pending _ marks c.args.reply.now c.deref_mut.result.now c.answer.new.self c.args.at c.args.n
    x.there m x.within lt (rw c.deref_mut.ensures.value o.value) o.items c.push.ensures.items (rw x.holds.items x.apart) c.answer.ensures.start c.answer.ensures.size
    c.answer.ensures.position (omega (arith, part c, c.answer.ensures.count)))

pub returns-then-goes_on-clause-minors : goal.returns-then-goes_on-clause-minors
returns-then-goes_on-clause-minors c = λ area h.
    let o = c.take_out.ensures in
    let w = c.answer.ensures in
    let lt = issued_within c.args.self.now c.args.at c.requires.at in
    rw (c.push.ensures.items, o.items)
    (in_push area _ c.answer.new.self (in_rest area c.args.self.now.pending c.args.at h)
    (rest_is_in area c.deref_mut.result.now c.answer.new.self c.args.n w.kind w.minor w.position w.count
    (in_there area c.args.self.now.pending c.args.at c.deref_mut.result.now lt (rw c.deref_mut.ensures.value o.value) h)))

-- where no less was moved than was left, nothing is left
all : (n count : ℕ) → nat_lt n count ≡ false → n ≤ count → n ≡ count
all n count more most = let le : count ≤ n = grind (arith, nat_tests) in omega (arith, le, most)

pub returns-in-Read-clause-agrees : goal.returns-in-Read-clause-agrees
returns-in-Read-clause-agrees c = λ marks h place m from.
    let o = c.take_out.ensures in
    agrees_done c.args.self.now _ marks c.args.reply.now c.deref-done.result.now c.args.n
    (taken c.args.self.now _ marks c.args.reply.now c.deref-done.result.now c.args.at c.args.n
    h place m from (rw c.deref-done.ensures o.value) o.items o.issued o.ids o.current o.given_up)

pub returns-in-Read-clause-hears : goal.returns-in-Read-clause-hears
returns-in-Read-clause-hears c =
    let o = c.take_out.ensures in
    answered_whole c.args.self.now _ _ c.args.at c.args.n c.deref-done.result.now c.requires.at (rw c.deref-done.ensures o.value)
    (c.requires.there c.deref-done.result.now (rw c.deref-done.ensures o.value)) (all _ _
    (ap (λ (p : Pending). nat_lt c.args.n p.request.count) (c.deref-done.ensures ∙ sym c.deref.ensures) ∙ sym c.goes_on.ensures ∙ c.if-goes_on.false)
    (c.requires.within c.deref-done.result.now (rw c.deref-done.ensures o.value))) o.items o.ids o.posted o.issued

pub returns-in-Read-clause-closes : goal.returns-in-Read-clause-closes
returns-in-Read-clause-closes c =
    let o = c.take_out.ensures in
    let lt = issued_within c.args.self.now c.args.at c.requires.at in
    closes_read c.args.self.now.pending c.take_out.new.self.pending c.args.at c.deref-done.result.now.ticket c.finish.new.into c.deref-done.result.now c.args.self.now.ids
    lt (rw c.deref-done.ensures o.value) c.args.self.now.numbers o.items refl (ap is_write c.in-Read.is)

pub returns-in-Read-clause-closing : goal.returns-in-Read-clause-closing
returns-in-Read-clause-closing c = λ marks h place m from.
    let o = c.take_out.ensures in
    let f = c.finish.ensures in
    let lt = issued_within c.args.self.now c.args.at c.requires.at in
    let k : is_write c.deref-done.result.now.request.kind ≡ false = ap is_write c.in-Read.is in
    let x = taken c.args.self.now c.take_out.new.self marks c.args.reply.now c.deref-done.result.now c.args.at c.args.n
    h place m from (rw c.deref-done.ensures o.value) o.items o.issued o.ids o.current o.given_up in
    let i = among_here c.args.self.now.pending c.args.at c.deref-done.result.now lt (rw c.deref-done.ensures o.value) in
    let d = c.args.self.now.numbers.distinct in
    closing_read _ _ marks (Answered c.args.reply.now ∷ marks) c.deref-done.result.now _ _ d i refl
    (λ image. spares_answered image marks c.args.reply.now c.deref-done.result.now c.args.n c.args.self.now.pending x.there m x.within d i)
    (λ image tr. done_reads c.args.self.now c.take_out.new.self marks image c.args.reply.now c.deref-done.result.now c.args.n _
    x m tr k (all _ _
    (ap (λ (p : Pending). nat_lt c.args.n p.request.count) (c.deref-done.ensures ∙ sym c.deref.ensures) ∙ sym c.goes_on.ensures ∙ c.if-goes_on.false)
    (c.requires.within c.deref-done.result.now (rw c.deref-done.ensures o.value))) f.before f.moved)
    (done_joined c.args.self.now c.take_out.new.self marks c.args.reply.now c.deref-done.result.now c.args.n _
    x m k (all _ _
    (ap (λ (p : Pending). nat_lt c.args.n p.request.count) (c.deref-done.ensures ∙ sym c.deref.ensures) ∙ sym c.goes_on.ensures ∙ c.if-goes_on.false)
    (c.requires.within c.deref-done.result.now (rw c.deref-done.ensures o.value))) f.before f.moved)
    (reads_out c.args.self.now.pending c.take_out.new.self.pending marks c.args.reply.now c.deref-done.result.now c.args.at c.args.n
    x.there m x.within lt (rw c.deref-done.ensures o.value) o.items (rw x.holds.items x.apart))

pub returns-in-Read-clause-minors : goal.returns-in-Read-clause-minors
returns-in-Read-clause-minors c = λ area h. rw c.take_out.ensures.items (in_rest area c.args.self.now.pending c.args.at h)

pub returns-in-Write-clause-agrees : goal.returns-in-Write-clause-agrees
returns-in-Write-clause-agrees c = λ marks h place m from.
    let o = c.take_out.ensures in
    agrees_done c.args.self.now _ marks c.args.reply.now c.deref-done.result.now c.args.n
    (taken c.args.self.now _ marks c.args.reply.now c.deref-done.result.now c.args.at c.args.n
    h place m from (rw c.deref-done.ensures o.value) o.items o.issued o.ids o.current o.given_up)

pub returns-in-Write-clause-hears : goal.returns-in-Write-clause-hears
returns-in-Write-clause-hears c =
    let o = c.take_out.ensures in
    answered_whole c.args.self.now _ _ c.args.at c.args.n c.deref-done.result.now c.requires.at (rw c.deref-done.ensures o.value)
    (c.requires.there c.deref-done.result.now (rw c.deref-done.ensures o.value)) (all _ _
    (ap (λ (p : Pending). nat_lt c.args.n p.request.count) (c.deref-done.ensures ∙ sym c.deref.ensures) ∙ sym c.goes_on.ensures ∙ c.if-goes_on.false)
    (c.requires.within c.deref-done.result.now (rw c.deref-done.ensures o.value))) o.items o.ids o.posted o.issued

pub returns-in-Write-clause-closes : goal.returns-in-Write-clause-closes
returns-in-Write-clause-closes c =
    let o = c.take_out.ensures in
    let lt = issued_within c.args.self.now c.args.at c.requires.at in
    closes_written c.args.self.now.pending c.take_out.new.self.pending c.args.at _ c.deref-done.result.now c.args.self.now.ids
    lt (rw c.deref-done.ensures o.value) c.args.self.now.numbers o.items refl (ap is_write c.in-Write.is)

pub returns-in-Write-clause-closing : goal.returns-in-Write-clause-closing
returns-in-Write-clause-closing c = λ marks h place m from.
    let o = c.take_out.ensures in
    let lt = issued_within c.args.self.now c.args.at c.requires.at in
    let k : is_write c.deref-done.result.now.request.kind ≡ true = ap is_write c.in-Write.is in
    let x = taken c.args.self.now c.take_out.new.self marks c.args.reply.now c.deref-done.result.now c.args.at c.args.n
    h place m from (rw c.deref-done.ensures o.value) o.items o.issued o.ids o.current o.given_up in
    let i = among_here c.args.self.now.pending c.args.at c.deref-done.result.now lt (rw c.deref-done.ensures o.value) in
    let d = c.args.self.now.numbers.distinct in
    closing_written _ _ marks (Answered c.args.reply.now ∷ marks) c.deref-done.result.now _ d i refl k
    (λ image. spares_answered image marks c.args.reply.now c.deref-done.result.now c.args.n c.args.self.now.pending x.there m x.within d i)
    (λ image. done_writes c.args.self.now c.take_out.new.self marks image c.args.reply.now c.deref-done.result.now c.args.n x m k (all _ _
    (ap (λ (p : Pending). nat_lt c.args.n p.request.count) (c.deref-done.ensures ∙ sym c.deref.ensures) ∙ sym c.goes_on.ensures ∙ c.if-goes_on.false)
    (c.requires.within c.deref-done.result.now (rw c.deref-done.ensures o.value))))
    (rw x.holds.items x.apart)
    (reads_out c.args.self.now.pending c.take_out.new.self.pending marks c.args.reply.now c.deref-done.result.now c.args.at c.args.n
    x.there m x.within lt (rw c.deref-done.ensures o.value) o.items (rw x.holds.items x.apart))

pub returns-in-Write-clause-minors : goal.returns-in-Write-clause-minors
returns-in-Write-clause-minors c = λ area h. rw c.take_out.ensures.items (in_rest area c.args.self.now.pending c.args.at h)
