use Rattle.std.proofs.Common.{rules, sym, ◌∙◌, ap, ◌≤◌, arith, refl, length}
use Rattle.reissue.specs.Entries.{pending_of}
use Rattle.reissue.proofs.Posting.{busy, busy_any}
use Rattle.reissue.proofs.Joining.{begins_add, begins_none, posts_new}
use Rattle.reissue.proofs.transfers.Transfers.begin_run.Goals as goal

pub returns-then-is_full-clause-opens : goal.returns-then-is_full-clause-opens
returns-then-is_full-clause-opens g c =
    let full : 16 ≤ length c.args.self.now.table.pending = search rules in
    (refl, busy c.args.self.now.table.pending (omega (arith, full)))

pub returns-then-meets-clause-opens : goal.returns-then-meets-clause-opens
returns-then-meets-clause-opens g c =
    (refl, busy_any _ c.args.self.now.table.pending (sym c.meets.ensures ∙ c.if-meets.true))

pub returns-clause-adds : goal.returns-clause-adds
returns-clause-adds g c =
    let a = c.add-ticket.ensures in
    let l = c.post_if.ensures.leads in
    record {
      entry = a.added.0;
      pending = l.same ∙ a.added.1;
      begun = a.added.2;
      request = a.added.3;
      ids = c.post_if.ensures.ids ∙ a.ids;
      in_order = posts_new c.args.self.now.table c.add-ticket.new.self a.added.0 _ _ _ c.is_posted-due.ensures a.added.1 a.posted a.current c.post_if.ensures.posts;
    }

pub returns-clause-opens : goal.returns-clause-opens
returns-clause-opens g c =
    let a = c.add-ticket.ensures in
    (a.fresh, ap pending_of c.post_if.ensures.leads.same ∙ a.opens)

pub returns-clause-begins : goal.returns-clause-begins
returns-clause-begins g c =
    let a = c.add-ticket.ensures in
    begins_add _ c.args.self.now.table c.add-ticket.new.self _ a.added.0 _ _ _ _ _ a.agrees a.added.1 a.posted a.issued a.added.3
    a.current c.post_if.ensures.current a.given_up (search rules) c.is_posted-due.ensures c.post_if.ensures.posts c.post_if.ensures.leads

pub returns-then-is_full-clause-begins : goal.returns-then-is_full-clause-begins
returns-then-is_full-clause-begins g c = begins_none _ _ _ _

pub returns-then-meets-clause-begins : goal.returns-then-meets-clause-begins
returns-then-meets-clause-begins g c = begins_none _ _ _ _
