use Rattle.std.proofs.Common.{rules, arith, ◌∙◌, ap, length}
use Rattle.reissue.specs.declared.pending.Pending.{Pending}
use Rattle.reissue.proofs.Steps.{leads_post, leads_refused, order_post}
use Rattle.reissue.proofs.transfers.Transfers.post_rest.Goals as goal

pub returns-in-Err-clause-leads : goal.returns-in-Err-clause-leads
returns-in-Err-clause-leads g c =
    leads_refused _ _ _ _ _ _ _ _ _ _ c.loop-request.invariant.leads c.in-Err.ensures.told c.in-Err.ensures.refused

pub returns-in-Err-clause-goes : goal.returns-in-Err-clause-goes
returns-in-Err-clause-goes g c = g.met.L.Link.joins _ _ _ c.loop-request.invariant.goes c.in-Err.ensures.goes

pub loop-request-preserved : goal.loop-request-preserved
loop-request-preserved g c =
    let i = c.loop-request.invariant in
    let p = c.in-Some-next_to_post.ensures.request in
    let e = c.count_post.ensures in
    let k = c.in-Ok.ensures in
    record {
      leads = leads_post _ _ _ _ _ _ _ _ _ _ _ p.0 i.leads k.told k.accepted i.current (search rules) (p.2 ∙ ap (λ (x : Pending). x.request) p.1)
          e.items e.ids e.current e.given_up e.issued e.posted;
      current = e.current ∙ i.current;
      same = e.current ∙ i.same;
      budget = omega (arith, k.budget, i.budget);
      goes = g.met.L.Link.joins _ _ _ i.goes k.goes;
      ids = e.ids ∙ i.ids;
      enough = omega (arith, k.room, i.enough, e.posted, ap length e.items);
      taken = omega (arith, k.room, i.taken, e.posted);
      order = λ after h. i.order after
          (order_post c.loop-request.self.table c.count_post.new.self p.0 _ _ _ _ _ (search rules) p.1 p.2 e.items e.posted k.told h);
    }
