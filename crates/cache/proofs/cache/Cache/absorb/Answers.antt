use Rattle.std.proofs.Common.{◌≡◌, ◌∙◌, map, refl, sym, subst, ap}
use Rattle.reissue.specs.Entries.{request_of}
use Rattle.reissue.specs.Hears.{Hears}
use Rattle.reissue.specs.declared.transfers.Transfers.{Transfers}
use Rattle.reissue.specs.Transfers.{table_of, link_of}
use Rattle.reissue.specs.Posts.{HasRoom}
use Rattle.cache.specs.Calls.{caching, caching_of}
use Rattle.cache.proofs.Flushes.{wanted_for}
use Rattle.cache.proofs.Silent.{silent}
use Rattle.cache.proofs.Taking.{absorbs_one, room_after, leaves_settled, none_begun}
use Rattle.message.specs.declared.Incoming.{Incoming}
use Rattle.reissue.specs.Calls.{IsAnswerTo}
use Rattle.reissue.specs.Settlements.{Settlement, settlement}
use Rattle.reissue.specs.Settlements as settled
use Rattle.cache.specs.Slots.{held}
use Rattle.cache.specs.Settling.{Settles}
use Rattle.cache.proofs.Looking.{absorb_looks}
use Rattle.cache.proofs.cache.Cache.absorb.Goals as goal

pub returns : goal.returns
returns g c =
    let h = g.L.Link.history in
    let r = g.L.Link.room in
    let s = c.args.self.now in
    let e = c.settle.ensures in
    let x = c.absorb-settled.ensures in
    let old = caching g.L.Link s in
    let items = c.settle.new.slots.items.items in
    let bytes = c.absorb-settled.new.into in
    let came = settlement c.absorb-settled.result bytes in
    let new = caching_of g.L.Link c.absorb-settled.new.self s.shape items s.ended in
    record {
      hands_over = absorbs_one c.args.message came old new s.slots.items.items items x.absorbs (e.slots bytes) refl refl
          c.requires.ready c.requires.spare
          refl refl refl x.budget
          (λ alive. room_after c.args.message (HasRoom (table_of c.absorb-settled.new.self) (r (link_of c.absorb-settled.new.self))) x.room
          (λ end. subst (λ (u : Transfers _). HasRoom (table_of u) (r (link_of u))) (sym (x.ended end)) (c.requires.ready.room alive))) x.closed
          (λ end. ap (λ (u : Transfers _). h (link_of u)) (x.ended end));
      silent = λ idle. silent c.args.message came old new x.absorbs idle;
      looks = absorb_looks c.args.message came old new s.slots.items.items items x.absorbs (e.slots bytes) refl refl;
      goes = x.goes;
      stay = e.stay;
      reads = none_begun came _ _ x.absorbs.closes;
      leaves = leaves_settled came _ _ (e.slots bytes);
      end = λ is.
          let ends : came ≡ settled.End = subst (λ (m : Incoming). IsAnswerTo m came) is x.answer in
          let none : (came ≡ settled.Flush) → ⊥ = λ f. (let z = ends in cc) in
          let slots = e.end bytes ends in
          let flush = (e.wanted bytes).1 none in
          λ i. record s { transfers = x.ended is i; slots = slots i; flush = flush i };
      asked = λ is.
          let flushes : came ≡ settled.Flush = subst (λ (m : Incoming). IsAnswerTo m came) is x.answer in
          ap held (subst (λ (r : Settlement). Settles r s.slots.items.items items) flushes (e.slots bytes));
      pending = λ is marks k.
          let hears = subst (λ (m : Incoming). Hears m s.transfers.table x.absorbs.mid marks) is (x.absorbs.hears marks k) in
          ap (map request_of) (x.absorbs.same ∙ hears.0.pending);
      wanted = wanted_for c.args.message came _ _ x.answer (e.wanted bytes);
    }
