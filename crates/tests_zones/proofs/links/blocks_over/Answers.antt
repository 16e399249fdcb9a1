use Rattle.std.proofs.Common.{sym, subst}
use Rattle.std.specs.Prelude.{IfOk}
use Rattle.reissue.specs.contracts.list_link.ListLinkLink.TheImpl.{ghosts}
use Rattle.cache.specs.Calls.{AreWritable, caching}
use Rattle.cached_blocks.specs.World.{stored_caching}
use Rattle.cache.proofs.Inside.{writable_made}
use Rattle.tests_zones.proofs.links.blocks_over.Goals as goal
use Rattle.tests_zones.proofs.links.blocks_over.Goals.{in-Ok, in-Err}

pub returns-clause-inside : goal.returns-clause-inside
returns-clause-inside c =
    let g = c.args.geometry.now in
    elim c.match-new.branch [
      | in-Ok w ↦
          let its = writable_made g 0 (caching ghosts w.in-Ok.cache) w.in-Ok.ensures.made in
          subst (λ r. IfOk r (λ s. AreWritable g.zones (stored_caching ghosts s))) (sym w.result-is)
          (subst (λ k. AreWritable g.zones (caching ghosts k)) (sym w.new-in-Ok.ensures) its)
      | in-Err w ↦ subst (λ r. IfOk r (λ s. AreWritable g.zones (stored_caching ghosts s))) (sym w.result-is) tt
    ]
