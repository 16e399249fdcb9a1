use Rattle.std.proofs.Common.{sym, subst}
use Rattle.reissue.specs.contracts.list_link.ListLinkLink.TheImpl.{ghosts}
use Rattle.cache.specs.Calls.{AreWritable, caching}
use Rattle.cache.proofs.Inside.{writable_made}
use Rattle.bench_layers.proofs.bench_bytes.at_hand.frames.Goals as goal

pub returns-in-Ok-clause-inside : goal.returns-in-Ok-clause-inside
returns-in-Ok-clause-inside c =
    let g = c.args.geometry.now in
    subst (λ k. AreWritable g.zones (caching ghosts k)) (sym c.new-in-Ok.ensures)
    (writable_made g 0 (caching ghosts c.in-Ok.cache) c.in-Ok.ensures.made)
