use Rattle.fixtures_orders.proofs.served.counted_drivers.Goals as goal

-- the empty record is guaranteed over the link, over what watches it, and over what counts on that
pub returns-clause-truth : goal.returns-clause-truth
returns-clause-truth g c v = c.in_ok-recording.ensures.truth v (c.new-link.ensures.truth v (c.in_ok-link.ensures.truth v))
