use Rattle.zone.proofs.cutting.pages.+last_below.Given as goal

abbrev pub decreases-last_below : goal.decreases-last_below
decreases-last_below g l = l.level
