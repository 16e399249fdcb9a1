use Rattle.cache.proofs.Growing.{more_free}
use Rattle.cache.proofs.table.Slots.grow.Goals as goal

pub returns-clause-enough : goal.returns-clause-enough
returns-clause-enough c =
    more_free c.is_ok.result c.add.result c.args.self.now c.add.new.self c.is_ok.ensures.value c.add.ensures.grown c.add.ensures.longer
