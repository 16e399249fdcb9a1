use Rattle.block_store.proofs.Turns.{turns_as}
use Rattle.descriptors.specs.Table.{files_of}
use Rattle.calls_attributes.proofs.Looks.{found_none, found_some, said_of, fstat_refused, fstat_done}
use Rattle.calls_attributes.proofs.open_files.fstat.Goals as goal

pub returns-in-None-clause-turns : goal.returns-in-None-clause-turns
returns-in-None-clause-turns g c =
    turns_as _ _ _ _ _ (λ d e x. fstat_refused c.args.geometry.now d e (files_of c.args.opens.now) c.args.session c.args.fd x.0
    (found_none _ _ c.in-None.is c.in_ok-find.ensures.file))
    c.in_ok-find.ensures.reads.turns

pub returns-in-Some-clause-turns : goal.returns-in-Some-clause-turns
returns-in-Some-clause-turns g c =
    turns_as _ _ _ _ _ (λ d e x. fstat_done c.args.geometry.now d e (files_of c.args.opens.now) c.args.session c.args.fd x.0 c.in-Some.file c.attributes.result
    (found_some _ _ _ c.in-Some.is c.in_ok-find.ensures.file) (said_of _ _ _ c.in-Some.is x.1) c.attributes.ensures)
    c.in_ok-find.ensures.reads.turns
