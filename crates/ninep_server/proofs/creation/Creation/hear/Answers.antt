use Rattle.ninep_fids.specs.Knowledge.{known_of}
use Rattle.ninep_server.proofs.creation.Creation.hear.Goals as goal

pub returns-in-Err-done : goal.returns-in-Err-done
returns-in-Err-done c = rw (c.in-Chown.is, c.in-Err-done.ensures.told) (c.give_up.ensures (known_of c.args.knows.now))

pub returns-in-Err-attributes : goal.returns-in-Err-attributes
returns-in-Err-attributes c =
    rw (c.in-Look.is, ← c.in-Err-attributes.ensures) (c.give_up-in-Err-attributes.ensures (known_of c.args.knows.now))
