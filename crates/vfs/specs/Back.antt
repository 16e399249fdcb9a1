-- How reading a volume back ended.
use Rattle.std.specs.Prelude.{Result, Ok, Err}
use Rattle.volume_reading.specs.declared.reading.Stop.{Stop}
use Rattle.volume_reading.specs.declared.reading.Stop.TheVariants as stop
use Rattle.file_server.specs.declared.ReadEnd.{ReadEnd}
use Rattle.file_server.specs.declared.ReadEnd.TheVariants.{Read, GivenUp, Cut}

-- by how reading its range did, which wants no memory
abbrev pub end_of : Result (Unit {0}) Stop → ReadEnd
end_of (Ok u) = Read
end_of (Err stop.GaveUp) = GivenUp
end_of (Err stop.Ended) = Cut
end_of (Err stop.OutOfMemory) = GivenUp
