use Rattle.tools.proofs.play.run.Goals as goal

pub returns-in-Ok-Ok-clause-played : goal.returns-in-Ok-Ok-clause-played
returns-in-Ok-Ok-clause-played g c =
    let ran = c.in-Ok-Ok.ensures.played in
    record {
      bytes = c.in-Ok.read.0;
      sizes = ran.0;
      range = ran.1;
      started = record { read = c.in-Ok.ensures.ok.0; servable = ran.2 };
      calls = _;
      scripted = c.in-Ok.ensures.ok.1;
      served = rw c.in-Ok-Ok.field-0-is at ran.3;
    }

pub returns-in-Ok-Err-clause-unplayed : goal.returns-in-Ok-Err-clause-unplayed
returns-in-Ok-Err-clause-unplayed g c =
    let ran = c.in-Ok-Err.ensures.played in (
      (c.in-Ok.read.0, ran.0, ran.1, record { read = c.in-Ok.ensures.ok.0; servable = ran.2 }),
      (_, c.in-Ok.ensures.ok.1),
      rw c.in-Ok-Err.field-0-is at c.in-Ok-Err.ensures.unserved,
    )
