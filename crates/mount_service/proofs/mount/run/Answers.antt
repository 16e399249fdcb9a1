use Rattle.mount_service.proofs.mount.run.Goals as goal

pub returns-in-Ok-Ok-clause-mounted : goal.returns-in-Ok-Ok-clause-mounted
returns-in-Ok-Ok-clause-mounted g c =
    let ran = c.in-Ok-Ok.ensures.played in
    record {
      bytes = c.in-Some.bytes;
      read = c.in-Some.is;
      ran = (ran.0, ran.1, ran.2, rw c.in-Ok-Ok.field-0-is at ran.3);
    }
