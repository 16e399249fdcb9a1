use Rattle.std.proofs.Common.{arith}
use Rattle.migrate.proofs.WrittenZones.{zones_agree, inodes_sound, directories_sound}
use Rattle.migrate.proofs.write.written_is_sound.Goals as goal

pub returns : goal.returns
returns c i h w p written =
    let first = p.geometry.first in
    let some = p.geometry.some_zone in
    record {
      zones = zones_agree i h w p.sound p.sizes p.old_block p.inodes (omega arith) written p.block p.room some;
      inodes = inodes_sound i h w p.sound p.sizes p.old_block p.inodes (omega arith) written p.block;
      directories = directories_sound i h w p.sound p.sizes p.old_block p.inodes (omega arith) written p.block;
    }
