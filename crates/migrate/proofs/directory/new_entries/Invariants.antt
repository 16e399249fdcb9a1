use Rattle.volume.specs.Nodes.{file_byte}
use Rattle.image.specs.Contents.{contents}
use Rattle.migrate.specs.Written.{AreEntries}
use Rattle.migrate.proofs.directory.new_entries.Given as goal

abbrev pub invariant-loop-number : goal.invariant-loop-number
invariant-loop-number l = AreEntries (file_byte l.image.geometry (contents l.image) l.inode) l.number l.bytes.items
