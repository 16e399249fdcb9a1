-- The open file of a descriptor, with its inode.
use Rattle.tree.specs.Tree.{OpenFile}
use Rattle.calls_attributes.specs.declared.found.Found.{Found}

-- the open file
abbrev pub file_of : Found → OpenFile
file_of x = record { inode = x.number; position = x.position; flags = x.flags.0 }
