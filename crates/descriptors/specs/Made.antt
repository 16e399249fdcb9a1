-- What is open at first, and what get shows.
use Rattle.std.specs.Prelude.{ℕ, None}
use Rattle.tree.specs.declared.OpenFlags.{OpenFlags}
use Rattle.tree.specs.Tree.{OpenFile}
use Rattle.descriptors.specs.Files.{Files}

-- nothing is open
abbrev pub no_files : Files
no_files = record { opened = λ k. None; descriptors = λ s fd. None }

-- the open file of an inode, a position and flags
abbrev pub shown : ℕ × ℕ × OpenFlags → OpenFile
shown x = record { inode = x.0; position = x.1; flags = x.2.0 }
