use Rattle.std.proofs.Common.{◌≡◌, drop}
use Rattle.call_text.specs.Files.{first_unread}
use Rattle.call_text.proofs.scripts.script_files.first_unread.Given as goal

-- none so far
abbrev pub invariant-loop-file : goal.invariant-loop-file
invariant-loop-file l = first_unread l.files ≡ first_unread (drop l.file-index l.files)
