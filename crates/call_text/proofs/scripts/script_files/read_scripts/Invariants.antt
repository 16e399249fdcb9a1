use Rattle.std.proofs.Common.{◌≡◌, ◌<◌, drop, length, map}
use Rattle.call_text.specs.Said.{said}
use Rattle.call_text.specs.Files.{TakeMemory, scripts_in}
use Rattle.call_text.proofs.ScriptFilesReading.{scripts_after}
use Rattle.call_text.proofs.scripts.script_files.read_scripts.Given as goal

-- what the files say is the scripts so far, before those of the files that are left
abbrev pub invariant-loop-file : goal.invariant-loop-file
invariant-loop-file l = record {
  so_far : scripts_in l.files ≡ scripts_after (map said l.scripts.items) (scripts_in (drop l.file-index l.files));
  count : length l.scripts.items ≡ l.file-index;
  takes : 0 < l.file-index → TakeMemory l.files;
}
