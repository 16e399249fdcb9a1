use Rattle.std.proofs.Common.{◌≡◌, rules}
use Rattle.call_text.specs.Scripts.{script_of}
use Rattle.call_text.specs.Files.{text_of}
use Rattle.call_text.proofs.ScriptFilesReading.{call_takes}
use Rattle.call_text.proofs.scripts.script_files.read.Goals as goal

pub returns-in-Err-OutOfMemory-clause-err : goal.returns-in-Err-OutOfMemory-clause-err
returns-in-Err-OutOfMemory-clause-err c =
    let text : c.unwrap_or-text.result.now ≡ text_of c.args.file.now.bytes = search rules in
    call_takes (script_of (text_of c.args.file.now.bytes)) (rw (text, c.in-Err-OutOfMemory.field-0-is) at c.in-Err-OutOfMemory.ensures.err)
