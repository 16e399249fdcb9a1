use Rattle.std.proofs.Common.{◌≡◌, map, Ok, rules}
use Rattle.call_text.specs.Scripts.{line_call, script_of}
use Rattle.call_text.proofs.ScriptLines.{call_kept}
use Rattle.call_text.proofs.scripts.reading.read_script.Goals as goal

pub returns-clause-err : goal.returns-clause-err
returns-clause-err c =
    let lines = c.in_ok-uid.field-0 in
    let read : script_of c.args.text.now ≡ Ok (lines.uid, lines.gid, map line_call lines.lines.items) = search rules in
    call_kept c.args.text.now lines.uid lines.gid lines.lines.items read (rw c.as_slice.ensures.value at c.in-Err.ensures.some)
