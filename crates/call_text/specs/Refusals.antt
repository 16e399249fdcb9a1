-- Why a script isn't read.
use Rattle.std.specs.Prelude.{◌≡◌, ℕ, List, Err, IsTrue}
use Rattle.call_text.specs.Scripts.{script_of, has_call}
use Rattle.call_text.specs.declared.scripts.reading.ScriptRefusal.{ScriptRefusal}
use Rattle.call_text.specs.declared.scripts.reading.ScriptRefusal.TheVariants.{BadLine, OutOfMemory}

-- this is its first bad line, or there was no memory for a call
abbrev pub IsRefused : List ℕ → ScriptRefusal → Type 0
IsRefused text (BadLine number) = script_of text ≡ Err number
IsRefused text OutOfMemory = IsTrue (has_call (script_of text))
