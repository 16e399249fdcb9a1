-- What files say as scripts.
use Rattle.std.specs.Prelude.{◌≡◌, ℕ, ◌≤◌, ◌<◌, nat_lt, List, [], ◌∷◌, ◌++◌, length, Bool, true, Option, Some, None, Result, Ok, Err, IsTrue, codes, decimal}
use Rattle.std.specs.Borrow.{Bor}
use Rattle.call_text.specs.declared.scripts.timed.TimedCall.{TimedCall}
use Rattle.call_text.specs.Scripts.{script_of}
use Rattle.call_text.specs.declared.scripts.script_files.File.{File}
use Rattle.call_text.specs.declared.scripts.script_files.FileRefusal.{FileRefusal}
use Rattle.call_text.specs.declared.scripts.script_files.FileRefusal.TheVariants.{CannotRead, BadLine, TooMany, OutOfMemory}

-- a file's name where it couldn't be read, else what is said of the files after it
abbrev pub unread_or : Bor (List ℕ) → Option (Bor (List ℕ)) → Option (Bor (List ℕ)) → Option (Bor (List ℕ))
unread_or name None later = Some name
unread_or name (Some text) later = later

-- the name of the first file that couldn't be read
abbrev pub first_unread : List File → Option (Bor (List ℕ))
first_unread [] = None
first_unread (file ∷ files) = unread_or file.name file.bytes (first_unread files)

-- the bytes of a file that could be read
abbrev pub text_of : Option (Bor (List ℕ)) → List ℕ
text_of None = []
text_of (Some text) = text.now

-- what a file says as a script, or the number of its first line that can't be read
abbrev pub script_in : File → Result (ℕ × ℕ × List TimedCall) ℕ
script_in file = script_of (text_of file.bytes)

-- what a file says before what the files after it say; the number of a bad line goes with the file's name
abbrev pub script_before : Result (ℕ × ℕ × List TimedCall) ℕ → Bor (List ℕ) → Result (List (ℕ × ℕ × List TimedCall)) (ℕ × Bor (List ℕ))
    → Result (List (ℕ × ℕ × List TimedCall)) (ℕ × Bor (List ℕ))
script_before (Err number) name later = Err (number, name)
script_before (Ok script) name (Ok later) = Ok (script ∷ later)
script_before (Ok script) name (Err bad) = Err bad

-- what files say as scripts, in their order, or the first line that can't be read, file by file
abbrev pub scripts_in : List File → Result (List (ℕ × ℕ × List TimedCall)) (ℕ × Bor (List ℕ))
scripts_in [] = Ok []
scripts_in (file ∷ files) = script_before (script_in file) file.name (scripts_in files)

-- all files could be read, and these are their scripts; there are no more than sessions
abbrev pub AreScripts : List File → List (ℕ × ℕ × List TimedCall) → Type 0
AreScripts files scripts = (first_unread files ≡ None) × (scripts_in files ≡ Ok scripts) × (length files ≤ 64)

-- whether memory is sought for what a file says: for a script, or for its first call before a line that can't be read
abbrev pub takes_memory : Result (ℕ × ℕ × List TimedCall) ℕ → Bool
takes_memory (Ok script) = true
takes_memory (Err number) = nat_lt 2 number

-- memory is sought for what the first file says
abbrev pub TakeMemory : List File → Type 0
TakeMemory [] = ⊥
TakeMemory (file ∷ files) = IsTrue (takes_memory (script_in file))

-- why files give no scripts, in the order in which faults are looked for; memory may be wanting once all files could be read and the first lines too
abbrev pub IsRefused : List File → FileRefusal → Type 0
IsRefused files (CannotRead name) = first_unread files ≡ Some name
IsRefused files (BadLine number name) = (first_unread files ≡ None) × (scripts_in files ≡ Err (number, name))
IsRefused files TooMany = (first_unread files ≡ None) × ((scripts : List (ℕ × ℕ × List TimedCall)) × (scripts_in files ≡ Ok scripts)) × (64 < length files)
IsRefused files OutOfMemory = (first_unread files ≡ None) × TakeMemory files

-- why one file gives no script: its first bad line, or want of memory for a call
abbrev pub IsBad : File → FileRefusal → Type 0
IsBad file (CannotRead name) = ⊥
IsBad file (BadLine number name) = (script_in file ≡ Err number) × (name ≡ file.name)
IsBad file TooMany = ⊥
IsBad file OutOfMemory = IsTrue (takes_memory (script_in file))

-- the text of a refusal
abbrev pub refusal_text : FileRefusal → List ℕ
refusal_text (CannotRead name) = codes "cannot read " ++ name.now
refusal_text (BadLine number name) = codes "bad line " ++ decimal number ++ codes " of " ++ name.now
refusal_text TooMany = codes "TooMany"
refusal_text OutOfMemory = codes "OutOfMemory"
