-- Files, one after the other.
use Rattle.std.proofs.Common.{◌≡◌, ℕ, zero, suc, IsTrue, ◌+◌, ◌<◌, get_or, List, [], ◌∷◌, ◌++◌, map, length, take, drop, sym, ap, ◌∙◌, refl, append_assoc, append-nil, arith, Option, Some, None, Result, Ok, Err}
use Rattle.std.specs.Borrow.{Bor}
use Rattle.std.proofs.lemmas.List.{drop_all, drop_more}
use Rattle.call_text.specs.declared.scripts.timed.TimedCall.{TimedCall}
use Rattle.call_text.specs.Scripts.{has_call}
use Rattle.call_text.specs.declared.scripts.script_files.File.{File}
use Rattle.call_text.specs.declared.scripts.script_files.FileRefusal.{FileRefusal}
use Rattle.call_text.specs.declared.scripts.script_files.FileRefusal.TheVariants.{CannotRead, BadLine, TooMany, OutOfMemory}
use Rattle.call_text.specs.Files.{IsBad, IsRefused, TakeMemory, first_unread, unread_or, script_in, script_before, scripts_in, takes_memory}

-- what was said so far, before what the files after it say
abbrev pub scripts_after : List (ℕ × ℕ × List TimedCall) → Result (List (ℕ × ℕ × List TimedCall)) (ℕ × Bor (List ℕ)) → Result (List (ℕ × ℕ × List TimedCall)) (ℕ × Bor (List ℕ))
scripts_after done (Ok later) = Ok (done ++ later)
scripts_after done (Err bad) = Err bad

pub scripts_after-nil : (r : Result (List (ℕ × ℕ × List TimedCall)) (ℕ × Bor (List ℕ))) → scripts_after [] r ≡ r
scripts_after-nil (Ok later) = refl
scripts_after-nil (Err bad) = refl

after_more : (done : List (ℕ × ℕ × List TimedCall)) (script : ℕ × ℕ × List TimedCall) (name : Bor (List ℕ)) (r : Result (List (ℕ × ℕ × List TimedCall)) (ℕ × Bor (List ℕ)))
    → scripts_after done (script_before (Ok script) name r) ≡ scripts_after (done ++ script ∷ []) r
after_more done script name (Ok later) = ap Ok (sym (append_assoc done (script ∷ []) later))
after_more done script name (Err bad) = refl

-- one more file's script
pub file_read : (files : List File) (i : ℕ) (d : File) (done more : List (ℕ × ℕ × List TimedCall)) (script : ℕ × ℕ × List TimedCall) → i < length files
    → scripts_in files ≡ scripts_after done (scripts_in (drop i files)) → script_in (get_or files i d) ≡ Ok script → more ≡ done ++ script ∷ []
    → scripts_in files ≡ scripts_after more (scripts_in (drop (i + 1) files))
file_read files i d done more script inside h said is =
    h ∙ ap (λ rest. scripts_after done (scripts_in rest)) (drop_more files i d inside)
    ∙ ap (λ s. scripts_after done (script_before s (get_or files i d).name (scripts_in (drop (i + 1) files)))) said
    ∙ after_more done script (get_or files i d).name (scripts_in (drop (i + 1) files))
    ∙ ap (λ m. scripts_after m (scripts_in (drop (i + 1) files))) (sym is)

-- a bad line
pub file_bad : (files : List File) (i : ℕ) (d : File) (done : List (ℕ × ℕ × List TimedCall)) (number : ℕ) (name : Bor (List ℕ)) → i < length files
    → scripts_in files ≡ scripts_after done (scripts_in (drop i files)) → script_in (get_or files i d) ≡ Err number → name ≡ (get_or files i d).name
    → scripts_in files ≡ Err (number, name)
file_bad files i d done number name inside h said is =
    h ∙ ap (λ rest. scripts_after done (scripts_in rest)) (drop_more files i d inside)
    ∙ ap (λ s. scripts_after done (script_before s (get_or files i d).name (scripts_in (drop (i + 1) files)))) said
    ∙ ap (λ n. Err (number, n)) (sym is)

-- memory is sought for a script, and for a call
pub script_takes : (r : Result (ℕ × ℕ × List TimedCall) ℕ) (script : ℕ × ℕ × List TimedCall) → r ≡ Ok script → IsTrue (takes_memory r)
script_takes (Ok script) other is = refl
script_takes (Err number) other is = cc

pub call_takes : (r : Result (ℕ × ℕ × List TimedCall) ℕ) → IsTrue (has_call r) → IsTrue (takes_memory r)
call_takes (Ok script) h = refl
call_takes (Err number) h = h

-- where it was sought for what some file says, it was for what the first one says
pub takes_here : (files : List File) (i : ℕ) (d : File) → i < length files → (0 < i → TakeMemory files) → IsTrue (takes_memory (script_in (get_or files i d))) → TakeMemory files
takes_here [] i d inside earlier here = absurd (omega arith)
takes_here (file ∷ files) zero d inside earlier here = here
takes_here (file ∷ files) (suc i) d inside earlier here = earlier (omega arith)

-- one file's refusal is that of all
pub bad_file : (files : List File) (i : ℕ) (d : File) (done : List (ℕ × ℕ × List TimedCall)) (refusal : FileRefusal) → i < length files → first_unread files ≡ None
    → (0 < i → TakeMemory files) → scripts_in files ≡ scripts_after done (scripts_in (drop i files)) → IsBad (get_or files i d) refusal → IsRefused files refusal
bad_file files i d done (CannotRead name) inside none takes h bad = absurd bad
bad_file files i d done (BadLine number name) inside none takes h bad = (none, file_bad files i d done number name inside h bad.0 bad.1)
bad_file files i d done TooMany inside none takes h bad = absurd bad
bad_file files i d done OutOfMemory inside none takes h bad = (none, takes_here files i d inside takes bad)

-- all files
pub files_end : (files : List File) (i : ℕ) (done : List (ℕ × ℕ × List TimedCall)) → length files ≡ i → scripts_in files ≡ scripts_after done (scripts_in (drop i files))
    → scripts_in files ≡ Ok done
files_end files i done all h =
    h ∙ ap (λ rest. scripts_after done (scripts_in rest)) (drop_all i files (omega arith)) ∙ ap Ok (append-nil done)

-- the files from this one on
pub unread_here : (files : List File) (i : ℕ) (d : File) → i < length files → first_unread files ≡ first_unread (drop i files) → (get_or files i d).bytes ≡ None
    → first_unread files ≡ Some (get_or files i d).name
unread_here files i d inside h none =
    h ∙ ap first_unread (drop_more files i d inside) ∙ ap (λ b. unread_or (get_or files i d).name b (first_unread (drop (i + 1) files))) none

pub unread_later : (files : List File) (i : ℕ) (d : File) (text : Bor (List ℕ)) → i < length files → first_unread files ≡ first_unread (drop i files) → (get_or files i d).bytes ≡ Some text
    → first_unread files ≡ first_unread (drop (i + 1) files)
unread_later files i d text inside h some =
    h ∙ ap first_unread (drop_more files i d inside) ∙ ap (λ b. unread_or (get_or files i d).name b (first_unread (drop (i + 1) files))) some
