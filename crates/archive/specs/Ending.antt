-- The image at the end, put into an archive.
use Rattle.std.specs.Prelude.{◌≡◌, List, ℕ, Bool, false, Option, Some, None, Result, is_ok}
use Rattle.errno.specs.declared.Errno.{Errno}

-- how an image may be put into an archive at the end: the state before, the image's bytes, what is answered, the state after
abbrev pub Ends : Type 0 → Type 1
Ends A = A → List ℕ → Result (Unit {0}) Errno → A → Type 0

-- that was done with the archive, and whether it was answered ok; without an archive nothing is
abbrev pub IsEndedIn : {A : Type 0} → Ends A → Option A → List ℕ → Bool → Option A → Type 0
IsEndedIn ends None image put t = (put ≡ false) × (t ≡ None)
IsEndedIn {A} ends (Some s) image put t =
    (answer : Result (Unit {0}) Errno) × (u : A) × ends s image answer u × (put ≡ is_ok answer) × (t ≡ Some u)
