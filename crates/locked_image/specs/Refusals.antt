-- The numbers of refusals of image files.
use Rattle.std.specs.Prelude.{ℕ}
use Rattle.locked_image.specs.declared.FilesRefusal.{FilesRefusal}
use Rattle.locked_image.specs.declared.FilesRefusal.TheVariants.{CannotWrite, Served, Foreign, CopiedOver, CannotRead}

-- in the order in which they are looked for
abbrev pub files_refusal_number : FilesRefusal → ℕ
files_refusal_number (CannotWrite _ _) = 1
files_refusal_number (Served _) = 2
files_refusal_number (Foreign _) = 3
files_refusal_number (CopiedOver _) = 4
files_refusal_number (CannotRead _ _) = 5
