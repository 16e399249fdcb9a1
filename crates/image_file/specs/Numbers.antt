-- The numbers of refusals.
use Rattle.std.specs.Prelude.{ℕ}
use Rattle.image_file.specs.declared.refusal.OpenRefusal.{OpenRefusal}
use Rattle.image_file.specs.declared.refusal.OpenRefusal.TheVariants.{Foreign, Io}

abbrev pub refusal_number : OpenRefusal → ℕ
refusal_number Foreign = 1
refusal_number (Io error) = 2
