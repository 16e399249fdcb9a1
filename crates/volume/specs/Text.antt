-- The text of a finding.
use Rattle.std.specs.Prelude.{ℕ, List, ◌++◌, codes, decimal}
use Rattle.volume.specs.declared.Finding.{Finding}

-- its number and its place in decimal
abbrev pub finding_text : Finding → List ℕ
finding_text f = codes "finding " ++ decimal f.number ++ codes " at " ++ decimal f.place
