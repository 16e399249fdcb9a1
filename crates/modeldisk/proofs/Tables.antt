-- The table in the first sector.
use Rattle.std.proofs.Common.{◌≡◌, ℕ, List, [], ◌∷◌, sym, ◌∙◌, ap, Some, Result}
use Rattle.std.specs.Prelude.{slice_get}
use Rattle.media.specs.declared.partition.PartitionRefusal.{PartitionRefusal}
use Rattle.media.specs.Table.{TableState}
use Rattle.media.specs.Refusals.{table_of}
use Rattle.modeldisk.specs.Supply.{count_of, table_or, table_by}

-- by what parsing the first sector answers
pub by_first : (sectors : List (List ℕ)) (first : List ℕ) (count : ℕ) (parsed : Result TableState PartitionRefusal) → slice_get sectors 0 ≡ Some first
    → count ≡ count_of sectors → parsed ≡ table_of first count → table_by sectors ≡ table_or parsed (count_of sectors)
by_first [] first count parsed there is answers = cc
by_first (s ∷ rest) first count parsed there is answers =
    let same : s ≡ first = cc in
    ap (λ (r : Result TableState PartitionRefusal). table_or r (count_of (s ∷ rest)))
    (ap (λ (x : List ℕ). table_of x (count_of (s ∷ rest))) same ∙ ap (λ (n : ℕ). table_of first n) (sym is) ∙ sym answers)
