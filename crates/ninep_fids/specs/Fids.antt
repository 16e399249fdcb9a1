-- What becomes of fids when names change.
use Rattle.std.specs.Prelude.{⊤, ◌≡◌, ◌≤◌, ◌⊎◌, ◌++◌, ℕ, List, [], ◌∷◌, length, true}
use Rattle.ninep_fids.specs.Paths.{IsRest, IsElsewhere}
use Rattle.ninep_fids.specs.Knowledge.{File}

-- A name became another one. A fid at the old name or below it goes along, unless no memory was found for its path, or that had more bytes
-- than a call's path may have: then it is gone. What stood at the new name or below it is gone. Any other stays, and each keeps its user,
-- its node, its descriptor and its entries.
pub record IsRenamed (old new : List ℕ) (f g : File) : Type 0 where
  pub moved : (rest : List ℕ) → IsRest rest → f.path ≡ old ++ rest
      → (g.gone ≡ true) ⊎ ((g.path ≡ new ++ rest) × (g.gone ≡ f.gone))
  pub replaced : (rest : List ℕ) → IsRest rest → IsElsewhere old f.path → f.path ≡ new ++ rest → g.gone ≡ true
  pub others : IsElsewhere old f.path → IsElsewhere new f.path → g.gone ≡ f.gone
  pub path : IsElsewhere old f.path → g.path ≡ f.path
  pub short : (g.path ≡ f.path) ⊎ (length g.path ≤ 1024)
  pub node : g.node ≡ f.node
  pub user : g.user ≡ f.user
  pub descriptor : g.descriptor ≡ f.descriptor
  pub entries : g.entries ≡ f.entries

-- A name was taken away: what stood at it or below it is gone, and all else stays.
pub record IsUnlinked (name : List ℕ) (f g : File) : Type 0 where
  pub at : (rest : List ℕ) → IsRest rest → f.path ≡ name ++ rest → g.gone ≡ true
  pub others : IsElsewhere name f.path → g.gone ≡ f.gone
  pub path : g.path ≡ f.path
  pub node : g.node ≡ f.node
  pub user : g.user ≡ f.user
  pub descriptor : g.descriptor ≡ f.descriptor
  pub entries : g.entries ≡ f.entries

-- of each fid of a table, in its place, this becomes
abbrev pub EachBecomes : (File → File → Type 0) → List (ℕ × File) → List (ℕ × File) → Type 0
EachBecomes R [] [] = ⊤
EachBecomes R [] (g ∷ gs) = ⊥
EachBecomes R (f ∷ fs) [] = ⊥
EachBecomes R (f ∷ fs) (g ∷ gs) = (g.0 ≡ f.0) × R f.1 g.1 × EachBecomes R fs gs
