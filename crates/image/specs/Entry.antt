-- An entry by its 64 bytes.
use Rattle.std.specs.Prelude.{ℕ, ◌+◌, slice_index, Bool, not, ◌&&◌, ◌==◌}
use Rattle.lemmas.specs.Sums.{some_below}
use Rattle.tree.specs.Names.{Name, is_name}
use Rattle.volume.specs.Nodes.{text_in}

-- all 60 bytes of the field are this name's, filled with zeros
abbrev pub is_field : (ℕ → ℕ) → Name → Bool
is_field f name = not (some_below (λ a. not (f (4 + a) == slice_index name a)) 60)

-- after a zero byte of the field all are zero
abbrev pub is_padded : (ℕ → ℕ) → Bool
is_padded f = not (some_below (λ a. (f (4 + a) == 0) && not (f (4 + (a + 1)) == 0)) 59)

-- the name in the field, up to its first zero byte
unfoldable pub name_in : (ℕ → ℕ) → Name
name_in f = text_in f 60 4

-- the field is a name that a directory can have, filled with zeros
abbrev pub has_name : (ℕ → ℕ) → Bool
has_name f = is_padded f && is_name (name_in f)
