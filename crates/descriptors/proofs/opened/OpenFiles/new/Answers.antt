use Rattle.std.proofs.Common.{rules, ◌≡◌, ap, ◌∙◌, refl, None, Option, ℕ, zero, suc, List, ◌∷◌, map, replicate}
use Rattle.slab.specs.Slab.{Slab}
use Rattle.tree.specs.Tree.{OpenFile, most_open_files}
use Rattle.descriptors.specs.declared.opened.Opened.{Opened}
use Rattle.descriptors.specs.Keys.{file_under}
use Rattle.descriptors.proofs.opened.OpenFiles.new.Goals as goal

-- where there are no keys there is no open file
none_seen : (s : Slab Opened) (n : ℕ) → map (file_under s) (replicate n None) ≡ replicate n None
none_seen s zero = refl
none_seen s (suc n) = ap (λ (os : List (Option OpenFile)). None ∷ os) (none_seen s n)

-- as they are made
made : (s : Slab Opened) (keys : List (Option ℕ)) → keys ≡ replicate most_open_files None → map (file_under s) keys ≡ replicate most_open_files None
made s keys e = ap (map (file_under s)) e ∙ none_seen s most_open_files

pub returns : goal.returns
returns c = made c.in_ok-with_capacity.field-0 _ (c.in_ok-vec.ensures.items_if_clones_equal (λ y h. search rules))
