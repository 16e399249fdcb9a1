-- A name put into a map.
use Rattle.std.proofs.Common.{◌≡◌, ℕ, List, [], ◌∷◌, refl, ap}
use Rattle.std.specs.Prelude.{map}
use Rattle.std.specs.Global.{Vec}
use Rattle.std.specs.declared.cmp.Ordering.{Ordering}
use Rattle.std.specs.declared.cmp.Ordering.TheVariants.{Less, Equal, Greater}
use Rattle.std.specs.BTreeMap.{insert_entry}
use Rattle.std.specs.FinMap.Entries.{by_order}
use Rattle.tree.specs.Names.{name_cmp, with_name}
use Rattle.calls_files.specs.Pairs.{pair_of}

abbrev vec_cmp : Vec ℕ → Vec ℕ → Ordering
vec_cmp x y = name_cmp x.items y.items

pub put_is : (es : List (Vec ℕ × ℕ)) (k : Vec ℕ) (n : ℕ) → map pair_of (insert_entry vec_cmp es k n) ≡ with_name (map pair_of es) k.items n
put_is [] k n = refl
put_is (e ∷ es) k n = by (vec_cmp k e.0) (put_is es k n)
  where
    by : (o : Ordering) → map pair_of (insert_entry vec_cmp es k n) ≡ with_name (map pair_of es) k.items n → map pair_of (Rattle.std.specs.Ordering.match_ordering o ((k, n) ∷ e ∷ es) ((e.0, n) ∷ es) (e ∷ insert_entry vec_cmp es k n))
        ≡ by_order o ((k.items, n) ∷ pair_of e ∷ map pair_of es) ((e.0.items, n) ∷ map pair_of es) (pair_of e ∷ with_name (map pair_of es) k.items n)
    by Less h = refl
    by Equal h = refl
    by Greater h = ap (λ l. pair_of e ∷ l) h
