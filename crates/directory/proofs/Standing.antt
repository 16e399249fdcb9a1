-- Where a name stands among the entries of a page.
use Rattle.std.proofs.Common.{◌≡◌, ◌≢◌, ◌<◌, ◌≤◌, ◌+◌, ◌-◌, ◌*◌, ◌/◌, ℕ, false, List, [], length, Option, None, Some, sym, ap, subst, ◌∙◌, arith, inl, inr}
use Rattle.std.specs.Prelude.{◌==◌, nat_lt, IsTrue, slice_index}
use Rattle.std.proofs.lemmas.Bool.{cond-true, cases_Bool, eqb-true, eqb-false, ltb-true, ltb-false}
use Rattle.layout.specs.declared.Geometry.{Geometry}
use Rattle.layout.specs.Places.{IsGeometry}
use Rattle.tree.specs.Names.{Name}
use Rattle.volume.specs.declared.Inode.{Inode}
use Rattle.volume.specs.Reading.{Disk, is_data_zone}
use Rattle.volume.specs.Pieces.{pieces}
use Rattle.volume.specs.Nodes.{page_zone, file_byte, entry_inode, entry_name}
use Rattle.directory.specs.Rows.{SameEntry}
use Rattle.directory.proofs.Rows.{same_name_there, same_target}
use Rattle.directory.specs.Standing.{NoneNamed, IsNamed, StandsAt}
use Rattle.directory.proofs.Pages.{page_same, page_zeros, entries_whole, entries_begin}

-- an entry of a page is one of its block
module _ (g : Geometry) (d : Disk) (i : Inode) (page zone e : ℕ) (bytes : List ℕ) (geometry : IsGeometry g)
    (holds : IsTrue (is_data_zone g zone)) (low : e < g.block_size / 64) (size : 64 * (page * (g.block_size / 64) + e) + 64 ≤ i.size)
    (is : zone ≡ page_zone g (pieces g d) i page) (there : d zone ≡ slice_index bytes) where
  in_block : SameEntry (file_byte g (pieces g d) i) (slice_index bytes) (page * (g.block_size / 64) + e) e
  in_block o few =
      let first = page * (g.block_size / 64) in
      let whole = entries_whole g.block_size geometry.block_size in
      let begins = entries_begin page g.block_size geometry.block_size in
      let at : 64 * first + (64 * e + o) ≡ 64 * (first + e) + o = omega arith in
      page_same g d i page zone (64 * e + o) bytes geometry holds (omega (arith, whole, low, few)) (omega (arith, size, begins, few)) is there
      ∙ ap (file_byte g (pieces g d) i) at

  entry_same : entry_name (slice_index bytes) e ≡ entry_name (file_byte g (pieces g d) i) (page * (g.block_size / 64) + e)
  entry_same = same_name_there (file_byte g (pieces g d) i) (slice_index bytes) (page * (g.block_size / 64) + e) e in_block

  pub number_same : entry_inode (slice_index bytes) e ≡ entry_inode (file_byte g (pieces g d) i) (page * (g.block_size / 64) + e)
  number_same = same_target (file_byte g (pieces g d) i) (slice_index bytes) (page * (g.block_size / 64) + e) e in_block

-- a name that stands in a page's block stands in the page
pub stands_there : (g : Geometry) (d : Disk) (i : Inode) (page zone from to at : ℕ) (bytes : List ℕ) (name : Name) → IsGeometry g → IsTrue (is_data_zone g zone)
    → page * (g.block_size / 64) ≤ from → from ≤ to → to ≤ page * (g.block_size / 64) + g.block_size / 64 → 64 * to ≤ i.size
    → zone ≡ page_zone g (pieces g d) i page → d zone ≡ slice_index bytes
    → IsNamed (slice_index bytes) name (from - page * (g.block_size / 64)) (to - page * (g.block_size / 64)) at
    → IsNamed (file_byte g (pieces g d) i) name from to (page * (g.block_size / 64) + at)
stands_there g d i page zone from to at bytes name geometry holds begins order ends size is there named =
    let past = named.past in
    let low = named.low in
    record {
      past = omega (arith, past, begins);
      low = omega (arith, low, begins, order);
      named = sym (entry_same g d i page zone at bytes geometry holds (omega (arith, low, begins, ends)) (omega (arith, low, size)) is there) ∙ named.named;
    }

-- and where none does, none does
pub none_there : (g : Geometry) (d : Disk) (i : Inode) (page zone from to : ℕ) (bytes : List ℕ) (name : Name) → IsGeometry g → IsTrue (is_data_zone g zone)
    → page * (g.block_size / 64) ≤ from → from ≤ to → to ≤ page * (g.block_size / 64) + g.block_size / 64 → 64 * to ≤ i.size
    → zone ≡ page_zone g (pieces g d) i page → d zone ≡ slice_index bytes
    → NoneNamed (slice_index bytes) name (from - page * (g.block_size / 64)) (to - page * (g.block_size / 64)) → NoneNamed (file_byte g (pieces g d) i) name from to
none_there g d i page zone from to bytes name geometry holds begins order ends size is there none = record {
  none = λ e past low same.
      let first = page * (g.block_size / 64) in
      let at : first + (e - first) ≡ e = omega (arith, begins, past) in
      none.none (e - first) (omega (arith, past, begins)) (omega (arith, low, past, begins))
      (entry_same g d i page zone (e - first) bytes geometry holds (omega (arith, past, low, begins, ends)) (omega (arith, at, low, size)) is there
      ∙ ap (entry_name (file_byte g (pieces g d) i)) at ∙ same);
}

-- nor in a page without a data zone
pub none_missing : (g : Geometry) (d : Disk) (i : Inode) (page zone from to : ℕ) (name : Name) → IsGeometry g → is_data_zone g zone ≡ false
    → page * (g.block_size / 64) ≤ from → to ≤ page * (g.block_size / 64) + g.block_size / 64 → 0 < length name
    → zone ≡ page_zone g (pieces g d) i page → NoneNamed (file_byte g (pieces g d) i) name from to
none_missing g d i page zone from to name geometry holds begins ends some is = record {
  none = λ e past low same.
      let f = file_byte g (pieces g d) i in
      let first = page * (g.block_size / 64) in
      let whole = entries_whole g.block_size geometry.block_size in
      let at : 64 * first + (64 * (e - first) + 4) ≡ 64 * e + 4 = omega (arith, begins, past) in
      let zero : f (64 * e + 4) ≡ 0 = ap f (sym at) ∙ page_zeros g d i page zone (64 * (e - first) + 4) geometry holds (omega (arith, whole, begins, past, low, ends)) is in
      let empty : entry_name f e ≡ [] = cond-true (f (64 * e + 4) == 0) [] _ (ap (λ (x : ℕ). x == 0) zero) in
      let none : length name ≡ 0 = ap length (sym same ∙ empty) in
      omega (arith, none, some);
}

-- none so far, and not this one either
pub none_more : (f : ℕ → ℕ) (name : Name) (from at : ℕ) → NoneNamed f name from at → entry_name f at ≢ name → NoneNamed f name from (at + 1)
none_more f name from at none other = record {
  none = λ e past low same. elim (cases_Bool (e == at)) [
    | inl is ↦ other (ap (entry_name f) (sym (eqb-true e at is)) ∙ same)
    | inr not ↦ let apart = eqb-false e at not in none.none e past (omega (arith, low, apart)) same
  ];
}

-- none before a place, and none from there on
pub none_on : (f : ℕ → ℕ) (name : Name) (from at to : ℕ) → NoneNamed f name from at → NoneNamed f name at to → NoneNamed f name from to
none_on f name from at to before behind = record {
  none = λ e past low. elim (cases_Bool (nat_lt e at)) [
    | inl is ↦ before.none e past (ltb-true e at is)
    | inr not ↦ behind.none e (ltb-false e at not) low
  ];
}

-- none at all
pub none_up_to : (f : ℕ → ℕ) (name : Name) (from to end : ℕ) → end ≤ to → NoneNamed f name from to → NoneNamed f name from end
none_up_to f name from to end l none = record { none = λ e past low. none.none e past (omega (arith, low, l)) }

pub none_at_first : (f : ℕ → ℕ) (name : Name) (from : ℕ) → NoneNamed f name from from
none_at_first f name from = record { none = λ e past low. absurd (omega (arith, past, low)) }

-- one behind is one
pub named_behind : (f : ℕ → ℕ) (name : Name) (from at to end e : ℕ) → from ≤ at → to ≤ end → IsNamed f name at to e → IsNamed f name from end e
named_behind f name from at to end e l m is = let past = is.past in let low = is.low in record { past = omega (arith, past, l); low = omega (arith, low, m); named = is.named }
