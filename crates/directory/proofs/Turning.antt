-- A scan from the last page to the first, over blocks.
use Rattle.std.proofs.Common.{◌≡◌, ◌<◌, ◌≤◌, ◌+◌, ◌-◌, ◌*◌, ◌/◌, ℕ, List, true, false, max, Option, None, Some, refl, ap, sym, ◌∙◌, arith}
use Rattle.std.specs.Prelude.{IsTrue, is_some, option_map, slice_index}
use Rattle.lemmas.proofs.Options.{some_same}
use Rattle.layout.specs.declared.Geometry.{Geometry}
use Rattle.layout.specs.Places.{IsGeometry}
use Rattle.tree.specs.Names.{Name, inode_of}
use Rattle.volume.specs.declared.Inode.{Inode}
use Rattle.volume.specs.Reading.{Disk, is_data_zone}
use Rattle.volume.specs.Pieces.{pieces}
use Rattle.volume.specs.Nodes.{entry_count_of, entry_inode, file_byte, names_in, page_zone}
use Rattle.block_store.specs.World.{World, IsWorld, Reads}
use Rattle.block_store.proofs.Turns.{reads_then}
use Rattle.directory.specs.declared.entries.Placed.{Placed}
use Rattle.directory.specs.Scan.{last_named, last_placed, placed}
use Rattle.directory.specs.Finding.{FindsEntry}
use Rattle.directory.proofs.Pages.{page_seen}
use Rattle.directory.proofs.Scans.{look_up_is, scan_ends, scan_goes_on}
use Rattle.directory.proofs.Standing.{number_same}

-- a page's first entry, or the third, comes before those that are left
pub from_low : (left each from : ℕ) → 2 < left → 0 < each → from ≡ max ((left - 1) / each * each) 2 → (2 ≤ from) × (from ≤ left)
from_low left each from l some is =
    let parts : each * ((left - 1) / each) ≤ left - 1 = omega arith in
    (omega arith, omega (arith, parts, is, l))

-- the scan of all entries is that of those up to here
abbrev pub IsLeft : Geometry → Inode → Name → ℕ → Disk → Type 0
IsLeft g i name left d =
    last_named (file_byte g (pieces g d) i) name 2 (entry_count_of i - 2) ≡ last_named (file_byte g (pieces g d) i) name 2 (left - 2)

-- and what the scan of a page answers
abbrev pub IsOfPage : Geometry → Inode → Name → ℕ → ℕ → Option Placed → Disk → Type 0
IsOfPage g i name from left r d = r ≡ last_placed (file_byte g (pieces g d) i) name from (left - from)

-- what a scan of all entries answers is where the name leads
leads : (f : ℕ → ℕ) (name : Name) (k : ℕ) → option_map (λ s. s.number) (last_placed f name 2 k) ≡ inode_of (names_in f k) name
leads f name k = twice (last_named f name 2 k) ∙ sym (look_up_is f k name)
  where
    twice : (o : Option ℕ) → option_map (λ s. s.number) (option_map (placed f) o) ≡ option_map (entry_inode f) o
    twice None = refl
    twice (Some e) = refl

pub finds : (g : Geometry) (d : Disk) (i : Inode) (name : Name) (x : Option Placed)
    → x ≡ last_placed (file_byte g (pieces g d) i) name 2 (entry_count_of i - 2) → FindsEntry g (pieces g d) i name x
finds g d i name x is = record {
  last = is;
  leads = ap (option_map (λ s. s.number)) is ∙ leads (file_byte g (pieces g d) i) name (entry_count_of i - 2);
}

-- a scan that told of an entry came to one
came_to : (f : ℕ → ℕ) (o : Option ℕ) (x : Placed) → Some x ≡ option_map (placed f) o → (e : ℕ) × (o ≡ Some e) × (x ≡ placed f e)
came_to f None x is = absurd (let no : true ≡ false = ap is_some is in cc)
came_to f (Some e) x is = (e, refl, some_same x (placed f e) is)

-- one that told of none came to none
came_to_none : (f : ℕ → ℕ) (o : Option ℕ) → None ≡ option_map (placed f) o → o ≡ None
came_to_none f None is = refl
came_to_none f (Some e) is = absurd (let no : false ≡ true = ap is_some is in cc)

-- the page has it
pub ends_here : {B : Type 0} (w : World B) → IsWorld w → (a b c : B) (g : Geometry) (i : Inode) (name : Name) (from left : ℕ) (x : Placed)
    (r : Option Placed) → (2 ≤ from) × (from ≤ left) → r ≡ Some x → Reads w a b (IsLeft g i name left)
    → Reads w b c (IsOfPage g i name from left r) → Reads w a c (λ d. FindsEntry g (pieces g d) i name (Some x))
ends_here w law a b c g i name from left x r low is =
    reads_then w law a b c (IsLeft g i name left) (IsOfPage g i name from left r) (λ d. FindsEntry g (pieces g d) i name (Some x))
    (λ d p q.
    let f = file_byte g (pieces g d) i in
    let came = came_to f (last_named f name from (left - from)) x (sym is ∙ q) in
    finds g d i name (Some x)
    (ap Some came.2 ∙ sym (ap (option_map (placed f)) (p ∙ scan_ends f name from left came.0 low.0 low.1 came.1))))

-- or the pages before it are left
pub goes_back : {B : Type 0} (w : World B) → IsWorld w → (a b c : B) (g : Geometry) (i : Inode) (name : Name) (from left : ℕ)
    (r : Option Placed) → (2 ≤ from) × (from ≤ left) → r ≡ None → Reads w a b (IsLeft g i name left)
    → Reads w b c (IsOfPage g i name from left r) → Reads w a c (IsLeft g i name from)
goes_back w law a b c g i name from left r low is =
    reads_then w law a b c (IsLeft g i name left) (IsOfPage g i name from left r) (IsLeft g i name from)
    (λ d p q.
    let f = file_byte g (pieces g d) i in
    p ∙ scan_goes_on f name from left low.0 low.1 (came_to_none f (last_named f name from (left - from)) (sym is ∙ q)))

-- no page is left, and none had it
pub none_left : (g : Geometry) (d : Disk) (i : Inode) (name : Name) (left : ℕ) → left ≤ 2 → IsLeft g i name left d
    → FindsEntry g (pieces g d) i name None
none_left g d i name left few is =
    let f = file_byte g (pieces g d) i in
    let none : left - 2 ≡ 0 = omega (arith, few) in
    finds g d i name None (sym (ap (option_map (placed f)) (is ∙ ap (last_named f name 2) none)))

-- What a scan of a page's block finds stands in the page.
module _ (g : Geometry) (d : Disk) (i : Inode) (page zone from to : ℕ) (bytes : List ℕ) (name : Name) (geometry : IsGeometry g)
    (holds : IsTrue (is_data_zone g zone)) (begins : page * (g.block_size / 64) ≤ from) (order : from ≤ to)
    (ends : to ≤ page * (g.block_size / 64) + g.block_size / 64) (size : 64 * to ≤ i.size)
    (is : zone ≡ page_zone g (pieces g d) i page) (there : d zone ≡ slice_index bytes) where
  pub stands_in_page : (at number : ℕ)
      → Some at ≡ last_named (slice_index bytes) name (from - page * (g.block_size / 64))
      (to - page * (g.block_size / 64) - (from - page * (g.block_size / 64)))
      → (from - page * (g.block_size / 64) ≤ at) × (at < to - page * (g.block_size / 64)) → number ≡ entry_inode (slice_index bytes) at
      → Some (record { place = page * (g.block_size / 64) + at; number = number })
      ≡ last_placed (file_byte g (pieces g d) i) name from (to - from)
  stands_in_page at number found within numbered =
      let f = file_byte g (pieces g d) i in
      let first = page * (g.block_size / 64) in
      let low = within.1 in
      let same = number_same g d i page zone at bytes geometry holds (omega (arith, low, begins, order, ends))
      (omega (arith, low, begins, order, size)) is there in
      ap (λ (n : ℕ). Some (record { place = first + at; number = n })) (numbered ∙ same)
      ∙ ap (option_map (placed f)) (ap (option_map (λ (e : ℕ). first + e)) found
      ∙ page_seen g d i page zone from to bytes name geometry holds begins order ends size is there)

  pub none_in_page : None ≡ last_named (slice_index bytes) name (from - page * (g.block_size / 64))
      (to - page * (g.block_size / 64) - (from - page * (g.block_size / 64)))
      → None ≡ last_placed (file_byte g (pieces g d) i) name from (to - from)
  none_in_page found =
      ap (option_map (placed (file_byte g (pieces g d) i))) (ap (option_map (λ (e : ℕ). page * (g.block_size / 64) + e)) found
      ∙ page_seen g d i page zone from to bytes name geometry holds begins order ends size is there)
