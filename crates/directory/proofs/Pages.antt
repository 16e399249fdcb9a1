-- The entries of a page, in the bytes of its block.
use Rattle.std.proofs.Common.{◌≡◌, ◌≢◌, ◌<◌, ◌≤◌, ◌+◌, ◌-◌, ◌*◌, ◌/◌, ◌%◌, ℕ, false, List, length, None, sym, ap, subst, ◌∙◌, arith, inl, inr}
use Rattle.std.specs.Prelude.{◌==◌, ◌||◌, IsTrue, nat_lt, nat_le, option_map, slice_index}
use Rattle.std.proofs.lemmas.Bool.{cond-true, cond-false, cases_Bool, or_cases, and_parts, eqb-true, ne_eqb, leb-true, lt-ltb}
use Rattle.layout.specs.declared.Geometry.{Geometry}
use Rattle.layout.specs.Places.{IsGeometry, is_block_size}
use Rattle.tree.specs.Names.{Name}
use Rattle.volume.specs.declared.Inode.{Inode}
use Rattle.volume.specs.Reading.{Disk, is_data_zone}
use Rattle.volume.specs.Pieces.{Pieces, pieces}
use Rattle.volume.specs.Nodes.{page_zone, page_byte, file_byte}
use Rattle.block_store.specs.Rows.{HasBytes}
use Rattle.directory.specs.Scan.{last_named, last_placed, placed}
use Rattle.directory.proofs.Scans.{scan_moved, scan_zeros}

-- what holds of the three sizes of a block holds of each
pub each_size : (P : ℕ → Type 0) (b : ℕ) → IsTrue (is_block_size b) → P 1024 → P 2048 → P 4096 → P b
each_size P b size x y z = elim (or_cases ((b == 1024) || (b == 2048)) (b == 4096) size) [
  | inr c ↦ subst P (sym (eqb-true b 4096 c)) z
  | inl ab ↦ elim (or_cases (b == 1024) (b == 2048) ab) [
    | inl a ↦ subst P (sym (eqb-true b 1024 a)) x
    | inr c ↦ subst P (sym (eqb-true b 2048 c)) y
  ]
]

-- a place in a page
record InPage (page q b : ℕ) : Type 0 where
  page_is : q < b → (page * b + q) / b ≡ page
  place_is : q < b → (page * b + q) % b ≡ q
  entries : 64 * (page * (b / 64)) ≡ page * b
  whole : 64 * (b / 64) ≡ b

in_page : (page q b : ℕ) → IsTrue (is_block_size b) → InPage page q b
in_page page q b size = each_size (InPage page q) b size
    (record { page_is = λ l. omega arith; place_is = λ l. omega arith; entries = omega arith; whole = omega arith })
    (record { page_is = λ l. omega arith; place_is = λ l. omega arith; entries = omega arith; whole = omega arith })
    (record { page_is = λ l. omega arith; place_is = λ l. omega arith; entries = omega arith; whole = omega arith })

-- a page has entries
pub entries_there : (b : ℕ) → IsTrue (is_block_size b) → 0 < b / 64
entries_there b size = each_size (λ n. 0 < n / 64) b size (omega arith) (omega arith) (omega arith)

-- a byte of a page, by its zone
byte_in : (g : Geometry) (v : Pieces) (i : Inode) (page zone q : ℕ) → IsGeometry g → zone ≡ page_zone g v i page → q < g.block_size
    → page_byte v (page_zone g v i ((page * g.block_size + q) / g.block_size)) ((page * g.block_size + q) % g.block_size) ≡ page_byte v zone q
byte_in g v i page zone q geometry is low =
    let place = in_page page q g.block_size geometry.block_size in
    ap (λ (p : ℕ). page_byte v (page_zone g v i p) ((page * g.block_size + q) % g.block_size)) (place.page_is low)
    ∙ ap (page_byte v (page_zone g v i page)) (place.place_is low) ∙ ap (λ (z : ℕ). page_byte v z q) (sym is)

-- in a data zone it is the block's
byte_there : (g : Geometry) (d : Disk) (i : Inode) (page zone q : ℕ) → IsGeometry g → zone ≡ page_zone g (pieces g d) i page → IsTrue (is_data_zone g zone)
    → q < g.block_size → page * g.block_size + q < i.size → d zone q ≡ file_byte g (pieces g d) i (page * g.block_size + q)
byte_there g d i page zone q geometry is holds low size =
    let above = leb-true g.first_zone zone (and_parts (nat_le g.first_zone zone) (nat_lt zone g.zones) holds).0 in
    let other : zone ≢ 0 = λ e. omega (arith, e, above, geometry.first) in
    sym (cond-true (nat_lt (page * g.block_size + q) i.size) _ 0 (lt-ltb (page * g.block_size + q) i.size size)
    ∙ byte_in g (pieces g d) i page zone q geometry is low
    ∙ cond-false (zone == 0) 0 _ (ne_eqb zone 0 other) ∙ cond-true (is_data_zone g zone) (d zone q) 0 holds)

-- and outside the data zones it is zero
byte_nowhere : (g : Geometry) (d : Disk) (i : Inode) (page zone q : ℕ) → IsGeometry g → zone ≡ page_zone g (pieces g d) i page → is_data_zone g zone ≡ false
    → q < g.block_size → file_byte g (pieces g d) i (page * g.block_size + q) ≡ 0
byte_nowhere g d i page zone q geometry is holds low = elim (cases_Bool (nat_lt (page * g.block_size + q) i.size)) [
  | inr e ↦ cond-false _ _ 0 e
  | inl e ↦
      cond-true _ _ 0 e ∙ byte_in g (pieces g d) i page zone q geometry is low
      ∙ elim (cases_Bool (zone == 0)) [
        | inl z ↦ cond-true (zone == 0) 0 _ z
        | inr z ↦ cond-false (zone == 0) 0 _ z ∙ cond-false (is_data_zone g zone) (d zone q) 0 holds
      ]
]

-- The scan of a page's entries is that of its block.
pub page_seen : (g : Geometry) (d : Disk) (i : Inode) (page zone from to : ℕ) (bytes : List ℕ) (name : Name) → IsGeometry g → IsTrue (is_data_zone g zone)
    → page * (g.block_size / 64) ≤ from → from ≤ to → to ≤ page * (g.block_size / 64) + g.block_size / 64 → 64 * to ≤ i.size
    → zone ≡ page_zone g (pieces g d) i page → d zone ≡ slice_index bytes
    → option_map (λ (e : ℕ). page * (g.block_size / 64) + e) (last_named (slice_index bytes) name (from - page * (g.block_size / 64))
    (to - page * (g.block_size / 64) - (from - page * (g.block_size / 64))))
    ≡ last_named (file_byte g (pieces g d) i) name from (to - from)
page_seen g d i page zone from to bytes name geometry holds begins order ends size is there =
    let first = page * (g.block_size / 64) in
    let place = in_page page 0 g.block_size geometry.block_size in
    let many : to - first - (from - first) ≡ to - from = omega (arith, begins, order) in
    let at : first + (from - first) ≡ from = omega (arith, begins) in
    ap (λ (k : ℕ). option_map (λ (e : ℕ). first + e) (last_named (slice_index bytes) name (from - first) k)) many
    ∙ scan_moved (file_byte g (pieces g d) i) (slice_index bytes) name first (from - first) (to - from) (λ q low.
    ap (λ (f : ℕ → ℕ). f q) (sym there)
    ∙ byte_there g d i page zone q geometry is holds (omega (arith, low, begins, order, ends, place.whole)) (omega (arith, low, begins, order, size, place.entries))
    ∙ ap (λ (p : ℕ). file_byte g (pieces g d) i (p + q)) (sym place.entries))
    ∙ ap (λ (e : ℕ). last_named (file_byte g (pieces g d) i) name e (to - from)) at

-- in a page without a data zone no entry has a name
pub page_missing : (g : Geometry) (d : Disk) (i : Inode) (page zone from to : ℕ) (name : Name) → IsGeometry g → is_data_zone g zone ≡ false
    → page * (g.block_size / 64) ≤ from → from ≤ to → to ≤ page * (g.block_size / 64) + g.block_size / 64 → 0 < length name
    → zone ≡ page_zone g (pieces g d) i page → None ≡ last_placed (file_byte g (pieces g d) i) name from (to - from)
page_missing g d i page zone from to name geometry holds begins order ends named is =
    let place = in_page page 0 g.block_size geometry.block_size in
    sym (ap (option_map (placed (file_byte g (pieces g d) i))) (scan_zeros (file_byte g (pieces g d) i) name from (to - from) named (λ q low high.
    let at : page * g.block_size + (q - page * g.block_size) ≡ q = omega (arith, low, begins, place.entries) in
    ap (file_byte g (pieces g d) i) (sym at)
    ∙ byte_nowhere g d i page zone (q - page * g.block_size) geometry is holds (omega (arith, low, high, begins, order, ends, place.entries, place.whole)))))

-- an entry in a page
record InEntry (k b : ℕ) : Type 0 where
  at : 64 * k ≡ k / (b / 64) * b + 64 * (k % (b / 64))
  within : 64 * (k % (b / 64)) + 64 ≤ b

in_entry : (k b : ℕ) → IsTrue (is_block_size b) → InEntry k b
in_entry k b size = each_size (InEntry k) b size
    (record { at = omega arith; within = omega arith })
    (record { at = omega arith; within = omega arith })
    (record { at = omega arith; within = omega arith })

-- an entry lies within its block
pub entry_within : (k b : ℕ) → IsTrue (is_block_size b) → 64 * (k % (b / 64)) + 64 ≤ b
entry_within k b size = (in_entry k b size).within

-- The bytes of an entry are those of its block.
pub entry_there : (g : Geometry) (d : Disk) (i : Inode) (k zone : ℕ) (bytes : List ℕ) → IsGeometry g → IsTrue (is_data_zone g zone) → 64 * k + 64 ≤ i.size
    → length bytes ≡ 64 → zone ≡ page_zone g (pieces g d) i (k / (g.block_size / 64)) → HasBytes (64 * (k % (g.block_size / 64))) bytes (d zone)
    → HasBytes (64 * k) bytes (file_byte g (pieces g d) i)
entry_there g d i k zone bytes geometry holds size many is there o low =
    let place = in_entry k g.block_size geometry.block_size in
    let at : k / (g.block_size / 64) * g.block_size + (64 * (k % (g.block_size / 64)) + o) ≡ 64 * k + o = omega (arith, place.at) in
    there o low
    ∙ byte_there g d i (k / (g.block_size / 64)) zone (64 * (k % (g.block_size / 64)) + o) geometry is holds (omega (arith, low, many, place.within)) (omega (arith, at, low, many, size))
    ∙ ap (file_byte g (pieces g d) i) at

-- and zeros where it has none
pub entry_missing : (g : Geometry) (d : Disk) (i : Inode) (k zone : ℕ) (bytes : List ℕ) → IsGeometry g → is_data_zone g zone ≡ false → length bytes ≡ 64
    → ((o : ℕ) → slice_index bytes o ≡ 0) → zone ≡ page_zone g (pieces g d) i (k / (g.block_size / 64)) → HasBytes (64 * k) bytes (file_byte g (pieces g d) i)
entry_missing g d i k zone bytes geometry holds many zeros is o low =
    let place = in_entry k g.block_size geometry.block_size in
    let at : k / (g.block_size / 64) * g.block_size + (64 * (k % (g.block_size / 64)) + o) ≡ 64 * k + o = omega (arith, place.at) in
    zeros o
    ∙ sym (ap (file_byte g (pieces g d) i) (sym at)
    ∙ byte_nowhere g d i (k / (g.block_size / 64)) zone (64 * (k % (g.block_size / 64)) + o) geometry is holds (omega (arith, low, many, place.within)))

-- The bytes of a page's block are the file's.
pub page_same : (g : Geometry) (d : Disk) (i : Inode) (page zone q : ℕ) (bytes : List ℕ) → IsGeometry g → IsTrue (is_data_zone g zone) → q < g.block_size
    → page * g.block_size + q < i.size → zone ≡ page_zone g (pieces g d) i page → d zone ≡ slice_index bytes
    → slice_index bytes q ≡ file_byte g (pieces g d) i (64 * (page * (g.block_size / 64)) + q)
page_same g d i page zone q bytes geometry holds low size is there =
    let place = in_page page 0 g.block_size geometry.block_size in
    ap (λ (f : ℕ → ℕ). f q) (sym there) ∙ byte_there g d i page zone q geometry is holds low size ∙ ap (λ (p : ℕ). file_byte g (pieces g d) i (p + q)) (sym place.entries)

-- and in a page without a data zone they are zeros
pub page_zeros : (g : Geometry) (d : Disk) (i : Inode) (page zone q : ℕ) → IsGeometry g → is_data_zone g zone ≡ false → q < g.block_size
    → zone ≡ page_zone g (pieces g d) i page → file_byte g (pieces g d) i (64 * (page * (g.block_size / 64)) + q) ≡ 0
page_zeros g d i page zone q geometry holds low is =
    let place = in_page page 0 g.block_size geometry.block_size in
    ap (λ (p : ℕ). file_byte g (pieces g d) i (p + q)) place.entries ∙ byte_nowhere g d i page zone q geometry is holds low

-- a page's entries are as many as its bytes
pub entries_whole : (b : ℕ) → IsTrue (is_block_size b) → 64 * (b / 64) ≡ b
entries_whole b size = (in_page 0 0 b size).whole

-- its first entry begins it
pub entries_begin : (page b : ℕ) → IsTrue (is_block_size b) → 64 * (page * (b / 64)) ≡ page * b
entries_begin page b size = (in_page page 0 b size).entries

-- and no page has many
pub entries_few : (b : ℕ) → IsTrue (is_block_size b) → b / 64 ≤ 64
entries_few b size = each_size (λ n. n / 64 ≤ 64) b size (omega arith) (omega arith) (omega arith)
