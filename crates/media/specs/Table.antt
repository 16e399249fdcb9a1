-- The ranges that a partition table gives, by minor.
use Rattle.std.specs.Prelude.{ℕ, ◌≡◌, ◌≢◌, ◌+◌, ◌≤◌, ◌<◌, ◌^◌, List, ◌∷◌, length, map, Option, Some, None, option_map, IfSome}
use Rattle.std.proofs.Common.{get_or}
use Rattle.media.specs.declared.partition.PartitionEntry.{PartitionEntry}

-- a table: the sectors of the media, and the four entries, None where one is empty
pub record TableState : Type 0 where
  pub sectors : ℕ
  pub entries : List (Option PartitionEntry)

-- where an entry lies: its first sector and how many there are
abbrev pub range_of_entry : Option PartitionEntry → Option (ℕ × ℕ)
range_of_entry None = None
range_of_entry (Some e) = Some (e.first, e.count)

-- the ranges by minor: 0 is the whole media, 1 to 4 are the entries
abbrev pub ranges_of : TableState → List (Option (ℕ × ℕ))
ranges_of t = Some (0, t.sectors) ∷ map range_of_entry t.entries

-- the range of a minor, where it has one
abbrev pub range_at : TableState → ℕ → Option (ℕ × ℕ)
range_at t minor = get_or (ranges_of t) minor None

-- the type of a minor's entry; the whole media has none
abbrev pub kind_at : TableState → ℕ → Option ℕ
kind_at t minor = option_map (λ (e : PartitionEntry). e.kind) (get_or (None ∷ t.entries) minor None)

-- sector s is one of the range
abbrev pub HoldsSector : Option (ℕ × ℕ) → ℕ → Type 0
HoldsSector None s = ⊥
HoldsSector (Some r) s = (r.0 ≤ s) × (s < r.0 + r.1)

-- what holds of every table: sectors are counted in 32 bits, the ranges of its four entries lie in the media, without sector 0, and no two share a sector
pub record IsTable (t : TableState) : Type 0 where
  pub fits : t.sectors < 2 ^ 32
  pub four : length t.entries ≡ 4
  pub inside : (minor : ℕ) → IfSome (range_at t minor) (λ r. r.0 + r.1 ≤ t.sectors)
  pub off_sector_0 : (minor : ℕ) → 0 < minor → IfSome (range_at t minor) (λ r. 0 < r.0)
  pub apart : (m n s : ℕ) → 0 < m → 0 < n → m ≢ n → HoldsSector (range_at t m) s → HoldsSector (range_at t n) s → ⊥
