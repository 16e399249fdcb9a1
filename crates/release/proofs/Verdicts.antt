-- What the check says of a volume, before nodes are given back and after.
use Rattle.std.proofs.Common.{◌≡◌, ◌+◌, ℕ, List, sym, ap, subst, ◌∙◌, arith}
use mathlib.Core.Logic.{inl, inr}
use Rattle.std.specs.Prelude.{Result, Ok, Err}
use Rattle.layout.specs.declared.Geometry.{Geometry}
use Rattle.layout.specs.declared.LayoutRefusal.{LayoutRefusal}
use Rattle.layout.specs.Places.{geometry_of}
use Rattle.volume.specs.declared.Finding.{Finding}
use Rattle.volume.specs.Reading.{disk_of}
use Rattle.volume.specs.Pieces.{pieces}
use Rattle.volume.specs.Nodes.{nodes_of}
use Rattle.volume.specs.Verdict as volume
use Rattle.image.specs.declared.Image.{Image}
use Rattle.image.specs.Contents.{contents}
use Rattle.fsck.specs.declared.verdict.Verdict.{Verdict}
use Rattle.fsck.specs.declared.verdict.Verdict.TheVariants.{Found}
use Rattle.fsck.specs.Shown.{TellsWhetherTree, shown}
use Rattle.release.specs.Nameless.{closed_of, unlinked_below}
use Rattle.release.specs.Released.{HoldsTree, IsFoundBy, KeepsLinked, unlinked_in}
use Rattle.release.proofs.Held.{held_is_found}
use Rattle.release.proofs.Remaining.{sizes_are}

-- the finding of that number
pub is_found : (f : Finding) → f.number ≡ 16 → IsFoundBy (volume.Found f)
is_found f is = (f.place, ap (λ (n : ℕ). volume.Found (record { number = n; place = f.place })) is)

-- one that isn't of that number
number_of : volume.Verdict → ℕ
number_of volume.Clean = 0
number_of (volume.Found f) = f.number

pub number_is : (f : Finding) → IsFoundBy (volume.Found f) → f.number ≡ 16
unfolding number_of
number_is f found = ap number_of found.1

-- a clean one has none
pub not_clean : IsFoundBy volume.Clean → ⊥
unfolding number_of
not_clean found = let e : 0 ≡ 16 = ap number_of found.1 in absurd (omega (arith, e))

-- how many nodes without a link an image has
pub counted_in : (i : Image) (volume : List ℕ) (count : ℕ) → i.bytes.now ≡ volume
    → count ≡ unlinked_below (nodes_of i.geometry (contents i)) (i.geometry.inodes + 1)
    → (g : Geometry) → geometry_of volume ≡ Ok g → count ≡ unlinked_in g volume
unfolding contents
counted_in i volume count same many g parsed =
    subst (λ (h : Geometry). count ≡ unlinked_below (nodes_of h (pieces h (disk_of h volume))) (h.inodes + 1)) (sizes_are i g volume same parsed)
    (subst (λ (bytes : List ℕ). count ≡ unlinked_below (nodes_of i.geometry (pieces i.geometry (disk_of i.geometry bytes))) (i.geometry.inodes + 1)) same many)

-- a volume that is refused holds no tree
pub refused_holds_none : (volume : List ℕ) (e : LayoutRefusal) → geometry_of volume ≡ Err e → HoldsTree volume → ⊥
refused_holds_none volume e refused holds = let no : ◌≡◌ {A = Result Geometry LayoutRefusal} (Err e) (Ok holds.0) = sym refused ∙ holds.2 in absurd (cc)

-- where a finding is left, the volume held no tree
pub found_holds_none : (old new : List ℕ) (f : Finding) → KeepsLinked old new → TellsWhetherTree new (Found f) → HoldsTree old → ⊥
found_holds_none old new f keeps tells holds = tells (closed_of holds.1) (keeps holds.0 holds.1 holds.2 holds.3).0

-- what isn't found by its links is clean, or holds no tree
pub other_is_clean : (old : List ℕ) (v : Verdict) → shown v ≡ volume.verdict_of old → (IsFoundBy (shown v) → ⊥) → HoldsTree old
    → volume.verdict_of old ≡ volume.Clean
other_is_clean old v is other holds = elim (held_is_found old holds) [
  | inl clean ↦ clean
  | inr found ↦ absurd (other (subst IsFoundBy (sym is) found))
]
