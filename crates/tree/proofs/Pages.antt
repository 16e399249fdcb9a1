-- Held pages are among those that an inode has room for.
use Rattle.std.proofs.Common.{◌≡◌, ◌<◌, ◌≤◌, ◌+◌, ◌-◌, ◌*◌, ◌/◌, ℕ, sym, subst, arith}
use mathlib.Core.Logic.{inl, inr}
use Rattle.std.proofs.lemmas.Bool.{ltb-true}
use Rattle.std.proofs.Math.Nat.{div-mul-le_self, mul-le-mul_right}
use Rattle.layout.proofs.Parsed.{block_sizes, is_sized}
use Rattle.tree.specs.Tree.{is_file, is_directory, size_of}
use Rattle.tree.specs.Space.{pages_of}
use Rattle.tree.specs.ZonesNeeded.{page_limit}
use Rattle.tree.specs.Laws.{PagesFit, HeldPagesFit}

-- a page that begins below a size is one of those of its inode
pub pages_fit : PagesFit
pages_fit width q size accepted small below = elim (block_sizes width accepted) [
  | inl e ↦ subst (λ w. q * w < size → q < page_limit (w / 4)) (sym e) (λ l. omega arith) below
  | inr (inl e) ↦ subst (λ w. q * w < size → q < page_limit (w / 4)) (sym e) (λ l. omega arith) below
  | inr (inr e) ↦ subst (λ w. q * w < size → q < page_limit (w / 4)) (sym e) (λ l. omega arith) below
]

-- a page below those that so many bytes cover begins below their end
begins_below : (width size q : ℕ) → 0 < width → q < (size + width - 1) / width → q * width < size
begins_below width size q sized below =
    let pages : ℕ = (size + width - 1) / width in
    let covered : pages * width ≤ size + width - 1 = div-mul-le_self (size + width - 1) width in
    let more : (q + 1) * width ≤ pages * width = mul-le-mul_right {m = q + 1} {n = pages} width (omega arith) in
    let next : (q + 1) * width ≡ q * width + width = omega arith in
    omega arith

-- and so is each page that is held
pub held_pages_fit : HeldPagesFit
held_pages_fit g (is_file f) q accepted fits held = pages_fit g.block_size q f.size accepted fits.size (fits.held q held)
held_pages_fit g (is_directory d) q accepted fits held =
    let size : ℕ = size_of (is_directory d) in
    pages_fit g.block_size q size accepted fits.size
    (begins_below g.block_size size q (is_sized g.block_size accepted) (ltb-true q (pages_of g size) held))
