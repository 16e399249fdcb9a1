-- Zones that are taken as copies.
use Rattle.std.proofs.Common.{◌≡◌, ◌≢◌, ◌<◌, ◌≤◌, ◌+◌, ◌-◌, ◌*◌, ◌/◌, ◌%◌, ℕ, zero, suc, List, length, set, slice_index, true, false}
use Rattle.std.proofs.Common.{refl, sym, ap, subst, ◌∙◌, arith}
use mathlib.Core.Logic.{inl, inr}
use Rattle.std.specs.Prelude.{Result, Ok, Err, IfOk}
use Rattle.std.proofs.lemmas.Bool.{cases_eq}
use Rattle.std.proofs.lemmas.List.{length-set, get_or-set_same, get_or-set_other}
use Rattle.layout.specs.Bytes.{u32_at}
use Rattle.lemmas.specs.Sums.{sum_below, one_if}
use Rattle.lemmas.proofs.Bools.{false_not_true}
use Rattle.volume.specs.declared.Inode.{Inode}
use Rattle.volume.specs.Reading.{u32_in}
use Rattle.image.specs.Entered.{level_of}
use Rattle.migrate.specs.Written.{SameAttributes}
use Rattle.migrate.specs.Pages.{Pages, zones_under}
use Rattle.migrate.specs.Written.{IsCopy, IsMoved}
use Rattle.migrate.specs.Zones.{Takes, IsAppended, IsTaken, zone_bytes}
use Rattle.migrate.proofs.Laid.{sum_next, sum_front}
use Rattle.migrate.proofs.Under.{HolesStay, none_under}
use Rattle.migrate.proofs.Copies.{hole_copy}
use Rattle.migrate.proofs.Framed.{SameZones, copy_kept}
use Rattle.migrate.proofs.Taken.{takes_none, takes_no_sum, takes_both, takes_next}

-- Copies of the first j of so many numbers, each with its level and its key, one behind the other.
pub record CopiesTo (s : Pages) (levels keys : ℕ → ℕ) (most j limit limit' : ℕ) (numbers xs ys : List ℕ) : Type 0 where
  pub many : length numbers ≡ most
  pub takes : Takes (sum_below (λ i. zones_under s (levels i) (keys i)) j) limit limit' xs ys
  pub copies : (i : ℕ) → i < j → IsCopy s (zone_bytes ys) (levels i)
      (length xs / 1024 + sum_below (λ i. zones_under s (levels i) (keys i)) i) (keys i) (slice_index numbers i)

-- of the 256 of a block
abbrev pub BlockTo : Pages → ℕ → ℕ → ℕ → ℕ → ℕ → List ℕ → List ℕ → List ℕ → Type 0
BlockTo s l k j limit limit' numbers xs ys = CopiesTo s (λ _. l) (s.below l k) 256 j limit limit' numbers xs ys

-- none so far
pub copies_none : (s : Pages) (levels keys : ℕ → ℕ) (most limit : ℕ) (numbers xs : List ℕ) → length numbers ≡ most
    → CopiesTo s levels keys most 0 limit limit numbers xs xs
copies_none s levels keys most limit numbers xs many = record {
  many = many;
  takes = takes_no_sum (λ i. zones_under s (levels i) (keys i)) limit xs;
  copies = λ i h. absurd (omega arith);
}

-- what holds of a number that is given holds of it in other words
pub if_ok : {X E : Type 0} (r : Result X E) (P Q : X → Type 0) → ((x : X) → P x → Q x) → IfOk r P → IfOk r Q
if_ok (Ok x) P Q f p = f x p
if_ok (Err e) P Q f p = tt

-- what was there stays where zones are taken behind it
pub kept_zones : (xs ys : List ℕ) (e c : ℕ) → 1024 * (e + c) ≤ length xs → ((p : ℕ) → p < length xs → slice_index ys p ≡ slice_index xs p)
    → SameZones (zone_bytes xs) (zone_bytes ys) e c
kept_zones xs ys e c inside kept t o from to h = sym (kept (1024 * t + o) (omega arith))

-- a hole takes none
pub taken_hole : (s : Pages) → HolesStay s → (l k limit : ℕ) (xs : List ℕ) → s.some k ≡ false → IsTaken s l k 0 limit limit xs xs
taken_hole s stay l k limit xs out = record {
  takes = takes_none _ _ _ (none_under s stay l k out);
  copy = hole_copy s (zone_bytes xs) l (length xs / 1024) k 0 out refl;
}

-- a page takes one
pub taken_page : (s : Pages) (l k z limit limit' : ℕ) (block xs ys : List ℕ) → l ≡ 0 → s.some k ≡ true → length xs % 1024 ≡ 0
    → IsAppended block z limit limit' xs ys → ((o : ℕ) → o < 1024 → slice_index block o ≡ s.byte k o) → IsTaken s l k z limit limit' xs ys
taken_page s (suc l) k z limit limit' block xs ys low is whole a read = absurd (omega arith)
taken_page s zero k z limit limit' block xs ys low is whole a read = record {
  takes = subst (λ n. Takes n limit limit' xs ys) (sym (ap one_if is)) a.takes;
  copy = (
    λ out. absurd (false_not_true (sym out ∙ is)),
    λ _. (
      a.at,
      λ o h.
          let at : 1024 * (length xs / 1024) + o ≡ length xs + o = omega arith in
          ap (slice_index ys) at ∙ a.bytes o h ∙ read o h,
    ),
  );
}

-- one copy more
pub copies_next : (s : Pages) (levels keys : ℕ → ℕ) (most j z limit limit' limit'' : ℕ) (numbers xs ys zs : List ℕ) → length xs % 1024 ≡ 0
    → j < most → CopiesTo s levels keys most j limit limit' numbers xs ys → IsTaken s (levels j) (keys j) z limit' limit'' ys zs
    → CopiesTo s levels keys most (j + 1) limit limit'' (set numbers j z) xs zs
copies_next s levels keys most j z limit limit' limit'' numbers xs ys zs whole few c t =
    let f : ℕ → ℕ = λ i. zones_under s (levels i) (keys i) in
    let longer = c.takes.longer in
    let many = c.many in
    record {
      many = length-set numbers j z ∙ c.many;
      takes = takes_next f j (f j) limit limit' limit'' xs ys zs c.takes t.takes refl;
      copies = λ i h. elim (cases_eq i j) [
        | inl e ↦
            let here : length ys / 1024 ≡ length xs / 1024 + sum_below f i
            = (let d : length ys / 1024 ≡ length xs / 1024 + sum_below f j = omega arith in d)
            ∙ ap (λ i. length xs / 1024 + sum_below f i) (sym e) in
            let number : slice_index (set numbers j z) i ≡ z = ap (slice_index (set numbers j z)) e
            ∙ get_or-set_same numbers j z 0 (omega arith) in
            subst (IsCopy s (zone_bytes zs) (levels i) (length xs / 1024 + sum_below f i) (keys i)) (sym number)
            (subst (λ e. IsCopy s (zone_bytes zs) (levels i) e (keys i) z) here
            (subst (λ j. IsCopy s (zone_bytes zs) (levels j) (length ys / 1024) (keys j) z) (sym e) t.copy))
        | inr d ↦
            let more = sum_next f i in
            let part = sum_front f (i + 1) j (omega arith) in
            let number : slice_index (set numbers j z) i ≡ slice_index numbers i = get_or-set_other numbers j i z 0 d in
            subst (IsCopy s (zone_bytes zs) (levels i) (length xs / 1024 + sum_below f i) (keys i)) (sym number)
            (copy_kept s (zone_bytes ys) (zone_bytes zs) (levels i) (length xs / 1024 + sum_below f i) (keys i) (slice_index numbers i)
            (kept_zones ys zs (length xs / 1024 + sum_below f i) (f i) (omega arith) t.takes.kept) (c.copies i (omega arith)))
      ];
    }

-- and the block that holds them all
pub taken_block : (s : Pages) (l k z limit limit' limit'' : ℕ) (numbers block xs ys zs : List ℕ) → l ≢ 0 → s.some k ≡ true
    → length xs % 1024 ≡ 0 → BlockTo s (l - 1) k 256 limit limit' numbers xs ys → IsAppended block z limit' limit'' ys zs
    → ((j : ℕ) → j < 256 → u32_at block (4 * j) ≡ slice_index numbers j) → IsTaken s l k z limit limit'' xs zs
taken_block s zero k z limit limit' limit'' numbers block xs ys zs high is whole c a read = absurd (high refl)
taken_block s (suc l) k z limit limit' limit'' numbers block xs ys zs high is whole c' a read =
    let same : suc l - 1 ≡ l = omega arith in
    let c = subst (λ m. BlockTo s m k 256 limit limit' numbers xs ys) same c' in
    let f : ℕ → ℕ = λ i. zones_under s l (s.below l k i) in
    let longer = c.takes.longer in
    let one : one_if (s.some k) ≡ 1 = ap one_if is in
    record {
      takes = takes_both (sum_below f 256) 1 (zones_under s (suc l) k) limit limit' limit'' xs ys zs c.takes a.takes (omega arith);
      copy = (
        λ out. absurd (false_not_true (sym out ∙ is)),
        λ _.
            let at : z ≡ length xs / 1024 + sum_below f 256 = let d = a.at in omega arith in (
              at,
              λ j h.
                  let more = sum_next f j in
                  let part = sum_front f (j + 1) 256 (omega arith) in
                  let byte : (o : ℕ) → o < 1024 → zone_bytes zs z o ≡ slice_index block o = λ o low.
                  let d = a.at in
                  let p : 1024 * z + o ≡ length ys + o = omega arith in
                  ap (slice_index zs) p ∙ a.bytes o low in
                  let number : u32_in (zone_bytes zs z) (4 * j) ≡ slice_index numbers j
                  = (λ i. byte (4 * j) (omega arith) i + 256 * byte (4 * j + 1) (omega arith) i
                  + 65536 * (byte (4 * j + 2) (omega arith) i + 256 * byte (4 * j + 2 + 1) (omega arith) i)) ∙ read j h in
                  subst (IsCopy s (zone_bytes zs) l (length xs / 1024 + sum_below f j) (s.below l k j)) (sym number)
                  (copy_kept s (zone_bytes ys) (zone_bytes zs) l (length xs / 1024 + sum_below f j) (s.below l k j) (slice_index numbers j)
                  (kept_zones ys zs (length xs / 1024 + sum_below f j) (f j) (omega arith) a.takes.kept) (c.copies j h)),
            ),
      );
    }

-- Ten numbers that are copies make an inode that is moved.
pub ten_moved : (s : Pages) (keys : ℕ → ℕ) (bytes j limit limit' : ℕ) (xs ys : List ℕ) (x y : Inode) → j ≡ 10
    → CopiesTo s level_of keys 10 j limit limit' y.zones xs ys → SameAttributes x y → y.size ≡ bytes
    → IsMoved s keys bytes (zone_bytes ys) (length xs / 1024) x y
ten_moved s keys bytes j limit limit' xs ys x y all c same size = record {
  attributes = same;
  size = size;
  copied = λ r h. c.copies r (omega arith);
}
