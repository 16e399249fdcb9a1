use Rattle.std.proofs.Common.{◌≡◌, ℕ, ◌<◌, ◌≤◌, ◌+◌, ◌-◌, ◌*◌, List, length, take, drop, arith, sym, ◌∙◌, ap}
use Rattle.std.proofs.lemmas.Slice.{take-put_mid_below, drop-put_mid, between-put_mid}
use Rattle.std.proofs.lemmas.List.{drop-take}
use Rattle.std.specs.List.{between}
use borrow.Rule.Slice.PartMut.{put_mid}
use Rattle.bdev.specs.DriverState.{chunk}

pub chunk-put_same : (k n : ℕ) (xs ys : List ℕ) → n ≡ 512 → 512 * k ≤ length xs → length ys ≡ 512 → chunk k (put_mid (512 * k) n xs ys) ≡ ys
chunk-put_same k n xs ys e fits long =
    let same : between (512 * k) (512 * k + 512) (put_mid (512 * k) n xs ys) ≡ ys = between-put_mid (512 * k) n xs ys (512 * k + 512) fits (omega (arith, long)) in
    let few : 512 * k + 512 - 512 * k ≡ 512 = omega arith in
    rw few at same

pub chunk-put_below : (i k n : ℕ) (xs ys : List ℕ) → i < k → 512 * k ≤ length xs → chunk i (put_mid (512 * k) n xs ys) ≡ chunk i xs
chunk-put_below i k n xs ys less fits =
    let front : take (512 * i + 512) (put_mid (512 * k) n xs ys) ≡ take (512 * i + 512) xs = take-put_mid_below (512 * k) n xs ys (512 * i + 512) (omega arith) fits in
    sym (drop-take (512 * i) 512 (put_mid (512 * k) n xs ys)) ∙ ap (drop (512 * i)) front ∙ drop-take (512 * i) 512 xs

pub chunk-put_above : (i k n : ℕ) (xs ys : List ℕ) → k < i → n ≡ 512 → 512 * k ≤ length xs → length ys ≡ 512 → chunk i (put_mid (512 * k) n xs ys) ≡ chunk i xs
chunk-put_above i k n xs ys more e fits long =
    ap (take 512) (drop-put_mid (512 * k) n xs ys (512 * i) (omega arith) fits (omega arith))
