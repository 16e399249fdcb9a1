-- Bytes that are zero, and bytes that are put where all is.
use Rattle.std.proofs.Common.{◌≡◌, ◌≤◌, ◌+◌, ◌-◌, ◌++◌, ◌∙◌, ℕ, List, length, take, drop, replicate, sym, ap, subst, arith, append_assoc, length-drop, length-take-le}
use Rattle.std.proofs.Math.Seq.{take-add, take-append_seam, drop-append-add}
use Rattle.std.proofs.lemmas.List.{take-append-drop, take-replicate, drop-replicate, take_rest}
use Rattle.std.specs.Prelude.{Option, Some}
use Rattle.host.specs.Sparse.{Puts, put_at}

-- so many zeros, and so many more
pub zeros_more : (n m : ℕ) → replicate {A = ℕ} (n + m) 0 ≡ replicate {A = ℕ} n 0 ++ replicate {A = ℕ} m 0
zeros_more n m =
    sym (take-append-drop n (replicate {A = ℕ} (n + m) 0))
    ∙ (λ i. take-replicate {X = ℕ} n (n + m) 0 (omega arith) i ++ drop-replicate {X = ℕ} n (n + m) 0 i)
    ∙ ap (λ k. replicate {A = ℕ} n 0 ++ replicate {A = ℕ} k 0) (omega arith)

-- zeros, and zeros behind them
pub zeros_next : (bytes : List ℕ) (at count k : ℕ) → k ≡ count → at + count ≤ length bytes → take at bytes ≡ replicate at 0
    → take k (drop at bytes) ≡ replicate (length (take k (drop at bytes))) 0 → take (at + count) bytes ≡ replicate (at + count) 0
zeros_next bytes at count k same within front next =
    let cut : take k (drop at bytes) ≡ take count (drop at bytes) = ap (λ j. take j (drop at bytes)) same in
    let long : length (take count (drop at bytes)) ≡ count = length-take-le count (drop at bytes) (omega (arith, length-drop at bytes)) in
    take-add at count bytes
    ∙ ap (λ l. l ++ take count (drop at bytes)) front
    ∙ ap (λ l. replicate at 0 ++ l) (sym cut ∙ next ∙ ap (λ l. replicate (length l) 0) cut ∙ ap (λ j. replicate j 0) long)
    ∙ sym (zeros_more at count)

-- what was put so far: the front of the bytes, and zeros up to a length
abbrev pub so_far : List ℕ → ℕ → ℕ → List ℕ
so_far bytes n at = take at bytes ++ replicate (n - at) 0

-- zeros needn't be put
pub passed : (bytes : List ℕ) (n at count : ℕ) → at + count ≤ length bytes → length bytes ≤ n → take count (drop at bytes) ≡ replicate count 0
    → so_far bytes n at ≡ so_far bytes n (at + count)
passed bytes n at count within fits zeros =
    let split : n - at ≡ count + (n - (at + count)) = omega arith in
    ap (λ k. take at bytes ++ replicate k 0) split
    ∙ ap (λ l. take at bytes ++ l) (zeros_more count (n - (at + count)))
    ∙ ap (λ l. take at bytes ++ (l ++ replicate (n - (at + count)) 0)) (sym zeros)
    ∙ sym (append_assoc (take at bytes) (take count (drop at bytes)) (replicate (n - (at + count)) 0))
    ∙ ap (λ l. l ++ replicate (n - (at + count)) 0) (sym (take-add at count bytes))

-- the next bytes are put
pub put_next : (bytes : List ℕ) (n at count : ℕ) → at + count ≤ length bytes → length bytes ≤ n → length (take count (drop at bytes)) ≡ count
    → put_at (so_far bytes n at) at (take count (drop at bytes)) ≡ so_far bytes n (at + count)
put_next bytes n at count within fits long =
    let front : length (take at bytes) ≡ at = length-take-le at bytes (omega arith) in
    let zeros : List ℕ = replicate {A = ℕ} (n - at) 0 in
    let kept : take at (take at bytes ++ zeros) ≡ take at bytes = ap (λ k. take k (take at bytes ++ zeros)) (sym front) ∙ take-append_seam (take at bytes) zeros in
    let behind : drop (at + length (take count (drop at bytes))) (take at bytes ++ zeros) ≡ replicate (n - (at + count)) 0 =
    ap (λ k. drop (at + k) (take at bytes ++ zeros)) long
    ∙ ap (λ k. drop (k + count) (take at bytes ++ zeros)) (sym front)
    ∙ drop-append-add (take at bytes) zeros count
    ∙ drop-replicate count (n - at) 0
    ∙ ap (λ k. replicate k 0) (omega arith) in
    (λ i. kept i ++ take count (drop at bytes) ++ behind i)
    ∙ ap (λ l. l ++ replicate (n - (at + count)) 0) (sym (take-add at count bytes))

-- zeros alone are what was put before anything was, and behind zeros at the front
pub started : (bytes : List ℕ) (n count : ℕ) → count ≤ length bytes → length bytes ≤ n → take count bytes ≡ replicate count 0
    → replicate n 0 ≡ so_far bytes n count
started bytes n count within fits zeros =
    let split : n ≡ count + (n - count) = omega arith in
    ap (λ k. replicate {A = ℕ} k 0) split ∙ zeros_more count (n - count) ∙ ap (λ l. l ++ replicate {A = ℕ} (n - count) 0) (sym zeros)

-- the next run, and the zeros behind it, stand in the bytes
pub end_within : (bytes : List ℕ) (at run z : ℕ) → at ≤ length bytes → run ≤ length (take (length bytes - at) (drop at bytes))
    → z ≤ length (take (length bytes - (at + run)) (drop (at + run) bytes)) → at + run + z ≤ length bytes
end_within bytes at run z from few less =
    let run_fits : run ≤ length (drop at bytes) = subst (λ l. run ≤ length l) (take_rest bytes at) few in
    let z_fits : z ≤ length (drop (at + run) bytes) = subst (λ l. z ≤ length l) (take_rest bytes (at + run)) less in
    omega (arith, length-drop at bytes, length-drop (at + run) bytes)

-- the next run is put, and zeros behind it are passed
pub moved : (bytes : List ℕ) (n at run z k : ℕ) (old new : Option (List ℕ)) → k ≡ run → at ≤ length bytes
    → run ≤ length (take (length bytes - at) (drop at bytes)) → z ≤ length (take (length bytes - (at + run)) (drop (at + run) bytes))
    → take z (take (length bytes - (at + run)) (drop (at + run) bytes)) ≡ replicate z 0
    → Puts old new at (take k (drop at bytes)) → old ≡ Some (so_far bytes n at) → length bytes ≤ n
    → new ≡ Some (so_far bytes n (at + run + z))
moved bytes n at run z k old new same from few less zeros puts is fits =
    let run_fits : run ≤ length (drop at bytes) = subst (λ l. run ≤ length l) (take_rest bytes at) few in
    let within : at + run + z ≤ length bytes = end_within bytes at run z from few less in
    let long : length (take run (drop at bytes)) ≡ run = length-take-le run (drop at bytes) run_fits in
    let behind : take z (drop (at + run) bytes) ≡ replicate z 0 = subst (λ l. take z l ≡ replicate z 0) (take_rest bytes (at + run)) zeros in
    let put : Puts (Some (so_far bytes n at)) new at (take k (drop at bytes)) = subst (λ o. Puts o new at (take k (drop at bytes))) is puts in
    put
    ∙ ap (λ j. Some (put_at (so_far bytes n at) at (take j (drop at bytes)))) same
    ∙ ap (λ l. Some l) (put_next bytes n at run (omega arith) fits long ∙ passed bytes n (at + run) z within fits behind)
