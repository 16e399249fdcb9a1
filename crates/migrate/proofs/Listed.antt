-- A directory's entries, as they are listed one after the other.
use Rattle.std.proofs.Common.{◌≡◌, ◌≤◌, ◌+◌, ◌-◌, ◌*◌, ℕ, List, [], ◌++◌, length, take, drop, true, false, refl, sym, ap, subst, ◌∙◌}
use Rattle.std.proofs.Common.{arith, length-append}
use mathlib.Core.Logic.{inl, inr}
use Rattle.std.specs.Prelude.{not}
use Rattle.std.proofs.lemmas.Bool.{cases_eq}
use Rattle.std.proofs.lemmas.List.{take-append-le, drop-append-le, drop_at, take_all, length-drop}
use Rattle.layout.specs.declared.Geometry.{Geometry}
use Rattle.volume.specs.declared.Inode.{Inode}
use Rattle.volume.specs.Pieces.{Pieces}
use Rattle.volume.specs.Nodes.{file_byte}
use Rattle.lemmas.specs.Sums.{one_if}
use Rattle.lemmas.proofs.Bools.{false_not_true}
use Rattle.fsck.proofs.Counts.{no_sum}
use Rattle.fsck.specs.Form.{version_2}
use Rattle.fsck.specs.Nodes.{is_dropped, entry_count_of}
use Rattle.fsck.specs.Widened.{IsWidened}
use Rattle.migrate.specs.Written.{AreEntries, kept_of}
use Rattle.migrate.specs.Used.{name_count}
use Rattle.migrate.proofs.Laid.{sum_next, sum_front, two_first}

module _ (f : ℕ → ℕ) where
  -- none
  pub none_listed : (bytes : List ℕ) → bytes ≡ [] → AreEntries f 0 bytes
  none_listed bytes none = record {
    size = ap length none ∙ ap (λ k. 64 * k) (sym (no_sum (λ d. one_if (not (is_dropped version_2 f d)))));
    each = λ e h. absurd (omega arith);
  }

  module _ (n : ℕ) (bytes : List ℕ) (a : AreEntries f n bytes) where
    -- a free entry isn't
    pub free_listed : is_dropped version_2 f n ≡ true → AreEntries f (n + 1) bytes
    free_listed free =
        let more = sum_next (λ d. one_if (not (is_dropped version_2 f d))) n in
        let here : one_if (not (is_dropped version_2 f n)) ≡ 0 = ap (λ b. one_if (not b)) free in
        let size = a.size in
        record {
          size = omega arith;
          each = λ e h used. elim (cases_eq e n) [
            | inl o ↦ absurd (false_not_true (sym (ap (is_dropped version_2 f) (sym o) ∙ used) ∙ free))
            | inr d ↦ a.each e (omega arith) used
          ];
        }

    -- another is, behind those before it
    pub next_listed : (entry new : List ℕ) → is_dropped version_2 f n ≡ false → IsWidened version_2 f n entry → new ≡ bytes ++ entry
        → AreEntries f (n + 1) new
    next_listed entry new used wide is =
        let more = sum_next (λ d. one_if (not (is_dropped version_2 f d))) n in
        let here : one_if (not (is_dropped version_2 f n)) ≡ 1 = ap (λ b. one_if (not b)) used in
        let size = a.size in
        let long = wide.size in
        let whole = ap length is ∙ length-append bytes entry in
        let last : take 64 (drop (64 * kept_of f n) new) ≡ entry
        = ap (λ l. take 64 (drop (64 * kept_of f n) l)) is ∙ ap (take 64) (drop_at bytes entry (64 * kept_of f n) size)
        ∙ take_all 64 entry (omega arith) in
        record {
          size = omega arith;
          each = λ e h kept. elim (cases_eq e n) [
            | inl o ↦ subst (λ e. IsWidened version_2 f e (take 64 (drop (64 * kept_of f e) new))) (sym o)
                (subst (IsWidened version_2 f n) (sym last) wide)
            | inr d ↦
                let one : one_if (not (is_dropped version_2 f e)) ≡ 1 = ap (λ b. one_if (not b)) kept in
                let next = sum_next (λ d. one_if (not (is_dropped version_2 f d))) e in
                let most = sum_front (λ d. one_if (not (is_dropped version_2 f d))) (e + 1) n (omega arith) in
                let rest = length-drop (64 * kept_of f e) bytes in
                let same : take 64 (drop (64 * kept_of f e) new) ≡ take 64 (drop (64 * kept_of f e) bytes)
                = ap (λ l. take 64 (drop (64 * kept_of f e) l)) is
                ∙ ap (take 64) (drop-append-le (64 * kept_of f e) bytes entry (omega arith))
                ∙ take-append-le 64 (drop (64 * kept_of f e) bytes) entry (omega arith) in
                subst (IsWidened version_2 f e) (sym same) (a.each e (omega arith) kept)
          ];
        }

-- as many bytes as its names and two entries more have
pub entries_size : (g : Geometry) (v : Pieces) (x : Inode) (bytes : List ℕ) → 2 ≤ entry_count_of version_2 x
    → AreEntries (file_byte g v x) (entry_count_of version_2 x) bytes → length bytes ≡ 64 * (name_count g v x + 2)
entries_size g v x bytes two a =
    let f : ℕ → ℕ = file_byte g v x in
    let all : entry_count_of version_2 x ≡ (entry_count_of version_2 x - 2) + 2 = omega arith in
    a.size ∙ ap (λ n. 64 * kept_of f n) all
    ∙ ap (λ k. 64 * k) (two_first (λ e. not (is_dropped version_2 f e)) (entry_count_of version_2 x - 2) refl refl)
