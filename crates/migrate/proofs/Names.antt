-- The names of two directories, entry by entry.
use Rattle.std.proofs.Common.{◌≡◌, ◌<◌, ◌+◌, ◌*◌, ℕ, zero, suc, List, [], ◌∷◌, slice_index, true, false, refl, sym, ap, ◌∙◌, cond, arith}
use Rattle.std.specs.Prelude.{◌==◌}
use Rattle.std.proofs.lemmas.Bool.{cond-true, cond-false}
use Rattle.tree.specs.Names.{with_name}
use Rattle.volume.specs.Reading.{u32_in}
use Rattle.volume.specs.Nodes as nodes_3
use Rattle.volume.specs.Nodes.{text_in, file_byte}
use Rattle.image.proofs.Places.{four}
use Rattle.fsck.specs.Form.{version_2}
use Rattle.fsck.specs.Nodes as nodes_2
use Rattle.fsck.specs.Nodes.{is_dropped}
use Rattle.fsck.specs.Widened.{IsWidened}
use Rattle.fsck.proofs.EntryBytes.{text_cut}

-- two rows of the same bytes hold the same text
pub text_same : (f h : ℕ → ℕ) (k p q : ℕ) → ((a : ℕ) → a < k → f (p + a) ≡ h (q + a)) → text_in f k p ≡ text_in h k q
text_same f h zero p q same = refl
text_same f h (suc k) p q same =
    let p0 : p + 0 ≡ p = omega arith in
    let q0 : q + 0 ≡ q = omega arith in
    let here : f p ≡ h q = sym (ap f p0) ∙ same 0 (omega arith) ∙ ap h q0 in
    let rest = text_same f h k (suc p) (suc q) (λ a l. let pa : suc p + a ≡ p + suc a = omega arith in
    let qa : q + suc a ≡ suc q + a = omega arith in
    ap f pa ∙ same (suc a) (omega arith) ∙ ap h qa) in
    λ i. cond (here i == 0) [] (here i ∷ rest i)

-- no names so far
pub none_yet : (f h : ℕ → ℕ) → nodes_2.names_in version_2 f 0 ≡ nodes_3.names_in h 0
unfolding nodes_2.names_in nodes_3.names_in
none_yet f h = refl

-- a free entry adds none
pub one_free : (f : ℕ → ℕ) (k : ℕ) → is_dropped version_2 f (k + 2) ≡ true
    → nodes_2.names_in version_2 f (suc k) ≡ nodes_2.names_in version_2 f k
unfolding nodes_2.names_in
one_free f k is = cond-true (is_dropped version_2 f (k + 2)) (nodes_2.names_in version_2 f k) _ is

-- the same entry on both sides adds the same name
pub one_more : (f h : ℕ → ℕ) (k j : ℕ) → is_dropped version_2 f (k + 2) ≡ false
    → nodes_2.entry_name version_2 f (k + 2) ≡ nodes_3.entry_name h (j + 2)
    → nodes_2.entry_inode version_2 f (k + 2) ≡ nodes_3.entry_inode h (j + 2)
    → nodes_2.names_in version_2 f k ≡ nodes_3.names_in h j → nodes_2.names_in version_2 f (suc k) ≡ nodes_3.names_in h (suc j)
unfolding nodes_2.names_in nodes_3.names_in
one_more f h k j used name inode before =
    cond-false (is_dropped version_2 f (k + 2)) (nodes_2.names_in version_2 f k) _ used
    ∙ (λ i. with_name (before i) (name i) (inode i))

module _ (f h : ℕ → ℕ) (e d : ℕ) (bytes new : List ℕ) (wide : IsWidened version_2 f e bytes)
    (read : (a : ℕ) → a < 64 → slice_index new a ≡ h (64 * d + a)) (same : bytes ≡ new) where
  -- the inode number
  pub number_same : nodes_2.entry_inode version_2 f e ≡ nodes_3.entry_inode h d
  number_same =
      sym wide.number ∙ ap (λ l. u32_in (slice_index l) 0) same
      ∙ four (slice_index new) h 0 (64 * d) 64 (λ k l. let z : 0 + k ≡ k = omega arith in ap (slice_index new) z ∙ read k l) 0 (64 * d) 0
      (omega arith) (omega arith) (omega arith)

  -- the name
  pub name_same : nodes_2.entry_name version_2 f e ≡ nodes_3.entry_name h d
  name_same =
      text_same f (slice_index bytes) 14 (16 * e + 2) 4 (λ a l. sym (wide.name a l))
      ∙ sym (text_cut (slice_index bytes) 14 60 4 (omega arith) (λ a far l. wide.rest a far l))
      ∙ ap (λ l. text_in (slice_index l) 60 4) same
      ∙ text_same (slice_index new) h 60 4 (64 * d + 4) (λ a l. let at : 64 * d + (4 + a) ≡ 64 * d + 4 + a = omega arith in
      read (4 + a) (omega arith) ∙ ap h at)
