-- The bytes of an entry.
use Rattle.std.proofs.Common.{◌≡◌, ◌<◌, ◌≤◌, ◌+◌, ◌*◌, ◌^◌, ℕ, zero, suc, List, [], ◌∷◌, length, get_or, replicate, refl, sym, ap, ◌∙◌, arith, inl, inr}
use Rattle.std.specs.Prelude.{slice_index, nat_lt}
use Rattle.std.specs.Int.{w32, to_le_bytes}
use Rattle.std.proofs.lemmas.Bool.{cases_Bool, ltb-true, ltb-false}
use Rattle.volume.specs.Reading.{u32_in}
use Rattle.block_store.specs.Rows.{with_bytes}
use Rattle.block_store.proofs.Rows.{row_new, row_old, number_written}
use Rattle.tree.specs.Names.{dot, dot_dot}
use Rattle.directory.specs.Files.{IsEntryBytes}
use Rattle.directory.specs.Places.{IsNameBytes}
use Rattle.directory.specs.First.{AreFirstEntries}

-- past its end a list has zeros
pub past : (xs : List ℕ) (a : ℕ) → length xs ≤ a → slice_index xs a ≡ 0
past [] a l = refl
past (x ∷ xs) zero l = absurd (omega (arith, l))
past (x ∷ xs) (suc a) l = past xs a (omega (arith, l))

-- a number and a name, put into zeros
pub is_entry : (number : ℕ) (name bytes : List ℕ) (f0 f1 : ℕ → ℕ) → number < 2 ^ 32 → length bytes ≡ 64 → ((o : ℕ) → f0 o ≡ 0)
    → ((o : ℕ) → f1 o ≡ with_bytes 0 (to_le_bytes w32 number) f0 o) → ((o : ℕ) → slice_index bytes o ≡ with_bytes 4 name f1 o) → IsEntryBytes bytes number name
is_entry number name bytes f0 f1 low many zeros first second = record {
  many = many;
  number = (λ i. (at 0 (omega arith) i + 256 * at 1 (omega arith) i) + 65536 * (at 2 (omega arith) i + 256 * at 3 (omega arith) i)) ∙ number_written 0 number f0 low;
  name_bytes = λ a few. elim (cases_Bool (nat_lt a (length name))) [
    | inl is ↦ second (4 + a) ∙ row_new 4 name f1 a (ltb-true a (length name) is)
    | inr not ↦
        let l = ltb-false a (length name) not in
        second (4 + a) ∙ row_old 4 name f1 (4 + a) (inr (omega (arith, l)))
        ∙ first (4 + a) ∙ row_old 0 (to_le_bytes w32 number) f0 (4 + a) (inr (omega arith)) ∙ zeros (4 + a) ∙ sym (past name a l)
  ];
}
  where
    at : (o : ℕ) → o < 4 → slice_index bytes o ≡ with_bytes 0 (to_le_bytes w32 number) f0 o
    at o l = second o ∙ row_old 4 name f1 o (inl l) ∙ first o

-- the number that four bytes say
pub number_in_bytes : (n : ℕ) → n < 2 ^ 32 → u32_in (slice_index (to_le_bytes w32 n)) 0 ≡ n
number_in_bytes n low = (λ i. (at 0 (omega arith) i + 256 * at 1 (omega arith) i) + 65536 * (at 2 (omega arith) i + 256 * at 3 (omega arith) i)) ∙ number_written 0 n (λ o. 0) low
  where
    at : (k : ℕ) → k < 4 → slice_index (to_le_bytes w32 n) k ≡ with_bytes 0 (to_le_bytes w32 n) (λ o. 0) k
    at k l =
        let same : 0 + k ≡ k = omega arith in
        sym (ap (with_bytes 0 (to_le_bytes w32 n) (λ o. 0)) (sym same) ∙ row_new 0 (to_le_bytes w32 n) (λ o. 0) k l)

-- a name, put into zeros
pub is_name_field : (name bytes : List ℕ) (f : ℕ → ℕ) → length bytes ≡ 60 → ((o : ℕ) → f o ≡ 0) → ((o : ℕ) → slice_index bytes o ≡ with_bytes 0 name f o) → IsNameBytes bytes name
is_name_field name bytes f many zeros written = record {
  many = many;
  same = λ a few. elim (cases_Bool (nat_lt a (length name))) [
    | inl is ↦ written a ∙ ap (with_bytes 0 name f) (omega arith) ∙ row_new 0 name f a (ltb-true a (length name) is)
    | inr not ↦
        let l = ltb-false a (length name) not in
        written a ∙ row_old 0 name f a (inr (omega (arith, l))) ∙ zeros a ∙ sym (past name a l)
  ];
}

-- two entries, one behind the other
pub first_two : (n parent : ℕ) (bytes a b : List ℕ) (f0 f1 : ℕ → ℕ) → length bytes ≡ 128 → IsEntryBytes a n dot → IsEntryBytes b parent dot_dot
    → ((o : ℕ) → f1 o ≡ with_bytes 0 a f0 o) → ((o : ℕ) → slice_index bytes o ≡ with_bytes 64 b f1 o) → AreFirstEntries bytes n parent
first_two n parent bytes a b f0 f1 many is_a is_b first second = record {
  many = many;
  dot_entry = record {
    target = (λ i. (front 0 (omega arith) i + 256 * front 1 (omega arith) i) + 65536 * (front 2 (omega arith) i + 256 * front 3 (omega arith) i)) ∙ is_a.number;
    bytes = λ k few. front (4 + k) (omega (arith, few)) ∙ is_a.name_bytes k few;
  };
  dot_dot_entry = record {
    target = (λ i. (back 0 (omega arith) i + 256 * back 1 (omega arith) i) + 65536 * (back 2 (omega arith) i + 256 * back 3 (omega arith) i)) ∙ is_b.number;
    bytes = λ k few. let z : 68 + k ≡ 64 + (4 + k) = omega arith in ap (slice_index bytes) z ∙ back (4 + k) (omega (arith, few)) ∙ is_b.name_bytes k few;
  };
}
  where
    many_a : length a ≡ 64
    many_a = is_a.many

    many_b : length b ≡ 64
    many_b = is_b.many

    front : (o : ℕ) → o < 64 → slice_index bytes o ≡ slice_index a o
    front o l =
        let z : 0 + o ≡ o = omega arith in
        second o ∙ row_old 64 b f1 o (inl l) ∙ first o ∙ ap (with_bytes 0 a f0) (sym z) ∙ row_new 0 a f0 o (omega (arith, l, many_a))

    back : (o : ℕ) → o < 64 → slice_index bytes (64 + o) ≡ slice_index b o
    back o l = second (64 + o) ∙ row_new 64 b f1 o (omega (arith, l, many_b))
