-- The entries of directories by the bytes that version 3 has for them.
use Rattle.std.proofs.Common.{◌≡◌, ◌≢◌, ◌<◌, ◌≤◌, ◌+◌, ◌*◌, ◌/◌, ◌-◌, take, drop, set, get_or, ℕ, zero, suc, List, [], ◌∷◌, length}
use Rattle.std.proofs.Common.{slice_index}
use Rattle.std.proofs.Common.{Bool, true, false, refl, sym, ap, ◌∙◌, cond, arith}
use mathlib.Core.Logic.{inl, inr}
use Rattle.std.specs.Prelude.{not, ◌&&◌, ◌||◌, ◌==◌, nat_lt, nat_le, replicate}
use Rattle.std.proofs.lemmas.List.{length-take, length-drop, length-take-le, get_or-take, get_or-drop, get_or-replicate, get_or_past}
use Rattle.std.proofs.lemmas.List.{length-replicate, length-set, get_or-set_same, get_or-set_other}
use Rattle.std.proofs.lemmas.Bool.{cases_eq, cases_lt, cond-true, and_parts, and_right, or_parts, ltb-false, eq-eqb}
use Rattle.lemmas.specs.Sums.{some_below}
use Rattle.tree.specs.Names.{Name, is_name, dot, dot_dot}
use Rattle.tree.specs.Tree.{most_size}
use Rattle.volume.specs.declared.Inode.{Inode}
use Rattle.volume.specs.Reading.{u32_in}
use Rattle.volume.specs.Nodes.{text_in, file_byte, is_marked}
use Rattle.volume.specs.Entries.{is_directory_inode}
use Rattle.volume.proofs.Sums.{same_some}
use Rattle.image.specs.declared.Image.{Image}
use Rattle.image.specs.Entry as entry
use Rattle.image.proofs.Places.{four}
use Rattle.image.proofs.Contents.{g, v}
use Rattle.image.proofs.Texts.{text_is}
use Rattle.fsck.specs.declared.version.Version.{Version}
use Rattle.fsck.specs.declared.version.Version.TheVariants.{V2, V3}
use Rattle.fsck.specs.Form.{EntryForm, form_of, version_2, version_3}
use Rattle.fsck.specs.Nodes.{entry_inode, entry_name, entry_count_of}
use Rattle.fsck.specs.Entries.{name_at, target_at, name_byte, is_field, is_padded, is_name_field}
use Rattle.fsck.specs.Findings.{has_bad_size, is_bad_directory_size, is_lost}
use Rattle.fsck.specs.Widened.{IsWidened}

-- what is false from a bound on is some number's below the bound
pub some_shorter : (p q : ℕ → Bool) (k n : ℕ) → k ≤ n → ((a : ℕ) → a < k → p a ≡ q a) → ((a : ℕ) → k ≤ a → a < n → p a ≡ false)
    → some_below p n ≡ some_below q k
unfolding some_below
some_shorter p q k zero most same none = let e : 0 ≡ k = omega arith in same_some p q 0 (λ a h. absurd (omega arith)) ∙ ap (some_below q) e
some_shorter p q k (suc n) most same none = elim (cases_lt n k) [
  | inl low ↦ let e : suc n ≡ k = omega arith in same_some p q (suc n) (λ a h. same a (omega arith)) ∙ ap (some_below q) e
  | inr high ↦
      let out = none n high (omega arith) in
      let nothing : (b : Bool) → b || false ≡ b = λ b. elim b as (λ b. b || false ≡ b) [ true ↦ refl | false ↦ refl ] in
      (λ i. some_shorter p q k n high same (λ a h l. none a h (omega arith)) i || out i) ∙ nothing (some_below q k)
]

-- two rows of the same bytes hold the same text
text_same : (f h : ℕ → ℕ) (k p q : ℕ) → ((a : ℕ) → a < k → f (p + a) ≡ h (q + a)) → text_in f k p ≡ text_in h k q
text_same f h zero p q same = refl
text_same f h (suc k) p q same =
    let p0 : p + 0 ≡ p = omega arith in
    let q0 : q + 0 ≡ q = omega arith in
    let here : f p ≡ h q = sym (ap f p0) ∙ same 0 (omega arith) ∙ ap h q0 in
    let rest = text_same f h k (suc p) (suc q) (λ a l. let pa : suc p + a ≡ p + suc a = omega arith in
    let qa : q + suc a ≡ suc q + a = omega arith in
    ap f pa ∙ same (suc a) (omega arith) ∙ ap h qa) in
    λ i. cond (here i == 0) [] (here i ∷ rest i)

-- a text ends before zero bytes
pub text_cut : (f : ℕ → ℕ) (k m p : ℕ) → k ≤ m → ((a : ℕ) → k ≤ a → a < m → f (p + a) ≡ 0) → text_in f m p ≡ text_in f k p
text_cut f zero zero p low last = refl
text_cut f zero (suc m) p low last = let at : p + 0 ≡ p = omega arith in
    cond-true (f p == 0) [] _ (eq-eqb (f p) 0 (ap f (sym at) ∙ last 0 (omega arith) (omega arith)))
text_cut f (suc k) zero p low last = absurd (omega arith)
text_cut f (suc k) (suc m) p low last =
    ap (λ rest. cond (f p == 0) [] (f p ∷ rest)) (text_cut f k m (suc p) (omega arith)
    (λ a far near. let at : suc p + a ≡ p + suc a = omega arith in ap f at ∙ last (suc a) (omega arith) (omega arith)))

-- a name has a byte at least, and its bytes are those of version 3 or the first of them
some_name : (t : Version) → 1 ≤ (form_of t).name_length
some_name V2 = omega arith
some_name V3 = omega arith

short_name : (t : Version) → (form_of t).name_length ≤ 60
short_name V2 = omega arith
short_name V3 = omega arith

-- the names . and .. have no byte past the bytes of a name
pub short_dot : (t : Version) (a : ℕ) → (form_of t).name_length ≤ a → slice_index dot a ≡ 0
short_dot V2 a far = get_or_past dot a 0 (omega arith)
short_dot V3 a far = get_or_past dot a 0 (omega arith)

pub short_dot_dot : (t : Version) (a : ℕ) → (form_of t).name_length ≤ a → slice_index dot_dot a ≡ 0
short_dot_dot V2 a far = get_or_past dot_dot a 0 (omega arith)
short_dot_dot V3 a far = get_or_past dot_dot a 0 (omega arith)

module _ (t : Version) (i : Image) (n e : ℕ) (x : Inode) (is : x ≡ (v i).inodes n) (bytes : List ℕ)
    (wide : IsWidened (form_of t) (file_byte (g i) (v i) x) e bytes) where
  abbrev form : EntryForm
  form = form_of t

  -- its number
  pub target_same : u32_in (slice_index bytes) 0 ≡ target_at form (g i) (v i) n e
  target_same = wide.number ∙ ap (λ x. entry_inode form (file_byte (g i) (v i) x) e) is

  -- a byte of its field
  byte_same : (a : ℕ) → a < form.name_length → slice_index bytes (4 + a) ≡ name_byte form (g i) (v i) n e a
  byte_same a h = wide.name a h ∙ ap (λ x. file_byte (g i) (v i) x (form.size * e + form.name_start + a)) is

  -- its field
  pub field_same : (name : Name) → ((a : ℕ) → form.name_length ≤ a → slice_index name a ≡ 0)
      → entry.is_field (slice_index bytes) name ≡ is_field form (g i) (v i) n e name
  field_same name short = ap not (some_shorter _ _ form.name_length 60 (short_name t)
      (λ a h. ap (λ b. not (b == slice_index name a)) (byte_same a h))
      (λ a far h. ap not (eq-eqb (slice_index bytes (4 + a)) (slice_index name a) (wide.rest a far h ∙ sym (short a far)))))

  -- its name
  pub name_same : entry.name_in (slice_index bytes) ≡ name_at form (g i) (v i) n e
  unfolding entry.name_in
  name_same =
      text_cut (slice_index bytes) form.name_length 60 4 (short_name t) (λ a far h. wide.rest a far h)
      ∙ text_same (slice_index bytes) (file_byte (g i) (v i) ((v i).inodes n)) form.name_length 4
      (form.size * e + form.name_start) byte_same

  -- what follows a zero byte
  padded_same : entry.is_padded (slice_index bytes) ≡ is_padded form (g i) (v i) n e
  padded_same =
      let some = some_name t in
      let most = short_name t in
      ap not (some_shorter _ _ (form.name_length - 1) 59 (omega arith)
      (λ a h. let one = byte_same a (omega arith) in let two = byte_same (a + 1) (omega arith) in λ j. (one j == 0) && not (two j == 0))
      (λ a far h. and_right (slice_index bytes (4 + a) == 0) _ (ap not
      (eq-eqb (slice_index bytes (4 + (a + 1))) 0 (wide.rest (a + 1) (omega arith) (omega arith))))))

  -- whether it is a name
  pub name_field_same : entry.has_name (slice_index bytes) ≡ is_name_field form (g i) (v i) n e
  name_field_same = λ j. padded_same j && is_name (name_same j)

  -- whether it leads nowhere
  pub lost_same : (not (form.may_be_free && (nat_le 2 e && (u32_in (slice_index bytes) 0 == 0)))
      && not (is_marked (g i) (v i) (u32_in (slice_index bytes) 0)))
      ≡ is_lost form (g i) (v i) n e
  lost_same = ap (λ u. not (form.may_be_free && (nat_le 2 e && (u == 0))) && not (is_marked (g i) (v i) u)) target_same

-- what isn't bad of a marked inode whose size isn't
size_parts : (form : EntryForm) (i : Image) (n : ℕ) → is_marked (g i) (v i) n ≡ true → has_bad_size form (g i) (v i) n ≡ false
    → (nat_lt most_size ((v i).inodes n).size ≡ false)
    × (is_directory_inode (g i) (v i) n && is_bad_directory_size form (g i) (v i) ((v i).inodes n).size ≡ false)
size_parts form i n marked good =
    let size = ((v i).inodes n).size in
    let inner : nat_lt most_size size || (is_directory_inode (g i) (v i) n && is_bad_directory_size form (g i) (v i) size) ≡ false
    = sym (ap (λ b. b && (nat_lt most_size size || (is_directory_inode (g i) (v i) n && is_bad_directory_size form (g i) (v i) size)))
    marked) ∙ good in
    or_parts (nat_lt most_size size) _ inner

-- a directory whose size isn't bad has two entries
two_sized : (form : EntryForm) (i : Image) (n : ℕ) → is_directory_inode (g i) (v i) n ≡ true → has_bad_size form (g i) (v i) n ≡ false
    → 2 * form.size ≤ ((v i).inodes n).size
two_sized form i n is good =
    let size = ((v i).inodes n).size in
    let later = (size_parts form i n (and_parts (is_marked (g i) (v i) n) _ is).0 good).1 in
    let bad : is_bad_directory_size form (g i) (v i) size ≡ false
    = sym (ap (λ b. b && is_bad_directory_size form (g i) (v i) size) is) ∙ later in
    ltb-false size (2 * form.size) (or_parts (nat_lt size (2 * form.size)) _ bad).0

pub two_entries : (t : Version) (i : Image) (n : ℕ) (x : Inode) → x ≡ (v i).inodes n → is_directory_inode (g i) (v i) n ≡ true
    → has_bad_size (form_of t) (g i) (v i) n ≡ false → (e : ℕ) → e < 2 → e < entry_count_of (form_of t) x
two_entries V2 i n x read is good e low = let same = ap (λ x. x.size) read in let size = two_sized version_2 i n is good in omega arith
two_entries V3 i n x read is good e low = let same = ap (λ x. x.size) read in let size = two_sized version_3 i n is good in omega arith

-- and is within the limit
pub small : (t : Version) (i : Image) (n : ℕ) (x : Inode) → x ≡ (v i).inodes n → is_directory_inode (g i) (v i) n ≡ true
    → has_bad_size (form_of t) (g i) (v i) n ≡ false → x.size ≤ most_size
small t i n x e is good =
    let size = ap (λ x. x.size) e in
    let low = ltb-false most_size ((v i).inodes n).size
    (size_parts (form_of t) i n (and_parts (is_marked (g i) (v i) n) _ is).0 good).0 in
    omega arith

-- the number and the name of an entry of a directory that was read
pub is_named : (t : Version) (i : Image) (n e : ℕ) (x : Inode) → x ≡ (v i).inodes n
    → entry_name (form_of t) (file_byte (g i) (v i) x) e ≡ name_at (form_of t) (g i) (v i) n e
is_named t i n e x is = ap (λ x. entry_name (form_of t) (file_byte (g i) (v i) x) e) is

-- the 64 bytes of an entry of version 3
pub whole_is : (f : ℕ → ℕ) (e : ℕ) (bytes : List ℕ) → length bytes ≡ 64 → ((a : ℕ) → a < 64 → slice_index bytes a ≡ f (64 * e + a))
    → IsWidened version_3 f e bytes
whole_is f e bytes size read = record {
  size = size;
  number = four (slice_index bytes) f 0 (64 * e) 64 (λ k h. let z : 0 + k ≡ k = omega arith in ap (slice_index bytes) z ∙ read k h)
      0 (64 * e) 0 (omega arith) (omega arith) (omega arith);
  name = λ a h. let at : 64 * e + (4 + a) ≡ 64 * e + 4 + a = omega arith in read (4 + a) (omega arith) ∙ ap f at;
  rest = λ a far h. absurd (omega arith);
}

-- and its name
pub whole_name : (f : ℕ → ℕ) (e : ℕ) (bytes : List ℕ) → ((a : ℕ) → a < 64 → slice_index bytes a ≡ f (64 * e + a))
    → entry.name_in (slice_index bytes) ≡ entry_name version_3 f e
unfolding entry.name_in
whole_name f e bytes read = text_same (slice_index bytes) f 60 4 (64 * e + 4)
    (λ a h. let at : 64 * e + (4 + a) ≡ 64 * e + 4 + a = omega arith in read (4 + a) (omega arith) ∙ ap f at)
