-- A field that is read has the bytes that it was read from, and its bytes are read again.
use Rattle.std.proofs.Common.{◌≡◌, ℕ, zero, suc, ◌+◌, ◌*◌, ◌^◌, ◌<◌, ◌≤◌, Bool, true, false, cond, ltb, List, [], ◌∷◌, ◌++◌, length, get_or}
use Rattle.std.proofs.Common.{take, drop, Result, Ok, Err, refl, sym, ap, subst, ◌∙◌, append_assoc, arith, inl, inr}
use Rattle.std.specs.Int.{Width, w8, w16, w32, w64, byte_len, from_le_bytes, to_le_bytes}
use Rattle.std.specs.List.{flat_map, AllByRecursion}
use Rattle.std.proofs.lemmas.Bool.{cases_lt, ltb-false, le-ltb}
use Rattle.std.proofs.lemmas.List.{take_at, drop_at, take-append-drop, length-append, length-take, get_or-drop, get_or-take, get_or_past}
use Rattle.std.proofs.lemmas.List.Concat.{flat_map-cons}
use Rattle.std.proofs.lemmas.Nat.{le_bytes_2, le_bytes_4, le_bytes_8, from_le_bytes-to_le_bytes_2, from_le_bytes-to_le_bytes_4}
use Rattle.std.proofs.lemmas.Nat.{from_le_bytes-to_le_bytes_8}
use Rattle.ninep.specs.declared.fault.MalformedMessage.{MalformedMessage}
use Rattle.ninep.specs.declared.fault.MalformedMessage.TheVariants.{Short, ManyNames}
use Rattle.ninep.specs.Fields.{Size, One, Two, Four, Eight, width, number_bytes, text_bytes, IsShort, most_names}
use Rattle.ninep.specs.Parts.{◌>>=◌, number_at, bytes_at, text_at, texts_at, names_at}

abbrev pub IsBytes : List ℕ → Type 0
IsBytes bytes = (i : ℕ) → get_or bytes i 0 < 256

bytes_drop : (n : ℕ) (bytes : List ℕ) → IsBytes bytes → IsBytes (drop n bytes)
bytes_drop n bytes h i = rw get_or-drop (h (n + i))

bytes_take : (n : ℕ) (bytes : List ℕ) → IsBytes bytes → IsBytes (take n bytes)
bytes_take n bytes h i =
    elim (cases_lt i n) [
      | inl lt ↦ rw (get_or-take n bytes i 0 lt) (h i)
      | inr le ↦ rw (get_or_past (take n bytes) i 0 (omega (arith, length-take n bytes))) (omega arith)
    ]

-- the value of a step that did not fail
pub bind_ok : {A B : Type 0} (r : Result A MalformedMessage) (f : A → Result B MalformedMessage) (y : B) → (r >>= f) ≡ Ok y → (x : A) × (r ≡ Ok x) × (f x ≡ Ok y)
bind_ok (Ok x) f y e = (x, refl, e)
bind_ok (Err d) f y e = absurd cc

-- a test that did not fail
pub guard_ok : {A : Type 0} (b : Bool) (d : MalformedMessage) (x : Result A MalformedMessage) (y : A) → cond b (Err d) x ≡ Ok y → (b ≡ false) × (x ≡ Ok y)
guard_ok true d x y e = absurd cc
guard_ok false d x y e = (refl, e)

abbrev pub done : {A : Type 0} → A → Result A MalformedMessage
done x = Ok x

pub ok_is : {A : Type 0} (x y : A) → done x ≡ done y → x ≡ y
ok_is x y e = cc

-- what a reader took from the front
pub record Takes (bytes text rest : List ℕ) : Type 0 where
  pub parts : bytes ≡ text ++ rest
  pub rest_fits : IsBytes rest

pub takes_then : (a x b y c : List ℕ) → Takes a x b → Takes b y c → Takes a (x ++ y) c
takes_then a x b y c p q = record {
  parts = p.parts ∙ ap (λ (t : List ℕ). x ++ t) q.parts ∙ sym (append_assoc x y c);
  rest_fits = q.rest_fits;
}

-- ---- numbers

-- numbers of a width and their bytes are one to one
pub record IsWide (w : Width) : Type 0 where
  pub len : (n : ℕ) → length (to_le_bytes w n) ≡ byte_len w
  pub back : (bytes : List ℕ) → length bytes ≡ byte_len w → IsBytes bytes → to_le_bytes w (from_le_bytes w bytes) ≡ bytes
  pub again : (n : ℕ) → n < 2 ^ (8 * byte_len w) → from_le_bytes w (to_le_bytes w n) ≡ n
  pub below : (bytes : List ℕ) → IsBytes bytes → from_le_bytes w bytes < 2 ^ (8 * byte_len w)

one_back : (bytes : List ℕ) → length bytes ≡ 1 → IsBytes bytes → to_le_bytes w8 (from_le_bytes w8 bytes) ≡ bytes
one_back [] len fits = absurd (omega (arith, len))
one_back (b ∷ []) len fits = ap (λ (x : ℕ). x ∷ []) (omega (arith, fits 0))
one_back (b ∷ c ∷ rest) len fits = absurd (omega (arith, len))

wide_1 : IsWide w8
wide_1 = record {
  len = λ n. refl;
  back = one_back;
  again = λ n lt. omega (arith, lt);
  below = λ bytes fits. omega (arith, fits 0);
}

wide_2 : IsWide w16
wide_2 = record {
  len = λ n. refl;
  back = λ bytes len fits. le_bytes_2 bytes _ len fits refl;
  again = λ n lt. from_le_bytes-to_le_bytes_2 n lt;
  below = λ bytes fits. omega (arith, fits 0, fits 1);
}

wide_4 : IsWide w32
wide_4 = record {
  len = λ n. refl;
  back = λ bytes len fits. le_bytes_4 bytes _ len fits refl;
  again = λ n lt. from_le_bytes-to_le_bytes_4 n lt;
  below = λ bytes fits. omega (arith, fits 0, fits 1, fits 2, fits 3);
}

wide_8 : IsWide w64
wide_8 = record {
  len = λ n. refl;
  back = λ bytes len fits. le_bytes_8 bytes _ len fits refl;
  again = λ n lt. from_le_bytes-to_le_bytes_8 n lt;
  below = λ bytes fits. omega (arith, fits 0, fits 1, fits 2, fits 3, fits 4, fits 5, fits 6, fits 7);
}

pub wide : (size : Size) → IsWide (width size)
wide One = wide_1
wide Two = wide_2
wide Four = wide_4
wide Eight = wide_8

-- numbers of each size
abbrev pub limit : Size → ℕ
limit size = 2 ^ (8 * byte_len (width size))

pub number_takes : (size : Size) (bytes : List ℕ) (x : ℕ × List ℕ) → IsBytes bytes → number_at (width size) bytes ≡ Ok x
    → Takes bytes (number_bytes size x.0) x.1 × (x.0 < limit size)
unfolding number_bytes
number_takes size bytes x fits e =
    let w = width size in
    let is = wide size in
    let k = byte_len w in
    let g = guard_ok (ltb (length bytes) k) Short (Ok (from_le_bytes w (take k bytes), drop k bytes)) x e in
    let long : k ≤ length bytes = ltb-false _ _ g.0 in
    let len : length (take k bytes) ≡ k = omega (arith, length-take k bytes) in
    let front : to_le_bytes w (from_le_bytes w (take k bytes)) ≡ take k bytes = is.back (take k bytes) len (bytes_take k bytes fits) in
    let whole : Takes bytes (to_le_bytes w (from_le_bytes w (take k bytes))) (drop k bytes) =
    record { parts = rw front (sym (take-append-drop k bytes)); rest_fits = bytes_drop k bytes fits } in
    subst (λ (y : ℕ × List ℕ). Takes bytes (to_le_bytes w y.0) y.1 × (y.0 < 2 ^ (8 * byte_len w)))
    (ok_is (from_le_bytes w (take k bytes), drop k bytes) x g.1) (whole, is.below (take k bytes) (bytes_take k bytes fits))

pub number_again : (size : Size) (n : ℕ) (rest : List ℕ) → n < limit size
    → number_at (width size) (number_bytes size n ++ rest) ≡ Ok (n, rest)
unfolding number_bytes
number_again size n rest lt =
    let w = width size in
    let is = wide size in
    let len = is.len n in
    let long : ltb (length (to_le_bytes w n ++ rest)) (byte_len w) ≡ false =
    le-ltb _ _ (omega (arith, length-append (to_le_bytes w n) rest)) in
    rw (long, take_at (to_le_bytes w n) rest (byte_len w) len, drop_at (to_le_bytes w n) rest (byte_len w) len, is.again n lt) refl

pub number_length : (size : Size) (n : ℕ) → length (number_bytes size n) ≡ byte_len (width size)
unfolding number_bytes
number_length size n = (wide size).len n

-- ---- texts

pub text_takes : (size : Size) (bytes : List ℕ) (x : List ℕ × List ℕ) → IsBytes bytes → text_at (width size) bytes ≡ Ok x
    → Takes bytes (number_bytes size (length x.0) ++ x.0) x.1 × (length x.0 < limit size)
unfolding text_at
text_takes size bytes x fits e =
    let b = bind_ok (number_at (width size) bytes) bytes_at x e in
    let n = b.0 in
    let t = number_takes size bytes n fits b.1 in
    let g = guard_ok (ltb (length n.1) n.0) Short (Ok (take n.0 n.1, drop n.0 n.1)) x b.2 in
    let long : n.0 ≤ length n.1 = ltb-false _ _ g.0 in
    let len : length (take n.0 n.1) ≡ n.0 = omega (arith, length-take n.0 n.1) in
    let second : Takes n.1 (take n.0 n.1) (drop n.0 n.1) =
    record { parts = sym (take-append-drop n.0 n.1); rest_fits = bytes_drop n.0 n.1 t.0.rest_fits } in
    let both = takes_then bytes (number_bytes size n.0) n.1 (take n.0 n.1) (drop n.0 n.1) t.0 second in
    let whole = subst (λ (k : ℕ). Takes bytes (number_bytes size k ++ take n.0 n.1) (drop n.0 n.1)) (sym len) both in
    let few = subst (λ (k : ℕ). k < limit size) (sym len) t.1 in
    subst (λ (p : List ℕ × List ℕ). Takes bytes (number_bytes size (length p.0) ++ p.0) p.1 × (length p.0 < limit size))
    (ok_is (take n.0 n.1, drop n.0 n.1) x g.1) (whole, few)

pub text_again : (size : Size) (text rest : List ℕ) → length text < limit size
    → text_at (width size) ((number_bytes size (length text) ++ text) ++ rest) ≡ Ok (text, rest)
unfolding text_at
text_again size text rest lt =
    let long : ltb (length (text ++ rest)) (length text) ≡ false = le-ltb _ _ (omega (arith, length-append text rest)) in
    ap (λ (bytes : List ℕ). number_at (width size) bytes >>= bytes_at) (append_assoc (number_bytes size (length text)) text rest)
    ∙ rw (
      number_again size (length text) (text ++ rest) lt,
      long,
      take_at text rest (length text) refl,
      drop_at text rest (length text) refl,
    ) refl

-- ---- the names of a walk

pub texts_take : (n : ℕ) (bytes : List ℕ) (x : List (List ℕ) × List ℕ) → IsBytes bytes → texts_at n bytes ≡ Ok x
    → Takes bytes (flat_map text_bytes x.0) x.1 × (length x.0 ≡ n) × AllByRecursion IsShort x.0
unfolding texts_at
texts_take zero bytes x fits e =
    subst (λ (y : List (List ℕ) × List ℕ). Takes bytes (flat_map text_bytes y.0) y.1 × (length y.0 ≡ 0) × AllByRecursion IsShort y.0)
    (ok_is ([], bytes) x e) (record { parts = refl; rest_fits = fits }, refl, tt)
texts_take (suc n) bytes x fits e =
    let a = bind_ok (text_at w16 bytes) (λ first. texts_at n first.1 >>= λ others. Ok (first.0 ∷ others.0, others.1)) x e in
    let b = bind_ok (texts_at n a.0.1) (λ others. Ok (a.0.0 ∷ others.0, others.1)) x a.2 in
    let first = text_takes Two bytes a.0 fits a.1 in
    let second = texts_take n a.0.1 b.0 first.0.rest_fits b.1 in
    let both = takes_then bytes (text_bytes a.0.0) a.0.1 (flat_map text_bytes b.0.0) b.0.1 first.0 second.0 in
    let made : List (List ℕ) × List ℕ = (a.0.0 ∷ b.0.0, b.0.1) in
    subst (λ (y : List (List ℕ) × List ℕ). Takes bytes (flat_map text_bytes y.0) y.1 × (length y.0 ≡ suc n) × AllByRecursion IsShort y.0)
    (ok_is made x b.2) (rw flat_map-cons both, ap suc second.1, (first.1, second.2))

pub texts_again : (names : List (List ℕ)) (rest : List ℕ) → AllByRecursion IsShort names
    → texts_at (length names) (flat_map text_bytes names ++ rest) ≡ Ok (names, rest)
unfolding texts_at
texts_again [] rest fits = refl
texts_again (name ∷ names) rest fits =
    let others = flat_map text_bytes names ++ rest in
    let regrouped : flat_map text_bytes (name ∷ names) ++ rest ≡ text_bytes name ++ others =
    ap (λ (x : List ℕ). x ++ rest) (flat_map-cons text_bytes name names)
    ∙ append_assoc (text_bytes name) (flat_map text_bytes names) rest in
    ap (texts_at (suc (length names))) regrouped ∙ rw (text_again Two name others fits.0, texts_again names rest fits.1) refl

pub names_take : (bytes : List ℕ) (x : List (List ℕ) × List ℕ) → IsBytes bytes → names_at bytes ≡ Ok x
    → Takes bytes (number_bytes Two (length x.0) ++ flat_map text_bytes x.0) x.1 × (length x.0 ≤ most_names) × AllByRecursion IsShort x.0
unfolding names_at
names_take bytes x fits e =
    let b = bind_ok (number_at w16 bytes) (λ n. cond (ltb most_names n.0) (Err ManyNames) (texts_at n.0 n.1)) x e in
    let n = b.0 in
    let g = guard_ok (ltb most_names n.0) ManyNames (texts_at n.0 n.1) x b.2 in
    let few : n.0 ≤ most_names = ltb-false _ _ g.0 in
    let first = number_takes Two bytes n fits b.1 in
    let second = texts_take n.0 n.1 x first.0.rest_fits g.1 in
    let both = takes_then bytes (number_bytes Two n.0) n.1 (flat_map text_bytes x.0) x.1 first.0 second.0 in (
      subst (λ (k : ℕ). Takes bytes (number_bytes Two k ++ flat_map text_bytes x.0) x.1) (sym second.1) both,
      omega (arith, second.1, few),
      second.2,
    )

pub names_again : (names : List (List ℕ)) (rest : List ℕ) → length names ≤ most_names → AllByRecursion IsShort names
    → names_at ((number_bytes Two (length names) ++ flat_map text_bytes names) ++ rest) ≡ Ok (names, rest)
unfolding names_at
names_again names rest few fits =
    let others = flat_map text_bytes names ++ rest in
    let small : ltb most_names (length names) ≡ false = le-ltb _ _ few in
    ap (λ (bytes : List ℕ). number_at w16 bytes >>= λ n. cond (ltb most_names n.0) (Err ManyNames) (texts_at n.0 n.1))
    (append_assoc (number_bytes Two (length names)) (flat_map text_bytes names) rest)
    ∙ rw (number_again Two (length names) others (omega (arith, few)), small, texts_again names rest fits) refl
