-- A field that is read has the bytes that it was read from, and its bytes are read again.
use Rattle.std.proofs.Common.{◌≡◌, ◌≢◌, ℕ, ◌+◌, ◌*◌, ◌^◌, ◌<◌, ◌≤◌, Bool, true, false, cond, eqb, ltb, List}
use Rattle.std.proofs.Common.{[], ◌∷◌, ◌++◌, length, get_or, map, take, drop, Result, Ok}
use Rattle.std.proofs.Common.{Err, refl, sym, ap, subst, ◌∙◌, append_assoc, arith, inl, inr}
use Rattle.std.specs.Int.{Width, w16, w32, w64, byte_len, from_le_bytes, to_le_bytes}
use Rattle.std.specs.List.{AllByRecursion}
use Rattle.std.proofs.lemmas.Bool.{cases_lt, ltb-false, le-ltb, eqb-true, eq-eqb, ne_eqb}
use Rattle.std.proofs.lemmas.List.{take_at, drop_at, take-append-drop, length-append, length-take, get_or-drop, get_or-take, get_or_past}
use Rattle.std.proofs.lemmas.List.Concat.{flat_map-cons}
use Rattle.std.proofs.lemmas.Nat.{le_bytes_2, le_bytes_4, le_bytes_8, from_le_bytes-to_le_bytes_2, from_le_bytes-to_le_bytes_4}
use Rattle.std.proofs.lemmas.Nat.{from_le_bytes-to_le_bytes_8}
use Rattle.fields.specs.declared.fault.MalformedMessage.{MalformedMessage}
use Rattle.fields.specs.declared.fault.MalformedMessage.TheVariants.{Short}
use Rattle.fields.specs.Fields.{Size, Two, Four, Eight, width, number_bytes, Kind, IsNumber, IsUnused, IsName, Field, Number, Unused, Name}
use Rattle.fields.specs.Fields.{kind_of, seen, field_bytes, fields_bytes, Fits}
use Rattle.fields.specs.Parts.{◌>>=◌, number_at, bytes_at, name_at, field_at, fields_at}

abbrev pub IsBytes : List ℕ → Type 0
IsBytes bytes = (i : ℕ) → get_or bytes i 0 < 256

pub bytes_drop : (n : ℕ) (bytes : List ℕ) → IsBytes bytes → IsBytes (drop n bytes)
bytes_drop n bytes h i = rw get_or-drop (h (n + i))

front_fits : (n : ℕ) (bytes : List ℕ) → IsBytes bytes → IsBytes (take n bytes)
front_fits n bytes h i =
    elim (cases_lt i n) [
      | inl lt ↦ rw (get_or-take n bytes i 0 lt) (h i)
      | inr le ↦ rw (get_or_past (take n bytes) i 0 (omega (arith, length-take n bytes))) (omega arith)
    ]

-- the value of a step that did not fail
pub bind_ok : {A B : Type 0} (r : Result A MalformedMessage) (f : A → Result B MalformedMessage) (y : B) → (r >>= f) ≡ Ok y
    → (x : A) × (r ≡ Ok x) × (f x ≡ Ok y)
bind_ok (Ok x) f y e = (x, refl, e)
bind_ok (Err d) f y e = absurd cc

-- a test that did not fail
pub guard_ok : {A : Type 0} (b : Bool) (d : MalformedMessage) (x : Result A MalformedMessage) (y : A) → cond b (Err d) x ≡ Ok y
    → (b ≡ false) × (x ≡ Ok y)
guard_ok true d x y e = absurd cc
guard_ok false d x y e = (refl, e)

abbrev pub done : {A : Type 0} → A → Result A MalformedMessage
done x = Ok x

pub ok_is : {A : Type 0} (x y : A) → done x ≡ done y → x ≡ y
ok_is x y e = cc

-- what a reader took from the front
pub record Takes (bytes text rest : List ℕ) : Type 0 where
  pub parts : bytes ≡ text ++ rest
  pub rest_fits : IsBytes rest

pub takes_then : (a x b y c : List ℕ) → Takes a x b → Takes b y c → Takes a (x ++ y) c
takes_then a x b y c p q = record {
  parts = p.parts ∙ ap (λ (t : List ℕ). x ++ t) q.parts ∙ sym (append_assoc x y c);
  rest_fits = q.rest_fits;
}

-- ---- numbers

-- numbers of a width and their bytes are one to one
pub record IsWide (w : Width) : Type 0 where
  pub len : (n : ℕ) → length (to_le_bytes w n) ≡ byte_len w
  pub back : (bytes : List ℕ) → length bytes ≡ byte_len w → IsBytes bytes → to_le_bytes w (from_le_bytes w bytes) ≡ bytes
  pub again : (n : ℕ) → n < 2 ^ (8 * byte_len w) → from_le_bytes w (to_le_bytes w n) ≡ n
  pub below : (bytes : List ℕ) → IsBytes bytes → from_le_bytes w bytes < 2 ^ (8 * byte_len w)

wide_2 : IsWide w16
wide_2 = record {
  len = λ n. refl;
  back = λ bytes len fits. le_bytes_2 bytes _ len fits refl;
  again = λ n lt. from_le_bytes-to_le_bytes_2 n lt;
  below = λ bytes fits. omega (arith, fits 0, fits 1);
}

wide_4 : IsWide w32
wide_4 = record {
  len = λ n. refl;
  back = λ bytes len fits. le_bytes_4 bytes _ len fits refl;
  again = λ n lt. from_le_bytes-to_le_bytes_4 n lt;
  below = λ bytes fits. omega (arith, fits 0, fits 1, fits 2, fits 3);
}

wide_8 : IsWide w64
wide_8 = record {
  len = λ n. refl;
  back = λ bytes len fits. le_bytes_8 bytes _ len fits refl;
  again = λ n lt. from_le_bytes-to_le_bytes_8 n lt;
  below = λ bytes fits. omega (arith, fits 0, fits 1, fits 2, fits 3, fits 4, fits 5, fits 6, fits 7);
}

pub wide : (size : Size) → IsWide (width size)
wide Two = wide_2
wide Four = wide_4
wide Eight = wide_8

-- numbers of each size
abbrev pub limit : Size → ℕ
limit size = 2 ^ (8 * byte_len (width size))

pub number_takes : (size : Size) (bytes : List ℕ) (x : ℕ × List ℕ) → IsBytes bytes → number_at (width size) bytes ≡ Ok x
    → Takes bytes (number_bytes size x.0) x.1 × (x.0 < limit size)
unfolding number_bytes
number_takes size bytes x fits e =
    let w = width size in
    let is = wide size in
    let k = byte_len w in
    let g = guard_ok (ltb (length bytes) k) Short (Ok (from_le_bytes w (take k bytes), drop k bytes)) x e in
    let long : k ≤ length bytes = ltb-false _ _ g.0 in
    let len : length (take k bytes) ≡ k = omega (arith, length-take k bytes) in
    let front : to_le_bytes w (from_le_bytes w (take k bytes)) ≡ take k bytes = is.back (take k bytes) len (front_fits k bytes fits) in
    let whole : Takes bytes (to_le_bytes w (from_le_bytes w (take k bytes))) (drop k bytes) =
    record { parts = rw front (sym (take-append-drop k bytes)); rest_fits = bytes_drop k bytes fits } in
    subst (λ (y : ℕ × List ℕ). Takes bytes (to_le_bytes w y.0) y.1 × (y.0 < 2 ^ (8 * byte_len w)))
    (ok_is (from_le_bytes w (take k bytes), drop k bytes) x g.1) (whole, is.below (take k bytes) (front_fits k bytes fits))

pub number_again : (size : Size) (n : ℕ) (rest : List ℕ) → n < limit size
    → number_at (width size) (number_bytes size n ++ rest) ≡ Ok (n, rest)
unfolding number_bytes
number_again size n rest lt =
    let w = width size in
    let is = wide size in
    let len = is.len n in
    let long : ltb (length (to_le_bytes w n ++ rest)) (byte_len w) ≡ false =
    le-ltb _ _ (omega (arith, length-append (to_le_bytes w n) rest)) in
    rw (long, take_at (to_le_bytes w n) rest (byte_len w) len, drop_at (to_le_bytes w n) rest (byte_len w) len, is.again n lt) refl

pub number_length : (size : Size) (n : ℕ) → length (number_bytes size n) ≡ byte_len (width size)
unfolding number_bytes
number_length size n = (wide size).len n

-- ---- names

pub name_takes : (bytes : List ℕ) (x : List ℕ × List ℕ) → IsBytes bytes → name_at bytes ≡ Ok x
    → Takes bytes (x.0 ++ 0 ∷ []) x.1 × AllByRecursion (λ b. b ≢ 0) x.0
unfolding name_at
name_takes [] x fits e = absurd cc
name_takes (byte ∷ bytes) x fits e =
    by (eqb byte 0) refl e (λ y h. name_takes bytes y (bytes_drop 1 (byte ∷ bytes) fits) h) where
      by : (b : Bool) → eqb byte 0 ≡ b → cond b (done ([], bytes)) (name_at bytes >>= λ name. Ok (byte ∷ name.0, name.1)) ≡ Ok x
          → ((y : List ℕ × List ℕ) → name_at bytes ≡ Ok y → Takes bytes (y.0 ++ 0 ∷ []) y.1 × AllByRecursion (λ b. b ≢ 0) y.0)
          → Takes (byte ∷ bytes) (x.0 ++ 0 ∷ []) x.1 × AllByRecursion (λ b. b ≢ 0) x.0
      by true is h others =
          let zero_is : byte ≡ 0 = eqb-true byte 0 is in
          subst (λ (y : List ℕ × List ℕ). Takes (byte ∷ bytes) (y.0 ++ 0 ∷ []) y.1 × AllByRecursion (λ b. b ≢ 0) y.0)
          (ok_is ([], bytes) x h)
          (record { parts = ap (λ (b : ℕ). b ∷ bytes) zero_is; rest_fits = bytes_drop 1 (byte ∷ bytes) fits }, tt)
      by false is h others =
          let b = bind_ok (name_at bytes) (λ name. Ok (byte ∷ name.0, name.1)) x h in
          let t = others b.0 b.1 in
          let some : byte ≢ 0 = λ same. (let no : true ≡ false = sym (eq-eqb byte 0 same) ∙ is in absurd cc) in
          subst (λ (y : List ℕ × List ℕ). Takes (byte ∷ bytes) (y.0 ++ 0 ∷ []) y.1 × AllByRecursion (λ b. b ≢ 0) y.0)
          (ok_is (byte ∷ b.0.0, b.0.1) x b.2)
          (record { parts = ap (λ (r : List ℕ). byte ∷ r) t.0.parts; rest_fits = t.0.rest_fits }, (some, t.1))

pub name_again : (name rest : List ℕ) → AllByRecursion (λ b. b ≢ 0) name → name_at ((name ++ 0 ∷ []) ++ rest) ≡ Ok (name, rest)
unfolding name_at
name_again [] rest fits = refl
name_again (byte ∷ name) rest fits = rw (ne_eqb byte 0 fits.0, name_again name rest fits.1) refl

-- ---- fields

-- what was read as a field of this kind: the field with what says nothing
pub record IsTaken (kind : Kind) (bytes : List ℕ) (x : Field × List ℕ) : Type 0 where
  pub full : Field
  pub taken : Takes bytes (field_bytes full) x.1
  pub kind_is : kind_of full ≡ kind
  pub fits : Fits full
  pub as_seen : seen full ≡ x.0

field_takes : (kind : Kind) (bytes : List ℕ) (x : Field × List ℕ) → IsBytes bytes → field_at kind bytes ≡ Ok x → IsTaken kind bytes x
field_takes (IsNumber size) bytes x fits e =
    let b = bind_ok (number_at (width size) bytes) (λ n. Ok (Number size n.0, n.1)) x e in
    let t = number_takes size bytes b.0 fits b.1 in
    subst (λ (y : Field × List ℕ). IsTaken (IsNumber size) bytes y) (ok_is (Number size b.0.0, b.0.1) x b.2)
    (record { full = Number size b.0.0; taken = t.0; kind_is = refl; fits = t.1; as_seen = refl })
field_takes (IsUnused size) bytes x fits e =
    let b = bind_ok (number_at (width size) bytes) (λ n. Ok (Unused size 0, n.1)) x e in
    let t = number_takes size bytes b.0 fits b.1 in
    subst (λ (y : Field × List ℕ). IsTaken (IsUnused size) bytes y) (ok_is (Unused size 0, b.0.1) x b.2)
    (record { full = Unused size b.0.0; taken = t.0; kind_is = refl; fits = t.1; as_seen = refl })
field_takes IsName bytes x fits e =
    let b = bind_ok (name_at bytes) (λ n. Ok (Name n.0, n.1)) x e in
    let t = name_takes bytes b.0 fits b.1 in
    subst (λ (y : Field × List ℕ). IsTaken IsName bytes y) (ok_is (Name b.0.0, b.0.1) x b.2)
    (record { full = Name b.0.0; taken = t.0; kind_is = refl; fits = t.1; as_seen = refl })

field_again : (field : Field) (rest : List ℕ) → Fits field → field_at (kind_of field) (field_bytes field ++ rest) ≡ Ok (seen field, rest)
field_again (Number size n) rest fits = rw (number_again size n rest fits) refl
field_again (Unused size n) rest fits = rw (number_again size n rest fits) refl
field_again (Name name) rest fits = rw (name_again name rest fits) refl

-- what was read as fields of these kinds
pub record AreTaken (kinds : List Kind) (bytes : List ℕ) (x : List Field × List ℕ) : Type 0 where
  pub full : List Field
  pub taken : Takes bytes (fields_bytes full) x.1
  pub kinds_are : map kind_of full ≡ kinds
  pub fit : AllByRecursion Fits full
  pub as_seen : map seen full ≡ x.0

pub fields_take : (kinds : List Kind) (bytes : List ℕ) (x : List Field × List ℕ) → IsBytes bytes → fields_at kinds bytes ≡ Ok x
    → AreTaken kinds bytes x
unfolding fields_at
fields_take [] bytes x fits e =
    subst (λ (y : List Field × List ℕ). AreTaken [] bytes y) (ok_is ([], bytes) x e)
    (record { full = []; taken = record { parts = refl; rest_fits = fits }; kinds_are = refl; fit = tt; as_seen = refl })
fields_take (kind ∷ kinds) bytes x fits e =
    let a = bind_ok (field_at kind bytes) (λ field. fields_at kinds field.1 >>= λ fields. Ok (field.0 ∷ fields.0, fields.1)) x e in
    let b = bind_ok (fields_at kinds a.0.1) (λ fields. Ok (a.0.0 ∷ fields.0, fields.1)) x a.2 in
    let first = field_takes kind bytes a.0 fits a.1 in
    let others = fields_take kinds a.0.1 b.0 first.taken.rest_fits b.1 in
    let both = takes_then bytes (field_bytes first.full) a.0.1 (fields_bytes others.full) b.0.1 first.taken others.taken in
    let made : List Field × List ℕ = (a.0.0 ∷ b.0.0, b.0.1) in
    subst (λ (y : List Field × List ℕ). AreTaken (kind ∷ kinds) bytes y) (ok_is made x b.2) (record {
      full = first.full ∷ others.full;
      taken = rw flat_map-cons both;
      kinds_are = rw (first.kind_is, others.kinds_are) refl;
      fit = (first.fits, others.fit);
      as_seen = rw (first.as_seen, others.as_seen) refl;
    })

pub fields_again : (fields : List Field) (rest : List ℕ) → AllByRecursion Fits fields
    → fields_at (map kind_of fields) (fields_bytes fields ++ rest) ≡ Ok (map seen fields, rest)
unfolding fields_at
fields_again [] rest fits = refl
fields_again (field ∷ fields) rest fits =
    let others = fields_bytes fields ++ rest in
    let regrouped : fields_bytes (field ∷ fields) ++ rest ≡ field_bytes field ++ others =
    ap (λ (x : List ℕ). x ++ rest) (flat_map-cons field_bytes field fields) ∙ append_assoc (field_bytes field) (fields_bytes fields) rest in
    ap (fields_at (map kind_of (field ∷ fields))) regrouped ∙ rw (field_again field others fits.0, fields_again fields rest fits.1) refl

-- ---- so many bytes

pub bytes_take : (n : ℕ) (bytes : List ℕ) (x : List ℕ × List ℕ) → IsBytes bytes → bytes_at (n, bytes) ≡ Ok x
    → Takes bytes x.0 x.1 × (length x.0 ≡ n)
bytes_take n bytes x fits e =
    let g = guard_ok (ltb (length bytes) n) Short (Ok (take n bytes, drop n bytes)) x e in
    let long : n ≤ length bytes = ltb-false _ _ g.0 in
    subst (λ (y : List ℕ × List ℕ). Takes bytes y.0 y.1 × (length y.0 ≡ n)) (ok_is (take n bytes, drop n bytes) x g.1) (
      record { parts = sym (take-append-drop n bytes); rest_fits = bytes_drop n bytes fits },
      omega (arith, length-take n bytes),
    )

pub bytes_again : (n : ℕ) (bytes rest : List ℕ) → length bytes ≡ n → bytes_at (n, bytes ++ rest) ≡ Ok (bytes, rest)
bytes_again n bytes rest long =
    let within : ltb (length (bytes ++ rest)) n ≡ false = le-ltb _ _ (omega (arith, length-append bytes rest)) in
    rw (within, take_at bytes rest n long, drop_at bytes rest n long) refl
