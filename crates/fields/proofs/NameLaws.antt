-- A name, as a search for its zero finds it.
use Rattle.std.proofs.Common.{◌≡◌, ◌≢◌, ℕ, zero, suc, ◌+◌, ◌<◌, List, [], ◌∷◌, take, drop, length, get_or, Ok, Err, arith, refl}
use Rattle.std.proofs.lemmas.Bool.{eqb-true, eq-eqb, ne_eqb}
use Rattle.memchr.specs.Find.{NoneBefore, Nowhere, Passes, is_byte}
use Rattle.fields.specs.declared.fault.MalformedMessage.TheVariants.{Short}
use Rattle.fields.specs.Parts.{name_at}

found : (bytes : List ℕ) (i : ℕ) → i < length bytes → get_or bytes i 0 ≡ 0 → ((k : ℕ) → k < i → get_or bytes k 0 ≢ 0)
    → name_at bytes ≡ Ok (take i bytes, drop (suc i) bytes)
unfolding name_at
found [] i less is none = absurd (omega (arith, less))
found (byte ∷ bytes) zero less is none = rw (eq-eqb byte 0 is) refl
found (byte ∷ bytes) (suc i) less is none =
    let some : byte ≢ 0 = none 0 (omega arith) in
    rw (ne_eqb byte 0 some, found bytes i (omega (arith, less)) is (λ k lt. none (suc k) (omega (arith, lt)))) refl

missing : (bytes : List ℕ) → ((k : ℕ) → k < length bytes → get_or bytes k 0 ≢ 0) → name_at bytes ≡ Err Short
unfolding name_at
missing [] none = refl
missing (byte ∷ bytes) none =
    let some : byte ≢ 0 = none 0 (omega arith) in
    rw (ne_eqb byte 0 some, missing bytes (λ k lt. none (suc k) (omega (arith, lt)))) refl

-- it was found: the name ends there
pub name_found : (bytes : List ℕ) (i : ℕ) → NoneBefore (Passes (is_byte 0) bytes) 0 (length bytes) i → Passes (is_byte 0) bytes i
    → name_at bytes ≡ Ok (take i bytes, drop (i + 1) bytes)
name_found bytes i first here =
    let next : i + 1 ≡ suc i = omega arith in
    rw next (found bytes i first.high (eqb-true _ _ here) (λ k less same. first.before k (omega arith) less (eq-eqb _ _ same)))

-- it wasn't: no name ends
pub name_missing : (bytes : List ℕ) → Nowhere (Passes (is_byte 0) bytes) 0 (length bytes) → name_at bytes ≡ Err Short
name_missing bytes none = missing bytes (λ k within same. none k (omega arith) within (eq-eqb _ _ same))
