-- Tables, as they are seen.
use Rattle.std.proofs.Common.{◌≡◌, ◌∙◌, ap, sym, refl, subst, ℕ, Bool, true, false, cond, if◌then◌else◌, Option, None, inl, inr, ◌⊎◌, ◌≢◌, arith}
use Rattle.std.proofs.lemmas.Bool.Decides.{eqb_tells, nat_tests}
use Rattle.std.specs.BTreeMap.{BTreeMap, get, is_at}
use Rattle.std.specs.Option.{option_map}
use Rattle.std.specs.Ordering.{nat_cmp}
use Rattle.std.specs.Prelude.{◌==◌}
use Rattle.fuse_nodes.specs.Tables.{put, changed}

-- whether a query for a key finds another one
pub at_eq : (key other : ℕ) → is_at (nat_cmp key) other ≡ (key == other)
at_eq key other = grind (arith, nat_tests)

mapped : {X Y : Type 0} (f : X → Y) (b c : Bool) (x y : Option X) → b ≡ c
    → option_map f (cond b x y) ≡ (if c then option_map f x else option_map f y)
mapped f b c x y same =
    subst (λ (d : Bool). option_map f (cond b x y) ≡ (if d then option_map f x else option_map f y)) same (either b) where
      either : (b : Bool) → option_map f (cond b x y) ≡ (if b then option_map f x else option_map f y)
      either true = refl
      either false = refl

-- a map that has another value at a key, as it is seen
pub seen_put : {X Y : Type 0} (f : X → Y) (m n : BTreeMap ℕ X) (key : ℕ) (x : Option X)
    → ((other : ℕ) → get nat_cmp n other ≡ cond (is_at (nat_cmp key) other) x (get nat_cmp m other))
    → (λ (other : ℕ). option_map f (get nat_cmp n other)) ≡ put (λ (other : ℕ). option_map f (get nat_cmp m other)) key (option_map f x)
seen_put f m n key x is = λ i other. each other i where
  each : (other : ℕ)
      → option_map f (get nat_cmp n other) ≡ put (λ (other : ℕ). option_map f (get nat_cmp m other)) key (option_map f x) other
  each other = ap (option_map f) (is other) ∙ mapped f _ _ x (get nat_cmp m other) (at_eq key other)

plain : {X : Type 0} (b c : Bool) (x y : Option X) → b ≡ c → cond b x y ≡ (if c then x else y)
plain b c x y same = subst (λ (d : Bool). cond b x y ≡ (if d then x else y)) same (either b) where
  either : (b : Bool) → cond b x y ≡ (if b then x else y)
  either true = refl
  either false = refl

-- the same of a map whose values are seen as they are
pub plain_put : {X : Type 0} (m n : BTreeMap ℕ X) (key : ℕ) (x : Option X)
    → ((other : ℕ) → get nat_cmp n other ≡ cond (is_at (nat_cmp key) other) x (get nat_cmp m other))
    → (λ (other : ℕ). get nat_cmp n other) ≡ put (λ (other : ℕ). get nat_cmp m other) key x
plain_put m n key x is = λ i other. each other i where
  each : (other : ℕ) → get nat_cmp n other ≡ put (λ (other : ℕ). get nat_cmp m other) key x other
  each other = is other ∙ plain _ _ x (get nat_cmp m other) (at_eq key other)

-- what a table has already isn't changed by putting it there
pub put_same : {X : Type 0} (table : ℕ → Option X) (key : ℕ) (x : Option X) → table key ≡ x → put table key x ≡ table
put_same table key x is = λ i other. each other (eqb_tells key other) i where
  each : (other : ℕ)
      → ((key == other) ≡ true) × (key ≡ other) ⊎ ((key == other) ≡ false) × (key ≢ other) → put table key x other ≡ table other
  each other (inl same) = rw same.0 (sym is ∙ ap table same.1)
  each other (inr apart) = rw apart.0 refl

-- nothing becomes of what isn't there
pub none_changed : {X : Type 0} (f : X → X) (table : ℕ → Option X) (key : ℕ) → table key ≡ None → changed f table key ≡ table
none_changed f table key none = put_same table key (option_map f (table key)) (none ∙ sym (ap (option_map f) none))

-- two changes at one key
pub put_twice : {X : Type 0} (table : ℕ → Option X) (key : ℕ) (x y : Option X) → put (put table key x) key y ≡ put table key y
put_twice table key x y = λ i other. each other (key == other) i where
  each : (other : ℕ) (b : Bool) → (if b then y else if b then x else table other) ≡ (if b then y else table other)
  each other true = refl
  each other false = refl

-- what is put at a key is there
pub put_there : {X : Type 0} (table : ℕ → Option X) (key : ℕ) (x : Option X) → put table key x key ≡ x
put_there table key x = elim (eqb_tells key key) [
  | inl same ↦ rw same.0 refl
  | inr apart ↦ absurd (apart.1 refl)
]
