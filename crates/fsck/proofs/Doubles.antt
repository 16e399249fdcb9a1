-- The names of a directory that are known so far.
use Rattle.std.proofs.Common.{◌≡◌, ◌+◌, ℕ, List, Bool, true, false, refl, sym, ap, ◌∙◌, cond, add-one}
use lib.Pointwise.{pointwise}
use lib.Dec.{eqb}
use Rattle.std.specs.Prelude.{not, ◌&&◌, ◌||◌, ◌==◌, nat_le}
use Rattle.std.specs.List.{list_any}
use Rattle.std.specs.Borrow.{Bor}
use Rattle.std.proofs.lemmas.Bool.{or_left, or_right, or_from, and_from, and_left, and_right}
use Rattle.lemmas.specs.Sums.{some_below}
use Rattle.tree.specs.Names.{same_name}
use Rattle.image.specs.declared.Image.{Image}
use Rattle.image.proofs.Texts.{same_names}
use Rattle.image.proofs.Contents.{g, v}
use Rattle.fsck.specs.Form.{EntryForm}
use Rattle.fsck.specs.Entries.{name_at, target_at, is_free_at, is_name_field}
use Rattle.fsck.specs.Findings.{is_bad_entry, has_name_of}

-- some number below a bound that is one more
some_more : (p : ℕ → Bool) (n : ℕ) → some_below p (n + 1) ≡ (some_below p n || p n)
unfolding some_below
some_more p n = ap (some_below p) (add-one n)

-- and none below 0
pub no_some : (p : ℕ → Bool) → some_below p 0 ≡ false
unfolding some_below
no_some p = refl

module _ (form : EntryForm) (i : Image) (n : ℕ) where
  -- the name of an entry
  abbrev name : ℕ → List ℕ
  name e = name_at form (g i) (v i) n e

  -- whether an entry is free
  abbrev free : ℕ → Bool
  free e = is_free_at form (g i) (v i) n e

  -- the keys are the names of the first entries that aren't free
  abbrev pub AreNames : List (Bor (List ℕ)) → ℕ → Type 0
  AreNames keys e = (q : List ℕ) → list_any (λ (k : Bor (List ℕ)). pointwise eqb q k.now) keys
      ≡ some_below (λ f. not (free f) && same_name (name f) q) e

  -- one name more
  pub names_more : (old new : List (Bor (List ℕ))) (e : ℕ) (key : List ℕ) → AreNames old e → free e ≡ false → key ≡ name e
      → ((q : List ℕ) → list_any (λ (k : Bor (List ℕ)). pointwise eqb q k.now) new
      ≡ cond (pointwise eqb key q) true (list_any (λ (k : Bor (List ℕ)). pointwise eqb q k.now) old))
      → AreNames new (e + 1)
  names_more old new e key before used is update q =
      let turn : (a b : Bool) → cond a true b ≡ (b || a) = λ a b. elim a as (λ a. cond a true b ≡ (b || a)) [
        | true ↦ elim b as (λ b. true ≡ (b || true)) [ true ↦ refl | false ↦ refl ]
        | false ↦ elim b as (λ b. b ≡ (b || false)) [ true ↦ refl | false ↦ refl ]
      ] in
      update q ∙ turn (pointwise eqb key q) _
      ∙ (λ j. before q j || same_names key q j)
      ∙ ap (λ k. some_below (λ f. not (free f) && same_name (name f) q) e || same_name k q) is
      ∙ ap (λ b. some_below (λ f. not (free f) && same_name (name f) q) e || (not b && same_name (name e) q)) (sym used)
      ∙ sym (some_more (λ f. not (free f) && same_name (name f) q) e)

  -- a free entry has none
  pub names_skip : (keys : List (Bor (List ℕ))) (e : ℕ) → AreNames keys e → free e ≡ true → AreNames keys (e + 1)
  names_skip keys e before is q =
      let nothing : (b : Bool) → b ≡ b || false = λ b. elim b as (λ b. b ≡ b || false) [ true ↦ refl | false ↦ refl ] in
      before q ∙ nothing _
      ∙ ap (λ b. some_below (λ f. not (free f) && same_name (name f) q) e || (not b && same_name (name e) q)) (sym is)
      ∙ sym (some_more (λ f. not (free f) && same_name (name f) q) e)

  -- a name that stands earlier
  pub stands_earlier : (keys : List (Bor (List ℕ))) (e : ℕ) (key : List ℕ) (b : Bool) → AreNames keys e → key ≡ name e
      → b ≡ list_any (λ (k : Bor (List ℕ)). pointwise eqb key k.now) keys → b ≡ some_below (has_name_of form (g i) (v i) n e) e
  stands_earlier keys e key b names is answer = answer ∙ names key ∙ ap (λ k. some_below (λ f. not (free f) && same_name (name f) k) e) is

  -- a free entry isn't bad
  pub free_good : (e : ℕ) → free e ≡ true → is_bad_entry form (g i) (v i) n e ≡ false
  free_good e is = and_left (not (free e)) _ (ap not is)

  -- the three ways to be bad of one that isn't free, and none of them
  pub bad_free : (e : ℕ) → free e ≡ false → (target_at form (g i) (v i) n e == 0) ≡ true
      → is_bad_entry form (g i) (v i) n e ≡ true
  bad_free e used is = and_from (not (free e)) _ (ap not used) (or_left _ _
      (or_left (target_at form (g i) (v i) n e == 0) (nat_le 2 e && not (is_name_field form (g i) (v i) n e)) is))

  pub bad_field : (e : ℕ) → free e ≡ false → (nat_le 2 e && not (is_name_field form (g i) (v i) n e)) ≡ true
      → is_bad_entry form (g i) (v i) n e ≡ true
  bad_field e used is = and_from (not (free e)) _ (ap not used) (or_left _ _
      (or_right (target_at form (g i) (v i) n e == 0) (nat_le 2 e && not (is_name_field form (g i) (v i) n e)) is))

  pub bad_double : (e : ℕ) → free e ≡ false → some_below (has_name_of form (g i) (v i) n e) e ≡ true
      → is_bad_entry form (g i) (v i) n e ≡ true
  bad_double e used is = and_from (not (free e)) _ (ap not used)
      (or_right ((target_at form (g i) (v i) n e == 0) || (nat_le 2 e && not (is_name_field form (g i) (v i) n e))) _ is)

  pub good_entry : (e : ℕ) → (target_at form (g i) (v i) n e == 0) ≡ false
      → (nat_le 2 e && not (is_name_field form (g i) (v i) n e)) ≡ false
      → some_below (has_name_of form (g i) (v i) n e) e ≡ false → is_bad_entry form (g i) (v i) n e ≡ false
  good_entry e a b c = and_right (not (free e)) _ (or_from _ _ (or_from (target_at form (g i) (v i) n e == 0)
      (nat_le 2 e && not (is_name_field form (g i) (v i) n e)) a b) c)
