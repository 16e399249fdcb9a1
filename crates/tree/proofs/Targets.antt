-- The bytes of symbolic links.
use Rattle.std.proofs.Common.{◌≡◌, ◌≢◌, ◌<◌, ◌≤◌, ◌+◌, ◌-◌, ◌*◌, ◌/◌, ◌^◌, ℕ, zero, suc, List, length, false, refl, sym, ap}
use Rattle.std.proofs.Common.{subst, ◌∙◌, arith}
use mathlib.Core.Logic.{inl, inr}
use Rattle.std.specs.Prelude.{Some, ◌==◌, ◌&&◌, not, nat_lt, nat_le, slice_index}
use Rattle.std.specs.List.{All, list_any}
use Rattle.std.proofs.Math.Nat.{le-div_iff_mul-le}
use Rattle.std.proofs.lemmas.Bool.{eqb-true, eqb-false, eq-eqb, ne_eqb, cases_eq, cases_lt, cases_Bool, cond-true, cond_both}
use Rattle.std.proofs.lemmas.Bool.{leb-true, le-leb, lt-ltb, ltb-true, or_cases, or_left, or_right, and_from, and_parts, not-true}
use Rattle.std.proofs.lemmas.Bool.{not_from_false}
use Rattle.std.proofs.lemmas.List.Folds.{list_any_at}
use Rattle.std.proofs.lemmas.List.Elements.{All-get_or}
use Rattle.std.proofs.lemmas.List.{get_or_past}
use Rattle.layout.specs.declared.Geometry.{Geometry}
use Rattle.layout.specs.Places.{IsGeometry}
use Rattle.layout.proofs.Parsed.{block_sizes}
use Rattle.tree.specs.declared.User.{User}
use Rattle.tree.specs.Tree.{Body, File, is_file, is_directory, bytes_from, most_target}
use Rattle.tree.specs.IsTree.{IsFile, IsBody, IsTarget, HasTarget, IsNode}
use Rattle.tree.specs.Changes.{no_bytes, target_file, new_link, file_after_write}
use Rattle.lemmas.proofs.Bools.{false_not_true}
use Rattle.tree.specs.Links.{LinkHasTarget, TargetIsWritten, LinkIsItsTarget}
use Rattle.tree.proofs.OpenFileCalls.{length-bytes_from}
use Rattle.tree.proofs.ReadBack.{bytes_are}

-- a block holds a whole target
pub wide : (g : Geometry) → IsGeometry g → most_target < g.block_size
wide g is = elim (block_sizes g.block_size is.block_size) [
  | inl e ↦ omega (arith, e)
  | inr (inl e) ↦ omega (arith, e)
  | inr (inr e) ↦ omega (arith, e)
]

-- a place past page 0 is past a block
past_block : (p b : ℕ) → 0 < b → p / b ≢ 0 → b ≤ p
past_block p b some far =
    let one : 1 ≤ p / b = elim (cases_eq (p / b) 0) [ inl e ↦ absurd (far e) | inr d ↦ omega (arith, d) ] in
    let h = (le-div_iff_mul-le {k = b} {x = 1} {y = p} some).0 one in
    omega (arith, h)

-- a page past page 0 begins past a block
page_past : (q b : ℕ) → q ≢ 0 → b ≤ q * b
page_past zero b far = absurd (far refl)
page_past (suc q) b far = omega arith

-- The bytes of a target.
module _ (target : List ℕ) (some : (length target == 0) ≡ false) (few : length target ≤ most_target) where
  -- there is one
  one : 0 < length target
  one = let e = eqb-false (length target) 0 some in omega (arith, e)

  -- they are a file
  pub target_fits : (g : Geometry) → IsGeometry g → All (λ b. b < 256) target → IsFile g (target_file target)
  target_fits g is bytes = record {
    size = omega (arith, few);
    held = λ q h. let first = eqb-true q 0 h in subst (λ k. k * g.block_size < length target) (sym first) (omega (arith, one));
    zeros = λ p h. get_or_past target p 0 (elim (or_cases (nat_le (length target) p) (not (p / g.block_size == 0)) h) [
      | inl e ↦ leb-true (length target) p e
      | inr e ↦
          let far = past_block p g.block_size is.sized (eqb-false (p / g.block_size) 0 (not-true _ e)) in
          let all = wide g is in
          omega (arith, far, all, few)
    ]);
    bytes = λ p. elim (cases_lt p (length target)) [
      | inl l ↦ All-get_or (λ b. b < 256) target p 0 l bytes
      | inr l ↦ let none = get_or_past target p 0 l in omega (arith, none)
    ];
  }

  -- and a target
  pub is_target : list_any (λ c. c == 0) target ≡ false → IsTarget (target_file target)
  is_target clean = record {
    some = one;
    few = few;
    bytes = λ p l e. false_not_true (sym clean ∙ list_any_at (λ c. c == 0) target p 0 l (eq-eqb (slice_index target p) 0 e));
  }

  -- and the new link fits
  pub link_fits : (g : Geometry) → IsGeometry g → All (λ b. b < 256) target → list_any (λ c. c == 0) target ≡ false
      → (user : User) (now : ℕ) → user.uid < 2 ^ 16 → user.gid < 2 ^ 16 → now < 2 ^ 32
      → IsNode g (record (new_link now user target) { links = 0 })
  link_fits g is bytes clean user now uid gid small = record {
    permissions = omega arith;
    links = omega arith;
    uid = uid;
    gid = gid;
    atime = small;
    mtime = small;
    ctime = small;
    body = target_fits g is bytes;
    target = λ _. is_target clean;
  }

-- a new link has its target
pub link_has_target : LinkHasTarget
link_has_target now user target =
    ap Some (bytes_are target (slice_index target) 0 (λ j l. let e : 0 + j ≡ j = omega arith in ap (slice_index target) e))

-- a target is what is written into an empty file
pub target_is_written : TargetIsWritten
target_is_written g target is some few = λ i. record { size = size i; byte = λ p. byte p i; held = λ q. held q i }
  where
    new : File
    new = file_after_write g no_bytes 0 target

    size : new.size ≡ length target
    size = cond-true (nat_lt 0 (0 + length target)) (0 + length target) 0 (lt-ltb 0 (0 + length target) (omega (arith, some)))
        ∙ (let e : 0 + length target ≡ length target = omega arith in e)

    byte : (p : ℕ) → new.byte p ≡ slice_index target p
    byte p = elim (cases_lt p (length target)) [
      | inl l ↦
          let same : p - 0 ≡ p = omega arith in
          cond-true (nat_le 0 p && nat_lt p (0 + length target)) (slice_index target (p - 0)) 0
          (and_from (nat_le 0 p) (nat_lt p (0 + length target)) (le-leb 0 p (omega arith))
          (lt-ltb p (0 + length target) (omega (arith, l)))) ∙ ap (slice_index target) same
      | inr l ↦
          let same : p - 0 ≡ p = omega arith in
          cond_both (nat_le 0 p && nat_lt p (0 + length target)) (slice_index target (p - 0)) 0 (λ b. b ≡ slice_index target p)
          (λ _. ap (slice_index target) same)
          (λ _. sym (get_or_past target p 0 l))
    ]

    held : (q : ℕ) → new.held q ≡ (q == 0)
    held q = elim (cases_eq q 0) [
      | inl e ↦
          and_from (nat_lt (q * g.block_size) (0 + length target)) (nat_lt 0 ((q + 1) * g.block_size))
          (lt-ltb (q * g.block_size) (0 + length target) (let z = ap (λ k. k * g.block_size) e in omega (arith, z, some)))
          (lt-ltb 0 ((q + 1) * g.block_size) (let sized = is.sized in omega (arith, sized)))
          ∙ sym (eq-eqb q 0 e)
      | inr d ↦
          let far = page_past q g.block_size d in
          let all = wide g is in
          elim (cases_Bool (new.held q)) [
            | inl h ↦
                let low = ltb-true (q * g.block_size) (0 + length target)
                (and_parts (nat_lt (q * g.block_size) (0 + length target)) (nat_lt 0 ((q + 1) * g.block_size)) h).0 in
                absurd (omega (arith, far, all, few, low))
            | inr h ↦ h ∙ sym (ne_eqb q 0 d)
          ]
    ]

-- a byte of those bytes
byte_from : (byte : ℕ → ℕ) (at k p : ℕ) → p < k → slice_index (bytes_from byte at k) p ≡ byte (at + p)
byte_from byte at zero p l = absurd (omega (arith, l))
byte_from byte at (suc k) zero l = (let e : at ≡ at + 0 = omega arith in ap byte e)
byte_from byte at (suc k) (suc p) l = byte_from byte (suc at) k p (omega (arith, l))
    ∙ (let e : suc at + p ≡ at + suc p = omega arith in ap byte e)

-- bytes that are a target are those of a list
module _ (g : Geometry) (is : IsGeometry g) (f : File) (fits : IsFile g f) (target : IsTarget f) where
  abbrev bytes : List ℕ
  bytes = bytes_from f.byte 0 f.size

  long : length bytes ≡ f.size
  long = length-bytes_from f.byte 0 f.size

  byte_same : (p : ℕ) → f.byte p ≡ slice_index bytes p
  byte_same p = elim (cases_lt p f.size) [
    | inl l ↦ sym (byte_from f.byte 0 f.size p l ∙ (let e : 0 + p ≡ p = omega arith in ap f.byte e))
    | inr l ↦ fits.zeros p (or_left (nat_le f.size p) _ (le-leb f.size p l)) ∙ sym (get_or_past bytes p 0 (omega (arith, long, l)))
  ]

  held_same : (q : ℕ) → f.held q ≡ (q == 0)
  held_same q = elim (cases_eq q 0) [
    | inl e ↦ elim (cases_Bool (f.held q)) [
      | inl held ↦ held ∙ sym (eq-eqb q 0 e)
      | inr hole ↦
          let none : 0 / g.block_size ≡ q = Rattle.std.proofs.Math.Nat.zero-div g.block_size ∙ sym e in
          absurd (target.bytes 0 target.some (fits.zeros 0 (or_right (nat_le f.size 0) _ (not_from_false _ (ap f.held none ∙ hole)))))
    ]
    | inr d ↦ elim (cases_Bool (f.held q)) [
      | inl held ↦
          let far = page_past q g.block_size d in
          let all = wide g is in
          let inside = fits.held q held in
          let few = target.few in
          absurd (omega (arith, far, all, inside, few))
      | inr hole ↦ hole ∙ sym (ne_eqb q 0 d)
    ]
  ]

  same_file : f ≡ target_file bytes
  same_file = λ i. record { size = sym long i; byte = λ p. byte_same p i; held = λ q. held_same q i }

  not_zero : (p : ℕ) → p < length bytes → slice_index bytes p ≢ 0
  not_zero p l e = target.bytes p (omega (arith, long, l)) (byte_same p ∙ e)

-- a link is its target
pub link_is_its_target : LinkIsItsTarget
link_is_its_target g t n node is tree there symbolic = by_body node.body (tree.nodes.each n node there).body
    ((tree.nodes.each n node there).target symbolic)
  where
    by_body : (body : Body) → IsBody g body → HasTarget body → (target : List ℕ)
        × ((1 ≤ length target) × (length target ≤ most_target) × ((p : ℕ) → p < length target → slice_index target p ≢ 0))
        × (body ≡ is_file (target_file target))
    by_body (is_file f) fits target =
        let as_long = long g is f fits target in
        let some = target.some in
        let few = target.few in (
          bytes g is f fits target,
          (omega (arith, as_long, some), omega (arith, as_long, few), not_zero g is f fits target),
          ap is_file (same_file g is f fits target),
        )
    by_body (is_directory d) fits target = absurd target
