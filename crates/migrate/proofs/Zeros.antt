-- Zeros behind bytes.
use Rattle.std.proofs.Common.{◌≡◌, ◌<◌, ◌≤◌, ◌-◌, ◌*◌, ◌++◌, ℕ, List, length, take, drop, replicate, slice_index, refl, sym, ap, ◌∙◌}
use mathlib.Core.Logic.{inl, inr}
use Rattle.std.proofs.lemmas.Bool.{cases_lt}
use Rattle.std.proofs.lemmas.List.{get_or_append_left, get_or-append_right, get_or_past, get_or-take, take_all, take_at}
use Rattle.layout.specs.declared.Geometry.{Geometry}
use Rattle.lemmas.proofs.Lists.{zero_at}
use Rattle.new_volume.specs.Image.{filled_image}
use Rattle.new_volume.proofs.Parts.{filled_at}

-- they say no more than there is past the end
zeros_after : (bytes : List ℕ) (n p : ℕ) → slice_index (bytes ++ replicate n 0) p ≡ slice_index bytes p
zeros_after bytes n p = elim (cases_lt p (length bytes)) [
  | inl inside ↦ get_or_append_left bytes (replicate n 0) 0 p inside
  | inr past ↦
      get_or-append_right bytes (replicate n 0) (length bytes) p 0 refl past ∙ zero_at n (p - length bytes)
      ∙ sym (get_or_past bytes p 0 past)
]

-- the beginning of an image, as its tables begin with it
pub begun_byte : (h : Geometry) (front cut zeroed bare : List ℕ) (size k p : ℕ) → cut ≡ take size front
    → zeroed ≡ take size cut ++ replicate k 0 → bare ≡ zeroed → p < size → slice_index bare p ≡ slice_index (filled_image h front) p
begun_byte h front cut zeroed bare size k p a b c inside =
    ap (λ l. slice_index l p) (c ∙ b) ∙ zeros_after (take size cut) k p ∙ get_or-take size cut p 0 inside
    ∙ ap (λ l. slice_index l p) a ∙ get_or-take size front p 0 inside ∙ sym (filled_at front (h.zones * h.block_size) p)

-- an image with zeros up to its end
pub ended_byte : (bytes lent image : List ℕ) (size k p : ℕ) → lent ≡ bytes → length bytes ≤ size → image ≡ take size lent ++ replicate k 0
    → slice_index image p ≡ slice_index bytes p
ended_byte bytes lent image size k p same fits is =
    ap (λ l. slice_index l p) is ∙ zeros_after (take size lent) k p ∙ ap (λ l. slice_index (take size l) p) same
    ∙ ap (λ l. slice_index l p) (take_all size bytes fits)

-- bytes that are given back as long as they were lent
pub given_back : (n : ℕ) (new old : List ℕ) → length new ≡ n → take n (new ++ drop (length new) old) ≡ new
given_back n new old long = take_at new (drop (length new) old) n long
