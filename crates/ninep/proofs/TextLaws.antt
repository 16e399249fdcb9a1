-- Texts that are read one after the other, as a loop does.
use Rattle.std.proofs.Common.{◌≡◌, ℕ, zero, suc, ◌-◌, ◌+◌, ◌≤◌, ◌<◌, List, [], ◌∷◌, ◌++◌, take, length, Result, Ok, Err, refl, sym, ap}
use Rattle.std.proofs.Common.{subst, ◌∙◌, append_assoc, arith}
use Rattle.std.specs.Int.{w16}
use Rattle.std.specs.List.{flat_map}
use Rattle.std.proofs.lemmas.List.{append-nil, take_at, length-append}
use Rattle.ninep.specs.declared.fault.MalformedMessage.{MalformedMessage}
use Rattle.ninep.specs.Fields.{text_bytes}
use Rattle.ninep.specs.Parts.{◌>>=◌, AreTexts, text_at, texts_at, texts_or_none}
use Rattle.ninep.proofs.FieldLaws.{IsBytes, bind_ok, done, ok_is, texts_take, texts_again}

-- what was read before, and what is still read
abbrev pub with_front : List (List ℕ) → Result (List (List ℕ) × List ℕ) MalformedMessage → Result (List (List ℕ) × List ℕ) MalformedMessage
with_front front read = read >>= λ x. Ok (front ++ x.0, x.1)

-- so many of the texts were read, and these bytes are left
pub record HasRead (count counter : ℕ) (bytes rest : List ℕ) : Type 0 where
  pub front : List (List ℕ)
  pub total : with_front front (texts_at (count - counter) rest) ≡ texts_at count bytes

pub nothing_read : (count : ℕ) (bytes : List ℕ) → HasRead count 0 bytes bytes
nothing_read count bytes =
    let all : count - 0 ≡ count = omega arith in
    record { front = []; total = ap (λ n. with_front [] (texts_at n bytes)) all ∙ same (texts_at count bytes) } where
      same : (read : Result (List (List ℕ) × List ℕ) MalformedMessage) → with_front [] read ≡ read
      same (Ok x) = refl
      same (Err fault) = refl

regroup : (front : List (List ℕ)) (text : List ℕ) (read : Result (List (List ℕ) × List ℕ) MalformedMessage)
    → with_front front (read >>= λ x. Ok (text ∷ x.0, x.1)) ≡ with_front (front ++ text ∷ []) read
regroup front text (Ok x) = ap (λ (texts : List (List ℕ)). Ok (texts, x.1)) (simp append_assoc)
regroup front text (Err fault) = refl

pub goes_on : (count i : ℕ) (bytes rest text after : List ℕ) → i < count → text_at w16 rest ≡ Ok (text, after) → HasRead count i bytes rest
    → HasRead count (i + 1) bytes after
unfolding texts_at
goes_on count i bytes rest text after below is so_far =
    let k : count - i ≡ suc (count - (i + 1)) = omega arith in
    let one : with_front so_far.front (texts_at (count - i) rest)
    ≡ with_front (so_far.front ++ text ∷ []) (texts_at (count - (i + 1)) after) =
    rw (k, is) (regroup so_far.front text (texts_at (count - (i + 1)) after)) in
    record { front = so_far.front ++ text ∷ []; total = sym one ∙ so_far.total }

pub ends : (count i : ℕ) (bytes rest : List ℕ) (fault : MalformedMessage) → i < count → text_at w16 rest ≡ Err fault → HasRead count i bytes rest
    → texts_at count bytes ≡ Err fault
unfolding texts_at
ends count i bytes rest fault below is so_far =
    let k : count - i ≡ suc (count - (i + 1)) = omega arith in
    let one : with_front so_far.front (texts_at (count - i) rest) ≡ Err fault = rw (k, is) refl in
    sym so_far.total ∙ one

pub is_done : (count i : ℕ) (bytes rest : List ℕ) → count ≤ i → HasRead count i bytes rest
    → (texts : List (List ℕ)) × (texts_at count bytes ≡ Ok (texts, rest))
unfolding texts_at
is_done count i bytes rest all so_far =
    let k : count - i ≡ 0 = omega arith in
    let one : with_front so_far.front (texts_at (count - i) rest) ≡ Ok (so_far.front, rest) =
    rw k (ap (λ (texts : List (List ℕ)). Ok (texts, rest)) (append-nil so_far.front)) in
    (so_far.front, sym so_far.total ∙ one)

-- the bytes of texts alone have the same texts
pub same_texts : (count : ℕ) (bytes rest : List ℕ) (texts : List (List ℕ)) → IsBytes bytes → texts_at count bytes ≡ Ok (texts, rest)
    → texts_or_none (texts_at count (take (length bytes - length rest) bytes)) ≡ texts
same_texts count bytes rest texts fits is =
    let t = texts_take count bytes (texts, rest) fits is in
    let own = flat_map text_bytes texts in
    let long : length bytes - length rest ≡ length own = omega (arith, ap length t.0.parts, length-append own rest) in
    let cut : take (length bytes - length rest) bytes ≡ own =
    ap (λ n. take n bytes) long ∙ ap (take (length own)) t.0.parts ∙ take_at own rest (length own) refl in
    let again : texts_at count own ≡ Ok (texts, []) =
    ap (λ n. texts_at n own) (sym t.1) ∙ ap (texts_at (length texts)) (sym (append-nil own)) ∙ texts_again texts [] t.2 in
    ap (λ b. texts_or_none (texts_at count b)) cut ∙ ap texts_or_none again

-- what is behind texts is no longer
pub is_shorter : (count : ℕ) (bytes rest : List ℕ) (texts : List (List ℕ)) → IsBytes bytes → texts_at count bytes ≡ Ok (texts, rest)
    → length rest ≤ length bytes
is_shorter count bytes rest texts fits is =
    let t = texts_take count bytes (texts, rest) fits is in
    omega (arith, ap length t.0.parts, length-append (flat_map text_bytes texts) rest)

-- what was read whole
own_texts : (read : Result (List (List ℕ) × List ℕ) MalformedMessage) (texts : List (List ℕ)) → read ≡ Ok (texts, [])
    → read ≡ Ok (texts_or_none read, [])
own_texts read texts is = is ∙ ap (λ (ts : List (List ℕ)). Ok (ts, [])) (sym (ap texts_or_none is))

-- the bytes of texts alone are these texts, and nothing else
pub are_texts : (count : ℕ) (bytes rest : List ℕ) (texts : List (List ℕ)) → IsBytes bytes → texts_at count bytes ≡ Ok (texts, rest)
    → AreTexts count (take (length bytes - length rest) bytes)
are_texts count bytes rest texts fits is =
    let t = texts_take count bytes (texts, rest) fits is in
    let own = flat_map text_bytes texts in
    let long : length bytes - length rest ≡ length own = omega (arith, ap length t.0.parts, length-append own rest) in
    let cut : take (length bytes - length rest) bytes ≡ own =
    ap (λ n. take n bytes) long ∙ ap (take (length own)) t.0.parts ∙ take_at own rest (length own) refl in
    let again : texts_at count own ≡ Ok (texts, []) =
    ap (λ n. texts_at n own) (sym t.1) ∙ ap (texts_at (length texts)) (sym (append-nil own)) ∙ texts_again texts [] t.2 in
    own_texts (texts_at count (take (length bytes - length rest) bytes)) texts (ap (texts_at count) cut ∙ again)

-- the first of some texts, and the others
split_texts : (n : ℕ) (bytes : List ℕ) (x : List ℕ × List ℕ) → AreTexts (suc n) bytes → text_at w16 bytes ≡ Ok x
    → AreTexts n x.1 × (texts_or_none (texts_at (suc n) bytes) ≡ x.0 ∷ texts_or_none (texts_at n x.1))
unfolding texts_at
split_texts n bytes x are is =
    let texts = texts_or_none (texts_at (suc n) bytes) in
    let a = bind_ok (text_at w16 bytes) (λ first. texts_at n first.1 >>= λ others. Ok (first.0 ∷ others.0, others.1)) (texts, []) are in
    let b = bind_ok (texts_at n a.0.1) (λ others. Ok (a.0.0 ∷ others.0, others.1)) (texts, []) a.2 in
    let same : a.0 ≡ x = ok_is a.0 x (sym a.1 ∙ is) in
    let whole = ok_is (a.0.0 ∷ b.0.0, b.0.1) (texts, []) b.2 in
    let nothing : b.0.1 ≡ [] = ap (λ (p : List (List ℕ) × List ℕ). p.1) whole in
    let others : texts_at n a.0.1 ≡ Ok (b.0.0, []) = b.1 ∙ ap (λ (r : List ℕ). Ok (b.0.0, r)) nothing in
    let all : texts ≡ a.0.0 ∷ b.0.0 = sym (ap (λ (p : List (List ℕ) × List ℕ). p.0) whole) in
    subst (λ (y : List ℕ × List ℕ). AreTexts n y.1 × (texts_or_none (texts_at (suc n) bytes) ≡ y.0 ∷ texts_or_none (texts_at n y.1))) same
    (own_texts (texts_at n a.0.1) b.0.0 others, all ∙ ap (λ (ts : List (List ℕ)). a.0.0 ∷ ts) (sym (ap texts_or_none others)))

-- so many texts are no fewer
texts_count : (n : ℕ) (bytes : List ℕ) (x : List (List ℕ) × List ℕ) → texts_at n bytes ≡ Ok x → length x.0 ≡ n
unfolding texts_at
texts_count zero bytes x is = sym (ap (λ (p : List (List ℕ) × List ℕ). length p.0) (ok_is ([], bytes) x is))
texts_count (suc n) bytes x is =
    let a = bind_ok (text_at w16 bytes) (λ first. texts_at n first.1 >>= λ others. Ok (first.0 ∷ others.0, others.1)) x is in
    let b = bind_ok (texts_at n a.0.1) (λ others. Ok (a.0.0 ∷ others.0, others.1)) x a.2 in
    sym (ap (λ (p : List (List ℕ) × List ℕ). length p.0) (ok_is (a.0.0 ∷ b.0.0, b.0.1) x b.2)) ∙ ap suc (texts_count n a.0.1 b.0 b.1)

pub count_is : (n : ℕ) (bytes : List ℕ) → AreTexts n bytes → length (texts_or_none (texts_at n bytes)) ≡ n
count_is n bytes are = texts_count n bytes (texts_or_none (texts_at n bytes), []) are

-- of none there is none
pub none_at : (n : ℕ) (bytes : List ℕ) → n ≡ 0 → texts_or_none (texts_at n bytes) ≡ []
unfolding texts_at
none_at n bytes is = ap (λ k. texts_or_none (texts_at k bytes)) is

-- where there are some, the first can be read
pub first_is_read : {X : Type 0} (n : ℕ) (bytes : List ℕ) (fault : MalformedMessage) → (n ≡ 0 → ⊥) → AreTexts n bytes → text_at w16 bytes ≡ Err fault
    → X
unfolding texts_at
first_is_read zero bytes fault some are is = absurd (some refl)
first_is_read (suc n) bytes fault some are is =
    let texts = texts_or_none (texts_at (suc n) bytes) in
    let a = bind_ok (text_at w16 bytes) (λ first. texts_at n first.1 >>= λ others. Ok (first.0 ∷ others.0, others.1)) (texts, []) are in
    absurd (not_both a.0 (sym a.1 ∙ is))
  where
    not_both : (x : List ℕ × List ℕ) → done x ≡ Err fault → ⊥
    not_both x e = cc

-- and the others stand behind it
pub split_some : (n : ℕ) (bytes : List ℕ) (x : List ℕ × List ℕ) → (n ≡ 0 → ⊥) → AreTexts n bytes → text_at w16 bytes ≡ Ok x
    → AreTexts (n - 1) x.1 × (texts_or_none (texts_at n bytes) ≡ x.0 ∷ texts_or_none (texts_at (n - 1) x.1))
split_some zero bytes x some are is = absurd (some refl)
split_some (suc n) bytes x some are is =
    let less : n ≡ suc n - 1 = omega arith in
    subst (λ (k : ℕ). AreTexts k x.1 × (texts_or_none (texts_at (suc n) bytes) ≡ x.0 ∷ texts_or_none (texts_at k x.1))) less
    (split_texts n bytes x are is)
