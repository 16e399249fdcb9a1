-- Writes one after another.
use Rattle.std.proofs.Common.{◌≡◌, ℕ, ◌+◌, ◌-◌, ◌≤◌, ◌<◌, List, ◌++◌, length, take, drop, sym, ap, ◌∙◌, append_assoc, arith, length-append, length-drop}
use Rattle.std.proofs.lemmas.Grind.{common_steps}
use Rattle.std.proofs.Math.Seq.{take-add}
use Rattle.std.specs.Prelude.{Option, Some, None, Result, Ok, Err, OnOk, OnErr}
use Rattle.std.specs.Io.KnownBytes.{Appends}
use Rattle.std.proofs.lemmas.List.{take-append-drop}
use Rattle.output.specs.Output.{AppendsPart}

pub appends_more : (a b c : Option (List ℕ)) (p q : List ℕ) → Appends a b p → Appends b c q → Appends a c (p ++ q)
appends_more None b c p q h k = tt
appends_more (Some xs) None c p q h k = absurd h
appends_more (Some xs) (Some ys) None p q h k = absurd k
appends_more (Some xs) (Some ys) (Some zs) p q h k = k ∙ ap (λ l. l ++ q) h ∙ append_assoc xs p q

-- the front of a text is a part of it, where some is left
pub part_of_front : (a b : Option (List ℕ)) (text : List ℕ) (n : ℕ) → n < length text → Appends a b (take n text) → AppendsPart a b text
part_of_front a b text n less h = (take n text, drop n text, sym (take-append-drop n text), omega (arith, length-drop n text), h)

-- a part of what comes next is a part of the whole
pub part_of_more : (a b c : Option (List ℕ)) (done line more all : List ℕ) → all ≡ done ++ (line ++ more) → Appends a b done → AppendsPart b c line → AppendsPart a c all
part_of_more a b c done line more all whole h (part, rest, split, some, k) = (
  done ++ part,
  rest ++ more,
  whole ∙ ap (λ l. done ++ (l ++ more)) split ∙ ap (λ l. done ++ l) (append_assoc part rest more) ∙ sym (append_assoc done part (rest ++ more)),
  omega (arith, length-append rest more),
  appends_more a b c done part h k,
)

-- the front of a text grows by the front of what is left
pub front_more : (a b c : Option (List ℕ)) (text : List ℕ) (at n : ℕ) → at ≤ length text → Appends a b (take at text)
    → n ≤ length (take (length text - at) (drop at text)) → Appends b c (take n (take (length text - at) (drop at text)))
    → (at + n ≤ length text) × Appends a c (take (at + n) text)
front_more a b c text at n within h few k =
    let whole : take (length text - at) (drop at text) ≡ drop at text = grind (arith, common_steps) in
    let size : n ≤ length (drop at text) = rw (sym whole) few in
    let left : length (drop at text) ≡ length text - at = length-drop at text in
    let more : Appends b c (take n (drop at text)) = rw (sym whole) k in
    (omega arith, rw (take-add at n text) (appends_more a b c (take at text) (take n (drop at text)) h more))

pub on_err : {A E : Type 0} (r : Result A E) (P : Type 0) → P → OnErr r P
on_err (Ok x) P p = tt
on_err (Err e) P p = p

-- a part of a front is a part of the whole
pub part_of_whole : (a b : Option (List ℕ)) (front back : List ℕ) → AppendsPart a b front → AppendsPart a b (front ++ back)
part_of_whole a b front back (part, rest, split, some, h) =
    (part, rest ++ back, ap (λ l. l ++ back) split ∙ append_assoc part rest back, omega (arith, length-append rest back), h)

-- a front and a part of the back are a part of the whole
pub part_of_back : (a b c : Option (List ℕ)) (front back : List ℕ) → Appends a b front → AppendsPart b c back → AppendsPart a c (front ++ back)
part_of_back a b c front back h (part, rest, split, some, k) =
    (front ++ part, rest, ap (λ l. front ++ l) split ∙ sym (append_assoc front part rest), some, appends_more a b c front part h k)

-- two writes one after the other: all of both, or all of the first and a part of the second
pub second_ok : {E : Type 0} (r : Result (Unit {0}) E) (a b c : Option (List ℕ)) (front back : List ℕ) → Appends a b front → OnOk r (Appends b c back) → OnOk r (Appends a c (front ++ back))
second_ok (Ok x) a b c front back h k = appends_more a b c front back h k
second_ok (Err e) a b c front back h k = tt

pub second_err : {E : Type 0} (r : Result (Unit {0}) E) (a b c : Option (List ℕ)) (front back : List ℕ) → Appends a b front → OnErr r (AppendsPart b c back) → OnErr r (AppendsPart a c (front ++ back))
second_err (Ok x) a b c front back h k = tt
second_err (Err e) a b c front back h k = part_of_back a b c front back h k
