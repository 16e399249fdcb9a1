-- The media and drivers as lists and slots, against the code's fields.
use Rattle.std.proofs.Common.{◌≡◌, ℕ, zero, suc, ◌+◌, ◌<◌, List, [], ◌∷◌, ◌++◌, Bool, true, false, Option, Some, refl, sym, ◌∙◌, ap, subst, arith, length}
use Rattle.std.specs.Prelude.{◌≤◌, ◌↔◌, map, slice_get, slice_set, slice_index_or, Result, Ok, Err, OnOk, OnErr}
use Rattle.message.specs.declared.endpoint.Endpoint.{Endpoint}
use Rattle.message.specs.declared.BlockRequest.{BlockRequest}
use Rattle.media.specs.Contents.{MediaState}
use Rattle.bdev.specs.declared.Step.{Step}
use Rattle.schedule.specs.declared.Sent.{Sent}
use Rattle.reissue.specs.declared.link.LinkRefusal.{LinkRefusal}
use Rattle.reissue.specs.declared.link.LinkRefusal.TheVariants.{DeadEndpoint, Full}
use Rattle.simulated_link.specs.Disks.{is_at, LinesUp, NoneIsThere, LineIsFull, IsLinedUp, lined_up, Slot, Disks, SlotSteps, Steps, CurrentSteps, OlderSteps, IsOlder, sent_at, torn_media, dead_slot, Dies, CurrentDies, OlderDies, hung_slot, Hangs, OlderHangs, lined, LinesUpAgain, CurrentLinesUp, OlderLinesUp}

pub map_push : {A B : Type 0} (f : A → B) (xs : List A) (x : A) → map f (xs ++ x ∷ []) ≡ map f xs ++ f x ∷ []
map_push f [] x = refl
map_push {A} {B} f (y ∷ xs) x = ap (λ (l : List B). f y ∷ l) (map_push f xs x)

pub map_set : {A B : Type 0} (f : A → B) (xs : List A) (i : ℕ) (x : A) → map f (slice_set xs i x) ≡ slice_set (map f xs) i (f x)
map_set f [] i x = refl
map_set f (y ∷ xs) zero x = refl
map_set {A} {B} f (y ∷ xs) (suc i) x = ap (λ (l : List B). f y ∷ l) (map_set f xs i x)

pub map_get : {A B : Type 0} (f : A → B) (xs : List A) (i : ℕ) (x : A) → i < length xs → x ≡ slice_index_or xs i x → slice_get (map f xs) i ≡ Some (f x)
map_get f [] i x low is = absurd (omega (arith, low))
map_get {A} {B} f (y ∷ xs) zero x low is = ap (λ (z : A). Some (f z)) (sym is)
map_get f (y ∷ xs) (suc i) x low is = map_get f xs i x (omega (arith, low)) is

-- a driver started before the last one
pub is_older : {A : Type 0} (f : A → Slot) (units : List A) (b : Disks) (g at : ℕ) (u : A) → b.older ≡ map f units → g ≡ at + 1
    → g < b.media.generation → at < length units → u ≡ slice_index_or units at u → IsOlder g b at (f u)
is_older f units b g at u is number before low there = record {
  number = number;
  older = before;
  there = subst (λ (l : List Slot). slice_get l at ≡ Some (f u)) (sym is) (map_get f units at u low there);
}

-- one thing stands there
same_there : {A : Type 0} (xs : List A) (i : ℕ) (x y : A) → i < length xs → x ≡ slice_index_or xs i x → y ≡ slice_index_or xs i y → x ≡ y
same_there [] i x y low is same = absurd (omega (arith, low))
same_there (z ∷ xs) zero x y low is same = is ∙ sym same
same_there (z ∷ xs) (suc i) x y low is same = same_there xs i x y (omega (arith, low)) is same

-- a step of the current driver, by its parts
pub current_steps : (place g : ℕ) (b : Disks) (step : Step) (a : Slot) (m : MediaState) (sent : List Sent) → g ≡ b.media.generation → b.current.live ≡ true
    → SlotSteps g b.current b.media step a m → sent ≡ sent_at place g step b.sent
    → Steps place g b (Some step) (record b { media = m; current = a; sent = sent })
current_steps place g b step a m sent is live s e =
    subst (λ (l : List Sent). Steps place g b (Some step) (record b { media = m; current = a; sent = l })) (sym e) (CurrentSteps step a m is live s)

-- of an older one: u is what was looked at, w what was lent, v what it became
pub older_steps : {A : Type 0} (f : A → Slot) (units : List A) (place g : ℕ) (b : Disks) (at : ℕ) (u w v : A) (step : Step) (m : MediaState) (sent : List Sent)
    → b.older ≡ map f units → g ≡ at + 1 → g < b.media.generation → at < length units
    → u ≡ slice_index_or units at u → w ≡ slice_index_or units at w → (f u).live ≡ true → SlotSteps g (f w) b.media step (f v) m
    → sent ≡ sent_at place g step b.sent
    → Steps place g b (Some step) (record b { media = m; older = map f (slice_set units at v); sent = sent })
older_steps {A} f units place g b at u w v step m sent is number before low there lent live s e =
    let older : map f (slice_set units at v) ≡ slice_set b.older at (f v) =
    map_set f units at v ∙ ap (λ (l : List Slot). slice_set l at (f v)) (sym is) in
    subst (λ (l : List Sent). Steps place g b (Some step) (record b { media = m; older = map f (slice_set units at v); sent = l })) (sym e)
    (subst (λ (l : List Slot). Steps place g b (Some step) (record b { media = m; older = l; sent = sent_at place g step b.sent })) (sym older)
    (OlderSteps at (f w) (f v) step m (is_older f units b g at w is number before low lent)
    (subst (λ (x : A). (f x).live ≡ true) (same_there units at u w low there lent) live) s))

-- the current driver dies
pub current_dies : (g : ℕ) (bytes : Option (List ℕ)) (b : Disks) (m : MediaState) (sector : Option ℕ) → g ≡ b.media.generation → b.current.live ≡ true
    → sector ≡ b.current.state.in_work → m ≡ torn_media b.media g sector bytes
    → Dies g bytes b true (record b { media = m; current = dead_slot b.current })
current_dies g bytes b m sector is live names torn =
    subst (λ (x : MediaState). Dies g bytes b true (record b { media = x; current = dead_slot b.current }))
    (sym (torn ∙ ap (λ (o : Option ℕ). torn_media b.media g o bytes) names)) (CurrentDies is live)

-- an older one
pub older_dies : {A : Type 0} (f : A → Slot) (units : List A) (g : ℕ) (bytes : Option (List ℕ)) (b : Disks) (at : ℕ) (u w v : A)
    → b.older ≡ map f units → g ≡ at + 1 → g < b.media.generation → at < length units
    → u ≡ slice_index_or units at u → w ≡ slice_index_or units at w → (f u).live ≡ true → f v ≡ dead_slot (f w)
    → Dies g bytes b true (record b { older = map f (slice_set units at v) })
older_dies {A} f units g bytes b at u w v is number before low there lent live died =
    let older : map f (slice_set units at v) ≡ slice_set b.older at (dead_slot (f w)) =
    map_set f units at v ∙ ap (λ (l : List Slot). slice_set l at (f v)) (sym is) ∙ ap (λ (x : Slot). slice_set b.older at x) died in
    subst (λ (l : List Slot). Dies g bytes b true (record b { older = l })) (sym older)
    (OlderDies at (f w) (is_older f units b g at w is number before low lent)
    (subst (λ (x : A). (f x).live ≡ true) (same_there units at u w low there lent) live))

pub older_hangs : {A : Type 0} (f : A → Slot) (units : List A) (g : ℕ) (b : Disks) (at : ℕ) (w v : A)
    → b.older ≡ map f units → g ≡ at + 1 → g < b.media.generation → at < length units → w ≡ slice_index_or units at w → f v ≡ hung_slot (f w)
    → Hangs g b (record b { older = map f (slice_set units at v) })
older_hangs {A} f units g b at w v is number before low lent hangs =
    let older : map f (slice_set units at v) ≡ slice_set b.older at (hung_slot (f w)) =
    map_set f units at v ∙ ap (λ (l : List Slot). slice_set l at (f v)) (sym is) ∙ ap (λ (x : Slot). slice_set b.older at x) hangs in
    subst (λ (l : List Slot). Hangs g b (record b { older = l })) (sym older) (OlderHangs at (f w) (is_older f units b g at w is number before low lent))

-- a request goes again to the line of the current driver
pub current_lines : (g : ℕ) (r : BlockRequest) (b : Disks) (line : List BlockRequest) → g ≡ b.media.generation → b.current.live ≡ true
    → length b.current.line < 16 → line ≡ b.current.line ++ r ∷ []
    → LinesUpAgain g r b (record b { current = record (b.current) { line = line } })
current_lines g r b line is live few lined =
    subst (λ (l : List BlockRequest). LinesUpAgain g r b (record b { current = record (b.current) { line = l } })) (sym lined) (CurrentLinesUp is live few)

-- of an older one, which was looked at twice
pub older_lines : {A : Type 0} (f : A → Slot) (units : List A) (g : ℕ) (r : BlockRequest) (b : Disks) (at : ℕ) (u x w v : A)
    → b.older ≡ map f units → g ≡ at + 1 → g < b.media.generation → at < length units
    → u ≡ slice_index_or units at u → x ≡ slice_index_or units at x → w ≡ slice_index_or units at w → (f u).live ≡ true → length (f x).line < 16
    → f v ≡ lined r (f w) → LinesUpAgain g r b (record b { older = map f (slice_set units at v) })
older_lines {A} f units g r b at u x w v is number before low there again lent live few lines =
    let older : map f (slice_set units at v) ≡ slice_set b.older at (lined r (f w)) =
    map_set f units at v ∙ ap (λ (l : List Slot). slice_set l at (f v)) (sym is) ∙ ap (λ (y : Slot). slice_set b.older at y) lines in
    subst (λ (l : List Slot). LinesUpAgain g r b (record b { older = l })) (sym older)
    (OlderLinesUp at (f w) (is_older f units b g at w is number before low lent)
    (subst (λ (y : A). (f y).live ≡ true) (same_there units at u w low there lent) live)
    (subst (λ (y : A). length (f y).line < 16) (same_there units at x w low again lent) few))

-- the line after a push
pub lined_slot : (s : Slot) (r : BlockRequest) (line : List BlockRequest) → line ≡ s.line ++ r ∷ [] → record s { line = line } ≡ lined r s
lined_slot s r line is = ap (λ (l : List BlockRequest). record s { line = l }) is

-- a post, by what came of it
pub lines_up : (to : Endpoint) (r : BlockRequest) (b a : Disks) (result : Result Unit LinkRefusal) → ((result ≡ Err DeadEndpoint) ↔ (is_at to b ≡ false))
    → ((result ≡ Err Full) ↔ ((is_at to b ≡ true) × (32 ≤ length b.current.line))) → OnOk result (a ≡ lined_up r b) → OnErr result (a ≡ b)
    → LinesUp to r b result a
lines_up to r b a (Ok tt) dead full lined refused = by (is_at to b) refl where
  not_dead : ◌≡◌ {A = Result Unit LinkRefusal} (Ok tt) (Err DeadEndpoint) → ⊥
  not_dead h = cc

  not_full : ◌≡◌ {A = Result Unit LinkRefusal} (Ok tt) (Err Full) → ⊥
  not_full h = cc

  by : (there : Bool) → is_at to b ≡ there → LinesUp to r b (Ok tt) a
  by false is = absurd (not_dead (dead.1 is))
  by true is = subst (λ (d : Disks). LinesUp to r b (Ok tt) d) (sym lined) (IsLinedUp is (few (length b.current.line) (λ many. not_full (full.1 (is, many))))) where
    few : (n : ℕ) → (32 ≤ n → ⊥) → n < 32
    few n none = omega (arith, none)
lines_up to r b a (Err DeadEndpoint) dead full lined refused = subst (λ (d : Disks). LinesUp to r b (Err DeadEndpoint) d) (sym refused) (NoneIsThere (dead.0 refl))
lines_up to r b a (Err Full) dead full lined refused =
    subst (λ (d : Disks). LinesUp to r b (Err Full) d) (sym refused) (LineIsFull (full.0 refl).0 (full.0 refl).1)
