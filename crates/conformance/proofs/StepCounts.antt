-- How many steps there were for an id as groups and replies grow, how many sectors were moved, and where a new reply stands.
use Rattle.std.proofs.Common.{◌≡◌, ℕ, zero, suc, ◌+◌, ◌-◌, ◌*◌, ◌/◌, ◌%◌, ◌<◌, ◌≤◌, List, [], ◌∷◌, ◌++◌, length, Bool, true, false, refl, sym, ◌∙◌, ap, subst, arith}
use Rattle.std.proofs.lemmas.Bool.Decides.{nat_tests}
use Rattle.std.proofs.lemmas.List.{length-map, length-reverse, reverse-append}
use Rattle.std.specs.Prelude.{◌&&◌, ◌||◌, ◌==◌, drop, map, Option, Some, None, Result, Ok, Err, IsTrue, if◌then◌else◌, slice_get}
use Rattle.lemmas.proofs.Bools.{and_or_neither}
use Rattle.errno.specs.declared.Errno.{Errno}
use Rattle.bdev.specs.declared.Run.{Run}
use Rattle.bdev.specs.DriverState.{Work}
use Rattle.bdev.specs.Promises.{MayAnswer}
use Rattle.records.specs.Marks.{Mark}
use Rattle.schedule.specs.declared.Sent.{Sent}
use Rattle.schedule.specs.declared.Event.{Event}
use Rattle.schedule.specs.declared.Event.TheVariants as event
use Rattle.schedule.specs.Groups.{Group, event_of, schedule_of, first_groups, Each}
use Rattle.schedule.specs.Drivers.{is_issued_to}
use Rattle.schedule.specs.Replies.{has_sent_at, is_step_of, steps_for, bytes_of}
use Rattle.conformance.proofs.FollowLaws.{same_number}

-- the replies sent at this event or later
abbrev pub AreLater : ℕ → List Sent → Type 0
AreLater n more = Each (λ s. n ≤ s.place) more

later_below : (m n : ℕ) (more : List Sent) → m ≤ n → AreLater n more → AreLater m more
later_below m n [] below later = tt
later_below m n (s ∷ more) below later = (omega (arith, below, later.0), later_below m n more below later.1)

-- none of the later replies is sent at an earlier event
none_sent_later : (g place n : ℕ) (more : List Sent) → place < n → AreLater n more → has_sent_at g place more ≡ false
none_sent_later g place n [] before later = refl
none_sent_later g place n (s ∷ more) before later =
    let other : (s.place == place) ≡ false = grind (arith, nat_tests, before, later.0) in
    and_or_neither (s.reply.from.generation == g) (s.place == place) (has_sent_at g place more) other (none_sent_later g place n more before later.1)

sent_append : (g place n : ℕ) (sent more : List Sent) → place < n → AreLater n more → has_sent_at g place (sent ++ more) ≡ has_sent_at g place sent
sent_append g place n [] more before later = none_sent_later g place n more before later
sent_append g place n (s ∷ sent) more before later =
    ap (λ (rest : Bool). ((s.reply.from.generation == g) && (s.place == place)) || rest) (sent_append g place n sent more before later)

-- later replies leave the steps that there were for an id
pub steps_append : (g id : ℕ) (sent more : List Sent) (groups : List Group) → AreLater (length groups) more → steps_for g id (sent ++ more) groups ≡ steps_for g id sent groups
steps_append g id sent more [] later = refl
steps_append g id sent more ((event, group) ∷ earlier) later =
    let sooner : AreLater (length earlier) more = later_below (length earlier) (length ((event, group) ∷ earlier)) more (omega arith) later in
    let here : has_sent_at g (length earlier) (sent ++ more) ≡ has_sent_at g (length earlier) sent =
    sent_append g (length earlier) (length ((event, group) ∷ earlier)) sent more (omega arith) later in
    ap (λ (b : Bool). if is_issued_to g id group || b then 0 else (if is_step_of g event then steps_for g id (sent ++ more) earlier + 1 else steps_for g id (sent ++ more) earlier)) here
    ∙ ap (λ (n : ℕ). if is_issued_to g id group || has_sent_at g (length earlier) sent then 0 else (if is_step_of g event then n + 1 else n))
    (steps_append g id sent more earlier sooner)

-- of the replies so far none was sent at the next event
pub sent_there : (g place : ℕ) (sent more : List Sent) → Each (λ s. s.place < place) sent → has_sent_at g place (sent ++ more) ≡ has_sent_at g place more
sent_there g place [] more low = refl
sent_there g place (s ∷ sent) more low =
    let other : (s.place == place) ≡ false = grind (arith, nat_tests, low.0) in
    skip (s.reply.from.generation == g) (s.place == place) other ∙ sent_there g place sent more low.1 where
      skip : (a b : Bool) → b ≡ false → ((a && b) || has_sent_at g place (sent ++ more)) ≡ has_sent_at g place (sent ++ more)
      skip true b none = ap (λ (x : Bool). x || has_sent_at g place (sent ++ more)) none
      skip false b none = refl

-- the steps after one event more, which issues the id not again, and at which the driver sends nothing
steps_next : (g id : ℕ) (sent : List Sent) (event : Event) (marks : List Mark) (groups : List Group) → is_issued_to g id marks ≡ false
    → has_sent_at g (length groups) sent ≡ false
    → steps_for g id sent ((event, marks) ∷ groups) ≡ (if is_step_of g event then steps_for g id sent groups + 1 else steps_for g id sent groups)
steps_next g id sent event marks groups none silent =
    ap (λ (b : Bool). if b || has_sent_at g (length groups) sent then 0 else (if is_step_of g event then steps_for g id sent groups + 1 else steps_for g id sent groups)) none
    ∙ ap (λ (b : Bool). if b then 0 else (if is_step_of g event then steps_for g id sent groups + 1 else steps_for g id sent groups)) silent

pub steps_more : (g id : ℕ) (sent : List Sent) (event : Event) (marks : List Mark) (groups : List Group) → is_issued_to g id marks ≡ false
    → has_sent_at g (length groups) sent ≡ false → steps_for g id sent groups ≤ steps_for g id sent ((event, marks) ∷ groups)
steps_more g id sent event marks groups none silent =
    subst (λ (n : ℕ). steps_for g id sent groups ≤ n) (sym (steps_next g id sent event marks groups none silent)) (by (is_step_of g event) (steps_for g id sent groups)) where
      by : (b : Bool) (n : ℕ) → n ≤ (if b then n + 1 else n)
      by true n = omega arith
      by false n = omega arith

-- one step more of its own
pub steps_one_more : (g id : ℕ) (sent : List Sent) (marks : List Mark) (groups : List Group) → is_issued_to g id marks ≡ false
    → has_sent_at g (length groups) sent ≡ false → steps_for g id sent ((event.Step g, marks) ∷ groups) ≡ steps_for g id sent groups + 1
steps_one_more g id sent marks groups none silent =
    steps_next g id sent (event.Step g) marks groups none silent
    ∙ ap (λ (b : Bool). if b then steps_for g id sent groups + 1 else steps_for g id sent groups) (same_number g)

-- marks that issue nothing of this leave the steps that there were
pub steps_within : (g id : ℕ) (sent : List Sent) (event : Event) (group now : List Mark) (earlier : List Group) → is_issued_to g id now ≡ is_issued_to g id group
    → steps_for g id sent ((event, now) ∷ earlier) ≡ steps_for g id sent ((event, group) ∷ earlier)
steps_within g id sent event group now earlier same =
    ap (λ (b : Bool). if b || has_sent_at g (length earlier) sent then 0 else (if is_step_of g event then steps_for g id sent earlier + 1 else steps_for g id sent earlier)) same

-- how many sectors below the n-th were moved
abbrev pub moved_below : (ℕ → Bool) → ℕ → ℕ
moved_below moved zero = 0
moved_below moved (suc n) = (if moved n then 1 else 0) + moved_below moved n

pub none_moved : (moved : ℕ → Bool) → ((k : ℕ) → moved k ≡ false) → (n : ℕ) → moved_below moved n ≡ 0
none_moved moved none zero = refl
none_moved moved none (suc n) = by (moved n) (none n) (none_moved moved none n) where
  by : (b : Bool) → b ≡ false → moved_below moved n ≡ 0 → ((if b then 1 else 0) + moved_below moved n) ≡ 0
  by true is rest = cc
  by false is rest = omega (arith, rest)

abbrev one_below : ℕ → ℕ → ℕ
one_below j zero = 0
one_below j (suc n) = (if n == j then 1 else 0) + one_below j n

one_or_none : (j n : ℕ) → ((n ≤ j) → one_below j n ≡ 0) × (one_below j n ≤ 1)
one_or_none j zero = (λ low. refl, omega arith)
one_or_none j (suc n) = by (n == j) refl (one_or_none j n) where
  by : (b : Bool) → (n == j) ≡ b → ((n ≤ j) → one_below j n ≡ 0) × (one_below j n ≤ 1)
      → ((suc n ≤ j) → ((if b then 1 else 0) + one_below j n) ≡ 0) × (((if b then 1 else 0) + one_below j n) ≤ 1)
  by true is h =
      let e : n ≡ j = grind (arith, nat_tests, is) in
      let z : one_below j n ≡ 0 = h.0 (omega (arith, e)) in
      (λ low. absurd (no e low), omega (arith, z)) where
        no : n ≡ j → suc n ≤ j → ⊥
        no e low = omega (arith, e, low)
  by false is h = (λ low. let z : one_below j n ≡ 0 = h.0 (omega (arith, low)) in omega (arith, z), omega (arith, h.1))

more_by_one : (was now : ℕ → Bool) (j : ℕ) → ((k : ℕ) → now k ≡ (was k || (k == j))) → (n : ℕ) → moved_below now n ≤ moved_below was n + one_below j n
more_by_one was now j is zero = omega arith
more_by_one was now j is (suc n) =
    subst (λ (b : Bool). (if b then 1 else 0) + moved_below now n ≤ ((if was n then 1 else 0) + moved_below was n) + ((if n == j then 1 else 0) + one_below j n)) (sym (is n))
    (by (was n) (n == j) (moved_below now n) (moved_below was n) (one_below j n) (more_by_one was now j is n)) where
      by : (a b : Bool) (x y z : ℕ) → x ≤ y + z → (if a || b then 1 else 0) + x ≤ ((if a then 1 else 0) + y) + ((if b then 1 else 0) + z)
      by true true x y z low = omega (arith, low)
      by true false x y z low = omega (arith, low)
      by false true x y z low = omega (arith, low)
      by false false x y z low = omega (arith, low)

-- one sector more
pub one_moved : (was now : ℕ → Bool) (j : ℕ) → ((k : ℕ) → now k ≡ (was k || (k == j))) → (n : ℕ) → moved_below now n ≤ moved_below was n + 1
one_moved was now j is n =
    let some : moved_below now n ≤ moved_below was n + one_below j n = more_by_one was now j is n in
    let few : one_below j n ≤ 1 = (one_or_none j n).1 in omega (arith, some, few)

all_moved : (moved : ℕ → Bool) (n : ℕ) → ((k : ℕ) → k < n → IsTrue (moved k)) → moved_below moved n ≡ n
all_moved moved zero all = refl
all_moved moved (suc n) all = by (moved n) (all n (omega arith)) (all_moved moved n (λ k low. all k (omega (arith, low)))) where
  by : (b : Bool) → IsTrue b → moved_below moved n ≡ n → ((if b then 1 else 0) + moved_below moved n) ≡ suc n
  by true is rest = omega (arith, rest)
  by false is rest = cc

-- an answer says no more bytes than those of the sectors that were moved
pub few_bytes : (run : Option Run) (w : Work) (outcome : Result ℕ Errno) (bytes : List ℕ) (most : ℕ) → MayAnswer run w outcome bytes
    → ((n : ℕ) → moved_below w.moved n ≤ most) → bytes_of outcome ≤ 512 * most
few_bytes None w outcome bytes most is few = subst (λ (o : Result ℕ Errno). bytes_of o ≤ 512 * most) (sym is) (omega arith)
few_bytes (Some run) w (Err e) bytes most is few = omega arith
few_bytes (Some run) w (Ok n) bytes most is few =
    let whole : n % 512 ≡ 0 = is.whole in
    let all : moved_below w.moved (n / 512) ≡ n / 512 = all_moved w.moved (n / 512) (λ k low. is.moved k (omega (arith, low))) in
    let low : moved_below w.moved (n / 512) ≤ most = few (n / 512) in
    omega (arith, whole, all, low)

-- a new event stands at the end of the schedule
last_there : (events : List Event) (e : Event) → slice_get (events ++ e ∷ []) (length events) ≡ Some e
last_there [] e = refl
last_there (x ∷ events) e = last_there events e

pub event_there : (place : ℕ) (event : Event) (marks : List Mark) (groups : List Group) → length groups ≡ place
    → slice_get (schedule_of ((event, marks) ∷ groups)) place ≡ Some event
event_there place event marks groups at =
    ap (λ (events : List Event). slice_get events place) (reverse-append (event ∷ []) (map event_of groups))
    ∙ ap (λ (n : ℕ). slice_get (schedule_of groups ++ event ∷ []) n) (sym at ∙ sym (length-reverse (map event_of groups) ∙ length-map groups event_of))
    ∙ last_there (schedule_of groups) event

-- the groups before it
pub groups_there : (place : ℕ) (group : Group) (groups : List Group) → length groups ≡ place → first_groups place (group ∷ groups) ≡ groups
groups_there place group groups at =
    let one : length (group ∷ groups) - place ≡ 1 = omega (arith, at) in
    ap (λ (n : ℕ). drop n (group ∷ groups)) one

-- the groups of the first events stay what they are
pub first_before : (n : ℕ) (group : Group) (groups : List Group) → n ≤ length groups → first_groups n (group ∷ groups) ≡ first_groups n groups
first_before n group groups within =
    let one : length (group ∷ groups) - n ≡ suc (length groups - n) = omega (arith, within) in
    ap (λ (k : ℕ). drop k (group ∷ groups)) one
