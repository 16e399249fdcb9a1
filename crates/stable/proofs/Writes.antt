-- What units show after one event.
use Rattle.std.proofs.Common.{◌≡◌, ℕ, zero, suc, ◌+◌, ◌<◌, ◌≤◌, List, [], ◌∷◌, ◌++◌, length, map, take, get_or, refl, sym, ◌∙◌, ap, subst, arith, Bool, true, false}
use Rattle.std.proofs.lemmas.Bool.Decides.{nat_tests}
use Rattle.std.proofs.lemmas.List.{map-append}
use Rattle.stable.specs.declared.Which.{Which}
use Rattle.stable.specs.declared.Which.TheVariants.{Log, Image}
use Rattle.stable.specs.declared.memory.Asked.{Asked}
use Rattle.stable.specs.declared.memory.Happening.{Happening}
use Rattle.stable.specs.Disk.{Contents, set, put, numbered, Step, Write, Sync, Event, Failed, Disk, happened, run}
use Rattle.stable.specs.Runs.{file_of}
use Rattle.stable.specs.Memory.{same_file, step_of, event, event_of}

set_same : (c : Contents) (w : ℕ × List ℕ) (n : ℕ) → n ≡ w.0 → set c w n ≡ w.1
set_same c w n is = grind (arith, nat_tests)

set_other : (c : Contents) (w : ℕ × List ℕ) (n : ℕ) → (n ≡ w.0 → ⊥) → set c w n ≡ c n
set_other c w n other = grind (arith, nat_tests)

put_below : (units : List (List ℕ)) (at n : ℕ) (c : Contents) → n < at → put (numbered at units) c n ≡ c n
put_below [] at n c lt = refl
put_below (u ∷ units) at n c lt = put_below units (at + 1) n (set c (at, u)) (omega arith) ∙ set_other c (at, u) n (λ is. omega arith)

put_past : (units : List (List ℕ)) (at n : ℕ) (c : Contents) → at + length units ≤ n → put (numbered at units) c n ≡ c n
put_past [] at n c le = refl
put_past (u ∷ units) at n c le = put_past units (at + 1) n (set c (at, u)) (omega arith) ∙ set_other c (at, u) n (λ is. omega arith)

put_there : (units : List (List ℕ)) (at n i : ℕ) (x : List ℕ) (c : Contents) → n ≡ at + i → i < length units → put (numbered at units) c n ≡ get_or units i x
put_there [] at n i x c is lt = absurd (omega arith)
put_there (u ∷ units) at n zero x c is lt = put_below units (at + 1) n (set c (at, u)) (omega arith) ∙ set_same c (at, u) n (omega arith)
put_there (u ∷ units) at n (suc i) x c is lt = put_there units (at + 1) n i x (set c (at, u)) (omega arith) (omega arith)

-- a write of the other file, or of other units, leaves what the unit shows
shows_other : (done : Bool) (to file : Which) (at n : ℕ) (units : List (List ℕ)) (d : Disk) → same_file to file ≡ false → (file_of (happened d (event done (Write to at units))) file).shows n ≡ (file_of d file).shows n
shows_other true Log Log at n units d is = cc
shows_other false Log Log at n units d is = cc
shows_other true Image Image at n units d is = cc
shows_other false Image Image at n units d is = cc
shows_other true Log Image at n units d is = refl
shows_other false Log Image at n units d is = refl
shows_other true Image Log at n units d is = refl
shows_other false Image Log at n units d is = refl

shows_put : (done : Bool) (to file : Which) (at n : ℕ) (units : List (List ℕ)) (d : Disk) → same_file to file ≡ true → (file_of (happened d (event done (Write to at units))) file).shows n ≡ put (numbered at units) (file_of d file).shows n
shows_put true Log Log at n units d is = refl
shows_put false Log Log at n units d is = refl
shows_put true Image Image at n units d is = refl
shows_put false Image Image at n units d is = refl
shows_put true Log Image at n units d is = cc
shows_put false Log Image at n units d is = cc
shows_put true Image Log at n units d is = cc
shows_put false Image Log at n units d is = cc

shows_below : (done : Bool) (to file : Which) (at n : ℕ) (units : List (List ℕ)) (d : Disk) → same_file to file ≡ true → n < at → (file_of (happened d (event done (Write to at units))) file).shows n ≡ (file_of d file).shows n
shows_below done to file at n units d is lt = shows_put done to file at n units d is ∙ put_below units at n (file_of d file).shows lt

shows_past : (done : Bool) (to file : Which) (at n : ℕ) (units : List (List ℕ)) (d : Disk) → same_file to file ≡ true → at + length units ≤ n → (file_of (happened d (event done (Write to at units))) file).shows n ≡ (file_of d file).shows n
shows_past done to file at n units d is le = shows_put done to file at n units d is ∙ put_past units at n (file_of d file).shows le

shows_there : (done : Bool) (to file : Which) (at n i : ℕ) (x : List ℕ) (units : List (List ℕ)) (d : Disk) → same_file to file ≡ true → n ≡ at + i → i < length units → (file_of (happened d (event done (Write to at units))) file).shows n ≡ get_or units i x
shows_there done to file at n i x units d is is_n lt = shows_put done to file at n units d is ∙ put_there units at n i x (file_of d file).shows is_n lt

shows_synced : (done : Bool) (to file : Which) (n : ℕ) (d : Disk) → (file_of (happened d (event done (Sync to))) file).shows n ≡ (file_of d file).shows n
shows_synced true Log Log n d = refl
shows_synced false Log Log n d = refl
shows_synced true Image Image n d = refl
shows_synced false Image Image n d = refl
shows_synced true Log Image n d = refl
shows_synced false Log Image n d = refl
shows_synced true Image Log n d = refl
shows_synced false Image Log n d = refl

module _ (h : Happening) (to file : Which) (at n : ℕ) (units : List (List ℕ)) (is : step_of h.asked ≡ Write to at units) (d : Disk) where
  pub left_by_other : same_file to file ≡ false → (file_of (happened d (event_of h)) file).shows n ≡ (file_of d file).shows n
  left_by_other other = subst (λ (s : Step). (file_of (happened d (event h.done s)) file).shows n ≡ (file_of d file).shows n) (sym is) (shows_other h.done to file at n units d other)

  pub left_below : same_file to file ≡ true → n < at → (file_of (happened d (event_of h)) file).shows n ≡ (file_of d file).shows n
  left_below same lt = subst (λ (s : Step). (file_of (happened d (event h.done s)) file).shows n ≡ (file_of d file).shows n) (sym is) (shows_below h.done to file at n units d same lt)

  pub left_past : same_file to file ≡ true → at + length units ≤ n → (file_of (happened d (event_of h)) file).shows n ≡ (file_of d file).shows n
  left_past same le = subst (λ (s : Step). (file_of (happened d (event h.done s)) file).shows n ≡ (file_of d file).shows n) (sym is) (shows_past h.done to file at n units d same le)

  pub set_there : (i : ℕ) (x : List ℕ) → same_file to file ≡ true → n ≡ at + i → i < length units → (file_of (happened d (event_of h)) file).shows n ≡ get_or units i x
  set_there i x same is_n lt = subst (λ (s : Step). (file_of (happened d (event h.done s)) file).shows n ≡ get_or units i x) (sym is) (shows_there h.done to file at n i x units d same is_n lt)

pub left_by_sync : (h : Happening) (to file : Which) (n : ℕ) → step_of h.asked ≡ Sync to → (d : Disk) → (file_of (happened d (event_of h)) file).shows n ≡ (file_of d file).shows n
left_by_sync h to file n is d = subst (λ (s : Step). (file_of (happened d (event h.done s)) file).shows n ≡ (file_of d file).shows n) (sym is) (shows_synced h.done to file n d)

run-append : (first more : List Event) (d : Disk) → run (first ++ more) d ≡ run more (run first d)
run-append [] more d = refl
run-append (e ∷ first) more d = run-append first more (happened d e)

-- one event more
one_more : (events : List Event) (e : Event) (d : Disk) → run (events ++ e ∷ []) d ≡ happened (run events d) e
one_more events e d = run-append events (e ∷ []) d

-- a step that failed
pub noted_failure : (history new : List Happening) (asked : Asked) (done : Bool) → new ≡ history ++ record { asked = asked; done = done } ∷ [] → done ≡ false → map event_of new ≡ map event_of history ++ Failed (step_of asked) ∷ []
noted_failure history new asked done is failed =
    ap (map event_of) is
    ∙ map-append event_of history (record { asked = asked; done = done } ∷ [])
    ∙ ap (λ (b : Bool). map event_of history ++ event b (step_of asked) ∷ []) failed

-- one happening more
pub after_next : (history : List Happening) (i : ℕ) (h : Happening) (d : Disk) → take (i + 1) history ≡ take i history ++ h ∷ [] → run (map event_of (take (i + 1) history)) d ≡ happened (run (map event_of (take i history)) d) (event_of h)
after_next history i h d is =
    ap (λ (l : List Happening). run (map event_of l) d) is
    ∙ ap (λ (l : List Event). run l d) (map-append event_of (take i history) (h ∷ []))
    ∙ one_more (map event_of (take i history)) (event_of h) d
