-- Each moment of calls, one after the other.
use Rattle.std.proofs.Common.{◌≡◌, ◌⊎◌, inl, inr, List, [], ◌∷◌, ◌++◌, map, refl, sym, ◌∙◌, ap, subst, append_assoc, Option, Some, None, Result, Ok, Err, is_err, true}
use Rattle.std.proofs.lemmas.List.{append-nil}
use Rattle.stable.specs.Disk.{Step, Event, Did, Disk, run}
use Rattle.stable.specs.Runs.{Known, now, Happens, IsMoment, Follows, Knows, EachMoment}
use Rattle.redo.proofs.Moments.{run-append}

pub each_as : (P Q : Disk → Type 0) (old new : Option Known) → ((d : Disk) → P d → Q d) → EachMoment P old new → EachMoment Q old new
each_as P Q None new to h = tt
each_as P Q (Some k) new to h = (h.0, h.1, λ first rest parts. to (run first (now k)) (h.2 first rest parts))

-- what holds at each moment holds at the end
pub last_moment : (P Q : Disk → Type 0) (old new : Option Known) → Knows Q old → EachMoment P old new → Knows P new
last_moment P Q None new known h = absurd known
last_moment P Q (Some k) new known h =
    subst (Knows P) (sym h.1) (subst P (sym (run-append k.events h.0 k.first)) (h.2 h.0 [] (sym (append-nil h.0))))

-- where nothing happened, what is known is so still
pub known_still : (P : Disk → Type 0) (old new : Option Known) → Happens [] old new → Knows P old → Knows P new
known_still P None new h known = absurd known
known_still P (Some k) new h known = subst (Knows P) (sym h) (subst P (sym (run-append k.events [] k.first)) known)

-- the first of two lists of events ends in the first one of two others, or behind it
halves : (xs ys first rest : List Event) → xs ++ ys ≡ first ++ rest
    → ((r : List Event) × (xs ≡ first ++ r)) ⊎ ((m : List Event) × (first ≡ xs ++ m) × (ys ≡ m ++ rest))
halves [] ys first rest h = inr (first, refl, h)
halves (x ∷ xs) ys [] rest h = inl (x ∷ xs, refl)
halves (x ∷ xs) ys (f ∷ first) rest h =
    let same : x ≡ f = cc in
    let later : xs ++ ys ≡ first ++ rest = cc in
    elim (halves xs ys first rest later) [
      | inl w ↦ inl (w.0, ap (λ (v : Event). v ∷ xs) same ∙ ap (λ (l : List Event). f ∷ l) w.1)
      | inr w ↦ inr (w.0, ap (λ (v : Event). v ∷ first) (sym same) ∙ ap (λ (l : List Event). x ∷ l) w.1, w.2)
    ]

-- one call behind the other
pub each_then : (P : Disk → Type 0) (a b c : Option Known) → EachMoment P a b → EachMoment P b c → EachMoment P a c
each_then P None b c h i = tt
each_then P (Some k) b c h i =
    let mid : Known = record { first = k.first; events = k.events ++ h.0 } in
    let next : EachMoment P (Some mid) c = subst (λ (o : Option Known). EachMoment P o c) h.1 i in (
      h.0 ++ next.0,
      next.1 ∙ ap (λ (es : List Event). let end : Known = record { first = k.first; events = es } in Some end) (append_assoc k.events h.0 next.0),
      λ first rest parts. elim (halves h.0 next.0 first rest parts) [
        | inl w ↦ h.2 first w.0 w.1
        | inr w ↦
            let there : P (run w.0 (run h.0 (now k))) = subst (λ (d : Disk). P (run w.0 d)) (run-append k.events h.0 k.first) (next.2 w.0 rest w.2) in
            subst (λ (es : List Event). P (run es (now k))) (sym w.1) (subst P (sym (run-append h.0 w.0 (now k))) there)
      ],
    )

-- a call that went as far as some moment of a plan, and answered an error
pub follows_err : {T E : Type 0} (plan : List Step) (a b : Option Known) (r : Result T E) → is_err r ≡ true
    → ((events : List Event) × IsMoment plan events × Happens events a b) → Follows {T = T} {E = E} plan a b r
follows_err plan a b (Ok v) is h = cc
follows_err plan a b (Err e) is h = h

-- all of a plan was done
pub all_moment : (plan : List Step) (a b : Option Known) → Happens (map Did plan) a b → (events : List Event) × IsMoment plan events × Happens events a b
all_moment plan a b h = (map Did plan, inl (plan, [], sym (append-nil plan), refl), h)
