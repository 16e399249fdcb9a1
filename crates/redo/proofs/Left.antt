-- What is left of a plan, while it is done.
use Rattle.std.proofs.Common.{◌≡◌, inl, inr, List, [], ◌∷◌, ◌++◌, map, refl, sym, ◌∙◌, ap, subst, append_assoc, Option, Some, None, Result, Ok, Err, is_err, true}
use Rattle.std.proofs.lemmas.List.{append-nil, map-append}
use Rattle.stable.specs.Disk.{Step, Event, Did, Failed}
use Rattle.stable.specs.Runs.{Known, Happens, Stops, IsMoment, Follows}

pub happens-nil : (a : Option Known) → Happens [] a a
happens-nil None = tt
happens-nil (Some k) = ap (λ (es : List Event). let now : Known = record { first = k.first; events = es } in Some now) (sym (append-nil k.events))

pub happens-append : (es fs : List Event) (a b c : Option Known) → Happens es a b → Happens fs b c → Happens (es ++ fs) a c
happens-append es fs None b c h k = tt
happens-append es fs (Some a) b c h k =
    let mid : Known = record { first = a.first; events = a.events ++ es } in
    let next : Happens fs (Some mid) c = subst (λ (o : Option Known). Happens fs o c) h k in
    next ∙ ap (λ (es : List Event). let now : Known = record { first = a.first; events = es } in Some now) (append_assoc a.events es fs)

-- these steps of a plan are left, and those before them were done
pub record Left (plan : List Step) (old new : Option Known) (left : List Step) : Type 0 where
  pub so_far : List Step
  pub happened : Happens (map Did so_far) old new
  pub parts : plan ≡ so_far ++ left

pub all_left : (plan : List Step) (a : Option Known) → Left plan a a plan
all_left plan a = record { so_far = []; happened = happens-nil a; parts = refl }

-- of the same plan, written otherwise
pub left_as : (plan left left' : List Step) (a b : Option Known) → left ≡ left' → Left plan a b left → Left plan a b left'
left_as plan left left' a b same h = subst (Left plan a b) same h

pub steps_done : (plan xs left : List Step) (a b c : Option Known) → Left plan a b (xs ++ left) → Happens (map Did xs) b c → Left plan a c left
steps_done plan xs left a b c h k = record {
  so_far = h.so_far ++ xs;
  happened = subst (λ (es : List Event). Happens es a c) (sym (map-append Did h.so_far xs)) (happens-append (map Did h.so_far) (map Did xs) a b c h.happened k);
  parts = h.parts ∙ sym (append_assoc h.so_far xs left);
}

pub step_done : (plan : List Step) (s : Step) (left : List Step) (a b c : Option Known) → Left plan a b (s ∷ left) → Happens (Did s ∷ []) b c → Left plan a c left
step_done plan s left a b c h k = steps_done plan (s ∷ []) left a b c h k

-- nothing was asked for since
pub left_same : (plan left : List Step) (a b c : Option Known) → Left plan a b left → Happens [] b c → Left plan a c left
left_same plan left a b c h k = steps_done plan [] left a b c h k

pub none_left : (plan : List Step) (a b : Option Known) → Left plan a b [] → Happens (map Did plan) a b
none_left plan a b h = subst (λ (p : List Step). Happens (map Did p) a b) (sym (h.parts ∙ append-nil h.so_far)) h.happened

-- all of what was left is done
pub all_of : (plan xs : List Step) (a b c : Option Known) → Left plan a b xs → Happens (map Did xs) b c → Happens (map Did plan) a c
all_of plan xs a b c h k = none_left plan a c (steps_done plan xs [] a b c (left_as plan xs (xs ++ []) a b (sym (append-nil xs)) h) k)

-- one of some steps failed, and so did the whole
steps_stop : (plan xs left : List Step) (a b c : Option Known) → Left plan a b (xs ++ left) → (events : List Event) → Stops xs events → Happens events b c → (events : List Event) × IsMoment plan events × Happens events a c
steps_stop plan xs left a b c h es stops k =
    let whole : map Did h.so_far ++ es ≡ map Did (h.so_far ++ stops.before) ++ Failed stops.at ∷ [] =
    ap (λ (l : List Event). map Did h.so_far ++ l) stops.events_are
    ∙ sym (append_assoc (map Did h.so_far) (map Did stops.before) (Failed stops.at ∷ []))
    ∙ ap (λ (l : List Event). l ++ Failed stops.at ∷ []) (sym (map-append Did h.so_far stops.before)) in (
      map Did h.so_far ++ es,
      inr (record {
        before = h.so_far ++ stops.before;
        at = stops.at;
        after = stops.after ++ left;
        parts = h.parts
            ∙ ap (λ (l : List Step). h.so_far ++ (l ++ left)) stops.parts
            ∙ ap (λ (l : List Step). h.so_far ++ l) (append_assoc stops.before (stops.at ∷ stops.after) left)
            ∙ sym (append_assoc h.so_far stops.before (stops.at ∷ (stops.after ++ left)));
        events_are = whole;
      }),
      happens-append (map Did h.so_far) es a b c h.happened k,
    )

-- it was given up between two steps
pub gives_up : {T E : Type 0} (plan left : List Step) (a b : Option Known) (r : Result T E) → is_err r ≡ true → Left plan a b left → Follows {T = T} {E = E} plan a b r
gives_up plan left a b (Ok v) is h = cc
gives_up plan left a b (Err e) is h = (map Did h.so_far, inl (h.so_far, left, h.parts, refl), h.happened)

-- a part ended in an error, and so does the whole
pub part_stops : {T E : Type 0} (plan xs left : List Step) (a b c : Option Known) (r : Result T E) → is_err r ≡ true → Left plan a b (xs ++ left) → ((events : List Event) × IsMoment xs events × Happens events b c) → Follows {T = T} {E = E} plan a c r
part_stops plan xs left a b c (Ok v) is h k = cc
part_stops plan xs left a b c (Err e) is h (events, inr stops, happens) = steps_stop plan xs left a b c h events stops happens
part_stops plan xs left a b c (Err e) is h (events, inl m, happens) =
    let parts : xs ++ left ≡ m.0 ++ (m.1 ++ left) = ap (λ (l : List Step). l ++ left) m.2 ∙ append_assoc m.0 m.1 left in
    let mid = steps_done plan m.0 (m.1 ++ left) a b c (left_as plan (xs ++ left) (m.0 ++ (m.1 ++ left)) a b parts h) (subst (λ (es : List Event). Happens es b c) m.3 happens) in
    (map Did mid.so_far, inl (mid.so_far, m.1 ++ left, mid.parts, refl), mid.happened)

-- a last part ended in an error
pub last_stops : {T E : Type 0} (plan xs : List Step) (a b c : Option Known) (r : Result T E) → is_err r ≡ true → Left plan a b xs → ((events : List Event) × IsMoment xs events × Happens events b c) → Follows {T = T} {E = E} plan a c r
last_stops {T} {E} plan xs a b c r is h k = part_stops {T = T} {E = E} plan xs [] a b c r is (left_as plan xs (xs ++ []) a b (sym (append-nil xs)) h) k

-- the last part answers for the whole
pub last_part : {T E : Type 0} (plan xs : List Step) (a b c : Option Known) (r : Result T E) → Left plan a b xs → Follows {T = T} {E = E} xs b c r → Follows {T = T} {E = E} plan a c r
last_part plan xs a b c (Ok v) h k = all_of plan xs a b c h k
last_part {T} {E} plan xs a b c (Err e) h k = last_stops {T = T} {E = E} plan xs a b c (let r : Result T E = Err e in r) refl h k
