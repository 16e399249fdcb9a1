-- What a call that follows a plan leaves, at each of its moments.
use Rattle.std.proofs.Common.{◌≡◌, ◌⊎◌, inl, inr, List, [], ◌∷◌, ◌++◌, map, refl, sym, ◌∙◌, ap, subst, append_assoc, Option, Some, None, Result, Ok, Err, OnOk}
use Rattle.stable.specs.Disk.{Step, Event, Did, Failed, Disk, run}
use Rattle.stable.specs.Runs.{Known, now, Stops, Follows, IsMoment, Knows, EachMoment}
use Rattle.redo.proofs.Moments.{run-append}

-- some first steps of a plan, and what is left of it
record Front (plan : List Step) (first : List Event) : Type 0 where
  before : List Step
  after : List Step
  parts : plan ≡ before ++ after
  is : first ≡ map Did before

did_front : (plan : List Step) (first rest : List Event) → map Did plan ≡ first ++ rest → Front plan first
did_front plan [] rest h = record { before = []; after = plan; parts = refl; is = refl }
did_front [] (e ∷ first) rest h = cc
did_front (s ∷ plan) (e ∷ first) rest h =
    let same : Did s ≡ e = cc in
    let later : map Did plan ≡ first ++ rest = cc in
    let front = did_front plan first rest later in
    record {
      before = s ∷ front.before;
      after = front.after;
      parts = ap (λ (l : List Step). s ∷ l) front.parts;
      is = ap (λ (v : Event). v ∷ first) (sym same) ∙ ap (λ (l : List Event). Did s ∷ l) front.is;
    }

stop_front : (before : List Step) (at : Step) (first rest : List Event) → map Did before ++ Failed at ∷ [] ≡ first ++ rest → Front before first ⊎ (first ≡ map Did before ++ Failed at ∷ [])
stop_front before at [] rest h = inl (record { before = []; after = before; parts = refl; is = refl })
stop_front [] at (e ∷ []) rest h = inr (let same : Failed at ≡ e = cc in ap (λ (v : Event). v ∷ []) (sym same))
stop_front [] at (e ∷ f ∷ first) rest h = cc
stop_front (s ∷ before) at (e ∷ first) rest h =
    let same : Did s ≡ e = cc in
    let later : map Did before ++ Failed at ∷ [] ≡ first ++ rest = cc in
    elim (stop_front before at first rest later) [
      | inl front ↦ inl (record {
        before = s ∷ front.before;
        after = front.after;
        parts = ap (λ (l : List Step). s ∷ l) front.parts;
        is = ap (λ (v : Event). v ∷ first) (sym same) ∙ ap (λ (l : List Event). Did s ∷ l) front.is;
      })
      | inr all ↦ inr (ap (λ (v : Event). v ∷ first) (sym same) ∙ ap (λ (l : List Event). Did s ∷ l) all)
    ]

stops_moment : (plan : List Step) (events first rest : List Event) → Stops plan events → events ≡ first ++ rest → IsMoment plan first
stops_moment plan events first rest stops parts = elim (stop_front stops.before stops.at first rest (sym stops.events_are ∙ parts)) [
  | inl front ↦ inl (front.before, front.after ++ stops.at ∷ stops.after, stops.parts ∙ ap (λ (l : List Step). l ++ stops.at ∷ stops.after) front.parts ∙ append_assoc front.before front.after (stops.at ∷ stops.after), front.is)
  | inr all ↦ inr (record { before = stops.before; at = stops.at; after = stops.after; parts = stops.parts; events_are = all })
]

-- a moment of a moment is one of the plan
sub_moment : (plan : List Step) (events first rest : List Event) → IsMoment plan events → events ≡ first ++ rest → IsMoment plan first
sub_moment plan events first rest (inr stops) parts = stops_moment plan events first rest stops parts
sub_moment plan events first rest (inl m) parts =
    let front = did_front m.0 first rest (sym m.3 ∙ parts) in
    inl (front.before, front.after ++ m.1, m.2 ∙ ap (λ (l : List Step). l ++ m.1) front.parts ∙ append_assoc front.before front.after m.1, front.is)

-- what holds at each moment of the plan holds at each moment of the call
pub each_moment : {T E : Type 0} (P : Disk → Type 0) (plan : Known → List Step) (old new : Option Known) (r : Result T E)
    → ((k : Known) → old ≡ Some k → (events : List Event) → IsMoment (plan k) events → P (run events (now k)))
    → ((k : Known) → old ≡ Some k → Follows {T = T} {E = E} (plan k) old new r) → EachMoment P old new
each_moment P plan None new r holds follows = tt
each_moment P plan (Some k) new (Ok v) holds follows =
    (map Did (plan k), follows k refl, λ first later parts. holds k refl first (let front = did_front (plan k) first later parts in inl (front.before, front.after, front.parts, front.is)))
each_moment P plan (Some k) new (Err e) holds follows =
    let f = follows k refl in
    (f.0, f.2, λ first later parts. holds k refl first (sub_moment (plan k) f.0 first later f.1 parts))

-- what the plan leads to holds after the call
pub holds_after : {T E : Type 0} (Q R : Disk → Type 0) (plan : Known → List Step) (old new : Option Known) (r : Result T E)
    → Knows Q old → ((k : Known) → old ≡ Some k → Q (now k) → R (run (map Did (plan k)) (now k)))
    → ((k : Known) → old ≡ Some k → Follows {T = T} {E = E} (plan k) old new r) → OnOk r (Knows R new)
holds_after Q R plan None new r known leads follows = absurd known
holds_after Q R plan (Some k) new (Err e) known leads follows = tt
holds_after Q R plan (Some k) new (Ok v) known leads follows =
    subst (Knows R) (sym (follows k refl)) (subst R (sym (run-append k.events (map Did (plan k)) k.first)) (leads k refl known))

-- what is known of a disk, where it is known
pub known_now : (Q : Disk → Type 0) (o : Option Known) (k : Known) → Knows Q o → o ≡ Some k → Q (now k)
known_now Q o k known is = subst (Knows Q) is known
