-- Each moment of a put.
use Rattle.std.proofs.Common.{◌≡◌, ◌⊎◌, inl, inr, ⊎_elim, ℕ, ◌<◌, List, [], ◌∷◌, ◌++◌, length, map, arith, refl, sym, ◌∙◌, ap, subst, Option, Some, None, Result, Ok, Err, OnOk, OnErr, false}
use Rattle.stable.specs.declared.Which.TheVariants.{Log, Image}
use Rattle.stable.specs.Disk.{Contents, Changes, Step, Write, Sync, put, Touches, Keeps, Disk, Event, Did, done, run}
use Rattle.stable.specs.Runs.{Known, now, Happens, Follows, Knows, EachMoment}
use Rattle.redo.specs.Record.{recovered}
use Rattle.redo.specs.Plans.{log_plan, recover_plan}
use Rattle.redo.specs.UnderWay.{AnyHow, changes_of, place, IsAtRest, IsEither, IsUnderWay, IsCurrent}
use Rattle.redo.specs.Laws.{IsImage, FindsEither, IsRecoverable, RestsWithEither}
use Rattle.redo.proofs.Units.{put_agrees}
use Rattle.redo.proofs.Moments.{run-append}
use Rattle.redo.proofs.CommitLaws.{finds_either, image_as, image_either, rest_current}
use Rattle.redo.proofs.RecoverLaws.{current_recoverable, rest_as}
use Rattle.image_file.specs.Images.{IsImageSound, ShowsImage, units_of, with_image}
use Rattle.image_file.specs.Puts.{put_plan, long_plan, FindsBetween, CurrentWithEither}
use Rattle.image_file.proofs.Calls.{each_as, each_then}

pub knows_as : (P Q : Disk → Type 0) → ((d : Disk) → P d → Q d) → (o : Option Known) → Knows P o → Knows Q o
knows_as P Q to None h = absurd h
knows_as P Q to (Some k) h = to (now k) h

knows_both : (P Q R : Disk → Type 0) → ((d : Disk) → P d → Q d → R d) → (o : Option Known) → Knows P o → Knows Q o → Knows R o
knows_both P Q R to None h i = absurd h
knows_both P Q R to (Some k) h i = to (now k) h i

-- changes whose numbers there are none of
pub none_of : (ns : List ℕ) (ws : Changes) → ns ≡ map (λ (w : ℕ × List ℕ). w.0) ws → length ns ≡ 0 → ws ≡ []
none_of ns [] is none = refl
none_of ns (w ∷ ws) is none = absurd (omega (arith, none, ap length is))

-- plans of changes that there are
pub plan_of_some : (name at : ℕ) (ns : List ℕ) (ws : Changes) → ns ≡ map (λ (w : ℕ × List ℕ). w.0) ws → 0 < length ns → log_plan name at ws ≡ put_plan name at ws
plan_of_some name at ns [] is some = absurd (omega (arith, some, ap length is))
plan_of_some name at ns (w ∷ ws) is some = refl

pub long_of_some : (name : ℕ) (log : Contents) (ns : List ℕ) (ws : Changes) → ns ≡ map (λ (w : ℕ × List ℕ). w.0) ws → 0 < length ns → recover_plan name log ++ log_plan name 0 ws ≡ long_plan name log ws
long_of_some name log ns [] is some = absurd (omega (arith, some, ap length is))
long_of_some name log ns (w ∷ ws) is some = refl

-- an image among two that are one
wide_either : (z x y : Contents) → IsEither z x x → IsEither z x y
wide_either z x y either = inl (⊎_elim (λ is. is) (λ is. is) either)

wide : (name : ℕ) (x y : Contents) (d : Disk) → IsUnderWay name x x d → IsUnderWay name x y d
wide name x y d (inl (image, records, either, l)) = inl (image, records, wide_either image x y either, l)
wide name x y d (inr (a, b, first, others, is_a, is_b, w)) = inr (a, b, first, others, wide_either a x y is_a, wide_either b x y is_b, w)

pub widely : (name : ℕ) (x y : Contents) (a b : Option Known) → EachMoment (IsUnderWay name x x) a b → EachMoment (IsUnderWay name x y) a b
widely name x y a b h = each_as (IsUnderWay name x x) (IsUnderWay name x y) a b (wide name x y) h

pub all_find : (name : ℕ) (x y : Contents) (a b : Option Known) → EachMoment (IsUnderWay name x y) a b → EachMoment (FindsEither name x y) a b
all_find name x y a b h = each_as (IsUnderWay name x y) (FindsEither name x y) a b (finds_either AnyHow name x y) h

-- what the log says can be recovered, and what was recovered is what it said
pub to_recover_it : (name at : ℕ) (image : Contents) (o : Option Known) → Knows (IsCurrent name at image) o → Knows (IsRecoverable name image image) o
to_recover_it name at image o h = knows_as (IsCurrent name at image) (IsRecoverable name image image) (current_recoverable name at image) o h

rested : (image : Contents) (d : Disk) → RestsWithEither image image d → IsAtRest image d
rested image d (found, rest, either) = rest_as found image (⊎_elim (λ is. is) (λ is. is) either) d rest

pub rests_it : (image : Contents) (o : Option Known) → Knows (RestsWithEither image image) o → Knows (IsAtRest image) o
rests_it image o h = knows_as (RestsWithEither image image) (IsAtRest image) (rested image) o h

pub current_at : (name at : ℕ) (image : Contents) (o : Option Known) → at ≡ 0 → Knows (IsAtRest image) o → Knows (IsCurrent name at image) o
current_at name at image o is h = subst (λ (k : ℕ). Knows (IsCurrent name k image) o) (sym is) (knows_as (IsAtRest image) (IsCurrent name 0 image) (rest_current name image) o h)

-- nothing happens
first_current : (name at : ℕ) (image after : Contents) (k : Known) (first later : List Event) → [] ≡ first ++ later → IsCurrent name at image (now k) → IsUnderWay name image after (run first (now k))
first_current name at image after k [] later parts c = inl (image, c.records, inl (λ n. refl), c.logged)
first_current name at image after k (e ∷ first) later parts c = cc

pub nothing_moves : (name at : ℕ) (image after : Contents) (a b : Option Known) → Happens [] a b → Knows (IsCurrent name at image) a → EachMoment (IsUnderWay name image after) a b
nothing_moves name at image after None b h c = tt
nothing_moves name at image after (Some k) b h c = ([], h, λ first later parts. first_current name at image after k first later parts c)

pub none_current : (name at : ℕ) (image : Contents) (ws : Changes) (o : Option Known) → ws ≡ [] → Knows (IsCurrent name at image) o → Knows (IsCurrent name at (put ws image)) o
none_current name at image ws o none c = subst (λ (l : Changes). Knows (IsCurrent name at (put l image)) o) (sym none) c

put_either : (changes : Changes) (found before after : Contents) → IsEither found before after → IsEither (put changes found) (put changes before) (put changes after)
put_either changes found before after either = ⊎_elim
    (λ is. inl (λ n. put_agrees changes found before n (inl (is n)))) (λ is. inr (λ n. put_agrees changes found after n (inl (is n)))) either

module _ (name : ℕ) (before after : Contents) (changes : Changes) where
  -- a recovery is under way
  between_first : (d : Disk) → IsUnderWay name before after d → FindsBetween name changes before after d
  between_first d h log left leaves = inl (finds_either AnyHow name before after d h log left leaves)

  -- a put is under way on what it found
  between_second : (found : Contents) → IsEither found before after → (d : Disk) → IsUnderWay name found (put changes found) d → FindsBetween name changes before after d
  between_second found either d h log left leaves =
      let r : Option Contents = recovered name log left in
      ⊎_elim (λ is. inl (image_either r found before after either is))
      (λ is. inr (image_either r (put changes found) (put changes before) (put changes after) (put_either changes found before after either) is))
      (finds_either AnyHow name found (put changes found) d h log left leaves)

  -- a recovery that stopped
  pub stopped_between : (a b : Option Known) → EachMoment (IsUnderWay name before after) a b → EachMoment (FindsBetween name changes before after) a b
  stopped_between a b h = each_as (IsUnderWay name before after) (FindsBetween name changes before after) a b between_first h

  abbrev PutsFrom : Option Known → Option Known → Type 0
  PutsFrom b c = (image : Contents) → Knows (IsAtRest image) b → EachMoment (IsUnderWay name image (put changes image)) b c

  second_half : (b c : Option Known) → Knows (RestsWithEither before after) b → PutsFrom b c → EachMoment (FindsBetween name changes before after) b c
  second_half None c rests puts = tt
  second_half (Some k) c rests puts =
      each_as (IsUnderWay name rests.0 (put changes rests.0)) (FindsBetween name changes before after) (Some k) c
      (between_second rests.0 rests.2) (puts rests.0 rests.1)

  -- a recovery, and a put
  pub both_between : (a b c : Option Known) → EachMoment (IsUnderWay name before after) a b → Knows (RestsWithEither before after) b → PutsFrom b c → EachMoment (FindsBetween name changes before after) a c
  both_between a b c h rests puts = each_then (FindsBetween name changes before after) a b c (stopped_between a b h) (second_half b c rests puts)

  with_found : (at : ℕ) (found : Contents) (c : Option Known) → Knows (IsCurrent name at (put changes found)) c → IsEither found before after → Knows (CurrentWithEither name at (put changes before) (put changes after)) c
  with_found at found c h either = knows_as (IsCurrent name at (put changes found)) (CurrentWithEither name at (put changes before) (put changes after)) (λ d is. (put changes found, is, put_either changes found before after either)) c h

  -- what is put on the one image or the other
  pub current_between : {T E : Type 0} (at : ℕ) (b c : Option Known) (r : Result T E) → Knows (RestsWithEither before after) b
      → ((image : Contents) → Knows (IsAtRest image) b → OnOk r (Knows (IsCurrent name at (put changes image)) c))
      → OnOk r (Knows (CurrentWithEither name at (put changes before) (put changes after)) c)
  current_between at None c r rests puts = absurd rests
  current_between at (Some k) c (Err e) rests puts = tt
  current_between at (Some k) c (Ok v) rests puts = with_found at rests.0 c (puts rests.0 rests.1) rests.2

-- no step that is done makes the image file fail
image_sound : (steps : List Step) (d : Disk) → (run (map Did steps) d).image.failed ≡ d.image.failed
image_sound [] d = refl
image_sound (Write Log at units ∷ steps) d = image_sound steps (done d (Write Log at units))
image_sound (Write Image at units ∷ steps) d = image_sound steps (done d (Write Image at units))
image_sound (Sync Log ∷ steps) d = image_sound steps (done d (Sync Log))
image_sound (Sync Image ∷ steps) d = image_sound steps (done d (Sync Image))

-- a recovery that was done leaves the image file sound
still_sound : (plan : Known → List Step) (name at : ℕ) (image : Contents) (a b : Option Known) → Knows (IsCurrent name at image) a
    → ((k : Known) → a ≡ Some k → (now k).log.failed ≡ false → Happens (map Did (plan k)) a b) → Knows IsImageSound a → Knows IsImageSound b
still_sound plan name at image None b c h sound = absurd c
still_sound plan name at image (Some k) b c h sound =
    subst (Knows IsImageSound) (sym (h k refl c.sound))
    (subst IsImageSound (sym (run-append k.events (map Did (plan k)) k.first)) (image_sound (plan k) (now k) ∙ sound))

-- so does one that followed its plan and answered ok
pub settled_sound : {T E : Type 0} (plan : Known → List Step) (name at : ℕ) (image : Contents) (a b : Option Known) (r : Result T E) → Knows (IsCurrent name at image) a
    → ((k : Known) → a ≡ Some k → (now k).log.failed ≡ false → Follows (plan k) a b r) → Knows IsImageSound a → OnOk r (Knows IsImageSound b)
settled_sound plan name at image a b (Ok v) c h sound = still_sound plan name at image a b c h sound
settled_sound plan name at image a b (Err e) c h sound = tt

shows_rest : (image : Contents) (d : Disk) → IsAtRest image d → IsImageSound d → ShowsImage image d
shows_rest image d rest sound = record { sound = sound; shows = λ n. let k = rest.image_is n in k.is }

-- an image file at rest shows the image
pub rest_shows : (image : Contents) (o : Option Known) → Knows (IsAtRest image) o → Knows IsImageSound o → Knows (ShowsImage image) o
rest_shows image o rest sound = knows_both (IsAtRest image) IsImageSound (ShowsImage image) (shows_rest image) o rest sound

-- where the next record is the first one, the log says nothing
first_says : (records : List Changes) (n : ℕ) → place records ≡ 0 → Touches (changes_of records) n → ⊥
first_says [] n is t = t
first_says (c ∷ records) n is t = absurd (omega (arith, is))

first_keeps : (name : ℕ) (image : Contents) (d : Disk) (c : IsCurrent name 0 image d) (n : ℕ) → Keeps d.image n (image n)
first_keeps name image d c n = let logged = c.logged in let makes = logged.makes in ⊎_elim (λ is. is) (λ t. absurd (first_says c.records n c.at_is t)) (makes.rest n)

first_rest : (name : ℕ) (image : Contents) (d : Disk) → IsCurrent name 0 image d → IsAtRest image d
first_rest name image d c = record { gate = c.gate; image_is = first_keeps name image d c; sound = c.sound }

-- so all is at rest
pub rest_at : (name at : ℕ) (image : Contents) (o : Option Known) → at ≡ 0 → Knows (IsCurrent name at image) o → Knows (IsAtRest image) o
rest_at name at image o is h = knows_as (IsCurrent name 0 image) (IsAtRest image) (first_rest name image) o (subst (λ (k : ℕ). Knows (IsCurrent name k image) o) is h)

-- a whole image is put: what changes make is that image
module _ (name : ℕ) (before after mid : Contents) (same : (n : ℕ) → mid n ≡ after n) where
  put_finds : (d : Disk) → IsUnderWay name before mid d → FindsEither name before after d
  put_finds d h log left leaves = ⊎_elim (λ is. inl is) (λ is. inr (image_as (recovered name log left) mid after same is)) (finds_either AnyHow name before mid d h log left leaves)

  pub image_puts : (a b : Option Known) → EachMoment (IsUnderWay name before mid) a b → EachMoment (FindsEither name before after) a b
  image_puts a b h = each_as (IsUnderWay name before mid) (FindsEither name before after) a b put_finds h

  last_finds : (d : Disk) → IsUnderWay name mid mid d → FindsEither name before after d
  last_finds d h log left leaves =
      let to : IsImage (recovered name log left) mid → IsImage (recovered name log left) before ⊎ IsImage (recovered name log left) after = λ is. inr (image_as (recovered name log left) mid after same is) in
      ⊎_elim to to (finds_either AnyHow name mid mid d h log left leaves)

  pub image_settles : (a b : Option Known) → EachMoment (IsUnderWay name mid mid) a b → EachMoment (FindsEither name before after) a b
  image_settles a b h = each_as (IsUnderWay name mid mid) (FindsEither name before after) a b last_finds h

  pub image_rests : (o : Option Known) → Knows (IsAtRest mid) o → Knows (IsAtRest after) o
  image_rests o h = knows_as (IsAtRest mid) (IsAtRest after) (rest_as mid after same) o h

-- what units of an image make of contents, by the same numbers
pub made_by : (image ns ns' : List ℕ) (before : Contents) → ns' ≡ ns → ((n : ℕ) → put (units_of image ns) before n ≡ with_image image before n) → (n : ℕ) → put (units_of image ns') before n ≡ with_image image before n
made_by image ns ns' before is made n = ap (λ (l : List ℕ). put (units_of image l) before n) is ∙ made n

-- a fact of one value is one of another that is the same
pub at_first : {K : Type 0} (m s : K) → m ≡ s → (P : K → Type 0) → P m → P s
at_first m s same P h = subst P same h

pub on_err : {T E : Type 0} (r : Result T E) (P : Type 0) → P → OnErr r P
on_err (Ok v) P h = tt
on_err (Err e) P h = h

pub on_ok : {T E : Type 0} (r : Result T E) (P Q : Type 0) → (P → Q) → OnOk r P → OnOk r Q
on_ok (Ok v) P Q to h = to h
on_ok (Err e) P Q to h = tt
