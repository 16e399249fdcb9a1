-- What a server's start needs of the image and the drivers.
use Rattle.std.proofs.Common.{◌≡◌, ◌≤◌, ◌<◌, ◌+◌, ◌/◌, ◌%◌, ℕ, List, [], ◌∷◌, length, Bool, true, false, refl, sym, ap, ◌∙◌, subst, arith, take, drop, ◌*◌, ◌-◌, get_or, Result, Ok, Err, IsErr, IfOk, IsErrAnd, Option, Some, None}
use Rattle.std.specs.Prelude.{All, map, not, ◌&&◌, ◌==◌, nat_lt, if◌then◌else◌}
use Rattle.std.specs.List.{list_all}
use Rattle.std.proofs.lemmas.Bool.{and_parts, eqb-true, ltb-false}
use Rattle.std.proofs.lemmas.List.Folds.{list_all_more, list_all-map}
use Rattle.std.proofs.lemmas.List.Elements.{All-nil, All-cons, All-head, All-tail, All-more}
use Rattle.records.specs.Opening.{Opening}
use Rattle.media.specs.Contents.{MediaState, sectors_of}
use Rattle.media.proofs.SectorLaws.{length-first_chunks}
use Rattle.bdev.specs.DriverState.{DriverState, range_while_fresh}
use Rattle.bdev.specs.Promises.{IsDriver}
use Rattle.true_replies.specs.Events.{IsOnMedia}
use Rattle.synchronous_driver.specs.Inline.{IsReady}
use Rattle.media.specs.declared.MediaRefusal.TheVariants.{NotWholeSectors, TooLarge}
use Rattle.media.specs.declared.partition.place.PlaceRefusal.{PlaceRefusal}
use Rattle.media.specs.declared.partition.place.PlaceRefusal.TheVariants as place
use Rattle.media.specs.Places.{volume_place}
use Rattle.reincarnate.specs.declared.policy.Setup.{Setup}
use Rattle.volume_mount.specs.declared.refusal.StartRefusal.{StartRefusal}
use Rattle.volume_mount.specs.declared.refusal.StartRefusal.TheVariants.{Media, Partition, NoPartition, Mount, BadSetup, NoDriver, OutOfMemory}
use Rattle.volume_mount.specs.StartupRefusals.{refusal_of_place}
use Rattle.volume_mount.specs.Starting.{is_same_range, is_ready_for, why_no_media, opening_of, bytes_of, place_in, place_or, HasPlace, IsNotSetUp, IsRefused}

-- ranges that are the same
pub same_range : (a b : Option (ℕ × ℕ)) → is_same_range a b ≡ true → a ≡ b
same_range None None h = refl
same_range None (Some b) h = cc
same_range (Some a) None h = cc
same_range (Some a) (Some b) h =
    let parts = and_parts (a.0 == b.0) (a.1 == b.1) h in
    let first : a.0 ≡ b.0 = eqb-true a.0 b.0 parts.0 in
    let count : a.1 ≡ b.1 = eqb-true a.1 b.1 parts.1 in
    ap (λ (n : ℕ). Some (n, a.1)) first ∙ ap (λ (n : ℕ). Some (b.0, n)) count

-- one more of the drivers was looked at
pub ready_more : {D : Type 0} (test : D → Bool) (P : D → Type 0) (items : List D) (i : ℕ) (x : D) → i < length items → x ≡ get_or items i x → test x ≡ true → P x
    → (list_all test (take i items) ≡ true) × All P (take i items) → (list_all test (take (i + 1) items) ≡ true) × All P (take (i + 1) items)
ready_more test P items i x less at one is before =
    let tested : test (get_or items i x) ≡ true = ap test (sym at) ∙ one in (
      list_all_more test items i x less ∙ ap (λ (b : Bool). b && test (get_or items i x)) before.0 ∙ tested,
      All-more P items i x less before.1 (subst P at is),
    )

-- drivers that are ready for the sectors of a volume are ready for it
pub all_ready : {D : Type 0} (state : D → DriverState) (v : Opening) (items : List D)
    → list_all (λ d. is_ready_for v.minor (v.first, v.count) (state d)) items ≡ true → All (λ d. IsDriver (state d)) items → All (IsReady v) (map state items)
all_ready state v [] test drivers = All-nil (IsReady v)
all_ready state v (x ∷ xs) test drivers =
    let parts = and_parts (is_ready_for v.minor (v.first, v.count) (state x)) (list_all (λ d. is_ready_for v.minor (v.first, v.count) (state d)) xs) test in
    let ready = same_range (range_while_fresh (state x) v.minor) (Some (v.first, v.count)) parts.0 in
    All-cons (IsReady v) (state x) (map state xs) (record { driver = All-head (λ d. IsDriver (state d)) x xs drivers; ready = ready })
    (all_ready state v xs parts.1 (All-tail (λ d. IsDriver (state d)) x xs drivers))

-- a volume that ends before the media do lies on them
pub lies_on_media : (image : List ℕ) (minor : ℕ) (range : ℕ × ℕ) → why_no_media image ≡ None → range.0 + range.1 ≤ length image / 512
    → IsOnMedia (opening_of image minor range)
lies_on_media image minor range fine within = at (length image % 512 == 0) (nat_lt 67108864 (length image)) (eqb-true (length image % 512) 0) (ltb-false 67108864 (length image)) fine where
  at : (whole many : Bool) → (whole ≡ true → length image % 512 ≡ 0) → (many ≡ false → length image ≤ 67108864)
      → (if not whole then Some (Media NotWholeSectors) else (if many then Some (Media TooLarge) else None)) ≡ None → IsOnMedia (opening_of image minor range)
  at false many w m h = cc
  at true true w m h = cc
  at true false w m h = let whole = w refl in record { whole = whole; most = m refl; inside = omega (arith, whole, within) }

pub many_sectors : (image : List ℕ) → length (sectors_of image) ≡ length image / 512
many_sectors image = length-first_chunks (length image / 512) image

-- an error by what is said of it
pub err_is : {A E : Type 0} (r : Result A E) (e : E) → IsErr r × IsErrAnd r (λ x. x ≡ e) → r ≡ Err e
err_is (Ok a) e h = let no = h.0 in cc
err_is (Err x) e h = ap (λ (y : _). Err y) h.1

-- a place within the sectors
pub within : (r : Result (ℕ × ℕ) PlaceRefusal) (n : ℕ) → IfOk r (λ p. p.0 + p.1 ≤ n) → IfOk (place_or r) (λ p. p.0 + p.1 ≤ n)
within (Ok p) n h = h
within (Err e) n h = tt

-- what comes of the place where the volume is to lie
module _ (image : List ℕ) (setup : Setup) (supply : List DriverState) where
  refused_for : (refusal : PlaceRefusal) → why_no_media image ≡ None → place_in (sectors_of image) setup.minor ≡ Err (refusal_of_place refusal)
      → IsRefused image setup supply (refusal_of_place refusal)
  refused_for (place.Table refusal) fine h = (fine, h)
  refused_for place.NoPartition fine h = (fine, h)

  refused_by : (r : Result (ℕ × ℕ) PlaceRefusal) (e : StartRefusal) → why_no_media image ≡ None → place_in (sectors_of image) setup.minor ≡ place_or r
      → place_or r ≡ Err e → IsRefused image setup supply e
  refused_by (Ok range) e fine at h = cc
  refused_by (Err refusal) e fine at h =
      let same : refusal_of_place refusal ≡ e = cc in subst (λ (x : StartRefusal). IsRefused image setup supply x) same (refused_for refusal fine at)

  -- where the volume has no place
  pub not_placed : (e : StartRefusal) → why_no_media image ≡ None → place_in (sectors_of image) setup.minor ≡ Err e → IsRefused image setup supply e
  not_placed e fine h = refused_by (volume_place (sectors_of image) setup.minor) e fine refl h

  -- where it has one, and the setup doesn't fit
  pub not_set_up : (e : StartRefusal) (range : ℕ × ℕ) → HasPlace image setup.minor range → IsNotSetUp setup range supply e → IsRefused image setup supply e
  not_set_up BadSetup range at h = (range, at, h)
  not_set_up NoDriver range at h = (range, at, h)
  not_set_up (Partition refusal) range at h = absurd h
  not_set_up NoPartition range at h = absurd h
  not_set_up (Media refusal) range at h = absurd h
  not_set_up (Mount refusal) range at h = absurd h
  not_set_up OutOfMemory range at h = absurd h

-- the drivers are ready, by what each driver says
pub each_ready : {D : Type 0} (state : D → DriverState) (minor : ℕ) (range : ℕ × ℕ) (items : List D) (b : Bool) → b ≡ list_all (λ d. is_ready_for minor range (state d)) items
    → list_all (is_ready_for minor range) (map state items) ≡ b
each_ready state minor range items b is = list_all-map (is_ready_for minor range) state items ∙ sym is

-- the bytes from the first sector on, as far as the last
pub same_bytes : (image : List ℕ) (range : ℕ × ℕ)
    → take (512 * range.0 + 512 * range.1 - 512 * range.0) (drop (512 * range.0) image) ≡ bytes_of image range
same_bytes image range =
    ap (λ (n : ℕ). take n (drop (512 * range.0) image)) (omega arith)

-- media made of an image hold its sectors
pub held_by : (m : MediaState) (image : List ℕ) → m ≡ record { sectors = sectors_of image; generation = 0 } → m.sectors ≡ sectors_of image
held_by m image made = ap (λ (x : MediaState). x.sectors) made

-- so the volume's place is looked for among these
pub placed : (minor : ℕ) (m : MediaState) (image : List ℕ) (seen : List (List ℕ)) (found : Result (ℕ × ℕ) StartRefusal)
    → m ≡ record { sectors = sectors_of image; generation = 0 } → seen ≡ m.sectors → found ≡ place_in seen minor
    → place_in (sectors_of image) minor ≡ found
placed minor m image seen found made is place = ap (λ (s : List (List ℕ)). place_in s minor) (sym (is ∙ held_by m image made)) ∙ sym place

-- that there is no place isn't for want of memory
pub place_wants_none : {X : Type 0} (result : Result X StartRefusal) (sectors : List (List ℕ)) (minor : ℕ) (e : StartRefusal)
    → result ≡ Err e → place_in sectors minor ≡ Err e → result ≡ Err OutOfMemory → ⊥
place_wants_none {X} result sectors minor e is at memory = by (volume_place sectors minor) at
  where
    by : (r : Result (ℕ × ℕ) PlaceRefusal) → place_or r ≡ Err e → ⊥
    by (Ok range) h = cc
    by (Err (place.Table refusal)) h = cc
    by (Err place.NoPartition) h = cc
