-- Each moment of a recovery.
use Rattle.std.proofs.Common.{◌≡◌, ◌⊎◌, inl, inr, ⊎_elim, ℕ, ◌+◌, ◌<◌, List, [], ◌∷◌, ◌++◌, refl, sym, ◌∙◌, ap, subst, arith, Bool, true, false, Some, if◌then◌else◌}
use Rattle.std.specs.Str.{bytes_eq}
use Rattle.std.proofs.lemmas.Bool.{cases_eq}
use Rattle.std.proofs.lemmas.Slice.Eq.{bytes_eq-Decides}
use Rattle.stable.specs.declared.Which.TheVariants.{Log}
use Rattle.stable.specs.Disk.{Contents, Changes, Step, Sync, put, Held, Kept, Written, Stale, kept, FileState, Keeps, Disk, Leaves, MayLeave, Reopens, Opens, on_disk, restarted, done}
use Rattle.redo.specs.Record.{closed, recovered, redone, standing, Standing}
use Rattle.redo.specs.Runs.{singly}
use Rattle.redo.specs.Plans.{to_gate, to_recover, recover_plan}
use Rattle.redo.specs.UnderWay.{AnyHow, changes_of, place, AreRecords, IsSure, IsAtRest, IsLogged, IsWritten, IsEither, IsUnderWay, IsUnderWayBy, IsCurrent}
use Rattle.redo.specs.Laws.{IsImage, IsRecoverable, RecoveryIsSafe, RecoveriesAreSafe, CrashesAreSafe, SettlingIsSafe}
use Rattle.redo.proofs.Units.{spread_singly}
use Rattle.redo.proofs.Records.{stand_of, stands_so}
use Rattle.redo.proofs.Moments.{Along, Reaches, run_all, at_moment, Moves, along, all_moves}
use Rattle.redo.proofs.CommitLaws.{remade, shut_nothing, logged_still, written_still, shut_still, logged_finds, finds_either, sound_still, gate_other, left_all, few_first, far, gate_written, made_sure, settled}

bool_cases : (b : Bool) → (b ≡ true) ⊎ (b ≡ false)
bool_cases true = inl refl
bool_cases false = inr refl

shows_left : (f : FileState) → MayLeave f f.shows
shows_left f n sure = refl

-- where as much is kept, it stands so
pub as_much : (G H : Held → Type 0) (name : ℕ) (before after : Contents) (d e : Disk) → Moves [] [] d e → ((n : ℕ) → G (d.log.held n) → H (e.log.held n)) → IsUnderWayBy G name before after d → IsUnderWayBy H name before after e
as_much G H name before after d e m held (inl (image, records, either, l)) =
    inl (image, records, either, logged_still name records image [] [] d e m (λ n lt t. t) (λ n t. absurd t) (shut_still (place records) [] [] d e m (λ n le t. t) l.shut) l)
as_much G H name before after d e m held (inr (x, y, first, others, is_x, is_y, w)) =
    inr (x, y, first, others, is_x, is_y, written_still G H name first others x y [] d e m (λ n other t. t) (held (place first) w.gate) w)

opens_moves : (d e : Disk) → Reopens d e → Moves [] [] d e
opens_moves d e o = record {
  log_keeps = λ n v none k. let s = o.log_opens.still n k.sure in record { sure = s.sure; is = s.is ∙ k.is };
  image_keeps = λ n v none k. let s = o.image_opens.still n k.sure in record { sure = s.sure; is = s.is ∙ k.is };
}

left_opens : (f : FileState) (left : Contents) → MayLeave f left → Opens f (on_disk left)
left_opens f left leaves = record { sound = refl; still = λ n sure. record { sure = refl; is = leaves n sure } }

sure_as : (f : FileState) (x y : Contents) → ((n : ℕ) → x n ≡ y n) → IsSure f x → IsSure f y
sure_as f x y same sure n = let k = sure n in record { sure = k.sure; is = k.is ∙ same n }

pub rest_as : (x y : Contents) → ((n : ℕ) → x n ≡ y n) → (d : Disk) → IsAtRest x d → IsAtRest y d
rest_as x y same d rest = record { gate = rest.gate; image_is = sure_as d.image x y same rest.image_is; sound = rest.sound }

either_as : (x y before after : Contents) → ((n : ℕ) → y n ≡ x n) → IsEither x before after → IsEither y before after
either_as x y before after same either = ⊎_elim (λ is. inl (λ n. same n ∙ is n)) (λ is. inr (λ n. same n ∙ is n)) either

abbrev IsKept : Held → Type 0
IsKept held = held ≡ Kept

module _ (name : ℕ) (before after : Contents) where
  abbrev P : Disk → Type 0
  P = IsUnderWay name before after

  -- what is done once the log was synced, and what it finds
  record Rest (d : Disk) : Type 0 where
    found : Contents
    found_is : recovered name d.log.shows d.image.shows ≡ Some found
    either : IsEither found before after
    reaches : Reaches P d (to_recover (standing name d.log.shows) (d.log.shows 0)) (IsAtRest found)

  -- by the steps of a log that stands so
  rest_by : (d : Disk) (s : Standing) → standing name d.log.shows ≡ s → (x : Contents) → IsEither x before after → (found : Contents) → redone s d.image.shows ≡ Some found → ((n : ℕ) → found n ≡ x n)
      → Reaches P d (to_recover s (d.log.shows 0)) (IsAtRest x) → Rest d
  rest_by d s is x either found found_is same reaches = record {
    found = found;
    found_is = ap (λ (t : Standing). redone t d.image.shows) is ∙ found_is;
    either = either_as x found before after same either;
    reaches = subst (λ (t : Standing). Reaches P d (to_recover t (d.log.shows 0)) (IsAtRest found)) (sym is) (record { along = reaches.along; ends = rest_as x found (λ n. sym (same n)) _ reaches.ends });
  }

  -- the gate isn't open, and the image is sure
  none_by : (d : Disk) → P d → standing name d.log.shows ≡ stand_of [] → (x : Contents) → IsEither x before after → IsSure d.image x → Reaches P d (to_recover (stand_of []) (d.log.shows 0)) (IsAtRest x) → Rest d
  none_by d here is x either sure reaches = rest_by d (stand_of []) is x either d.image.shows refl (λ n. let k = sure n in k.is) reaches

  nothing_to_do : (d : Disk) → P d → d.log.failed ≡ false → Keeps d.log 0 closed → (x : Contents) → IsSure d.image x → Reaches P d (to_recover (stand_of []) (d.log.shows 0)) (IsAtRest x)
  nothing_to_do d here sound gate x sure =
      subst (λ (l : List Step). Reaches P d l (IsAtRest x)) (sym (ap (λ (b : Bool). if b then [] else to_gate 0 closed) ((bytes_eq-Decides (d.log.shows 0) closed).1 gate.is)))
      (record { along = here; ends = record { gate = gate; image_is = sure; sound = sound } })

  -- the log is sure to say its records
  rests_logged : (d : Disk) → d.log.failed ≡ false → (records : List Changes) (image : Contents) → IsEither image before after → IsLogged name records image d → Rest d
  rests_logged d sound [] image either l =
      let here : P d = inl (image, [], either, l) in
      let none = shut_nothing name 0 d.log d.log.shows l.shut (shows_left d.log) in
      let sure = made_sure name before after image d.image l.makes in
      let gate : Keeps d.log 0 closed = elim l.shut [
        | inl keeps ↦ keeps
        | inr other ↦ absurd (let some : 0 < 0 = other.2 in omega arith)
      ] in
      none_by d here (stands_so [] name d.log.shows tt none l.few) image either sure (nothing_to_do d here sound gate image sure)
  rests_logged d sound (c ∷ records) image either l =
      let all : List Changes = c ∷ records in
      let are : AreRecords name d.log.shows 0 all = l.says d.log.shows (λ n lt. let k = l.sure n lt in k.is) in
      let none = shut_nothing name (place all) d.log d.log.shows l.shut (shows_left d.log) in
      rest_by d (stand_of all) (stands_so all name d.log.shows are none l.few) image either (put (changes_of all) d.image.shows) refl (remade (changes_of all) image d.image d.image.shows l.makes (shows_left d.image))
      (settled name before after all image either (singly (changes_of all)) (spread_singly (changes_of all)) d sound (omega arith) l)

  module _ (d : Disk) (sound : d.log.failed ≡ false) (others : List Changes) (x y : Contents) (is_x : IsEither x before after) (is_y : IsEither y before after) where
    -- the first gate isn't open
    shuts : (w : IsWritten IsKept name [] others x y d) → P d → bytes_eq (d.log.shows 0) (d.log.shows (0 + 1)) ≡ false → Rest d
    shuts w here other =
        let none = gate_other name [] others x y d w d.log.shows other in
        let sure = made_sure name before after x d.image w.makes_before in
        let is = stands_so [] name d.log.shows tt none (few_first name [] others x y d w) in
        let still : IsWritten AnyHow name [] others x y d = written_still IsKept AnyHow name [] others x y [] d d (record { log_keeps = λ n v none k. k; image_keeps = λ n v none k. k }) (λ n other t. t) tt w in
        let r = gate_written name before after [] others x y is_x is_y closed d still in
        elim (bool_cases (bytes_eq (d.log.shows 0) closed)) [
          | inl same ↦ none_by d here is x is_x sure (nothing_to_do d here sound (record { sure = w.gate; is = (bytes_eq-Decides (d.log.shows 0) closed).0 same }) x sure)
          | inr not_closed ↦ none_by d here is x is_x sure
              (subst (λ (l : List Step). Reaches P d l (IsAtRest x)) (sym (ap (λ (b : Bool). if b then [] else to_gate 0 closed) not_closed))
              (record { along = r.along; ends = record { gate = r.ends.2; image_is = made_sure name before after x _ r.ends.0.makes_before; sound = sound_still (to_gate 0 closed) d ∙ sound } }))
        ]

    shown : (f : FileState) (n : ℕ) → f.held n ≡ Kept → Keeps f n (f.shows n)
    shown f n sure = record { sure = sure; is = refl }

    -- a later one isn't open
    first_says : (c : Changes) (more : List Changes) (w : IsWritten IsKept name (c ∷ more) others x y d) → bytes_eq (d.log.shows (place (c ∷ more))) (d.log.shows (place (c ∷ more) + 1)) ≡ false → IsLogged name (c ∷ more) x d
    first_says c more w other =
        let first : List Changes = c ∷ more in
        let g : ℕ = place first in
        let behind = w.sure (g + 1) (omega (arith, far name first others x y d w)) (λ same. omega arith) in
        record {
          log = w.log;
          says = w.says_first;
          few = few_first name first others x y d w;
          sure = λ n lt. w.sure n (omega (arith, far name first others x y d w)) (λ same. omega arith);
          shut = inr (d.log.shows g, d.log.shows (g + 1), omega arith, shown d.log g w.gate, shown d.log (g + 1) behind.sure, other);
          makes = w.makes_before;
        }

    -- it is open
    all_says : (first : List Changes) (w : IsWritten IsKept name first others x y d) → bytes_eq (d.log.shows (place first)) (d.log.shows (place first + 1)) ≡ true → IsLogged name (first ++ others) y d
    all_says first w same = record {
      log = w.log;
      says = w.says;
      few = w.few;
      sure = λ n lt. elim (cases_eq n (place first)) [
        | inr other ↦ w.sure n lt other
        | inl here ↦ subst (λ (k : ℕ). Keeps d.log k (w.log k)) (sym here)
            (record { sure = w.gate; is = left_all name first others x y d w d.log.shows (shows_left d.log) same (place first) (omega (arith, far name first others x y d w)) })
      ];
      shut = w.shut;
      makes = w.makes_after;
    }

    rests_written : (first : List Changes) → IsWritten IsKept name first others x y d → P d → (b : Bool) → bytes_eq (d.log.shows (place first)) (d.log.shows (place first + 1)) ≡ b → Rest d
    rests_written first w here true is = rests_logged d sound (first ++ others) y is_y (all_says first w is)
    rests_written [] w here false is = shuts w here is
    rests_written (c ∷ more) w here false is = rests_logged d sound (c ∷ more) x is_x (first_says c more w is)

  goes_on : (d : Disk) → d.log.failed ≡ false → IsUnderWayBy IsKept name before after d → P d → Rest d
  goes_on d sound (inl (image, records, either, l)) here = rests_logged d sound records image either l
  goes_on d sound (inr (x, y, first, others, is_x, is_y, w)) here =
      rests_written d sound others x y is_x is_y first w here (bytes_eq (d.log.shows (place first)) (d.log.shows (place first + 1))) refl

  not_stale : (h : Held) → (h ≡ Stale → ⊥) → kept h ≡ Kept
  not_stale Kept none = refl
  not_stale Written none = refl
  not_stale Stale none = absurd (none refl)

  recovers : (d : Disk) → IsRecoverable name before after d → RecoveryIsSafe name before after d
  recovers d h =
      let d1 : Disk = done d (Sync Log) in
      let first_moves = all_moves [] [] d (Sync Log ∷ []) (tt, tt) in
      let stands : (e : Disk) → Moves [] [] d e → P e = λ e m. as_much (λ h. h ≡ Stale → ⊥) AnyHow name before after d e m (λ n g. tt) h.under_way in
      let sure : IsUnderWayBy IsKept name before after d1 = as_much (λ h. h ≡ Stale → ⊥) IsKept name before after d d1 first_moves (λ n g. not_stale (d.log.held n) g) h.under_way in
      let rest = goes_on d1 h.sound sure (stands d1 first_moves) in
      let first = along P [] [] d (Sync Log ∷ []) (tt, tt) stands in
      let whole : Along P d (recover_plan name d.log.shows) = (first.0, first.1, rest.reaches.along) in
      record {
        found = rest.found;
        found_is = rest.found_is;
        either = rest.either;
        each_moment = λ events moment. at_moment P d (recover_plan name d.log.shows) events whole moment;
        rest = subst (IsAtRest rest.found) (sym (run_all (recover_plan name d.log.shows) d)) rest.reaches.ends;
      }

  survives : (d : Disk) → P d → (log left : Contents) → Leaves d log left → IsRecoverable name before after (restarted log left)
  survives d here log left leaves = record {
    under_way = as_much AnyHow (λ h. h ≡ Stale → ⊥) name before after d (restarted log left)
        (opens_moves d (restarted log left) (record { log_opens = left_opens d.log log leaves.log_left; image_opens = left_opens d.image left leaves.image_left })) (λ n g stale. cc) here;
    sound = refl;
  }

pub recoveries_are_safe : RecoveriesAreSafe
recoveries_are_safe name before after d h = recovers name before after d h

pub crashes_are_safe : CrashesAreSafe
crashes_are_safe name before after d here = record {
  finds = finds_either AnyHow name before after d here;
  again = λ e o. as_much AnyHow AnyHow name before after d e (opens_moves d e o) (λ n g. tt) here;
  recoverable = survives name before after d here;
}

-- what is said of one image or the other, where they are one
either_one : (A : Type 0) → A ⊎ A → A
either_one A (inl a) = a
either_one A (inr a) = a

pub current_recoverable : (name at : ℕ) (image : Contents) (d : Disk) → IsCurrent name at image d → IsRecoverable name image image d
current_recoverable name at image d c = record { under_way = inl (image, c.records, inl (λ n. refl), c.logged); sound = c.sound }

pub settling_is_safe : (name at : ℕ) (image : Contents) (d : Disk) → IsCurrent name at image d → SettlingIsSafe name image d
settling_is_safe name at image d c =
    let safe = recovers name image image d (current_recoverable name at image d c) in
    record {
      finds = logged_finds name c.records image d c.logged;
      each_moment = λ events moment log left leaves. either_one (IsImage (recovered name log left) image) (finds_either AnyHow name image image _ (safe.each_moment events moment) log left leaves);
      rest = rest_as safe.found image (either_one ((n : ℕ) → safe.found n ≡ image n) safe.either) _ safe.rest;
    }
