-- What the laws say of calls.
use Rattle.std.proofs.Common.{◌≡◌, ℕ, ◌+◌, ◌^◌, ◌<◌, length, Option, Some, Result, OnOk, false}
use Rattle.stable.specs.Disk.{Contents, Changes, put}
use Rattle.stable.specs.Runs.{Known, now, Follows, Knows, EachMoment}
use Rattle.redo.specs.Record.{record_units, most}
use Rattle.redo.specs.Plans.{log_plan, recover_plan}
use Rattle.redo.specs.UnderWay.{Fits, IsUnderWay, IsCurrent}
use Rattle.redo.specs.Laws.{FindsEither, IsRecoverable, RestsWithEither}
use Rattle.redo.proofs.Calls.{each_moment, holds_after, known_now}
use Rattle.redo.proofs.RunLaws.{commits_are_safe}
use Rattle.redo.proofs.RecoverLaws.{recoveries_are_safe}

module _ {T E : Type 0} (name : ℕ) (small : name < 2 ^ 64) (begin : ℕ) (room : begin < most) (changes : Changes) (fits : Fits changes) (old new : Option Known) (r : Result T E) where
  pub log_moments : Follows {T = T} {E = E} (log_plan name begin changes) old new r → (image : Contents) → Knows (IsCurrent name begin image) old → EachMoment (FindsEither name image (put changes image)) old new
  log_moments follows image current =
      each_moment {T = T} {E = E} (FindsEither name image (put changes image)) (λ k. log_plan name begin changes) old new r
      (λ k is. (commits_are_safe.logging name begin small room changes fits image (now k) (known_now (IsCurrent name begin image) old k current is)).each_moment) (λ k is. follows)

  pub log_under_way : Follows {T = T} {E = E} (log_plan name begin changes) old new r → (image : Contents) → Knows (IsCurrent name begin image) old → EachMoment (IsUnderWay name image (put changes image)) old new
  log_under_way follows image current =
      each_moment {T = T} {E = E} (IsUnderWay name image (put changes image)) (λ k. log_plan name begin changes) old new r
      (λ k is. (commits_are_safe.logging name begin small room changes fits image (now k) (known_now (IsCurrent name begin image) old k current is)).under_way) (λ k is. follows)

  pub log_current : Follows {T = T} {E = E} (log_plan name begin changes) old new r → (image : Contents) → Knows (IsCurrent name begin image) old
      → OnOk r (Knows (IsCurrent name (begin + record_units (length changes)) (put changes image)) new)
  log_current follows image current =
      holds_after {T = T} {E = E} (IsCurrent name begin image) (IsCurrent name (begin + record_units (length changes)) (put changes image)) (λ k. log_plan name begin changes) old new r current
      (λ k is here. (commits_are_safe.logging name begin small room changes fits image (now k) here).current) (λ k is. follows)

module _ {T E : Type 0} (name : ℕ) (before after : Contents) (old new : Option Known) (r : Result T E) where
  abbrev FollowsPlan : Type 0
  FollowsPlan = (k : Known) → old ≡ Some k → (now k).log.failed ≡ false → Follows {T = T} {E = E} (recover_plan name (now k).log.shows) old new r

  -- the log is sound, where it can be recovered
  by_plan : FollowsPlan → Knows (IsRecoverable name before after) old → (k : Known) → old ≡ Some k → Follows {T = T} {E = E} (recover_plan name (now k).log.shows) old new r
  by_plan follows h k is = follows k is (known_now (IsRecoverable name before after) old k h is).sound

  pub recover_moments : FollowsPlan → Knows (IsRecoverable name before after) old → EachMoment (IsUnderWay name before after) old new
  recover_moments follows h =
      each_moment {T = T} {E = E} (IsUnderWay name before after) (λ k. recover_plan name (now k).log.shows) old new r
      (λ k is. (recoveries_are_safe name before after (now k) (known_now (IsRecoverable name before after) old k h is)).each_moment) (by_plan follows h)

  pub recover_rests : FollowsPlan → Knows (IsRecoverable name before after) old → OnOk r (Knows (RestsWithEither before after) new)
  recover_rests follows h =
      holds_after {T = T} {E = E} (IsRecoverable name before after) (RestsWithEither before after) (λ k. recover_plan name (now k).log.shows) old new r h
      (λ k is here. let safe = recoveries_are_safe name before after (now k) here in (safe.found, safe.rest, safe.either)) (by_plan follows h)
