-- What was issued to each driver of a run, what it took of that, and what it answered.
use Rattle.std.specs.Prelude.{◌≡◌, ℕ, ◌+◌, ◌<◌, List, [], ◌∷◌, length, ◌==◌, if◌then◌else◌}
use Rattle.message.specs.declared.BlockReply.{BlockReply}
use Rattle.bdev.specs.DriverState.{DriverState}
use Rattle.bdev.specs.Promises.{IsDriver}
use Rattle.records.specs.Open.{IsIn}
use Rattle.schedule.specs.declared.Sent.{Sent}
use Rattle.schedule.specs.Groups.{Group, marks_of, Each}
use Rattle.schedule.specs.Drivers.{requests_issued_to, TookItsOwn}
use Rattle.true_replies.specs.Posted.{since_start}
use Rattle.simulated_link.specs.Disks.{Slot}
use Rattle.conformance.specs.Core.{Core, FollowsGroups}
use Rattle.conformance.specs.Steady.{AllSlots}

-- a driver that was handed in: it took nothing
pub record TookNothing (d : DriverState) : Type 0 where
  pub driver : IsDriver d
  pub unused : d.last ≡ 0

-- the replies of driver g, oldest first
abbrev pub replies_from : ℕ → List Sent → List BlockReply
replies_from g [] = []
replies_from g (s ∷ sent) = if s.reply.from.generation == g then s.reply ∷ replies_from g sent else replies_from g sent

-- The drivers are numbered as they were started, and those that are left took nothing. Each accepted post was issued to the driver that it
-- names, and since the last start requests were issued to that driver alone; to one that wasn't started nothing was issued, and it sent
-- nothing.
pub record IssuedSoFar (drivers : ℕ) (groups : List Group) (c : Core) : Type 0 where
  pub follows : FollowsGroups drivers groups c
  pub numbered : length c.disks.older + 1 ≡ c.disks.media.generation
  pub new : Each TookNothing c.supply
  pub posts : Each (λ p. IsIn p.request (requests_issued_to p.to.generation (marks_of groups))) c.posts
  pub since : requests_issued_to c.disks.media.generation (marks_of groups) ≡ since_start (marks_of groups)
  pub unstarted : (h : ℕ) → c.disks.media.generation < h → requests_issued_to h (marks_of groups) ≡ []
  pub silent : (h : ℕ) → c.disks.media.generation < h → replies_from h c.disks.sent ≡ []

-- what stands with a driver was issued to it: what it took last, what it works on, and each request on its line
pub record SlotTook (groups : List Group) (g : ℕ) (s : Slot) : Type 0 where
  pub took : TookItsOwn (marks_of groups) g s.state
  pub line : Each (λ r. IsIn r (requests_issued_to g (marks_of groups))) s.line

-- so it is of each driver that was started
pub record TookSoFar (drivers : ℕ) (place : ℕ) (groups : List Group) (c : Core) : Type 0 where
  pub issued : IssuedSoFar drivers groups c
  pub slots : AllSlots (SlotTook groups) c.disks
