-- What is kept of each driver, and what was issued, each event and what is done within one keep.
use Rattle.std.proofs.Common.{◌≡◌, ℕ, ◌+◌, List, ◌∷◌, ◌++◌, sym, subst}
use Rattle.std.proofs.lemmas.List.{append_assoc}
use Rattle.message.specs.declared.BlockRequest.{BlockRequest}
use Rattle.message.specs.declared.BlockReply.{BlockReply}
use Rattle.bdev.specs.DriverState.{DriverState}
use Rattle.records.specs.Marks.{Mark}
use Rattle.schedule.specs.declared.Event.{Event}
use Rattle.schedule.specs.Groups.{Group, marks_of}
use Rattle.conformance.specs.Core.{Core, FollowsGroups}
use Rattle.conformance.specs.Happens.{Begins, Adds}
use Rattle.conformance.specs.Steady.{IsKept, AllSlots}
use Rattle.conformance.proofs.TickLaws.{follows_begins, follows_adds}
use Rattle.conformance.specs.Took.{IssuedSoFar}
use Rattle.conformance.proofs.Moves.{Move, begins_move, adds_move}
use Rattle.conformance.proofs.IssuedLaws.{Known, known_moves}
use Rattle.conformance.proofs.EachDriver.{Keeps, HoldsOf, slots_move}

pub known_of : (drivers : ℕ) (groups : List Group) (c : Core) → IssuedSoFar drivers groups c
    → Known (marks_of groups) c.disks c.supply c.posts
known_of drivers groups c h = record {
  numbered = h.numbered;
  new = h.new;
  posted = h.posts;
  since = h.since;
  unstarted = h.unstarted;
  silent = h.silent;
}

issued_of : (drivers : ℕ) (groups : List Group) (c : Core) → FollowsGroups drivers groups c
    → Known (marks_of groups) c.disks c.supply c.posts
    → IssuedSoFar drivers groups c
issued_of drivers groups c follows k = record {
  follows = follows;
  numbered = k.numbered;
  new = k.new;
  posts = k.posted;
  since = k.since;
  unstarted = k.unstarted;
  silent = k.silent;
}

module _ (Fit : List Mark → Type 0) (Holds : List BlockRequest → List BlockReply → DriverState → List BlockRequest → Type 0)
    (keeps : Keeps Fit Holds) where
  -- it holds of each driver while the record fits
  pub record HoldsSoFar (drivers : ℕ) (place : ℕ) (groups : List Group) (c : Core) : Type 0 where
    pub issued : IssuedSoFar drivers groups c
    pub slots : Fit (marks_of groups) → AllSlots (HoldsOf Fit Holds keeps (marks_of groups) c.disks.sent) c.disks

  holds_begins : (drivers place : ℕ) (groups : List Group) (c a : Core) (event : Event) (marks : List Mark)
      → Begins place groups c event marks a
      → HoldsSoFar drivers place groups c → HoldsSoFar drivers (place + 1) ((event, marks) ∷ groups) a
  holds_begins drivers place groups c a event marks begins h =
      let k : Known (marks_of groups) c.disks c.supply c.posts = known_of drivers groups c h.issued in
      let move : Move c a marks = begins_move place groups c a event marks h.issued.follows.latest begins in
      record {
        issued = issued_of drivers ((event, marks) ∷ groups) a (follows_begins drivers place groups c a event marks h.issued.follows begins)
            (known_moves (marks_of groups) c a marks move k);
        slots = λ fit. slots_move Fit Holds keeps (marks_of groups) c a marks move k h.slots fit;
      }

  holds_adds : (drivers place : ℕ) (event : Event) (group : List Mark) (earlier : List Group) (c a : Core) (marks : List Mark)
      → Adds c marks a
      → HoldsSoFar drivers place ((event, group) ∷ earlier) c → HoldsSoFar drivers place ((event, marks ++ group) ∷ earlier) a
  holds_adds drivers place event group earlier c a marks adds h =
      let k : Known (group ++ marks_of earlier) c.disks c.supply c.posts = known_of drivers ((event, group) ∷ earlier) c h.issued in
      let move : Move c a marks = adds_move c a marks adds in
      let joined : (marks ++ group) ++ marks_of earlier ≡ marks ++ (group ++ marks_of earlier) =
      append_assoc marks group (marks_of earlier) in
      record {
        issued = issued_of drivers ((event, marks ++ group) ∷ earlier) a
            (follows_adds drivers event group earlier c a marks h.issued.follows adds)
            (subst (λ (l : List Mark). Known l a.disks a.supply a.posts) (sym joined)
            (known_moves (group ++ marks_of earlier) c a marks move k));
        slots = λ fit. subst (λ (l : List Mark). AllSlots (HoldsOf Fit Holds keeps l a.disks.sent) a.disks) (sym joined)
            (slots_move Fit Holds keeps (group ++ marks_of earlier) c a marks move k h.slots (subst (λ (l : List Mark). Fit l) joined fit));
      }

  pub holds_kept : (drivers : ℕ) → IsKept (HoldsSoFar drivers)
  holds_kept drivers = record {
    begins = λ place groups c a event marks paid begins h. holds_begins drivers place groups c a event marks begins h;
    adds = λ place event group earlier c a marks adds h. holds_adds drivers place event group earlier c a marks adds h;
  }
