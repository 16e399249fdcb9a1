-- How outcomes are kept: the targets of links apart.
use Rattle.std.specs.Prelude.{ℕ, ◌-◌, ◌<◌, ◌≤◌, List, [], ◌∷◌, length, map, slice_index_or, vec_len, vec_capacity, All, Bool, false, ◌==◌}
use Rattle.errno.specs.declared.Errno.{Errno}
use Rattle.errno.specs.Errors.{errno_number}
use Rattle.std.specs.Global.{Vec}
use Rattle.tree.specs.declared.LinkTarget.{LinkTarget}
use Rattle.tree.specs.declared.Outcome.{Outcome}
use Rattle.tree.specs.declared.Outcome.TheVariants as outcome
use Rattle.tree.specs.declared.Reply.TheVariants as reply
use Rattle.reply_text.specs.OutcomeList.{OutcomeList}
use Rattle.reply_text.specs.declared.outcomes.Kept.{Kept}
use Rattle.reply_text.specs.declared.outcomes.Kept.TheVariants.{Cut, Refused, Done, Descriptor, Bytes, Wrote, At, Inode}
use Rattle.reply_text.specs.declared.outcomes.Kept.TheVariants.{Names, Space, Target}

-- stands where there is no target
abbrev pub no_target : LinkTarget
no_target = record { bytes = []; length = 0 }

-- the outcome that is kept so beside these targets
abbrev pub outcome_of : List LinkTarget → Kept → Outcome
outcome_of targets Cut = outcome.Cut
outcome_of targets (Refused e) = outcome.Reply (reply.Refused e)
outcome_of targets Done = outcome.Reply reply.Done
outcome_of targets (Descriptor n) = outcome.Reply (reply.Descriptor n)
outcome_of targets (Bytes bytes) = outcome.Reply (reply.Bytes bytes)
outcome_of targets (Wrote n) = outcome.Reply (reply.Wrote n)
outcome_of targets (At n) = outcome.Reply (reply.At n)
outcome_of targets (Inode a) = outcome.Reply (reply.Inode a)
outcome_of targets (Names names) = outcome.Reply (reply.Names names)
outcome_of targets (Space r) = outcome.Reply (reply.Space r)
outcome_of targets (Target at) = outcome.Reply (reply.Target (slice_index_or targets at no_target))

-- the target of an outcome, if it has one
abbrev pub targets_of : Outcome → List LinkTarget
targets_of (outcome.Reply (reply.Target target)) = target ∷ []
targets_of _ = []

-- its target is among so many
abbrev pub IsWithin : ℕ → Kept → Type 0
IsWithin count (Target at) = at < count
IsWithin count _ = Unit {0}

-- whether it is a refusal for this reason
abbrev pub is_kept_refused : Errno → Kept → Bool
is_kept_refused errno (Refused e) = errno_number e == errno_number errno
is_kept_refused errno _ = false

-- The targets of those that have one are there. There are no more targets than outcomes, and there is room for as many.
pub record AreKept (kept : Vec Kept) (targets : Vec LinkTarget) : Type 0 where
  pub within : All (IsWithin (length targets.items)) kept.items
  pub count : vec_len targets ≤ vec_len kept
  pub capacity : vec_capacity kept ≤ vec_capacity targets

-- all of them in their order, and the room that is left
abbrev pub list_of : Vec Kept → Vec LinkTarget → OutcomeList
list_of kept targets = record { items = map (outcome_of targets.items) kept.items; room = vec_capacity kept - vec_len kept }
