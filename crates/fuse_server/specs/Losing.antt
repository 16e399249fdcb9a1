-- What becomes of what is known where names are taken away.
use Rattle.std.specs.Prelude.{⊤, ◌≡◌, ◌⊎◌, ◌||◌, ◌/◌, ◌==◌, ℕ, Bool, true, false, nat_lt, IsTrue, List, [], ◌∷◌}
use Rattle.errno.specs.declared.Errno.TheVariants.{ENOENT}
use Rattle.fuse_nodes.specs.Known.{Known}
use Rattle.fuse_nodes.specs.Laws.{IsLost}
use Rattle.tree.specs.declared.Attributes.{Attributes}
use Rattle.tree.specs.declared.Call.{Call}
use Rattle.tree.specs.declared.Call.TheVariants as call
use Rattle.tree.specs.declared.PathFrom.{PathFrom}
use Rattle.tree.specs.declared.Reply.{Reply}
use Rattle.tree.specs.declared.Reply.TheVariants as reply
use Rattle.talks.specs.Talks.{Exchange, Replies, IsDone}
use Rattle.talks.specs.declared.ask.Ask.{Ask}
use Rattle.talks.specs.declared.ask.Ask.TheVariants as ask

-- the calls that take a name away, or put another file under it
abbrev pub takes_name : Call → Bool
takes_name (call.Unlink path) = true
takes_name (call.Rmdir path) = true
takes_name (call.Rename old new) = true
takes_name c = false

abbrev pub asks_for_name : Ask → Bool
asks_for_name (ask.Call session c) = takes_name c
asks_for_name a = false

-- No name was taken away in this exchange.
abbrev pub IsQuiet : Exchange → Type 0
IsQuiet e = IsTrue (asks_for_name e.ask) → IsDone e.heard → ⊥

-- in none of these
abbrev pub AreQuiet : List Exchange → Type 0
AreQuiet [] = ⊤
AreQuiet (e ∷ es) = IsQuiet e × AreQuiet es

-- Among exchanges is a look at this path, and this was its reply.
abbrev pub WasLooked : PathFrom → Reply → List Exchange → Type 0
WasLooked path r [] = ⊥
WasLooked path r (e ∷ es) = ((session : ℕ) × (e.ask ≡ ask.Call session (call.Lstat path)) × Replies e.heard r) ⊎ WasLooked path r es

-- what has these attributes has no other name: it has one link at most, or is a directory
abbrev pub is_last : Attributes → Bool
is_last was = nat_lt was.links 2 || (was.mode / 4096 == 4)

-- A file's name was taken away: a look at it before told what it named. If that had no other name, it is lost.
pub record IsUnlinked (k : Known) (path : PathFrom) (before : List Exchange) : Type 0 where
  pub was : Attributes
  pub looked : WasLooked path (reply.Inode was) before
  pub lost : IsTrue (is_last was) → IsLost k was.inode

-- A directory's name was taken away: it is lost.
pub record IsRemoved (k : Known) (path : PathFrom) (before : List Exchange) : Type 0 where
  pub was : Attributes
  pub looked : WasLooked path (reply.Inode was) before
  pub lost : IsLost k was.inode

-- A name became another one: looks told what the other one named before, and what the name itself did. If the first had no other name, it
-- is lost, unless it was the same file.
pub record IsReplaced (k : Known) (old new : PathFrom) (before : List Exchange) : Type 0 where
  pub was : Attributes
  pub moved : Attributes
  pub looked : WasLooked new (reply.Inode was) before
  pub looked_old : WasLooked old (reply.Inode moved) before
  pub lost : IsTrue (is_last was) → (was.inode ≡ moved.inode) ⊎ IsLost k was.inode

-- What becomes of what is known by a call that is done, behind these exchanges. Where a look told that nothing stood at the other name of a
-- rename, nothing has to.
abbrev pub LosesBy : Known → List Exchange → Call → Type 0
LosesBy k before (call.Unlink path) = IsUnlinked k path before
LosesBy k before (call.Rmdir path) = IsRemoved k path before
LosesBy k before (call.Rename old new) = WasLooked new (reply.Refused ENOENT) before ⊎ IsReplaced k old new before
LosesBy k before c = ⊤

abbrev pub LosesAsked : Known → List Exchange → Ask → Type 0
LosesAsked k before (ask.Call session c) = LosesBy k before c
LosesAsked k before a = ⊤

-- So it is with each of these exchanges.
abbrev pub Loses : Known → List Exchange → Type 0
Loses k [] = ⊤
Loses k (e ∷ es) = (IsDone e.heard → LosesAsked k es e.ask) × Loses k es
