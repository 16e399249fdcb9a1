-- What is lost behind exchanges.
use Rattle.std.proofs.Common.{◌≡◌, ◌⊎◌, IsTrue, List, [], ◌∷◌, ◌++◌, Option, Some, None, IfSome, inl, inr, refl}
use Rattle.errno.specs.declared.Errno.TheVariants.{ENOENT}
use Rattle.fuse_nodes.specs.Known.{Known}
use Rattle.fuse_nodes.specs.Laws.{IsLost}
use Rattle.tree.specs.declared.Attributes.{Attributes}
use Rattle.tree.specs.declared.Call.{Call}
use Rattle.tree.specs.declared.Call.TheVariants as call
use Rattle.tree.specs.declared.PathFrom.{PathFrom}
use Rattle.tree.specs.declared.Reply.TheVariants as reply
use Rattle.talks.specs.Talks.{Exchange, IsDone}
use Rattle.talks.specs.declared.ask.Ask.{Ask}
use Rattle.talks.specs.declared.ask.Ask.TheVariants as ask
use Rattle.fuse_server.specs.Asking.{look_reply}
use Rattle.fuse_server.proofs.Asking.{looked_then}
use Rattle.fuse_server.specs.Losing.{asks_for_name, takes_name, is_last, AreQuiet, Loses, LosesAsked, LosesBy, WasLooked}

quiet_call : (k : Known) (before : List Exchange) (c : Call) (X : Type 0) → (IsTrue (takes_name c) → X → ⊥) → X → LosesBy k before c
quiet_call k before (call.Unlink path) X quiet done = absurd (quiet refl done)
quiet_call k before (call.Rmdir path) X quiet done = absurd (quiet refl done)
quiet_call k before (call.Rename old new) X quiet done = absurd (quiet refl done)
quiet_call k before c X quiet done = tt

quiet_ask : (k : Known) (before : List Exchange) (a : Ask) (X : Type 0) → (IsTrue (asks_for_name a) → X → ⊥) → X → LosesAsked k before a
quiet_ask k before (ask.Call session c) X quiet done = quiet_call k before c X quiet done
quiet_ask k before a X quiet done = tt

-- where no name is taken away, nothing has to be lost
pub quiet_loses : (k : Known) (log : List Exchange) → AreQuiet log → Loses k log
quiet_loses k [] quiet = tt
quiet_loses k (e ∷ es) (own, rest) = (quiet_ask k es e.ask (IsDone e.heard) own, quiet_loses k es rest)

-- what was lost stays so behind further exchanges before it
call_on : (k : Known) (first before : List Exchange) (c : Call) → LosesBy k before c → LosesBy k (before ++ first) c
call_on k first before (call.Unlink path) it =
    record { was = it.was; looked = looked_then path (reply.Inode it.was) first before it.looked; lost = it.lost }
call_on k first before (call.Rmdir path) it =
    record { was = it.was; looked = looked_then path (reply.Inode it.was) first before it.looked; lost = it.lost }
call_on k first before (call.Rename old new) (inl none) = inl (looked_then new (reply.Refused ENOENT) first before none)
call_on k first before (call.Rename old new) (inr it) = inr (record {
  was = it.was;
  moved = it.moved;
  looked = looked_then new (reply.Inode it.was) first before it.looked;
  looked_old = looked_then old (reply.Inode it.moved) first before it.looked_old;
  lost = it.lost;
})
call_on k first before c it = tt

ask_on : (k : Known) (first before : List Exchange) (a : Ask) → LosesAsked k before a → LosesAsked k (before ++ first) a
ask_on k first before (ask.Call session c) it = call_on k first before c it
ask_on k first before a it = tt

pub loses_on : (k : Known) (first then : List Exchange) → Loses k first → Loses k then → Loses k (then ++ first)
loses_on k first [] before it = before
loses_on k first (e ∷ es) before (own, rest) = (λ done. ask_on k first es e.ask (own done), loses_on k first es before rest)

-- a name became another one
pub replaced : (k : Known) (old new : PathFrom) (before : List Exchange) (found : Option Attributes) (moved : Attributes)
    → WasLooked new (look_reply found) before → WasLooked old (reply.Inode moved) before
    → IfSome found (λ (was : Attributes). IsTrue (is_last was) → (was.inode ≡ moved.inode) ⊎ IsLost k was.inode)
    → LosesBy k before (call.Rename old new)
replaced k old new before None moved looked looked_old lost = inl looked
replaced k old new before (Some was) moved looked looked_old lost =
    inr (record { was = was; moved = moved; looked = looked; looked_old = looked_old; lost = lost })
