-- As many bytes are written as there is room for.
use Rattle.std.proofs.Common.{◌≡◌, ◌<◌, ℕ, ℤ, List, [], ◌∷◌, ◌++◌, Some, None, Option, Result, Ok, Err, false, length, min, take, refl, subst, sym}
use Rattle.std.specs.Prelude.{pos}
use Rattle.std.specs.Borrow.{Bor}
use Rattle.errno.specs.declared.Errno.TheVariants.{ENOSPC}
use Rattle.fuse_nodes.specs.Known.{Known}
use Rattle.fuse_nodes.specs.declared.node.Descriptor.{Descriptor}
use Rattle.talks.specs.Hearing.{count_in}
use Rattle.talks.specs.Talks.{MayHear}
use Rattle.talks.specs.declared.ask.Ask.TheVariants as ask
use Rattle.talks.specs.declared.ask.Leaving.{Leaving}
use Rattle.talks.specs.declared.heard.Heard.{Heard}
use Rattle.talks.specs.declared.heard.Heard.TheVariants as heard_of
use Rattle.talks.specs.declared.refused.Refused.TheVariants.{By}
use Rattle.talks.specs.declared.sessions.EnterRefusal.{EnterRefusal}
use Rattle.tree.specs.declared.Call.{Call}
use Rattle.tree.specs.declared.Call.TheVariants as call
use Rattle.tree.specs.declared.Outcome.{Outcome}
use Rattle.tree.specs.declared.Outcome.TheVariants as outcome
use Rattle.tree.specs.declared.Reply.TheVariants as reply
use Rattle.tree.specs.declared.Whence.TheVariants.{Set}
use Rattle.fuse_server.specs.Asking.{SoughtFor}
use Rattle.fuse_server.specs.Telling.{HasOwn, ToldBehind}
use Rattle.fuse_server.specs.Telling.Telling.{WrittenAt}
use Rattle.fuse_server.specs.Tries.{TriedFor, WroteSome, fewer, room_reply, sought_at, wrote_by}
use Rattle.fuse_server.specs.Tries.AreTries.{AtFirst, Fewer}
use Rattle.fuse_server.specs.declared.said.FuseAnswer.TheVariants as answer_of
use Rattle.fuse_server.specs.declared.work.Reach.{Reach}
use Rattle.fuse_server.proofs.Asking.{joined, never_takes, quiet_joined}
use Rattle.fuse_server.proofs.Losing.{quiet_loses}

-- there was no room
pub no_room_so : (h : Heard) → count_in h ≡ Err (By ENOSPC) → h ≡ heard_of.Outcome (outcome.Reply (room_reply None))
no_room_so (heard_of.Outcome (outcome.Reply (reply.Refused errno))) e = cc
no_room_so (heard_of.Outcome (outcome.Reply r)) e = cc
no_room_so (heard_of.Outcome outcome.Cut) e = cc
no_room_so (heard_of.Entered r) e = cc
no_room_so heard_of.Left e = cc

-- so many were written
pub wrote_so : (h : Heard) (count : ℕ) → count_in h ≡ Ok count → h ≡ heard_of.Outcome (outcome.Reply (room_reply (Some count)))
wrote_so (heard_of.Outcome (outcome.Reply (reply.Refused errno))) count e = cc
wrote_so (heard_of.Outcome (outcome.Reply (reply.Wrote wrote))) count e = cc
wrote_so (heard_of.Outcome (outcome.Reply r)) count e = cc
wrote_so (heard_of.Outcome outcome.Cut) count e = cc
wrote_so (heard_of.Entered r) count e = cc
wrote_so heard_of.Left count e = cc

-- a write was tried behind a seek
pub tried_so : {S : Type 0} (called : S → ℕ → ℕ → Call → Outcome → S → Type 0) (entered : S → ℕ → ℕ → Result ℕ EnterRefusal → S → Type 0)
    (left : S → Leaving → S → Type 0) (now : ℕ) (s t u : S) (d : Descriptor) (offset z : ℤ) (given : Bor (List ℕ)) (position : ℕ)
    (h : Heard) (told : Option ℕ) → z ≡ offset → h ≡ heard_of.Outcome (outcome.Reply (room_reply told))
    → MayHear called entered left now s (ask.Call d.session (call.Seek d.fd Set z)) (heard_of.Outcome (outcome.Reply (reply.At position))) t
    → MayHear called entered left now t (ask.Call d.session (call.Write d.fd given)) h u
    → SoughtFor called entered left now s d offset (call.Write d.fd given) (room_reply told) u
tried_so called entered left now s t u d offset z given position h told at is sought may =
    let At : ℤ → Type 0 = λ y. MayHear called entered left now s (ask.Call d.session (call.Seek d.fd Set y))
    (heard_of.Outcome (outcome.Reply (reply.At position))) t in
    let P : Heard → Type 0 = λ x. MayHear called entered left now t (ask.Call d.session (call.Write d.fd given)) x u in
    record { position = position; between = t; sought = subst At at sought; last = subst P is may }

-- nothing was tried
pub tries_begin : {S : Type 0} (called : S → ℕ → ℕ → Call → Outcome → S → Type 0) (entered : S → ℕ → ℕ → Result ℕ EnterRefusal → S → Type 0)
    (left : S → Leaving → S → Type 0) (now : ℕ) (s : S) (d : Descriptor) (offset : ℕ) (bytes given : List ℕ) → given ≡ take 65536 bytes
    → TriedFor called entered left now s d offset bytes given s
tries_begin called entered left now s d offset bytes given same =
    let P : List ℕ → Type 0 = λ it. TriedFor called entered left now s d offset bytes it s in
    subst P (sym same) (record { talked = record { log = []; leads = refl; quiet = tt }; tries = AtFirst })

-- there was no room for those given, and fewer are
again : {S : Type 0} {called : S → ℕ → ℕ → Call → Outcome → S → Type 0} {entered : S → ℕ → ℕ → Result ℕ EnterRefusal → S → Type 0}
    {left : S → Leaving → S → Type 0} {now : ℕ} {s t u : S} {bytes : List ℕ} (d : Descriptor) (offset : ℕ) (given : Bor (List ℕ))
    → TriedFor called entered left now s d offset bytes given.now t
    → SoughtFor called entered left now t d (pos offset) (call.Write d.fd given) (reply.Refused ENOSPC) u
    → fewer offset (length given.now) < length given.now
    → TriedFor called entered left now s d offset bytes (take (fewer offset (length given.now)) given.now) u
again {t = t} d offset given tried refused few = record {
  talked = record {
    log = wrote_by d given (reply.Refused ENOSPC) ∷ sought_at d offset refused.position ∷ tried.talked.log;
    leads = (refused.between, (t, tried.talked.leads, refused.sought), refused.last);
    quiet = (never_takes false _ refl, (never_takes false _ refl, tried.talked.quiet));
  };
  tries = Fewer given refused.position tried.talked.log tried.tries few;
}

pub tried_again : {S : Type 0} {called : S → ℕ → ℕ → Call → Outcome → S → Type 0} {entered : S → ℕ → ℕ → Result ℕ EnterRefusal → S → Type 0}
    {left : S → Leaving → S → Type 0} {now : ℕ} {s t u : S} {bytes : List ℕ} (d : Descriptor) (offset : ℕ) (z : ℤ) (given : Bor (List ℕ))
    (less : List ℕ) (told : Option ℕ) → told ≡ None → z ≡ pos offset → TriedFor called entered left now s d offset bytes given.now t
    → SoughtFor called entered left now t d z (call.Write d.fd given) (room_reply told) u
    → fewer offset (length given.now) < length given.now → less ≡ take (fewer offset (length given.now)) given.now
    → TriedFor called entered left now s d offset bytes less u
tried_again {S} {called} {entered} {left} {now} {s} {t} {u} {bytes} d offset z given less told none at tried refused few same =
    let At : ℤ → Type 0 = λ y. SoughtFor called entered left now t d y (call.Write d.fd given) (reply.Refused ENOSPC) u in
    let Told : Option ℕ → Type 0 = λ it. SoughtFor called entered left now t d z (call.Write d.fd given) (room_reply it) u in
    let P : List ℕ → Type 0 = λ it. TriedFor called entered left now s d offset bytes it u in
    subst P (sym same) (again d offset given tried (subst At at (subst Told none refused)) few)

-- those given were written
pub wrote_some : {S : Type 0} {called : S → ℕ → ℕ → Call → Outcome → S → Type 0} {entered : S → ℕ → ℕ → Result ℕ EnterRefusal → S → Type 0}
    {left : S → Leaving → S → Type 0} {now : ℕ} {s t u : S} {bytes : List ℕ} (d : Descriptor) (offset : ℕ) (z : ℤ) (given : Bor (List ℕ))
    (wrote : ℕ) → z ≡ pos offset → TriedFor called entered left now s d offset bytes given.now t
    → SoughtFor called entered left now t d z (call.Write d.fd given) (reply.Wrote wrote) u
    → WroteSome called entered left now s d offset bytes wrote u
wrote_some {S} {called} {entered} {left} {now} {s} {t} {u} {bytes} d offset z given wrote at tried last =
    let At : ℤ → Type 0 = λ y. SoughtFor called entered left now t d y (call.Write d.fd given) (reply.Wrote wrote) u in
    record { given = given; between = t; tried = tried; last = subst At at last }

-- by a node's own descriptor
pub written_behind : {S : Type 0} {called : S → ℕ → ℕ → Call → Outcome → S → Type 0}
    {entered : S → ℕ → ℕ → Result ℕ EnterRefusal → S → Type 0} {left : S → Leaving → S → Type 0} {now : ℕ} {k : Known}
    {s t u : S} (x : Reach) (d : Descriptor) (offset : ℕ) (bytes : List ℕ) (wrote told : ℕ)
    → HasOwn called entered left now s x d t → WroteSome called entered left now t d offset bytes wrote u → told ≡ min wrote (length bytes)
    → ToldBehind called entered left now x (WrittenAt offset bytes) k s (answer_of.Write told) u
written_behind {S} {called} {entered} {left} {now} {k} {s} {t} {u} x d offset bytes wrote told own some is = record {
  log = wrote_by d some.given (reply.Wrote wrote) ∷ sought_at d offset some.last.position ∷ (some.tried.talked.log ++ own.talked.log);
  leads = (
    some.last.between,
    (
      some.between,
      joined (MayHear called entered left now) s t some.between own.talked.log some.tried.talked.log own.talked.leads some.tried.talked.leads,
      some.last.sought,
    ),
    some.last.last,
  );
  told = record {
    descriptor = d;
    given = some.given;
    position = some.last.position;
    wrote = wrote;
    tries = some.tried.talked.log;
    before = own.talked.log;
    all = refl;
    tried = some.tried.tries;
    own = own.own;
    is = is;
  };
  loses = (
    λ done. tt,
    (
      λ done. tt,
      quiet_loses k (some.tried.talked.log ++ own.talked.log)
          (quiet_joined own.talked.log some.tried.talked.log own.talked.quiet some.tried.talked.quiet),
    ),
  );
}
