-- What sessions are asked, one thing after another.
use Rattle.std.proofs.Common.{◌≡◌, ◌⊎◌, ◌∙◌, ℕ, ℤ, Bool, true, false, IsTrue, List, [], ◌∷◌, ◌++◌, append-nil, append_assoc, Option, Some, None, Result, Ok, Err, IfOk, OnOk, OnErr, IsOk, refl, sym, ap, subst, inl, inr}
use Rattle.std.specs.Prelude.{⊤, MatchResult}
use Rattle.std.specs.Global.{Vec}
use Rattle.std.specs.Result.{result_map_both}
use Rattle.errno.specs.declared.Errno.TheVariants.{ENOENT}
use Rattle.tree.specs.declared.Call.{Call}
use Rattle.tree.specs.declared.Call.TheVariants as call
use Rattle.tree.specs.declared.OpenFlags.{OpenFlags}
use Rattle.tree.specs.declared.Outcome.{Outcome}
use Rattle.tree.specs.declared.Outcome.TheVariants as outcome
use Rattle.tree.specs.declared.Reply.TheVariants as reply
use Rattle.tree.specs.declared.Attributes.{Attributes}
use Rattle.tree.specs.declared.LinkTarget.{LinkTarget}
use Rattle.tree.specs.declared.PathFrom.{PathFrom}
use Rattle.tree.specs.declared.Reply.{Reply}
use Rattle.tree.specs.declared.Statfs.{Statfs}
use Rattle.tree.specs.declared.Whence.TheVariants.{Set}
use Rattle.fuse_nodes.specs.declared.node.Descriptor.{Descriptor}
use Rattle.talks.specs.Hearing.{attributes_in, bytes_in, descriptor_in, done_in, room_in, target_in}
use Rattle.talks.specs.Plain.{plain_call, plain_path}
use Rattle.talks.specs.Talks.{Exchange, MayHear, Leads, IsDone}
use Rattle.talks.specs.declared.ask.Ask.{Ask}
use Rattle.talks.specs.declared.ask.Ask.TheVariants as ask
use Rattle.talks.specs.declared.heard.Heard.{Heard}
use Rattle.talks.specs.declared.heard.Heard.TheVariants as heard_of
use Rattle.talks.specs.declared.refused.Refused.TheVariants.{By}
use Rattle.talks.specs.declared.ask.Leaving.{Leaving}
use Rattle.talks.specs.declared.sessions.EnterRefusal.{EnterRefusal}
use Rattle.talks.specs.declared.refused.Refused.{Refused}
use Rattle.fuse_server.specs.Asking.{Talked, TalkedBy, TalkedTo, TalkedFor, TalkedLooking, LookedBefore, LookedAt, OpenedAt, ReadFrom, look_reply}
use Rattle.fuse_server.specs.Calls.{call_in, calls_in}
use Rattle.fuse_server.specs.Losing.{AreQuiet, IsQuiet, WasLooked, takes_name}
use Rattle.fuse_server.specs.Making.{given_to, itself, seen_at}
use Rattle.fuse_server.specs.Plans.{May, kind_of}
use Rattle.fuse_server.specs.Plans.Kind.{Give}
use Rattle.fuse_server.specs.Reach.{AsksFrom, CalledFrom, GivesTold, IsAt, IsNamed}
use Rattle.fuse_server.specs.Telling.{LinkGiven}
use Rattle.fuse_server.specs.declared.making.Owner.{Owner}
use Rattle.fuse_server.specs.declared.work.Reach.{Reach}

-- exchanges behind others
pub joined : {S : Type 0} (may : S → Ask → Heard → S → Type 0) (s t u : S) (first then : List Exchange) → Leads may s first t
    → Leads may t then u → Leads may s (then ++ first) u
joined {S} may s t u first [] before same = let P : S → Type 0 = λ x. Leads may s first x in subst P same before
joined may s t u first (e ∷ es) before (v, between, last) = (v, joined may s t v first es before between, last)

-- nothing is asked
pub stays : {S : Type 0} (called : S → ℕ → ℕ → Call → Outcome → S → Type 0) (entered : S → ℕ → ℕ → Result ℕ EnterRefusal → S → Type 0)
    (left : S → Leaving → S → Type 0) (now : ℕ) (s : S) → Talked called entered left now s s
stays called entered left now s = record { log = []; leads = refl; quiet = tt }

-- exchanges that take no name away, one behind the other
pub quiet_joined : (first then : List Exchange) → AreQuiet first → AreQuiet then → AreQuiet (then ++ first)
quiet_joined first [] before quiet = before
quiet_joined first (e ∷ es) before (own, rest) = (own, quiet_joined first es before rest)

-- one thing is asked
pub asks : {S : Type 0} (called : S → ℕ → ℕ → Call → Outcome → S → Type 0) (entered : S → ℕ → ℕ → Result ℕ EnterRefusal → S → Type 0)
    (left : S → Leaving → S → Type 0) (now : ℕ) (s : S) (a : Ask) (h : Heard) (t : S) → IsQuiet (record { ask = a; heard = h })
    → MayHear called entered left now s a h t → Talked called entered left now s t
asks called entered left now s a h t quiet heard = record {
  log = record { ask = a; heard = h } ∷ [];
  leads = (s, refl, heard);
  quiet = (quiet, tt);
}

-- a call that takes no name away
pub never_takes : (b : Bool) (X : Type 0) → b ≡ false → IsTrue b → X → ⊥
never_takes true X e t x = cc
never_takes false X e t x = cc

-- nor does one that wasn't done
pub not_done : (h : Heard) (r : Result ⊤ Refused) (X : Type 0)
    → MatchResult r (λ _. done_in h ≡ Ok reply.Done) (λ (e : Refused). done_in h ≡ Err e) → OnErr r (X → IsDone h → ⊥)
not_done h (Ok u) X told = tt
not_done h (Err e) X told = λ x done. clash (sym (ap done_in done) ∙ told) where
  clash : Ok reply.Done ≡ Err e → ⊥
  clash is = cc

-- more is asked
pub goes_on : {S : Type 0} {called : S → ℕ → ℕ → Call → Outcome → S → Type 0} {entered : S → ℕ → ℕ → Result ℕ EnterRefusal → S → Type 0}
    {left : S → Leaving → S → Type 0} {now : ℕ} {s t u : S} → Talked called entered left now s t → Talked called entered left now t u
    → Talked called entered left now s u
goes_on {called = called} {entered} {left} {now} {s} {t} {u} a b = record {
  log = b.log ++ a.log;
  leads = joined (MayHear called entered left now) s t u a.log b.log a.leads b.leads;
  quiet = quiet_joined a.log b.log a.quiet b.quiet;
}

-- so it is also where nothing else is wanted of an error
pub on_err : {A E P : Type 0} (r : Result A E) → P → OnErr r P
on_err (Ok a) p = tt
on_err (Err e) p = p

-- a call that starts at what a message may name
pub from_named : {S : Type 0} (called : S → ℕ → ℕ → Call → Outcome → S → Type 0) (entered : S → ℕ → ℕ → Result ℕ EnterRefusal → S → Type 0)
    (left : S → Leaving → S → Type 0) (now : ℕ) (s t : S) (x : Reach) (session : ℕ) (asked : Call) (h : Heard)
    → May x.plan (kind_of asked) → AsksFrom x asked ⊎ GivesTold x called s now asked
    → MayHear called entered left now s (ask.Call session asked) h t
    → MayHear (CalledFrom x called) entered left now s (ask.Call session asked) h t
from_named called entered left now s t x session asked (heard_of.Outcome o) planned named may = record { planned = planned; named = named; answer = may }
from_named called entered left now s t x session asked (heard_of.Entered r) planned named may = absurd may
from_named called entered left now s t x session asked heard_of.Left planned named may = absurd may

-- a user enters: that is no call
pub by_entering : {S : Type 0} (called : S → ℕ → ℕ → Call → Outcome → S → Type 0) (entered : S → ℕ → ℕ → Result ℕ EnterRefusal → S → Type 0)
    (left : S → Leaving → S → Type 0) (now : ℕ)
    (s t : S) (uid gid : ℕ) (h : Heard) → MayHear called entered left now s (ask.Enter uid gid) h t
    → TalkedBy called entered left now s [] t
by_entering called entered left now s t uid gid h may = record {
  talked = record {
    log = record { ask = ask.Enter uid gid; heard = h } ∷ [];
    leads = (s, refl, may);
    quiet = (never_takes false _ refl, tt);
  };
  exact = refl;
}

-- users enter as they do
pub enters : {S : Type 0} (called : S → ℕ → ℕ → Call → Outcome → S → Type 0) (entered : S → ℕ → ℕ → Result ℕ EnterRefusal → S → Type 0)
    (left : S → Leaving → S → Type 0) (now : ℕ) (s t : S) (x : Reach) (uid gid : ℕ) (h : Heard)
    → MayHear called entered left now s (ask.Enter uid gid) h t → MayHear (CalledFrom x called) entered left now s (ask.Enter uid gid) h t
enters called entered left now s t x uid gid (heard_of.Outcome o) may = absurd may
enters called entered left now s t x uid gid (heard_of.Entered r) may = may
enters called entered left now s t x uid gid heard_of.Left may = absurd may

-- ---- the calls on the way

calls_joined : (first then : List Exchange) → calls_in (then ++ first) ≡ calls_in first ++ calls_in then
calls_joined first [] = sym (append-nil (calls_in first))
calls_joined first (e ∷ es) = ap (λ (cs : List (Call × Heard)). cs ++ call_in e.ask e.heard) (calls_joined first es)
    ∙ append_assoc (calls_in first) (calls_in es) (call_in e.ask e.heard)

-- some calls, and then others
pub by_both : {S : Type 0} {called : S → ℕ → ℕ → Call → Outcome → S → Type 0} {entered : S → ℕ → ℕ → Result ℕ EnterRefusal → S → Type 0}
    {left : S → Leaving → S → Type 0} {now : ℕ}
    {s t u : S} {xs ys : List (Call × Heard)} → TalkedBy called entered left now s xs t → TalkedBy called entered left now t ys u
    → TalkedBy called entered left now s (xs ++ ys) u
by_both {called = called} {entered} {left} {now} {s} {t} {u} {xs} {ys} a b = record {
  talked = record {
    log = b.talked.log ++ a.talked.log;
    leads = joined (MayHear called entered left now) s t u a.talked.log b.talked.log a.talked.leads b.talked.leads;
    quiet = quiet_joined a.talked.log b.talked.log a.talked.quiet b.talked.quiet;
  };
  exact = calls_joined a.talked.log b.talked.log ∙ (ap (λ (cs : List (Call × Heard)). cs ++ calls_in b.talked.log) a.exact
      ∙ ap (λ (cs : List (Call × Heard)). xs ++ cs) b.exact);
}

pub by_same : {S : Type 0} {called : S → ℕ → ℕ → Call → Outcome → S → Type 0} {entered : S → ℕ → ℕ → Result ℕ EnterRefusal → S → Type 0}
    {left : S → Leaving → S → Type 0} {now : ℕ}
    {s t : S} {xs ys : List (Call × Heard)} → xs ≡ ys → TalkedBy called entered left now s xs t → TalkedBy called entered left now s ys t
by_same same b = record { talked = b.talked; exact = b.exact ∙ same }

-- no call
pub by_none : {S : Type 0} (called : S → ℕ → ℕ → Call → Outcome → S → Type 0) (entered : S → ℕ → ℕ → Result ℕ EnterRefusal → S → Type 0)
    (left : S → Leaving → S → Type 0) (now : ℕ)
    (s : S) → TalkedBy called entered left now s [] s
by_none called entered left now s = record { talked = record { log = []; leads = refl; quiet = tt }; exact = refl }

pub none_asked : {S : Type 0} {called : S → ℕ → ℕ → Call → Outcome → S → Type 0} {entered : S → ℕ → ℕ → Result ℕ EnterRefusal → S → Type 0}
    {left : S → Leaving → S → Type 0} {now : ℕ}
    {s t : S} → TalkedBy called entered left now s [] t → Talked called entered left now s t
none_asked b = b.talked

-- one call
pub by_call : {S : Type 0} (called : S → ℕ → ℕ → Call → Outcome → S → Type 0) (entered : S → ℕ → ℕ → Result ℕ EnterRefusal → S → Type 0)
    (left : S → Leaving → S → Type 0) (now : ℕ)
    (s t : S) (session : ℕ) (asked : Call) (h : Heard) → takes_name asked ≡ false
    → MayHear called entered left now s (ask.Call session asked) h t
    → TalkedBy called entered left now s ((plain_call asked, h) ∷ []) t
by_call called entered left now s t session asked h quiet may = record {
  talked = record {
    log = record { ask = ask.Call session asked; heard = h } ∷ [];
    leads = (s, refl, may);
    quiet = (never_takes (takes_name asked) _ quiet, tt);
  };
  exact = refl;
}

pub by_one : {S : Type 0} {called : S → ℕ → ℕ → Call → Outcome → S → Type 0} {entered : S → ℕ → ℕ → Result ℕ EnterRefusal → S → Type 0}
    {left : S → Leaving → S → Type 0} {now : ℕ}
    {s t : S} {asked : Call} {h : Heard} → takes_name asked ≡ false → TalkedTo called entered left now s asked h t
    → TalkedBy called entered left now s ((plain_call asked, h) ∷ []) t
by_one {called = called} {entered} {left} {now} {s} {t} {asked = asked} {h} quiet b =
    by_both b.first (by_call called entered left now b.before t b.session asked h quiet b.last)

-- it comes by one session
pub by_session : {S : Type 0} (called : S → ℕ → ℕ → Call → Outcome → S → Type 0) (entered : S → ℕ → ℕ → Result ℕ EnterRefusal → S → Type 0)
    (left : S → Leaving → S → Type 0) (now : ℕ)
    (s t : S) (session : ℕ) (asked : Call) (h : Heard) → MayHear called entered left now s (ask.Call session asked) h t
    → TalkedTo called entered left now s asked h t
by_session called entered left now s t session asked h may =
    record { session = session; before = s; first = by_none called entered left now s; last = may }

-- what replies tell is what they are
pub attributes_so : (h : Heard) (a : Attributes) → attributes_in h ≡ Ok a → h ≡ heard_of.Outcome (outcome.Reply (reply.Inode a))
attributes_so (heard_of.Outcome (outcome.Reply (reply.Refused errno))) a e = cc
attributes_so (heard_of.Outcome (outcome.Reply (reply.Inode b))) a e = cc
attributes_so (heard_of.Outcome (outcome.Reply r)) a e = cc
attributes_so (heard_of.Outcome outcome.Cut) a e = cc
attributes_so (heard_of.Entered r) a e = cc
attributes_so heard_of.Left a e = cc

pub room_so : (h : Heard) (a : Statfs) → room_in h ≡ Ok a → h ≡ heard_of.Outcome (outcome.Reply (reply.Space a))
room_so (heard_of.Outcome (outcome.Reply (reply.Refused errno))) a e = cc
room_so (heard_of.Outcome (outcome.Reply (reply.Space b))) a e = cc
room_so (heard_of.Outcome (outcome.Reply r)) a e = cc
room_so (heard_of.Outcome outcome.Cut) a e = cc
room_so (heard_of.Entered r) a e = cc
room_so heard_of.Left a e = cc

pub target_so : (h : Heard) (a : LinkTarget) → target_in h ≡ Ok a → h ≡ heard_of.Outcome (outcome.Reply (reply.Target a))
target_so (heard_of.Outcome (outcome.Reply (reply.Refused errno))) a e = cc
target_so (heard_of.Outcome (outcome.Reply (reply.Target b))) a e = cc
target_so (heard_of.Outcome (outcome.Reply r)) a e = cc
target_so (heard_of.Outcome outcome.Cut) a e = cc
target_so (heard_of.Entered r) a e = cc
target_so heard_of.Left a e = cc

pub descriptor_so : (h : Heard) (fd : ℕ) → descriptor_in h ≡ Ok fd → h ≡ heard_of.Outcome (outcome.Reply (reply.Descriptor fd))
descriptor_so (heard_of.Outcome (outcome.Reply (reply.Refused errno))) fd e = cc
descriptor_so (heard_of.Outcome (outcome.Reply (reply.Descriptor given))) fd e = cc
descriptor_so (heard_of.Outcome (outcome.Reply r)) fd e = cc
descriptor_so (heard_of.Outcome outcome.Cut) fd e = cc
descriptor_so (heard_of.Entered r) fd e = cc
descriptor_so heard_of.Left fd e = cc

-- a descriptor was opened
pub opened_by : {S : Type 0} (called : S → ℕ → ℕ → Call → Outcome → S → Type 0) (entered : S → ℕ → ℕ → Result ℕ EnterRefusal → S → Type 0)
    (left : S → Leaving → S → Type 0) (now : ℕ) (s t : S) (path : PathFrom) (flags : OpenFlags) (mode session fd : ℕ) (h : Heard)
    → descriptor_in h ≡ Ok fd → MayHear called entered left now s (ask.Call session (call.Open path flags mode)) h t
    → OpenedAt called entered left now s path mode (record { session = session; fd = fd }) t
opened_by called entered left now s t path flags mode session fd h told may =
    let P : Heard → Type 0 = λ x. MayHear called entered left now s (ask.Call session (call.Open path flags mode)) x t in record {
      flags = flags;
      before = s;
      first = stays called entered left now s;
      last = subst P (descriptor_so h fd told) may;
    }

-- behind others
pub opened_after : {S : Type 0} {called : S → ℕ → ℕ → Call → Outcome → S → Type 0} {entered : S → ℕ → ℕ → Result ℕ EnterRefusal → S → Type 0}
    {left : S → Leaving → S → Type 0} {now : ℕ} {s t : S} (u : S) (path : PathFrom) (mode : ℕ) (r : Result Descriptor Refused)
    → Talked called entered left now s t → IfOk r (λ (d : Descriptor). OpenedAt called entered left now t path mode d u)
    → IfOk r (λ (d : Descriptor). OpenedAt called entered left now s path mode d u)
opened_after u path mode (Err e) first opened = tt
opened_after u path mode (Ok d) first o =
    record { flags = o.flags; before = o.before; first = goes_on first o.first; last = o.last }

-- the reply that has these bytes
record HasBytes (h : Heard) (bytes : List ℕ) : Type 0 where
  read : Vec ℕ
  is : h ≡ heard_of.Outcome (outcome.Reply (reply.Bytes read))
  same : bytes ≡ read.items

bytes_so : (h : Heard) (bytes : List ℕ) → Ok bytes ≡ bytes_in h → HasBytes h bytes
bytes_so (heard_of.Outcome (outcome.Reply (reply.Refused errno))) bytes e = absurd (cc e)
bytes_so (heard_of.Outcome (outcome.Reply (reply.Bytes read))) bytes e = record { read = read; is = refl; same = cc }
bytes_so (heard_of.Outcome (outcome.Reply r)) bytes e = absurd (cc e)
bytes_so (heard_of.Outcome outcome.Cut) bytes e = absurd (cc e)
bytes_so (heard_of.Entered r) bytes e = absurd (cc e)
bytes_so heard_of.Left bytes e = absurd (cc e)

-- bytes were read behind a seek
pub read_so : {S : Type 0} (called : S → ℕ → ℕ → Call → Outcome → S → Type 0) (entered : S → ℕ → ℕ → Result ℕ EnterRefusal → S → Type 0)
    (left : S → Leaving → S → Type 0) (now : ℕ) (s t u : S) (d : Descriptor) (offset z : ℤ) (count position : ℕ) (h : Heard)
    (r : Result (Vec ℕ) Refused) → z ≡ offset
    → MayHear called entered left now s (ask.Call d.session (call.Seek d.fd Set z)) (heard_of.Outcome (outcome.Reply (reply.At position))) t
    → MayHear called entered left now t (ask.Call d.session (call.Read d.fd count)) h u
    → result_map_both (λ (it : Vec ℕ). it.items) (λ (e : Refused). e) r ≡ bytes_in h
    → IfOk r (λ (it : Vec ℕ). ReadFrom called entered left now s d offset count it.items u)
read_so called entered left now s t u d offset z count position h (Err e) at sought may is = tt
read_so called entered left now s t u d offset z count position h (Ok it) at sought may is =
    let so : HasBytes h it.items = bytes_so h it.items is in
    let At : ℤ → Type 0 = λ y. MayHear called entered left now s (ask.Call d.session (call.Seek d.fd Set y))
    (heard_of.Outcome (outcome.Reply (reply.At position))) t in
    let P : Heard → Type 0 = λ x. MayHear called entered left now t (ask.Call d.session (call.Read d.fd count)) x u in
    (so.read, so.same, record { position = position; between = t; sought = subst At at sought; last = subst P so.is may })

-- a look that was refused for want of what it names
missing_so : (h : Heard) → attributes_in h ≡ Err (By ENOENT) → h ≡ heard_of.Outcome (outcome.Reply (reply.Refused ENOENT))
missing_so (heard_of.Outcome (outcome.Reply (reply.Refused errno))) e = cc
missing_so (heard_of.Outcome (outcome.Reply r)) e = cc
missing_so (heard_of.Outcome outcome.Cut) e = cc
missing_so (heard_of.Entered r) e = cc
missing_so heard_of.Left e = cc

-- what is heard is a reply, where it tells something
pub replied : {S : Type 0} {called : S → ℕ → ℕ → Call → Outcome → S → Type 0} {entered : S → ℕ → ℕ → Result ℕ EnterRefusal → S → Type 0}
    {left : S → Leaving → S → Type 0} {now : ℕ} {s t : S} {asked : Call} {A : Type 0} (within : Heard → Result A Refused) (made : A → Reply)
    → ((h : Heard) (a : A) → within h ≡ Ok a → h ≡ heard_of.Outcome (outcome.Reply (made a))) → (h : Heard) (r : Result A Refused)
    → r ≡ within h → TalkedTo called entered left now s asked h t → IfOk r (λ (a : A). TalkedFor called entered left now s asked (made a) t)
replied within made so h (Err e) is talked = tt
replied {S} {called} {entered} {left} {now} {s} {t} {asked} within made so h (Ok a) is talked =
    let P : Heard → Type 0 = λ x. TalkedTo called entered left now s asked x t in subst P (so h a (sym is)) talked

pub done_by : {S : Type 0} {called : S → ℕ → ℕ → Call → Outcome → S → Type 0} {entered : S → ℕ → ℕ → Result ℕ EnterRefusal → S → Type 0}
    {left : S → Leaving → S → Type 0} {now : ℕ} {s t : S} {asked : Call} (h : Heard) (r : Result ⊤ Refused) → (IsOk r → IsDone h)
    → TalkedTo called entered left now s asked h t → OnOk r (TalkedFor called entered left now s asked reply.Done t)
done_by h (Err e) done talked = tt
done_by {S} {called} {entered} {left} {now} {s} {t} {asked} h (Ok u) done talked =
    let P : Heard → Type 0 = λ x. TalkedTo called entered left now s asked x t in subst P (done refl) talked

-- a path was looked at, and leads to nothing
pub missed : {S : Type 0} {called : S → ℕ → ℕ → Call → Outcome → S → Type 0} {entered : S → ℕ → ℕ → Result ℕ EnterRefusal → S → Type 0}
    {left : S → Leaving → S → Type 0} {now : ℕ} {s t : S} (path : PathFrom) (h : Heard)
    → TalkedTo called entered left now s (call.Lstat path) h t
    → attributes_in h ≡ Err (By ENOENT) → LookedAt called entered left now s path None t
missed {S} {called} {entered} {left} {now} {s} {t} path h talked e =
    let P : Heard → Type 0 = λ x. TalkedTo called entered left now s (call.Lstat path) x t in subst P (missing_so h e) talked

pub seen : {S : Type 0} {called : S → ℕ → ℕ → Call → Outcome → S → Type 0} {entered : S → ℕ → ℕ → Result ℕ EnterRefusal → S → Type 0}
    {left : S → Leaving → S → Type 0} {now : ℕ} {s t : S} (path : PathFrom) (h : Heard) (a : Attributes)
    → TalkedTo called entered left now s (call.Lstat path) h t → attributes_in h ≡ Ok a → LookedAt called entered left now s path (Some a) t
seen {S} {called} {entered} {left} {now} {s} {t} path h a talked e =
    let P : Heard → Type 0 = λ x. TalkedTo called entered left now s (call.Lstat path) x t in subst P (attributes_so h a e) talked

-- ---- names that are taken away

-- such a call was refused, or wasn't answered
pub untaken : {S : Type 0} (called : S → ℕ → ℕ → Call → Outcome → S → Type 0) (entered : S → ℕ → ℕ → Result ℕ EnterRefusal → S → Type 0)
    (left : S → Leaving → S → Type 0) (now : ℕ) (s t : S) (session : ℕ) (asked : Call) (h : Heard) (r : Result ⊤ Refused)
    → MatchResult r (λ _. done_in h ≡ Ok reply.Done) (λ (e : Refused). done_in h ≡ Err e)
    → MayHear called entered left now s (ask.Call session asked) h t → OnErr r (Talked called entered left now s t)
untaken called entered left now s t session asked h (Ok u) told may = tt
untaken called entered left now s t session asked h (Err e) told may =
    asks called entered left now s (ask.Call session asked) h t (not_done h (Err e) (IsTrue (takes_name asked)) told) may

-- or it was done
pub taken : {S : Type 0} (called : S → ℕ → ℕ → Call → Outcome → S → Type 0) (entered : S → ℕ → ℕ → Result ℕ EnterRefusal → S → Type 0)
    (left : S → Leaving → S → Type 0) (now : ℕ) (s t : S) (session : ℕ) (asked : Call) (h : Heard) (r : Result ⊤ Refused)
    → (IsOk r → IsDone h)
    → MayHear called entered left now s (ask.Call session asked) h t
    → OnOk r (MayHear called entered left now s (ask.Call session asked) (heard_of.Outcome (outcome.Reply reply.Done)) t)
taken called entered left now s t session asked h (Err e) done may = tt
taken called entered left now s t session asked h (Ok u) done may =
    let P : Heard → Type 0 = λ x. MayHear called entered left now s (ask.Call session asked) x t in subst P (done refl) may

-- behind others
pub taken_after : {S : Type 0} {called : S → ℕ → ℕ → Call → Outcome → S → Type 0} {entered : S → ℕ → ℕ → Result ℕ EnterRefusal → S → Type 0}
    {left : S → Leaving → S → Type 0} {now : ℕ} {s t : S} (u : S) (asked : Call) (session : ℕ) (r : Result ⊤ Refused)
    → TalkedBy called entered left now s [] t
    → OnOk r (MayHear called entered left now t (ask.Call session asked) (heard_of.Outcome (outcome.Reply reply.Done)) u)
    → OnOk r (TalkedFor called entered left now s asked reply.Done u)
taken_after u asked session (Err e) first last = tt
taken_after {t = t} u asked session (Ok x) first last = record { session = session; before = t; first = first; last = last }

pub untaken_after : {S : Type 0} {called : S → ℕ → ℕ → Call → Outcome → S → Type 0} {entered : S → ℕ → ℕ → Result ℕ EnterRefusal → S → Type 0}
    {left : S → Leaving → S → Type 0} {now : ℕ} {s t : S} (u : S) (r : Result ⊤ Refused) → Talked called entered left now s t
    → OnErr r (Talked called entered left now t u)
    → OnErr r (Talked called entered left now s u)
untaken_after u (Err e) first then = goes_on first then
untaken_after u (Ok x) first then = tt

-- a look stays among the exchanges
pub looked_first : (path : PathFrom) (r : Reply) (first then : List Exchange) → WasLooked path r first → WasLooked path r (then ++ first)
looked_first path r first [] looked = looked
looked_first path r first (e ∷ es) looked = inr (looked_first path r first es looked)

pub looked_then : (path : PathFrom) (r : Reply) (first then : List Exchange) → WasLooked path r then → WasLooked path r (then ++ first)
looked_then path r first [] looked = absurd looked
looked_then path r first (e ∷ es) (inl own) = inl own
looked_then path r first (e ∷ es) (inr rest) = inr (looked_then path r first es rest)

-- a path was looked at
pub looking : {S : Type 0} {called : S → ℕ → ℕ → Call → Outcome → S → Type 0} {entered : S → ℕ → ℕ → Result ℕ EnterRefusal → S → Type 0}
    {left : S → Leaving → S → Type 0} {now : ℕ} {s t : S} {path : PathFrom} (found : Option Attributes)
    → LookedAt called entered left now s path found t
    → TalkedLooking called entered left now s path (look_reply found) t
looking {path = path} (Some was) looked = record {
  talked = record {
    log = record { ask = ask.Call looked.session (call.Lstat path); heard = heard_of.Outcome (outcome.Reply (reply.Inode was)) }
        ∷ looked.first.talked.log;
    leads = (looked.before, looked.first.talked.leads, looked.last);
    quiet = (never_takes false _ refl, looked.first.talked.quiet);
  };
  looked = inl (looked.session, refl, refl);
}
looking {path = path} None looked = record {
  talked = record {
    log = record { ask = ask.Call looked.session (call.Lstat path); heard = heard_of.Outcome (outcome.Reply (reply.Refused ENOENT)) }
        ∷ looked.first.talked.log;
    leads = (looked.before, looked.first.talked.leads, looked.last);
    quiet = (never_takes false _ refl, looked.first.talked.quiet);
  };
  looked = inl (looked.session, refl, refl);
}

pub looking_on : {S : Type 0} {called : S → ℕ → ℕ → Call → Outcome → S → Type 0} {entered : S → ℕ → ℕ → Result ℕ EnterRefusal → S → Type 0}
    {left : S → Leaving → S → Type 0} {now : ℕ} {s t u : S} {path : PathFrom} {r : Reply} → TalkedLooking called entered left now s path r t
    → Talked called entered left now t u → TalkedLooking called entered left now s path r u
unfolding goes_on
looking_on {path = path} {r} a b =
    record { talked = goes_on a.talked b; looked = looked_first path r a.talked.log b.log a.looked }

pub looking_after : {S : Type 0} {called : S → ℕ → ℕ → Call → Outcome → S → Type 0} {entered : S → ℕ → ℕ → Result ℕ EnterRefusal → S → Type 0}
    {left : S → Leaving → S → Type 0} {now : ℕ} {s t u : S} {path : PathFrom} {r : Reply} → Talked called entered left now s t
    → TalkedLooking called entered left now t path r u → TalkedLooking called entered left now s path r u
unfolding goes_on
looking_after {path = path} {r} a b =
    record { talked = goes_on a b.talked; looked = looked_then path r a.log b.talked.log b.looked }

-- a look, and then a call that was done
pub looked_before : {S : Type 0} {called : S → ℕ → ℕ → Call → Outcome → S → Type 0} {entered : S → ℕ → ℕ → Result ℕ EnterRefusal → S → Type 0}
    {left : S → Leaving → S → Type 0} {now : ℕ} {s t u : S} {path : PathFrom} {r : Reply} {asked : Call}
    → TalkedLooking called entered left now s path r t
    → TalkedFor called entered left now t asked reply.Done u → LookedBefore called entered left now s path r asked u
looked_before a b = record { session = b.session; before = b.before; looking = looking_on a b.first.talked; last = b.last }

-- what a look told is given an owner
pub gives_told : {S : Type 0} (called : S → ℕ → ℕ → Call → Outcome → S → Type 0) (entered : S → ℕ → ℕ → Result ℕ EnterRefusal → S → Type 0)
    (left : S → Leaving → S → Type 0) (now : ℕ)
    (s t u : S) (x : Reach) (session : ℕ) (path own : PathFrom) (uid gid : ℕ) (h answer : Heard)
    (was : Attributes) → May x.plan Give → IsNamed x path → IsAt (Some was.inode) [] own → attributes_in h ≡ Ok was
    → MayHear (CalledFrom x called) entered left now s (ask.Call session (call.Lstat path)) h t
    → MayHear called entered left now t (ask.Call session (call.Chown own uid gid)) answer u
    → MayHear (CalledFrom x called) entered left now t (ask.Call session (call.Chown own uid gid)) answer u
gives_told called entered left now s t u x session path own uid gid h answer was planned named at told look may =
    let P : Heard → Type 0 = λ y. MayHear (CalledFrom x called) entered left now s (ask.Call session (call.Lstat path)) y t in
    from_named called entered left now t u x session (call.Chown own uid gid) answer planned (inr (record {
      before = s;
      session = session;
      looked = path;
      was = was;
      named = named;
      answer = (subst P (attributes_so h was told) look).answer;
      at = at;
    })) may

-- behind what is no call
pub given_after : {S : Type 0} {called : S → ℕ → ℕ → Call → Outcome → S → Type 0} {entered : S → ℕ → ℕ → Result ℕ EnterRefusal → S → Type 0}
    {left : S → Leaving → S → Type 0} {now : ℕ} {s t : S} (u : S) (path : PathFrom) (owner : Owner)
    → TalkedBy called entered left now s [] t
    → (r : Result ⊤ Refused) → OnOk r (LinkGiven called entered left now t path owner u)
    → OnOk r (LinkGiven called entered left now s path owner u)
given_after u path owner first (Err e) it = tt
given_after u path owner first (Ok x) it = (it.0, by_both first it.1)

-- so a link is given
pub link_given : {S : Type 0} (called : S → ℕ → ℕ → Call → Outcome → S → Type 0) (entered : S → ℕ → ℕ → Result ℕ EnterRefusal → S → Type 0)
    (left : S → Leaving → S → Type 0) (now : ℕ)
    (s t u : S) (session : ℕ) (path own : PathFrom) (owner : Owner) (h answer : Heard) (was : Attributes) (r : Result ⊤ Refused)
    → attributes_in h ≡ Ok was → (IsOk r → IsDone answer) → plain_path own ≡ itself was.inode
    → MayHear called entered left now s (ask.Call session (call.Lstat path)) h t
    → MayHear called entered left now t (ask.Call session (call.Chown own owner.uid owner.gid)) answer u
    → OnOk r (LinkGiven called entered left now s path owner u)
link_given called entered left now s t u session path own owner h answer was (Err e) told done same look may = tt
link_given called entered left now s t u session path own owner h answer was (Ok x) told done same look may =
    let P : Heard → Type 0 = λ y. MayHear called entered left now s (ask.Call session (call.Lstat path)) y t in
    let Q : Heard → Type 0 = λ y. MayHear called entered left now t (ask.Call session (call.Chown own owner.uid owner.gid)) y u in
    let G : PathFrom → List (Call × Heard) = λ p. (call.Chown p owner.uid owner.gid, heard_of.Outcome (outcome.Reply reply.Done)) ∷ [] in (
      was,
      by_both {xs = seen_at path was ∷ []} {ys = given_to (itself was.inode) owner ∷ []}
          (by_call called entered left now s t session (call.Lstat path) _ refl (subst P (attributes_so h was told) look))
          (by_same (ap G same)
          (by_call called entered left now t u session (call.Chown own owner.uid owner.gid) _ refl (subst Q (done refl) may))),
    )
