-- What is answered behind what sessions were asked.
use Rattle.std.proofs.Common.{◌≡◌, ◌<◌, ◌∙◌, ℕ, ℤ, List, [], ◌∷◌, ◌++◌, append_assoc, Some, None, Option, Result, Ok, Err, IfOk, IfSome, IsTrue, true, false, ◌⊎◌, ap, length, min, take, refl, inl, inr, subst, sym}
use Rattle.std.specs.Prelude.{pos}
use Rattle.std.specs.Borrow.{Bor}
use Rattle.fuse.specs.declared.reply.Attributes.{Attributes as Told}
use Rattle.fuse.specs.declared.reply.Entry.{Entry}
use Rattle.fuse.specs.declared.reply.Opened.{Opened}
use Rattle.fuse.specs.declared.reply.StatfsReply.{StatfsReply}
use Rattle.fuse.specs.declared.request.Request.{Request}
use Rattle.fuse.specs.declared.request.Request.TheVariants as request
use Rattle.fuse_nodes.specs.Known.{Known}
use Rattle.fuse_nodes.specs.Laws.{IsLost}
use Rattle.fuse_nodes.specs.declared.node.Descriptor.{Descriptor}
use Rattle.std.specs.Global.{Vec}
use Rattle.tree.specs.declared.Attributes.{Attributes}
use Rattle.tree.specs.declared.Call.{Call}
use Rattle.tree.specs.declared.Call.TheVariants as call
use Rattle.tree.specs.declared.LinkTarget.{LinkTarget}
use Rattle.tree.specs.declared.Outcome.{Outcome}
use Rattle.tree.specs.declared.Outcome.TheVariants as outcome
use Rattle.tree.specs.declared.OpenFlags.{OpenFlags}
use Rattle.tree.specs.declared.PathFrom.{PathFrom}
use Rattle.tree.specs.declared.Reply.{Reply}
use Rattle.tree.specs.declared.Reply.TheVariants as reply
use Rattle.tree.specs.declared.Statfs.{Statfs}
use Rattle.tree.specs.declared.Whence.TheVariants.{Set}
use Rattle.talks.specs.Changes.{changes_wanted, in_order}
use Rattle.talks.specs.Hearing.{attributes_in, target_of}
use Rattle.talks.specs.Talks.{Exchange, MayHear, Leads, IsDone}
use Rattle.talks.specs.declared.ask.Ask.{Ask}
use Rattle.talks.specs.declared.ask.Ask.TheVariants as ask
use Rattle.talks.specs.declared.changes.Changes.{Changes}
use Rattle.talks.specs.declared.changes.Wanted.{Wanted}
use Rattle.talks.specs.declared.heard.Heard.{Heard}
use Rattle.talks.specs.declared.heard.Heard.TheVariants as heard_of
use Rattle.talks.specs.declared.refused.Refused.{Refused}
use Rattle.talks.specs.declared.ask.Leaving.{Leaving}
use Rattle.talks.specs.declared.sessions.EnterRefusal.{EnterRefusal}
use Rattle.fuse_server.specs.Asking.{Talked, TalkedBy, TalkedTo, TalkedFor, TalkedLooking, LookedBefore, LookedAt, OpenedAt, ReadFrom, SoughtFor, look_reply}
use Rattle.fuse_server.specs.Kinds.{is_sync}
use Rattle.fuse_server.specs.Losing.{Loses, is_last, takes_name}
use Rattle.fuse_server.specs.Calls.{calls_in, replied}
use Rattle.fuse_server.specs.Changing.{changes_done}
use Rattle.fuse_server.specs.Making.{Making, AreMaking, MaybeClosed, given_to, itself, seen_at}
use Rattle.fuse_server.specs.Making.Making.{NewDirectory, NewFile, NewLink}
use Rattle.fuse_server.specs.Reach.{IsAt}
use Rattle.fuse_server.specs.Telling.{Telling, telling_of, tells, told_of, room_of, HasOwn, IsToldAs, ToldBehind, SetBehind, ShownAt, ShownBy, LinkGiven, LinkShown, AskedFor}
use Rattle.fuse_server.specs.Telling.Telling.{Name, Made, Node, Changed, Target, Unlinked, Removed, Renamed, Room, ReadAt, Other}
use Rattle.fuse_server.specs.declared.making.Owner.{Owner}
use Rattle.fuse_server.specs.declared.said.FuseAnswer.{FuseAnswer}
use Rattle.fuse_server.specs.declared.said.FuseAnswer.TheVariants as answer_of
use Rattle.fuse_server.specs.declared.said.Said.{Said}
use Rattle.fuse_server.specs.declared.said.Said.TheVariants as said
use Rattle.fuse_server.specs.declared.work.Reach.{Reach}
use Rattle.fuse_server.proofs.Asking.{joined, attributes_so, by_both, by_call, by_one, looked_first, looked_then, never_takes, quiet_joined, stays}
use Rattle.fuse_server.proofs.Losing.{loses_on, quiet_loses, replaced}

-- the exchanges up to a call and its answer
abbrev log_of : {S : Type 0} {called : S → ℕ → ℕ → Call → Outcome → S → Type 0} {entered : S → ℕ → ℕ → Result ℕ EnterRefusal → S → Type 0}
    {left : S → Leaving → S → Type 0} {now : ℕ} {s t : S} {asked : Call} {h : Heard} → TalkedTo called entered left now s asked h t
    → List Exchange
log_of {asked = asked} {h} talked = record { ask = ask.Call talked.session asked; heard = h } ∷ talked.first.talked.log

abbrev leads_of : {S : Type 0} {called : S → ℕ → ℕ → Call → Outcome → S → Type 0} {entered : S → ℕ → ℕ → Result ℕ EnterRefusal → S → Type 0}
    {left : S → Leaving → S → Type 0} {now : ℕ} {s t : S} {asked : Call} {h : Heard} (talked : TalkedTo called entered left now s asked h t)
    → Leads (MayHear called entered left now) s (log_of talked) t
leads_of talked = (talked.before, talked.first.talked.leads, talked.last)

-- the exchanges up to a seek and a call behind it
abbrev both_of : {S : Type 0} {called : S → ℕ → ℕ → Call → Outcome → S → Type 0} {entered : S → ℕ → ℕ → Result ℕ EnterRefusal → S → Type 0}
    {left : S → Leaving → S → Type 0} {now : ℕ} {s t u : S} → Talked called entered left now s t → (d : Descriptor) (offset : ℕ)
    (asked : Call) (r : Reply) → SoughtFor called entered left now t d (pos offset) asked r u → List Exchange
both_of first d offset asked r sought = record { ask = ask.Call d.session asked; heard = heard_of.Outcome (outcome.Reply r) }
    ∷ record {
      ask = ask.Call d.session (call.Seek d.fd Set (pos offset));
      heard = heard_of.Outcome (outcome.Reply (reply.At sought.position));
    } ∷ first.log

-- nothing is lost by a call that takes no name away
loses_of : {S : Type 0} {called : S → ℕ → ℕ → Call → Outcome → S → Type 0}
    {entered : S → ℕ → ℕ → Result ℕ EnterRefusal → S → Type 0} {left : S → Leaving → S → Type 0} {now : ℕ}
    {s t : S} {asked : Call} {h : Heard} (k : Known) (talked : TalkedTo called entered left now s asked h t)
    → takes_name asked ≡ false → Loses k (log_of talked)
loses_of {asked = asked} {h} k talked quiet =
    quiet_loses k (log_of talked) (never_takes (takes_name asked) (IsDone h) quiet, talked.first.talked.quiet)

-- the exchanges up to a call that was done behind a look
abbrev taking_log : {S : Type 0} {called : S → ℕ → ℕ → Call → Outcome → S → Type 0}
    {entered : S → ℕ → ℕ → Result ℕ EnterRefusal → S → Type 0} {left : S → Leaving → S → Type 0} {now : ℕ}
    {s t : S} {path : PathFrom} {r : Reply} {asked : Call}
    → LookedBefore called entered left now s path r asked t → List Exchange
taking_log {asked = asked} b =
    record { ask = ask.Call b.session asked; heard = heard_of.Outcome (outcome.Reply reply.Done) } ∷ b.looking.talked.log

-- one call alone
alone : (one : Call × Heard) {calls : List (Call × Heard)} → calls ≡ [] → length (calls ++ (one ∷ [])) ≡ 1
alone one none = ap (λ (cs : List (Call × Heard)). length (cs ++ (one ∷ []))) none

-- what stood at a path is told
pub shown : {S : Type 0} {called : S → ℕ → ℕ → Call → Outcome → S → Type 0} {entered : S → ℕ → ℕ → Result ℕ EnterRefusal → S → Type 0}
    {left : S → Leaving → S → Type 0} {now : ℕ} {s t : S} {path : PathFrom} {told : Told} (was : Attributes)
    → LookedAt called entered left now s path (Some was) t → told ≡ told_of was → ShownAt called entered left now s path told t
shown was looked is = record { was = was; looked = looked; is = is }

-- looks that may be refused
pub told_shown : {S : Type 0} {called : S → ℕ → ℕ → Call → Outcome → S → Type 0} {entered : S → ℕ → ℕ → Result ℕ EnterRefusal → S → Type 0}
    {left : S → Leaving → S → Type 0} {now : ℕ} {s t : S} {path : PathFrom} (was : Attributes) (r : Result Entry Refused)
    → LookedAt called entered left now s path (Some was) t → IfOk r (λ (e : Entry). e.attributes ≡ told_of was)
    → IfOk r (λ (e : Entry). ShownAt called entered left now s path e.attributes t)
told_shown was (Err refused) looked is = tt
told_shown was (Ok e) looked is = shown was looked is

-- a look behind a call that was done
pub shown_by : {S : Type 0} {called : S → ℕ → ℕ → Call → Outcome → S → Type 0} {entered : S → ℕ → ℕ → Result ℕ EnterRefusal → S → Type 0}
    {left : S → Leaving → S → Type 0} {now : ℕ}
    {s t u : S} {path : PathFrom} {told : Told} {asked : Call} → takes_name asked ≡ false
    → TalkedFor called entered left now s asked reply.Done t → ShownAt called entered left now t path told u
    → ShownBy called entered left now s (replied asked reply.Done ∷ []) path told u
shown_by {path = path} {asked = asked} quiet a b = record {
  was = b.was;
  talked = by_both {xs = replied asked reply.Done ∷ []} {ys = seen_at path b.was ∷ []} (by_one quiet a) (by_one refl b.looked);
  is = b.is;
}

pub told_by : {S : Type 0} {called : S → ℕ → ℕ → Call → Outcome → S → Type 0} {entered : S → ℕ → ℕ → Result ℕ EnterRefusal → S → Type 0}
    {left : S → Leaving → S → Type 0} {now : ℕ}
    {s t : S} (u : S) (path : PathFrom) (asked : Call) → takes_name asked ≡ false
    → TalkedFor called entered left now s asked reply.Done t → (r : Result Entry Refused)
    → IfOk r (λ (e : Entry). ShownAt called entered left now t path e.attributes u)
    → IfOk r (λ (e : Entry). ShownBy called entered left now s (replied asked reply.Done ∷ []) path e.attributes u)
told_by u path asked quiet first (Err refused) it = tt
told_by u path asked quiet first (Ok e) it = shown_by quiet first it

pub opened_shown : {S : Type 0} {called : S → ℕ → ℕ → Call → Outcome → S → Type 0}
    {entered : S → ℕ → ℕ → Result ℕ EnterRefusal → S → Type 0}
    {left : S → Leaving → S → Type 0} {now : ℕ}
    {s t : S} (calls : List (Call × Heard)) (path : PathFrom) (was : Attributes) (r : Result (Entry × Opened) Refused)
    → TalkedBy called entered left now s (calls ++ (seen_at path was ∷ [])) t
    → IfOk r (λ (e : Entry × Opened). e.0.attributes ≡ told_of was)
    → IfOk r (λ (e : Entry × Opened). ShownBy called entered left now s calls path e.0.attributes t)
opened_shown calls path was (Err refused) talked is = tt
opened_shown calls path was (Ok e) talked is = record { was = was; talked = talked; is = is }

pub looked_by : {S : Type 0} {called : S → ℕ → ℕ → Call → Outcome → S → Type 0} {entered : S → ℕ → ℕ → Result ℕ EnterRefusal → S → Type 0}
    {left : S → Leaving → S → Type 0} {now : ℕ}
    {s t : S} (u : S) (path : PathFrom) (asked : Call) → takes_name asked ≡ false
    → TalkedFor called entered left now s asked reply.Done t → (r : Result Attributes Refused)
    → IfOk r (λ (was : Attributes). LookedAt called entered left now t path (Some was) u)
    → IfOk r (λ (was : Attributes). TalkedBy called entered left now s (replied asked reply.Done ∷ seen_at path was ∷ []) u)
looked_by u path asked quiet first (Err refused) look = tt
looked_by u path asked quiet first (Ok was) look =
    by_both {xs = replied asked reply.Done ∷ []} {ys = seen_at path was ∷ []} (by_one quiet first) (by_one refl look)

-- a look alone
pub shown_alone : {S : Type 0} {called : S → ℕ → ℕ → Call → Outcome → S → Type 0} {entered : S → ℕ → ℕ → Result ℕ EnterRefusal → S → Type 0}
    {left : S → Leaving → S → Type 0} {now : ℕ} {s t : S} {path : PathFrom} {told : Told} → ShownAt called entered left now s path told t
    → ShownBy called entered left now s [] path told t
shown_alone b = record { was = b.was; talked = by_one refl b.looked; is = b.is }

-- a link that was given is looked at
pub link_told : {S : Type 0} {called : S → ℕ → ℕ → Call → Outcome → S → Type 0} {entered : S → ℕ → ℕ → Result ℕ EnterRefusal → S → Type 0}
    {left : S → Leaving → S → Type 0} {now : ℕ}
    {s t : S} (u : S) (path : PathFrom) (owner : Owner) → LinkGiven called entered left now s path owner t → (r : Result Entry Refused)
    → IfOk r (λ (e : Entry). ShownAt called entered left now t path e.attributes u)
    → IfOk r (λ (e : Entry). LinkShown called entered left now s path owner e.attributes u)
link_told u path owner (link, first) (Err refused) it = tt
link_told u path owner (link, first) (Ok e) it = (
  link,
  record {
    was = it.was;
    talked = by_both {xs = seen_at path link ∷ given_to (itself link.inode) owner ∷ []} {ys = seen_at path it.was ∷ []} first
        (by_one refl it.looked);
    is = it.is;
  },
)

pub entry_behind : {S : Type 0} {called : S → ℕ → ℕ → Call → Outcome → S → Type 0}
    {entered : S → ℕ → ℕ → Result ℕ EnterRefusal → S → Type 0} {left : S → Leaving → S → Type 0} {now : ℕ} {k : Known}
    {s t : S} (x : Reach) (name : List ℕ) (entry : Entry) (path : PathFrom) → IsAt x.own name path
    → ShownAt called entered left now s path entry.attributes t
    → ToldBehind called entered left now x (Name name) k s (answer_of.Entry entry) t
entry_behind {k = k} x name entry path at it = record {
  log = log_of it.looked;
  leads = leads_of it.looked;
  told = (
    record { session = it.looked.session; path = path; was = it.was; at = at; ends = (refl, refl); is = it.is },
    alone _ it.looked.first.exact,
  );
  loses = loses_of k it.looked refl;
}

-- something was made at a path by calls, of which the last one is a look: that is told
pub made_behind : {S : Type 0} {called : S → ℕ → ℕ → Call → Outcome → S → Type 0} {entered : S → ℕ → ℕ → Result ℕ EnterRefusal → S → Type 0}
    {left : S → Leaving → S → Type 0} {now : ℕ}
    {k : Known} {s t u : S} {xs ys : List (Call × Heard)} (x : Reach) (name : List ℕ) (making : Making)
    (entry : Entry) (path : PathFrom) → IsAt x.own name path → TalkedBy called entered left now s xs t
    → ShownBy called entered left now t ys path entry.attributes u
    → ((was : Attributes) → AreMaking x making path was (xs ++ (ys ++ (seen_at path was ∷ []))))
    → ToldBehind called entered left now x (Made name making) k s (answer_of.Entry entry) u
made_behind {k = k} {xs = xs} {ys} x name making entry path at first it makes =
    let both = by_both {xs = xs} {ys = ys ++ (seen_at path it.was ∷ [])} first it.talked in
    let P : List (Call × Heard) → Type 0 = λ calls. AreMaking x making path it.was calls in record {
      log = both.talked.log;
      leads = both.talked.leads;
      told = record { path = path; was = it.was; at = at; made = subst P (sym both.exact) (makes it.was); is = it.is };
      loses = quiet_loses k both.talked.log both.talked.quiet;
    }

-- it is open, too
pub created_behind : {S : Type 0} {called : S → ℕ → ℕ → Call → Outcome → S → Type 0} {entered : S → ℕ → ℕ → Result ℕ EnterRefusal → S → Type 0}
    {left : S → Leaving → S → Type 0} {now : ℕ}
    {k : Known} {s t u : S} {xs ys : List (Call × Heard)} (x : Reach) (name : List ℕ) (making : Making)
    (entry : Entry) (opened : Opened) (path : PathFrom) → IsAt x.own name path → TalkedBy called entered left now s xs t
    → ShownBy called entered left now t ys path entry.attributes u
    → ((was : Attributes) → AreMaking x making path was (xs ++ (ys ++ (seen_at path was ∷ []))))
    → ToldBehind called entered left now x (Made name making) k s (answer_of.Create entry opened) u
created_behind {k = k} x name making entry opened path at first it makes =
    let told = made_behind {k = k} x name making entry path at first it makes in
    record { log = told.log; leads = told.leads; told = told.told; loses = told.loses }

-- the calls that open a path, the last one
pub by_open : {S : Type 0} {called : S → ℕ → ℕ → Call → Outcome → S → Type 0} {entered : S → ℕ → ℕ → Result ℕ EnterRefusal → S → Type 0}
    {left : S → Leaving → S → Type 0} {now : ℕ}
    {s t : S} {path : PathFrom} {mode : ℕ} {d : Descriptor} (o : OpenedAt called entered left now s path mode d t)
    → TalkedBy called entered left now s
    (calls_in o.first.log ++ (replied (call.Open path o.flags mode) (reply.Descriptor d.fd) ∷ [])) t
by_open {called = called} {entered} {left} {now} {s} {t} {path} {mode} {d} o =
    by_both {xs = calls_in o.first.log} {ys = replied (call.Open path o.flags mode) (reply.Descriptor d.fd) ∷ []}
    (record { talked = o.first; exact = refl })
    (by_call called entered left now o.before t d.session (call.Open path o.flags mode) _ refl o.last)

-- a directory is made, with the permissions and for the owner that are meant
pub directory_made : (x : Reach) (path : PathFrom) (m n : ℕ) (owner meant : Owner) → m ≡ n → owner ≡ meant → (was : Attributes)
    → AreMaking x (NewDirectory n meant) path was
    (replied (call.Mkdir path m) reply.Done ∷ ((given_to path owner ∷ []) ++ (seen_at path was ∷ [])))
directory_made x path m n owner meant same alike was =
    let calls : List (Call × Heard) = replied (call.Mkdir path m) reply.Done ∷ ((given_to path owner ∷ []) ++ (seen_at path was ∷ [])) in
    let M : ℕ → Type 0 = λ mode. AreMaking x (NewDirectory mode owner) path was calls in
    let O : Owner → Type 0 = λ to. AreMaking x (NewDirectory n to) path was calls in
    subst O alike (subst M same refl)

pub link_made : (x : Reach) (path : PathFrom) (target : Bor (List ℕ)) (owner meant : Owner) (link : Attributes) → owner ≡ meant
    → (was : Attributes) → AreMaking x (NewLink target.now meant) path was (replied (call.Symlink target path) reply.Done
    ∷ ((seen_at path link ∷ given_to (itself link.inode) owner ∷ []) ++ (seen_at path was ∷ [])))
link_made x path target owner meant link alike was =
    let calls : List (Call × Heard) = replied (call.Symlink target path) reply.Done
    ∷ ((seen_at path link ∷ given_to (itself link.inode) owner ∷ []) ++ (seen_at path was ∷ [])) in
    let O : Owner → Type 0 = λ to. AreMaking x (NewLink target.now to) path was calls in
    subst O alike (link, refl)

-- a file is made by an open, behind which its descriptor may be closed
pub file_made : (x : Reach) (path : PathFrom) (tried closed : List (Call × Heard)) (flags : OpenFlags) (fd m n : ℕ) (owner meant : Owner)
    → MaybeClosed fd closed → m ≡ n → owner ≡ meant → (was : Attributes)
    → AreMaking x (NewFile n meant) path was (((tried ++ (replied (call.Open path flags m) (reply.Descriptor fd) ∷ []))
    ++ closed) ++ ((given_to path owner ∷ []) ++ (seen_at path was ∷ [])))
file_made x path tried closed flags fd m n owner meant maybe same alike was =
    let opened : ℕ → Call × Heard = λ mode. replied (call.Open path flags mode) (reply.Descriptor fd) in
    let rest : List (Call × Heard) = given_to path owner ∷ seen_at path was ∷ [] in
    let calls : List (Call × Heard) = ((tried ++ (opened m ∷ [])) ++ closed) ++ rest in
    let M : ℕ → Type 0 = λ mode. AreMaking x (NewFile mode owner) path was calls in
    let O : Owner → Type 0 = λ to. AreMaking x (NewFile n to) path was calls in
    subst O alike (subst M same (
      tried,
      flags,
      fd,
      closed,
      maybe,
      append_assoc (tried ++ (opened m ∷ [])) closed rest ∙ append_assoc tried (opened m ∷ []) (closed ++ rest),
    ))

-- a node was looked at
pub node_behind : {S : Type 0} {called : S → ℕ → ℕ → Call → Outcome → S → Type 0} {entered : S → ℕ → ℕ → Result ℕ EnterRefusal → S → Type 0}
    {left : S → Leaving → S → Type 0} {now : ℕ} {k : Known} {s t : S} (x : Reach) (was : Attributes) (path : PathFrom) → IsAt x.own [] path
    → LookedAt called entered left now s path (Some was) t
    → ToldBehind called entered left now x Node k s (answer_of.Attributes (told_of was)) t
node_behind {k = k} x was path at looked = record {
  log = log_of looked;
  leads = leads_of looked;
  told = (
    inl (record { session = looked.session; path = path; was = was; at = at; ends = (refl, refl); is = refl }),
    alone _ looked.first.exact,
  );
  loses = loses_of k looked refl;
}

-- or what its descriptor has open
pub open_behind : {S : Type 0} {called : S → ℕ → ℕ → Call → Outcome → S → Type 0} {entered : S → ℕ → ℕ → Result ℕ EnterRefusal → S → Type 0}
    {left : S → Leaving → S → Type 0} {now : ℕ} {k : Known} {s t : S} (x : Reach) (was : Attributes) (descriptor : Descriptor)
    → x.descriptor ≡ Some descriptor
    → MayHear called entered left now s (ask.Call descriptor.session (call.Fstat descriptor.fd))
    (heard_of.Outcome (outcome.Reply (reply.Inode was))) t
    → ToldBehind called entered left now x Node k s (answer_of.Attributes (told_of was)) t
open_behind {s = s} x was descriptor has last = record {
  log = record { ask = ask.Call descriptor.session (call.Fstat descriptor.fd); heard = heard_of.Outcome (outcome.Reply (reply.Inode was)) }
      ∷ [];
  leads = (s, refl, last);
  told = (inr (record { descriptor = descriptor; was = was; has = has; ends = (refl, refl); is = refl }), refl);
  loses = (λ done. tt, tt);
}

-- what a node's descriptor has open was looked at
pub open_so : {S : Type 0} (called : S → ℕ → ℕ → Call → Outcome → S → Type 0) (entered : S → ℕ → ℕ → Result ℕ EnterRefusal → S → Type 0)
    (left : S → Leaving → S → Type 0) (now : ℕ) (s t : S) (x : Reach) (k : Known) (descriptor : Descriptor) (h : Heard)
    (r : Result Attributes Refused)
    → r ≡ attributes_in h
    → MayHear called entered left now s (ask.Call descriptor.session (call.Fstat descriptor.fd)) h t
    → IfOk r (λ (was : Attributes). x.descriptor ≡ Some descriptor
    → ToldBehind called entered left now x Node k s (answer_of.Attributes (told_of was)) t)
open_so called entered left now s t x k descriptor h (Err refused) is may = tt
open_so called entered left now s t x k descriptor h (Ok was) is may = λ has.
    let P : Heard → Type 0 = λ y. MayHear called entered left now s (ask.Call descriptor.session (call.Fstat descriptor.fd)) y t in
    open_behind x was descriptor has (subst P (attributes_so h was (sym is)) may)

pub node_so : {S : Type 0} (called : S → ℕ → ℕ → Call → Outcome → S → Type 0) (entered : S → ℕ → ℕ → Result ℕ EnterRefusal → S → Type 0)
    (left : S → Leaving → S → Type 0) (now : ℕ) (s t : S) (x : Reach) (k : Known) (path : PathFrom) → IsAt x.own [] path
    → (r : Result Attributes Refused)
    → IfOk r (λ (was : Attributes). LookedAt called entered left now s path (Some was) t)
    → IfOk r (λ (was : Attributes). ToldBehind called entered left now x Node k s (answer_of.Attributes (told_of was)) t)
node_so called entered left now s t x k path at (Err refused) looked = tt
node_so called entered left now s t x k path at (Ok was) looked = node_behind x was path at looked

pub target_behind : {S : Type 0} {called : S → ℕ → ℕ → Call → Outcome → S → Type 0}
    {entered : S → ℕ → ℕ → Result ℕ EnterRefusal → S → Type 0} {left : S → Leaving → S → Type 0} {now : ℕ} {k : Known}
    {s t : S} (x : Reach) (bytes : Vec ℕ) (target : LinkTarget) (path : PathFrom) → IsAt x.own [] path
    → TalkedFor called entered left now s (call.Readlink path) (reply.Target target) t → bytes.items ≡ target_of target
    → ToldBehind called entered left now x Target k s (answer_of.Bytes bytes) t
target_behind {k = k} x bytes target path at talked is = record {
  log = log_of talked;
  leads = leads_of talked;
  told = (
    record { session = talked.session; path = path; target = target; at = at; ends = (refl, refl); is = is },
    alone _ talked.first.exact,
  );
  loses = loses_of k talked refl;
}

-- a file's name was taken away
pub unlinked_behind : {S : Type 0} {called : S → ℕ → ℕ → Call → Outcome → S → Type 0}
    {entered : S → ℕ → ℕ → Result ℕ EnterRefusal → S → Type 0} {left : S → Leaving → S → Type 0} {now : ℕ} {k : Known}
    {s t : S} (x : Reach) (name : List ℕ) (path : PathFrom) (was : Attributes) → IsAt x.own name path
    → LookedBefore called entered left now s path (reply.Inode was) (call.Unlink path) t → (IsTrue (is_last was) → IsLost k was.inode)
    → ToldBehind called entered left now x (Unlinked name) k s answer_of.Done t
unlinked_behind {k = k} x name path was at b lost = record {
  log = taking_log b;
  leads = (b.before, b.looking.talked.leads, b.last);
  told = record { session = b.session; path = path; at = at; ends = (refl, refl) };
  loses = (
    λ done. record { was = was; looked = b.looking.looked; lost = lost },
    quiet_loses k b.looking.talked.log b.looking.talked.quiet,
  );
}

-- a directory's
pub removed_behind : {S : Type 0} {called : S → ℕ → ℕ → Call → Outcome → S → Type 0}
    {entered : S → ℕ → ℕ → Result ℕ EnterRefusal → S → Type 0} {left : S → Leaving → S → Type 0} {now : ℕ} {k : Known}
    {s t : S} (x : Reach) (name : List ℕ) (path : PathFrom) (was : Attributes) → IsAt x.own name path
    → LookedBefore called entered left now s path (reply.Inode was) (call.Rmdir path) t → IsLost k was.inode
    → ToldBehind called entered left now x (Removed name) k s answer_of.Done t
removed_behind {k = k} x name path was at b lost = record {
  log = taking_log b;
  leads = (b.before, b.looking.talked.leads, b.last);
  told = record { session = b.session; path = path; at = at; ends = (refl, refl) };
  loses = (
    λ done. record { was = was; looked = b.looking.looked; lost = lost },
    quiet_loses k b.looking.talked.log b.looking.talked.quiet,
  );
}

-- a name became another one
pub renamed_behind : {S : Type 0} {called : S → ℕ → ℕ → Call → Outcome → S → Type 0}
    {entered : S → ℕ → ℕ → Result ℕ EnterRefusal → S → Type 0} {left : S → Leaving → S → Type 0} {now : ℕ} {k : Known}
    {s t u : S} (x : Reach) (old new : List ℕ) (from to : PathFrom) (found : Option Attributes) (moved : Attributes)
    → IsAt x.own old from → IsAt x.other new to → TalkedLooking called entered left now s to (look_reply found) t
    → LookedBefore called entered left now t from (reply.Inode moved) (call.Rename from to) u
    → IfSome found (λ (was : Attributes). IsTrue (is_last was) → (was.inode ≡ moved.inode) ⊎ IsLost k was.inode)
    → ToldBehind called entered left now x (Renamed old new) k s answer_of.Done u
renamed_behind {called = called} {entered} {left} {now} {k} {s} {t} {u} x old new from to found moved at into a b lost = record {
  log = record { ask = ask.Call b.session (call.Rename from to); heard = heard_of.Outcome (outcome.Reply reply.Done) }
      ∷ (b.looking.talked.log ++ a.talked.log);
  leads = (
    b.before,
    joined (MayHear called entered left now) s t b.before a.talked.log b.looking.talked.log a.talked.leads b.looking.talked.leads,
    b.last,
  );
  told = record { session = b.session; from = from; to = to; at = at; into = into; ends = (refl, refl) };
  loses = (
    λ done. replaced k from to (b.looking.talked.log ++ a.talked.log) found moved
        (looked_first to (look_reply found) a.talked.log b.looking.talked.log a.looked)
        (looked_then from (reply.Inode moved) a.talked.log b.looking.talked.log b.looking.looked) lost,
    quiet_loses k (b.looking.talked.log ++ a.talked.log)
        (quiet_joined a.talked.log b.looking.talked.log a.talked.quiet b.looking.talked.quiet),
  );
}

pub room_behind : {S : Type 0} {called : S → ℕ → ℕ → Call → Outcome → S → Type 0} {entered : S → ℕ → ℕ → Result ℕ EnterRefusal → S → Type 0}
    {left : S → Leaving → S → Type 0} {now : ℕ} {k : Known} {s t : S} (x : Reach) (told : StatfsReply) (room : Statfs)
    → TalkedFor called entered left now s call.Statfs (reply.Space room) t → told ≡ room_of room
    → ToldBehind called entered left now x Room k s (answer_of.Statfs told) t
room_behind {k = k} x told room talked is = record {
  log = log_of talked;
  leads = leads_of talked;
  told = (record { session = talked.session; room = room; ends = (refl, refl); is = is }, alone _ talked.first.exact);
  loses = loses_of k talked refl;
}

-- a node's descriptor
pub own_known : {S : Type 0} (called : S → ℕ → ℕ → Call → Outcome → S → Type 0) (entered : S → ℕ → ℕ → Result ℕ EnterRefusal → S → Type 0)
    (left : S → Leaving → S → Type 0) (now : ℕ) (s : S) (x : Reach) (d : Descriptor) → x.descriptor ≡ Some d
    → HasOwn called entered left now s x d s
own_known called entered left now s x d is = record { talked = stays called entered left now s; own = inl is }

pub own_opened : {S : Type 0} (called : S → ℕ → ℕ → Call → Outcome → S → Type 0) (entered : S → ℕ → ℕ → Result ℕ EnterRefusal → S → Type 0)
    (left : S → Leaving → S → Type 0) (now : ℕ) (s t : S) (x : Reach) (path : PathFrom) (mode : ℕ) (r : Result Descriptor Refused)
    → x.descriptor ≡ None → IsAt x.own [] path → IfOk r (λ (d : Descriptor). OpenedAt called entered left now s path mode d t)
    → IfOk r (λ (d : Descriptor). HasOwn called entered left now s x d t)
own_opened called entered left now s t x path mode (Err e) none at o = tt
own_opened called entered left now s t x path mode (Ok d) none at o = record {
  talked = record {
    log = record {
      ask = ask.Call d.session (call.Open path o.flags mode);
      heard = heard_of.Outcome (outcome.Reply (reply.Descriptor d.fd));
    } ∷ o.first.log;
    leads = (o.before, o.first.leads, o.last);
    quiet = (never_takes false _ refl, o.first.quiet);
  };
  own = inr (none, record { path = path; flags = o.flags; mode = mode; at = at; ends = (refl, refl) });
}

-- bytes were read at a position
read_exactly : {S : Type 0} {called : S → ℕ → ℕ → Call → Outcome → S → Type 0} {entered : S → ℕ → ℕ → Result ℕ EnterRefusal → S → Type 0}
    {left : S → Leaving → S → Type 0} {now : ℕ} {k : Known} {s t u : S} (x : Reach) (d : Descriptor) (offset count : ℕ) (told : Vec ℕ)
    (bytes : List ℕ) → HasOwn called entered left now s x d t
    → ReadFrom called entered left now t d (pos offset) (min count 65536) bytes u → told.items ≡ take (min count 65536) bytes
    → ToldBehind called entered left now x (ReadAt offset count) k s (answer_of.Bytes told) u
read_exactly {k = k} {t = t} {u} x d offset count told bytes own (read, same, sought) is = record {
  log = both_of own.talked d offset (call.Read d.fd (min count 65536)) (reply.Bytes read) sought;
  leads = (sought.between, (t, own.talked.leads, sought.sought), sought.last);
  told = inl (record {
    read = read;
    there = record { descriptor = d; position = sought.position; ends = (refl, refl, refl, refl, own.own) };
    is = is ∙ ap (λ (it : List ℕ). take (min count 65536) it) same;
  });
  loses = (λ done. tt, (λ done. tt, quiet_loses k own.talked.log own.talked.quiet));
}

pub read_behind : {S : Type 0} {called : S → ℕ → ℕ → Call → Outcome → S → Type 0} {entered : S → ℕ → ℕ → Result ℕ EnterRefusal → S → Type 0}
    {left : S → Leaving → S → Type 0} {now : ℕ} {k : Known} {s t u : S} (x : Reach) (d : Descriptor) (offset count : ℕ) (z : ℤ) (n : ℕ)
    (told : Vec ℕ) (bytes : List ℕ) → HasOwn called entered left now s x d t → z ≡ pos offset → n ≡ min count 65536
    → ReadFrom called entered left now t d z n bytes u → told.items ≡ take n bytes
    → ToldBehind called entered left now x (ReadAt offset count) k s (answer_of.Bytes told) u
read_behind {called = called} {entered} {left} {now} {t = t} {u} x d offset count z n told bytes own at many read is =
    let At : ℤ → Type 0 = λ y. ReadFrom called entered left now t d y n bytes u in
    let Many : ℕ → Type 0 = λ m. ReadFrom called entered left now t d (pos offset) m bytes u in
    read_exactly x d offset count told bytes own (subst Many many (subst At at read)) (is ∙ ap (λ m. take m bytes) many)

-- nothing, past the largest position
pub past_behind : {S : Type 0} (called : S → ℕ → ℕ → Call → Outcome → S → Type 0) (entered : S → ℕ → ℕ → Result ℕ EnterRefusal → S → Type 0)
    (left : S → Leaving → S → Type 0) (now : ℕ) (k : Known) (s : S) (x : Reach) (offset count : ℕ) (told : Vec ℕ)
    → 2147483647 < offset → told.items ≡ []
    → ToldBehind called entered left now x (ReadAt offset count) k s (answer_of.Bytes told) s
past_behind called entered left now k s x offset count told past none =
    record { log = []; leads = refl; told = inr (past, none, refl); loses = tt }

-- changes were made of a node, and then it was looked at
pub set_behind : {S : Type 0} {called : S → ℕ → ℕ → Call → Outcome → S → Type 0} {entered : S → ℕ → ℕ → Result ℕ EnterRefusal → S → Type 0}
    {left : S → Leaving → S → Type 0} {now : ℕ}
    {s t : S} (u : S) (x : Reach) (k : Known) (changes : Changes) (path : PathFrom) → IsAt x.own [] path
    → TalkedBy called entered left now s (changes_done path (in_order changes)) t → (r : Result Attributes Refused)
    → IfOk r (λ (was : Attributes). ToldBehind called entered left now x Node k t (answer_of.Attributes (told_of was)) u)
    → IfOk r (λ (was : Attributes). SetBehind called entered left now x changes k s (told_of was) u)
set_behind u x k changes path at made (Err refused) seen = tt
set_behind {t = t} u x k changes path at made (Ok was) seen = record { path = path; between = t; at = at; made = made; seen = seen }

-- behind a look that told what they are of
pub changed_behind : {S : Type 0} {called : S → ℕ → ℕ → Call → Outcome → S → Type 0}
    {entered : S → ℕ → ℕ → Result ℕ EnterRefusal → S → Type 0}
    {left : S → Leaving → S → Type 0} {now : ℕ}
    {k : Known} {s t u : S} {x : Reach} (wanted : Wanted) (was : Attributes) (changes : Changes) (told : Told)
    → changes_wanted wanted was ≡ Ok changes
    → ToldBehind called entered left now x Node k s (answer_of.Attributes (told_of was)) t
    → SetBehind called entered left now x changes k t told u
    → ToldBehind called entered left now x (Changed wanted) k s (answer_of.Attributes told) u
changed_behind {called = called} {entered} {left} {now} {k} {s} {t} {u} {x} wanted was changes told wants first set =
    let made = set.made.talked in record {
      log = set.seen.log ++ (made.log ++ first.log);
      leads = joined (MayHear called entered left now) s set.between u (made.log ++ first.log) set.seen.log
          (joined (MayHear called entered left now) s t set.between first.log made.log first.leads made.leads) set.seen.leads;
      told = record {
        was = was;
        changes = changes;
        path = set.path;
        first = first.log;
        made = made.log;
        last = set.seen.log;
        all = refl;
        looked = first.told;
        wants = wants;
        at = set.at;
        done = set.made.exact;
        seen = set.seen.told;
      };
      loses = loses_on k (made.log ++ first.log) set.seen.log
          (loses_on k first.log made.log first.loses (quiet_loses k made.log made.quiet)) set.seen.loses;
    }

-- a refusal may be answered behind anything
refused_so : (x : Reach) (about : Telling) (e : Refused) (log : List Exchange) → IsToldAs x about (answer_of.Refused e) log
refused_so x (Name name) e log = tt
refused_so x (Made name making) e log = tt
refused_so x about e log = tt

pub refused_behind : {S : Type 0} {called : S → ℕ → ℕ → Call → Outcome → S → Type 0}
    {entered : S → ℕ → ℕ → Result ℕ EnterRefusal → S → Type 0} {left : S → Leaving → S → Type 0} {now : ℕ} {k : Known}
    {s t : S} (x : Reach) (about : Telling) (e : Refused) → Talked called entered left now s t
    → ToldBehind called entered left now x about k s (answer_of.Refused e) t
refused_behind {k = k} x about e talked = record {
  log = talked.log;
  leads = talked.leads;
  told = refused_so x about e talked.log;
  loses = quiet_loses k talked.log talked.quiet;
}

unknown_so : (x : Reach) (about : Telling) (log : List Exchange) → IsToldAs x about answer_of.Unknown log
unknown_so x (Name name) log = tt
unknown_so x (Made name making) log = tt
unknown_so x about log = tt

pub unknown_behind : {S : Type 0} {called : S → ℕ → ℕ → Call → Outcome → S → Type 0}
    {entered : S → ℕ → ℕ → Result ℕ EnterRefusal → S → Type 0} {left : S → Leaving → S → Type 0} {now : ℕ} {k : Known}
    {s t : S} (x : Reach) (about : Telling) → Talked called entered left now s t
    → ToldBehind called entered left now x about k s answer_of.Unknown t
unknown_behind {k = k} x about talked = record {
  log = talked.log;
  leads = talked.leads;
  told = unknown_so x about talked.log;
  loses = quiet_loses k talked.log talked.quiet;
}

-- ---- what is said

pub said_behind : {S : Type 0} {called : S → ℕ → ℕ → Call → Outcome → S → Type 0} {entered : S → ℕ → ℕ → Result ℕ EnterRefusal → S → Type 0}
    {left : S → Leaving → S → Type 0} {now : ℕ} {k : Known} {s t : S} {x : Reach} {about : Telling} {a : FuseAnswer}
    → ToldBehind called entered left now x about k s a t
    → AskedFor (MayHear called entered left now) x about k s (said.Plain a) t
said_behind b = (b.log, b.leads, b.told, b.loses)

-- where nothing is told of the last exchange
pub plainly : {S : Type 0} {called : S → ℕ → ℕ → Call → Outcome → S → Type 0} {entered : S → ℕ → ℕ → Result ℕ EnterRefusal → S → Type 0}
    {left : S → Leaving → S → Type 0} {now : ℕ} {k : Known} {s t : S} (x : Reach) (a : FuseAnswer) → Talked called entered left now s t
    → AskedFor (MayHear called entered left now) x Other k s (said.Plain a) t
plainly {k = k} x a talked = (talked.log, talked.leads, tt, quiet_loses k talked.log talked.quiet)

never : true ≡ false → ⊥
never e = cc

-- what is told of a node
pub told_same : {S : Type 0} {called : S → ℕ → ℕ → Call → Outcome → S → Type 0} {entered : S → ℕ → ℕ → Result ℕ EnterRefusal → S → Type 0}
    {left : S → Leaving → S → Type 0} {now : ℕ} {k : Known} {s t : S} {x : Reach} {about : Telling} {told : Told} (a : FuseAnswer)
    → a ≡ answer_of.Attributes told
    → ToldBehind called entered left now x about k s (answer_of.Attributes told) t → ToldBehind called entered left now x about k s a t
told_same {called = called} {entered} {left} {now} {k} {s} {t} {x} {about} a is b =
    let P : FuseAnswer → Type 0 = λ y. ToldBehind called entered left now x about k s y t in subst P (sym is) b

pub given_open : {S : Type 0} (called : S → ℕ → ℕ → Call → Outcome → S → Type 0) (entered : S → ℕ → ℕ → Result ℕ EnterRefusal → S → Type 0)
    (left : S → Leaving → S → Type 0) (now : ℕ) (s t : S) (x : Reach) (k : Known) (descriptor : Descriptor) → x.descriptor ≡ Some descriptor
    → (r : Result Attributes Refused)
    → IfOk r (λ (was : Attributes). x.descriptor ≡ Some descriptor
    → ToldBehind called entered left now x Node k s (answer_of.Attributes (told_of was)) t)
    → IfOk r (λ (was : Attributes). ToldBehind called entered left now x Node k s (answer_of.Attributes (told_of was)) t)
given_open called entered left now s t x k descriptor has (Err refused) b = tt
given_open called entered left now s t x k descriptor has (Ok was) b = b has

-- a request that tells nothing of it
pub tells_nothing : (now : ℕ) (owner : Owner) (r : Request) → tells r ≡ false → telling_of now owner r ≡ Other
tells_nothing now owner (request.Lookup name) none = absurd (never none)
tells_nothing now owner (request.Getattr flags handle) none = absurd (never none)
tells_nothing now owner (request.Setattr valid handle size lock_owner atime mtime ctime mode uid gid) none = absurd (never none)
tells_nothing now owner request.Readlink none = absurd (never none)
tells_nothing now owner (request.Symlink name target) none = absurd (never none)
tells_nothing now owner (request.Mknod mode device umask name) none = absurd (never none)
tells_nothing now owner (request.Mkdir mode umask name) none = absurd (never none)
tells_nothing now owner (request.Unlink name) none = absurd (never none)
tells_nothing now owner (request.Rmdir name) none = absurd (never none)
tells_nothing now owner (request.Rename new_directory old_name new_name) none = absurd (never none)
tells_nothing now owner (request.Rename2 new_directory flags old_name new_name) none = absurd (never none)
tells_nothing now owner (request.Link file name) none = absurd (never none)
tells_nothing now owner (request.Create flags mode umask open_flags name) none = absurd (never none)
tells_nothing now owner request.Statfs none = absurd (never none)
tells_nothing now owner (request.Read span) none = absurd (never none)
tells_nothing now owner (request.Write handle offset write_flags lock_owner flags bytes) none = absurd (never none)
tells_nothing now owner r none = refl

pub sync_tells_nothing : (now : ℕ) (owner : Owner) (r : Request) → is_sync r ≡ true → telling_of now owner r ≡ Other
sync_tells_nothing now owner (request.Fsync handle flags) sync = refl
sync_tells_nothing now owner (request.Fsyncdir handle flags) sync = refl
sync_tells_nothing now owner r sync = absurd (never (sym sync))

pub as_other : {S : Type 0} (may : S → Ask → Heard → S → Type 0) (x : Reach) (k : Known) (s : S) (it : Said) (t : S) (about : Telling) → about ≡ Other
    → AskedFor may x Other k s it t → AskedFor may x about k s it t
as_other may x k s it t about is asked =
    let P : Telling → Type 0 = λ a. AskedFor may x a k s it t in subst P (sym is) asked

-- a LOOKUP's name
pub as_lookup : {S : Type 0} (may : S → Ask → Heard → S → Type 0) (x : Reach) (k : Known) (s : S) (it : Said) (t : S) (at : ℕ)
    (owner : Owner) (r : Request) (name : Bor (List ℕ)) → r ≡ request.Lookup name → AskedFor may x (Name name.now) k s it t
    → AskedFor may x (telling_of at owner r) k s it t
as_lookup may x k s it t at owner r name is asked =
    let P : Request → Type 0 = λ q. AskedFor may x (telling_of at owner q) k s it t in subst P (sym is) asked

-- a name was looked for, and leads to nothing
pub nothing_there : {S : Type 0} {called : S → ℕ → ℕ → Call → Outcome → S → Type 0}
    {entered : S → ℕ → ℕ → Result ℕ EnterRefusal → S → Type 0} {left : S → Leaving → S → Type 0} {now : ℕ} {k : Known}
    {s t : S} (x : Reach) (name : List ℕ) (path : PathFrom) → IsAt x.own name path
    → LookedAt called entered left now s path None t → AskedFor (MayHear called entered left now) x (Name name) k s said.Missing t
nothing_there {k = k} x name path at looked = (
  log_of looked,
  leads_of looked,
  inl (record { session = looked.session; path = path; at = at; ends = (refl, refl) }, alone _ looked.first.exact),
  loses_of k looked refl,
)

-- nothing has so long a name
pub too_long : {S : Type 0} (called : S → ℕ → ℕ → Call → Outcome → S → Type 0) (entered : S → ℕ → ℕ → Result ℕ EnterRefusal → S → Type 0)
    (left : S → Leaving → S → Type 0) (now : ℕ) (k : Known) (s : S) (x : Reach) (name : List ℕ) → 60 < length name
    → AskedFor (MayHear called entered left now) x (Name name) k s said.Missing s
too_long called entered left now k s x name long = ([], refl, inr (long, refl), tt)

-- a sync was asked for, and is done
pub synced : {S : Type 0} {called : S → ℕ → ℕ → Call → Outcome → S → Type 0} {entered : S → ℕ → ℕ → Result ℕ EnterRefusal → S → Type 0}
    {left : S → Leaving → S → Type 0} {now : ℕ} {k : Known} {s t : S} (x : Reach) (h : Heard)
    → TalkedTo called entered left now s call.Sync h t → IsDone h
    → AskedFor (MayHear called entered left now) x Other k s said.Synced t
synced {k = k} x h talked done =
    (log_of talked, leads_of talked, ((talked.session, refl, done), alone _ talked.first.exact), loses_of k talked refl)
