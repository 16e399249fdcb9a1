-- How calls end.
use mathlib.Core.Logic.{inl, inr, ◌⊎◌}
use Rattle.std.proofs.Common.{◌≡◌, ◌≢◌, ℕ, [], Bool, true, false, refl, sym, ◌∙◌, ap, subst}
use Rattle.errno.specs.declared.Errno.TheVariants.{EIO}
use Rattle.layout.specs.declared.Geometry.{Geometry}
use Rattle.tree.specs.declared.Who.{Who}
use Rattle.tree.specs.declared.Call.{Call}
use Rattle.tree.specs.declared.Call.TheVariants.{Dup, Open, Close, Read, Write, Seek, Stat, Fstat, Link, Unlink, Mkdir, Rmdir, Rename, Chmod, Chown, Utime, Truncate, Readdir, Sync, Statfs, Symlink, Readlink, Lstat}
use Rattle.tree.specs.declared.Outcome.{Outcome as TreeOutcome}
use Rattle.tree.specs.Answers.{Answer, refused}
use Rattle.volume.specs.Reading.{Disk}
use Rattle.records.specs.Legal.{is_sync, is_success}
use Rattle.records.specs.ServerCall.{Replied}
use Rattle.records.specs.Area.{Area, area_of}
use Rattle.cache.specs.Calls.{AbstractCache, IsReady, IsLive, IsWhyCut}
use Rattle.cache.proofs.Runs.{same_left, ids_kept}
use Rattle.block_store.specs.declared.Cut.{Cut as Why}
use Rattle.block_store.specs.declared.Cut.TheVariants.{Eio, LinkEnded}
use Rattle.cached_blocks.specs.World.{Leads, Sees}
use Rattle.cache.specs.Looking.{IsSettled}
use Rattle.cache.proofs.Looking.{looks_none}
use Rattle.std.specs.Prelude.{IsTrue}
use Rattle.descriptors.specs.Files.{Files}
use Rattle.client_calls.specs.Calls.{DoesCall}
use Rattle.vfs.specs.Outcomes.{stopped}
use Rattle.file_server.specs.Over.{CallSpecification, outcome_of}
use Rattle.vfs.specs.Serving.{LooksOver, MayServe, server_of}
use Rattle.vfs.proofs.Keeping.{LooksThere, looks_there, calls_answered, calls_cut, calls_eio}

-- nothing happened
abbrev pub none : (a : AbstractCache) → IsReady a → Leads a a
none a r = record {
  ready = r;
  told = [];
  history = refl;
  acts = [];
  done = refl;
  none_absorbed = refl;
  area = refl;
  size = refl;
  ended = λ e. e;
  left = same_left _;
  ids = ids_kept _ _ _;
  agrees = λ marks k. k;
  ends = λ e. e;
  related = λ image marks k tr h. h;
  truth = λ opening marks k e was. was;
  rules = λ marks k. record { told = refl; grows = refl; keeps = tt; owes = refl };
}

-- it isn't both
pub false_true : (b : Bool) → b ≡ true → b ≡ false → ⊥
false_true b h k = cc

-- what leads from one cache to the other, and is nothing at all in a dup where no Flush is wanted
record CalmLeads (call : Call) (w : Bool) (a b : AbstractCache) : Type 0 where
  leads : Leads a b
  nothing : (fd : ℕ) → call ≡ Dup fd → w ≡ false → leads.acts ≡ []

-- a dup leaves the cache as it is, where no Flush is wanted
abbrev pub StaysCache : Call → Bool → AbstractCache → AbstractCache → Type 1
StaysCache call w a b = (fd : ℕ) → call ≡ Dup fd → w ≡ false → b ≡ a

-- a call is a dup, or none
is_a_dup : (c : Call) → ((fd : ℕ) × (c ≡ Dup fd)) ⊎ ((fd : ℕ) → c ≡ Dup fd → ⊥)
is_a_dup (Dup fd) = inl (fd, refl)
is_a_dup (Open path flags mode) = inr (λ fd' e. cc)
is_a_dup (Close fd) = inr (λ fd' e. cc)
is_a_dup (Read fd count) = inr (λ fd' e. cc)
is_a_dup (Write fd bytes) = inr (λ fd' e. cc)
is_a_dup (Seek fd whence offset) = inr (λ fd' e. cc)
is_a_dup (Stat path) = inr (λ fd' e. cc)
is_a_dup (Fstat fd) = inr (λ fd' e. cc)
is_a_dup (Link old new) = inr (λ fd' e. cc)
is_a_dup (Unlink path) = inr (λ fd' e. cc)
is_a_dup (Mkdir path mode) = inr (λ fd' e. cc)
is_a_dup (Rmdir path) = inr (λ fd' e. cc)
is_a_dup (Rename old new) = inr (λ fd' e. cc)
is_a_dup (Chmod path mode) = inr (λ fd' e. cc)
is_a_dup (Chown path uid gid) = inr (λ fd' e. cc)
is_a_dup (Utime path atime mtime) = inr (λ fd' e. cc)
is_a_dup (Truncate path size) = inr (λ fd' e. cc)
is_a_dup (Readdir fd) = inr (λ fd' e. cc)
is_a_dup Sync = inr (λ fd' e. cc)
is_a_dup Statfs = inr (λ fd' e. cc)
is_a_dup (Symlink target path) = inr (λ fd' e. cc)
is_a_dup (Readlink path) = inr (λ fd' e. cc)
is_a_dup (Lstat path) = inr (λ fd' e. cc)

calm_leads : (call : Call) (w : Bool) (a b : AbstractCache) → IsReady a → StaysCache call w a b → Leads a b → CalmLeads call w a b
calm_leads call w a b ready stays x = elim (is_a_dup call) [
  | inl d ↦ by d.0 d.1 w refl
  | inr other ↦ record { leads = x; nothing = λ fd e. absurd (other fd e) }
]
  where
    by : (fd : ℕ) → call ≡ Dup fd → (v : Bool) → w ≡ v → CalmLeads call w a b
    by fd is true e = record { leads = x; nothing = λ fd' same unwanted. absurd (false_true w e unwanted) }
    by fd is false e =
        let same : b ≡ a = stays fd is e in
        subst (λ (c : AbstractCache). CalmLeads call w a c) (sym same) (record { leads = none a ready; nothing = λ fd' is' unwanted. refl })

-- a server goes on
pub goes_on : (g : Geometry) (a b : AbstractCache) → MayServe g a → Leads a b → MayServe g b
goes_on g a b m x = record {
  geometry = m.geometry;
  ready = x.ready;
  size = x.size ∙ m.size;
  area = x.area ∙ m.area ∙ ap (λ (w : Area). area_of g w.minor) (sym x.area);
  ends = x.ends m.ends;
}

-- a call is cut off where it began
pub stopped_at_once : (g : Geometry) (a : AbstractCache) (n : ℕ) (w : Bool) (f : Files) → MayServe g a → (who : Who) (now : ℕ) (call : Call) (why : Why) (o : TreeOutcome)
    → o ≡ stopped why → IsWhyCut a why → CallSpecification (server_of g a n w f) (server_of g a n w f) a.truth a.truth who now call (outcome_of o)
stopped_at_once g a n w f may who now call why o e h =
    subst (λ (x : TreeOutcome). CallSpecification (server_of g a n w f) (server_of g a n w f) a.truth a.truth who now call (outcome_of x)) (sym e) (by why h)
  where
    by : (y : Why) → IsWhyCut a y → CallSpecification (server_of g a n w f) (server_of g a n w f) a.truth a.truth who now call (outcome_of (stopped y))
    by LinkEnded h = calls_cut g a a n n refl w w f f may.size may.geometry.sized may.area may.ends (none a may.ready) who now call
        (λ e. refl) (λ e. refl) (λ fd is unwanted. refl) (λ image tree marks k tr only. (looks_none a, refl, λ block is. is)) h
    by Eio h = calls_eio g a a n n refl w w f f may.size may.geometry.sized may.area may.ends (none a may.ready) who now call
        (λ e. refl) (λ e. refl) (λ fd is unwanted. refl) (λ image tree marks k tr only. (looks_none a, refl, λ block is. is)) h.0 h.1

-- a call is cut off on its way
pub stopped_later : (g : Geometry) (a b : AbstractCache) (n m : ℕ) → m ≡ n → (w u : Bool) (f h : Files) → MayServe g a → IsLive a → Leads a b
    → (who : Who) (now : ℕ) (call : Call) (why : Why) (o : TreeOutcome) → StaysCache call w a b
    → LooksOver g who call f a b → o ≡ stopped why → IsWhyCut b why → CallSpecification (server_of g a n w f) (server_of g b m u h) a.truth b.truth who now call (outcome_of o)
stopped_later g a b n m many w u f h may l leads who now call why o stays looks e over =
    subst (λ (y : TreeOutcome). CallSpecification (server_of g a n w f) (server_of g b m u h) a.truth b.truth who now call (outcome_of y)) (sym e) (by why over)
  where
    calm : CalmLeads call w a b
    calm = calm_leads call w a b may.ready stays leads

    there : LooksThere g a b n m many w u f h may.size may.geometry.sized may.area may.ends calm.leads who call
    there = looks_there g a b n m many w u f h may.size may.geometry.sized may.area may.ends calm.leads who call l.not_ended
        (λ marks k. sym k.holds.given_up ∙ l.not_given_up) looks

    by : (y : Why) → IsWhyCut b y → CallSpecification (server_of g a n w f) (server_of g b m u h) a.truth b.truth who now call (outcome_of (stopped y))
    by LinkEnded v = calls_cut g a b n m many w u f h may.size may.geometry.sized may.area may.ends calm.leads who now call
        (λ e. absurd (false_true a.ended e l.not_ended)) (λ e. absurd (false_true a.table.given_up e l.not_given_up)) calm.nothing there v
    by Eio v = calls_eio g a b n m many w u f h may.size may.geometry.sized may.area may.ends calm.leads who now call
        (λ e. absurd (false_true a.ended e l.not_ended)) (λ e. absurd (false_true a.table.given_up e l.not_given_up)) calm.nothing there v.0 v.1

-- a call is answered
pub ends_well : (g : Geometry) (a b : AbstractCache) (n m : ℕ) → m ≡ n → (w u : Bool) (f h : Files) → MayServe g a → Leads a b → IsLive b
    → (who : Who) (now : ℕ) (call : Call) (answer : Answer) → StaysCache call w a b → u ≡ false
    → answer ≢ refused EIO → (IsTrue (is_sync call) → IsTrue (is_success answer) → IsSettled b) → LooksOver g who call f a b
    → ((d e : Disk) → Sees a b d e → DoesCall g who now call answer f h d e)
    → CallSpecification (server_of g a n w f) (server_of g b m u h) a.truth b.truth who now call (Replied answer)
ends_well g a b n m many w u f h may leads l who now call answer stays done proper clean looks does =
    let calm = calm_leads call w a b may.ready stays leads in
    calls_answered g a b n m many w u f h may.size may.geometry.sized may.area may.ends calm.leads who now call answer
    calm.nothing done l.not_ended l.not_given_up proper clean looks does
