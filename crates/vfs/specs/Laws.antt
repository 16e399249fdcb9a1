-- What a server over a cache keeps.
use Rattle.std.specs.Prelude.{◌≡◌, ◌≢◌, ℕ, List, Bool, IsTrue, true, false}
use Rattle.errno.specs.declared.Errno.TheVariants.{EIO}
use Rattle.layout.specs.declared.Geometry.{Geometry}
use Rattle.message.specs.declared.Incoming.{Incoming}
use Rattle.message.specs.declared.Incoming.TheVariants.{Flush, End}
use Rattle.tree.specs.declared.Who.{Who}
use Rattle.tree.specs.declared.Call.{Call}
use Rattle.tree.specs.declared.Call.TheVariants.{Dup}
use Rattle.tree.specs.Answers.{Answer, refused}
use Rattle.volume.specs.Reading.{Disk}
use Rattle.block_store.specs.declared.Cut.{Cut as Why}
use Rattle.records.specs.Marks.{Mark}
use Rattle.records.specs.Legal.{is_sync, is_success}
use Rattle.records.specs.ServerCall.{Replied}
use Rattle.records.specs.Unmount as legal
use Rattle.reissue.specs.Agrees.{Agrees}
use Rattle.flusher.specs.Flushing.{WritesInRuns}
use Rattle.cache.specs.Calls.{AbstractCache, HandsOver, IsLive, IsWhyCut}
use Rattle.cache.specs.Edits.{AllClean}
use Rattle.cache.specs.Looking.{IsSettled, Looks}
use Rattle.cached_blocks.specs.World.{Leads, Sees}
use Rattle.descriptors.specs.Files.{Files, is_busy}
use Rattle.client_calls.specs.Calls.{DoesCall}
use Rattle.file_server.specs.Over.{AbsorbsOver, CallSpecification, outcome_of}
use Rattle.vfs.specs.Serving.{LooksOver, MayServe, Spends, server_of}
use Rattle.vfs.specs.Outcomes.{stopped}
use Rattle.vfs.specs.UnmountingLaws.{UnmountsOver}

-- a dup leaves it as it is, where no Flush is wanted
abbrev pub StaysStill : {B : Type 0} → Call → Bool → B → B → Type 0
StaysStill call wanted a b = (fd : ℕ) → call ≡ Dup fd → wanted ≡ false → b ≡ a

-- from each record that agrees with what is pending, writes are begun in runs
abbrev pub BeginsRuns : AbstractCache → AbstractCache → Type 0
BeginsRuns a b = (marks : List Mark) → Agrees a.table marks → WritesInRuns 16 a b

-- a call that is cut off, or answered EIO, where it begins
abbrev pub StoppedKeeps : (B : Type 0) → (B → AbstractCache) → Type 0
StoppedKeeps B caching =
    (g : Geometry) (a : B) (n : ℕ) (w : Bool) (f : Files) (who : Who) (now : ℕ) (call : Call) (why : Why) → MayServe g (caching a) → IsWhyCut (caching a) why
    → CallSpecification (server_of g (caching a) n w f) (server_of g (caching a) n w f) (caching a).truth (caching a).truth who now call (outcome_of (stopped why))

-- a call that is cut off, or answered EIO, on its way: whatever open files it leaves
abbrev pub CutKeeps : (B : Type 0) → (B → AbstractCache) → Type 0
CutKeeps B caching =
    (g : Geometry) (a b : B) (n : ℕ) (w u : Bool) (f h : Files) (who : Who) (now : ℕ) (call : Call) (why : Why) → MayServe g (caching a)
    → IsLive (caching a) → StaysStill call w a b → Leads (caching a) (caching b) → LooksOver g who call f (caching a) (caching b)
    → IsWhyCut (caching b) why
    → CallSpecification (server_of g (caching a) n w f) (server_of g (caching b) n u h) (caching a).truth (caching b).truth who now call (outcome_of (stopped why))

-- a call that is answered: it does to what would be read back what the tree's call does
abbrev pub AnsweredKeeps : (B : Type 0) → (B → AbstractCache) → Type 0
AnsweredKeeps B caching =
    (g : Geometry) (a b : B) (n : ℕ) (w : Bool) (f h : Files) (who : Who) (now : ℕ) (call : Call) (answer : Answer) → MayServe g (caching a)
    → StaysStill call w a b → Leads (caching a) (caching b) → IsLive (caching b) → answer ≢ refused EIO
    → (IsTrue (is_sync call) → IsTrue (is_success answer) → IsSettled (caching b))
    → LooksOver g who call f (caching a) (caching b)
    → ((d e : Disk) → Sees (caching a) (caching b) d e → DoesCall g who now call answer f h d e)
    → CallSpecification (server_of g (caching a) n w f) (server_of g (caching b) n false h) (caching a).truth (caching b).truth who now call (Replied answer)

-- what a call spends
abbrev pub CallSpends : (B : Type 0) → (B → AbstractCache) → Type 0
CallSpends B caching = (a b : B) → Leads (caching a) (caching b) → Spends 0 (caching a) (caching b)

-- a message that is handed over
abbrev pub HandedKeeps : (B : Type 0) → (B → AbstractCache) → Type 0
HandedKeeps B caching =
    (g : Geometry) (a b : B) (n : ℕ) (w u : Bool) (f : Files) (m : Incoming) → MayServe g (caching a) → HandsOver m (caching a) (caching b)
    → (m ≢ End → u ≡ false) → (m ≡ Flush → BeginsRuns (caching a) (caching b))
    → Looks (caching a) (caching b) → AbsorbsOver (server_of g (caching a) n w f) (server_of g (caching b) n u f) (caching a).truth (caching b).truth m

-- what it spends
abbrev pub HandedSpends : (B : Type 0) → (B → AbstractCache) → Type 0
HandedSpends B caching = (m : Incoming) (a b : B) → HandsOver m (caching a) (caching b) → Spends 1 (caching a) (caching b)

-- an unmount where a file is open
abbrev pub BusyKeeps : (B : Type 0) → (B → AbstractCache) → Type 0
BusyKeeps B caching =
    (g : Geometry) (a : B) (n : ℕ) (w : Bool) (f : Files) → MayServe g (caching a) → IsLive (caching a) → is_busy f ≡ true
    → ((d e : Disk) → Sees (caching a) (caching a) d e → e ≡ d)
    → UnmountsOver (server_of g (caching a) n w f) (server_of g (caching a) n w f) (caching a).truth (caching a).truth legal.Busy

-- an unmount that is done: what would be read back stays as it was
abbrev pub UnmountedKeeps : (B : Type 0) → (B → AbstractCache) → Type 0
UnmountedKeeps B caching =
    (g : Geometry) (a b : B) (n : ℕ) (w u : Bool) (f : Files) → MayServe g (caching a) → IsLive (caching a) → is_busy f ≡ false
    → Leads (caching a) (caching b)
    → ((d e : Disk) → Sees (caching a) (caching b) d e → e ≡ d) → IsLive (caching b) → AllClean (caching b).held
    → Looks (caching a) (caching b) → UnmountsOver (server_of g (caching a) n w f) (server_of g (caching b) n u f) (caching a).truth (caching b).truth legal.Unmounted
