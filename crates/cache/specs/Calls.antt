-- What each call of a cache does at its link, to the disk, and to what would be read back.
use Rattle.std.specs.Prelude.{◌≡◌, ◌⊎◌, IsTrue, ℕ, ◌*◌, ◌+◌, ◌^◌, ◌<◌, ◌≤◌, List, [], ◌∷◌, ◌++◌, length, Bool, true, false, ◌||◌, zero, suc, Option, Some, None, Result, Ok, Err, if◌then◌else◌}
use Rattle.std.specs.List.{list_any}
use Rattle.message.specs.declared.Incoming.{Incoming}
use Rattle.message.specs.declared.Incoming.TheVariants.{End}
use Rattle.message.specs.declared.Incoming.TheVariants as incoming
use Rattle.records.specs.Marks.{Mark}
use Rattle.records.specs.Disk.{Contents, HasTrueReplies}
use Rattle.records.specs.Told.{Told, Received, grown, received, took_end, took_nothing}
use Rattle.records.specs.Acts.{Act, Absorbed, told_of, has_absorbed}
use Rattle.records.specs.Opening.{Opening}
use Rattle.records.specs.Area.{Area}
use Rattle.reissue.specs.declared.link.Link.{Ghosts as LinkWords}
use Rattle.reissue.specs.declared.table.Table.{Table}
use Rattle.reissue.specs.Moves.{DiskState, state_after, put, IsBusy}
use Rattle.reissue.specs.Entries.{pending_of, meets, AllIn}
use Rattle.reissue.specs.Agrees.{Agrees}
use Rattle.reissue.specs.Posts.{HasRoom, OnlyPosts}
use Rattle.reissue.specs.Rules.{KeepsRulesBy}
use Rattle.reissue.specs.Calls.{Truth}
use Rattle.reissue.specs.Transfers.{table_of, link_of, with_link}
use Rattle.cache.specs.declared.slot.Slot.{Slot}
use Rattle.cache.specs.declared.state.State.TheVariants.{Dirty}
use Rattle.cache.specs.declared.frame.Frame.{Frame}
use Rattle.reissue.specs.declared.transfers.Transfers.{Transfers}
use Rattle.cache.specs.declared.shape.Shape.{Shape}
use Rattle.cache.specs.declared.cache.Cache.{Cache}
use Rattle.block_store.specs.declared.Cut.{Cut}
use Rattle.block_store.specs.declared.Cut.TheVariants.{Eio, LinkEnded}
use Rattle.cache.specs.Slots.{held, is_clean, OvertakesNone}
use Rattle.cache.specs.Edits.{IsAt, NoneDirty}
use Rattle.cache.specs.Frames.{Tied, IsWritable, AllInside, CacheAgrees, view}

-- What is said of a cache.
pub record AbstractCache : Type 1 where
  -- where its writes lie, in the range of the media that its requests name, and the bytes of a block
  pub area : Area
  pub size : ℕ
  -- the slot of each block that has one
  pub held : ℕ → Option Slot
  -- its pending requests
  pub table : Table
  -- what its link was told and gave, what it guarantees, and how many posts and complaints it can note and messages it can give
  pub told : List Told
  pub truth : Truth
  pub room : ℕ
  pub budget : ℕ
  -- a take gave End
  pub ended : Bool

-- where a volume of this shape may be changed: behind its first two blocks
abbrev pub area_in : Shape → Area
area_in shape = record { minor = shape.minor; from = 2 * shape.block_size; to = shape.zones * shape.block_size }

-- a cache with these parts
abbrev pub caching_of : {L : Type 0} → LinkWords L → Transfers L → Shape → List Slot → Bool → AbstractCache
caching_of words transfers shape items ended =
    let link = link_of transfers in
    record {
      area = area_in shape;
      size = shape.block_size;
      held = held items;
      table = table_of transfers;
      told = words.history link;
      truth = words.truth link;
      room = words.room link;
      budget = words.budget_left link;
      ended = ended;
    }

-- a cache, by what its link's words say of its link
abbrev pub caching : {L : Type 0} → LinkWords L → Cache L → AbstractCache
caching words cache = caching_of words cache.transfers cache.shape cache.slots.items.items cache.ended

-- the slot of each block that has one
abbrev pub held_by : {L : Type 0} → Cache L → ℕ → Option Slot
held_by cache = held cache.slots.items.items

-- how many frames it may have
abbrev pub frame_count : {L : Type 0} → Cache L → ℕ
frame_count cache = cache.slots.uses.limit

-- its link went on
abbrev pub LinkGoesOn : {L : Type 0} → LinkWords L → Cache L → Cache L → Type 0
LinkGoesOn words old new = words.goes_on (link_of old.transfers) (link_of new.transfers)

-- its requests are for its area, its slots are tied to them, those that aren't clean are of blocks in the area, and while the link hasn't
-- ended it has room and ids are left
pub record IsReady (c : AbstractCache) : Type 0 where
  pub minors : AllIn c.area c.table.pending
  pub tied : Tied c.size c.held (pending_of c.table.pending)
  pub inside : AllInside c.area c.size c.held
  pub room : c.ended ≡ false → HasRoom c.table c.room
  pub ids : c.ended ≡ false → c.table.ids + c.budget + 16 < 2 ^ 60 + length c.table.pending

-- each block of so many may be changed, but not the first two
abbrev pub AreWritable : ℕ → AbstractCache → Type 0
AreWritable count c = (block : ℕ) → 2 ≤ block → block < count → IsWritable c.area c.size block

-- the record after a message that is handed over first, if there is one
abbrev pub after_message : Option Incoming → List Mark → List Mark
after_message None marks = marks
after_message (Some message) marks = received message marks

-- how many messages were handed over
abbrev pub message_count : Option Incoming → ℕ
message_count None = 0
message_count (Some message) = 1

-- the acts of a call, with the message that is handed over first, if there is one
abbrev pub with_handed : Option Incoming → List Act → List Act
with_handed None acts = acts
with_handed (Some message) acts = acts ++ Absorbed message ∷ []

-- how many messages may still come: one more is asked for than the link gives, since it may say that it ended
abbrev pub messages_left : AbstractCache → ℕ
messages_left c = if c.ended then 0 else c.budget + 1

-- A call that leads from one state of a cache to the next, and what it was told at its link. From each record that agrees with the pending
-- requests it leads to one that agrees, by acts that keep the rules; over true replies the disk before and after are related so.
pub record Runs (message : Option Incoming) (old new : AbstractCache) (Related : DiskState → DiskState → Type 0) : Type 0 where
  pub ready : IsReady new
  pub told : List Told
  pub history : new.told ≡ told ++ old.told
  -- what was done, whatever the record: no further message is handed over
  pub acts : List Act
  pub done : new.told ≡ told_of acts ++ old.told
  pub none_absorbed : has_absorbed acts ≡ false
  pub area : new.area ≡ old.area
  pub size : new.size ≡ old.size
  pub ended : old.ended ≡ true → new.ended ≡ true
  -- messages are taken from those that are left; each one, and one that is handed over, spends an id at most, also once the link has ended
  pub left : messages_left new ≤ messages_left old
  pub ids : new.table.ids + messages_left new + length old.table.pending
      ≤ old.table.ids + messages_left old + length new.table.pending + message_count message
  pub agrees : (marks : List Mark) → Agrees old.table marks → Agrees new.table (grown told (after_message message marks))
  pub ends : old.ended ≡ took_end old.told → new.ended ≡ took_end new.told
  pub related : (image : Contents) (marks : List Mark) → Agrees old.table marks
      → HasTrueReplies image (grown told (after_message message marks))
      → Related (state_after image marks) (state_after image (grown told (after_message message marks)))
  pub truth : (opening : Opening) (marks : List Mark) → Agrees old.table marks → opening.minor ≡ old.area.minor
      → old.truth opening (after_message message marks) → new.truth opening (grown told (after_message message marks))
  pub rules : (marks : List Mark) → Agrees old.table marks
      → KeepsRulesBy (with_handed message acts) old.area old.table new.table old.told new.told marks (grown told (after_message message marks))

-- a call on a cache, which relates the disk before and after so
abbrev pub Does : {L : Type 0} → LinkWords L → Cache L → Cache L → (AbstractCache → AbstractCache → DiskState → DiskState → Type 0) → Type 0
Does words old new Related = Runs None (caching words old) (caching words new) (Related (caching words old) (caching words new))

-- slots and the disk go on agreeing, what would be read back stays, and no block is overtaken: none is changed while its write is under way
pub record Serves (old new : AbstractCache) (w v : DiskState) : Type 0 where
  pub agrees : CacheAgrees old.size old.held w → CacheAgrees new.size new.held v
  pub same : CacheAgrees old.size old.held w → view new.size new.held v ≡ view old.size old.held w
  pub none_overtaken : OvertakesNone old.held new.held

-- a call that leaves what would be read back
abbrev pub Keeps : AbstractCache → AbstractCache → Type 0
Keeps old new = Runs None old new (λ w v. Serves old new w v)

-- nothing is pending, as a record has it
pub record IsIdle (c : AbstractCache) : Type 0 where
  pub none : c.table.pending ≡ []
  pub marks : List Mark
  pub agrees : Agrees c.table marks

-- A message that is handed over between two calls: no message is taken, no block is overtaken, and an End has no effect.
pub record HandsOver (message : Incoming) (old new : AbstractCache) : Type 0 where
  pub runs : Runs (Some message) old new (λ w v. Serves old new w v)
  pub none_taken : took_nothing (told_of runs.acts) ≡ true
  pub none_overtaken : OvertakesNone old.held new.held
  pub no_effect : message ≡ End → runs.acts ≡ []

-- slots and the disk go on agreeing, and of what would be read back the bytes of one block alone change, in this way
pub record Rewrites (block : ℕ) (change : (ℕ → ℕ) → ℕ → ℕ) (old new : AbstractCache) (w v : DiskState) : Type 0 where
  pub agrees : CacheAgrees old.size old.held w → CacheAgrees new.size new.held v
  pub changed : CacheAgrees old.size old.held w
      → view new.size new.held v ≡ put (view old.size old.held w) block (change (view old.size old.held w block))

-- a call that needed messages: where it was cut what would be read back stays
abbrev pub Blanks : {X : Type 0} → Result X Cut → ℕ → AbstractCache → AbstractCache → DiskState → DiskState → Type 0
Blanks (Ok frame) block old new w v = Rewrites block (λ row o. 0) old new w v
Blanks (Err cut) block old new w v = Serves old new w v

-- a call is cut for want of messages only where a take gave End, and else only where the device was given up
abbrev pub IsWhyCut : AbstractCache → Cut → Type 0
IsWhyCut c LinkEnded = c.ended ≡ true
IsWhyCut c Eio = (c.ended ≡ false) × (c.table.given_up ≡ true)

-- messages may come: no take gave End, and the device isn't given up
pub record IsLive (c : AbstractCache) : Type 0 where
  pub not_ended : c.ended ≡ false
  pub not_given_up : c.table.given_up ≡ false

-- a frame of a cache: its block stands there
abbrev pub IsFrame : {L : Type 0} → Cache L → Frame → Type 0
IsFrame cache frame = IsAt cache.slots.items.items frame.at frame.block

-- the frame of a block, or that it has none
abbrev pub IsFrameOf : {L : Type 0} → Cache L → Option Frame → ℕ → Type 0
IsFrameOf cache None block = held_by cache block ≡ None
IsFrameOf cache (Some frame) block = (frame.block ≡ block) × IsFrame cache frame

-- a clean slot is given up, another one stays
abbrev pub unless_clean : Option Slot → Option Slot
unless_clean None = None
unless_clean (Some s) = if is_clean s.state then None else Some s

-- the slots after a block was forgotten
abbrev pub forgotten : ℕ → (ℕ → Option Slot) → ℕ → Option Slot
forgotten block held = put held block (unless_clean (held block))

-- a cache just made: no frame is in use, and the link hasn't ended
pub record IsMade (area : Area) (size : ℕ) (c : AbstractCache) : Type 0 where
  pub area_is : c.area ≡ area
  pub size_is : c.size ≡ size
  pub none : (b : ℕ) → c.held b ≡ None
  pub not_ended : c.ended ≡ false

-- the link was told nothing but posts: no message was taken
pub record PostsAlone (old new : AbstractCache) : Type 0 where
  pub posts : List Told
  pub history : new.told ≡ posts ++ old.told
  pub only_posts : OnlyPosts posts

-- a dirty block's write is refused: sixteen requests are pending, or a byte of it is
abbrev pub IsRefusing : AbstractCache → Type 0
IsRefusing c = (length c.table.pending ≡ 16)
    ⊎ ((b : ℕ) × (s : Slot) × (c.held b ≡ Some s) × (s.state ≡ Dirty) × IsTrue (list_any (meets (b * c.size) c.size) c.table.pending))

-- no further write can be begun before a message is taken: no frame is dirty, or the write is refused
pub record IsStuck (c : AbstractCache) : Type 0 where
  pub why : NoneDirty c.held ⊎ (IsBusy (pending_of c.table.pending) × IsRefusing c)

-- a cache over another link
abbrev pub with_cache_link : {L : Type 0} → Cache L → L → Cache L
with_cache_link cache link = record cache { transfers = with_link cache.transfers link }

-- how many flushes came
abbrev pub flushes_in : List Told → ℕ
flushes_in [] = 0
flushes_in (Received incoming.Flush ∷ told) = flushes_in told + 1
flushes_in (_ ∷ told) = flushes_in told

-- whether these are some
abbrev pub some_of : ℕ → Bool
some_of zero = false
some_of (suc n) = true

-- A flush is wanted where one was wanted before, or has come since.
pub record FlushFollows (was : Bool) (before : List Told) (is : Bool) (after : List Told) : Type 0 where
  pub since : ℕ
  pub counted : flushes_in after ≡ since + flushes_in before
  pub wanted : is ≡ (was || some_of since)

-- of a cache
abbrev pub WantsFlush : {L : Type 0} → LinkWords L → Cache L → Cache L → Type 0
WantsFlush words old new =
    FlushFollows old.flush (words.history (link_of old.transfers)) new.flush (words.history (link_of new.transfers))

-- a cache for which no flush is wanted
abbrev pub without_flush : {L : Type 0} → Cache L → Cache L
without_flush cache = record cache { flush = false }
