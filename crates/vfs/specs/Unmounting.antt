-- What unmounting a server over a cache promises, and why one is refused.
use Rattle.std.specs.Prelude.{ℕ, Bool, Result, Ok, Err}
use Rattle.records.specs.Unmount.{Unmounting}
use Rattle.records.specs.Unmount as legal
use Rattle.cache.specs.Calls.{AbstractCache}
use Rattle.block_store.specs.declared.Cut.{Cut}
use Rattle.block_store.specs.declared.Cut.TheVariants as cut
use Rattle.vfs.specs.UnmountingLaws.{UnmountsOver}
use Rattle.vfs.specs.declared.server.Server.{Server}
use Rattle.vfs.specs.declared.unmounting.UnmountRefusal.{UnmountRefusal}
use Rattle.vfs.specs.declared.unmounting.UnmountRefusal.TheVariants.{LinkEnded, Eio, Busy}
use Rattle.vfs.specs.Server.{serving}

-- the numbers of the refusals to unmount
abbrev pub unmount_refusal_number : UnmountRefusal → ℕ
unmount_refusal_number LinkEnded = 1
unmount_refusal_number Eio = 2
unmount_refusal_number Busy = 3

-- why it is refused where calls are cut
abbrev pub refused_by : Cut → UnmountRefusal
refused_by cut.Eio = Eio
refused_by cut.LinkEnded = LinkEnded

-- the refusal in the words of the definitions
abbrev pub in_words : UnmountRefusal → Unmounting
in_words LinkEnded = legal.LinkEnded
in_words Eio = legal.Eio
in_words Busy = legal.Busy

-- what unmounting gave back, in these words
abbrev pub unmounting_as : Result (Unit {0}) UnmountRefusal → Unmounting
unmounting_as (Ok u) = legal.Unmounted
unmounting_as (Err refusal) = in_words refusal

-- unmounting a server over the blocks of a cache
abbrev pub Unmounts : {B : Type 0} → (B → AbstractCache) → (B → ℕ) → (B → Bool) → Server B → Server B → Unmounting → Type 0
Unmounts caching frame_count wanted old new result =
    UnmountsOver (serving caching frame_count wanted old) (serving caching frame_count wanted new) (caching old.blocks).truth (caching new.blocks).truth result
