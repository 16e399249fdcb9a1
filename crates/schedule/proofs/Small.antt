-- A small volume with a root alone, and a call on it: what the worked runs are made of.
use Rattle.std.specs.Prelude.{List, ◌≡◌, ℕ, [], ◌∷◌, true, false, codes, Some, None, Ok, refl, replicate}
use Rattle.layout.specs.declared.Geometry.{Geometry}
use Rattle.message.specs.declared.BlockReply.{BlockReply}
use Rattle.message.specs.declared.BlockRequest.{BlockRequest}
use Rattle.message.specs.declared.Kind.TheVariants.{Read}
use Rattle.tree.specs.declared.Who.{Who}
use Rattle.tree.specs.declared.Call.{Call}
use Rattle.tree.specs.declared.Call.TheVariants.{Stat}
use Rattle.tree.specs.declared.Start.TheVariants.{Root}
use Rattle.tree.specs.Answers.{Answer, node_is}
use Rattle.tree.specs.Effects.{reply_to}
use Rattle.tree.specs.Laws.{fresh_tree}
use Rattle.bdev.specs.DriverState.{DriverState}
use Rattle.reincarnate.specs.Watch.{driver}
use Rattle.schedule.specs.Calls.{Arrival}
use Rattle.records.specs.Marks.{Mark, Took, Issued}

-- 64 blocks of 1024 bytes with 32 inodes
abbrev pub small : Geometry
small = record { block_size = 1024; inodes = 32; zones = 64; inode_map_blocks = 1; zone_map_blocks = 1; first_zone = 6 }

-- user 0 of group 0, in this session
abbrev pub client : ℕ → Who
client session = record { session = session; uid = 0; gid = 0 }

-- `stat /`
abbrev pub stat_root : Call
stat_root = Stat (record { start = Root; bytes = record { ref_ptr = (0, 0); now = codes "/" } })

-- the call of session 0, which waits
abbrev pub first_call : List Arrival
first_call = (client 0, 100, stat_root) ∷ []

-- its root, made at 50
abbrev pub root_is : Answer
root_is = node_is (record { inode = 1; mode = 16877; links = 2; uid = 0; gid = 0; size = 128; atime = 50; mtime = 50; ctime = 50 })

-- that is what the tree answers
row_root_is : reply_to small (fresh_tree 50) (client 0) 100 stat_root ≡ root_is
row_root_is = refl

-- id 1: a read of the block of inode 1
abbrev pub inode_block : BlockRequest
inode_block = record { id = 1; kind = Read; minor = 0; position = 4096; count = 1024; bytes = [] }

-- it is issued to driver g
abbrev pub issued_to : ℕ → Mark
issued_to g = Issued inode_block (driver g)

-- driver g's good reply to it
abbrev pub answer_of : ℕ → BlockReply
answer_of g = record { from = driver g; id = 1; outcome = Ok 1024; bytes = [] }

-- the call of this session gets its reply
abbrev pub replied : ℕ → Mark
replied session = Took (client session) 100 stat_root root_is

-- a driver that took nothing
abbrev pub idle : DriverState
idle = record { ranges = Some (0, 128) ∷ []; last = 0; work = None; in_work = None; bad = 0; failed = false }

-- so many of them are handed in
abbrev pub supply : ℕ → List DriverState
supply n = replicate n idle

-- one that has done with id 1
abbrev pub done : DriverState
done = record idle { last = 1 }

-- one at work on id 1
abbrev pub working : DriverState
working = record idle { last = 1; work = Some (record { request = inode_block; moved = λ k. false; got = [] }) }

-- one that failed while it was
abbrev pub failed : DriverState
failed = record working { failed = true }
