-- What a mount knows of nodes.
use Rattle.std.specs.Prelude.{ℕ, Bool, false, not, ◌&&◌, nat_lt, Option, Some, None, Result, Ok, Err, if◌then◌else◌}
use Rattle.std.specs.Borrow.{Bor}
use Rattle.std.specs.BTreeMap.{get}
use Rattle.std.specs.Option.{option_map, ok_or}
use Rattle.std.specs.Ordering.{nat_cmp}
use Rattle.talks.specs.Refusals.{then_of}
use Rattle.talks.specs.declared.refused.Refused.{Refused}
use Rattle.talks.specs.declared.refused.Refused.TheVariants.{Stale}
use Rattle.fuse_nodes.specs.Tables.{put}
use Rattle.fuse_nodes.specs.declared.node.Descriptor.{Descriptor}
use Rattle.fuse_nodes.specs.declared.node.NodeKind.{NodeKind}
use Rattle.fuse_nodes.specs.declared.node.NodeKind.TheVariants.{Directory}
use Rattle.fuse_nodes.specs.declared.node.Node.{Node}
use Rattle.fuse_nodes.specs.declared.nodes.Nodes.{Nodes}

-- What is known of a node: its inode and kind, whether its last name was taken from it, how often it was told and not forgotten, how many
-- handles it has, and its descriptor, if it has one.
pub record Facts : Type 0 where
  pub inode : ℕ
  pub kind : NodeKind
  pub gone : Bool
  pub lookups : ℕ
  pub opens : ℕ
  pub descriptor : Option Descriptor

-- what is known under each number, the number of the node of each inode that isn't gone or is open, and the number of the next node
pub record Known : Type 0 where
  pub nodes : ℕ → Option Facts
  pub numbers : ℕ → Option ℕ
  pub next : ℕ

abbrev pub facts_of : Node → Facts
facts_of node = record {
  inode = node.inode;
  kind = node.kind;
  gone = node.gone;
  lookups = node.lookups;
  opens = node.opens;
  descriptor = node.descriptor;
}

abbrev pub known_of : Nodes → Known
known_of nodes = record {
  nodes = λ id. option_map facts_of (get nat_cmp nodes.nodes id);
  numbers = λ inode. get nat_cmp nodes.numbers inode;
  next = nodes.next;
}

-- the root, as it is known at first
abbrev pub root : Facts
root = record { inode = 1; kind = Directory; gone = false; lookups = 1; opens = 0; descriptor = None }

abbrev pub at_first : Known
at_first = record { nodes = put (λ id. None) 1 (Some root); numbers = put (λ inode. None) 1 (Some 1); next = 2 }

-- the node of a number
abbrev pub found : (ℕ → Option Facts) → ℕ → Result Facts Refused
found nodes id = ok_or (nodes id) Stale

-- Its inode may be another file's now: its last name was taken from it, and it isn't open.
abbrev pub is_stale : Facts → Bool
is_stale facts = facts.gone && not (nat_lt 0 facts.opens)

-- the inode of a node, if it can't be another file's
abbrev pub inode_of : Facts → Result ℕ Refused
inode_of facts = if is_stale facts then Err Stale else Ok facts.inode

abbrev pub inode_at : (ℕ → Option Facts) → ℕ → Result ℕ Refused
inode_at nodes id = then_of (found nodes id) inode_of

-- what was found, as it is seen
abbrev pub seen : Result (Bor Node) Refused → Result Facts Refused
seen (Ok node) = Ok (facts_of node.now)
seen (Err refused) = Err refused
