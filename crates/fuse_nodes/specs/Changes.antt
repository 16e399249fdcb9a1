-- What becomes of nodes.
use Rattle.std.specs.Prelude.{◌≡◌, ◌||◌, ◌+◌, ◌-◌, ◌^◌, ◌==◌, min, ℕ, Bool, true, false, nat_lt, Option, Some, None, IfSome, IsSomeAnd, if◌then◌else◌}
use Rattle.std.specs.Option.{is_some, option_or, unwrap_or}
use Rattle.fuse_nodes.specs.Tables.{put, changed}
use Rattle.fuse_nodes.specs.Known.{Facts, Known, is_stale}
use Rattle.fuse_nodes.specs.declared.node.Descriptor.{Descriptor}
use Rattle.fuse_nodes.specs.declared.node.NodeKind.{NodeKind}

-- The kernel is told of a node by a name, so it has one.
abbrev pub told_again : Facts → Facts
told_again facts = record facts { gone = false; lookups = min (facts.lookups + 1) (2 ^ 64 - 1) }

abbrev pub told_first : ℕ → NodeKind → Facts
told_first inode kind = record { inode = inode; kind = kind; gone = false; lookups = 1; opens = 0; descriptor = None }

-- the number by which it is told: its own, or the next
abbrev pub number_in : Known → ℕ → ℕ
number_in k inode = unwrap_or (k.numbers inode) k.next

abbrev pub told_as : Known → ℕ → NodeKind → Option ℕ → Known
told_as k inode kind (Some id) = record k { nodes = changed told_again k.nodes id }
told_as k inode kind None = record {
  nodes = put k.nodes k.next (Some (told_first inode kind));
  numbers = put k.numbers inode (Some k.next);
  next = k.next + 1;
}

abbrev pub told : Known → ℕ → NodeKind → Known
told k inode kind = told_as k inode kind (k.numbers inode)

-- An inode has no node any more, where it has this one.
abbrev pub let_go_as : (ℕ → Option ℕ) → ℕ → ℕ → Option ℕ → ℕ → Option ℕ
let_go_as numbers inode id None = numbers
let_go_as numbers inode id (Some own) = if own == id then put numbers inode None else numbers

abbrev pub let_go : (ℕ → Option ℕ) → ℕ → ℕ → ℕ → Option ℕ
let_go numbers inode id = let_go_as numbers inode id (numbers inode)

-- a node that the kernel knows, or that has handles or a descriptor
abbrev pub is_used : Facts → Bool
is_used facts = nat_lt 0 facts.lookups || (nat_lt 0 facts.opens || is_some facts.descriptor)

-- A node goes that isn't used, unless it is the root.
abbrev pub dropped_as : Known → ℕ → Option Facts → Known
dropped_as k id None = k
dropped_as k id (Some facts) =
    if (id == 1) || is_used facts then k
    else record k { nodes = put k.nodes id None; numbers = let_go k.numbers facts.inode id }

abbrev pub dropped : Known → ℕ → Known
dropped k id = dropped_as k id (k.nodes id)

-- A node whose inode may be another file's isn't its inode's node any more.
abbrev pub settled_as : Known → ℕ → Option Facts → Known
settled_as k id None = k
settled_as k id (Some facts) = if is_stale facts then record k { numbers = let_go k.numbers facts.inode id } else k

abbrev pub settled : Known → ℕ → Known
settled k id = settled_as k id (k.nodes id)

-- what a change of one node makes of all that is known
abbrev pub with_change : (Facts → Facts) → Known → ℕ → Known
with_change f k id = record k { nodes = changed f k.nodes id }

-- So many lookups are forgotten; then the node goes, if it isn't used.
abbrev pub forgets : ℕ → Facts → Facts
forgets count facts = record facts { lookups = facts.lookups - count }

abbrev pub forgotten : Known → ℕ → ℕ → Known
forgotten k id count = dropped (with_change (forgets count) k id) id

-- A node has a handle more, and a descriptor, if one came with it; nothing where its inode may be another file's.
abbrev pub opens_one : Option Descriptor → Facts → Facts
opens_one descriptor facts = if is_stale facts then facts else record facts {
  opens = min (facts.opens + 1) (2 ^ 32 - 1);
  descriptor = option_or descriptor facts.descriptor;
}

abbrev pub opened : Known → ℕ → Option Descriptor → Known
opened k id descriptor = with_change (opens_one descriptor) k id

-- A node has a handle less, and no descriptor behind the last one; then it is its inode's no more, if it is gone, and goes, if it isn't
-- used.
abbrev pub closes_one : Facts → Facts
closes_one facts =
    if nat_lt 0 (facts.opens - 1) then record facts { opens = facts.opens - 1 } else record facts { opens = 0; descriptor = None }

abbrev pub closed : Known → ℕ → Known
closed k id = dropped (settled (with_change closes_one k id) id) id

-- the descriptor that comes out with a handle: the node's, with the last one
abbrev pub out_with_last : Option Facts → Option Descriptor
out_with_last None = None
out_with_last (Some facts) = if nat_lt 0 (facts.opens - 1) then None else facts.descriptor

-- the descriptor of a node
abbrev pub descriptor_of : Option Facts → Option Descriptor
descriptor_of None = None
descriptor_of (Some facts) = facts.descriptor

abbrev pub without_descriptor : Known → ℕ → Known
without_descriptor k id = with_change (λ facts. record facts { descriptor = None }) k id

abbrev pub with_descriptor : Known → ℕ → Descriptor → Known
with_descriptor k id descriptor = with_change (λ facts. record facts { descriptor = Some descriptor }) k id

-- The last name of an inode was taken from it: its node is gone, and its inode's no more, if it isn't open.
abbrev pub goes : Facts → Facts
goes facts = record facts { gone = true }

abbrev pub lost_as : Known → Option ℕ → Known
lost_as k None = k
lost_as k (Some id) = settled (with_change goes k id) id

abbrev pub lost : Known → ℕ → Known
lost k inode = lost_as k (k.numbers inode)

-- the descriptor of a node that can be opened again, if it isn't this one
abbrev pub spare_of : ℕ → ℕ → Facts → Option Descriptor
spare_of but id facts = if (id == but) || facts.gone then None else facts.descriptor

-- A node that can be opened again, but this one, with its descriptor; none only where there is none.
abbrev pub IsSpare : (ℕ → Option Facts) → ℕ → Option (ℕ × Descriptor) → Type 0
IsSpare nodes but (Some (id, descriptor)) = IsSomeAnd (nodes id) (λ facts. spare_of but id facts ≡ Some descriptor)
IsSpare nodes but None = (id : ℕ) → IfSome (nodes id) (λ facts. spare_of but id facts ≡ None)
