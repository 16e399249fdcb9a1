-- What is said of nodes.
use Rattle.std.specs.Prelude.{ℕ, ◌/◌, if◌then◌else◌, ◌==◌}
use Rattle.ninep.specs.Requests.{Body}
use Rattle.ninep.specs.declared.reply.Qid.{Qid}
use Rattle.tree.specs.declared.Attributes.{Attributes}
use Rattle.ninep_fids.specs.Plans.{Plan, Says, body_said}
use Rattle.ninep_fids.specs.declared.fid.Kind.{Kind}
use Rattle.ninep_fids.specs.declared.fid.Kind.TheVariants as kind
use Rattle.ninep_fids.specs.declared.fid.Node.{Node}
use Rattle.ninep_fids.specs.declared.answer.NinepAnswer.{NinepAnswer}
use Rattle.ninep_fids.specs.declared.answer.Said.TheVariants as said

abbrev pub said_of : NinepAnswer → ℕ → Body
said_of a = body_said (said.Plain a)

abbrev pub says : NinepAnswer → Plan
says a = Says (said_of a)

-- the node with these attributes: its type is that of its mode
abbrev pub kind_of : ℕ → Kind
kind_of mode =
    if mode / 4096 == 4 then kind.Directory else if mode / 4096 == 10 then kind.Symlink else kind.File

abbrev pub node_of : Attributes → Node
node_of a = record { inode = a.inode; kind = kind_of a.mode }

-- the type of a file in its qid
abbrev pub qid_kind : Kind → ℕ
qid_kind kind.File = 0
qid_kind kind.Directory = 0x80
qid_kind kind.Symlink = 0x02

abbrev pub qid_of : Node → Qid
qid_of node = record { kind = qid_kind node.kind; version = 0; path = node.inode }
