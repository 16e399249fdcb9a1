use Rattle.std.proofs.Common.{◌≡◌, ap, ◌∙◌, map, List, rules}
use Rattle.tree.specs.Names.{Name, Names, with_name}
use Rattle.calls_files.specs.Pairs.{pair_of}
use Rattle.calls_files.proofs.Putting.{put_is}
use Rattle.calls_files.proofs.listing.names.NameMap.put.Goals as goal

pub returns : goal.returns
returns c =
    let name : c.in_ok-name.name.items ≡ c.args.name.now = search rules in
    ap (λ (es : List _). map pair_of es) c.in_ok-insert.ensures.entries
    ∙ put_is c.self.inside.inodes.entries c.in_ok-name.name c.args.inode
    ∙ ap (λ (es : Names). with_name es c.in_ok-name.name.items c.args.inode) c.self.view_is
    ∙ ap (λ (n : Name). with_name c.args.self.now n c.args.inode) name
