use Rattle.descriptors.specs.Table.{files_of}
use Rattle.block_store.proofs.Turns.{turns_then, ends_as}
use Rattle.inode_operations.proofs.Losing.{name_lost, still_of_node}
use Rattle.inode_operations.proofs.ending.lose_name.Goals as goal

pub returns-clause-turns : goal.returns-clause-turns
returns-clause-turns g c =
    let a = c.args in
    let f = files_of a.opens.now in
    turns_then _ g.met.B.Blocks.lawful _ _ _ _ _ _
    (λ d m e p q. ends_as _ _ _ _ _ (λ y loses. name_lost a.geometry.now f a.number a.now d m p e loses)
    (λ of. still_of_node a.geometry.now f a.number a.now d m p of) q)
    c.in_ok-drop_link.ensures.turns c.lose_node.ensures.turns
