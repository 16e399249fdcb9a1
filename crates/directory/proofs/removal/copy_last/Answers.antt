use Rattle.std.proofs.Common.{◌≡◌, ◌*◌, ◌-◌, ◌/◌, ◌∙◌, length, rules, sym, subst}
use Rattle.volume.specs.Pieces.{pieces}
use Rattle.volume.specs.Nodes.{file_byte}
use Rattle.block_store.specs.Rows.{HasBytes}
use Rattle.block_store.proofs.Turns.{turns_then}
use Rattle.block_store.proofs.Ending.{ends_exit, ends_cut_exit, turns_three}
use Rattle.file.specs.Changing.{MayWriteAt, WritesAt}
use Rattle.directory.proofs.Removing.{copied, may_copy}
use Rattle.directory.proofs.removal.copy_last.Goals as goal

pub returns-in_err-bytes-clause-turns : goal.returns-in_err-bytes-clause-turns
returns-in_err-bytes-clause-turns g c =
    turns_then _ g.met.B.Blocks.lawful _ _ _ _ _ _ (λ d e f p q. ends_cut_exit _ _ _ _ c.from_residual-in_err-bytes.ensures.1)
    c.in_ok-inode.ensures.reads.turns c.in_err-bytes.ensures.reads.turns

pub returns-in_err-write_at-clause-turns : goal.returns-in_err-write_at-clause-turns
returns-in_err-write_at-clause-turns g c =
    let v = c.args.geometry.now in
    let n = c.args.directory in
    let bytes = c.in_ok-bytes.bytes in
    let many : length bytes ≡ 64 = search rules in
    turns_three _ g.met.B.Blocks.lawful _ _ _ _ _ _ _ _
    (λ d e f h p q r. ends_exit _ _ _ _ _ _ c.from_residual-in_err-write_at.ensures.1
    (λ t. subst (λ x. MayWriteAt v (pieces v x) n (64 * c.args.place) bytes) (sym p.0 ∙ sym q.0) (may_copy v (pieces v d) n c.args.place bytes many t)) r)
    c.in_ok-inode.ensures.reads.turns c.in_ok-bytes.ensures.reads.turns c.in_err-write_at.ensures.turns

pub returns-clause-turns : goal.returns-clause-turns
returns-clause-turns g c =
    let v = c.args.geometry.now in
    let n = c.args.directory in
    let i = c.in_ok-inode.inode in
    let bytes = c.in_ok-bytes.bytes in
    let many : length bytes ≡ 64 = search rules in
    turns_three _ g.met.B.Blocks.lawful _ _ _ _ _ _ _ _
    (λ d e f h p q r. copied v n c.args.place bytes i d h p.1 many (subst (λ x. HasBytes (64 * (i.size / 64 - 1)) bytes (file_byte v (pieces v x) i)) p.0 q.1)
    (subst (λ x. WritesAt v n (64 * c.args.place) bytes x h) (q.0 ∙ p.0) r))
    c.in_ok-inode.ensures.reads.turns c.in_ok-bytes.ensures.reads.turns c.in_ok-write_at.ensures.turns
