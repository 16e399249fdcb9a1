use Rattle.std.proofs.Common.{◌∙◌, sym}
use Rattle.ninep_fids.proofs.Tables.{is_used, is_full, has_room}
use Rattle.ninep_fids.proofs.fids.Fids.check_new.Goals as goal

pub returns-then-contains_key : goal.returns-then-contains_key
returns-then-contains_key c = is_used c.args.self.now c.args.fid (sym c.contains_key.ensures ∙ c.if-contains_key.true)

pub returns-then-len-ge-MAX_FIDS : goal.returns-then-len-ge-MAX_FIDS
returns-then-len-ge-MAX_FIDS c =
    is_full c.args.self.now c.args.fid c.len.result (sym c.contains_key.ensures ∙ c.if-contains_key.false) c.len.ensures.len
    c.if-len-ge-MAX_FIDS.true

pub returns : goal.returns
returns c =
    has_room c.args.self.now c.args.fid c.len.result (sym c.contains_key.ensures ∙ c.if-contains_key.false) c.len.ensures.len
    c.if-len-ge-MAX_FIDS.false
