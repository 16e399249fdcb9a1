use Rattle.std.proofs.Common.{length, slice_index, sym, ap, ◌∙◌, arith}
use Rattle.image.proofs.Texts.{no_padding, all_padding, padded_behind, name_most}
use Rattle.image.proofs.entry.is_padded.Goals as goal

pub slice_bounds-is_blank-count : goal.slice_bounds-is_blank-count
slice_bounds-is_blank-count c =
    let size = ap length c.name_of.ensures in
    let most = name_most (slice_index c.args.entry.now) in
    let whole = c.requires in
    omega arith

pub slice_bounds-is_blank-start : goal.slice_bounds-is_blank-start
slice_bounds-is_blank-start c =
    let size = ap length c.name_of.ensures in
    let most = name_most (slice_index c.args.entry.now) in
    let whole = c.requires in
    omega arith

pub returns-then-is_blank : goal.returns-then-is_blank
returns-then-is_blank c =
    padded_behind c.args.entry.now c.requires (length c.name_of.result.now) (ap length c.name_of.ensures)
    (sym c.is_blank.ensures ∙ c.if-is_blank.true)

pub returns-then-entry-a-ne0 : goal.returns-then-entry-a-ne0
returns-then-entry-a-ne0 c = no_padding (slice_index c.args.entry.now) c.loop-a.a (omega arith) c.if-entry-a-eq0.true c.if-entry-a-ne0.true

pub returns : goal.returns
returns c = all_padding (slice_index c.args.entry.now) c.loop-a.a (omega arith) c.loop-a.invariant
