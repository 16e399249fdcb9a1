use Rattle.std.proofs.Common.{rules, ◌≡◌, ◌++◌, [], refl, sym, ap, ◌∙◌, append_assoc}
use Rattle.std.proofs.lemmas.List.Concat.{flat_map-append}
use Rattle.std.specs.Slice.Iter.{chunks_rest}
use Rattle.std.proofs.lemmas.Grind.{put_two}
use Rattle.reply_text.specs.Text.{hex_byte, hex_text}
use Rattle.reply_text.proofs.text.HexDisplay.fmt.Goals as goal

pub loop-piece-init : goal.loop-piece-init
loop-piece-init g c =
    let same = c.into_iter-piece-iterator.ensures.into_iter_gives in (
      rw same c.chunks-piece-items.ensures.size,
      [],
      rw same c.chunks-piece-items.ensures.rest,
      search rules,
    )

pub loop-piece-preserved : goal.loop-piece-preserved
loop-piece-preserved g c =
    let step = c.in-Some.ensures.steps in
    let so_far = c.loop-piece.invariant in
    let piece = c.in-Some.piece.now in
    let rest = chunks_rest c.next.new.self in
    let whole : (so_far.1 ++ piece) ++ rest ≡ c.args.self.now.0.now =
    append_assoc so_far.1 piece rest ∙ ap (λ l. so_far.1 ++ l) (sym step.1.0) ∙ so_far.2 in (
      step.0 ∙ so_far.0,
      so_far.1 ++ piece,
      whole,
      λ plain.
          let before = so_far.3 plain in
          let now = c.write_piece.ensures before.plain (rw c.in_ok-write_piece.was refl) in
          put_two _ _ _ _ (hex_text so_far.1) (hex_text piece) _ before now (sym (flat_map-append hex_byte so_far.1 piece)),
    )
