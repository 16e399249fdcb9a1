use Rattle.std.proofs.Common.{◌++◌, ◌∷◌, [], sym, ap, ◌∙◌, append_assoc, zero-add}
use Rattle.std.proofs.lemmas.List.FromFn.{map-range_with_len_more}
use Rattle.new_volume.specs.Image.{map_byte, map_bytes}
use Rattle.new_volume.proofs.push_map.Goals as goal

pub loop-place-preserved : goal.loop-place-preserved
loop-place-preserved c =
    let front = c.args.image.now.items in
    let so_far = map_bytes c.args.last c.loop-place.place in
    let byte = map_byte c.args.last c.loop-place.place in
    c.in_ok-push.ensures.items
    ∙ ap (λ l. l ++ c.map_byte.result ∷ []) c.loop-place.invariant
    ∙ ap (λ b. (front ++ so_far) ++ b ∷ []) c.map_byte.ensures
    ∙ append_assoc front so_far (byte ∷ [])
    ∙ ap (λ l. front ++ l) (sym (map-range_with_len_more (map_byte c.args.last) 0 c.loop-place.place c.loop-place.place (zero-add c.loop-place.place)))
