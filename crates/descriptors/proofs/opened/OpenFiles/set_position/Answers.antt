use Rattle.std.proofs.Common.{ap, ◌∙◌, sym, None, set, get_or, Option, refl}
use Rattle.std.specs.Prelude.{option_map, List}
use Rattle.std.proofs.lemmas.List.{get_or_read}
use Rattle.std.specs.Option.{option_copied_mut}
use Rattle.tree.specs.Tree.{OpenFile}
use Rattle.descriptors.specs.Keys.{at_position}
use Rattle.descriptors.proofs.Keys.{low_in, moved_at}
use Rattle.descriptors.proofs.opened.OpenFiles.set_position.Goals as goal

pub returns-in-Some-get_mut : goal.returns-in-Some-get_mut
returns-in-Some-get_mut c =
    let s = c.self.inside.files in
    let keys = c.self.inside.keys.items in
    let low = low_in s keys c.args.self.now c.args.number c.self.view_is c.requires in
    moved_at s keys c.args.number c.in-Some.key c.args.position c.in-Some-get_mut.file.now _ c.self.invariant low
    (sym (get_or_read keys c.args.number c.index.result.now low c.index.ensures None) ∙ c.in-Some.is)
    (sym c.get_mut.ensures.value ∙ ap option_copied_mut c.in-Some-get_mut.is) refl
    ∙ ap (λ (os : List (Option OpenFile)). set os c.args.number (option_map (at_position c.args.position) (get_or os c.args.number None))) c.self.view_is
