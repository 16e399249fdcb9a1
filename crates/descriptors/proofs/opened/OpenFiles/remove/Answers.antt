use Rattle.std.proofs.Common.{◌≡◌, ap, ◌∙◌, sym, Some, None, set, get_or, Option, List}
use Rattle.std.proofs.lemmas.List.{get_or_read}
use Rattle.tree.specs.Tree.{OpenFile}
use Rattle.descriptors.proofs.Keys.{low_in, open_in, keys_removed, removed}
use Rattle.descriptors.proofs.opened.OpenFiles.remove.Goals as goal

pub invariant_of-self : goal.invariant_of-self
invariant_of-self c =
    let s = c.self.inside.files in
    let keys = c.self.inside.keys.items in
    let n = c.args.number in
    let low = low_in s keys c.args.self.now n c.self.view_is (open_in c.args.self.now n c.requires) in
    let is : get_or keys n None ≡ Some c.in-Some.key = sym (get_or_read keys n c.index_mut.result.now low c.index_mut.ensures.value None) ∙ sym c.take.ensures.value ∙ c.in-Some.is in
    let r = c.remove.ensures in
    rw c.take.ensures.after (keys_removed s _ keys n c.in-Some.key c.self.invariant low is r.updates r.len r.capacity)

pub returns-clause-after : goal.returns-clause-after
returns-clause-after c =
    let s = c.self.inside.files in
    let keys = c.self.inside.keys.items in
    let n = c.args.number in
    let low = low_in s keys c.args.self.now n c.self.view_is (open_in c.args.self.now n c.requires) in
    let is : get_or keys n None ≡ Some c.in-Some.key = sym (get_or_read keys n c.index_mut.result.now low c.index_mut.ensures.value None) ∙ sym c.take.ensures.value ∙ c.in-Some.is in
    let r = c.remove.ensures in
    rw c.take.ensures.after (removed s _ keys n c.in-Some.key c.self.invariant is r.updates ∙ ap (λ (os : List (Option OpenFile)). set os n None) c.self.view_is)
