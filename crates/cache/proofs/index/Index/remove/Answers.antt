use Rattle.std.proofs.Common.{List, sym, ◌∙◌, subst, ap, arith}
use Rattle.std.specs.Prelude.{remove}
use Rattle.std.proofs.lemmas.Option.{slice_get_within}
use Rattle.cache.specs.declared.index.Entry.{Entry}
use Rattle.cache.specs.Index.{place_in, IsRising}
use Rattle.cache.proofs.Entries.{rises, rising, none_at_gap, remove_rises, remove_this, remove_others, is_removed}
use Rattle.cache.proofs.index.Index.remove.Goals as goal

pub unreachable-requires : goal.unreachable-requires
unreachable-requires c = c.requires (none_at_gap c.args.self.now.entries.items c.in-Err.field-0 c.args.block c.in-Err.ensures.missing)

pub invariant_of-self : goal.invariant_of-self
invariant_of-self c =
    let es = c.args.self.now.entries.items in
    let ok = c.args.self.now.entries.ok in
    let f = c.in-Ok.ensures.found in
    let z = slice_get_within es c.in-Ok.at f.entry f.is in
    let items = is_removed c.remove.result _ _ c.remove.ensures.variant (omega (arith, ok, z)) c.remove.ensures.items in
    record {
      rising = subst (λ (l : List Entry). IsRising l) (sym items)
          (rising (remove es c.in-Ok.at) (remove_rises 0 es c.in-Ok.at (rises es c.args.self.now.rising)));
    }

pub returns-clause-this : goal.returns-clause-this
returns-clause-this c =
    let es = c.args.self.now.entries.items in
    let ok = c.args.self.now.entries.ok in
    let f = c.in-Ok.ensures.found in
    let z = slice_get_within es c.in-Ok.at f.entry f.is in
    ap (λ (l : List Entry). place_in l c.args.block) (is_removed c.remove.result _ _ c.remove.ensures.variant (omega (arith, ok, z)) c.remove.ensures.items)
    ∙ remove_this 0 es c.in-Ok.at c.args.block f.entry (rises es c.args.self.now.rising) f.is f.block_is

pub returns-clause-others : goal.returns-clause-others
returns-clause-others c = λ b ne.
    let es = c.args.self.now.entries.items in
    let ok = c.args.self.now.entries.ok in
    let f = c.in-Ok.ensures.found in
    let z = slice_get_within es c.in-Ok.at f.entry f.is in
    ap (λ (l : List Entry). place_in l b) (is_removed c.remove.result _ _ c.remove.ensures.variant (omega (arith, ok, z)) c.remove.ensures.items)
    ∙ remove_others es c.in-Ok.at b f.entry f.is (λ same. ne (same ∙ f.block_is))
