use Rattle.std.proofs.Common.{◌≡◌, List, None, Some, sym, ◌∙◌, subst, ap, arith}
use Rattle.std.specs.Prelude.{insert}
use Rattle.cache.specs.declared.index.Entry.{Entry}
use Rattle.cache.specs.Index.{place_in, IsRising}
use Rattle.cache.proofs.Entries.{rises, rising, place_at, insert_rises, insert_this, insert_others, where_room}
use Rattle.cache.proofs.index.Index.insert.Goals as goal

pub unreachable-requires : goal.unreachable-requires
unreachable-requires c =
    let es = c.args.self.now.entries.items in
    let f = c.in-Ok.ensures.found in
    let z : None ≡ Some f.entry.place =
    sym c.requires.missing ∙ place_at 0 es c.in-Ok.field-0 c.args.block f.entry (rises es c.args.self.now.rising) f f.is in
    cc

pub invariant_of-self : goal.invariant_of-self
invariant_of-self c =
    let es = c.args.self.now.entries.items in
    let y : Entry = record { block = c.args.block; place = c.args.place } in
    let ok = c.args.self.now.entries.ok in
    let gap = c.in-Err.ensures.missing in
    let is = where_room c.insert.result _ _ (λ full. omega (arith, ok, c.requires.room, full)) c.insert.ensures.full c.insert.ensures.items in
    record {
      rising = subst (λ (l : List Entry). IsRising l) (sym is)
          (rising (insert es c.in-Err.at y) (insert_rises 0 es c.in-Err.at y (rises es c.args.self.now.rising) (omega arith) gap.below gap.above));
    }

pub returns-clause-this : goal.returns-clause-this
returns-clause-this c =
    let es = c.args.self.now.entries.items in
    let y : Entry = record { block = c.args.block; place = c.args.place } in
    ap (λ (l : List Entry). place_in l c.args.block) c.in-Ok-insert.ensures.items ∙ insert_this es c.in-Err.at y c.in-Err.ensures.missing.below

pub returns-clause-others : goal.returns-clause-others
returns-clause-others c = λ b ne.
    let es = c.args.self.now.entries.items in
    let y : Entry = record { block = c.args.block; place = c.args.place } in
    ap (λ (l : List Entry). place_in l b) c.in-Ok-insert.ensures.items ∙ insert_others es c.in-Err.at y b ne
