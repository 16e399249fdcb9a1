use Rattle.std.proofs.Common.{◌≡◌, ℕ, arith, sym, ◌∙◌, ap, Some}
use Rattle.std.specs.Prelude.{remove, slice_index_or}
use Rattle.volume_reading.specs.declared.sought.Sought.{Sought}
use Rattle.volume_reading.proofs.Searching.{found, none_found}
use Rattle.volume_reading.proofs.sought.take_out.Goals as goal

pub returns-in-Some-clause-at : goal.returns-in-Some-clause-at
returns-in-Some-clause-at c =
    let f = found c.args.ticket c.in-Some.i c.args.asked.now.items (sym c.in-Some.ensures) in
    let at : c.in-Some.i ≡ f.at = f.is ∙ omega arith in
    ap (λ (s : Sought). Some s.at) (c.remove.ensures.value ∙ ap (λ (k : ℕ). slice_index_or c.args.asked.now.items k c.remove.result) at) ∙ sym (f.place c.remove.result)

pub returns-in-Some-clause-left : goal.returns-in-Some-clause-left
returns-in-Some-clause-left c =
    let f = found c.args.ticket c.in-Some.i c.args.asked.now.items (sym c.in-Some.ensures) in
    let at : c.in-Some.i ≡ f.at = f.is ∙ omega arith in
    c.remove.ensures.items ∙ ap (remove c.args.asked.now.items) at ∙ sym f.left

pub returns-in-None-clause-at : goal.returns-in-None-clause-at
returns-in-None-clause-at c = sym (none_found c.args.ticket c.args.asked.now.items (sym c.in-None.ensures)).0

pub returns-in-None-clause-left : goal.returns-in-None-clause-left
returns-in-None-clause-left c = sym (none_found c.args.ticket c.args.asked.now.items (sym c.in-None.ensures)).1
