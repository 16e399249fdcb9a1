use Rattle.std.proofs.Common.{◌/◌, ◌%◌, sym, ap}
use Rattle.image.proofs.Places.{largest}
use Rattle.image.proofs.Image.parts_of_byte.Goals as goal

pub returns-then-size-eq1024-clause-block : goal.returns-then-size-eq1024-clause-block
returns-then-size-eq1024-clause-block c = ap (λ m. c.args.byte / m) (sym c.if-size-eq1024.true)

pub returns-then-size-eq1024-clause-place : goal.returns-then-size-eq1024-clause-place
returns-then-size-eq1024-clause-place c = ap (λ m. c.args.byte % m) (sym c.if-size-eq1024.true)

pub returns-then-size-eq2048-clause-block : goal.returns-then-size-eq2048-clause-block
returns-then-size-eq2048-clause-block c = ap (λ m. c.args.byte / m) (sym c.if-size-eq2048.true)

pub returns-then-size-eq2048-clause-place : goal.returns-then-size-eq2048-clause-place
returns-then-size-eq2048-clause-place c = ap (λ m. c.args.byte % m) (sym c.if-size-eq2048.true)

pub returns-clause-block : goal.returns-clause-block
returns-clause-block c = ap (λ m. c.args.byte / m) (sym (largest c.args.self.now.bytes.now c.args.self.now.geometry c.args.self.now.parsed c.if-size-eq1024.false c.if-size-eq2048.false))

pub returns-clause-place : goal.returns-clause-place
returns-clause-place c = ap (λ m. c.args.byte % m) (sym (largest c.args.self.now.bytes.now c.args.self.now.geometry c.args.self.now.parsed c.if-size-eq1024.false c.if-size-eq2048.false))
