use Rattle.std.proofs.Common.{◌≡◌, ◌+◌, ℕ, arith, ◌∙◌, ap, Some}
use Rattle.reissue.specs.Moves.{Begun, begun_by, put}
use Rattle.reissue.specs.Transfers.{begun_in}
use Rattle.volume_reading.specs.Sought.{piece}
use Rattle.volume_reading.proofs.Steps.{begun_piece}
use Rattle.volume_reading.proofs.reading.begin_next.Goals as goal

pub returns-in-Ok-clause-begun : goal.returns-in-Ok-clause-begun
returns-in-Ok-clause-begun g c =
    let x = c.in-Ok.ensures in
    let a = c.ask_at.ensures in
    let same : begun_by c.ask_at.result ≡ piece c.args.start c.args.size c.args.next =
    begun_piece c.ask_at.result c.args.start c.args.size c.args.next a.kind a.position a.count in
    record {
      ask = c.ask_at.result;
      ticket = c.in-Ok.ticket;
      kind = a.kind;
      minor_is = a.minor;
      begun = same;
      position = a.position;
      count = a.count;
      within = omega (arith, c.if-size-next.false);
      after_is = ap (λ (n : ℕ). c.args.next + n) c.piece_size.ensures;
      sought = c.push_reserved.ensures.items;
      opens = (x.opens.0, x.opens.1 ∙ ap (λ (b : Begun). put (begun_in c.args.transfers.now) c.in-Ok.ticket (Some b)) same);
      adds = x.adds;
      begins = x.begins;
    }
