use Rattle.std.proofs.Common.{sym, ◌∙◌, [], refl}
use Rattle.reissue.specs.Transfers.{link_of, table_of}
use Rattle.volume_reading.proofs.Waiting.{back_given_up, back_is, back_stopped, no_memory}
use Rattle.volume_reading.proofs.back.read_back.Goals as goal

pub returns-then-is_given_up-clause-back : goal.returns-then-is_given_up-clause-back
returns-then-is_given_up-clause-back g c =
    let t = c.args.transfers.now in (
      [],
      refl,
      tt,
      back_given_up c.args.minor [] (table_of t) (g.L.Link.history (link_of t)) (g.L.Link.truth (link_of t)) c.requires.unended
          (sym c.is_given_up.ensures ∙ c.if-is_given_up.true),
    )

pub returns-in-Ok-clause-back : goal.returns-in-Ok-clause-back
returns-in-Ok-clause-back g c =
    let h = g.L.Link.history in
    let w = g.L.Link.truth in
    let s = c.args.transfers.now in
    let t = c.wait_for_all.new.transfers in
    let u = c.read_places.new.transfers in
    let b = c.read_places.ensures.back in (
      b.0,
      b.1,
      b.2,
      back_is c.read_places.result c.args.minor b.0 (table_of s) (table_of t) (table_of u) (h (link_of s)) (h (link_of t))
          (h (link_of u)) (w (link_of s)) (w (link_of t)) (w (link_of u)) (c.in-Ok.ensures.waits c.args.minor c.requires.minor) b.3,
    )

pub returns-in-Err-clause-back : goal.returns-in-Err-clause-back
returns-in-Err-clause-back g c =
    let h = g.L.Link.history in
    let w = g.L.Link.truth in
    let s = c.args.transfers.now in
    let t = c.wait_for_all.new.transfers in (
      [],
      refl,
      tt,
      back_stopped c.in-Err.stop c.args.minor [] (table_of s) (table_of t) (h (link_of s)) (h (link_of t)) (w (link_of s)) (w (link_of t))
          (c.in-Err.ensures.waits c.args.minor c.requires.minor),
    )

pub returns-in-Err-clause-memory : goal.returns-in-Err-clause-memory
returns-in-Err-clause-memory g c = λ is.
    let w = c.in-Err.ensures.waits c.args.minor c.requires.minor in
    no_memory c.in-Err.stop (table_of c.wait_for_all.new.transfers) (g.L.Link.history (link_of c.wait_for_all.new.transfers)) w.over is
