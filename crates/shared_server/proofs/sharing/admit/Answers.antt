use Rattle.std.proofs.Common.{◌≡◌, ℕ, ◌<◌, sym, ◌∙◌, ap, true, subst, refl}
use Rattle.board.specs.View.{is_used}
use Rattle.records.specs.Told.{took_end}
use Rattle.board.proofs.KeeperLaws.{some_free}
use Rattle.shared_server.proofs.SharingLaws.{same_over}
use Rattle.shared_server.proofs.sharing.admit.Goals as goal

pub returns-then-has_ended-clause-stopped : goal.returns-then-has_ended-clause-stopped
returns-then-has_ended-clause-stopped g c =
    let numbers = g.L.Recorder.numbers in (
      (λ stopped. (
        ap (λ (l : g.row.L.Denot). took_end (g.L.Link.history l)) (sym c.link-2.ensures) ∙ sym c.has_ended.ensures ∙ c.if-has_ended.true,
        some_free (λ n. is_used n (numbers (g.S.FileServer.line c.args.server.now))) 64 (λ all.
            let full : c.is_full.result ≡ true =
            c.is_full.ensures.1 (subst (λ (l : g.row.L.Denot). (n : ℕ) → n < 64 → is_used n (numbers l) ≡ true) (sym c.link.ensures) all) in
            let free = c.if-is_full.false in
            cc),
      )),
      (λ both. refl),
    )

pub returns-clause-same : goal.returns-clause-same
returns-clause-same g c = same_over g.L.Link g.S.Serve.serving g.S.FileServer.line g.S.FileServer.is_ready g.L.Supplied.runs_on _ _ _ _
    c.link_mut.ensures.value (g.met.S.FileServer.is_there c.args.server.now c.admit.new.self)
    (λ told. g.met.S.FileServer.stays _ _ told)
    (λ told room budget. g.met.S.FileServer.stays_ready _ _ told room budget)
    c.admit.ensures.same
