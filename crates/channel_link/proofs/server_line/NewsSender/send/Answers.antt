use Rattle.channel_link.proofs.Lines.{sends}
use Rattle.channel_link.proofs.server_line.NewsSender.send.Goals as goal
use Rattle.std.proofs.Common.{subst, sym}
use Rattle.message.specs.declared.endpoint.Endpoint.{Endpoint}
use Rattle.channel_link.specs.News.{Bears}

pub send_as-requires-clause-rule : goal.send_as-requires-clause-rule
send_as-requires-clause-rule g c =
    let own = subst (λ (o : Endpoint). Bears o c.args.news) (sym c.args.self.now.own) c.requires in
    (sends _ _ _ _ c.args.self.now.drives own, λ items views h at. tt)
