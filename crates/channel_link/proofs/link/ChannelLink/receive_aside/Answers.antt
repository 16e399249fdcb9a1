use Rattle.std.proofs.Common.{◌∙◌}
use Rattle.channel_link.proofs.Receives.{receives_as}
use Rattle.channel_link.proofs.link.ChannelLink.receive_aside.Goals as goal

pub returns-clause-some : goal.returns-clause-some
returns-clause-some g c = λ marks kept.
    receives_as marks c.args.self.now.line c.keep.new.self.line c.in_ok-news.news c.put_message.new.message
    c.put_message.ensures (c.keep.ensures.0 ∙ c.in_ok-news.ensures.some.1) kept
