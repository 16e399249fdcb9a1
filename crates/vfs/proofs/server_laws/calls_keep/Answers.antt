use Rattle.std.proofs.Common.{false, refl, ap}
use Rattle.vfs.proofs.Ending.{stopped_at_once, stopped_later, ends_well}
use Rattle.vfs.proofs.Spending.{spends_on}
use Rattle.vfs.proofs.server_laws.calls_keep.Goals as goal

pub returns-clause-stopped : goal.returns-clause-stopped
returns-clause-stopped g c = λ v a n w f who now call why may over.
    stopped_at_once v (g.B.Caches.caching a) n w f may who now call why _ refl over

pub returns-clause-cut : goal.returns-clause-cut
returns-clause-cut g c = λ v a b n w u f h who now call why may live stays leads looks over.
    stopped_later v (g.B.Caches.caching a) (g.B.Caches.caching b) n n refl w u f h may live leads who now call why _
    (λ fd is unwanted. ap g.B.Caches.caching (stays fd is unwanted)) looks refl over

pub returns-clause-answered : goal.returns-clause-answered
returns-clause-answered g c = λ v a b n w f h who now call answer may stays leads live proper clean looks does.
    ends_well v (g.B.Caches.caching a) (g.B.Caches.caching b) n n refl w false f h may leads live who now call answer
    (λ fd is unwanted. ap g.B.Caches.caching (stays fd is unwanted)) refl proper clean looks does

pub returns-clause-spends : goal.returns-clause-spends
returns-clause-spends g c = λ a b leads. spends_on (g.B.Caches.caching a) (g.B.Caches.caching b) leads
