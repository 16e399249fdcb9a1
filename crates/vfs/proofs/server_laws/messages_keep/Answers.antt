use Rattle.std.proofs.Common.{refl}
use Rattle.vfs.proofs.Handing.{handed}
use Rattle.vfs.proofs.Spending.{spends_handed}
use Rattle.vfs.proofs.server_laws.messages_keep.Goals as goal

pub returns-clause-handed : goal.returns-clause-handed
returns-clause-handed g c = λ v a b n w u f m may hands done begins looks.
    handed v (g.B.Caches.caching a) (g.B.Caches.caching b) n n refl w u f m may hands done begins looks

pub returns-clause-spends : goal.returns-clause-spends
returns-clause-spends g c = λ m a b hands. spends_handed m (g.B.Caches.caching a) (g.B.Caches.caching b) hands
