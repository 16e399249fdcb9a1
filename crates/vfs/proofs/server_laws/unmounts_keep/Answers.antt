use Rattle.std.proofs.Common.{refl}
use Rattle.vfs.proofs.Letting.{busy_at_once, unmounted}
use Rattle.vfs.proofs.server_laws.unmounts_keep.Goals as goal

pub returns-clause-busy : goal.returns-clause-busy
returns-clause-busy g c = λ v a n w f may live busy same. busy_at_once v (g.B.Caches.caching a) n w f may same live busy

pub returns-clause-unmounted : goal.returns-clause-unmounted
returns-clause-unmounted g c = λ v a b n w u f may live idle leads same after all looks.
    unmounted v (g.B.Caches.caching a) (g.B.Caches.caching b) n n refl w u f may live idle leads same after all looks
