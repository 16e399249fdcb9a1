use Rattle.std.proofs.Common.{◌≡◌, refl, sym, ap, subst, ◌∙◌, None, Ok}
use Rattle.cache.specs.Calls.{AbstractCache, caching, caching_of, Runs}
use Rattle.cache.specs.Takes.{Takes, ReadsStay}
use Rattle.reissue.specs.Settlements.{settlement}
use Rattle.reissue.specs.Transfers.{begun_in}
use Rattle.cache.specs.Settling.{Taking, taking, took_of, is_ended_by}
use Rattle.cache.proofs.Runs.{runs_none}
use Rattle.cache.proofs.Staying.{all_none}
use Rattle.cache.proofs.Taking.{cut_off, takes_none, takes_one, leaves_settled, reads_stay}
use Rattle.cache.proofs.Flushes.{follows_none, follows_take, wanted_for}
use Rattle.cache.proofs.Looking.{take_looks}
use Rattle.cache.proofs.cache.Cache.take.Goals as goal

pub returns-in_err-live-clause-runs : goal.returns-in_err-live-clause-runs
returns-in_err-live-clause-runs g c = runs_none _ _ c.requires.ready (λ w. takes_none _ _ w (cut_off c.from_residual.result _ c.from_residual.ensures.0))

pub returns-clause-runs : goal.returns-clause-runs
returns-clause-runs g c =
    let e = c.settle.ensures in
    let s = c.step-settled.ensures in
    let l = c.in_ok-live.ensures.live in
    let old = caching g.L.Link c.args.self.now in
    let items = c.settle.new.slots.items.items in
    let bytes = c.step-settled.new.into in
    let came = settlement c.step-settled.result bytes in
    let as_it_ends = caching_of g.L.Link c.step-settled.new.self c.args.self.now.shape items in
    let mid = as_it_ends (is_ended_by came) in
    let same : as_it_ends c.is_end-self.result ≡ mid = λ i. as_it_ends (c.is_end-self.ensures bytes i) in
    let one : Runs None old mid (λ w v. Takes (Ok (took_of came)) old mid w v) =
    takes_one came old mid c.args.self.now.slots.items.items items s.steps (e.slots bytes) refl refl c.requires.ready
    (c.requires.busy l) l.not_ended l.not_given_up refl refl refl s.falls s.room s.closed in
    let new = as_it_ends c.is_end-self.result in
    let both : Runs None old new (λ w v. Takes (Ok (took_of came)) old new w v) =
    subst (λ (n : AbstractCache). Runs None old n (λ w v. Takes (Ok (took_of came)) old n w v)) (sym same) one in
    let taken : taking c.settle.result c.settle.new.slots.spare.value ≡ took_of came = ap (λ b. taking c.settle.result b.value) e.spare ∙ e.took bytes in
    subst (λ (t : Taking). Runs None old new (λ w v. Takes (Ok t) old new w v)) (sym taken) both

pub returns-clause-reads : goal.returns-clause-reads
returns-clause-reads g c =
    let e = c.settle.ensures in
    let bytes = c.step-settled.new.into in
    let came = settlement c.step-settled.result bytes in
    let taken : taking c.settle.result c.settle.new.slots.spare.value ≡ took_of came = ap (λ b. taking c.settle.result b.value) e.spare ∙ e.took bytes in
    subst (λ (t : Taking). ReadsStay (Ok t) (begun_in c.args.self.now.transfers) (begun_in c.step-settled.new.self)) (sym taken)
    (reads_stay came _ _ c.step-settled.ensures.steps.closes)

pub returns-clause-stay : goal.returns-clause-stay
returns-clause-stay g c = let stay = c.settle.ensures.stay in record { uses = stay.uses; each = stay.each }

pub returns-in_err-live-clause-stay : goal.returns-in_err-live-clause-stay
returns-in_err-live-clause-stay g c = all_none _

pub returns-clause-flush : goal.returns-clause-flush
returns-clause-flush g c =
    let s = c.step-settled.ensures.steps in
    follows_take s.message s.posts s.complaints _ _ _ _ s.history s.only_posts s.grows
    (wanted_for s.message _ _ _ s.answer (c.settle.ensures.wanted c.step-settled.new.into))

pub returns-in_err-live-clause-flush : goal.returns-in_err-live-clause-flush
returns-in_err-live-clause-flush g c = follows_none _ _

pub returns-clause-leaves : goal.returns-clause-leaves
returns-clause-leaves g c = leaves_settled _ _ _ (c.settle.ensures.slots c.step-settled.new.into)

pub returns-clause-looks : goal.returns-clause-looks
returns-clause-looks g c =
    let bytes = c.step-settled.new.into in
    let items = c.settle.new.slots.items.items in
    take_looks (settlement c.step-settled.result bytes) (caching g.L.Link c.args.self.now)
    (caching_of g.L.Link c.step-settled.new.self c.args.self.now.shape items c.is_end-self.result) c.args.self.now.slots.items.items items
    c.step-settled.ensures.steps (c.settle.ensures.slots bytes) refl refl
