use Rattle.std.proofs.Common.{sym, subst, ap, ◌∙◌}
use Rattle.std.specs.Prelude.{IsTrue}
use Rattle.tree.specs.Tree.{Tree}
use Rattle.volume.specs.Reading.{Disk}
use Rattle.volume.specs.Holds.{HoldsVolume}
use Rattle.records.specs.Area.{area_of}
use Rattle.records.specs.Settled.{only_looks}
use Rattle.cache.specs.Looking.{Looks}
use Rattle.cache.proofs.Inside.{writable_of, writable_still}
use Rattle.cache.specs.Calls.{Keeps}
use Rattle.cache.proofs.Looking.{looks_then}
use Rattle.cache.proofs.Placing.{keeps_then}
use Rattle.descriptors.specs.Files.{HasFiles}
use Rattle.tree.specs.Answers.{answer_of}
use Rattle.block_store.proofs.Turns.{turns_then}
use Rattle.descriptors.specs.Table.{files_of}
use Rattle.client_calls.specs.Calls.{DoesCall}
use Rattle.file_server.specs.Over.{outcome_in}
use Rattle.vfs.proofs.Spending.{spends_none, spends_on}
use Rattle.vfs.proofs.Ending.{stopped_at_once, stopped_later, ends_well}
use Rattle.vfs.proofs.calls.answer.Goals as goal

-- the cache writes in the volume, behind its first two blocks alone, and so each block from the third on may be changed
pub body-requires : goal.body-requires
body-requires g c =
    let a = c.args.blocks.now in
    let may = c.requires.may in
    let k = g.met.B.Caches.is_cached in
    let e = g.B.Caches.caching a in
    record {
      on = record {
        ready = k.ready a may.ready;
        size = k.size a ∙ may.size;
        geometry = may.geometry;
        inside = λ block low high. k.writable a block
            (writable_still (area_of c.args.geometry.now e.area.minor) e.area c.args.geometry.now.block_size e.size block may.area may.size
            (writable_of c.args.geometry.now e.area.minor block low high));
      };
    }

pub returns-in-Err-clause-calls : goal.returns-in-Err-clause-calls
returns-in-Err-clause-calls g c =
    let a = c.args.blocks.now in
    let F = g.B.Caches.caching in
    let k = g.met.B.Caches.is_cached in
    stopped_at_once c.args.geometry.now (F a) (g.B.Caches.frame_count a) (g.B.Caches.wanted a) (files_of c.args.opens.now) c.requires.may c.args.who c.args.now c.args.call.now c.in-Err.cut (outcome_in c.stop.result c.stop.new.reply)
    c.stop.ensures (k.over a c.in-Err.cut c.in-Err.ensures.cut)

pub returns-in-Err-body-clause-calls : goal.returns-in-Err-body-clause-calls
returns-in-Err-body-clause-calls g c =
    let a = c.args.blocks.now in
    let F = g.B.Caches.caching in
    let N = g.B.Caches.frame_count in
    let k = g.met.B.Caches.is_cached in
    let b = c.body.new.blocks in
    stopped_later c.args.geometry.now (F a) (F b) (N a) (N b) (g.met.B.Caches.counts a b (k.on a b c.body.ensures.turns.leads))
    (g.B.Caches.wanted a) (g.B.Caches.wanted b) (files_of c.args.opens.now) (files_of c.body.new.opens) c.requires.may (k.live a c.in_default.ensures.live)
    (k.leads a b c.body.ensures.turns.leads) c.args.who c.args.now c.args.call.now c.in-Err-body.cut (outcome_in c.stop-in-Err-body.result c.stop-in-Err-body.new.reply)
    (λ fd is unwanted. ap F (c.body.ensures.still fd is))
    (λ d e x t holds files only.
    let l = c.body.ensures.looks.related d e (k.sees a b d e x) t holds files only in
    (k.looks a b l, k.keeps a b c.requires.may.ready l))
    c.stop-in-Err-body.ensures (k.over b c.in-Err-body.cut c.in-Err-body.ensures.cut)

pub returns-in-Err-live-clause-calls : goal.returns-in-Err-live-clause-calls
returns-in-Err-live-clause-calls g c =
    let a = c.args.blocks.now in
    let F = g.B.Caches.caching in
    let N = g.B.Caches.frame_count in
    let k = g.met.B.Caches.is_cached in
    let b = c.flush_wanted.new.self in
    let leads = g.met.B.Blocks.lawful.chain a c.body.new.blocks b c.body.ensures.turns.leads c.flush_wanted.ensures.turns.leads in
    let looks = turns_then g.B.Blocks.world g.met.B.Blocks.lawful a c.body.new.blocks b _ _
    (λ d e. (t : Tree) → HoldsVolume c.args.geometry.now d t → HasFiles (files_of c.args.opens.now) t → IsTrue (only_looks t c.args.who c.args.call.now)
    → Looks (F a) (F b) × Keeps (F a) (F b))
    (λ d e i p q t holds files only.
    let l = p t holds files only in (
      looks_then (F a) (F c.body.new.blocks) (F b) (k.looks a c.body.new.blocks l) c.flush_wanted.ensures.looks,
      keeps_then (F a) (F c.body.new.blocks) (F b) (k.keeps a c.body.new.blocks c.requires.may.ready l) c.flush_wanted.ensures.keeps,
    ))
    c.body.ensures.looks c.flush_wanted.ensures.turns in
    stopped_later c.args.geometry.now (F a) (F b) (N a) (N b) (g.met.B.Caches.counts a b (k.on a b leads))
    (g.B.Caches.wanted a) (g.B.Caches.wanted b) (files_of c.args.opens.now) (files_of c.body.new.opens) c.requires.may (k.live a c.in_default.ensures.live)
    (k.leads a b leads) c.args.who c.args.now c.args.call.now c.in-Err-live.cut (outcome_in c.stop-in-Err-live.result c.stop-in-Err-live.new.reply)
    (λ fd is unwanted.
    let same = c.body.ensures.still fd is in
    ap F (c.flush_wanted.ensures.unasked (ap g.B.Caches.wanted same ∙ unwanted) ∙ same))
    (λ d e x. looks.related d e (k.sees a b d e x))
    c.stop-in-Err-live.ensures (k.over b c.in-Err-live.cut c.in-Err-live.ensures.cut)

pub returns-clause-calls : goal.returns-clause-calls
returns-clause-calls g c =
    let a = c.args.blocks.now in
    let F = g.B.Caches.caching in
    let N = g.B.Caches.frame_count in
    let k = g.met.B.Caches.is_cached in
    let b = c.flush_wanted.new.self in
    let f = files_of c.args.opens.now in
    let h = files_of c.body.new.opens in
    let answer = answer_of c.body.new.reply in
    let whole = turns_then g.B.Blocks.world g.met.B.Blocks.lawful a c.body.new.blocks b _ _
    (λ d e. DoesCall c.args.geometry.now c.args.who c.args.now c.args.call.now answer f h d e)
    (λ d e i p q. subst (λ (z : Disk). DoesCall c.args.geometry.now c.args.who c.args.now c.args.call.now answer f h d z) (sym q) p)
    c.in_default-body.ensures.turns c.flush_wanted.ensures.turns in
    let looks = turns_then g.B.Blocks.world g.met.B.Blocks.lawful a c.body.new.blocks b _ _
    (λ d e. (t : Tree) → HoldsVolume c.args.geometry.now d t → HasFiles f t → IsTrue (only_looks t c.args.who c.args.call.now)
    → Looks (F a) (F b) × Keeps (F a) (F b))
    (λ d e i p q t holds files only.
    let l = p t holds files only in (
      looks_then (F a) (F c.body.new.blocks) (F b) (k.looks a c.body.new.blocks l) c.flush_wanted.ensures.looks,
      keeps_then (F a) (F c.body.new.blocks) (F b) (k.keeps a c.body.new.blocks c.requires.may.ready l) c.flush_wanted.ensures.keeps,
    ))
    c.body.ensures.looks c.flush_wanted.ensures.turns in
    ends_well c.args.geometry.now (F a) (F b) (N a) (N b) (g.met.B.Caches.counts a b (k.on a b whole.leads))
    (g.B.Caches.wanted a) (g.B.Caches.wanted b) f h c.requires.may
    (k.leads a b whole.leads) (k.live b c.in_default-live.ensures.live) c.args.who c.args.now c.args.call.now answer
    (λ fd is unwanted.
    let same = c.body.ensures.still fd is in
    ap F (c.flush_wanted.ensures.unasked (ap g.B.Caches.wanted same ∙ unwanted) ∙ same))
    c.flush_wanted.ensures.done c.in_default-body.ensures.proper
    (λ is ok. (c.flush_wanted.ensures.looks (k.synced c.body.new.blocks (c.in_default-body.ensures.synced is ok))).settled)
    (λ d e x. looks.related d e (k.sees a b d e x))
    (λ d e x. whole.related d e (k.sees a b d e x))

pub returns-in-Err-clause-spends : goal.returns-in-Err-clause-spends
returns-in-Err-clause-spends g c = spends_none _

pub returns-in-Err-body-clause-spends : goal.returns-in-Err-body-clause-spends
returns-in-Err-body-clause-spends g c =
    spends_on _ _ (g.met.B.Caches.is_cached.leads c.args.blocks.now c.body.new.blocks c.body.ensures.turns.leads)

pub returns-in-Err-live-clause-spends : goal.returns-in-Err-live-clause-spends
returns-in-Err-live-clause-spends g c =
    let b = c.flush_wanted.new.self in
    let a = c.args.blocks.now in
    spends_on _ _ (g.met.B.Caches.is_cached.leads a b
    (g.met.B.Blocks.lawful.chain a c.body.new.blocks b c.body.ensures.turns.leads c.flush_wanted.ensures.turns.leads))

pub returns-clause-spends : goal.returns-clause-spends
returns-clause-spends g c =
    let b = c.flush_wanted.new.self in
    let a = c.args.blocks.now in
    spends_on _ _ (g.met.B.Caches.is_cached.leads a b
    (g.met.B.Blocks.lawful.chain a c.body.new.blocks b c.body.ensures.turns.leads c.flush_wanted.ensures.turns.leads))

pub returns-in-Err-live-clause-still : goal.returns-in-Err-live-clause-still
returns-in-Err-live-clause-still g c = λ fd is none.
    let same = c.body.ensures.still fd is in
    c.flush_wanted.ensures.unasked (ap g.B.Caches.wanted same ∙ none) ∙ same

pub returns-clause-still : goal.returns-clause-still
returns-clause-still g c = λ fd is none.
    let same = c.body.ensures.still fd is in
    c.flush_wanted.ensures.unasked (ap g.B.Caches.wanted same ∙ none) ∙ same
