use Rattle.std.proofs.Common.{◌≡◌, ◌<◌, ℕ, length, arith, refl, sym, ◌∙◌, ap, rules}
use Rattle.std.specs.Prelude.{vec_len, ◌==◌}
use Rattle.reissue.specs.Settlements as settled
use Rattle.reissue.specs.Transfers.{link_of, table_of}
use Rattle.volume_reading.specs.Sought.{place_of}
use Rattle.volume_reading.proofs.Searching.{before_later}
use Rattle.volume_reading.proofs.Steps.{midway_first, midway_put, midway_unwritten, all_asked, live_same, unended_same, ids_same, none_is, some_is, midway_begins, midway_same, midway_step, range_done, range_given_up, range_ended, puts_length}
use Rattle.volume_reading.proofs.reading.read_in.Goals as goal

pub messages-init : goal.messages-init
messages-init g c = record {
  midway = midway_first c.args.minor c.args.start (length c.args.into.now) c.args.asked.now.items c.args.into.now (table_of c.args.transfers.now) _ _
      c.requires.none c.requires.idle;
  goes = g.met.L.Link.stays _;
  live = c.requires.live;
  unended = c.requires.unended;
  room = c.requires.room;
  capacity = c.requires.wide;
  wide = refl;
  many = refl;
  all = refl;
  place = λ lt. refl;
  within = omega arith;
  numbers = omega arith;
  spent = omega arith;
}

pub messages-preserved-in-Some : goal.messages-preserved-in-Some
messages-preserved-in-Some g c =
    let i = c.messages.invariant in
    let e = c.in-Some.ensures in
    let x = e.begun in
    record {
      midway = midway_begins g.L.Link c.args.minor c.args.start (length c.args.into.now) c.messages.next c.in-Some.after c.messages.asked.items
          c.begin_next.new.asked.items c.messages.into (table_of c.args.transfers.now) c.messages.transfers c.begin_next.new.transfers _ _ i.midway x;
      goes = g.met.L.Link.joins _ _ _ i.goes e.goes;
      live = x.begins.given_up ∙ i.live;
      unended = x.begins.ended ∙ i.unended;
      room = e.room;
      capacity = omega (arith, e.capacity, i.capacity);
      wide = e.capacity ∙ i.wide;
      many = i.many;
      all = i.all;
      place = λ lt. omega (arith, x.after_is, x.within, i.place x.within, lt);
      within = omega (arith, x.after_is, x.within);
      numbers = omega (arith, x.adds.ids, e.budget, x.after_is, x.within, i.numbers);
      spent = omega (arith, x.adds.ids, e.budget, x.after_is, x.within, i.spent);
    }

pub returns-then-is_empty-clause-reads : goal.returns-then-is_empty-clause-reads
returns-then-is_empty-clause-reads g c =
    let i = c.messages.invariant in
    let e = c.in_default.ensures in
    let n = e.none in
    let size = length c.args.into.now in
    let asked = c.begin_next.new.asked.items in
    let s = table_of c.args.transfers.now in
    let h = g.L.Link.history in
    let w = g.L.Link.truth in
    let before = c.args.transfers.now in
    let between = c.begin_next.new.transfers in
    let m = midway_same g.L.Link c.args.minor c.args.start size c.messages.next c.messages.asked.items asked c.messages.into s
    c.messages.transfers between (h (link_of before)) (w (link_of before)) n.same n.sought i.midway in
    let live = live_same c.messages.transfers between n.same i.live in
    let unended = unended_same g.L.Link c.messages.transfers between n.same i.unended in
    let same : vec_len c.begin_next.new.asked ≡ length asked = search rules in
    let none : length asked ≡ 0 = none_is (length asked) (ap (λ (k : ℕ). k == 0) (sym same) ∙ sym c.is_empty.ensures ∙ c.if-is_empty.true) in
    let all = all_asked c.args.minor c.args.start size c.messages.next c.messages.asked.items asked c.messages.into s (table_of c.messages.transfers)
    (h (link_of before)) (h (link_of c.messages.transfers)) (w (link_of before)) (w (link_of c.messages.transfers)) i.midway n.sought none n.why in
    range_done c.args.minor c.args.start size c.messages.next c.messages.into s (table_of between) (h (link_of before)) (h (link_of between))
    (w (link_of before)) (w (link_of between)) asked m none all i.within unended live

pub put_bytes-requires : goal.put_bytes-requires
put_bytes-requires g c =
    let i = c.messages.invariant in
    let e = c.in_default.ensures in
    let n = e.none in
    let size = length c.args.into.now in
    let asked = c.begin_next.new.asked.items in
    let s = table_of c.args.transfers.now in
    let h = g.L.Link.history in
    let w = g.L.Link.truth in
    let before = c.args.transfers.now in
    let between = c.begin_next.new.transfers in
    let m = midway_same g.L.Link c.args.minor c.args.start size c.messages.next c.messages.asked.items asked c.messages.into s
    c.messages.transfers between (h (link_of before)) (w (link_of before)) n.same n.sought i.midway in
    let live = live_same c.messages.transfers between n.same i.live in
    let unended = unended_same g.L.Link c.messages.transfers between n.same i.unended in
    let same : vec_len c.begin_next.new.asked ≡ length asked = search rules in
    record { within = rw i.many (before_later size c.messages.next size asked i.within m.within) }

pub messages-preserved-in-Read : goal.messages-preserved-in-Read
messages-preserved-in-Read g c =
    let i = c.messages.invariant in
    let e = c.in_default.ensures in
    let n = e.none in
    let size = length c.args.into.now in
    let asked = c.begin_next.new.asked.items in
    let s = table_of c.args.transfers.now in
    let h = g.L.Link.history in
    let w = g.L.Link.truth in
    let before = c.args.transfers.now in
    let between = c.begin_next.new.transfers in
    let m = midway_same g.L.Link c.args.minor c.args.start size c.messages.next c.messages.asked.items asked c.messages.into s
    c.messages.transfers between (h (link_of before)) (w (link_of before)) n.same n.sought i.midway in
    let live = live_same c.messages.transfers between n.same i.live in
    let unended = unended_same g.L.Link c.messages.transfers between n.same i.unended in
    let same : vec_len c.begin_next.new.asked ≡ length asked = search rules in
    let some : 0 < length asked = some_is (length asked) (ap (λ (k : ℕ). k == 0) (sym same) ∙ sym c.is_empty.ensures ∙ c.if-is_empty.false) in
    let ids = ids_same c.messages.transfers between n.same in
    let after = c.step.new.self in
    let x = c.in-Read.ensures in
    let p = c.put_bytes.ensures in
    record {
      midway = midway_put c.args.minor c.args.start size c.messages.next c.in-Read.ticket asked c.put_bytes.new.asked.items c.step.new.into c.messages.into c.put_bytes.new.into
          s (table_of between) (table_of after) (h (link_of before)) (h (link_of between)) (h (link_of after)) (w (link_of before)) (w (link_of between)) (w (link_of after))
          m p.left i.many p.puts some live x.steps;
      goes = g.met.L.Link.joins _ _ _ (g.met.L.Link.joins _ _ _ i.goes e.goes) x.goes;
      live = x.steps.given_up ∙ live;
      unended = x.steps.ended ∙ unended;
      room = x.room refl;
      capacity = omega (arith, p.capacity, e.capacity, i.capacity);
      wide = p.capacity ∙ e.capacity ∙ i.wide;
      many = puts_length (place_of asked c.in-Read.ticket) c.step.new.into c.messages.into c.put_bytes.new.into p.puts ∙ i.many;
      all = i.all;
      place = i.place;
      within = i.within;
      numbers = omega (arith, x.ids, x.falls refl, ids, e.budget, i.numbers);
      spent = omega (arith, x.ids, x.falls refl, ids, e.budget, i.spent);
    }

pub returns-in-GaveUp-clause-reads : goal.returns-in-GaveUp-clause-reads
returns-in-GaveUp-clause-reads g c =
    let i = c.messages.invariant in
    let e = c.in_default.ensures in
    let n = e.none in
    let size = length c.args.into.now in
    let asked = c.begin_next.new.asked.items in
    let s = table_of c.args.transfers.now in
    let h = g.L.Link.history in
    let w = g.L.Link.truth in
    let before = c.args.transfers.now in
    let between = c.begin_next.new.transfers in
    let m = midway_same g.L.Link c.args.minor c.args.start size c.messages.next c.messages.asked.items asked c.messages.into s
    c.messages.transfers between (h (link_of before)) (w (link_of before)) n.same n.sought i.midway in
    let live = live_same c.messages.transfers between n.same i.live in
    let unended = unended_same g.L.Link c.messages.transfers between n.same i.unended in
    let same : vec_len c.begin_next.new.asked ≡ length asked = search rules in
    let some : 0 < length asked = some_is (length asked) (ap (λ (k : ℕ). k == 0) (sym same) ∙ sym c.is_empty.ensures ∙ c.if-is_empty.false) in
    let ids = ids_same c.messages.transfers between n.same in
    let after = c.step.new.self in
    let x = c.in-GaveUp.ensures in
    let on = midway_step c.args.minor c.args.start size c.messages.next asked c.messages.into settled.GaveUp s (table_of between) (table_of after)
    (h (link_of before)) (h (link_of between)) (h (link_of after)) (w (link_of before)) (w (link_of between)) (w (link_of after)) m x.steps.closes some live x.steps in
    range_given_up c.args.minor c.args.start size c.messages.next asked c.messages.into s (table_of after) (h (link_of before)) (h (link_of after))
    (w (link_of before)) (w (link_of after)) on some i.within (x.steps.ended ∙ unended) x.steps.given_up

pub returns-in-End-clause-reads : goal.returns-in-End-clause-reads
returns-in-End-clause-reads g c =
    let i = c.messages.invariant in
    let e = c.in_default.ensures in
    let n = e.none in
    let size = length c.args.into.now in
    let asked = c.begin_next.new.asked.items in
    let s = table_of c.args.transfers.now in
    let h = g.L.Link.history in
    let w = g.L.Link.truth in
    let before = c.args.transfers.now in
    let between = c.begin_next.new.transfers in
    let m = midway_same g.L.Link c.args.minor c.args.start size c.messages.next c.messages.asked.items asked c.messages.into s
    c.messages.transfers between (h (link_of before)) (w (link_of before)) n.same n.sought i.midway in
    let live = live_same c.messages.transfers between n.same i.live in
    let unended = unended_same g.L.Link c.messages.transfers between n.same i.unended in
    let same : vec_len c.begin_next.new.asked ≡ length asked = search rules in
    let some : 0 < length asked = some_is (length asked) (ap (λ (k : ℕ). k == 0) (sym same) ∙ sym c.is_empty.ensures ∙ c.if-is_empty.false) in
    let ids = ids_same c.messages.transfers between n.same in
    let after = c.step.new.self in
    let x = c.in-End.ensures in
    let on = midway_step c.args.minor c.args.start size c.messages.next asked c.messages.into settled.End s (table_of between) (table_of after)
    (h (link_of before)) (h (link_of between)) (h (link_of after)) (w (link_of before)) (w (link_of between)) (w (link_of after)) m x.steps.closes some live x.steps in
    range_ended c.args.minor c.args.start size c.messages.next asked c.messages.into s (table_of after) (h (link_of before)) (h (link_of after))
    (w (link_of before)) (w (link_of after)) on some i.within x.steps.ended (x.steps.given_up ∙ live)

pub messages-preserved-in-Nothing : goal.messages-preserved-in-Nothing
messages-preserved-in-Nothing g c =
    let i = c.messages.invariant in
    let e = c.in_default.ensures in
    let n = e.none in
    let size = length c.args.into.now in
    let asked = c.begin_next.new.asked.items in
    let s = table_of c.args.transfers.now in
    let h = g.L.Link.history in
    let w = g.L.Link.truth in
    let before = c.args.transfers.now in
    let between = c.begin_next.new.transfers in
    let m = midway_same g.L.Link c.args.minor c.args.start size c.messages.next c.messages.asked.items asked c.messages.into s
    c.messages.transfers between (h (link_of before)) (w (link_of before)) n.same n.sought i.midway in
    let live = live_same c.messages.transfers between n.same i.live in
    let unended = unended_same g.L.Link c.messages.transfers between n.same i.unended in
    let same : vec_len c.begin_next.new.asked ≡ length asked = search rules in
    let some : 0 < length asked = some_is (length asked) (ap (λ (k : ℕ). k == 0) (sym same) ∙ sym c.is_empty.ensures ∙ c.if-is_empty.false) in
    let ids = ids_same c.messages.transfers between n.same in
    let after = c.step.new.self in
    let x = c.in-Nothing.ensures in
    let on = midway_step c.args.minor c.args.start size c.messages.next asked c.messages.into settled.Nothing s (table_of between) (table_of after)
    (h (link_of before)) (h (link_of between)) (h (link_of after)) (w (link_of before)) (w (link_of between)) (w (link_of after)) m x.steps.closes some live x.steps in
    record {
      midway = on;
      goes = g.met.L.Link.joins _ _ _ (g.met.L.Link.joins _ _ _ i.goes e.goes) x.goes;
      live = x.steps.given_up ∙ live;
      unended = x.steps.ended ∙ unended;
      room = x.room refl;
      capacity = omega (arith, e.capacity, i.capacity);
      wide = e.capacity ∙ i.wide;
      many = i.many;
      all = i.all;
      place = i.place;
      within = i.within;
      numbers = omega (arith, x.ids, x.falls refl, ids, e.budget, i.numbers);
      spent = omega (arith, x.ids, x.falls refl, ids, e.budget, i.spent);
    }

pub messages-preserved-in-Written : goal.messages-preserved-in-Written
messages-preserved-in-Written g c =
    let i = c.messages.invariant in
    let e = c.in_default.ensures in
    let n = e.none in
    let size = length c.args.into.now in
    let asked = c.begin_next.new.asked.items in
    let s = table_of c.args.transfers.now in
    let h = g.L.Link.history in
    let w = g.L.Link.truth in
    let before = c.args.transfers.now in
    let between = c.begin_next.new.transfers in
    let m = midway_same g.L.Link c.args.minor c.args.start size c.messages.next c.messages.asked.items asked c.messages.into s
    c.messages.transfers between (h (link_of before)) (w (link_of before)) n.same n.sought i.midway in
    let live = live_same c.messages.transfers between n.same i.live in
    let unended = unended_same g.L.Link c.messages.transfers between n.same i.unended in
    let same : vec_len c.begin_next.new.asked ≡ length asked = search rules in
    let k = c.in-Written.ensures.steps.closes in
    absurd (midway_unwritten c.args.minor c.args.start size c.messages.next c.in-Written.field-0 asked c.messages.into k.1 k.0 s (table_of between)
    (h (link_of before)) (h (link_of between)) (w (link_of before)) (w (link_of between)) m k.2 k.3)

pub messages-preserved : goal.messages-preserved
messages-preserved g c =
    let i = c.messages.invariant in
    let e = c.in_default.ensures in
    let n = e.none in
    let size = length c.args.into.now in
    let asked = c.begin_next.new.asked.items in
    let s = table_of c.args.transfers.now in
    let h = g.L.Link.history in
    let w = g.L.Link.truth in
    let before = c.args.transfers.now in
    let between = c.begin_next.new.transfers in
    let m = midway_same g.L.Link c.args.minor c.args.start size c.messages.next c.messages.asked.items asked c.messages.into s
    c.messages.transfers between (h (link_of before)) (w (link_of before)) n.same n.sought i.midway in
    let live = live_same c.messages.transfers between n.same i.live in
    let unended = unended_same g.L.Link c.messages.transfers between n.same i.unended in
    let same : vec_len c.begin_next.new.asked ≡ length asked = search rules in
    let some : 0 < length asked = some_is (length asked) (ap (λ (k : ℕ). k == 0) (sym same) ∙ sym c.is_empty.ensures ∙ c.if-is_empty.false) in
    let ids = ids_same c.messages.transfers between n.same in
    let after = c.step.new.self in
    let x = c.in-Flush.ensures in
    let on = midway_step c.args.minor c.args.start size c.messages.next asked c.messages.into settled.Flush s (table_of between) (table_of after)
    (h (link_of before)) (h (link_of between)) (h (link_of after)) (w (link_of before)) (w (link_of between)) (w (link_of after)) m x.steps.closes some live x.steps in
    record {
      midway = on;
      goes = g.met.L.Link.joins _ _ _ (g.met.L.Link.joins _ _ _ i.goes e.goes) x.goes;
      live = x.steps.given_up ∙ live;
      unended = x.steps.ended ∙ unended;
      room = x.room refl;
      capacity = omega (arith, e.capacity, i.capacity);
      wide = e.capacity ∙ i.wide;
      many = i.many;
      all = i.all;
      place = i.place;
      within = i.within;
      numbers = omega (arith, x.ids, x.falls refl, ids, e.budget, i.numbers);
      spent = omega (arith, x.ids, x.falls refl, ids, e.budget, i.spent);
    }

pub returns-then-is_empty-clause-wide : goal.returns-then-is_empty-clause-wide
returns-then-is_empty-clause-wide g c = c.in_default.ensures.capacity ∙ c.messages.invariant.wide

pub returns-in-GaveUp-clause-wide : goal.returns-in-GaveUp-clause-wide
returns-in-GaveUp-clause-wide g c = c.in_default.ensures.capacity ∙ c.messages.invariant.wide

pub returns-in-End-clause-wide : goal.returns-in-End-clause-wide
returns-in-End-clause-wide g c = c.in_default.ensures.capacity ∙ c.messages.invariant.wide
