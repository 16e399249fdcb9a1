use Rattle.std.proofs.Common.{◌≡◌, ◌/◌, ℕ, List, true, false, sym, ap, ◌∙◌, below_more, arith}
use Rattle.std.specs.Prelude.{not, ◌&&◌, ◌==◌, nat_le}
use Rattle.std.specs.List.{list_any}
use Rattle.std.specs.Borrow.{Bor}
use Rattle.std.proofs.lemmas.Bool.{eq-eqb, ne_eqb, not-true, not-false}
use lib.Pointwise.{pointwise}
use lib.Dec.{eqb}
use Rattle.volume.proofs.Sums.{some_from, none_from}
use Rattle.image.specs.Contents.{contents}
use Rattle.fsck.proofs.Directories.{no_directory, of_directory}
use Rattle.fsck.specs.Form.{form_of}
use Rattle.fsck.specs.Nodes.{entry_count_of}
use Rattle.fsck.specs.Entries.{entry_count, is_free_at}
use Rattle.fsck.specs.Findings.{is_bad_entry}
use Rattle.fsck.proofs.EntryBytes.{small, target_same, name_field_same, is_named}
use Rattle.fsck.proofs.Doubles.{no_some, names_more, names_skip, stands_earlier, free_good, bad_free, bad_field, bad_double, good_entry}
use Rattle.fsck.proofs.scan.names.has_bad_entry.Goals as goal

pub returns-then-not-is_directory : goal.returns-then-not-is_directory
returns-then-not-is_directory c =
    no_directory c.args.image.now c.args.n _ (sym c.is_directory.ensures ∙ c.if-not-is_directory.true)

pub entry-entry-requires-clause-small : goal.entry-entry-requires-clause-small
entry-entry-requires-clause-small c =
    small c.args.version c.args.image.now c.args.n c.inode-inode.result c.inode-inode.ensures
    (sym c.is_directory.ensures ∙ c.if-not-is_directory.false)
    (c.requires c.args.n)

pub name_at-requires-clause-small : goal.name_at-requires-clause-small
name_at-requires-clause-small c =
    small c.args.version c.args.image.now c.args.n c.inode-inode.result c.inode-inode.ensures
    (sym c.is_directory.ensures ∙ c.if-not-is_directory.false)
    (c.requires c.args.n)

pub loop-number-init : goal.loop-number-init
loop-number-init c = record {
  good = λ e h. absurd (omega arith);
  names = λ q. ap (list_any (λ (k : Bor (List ℕ)). pointwise eqb q k.now)) c.in_ok-names.ensures.empty ∙ sym (no_some _);
}

pub returns-then-u32_at-eq0 : goal.returns-then-u32_at-eq0
returns-then-u32_at-eq0 c =
    let form = form_of c.args.version in
    let i = c.args.image.now in
    let n = c.args.n in
    let e = c.loop-number.number in
    let count : c.entry_count-count.result ≡ entry_count form (contents i) n
    = c.entry_count-count.ensures.value ∙ ap (entry_count_of form) c.inode-inode.ensures in
    let is = target_same c.args.version i n e c.inode-inode.result c.inode-inode.ensures c.entry-entry.result c.entry-entry.ensures in
    let used : is_free_at form i.geometry (contents i) n e ≡ false = ap (λ (t : ℕ). form.may_be_free && (nat_le 2 e && (t == 0))) (sym is)
    ∙ sym c.is_free.ensures ∙ c.if-is_free.false in
    sym (some_from (is_bad_entry form i.geometry (contents i) n) (entry_count form (contents i) n) e (omega arith)
    (bad_free form i n e used (eq-eqb _ 0 (sym is ∙ sym c.u32_at.ensures ∙ c.if-u32_at-eq0.true))))
    ∙ of_directory i n _ (sym c.is_directory.ensures ∙ c.if-not-is_directory.false)

pub returns-then-is_bad_name : goal.returns-then-is_bad_name
returns-then-is_bad_name c =
    let form = form_of c.args.version in
    let i = c.args.image.now in
    let n = c.args.n in
    let e = c.loop-number.number in
    let count : c.entry_count-count.result ≡ entry_count form (contents i) n
    = c.entry_count-count.ensures.value ∙ ap (entry_count_of form) c.inode-inode.ensures in
    let t = target_same c.args.version i n e c.inode-inode.result c.inode-inode.ensures c.entry-entry.result c.entry-entry.ensures in
    let used : is_free_at form i.geometry (contents i) n e ≡ false = ap (λ (k : ℕ). form.may_be_free && (nat_le 2 e && (k == 0))) (sym t)
    ∙ sym c.is_free.ensures ∙ c.if-is_free.false in
    let is = name_field_same c.args.version i n e c.inode-inode.result c.inode-inode.ensures c.entry-entry.result c.entry-entry.ensures in
    sym (some_from (is_bad_entry form i.geometry (contents i) n) (entry_count form (contents i) n) e (omega arith)
    (bad_field form i n e used (ap (λ b. nat_le 2 e && not b) (sym is) ∙ sym c.is_bad_name.ensures ∙ c.if-is_bad_name.true)))
    ∙ of_directory i n _ (sym c.is_directory.ensures ∙ c.if-not-is_directory.false)

pub returns-then-not-branch : goal.returns-then-not-branch
returns-then-not-branch c =
    let form = form_of c.args.version in
    let i = c.args.image.now in
    let n = c.args.n in
    let e = c.loop-number.number in
    let count : c.entry_count-count.result ≡ entry_count form (contents i) n
    = c.entry_count-count.ensures.value ∙ ap (entry_count_of form) c.inode-inode.ensures in
    let t = target_same c.args.version i n e c.inode-inode.result c.inode-inode.ensures c.entry-entry.result c.entry-entry.ensures in
    let used : is_free_at form i.geometry (contents i) n e ≡ false = ap (λ (k : ℕ). form.may_be_free && (nat_le 2 e && (k == 0))) (sym t)
    ∙ sym c.is_free.ensures ∙ c.if-is_free.false in
    let key = c.name_at.ensures ∙ is_named c.args.version i n e c.inode-inode.result c.inode-inode.ensures in
    let there = not-false _ (sym c.in_ok-insert.ensures.added ∙ c.if-not-branch.true) in
    sym (some_from (is_bad_entry form i.geometry (contents i) n) (entry_count form (contents i) n) e (omega arith)
    (bad_double form i n e used
    (sym (stands_earlier form i n c.loop-number.names.keys e c.name_at.result.now true c.loop-number.invariant.names key
    (sym there)))))
    ∙ of_directory i n _ (sym c.is_directory.ensures ∙ c.if-not-is_directory.false)

pub loop-number-preserved-then-is_free : goal.loop-number-preserved-then-is_free
loop-number-preserved-then-is_free c =
    let form = form_of c.args.version in
    let i = c.args.image.now in
    let n = c.args.n in
    let e = c.loop-number.number in
    let t = target_same c.args.version i n e c.inode-inode.result c.inode-inode.ensures c.entry-entry.result c.entry-entry.ensures in
    let free : is_free_at form i.geometry (contents i) n e ≡ true = ap (λ (k : ℕ). form.may_be_free && (nat_le 2 e && (k == 0))) (sym t)
    ∙ sym c.is_free.ensures ∙ c.if-is_free.true in
    let P : ℕ → Type 0 = λ e. is_bad_entry form i.geometry (contents i) n e ≡ false in
    record {
      good = below_more P e c.loop-number.invariant.good (free_good form i n e free);
      names = names_skip form i n c.loop-number.names.keys e c.loop-number.invariant.names free;
    }

pub loop-number-preserved : goal.loop-number-preserved
loop-number-preserved c =
    let form = form_of c.args.version in
    let i = c.args.image.now in
    let n = c.args.n in
    let e = c.loop-number.number in
    let is = target_same c.args.version i n e c.inode-inode.result c.inode-inode.ensures c.entry-entry.result c.entry-entry.ensures in
    let used : is_free_at form i.geometry (contents i) n e ≡ false = ap (λ (t : ℕ). form.may_be_free && (nat_le 2 e && (t == 0))) (sym is)
    ∙ sym c.is_free.ensures ∙ c.if-is_free.false in
    let field = name_field_same c.args.version i n e c.inode-inode.result c.inode-inode.ensures c.entry-entry.result c.entry-entry.ensures in
    let key = c.name_at.ensures ∙ is_named c.args.version i n e c.inode-inode.result c.inode-inode.ensures in
    let new = not-true _ (sym c.in_ok-insert.ensures.added ∙ c.if-not-branch.false) in
    let P : ℕ → Type 0 = λ e. is_bad_entry form i.geometry (contents i) n e ≡ false in
    record {
      good = below_more P e c.loop-number.invariant.good (good_entry form i n e
          (ne_eqb _ 0 (λ z. c.if-u32_at-eq0.false (c.u32_at.ensures ∙ is ∙ z)))
          (ap (λ b. nat_le 2 e && not b) (sym field) ∙ sym c.is_bad_name.ensures ∙ c.if-is_bad_name.false)
          (sym (stands_earlier form i n c.loop-number.names.keys e c.name_at.result.now false c.loop-number.invariant.names key
          (sym new))));
      names = names_more form i n c.loop-number.names.keys c.insert.new.self.keys e c.name_at.result.now c.loop-number.invariant.names used key
          (λ q. c.in_ok-insert.ensures.updates.0 (record { ref_ptr = (0, 0); now = q }));
    }

pub returns : goal.returns
returns c =
    let form = form_of c.args.version in
    let i = c.args.image.now in
    let n = c.args.n in
    let count : c.entry_count-count.result ≡ entry_count form (contents i) n
    = c.entry_count-count.ensures.value ∙ ap (entry_count_of form) c.inode-inode.ensures in
    sym (none_from (is_bad_entry form i.geometry (contents i) n) (entry_count form (contents i) n)
    (λ e h. c.loop-number.invariant.good e (omega arith)))
    ∙ of_directory i n _ (sym c.is_directory.ensures ∙ c.if-not-is_directory.false)
