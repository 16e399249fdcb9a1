use Rattle.std.proofs.Common.{◌≡◌, ◌≤◌, ℕ, true, sym, ap, ◌∙◌, arith, slice_index}
use Rattle.std.specs.Prelude.{not, ◌||◌, ◌==◌}
use Rattle.std.proofs.lemmas.Bool.{eq-eqb, ne_eqb, or_left, or_right}
use Rattle.tree.specs.Names.{dot, dot_dot}
use Rattle.image.specs.Contents.{contents}
use Rattle.fsck.proofs.Directories.{no_directory, of_directory}
use Rattle.fsck.specs.Form.{form_of}
use Rattle.fsck.specs.Entries.{is_field, target_at}
use Rattle.fsck.proofs.EntryBytes.{two_entries, small, target_same, field_same, short_dot, short_dot_dot}
use Rattle.fsck.proofs.scan.dots.has_bad_dots.Goals as goal

pub returns-then-not-is_directory : goal.returns-then-not-is_directory
returns-then-not-is_directory c =
    no_directory c.args.image.now c.args.n _ (sym c.is_directory.ensures ∙ c.if-not-is_directory.true)

pub entry-first-requires-clause-there : goal.entry-first-requires-clause-there
entry-first-requires-clause-there c =
    two_entries c.args.version c.args.image.now c.args.n c.inode-inode.result c.inode-inode.ensures
    (sym c.is_directory.ensures ∙ c.if-not-is_directory.false) (c.requires c.args.n) 0 (omega arith)

pub entry-first-requires-clause-small : goal.entry-first-requires-clause-small
entry-first-requires-clause-small c =
    small c.args.version c.args.image.now c.args.n c.inode-inode.result c.inode-inode.ensures
    (sym c.is_directory.ensures ∙ c.if-not-is_directory.false)
    (c.requires c.args.n)

pub entry-requires-clause-there : goal.entry-requires-clause-there
entry-requires-clause-there c =
    two_entries c.args.version c.args.image.now c.args.n c.inode-inode.result c.inode-inode.ensures
    (sym c.is_directory.ensures ∙ c.if-not-is_directory.false) (c.requires c.args.n) 1 (omega arith)

pub entry-requires-clause-small : goal.entry-requires-clause-small
entry-requires-clause-small c =
    small c.args.version c.args.image.now c.args.n c.inode-inode.result c.inode-inode.ensures
    (sym c.is_directory.ensures ∙ c.if-not-is_directory.false)
    (c.requires c.args.n)

pub returns-then-not-is_field : goal.returns-then-not-is_field
returns-then-not-is_field c =
    let form = form_of c.args.version in
    let i = c.args.image.now in
    let n = c.args.n in
    let out = sym (field_same c.args.version i n 0 c.inode-inode.result c.inode-inode.ensures c.entry-first.result c.entry-first.ensures dot (short_dot c.args.version))
    ∙ sym c.is_field.ensures ∙ c.if-not-is_field.true in
    sym (or_left (not (is_field form i.geometry (contents i) n 0 dot) || not (target_at form i.geometry (contents i) n 0 == n))
    (not (is_field form i.geometry (contents i) n 1 dot_dot))
    (or_left (not (is_field form i.geometry (contents i) n 0 dot)) (not (target_at form i.geometry (contents i) n 0 == n))
    (ap not out)))
    ∙ of_directory i n _ (sym c.is_directory.ensures ∙ c.if-not-is_directory.false)

pub returns-then-u32_at-n : goal.returns-then-u32_at-n
returns-then-u32_at-n c =
    let form = form_of c.args.version in
    let i = c.args.image.now in
    let n = c.args.n in
    let is = c.u32_at.ensures ∙ target_same c.args.version i n 0 c.inode-inode.result c.inode-inode.ensures c.entry-first.result c.entry-first.ensures in
    sym (or_left (not (is_field form i.geometry (contents i) n 0 dot) || not (target_at form i.geometry (contents i) n 0 == n))
    (not (is_field form i.geometry (contents i) n 1 dot_dot))
    (or_right (not (is_field form i.geometry (contents i) n 0 dot)) (not (target_at form i.geometry (contents i) n 0 == n))
    (ap not (ne_eqb (target_at form i.geometry (contents i) n 0) n (λ e. c.if-u32_at-n.true (is ∙ e))))))
    ∙ of_directory i n _ (sym c.is_directory.ensures ∙ c.if-not-is_directory.false)

pub returns : goal.returns
returns c =
    let form = form_of c.args.version in
    let i = c.args.image.now in
    let n = c.args.n in
    let first : is_field form i.geometry (contents i) n 0 dot ≡ true
    = sym (field_same c.args.version i n 0 c.inode-inode.result c.inode-inode.ensures c.entry-first.result c.entry-first.ensures dot
    (short_dot c.args.version))
    ∙ sym c.is_field.ensures ∙ c.if-not-is_field.false in
    let is = c.u32_at.ensures ∙ target_same c.args.version i n 0 c.inode-inode.result c.inode-inode.ensures c.entry-first.result c.entry-first.ensures in
    let own : (target_at form i.geometry (contents i) n 0 == n) ≡ true
    = eq-eqb (target_at form i.geometry (contents i) n 0) n (sym is ∙ c.if-u32_at-n.false) in
    ap not (c.is_field-2.ensures ∙ field_same c.args.version i n 1 c.inode-inode.result c.inode-inode.ensures c.entry.result c.entry.ensures dot_dot
    (short_dot_dot c.args.version))
    ∙ sym (λ j. (not (first j) || not (own j)) || not (is_field form i.geometry (contents i) n 1 dot_dot))
    ∙ of_directory i n _ (sym c.is_directory.ensures ∙ c.if-not-is_directory.false)
