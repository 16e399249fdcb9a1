use Rattle.std.proofs.Common.{◌≡◌, ◌≤◌, ◌+◌, sym, ap, ◌∙◌, arith}
use Rattle.std.specs.Prelude.{not, ◌==◌}
use Rattle.std.proofs.lemmas.Bool.{and_left, cond-true, cond-false}
use Rattle.volume.specs.Nodes.{is_marked}
use Rattle.volume.specs.Entries.{is_directory_inode}
use Rattle.fsck.specs.Findings.{all_names_of, links_of, subdirectories_of}
use Rattle.image.specs.Contents.{contents}
use Rattle.image.proofs.Contents.{inside}
use Rattle.fsck.proofs.Standing.{capped, no_links, many_links, other_links}
use Rattle.fsck.proofs.scan.homes.has_bad_links.Goals as goal
use Rattle.fsck.specs.Form.{form_of}

pub returns-then-not-is_marked : goal.returns-then-not-is_marked
returns-then-not-is_marked c =
    sym (and_left (is_marked c.args.image.now.geometry (contents c.args.image.now) c.args.n) _
    (sym c.is_marked.ensures ∙ c.if-not-is_marked.true))

pub returns-then-links-eq0 : goal.returns-then-links-eq0
returns-then-links-eq0 c =
    let form = form_of c.args.version in
    no_links form c.args.image.now c.args.n (sym c.is_marked.ensures ∙ c.if-not-is_marked.false)
    (sym c.links.ensures ∙ sym c.from-links.ensures ∙ c.if-links-eq0.true)

pub returns-then-links-gt32767 : goal.returns-then-links-gt32767
returns-then-links-gt32767 c =
    let form = form_of c.args.version in
    let is = c.from-links.ensures ∙ c.links.ensures in
    let many = c.if-links-gt32767.true in
    many_links form c.args.image.now c.args.n (sym c.is_marked.ensures ∙ c.if-not-is_marked.false) (omega arith)

pub returns-then-is_directory : goal.returns-then-is_directory
returns-then-is_directory c =
    let form = form_of c.args.version in
    let i = c.args.image.now in
    let n = c.args.n in
    let is = c.from-links.ensures ∙ c.links.ensures in
    let some = c.if-links-eq0.false in
    let few = c.if-links-gt32767.false in
    let wanted : 2 + c.subdirectories.result ≡ links_of form i.geometry (contents i) n
    = ap (λ k. 2 + k) c.subdirectories.ensures.value ∙ sym (cond-true (is_directory_inode i.geometry (contents i) n)
    (2 + subdirectories_of form i.geometry (contents i) n) _ (sym c.is_directory.ensures ∙ c.if-is_directory.true)) in
    ap (λ l. not (l == 2 + c.subdirectories.result)) is
    ∙ other_links form i n (sym c.is_marked.ensures ∙ c.if-not-is_marked.false) (λ e. some (is ∙ e)) (omega arith)
    (2 + c.subdirectories.result)
    (ap (λ k. ((contents i).inodes n).links == k) wanted)

pub bounds-named-n : goal.bounds-named-n
bounds-named-n c =
    let low = inside c.args.image.now c.args.n (sym c.is_marked.ensures ∙ c.if-not-is_marked.false) in let size
    = c.requires.named.named_size in omega arith

pub returns : goal.returns
returns c =
    let form = form_of c.args.version in
    let i = c.args.image.now in
    let n = c.args.n in
    let is = c.from-links.ensures ∙ c.links.ensures in
    let marked = sym c.is_marked.ensures ∙ c.if-not-is_marked.false in
    let some = c.if-links-eq0.false in
    let few = c.if-links-gt32767.false in
    let low : ((contents i).inodes n).links ≤ 32767 = omega arith in
    let wanted : links_of form i.geometry (contents i) n ≡ all_names_of form i.geometry (contents i) n
    = cond-false (is_directory_inode i.geometry (contents i) n) (2 + subdirectories_of form i.geometry (contents i) n) _
    (sym c.is_directory.ensures ∙ c.if-is_directory.false) in
    ap (λ l. not (l == c.from.result)) is
    ∙ other_links form i n marked (λ e. some (is ∙ e)) low c.from.result
    (ap (λ k. ((contents i).inodes n).links == k) (c.from.ensures ∙ c.requires.named.counted n (inside i n marked))
    ∙ capped form i ((contents i).inodes n).links (all_names_of form i.geometry (contents i) n) low
    ∙ ap (λ k. ((contents i).inodes n).links == k) (sym wanted))
