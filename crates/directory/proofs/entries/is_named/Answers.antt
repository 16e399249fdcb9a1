use Rattle.std.proofs.Common.{◌≡◌, ◌*◌, ◌+◌, ◌-◌, ℕ, length, take, drop, ap, sym, ◌∙◌, true, false, arith}
use Rattle.std.specs.Ordering.{eq_by_cmp}
use Rattle.tree.specs.Names.{name_cmp}
use Rattle.std.specs.Prelude.{slice_index}
use Rattle.volume.specs.Nodes.{entry_name}
use Rattle.volume.proofs.Entries.{cmp_apart}
use Rattle.directory.proofs.Names.{names_stand, same_decides}
use Rattle.directory.proofs.entries.is_named.Goals as goal
use Rattle.directory.proofs.entries.is_named.Goals.{then-name-gt60-via-then-name-gt60, then-name-gt60-via-else-name-gt60+then-not-is_same}

pub returns-then-name-gt60 : goal.returns-then-name-gt60
returns-then-name-gt60 c =
    let a = c.args in
    sym (cmp_apart a.name.now (entry_name (slice_index a.bytes.now) a.e) (λ is.
    let there = names_stand a.bytes.now a.e a.name.now c.requires is in
    elim c.then-name-gt60.branch [
      | then-name-gt60-via-then-name-gt60 w ↦ omega (arith, there.0, w.if-name-gt60)
      | then-name-gt60-via-else-name-gt60+then-not-is_same w ↦
          let name = a.name.now in
          let there_on = drop (64 * a.e + 4) a.bytes.now in
          let wide : 64 * a.e + 4 + length name - (64 * a.e + 4) ≡ length name = omega arith in
          let same : eq_by_cmp name_cmp name (take (length name) there_on) ≡ true = (same_decides name (take (length name) there_on)).1 (sym there.1) in
          let other : eq_by_cmp name_cmp name (take (length name) there_on) ≡ false =
          ap (λ (n : ℕ). eq_by_cmp name_cmp name (take n there_on)) (sym wide) ∙ sym w.is_same.ensures ∙ w.if-not-is_same.true in
          let no : true ≡ false = sym same ∙ other in
          cc
    ]))
