use Rattle.std.proofs.Common.{ℕ, ◌∙◌, ap, map, sym}
use Rattle.std.specs.BTreeMap.{BTreeMap, is_at}
use Rattle.std.specs.Option.{option_map}
use Rattle.std.specs.Ordering.{nat_cmp}
use Rattle.ninep_fids.specs.Knowledge.{entry_of, file_of, table_of}
use Rattle.ninep_fids.specs.declared.fid.Fid.{Fid}
use Rattle.ninep_fids.proofs.Tables.{lookup_seen, set_seen, set_none}
use Rattle.ninep_fids.proofs.fids.Fids.replace.Goals as goal

pub returns-in-Some : goal.returns-in-Some
returns-in-Some c =
    ap (map entry_of) (c.get_mut.follows.holds c.args.what).0
    ∙ set_seen (is_at (nat_cmp c.args.fid)) c.args.self.now.fids.entries c.args.what

pub returns-in-None : goal.returns-in-None
returns-in-None c =
    ap (λ (m : BTreeMap ℕ Fid). map entry_of m.entries) c.get_mut.follows.holds-at-none
    ∙ sym (set_none (is_at (nat_cmp c.args.fid)) (table_of c.args.self.now) (file_of c.args.what)
    (lookup_seen (is_at (nat_cmp c.args.fid)) c.args.self.now.fids.entries ∙ ap (option_map file_of) (sym c.in-None.ensures.value)))
