-- A written volume says the old one's nodes, and the check finds nothing in it.
use Rattle.std.proofs.Common.{◌≡◌, ◌≢◌, ◌<◌, ◌≤◌, ◌+◌, ◌-◌, ◌%◌, ℕ, zero, suc, length, slice_index, Bool, true, false, refl, sym, ap, ◌∙◌}
use Rattle.std.proofs.Common.{cond, arith}
use mathlib.Core.Logic.{inl, inr}
use Rattle.std.specs.Prelude.{not, ◌==◌, ◌&&◌, ◌||◌, nat_lt, Some, None}
use Rattle.std.proofs.lemmas.Bool.{cases_Bool, cases_eq, cond-true, cond-false, eq-eqb, eqb-true, ne_eqb, and_from, and_parts, or_from}
use Rattle.std.proofs.lemmas.Bool.{le-ltb}
use Rattle.layout.specs.declared.Geometry.{Geometry}
use Rattle.lemmas.specs.Sums.{sum_below, count_below, some_below, one_if}
use Rattle.lemmas.proofs.Maps.{same_sum}
use Rattle.lemmas.proofs.Bools.{not_false}
use Rattle.tree.specs.Tree.{is_file, is_directory, most_size, most_links}
use Rattle.tree.specs.Space.{zones_of}
use Rattle.volume.specs.declared.Inode.{Inode}
use Rattle.volume.specs.Pieces.{Pieces}
use Rattle.volume.specs.Nodes as nodes_3
use Rattle.volume.specs.Nodes.{file_byte, file_of, page_zone, is_marked, is_directory_mode, is_link_mode, permissions_in}
use Rattle.volume.specs.Entries as entries_3
use Rattle.volume.specs.Entries.{is_directory_inode, is_link_inode}
use Rattle.volume.specs.Findings as findings_3
use Rattle.volume.specs.Holds.{IsSound as SoundVolume}
use Rattle.volume.specs.Verdict.{Clean, place_limit, verdict_of_pieces}
use Rattle.volume.proofs.Sums.{same_some, none_from, none_below}
use Rattle.volume.proofs.Quiet.{guard_false, quiet_clean}
use Rattle.volume.proofs.QuietSound.{not_false_from, quiet_numbers, quiet_uses, quiet_bits, quiet_ends, quiet_holes, quiet_dots}
use Rattle.volume.proofs.QuietSound.{quiet_entries}
use Rattle.volume.proofs.Ranges.{at_inode, at_dir, at_link, marked_low}
use Rattle.volume.proofs.Volumes.{IsVolume}
use Rattle.image.specs.declared.Image.{Image}
use Rattle.image.specs.Contents.{contents}
use Rattle.fsck.specs.declared.version.Version.TheVariants.{V2}
use Rattle.fsck.proofs.EntryBytes.{two_entries}
use Rattle.fsck.specs.Form.{version_2}
use Rattle.fsck.specs.Nodes as nodes_2
use Rattle.fsck.specs.Nodes.{entry_count_of}
use Rattle.fsck.specs.Entries as entries_2
use Rattle.fsck.specs.Findings as findings_2
use Rattle.migrate.specs.Holds.{IsSound}
use Rattle.migrate.specs.Used.{SizesAreGood}
use Rattle.migrate.specs.Written.{SameAttributes}
use Rattle.migrate.specs.Written.{IsWritten, IsMovedDirectory, kept_of}
use Rattle.migrate.proofs.Quiet.{Quiet}
use Rattle.migrate.proofs.WrittenZones.{marked_is, mode_same, short}
use Rattle.migrate.proofs.WrittenFiles.{file_moved}
use Rattle.migrate.proofs.WrittenDirectories.{bytes_moved}
use Rattle.migrate.proofs.WrittenEntries.{number_kept}
use Rattle.migrate.proofs.WrittenNames.{directory_moved, many, old_of}
use Rattle.migrate.proofs.WrittenTree.{count_kept}

-- negations that agree are of the same
not_same : (a b : Bool) → not a ≡ not b → a ≡ b
not_same true true e = refl
not_same true false e = sym e
not_same false true e = sym e
not_same false false e = refl

module _ (i : Image) (h : Geometry) (w : Pieces) (sound : IsSound version_2 i.geometry (contents i)) (good : SizesAreGood i)
    (block : i.geometry.block_size ≡ 1024) (inodes : h.inodes ≡ i.geometry.inodes) (front : 0 < h.first_zone)
    (written : IsWritten i.geometry (contents i) h w) (new : h.block_size ≡ 1024) where
  abbrev g : Geometry
  g = i.geometry

  abbrev v : Pieces
  v = contents i

  abbrev takes : ℕ → ℕ
  takes n = zones_of g (nodes_2.nodes_of version_2 g v n)

  -- the same inodes are marked
  marked : (n : ℕ) → is_marked h w n ≡ is_marked g v n
  marked = marked_is i h w sound good block inodes front written

  module _ (n : ℕ) (is : is_marked g v n ≡ true) where
    abbrev x : Inode
    x = v.inodes n

    abbrev y : Inode
    y = w.inodes n

    -- the mode is the same
    mode : x.mode ≡ y.mode
    mode = mode_same i h w sound good block inodes front written n is

    -- and the other attributes
    attributes : SameAttributes x y
    attributes = elim (cases_Bool (is_directory_mode x.mode)) [
      | inl dir ↦ ((written.nodes n is).directory dir).moved.attributes
      | inr out ↦ ((written.nodes n is).other out).attributes
    ]

    -- a file is the same
    file : is_directory_mode x.mode ≡ false → file_of g v x ≡ file_of h w y
    file out = file_moved g h v w block new n (h.first_zone + sum_below takes n) (omega arith) ((written.nodes n is).other out)

    module _ (dir : is_directory_mode x.mode ≡ true) where
      abbrev d : IsMovedDirectory g v w.zones (h.first_zone + sum_below takes n) x y
      d = (written.nodes n is).directory dir

      -- its bytes
      reading : (q : ℕ) → q < length d.bytes → file_byte h w y q ≡ slice_index d.bytes q
      reading = bytes_moved h w new n (h.first_zone + sum_below takes n) (omega arith) d.bytes
          (short i h w sound good block inodes front written n is dir d) x d.moved

      -- it has two entries
      two : 2 ≤ entry_count_of version_2 x
      two = let low = two_entries V2 i n x refl (and_from (is_marked g v n) _ is dir) (good n) 1 (omega arith) in omega arith

      -- it is the same
      directory : nodes_2.directory_of version_2 g v x ≡ nodes_3.directory_of h w y
      directory = directory_moved i h w n d.bytes d.entries reading d.moved.size two

      -- how many entries past the first two lead to what passes
      entries_same : (q : ℕ → Bool) → q 0 ≡ false → count_below (λ e. q (entries_3.target_at h w n (e + 2))) (entries_3.entry_count w n - 2)
          ≡ count_below (λ e. q (entries_2.target_at version_2 g v n (e + 2))) (entries_2.entry_count version_2 v n - 2)
      entries_same q none =
          let c = entry_count_of version_2 x in
          let some = two in
          let all : c - 2 + 2 ≡ c = omega arith in
          let as_many = many i h w n d.bytes d.entries reading d.moved.size two in
          let there : kept_of (file_byte g v x) (c - 2 + 2) ≡ entries_3.entry_count w n = ap (kept_of (file_byte g v x)) all
          ∙ sym as_many in
          ap (λ k. count_below (λ e. q (entries_3.target_at h w n (e + 2))) (k - 2)) (sym there)
          ∙ sym (count_kept (file_byte g v x) (file_byte h w y) c d.bytes d.entries reading q none (c - 2) (omega arith))

      -- an entry leads to a marked inode
      target_there : (e : ℕ) → e < entries_3.entry_count w n
          → some_below (findings_2.is_lost version_2 g v n) (entries_2.entry_count version_2 v n) ≡ false
          → is_marked g v (entries_3.target_at h w n e) ≡ true
      target_there e l none =
          let o = old_of i h w n d.bytes d.entries reading d.moved.size two e l in
          let lost = none_below (findings_2.is_lost version_2 g v n) (entries_2.entry_count version_2 v n) none o.old o.low in
          let number = number_kept (file_byte g v x) (file_byte h w y)
          (entry_count_of version_2 x) d.bytes d.entries reading o.old o.low o.used
          ∙ ap (nodes_3.entry_inode (file_byte h w y)) o.at in
          ap (is_marked g v) (sym number)
          ∙ not_false _ (sym (ap (λ b. not b && not (is_marked g v (entries_2.target_at version_2 g v n o.old))) o.used) ∙ lost)

      -- where its entry .. leads
      parent_same : entries_3.target_at h w n 1 ≡ entries_2.target_at version_2 g v n 1
      parent_same = sym (ap (λ d. d.parent) directory)

    -- the body is the same
    body : nodes_2.body_of version_2 g v x ≡ nodes_3.body_of h w y
    body = elim (cases_Bool (is_directory_mode x.mode)) [
      | inl dir ↦
          cond-true (is_directory_mode x.mode) (is_directory (nodes_2.directory_of version_2 g v x)) (is_file (file_of g v x)) dir
          ∙ ap is_directory (directory dir)
          ∙ sym (cond-true (is_directory_mode y.mode) (is_directory (nodes_3.directory_of h w y)) (is_file (file_of h w y))
          (ap is_directory_mode (sym mode) ∙ dir))
      | inr out ↦
          cond-false (is_directory_mode x.mode) (is_directory (nodes_2.directory_of version_2 g v x)) (is_file (file_of g v x)) out
          ∙ ap is_file (file out)
          ∙ sym (cond-false (is_directory_mode y.mode) (is_directory (nodes_3.directory_of h w y)) (is_file (file_of h w y))
          (ap is_directory_mode (sym mode) ∙ out))
    ]

    -- the node is the same
    node : nodes_2.node_of version_2 g v x ≡ nodes_3.node_of h w y
    node =
        let a = attributes in
        let b = body in
        λ i. record {
          permissions = permissions_in (a.mode i);
          symbolic = is_link_mode (a.mode i);
          uid = a.uid i;
          gid = a.gid i;
          links = a.links i;
          atime = a.atime i;
          mtime = a.mtime i;
          ctime = a.ctime i;
          body = b i;
        }

  -- all nodes are the same
  pub nodes_moved : nodes_2.nodes_of version_2 g v ≡ nodes_3.nodes_of h w
  nodes_moved = λ i n. each n i
    where
      each : (n : ℕ) → nodes_2.nodes_of version_2 g v n ≡ nodes_3.nodes_of h w n
      each n = elim (cases_Bool (is_marked g v n)) [
        | inl is ↦
            cond-true (is_marked g v n) (Some (nodes_2.node_of version_2 g v (v.inodes n))) None is ∙ ap Some (node n is)
            ∙ sym (cond-true (is_marked h w n) (Some (nodes_3.node_of h w (w.inodes n))) None (marked n ∙ is))
        | inr out ↦
            cond-false (is_marked g v n) (Some (nodes_2.node_of version_2 g v (v.inodes n))) None out
            ∙ sym (cond-false (is_marked h w n) (Some (nodes_3.node_of h w (w.inodes n))) None (marked n ∙ out))
      ]

  -- the same are directories
  dir_is : (n : ℕ) → is_directory_inode h w n ≡ is_directory_inode g v n
  dir_is n = elim (cases_Bool (is_marked g v n)) [
    | inl is ↦ let same = sym (mode n is) in λ j. marked n j && is_directory_mode (same j)
    | inr out ↦ ap (λ b. b && is_directory_mode (w.inodes n).mode) (marked n ∙ out)
        ∙ sym (ap (λ b. b && is_directory_mode (v.inodes n).mode) out)
  ]

  -- as many names of a directory lead to an inode
  names_same : (n m : ℕ) → m ≢ 0 → findings_3.names_in_of h w n m ≡ findings_2.names_in_of version_2 g v n m
  names_same n m some = elim (cases_Bool (is_directory_inode g v n)) [
    | inl is ↦
        let parts = and_parts (is_marked g v n) (is_directory_mode (v.inodes n).mode) is in
        cond-true (is_directory_inode h w n) _ 0 (dir_is n ∙ is)
        ∙ entries_same n parts.0 parts.1 (λ t. t == m) (ne_eqb 0 m (λ o. some (sym o)))
        ∙ sym (cond-true (is_directory_inode g v n) _ 0 is)
    | inr out ↦ cond-false (is_directory_inode h w n) _ 0 (dir_is n ∙ out) ∙ sym (cond-false (is_directory_inode g v n) _ 0 out)
  ]

  -- and of all
  all_names_same : (m : ℕ) → m ≢ 0 → findings_3.all_names_of h w m ≡ findings_2.all_names_of version_2 g v m
  all_names_same m some =
      same_sum _ _ (h.inodes + 1) (λ n _. names_same n m some)
      ∙ ap (λ k. sum_below (λ n. findings_2.names_in_of version_2 g v n m) (k + 1)) inodes

  -- the same inodes are reached
  reached_same : (k n : ℕ) → n ≢ 0 → findings_3.is_reached h w k n ≡ findings_2.is_reached version_2 g v k n
  reached_same zero n some = refl
  reached_same (suc k) n some =
      let each : (m : ℕ) → (nat_lt 0 (findings_3.names_in_of h w m n) && findings_3.is_reached h w k m)
      ≡ (nat_lt 0 (findings_2.names_in_of version_2 g v m n) && findings_2.is_reached version_2 g v k m) = λ m. elim (cases_eq m 0) [
        | inl o ↦
            ap (λ m. nat_lt 0 (findings_3.names_in_of h w m n) && findings_3.is_reached h w k m) o
            ∙ sym (ap (λ m. nat_lt 0 (findings_2.names_in_of version_2 g v m n) && findings_2.is_reached version_2 g v k m) o)
        | inr d ↦ let names = names_same m n some in let before = reached_same k m d in λ j. nat_lt 0 (names j) && before j
      ] in
      let others = same_some _ _ (h.inodes + 1) (λ m _. each m)
      ∙ ap (λ c. some_below (λ m. nat_lt 0 (findings_2.names_in_of version_2 g v m n) && findings_2.is_reached version_2 g v k m) (c + 1))
      inodes in
      let before = reached_same k n some in
      λ j. before j || others j

  -- as many links are due
  links_same : (n : ℕ) → n ≢ 0 → findings_3.links_of h w n ≡ findings_2.links_of version_2 g v n
  links_same n some = elim (cases_Bool (is_directory_inode g v n)) [
    | inl is ↦
        let parts = and_parts (is_marked g v n) (is_directory_mode (v.inodes n).mode) is in
        let subdirectories : findings_3.subdirectories_of h w n ≡ findings_2.subdirectories_of version_2 g v n
        = same_sum _ _ (entries_3.entry_count w n - 2) (λ e _. ap one_if (dir_is (entries_3.target_at h w n (e + 2))))
        ∙ entries_same n parts.0 parts.1 (is_directory_inode g v) refl in
        cond-true (is_directory_inode h w n) _ _ (dir_is n ∙ is) ∙ ap (λ k. 2 + k) subdirectories
        ∙ sym (cond-true (is_directory_inode g v n) _ _ is)
    | inr out ↦
        cond-false (is_directory_inode h w n) _ _ (dir_is n ∙ out) ∙ all_names_same n some
        ∙ sym (cond-false (is_directory_inode g v n) _ _ out)
  ]

  module _ (ok : IsVolume h w) (s : SoundVolume h w) (q : Quiet g v) (fits : (n : ℕ) → is_marked h w n ≡ true
      → (w.inodes n).size ≤ most_size) where
    -- finding 14
    quiet_targets : (n : ℕ) → findings_3.has_bad_target h w n ≡ false
    quiet_targets n = guard_false (is_directory_inode h w n) _ (λ is.
        let dir = sym (dir_is n) ∙ is in
        let parts = and_parts (is_marked g v n) (is_directory_mode (v.inodes n).mode) dir in
        let none = at_dir g v (λ n. some_below (findings_2.is_lost version_2 g v n)
        (entries_2.entry_count version_2 v n)) n q.targets dir in
        none_from _ (entries_3.entry_count w n) (λ e l.
        not_false_from _ (marked (entries_3.target_at h w n e) ∙ target_there n parts.0 parts.1 e l none)))

    -- finding 15
    quiet_places : (n : ℕ) → findings_3.is_misplaced h w n ≡ false
    quiet_places n = guard_false (is_directory_inode h w n) _ (λ is.
        let dir = sym (dir_is n) ∙ is in
        let parts = and_parts (is_marked g v n) (is_directory_mode (v.inodes n).mode) dir in
        let some : n ≢ 0 = λ o. let low = (marked_low g v n parts.0).0 in absurd (omega arith) in
        let none = at_dir g v (λ n. not (findings_2.is_reached version_2 g v g.inodes n)
        || not (findings_2.all_names_of version_2 g v n == one_if (not (n == 1)))
        || not (findings_2.is_parent version_2 g v n (entries_2.target_at version_2 g v n 1))) n q.places dir in
        let reached = reached_same h.inodes n some ∙ ap (λ k. findings_2.is_reached version_2 g v k n) inodes in
        let names = all_names_same n some in
        let up = parent_same n parts.0 parts.1 in
        let parent : findings_3.is_parent h w n (entries_3.target_at h w n 1)
        ≡ findings_2.is_parent version_2 g v n (entries_2.target_at version_2 g v n 1)
        = ap (λ m. findings_3.is_parent h w n m) up
        ∙ ap (λ k. cond (n == 1) (entries_2.target_at version_2 g v n 1 == 1) (nat_lt 0 k))
        (names_same (entries_2.target_at version_2 g v n 1) n some) in
        (λ j. not (reached j) || not (names j == one_if (not (n == 1))) || not (parent j)) ∙ none)

    -- finding 16
    quiet_links : (n : ℕ) → findings_3.has_bad_links h w n ≡ false
    quiet_links n = guard_false (is_marked h w n) _ (λ is.
        let there = sym (marked n) ∙ is in
        let some : n ≢ 0 = λ o. let low = (marked_low g v n there).0 in absurd (omega arith) in
        let none = at_inode g v (λ n. not ((v.inodes n).links == findings_2.links_of version_2 g v n) || ((v.inodes n).links == 0)
        || nat_lt most_links (v.inodes n).links) n q.links there in
        let links = sym (attributes n there).links in
        let due = links_same n some in
        (λ j. not (links j == due j) || (links j == 0) || nat_lt most_links (links j)) ∙ none)

    -- a link is no directory
    link_file : (k : ℕ) → is_link_mode k ≡ true → is_directory_mode k ≡ false
    link_file k is =
        let ten = eqb-true (nodes_3.type_in k) 10 is in
        ne_eqb (nodes_3.type_in k) 4 (λ e. absurd (omega arith))

    -- finding 17
    quiet_link : (n : ℕ) → findings_3.has_bad_link h w n ≡ false
    quiet_link n = guard_false (is_link_inode h w n) _ (λ is.
        let parts = and_parts (is_marked h w n) (is_link_mode (w.inodes n).mode) is in
        let there = sym (marked n) ∙ parts.0 in
        let link : is_link_mode (v.inodes n).mode ≡ true = ap is_link_mode (mode n there) ∙ parts.1 in
        let none = at_link g v (λ n. findings_3.is_bad_link_size g v (v.inodes n).size || (page_zone g v (v.inodes n) 0 == 0)
        || some_below (λ p. file_byte g v (v.inodes n) p == 0) (v.inodes n).size) n q.link_targets
        (and_from (is_marked g v n) _ there link) in
        let same = file n there (link_file (v.inodes n).mode link) in
        let size : (w.inodes n).size ≡ (v.inodes n).size = sym (ap (λ f. f.size) same) in
        let hole : (page_zone h w (w.inodes n) 0 == 0) ≡ (page_zone g v (v.inodes n) 0 == 0)
        = sym (not_same _ _ (ap (λ f. f.held 0) same)) in
        let bytes : file_byte h w (w.inodes n) ≡ file_byte g v (v.inodes n) = sym (ap (λ f. f.byte) same) in
        (λ j. findings_3.is_bad_link_size h w (size j) || hole j || some_below (λ p. bytes j p == 0) (size j)) ∙ none)

    -- finding 6
    quiet_sizes : (n : ℕ) → findings_3.has_bad_size h w n ≡ false
    quiet_sizes n = guard_false (is_marked h w n) _ (λ is. or_from _ _ (le-ltb most_size (w.inodes n).size (fits n is))
        (guard_false (is_directory_inode h w n) _ (λ dir.
        let rules = s.directories n dir in
        let two = rules.two in
        or_from _ _ (le-ltb (w.inodes n).size 128 (omega arith)) (not_false_from _ (eq-eqb ((w.inodes n).size % 64) 0 rules.sized)))))

    -- inode 1 is a directory
    root : is_directory_inode h w 1 ≡ true
    root = dir_is 1 ∙ not_false _ (none_below (λ n. (n == 1) && not (is_directory_inode g v 1)) (place_limit g) q.root 1 (omega arith))

    -- nothing is found
    pub clean : verdict_of_pieces h w ≡ Clean
    clean =
        let l = place_limit h in
        quiet_clean h w (record {
          inode_bit = none_from _ l (λ p _. guard_false (p == 0) _ (λ _. not_false_from _ s.zones.inode_bit_0));
          zone_bit = none_from _ l (λ p _. guard_false (p == 0) _ (λ _. not_false_from _ s.zones.zone_bit_0));
          root = none_from _ l (λ n _. guard_false (n == 1) _ (λ _. not_false_from _ root));
          modes = none_from _ l (λ n _. guard_false (is_marked h w n) _ (λ is. not_false_from _ (s.inodes n is).mode));
          sizes = none_from _ l (λ n _. quiet_sizes n);
          numbers = none_from _ l (λ n _. quiet_numbers h w ok s n);
          twice = none_from _ l (λ z _. quiet_uses h w ok s z);
          bits = none_from _ l (λ z _. quiet_bits h w ok s z);
          ends = none_from _ l (λ n _. quiet_ends h w ok s n);
          holes = none_from _ l (λ n _. quiet_holes h w ok s n);
          dots = none_from _ l (λ n _. quiet_dots h w ok s n);
          entries = none_from _ l (λ n _. quiet_entries h w ok s n);
          targets = none_from _ l (λ n _. quiet_targets n);
          places = none_from _ l (λ n _. quiet_places n);
          links = none_from _ l (λ n _. quiet_links n);
          link_targets = none_from _ l (λ n _. quiet_link n);
        })
