-- What the making of a log's volume does to a store, call by call.
use Rattle.std.proofs.Common.{◌≡◌, ℕ, ◌+◌, ◌*◌, ◌<◌, ◌≤◌, ◌⊎◌, inl, inr, Bool, true, false, cond, List, [], ◌∷◌, ◌++◌, length, length-append, mul-le-mul_right, Some, refl, sym, ap, ap₂, subst, subst₂, ◌∙◌, arith}
use Rattle.std.specs.Prelude.{Err, Ok, OnErr, Result, slice_index}
use Rattle.std.specs.List.{flat_map, slice_get}
use Rattle.std.proofs.lemmas.Bool.{true≢false}
use Rattle.std.proofs.lemmas.Option.{slice_get-get_or}
use Rattle.sm_base.specs.Names.{spelling}
use Rattle.sm_base.specs.declared.names.Name.{Name}
use Rattle.sm_base.specs.declared.names.Name.TheVariants.{Cbt}
use Rattle.sm_disk.specs.Held.{Held, Keeps, May, reads}
use Rattle.sm_disk.proofs.HeldLaws.{Keeps-then, may_settled}
use Rattle.vg_meta.specs.Changes.{AreFree, Permits, applied, made, tagged, with_row}
use Rattle.vg_meta.specs.Roomy.{table_alone}
use Rattle.vg_meta.specs.Tables.{Row, VolumeTable, extents_of, name_eq, rows}
use Rattle.vg_meta.specs.Text.{extents_by, flags_of, text, volume_by, volume_text}
use Rattle.vg_meta.specs.declared.grammars.Grammar.TheVariants.{Segmented}
use Rattle.vg_meta.specs.declared.changes.Tag.TheVariants.{Fresh}
use Rattle.vg_meta.proofs.ExtentLaws.{below_times, distinct-times, one_place, slice_get-times}
use Rattle.vg_meta.proofs.RowLaws.{row_of-put_same, row_of-with_row_same}
use Rattle.vg_meta.proofs.WriteLaws.{length-text}
use Rattle.vg_volumes.specs.Sites.{Fits, Site, area_size}
use Rattle.vg_volumes.specs.Stored.{CanCommit, Commits, FailsToCommit, IsChoiceOf, IsEitherOf, Stored, WorksOn, held_in, sectors_in, stored}
use Rattle.vg_volumes.specs.Volumes.{AreIn, IsElsewhere, KeepsElsewhere, piece, span, spot, volume}
use Rattle.vg_volumes.specs.declared.stores.Store.{Ghosts}
use Rattle.vg_volumes.proofs.SpotLaws.{spot_below}
use Rattle.vg_volumes.proofs.VolumeLaws.{KeepsAt-keeps, KeepsAt-then, Keeps-volume, volume_reads}
use Rattle.sm_log.specs.Heads.{IsHead}
use Rattle.sm_log.specs.Logs.{Log, log_sectors}
use Rattle.sm_cbt.specs.Making.{AreOf, FailsToMake, IsBegun, IsMaking, Makes, MayMake, WritesOnly, begun_table, creating, finishing, head_of, made_table}
use Rattle.sm_cbt.proofs.FillLaws.{of_same}
use Rattle.sm_cbt.proofs.SpellLaws.{spells_it}

pub on_err : {T E : Type 0} {P : Type 0} (r : Result T E) → P → OnErr r P
on_err (Ok v) p = tt
on_err (Err e) p = p

-- ---- the tables

pub begun_there : (s : Site) (t : VolumeTable) (l : Log) (es : List ℕ) → MayMake s t l es → rows (begun_table t l es) (Cbt l.disk) ≡ Some (made (Cbt l.disk) true es)
begun_there s t l es m = row_of-put_same t.volumes (made (Cbt l.disk) true es) m.allowed.new_name

pub made_there : (s : Site) (t : VolumeTable) (l : Log) (es : List ℕ) → MayMake s t l es → rows (made_table t l es) (Cbt l.disk) ≡ Some (made (Cbt l.disk) false es)
made_there s t l es m = row_of-with_row_same (begun_table t l es).volumes (Cbt l.disk) (tagged Fresh false) (made (Cbt l.disk) true es) (λ r. refl) (begun_there s t l es m)

-- the second commit is allowed
may_finish : (s : Site) (t : VolumeTable) (l : Log) (es : List ℕ) → MayMake s t l es → Permits s.count (begun_table t l es) (finishing l)
may_finish s t l es m = record { row = made (Cbt l.disk) true es; there = begun_there s t l es m; taking = refl; otherwise = refl }

-- and its table is as long as the one before it
row_long : (on : Bool) (r : Row) → length (volume_text (tagged Fresh on r)) ≡ length (volume_text r)
unfolding volume_by
row_long on r = omega (arith, length-append (spelling r.name) (flags_of r.hidden on ∷ extents_by Segmented r.extents), length-append (spelling r.name) (flags_of r.hidden r.fresh ∷ extents_by Segmented r.extents))

mark_case : (on b : Bool) (r : Row) (rs more : List Row) → length (flat_map volume_text more) ≡ length (flat_map volume_text rs)
    → length (flat_map volume_text (cond b (tagged Fresh on r ∷ rs) (r ∷ more))) ≡ length (volume_text r ++ flat_map volume_text rs)
mark_case on true r rs more rest =
    omega (arith, length-append (volume_text (tagged Fresh on r)) (flat_map volume_text rs), length-append (volume_text r) (flat_map volume_text rs), row_long on r)
mark_case on false r rs more rest = omega (arith, length-append (volume_text r) (flat_map volume_text more), length-append (volume_text r) (flat_map volume_text rs), rest)

mark_long : (n : Name) (on : Bool) (rs : List Row) → length (flat_map volume_text (with_row n (tagged Fresh on) rs)) ≡ length (flat_map volume_text rs)
unfolding with_row
mark_long n on [] = refl
mark_long n on (r ∷ rs) = mark_case on (name_eq r.name n) r rs (with_row n (tagged Fresh on) rs) (mark_long n on rs)

finish_fits : (s : Site) (t : VolumeTable) (l : Log) (es : List ℕ) → MayMake s t l es → Fits s.count (begun_table t l es) (finishing l)
finish_fits s t l es m =
    let same : length (text (made_table t l es)) ≡ length (text (begun_table t l es)) =
    length-text (made_table t l es) ∙ ap (λ k. 12 + k) (mark_long (Cbt l.disk) false (begun_table t l es).volumes) ∙ sym (length-text (begun_table t l es)) in
    rw same m.fits

-- ---- the extents

pub all_in : (count x : ℕ) (rs : List Row) (es : List ℕ) → AreFree count rs es → AreIn (count * x) x es
all_in count x rs es free = record {
  within = λ i below. within i (below_times count (slice_index es i) es free.below (slice_get-times (slice_index es i) i es (found i below)));
  once = λ i j i_below j_below same. one_place (slice_index es i) i j es (distinct-times (slice_index es i) es free.distinct) (found i i_below) (found j j_below ∙ ap Some (sym same));
}
  where
    found : (i : ℕ) → i < length es → slice_get es i ≡ Some (slice_index es i)
    found i below = slice_get-get_or es i 0 below

    within : (i : ℕ) → slice_index es i < count → (slice_index es i + 1) * x ≤ count * x
    within i low =
        let most : slice_index es i + 1 ≤ count = omega arith in
        mul-le-mul_right x most

-- ---- where it stands

abbrev pub extent_of : {S : Type 0} → Ghosts S → S → ℕ
extent_of g s = (g.site s).geometry.extent

abbrev pub table_of : {S : Type 0} → Ghosts S → S → VolumeTable
table_of g s = table_alone (g.table s)

-- ---- the calls

-- what failed from a store that holds the same
pub fails_from : {S : Type 0} {g : Ghosts S} {a p b : S} (l : Log) (es : List ℕ) → g.site p ≡ g.site a → table_of g p ≡ table_of g a → g.area p ≡ g.area a → g.beside p ≡ g.beside a → g.faults p ≡ g.faults a → FailsToMake g l es p b → FailsToMake g l es a b
fails_from {S} {g} {a} {p} {b} l es site table area beside faults f = record {
  writes = record {
    site = f.writes.site ∙ site;
    counts = subst (λ (n : ℕ). n ≤ g.faults b) faults f.writes.counts;
    beside = λ told. subst (λ (h : Held). Keeps h (g.beside b)) beside (f.writes.beside told);
    elsewhere = λ told. subst₂ (λ (s : Site) (h : Held). KeepsElsewhere s.geometry.extent es h (g.area b)) site area (f.writes.elsewhere told);
  };
  table = subst (λ (u : VolumeTable). (table_of g b ≡ u) ⊎ (table_of g b ≡ begun_table u l es)) table f.table;
  choice = λ told usable t image i. subst (λ (x : Stored). IsMaking x l es t image) same (f.choice told usable t image i);
}
  where
    same : stored g p ≡ stored g a
    same = ap₂ (λ (s : Site) (u : VolumeTable). let x : Stored = record { site = s; table = u; area = g.area p } in x) site table
        ∙ ap (λ (h : Held). let x : Stored = record { site = g.site a; table = table_of g a; area = h } in x) area

module _ {S : Type 0} {g : Ghosts S} {a : S} (l : Log) (es : List ℕ) (m : MayMake (g.site a) (table_of g a) l es) where
  pub can_begin : g.failed a ≡ false → 0 < (g.table a).spare → CanCommit g (creating l es) a
  can_begin usable row = record { usable = usable; allowed = m.allowed; room = row; fits = m.fits }

  -- the first commit failed
  pub begin_fails : {b : S} → FailsToCommit g a b → FailsToMake g l es a b
  begin_fails f = record {
    writes = record { site = f.site; counts = f.faults; beside = f.beside; elsewhere = λ told. KeepsAt-keeps _ (f.keeps told) };
    table = inl f.table;
    choice = λ told usable t image i. absurd (true≢false (sym f.stuck ∙ usable));
  }

  module _ {b : S} (c : Commits g (creating l es) a b) where
    extents_begun : extents_of (rows (table_alone (g.table b)) (Cbt l.disk)) ≡ es
    extents_begun = ap extents_of (ap (λ u. rows u (Cbt l.disk)) c.table ∙ begun_there (g.site a) (table_of g a) l es m)

    pub room_begun : log_sectors (length l.bits) ≤ sectors_in (stored g b) (Cbt l.disk)
    room_begun =
        let same : sectors_in (stored g b) (Cbt l.disk) ≡ span (extent_of g a) es = ap₂ (λ (s : Site) (us : List ℕ). span s.geometry.extent us) c.site extents_begun in
        rw same m.sectors

    module _ {d : S} (w : WorksOn g (Cbt l.disk) b d) where
      site_filled : g.site d ≡ g.site a
      site_filled = w.stays.site ∙ c.site

      table_filled : table_alone (g.table d) ≡ begun_table (table_of g a) l es
      table_filled = w.stays.table ∙ c.table

      held_filled : held_in (stored g d) (Cbt l.disk) ≡ volume (extent_of g a) es (g.area d)
      held_filled = ap₂ (λ (s : Site) (u : VolumeTable). volume s.geometry.extent (extents_of (rows u (Cbt l.disk))) (g.area d)) site_filled table_filled
          ∙ ap (λ (us : List ℕ). volume (extent_of g a) us (g.area d)) (ap extents_of (begun_there (g.site a) (table_of g a) l es m))

      second_away : g.told → KeepsElsewhere (extent_of g a) es (g.area b) (g.area d)
      second_away told = subst₂ (λ (s : Site) (us : List ℕ). KeepsElsewhere s.geometry.extent us (g.area b) (g.area d)) c.site extents_begun (w.elsewhere told)

      pub filled_writes : WritesOnly g es a d
      filled_writes = record {
        site = site_filled;
        counts = let first = c.faults in let second = w.stays.faults in omega (arith, first, second);
        beside = λ told. Keeps-then (c.beside told) (w.stays.beside told);
        elsewhere = λ told. KeepsAt-then (KeepsAt-keeps _ (c.keeps told)) (second_away told);
      }

      pub usable_filled : g.failed d ≡ false
      usable_filled = w.stays.failed ∙ c.usable

      pub can_finish : CanCommit g (finishing l) d
      can_finish = record {
        usable = usable_filled;
        allowed = subst₂ (λ (s : Site) (u : VolumeTable). Permits s.count u (finishing l)) (sym site_filled) (sym table_filled) (may_finish (g.site a) (table_of g a) l es m);
        room = tt;
        fits = subst₂ (λ (s : Site) (u : VolumeTable). Fits s.count u (finishing l)) (sym site_filled) (sym table_filled) (finish_fits (g.site a) (table_of g a) l es m);
      }

      -- elsewhere a stop leaves what a read gave, as the first commit made all last
      away_read : g.told → (p : ℕ) (v : List ℕ) → IsElsewhere (extent_of g a) es p → May (g.area d) p v → v ≡ reads (g.area a) p
      away_read told p v away may = may_settled (g.area b) p v (c.settled told p) ((second_away told).may p v away may) ∙ (c.keeps told).reads p

      in_area : (p : ℕ) → p < area_size (g.site a) → p < area_size (g.site d)
      in_area p below = subst (λ (s : Site). p < area_size s) (sym site_filled) below

      pub fill_left : g.told → (u : VolumeTable) (image : ℕ → List ℕ) → IsChoiceOf (stored g d) u image → IsBegun (stored g a) l es u image
      fill_left told u image i = record { table = i.table_is ∙ table_filled; beside = λ p below away. away_read told p (image p) away (i.sectors p (in_area p below)) }

      pub fill_fails : FailsToMake g l es a d
      fill_fails = record { writes = filled_writes; table = inr table_filled; choice = λ told usable t image i. inr (inl (fill_left told t image i)) }

      -- the second commit failed
      pub finish_fails : {f : S} → FailsToCommit g d f → FailsToMake g l es a f
      finish_fails e = record {
        writes = record {
          site = e.site ∙ site_filled;
          counts = let first = filled_writes.counts in let second = e.faults in omega (arith, first, second);
          beside = λ told. Keeps-then (filled_writes.beside told) (e.beside told);
          elsewhere = λ told. KeepsAt-then (filled_writes.elsewhere told) (KeepsAt-keeps _ (e.keeps told));
        };
        table = inr (e.table ∙ table_filled);
        choice = λ told usable t image i. absurd (true≢false (sym e.stuck ∙ usable));
      }

      module _ (fits : IsHead (head_of l)) (filled : g.told → AreOf l (reads (held_in (stored g d) (Cbt l.disk)))) where
        in_volume : g.told → AreOf l (reads (volume (extent_of g a) es (g.area d)))
        in_volume told = subst (λ (h : Held). AreOf l (reads h)) held_filled (filled told)

        spelled : g.told → (image : ℕ → List ℕ) → ((p : ℕ) → p < area_size (g.site d) → image p ≡ reads (g.area d) p) → AreOf l (piece (extent_of g a) es image)
        unfolding piece
        spelled told image are = of_same l (reads (volume (extent_of g a) es (g.area d))) (piece (extent_of g a) es image)
            (λ q low.
            let below : q < span (extent_of g a) es = omega (arith, low, m.sectors) in
            are (spot (extent_of g a) es q) (in_area (spot (extent_of g a) es q) (spot_below q (all_in (g.site a).count (extent_of g a) (table_of g a).volumes es m.allowed.extents_free) below)) ∙ sym (volume_reads (extent_of g a) es (g.area d) q below))
            (in_volume told)

        pub finish_left : g.told → (u : VolumeTable) (image : ℕ → List ℕ) → IsEitherOf (stored g d) (finishing l) u image → IsMaking (stored g a) l es u image
        finish_left told u image (inl i) = inr (inl (fill_left told u image i))
        finish_left told u image (inr i) = inr (inr (record {
          table = i.table_is ∙ ap (λ (v : VolumeTable). applied v (finishing l)) table_filled;
          beside = λ p below away. i.sectors p (in_area p below) ∙ (filled_writes.elsewhere told).reads p away;
          spells = spells_it l (piece (extent_of g a) es image) (spelled told image i.sectors) fits;
        }))

        module _ {f : S} (e : Commits g (finishing l) d f) where
          table_made : table_alone (g.table f) ≡ made_table (table_of g a) l es
          table_made = e.table ∙ ap (λ (v : VolumeTable). applied v (finishing l)) table_filled

          held_made : held_in (stored g f) (Cbt l.disk) ≡ volume (extent_of g a) es (g.area f)
          held_made = ap₂ (λ (s : Site) (u : VolumeTable). volume s.geometry.extent (extents_of (rows u (Cbt l.disk))) (g.area f)) (e.site ∙ site_filled) table_made
              ∙ ap (λ (us : List ℕ). volume (extent_of g a) us (g.area f)) (ap extents_of (made_there (g.site a) (table_of g a) l es m))

          pub is_made : Makes g l es a f
          is_made = record {
            writes = record {
              site = e.site ∙ site_filled;
              counts = let first = filled_writes.counts in let second = e.faults in omega (arith, first, second);
              beside = λ told. Keeps-then (filled_writes.beside told) (e.beside told);
              elsewhere = λ told. KeepsAt-then (filled_writes.elsewhere told) (KeepsAt-keeps _ (e.keeps told));
            };
            table = table_made;
            there = ap (λ u. rows u (Cbt l.disk)) table_made ∙ made_there (g.site a) (table_of g a) l es m;
            usable = e.usable;
            room = record {
              spare_rows = omega (arith, c.room.spare_rows, w.stays.room.spare_rows, e.room.spare_rows);
              spare_extents = λ n. omega (arith, c.room.spare_extents n, w.stays.room.spare_extents n, e.room.spare_extents n);
            };
            settled = e.settled;
            spells = λ told. spells_it l (reads (held_in (stored g f) (Cbt l.disk)))
                (subst (λ (h : Held). AreOf l (reads h)) (sym held_made)
                (of_same l (reads (volume (extent_of g a) es (g.area d))) (reads (volume (extent_of g a) es (g.area f))) (λ q low. (Keeps-volume (extent_of g a) es (e.keeps told)).reads q) (in_volume told))) fits;
          }
