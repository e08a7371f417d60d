-- What the split of a disk's log does to a store behind the making of the twin's.
use Rattle.std.proofs.Common.{◌≡◌, ◌≢◌, ℕ, ◌+◌, ◌*◌, ◌<◌, ◌≤◌, ◌⊎◌, inl, inr, true, false, List, length, mul-le-mul_right, refl, Some, sym, ap, ap₂, subst, subst₂, ◌∙◌, arith}
use Rattle.std.specs.Prelude.{slice_index}
use Rattle.std.specs.List.{slice_get}
use Rattle.std.proofs.lemmas.Option.{slice_get-get_or}
use Rattle.sm_base.specs.declared.names.Name.{Name}
use Rattle.sm_base.specs.declared.names.Name.TheVariants.{Cbt}
use Rattle.sm_disk.specs.Held.{Held, May, Puts, reads}
use Rattle.sm_disk.proofs.HeldLaws.{Keeps-then, may_settled}
use Rattle.vg_meta.specs.Changes.{made, tagged}
use Rattle.vg_meta.specs.Tables.{IsSpread, IsTable, Rows, VolumeTable, extents_of, rows}
use Rattle.vg_meta.specs.declared.changes.Tag.TheVariants.{Fresh}
use Rattle.vg_meta.proofs.ByName.{spread}
use Rattle.vg_meta.proofs.RowLaws.{row_of-put_other, row_of-with_row_other}
use Rattle.vg_volumes.specs.Sites.{Site, area_size}
use Rattle.vg_volumes.specs.Stored.{IsChoiceOf, WorksOn, held_in, sectors_in, stored}
use Rattle.vg_volumes.specs.Volumes.{AreIn, IsElsewhere, KeepsElsewhere, piece, span, spot, volume}
use Rattle.vg_volumes.specs.declared.stores.Store.{Ghosts}
use Rattle.vg_volumes.proofs.ApartLaws.{elsewhere}
use Rattle.vg_volumes.proofs.SpotLaws.{extent_some, spot_below}
use Rattle.vg_volumes.proofs.VolumeLaws.{IsSettled-volume, volume_may, volume_reads}
use Rattle.sm_log.specs.Heads.{IsHead, head_sector}
use Rattle.sm_log.specs.Logs.{Log}
use Rattle.sm_cbt.specs.Making.{FailsToMake, Makes, MayMake, Spells, begun_table, bits_bytes, head_of, made_table}
use Rattle.sm_cbt.specs.Splitting.{FailsToSplit, IsRenewed, IsRenewing, IsSplitting, LeavesEitherHead, LeavesNewHead, Splits, WritesBoth}
use Rattle.sm_cbt.proofs.MakeLaws.{all_in, extent_of, table_of}
use Rattle.sm_cbt.proofs.SpellLaws.{spells_it, spells_same}

-- the extents of a volume stand in the area
row_in : (count x : ℕ) (vs : Rows) (n : Name) → IsSpread count vs → AreIn (count * x) x (extents_of (vs n))
row_in count x vs n s = record {
  within = λ i below. within i (s.below n i (slice_index (extents_of (vs n)) i) (found i below));
  once = λ i j i_below j_below same. s.same_place n i j (slice_index (extents_of (vs n)) i) (found i i_below) (found j j_below ∙ ap Some (sym same));
}
  where
    found : (i : ℕ) → i < length (extents_of (vs n)) → slice_get (extents_of (vs n)) i ≡ Some (slice_index (extents_of (vs n)) i)
    found i below = slice_get-get_or (extents_of (vs n)) i 0 below

    within : (i : ℕ) → slice_index (extents_of (vs n)) i < count → (slice_index (extents_of (vs n)) i + 1) * x ≤ count * x
    within i low =
        let most : slice_index (extents_of (vs n)) i + 1 ≤ count = omega arith in
        mul-le-mul_right x most

-- the making failed
pub make_fails : {S : Type 0} {g : Ghosts S} {a b : S} (k l : Log) (es : List ℕ) → FailsToMake g k es a b → FailsToSplit g k l es a b
make_fails {S} {g} {a} {b} k l es f = record {
  writes = record {
    site = f.writes.site;
    counts = f.writes.counts;
    beside = f.writes.beside;
    elsewhere = λ told. record { reads = λ p apart. (f.writes.elsewhere told).reads p apart.new; may = λ p v apart m. (f.writes.elsewhere told).may p v apart.new m };
  };
  table = by f.table;
  choice = λ told usable t image i. inl (f.choice told usable t image i);
}
  where
    by : (table_of g b ≡ table_of g a) ⊎ (table_of g b ≡ begun_table (table_of g a) k es)
        → (table_of g b ≡ table_of g a) ⊎ ((table_of g b ≡ begun_table (table_of g a) k es) ⊎ (table_of g b ≡ made_table (table_of g a) k es))
    by (inl same) = inl same
    by (inr begun) = inr (inl begun)

module _ {S : Type 0} {g : Ghosts S} {a d : S} (k l : Log) (es : List ℕ) (may : MayMake (g.site a) (table_of g a) k es) (m : Makes g k es a d) (apart : k.disk ≢ l.disk)
    (table : IsTable (g.site d).count (table_of g d)) where
  other : Cbt k.disk ≢ Cbt l.disk
  other q = apart (let h : k.disk ≡ l.disk = cc in h)

  row_kept : rows (table_of g d) (Cbt l.disk) ≡ rows (table_of g a) (Cbt l.disk)
  row_kept = ap (λ u. rows u (Cbt l.disk)) m.table
      ∙ row_of-with_row_other (begun_table (table_of g a) k es).volumes (Cbt k.disk) (Cbt l.disk) (tagged Fresh false) (λ r. refl) other
      ∙ row_of-put_other (table_of g a).volumes (made (Cbt k.disk) true es) (Cbt l.disk) other

  own_kept : extents_of (rows (table_of g d) (Cbt l.disk)) ≡ extents_of (rows (table_of g a) (Cbt l.disk))
  own_kept = ap extents_of row_kept

  twin_extents : extents_of (rows (table_of g d) (Cbt k.disk)) ≡ es
  twin_extents = ap extents_of m.there

  pub own_room : {n : ℕ} → n ≤ sectors_in (stored g a) (Cbt l.disk) → n ≤ sectors_in (stored g d) (Cbt l.disk)
  own_room {n} room = subst₂ (λ (s : Site) (us : List ℕ). n ≤ span s.geometry.extent us) (sym m.writes.site) (sym own_kept) room

  -- the places of the two volumes
  own_away : (q : ℕ) → q < span (extent_of g a) (extents_of (rows (table_of g a) (Cbt l.disk))) → IsElsewhere (extent_of g a) es (spot (extent_of g a) (extents_of (rows (table_of g a) (Cbt l.disk))) q)
  own_away q = subst₂ (λ (us vs : List ℕ). q < span (extent_of g a) vs → IsElsewhere (extent_of g a) us (spot (extent_of g a) vs q)) twin_extents own_kept
      (λ below. elsewhere (g.site d).count (extent_of g a) (rows (table_of g d)) (Cbt k.disk) (Cbt l.disk) q (spread (g.site d).count (table_of g d) table)
      (extent_some q (length (extents_of (rows (table_of g d) (Cbt l.disk)))) (extent_of g a) below) (λ e. other (sym e)) below)

  twin_away : (q : ℕ) → q < span (extent_of g a) es → IsElsewhere (extent_of g a) (extents_of (rows (table_of g a) (Cbt l.disk))) (spot (extent_of g a) es q)
  twin_away q = subst₂ (λ (us vs : List ℕ). q < span (extent_of g a) us → IsElsewhere (extent_of g a) vs (spot (extent_of g a) us q)) twin_extents own_kept
      (λ below. elsewhere (g.site d).count (extent_of g a) (rows (table_of g d)) (Cbt l.disk) (Cbt k.disk) q (spread (g.site d).count (table_of g d) table)
      (extent_some q (length (extents_of (rows (table_of g d) (Cbt k.disk)))) (extent_of g a) below) other below)

  own_in : AreIn (area_size (g.site a)) (extent_of g a) (extents_of (rows (table_of g a) (Cbt l.disk)))
  own_in = subst₂ (λ (s : Site) (us : List ℕ). AreIn (s.count * extent_of g a) (extent_of g a) us) m.writes.site own_kept
      (row_in (g.site d).count (extent_of g a) (rows (table_of g d)) (Cbt l.disk) (spread (g.site d).count (table_of g d) table))

  -- what they held behind the making
  own_held : held_in (stored g d) (Cbt l.disk) ≡ volume (extent_of g a) (extents_of (rows (table_of g a) (Cbt l.disk))) (g.area d)
  own_held = ap₂ (λ (s : Site) (us : List ℕ). volume s.geometry.extent us (g.area d)) m.writes.site own_kept

  twin_held : held_in (stored g d) (Cbt k.disk) ≡ volume (extent_of g a) es (g.area d)
  twin_held = ap₂ (λ (s : Site) (us : List ℕ). volume s.geometry.extent us (g.area d)) m.writes.site twin_extents

  own_was : g.told → (q : ℕ) (v : List ℕ) → q < sectors_in (stored g a) (Cbt l.disk) → May (held_in (stored g d) (Cbt l.disk)) q v → v ≡ reads (held_in (stored g a) (Cbt l.disk)) q
  own_was told q v below left =
      let own : List ℕ = extents_of (rows (table_of g a) (Cbt l.disk)) in
      may_settled (held_in (stored g d) (Cbt l.disk)) q v (IsSettled-volume _ _ (g.area d) (m.settled told) q) left
      ∙ ap (λ (h : Held). reads h q) own_held ∙ volume_reads (extent_of g a) own (g.area d) q below
      ∙ (m.writes.elsewhere told).reads (spot (extent_of g a) own q) (own_away q below) ∙ sym (volume_reads (extent_of g a) own (g.area a) q below)

  module _ {e : S} (w : WorksOn g (Cbt l.disk) d e) where
    site_renewed : g.site e ≡ g.site a
    site_renewed = w.stays.site ∙ m.writes.site

    table_renewed : table_of g e ≡ made_table (table_of g a) k es
    table_renewed = w.stays.table ∙ m.table

    away : g.told → KeepsElsewhere (extent_of g a) (extents_of (rows (table_of g a) (Cbt l.disk))) (g.area d) (g.area e)
    away told = subst₂ (λ (s : Site) (us : List ℕ). KeepsElsewhere s.geometry.extent us (g.area d) (g.area e)) m.writes.site own_kept (w.elsewhere told)

    writes_both : WritesBoth g l es a e
    writes_both = record {
      site = site_renewed;
      counts = let first = m.writes.counts in let second = w.stays.faults in omega (arith, first, second);
      beside = λ told. Keeps-then (m.writes.beside told) (w.stays.beside told);
      elsewhere = λ told. record {
        reads = λ p at. (away told).reads p at.own ∙ (m.writes.elsewhere told).reads p at.new;
        may = λ p v at left. (m.writes.elsewhere told).may p v at.new ((away told).may p v at.own left);
      };
    }

    pub usable_renewed : g.failed e ≡ false
    usable_renewed = w.stays.failed ∙ m.usable

    in_area : (p : ℕ) → p < area_size (g.site a) → p < area_size (g.site e)
    in_area p below = subst (λ (s : Site). p < area_size s) (sym site_renewed) below

    away_read : g.told → (p : ℕ) (v : List ℕ) → IsElsewhere (extent_of g a) (extents_of (rows (table_of g a) (Cbt l.disk))) p → May (g.area e) p v → v ≡ reads (g.area d) p
    away_read told p v far left = may_settled (g.area d) p v (m.settled told p) ((away told).may p v far left)

    own_held_then : held_in (stored g e) (Cbt l.disk) ≡ volume (extent_of g a) (extents_of (rows (table_of g a) (Cbt l.disk))) (g.area e)
    own_held_then = ap₂ (λ (s : Site) (us : List ℕ). volume s.geometry.extent us (g.area e)) site_renewed (ap (λ u. extents_of (rows u (Cbt l.disk))) w.stays.table ∙ own_kept)

    twin_held_then : held_in (stored g e) (Cbt k.disk) ≡ volume (extent_of g a) es (g.area e)
    twin_held_then = ap₂ (λ (s : Site) (us : List ℕ). volume s.geometry.extent us (g.area e)) site_renewed (ap (λ u. extents_of (rows u (Cbt k.disk))) w.stays.table ∙ twin_extents)

    twin_spelled : g.told → Spells k (reads (volume (extent_of g a) es (g.area d)))
    twin_spelled told = subst (λ (h : Held). Spells k (reads h)) twin_held (m.spells told)

    module _ (told : g.told) (image : ℕ → List ℕ) (left : (p : ℕ) → p < area_size (g.site e) → May (g.area e) p (image p)) where
      twin_left : Spells k (piece (extent_of g a) es image)
      unfolding piece
      twin_left = spells_same k (reads (volume (extent_of g a) es (g.area d))) (piece (extent_of g a) es image)
          (λ q low.
          let below : q < span (extent_of g a) es = omega (arith, low, may.sectors) in
          let at : ℕ = spot (extent_of g a) es q in
          away_read told at (image at) (twin_away q below) (left at (in_area at (spot_below q (all_in (g.site a).count (extent_of g a) (table_of g a).volumes es may.allowed.extents_free) below)))
          ∙ sym (volume_reads (extent_of g a) es (g.area d) q below))
          (twin_spelled told)

      own_left : (q : ℕ) → q < sectors_in (stored g a) (Cbt l.disk) → May (held_in (stored g e) (Cbt l.disk)) q (piece (extent_of g a) (extents_of (rows (table_of g a) (Cbt l.disk))) image q)
      unfolding piece
      own_left q below =
          let own : List ℕ = extents_of (rows (table_of g a) (Cbt l.disk)) in
          let at : ℕ = spot (extent_of g a) own q in
          subst (λ (h : Held). May h q (image at)) (sym own_held_then) (volume_may (extent_of g a) own (g.area e) q (image at) below (left at (in_area at (spot_below q own_in below))))

      was_or : (P : List ℕ → Type 0) (q : ℕ) (v : List ℕ) → q < sectors_in (stored g a) (Cbt l.disk) → May (held_in (stored g d) (Cbt l.disk)) q v ⊎ P v
          → (v ≡ reads (held_in (stored g a) (Cbt l.disk)) q) ⊎ P v
      was_or P q v below (inl was) = inl (own_was told q v below was)
      was_or P q v below (inr is) = inr is

      order_left : 1 ≤ sectors_in (stored g a) (Cbt l.disk) → IsRenewing l (held_in (stored g d) (Cbt l.disk)) (held_in (stored g e) (Cbt l.disk))
          → LeavesEitherHead l (sectors_in (stored g a) (Cbt l.disk)) (reads (held_in (stored g a) (Cbt l.disk))) (piece (extent_of g a) (extents_of (rows (table_of g a) (Cbt l.disk))) image)
          ⊎ LeavesNewHead l (sectors_in (stored g a) (Cbt l.disk)) (reads (held_in (stored g a) (Cbt l.disk))) (piece (extent_of g a) (extents_of (rows (table_of g a) (Cbt l.disk))) image)
      order_left some (inl either) = inl (λ q below. was_or (λ v. Puts 0 (head_sector (head_of l)) q v) q _ below (either q _ (own_left q below)))
      order_left some (inr new) = inr (record {
        head = new.head _ (own_left 0 (omega (arith, some)));
        bits = λ q one below. was_or (λ v. Puts 1 (bits_bytes l) q v) q _ below (new.bits q _ one (own_left q below));
      })

    pub renew_left : IsHead (head_of l) → 1 ≤ sectors_in (stored g a) (Cbt l.disk) → (g.told → IsRenewing l (held_in (stored g d) (Cbt l.disk)) (held_in (stored g e) (Cbt l.disk)))
        → g.told → (u : VolumeTable) (image : ℕ → List ℕ) → IsChoiceOf (stored g e) u image → IsSplitting (stored g a) k l es u image
    renew_left proper some r told u image i = record {
      proper = proper;
      table = i.table_is ∙ table_renewed;
      beside = λ p below at. away_read told p (image p) at.own (i.sectors p (in_area p below)) ∙ (m.writes.elsewhere told).reads p at.new;
      twin_read = twin_left told image i.sectors;
      order = order_left told image i.sectors some (r told);
    }

    pub renew_fails : IsHead (head_of l) → 1 ≤ sectors_in (stored g a) (Cbt l.disk) → (g.told → IsRenewing l (held_in (stored g d) (Cbt l.disk)) (held_in (stored g e) (Cbt l.disk))) → FailsToSplit g k l es a e
    renew_fails proper some r = record { writes = writes_both; table = inr (inr table_renewed); choice = λ told usable t image i. inr (renew_left proper some r told t image i) }

    pub is_split : IsRenewed g l e → Splits g k l es a e
    is_split n = record {
      writes = writes_both;
      table = table_renewed;
      usable = usable_renewed;
      room = record {
        spare_rows = omega (arith, m.room.spare_rows, w.stays.room.spare_rows);
        spare_extents = λ o. omega (arith, m.room.spare_extents o, w.stays.room.spare_extents o);
      };
      settled = n.settled;
      twin_read = λ told. subst (λ (h : Held). Spells k (reads h)) (sym twin_held_then)
          (spells_same k (reads (volume (extent_of g a) es (g.area d))) (reads (volume (extent_of g a) es (g.area e)))
          (λ q low.
          let below : q < span (extent_of g a) es = omega (arith, low, may.sectors) in
          volume_reads (extent_of g a) es (g.area e) q below ∙ (away told).reads (spot (extent_of g a) es q) (twin_away q below) ∙ sym (volume_reads (extent_of g a) es (g.area d) q below))
          (twin_spelled told));
      own_read = λ told. spells_it l (reads (held_in (stored g e) (Cbt l.disk))) (n.written told) n.proper;
    }
