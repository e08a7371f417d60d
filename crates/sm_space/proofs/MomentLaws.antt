-- Whatever a stop leaves while the volume of an image gets more extents is kept and shows the disks from before.
use Rattle.std.proofs.Common.{◌≡◌, ◌≢◌, ⊎_elim, ℕ, ◌+◌, ◌-◌, ◌*◌, ◌<◌, ◌≤◌, false, List, [], length, map, refl, sym, ap, ◌∙◌, subst, subst₂, arith}
use Rattle.std.proofs.Math.Nat.{mul-le-mul_right}
use Rattle.sm_base.specs.declared.names.Name.{Name}
use Rattle.sm_base.specs.declared.names.Name.TheVariants.{Vhd, Inflate}
use Rattle.sm_disk.specs.Held.{Held, Keeps, reads}
use Rattle.vg_meta.specs.Tables.{VolumeTable, IsTable, extents_of, rows}
use Rattle.vg_meta.specs.Changes.{grown, made}
use Rattle.vg_meta.proofs.ByName.{spread}
use Rattle.vg_meta.proofs.RowLaws.{row_of-put_other, row_of-with_row_other}
use Rattle.vg_volumes.specs.Sites.{Site, size_of, volume_of}
use Rattle.vg_volumes.specs.Volumes.{KeepsAt, KeepsElsewhere, span, volume}
use Rattle.vg_volumes.proofs.VolumeLaws.{KeepsAt-keeps, KeepsAt-none, KeepsAt-then}
use Rattle.vhd_volumes.specs.Writes.{KeepsBut}
use Rattle.vhd_volumes.proofs.SteadyLaws.{KeepsAt-longer, Keeps-beside}
use Rattle.vhd_chain.specs.declared.rows.TreeRow.{TreeRow}
use Rattle.sm_machine.specs.Disks.{Disk}
use Rattle.sm_machine.specs.Runs.{face, HasSector}
use Rattle.sm_standing.specs.Contents.{Content, sectors_of}
use Rattle.sm_standing.specs.Enlarging.{HasEntry, IsEnlargingOn}
use Rattle.sm_standing.specs.Images.{image_of}
use Rattle.sm_standing.specs.Standing.{disks}
use Rattle.sm_standing.proofs.WorldLaws.{commit_before, elsewhere}
use Rattle.sm_ready.specs.Done.{at_rest}
use Rattle.sm_ready.specs.Known.{Known}
use Rattle.sm_ready.specs.Ready.{IsReady}
use Rattle.sm_ready.specs.Stores.{Leaving, MayShow, content_in, content_now}
use Rattle.sm_ready.proofs.CommitLaws.{IsSafe, volume_rested}
use Rattle.sm_standing.proofs.EnlargedLaws.{enlarging_disks, enlarging_kept}
use Rattle.sm_ready.proofs.KeptLaws.{law_kept}
use Rattle.sm_ready.proofs.LeftLaws.{IsLeft, extent_some, left_in, left_now, mgt_long, now_sector, ready_places}
use Rattle.sm_ready.proofs.Orders.{geometry_of, none_making}
use Rattle.sm_space.proofs.OrderlyLaws.{IsToGrow, larger, larger_own, larger_size, larger_table, no_entry, noted, noted_table, own, own_size}
use Rattle.sm_space.proofs.OwnLaws.{named_or_not}
use Rattle.sm_space.proofs.TableLaws.{entry_grown, entry_put}

module _ (s : Site) (t : VolumeTable) (m : Known) (u es : List ℕ) (row : TreeRow) (h : IsToGrow s t m u es row) (old : Held) (ready : IsReady s t old m) where
  abbrev pub before_it : Content
  before_it = content_now s t old

  abbrev pub rest : Held
  rest = at_rest (reads old)

  abbrev extent : ℕ
  extent = s.geometry.extent

  -- a table that has the entry, and all volumes of before, that of the image perhaps with more extents
  pub record IsMoment (v : VolumeTable) : Type 0 where
    pub table : IsTable s.count v
    pub later : t.sequence ≤ v.sequence
    pub volumes : HasEntry (Inflate u row.extents) u t.volumes v.volumes
    pub sizes : (n : Name) → size_of s t n ≤ size_of s v n

  -- in each volume of before nothing else is held or pending than what a read gave
  abbrev pub IsFront : VolumeTable → Held → Type 0
  IsFront v area = (n : Name) → KeepsAt (λ p. p < size_of s t n) (volume_of s t rest n) (volume_of s v area n)

  none_there : (n : Name) → n ≡ Inflate u row.extents → size_of s t n ≡ 0
  none_there n is = let none : 0 * s.geometry.extent ≡ 0 = omega arith in ap (λ x. span extent (extents_of (rows t x))) is ∙ ap (λ o. span extent (extents_of o)) (no_entry s t m u es row h) ∙ none

  pub noted_other : (n : Name) → n ≢ Inflate u row.extents → rows (noted s t m u es row h) n ≡ rows t n
  noted_other n other = row_of-put_other t.volumes (made (Inflate u row.extents) false []) n (λ is. other (sym is))

  pub larger_other : (n : Name) → n ≢ Inflate u row.extents → n ≢ Vhd u → rows (larger s t m u es row h) n ≡ rows t n
  larger_other n other away = row_of-with_row_other (noted s t m u es row h).volumes (Vhd u) n (grown es) (λ r. refl) (λ is. away (sym is)) ∙ noted_other n other

  pub moment_noted : IsMoment (noted s t m u es row h)
  moment_noted = record {
    table = noted_table s t m u es row h;
    later = omega (arith, h.orderly.table.sequence);
    volumes = entry_put u (made (Inflate u row.extents) false []) t.volumes;
    sizes = λ n. ⊎_elim
        (λ is. omega (arith, none_there n is))
        (λ other. omega (arith, ap (λ o. span extent (extents_of o)) (noted_other n other))) (named_or_not n (Inflate u row.extents));
  }

  pub moment_larger : IsMoment (larger s t m u es row h)
  moment_larger = record {
    table = larger_table s t m u es row h;
    later = omega (arith, h.orderly.table.sequence);
    volumes = entry_grown u es (Inflate u row.extents) t.volumes (noted s t m u es row h).volumes (λ is. (let x = is in cc)) (entry_put u (made (Inflate u row.extents) false []) t.volumes);
    sizes = λ n. ⊎_elim
        (λ is. omega (arith, none_there n is))
        (λ other. ⊎_elim
        (λ own_is. subst (λ x. size_of s t x ≤ size_of s (larger s t m u es row h) x) (sym own_is)
        (let more : row.extents * extent ≤ (row.extents + length es) * extent = mul-le-mul_right extent (omega arith) in omega (arith, own_size s t m u es row h, larger_size s t m u es row h, more)))
        (λ away. omega (arith, ap (λ o. span extent (extents_of o)) (larger_other n other away))) (named_or_not n (Vhd u))) (named_or_not n (Inflate u row.extents));
  }

  -- where the volume of this name has the extents from before
  front_same : (v : VolumeTable) (area : Held) (n : Name) → rows v n ≡ rows t n → Keeps (volume_of s v rest n) (volume_of s v area n) → KeepsAt (λ p. p < size_of s t n) (volume_of s t rest n) (volume_of s v area n)
  front_same v area n same keeps = KeepsAt-keeps _ (subst (λ o. Keeps (volume extent (extents_of o) rest) (volume_of s v area n)) same keeps)

  nothing_there : (v : VolumeTable) (area : Held) (n : Name) → n ≡ Inflate u row.extents → KeepsAt (λ p. p < size_of s t n) (volume_of s t rest n) (volume_of s v area n)
  nothing_there v area n is = record {
    reads = λ p below. absurd (omega (arith, below, none_there n is));
    may = λ p w below k. absurd (omega (arith, below, none_there n is));
  }

  itself : (x : Held) → Keeps x x
  itself x = record { reads = λ p. refl; may = λ p v k. k }

  pub front_noted : IsFront (noted s t m u es row h) rest
  front_noted n = ⊎_elim (λ is. nothing_there (noted s t m u es row h) rest n is) (λ other. front_same (noted s t m u es row h) rest n (noted_other n other) (itself _)) (named_or_not n (Inflate u row.extents))

  pub longer : KeepsAt (λ p. p < size_of s t (Vhd u)) (volume_of s t rest (Vhd u)) (volume_of s (larger s t m u es row h) rest (Vhd u))
  longer =
      subst₂ (λ x y. KeepsAt (λ p. p < span extent (extents_of x)) (volume extent (extents_of x) rest) (volume extent (extents_of y) rest)) (sym (own s t m u es row h).there) (sym (larger_own s t m u es row h))
      (KeepsAt-longer extent (own s t m u es row h).volume.extents es rest)

  -- the other volumes hold what they held
  pub beside_it : (area : Held) → KeepsElsewhere extent (extents_of (rows (larger s t m u es row h) (Vhd u))) rest area → (n : Name) → n ≢ Vhd u
      → Keeps (volume_of s (larger s t m u es row h) rest n) (volume_of s (larger s t m u es row h) area n)
  beside_it area beside n apart =
      Keeps-beside extent (extents_of (rows (larger s t m u es row h) n)) (extents_of (rows (larger s t m u es row h) (Vhd u)))
      (λ p below. elsewhere s.count extent (rows (larger s t m u es row h)) (Vhd u) n p (spread s.count (larger s t m u es row h) (larger_table s t m u es row h)) (extent_some s t m h.orderly) apart below) beside

  -- once the footer is written at the new end, or while it is
  pub front_written : (area : Held) → KeepsElsewhere extent (extents_of (rows (larger s t m u es row h) (Vhd u))) rest area
      → KeepsBut (λ p. p ≡ (row.extents + length es) * extent - 1) (volume_of s (larger s t m u es row h) rest (Vhd u)) (volume_of s (larger s t m u es row h) area (Vhd u)) → IsFront (larger s t m u es row h) area
  front_written area beside but n = ⊎_elim
      (λ is. nothing_there (larger s t m u es row h) area n is)
      (λ other. ⊎_elim
      (λ own_is. subst (λ x. KeepsAt (λ p. p < size_of s t x) (volume_of s t rest x) (volume_of s (larger s t m u es row h) area x)) (sym own_is)
      (KeepsAt-then longer (record { reads = λ p below. but.reads p (away p below); may = λ p w below k. but.may p w (away p below) k })))
      (λ apart. front_same (larger s t m u es row h) area n (larger_other n other apart) (beside_it area beside n apart)) (named_or_not n (Vhd u))) (named_or_not n (Inflate u row.extents))
    where
      away : (p : ℕ) → p < size_of s t (Vhd u) → p ≡ (row.extents + length es) * extent - 1 → ⊥
      away p below is =
          let more : (row.extents + 1) * extent ≤ (row.extents + length es) * extent = mul-le-mul_right extent (omega (arith, h.some_extents)) in
          let next : (row.extents + 1) * extent ≡ row.extents * extent + extent = omega arith in
          omega (arith, below, is, own_size s t m u es row h, more, next, extent_some s t m h.orderly)

  pub front_larger : IsFront (larger s t m u es row h) rest
  front_larger = front_written rest (KeepsAt-none _ rest) (KeepsAt-none _ _)

  -- ---- the sectors of before

  module _ (v : VolumeTable) (area : Held) (moment : IsMoment v) (front : IsFront v area) (image : ℕ → List ℕ) (left : IsLeft s area image) where
    same_sectors : (n : Name) (p : ℕ) → p < size_of s t n → sectors_of (content_in s v image) n p ≡ sectors_of before_it n p
    same_sectors n p below =
        let some = extent_some s t m h.orderly in
        let may = commit_before (content_now s v area) area v image moment.table some (record { table_is = refl; sectors = left }) n p (omega (arith, below, moment.sizes n)) in
        volume_rested s t (reads old) n p (sectors_of (content_in s v image) n p) ((front n).may p (sectors_of (content_in s v image) n p) below may)
        ∙ sym (now_sector s t rest n p below)

    pub enlarging : IsEnlargingOn before_it (content_in s v image) u row.extents
    unfolding image_of
    enlarging = record {
      extent = refl;
      block = refl;
      entries = refl;
      geometry = geometry_of s t m h.orderly;
      table = record {
        later = moment.later;
        volumes = moment.volumes;
        own = (own s t m u es row h).volume;
        there = (own s t m u es row h).there;
        filled = (own s t m u es row h).filled;
        had = omega (arith, (own s t m u es row h).long);
        none_making = none_making s t m h.orderly;
        no_image = refl;
      };
      all = (own s t m u es row h).long;
      sectors = same_sectors;
      records = mgt_long s t m h.orderly;
    }

  pub moment_safe : (v : VolumeTable) (area : Held) (before : Leaving) → IsMoment v → IsFront v area → MayShow s before (disks before_it) → IsSafe s v area before (disks before_it)
  moment_safe v area before moment front might = record {
    kept = λ image left. enlarging_kept before_it (content_in s v image) u row.extents (enlarging v area moment front image left)
        (law_kept s t old m (reads old) h.orderly ready.firm (left_in s t m old (reads old) h.orderly (left_now s old)) (ready_places s t old m (reads old) h.orderly ready (left_now s old)));
    shown = λ image left.
        let same = enlarging_disks before_it (content_in s v image) u row.extents (enlarging v area moment front image left) in
        record {
          faces = ap (map face) same;
          sectors = λ w k bytes has. (disks before_it, might, subst (λ (ds : List Disk). HasSector ds w k bytes) same has);
        };
  }

  -- and it shows the disks from before, all sectors at once
  pub moment_shows : (v : VolumeTable) (area : Held) (before : Leaving) → IsMoment v → IsFront v area → MayShow s before (disks before_it) → (image : ℕ → List ℕ) → IsLeft s area image → MayShow s before (disks (content_in s v image))
  moment_shows v area before moment front might image left =
      subst (λ (ds : List Disk). MayShow s before ds) (sym (enlarging_disks before_it (content_in s v image) u row.extents (enlarging v area moment front image left))) might
