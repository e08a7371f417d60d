-- While a log is split no place of another volume is written.
use Rattle.std.proofs.Common.{◌≡◌, ◌≢◌, ℕ, ◌<◌, false, List, Option, Some, sym, ap, ◌∙◌, subst, subst₂}
use Rattle.std.proofs.lemmas.Option.{none-some}
use Rattle.common_laws.specs.Lists.{In}
use Rattle.sm_base.specs.Kinds.{is_log}
use Rattle.sm_base.specs.declared.names.Name.{Name}
use Rattle.sm_base.specs.declared.names.Name.TheVariants.{Cbt}
use Rattle.sm_cbt.specs.Making.{made_table}
use Rattle.sm_cbt.specs.Splitting.{IsApart, WritesBoth}
use Rattle.sm_disk.specs.Held.{Keeps}
use Rattle.sm_log.specs.Logs.{Log, begun_anew, log_of}
use Rattle.sm_standing.proofs.WorldLaws.{spot_below}
use Rattle.vg_meta.proofs.ByName.{spread}
use Rattle.vg_meta.specs.Tables.{IsTable, Row, VolumeTable, extents_of, rows}
use Rattle.vg_volumes.proofs.ApartLaws.{elsewhere}
use Rattle.vg_volumes.specs.Sites.{Site, area_size, size_of, volume_of}
use Rattle.vg_volumes.specs.Stored.{stored}
use Rattle.vg_volumes.specs.Volumes.{IsElsewhere, span, spot, volume}
use Rattle.vg_volumes.specs.declared.stores.Store.{Ghosts}
use Rattle.sm_ready.proofs.AfterLaws.{spots_keep}
use Rattle.sm_ready.proofs.ChainLaws.{tab}
use Rattle.sm_ready.proofs.LeftLaws.{extent_some}
use Rattle.sm_ready.proofs.LogRows.{HasLogRow, log_in_list, log_row}
use Rattle.sm_ready.specs.Known.{known}
use Rattle.sm_ready.specs.declared.memory.Memory.{Memory}
use Rattle.sm_tracking.proofs.AnewLaws.{IsToSplit, to_log}
use Rattle.sm_tracking.proofs.MadeLaws.{one_log}
use Rattle.sm_tracking.proofs.ReadyLaws.{KeepsVolumes}
use Rattle.sm_tracking.proofs.StopLaws.{no_log_apart}

module _ {S : Type 0} (g : Ghosts S) (a : S) (m : Memory) {u : List ℕ} {own twin : Log} {es : List ℕ} (x : IsToSplit (g.site a) (tab g a) (known m) u own twin es) where
  abbrev s : Site
  s = g.site a

  abbrev t : VolumeTable
  t = tab g a

  abbrev anew : Log
  anew = begun_anew twin.tag own

  -- ---- the rows of the two logs

  pub own_in : In own m.logs × (own.disk ≡ u)
  own_in = log_in_list m.logs u own x.found

  pub its_row : HasLogRow t own
  its_row = log_row s t (known m) own x.orderly own_in.0

  pub row_there : rows t (Cbt u) ≡ Some its_row.row
  row_there = subst (λ (v : List ℕ). rows t (Cbt v) ≡ Some its_row.row) own_in.1 its_row.there

  apart : twin.disk ≢ u
  apart same = none-some own (sym x.absent ∙ ap (λ (v : List ℕ). log_of v m.logs) same ∙ x.found)

  pub own_other : Cbt u ≢ Cbt twin.disk
  own_other e = apart (let z : twin.disk ≡ u = cc in z)

  -- ---- the places of other volumes

  abbrev pub made_t : VolumeTable
  made_t = made_table t twin es

  -- a place of another volume is none of the twin's, nor of the disk's log
  pub away_new : (v : VolumeTable) → IsTable s.count v → ((n : Name) → n ≢ Cbt twin.disk → rows v n ≡ rows t n) → extents_of (rows v (Cbt twin.disk)) ≡ es
      → (n : Name) → n ≢ Cbt twin.disk → (p : ℕ) → p < size_of s t n → IsElsewhere s.geometry.extent es (spot s.geometry.extent (extents_of (rows t n)) p)
  away_new v table others on n other p below =
      let same : rows v n ≡ rows t n = others n other in
      let in_now : p < size_of s v n = subst (λ (r : Option Row). p < span s.geometry.extent (extents_of r)) (sym same) below in
      subst₂ (λ (us vs : List ℕ). IsElsewhere s.geometry.extent us (spot s.geometry.extent vs p)) on (ap extents_of same)
      (elsewhere s.count s.geometry.extent (rows v) (Cbt twin.disk) n p (spread s.count v table) (extent_some s t (known m) x.orderly) other in_now)

  pub away_made : (n : Name) → n ≢ Cbt twin.disk → (p : ℕ) → p < size_of s t n → IsElsewhere s.geometry.extent es (spot s.geometry.extent (extents_of (rows t n)) p)
  away_made = let o = one_log (to_log x) in away_new made_t o.table o.others (ap extents_of o.there)

  pub away_both : (n : Name) → (n ≢ Cbt twin.disk) × (n ≢ Cbt u) → (p : ℕ) → p < size_of s t n → IsApart (stored g a) anew es (spot s.geometry.extent (extents_of (rows t n)) p)
  away_both n other p below = record {
    new = away_made n other.0 p below;
    own = subst (λ (w : List ℕ). IsElsewhere s.geometry.extent (extents_of (rows t (Cbt w))) (spot s.geometry.extent (extents_of (rows t n)) p)) (sym own_in.1)
        (elsewhere s.count s.geometry.extent (rows t) (Cbt u) n p (spread s.count t x.orderly.table) (extent_some s t (known m) x.orderly) other.1 below);
  }

  pub in_area : (n : Name) (p : ℕ) → p < size_of s t n → spot s.geometry.extent (extents_of (rows t n)) p < area_size s
  in_area n p below = spot_below s.count s.geometry.extent (rows t) n p (spread s.count t x.orderly.table) (extent_some s t (known m) x.orderly) below

  -- ---- what is held of the other volumes

  module _ {b : S} (told : g.told) (w : WritesBoth g anew es a b) where
    pub keeps_at : (n : Name) → (n ≢ Cbt twin.disk) × (n ≢ Cbt u) → Keeps (volume s.geometry.extent (extents_of (rows t n)) (g.area a)) (volume s.geometry.extent (extents_of (rows t n)) (g.area b))
    keeps_at n other = spots_keep s.geometry.extent (extents_of (rows t n)) (λ p. IsApart (stored g a) anew es p) (g.area a) (g.area b) (w.elsewhere told) (λ p below. away_both n other p below)

    pub volumes : (v : VolumeTable) → ((n : Name) → is_log n ≡ false → rows v n ≡ rows t n) → KeepsVolumes s t v (g.area a) (g.area b)
    volumes v same n no_log = subst (λ (r : Option Row). Keeps (volume_of s t (g.area a) n) (volume s.geometry.extent (extents_of r) (g.area b))) (sym (same n no_log))
        (keeps_at n (no_log_apart n twin.disk no_log, no_log_apart n u no_log))
