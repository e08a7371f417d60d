-- What a write of one volume leaves of each other, and what a commit that may have failed leaves.
use Rattle.std.proofs.Common.{◌≡◌, ◌≢◌, ℕ, ◌+◌, ◌*◌, ◌/◌, ◌%◌, ◌<◌, List, sym, ap, ap₂, ◌∙◌, subst}
use Rattle.std.specs.Prelude.{slice_index}
use Rattle.std.proofs.lemmas.Nat.{mod_below, mul-add-lt}
use Rattle.std.proofs.Math.Nat.{mul_comm}
use Rattle.sm_base.specs.declared.names.Name.{Name}
use Rattle.sm_disk.specs.Held.{Held, reads, May}
use Rattle.vg_meta.specs.Tables.{VolumeTable, IsTable, IsSpread, Rows, rows, extents_of}
use Rattle.vg_meta.proofs.ByName.{spread}
use Rattle.vg_volumes.specs.Commits.{IsBefore, IsAfter}
use Rattle.vg_volumes.specs.Volumes.{spot, span, volume, piece}
use Rattle.vg_volumes.proofs.ApartLaws.{extent_there}
pub use Rattle.vg_volumes.proofs.ApartLaws.{elsewhere, other_floor, other_pending}
use Rattle.vg_volumes.proofs.VolumeLaws.{volume_may}
use Rattle.sm_standing.specs.Contents.{Content, row, sectors_of, size_of}
use Rattle.sm_standing.specs.Worlds.{IsWrittenIn, with_table}

-- a place of a volume is within the extents
pub spot_below : (count extent : ℕ) (vs : Rows) (m : Name) (p : ℕ) → IsSpread count vs → 0 < extent
    → p < span extent (extents_of (vs m)) → spot extent (extents_of (vs m)) p < count * extent
unfolding spot
spot_below count extent vs m p sp pos p_in =
    let es = extents_of (vs m) in
    subst (λ most. slice_index es (p / extent) * extent + p % extent < most) (mul_comm extent count)
    (mul-add-lt (slice_index es (p / extent)) extent (p % extent) count
    (sp.below m (p / extent) (slice_index es (p / extent)) (extent_there extent es p pos p_in)) (mod_below p extent pos))

-- ---- one volume was written

pub other_sectors : (a b : Content) (n m : Name) → IsTable a.count a.table → 0 < a.extent → IsWrittenIn a b n → m ≢ n
    → (p : ℕ) → p < size_of a m → sectors_of b m p ≡ sectors_of a m p
unfolding sectors_of piece
other_sectors a b n m table pos h other p p_in =
    ap₂ (λ e t. b.area (spot e (extents_of (rows t m)) p)) h.extent h.table
    ∙ h.elsewhere (spot a.extent (extents_of (row a m)) p) (elsewhere a.count a.extent (rows a.table) n m p (spread a.count a.table table) pos other p_in)

-- ---- a commit that may have failed

pub commit_before : (c : Content) (held : Held) (left : VolumeTable) (image : ℕ → List ℕ) → IsTable c.count c.table → 0 < c.extent
    → IsBefore (c.count * c.extent) c.table held left image → (m : Name) (p : ℕ) → p < size_of c m
    → May (volume c.extent (extents_of (row c m)) held) p (sectors_of (with_table c left image) m p)
unfolding sectors_of piece
commit_before c held left image table pos h m p below =
    let es = extents_of (row c m) in
    subst (λ t. May (volume c.extent es held) p (image (spot c.extent (extents_of (rows t m)) p))) (sym h.table_is)
    (volume_may c.extent es held p (image (spot c.extent es p)) below
    (h.sectors (spot c.extent es p) (spot_below c.count c.extent (rows c.table) m p (spread c.count c.table table) pos below)))

pub commit_after : (c : Content) (held : Held) (next left : VolumeTable) (image : ℕ → List ℕ) → IsTable c.count next → 0 < c.extent
    → IsAfter (c.count * c.extent) next held left image → (m : Name) (p : ℕ) → p < size_of (with_table c next image) m
    → sectors_of (with_table c left image) m p ≡ sectors_of (with_table c next (reads held)) m p
unfolding sectors_of piece
commit_after c held next left image table pos h m p below =
    ap (λ t. image (spot c.extent (extents_of (rows t m)) p)) h.table_is
    ∙ h.sectors (spot c.extent (extents_of (rows next m)) p) (spot_below c.count c.extent (rows next) m p (spread c.count next table) pos below)
