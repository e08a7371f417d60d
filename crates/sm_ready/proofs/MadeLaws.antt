-- An image that was just made: work on one volume and then a write to another, that an image without slots is steady once
-- all is settled, and that one without slots and without a parent reads as zeros.
use Rattle.std.proofs.Common.{◌≡◌, ◌≢◌, ⊎_elim, zero, suc, ℕ, ◌+◌, ◌*◌, ◌/◌, ◌%◌, ◌<◌, true, false, List, [], ◌∷◌, length, map, replicate, Option, Some, None, refl, sym, ap, ◌∙◌, subst, subst₂, arith}
use Rattle.std.proofs.Math.Path.{fun_ext}
use Rattle.std.proofs.lemmas.Bool.{cases_lt, cond-true, cond-false, lt-ltb, le-ltb}
use Rattle.common_laws.specs.Lists.{numbers}
use Rattle.sm_base.specs.declared.names.Name.{Name}
use Rattle.sm_base.specs.declared.names.Name.TheVariants.{Vhd}
use Rattle.sm_disk.specs.Held.{Held, Allows, Keeps, May, reads}
use Rattle.sm_disk.specs.Sectors.{zeros}
use Rattle.sm_disk.proofs.HeldLaws.{May-reads}
use Rattle.vg_meta.specs.Tables.{VolumeTable, Row, IsTable, rows, extents_of}
use Rattle.vg_meta.specs.Changes.{applied, made}
use Rattle.vg_meta.specs.declared.changes.Change.TheVariants.{Create, Mark}
use Rattle.vg_meta.specs.declared.changes.Tag.TheVariants.{Fresh}
use Rattle.vg_volumes.specs.Sites.{Site, size_of, volume_of}
use Rattle.vg_volumes.specs.Stored.{stored, held_in, sectors_in, Commits, Stays, Writes, WorksOn}
use Rattle.vg_volumes.specs.Volumes.{piece, span, spot, volume}
use Rattle.vg_volumes.specs.declared.stores.Store.{Ghosts}
use Rattle.vg_volumes.proofs.StoredLaws.{beside_in, did_in, held_stays}
use Rattle.vg_volumes.proofs.VolumeLaws.{IsSettled-volume, Keeps-volume, volume_may}
use Rattle.vhd_layout.specs.Contents.{content_at, own, size_at, value}
use Rattle.vhd_layout.specs.Images.{IsImage}
use Rattle.vhd_layout.specs.Layouts.{Sectors, Layout, code, entry}
use Rattle.vhd_layout.proofs.ImageLaws.{in_entries, value-without_slot}
use Rattle.vhd_map.proofs.SlotLemmas.{slot_of-replicate}
use Rattle.vhd_volumes.specs.declared.heads.Head.{Head}
use Rattle.vhd_volumes.specs.Steady.{IsSteadyIn}
use Rattle.vhd_volumes.specs.Truth.{IsStanding, disk_sectors, layout_in}
use Rattle.vhd_image.proofs.ContentLaws.{block-below}
use Rattle.vhd_image.proofs.SteadyLaws.{steady_made}
use Rattle.vhd_chain.specs.declared.rows.TreeRow.{TreeRow}
use Rattle.sm_machine.specs.Disks.{filled}
use Rattle.sm_record.specs.declared.records.Record.{Record}
use Rattle.sm_standing.specs.Contents.{Content, sectors_of}
use Rattle.sm_standing.specs.Images.{Image, image_of, image_reads, sectors_read}
use Rattle.sm_standing.proofs.ImageLaws.{top_zeros}
use Rattle.sm_standing.proofs.PlainDisks.{map_numbers}
use Rattle.sm_ready.specs.Done.{at_rest}
use Rattle.sm_ready.specs.Known.{Known, known}
use Rattle.sm_ready.specs.Orderly.{IsOrderly}
use Rattle.sm_ready.specs.Stores.{content_now}
use Rattle.sm_ready.specs.declared.memory.Memory.{Memory}
use Rattle.sm_ready.proofs.AfterLaws.{other_keeps}
use Rattle.sm_ready.proofs.ChainLaws.{tab, volume_other}
use Rattle.sm_ready.proofs.LastLaws.{same_extents}
use Rattle.sm_ready.proofs.LeftLaws.{vhd_of}
use Rattle.sm_ready.proofs.MakingLaws.{MakesIn, table_end}
use Rattle.sm_ready.proofs.NewLaws.{made_is}
use Rattle.sm_ready.proofs.Orders.{whole}
use Rattle.sm_ready.proofs.RestLaws.{keeps_rest}
use Rattle.sm_ready.proofs.Steadies.{steady_parent, steady_size, steady_valid}

-- ---- work on one volume, then a write to another

module _ {S : Type 0} {g : Ghosts S} {a b d : S} {n m : Name} {Q : Held → Held → Type 0} (table : IsTable (g.site a).count (tab g a)) (other : n ≢ m) (first : WorksOn g n a b) (second : Writes g m Q b d) (told : g.told) where
  -- the one holds what the work left
  pub worked_here : volume_of (g.site a) (tab g a) (g.area d) n ≡ held_in (stored g b) n
  worked_here = volume_other (g.site a) (tab g a) (g.area b) (g.area d) m n table (beside_in first.stays second told) other ∙ sym (held_stays n first.stays)

  -- the other was kept
  pub kept_there : Keeps (volume_of (g.site a) (tab g a) (g.area a) m) (volume_of (g.site a) (tab g a) (g.area b) m)
  kept_there = other_keeps (g.site a) (tab g a) (g.area a) (g.area b) n m table (omega (arith, (g.site a).geometry.in_range.extent_least)) (first.elsewhere told) (λ e. other (sym e))

  -- and then written
  pub written_there : Q (volume_of (g.site a) (tab g a) (g.area b) m) (volume_of (g.site a) (tab g a) (g.area d) m)
  written_there = did_in first.stays second told

-- ---- a new image once all is settled

abbrev no_slots : Site → List (Option ℕ)
no_slots s = replicate s.geometry.entries None

-- one without slots is steady, whatever its parent
pub steady_new : (s : Site) (t : VolumeTable) (area : Held) (n : ℕ) (head : Head) (own : Name) → IsImage (layout_in s.geometry head.footer n) (reads (volume_of s t area own)) head.footer head.header (λ b. None)
    → IsSteadyIn s.geometry n (volume_of s t (at_rest (reads area)) own) head (no_slots s)
steady_new s t area n head own is =
    steady_made s.geometry n head s.geometry.in_range is (Keeps-volume s.geometry.extent (extents_of (rows t own)) (keeps_rest area)) (IsSettled-volume s.geometry.extent (extents_of (rows t own)) (at_rest (reads area)) (λ p. refl))

-- ---- what is read of it

pub zeros_read : (a n : ℕ) → map (λ (k : ℕ). zeros) (numbers a n) ≡ replicate n zeros
unfolding numbers
zeros_read a zero = refl
zeros_read a (suc n) = ap (λ xs. zeros ∷ xs) (zeros_read (a + 1) n)

-- an image that holds nothing and has no parent reads as zeros
pub empty_reads : (c : Content) (n : Name) (i : Image) → image_of c n ≡ Some i → ((s : ℕ) → i.own s ≡ None) → i.parent ≡ None → sectors_read c n ≡ filled i.size 0
unfolding sectors_read zeros
empty_reads c n i is none top =
    ap (λ o. elim o as (λ o. List (List ℕ)) [ None ↦ [] | Some j ↦ map (image_reads c n) (numbers 0 j.size) ]) is
    ∙ map_numbers (image_reads c n) (λ k. zeros) 0 i.size (λ k from below. top_zeros c n i k is (none k) top)
    ∙ zeros_read 0 i.size

module _ (s : Site) (n : ℕ) (h : Held) (head : Head) (v : Sectors) (stands : IsStanding s.geometry n head (no_slots s)) (steady : IsSteadyIn s.geometry n h head (no_slots s)) (allows : Allows n h v) where
  l : Layout
  l = layout_in s.geometry head.footer n

  blank_entry : (b : ℕ) → b < s.geometry.entries → entry v b ≡ code l None
  unfolding l
  blank_entry b below =
      ⊎_elim (λ is. is) (λ is. is ∙ ap (code l) (slot_of-replicate s.geometry.entries b)) (steady.is_true.within v allows b (in_entries l b below))

  -- one without slots holds nothing
  pub none_own : (k : ℕ) → own s.geometry.block (size_at n v) v k ≡ None
  unfolding own l
  none_own k = ⊎_elim
      (λ below.
      let at : k / s.geometry.block < s.geometry.entries = omega (arith, stands.most, block-below s.geometry n head (no_slots s) s.geometry.in_range stands k (omega (arith, below, steady_size s.geometry n h head (no_slots s) v stands steady allows))) in
      cond-true _ (value v (k / s.geometry.block) (k % s.geometry.block)) None (lt-ltb k (size_at n v) below)
      ∙ value-without_slot l v (λ b. None) (k / s.geometry.block) (k % s.geometry.block) (blank_entry (k / s.geometry.block) at) refl)
      (λ past. cond-false _ (value v (k / s.geometry.block) (k % s.geometry.block)) None (le-ltb k (size_at n v) past))
      (cases_lt k (size_at n v))

-- a VHD image without slots and without a parent, in a volume that is not new
pub new_reads : (s : Site) (t : VolumeTable) (m : Known) (area : Held) (u : List ℕ) (r : Row) (head : Head) → IsOrderly s t m → rows t (Vhd u) ≡ Some r → r.fresh ≡ false → let n : ℕ = length r.extents * s.geometry.extent in
    IsStanding s.geometry n head (no_slots s) → IsSteadyIn s.geometry n (volume s.geometry.extent r.extents area) head (no_slots s) → head.header.parent ≡ None
    → sectors_read (content_now s t area) (Vhd u) ≡ filled (disk_sectors head.footer) 0
unfolding sectors_of piece
new_reads s t m area u r head o there full stands steady top =
    empty_reads c (Vhd u) (content_at s.geometry.block s.geometry.entries n v) (vhd_of c u r there full (whole s t m (Vhd u) o) ∙ steady_valid s.geometry n h head (no_slots s) v s.geometry.in_range steady left)
    (none_own s n h head v stands steady left) (steady_parent s.geometry n h head (no_slots s) v steady left ∙ top)
    ∙ ap (λ k. filled k 0) (steady_size s.geometry n h head (no_slots s) v stands steady left)
  where
    c : Content
    c = content_now s t area

    n : ℕ
    n = length r.extents * s.geometry.extent

    h : Held
    h = volume s.geometry.extent r.extents area

    v : Sectors
    v = sectors_of c (Vhd u)

    left : Allows n h v
    left p below =
        volume_may s.geometry.extent r.extents area p (v p) below
        (subst (λ o. May area (spot s.geometry.extent r.extents p) (reads area (spot s.geometry.extent (extents_of o) p))) (sym there) (May-reads area (spot s.geometry.extent r.extents p)))

-- ---- what a read gives once the mark is taken away

-- it is what a read gave of the new volume when all was written
pub read_end : {S : Type 0} {g : Ghosts S} {a b d f : S} {m : Memory} {own : Name} {es : List ℕ} {added : TreeRow} {k : ℕ} {r : Record} → MakesIn g a m own es added k r
    → Commits g (Create own true es) a b → Stays g b d → Commits g (Mark own Fresh false) d f → g.told → (P : ℕ → Sectors → Type 0)
    → P (size_of (g.site b) (tab g b) own) (reads (volume_of (g.site b) (tab g b) (g.area d) own)) → P (sectors_in (stored g f) own) (reads (held_in (stored g f) own))
read_end {g = g} {a} {b} {d} {f} {m} {own} {es} {added} {k} {r} h c stays e told P was =
    subst₂ (λ (x : Site) (fs : List ℕ). P (span x.geometry.extent fs) (reads (volume x.geometry.extent fs (g.area f)))) (sym (e.site ∙ stays.site)) (sym extents)
    (subst (λ (v : Sectors). P (span extent (extents_of (rows (tab g b) own))) v) (sym (fun_ext (Keeps-volume extent (extents_of (rows (tab g b) own)) (e.keeps told)).reads)) was)
  where
    extent : ℕ
    extent = (g.site b).geometry.extent

    extents : extents_of (rows (tab g f) own) ≡ extents_of (rows (tab g b) own)
    extents = ap (λ y. extents_of (rows y own)) (table_end h c stays e)
        ∙ same_extents (g.site a) (applied (tab g a) (Create own true es)) (known m) own added k r (made own true es) (made_is (g.site a) (tab g a) (known m) own es added k r h.begins) own
        ∙ sym (ap (λ y. extents_of (rows y own)) c.table)
