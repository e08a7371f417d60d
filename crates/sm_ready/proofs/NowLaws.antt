-- An image of memory as a read gives it.
use Rattle.std.proofs.Common.{◌≡◌, ◌⊎◌, inl, inr, ⊎_elim, ℕ, ◌*◌, ◌/◌, ◌<◌, ◌≤◌, nat_lt, cond, List, length, Some, None, refl, sym, ap, ◌∙◌, subst, arith}
use Rattle.std.proofs.lemmas.Bool.{le-ltb, cases_lt}
use Rattle.common_laws.specs.Lists.{In}
use Rattle.sm_base.specs.declared.names.Name.{Name}
use Rattle.sm_base.specs.declared.names.Name.TheVariants.{Vhd, Raw}
use Rattle.sm_base.specs.declared.sizes.Geometry.{Geometry}
use Rattle.sm_disk.specs.Held.{Held, reads}
use Rattle.sm_disk.proofs.HeldLaws.{Allows-reads}
use Rattle.vg_meta.specs.Tables.{VolumeTable, rows}
use Rattle.vg_volumes.specs.Sites.{Site, size_of, volume_of}
use Rattle.vhd_layout.specs.Layouts.{Sectors, layout_of}
use Rattle.vhd_layout.specs.Contents.{content_at, own, size_at, slots_at}
use Rattle.vhd_volumes.specs.declared.heads.Head.{Head}
use Rattle.vhd_volumes.specs.Steady.{IsSteadyIn}
use Rattle.vhd_volumes.specs.Truth.{IsStanding, layout_in}
use Rattle.vhd_volumes.specs.Writes.{own_in}
use Rattle.vhd_image.specs.Bodies.{StandsIn, sector_count, parent_name, own_of}
use Rattle.vhd_image.specs.Steady.{IsSteady}
use Rattle.vhd_image.specs.declared.images.Body.{Body}
use Rattle.vhd_volumes.proofs.SteadyLaws.{steady_map}
use Rattle.vhd_chain.specs.Reading.{slots_of}
use Rattle.vhd_chain.specs.Trees.{row_name}
use Rattle.vhd_chain.specs.declared.rows.TreeRow.{TreeRow}
use Rattle.sm_machine.specs.Shapes.{image_uuid}
use Rattle.sm_standing.specs.Contents.{Content, sectors_of}
use Rattle.sm_standing.specs.Images.{Image, image_of, raw_image}
use Rattle.sm_standing.proofs.ImageSectors.{image_same}
use Rattle.sm_ready.specs.Known.{Known}
use Rattle.sm_ready.specs.Orderly.{IsOrderly}
use Rattle.sm_ready.specs.Stores.{content_now}
use Rattle.sm_ready.proofs.CauseLaws.{named_as}
use Rattle.sm_ready.proofs.LeftLaws.{now_sector, raw_of, size_there, vhd_of}
use Rattle.sm_ready.proofs.Orders.{geometry_of, named_row, raw_row, vhd_row, whole}
use Rattle.sm_ready.proofs.RowLaws.{image_named, volume_there}
use Rattle.sm_ready.proofs.Steadies.{steady_valid, steady_size, steady_parent}
use Rattle.sm_ready.proofs.TruthLaws.{row_found, row_sectors}

-- an image as a read gives it: with size, parent and slots of what is in memory, and the sectors that it holds there
pub record IsNow (c : Content) (n : Name) (g : Geometry) (sectors : ℕ) (b : Body) (v : Sectors) : Type 0 where
  pub image : Image
  pub there : image_of c n ≡ Some image
  pub size : image.size ≡ sector_count b
  pub parent : image.parent ≡ parent_name b
  pub slots : image.slots ≡ slots_of b
  pub own : (k : ℕ) → image.own k ≡ own_of g sectors b v k

module _ (s : Site) (t : VolumeTable) (area : Held) (m : Known) (o : IsOrderly s t m) where
  vhd_now : (r : TreeRow) (u : List ℕ) → In r m.rows → IsSteady s.geometry (r.extents * s.geometry.extent) (volume_of s t area (row_name r)) r.image → row_name r ≡ Vhd u
      → IsNow (content_now s t area) (Vhd u) s.geometry (size_of s t (Vhd u)) r.image (reads (volume_of s t area (Vhd u)))
  vhd_now r u i is_steady named =
      let v = volume_there s t m r o (image_named (row_name r) (named_row s t m r o i)) (row_found s t m o r i) in
      let there : rows t (Vhd u) ≡ Some v.row = ap (rows t) (sym named) ∙ v.there in
      let long = size_there s t (Vhd u) v.row there in
      let w = vhd_row s t m r u o i named in
      let n : ℕ = length v.row.extents * s.geometry.extent in
      let wide : r.extents * s.geometry.extent ≡ n = sym (row_sectors s t m o r i) ∙ ap (size_of s t) named ∙ long in
      let steady : IsSteadyIn s.geometry n (volume_of s t area (Vhd u)) w.head w.slots =
      subst (λ k. IsSteadyIn s.geometry k (volume_of s t area (Vhd u)) w.head w.slots) wide
      (subst (λ x. IsSteadyIn s.geometry (r.extents * s.geometry.extent) (volume_of s t area x) w.head w.slots) named
      (subst (λ b. IsSteady s.geometry (r.extents * s.geometry.extent) (volume_of s t area (row_name r)) b) w.is is_steady)) in
      let stands : IsStanding s.geometry n w.head w.slots =
      subst (λ k. IsStanding s.geometry k w.head w.slots) wide (subst (λ b. StandsIn s.geometry (r.extents * s.geometry.extent) b) w.is (o.stands r i)) in
      let allows = Allows-reads n (volume_of s t area (Vhd u)) in
      let size = steady_size s.geometry n (volume_of s t area (Vhd u)) w.head w.slots (reads (volume_of s t area (Vhd u))) stands steady allows in
      subst (λ k. IsNow (content_now s t area) (Vhd u) s.geometry k r.image (reads (volume_of s t area (Vhd u)))) (sym long) (record {
        image = content_at s.geometry.block s.geometry.entries n (reads (volume_of s t area (Vhd u)));
        there = vhd_of (content_now s t area) u v.row there v.filled (whole s t m (Vhd u) o)
            ∙ image_same s.geometry.extent s.geometry.block s.geometry.entries n (sectors_of (content_now s t area) (Vhd u)) (reads (volume_of s t area (Vhd u))) (geometry_of s t m o)
            (λ p below. now_sector s t area (Vhd u) p (omega (arith, below, long)))
            ∙ steady_valid s.geometry n (volume_of s t area (Vhd u)) w.head w.slots (reads (volume_of s t area (Vhd u))) (geometry_of s t m o) steady allows;
        size = size ∙ ap sector_count (sym w.is);
        parent = steady_parent s.geometry n (volume_of s t area (Vhd u)) w.head w.slots (reads (volume_of s t area (Vhd u))) steady allows ∙ ap parent_name (sym w.is);
        slots = ap (λ z. slots_at (layout_of s.geometry.block s.geometry.entries (z / s.geometry.block) n) (reads (volume_of s t area (Vhd u)))) size
            ∙ steady_map s.geometry n w.head w.slots (geometry_of s t m o) stands steady ∙ ap slots_of (sym w.is);
        own = λ k. sym (ap (λ b. own_of s.geometry n b (reads (volume_of s t area (Vhd u))) k) w.is ∙ own_layout w.head n (reads (volume_of s t area (Vhd u))) k);
      })
    where
      own_layout : (head : Head) (n : ℕ) (v : Sectors) (k : ℕ) → own_in (layout_in s.geometry head.footer n) v k ≡ own s.geometry.block (size_at n v) v k
      own_layout head n v k = refl

  raw_now : (r : TreeRow) (u : List ℕ) → In r m.rows → IsSteady s.geometry (r.extents * s.geometry.extent) (volume_of s t area (row_name r)) r.image → row_name r ≡ Raw u
      → IsNow (content_now s t area) (Raw u) s.geometry (size_of s t (Raw u)) r.image (reads (volume_of s t area (Raw u)))
  unfolding raw_image
  raw_now r u i is_steady named =
      let v = volume_there s t m r o (image_named (row_name r) (named_row s t m r o i)) (row_found s t m o r i) in
      let w = raw_row s t m r u o i named in
      let all : w.sectors ≡ size_of s t (Raw u) = subst (IsSteady s.geometry (r.extents * s.geometry.extent) (volume_of s t area (row_name r))) w.is is_steady ∙ sym (row_sectors s t m o r i) ∙ ap (size_of s t) named in
      record {
        image = raw_image (content_now s t area) (Raw u);
        there = raw_of (content_now s t area) u v.row (ap (rows t) (sym named) ∙ v.there) v.filled;
        size = sym all ∙ ap sector_count (sym w.is);
        parent = ap parent_name (sym w.is);
        slots = ap slots_of (sym w.is);
        own = λ k. held k (cases_lt k (size_of s t (Raw u))) ∙ ap (λ z. cond (nat_lt k z) (Some (reads (volume_of s t area (Raw u)) k)) None) (sym all)
            ∙ sym (ap (λ b. own_of s.geometry (size_of s t (Raw u)) b (reads (volume_of s t area (Raw u))) k) w.is);
      }
    where
      held : (k : ℕ) → (k < size_of s t (Raw u)) ⊎ (size_of s t (Raw u) ≤ k)
          → cond (nat_lt k (size_of s t (Raw u))) (Some (sectors_of (content_now s t area) (Raw u) k)) None ≡ cond (nat_lt k (size_of s t (Raw u))) (Some (reads (volume_of s t area (Raw u)) k)) None
      held k (inl below) = ap (λ x. cond (nat_lt k (size_of s t (Raw u))) (Some x) None) (now_sector s t area (Raw u) k below)
      held k (inr past) = ap (λ b. cond b (Some (sectors_of (content_now s t area) (Raw u) k)) None) (le-ltb k (size_of s t (Raw u)) past)
          ∙ sym (ap (λ b. cond b (Some (reads (volume_of s t area (Raw u)) k)) None) (le-ltb k (size_of s t (Raw u)) past))

  pub row_now : (r : TreeRow) → In r m.rows → IsSteady s.geometry (r.extents * s.geometry.extent) (volume_of s t area (row_name r)) r.image → IsNow (content_now s t area) (row_name r) s.geometry
      (size_of s t (row_name r)) r.image (reads (volume_of s t area (row_name r)))
  row_now r i is_steady = ⊎_elim
      (λ vhd. subst (λ n. IsNow (content_now s t area) n s.geometry (size_of s t n) r.image (reads (volume_of s t area n))) (sym vhd) (vhd_now r (image_uuid (row_name r)) i is_steady vhd))
      (λ raw. subst (λ n. IsNow (content_now s t area) n s.geometry (size_of s t n) r.image (reads (volume_of s t area n))) (sym raw) (raw_now r (image_uuid (row_name r)) i is_steady raw))
      (named_as (row_name r) (image_uuid (row_name r)) (named_row s t m r o i) refl)
