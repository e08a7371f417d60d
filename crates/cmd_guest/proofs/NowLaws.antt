-- The images of a ready store as a read gives them, and what is read through their chains.
use Rattle.std.proofs.Common.{◌≡◌, ◌⊎◌, inl, inr, ⊎_elim, ℕ, ◌*◌, ◌<◌, ◌≤◌, nat_lt, not, ◌&&◌, Bool, true, false, cond, List, [], ◌∷◌, length, Option, Some, None, is_none, refl, sym, ap, ap₂, ◌∙◌, subst, arith}
use Rattle.std.proofs.Math.Path.{fun_ext}
use Rattle.std.proofs.lemmas.Bool.{true≢false, le-ltb, cases_lt}
use Rattle.std.proofs.lemmas.Option.{none-some, same_Some}
use Rattle.std.proofs.lemmas.Slice.Eq.{bytes_eq-Decides}
use Rattle.std.specs.List.{find}
use Rattle.std.specs.Str.{bytes_eq}
use Rattle.common_laws.specs.Lists.{In, ◌>>=◌}
use Rattle.common_laws.proofs.Lists.{In-map, find-some, find-only}
use Rattle.sm_base.specs.declared.names.Name.{Name}
use Rattle.sm_base.specs.declared.names.Name.TheVariants.{Vhd, Raw}
use Rattle.sm_base.specs.declared.sizes.Geometry.{Geometry}
use Rattle.sm_disk.specs.Held.{Held, reads}
use Rattle.sm_disk.specs.Sectors.{zeros}
use Rattle.sm_disk.proofs.HeldLaws.{Allows-reads}
use Rattle.sm_base.specs.Kinds.{is_image}
use Rattle.vg_meta.specs.Tables.{VolumeTable, Row, rows}
use Rattle.sm_standing.specs.Entries.{is_visible, of_row}
use Rattle.vg_volumes.specs.Sites.{Site, size_of, volume_of}
use Rattle.vg_volumes.specs.Stored.{Stored}
use Rattle.vhd_layout.specs.Layouts.{Sectors}
use Rattle.vhd_layout.specs.Contents.{content_at, own, size_at}
use Rattle.vhd_volumes.specs.declared.heads.Head.{Head}
use Rattle.vhd_volumes.specs.Truth.{layout_in}
use Rattle.vhd_volumes.specs.Writes.{own_in}
use Rattle.vhd_image.specs.Bodies.{sector_count, parent_name, own_of}
use Rattle.vhd_image.specs.Steady.{IsSteady}
use Rattle.vhd_image.specs.declared.images.Body.{Body}
use Rattle.vhd_image.specs.declared.images.Body.TheVariants as body
use Rattle.vhd_chain.specs.Reading.{chain_reads, image_in, reads_up, row_image}
use Rattle.vhd_chain.specs.Trees.{row_name, tree_row}
use Rattle.vhd_chain.specs.declared.rows.TreeRow.{TreeRow}
use Rattle.sm_machine.specs.Disks.{Disk, is_disk}
use Rattle.sm_machine.specs.Shapes.{DiskRecord, disk_record, image_uuid, chain_limit}
use Rattle.sm_machine.specs.WellFormed.{IsWellFormed}
use Rattle.sm_machine.specs.Refusals.{refusal, named, is_unknown, of_some}
use Rattle.sm_machine.specs.declared.commands.Command.{Command}
use Rattle.sm_machine.proofs.Passed.{passed}
use Rattle.sm_standing.specs.Contents.{Content, sectors_of}
use Rattle.sm_standing.specs.Images.{Image, ImageAnswer, here, held_or, image_of, answer_of, walk, image_reads, raw_image, sectors_read}
use Rattle.sm_standing.specs.Standing.{disks, disk_at, standing_volume}
use Rattle.sm_standing.specs.Shapes.{disk_record as record_now}
use Rattle.sm_standing.proofs.DiskLists.{disk_parts, disks_at}
use Rattle.sm_standing.proofs.ImageSectors.{image_same}
use Rattle.sm_ready.specs.Known.{Known, shape_in}
use Rattle.sm_ready.specs.Orderly.{IsOrderly}
use Rattle.sm_ready.specs.Outlined.{link_in}
use Rattle.sm_ready.specs.Ready.{IsReady, IsFirm}
use Rattle.sm_ready.specs.Stores.{content_now}
use Rattle.sm_ready.proofs.CauseLaws.{named_as}
use Rattle.sm_ready.proofs.LeftLaws.{none_link, size_there, vhd_in, left_in, left_now, links_left, now_sector, raw_of, vhd_of}
use Rattle.sm_ready.proofs.Orders.{In-tree_row, geometry_of, named_row, raw_row, rowed, whole}
use Rattle.sm_ready.proofs.RowLaws.{image_named, volume_there}
use Rattle.sm_ready.proofs.ShapeLaws.{plainly_stands, records_now, visible_row}
use Rattle.sm_ready.proofs.Steadies.{steady_valid, steady_size, steady_parent}
use Rattle.sm_ready.proofs.OwnLaws.{named_known}
use Rattle.cmd_guest.proofs.OwnLaws.{own_name_is}
use Rattle.sm_ready.proofs.TruthLaws.{row_found, row_sectors}

-- an image as a read gives it: with size and parent of what is in memory, and the sectors that it holds there
pub record IsNow (c : Content) (n : Name) (g : Geometry) (sectors : ℕ) (b : Body) (v : Sectors) : Type 0 where
  pub image : Image
  pub there : image_of c n ≡ Some image
  pub size : image.size ≡ sector_count b
  pub parent : image.parent ≡ parent_name b
  pub own : (k : ℕ) → image.own k ≡ own_of g sectors b v k

module _ (s : Site) (t : VolumeTable) (area : Held) (m : Known) (o : IsOrderly s t m) (firm : IsFirm s t area m) where
  abbrev c : Content
  c = content_now s t area

  held : Name → Sectors
  held n = reads (volume_of s t area n)

  vhd_now : (r : TreeRow) (u : List ℕ) → In r m.rows → row_name r ≡ Vhd u → IsNow (content_now s t area) (Vhd u) s.geometry (size_of s t (Vhd u)) r.image (reads (volume_of s t area (Vhd u)))
  vhd_now r u i named =
      let v = volume_there s t m r o (image_named (row_name r) (named_row s t m r o i)) (row_found s t m o r i) in
      let there : rows t (Vhd u) ≡ Some v.row = ap (rows t) (sym named) ∙ v.there in
      let long = size_there s t (Vhd u) v.row there in
      let w = vhd_in s t area m u v.row o firm there v.filled in
      let same : w.at.row ≡ r = same_Some w.at.row r (sym w.at.found ∙ ap (tree_row m.rows) (sym named) ∙ row_found s t m o r i) in
      let is : r.image ≡ body.Vhd w.head w.slots = ap (λ (q : TreeRow). q.image) (sym same) ∙ w.is in
      let n : ℕ = length v.row.extents * s.geometry.extent in
      let allows = Allows-reads n (volume_of s t area (Vhd u)) in
      subst (λ k. IsNow (content_now s t area) (Vhd u) s.geometry k r.image (reads (volume_of s t area (Vhd u)))) (sym long) (record {
        image = content_at s.geometry.block s.geometry.entries n (reads (volume_of s t area (Vhd u)));
        there = vhd_of (content_now s t area) u v.row there v.filled (whole s t m (Vhd u) o)
            ∙ image_same s.geometry.extent s.geometry.block s.geometry.entries n (sectors_of (content_now s t area) (Vhd u)) (reads (volume_of s t area (Vhd u))) (geometry_of s t m o)
            (λ p below. now_sector s t area (Vhd u) p (omega (arith, below, long)))
            ∙ steady_valid s.geometry n (volume_of s t area (Vhd u)) w.head w.slots (reads (volume_of s t area (Vhd u))) (geometry_of s t m o) w.steady allows;
        size = steady_size s.geometry n (volume_of s t area (Vhd u)) w.head w.slots (reads (volume_of s t area (Vhd u))) w.stands w.steady allows ∙ ap sector_count (sym is);
        parent = steady_parent s.geometry n (volume_of s t area (Vhd u)) w.head w.slots (reads (volume_of s t area (Vhd u))) w.steady allows ∙ ap parent_name (sym is);
        own = λ k. sym (ap (λ b. own_of s.geometry n b (reads (volume_of s t area (Vhd u))) k) is ∙ own_layout w.head n (reads (volume_of s t area (Vhd u))) k);
      })
    where
      own_layout : (head : Head) (n : ℕ) (v : Sectors) (k : ℕ) → own_in (layout_in s.geometry head.footer n) v k ≡ own s.geometry.block (size_at n v) v k
      own_layout head n v k = refl

  raw_now : (r : TreeRow) (u : List ℕ) → In r m.rows → row_name r ≡ Raw u → IsNow (content_now s t area) (Raw u) s.geometry (size_of s t (Raw u)) r.image (reads (volume_of s t area (Raw u)))
  unfolding raw_image
  raw_now r u i named =
      let v = volume_there s t m r o (image_named (row_name r) (named_row s t m r o i)) (row_found s t m o r i) in
      let w = raw_row s t m r u o i named in
      let all : w.sectors ≡ size_of s t (Raw u) = subst (IsSteady s.geometry (r.extents * s.geometry.extent) (volume_of s t area (row_name r))) w.is (firm.images r i) ∙ sym (row_sectors s t m o r i) ∙ ap (size_of s t) named in
      record {
        image = raw_image (content_now s t area) (Raw u);
        there = raw_of (content_now s t area) u v.row (ap (rows t) (sym named) ∙ v.there) v.filled;
        size = sym all ∙ ap sector_count (sym w.is);
        parent = ap parent_name (sym w.is);
        own = λ k. held k (cases_lt k (size_of s t (Raw u))) ∙ ap (λ z. cond (nat_lt k z) (Some (reads (volume_of s t area (Raw u)) k)) None) (sym all)
            ∙ sym (ap (λ b. own_of s.geometry (size_of s t (Raw u)) b (reads (volume_of s t area (Raw u))) k) w.is);
      }
    where
      held : (k : ℕ) → (k < size_of s t (Raw u)) ⊎ (size_of s t (Raw u) ≤ k)
          → cond (nat_lt k (size_of s t (Raw u))) (Some (sectors_of (content_now s t area) (Raw u) k)) None ≡ cond (nat_lt k (size_of s t (Raw u))) (Some (reads (volume_of s t area (Raw u)) k)) None
      held k (inl below) = ap (λ x. cond (nat_lt k (size_of s t (Raw u))) (Some x) None) (now_sector s t area (Raw u) k below)
      held k (inr past) = ap (λ b. cond b (Some (sectors_of (content_now s t area) (Raw u) k)) None) (le-ltb k (size_of s t (Raw u)) past)
          ∙ sym (ap (λ b. cond b (Some (reads (volume_of s t area (Raw u)) k)) None) (le-ltb k (size_of s t (Raw u)) past))

  pub row_now : (r : TreeRow) → In r m.rows → IsNow (content_now s t area) (row_name r) s.geometry (size_of s t (row_name r)) r.image (reads (volume_of s t area (row_name r)))
  row_now r i = ⊎_elim
      (λ vhd. subst (λ n. IsNow (content_now s t area) n s.geometry (size_of s t n) r.image (reads (volume_of s t area n))) (sym vhd) (vhd_now r (image_uuid (row_name r)) i vhd))
      (λ raw. subst (λ n. IsNow (content_now s t area) n s.geometry (size_of s t n) r.image (reads (volume_of s t area n))) (sym raw) (raw_now r (image_uuid (row_name r)) i raw))
      (named_as (row_name r) (image_uuid (row_name r)) (named_row s t m r o i) refl)

module _ (s : Site) (t : VolumeTable) (area : Held) (m : Known) (o : IsOrderly s t m) (ready : IsReady s t area m) where
  -- ---- what is read through a chain of memory is what the content says

  abbrev x : Stored
  x = record { site = s; table = t; area = area }

  none_now : (n : Name) → tree_row m.rows n ≡ None → image_of (content_now s t area) n ≡ None
  none_now n e = none_link (image_of (content_now s t area) n) (links_left s t area m (reads area) n o ready.firm (left_in s t m area (reads area) o (left_now s area)) ∙ ap link_in e)

  -- an image that is read is that of a row
  pub row_read : (n : Name) (i : Image) → image_of (content_now s t area) n ≡ Some i → (r : TreeRow) × In r m.rows × (row_name r ≡ n) × (i.parent ≡ parent_name r.image)
  row_read n i is = by (tree_row m.rows n) refl
    where
      by : (y : Option TreeRow) → tree_row m.rows n ≡ y → (r : TreeRow) × In r m.rows × (row_name r ≡ n) × (i.parent ≡ parent_name r.image)
      by None e = absurd (none-some i (sym (none_now n e) ∙ is))
      by (Some r) e =
          let f = In-tree_row m.rows n r e in
          let h = row_now s t area m o ready.firm r f.0 in
          (r, f.0, f.1, ap (λ (j : Image). j.parent) (same_Some i h.image (sym is ∙ ap (image_of (content_now s t area)) (sym f.1) ∙ h.there)) ∙ h.parent)

  answers : (k : ℕ) (n : Name) → answer_of k (image_of (content_now s t area) n) ≡ answer_of k (image_in x m.rows n)
  unfolding answer_of
  answers k n = by (tree_row m.rows n) refl
    where
      by : (y : Option TreeRow) → tree_row m.rows n ≡ y → answer_of k (image_of (content_now s t area) n) ≡ answer_of k (y >>= (λ r. Some (row_image x r)))
      by None e = ap (answer_of k) (none_now n e)
      by (Some r) e =
          let f = In-tree_row m.rows n r e in
          let h = row_now s t area m o ready.firm r f.0 in
          ap (λ y. answer_of k (image_of (content_now s t area) y)) (sym f.1) ∙ ap (answer_of k) h.there
          ∙ ap₂ (λ (z : ℕ) (a : ImageAnswer). cond (nat_lt k z) a (here zeros)) h.size (ap₂ held_or (h.own k) h.parent)

  pub chain_now : (n : Name) (k : ℕ) → image_reads (content_now s t area) n k ≡ chain_reads x m.rows n k
  unfolding image_reads reads_up
  chain_now n k = ap (λ (f : Name → ImageAnswer). walk chain_limit f n) (fun_ext (answers k))

  -- ---- the disk of a UUID

  pub record IsDiskOf (u : List ℕ) (n : Name) : Type 0 where
    pub disk : Disk
    pub there : In disk (disks (content_now s t area))
    pub named : disk.uuid ≡ u
    pub stands : standing_volume t u ≡ Some n
    pub sectors : disk.sectors ≡ sectors_read (content_now s t area) n

  -- a volume that is visible is that of a row of memory
  visible_there : (n : Name) → is_image n ≡ true → (y : Option Row) → rows t n ≡ y → of_row (λ q. not q.hidden && not q.fresh) y ≡ true → (q : TreeRow) × In q m.rows × (row_name q ≡ n)
  visible_there n image None is e = absurd (true≢false (sym e))
  visible_there n image (Some v) is e = by v.hidden v.fresh refl e
    where
      by : (a b : Bool) → v.fresh ≡ b → (not a && not b) ≡ true → (q : TreeRow) × In q m.rows × (row_name q ≡ n)
      by true b f e = absurd (true≢false (sym e))
      by false true f e = absurd (true≢false (sym e))
      by false false f e = let w = rowed s t m n v o image is f in (w.row, w.there, w.named)

  pub stands_in : (w : IsWellFormed (shape_in s t m)) (u : List ℕ) (r : TreeRow) → In r m.rows → r.hidden ≡ false → image_uuid (row_name r) ≡ u → standing_volume t u ≡ Some (row_name r)
  unfolding image_uuid
  stands_in w u r i shown uuid = plainly_stands s t m u o ∙ find-only (is_visible t) (Vhd u ∷ Raw u ∷ []) (row_name r)
      (⊎_elim (λ vhd. inl vhd) (λ raw. inr (inl raw)) (named_as (row_name r) u (named_row s t m r o i) uuid)) (visible_row s t m r o w i shown)
      (λ y among visible. ⊎_elim (λ is. only y (Vhd u) is refl refl visible) (λ rest. ⊎_elim (λ is. only y (Raw u) is refl refl visible) (λ none. absurd none) rest) among)
    where
      only : (y n : Name) → y ≡ n → is_image n ≡ true → image_uuid n ≡ u → is_visible t y ≡ true → y ≡ row_name r
      only y n is image of_u visible =
          let q = visible_there n image (rows t n) refl (sym (ap (is_visible t) is) ∙ visible) in
          is ∙ sym q.2 ∙ sym (own_name_is s t m u o w q.0 q.1 (ap image_uuid q.2 ∙ of_u)) ∙ own_name_is s t m u o w r i uuid

  pub disk_own : (c : Command) (u : List ℕ) (r : TreeRow) → named c ≡ Some u → refusal (shape_in s t m) c ≡ None → IsWellFormed (shape_in s t m) → In r m.rows → r.hidden ≡ false → image_uuid (row_name r) ≡ u → IsDiskOf u (row_name r)
  unfolding is_unknown shape_in
  disk_own c u r names allowed w i shown uuid = by (disk_record u (shape_in s t m)) refl (named_known (shape_in s t m) c u names (passed (shape_in s t m) c allowed).unknown)
    where
      by : (x : Option DiskRecord) → disk_record u (shape_in s t m) ≡ x → is_none (disk_record u (shape_in s t m)) ≡ false → IsDiskOf u (row_name r)
      by None e none = absurd (true≢false (sym (ap is_none e) ∙ none))
      by (Some d) e none =
          let f = find-some (λ (q : DiskRecord). bytes_eq q.uuid u) (shape_in s t m).records d e in
          let j = In-map record_now (disks (content_now s t area)) d (subst (In d) (sym (records_now s t area m o ready w)) f.0) in
          let own : j.0.uuid ≡ u = sym (ap (λ (q : DiskRecord). q.uuid) j.2) ∙ (bytes_eq-Decides d.uuid u).0 f.1 in
          let p = disk_parts (content_now s t area) j.0.uuid j.0 (disks_at (content_now s t area) j.0 j.1) in
          let stands = stands_in w u r i shown uuid in
          let same : p.name ≡ row_name r = same_Some p.name (row_name r) (sym p.standing ∙ ap (standing_volume t) own ∙ stands) in
          record { disk = j.0; there = j.1; named = own; stands = stands; sectors = ap (λ (q : Disk). q.sectors) p.made ∙ ap (sectors_read (content_now s t area)) same }

  pub disk_found : (u : List ℕ) (n : Name) (d : IsDiskOf u n) → find (is_disk u) (disks (content_now s t area)) ≡ Some d.disk
  disk_found u n d = find-only (is_disk u) (disks (content_now s t area)) d.disk d.there ((bytes_eq-Decides d.disk.uuid u).1 d.named)
      (λ y i is. same_Some y d.disk (sym (disks_at (content_now s t area) y i) ∙ ap (disk_at (content_now s t area)) ((bytes_eq-Decides y.uuid u).0 is ∙ sym d.named) ∙ disks_at (content_now s t area) d.disk d.there))
