-- A new VHD disk: what is known before its volume is made, and the disk that its image and its record are.
use Rattle.std.proofs.Common.{◌≡◌, ◌≢◌, ℕ, ◌+◌, ◌-◌, ◌*◌, ◌/◌, ◌^◌, ◌<◌, ◌≤◌, ◌==◌, true, false, nat_lt, List, [], length, min, replicate, unwrap_or, Option, Some, None, IsSome, refl, sym, ap, ap₂, ◌∙◌, subst, subst₂, arith}
use Rattle.std.proofs.Math.Nat.{le_of_mul-le-mul_right, mul-div_cancel, mul-le-mul}
use Rattle.std.proofs.lemmas.Bool.{eqb-false, ltb-false, or_parts}
use Rattle.sm_base.specs.Limits.{extent_limit}
use Rattle.sm_base.proofs.NumberLemmas.{div_up-le, div_up-pos, first-le, le-div_up}
use Rattle.sm_base.specs.Names.{IsName, base_uuid}
use Rattle.sm_base.specs.Numbers.{div_up, first, thin}
use Rattle.sm_base.specs.declared.names.Name.{Name}
use Rattle.sm_base.specs.declared.names.Name.TheVariants as name
use Rattle.sm_base.specs.declared.sizes.Geometry.{Geometry}
use Rattle.sm_disk.specs.Held.{reads}
use Rattle.vg_meta.specs.Tables.{VolumeTable, rows, extents_of}
use Rattle.vg_meta.specs.Changes.{applied, made, tagged}
use Rattle.vg_meta.specs.declared.changes.Change.TheVariants.{Create}
use Rattle.vg_meta.specs.declared.changes.Tag.TheVariants.{Fresh}
use Rattle.vg_volumes.specs.Sites.{Site, size_of, volume_of}
use Rattle.vg_volumes.specs.Stored.{Commits}
use Rattle.vg_volumes.specs.Volumes.{volume}
use Rattle.vg_volumes.specs.declared.stores.Store.{Ghosts}
use Rattle.vhd_chain.specs.declared.rows.TreeRow.{TreeRow}
use Rattle.vhd_image.specs.declared.images.Body.TheVariants.{Vhd}
use Rattle.vhd_image.specs.Made.{IsDiskSize}
use Rattle.vhd_image.proofs.MakingLaws.{made-stands}
use Rattle.vhd_volumes.specs.declared.heads.Head.{Head}
use Rattle.vhd_volumes.specs.Steady.{IsSteadyIn}
use Rattle.vhd_layout.specs.Images.{IsImage}
use Rattle.vhd_volumes.specs.Truth.{HasRoomFor, layout_in}
use Rattle.sm_machine.specs.Disks.{Disk, filled}
use Rattle.sm_machine.specs.Refusals.{refusal, is_bad_size, images_needed, new_uuid, rounded}
use Rattle.sm_machine.specs.Shapes.{ImageRow, image_uuid}
use Rattle.sm_machine.specs.Steps.{State, new_image}
use Rattle.sm_machine.specs.WellFormed.{is_image_name}
use Rattle.sm_machine.specs.declared.commands.Command.TheVariants as command
use Rattle.sm_machine.proofs.Passed.{passed}
use Rattle.sm_record.specs.declared.records.Record.{Record}
use Rattle.sm_mgt.specs.Places.{place_for}
use Rattle.sm_standing.specs.Standing.{disk_in}
use Rattle.sm_ready.specs.Done.{at_rest}
use Rattle.sm_ready.specs.Framing.{IsBetweenSteps}
use Rattle.sm_ready.specs.Known.{Known, known, machine_row, shape_in}
use Rattle.sm_ready.specs.Orderly.{IsOrderly}
use Rattle.sm_ready.specs.Ready.{IsTidy}
use Rattle.sm_ready.specs.Stores.{content_now}
use Rattle.sm_ready.specs.declared.memory.Memory.{Memory}
use Rattle.sm_ready.proofs.ChainLaws.{tab}
use Rattle.sm_ready.proofs.LastLaws.{after, now_there}
use Rattle.sm_ready.proofs.MadeLaws.{new_reads, steady_new}
use Rattle.sm_ready.proofs.MakingLaws.{MakesIn}
use Rattle.sm_ready.proofs.NewLaws.{IsToMake, made_is, orderly_made, stepped_is, there, well_target}
use Rattle.sm_ready.proofs.RefusalLaws.{IsNewUuid, new_passed}
use Rattle.sm_ready.proofs.StepLaws.{stepped, target}
use Rattle.cmd_create.specs.Making.{new_disk}
use Rattle.cmd_create.specs.Stages.{IsNewVolume}
use Rattle.cmd_create.specs.Vhds.{CanMakeVhd, IsImaged, disk_head, image_uid, vhd_extents, vhd_row, vhd_sectors}
use Rattle.cmd_create.proofs.RawLaws.{place_of}

-- ---- a VHD image's extents

-- they have room for an image without slots
pub roomy : (s : Site) → HasRoomFor s.geometry 0 (vhd_extents s.geometry * s.geometry.extent)
unfolding thin
roomy s = let g = s.geometry.in_range.extent_least in omega (arith, le-div_up (first s.geometry.entries + 0 * (1 + s.geometry.block) + 1) s.geometry.extent (omega (arith, g)))

pub some_extents : (s : Site) → 0 < vhd_extents s.geometry
unfolding thin
some_extents s = let g = s.geometry.in_range.extent_least in div_up-pos (first s.geometry.entries + 0 * (1 + s.geometry.block) + 1) s.geometry.extent (omega (arith, g)) (omega arith)

pub not_many : (s : Site) → vhd_extents s.geometry ≤ extent_limit
unfolding thin
not_many s =
    let g = s.geometry.in_range in
    let most = div_up-le (first s.geometry.entries + 0 * (1 + s.geometry.block) + 1) s.geometry.extent 8164 (omega (arith, g.extent_least)) (omega (arith, g.extent_least, first-le s.geometry.extent s.geometry.block s.geometry.entries g)) in
    omega (arith, most)

-- a volume of so many extents has room for it
pub new_roomy : (s : Site) (t : VolumeTable) (n : Name) → IsNewVolume t n (vhd_extents s.geometry) → HasRoomFor s.geometry 0 (size_of s t n)
new_roomy s t n v = subst (λ o. HasRoomFor s.geometry 0 (length (extents_of o) * s.geometry.extent)) (sym v.there) (subst (λ j. HasRoomFor s.geometry 0 (j * s.geometry.extent)) (sym v.long) (roomy s))

pub vhd_image : (u : List ℕ) → is_image_name (name.Vhd u) ≡ true
unfolding is_image_name
vhd_image u = refl

-- ---- where create is not refused

module _ (s : Site) (t : VolumeTable) (m : Known) (u label : List ℕ) (size : ℕ) (o : IsOrderly s t m) (tidy : IsTidy t m) (accepted : refusal (shape_in s t m) (command.Create u size false label) ≡ None) where
  pub new_vhd : IsNewUuid s t m (command.Create u size false label) u
  unfolding new_uuid
  new_vhd = new_passed s t m (command.Create u size false label) u o tidy refl accepted

  -- the size is a disk's: a whole number of blocks, and no more than the table has entries
  pub sized : IsDiskSize s.geometry (vhd_sectors s.geometry.block size)
  unfolding is_bad_size shape_in rounded
  sized =
      let bad = or_parts _ false (passed (shape_in s t m) (command.Create u size false label) accepted).bad_size in
      let parts = or_parts (size == 0) (nat_lt (s.geometry.entries * s.geometry.block) (vhd_sectors s.geometry.block size)) bad.0 in
      let least = s.geometry.in_range.block_least in
      let blocks = div_up size (512 * s.geometry.block) in
      let is : blocks * s.geometry.block / s.geometry.block ≡ blocks = mul-div_cancel blocks {n = s.geometry.block} (omega (arith, least)) in
      record {
        whole = ap (λ k. k * s.geometry.block) (sym is);
        least = subst (λ k. 1 ≤ k) (sym is) (div_up-pos size (512 * s.geometry.block) (omega (arith, least)) (let x : size ≢ 0 = eqb-false size 0 parts.0 in omega (arith, x)));
        most = subst (λ k. k ≤ s.geometry.entries) (sym is) (le_of_mul-le-mul_right (ltb-false (s.geometry.entries * s.geometry.block) (blocks * s.geometry.block) parts.1) (omega (arith, least)));
      }

  -- so it has few sectors
  pub few_sectors : vhd_sectors s.geometry.block size ≤ 1044480 * 4096
  few_sectors = omega (arith, sized.whole, mul-le-mul sized.most s.geometry.in_range.block_most, mul-le-mul s.geometry.in_range.entries_most s.geometry.in_range.block_most)

  -- the table's number rises by one
  pub numbered : (min (t.sequence + 1) (2 ^ 48 - 1) ≡ t.sequence + 1) × (t.sequence + 1 < 2 ^ 48)
  numbered = let few = new_vhd.unspent in (omega (arith, few), omega (arith, few))

-- the image's row is the machine's
pub vhd_row_is : (s : Site) (t : VolumeTable) (m : Known) (u es uid : List ℕ) (now size : ℕ) → length es ≡ vhd_extents s.geometry
    → machine_row (vhd_row s.geometry (disk_head s.geometry u now (vhd_sectors s.geometry.block size) uid) (length es)) ≡ new_image (shape_in s t m) u size false
unfolding shape_in rounded
vhd_row_is s t m u es uid now size many =
    ap₂ (λ (k n : ℕ). let i : ImageRow = record { name = name.Vhd u; hidden = false; parent = None; size = k; slots = replicate s.geometry.entries None; extents = n } in i) (back (vhd_sectors s.geometry.block size)) many
  where
    back : (k : ℕ) → 512 * k / 512 ≡ k
    back k = omega arith

module _ {S : Type 0} {g : Ghosts S} {a : S} {m : Memory} {entry : Record} {es : List ℕ} {sectors : ℕ} (session : IsBetweenSteps g a m) (can : CanMakeVhd g a m entry es sectors) (now : ℕ) where
  abbrev pub own : Name
  own = name.Vhd entry.uuid

  abbrev pub head : Head
  head = disk_head (g.site a).geometry entry.uuid now sectors (image_uid (tab g a))

  abbrev pub added : TreeRow
  added = vhd_row (g.site a).geometry head (length es)

  abbrev none : List (Option ℕ)
  none = replicate (g.site a).geometry.entries None

  abbrev t1 : VolumeTable
  t1 = applied (tab g a) (Create own true es)

  pub added_is : (size : ℕ) → sectors ≡ vhd_sectors (g.site a).geometry.block size → machine_row added ≡ new_image (shape_in (g.site a) (tab g a) (known m)) entry.uuid size false
  added_is size rounded = ap (λ k. machine_row (vhd_row (g.site a).geometry (disk_head (g.site a).geometry entry.uuid now k (image_uid (tab g a))) (length es))) rounded
      ∙ vhd_row_is (g.site a) (tab g a) (known m) entry.uuid es (image_uid (tab g a)) now size can.disk.many

  pub size_is : IsDiskSize (g.site a).geometry sectors
  size_is = subst (IsDiskSize (g.site a).geometry) (sym can.disk.rounded) (sized (g.site a) (tab g a) (known m) entry.uuid entry.label can.disk.size session.orderly session.tidy can.disk.accepted)

  begins : IsToMake (g.site a) (tab g a) (known m) own es added (place_of m entry) entry
  unfolding IsName is_image_name image_uuid images_needed
  begins =
      let new = new_vhd (g.site a) (tab g a) (known m) entry.uuid entry.label can.disk.size session.orderly session.tidy can.disk.accepted in
      record {
        orderly = session.orderly;
        tidy = session.tidy;
        proper = can.proper.uuid.uuid;
        image = refl;
        uuid = refl;
        not_base = new.not_base;
        absent = new.absent;
        few = new.few;
        some_extents = subst (λ n. 0 < n) (sym can.disk.many) (some_extents (g.site a));
        extents_free = can.disk.extents_free;
        named = refl;
        shown = refl;
        long = refl;
        stands = made-stands (g.site a).geometry (length es * (g.site a).geometry.extent) now sectors (image_uid (tab g a)) size_is None own (subst (λ n. HasRoomFor (g.site a).geometry 0 (n * (g.site a).geometry.extent)) (sym can.disk.many) (roomy (g.site a)));
        recorded = can.proper;
        placed = some_of (place_for m.records entry.uuid) can.place;
        well_formed = well_target (g.site a) (tab g a) (known m) (command.Create entry.uuid can.disk.size false entry.label) σ (target (g.site a) t1 own added (known m) entry) session.orderly refl
            (stepped (g.site a) (tab g a) (known m) own es added entry σ can.disk.size false refl can.disk.accepted (ap (λ (r : Record). r.origin) can.plain) (ap (λ (r : Record). r.read_only) can.plain) (added_is can.disk.size can.disk.rounded));
      }
    where
      σ : State
      σ = record { disks = []; shape = shape_in (g.site a) (tab g a) (known m) }

      some_of : (x : Option ℕ) → IsSome x → x ≡ Some (unwrap_or x 0)
      some_of None h = absurd (let k = h in cc)
      some_of (Some k) h = refl

  pub makes_vhd : MakesIn g a m own es added (place_of m entry) entry
  makes_vhd = record { begins = begins; usable = session.usable }

  -- ---- once the volume is made

  module _ {b : S} (begun : Commits g (Create own true es) a b) where
    abbrev pub head_now : Head
    head_now = disk_head (g.site b).geometry entry.uuid now sectors (base_uuid (tab g b).sequence)

    same_geometry : (g.site b).geometry ≡ (g.site a).geometry
    same_geometry = ap (λ (s : Site). s.geometry) begun.site

    -- its unique id is spelled by the number after this commit
    pub head_is : head_now ≡ head
    head_is =
        let n = numbered (g.site a) (tab g a) (known m) entry.uuid entry.label can.disk.size session.orderly session.tidy can.disk.accepted in
        ap₂ (λ (h : Geometry) (k : ℕ). disk_head h entry.uuid now sectors (base_uuid k)) same_geometry (ap (λ (t : VolumeTable). t.sequence) begun.table ∙ n.0)

    pub added_now : Vhd head_now (replicate (g.site b).geometry.entries None) ≡ added.image
    added_now = ap₂ (λ (h : Head) (n : ℕ). Vhd h (replicate n None)) head_is (ap (λ (h : Geometry). h.entries) same_geometry)

    -- ---- once it is written

    module _ (d : S) (wrote : IsImaged (g.site b) (tab g b) head_now entry (place_of m entry) (g.area b) (g.area d)) where
      pub imaged : IsImaged (g.site b) (tab g b) head entry (place_of m entry) (g.area b) (g.area d)
      imaged = subst (λ (h : Head). IsImaged (g.site b) (tab g b) h entry (place_of m entry) (g.area b) (g.area d)) head_is (wrote)

      on : extents_of (rows t1 own) ≡ es
      on = ap extents_of (there (g.site a) (tab g a) (known m) own es added (place_of m entry) entry begins)

      -- the image is steady once all is settled
      pub steady_vhd : IsSteadyIn (g.site a).geometry (length es * (g.site a).geometry.extent) (volume_of (g.site a) t1 (at_rest (reads (g.area d))) own) head none
      steady_vhd =
          subst (λ j. IsSteadyIn (g.site a).geometry (j * (g.site a).geometry.extent) (volume_of (g.site a) t1 (at_rest (reads (g.area d))) own) head none) (ap length on)
          (steady_new (g.site a) t1 (g.area d) (size_of (g.site a) t1 own) head own
          (subst₂ (λ x y. IsImage (layout_in x.geometry head.footer (size_of x y own)) (reads (volume_of x y (g.area d) own)) head.footer head.header (λ b. None)) begun.site begun.table imaged.image))

      -- and it and the plain record are the new disk
      pub vhd_disk_is : disk_in (content_now (g.site a) (after t1 own) (at_rest (reads (g.area d)))) entry.uuid entry own ≡ new_disk entry.uuid entry.label sectors
      vhd_disk_is =
          let is = made_is (g.site a) (tab g a) (known m) own es added (place_of m entry) entry begins in
          ap₂ (λ (r : Record) (ss : List (List ℕ)). let x : Disk = record { uuid = entry.uuid; label = r.label; origin = r.origin; read_only = r.read_only; sectors = ss } in x) can.plain
          (new_reads (g.site a) (after t1 own) _ (at_rest (reads (g.area d))) entry.uuid (tagged Fresh false (made own true es)) head
          (orderly_made (g.site a) (tab g a) (known m) own es added (place_of m entry) entry begins)
          (now_there (g.site a) t1 (known m) own added (place_of m entry) entry (made own true es) is (stepped_is (g.site a) (tab g a) (known m) own es added (place_of m entry) entry begins))
          refl begins.stands (subst (λ fs. IsSteadyIn (g.site a).geometry (length es * (g.site a).geometry.extent) (volume (g.site a).geometry.extent fs (at_rest (reads (g.area d)))) head none) on steady_vhd) refl
          ∙ ap (λ j. filled j 0) (let x : 512 * sectors / 512 ≡ sectors = omega arith in x))
