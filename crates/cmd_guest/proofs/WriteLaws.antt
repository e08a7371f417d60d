-- A guest's write: what is left at every moment, and the disks once it is done.
use Rattle.std.proofs.Common.{◌≡◌, ◌≢◌, ⊎_elim, ℕ, ◌+◌, ◌-◌, ◌*◌, ◌/◌, ◌<◌, ◌≤◌, nat_lt, Bool, true, false, cond, List, [], ◌∷◌, length, Option, Some, None, refl, sym, ap, ◌∙◌, subst, arith}
use Rattle.std.proofs.Math.Logic.{∥∥₁_elim}
use Rattle.std.proofs.Props.{props}
use Rattle.std.proofs.lemmas.Bool.{lt-ltb, true≢false}
use Rattle.std.proofs.lemmas.Option.{none-some, same_Some}
use Rattle.common_laws.specs.Lists.{In, numbers}
use Rattle.common_laws.proofs.Lists.{find-some}
use Rattle.sm_standing.specs.Entries.{is_visible}
use Rattle.sm_base.specs.declared.names.Name.{Name}
use Rattle.sm_base.specs.declared.names.Name.TheVariants.{Mgt, Vhd, Raw}
use Rattle.sm_base.specs.declared.sizes.Geometry.{Geometry}
use Rattle.sm_disk.specs.Held.{Held, IsIn, Puts, Torn, reads}
use Rattle.sm_disk.specs.Sectors.{sector as sector_of}
use Rattle.sm_disk.proofs.HeldLaws.{may-torn, reads-at, reads-wrote}
use Rattle.vg_meta.specs.Tables.{VolumeTable, rows, extents_of}
use Rattle.vg_volumes.specs.Sites.{Site, size_of, volume_of}
use Rattle.vg_volumes.specs.Volumes.{KeepsElsewhere}
use Rattle.vhd_layout.specs.Layouts.{Sectors}
use Rattle.vhd_volumes.specs.Truth.{layout_in}
use Rattle.vhd_volumes.specs.Writes.{IsGuarded, with_blocks as image_with_blocks, written_map}
use Rattle.vhd_image.specs.Bodies.{sector_count, parent_name, volume_name, own_of}
use Rattle.vhd_image.specs.Written.{IsWriting, IsBodyWritten, MayHaveGrown, written}
use Rattle.vhd_image.specs.declared.images.Body.{Body}
use Rattle.vhd_image.specs.declared.images.Body.TheVariants as body
use Rattle.vhd_chain.specs.Reading.{slots_of}
use Rattle.vhd_chain.specs.Trees.{row_name, tree_row}
use Rattle.vhd_chain.specs.declared.rows.TreeRow.{TreeRow}
use Rattle.sm_machine.specs.Disks.{Disk, is_disk, on_disk}
use Rattle.std.specs.List.{find}
use Rattle.common_laws.proofs.Bytes.{bytes_eq-same}
use Rattle.sm_machine.specs.Shapes.{ImageRow, image_uuid}
use Rattle.sm_machine.specs.Steps.{blocks_touched, with_blocks, written_image}
use Rattle.sm_machine.specs.WellFormed.{is_image_name}
use Rattle.sm_machine.specs.Refusals.{refusal, named}
use Rattle.sm_machine.specs.declared.commands.Command.{Command}
use Rattle.sm_run.specs.Between.{IsBetween}
use Rattle.sm_standing.specs.Contents.{record_of}
use Rattle.sm_standing.specs.Images.{Image, image_of, sectors_read}
use Rattle.sm_standing.specs.Keeping.{IsKept}
use Rattle.sm_standing.specs.Standing.{disks, standing_volume}
use Rattle.sm_standing.proofs.DiskLists.{disk_parts, disks_at}
use Rattle.sm_standing.proofs.RecordLists.{records_same, record_of_first, first_of}
use Rattle.sm_record.specs.Records.{reading}
use Rattle.sm_ready.specs.Known.{Known, machine_row, shape_in}
use Rattle.sm_ready.specs.Orderly.{IsOrderly}
use Rattle.sm_ready.specs.Ready.{IsReady, IsFirm}
use Rattle.sm_ready.specs.Stores.{Leaving, MayShow, content_in, content_now}
use Rattle.sm_ready.specs.Written.{HasBytes}
use Rattle.sm_ready.proofs.CauseLaws.{named_as}
use Rattle.sm_ready.proofs.GuestLaws as guest
use Rattle.sm_ready.proofs.LeftLaws.{IsLeft, mgt_long, now_sector, size_there, vhd_in}
use Rattle.sm_ready.proofs.MapLaws.{blocks_alike}
use Rattle.sm_ready.proofs.ShapeLaws.{mgt_image, plainly_stands}
use Rattle.sm_ready.proofs.Orders.{named_row, raw_row}
use Rattle.sm_ready.proofs.RowLaws.{HasVolume, image_named, volume_there}
use Rattle.sm_ready.proofs.RawGuestLaws.{RawWrites, raw_stopped}
use Rattle.sm_ready.proofs.StopLaws.{stop_between, stop_kept, visible_apart}
use Rattle.cmd_guest.proofs.AskLaws.{le-div, raw_name, vhd_name}
use Rattle.cmd_guest.proofs.DiskLaws.{IsWritten, disks_written, has_bytes, over}
use Rattle.cmd_guest.proofs.NowLaws.{IsNow, disk_found, disk_own, row_now, row_read, stands_in}
use Rattle.cmd_guest.proofs.OwnLaws.{IsOwn}
use Rattle.cmd_guest.proofs.ReplacedLaws.{IsLike, behind_write, image_other, others}

-- ---- the written image, in memory

-- the row with another image
abbrev pub with_image : Body → TreeRow → TreeRow
with_image b r = record r { image = b }

pub like_grown : (r : TreeRow) (b : Body) → MayHaveGrown r.image b → IsLike r (with_image b r)
like_grown r b grown = by r.image refl grown
  where
    by : (x : Body) → r.image ≡ x → MayHaveGrown x b → IsLike r (with_image b r)
    by (body.Raw volume size) is same =
        let e : b ≡ r.image = same ∙ sym is in
        record { name = ap volume_name e; hidden = refl; extents = refl; size = ap sector_count e; parent = ap parent_name e; places = ap (λ y. length (slots_of y)) e }
    by (body.Vhd head slots) is w = record {
      name = ap volume_name w.1 ∙ sym (ap volume_name is);
      hidden = refl;
      extents = refl;
      size = ap sector_count w.1 ∙ sym (ap sector_count is);
      parent = ap parent_name w.1 ∙ sym (ap parent_name is);
      places = ap (λ y. length (slots_of y)) w.1 ∙ w.2.long ∙ sym (ap (λ y. length (slots_of y)) is);
    }

like_self : (r : TreeRow) → IsLike r r
like_self r = record { name = refl; hidden = refl; extents = refl; size = refl; parent = refl; places = refl }

pub touched_alike : (block at count : ℕ) (slots : List (Option ℕ)) → 0 < block → 0 < count
    → with_blocks (numbers (at / block) ((at + count - 1) / block + 1 - at / block)) slots ≡ image_with_blocks (at / block) ((at + count - 1) / block - at / block + 1) slots
touched_alike block at count slots pos some =
    let low = le-div at (at + count - 1) block pos (omega (arith, some)) in
    ap (λ k. with_blocks (numbers (at / block) k) slots) (let e : (at + count - 1) / block + 1 - at / block ≡ (at + count - 1) / block - at / block + 1 = omega (arith, low) in e)
    ∙ blocks_alike (at / block) ((at + count - 1) / block - at / block + 1) slots

-- its row is the machine's
pub row_written : (s : Site) (t : VolumeTable) (m : Known) (r : TreeRow) (b : Body) (at n : ℕ) (o : IsOrderly s t m) → In r m.rows → 0 < s.geometry.block → 0 < n / 512 → b ≡ written s.geometry.block at n r.image
    → machine_row (with_image b r) ≡ written_image (shape_in s t m) at (n / 512) (machine_row r)
unfolding shape_in
row_written s t m r b at n o there pos some is = by r.image refl
  where
    write : Bool → List (Option ℕ) → ImageRow
    write c slots = elim c as (λ _. ImageRow) [ true ↦ record (machine_row r) { slots = slots } | false ↦ machine_row r ]

    by : (x : Body) → r.image ≡ x → machine_row (with_image b r) ≡ written_image (shape_in s t m) at (n / 512) (machine_row r)
    by (body.Raw volume size) e =
        let same : b ≡ r.image = is ∙ ap (written s.geometry.block at n) e ∙ sym e in
        ap (λ y. machine_row (with_image y r)) same ∙ sym (ap (λ c. write c (with_blocks (blocks_touched (shape_in s t m) at (n / 512)) (slots_of r.image))) (raw_name s t m r volume size o there e))
    by (body.Vhd head slots) e =
        let block = s.geometry.block in
        let touched : List (Option ℕ) = with_blocks (blocks_touched (shape_in s t m) at (n / 512)) (slots_of r.image) in
        ap (λ y. machine_row (with_image y r)) (is ∙ ap (written block at n) e)
        ∙ ap (λ y. let x : ImageRow = record (machine_row (with_image y r)) { slots = written_map block at n slots } in x) (sym e)
        ∙ ap (write true) (sym (touched_alike block at (n / 512) slots pos some) ∙ ap (λ y. with_blocks (blocks_touched (shape_in s t m) at (n / 512)) (slots_of y)) (sym e))
        ∙ sym (ap (λ c. write c touched) (vhd_name s t m r head slots o there e))

-- ---- the written image, as a read gives it

own_inside : (g : Geometry) (n at : ℕ) (bytes : List ℕ) (b : Body) (old new : Held) → IsBodyWritten g n b at bytes old new → (k : ℕ) → at ≤ k → k < sector_count b → IsIn at (length bytes) k
    → own_of g n (written g.block at (length bytes) b) (reads new) k ≡ Some (sector_of bytes (k - at))
own_inside g n at bytes (body.Raw volume size) old new done k low below here = ap (λ c. cond c (Some (reads new k)) None) (lt-ltb k size below) ∙ ap Some (reads-wrote done k here)
own_inside g n at bytes (body.Vhd head slots) old new done k low below here = done.inside k (sector_of bytes (k - at)) (here, refl)

pub own_outside : (g : Geometry) (n at : ℕ) (bytes : List ℕ) (b : Body) (old new : Held) → IsBodyWritten g n b at bytes old new → (k : ℕ) → (IsIn at (length bytes) k → ⊥)
    → own_of g n (written g.block at (length bytes) b) (reads new) k ≡ own_of g n b (reads old) k
own_outside g n at bytes (body.Raw volume size) old new done k away = ap (λ x. cond (nat_lt k size) (Some x) None) (reads-at old new k (done.floor k) (done.outside k away))
own_outside g n at bytes (body.Vhd head slots) old new done k away = done.outside k (λ value puts. away puts.0)

-- the disk that stands in it is the row's
owner : (s : Site) (t : VolumeTable) (m : Known) (u : List ℕ) (r : TreeRow) (o : IsOrderly s t m) (h : IsOwn s t m u r) (v : List ℕ) → standing_volume t v ≡ Some (row_name r) → v ≡ u
unfolding image_uuid
owner s t m u r o h v stands =
    let f = find-some (is_visible t) (Vhd v ∷ Raw v ∷ []) (row_name r) (sym (plainly_stands s t m v o) ∙ stands) in
    ⊎_elim (λ is. sym (ap image_uuid is) ∙ h.uuid) (λ rest. ⊎_elim (λ is. sym (ap image_uuid is) ∙ h.uuid) (λ none. absurd none) rest) f.0

-- ---- the content once it is done

module _ (s : Site) (t : VolumeTable) (m : Known) (u : List ℕ) (r : TreeRow) (o : IsOrderly s t m) (h : IsOwn s t m u r) (old new : Held) (ready : IsReady s t old m) (at : ℕ) (bytes : List ℕ)
    (even : length bytes ≡ 512 * (length bytes / 512)) (fits : at + length bytes / 512 ≤ sector_count r.image) (keeps : KeepsElsewhere s.geometry.extent (extents_of (rows t (row_name r))) old new) where
  abbrev n : ℕ
  n = length bytes / 512

  no_child : (p : Name) (i : Image) → image_of (content_now s t old) p ≡ Some i → i.parent ≢ Some (row_name r)
  no_child p i is parent = let y = row_read s t old m o ready p i is in visible_apart s t m r y.0 o h.there h.shown y.1 (sym y.3 ∙ parent)

  -- the disks that the machine has then
  abbrev pub next : List Disk
  next = on_disk u (over at (length bytes / 512) bytes) (disks (content_now s t old))

  was : IsNow (content_now s t old) (row_name r) s.geometry (size_of s t (row_name r)) r.image (reads (volume_of s t old (row_name r)))
  was = row_now s t old m o ready.firm r h.there

  module _ (c : Command) (names : named c ≡ Some u) (allowed : refusal (shape_in s t m) c ≡ None) where
    own_disk : (d : Disk) × In d (disks (content_now s t old)) × (d.uuid ≡ u)
    own_disk = by (find (is_disk u) (disks (content_now s t old))) refl
      where
        by : (x : Option Disk) → find (is_disk u) (disks (content_now s t old)) ≡ x → (d : Disk) × In d (disks (content_now s t old)) × (d.uuid ≡ u)
        by None e = absurd (∥∥₁_elim o.well_formed (hlevel props) (λ w.
            let d = disk_own s t old m o ready c u r names allowed w h.there h.shown h.uuid in
            none-some d.disk (sym e ∙ disk_found s t old m o ready u (row_name r) d)))
        by (Some d) e = let f = find-some (is_disk u) (disks (content_now s t old)) d e in (d, f.0, bytes_eq-same d.uuid u f.1)

    each_own : (e : Disk) → In e (disks (content_now s t old)) → e.uuid ≡ u → e.sectors ≡ sectors_read (content_now s t old) (row_name r)
    each_own e i uuid = ∥∥₁_elim o.well_formed (hlevel props) (λ w.
        let p = disk_parts (content_now s t old) e.uuid e (disks_at (content_now s t old) e i) in
        let same : p.name ≡ row_name r = same_Some p.name (row_name r) (sym p.standing ∙ ap (standing_volume t) uuid ∙ stands_in s t old m o ready w u r h.there h.shown h.uuid) in
        ap (λ (d : Disk). d.sectors) p.made ∙ ap (sectors_read (content_now s t old)) same)

    pub bytes_next : HasBytes (disks (content_now s t old)) (on_disk u (over at (length bytes / 512) bytes) (disks (content_now s t old))) u (Puts at bytes)
    bytes_next = has_bytes (content_now s t old) (row_name r) u at (length bytes / 512) bytes was.image was.there (omega (arith, fits, was.size)) each_own own_disk.0 own_disk.1 own_disk.2 even

  -- and they are those that a read gives
  module _ (done : IsBodyWritten s.geometry (size_of s t (row_name r)) r.image at bytes (volume_of s t old (row_name r)) (volume_of s t new (row_name r))) (like : IsLike r (with_image (written s.geometry.block at (length bytes) r.image) r))
      (orderly : IsOrderly s t (behind_write s t m u at (length bytes / 512) (with_image (written s.geometry.block at (length bytes) r.image) r))) (firm : IsFirm s t new (behind_write s t m u at (length bytes / 512) (with_image (written s.geometry.block at (length bytes) r.image) r)))
      (there : In (with_image (written s.geometry.block at (length bytes) r.image) r) (behind_write s t m u at (length bytes / 512) (with_image (written s.geometry.block at (length bytes) r.image) r)).rows) where
    now : IsNow (content_now s t new) (row_name r) s.geometry (size_of s t (row_name r)) (written s.geometry.block at (length bytes) r.image) (reads (volume_of s t new (row_name r)))
    now = subst (λ x. IsNow (content_now s t new) x s.geometry (size_of s t x) (written s.geometry.block at (length bytes) r.image) (reads (volume_of s t new x))) like.name
        (row_now s t new (behind_write s t m u at (length bytes / 512) (with_image (written s.geometry.block at (length bytes) r.image) r)) orderly firm (with_image (written s.geometry.block at (length bytes) r.image) r) there)

    record_apart : Mgt ≢ row_name r
    record_apart same = true≢false (sym (named_row s t m r o h.there) ∙ ap is_image_name (sym same) ∙ mgt_image)

    recorded : (v : List ℕ) → record_of (content_now s t new) v ≡ record_of (content_now s t old) v
    recorded v =
        record_of_first (content_now s t new) v
        ∙ ap first_of (records_same (content_now s t old) (content_now s t new) v (λ k below.
        ap reading (now_sector s t new Mgt k (omega (arith, below, mgt_long s t m o)) ∙ (others s t m u r r o h (like_self r) old new keeps Mgt record_apart).reads k ∙ sym (now_sector s t old Mgt k (omega (arith, below, mgt_long s t m o))))))
        ∙ sym (record_of_first (content_now s t old) v)

    written_now : IsWritten (content_now s t old) (content_now s t new) (row_name r) at (length bytes / 512) bytes
    written_now = record {
      table = refl;
      recorded = recorded;
      others = λ p other. image_other s t m u r r o h (like_self r) old new keeps p other;
      was = was.image;
      now = now.image;
      before = was.there;
      after = now.there;
      size = now.size ∙ like.size ∙ sym was.size;
      parent = now.parent ∙ like.parent ∙ sym was.parent;
      inside = λ k below. now.own (at + k)
          ∙ own_inside s.geometry (size_of s t (row_name r)) at bytes r.image (volume_of s t old (row_name r)) (volume_of s t new (row_name r)) done (at + k) (omega arith) (omega (arith, below, fits)) (omega arith, omega (arith, below, even))
          ∙ ap (λ j. Some (sector_of bytes j)) (let e : at + k - at ≡ k = omega arith in e);
      outside = λ k apart. now.own k
          ∙ own_outside s.geometry (size_of s t (row_name r)) at bytes r.image (volume_of s t old (row_name r)) (volume_of s t new (row_name r)) done k
          (λ is. ⊎_elim (λ low. omega (arith, low, is.0)) (λ high. omega (arith, high, is.1, even)) apart) ∙ sym (was.own k);
      fits = omega (arith, fits, was.size);
      no_child = no_child;
    }

    pub disks_next : disks (content_now s t new) ≡ on_disk u (over at (length bytes / 512) bytes) (disks (content_now s t old))
    disks_next = ∥∥₁_elim o.well_formed (hlevel props) (λ w.
        disks_written (content_now s t old) (content_now s t new) (row_name r) at (length bytes / 512) bytes written_now u (stands_in s t old m o ready w u r h.there h.shown h.uuid) (owner s t m u r o h))

-- ---- what a stop leaves

module _ (s : Site) (t : VolumeTable) (m : Known) (u : List ℕ) (r : TreeRow) (o : IsOrderly s t m) (h : IsOwn s t m u r) (old new : Held) (ready : IsReady s t old m) (at : ℕ) (bytes : List ℕ)
    (keeps : KeepsElsewhere s.geometry.extent (extents_of (rows t (row_name r))) old new)
    (writing : IsWriting s.geometry (size_of s t (row_name r)) r.image at bytes (volume_of s t old (row_name r)) (volume_of s t new (row_name r)))
    (ds : List Disk) (before : Leaving) (has : HasBytes (disks (content_now s t old)) ds u (Puts at bytes)) (might : (other : Sectors) → IsLeft s old other → before t other) (image : Sectors) (left : IsLeft s new image) where
  abbrev Stop : Type 0
  Stop = IsKept (content_in s t image) × IsBetween (MayShow s before) (disks (content_now s t old)) ds (disks (content_in s t image))

  v : HasVolume t (row_name r)
  v = volume_there s t m r o (image_named (row_name r) (named_row s t m r o h.there)) h.found

  vhd_stop : row_name r ≡ Vhd u → Stop
  vhd_stop named =
      let there : rows t (Vhd u) ≡ Some v.row = ap (rows t) (sym named) ∙ v.there in
      let w = vhd_in s t old m u v.row o ready.firm there v.filled in
      let same : w.at.row ≡ r = same_Some w.at.row r (sym w.at.found ∙ ap (tree_row m.rows) (sym named) ∙ h.found) in
      let is : r.image ≡ body.Vhd w.head w.slots = ap (λ (q : TreeRow). q.image) (sym same) ∙ w.is in
      let wide : size_of s t (row_name r) ≡ length v.row.extents * s.geometry.extent = size_there s t (row_name r) v.row v.there in
      let writes : guest.Writes s t m old new u v.row (Puts at bytes) = record {
        orderly = o;
        ready = ready;
        there = there;
        at = w;
        shown = ap (λ (q : TreeRow). q.hidden) same ∙ h.shown;
        keeps = subst (λ x. KeepsElsewhere s.geometry.extent (extents_of (rows t x)) old new) named keeps;
        guarded = subst (λ x. IsGuarded (layout_in s.geometry w.head.footer (length v.row.extents * s.geometry.extent)) (Puts at bytes) (volume_of s t old x) (volume_of s t new x)) named
            (subst (λ k. IsGuarded (layout_in s.geometry w.head.footer k) (Puts at bytes) (volume_of s t old (row_name r)) (volume_of s t new (row_name r))) wide
            (subst (λ b. IsWriting s.geometry (size_of s t (row_name r)) b at bytes (volume_of s t old (row_name r)) (volume_of s t new (row_name r))) is writing));
      } in
      (guest.kept_written s t m old new u v.row (Puts at bytes) writes image left, guest.law_written s t m old new u v.row (Puts at bytes) writes image left ds before has might)

  raw_stop : row_name r ≡ Raw u → Stop
  raw_stop named =
      let w = raw_row s t m r u o h.there named in
      let writes : RawWrites s t m old new u (Puts at bytes) = record {
        orderly = o;
        volume = v.row;
        there = ap (rows t) (sym named) ∙ v.there;
        filled = v.filled;
        row = r;
        among = h.there;
        named = named;
        shown = h.shown;
        keeps = subst (λ x. KeepsElsewhere s.geometry.extent (extents_of (rows t x)) old new) named keeps;
        reaches = λ p value may. may-torn (subst (λ x. Torn at bytes (volume_of s t old x) (volume_of s t new x)) named
            (subst (λ b. IsWriting s.geometry (size_of s t (row_name r)) b at bytes (volume_of s t old (row_name r)) (volume_of s t new (row_name r))) w.is writing)) p value may;
      } in
      let stopped = raw_stopped s t m old new u (Puts at bytes) writes image left in
      let owns : (x : List ℕ) → standing_volume t x ≡ Some (Raw u) → x ≡ u = λ x stands. owner s t m u r o h x (stands ∙ ap Some (sym named)) in
      (stop_kept s t m old (Raw u) u (Puts at bytes) image o ready stopped owns, stop_between s t m old (Raw u) u (Puts at bytes) image o ready stopped owns ds before has might)

  pub written_stop : Stop
  written_stop = ⊎_elim vhd_stop raw_stop (named_as (row_name r) u (named_row s t m r o h.there) h.uuid)
