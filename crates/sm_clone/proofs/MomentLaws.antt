-- Whatever a stop leaves while the entry of a fork stands is kept and shows the disks from before.
use Rattle.std.proofs.Common.{◌≡◌, ◌≢◌, ◌⊎◌, inl, inr, ⊎_elim, ℕ, ◌<◌, ◌≤◌, Bool, true, false, List, [], ◌∷◌, filter, length, map, get_or, not, replicate, ◌||◌, Option, Some, None, refl, sym, ap, ◌∙◌, subst, subst₂, arith}
use Rattle.std.proofs.lemmas.Bool.{true≢false}
use Rattle.std.proofs.lemmas.Option.{none-some, same_Some}
use Rattle.common_laws.specs.Lists.{In, ◌>>=◌}
use Rattle.common_laws.proofs.Bytes.{bytes_eq-apart}
use Rattle.sm_base.specs.declared.names.Name.{Name}
use Rattle.sm_base.specs.declared.names.Name.TheVariants.{Mgt, Vhd, Raw, Cbt, Clone, Relink}
use Rattle.sm_disk.specs.Held.{Allows, Held, Keeps, May, reads}
use Rattle.vg_meta.specs.Tables.{IsTable, Row, VolumeTable, extents_of, rows}
use Rattle.vg_meta.proofs.RowLaws.{row_of-name}
use Rattle.vg_volumes.specs.Sites.{Site, size_of, volume_of}
use Rattle.vg_volumes.specs.Volumes.{span}
use Rattle.vhd_image.specs.Bodies.{sector_count}
use Rattle.vhd_layout.specs.Contents.{content_at}
use Rattle.vhd_layout.specs.Layouts.{Sectors}
use Rattle.vhd_layout.specs.Readings.{image_at}
use Rattle.vhd_volumes.specs.Steady.{IsSteadyIn}
use Rattle.vhd_volumes.specs.Truth.{IsStanding, disk_sectors}
use Rattle.vhd_volumes.specs.declared.heads.Head.{Head}
use Rattle.vhd_chain.specs.Trees.{row_name, tree_row}
use Rattle.sm_machine.specs.Commits.{is_given_up}
use Rattle.sm_machine.specs.Disks.{Disk}
use Rattle.sm_machine.specs.Runs.{HasSector, face}
use Rattle.sm_machine.specs.Shapes.{image_limit, renamed}
use Rattle.sm_record.specs.Records.{reading}
use Rattle.sm_record.specs.declared.records.Record.{Record}
use Rattle.sm_record.specs.declared.records.Reading.TheVariants.{Taken}
use Rattle.sm_mgt.specs.Places.{as_reading, place_count, place_for, records_held}
use Rattle.sm_mgt.proofs.PlaceLaws.{place_below}
use Rattle.sm_standing.specs.Apart.{IsEmptyOver, IsSameApart, is_apart}
use Rattle.sm_standing.specs.Checks.{images as table_images, is_damaged}
use Rattle.sm_standing.specs.Contents.{Content, is_record_of, reading_at, record_count, record_of, records, row, sectors_of}
use Rattle.sm_standing.specs.Entries.{are_past, folding, head, is_among, is_forking, making}
use Rattle.sm_standing.specs.Forks.{IsForkChild, IsForkMoment, IsForkPlace, IsForking, forked}
use Rattle.sm_standing.specs.Images.{Image, image_of}
use Rattle.sm_standing.specs.Keeping.{IsHeldAlike, IsHolding, IsKept}
use Rattle.sm_standing.specs.Logs.{IsLogged}
use Rattle.sm_standing.specs.Outlines.{link_of}
use Rattle.sm_standing.specs.Readings.{OneReading, SameReadings}
use Rattle.sm_standing.specs.Standing.{disks}
use Rattle.sm_standing.specs.Volumes.{IsAtSize, IsSameVolume}
use Rattle.sm_standing.proofs.DisksShown.{row_of-In}
use Rattle.sm_standing.proofs.ForkLaws.{forking as forking_disks}
use Rattle.sm_standing.proofs.ForkSound.{fork_sound}
use Rattle.sm_standing.proofs.ImageSectors.{gone, raw_same, vhd_same}
use Rattle.sm_standing.proofs.RecordLists.{first_of, record_of_first, records_alike, records_same}
use Rattle.sm_standing.proofs.WorldLaws.{commit_before}
use Rattle.sm_ready.specs.Done.{at_rest}
use Rattle.sm_ready.specs.Known.{Known, shape_in}
use Rattle.sm_ready.specs.Orderly.{IsOrderly}
use Rattle.sm_ready.specs.Ready.{IsReady, IsTidy}
use Rattle.sm_ready.specs.Stores.{Leaving, MayShow, content_in, content_now}
use Rattle.sm_ready.proofs.CommitLaws.{IsSafe, volume_rested}
use Rattle.sm_ready.proofs.KeptLaws.{holding_at, law_kept}
use Rattle.sm_ready.proofs.LeftLaws.{IsLeft, extent_some, left_in, left_now, mgt_long, new_vhd, none_of_vhd, now_sector, place_reads, ready_places, size_there, vhd_of}
use Rattle.sm_ready.proofs.LogLaws.{holds_ready, logged_as}
use Rattle.sm_ready.proofs.MadeLaws.{none_own}
use Rattle.sm_ready.proofs.MiddleLaws.{nat_or_not}
use Rattle.sm_ready.proofs.Orders.{geometry_of, named_row, whole}
use Rattle.sm_ready.proofs.RowLaws.{HasVolume, found_in, image_named, volume_there}
use Rattle.sm_ready.proofs.Steadies.{steady_parent, steady_size, steady_valid}
use Rattle.sm_clone.specs.Forking.{Passes, fork_of, forking, twin_record}
use Rattle.sm_clone.specs.declared.forks.Fork.{Fork}
use Rattle.sm_clone.proofs.ForkableLaws.{IsStood, childless, moment_forkable, own_named, own_stood}
use Rattle.sm_clone.proofs.PassedLaws.{found, own, own_is}
use Rattle.sm_clone.proofs.ShapeLaws.{free}

module _ (s : Site) (t : VolumeTable) (m : Known) (u twin : List ℕ) (read_only : Bool) (o : IsOrderly s t m) (tidy : IsTidy t m) (passes : Passes s t m u twin read_only)
    (old : Held) (ready : IsReady s t old m) (k : ℕ) (origin : Record) (placed : place_for m.places twin ≡ Some k) where
  abbrev f : Fork
  f = fork_of passes.number m.rows u twin

  abbrev us : List (List ℕ)
  us = forked f.disk f.base f.twin

  abbrev entry : Record
  entry = twin_record u twin read_only origin

  abbrev pub before_it : Content
  before_it = content_now s t old

  abbrev pub rest : Held
  rest = at_rest (reads old)

  abbrev extent : ℕ
  extent = s.geometry.extent

  abbrev no_slots : List (Option ℕ)
  no_slots = replicate s.geometry.entries None

  abbrev pub stood : IsStood s t m u twin read_only o tidy passes old ready
  stood = own_stood s t m u twin read_only o tidy passes old ready

  -- the volume of the disk's image
  pub own_volume : HasVolume t f.own
  own_volume =
      let its = own s t m u twin read_only o tidy passes in
      let named = own_is s t m u twin read_only o tidy passes in
      subst (HasVolume t) (sym named)
      (volume_there s t m its.row o (image_named (row_name its.row) (named_row s t m its.row o its.there)) (ap (tree_row m.rows) (sym named) ∙ found s t m u twin read_only o tidy passes))

  -- ---- a moment

  -- a table in which each volume that speaks of none of the three is as before, and n is the disk's image by now
  pub record IsApartTable (v : VolumeTable) (n : Name) : Type 0 where
    pub table : IsTable s.count v
    pub others : (x : Name) → is_apart us x ≡ true → rows v x ≡ rows t x
    pub whole : (x : Name) → IsAtSize v x
    pub alias : List ℕ
    pub named : n ≡ renamed f.own alias
    pub now : Row
    pub moved : rows v n ≡ Some now
    pub still : now.fresh ≡ false
    pub extents : now.extents ≡ extents_of (rows t f.own)

  -- a table while the entry stands: two images are new, or, where they are written by now, may be seen
  pub record IsMomentTable (v : VolumeTable) (n : Name) (written : Bool) : Type 0 where
    pub same : IsApartTable v n
    pub later : t.sequence < v.sequence
    pub making : making v ≡ Clone f.disk f.base f.twin ∷ []
    pub folding : folding v ≡ folding t
    pub few : length (table_images v) ≤ image_limit
    pub place : IsForkPlace v f.disk f.base n
    pub stage : is_forking v f.disk f.base f.twin ≡ true
    pub past : are_past v (Clone f.disk f.base f.twin) ≡ true
    pub volumes : (r : Row) → In r v.volumes → is_apart us r.name ≡ false
        → (r.name ≡ Clone f.disk f.base f.twin) ⊎ ((r.name ≡ n) ⊎ (((r.name ≡ Vhd f.disk) ⊎ (r.name ≡ Vhd f.twin)) × (r.hidden ≡ false) × ((r.fresh ≡ true) ⊎ (written ≡ true))))

  -- a new image that was written: without slots, over the disk's image, and as large
  pub record IsChild (v : VolumeTable) (area : Held) (n x : Name) : Type 0 where
    pub head : Head
    pub stands : IsStanding s.geometry (size_of s v x) head no_slots
    pub steady : IsSteadyIn s.geometry (size_of s v x) (volume_of s v area x) head no_slots
    pub parent : head.header.parent ≡ Some n
    pub size : disk_sectors head.footer ≡ sector_count (own s t m u twin read_only o tidy passes).row.image

  -- the area by then: of each volume of before what a read gave, and maybe the twin's record in its place
  pub record IsMomentArea (v : VolumeTable) (n : Name) (written : Bool) (area : Held) : Type 0 where
    pub others : (x : Name) → is_apart us x ≡ true → x ≢ Mgt → Keeps (volume_of s t rest x) (volume_of s v area x)
    pub own : Keeps (volume_of s t rest f.own) (volume_of s v area n)
    pub records : (p : ℕ) (w : List ℕ) → p < place_count → May (records_held s v area) p w → May (records_held s t rest) p w ⊎ ((p ≡ k) × (reading w ≡ Taken entry))
    pub children : written ≡ true → IsChild v area n (Vhd f.disk) × IsChild v area n (Vhd f.twin)

  -- ---- what a stop leaves of it

  module _ (v : VolumeTable) (n : Name) (written : Bool) (area : Held) (h : IsApartTable v n) (g : IsMomentArea v n written area) (image : ℕ → List ℕ) (left : IsLeft s area image) where
    abbrev b : Content
    b = content_in s v image

    pub left_any : (x : Name) → Allows (size_of s v x) (volume_of s v area x) (sectors_of b x)
    left_any x p below = commit_before (content_now s v area) area v image h.table (extent_some s t m o) (record { table_is = refl; sectors = left }) x p below

    -- where a volume of now keeps what a read gave of one of before
    kept_sector : (x y : Name) → size_of s v y ≡ size_of s t x → Keeps (volume_of s t rest x) (volume_of s v area y) → (p : ℕ) → p < size_of s t x → sectors_of b y p ≡ sectors_of before_it x p
    kept_sector x y long keeps p below =
        volume_rested s t (reads old) x p (sectors_of b y p) (keeps.may p (sectors_of b y p) (left_any y p (omega (arith, below, long))))
        ∙ sym (now_sector s t rest x p below)

    same_size : (x : Name) → is_apart us x ≡ true → size_of s v x ≡ size_of s t x
    same_size x apart = ap (λ (r : Option Row). span extent (extents_of r)) (h.others x apart)

    -- ---- logs

    pub moment_logged : IsLogged b m.logs
    moment_logged = logged_as (holds_ready s t old m o ready) v h.table image (λ d. h.others (Cbt d) refl) (λ d p below. kept_sector (Cbt d) (Cbt d) (same_size (Cbt d) refl) (g.others (Cbt d) refl (λ e. let x = e in cc)) p below)

    -- ---- images

    same_volume : (x : Name) (r : Row) → is_apart us x ≡ true → x ≢ Mgt → rows t x ≡ Some r → IsSameVolume before_it b x x r r
    same_volume x r apart other there = record {
      extent = refl;
      block = refl;
      entries = refl;
      before = there;
      after = h.others x apart ∙ there;
      extents = refl;
      fresh = refl;
      sectors = kept_sector x x (same_size x apart) (g.others x apart other);
    }

    pub image_apart : (x : Name) → is_apart us x ≡ true → image_of b x ≡ image_of before_it x
    unfolding image_of
    image_apart (Vhd w) apart = by (rows t (Vhd w)) refl
      where
        by : (r : Option Row) → rows t (Vhd w) ≡ r → image_of b (Vhd w) ≡ image_of before_it (Vhd w)
        by None is = gone before_it b (Vhd w) is (h.others (Vhd w) apart ∙ is)
        by (Some r) is = vhd_same before_it b w w r r (geometry_of s t m o) (same_volume (Vhd w) r apart (λ e. let x = e in cc) is) (whole s t m (Vhd w) o) (h.whole (Vhd w))
    image_apart (Raw w) apart = by (rows t (Raw w)) refl
      where
        by : (r : Option Row) → rows t (Raw w) ≡ r → image_of b (Raw w) ≡ image_of before_it (Raw w)
        by None is = gone before_it b (Raw w) is (h.others (Raw w) apart ∙ is)
        by (Some r) is = raw_same before_it b w w r r (same_volume (Raw w) r apart (λ e. let x = e in cc) is)
    image_apart _ apart = refl

    pub same_apart : IsSameApart before_it b us
    same_apart = record { rows = h.others; images = image_apart }

    own_same : IsSameVolume before_it b f.own n own_volume.row h.now
    own_same = record {
      extent = refl;
      block = refl;
      entries = refl;
      before = own_volume.there;
      after = h.moved;
      extents = h.extents ∙ ap extents_of own_volume.there;
      fresh = h.still ∙ sym own_volume.filled;
      sectors = kept_sector f.own n (ap (λ (r : Option Row). span extent (extents_of r)) h.moved ∙ ap (λ es. span extent es) h.extents) g.own;
    }

    kinds : ((f.own ≡ Vhd u) × (n ≡ Vhd h.alias)) ⊎ ((f.own ≡ Raw u) × (n ≡ Raw h.alias))
    unfolding renamed
    kinds = ⊎_elim (λ is. inl (is, h.named ∙ ap (λ x. renamed x h.alias) is)) (λ is. inr (is, h.named ∙ ap (λ x. renamed x h.alias) is)) (own_named s t m u twin read_only o tidy passes)

    pub image_moved : image_of b n ≡ image_of before_it f.own
    image_moved = ⊎_elim
        (λ is. ap (image_of b) is.1 ∙ vhd_same before_it b u h.alias own_volume.row h.now (geometry_of s t m o) (subst₂ (λ x y. IsSameVolume before_it b x y own_volume.row h.now) is.0 is.1 own_same)
        (whole s t m (Vhd u) o) (h.whole (Vhd h.alias)) ∙ sym (ap (image_of before_it) is.0))
        (λ is. ap (image_of b) is.1 ∙ raw_same before_it b u h.alias own_volume.row h.now (subst₂ (λ x y. IsSameVolume before_it b x y own_volume.row h.now) is.0 is.1 own_same)
        ∙ sym (ap (image_of before_it) is.0)) kinds

    -- ---- records

    within : k < record_count
    within = omega (arith, place_below m.places twin k placed, o.places)

    pub found_reading : (p : ℕ) → p < record_count → (reading_at b p ≡ reading_at before_it p) ⊎ ((p ≡ k) × (reading_at b p ≡ Taken entry))
    found_reading p below = ⊎_elim
        (λ was. inl (ap reading (volume_rested s t (reads old) Mgt p (sectors_of b Mgt p) was ∙ sym (now_sector s t rest Mgt p inside)))) (λ now. inr now)
        (g.records p (sectors_of b Mgt p) below (left_any Mgt p (omega (arith, inside, same_size Mgt refl))))
      where
        inside : p < size_of s t Mgt
        inside = omega (arith, below, mgt_long s t m o)

    pub readings : SameReadings before_it b ⊎ OneReading before_it b k entry
    readings = ⊎_elim
        (λ same. inl (λ p below. ⊎_elim (λ e. subst (λ q. reading_at b q ≡ reading_at before_it q) (sym e) same) (λ away. other p below away) (nat_or_not p k)))
        (λ now. inr (record {
          within = within;
          free = place_reads s t old m o ready k within ∙ ap as_reading (free s t m u twin read_only o tidy passes k placed);
          taken = now.1;
          others = other;
        })) (found_reading k within)
      where
        other : (p : ℕ) → p < record_count → p ≢ k → reading_at b p ≡ reading_at before_it p
        other p below away = ⊎_elim (λ e. e) (λ w. absurd (away w.0)) (found_reading p below)

    records_kept : (w : List ℕ) → w ≢ twin → filter (is_record_of w) (records b) ≡ filter (is_record_of w) (records before_it)
    records_kept w other = ⊎_elim (λ same. records_same before_it b w same) (λ one. records_alike before_it b k entry w one (bytes_eq-apart twin w (λ e. other (sym e)))) readings

    pub recorded_kept : (w : List ℕ) → w ≢ twin → record_of b w ≡ record_of before_it w
    recorded_kept w other = record_of_first b w ∙ ap first_of (records_kept w other) ∙ sym (record_of_first before_it w)

    undamaged : (x : Option Record) → is_damaged (as_reading x) ≡ false
    undamaged None = refl
    undamaged (Some r) = refl

    right : (p : ℕ) → p < record_count → is_damaged (reading_at b p) ≡ false
    right p below = ⊎_elim (λ same. ap is_damaged (same ∙ place_reads s t old m o ready p below) ∙ undamaged (get_or m.places p None)) (λ now. ap is_damaged now.1) (found_reading p below)

    -- ---- the new images

    module _ (w : List ℕ) (r : Row) (there : rows v (Vhd w) ≡ Some r) (full : r.fresh ≡ false) (c : IsChild v area n (Vhd w)) where
      abbrev held : Sectors
      held = sectors_of b (Vhd w)

      abbrev long : ℕ
      long = size_of s v (Vhd w)

      abbrev pub child : Image
      child = content_at s.geometry.block s.geometry.entries long held

      child_is : image_of b (Vhd w) ≡ Some child
      child_is =
          vhd_of b w r there full (h.whole (Vhd w))
          ∙ ap (λ j. image_at s.geometry.block s.geometry.entries j held) (sym (size_there s v (Vhd w) r there))
          ∙ steady_valid s.geometry long (volume_of s v area (Vhd w)) c.head no_slots held (geometry_of s t m o) c.steady (left_any (Vhd w))

      pub over : IsEmptyOver b (Vhd w) n child stood.image
      over = record {
        image = child_is;
        parent = steady_parent s.geometry long (volume_of s v area (Vhd w)) c.head no_slots held c.steady (left_any (Vhd w)) ∙ c.parent;
        below = image_moved ∙ stood.is;
        size = stood.size ∙ sym c.size ∙ sym (steady_size s.geometry long (volume_of s v area (Vhd w)) c.head no_slots held c.stands c.steady (left_any (Vhd w)));
        empty = none_own s long (volume_of s v area (Vhd w)) c.head held c.stands c.steady (left_any (Vhd w));
      }

      child_holding : IsHolding s.geometry.block child
      child_holding = holding_at s.geometry.block s.geometry.entries long held (c.steady.is_true.valid held (left_any (Vhd w))) (c.steady.holding held (left_any (Vhd w)))

    child_of : written ≡ true → (r : Row) → (r.name ≡ Vhd f.disk) ⊎ (r.name ≡ Vhd f.twin) → (w : List ℕ) × (r.name ≡ Vhd w) × IsChild v area n (Vhd w)
    child_of full r (inl is) = (f.disk, is, (g.children full).0)
    child_of full r (inr is) = (f.twin, is, (g.children full).1)

    there_now : (r : Row) → In r v.volumes → rows v r.name ≡ Some r
    there_now r i = found_in v.volumes h.table.volumes.rising r i

    -- ---- while the entry stands

    module _ (moment : IsMomentTable v n written) where
      pub moment_forking : IsForking before_it b f.disk f.base f.twin f.own n
      moment_forking = record {
        entry = ap head moment.making;
        folding = moment.folding;
        apart = same_apart;
        place = moment.place;
        image = image_moved;
        recorded = recorded_kept;
      }

      fork_child : (r : Row) → In r v.volumes → (r.name ≡ Vhd f.disk) ⊎ (r.name ≡ Vhd f.twin) → r.hidden ≡ false → (r.fresh ≡ true) ⊎ (written ≡ true) → IsForkChild b n r
      fork_child r i which shown (inl new) = record { shown = shown; empty = inl new }
      fork_child r i which shown (inr full) = record { shown = shown; empty = by r.fresh refl }
        where
          by : (x : Bool) → r.fresh ≡ x → (r.fresh ≡ true) ⊎ ((i q : Image) × IsEmptyOver b r.name n i q)
          by true e = inl e
          by false e =
              let c = child_of full r which in
              let there = ap (rows v) (sym c.1) ∙ there_now r i in
              inr (child c.0 r there e c.2, stood.image, subst (λ x. IsEmptyOver b x n (child c.0 r there e c.2) stood.image) (sym c.1) (over c.0 r there e c.2))

      pub moment_of : IsForkMoment before_it b f.disk f.base f.twin f.own n
      moment_of = record {
        extent = refl;
        block = refl;
        entries = refl;
        table = h.table;
        later = moment.later;
        making = moment.making;
        folding = moment.folding;
        apart = same_apart;
        place = moment.place;
        few = moment.few;
        stage = moment.stage;
        past = moment.past;
        own = own_volume.row;
        stood = own_volume.there;
        filled = own_volume.filled;
        now = h.now;
        moved = h.moved;
        still = h.still;
        long = ap length (h.extents ∙ ap extents_of own_volume.there);
        image = image_moved;
        volumes = λ r i apart. ⊎_elim (λ is. inl is) (λ rest. inr (⊎_elim (λ is. inl is) (λ c. inr (c.0, fork_child r i c.0 c.1 c.2)) rest)) (moment.volumes r i apart);
        right = right;
        recorded = λ w other. ap length (records_kept w other);
      }

      -- ---- kept

      module _ (was : IsKept before_it) where
        apart_or : (x : Name) → (is_apart us x ≡ true) ⊎ (is_apart us x ≡ false)
        apart_or x = by (is_apart us x) refl
          where
            by : (y : Bool) → is_apart us x ≡ y → (is_apart us x ≡ true) ⊎ (is_apart us x ≡ false)
            by true e = inl e
            by false e = inr e

        holding_row : (w : List ℕ) (i : Image) (x : Option Row) → rows v (Vhd w) ≡ x → image_of b (Vhd w) ≡ Some i → IsHolding s.geometry.block i
        holding_row w i None none is = absurd (none-some i (sym (none_of_vhd b w none) ∙ is))
        holding_row w i (Some r) there is = ⊎_elim
            (λ apart. was.holding w i (sym (image_apart (Vhd w) apart) ∙ is))
            (λ speaks. ⊎_elim (λ e. let y = sym named ∙ e in cc) (⊎_elim (λ e. own_holding (sym named ∙ e)) (λ c. new_holding c.0 c.2))
            (moment.volumes r (row_of-In v.volumes (Vhd w) r there).0 (ap (is_apart us) named ∙ speaks))) (apart_or (Vhd w))
          where
            named : r.name ≡ Vhd w
            named = row_of-name v.volumes (Vhd w) r there

            own_holding : Vhd w ≡ n → IsHolding s.geometry.block i
            own_holding at = ⊎_elim
                (λ y. was.holding u i (sym (ap (image_of before_it) y.0) ∙ sym image_moved ∙ ap (image_of b) (sym at) ∙ is))
                (λ y. let z = at ∙ y.1 in cc) kinds

            new_holding : (r.name ≡ Vhd f.disk) ⊎ (r.name ≡ Vhd f.twin) → (r.fresh ≡ true) ⊎ (written ≡ true) → IsHolding s.geometry.block i
            new_holding which (inl new) = absurd (none-some i (sym (new_vhd b w r there new) ∙ is))
            new_holding which (inr full) = by r.fresh refl
              where
                by : (x : Bool) → r.fresh ≡ x → IsHolding s.geometry.block i
                by true e = absurd (none-some i (sym (new_vhd b w r there e) ∙ is))
                by false e =
                    let c = child_of full r which in
                    let same : Vhd c.0 ≡ Vhd w = sym c.1 ∙ named in
                    let here = subst (IsChild v area n) same c.2 in
                    subst (IsHolding s.geometry.block) (same_Some (child w r there e here) i (sym (child_is w r there e here) ∙ is)) (child_holding w r there e here)

        linking_row : (c p : List ℕ) (r : Row) (i q : Image) (x : Name) → row b (Relink c p) ≡ Some r → image_of b (Vhd c) ≡ Some i → i.parent ≡ Some x → image_of b x ≡ Some q → IsHeldAlike i q
        linking_row c p r i q x there is linked under = ⊎_elim
            (λ apart.
            let child_apart = first_apart c p apart in
            let was_is : image_of before_it (Vhd c) ≡ Some i = sym (image_apart (Vhd c) child_apart) ∙ is in
            let above = childless s t m u twin read_only o tidy passes old ready (Vhd c) x (ap (λ (z : Option Image). link_of z >>= (λ l. l.parent)) was_is ∙ linked) in
            was.linking c p r i q x (sym (h.others (Relink c p) apart) ∙ there) was_is linked (sym (image_apart x above) ∙ under))
            (λ speaks. absurd (⊎_elim (λ e. let y = sym named ∙ e in cc) (⊎_elim (λ e. ⊎_elim (λ y. let z = sym named ∙ e ∙ y.1 in cc) (λ y. let z = sym named ∙ e ∙ y.1 in cc) kinds)
            (λ z. ⊎_elim (λ e. let y = sym named ∙ e in cc) (λ e. let y = sym named ∙ e in cc) z.0))
            (moment.volumes r (row_of-In v.volumes (Relink c p) r there).0 (ap (is_apart us) named ∙ speaks)))) (apart_or (Relink c p))
          where
            named : r.name ≡ Relink c p
            named = row_of-name v.volumes (Relink c p) r there

            first_apart : (c p : List ℕ) → is_apart us (Relink c p) ≡ true → is_apart us (Vhd c) ≡ true
            first_apart c p e = by (is_among us c) e
              where
                by : (x : Bool) → not (x || (is_among us p || false)) ≡ true → not (x || false) ≡ true
                by true f = absurd (true≢false (sym f))
                by false f = refl

        module _ (keeps : is_given_up (shape_in s t m) (forking u twin read_only) ≡ false) where
          pub moment_kept : IsKept b
          moment_kept = record {
            sound = fork_sound before_it b f.disk f.base f.twin f.own n stood.image (moment_forkable s t m u twin read_only o tidy passes old ready keeps stood.image stood.is) was.sound moment_of;
            holding = λ w i is. holding_row w i (rows v (Vhd w)) refl is;
            linking = linking_row;
          }

          pub moment_disks : disks b ≡ disks before_it
          moment_disks = forking_disks before_it b f.disk f.base f.twin f.own n stood.image (moment_forkable s t m u twin read_only o tidy passes old ready keeps stood.image stood.is) moment_forking

  was_kept : IsKept before_it
  was_kept = law_kept s t old m (reads old) o ready.firm (left_in s t m old (reads old) o (left_now s old)) (ready_places s t old m (reads old) o ready (left_now s old))

  module _ (keeps : is_given_up (shape_in s t m) (forking u twin read_only) ≡ false) where
    -- each moment is safe
    pub moment_safe : (v : VolumeTable) (n : Name) (written : Bool) (area : Held) (before : Leaving) → IsMomentTable v n written → IsMomentArea v n written area → MayShow s before (disks before_it)
        → IsSafe s v area before (disks before_it)
    moment_safe v n written area before h g might = record {
      kept = λ image left. moment_kept v n written area h.same g image left h was_kept keeps;
      shown = λ image left.
          let same = moment_disks v n written area h.same g image left h was_kept keeps in
          record {
            faces = ap (map face) same;
            sectors = λ w p bytes has. (disks before_it, might, subst (λ (ds : List Disk). HasSector ds w p bytes) same has);
          };
    }
