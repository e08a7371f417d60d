-- Behind the last commit of a fork: the disks are those from before and the twin, as the machine has them, and the store is ready.
use Rattle.std.proofs.Common.{◌≡◌, ◌≢◌, inl, ⊎_elim, ℕ, ◌*◌, ◌<◌, Bool, true, false, not, ◌&&◌, bytes_eq, List, [], ◌∷◌, length, replicate, filter, get_or, unwrap_or, Option, None, Some, refl, sym, ap, ◌∙◌, subst, arith}
use Rattle.std.proofs.Math.ListN.{set}
use Rattle.std.proofs.Math.Logic.{∥∥₁_elim}
use Rattle.std.proofs.Props.{props}
use Rattle.std.specs.List.{find}
use Rattle.std.proofs.lemmas.Bool.{true≢false}
use Rattle.std.proofs.lemmas.List.{get_or-set_same, length-set}
use Rattle.std.proofs.lemmas.Option.{none-some, same_Some, slice_get-get_or}
use Rattle.common_laws.specs.Lists.{In, numbers}
use Rattle.common_laws.proofs.Bytes.{bytes_eq-refl, bytes_eq-same}
use Rattle.common_laws.proofs.Lists.{Distinct-key, In-filter, filter-In, find-only, find-some, numbers-In}
use Rattle.sm_base.specs.Names.{IsUuid}
use Rattle.sm_base.specs.declared.names.Name.{Name}
use Rattle.sm_base.specs.declared.names.Name.TheVariants.{Mgt, Vhd, Cbt}
use Rattle.sm_disk.specs.Held.{Held, Keeps, reads}
use Rattle.sm_disk.proofs.HeldLaws.{Keeps-then}
use Rattle.vg_meta.specs.Changes.{made}
use Rattle.vg_meta.specs.Tables.{Row, VolumeTable, extents_of, rows}
use Rattle.vg_volumes.specs.Sites.{Site, size_of, volume_of}
use Rattle.vg_volumes.specs.Volumes.{span, volume}
use Rattle.vg_volumes.proofs.VolumeLaws.{Keeps-volume}
use Rattle.vhd_chain.specs.Trees.{row_name}
use Rattle.vhd_chain.specs.declared.rows.TreeRow.{TreeRow}
use Rattle.vhd_image.specs.Bodies.{in_volume}
use Rattle.vhd_image.specs.Steady.{IsSteady}
use Rattle.vhd_image.specs.declared.images.Body.{Body}
use Rattle.vhd_image.specs.declared.images.Body.TheVariants as body
use Rattle.vhd_volumes.specs.Steady.{IsSteadyIn}
use Rattle.vhd_volumes.specs.Truth.{HasRoomFor}
use Rattle.vhd_volumes.specs.declared.heads.Head.{Head}
use Rattle.sm_machine.specs.Commits.{is_given_up}
use Rattle.sm_machine.specs.Disks.{Disk, is_disk, with_disk}
use Rattle.sm_machine.specs.Shapes.{DiskRecord, Shape, attached_as, is_rw}
use Rattle.sm_machine.specs.Steps.{disks_next, fork_disks}
use Rattle.sm_machine.specs.WellFormed.{IsWellFormed}
use Rattle.sm_record.specs.Records.{IsRecord, reading}
use Rattle.sm_record.specs.declared.records.Record.{Record}
use Rattle.sm_record.specs.declared.records.Reading.TheVariants.{Taken}
use Rattle.sm_mgt.specs.Places.{Agrees, as_reading, is_of, place_for, record_in, records_held}
use Rattle.sm_mgt.proofs.AgreeLaws.{agrees_put}
use Rattle.sm_mgt.proofs.PlaceLaws.{place_below}
use Rattle.sm_standing.specs.Apart.{is_apart}
use Rattle.sm_standing.specs.Contents.{Content, is_record_of, reading_at, record_count, record_of, records, taken as taken_of}
use Rattle.sm_standing.specs.Entries.{of_row}
use Rattle.sm_standing.specs.Forks.{IsForkable, IsForked, forked}
use Rattle.sm_standing.specs.Logs.{IsLogged}
use Rattle.sm_standing.specs.Standing.{disk_at, disk_in, disks}
use Rattle.sm_standing.proofs.DiskLists.{at_disks, disks_at}
use Rattle.sm_standing.proofs.ForkLaws.{fork_ended, made_disk}
use Rattle.sm_standing.proofs.Orders.{filter_map-In}
use Rattle.sm_standing.proofs.RecordLists.{first_of, record_of_first, records_one}
use Rattle.sm_ready.specs.Done.{at_rest}
use Rattle.sm_ready.specs.Known.{Known, is_shown, is_shown_place, machine_record, records_in, shape_in, shown_places}
use Rattle.sm_ready.specs.Orderly.{IsOrderly}
use Rattle.sm_ready.specs.Ready.{IsBelow, IsReady, IsTidy}
use Rattle.sm_ready.specs.Stores.{content_now}
use Rattle.sm_ready.proofs.CommitLaws.{volume_rested}
use Rattle.sm_ready.proofs.FrameLaws.{not_mgt}
use Rattle.sm_ready.proofs.LeftLaws.{IsLeft, left_now, mgt_long, now_sector, place_reads}
use Rattle.sm_ready.proofs.OperationLaws.{below_alike}
use Rattle.sm_ready.proofs.Orders.{named_row}
use Rattle.sm_ready.proofs.OwnLaws.{IsOwn}
use Rattle.sm_ready.proofs.RestLaws.{agrees_keeps, keeps_rest, steady_keeps}
use Rattle.sm_ready.proofs.RowLaws.{HasVolume, image_named, volume_there}
use Rattle.sm_ready.proofs.ShapeLaws.{as_taken, content_records, into_records, place_of}
use Rattle.sm_ready.proofs.TruthLaws.{row_found}
use Rattle.sm_clone.specs.Forking.{AreForFork, IsBesideFork, IsFilled, IsMade, Passes, base_body, base_name, base_row, child_head, fork_of, forking, own_uid, twin_record, twin_uid}
use Rattle.sm_clone.specs.declared.forks.Fork.{Fork}
use Rattle.sm_clone.proofs.AreaLaws.{area_behind, area_fill, area_front, made_steady}
use Rattle.sm_clone.proofs.ForkRows.{base_named, by_row, roomy_wanted}
use Rattle.sm_clone.proofs.ForkableLaws.{IsStood, moment_forkable, own_stood, speaks_own, works_apart, stood as stands}
use Rattle.sm_clone.proofs.MomentLaws as moments
use Rattle.sm_clone.proofs.MomentLaws.{IsApartTable, IsChild, IsMomentArea, IsMomentTable}
use Rattle.sm_clone.proofs.PassedLaws.{own as own_of, own_is}
use Rattle.sm_clone.proofs.ShapeLaws.{free, rows_then, unseen}
use Rattle.sm_clone.proofs.TableLaws as tables
use Rattle.sm_clone.proofs.TableMoments.{apart_8, moment_5, moment_6, moment_7, no_base_8}

abbrev back_record : DiskRecord → Record
back_record d = record { uuid = d.uuid; label = d.label; origin = d.origin; read_only = d.read_only }

no_elements : {A : Type 0} (xs : List A) → ((x : A) → In x xs → ⊥) → xs ≡ []
no_elements [] none = refl
no_elements (x ∷ xs) none = absurd (none x (inl refl))

-- an image is as steady in a volume of another name
steady_under : (g : _) (n : ℕ) (h : Held) (to : Name) (b : Body) → IsSteady g n h b → IsSteady g n h (in_volume to b)
steady_under g n h to (body.Raw volume size) was = was
steady_under g n h to (body.Vhd head m) was = record { is_true = record { now = was.is_true.now; valid = was.is_true.valid; within = was.is_true.within }; still = was.still; holding = was.holding }

module _ (s : Site) (t : VolumeTable) (m : Known) (u twin : List ℕ) (read_only : Bool) (o : IsOrderly s t m) (tidy : IsTidy t m) (passes : Passes s t m u twin read_only)
    (keeps : is_given_up (shape_in s t m) (forking u twin read_only) ≡ false) (sectors : ℕ) (own twins : List ℕ) (taken : AreForFork s t (shape_in s t m) u sectors own twins) (proper : IsUuid twin)
    (old : Held) (ready : IsReady s t old m) (k : ℕ) (origin : Record) (placed : place_for m.places twin ≡ Some k) where
  abbrev f : Fork
  f = fork_of passes.number m.rows u twin

  abbrev us : List (List ℕ)
  us = forked f.disk f.base f.twin

  abbrev its : IsOwn m u
  its = own_of s t m u twin read_only o tidy passes

  abbrev pub entry : Record
  entry = twin_record u twin read_only origin

  abbrev before_it : Content
  before_it = content_now s t old

  abbrev rest : Held
  rest = at_rest (reads old)

  abbrev extent : ℕ
  extent = s.geometry.extent

  abbrev pub table_5 : VolumeTable
  table_5 = tables.table_5 s t m u twin read_only o tidy passes sectors own twins taken proper

  abbrev pub table_6 : VolumeTable
  table_6 = tables.table_6 s t m u twin read_only o tidy passes sectors own twins taken proper

  abbrev pub table_7 : VolumeTable
  table_7 = tables.table_7 s t m u twin read_only o tidy passes sectors own twins taken proper

  abbrev pub table_8 : VolumeTable
  table_8 = tables.table_8 s t m u twin read_only o tidy passes sectors own twins taken proper

  abbrev Area : VolumeTable → Name → Bool → Held → Type 0
  Area = IsMomentArea s t m u twin read_only o tidy passes old ready k origin placed

  abbrev stood : IsStood s t m u twin read_only o tidy passes old ready
  stood = own_stood s t m u twin read_only o tidy passes old ready

  forkable : IsForkable before_it f.disk f.base f.twin f.own stood.image
  forkable = moment_forkable s t m u twin read_only o tidy passes old ready keeps stood.image stood.is

  -- ---- the disk before

  module _ (recorded : record_in m.places u ≡ Some origin) where
    placed_record : In (Some origin) m.places × (bytes_eq origin.uuid u ≡ true)
    placed_record = by (find (is_of u) m.places) refl recorded
      where
        by : (x : Option (Option Record)) → find (is_of u) m.places ≡ x → unwrap_or x None ≡ Some origin → In (Some origin) m.places × (bytes_eq origin.uuid u ≡ true)
        by None is e = absurd (none-some origin e)
        by (Some y) is e = find-some (is_of u) m.places (Some origin) (is ∙ ap Some e)

    there_now : In origin (records before_it)
    unfolding records
    there_now =
        let w = place_of m.places origin placed_record.0 in
        let below : w.0 < record_count = omega (arith, w.1, ready.records.long) in
        filter_map-In (λ j. taken_of (reading_at before_it j)) (numbers 0 record_count) w.0 origin (numbers-In 0 record_count w.0 (omega arith) below)
        (ap taken_of (place_reads s t old m o ready w.0 below) ∙ as_taken (get_or m.places w.0 None) ∙ w.2)

    -- the disk has this record
    pub recorded_now : record_of before_it u ≡ Some origin
    unfolding shape_in
    recorded_now = ∥∥₁_elim o.well_formed (hlevel props) (λ w. find-only (is_record_of u) (records before_it) origin there_now placed_record.1 (λ q i e. only w q i e))
      where
        shown_in : (q : Record) → In (Some q) m.places → In (machine_record q) (records_in (shown_places m.rows m.places))
        shown_in q i = into_records (shown_places m.rows m.places) q (filter-In (is_shown_place m.rows) m.places (Some q) i (tidy.no_stray q i))

        only : IsWellFormed (shape_in s t m) → (q : Record) → In q (records before_it) → bytes_eq q.uuid u ≡ true → q ≡ origin
        only w q i e =
            ap back_record (Distinct-key (λ (x : DiskRecord). x.uuid) (records_in (shown_places m.rows m.places)) (machine_record q) (machine_record origin) w.one_record
            (shown_in q (content_records s t old m q o ready i)) (shown_in origin placed_record.0) (bytes_eq-same q.uuid u e ∙ sym (bytes_eq-same origin.uuid u placed_record.1)))

    disk_now : disk_at before_it u ≡ Some (disk_in before_it u origin f.own)
    disk_now = made_disk before_it u f.own origin (stands s t m u twin read_only o tidy passes) recorded_now

    disk_found : find (is_disk u) (disks before_it) ≡ Some (disk_in before_it u origin f.own)
    disk_found = find-only (is_disk u) (disks before_it) (disk_in before_it u origin f.own) (at_disks before_it u (disk_in before_it u origin f.own) disk_now) (bytes_eq-refl u)
        (λ y i e. same_Some y (disk_in before_it u origin f.own) (sym (disks_at before_it y i) ∙ ap (disk_at before_it) (bytes_eq-same y.uuid u e) ∙ disk_now))

    next_is : (ds : List Disk) (σ : Shape) (b : Bool) → disks_next ds σ (forking u twin b) ≡ fork_disks u twin b (find (is_disk u) ds) ds
    unfolding disks_next
    next_is ds σ true = refl
    next_is ds σ false = refl

    -- the machine's disks after it have the twin as well
    pub next_disks : with_disk (disk_in before_it twin entry f.own) (disks before_it) ≡ disks_next (disks before_it) (shape_in s t m) (forking u twin read_only)
    next_disks = sym (next_is (disks before_it) (shape_in s t m) read_only ∙ ap (λ (x : Option Disk). fork_disks u twin read_only x (disks before_it)) disk_found)

  -- ---- behind the writes

  module _ (now : ℕ) (filled : Held) (middle : IsBesideFork s table_5 f rest filled k entry)
      (wrote : IsFilled s table_5 (child_head s.geometry u now (own_uid t) (base_body f its.row.image)) (child_head s.geometry twin now (twin_uid t)
      (base_body f its.row.image)) k entry rest filled) where
    abbrev pub end : Held
    end = at_rest (reads filled)

    abbrev own_at : (v : VolumeTable) → Name → List ℕ
    own_at v n = extents_of (rows v n)

    leaf_5 : own_at table_5 (Vhd u) ≡ own
    leaf_5 = ap extents_of (tables.stage_5 s t m u twin read_only o tidy passes sectors own twins taken proper).leaf

    twin_5 : own_at table_5 (Vhd twin) ≡ twins
    twin_5 = ap extents_of (tables.stage_5 s t m u twin read_only o tidy passes sectors own twins taken proper).twin

    own_room : HasRoomFor s.geometry 0 (size_of s table_5 (Vhd u))
    own_room = subst (λ es. HasRoomFor s.geometry 0 (length es * extent)) (sym leaf_5)
        (subst (λ j. HasRoomFor s.geometry 0 (j * extent)) (sym taken.own_many) (roomy_wanted s t m u twin read_only o tidy passes (is_rw (attached_as u (shape_in s t m))) sectors))

    twin_room : HasRoomFor s.geometry 0 (size_of s table_5 (Vhd twin))
    twin_room = subst (λ es. HasRoomFor s.geometry 0 (length es * extent)) (sym twin_5)
        (subst (λ j. HasRoomFor s.geometry 0 (j * extent)) (sym taken.twin_many) (roomy_wanted s t m u twin read_only o tidy passes false 0))

    pub area_5 : Area table_5 (base_name f) false filled
    area_5 = area_fill s t m u twin read_only o tidy passes old ready k origin placed table_5 filled
        (moment_5 s t m u twin read_only o tidy passes keeps sectors own twins taken proper old ready k origin placed).same middle

    behind : (v : VolumeTable) → IsApartTable s t m u twin read_only o tidy passes old ready k origin placed v (base_name f) → own_at v (Vhd u) ≡ own → own_at v (Vhd twin) ≡ twins
        → Area v (base_name f) true end
    behind v same leaf other = area_behind s t m u twin read_only o tidy passes old ready k origin placed table_5 v filled now (own_uid t) (twin_uid t)
        (moment_5 s t m u twin read_only o tidy passes keeps sectors own twins taken proper old ready k origin placed).same same area_5
        (leaf ∙ sym leaf_5) (other ∙ sym twin_5) own_room twin_room wrote.own_image wrote.twin_image

    pub area_6 : Area table_6 (base_name f) true end
    area_6 = behind table_6 (moment_6 s t m u twin read_only o tidy passes keeps sectors own twins taken proper old ready k origin placed).same (ap extents_of
        (tables.stage_6 s t m u twin read_only o tidy passes sectors own twins taken proper).leaf) (ap extents_of
        (tables.stage_6 s t m u twin read_only o tidy passes sectors own twins taken proper).twin)

    pub area_7 : Area table_7 (base_name f) true end
    area_7 = behind table_7 (moment_7 s t m u twin read_only o tidy passes keeps sectors own twins taken proper old ready k origin placed).same (ap extents_of
        (tables.stage_7 s t m u twin read_only o tidy passes sectors own twins taken proper).leaf) (ap extents_of
        (tables.stage_7 s t m u twin read_only o tidy passes sectors own twins taken proper).twin)

    same_8 : IsApartTable s t m u twin read_only o tidy passes old ready k origin placed table_8 (base_name f)
    same_8 = apart_8 s t m u twin read_only o tidy passes keeps sectors own twins taken proper old ready k origin placed

    area_8 : Area table_8 (base_name f) true end
    area_8 = behind table_8 same_8 (ap extents_of (tables.stage_8 s t m u twin read_only o tidy passes sectors own twins taken proper).leaf) (ap extents_of
        (tables.stage_8 s t m u twin read_only o tidy passes sectors own twins taken proper).twin)

    -- ---- the records

    -- the places are those of memory
    pub agrees_end : IsRecord entry → Agrees (records_held s table_8 end) (set m.places k (Some entry))
    agrees_end right =
        let front = area_front s t m u twin read_only o tidy passes old ready k origin placed table_5 (base_name f)
        (moment_5 s t m u twin read_only o tidy passes keeps sectors own twins taken proper old ready k origin placed).same in
        let same = ap extents_of (same_8.others Mgt refl ∙ sym ((moment_5 s t m u twin read_only o tidy passes keeps sectors own twins taken proper old ready k origin placed).same.others Mgt refl)) in
        agrees_keeps (records_held s table_5 filled) (records_held s table_8 end) (set m.places k (Some entry))
        (subst (λ es. Keeps (records_held s table_5 filled) (volume extent es end)) (sym same) (Keeps-volume extent (own_at table_5 Mgt) (keeps_rest filled)))
        (agrees_put m.places entry k wrote.between (records_held s table_5 filled) right placed wrote.wrote
        (agrees_keeps (records_held s table_5 rest) wrote.between m.places wrote.kept
        (agrees_keeps (records_held s t old) (records_held s table_5 rest) m.places
        (subst (λ es. Keeps (records_held s t old) (volume extent es rest)) (sym (ap extents_of
        ((moment_5 s t m u twin read_only o tidy passes keeps sectors own twins taken proper old ready k origin placed).same.others Mgt refl))) (Keeps-volume extent (own_at t Mgt)
        (keeps_rest old))) ready.records)))

    abbrev after_it : Content
    after_it = content_now s table_8 end

    left : IsLeft s end (reads end)
    left = left_now s end

    within : k < record_count
    within = omega (arith, place_below m.places twin k placed, o.places)

    put_there : IsRecord entry → reading_at after_it k ≡ Taken entry
    put_there right =
        let long : size_of s table_8 Mgt ≡ size_of s t Mgt = ap (λ (r : Option Row). span extent (extents_of r)) (same_8.others Mgt refl) in
        ap reading (now_sector s table_8 end Mgt k (omega (arith, within, mgt_long s t m o, long)))
        ∙ (agrees_end right).each k (Some entry) (slice_get-get_or (set m.places k (Some entry)) k None (omega (arith, within, o.places, length-set m.places k (Some entry)))
        ∙ ap Some (get_or-set_same m.places k (Some entry) None (omega (arith, within, o.places))))

    twin_recorded : IsRecord entry → record_of after_it twin ≡ Some entry
    twin_recorded right =
        record_of_first after_it twin
        ∙ ap first_of (⊎_elim (λ same. absurd (let e = sym (put_there right) ∙ same k within ∙ was_free in (let y = e in cc)))
        (λ one. records_one before_it after_it k entry twin one (bytes_eq-refl twin) none_before)
        (moments.readings s t m u twin read_only o tidy passes old ready k origin placed table_8 (base_name f) true end same_8 area_8 (reads end) left))
      where
        was_free : reading_at before_it k ≡ as_reading None
        was_free = place_reads s t old m o ready k within ∙ ap as_reading (free s t m u twin read_only o tidy passes k placed)

        none_before : filter (is_record_of twin) (records before_it) ≡ []
        none_before = no_elements (filter (is_record_of twin) (records before_it)) (λ q i.
            let w = In-filter (is_record_of twin) (records before_it) q i in
            true≢false (sym (tidy.no_stray q (content_records s t old m q o ready w.0)) ∙ ap (is_shown m.rows) (bytes_eq-same q.uuid twin w.1) ∙ unseen s t m u twin read_only o tidy passes))

    -- ---- the disks

    leaf_there : rows table_8 (Vhd u) ≡ Some (made (Vhd u) false own)
    leaf_there = (tables.stage_8 s t m u twin read_only o tidy passes sectors own twins taken proper).leaf

    twin_there : rows table_8 (Vhd twin) ≡ Some (made (Vhd twin) false twins)
    twin_there = (tables.stage_8 s t m u twin read_only o tidy passes sectors own twins taken proper).twin

    leaf_child : IsChild s t m u twin read_only o tidy passes old ready k origin placed table_8 end (base_name f) (Vhd u)
    leaf_child = (area_8.children refl).0

    twin_child : IsChild s t m u twin read_only o tidy passes old ready k origin placed table_8 end (base_name f) (Vhd twin)
    twin_child = (area_8.children refl).1

    forked_ended : IsRecord entry → IsForked before_it after_it f.disk f.base f.twin f.own (base_name f) stood.image
        (moments.child s t m u twin read_only o tidy passes old ready k origin placed table_8 (base_name f) true end same_8 area_8 (reads end) left u (made
        (Vhd u) false own) leaf_there refl leaf_child)
        (moments.child s t m u twin read_only o tidy passes old ready k origin placed table_8 (base_name f) true end same_8 area_8 (reads end) left twin (made
        (Vhd twin) false twins) twin_there refl twin_child) entry
    forked_ended right = record {
      none_making = (tables.stage_8 s t m u twin read_only o tidy passes sectors own twins taken proper).making;
      folding = (tables.stage_8 s t m u twin read_only o tidy passes sectors own twins taken proper).folding;
      apart = moments.same_apart s t m u twin read_only o tidy passes old ready k origin placed table_8 (base_name f) true end same_8 area_8 (reads end) left;
      disk_visible = ap (of_row (λ r. not r.hidden && not r.fresh)) leaf_there;
      twin_visible = ap (of_row (λ r. not r.hidden && not r.fresh)) twin_there;
      no_base = no_base_8 s t m u twin read_only o tidy passes keeps sectors own twins taken proper old ready k origin placed;
      image = moments.image_moved s t m u twin read_only o tidy passes old ready k origin placed table_8 (base_name f) true end same_8 area_8 (reads end) left;
      disk_image = moments.over s t m u twin read_only o tidy passes old ready k origin placed table_8 (base_name f) true end same_8 area_8 (reads end) left u (made
          (Vhd u) false own) leaf_there refl leaf_child;
      twin_image = moments.over s t m u twin read_only o tidy passes old ready k origin placed table_8 (base_name f) true end same_8 area_8 (reads end) left twin (made
          (Vhd twin) false twins) twin_there refl twin_child;
      recorded = moments.recorded_kept s t m u twin read_only o tidy passes old ready k origin placed table_8 (base_name f) true end same_8 area_8 (reads end) left;
      twin_recorded = twin_recorded right;
    }

    -- the disks are the machine's after the command
    pub disks_ended : IsRecord entry → record_in m.places u ≡ Some origin → disks after_it ≡ disks_next (disks before_it) (shape_in s t m) (forking u twin read_only)
    disks_ended right recorded = fork_ended before_it after_it f.disk f.base f.twin f.own (base_name f) stood.image _ _ entry forkable (forked_ended right) ∙ next_disks recorded

    -- ---- the images in memory

    other_apart : (r : TreeRow) → In r m.rows → row_name r ≢ f.own → is_apart us (row_name r) ≡ true
    other_apart r i away = by (is_apart us (row_name r)) refl
      where
        there : HasVolume t (row_name r)
        there = volume_there s t m r o (image_named (row_name r) (named_row s t m r o i)) (row_found s t m o r i)

        by : (x : Bool) → is_apart us (row_name r) ≡ x → is_apart us (row_name r) ≡ true
        by true e = e
        by false e = absurd (away (speaks_own s t m u twin read_only o tidy passes keeps (row_name r) there.row there.there e))

    abbrev SteadyNow : TreeRow → Type 0
    SteadyNow r = IsSteady s.geometry (r.extents * extent) (volume_of s table_8 end (row_name r)) r.image

    other_steady : (r : TreeRow) → In r m.rows → row_name r ≢ f.own → SteadyNow r
    other_steady r i away =
        steady_keeps s.geometry (r.extents * extent) (volume_of s t old (row_name r)) (volume_of s table_8 end (row_name r)) r.image
        (Keeps-then (Keeps-volume extent (own_at t (row_name r)) (keeps_rest old)) (area_8.others (row_name r) (other_apart r i away) (λ e. not_mgt s t m o r i e))) (ready.firm.images r i)

    base_steady : IsSteady s.geometry (its.row.extents * extent) (volume_of s table_8 end (row_name (base_row f its.row))) (base_body f its.row.image)
    base_steady =
        subst (λ (n : Name). IsSteady s.geometry (its.row.extents * extent) (volume_of s table_8 end n) (base_body f its.row.image)) (sym (base_named s t m u twin read_only o tidy passes))
        (steady_under s.geometry (its.row.extents * extent) (volume_of s table_8 end (base_name f)) (base_name f) its.row.image
        (steady_keeps s.geometry (its.row.extents * extent) (volume_of s t old f.own) (volume_of s table_8 end (base_name f)) its.row.image
        (Keeps-then (Keeps-volume extent (own_at t f.own) (keeps_rest old)) area_8.own)
        (subst (λ (n : Name). IsSteady s.geometry (its.row.extents * extent) (volume_of s t old n) its.row.image) (sym (own_is s t m u twin read_only o tidy passes))
        (ready.firm.images its.row its.there))))

    abbrev head : List ℕ → List ℕ → Head
    head w uid = child_head s.geometry w now uid (base_body f its.row.image)

    written_steady : (w uid es : List ℕ) → own_at table_8 (Vhd w) ≡ es → own_at table_5 (Vhd w) ≡ es → IsMade s table_5 filled (head w uid)
        → IsSteadyIn s.geometry (length es * extent) (volume_of s table_8 end (Vhd w)) (head w uid) (replicate s.geometry.entries None)
    written_steady w uid es at was is =
        subst (λ gs. IsSteadyIn s.geometry (length gs * extent) (volume_of s table_8 end (Vhd w)) (head w uid) (replicate s.geometry.entries None)) at
        (made_steady s t m u twin read_only o tidy passes old ready k origin placed table_5 table_8 filled w now uid (at ∙ sym was) is)

    -- the store is ready, with these images and places in memory
    pub ready_ended : IsRecord entry → (next : Known) → next.rows ≡ rows_then s t m u twin read_only o tidy passes now (length own) (length twins) → next.places ≡ set m.places k (Some entry)
        → next.op ≡ m.op → next.logs ≡ m.logs → IsReady s table_8 end next
    ready_ended right next rows_are places_are op_is logs_are = record {
      firm = record {
        images = λ r i. by_row s t m u twin read_only o tidy passes now (length own) (length twins) (λ q. IsSteady s.geometry (q.extents * extent) (volume_of s table_8 end (row_name q)) q.image)
            base_steady
            (written_steady u (own_uid t) own (ap extents_of leaf_there) leaf_5 wrote.own_image) (written_steady twin (twin_uid t) twins (ap extents_of twin_there) twin_5 wrote.twin_image)
            other_steady r (subst (In r) rows_are i);
        quiet = λ r i _. volume_rested s table_8 (reads filled) (row_name r);
        below = subst (IsBelow after_it) (sym op_is) (below_alike before_it after_it m.op refl refl
            (λ n works. moments.image_apart s t m u twin read_only o tidy passes old ready k origin placed table_8 (base_name f) true end same_8 area_8 (reads end) left n
            (works_apart s t m u twin read_only o tidy passes keeps n works)) ready.firm.below);
      };
      records = subst (Agrees (records_held s table_8 end)) (sym places_are) (agrees_end right);
      recorded = volume_rested s table_8 (reads filled) Mgt;
      logs = subst (IsLogged after_it) (sym logs_are) (moments.moment_logged s t m u twin read_only o tidy passes old ready k origin placed table_8 (base_name f) true end same_8 area_8 (reads end) left);
      logged = λ d. volume_rested s table_8 (reads filled) (Cbt d);
    }
