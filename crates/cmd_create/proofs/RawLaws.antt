-- A new raw disk: what is known before its volume is made, and the disk that its zeros and its record are.
use Rattle.std.proofs.Common.{◌≡◌, ◌≢◌, ℕ, ◌*◌, ◌<◌, ◌≤◌, ◌==◌, ◌||◌, true, false, List, [], length, unwrap_or, Option, Some, None, IsSome, refl, sym, ap, ap₂, ◌∙◌, subst, subst₂, arith}
use Rattle.std.proofs.lemmas.Bool.{eqb-false, or_parts}
use Rattle.sm_base.specs.Limits.{extent_limit}
use Rattle.sm_base.proofs.NumberLemmas.{div_up-pos}
use Rattle.sm_base.specs.Names.{IsName}
use Rattle.sm_base.specs.declared.names.Name.TheVariants.{Raw}
use Rattle.sm_disk.specs.Held.{reads}
use Rattle.sm_disk.specs.Sectors.{zeros}
use Rattle.vg_extents.proofs.CountLaws.{length-free}
use Rattle.vg_meta.specs.Tables.{VolumeTable, Row, rows, extents_of}
use Rattle.vg_meta.specs.Changes.{applied, made}
use Rattle.vg_meta.specs.declared.changes.Change.TheVariants.{Create}
use Rattle.vg_volumes.specs.Sites.{Site}
use Rattle.vg_volumes.specs.Stored.{Commits}
use Rattle.vg_volumes.specs.Volumes.{piece, span, spot, volume}
use Rattle.vg_volumes.specs.declared.stores.Store.{Ghosts}
use Rattle.vg_volumes.proofs.VolumeLaws.{volume_reads}
use Rattle.vhd_chain.specs.declared.rows.TreeRow.{TreeRow}
use Rattle.sm_machine.specs.Disks.{Disk, filled}
use Rattle.sm_machine.specs.Refusals.{refusal, is_bad_size, images_needed, need, new_uuid, rounded}
use Rattle.sm_machine.specs.Shapes.{ImageRow, image_uuid}
use Rattle.sm_machine.specs.Steps.{State, new_image}
use Rattle.sm_machine.specs.WellFormed.{is_image_name}
use Rattle.sm_machine.specs.declared.commands.Command.TheVariants as command
use Rattle.sm_machine.proofs.Passed.{passed}
use Rattle.sm_record.specs.Records.{IsRecord}
use Rattle.sm_record.specs.declared.records.Record.{Record}
use Rattle.sm_mgt.specs.Places.{place_for}
use Rattle.sm_standing.specs.Contents as content
use Rattle.sm_standing.specs.Contents.{Content, sectors_of, size_of}
use Rattle.sm_standing.specs.Images.{sectors_read}
use Rattle.sm_standing.specs.Standing.{disk_in}
use Rattle.sm_standing.proofs.PlainDisks.{map_numbers, raw_sectors_read}
use Rattle.sm_ready.specs.Done.{at_rest}
use Rattle.sm_ready.specs.Known.{Known, known, machine_row, shape_in}
use Rattle.sm_ready.specs.Orderly.{IsOrderly}
use Rattle.sm_ready.specs.Ready.{IsTidy}
use Rattle.sm_ready.specs.Sessions.{IsOrderlyStore, IsTidyStore}
use Rattle.sm_ready.specs.Stores.{content_now}
use Rattle.sm_ready.specs.declared.memory.Memory.{Memory}
use Rattle.sm_ready.proofs.ChainLaws.{tab}
use Rattle.sm_ready.proofs.LastLaws.{after, now_there}
use Rattle.sm_ready.proofs.MadeLaws.{zeros_read}
use Rattle.sm_ready.proofs.MakingLaws.{MakesIn}
use Rattle.sm_ready.proofs.NewLaws.{IsToMake, made_is, stepped_is, there, well_target}
use Rattle.sm_ready.proofs.RefusalLaws.{IsNewUuid, new_passed}
use Rattle.sm_ready.proofs.StepLaws.{stepped, target}
use Rattle.cmd_create.specs.Making.{IsForDisk, entry_of, new_disk}
use Rattle.sm_ready.specs.Refusing.{extents_for}
use Rattle.cmd_create.specs.Stages.{IsFilled, raw_row}

pub raw_image : (u : List ℕ) → is_image_name (Raw u) ≡ true
unfolding is_image_name
raw_image u = refl

-- ---- where create is not refused

module _ (s : Site) (t : VolumeTable) (m : Known) (u label : List ℕ) (size : ℕ) (o : IsOrderly s t m) (tidy : IsTidy t m) (accepted : refusal (shape_in s t m) (command.Create u size true label) ≡ None) where
  pub new : IsNewUuid s t m (command.Create u size true label) u
  unfolding new_uuid
  new = new_passed s t m (command.Create u size true label) u o tidy refl accepted

  pub enough : extents_for s.geometry.extent size ≤ extent_limit
  unfolding need shape_in
  enough = let most = new.enough in omega (arith, most, length-free s.count t o.table.volumes.distinct, o.few_extents)

  some : 0 < extents_for s.geometry.extent size
  unfolding is_bad_size shape_in
  some =
      let bad = or_parts (size == 0) _ (or_parts ((size == 0) || _) _ (passed (shape_in s t m) (command.Create u size true label) accepted).bad_size).0 in
      let least = s.geometry.in_range.extent_least in
      div_up-pos size (512 * s.geometry.extent) (omega (arith, least)) (let x : size ≢ 0 = eqb-false size 0 bad.0 in omega (arith, x))

-- ---- what is known before

-- the place of a record
abbrev pub place_of : Memory → Record → ℕ
place_of m entry = unwrap_or (place_for m.records entry.uuid) 0

-- the image's row is the machine's
pub row_is : (s : Site) (t : VolumeTable) (m : Known) (u es : List ℕ) (size : ℕ) → length es ≡ extents_for s.geometry.extent size → machine_row (raw_row u (length es) (length es * s.geometry.extent)) ≡ new_image (shape_in s t m) u size true
unfolding shape_in rounded
row_is s t m u es size many = ap (λ (n : ℕ). let i : ImageRow = record { name = Raw u; hidden = false; parent = None; size = n * s.geometry.extent; slots = []; extents = n } in i) many

module _ {S : Type 0} (g : Ghosts S) (a : S) (m : Memory) (entry : Record) (es : List ℕ) (orderly : IsOrderlyStore g a m) (tidy : IsTidyStore g a m) (disk : IsForDisk (g.site a) (tab g a) (known m) entry.uuid entry.label es)
    (proper : IsRecord entry) (plain : entry ≡ entry_of entry.uuid entry.label) (place : IsSome (place_for m.records entry.uuid)) where
  abbrev image : TreeRow
  image = raw_row entry.uuid (length es) (length es * (g.site a).geometry.extent)

  begins : IsToMake (g.site a) (tab g a) (known m) (Raw entry.uuid) es image (place_of m entry) entry
  unfolding IsName is_image_name image_uuid images_needed shape_in
  begins =
      let new = new (g.site a) (tab g a) (known m) entry.uuid entry.label disk.size orderly tidy disk.accepted in
      record {
        orderly = orderly;
        tidy = tidy;
        proper = proper.uuid.uuid;
        image = refl;
        uuid = refl;
        not_base = new.not_base;
        absent = new.absent;
        few = new.few;
        some_extents = subst (λ n. 0 < n) (sym disk.many) (some (g.site a) (tab g a) (known m) entry.uuid entry.label disk.size orderly tidy disk.accepted);
        extents_free = disk.extents_free;
        named = refl;
        shown = refl;
        long = refl;
        stands = omega arith;
        recorded = proper;
        placed = some_of (place_for m.records entry.uuid) place;
        well_formed = well_target (g.site a) (tab g a) (known m) (command.Create entry.uuid disk.size true entry.label) σ (target (g.site a) (applied (tab g a) (Create (Raw entry.uuid) true es)) (Raw entry.uuid) image (known m) entry) orderly refl
            (stepped (g.site a) (tab g a) (known m) (Raw entry.uuid) es image entry σ disk.size true refl disk.accepted (ap (λ (r : Record). r.origin) plain) (ap (λ (r : Record). r.read_only) plain) (row_is (g.site a) (tab g a) (known m) entry.uuid es disk.size disk.many));
      }
    where
      σ : State
      σ = record { disks = []; shape = shape_in (g.site a) (tab g a) (known m) }

      some_of : (x : Option ℕ) → IsSome x → x ≡ Some (unwrap_or x 0)
      some_of None h = absurd (let k = h in cc)
      some_of (Some k) h = refl

  pub makes : g.failed a ≡ false → MakesIn g a m (Raw entry.uuid) es image (place_of m entry) entry
  makes usable = record { begins = begins; usable = usable }

-- ---- the disk

zero_sectors : (c : Content) (u : List ℕ) (r : Row) → content.row c (Raw u) ≡ Some r → r.fresh ≡ false → ((p : ℕ) → p < size_of c (Raw u) → sectors_of c (Raw u) p ≡ zeros)
    → sectors_read c (Raw u) ≡ filled (size_of c (Raw u)) 0
unfolding zeros
zero_sectors c u r there full each =
    raw_sectors_read c u r there full
    ∙ map_numbers (sectors_of c (Raw u)) (λ k. zeros) 0 (size_of c (Raw u)) (λ k from below. each k (omega (arith, below)))
    ∙ zeros_read 0 (size_of c (Raw u))

-- zeros in its volume and the plain record are the new disk
pub disk_is : {S : Type 0} {g : Ghosts S} {a b d : S} {m : Memory} {entry : Record} {es : List ℕ} {image : TreeRow} {k : ℕ} → MakesIn g a m (Raw entry.uuid) es image k entry → entry ≡ entry_of entry.uuid entry.label
    → Commits g (Create (Raw entry.uuid) true es) a b → IsFilled (g.site b) (tab g b) entry k (g.area b) (g.area d)
    → disk_in (content_now (g.site a) (after (applied (tab g a) (Create (Raw entry.uuid) true es)) (Raw entry.uuid)) (at_rest (reads (g.area d)))) entry.uuid entry (Raw entry.uuid)
    ≡ new_disk entry.uuid entry.label (length es * (g.site a).geometry.extent)
unfolding sectors_of piece
disk_is {g = g} {a} {b} {d} {m} {entry} {es} {image} {k} h plain begun filled_b =
    ap₂ (λ (r : Record) (ss : List (List ℕ)). let x : Disk = record { uuid = entry.uuid; label = r.label; origin = r.origin; read_only = r.read_only; sectors = ss } in x) plain
    (zero_sectors c entry.uuid (made (Raw entry.uuid) false es) row_there refl (λ p below. each p (subst (λ n. p < n) sized below)) ∙ ap (λ n. filled n 0) sized)
  where
    s : Site
    s = g.site a

    t1 : VolumeTable
    t1 = applied (tab g a) (Create (Raw entry.uuid) true es)

    c : Content
    c = content_now s (after t1 (Raw entry.uuid)) (at_rest (reads (g.area d)))

    done : IsFilled s t1 entry k (g.area b) (g.area d)
    done = subst₂ (λ x y. IsFilled x y entry k (g.area b) (g.area d)) begun.site begun.table filled_b

    row_there : content.row c (Raw entry.uuid) ≡ Some (made (Raw entry.uuid) false es)
    row_there = now_there s t1 (known m) (Raw entry.uuid) image k entry (made (Raw entry.uuid) true es) (made_is s (tab g a) (known m) (Raw entry.uuid) es image k entry h.begins) (stepped_is s (tab g a) (known m) (Raw entry.uuid) es image k entry h.begins)

    sized : size_of c (Raw entry.uuid) ≡ length es * s.geometry.extent
    sized = ap (λ o. span s.geometry.extent (extents_of o)) row_there

    each : (p : ℕ) → p < span s.geometry.extent es → sectors_of c (Raw entry.uuid) p ≡ zeros
    each p below =
        let at : extents_of (rows t1 (Raw entry.uuid)) ≡ es = ap extents_of (there s (tab g a) (known m) (Raw entry.uuid) es image k entry h.begins) in
        ap (λ o. reads (g.area d) (spot s.geometry.extent (extents_of o) p)) row_there ∙ sym (volume_reads s.geometry.extent es (g.area d) p below)
        ∙ ap (λ xs. reads (volume s.geometry.extent xs (g.area d)) p) (sym at) ∙ done.sectors p (subst (λ xs. p < span s.geometry.extent xs) (sym at) below)
