-- The disk that is imported: once its image is sealed, its volume shows just the disk that is made of the file.
use Rattle.std.proofs.Common.{◌≡◌, ℕ, zero, suc, ◌+◌, ◌-◌, ◌*◌, ◌<◌, ◌≤◌, Bool, false, List, [], ◌∷◌, ◌++◌, length, map, replicate, codes, Option, Some, None, refl, sym, ap, ap₂, ◌∙◌, subst, subst₂, arith}
use Rattle.std.specs.Prelude.{slice_index_or}
use Rattle.std.specs.List.{filter}
use Rattle.std.proofs.lemmas.Bool.{cond-true}
use Rattle.std.proofs.lemmas.Grind.{div_ceil_times}
use Rattle.common_laws.specs.Lists.{numbers}
use Rattle.sm_base.specs.Numbers.{div_up}
use Rattle.sm_base.proofs.NumberLemmas.{div_up-div_ceil}
use Rattle.sm_base.specs.declared.names.Name.{Name}
use Rattle.sm_base.specs.declared.names.Name.TheVariants.{Mgt, Vhd}
use Rattle.sm_disk.specs.Held.{Held, reads}
use Rattle.sm_disk.specs.Sectors.{zeros}
use Rattle.vg_meta.specs.Changes.{tagged}
use Rattle.vg_meta.specs.Tables.{Row, VolumeTable, extents_of, rows}
use Rattle.vg_meta.specs.declared.changes.Tag.TheVariants.{Fresh}
use Rattle.vg_meta.proofs.RowLaws.{names_of-with_row, row_of-with_row_same}
use Rattle.vg_volumes.specs.Sites.{Site, size_of, volume_of}
use Rattle.vg_volumes.specs.Stored.{WorksOn, held_in, sectors_in, stored}
use Rattle.vg_volumes.specs.Volumes.{piece}
use Rattle.vg_volumes.specs.declared.stores.Store.{Ghosts}
use Rattle.vg_volumes.proofs.VolumeLaws.{Keeps-volume}
use Rattle.vhd_layout.specs.Contents.{content_at, size_at}
use Rattle.vhd_layout.specs.Images.{EachSlotHolds, IsImage}
use Rattle.vhd_layout.specs.Layouts.{Sectors}
use Rattle.vhd_layout.specs.Readings.{image_at, is_valid}
use Rattle.vhd_layout.proofs.ImageLaws.{content-of_head}
use Rattle.vhd_layout.proofs.ReadingLaws.{valid-decided}
use Rattle.vhd_map.specs.Slots.{slot_of}
use Rattle.vhd_volumes.specs.Steps.{Gives, Holds}
use Rattle.vhd_volumes.specs.Truth.{disk_blocks, layout_in, layout_now}
use Rattle.vhd_volumes.specs.declared.heads.Head.{Head}
use Rattle.vhd_image.specs.Bodies.{IsVhd, StandsIn, parent_name, volume_name}
use Rattle.vhd_image.specs.Made.{new_head}
use Rattle.vhd_image.specs.Opened.{ReadsAsImage}
use Rattle.vhd_image.specs.Steady.{IsSteady}
use Rattle.vhd_image.specs.declared.images.Body.{Body}
use Rattle.vhd_image.specs.declared.images.Body.TheVariants as body
use Rattle.vhd_filling.specs.Filled.{HasSectors, held_now, or_zeros}
use Rattle.vhd_filling.specs.declared.fillings.Filling.{Filling}
use Rattle.vhd_filling.proofs.EndLaws.{law_steady}
use Rattle.vhd_import.specs.Progress.{IsMadeOf}
use Rattle.vhd_import.specs.Puts.{Put}
use Rattle.vhd_import.specs.Room.{Target}
use Rattle.vhd_import.specs.Verdicts.{imported}
use Rattle.sm_machine.specs.Disks.{Disk}
use Rattle.sm_record.specs.declared.records.Record.{Record}
use Rattle.sm_standing.specs.Contents.{Content, sectors_of}
use Rattle.sm_standing.specs.Entries.{is_making, making}
use Rattle.sm_standing.specs.Images.{Image, image_of, image_reads, sectors_read}
use Rattle.sm_standing.proofs.ImageLaws.{held_reads, top_zeros}
use Rattle.sm_standing.proofs.ImageSectors.{image_same, whole_none}
use Rattle.sm_standing.proofs.PlainDisks.{map_numbers}
use Rattle.sm_ready.specs.Done.{at_rest}
use Rattle.sm_ready.specs.Known.{known}
use Rattle.sm_ready.specs.Stores.{content_now}
use Rattle.sm_ready.specs.declared.memory.Memory.{Memory}
use Rattle.sm_ready.proofs.ChainLaws.{tab, volume_other}
use Rattle.sm_ready.proofs.CommitLaws.{volume_rested}
use Rattle.sm_ready.proofs.LeftLaws.{vhd_of, volume_reads}
use Rattle.sm_ready.proofs.Orders.{none_making}
use Rattle.sm_ready.proofs.RestLaws.{keeps_rest}
use Rattle.sm_importing.specs.Disks.{HoldsPuts}
use Rattle.sm_importing.specs.Endings.{IsDiskOf, IsImageIn, IsSteadyAtRest, marked}
use Rattle.sm_importing.specs.Imports.{IsImporting}

-- ---- so many sectors, of which the first are these and the others zeros

rest-in : (f : ℕ → List ℕ) (xs : List (List ℕ)) (a n : ℕ) → ((k : ℕ) → k < n → f (a + k) ≡ slice_index_or xs k zeros) → length xs ≤ n → map f (numbers a n) ≡ xs ++ replicate (n - length xs) zeros
unfolding numbers
rest-in f [] a zero same few = refl
rest-in f (x ∷ xs) a zero same few = absurd (omega (arith, few))
rest-in f [] a (suc n) same few =
    let first : f a ≡ zeros = let e : a ≡ a + 0 = omega arith in ap f e ∙ same 0 (omega arith) in
    let rest = rest-in f [] (a + 1) n (λ k less. let e : a + 1 + k ≡ a + suc k = omega arith in ap f e ∙ same (suc k) (omega (arith, less))) (omega arith) in
    let more : suc (n - 0) ≡ suc n - 0 = omega arith in
    ap₂ (λ (y : List ℕ) (ys : List (List ℕ)). y ∷ ys) first rest ∙ ap (λ k. replicate k zeros) more
rest-in f (x ∷ xs) a (suc n) same few =
    let first : f a ≡ x = let e : a ≡ a + 0 = omega arith in ap f e ∙ same 0 (omega arith) in
    let rest = rest-in f xs (a + 1) n (λ k less. let e : a + 1 + k ≡ a + suc k = omega arith in ap f e ∙ same (suc k) (omega (arith, less))) (omega (arith, few)) in
    let more : n - length xs ≡ suc n - length (x ∷ xs) = omega arith in
    ap₂ (λ (y : List ℕ) (ys : List (List ℕ)). y ∷ ys) first rest ∙ ap (λ k. x ∷ (xs ++ replicate k zeros)) more

covered : (n block : ℕ) → 0 < block → n ≤ div_up n block * block
covered n block some = subst (λ k. n ≤ k * block) (div_up-div_ceil n block some) (div_ceil_times n block some).0

-- ---- what is read of an image without a parent

alone-reads : (c : Content) (n : Name) (i : Image) (said : ℕ → List ℕ) → image_of c n ≡ Some i → i.parent ≡ None → ((k : ℕ) → k < i.size → or_zeros (i.own k) ≡ said k) → sectors_read c n ≡ map said (numbers 0 i.size)
unfolding sectors_read
alone-reads c n i said is top each =
    ap (λ o. elim o as (λ o. List (List ℕ)) [ None ↦ [] | Some j ↦ map (image_reads c n) (numbers 0 j.size) ]) is
    ∙ map_numbers (image_reads c n) said 0 i.size (λ k from below. one k (omega (arith, below)) (i.own k) refl)
  where
    one : (k : ℕ) → k < i.size → (o : Option (List ℕ)) → i.own k ≡ o → image_reads c n k ≡ said k
    one k below None e = top_zeros c n i k is e top ∙ sym (ap or_zeros e) ∙ each k below
    one k below (Some bytes) e = held_reads c n i k bytes is below e ∙ sym (ap or_zeros e) ∙ each k below

-- ---- the image in a volume whose mark is taken away

module _ (s : Site) (t : VolumeTable) (u : List ℕ) (row : Row) (area : Held) (head : Head) (m : List (Option ℕ)) (there : rows t (Vhd u) ≡ Some row) (none : making t ≡ []) where
  abbrev own : Name
  own = Vhd u

  abbrev n : ℕ
  n = size_of s t own

  abbrev v : Sectors
  v = reads (volume_of s t area own)

  abbrev c : Content
  c = content_now s (marked t own) (at_rest (reads area))

  there_now : rows (marked t own) own ≡ Some (tagged Fresh false row)
  there_now = row_of-with_row_same t.volumes own (tagged Fresh false) row (λ q. refl) there

  none_now : making (marked t own) ≡ []
  none_now = ap (filter is_making) (names_of-with_row t.volumes own (tagged Fresh false) (λ q. refl)) ∙ none

  long : length row.extents * s.geometry.extent ≡ n
  long = ap (λ o. length (extents_of o) * s.geometry.extent) (sym there)

  same_sectors : (p : ℕ) → p < n → sectors_of c own p ≡ v p
  unfolding sectors_of
  same_sectors p below =
      ap (λ o. piece s.geometry.extent (extents_of o) (reads area) p) there_now ∙ ap (λ o. piece s.geometry.extent (extents_of o) (reads area) p) (sym there)
      ∙ sym (volume_reads s.geometry.extent (extents_of (rows t own)) area p below)

  marked_image : IsImage (layout_in s.geometry head.footer n) v head.footer head.header (slot_of m) → image_of c own ≡ Some (content_at s.geometry.block s.geometry.entries n v)
  marked_image is =
      vhd_of c u (tagged Fresh false row) there_now refl (whole_none (marked t own) own none_now)
      ∙ ap (λ k. image_at s.geometry.block s.geometry.entries k (sectors_of c own)) long
      ∙ image_same s.geometry.extent s.geometry.block s.geometry.entries n (sectors_of c own) v s.geometry.in_range same_sectors
      ∙ cond-true (is_valid s.geometry.block s.geometry.entries n v) (Some (content_at s.geometry.block s.geometry.entries n v)) None
      ((valid-decided s.geometry.extent s.geometry.block s.geometry.entries n v s.geometry.in_range).1 (disk_blocks s.geometry head.footer, head.footer, head.header, slot_of m, is))

  -- its sectors, where it has no parent
  pub marked_reads : (sectors : ℕ) (said : ℕ → List ℕ) → IsImage (layout_in s.geometry head.footer n) v head.footer head.header (slot_of m) → head.header.parent ≡ None → head.footer.current ≡ 512 * sectors
      → HasSectors (layout_in s.geometry head.footer n) sectors said v → sectors_read c own ≡ map said (numbers 0 sectors)
  marked_reads sectors said is top long_is held =
      let facts = content-of_head (layout_in s.geometry head.footer n) v head.footer head.header is.head in
      let size : size_at n v ≡ sectors = omega (arith, facts.0, is.head.footer_fits.size, long_is) in
      alone-reads c own (content_at s.geometry.block s.geometry.entries n v) said (marked_image is) (facts.1 ∙ top) (λ k below. held k (omega (arith, below, size)))
      ∙ ap (λ k. map said (numbers 0 k)) size

-- ---- what is left once the image is sealed

-- By what `Filling::finish` says (works, fields, stands, image, holding, held), in the words of the store that it left.
module _ {S : Type 0} (g : Ghosts S) (s x : S) (f : Filling) (sectors now : ℕ) (uid u : List ℕ) (named : f.volume ≡ Vhd u) (works : WorksOn g f.volume s x) where
  abbrev head_in : Site → Name → Head
  head_in a n = new_head a.geometry n now sectors uid None

  abbrev made_in : ℕ
  made_in = size_of (g.site x) (tab g x) (Vhd u)

  sealed_now : Holds g f.volume (λ h. ReadsAsImage (g.site s).geometry (sectors_in (stored g s) f.volume) h (head_in (g.site s) f.volume) f.map) x
      → g.told → ReadsAsImage (g.site x).geometry made_in (held_in (stored g x) (Vhd u)) (head_in (g.site x) (Vhd u)) f.map
  sealed_now sealed told =
      subst₂ (λ (a : Site) (b : VolumeTable). ReadsAsImage a.geometry (size_of a b (Vhd u)) (held_in (stored g x) (Vhd u)) (head_in a (Vhd u)) f.map) (sym works.stays.site) (sym works.stays.table)
      (subst (λ (y : Name). ReadsAsImage (g.site s).geometry (sectors_in (stored g s) y) (held_in (stored g x) y) (head_in (g.site s) y) f.map) named (sealed told))

  sectors_now : (g.told → HasSectors (layout_now (stored g s) (head_in (g.site s) f.volume)) sectors (held_now g f s) (reads (held_in (stored g x) f.volume)))
      → g.told → HasSectors (layout_in (g.site x).geometry (head_in (g.site x) (Vhd u)).footer made_in) sectors (held_now g f s) (reads (held_in (stored g x) (Vhd u)))
  sectors_now held told =
      subst₂ (λ (a : Site) (b : VolumeTable). HasSectors (layout_in a.geometry (head_in a (Vhd u)).footer (size_of a b (Vhd u))) sectors (held_now g f s) (reads (held_in (stored g x) (Vhd u)))) (sym works.stays.site) (sym works.stays.table)
      (subst (λ (y : Name). HasSectors (layout_now (stored g s) (head_in (g.site s) y)) sectors (held_now g f s) (reads (held_in (stored g x) y))) named (held told))

  module _ (image : Body) (is : image ≡ body.Vhd (head_in (g.site s) f.volume) f.map) where
    -- it is an image that stands in all of the volume, and reads through no other
    pub made_image : StandsIn (g.site s).geometry (sectors_in (stored g s) f.volume) image → IsImageIn (g.site x) (tab g x) (Vhd u) image
    made_image stands = record {
      vhd = subst IsVhd (sym is) tt;
      named = ap volume_name is ∙ named;
      root = ap parent_name is;
      stands = subst₂ (λ (a : Site) (b : VolumeTable). StandsIn a.geometry (size_of a b (Vhd u)) image) (sym works.stays.site) (sym works.stays.table)
          (subst (λ (y : Name). StandsIn (g.site s).geometry (sectors_in (stored g s) y) image) named stands);
    }

    -- and it is steady once all that was written lasts
    pub made_steady : Holds g f.volume (λ h. ReadsAsImage (g.site s).geometry (sectors_in (stored g s) f.volume) h (head_in (g.site s) f.volume) f.map) x
        → Gives g f.volume (EachSlotHolds (g.site s).geometry.block (g.site s).geometry.entries) x → IsSteadyAtRest g x (Vhd u) image
    made_steady sealed holding = λ told.
        let geometry = (g.site x).geometry in
        let quiet : Held = volume_of (g.site x) (tab g x) (at_rest (reads (g.area x))) (Vhd u) in
        let same : body.Vhd (head_in (g.site x) (Vhd u)) f.map ≡ image = ap₂ (λ (a : Site) (y : Name). body.Vhd (head_in a y) f.map) works.stays.site (sym named) ∙ sym is in
        let holds : EachSlotHolds geometry.block geometry.entries (reads (held_in (stored g x) (Vhd u))) =
        subst₂ (λ (a : Site) (y : Name). EachSlotHolds a.geometry.block a.geometry.entries (reads (held_in (stored g x) y))) (sym works.stays.site) named (holding told) in
        subst (IsSteady geometry made_in quiet) same
        (law_steady geometry made_in (head_in (g.site x) (Vhd u)) f.map (held_in (stored g x) (Vhd u)) quiet geometry.in_range (sealed_now sealed told) holds (volume_rested (g.site x) (tab g x) (reads (g.area x)) (Vhd u))
        (Keeps-volume geometry.extent (extents_of (rows (tab g x) (Vhd u))) (keeps_rest (g.area x))).reads)

-- ---- the disk

-- the disk of a record, with these sectors
abbrev pub disk_of : Record → List (List ℕ) → Disk
disk_of r sectors = record { uuid = r.uuid; label = r.label; origin = r.origin; read_only = r.read_only; sectors = sectors }

-- the volume shows the disk of the record with the sectors that its image held before it was sealed
pub sealed_disk : {S : Type 0} (g : Ghosts S) (s x : S) (m : Memory) (f : Filling) (sectors now : ℕ) (uid : List ℕ) (r : Record)
    → IsImporting g x m r.uuid → f.volume ≡ Vhd r.uuid → WorksOn g f.volume s x
    → Holds g f.volume (λ h. ReadsAsImage (g.site s).geometry (sectors_in (stored g s) f.volume) h (new_head (g.site s).geometry f.volume now sectors uid None) f.map) x
    → (g.told → HasSectors (layout_now (stored g s) (new_head (g.site s).geometry f.volume now sectors uid None)) sectors (held_now g f s) (reads (held_in (stored g x) f.volume)))
    → g.told → IsDiskOf g x r (disk_of r (map (held_now g f s) (numbers 0 sectors)))
sealed_disk {S} g s x m f sectors now uid r importing named works sealed held told = λ area same.
    let own : Name = Vhd r.uuid in
    let geometry = (g.site x).geometry in
    let n = size_of (g.site x) (tab g x) own in
    let head : Head = new_head geometry own now sectors uid None in
    let volume_is : held_in (stored g x) own ≡ volume_of (g.site x) (tab g x) area own = sym (volume_other (g.site x) (tab g x) (g.area x) area Mgt own importing.orderly.table same (λ e. cc e)) in
    let image_is : ReadsAsImage geometry n (volume_of (g.site x) (tab g x) area own) head f.map =
    subst (λ (h : Held). ReadsAsImage geometry n h head f.map) volume_is (sealed_now g s x f sectors now uid r.uuid named works sealed told) in
    let held_is : HasSectors (layout_in geometry head.footer n) sectors (held_now g f s) (reads (volume_of (g.site x) (tab g x) area own)) =
    subst (λ (h : Held). HasSectors (layout_in geometry head.footer n) sectors (held_now g f s) (reads h)) volume_is (sectors_now g s x f sectors now uid r.uuid named works held told) in
    ap (disk_of r)
    (marked_reads (g.site x) (tab g x) r.uuid importing.volume.row area head f.map importing.volume.there (none_making (g.site x) (tab g x) (known m) importing.orderly) sectors (held_now g f s) image_is refl refl held_is)

-- These sectors are those of the file and then zeros, in whole blocks, by what `read_file` says of what was put.
pub sectors_made : {S : Type 0} (g : Ghosts S) (s : S) (f : Filling) (t : Target) (bytes : List ℕ) (size sectors : ℕ) (puts : List Put) (r : Record)
    → HoldsPuts g f s t puts → (w : IsMadeOf t bytes size puts) → sectors ≡ div_up size t.block * t.block
    → r.label ≡ codes "import" → r.origin ≡ None → r.read_only ≡ false
    → g.told → disk_of r (map (held_now g f s) (numbers 0 sectors)) ≡ imported t.block r.uuid w.sectors
unfolding imported
sectors_made {S} g s f t bytes size sectors puts r puts_are w blocks label origin writable told =
    let some : 0 < t.block = omega (arith, puts_are.blocks.block, f.geometry.in_range.block_least) in
    let whole : sectors ≡ div_up (length w.sectors) t.block * t.block = blocks ∙ ap (λ k. div_up k t.block * t.block) (sym w.long) in
    let few : length w.sectors ≤ sectors = let e = covered (length w.sectors) t.block some in omega (arith, e, whole) in
    let read : map (held_now g f s) (numbers 0 sectors) ≡ w.sectors ++ replicate (div_up (length w.sectors) t.block * t.block - length w.sectors) zeros =
    rest-in (held_now g f s) w.sectors 0 sectors (λ k less. let e : 0 + k ≡ k = omega arith in ap (held_now g f s) e ∙ puts_are.held told k ∙ w.filled_are k) few
    ∙ ap (λ k. w.sectors ++ replicate (k - length w.sectors) zeros) whole in
    let d : List ℕ → Option (List ℕ) → Bool → List (List ℕ) → Disk = λ l o b ss. record { uuid = r.uuid; label = l; origin = o; read_only = b; sectors = ss } in
    ap (d r.label r.origin r.read_only) read
    ∙ ap (λ l. d l r.origin r.read_only (imported t.block r.uuid w.sectors).sectors) label
    ∙ ap (λ o. d (codes "import") o r.read_only (imported t.block r.uuid w.sectors).sectors) origin
    ∙ ap (λ b. d (codes "import") None b (imported t.block r.uuid w.sectors).sectors) writable

-- So the volume shows just the disk that is made of the file, where the image has the whole blocks that the disk's sectors need.
pub made_disk : {S : Type 0} (g : Ghosts S) (s x : S) (m : Memory) (f : Filling) (t : Target) (bytes : List ℕ) (size sectors now : ℕ) (uid : List ℕ) (puts : List Put) (r : Record)
    → IsImporting g x m r.uuid → f.volume ≡ Vhd r.uuid → WorksOn g f.volume s x
    → Holds g f.volume (λ h. ReadsAsImage (g.site s).geometry (sectors_in (stored g s) f.volume) h (new_head (g.site s).geometry f.volume now sectors uid None) f.map) x
    → (g.told → HasSectors (layout_now (stored g s) (new_head (g.site s).geometry f.volume now sectors uid None)) sectors (held_now g f s) (reads (held_in (stored g x) f.volume)))
    → HoldsPuts g f s t puts → (w : IsMadeOf t bytes size puts) → sectors ≡ div_up size t.block * t.block
    → r.label ≡ codes "import" → r.origin ≡ None → r.read_only ≡ false
    → g.told → IsDiskOf g x r (imported t.block r.uuid w.sectors)
made_disk {S} g s x m f t bytes size sectors now uid puts r importing named works sealed held puts_are w blocks label origin writable told =
    subst (IsDiskOf g x r) (sectors_made g s f t bytes size sectors puts r puts_are w blocks label origin writable told) (sealed_disk g s x m f sectors now uid r importing named works sealed held told)
