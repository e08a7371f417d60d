-- What a stop leaves of a guest's write into a visible image, by the image that it leaves there.
use Rattle.std.proofs.Common.{◌≡◌, ◌≢◌, ◌⊎◌, inl, inr, ⊎_elim, ℕ, ◌<◌, nat_lt, Bool, true, false, cond, List, Option, Some, None, refl, sym, ap, ap₂, ◌∙◌, subst, arith, ◌*◌, length}
use Rattle.std.proofs.Math.Path.{fun_ext}
use Rattle.std.proofs.Math.Logic.{∥∥₁_elim}
use Rattle.std.proofs.Props.{props}
use Rattle.std.proofs.lemmas.Bool.{true≢false, le-ltb, cases_lt}
use Rattle.std.proofs.lemmas.Option.{none-some, same_Some}
use Rattle.sm_base.specs.declared.names.Name.{Name}
use Rattle.sm_base.specs.declared.names.Name.TheVariants.{Mgt, Vhd, Relink, Raw, Old, Cbt, Clone, Inflate, Coalesce, Leaf}
use Rattle.sm_disk.specs.Held.{Held}
use Rattle.vg_meta.specs.Tables.{VolumeTable, Row, rows, name_eq}
use Rattle.vg_meta.proofs.NameLaws.{name_eq-true, name_eq-false}
use Rattle.vg_volumes.specs.Sites.{Site, size_of}
use Rattle.vhd_layout.specs.Layouts.{Sectors}
use Rattle.vhd_image.specs.Bodies.{sector_count, parent_name}
use Rattle.vhd_chain.specs.Trees.{row_name, tree_row}
use Rattle.vhd_chain.specs.declared.rows.TreeRow.{TreeRow}
use Rattle.common_laws.specs.Lists.{In}
use Rattle.common_laws.proofs.Lists.{In-map, In-map_at}
use Rattle.sm_machine.specs.Disks.{Disk}
use Rattle.sm_machine.specs.Shapes.{ImageRow}
use Rattle.sm_machine.specs.WellFormed.{IsOperation, is_image_name}
use Rattle.sm_record.specs.Records.{reading}
use Rattle.sm_record.specs.declared.records.Reading.{Reading}
use Rattle.sm_record.specs.declared.records.Reading.TheVariants.{Free}
use Rattle.sm_run.specs.Between.{IsBetween}
use Rattle.sm_standing.specs.Checks.{fault_of}
use Rattle.sm_standing.specs.Contents.{sectors_of, reading_at, record_count, record_of}
use Rattle.sm_standing.specs.Images.{Image, image_of}
use Rattle.sm_standing.specs.Keeping.{IsKept, IsHolding}
use Rattle.sm_standing.specs.Outlines.{Outline, Link, outline, link_of, reading_in}
use Rattle.sm_standing.specs.Readings.{SameReadings}
use Rattle.sm_standing.specs.Standing.{standing_volume, disks}
use Rattle.sm_standing.proofs.RecordLists.{records_same, record_of_first, first_of}
use Rattle.sm_ready.specs.Known.{Known, machine_row, shape_in}
use Rattle.sm_ready.specs.Orderly.{IsOrderly}
use Rattle.sm_ready.specs.Outlined.{link_in}
use Rattle.sm_ready.specs.Ready.{IsReady}
use Rattle.sm_ready.specs.Stores.{Leaving, MayShow, content_in, content_now}
use Rattle.sm_ready.specs.Written.{HasBytes}
use Rattle.sm_ready.proofs.AlikeLaws.{faces_alike}
use Rattle.sm_ready.proofs.KeptLaws.{law_kept, entry_relink, vhd_named}
use Rattle.sm_ready.proofs.LeftLaws.{left_in, ready_places, IsLeft, links_left, law_left_now, mgt_long, new_vhd, vhd_of, none_of_vhd, none_of_raw, size_there}
use Rattle.sm_ready.proofs.Orders.{In-tree_row, named_row, geometry_of, whole}
use Rattle.sm_ready.proofs.ShapeLaws.{mgt_image}
use Rattle.sm_ready.proofs.RowLaws.{tree_found}
use Rattle.sm_ready.proofs.WrittenLaws.{IsWrittenOver, written_already}
use Rattle.sm_standing.proofs.ImageSectors.{image_same, raw_same}

by_fresh : (s : Site) (t : VolumeTable) (m : Known) (a b : Sectors) (u : List ℕ) (r : Row) (f : Bool) → r.fresh ≡ f → IsOrderly s t m → rows t (Vhd u) ≡ Some r
    → ((p : ℕ) → p < size_of s t (Vhd u) → sectors_of (content_in s t b) (Vhd u) p ≡ sectors_of (content_in s t a) (Vhd u) p) → image_of (content_in s t b) (Vhd u) ≡ image_of (content_in s t a) (Vhd u)
by_fresh s t m a b u r true new o is same = new_vhd (content_in s t b) u r is new ∙ sym (new_vhd (content_in s t a) u r is new)
by_fresh s t m a b u r false full o is same =
    vhd_of (content_in s t b) u r is full (whole s t m (Vhd u) o)
    ∙ image_same s.geometry.extent s.geometry.block s.geometry.entries (length r.extents * s.geometry.extent) (sectors_of (content_in s t b) (Vhd u)) (sectors_of (content_in s t a) (Vhd u)) (geometry_of s t m o)
    (λ p below. same p (omega (arith, below, size_there s t (Vhd u) r is)))
    ∙ sym (vhd_of (content_in s t a) u r is full (whole s t m (Vhd u) o))

-- contents of one table whose volume has the same sectors have the same image there
pub image_by_sectors : (s : Site) (t : VolumeTable) (m : Known) (a b : Sectors) (n : Name) (x : Option Row) → IsOrderly s t m → rows t n ≡ x
    → ((p : ℕ) → p < size_of s t n → sectors_of (content_in s t b) n p ≡ sectors_of (content_in s t a) n p) → image_of (content_in s t b) n ≡ image_of (content_in s t a) n
unfolding image_of
image_by_sectors s t m a b (Vhd u) None o is same = none_of_vhd (content_in s t b) u is ∙ sym (none_of_vhd (content_in s t a) u is)
image_by_sectors s t m a b (Vhd u) (Some r) o is same = by_fresh s t m a b u r r.fresh refl o is same
image_by_sectors s t m a b (Raw u) None o is same = none_of_raw (content_in s t b) u is ∙ sym (none_of_raw (content_in s t a) u is)
image_by_sectors s t m a b (Raw u) (Some r) o is same =
    raw_same (content_in s t a) (content_in s t b) u u r r (record { extent = refl; block = refl; entries = refl; before = is; after = is; extents = refl; fresh = refl; sectors = same })
image_by_sectors s t m a b Mgt x o is same = refl
image_by_sectors s t m a b (Old u) x o is same = refl
image_by_sectors s t m a b (Cbt u) x o is same = refl
image_by_sectors s t m a b (Clone d c w) x o is same = refl
image_by_sectors s t m a b (Inflate u k) x o is same = refl
image_by_sectors s t m a b (Coalesce c p) x o is same = refl
image_by_sectors s t m a b (Relink c p) x o is same = refl
image_by_sectors s t m a b (Leaf l p) x o is same = refl

-- a visible image is nobody's parent
pub visible_apart : (s : Site) (t : VolumeTable) (m : Known) (r q : TreeRow) → IsOrderly s t m → In r m.rows → r.hidden ≡ false → In q m.rows → (machine_row q).parent ≡ Some (row_name r) → ⊥
unfolding shape_in
visible_apart s t m r q o i shown j parent = ∥∥₁_elim o.well_formed (hlevel props) (λ w.
    let h = w.parents (machine_row q) (row_name r) (In-map_at machine_row m.rows q j) parent in
    let y = In-map machine_row m.rows h.parent h.there in
    let named : row_name y.0 ≡ row_name r = sym (ap (λ (z : ImageRow). z.name) y.2) ∙ h.is_named in
    let same : y.0 ≡ r = same_Some y.0 r (sym (tree_found m.rows y.0 w.one_image y.1) ∙ ap (tree_row m.rows) named ∙ tree_found m.rows r w.one_image i) in
    true≢false (sym h.is_hidden ∙ ap (λ (z : ImageRow). z.hidden) y.2 ∙ ap (λ (z : TreeRow). z.hidden) same ∙ shown))

-- nor is it the child of a relink, which is hidden
pub relink_apart : (s : Site) (t : VolumeTable) (m : Known) (r : TreeRow) → IsOrderly s t m → In r m.rows → r.hidden ≡ false → (child parent : List ℕ) (q : Row) → rows t (Relink child parent) ≡ Some q → Vhd child ≢ row_name r
unfolding shape_in
relink_apart s t m r o i shown child parent q entry same = ∥∥₁_elim o.well_formed (hlevel props) (λ w.
    let e = entry_relink s t m child parent q o entry in
    let c = subst (IsOperation (shape_in s t m)) e.is w.operation in
    let y = In-map machine_row m.rows c.child c.there in
    let named : row_name y.0 ≡ row_name r = sym (ap (λ (z : ImageRow). z.name) y.2) ∙ c.is_named ∙ vhd_named e.v c.vhd ∙ ap Vhd e.uuid ∙ same in
    let one : y.0 ≡ r = same_Some y.0 r (sym (tree_found m.rows y.0 w.one_image y.1) ∙ ap (tree_row m.rows) named ∙ tree_found m.rows r w.one_image i) in
    true≢false (sym c.is_shown ∙ ap (λ (z : ImageRow). z.hidden) y.2 ∙ ap (λ (z : TreeRow). z.hidden) one ∙ shown))

pub name_or_not : (n x : Name) → (n ≡ x) ⊎ (n ≢ x)
name_or_not n x = by (name_eq n x) refl
  where
    by : (b : Bool) → name_eq n x ≡ b → (n ≡ x) ⊎ (n ≢ x)
    by true e = inl (name_eq-true n x e)
    by false e = inr (name_eq-false n x e)

abbrev pub link_at : ℕ → Option Name → Link
link_at size parent = record { size = size; parent = parent }

-- an image of the area that is one that a stop might have left before, but in the volume of an image, x
module _ (s : Site) (t : VolumeTable) (m : Known) (old : Held) (x : Name) (image earlier : Sectors) (r : TreeRow) (o : IsOrderly s t m) (ready : IsReady s t old m) (there : In r m.rows) (named : row_name r ≡ x)
    (might : IsLeft s old earlier) (others : (n : Name) → n ≢ x → (p : ℕ) → p < size_of s t n → sectors_of (content_in s t image) n p ≡ sectors_of (content_in s t earlier) n p) where
  same_readings : SameReadings (content_in s t earlier) (content_in s t image)
  same_readings k below = ap reading (others Mgt record_apart k (omega (arith, below, mgt_long s t m o)))
    where
      record_apart : Mgt ≢ x
      record_apart same = true≢false (sym (named_row s t m r o there) ∙ ap is_image_name (named ∙ sym same) ∙ mgt_image)

  pub recorded_beside : (v : List ℕ) → record_of (content_in s t image) v ≡ record_of (content_in s t earlier) v
  recorded_beside v = record_of_first (content_in s t image) v ∙ ap first_of (records_same (content_in s t earlier) (content_in s t image) v same_readings) ∙ sym (record_of_first (content_in s t earlier) v)

  pub reading_beside : (k : ℕ) → reading_in (content_in s t image) k ≡ reading_in (content_in s t earlier) k
  reading_beside k = ⊎_elim
      (λ below. ap (λ y. cond (nat_lt k record_count) y Free) (same_readings k below))
      (λ past. ap (λ b. cond b (reading_at (content_in s t image) k) Free) (le-ltb k record_count past) ∙ sym (ap (λ b. cond b (reading_at (content_in s t earlier) k) Free) (le-ltb k record_count past))) (cases_lt k record_count)

  pub image_beside : (n : Name) → n ≢ x → image_of (content_in s t image) n ≡ image_of (content_in s t earlier) n
  image_beside n other = image_by_sectors s t m earlier image n (rows t n) o refl (others n other)

  -- the row of an image that is there
  pub row_beside : (n : Name) (i : Image) → image_of (content_in s t earlier) n ≡ Some i → (q : TreeRow) × (tree_row m.rows n ≡ Some q) × (link_at i.size i.parent ≡ link_at (sector_count q.image) (parent_name q.image))
  row_beside n i is = by (tree_row m.rows n) refl (sym (ap link_of is) ∙ links_left s t old m earlier n o ready.firm (left_in s t m old earlier o might))
    where
      by : (y : Option TreeRow) → tree_row m.rows n ≡ y → link_of (Some i) ≡ link_in y → (q : TreeRow) × (tree_row m.rows n ≡ Some q) × (link_at i.size i.parent ≡ link_at (sector_count q.image) (parent_name q.image))
      by None e l = absurd (none-some (link_at i.size i.parent) (sym l))
      by (Some q) e l = (q, e, same_Some (link_at i.size i.parent) (link_at (sector_count q.image) (parent_name q.image)) l)

  -- a visible image is nobody's parent in it
  pub childless : r.hidden ≡ false → (n : Name) (i : Image) → image_of (content_in s t earlier) n ≡ Some i → i.parent ≢ Some x
  childless shown n i is parent =
      let q = row_beside n i is in
      visible_apart s t m r q.0 o there shown (In-tree_row m.rows n q.0 q.1).0 (sym (ap (λ (z : Link). z.parent) q.2) ∙ parent ∙ ap Some (sym named))

-- a stop leaves this image of the area while a guest writes into x, a visible image: beside x it is one that a stop might
-- have left before, and the image in x follows the one in that
pub record IsStopped (s : Site) (t : VolumeTable) (m : Known) (old : Held) (x : Name) (W : ℕ → List ℕ → Type 0) (image : Sectors) : Type 0 where
  pub row : TreeRow
  pub there : In row m.rows
  pub shown : row.hidden ≡ false
  pub named : row_name row ≡ x
  pub earlier : Sectors
  pub might : IsLeft s old earlier
  pub others : (n : Name) → n ≢ x → (p : ℕ) → p < size_of s t n → sectors_of (content_in s t image) n p ≡ sectors_of (content_in s t earlier) n p
  pub was : Image
  pub now : Image
  pub before : image_of (content_in s t earlier) x ≡ Some was
  pub after : image_of (content_in s t image) x ≡ Some now
  pub size : now.size ≡ was.size
  pub parent : now.parent ≡ was.parent
  pub own : (k : ℕ) → (now.own k ≡ was.own k) ⊎ ((bytes : List ℕ) × W k bytes × (now.own k ≡ Some bytes))
  pub holding : (v : List ℕ) → Vhd v ≡ x → IsHolding s.geometry.block now

module _ (s : Site) (t : VolumeTable) (m : Known) (old : Held) (x : Name) (u : List ℕ) (W : ℕ → List ℕ → Type 0) (image : Sectors) (o : IsOrderly s t m) (ready : IsReady s t old m) (h : IsStopped s t m old x W image)
    (owner : (v : List ℕ) → standing_volume t v ≡ Some x → v ≡ u) where
  no_child : (n : Name) (i : Image) → image_of (content_in s t h.earlier) n ≡ Some i → i.parent ≢ Some x
  no_child = childless s t m old x image h.earlier h.row o ready h.there h.named h.might h.others h.shown

  recorded : (v : List ℕ) → record_of (content_in s t image) v ≡ record_of (content_in s t h.earlier) v
  recorded = recorded_beside s t m old x image h.earlier h.row o ready h.there h.named h.might h.others

  others_same : (n : Name) → n ≢ x → image_of (content_in s t image) n ≡ image_of (content_in s t h.earlier) n
  others_same = image_beside s t m old x image h.earlier h.row o ready h.there h.named h.might h.others

  written_over : IsWrittenOver (content_in s t h.earlier) (content_in s t image) x W
  written_over = record {
    table = refl;
    recorded = recorded;
    others = others_same;
    was = h.was;
    now = h.now;
    before = h.before;
    after = h.after;
    size = h.size;
    parent = h.parent;
    own = h.own;
    no_child = no_child;
  }

  link_same : (n : Name) → link_of (image_of (content_in s t image) n) ≡ link_of (image_of (content_in s t h.earlier) n)
  link_same n = ⊎_elim
      (λ same. ap (λ y. link_of (image_of (content_in s t image) y)) same ∙ ap link_of h.after
      ∙ ap₂ (λ (k : ℕ) (p : Option Name). let l : Link = record { size = k; parent = p } in Some l) h.size h.parent
      ∙ sym (ap (λ y. link_of (image_of (content_in s t h.earlier) y)) same ∙ ap link_of h.before))
      (λ other. ap link_of (others_same n other)) (name_or_not n x)

  outline_same : outline (content_in s t image) ≡ outline (content_in s t h.earlier)
  outline_same = ap₂ (λ (ls : Name → Option Link) (rs : ℕ → Reading). let l : Outline = record { extent = s.geometry.extent; block = s.geometry.block; entries = s.geometry.entries; table = t; links = ls; readings = rs } in l)
      (fun_ext link_same) (fun_ext (reading_beside s t m old x image h.earlier h.row o ready h.there h.named h.might h.others))

  -- the disks are those from after it, but sectors that a stop might have left before
  pub stop_between : (ds : List Disk) (before : Leaving) → HasBytes (disks (content_now s t old)) ds u W → ((other : Sectors) → IsLeft s old other → before t other)
      → IsBetween (MayShow s before) (disks (content_now s t old)) ds (disks (content_in s t image))
  stop_between ds before has might =
      let alike = law_left_now s t old m h.earlier o ready h.might in
      inr (written_already (content_in s t h.earlier) (content_in s t image) x u W (disks (content_now s t old)) ds (MayShow s before) written_over owner has
      (faces_alike (content_in s t h.earlier) (content_in s t image) outline_same recorded ∙ faces_alike (content_now s t old) (content_in s t h.earlier) alike.outline alike.records)
      (record { table = t; image = h.earlier; left = might h.earlier h.might; shown = refl }) (λ n. name_or_not n x))

  not_child : (child parent : List ℕ) (q : Row) → rows t (Relink child parent) ≡ Some q → Vhd child ≢ x
  not_child child parent q entry same = relink_apart s t m h.row o h.there h.shown child parent q entry (same ∙ sym h.named)

  -- and what is left is kept
  pub stop_kept : IsKept (content_in s t image)
  stop_kept =
      let kept = law_kept s t old m h.earlier o ready.firm (left_in s t m old h.earlier o h.might) (ready_places s t old m h.earlier o ready h.might) in
      record {
        sound = ap fault_of outline_same ∙ kept.sound;
        holding = λ v i is. ⊎_elim
            (λ same. subst (IsHolding s.geometry.block) (same_Some _ i (sym h.after ∙ ap (image_of (content_in s t image)) (sym same) ∙ is)) (h.holding v same))
            (λ other. kept.holding v i (sym (others_same (Vhd v) other) ∙ is)) (name_or_not (Vhd v) x);
        linking = λ child parent q v p n entry child_is linked under.
            let child_was = sym (others_same (Vhd child) (not_child child parent q entry)) ∙ child_is in
            kept.linking child parent q v p n entry child_was linked (sym (others_same n (λ same. no_child (Vhd child) v child_was (linked ∙ ap Some same))) ∙ under);
      }
