-- Memory in which the image of one row, shown or hidden, has another size.
use Rattle.std.proofs.Common.{◌≡◌, ◌≢◌, ◌⊎◌, ⊎_elim, ℕ, ◌*◌, ◌≤◌, not, ◌&&◌, Bool, true, false, List, length, Option, Result, Ok, Err, Some, refl, sym, ap, ap₂, ◌∙◌, subst, arith}
use Rattle.std.proofs.lemmas.List.{length-map}
use Rattle.std.specs.Prelude.{OnErr, OnOk}
use Rattle.std.specs.Str.{bytes_eq}
use Rattle.common_laws.specs.Lists.{In, change, when}
use Rattle.sm_base.specs.declared.names.Name.{Name}
use Rattle.vg_meta.specs.Tables.{VolumeTable}
use Rattle.vg_volumes.specs.Sites.{Site}
use Rattle.vhd_image.specs.Bodies.{IsVhd, StandsIn, parent_name, sector_count, volume_name}
use Rattle.vhd_image.specs.Changes.{resized}
use Rattle.vhd_image.specs.Made.{IsDiskSize}
use Rattle.vhd_image.specs.declared.images.Body.{Body}
use Rattle.vhd_image.specs.declared.images.Body.TheVariants as body
use Rattle.vhd_image.proofs.ChangeLaws.{resize-stands}
use Rattle.vhd_chain.specs.Reading.{slots_of}
use Rattle.vhd_chain.specs.Trees.{row_name, tree_row, with_replaced, with_row, without}
use Rattle.vhd_chain.specs.declared.rows.TreeRow.{TreeRow}
use Rattle.vhd_chain.proofs.ByName.{tree_row-replaced_other, tree_row-replaced_same}
use Rattle.sm_machine.specs.Laws.{IsSeenAlike}
use Rattle.sm_machine.specs.Shapes.{DiskRecord, ImageRow, Shape, image_uuid, is_image_of, refs}
use Rattle.sm_machine.specs.WellFormed.{IsWellFormed}
use Rattle.sm_machine.proofs.Changes.{when-key}
use Rattle.sm_machine.proofs.Uses.{changed_uses}
use Rattle.sm_ready.specs.Frames.{IsBesideTree}
use Rattle.sm_ready.specs.Known.{Known, is_shown, machine_row, records_in, shape_in}
use Rattle.sm_ready.specs.Orderly.{IsOrderly, IsRoomyIn}
use Rattle.sm_ready.specs.Outlined.{link_in}
use Rattle.sm_ready.specs.Ready.{IsTidy}
use Rattle.sm_ready.specs.declared.memory.Memory.{Memory}
use Rattle.sm_ready.proofs.Orders.{HasHead, geometry_of}
use Rattle.sm_ready.proofs.PutBackLaws.{any_replaced, face_replaced, map_replaced, of_rows, put_back}
use Rattle.sm_ready.proofs.ShapeLaws.{shown_same}
use Rattle.sm_ready.proofs.StopLaws.{link_at}
use Rattle.sm_ready.proofs.TruthLaws.{row_found}

-- the row with this image
abbrev pub with_image : Body → TreeRow → TreeRow
with_image b r = record r { image = b }

-- the row with an image of this size
abbrev pub sized : ℕ → TreeRow → TreeRow
sized sectors r = record r { image = resized sectors r.image }

pub sized_name : (sectors : ℕ) (b : Body) → volume_name (resized sectors b) ≡ volume_name b
sized_name sectors (body.Raw n k) = refl
sized_name sectors (body.Vhd head m) = refl

pub sized_parts : (sectors : ℕ) (b : Body) → IsVhd b → (sector_count (resized sectors b) ≡ sectors) × (parent_name (resized sectors b) ≡ parent_name b) × (slots_of (resized sectors b) ≡ slots_of b)
sized_parts sectors (body.Raw n k) vhd = absurd vhd
sized_parts sectors (body.Vhd head m) vhd = (omega arith, refl, refl)

-- the machine's image of a row that gets this size
pub image_sized : (sectors : ℕ) (r : TreeRow) → IsVhd r.image → machine_row (sized sectors r) ≡ record (machine_row r) { size = sectors }
image_sized sectors r vhd =
    let is = sized_parts sectors r.image vhd in
    ap₂ (λ (n : Name) (p : Option Name). let i : ImageRow = record { name = n; hidden = r.hidden; parent = p; size = sector_count (sized sectors r).image; slots = slots_of (sized sectors r).image; extents = r.extents } in i) (sized_name sectors r.image) is.1
    ∙ ap₂ (λ (k : ℕ) (l : List (Option ℕ)). let i : ImageRow = record (machine_row r) { size = k; slots = l } in i) is.0 is.2

-- the name stays, whether the call that sets the size succeeded or failed
pub same_name : {T E : Type 0} (result : Result T E) (k : ℕ) (old new : Body) → OnOk result (new ≡ resized k old) → OnErr result (new ≡ old) → volume_name new ≡ volume_name old
same_name (Ok x) k old new ok err = ap volume_name ok ∙ sized_name k old
same_name (Err x) k old new ok err = ap volume_name err

-- all but the row is as it was
pub beside_resized : (old new : Memory) (q : TreeRow) → new.tree.rows ≡ with_replaced q old.tree.rows → new.tree.spare ≡ old.tree.spare → new.records ≡ old.records → new.logs ≡ old.logs → new.attached ≡ old.attached → new.operation ≡ old.operation → IsBesideTree old new
beside_resized old new q rows spare records logs attached operation =
    record { images = ap length rows ∙ length-map old.tree.rows _; spare = spare; records = records; logs = logs; attached = attached; operation = operation }

module _ (s : Site) (t : VolumeTable) (m : Known) (o : IsOrderly s t m) (own : TreeRow) (there : In own m.rows) where
  -- the row is back in its place
  pub rows_back : (new : Body) → volume_name new ≡ row_name own → {name : Name} {mid now : List TreeRow} → name ≡ row_name own → mid ≡ without name m.rows → now ≡ with_row (with_image new own) mid → now ≡ with_replaced (with_image new own) m.rows
  rows_back new same named taken added = added ∙ ap (with_row (with_image new own)) (taken ∙ ap (λ n. without n m.rows) named) ∙ put_back s t m o own (with_image new own) there same

  module _ (size : ℕ) where
    abbrev σ : Shape
    σ = shape_in s t m

    abbrev with_size : ImageRow → ImageRow
    with_size i = record i { size = size }

    -- a row of it is one from before of another name, or the new one
    pub rows_sized : (x : TreeRow) → In x (with_replaced (sized size own) m.rows) → (In x m.rows × (row_name x ≢ row_name own)) ⊎ (x ≡ sized size own)
    rows_sized = of_rows s t m o own (sized size own) there (sized_name size own.image)

    pub other_sized : (n : Name) → n ≢ row_name own → tree_row (with_replaced (sized size own) m.rows) n ≡ tree_row m.rows n
    other_sized n other = tree_row-replaced_other m.rows (sized size own) n (λ same. other (sym same ∙ sized_name size own.image))

    pub link_sized : IsVhd own.image → link_in (tree_row (with_replaced (sized size own) m.rows) (row_name own)) ≡ Some (link_at size (parent_name own.image))
    link_sized vhd =
        let two = sized_parts size own.image vhd in
        ap link_in (ap (tree_row (with_replaced (sized size own) m.rows)) (sym (sized_name size own.image))
        ∙ tree_row-replaced_same m.rows (sized size own) own (ap (tree_row m.rows) (sized_name size own.image) ∙ row_found s t m o own there))
        ∙ ap₂ (λ (k : ℕ) (p : Option Name). Some (link_at k p)) two.0 two.1

    pub shown_sized : (v : List ℕ) → is_shown (with_replaced (sized size own) m.rows) v ≡ is_shown m.rows v
    shown_sized v = any_replaced s t m o own (sized size own) there (sized_name size own.image) (λ x. is_image_of v (machine_row x)) (ap (λ n. not own.hidden && bytes_eq (image_uuid n) v) (sized_name size own.image))

    -- no record is stray
    pub tidy_sized : IsTidy t m → IsTidy t (record m { rows = with_replaced (sized size own) m.rows })
    tidy_sized tidy = record { none_new = tidy.none_new; no_stray = λ r i. shown_sized r.uuid ∙ tidy.no_stray r i }

    -- the image stands
    pub stands_sized : (h : HasHead own) → IsDiskSize s.geometry size → sector_count own.image ≤ size → StandsIn s.geometry (own.extents * s.geometry.extent) (resized size own.image)
    stands_sized h proper more = subst (λ b. StandsIn s.geometry (own.extents * s.geometry.extent) (resized size b)) (sym h.is)
        (resize-stands s.geometry (own.extents * s.geometry.extent) h.head h.slots size (geometry_of s t m o) proper (subst (λ b. sector_count b ≤ size) h.is more)
        (subst (StandsIn s.geometry (own.extents * s.geometry.extent)) h.is (o.stands own there)))

    -- the shape, by a test of images that holds of the row's alone
    pub shape_sized : (test : ImageRow → Bool) → IsVhd own.image → test (machine_row own) ≡ true → ((p : TreeRow) → In p m.rows → row_name p ≢ row_name own → test (machine_row p) ≡ false)
        → shape_in s t (record m { rows = with_replaced (sized size own) m.rows }) ≡ record (shape_in s t m) { images = change test (λ i. record i { size = size }) (shape_in s t m).images }
    unfolding shape_in
    shape_sized test vhd mine others = ap₂ (λ (rs : List DiskRecord) (xs : List ImageRow). record σ { records = rs; images = xs }) (ap (λ ps. records_in ps) (shown_same (with_replaced (sized size own) m.rows) m.rows m.places shown_sized))
        (map_replaced s t m o own (sized size own) there (sized_name size own.image) machine_row (λ y. when (test y) with_size y)
        (image_sized size own vhd ∙ sym (ap (λ b. when b with_size (machine_row own)) mine)) (λ p i other. sym (ap (λ b. when b with_size (machine_row p)) (others p i other))))

    seen_alike : (test : ImageRow → Bool) → IsSeenAlike (λ y. when (test y) with_size y)
    seen_alike test = record {
      name = λ y. when-key (λ (i : ImageRow). i.name) with_size (λ i. refl) (test y) y;
      hidden = λ y. when-key (λ (i : ImageRow). i.hidden) with_size (λ i. refl) (test y) y;
      parent = λ y. when-key (λ (i : ImageRow). i.parent) with_size (λ i. refl) (test y) y;
    }

    -- memory is orderly
    pub orderly_sized : (test : ImageRow → Bool) → shape_in s t (record m { rows = with_replaced (sized size own) m.rows }) ≡ record (shape_in s t m) { images = change test (λ i. record i { size = size }) (shape_in s t m).images }
        → StandsIn s.geometry (own.extents * s.geometry.extent) (resized size own.image) → ∥ IsWellFormed (shape_in s t (record m { rows = with_replaced (sized size own) m.rows })) ∥₁ → IsRoomyIn (shape_in s t (record m { rows = with_replaced (sized size own) m.rows })) m.op
        → IsOrderly s t (record m { rows = with_replaced (sized size own) m.rows })
    unfolding shape_in
    orderly_sized test shape stands well roomy = record {
      table = o.table;
      few_extents = o.few_extents;
      record_volume = o.record_volume;
      few = o.few;
      new_named = o.new_named;
      logs = o.logs;
      few_logs = o.few_logs;
      logs_in_order = o.logs_in_order;
      log_room = o.log_room;
      images = λ n is. o.images n is ∙ sym (face_replaced s t m o own (sized size own) there (sized_name size own.image) refl refl n);
      places = o.places;
      entries = o.entries;
      stands = λ x i. ⊎_elim (λ old. o.stands x old.0) (λ new. subst (λ (y : TreeRow). StandsIn s.geometry (y.extents * s.geometry.extent) y.image) (sym new) stands) (rows_sized x i);
      well_formed = well;
      roomy = roomy;
      counts = λ n. o.counts n ∙ sym (ap (refs n) shape ∙ changed_uses σ (λ y. when (test y) with_size y) n (seen_alike test));
    }
