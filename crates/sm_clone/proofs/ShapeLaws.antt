-- What is in memory once a fork is made: its shape is the machine's after the command, and no record is a stray.
use Rattle.std.proofs.Common.{◌≡◌, ◌≢◌, ⊎_elim, ◌⊎◌, inl, inr, zero, suc, ℕ, ◌+◌, ◌*◌, ◌/◌, Bool, true, false, cond, not, ◌&&◌, ◌||◌, bytes_eq, List, [], ◌∷◌, map, replicate, get_or, position, is_none, Option, Some, None, refl, sym, ap, ap₂, ◌∙◌, subst, arith}
use Rattle.std.proofs.Math.Logic.{∥∥₁_elim}
use Rattle.std.proofs.Math.ListN.{set}
use Rattle.std.proofs.Props.{props}
use Rattle.std.specs.Option.{option_or}
use Rattle.std.proofs.lemmas.Bool.{true≢false}
use Rattle.std.proofs.lemmas.List.Quantifiers.{position-Some}
use Rattle.std.proofs.lemmas.Option.{same_Some}
use Rattle.std.proofs.lemmas.Slice.Eq.{bytes_eq-Decides}
use Rattle.common_laws.specs.Lists.{In}
use Rattle.common_laws.proofs.Bytes.{bytes_eq-refl}
use Rattle.common_laws.proofs.Lists.{find_none, list_any-find}
use Rattle.sm_base.specs.Names.{base_uuid}
use Rattle.sm_base.specs.declared.names.Name.{Name}
use Rattle.sm_base.specs.declared.names.Name.TheVariants as name
use Rattle.sm_base.specs.declared.operations.Mode.{Mode}
use Rattle.vg_meta.specs.Tables.{VolumeTable, name_eq}
use Rattle.vg_meta.proofs.NameLaws.{name_eq-false, name_eq-true}
use Rattle.vg_volumes.specs.Sites.{Site}
use Rattle.vhd_image.specs.Bodies.{in_volume, sector_count, volume_name}
use Rattle.vhd_image.specs.declared.images.Body.{Body}
use Rattle.vhd_image.specs.declared.images.Body.TheVariants.{Raw, Vhd}
use Rattle.vhd_chain.specs.declared.rows.TreeRow.{TreeRow}
use Rattle.vhd_chain.specs.Trees.{has_name, row_name, tree_row, with_row, without}
use Rattle.sm_machine.specs.Commits.{commits, is_given_up, one_if}
use Rattle.sm_machine.specs.Refusals.{wanted}
use Rattle.sm_machine.specs.Shapes.{Attachment, DiskRecord, ImageRow, Shape, attached_as, disk_image, disk_record, image_uuid, is_image_of, is_rw, renamed, risen, same_image, thin_in, with_image, without_image}
use Rattle.sm_machine.specs.Steps.{child_image, fork_images, fork_records, fork_shape, forked_images, given_up, shape_after, shape_next}
use Rattle.sm_machine.specs.WellFormed.{is_image_name}
use Rattle.sm_machine.proofs.ImageNames.{other_image, same_image-refl}
use Rattle.sm_record.specs.declared.records.Record.{Record}
use Rattle.sm_refs.specs.Attached.{Attached}
use Rattle.sm_mgt.specs.Places.{is_of, place_for, record_in}
use Rattle.sm_mgt.proofs.PlaceLaws.{place_below}
use Rattle.sm_ready.specs.Known.{Known, is_shown, machine_row, records_in, shape_in, shown_places}
use Rattle.sm_ready.specs.Orderly.{IsOrderly}
use Rattle.sm_ready.specs.Ready.{HasNoStray, IsTidy}
use Rattle.sm_ready.proofs.CauseLaws.{row_without}
use Rattle.sm_ready.proofs.LastLaws.{images_with, records_more, shown_with, strict}
use Rattle.sm_ready.proofs.LookLaws.{record_is}
use Rattle.sm_ready.proofs.Orders.{named_row}
use Rattle.sm_ready.proofs.OwnLaws.{IsOwn, own_image}
use Rattle.sm_ready.proofs.ShapeLaws.{any_at, any_filter, at_place}
use Rattle.sm_clone.specs.Forking.{Passes, base_body, base_name, base_row, child_row, fork_of, forked_rows, forking, own_uid, sectors_of, twin_record, twin_uid}
use Rattle.sm_clone.specs.declared.forks.Fork.{Fork}
use Rattle.sm_clone.proofs.PassedLaws.{eight, forked_after, found, new, own, own_is, unspent}

-- ---- an image in a volume of another name

pub named_in : (to : Name) (b : Body) → volume_name (in_volume to b) ≡ to
named_in to (Raw volume sectors) = refl
named_in to (Vhd head m) = refl

pub sized_in : (to : Name) (b : Body) → sector_count (in_volume to b) ≡ sector_count b
sized_in to (Raw volume sectors) = refl
sized_in to (Vhd head m) = refl

base_machine : (f : Fork) (b : Body) (h : Bool) (e : ℕ) → machine_row (record { image = base_body f b; hidden = true; extents = e })
    ≡ record (machine_row (record { image = b; hidden = h; extents = e })) { name = base_name f; hidden = true }
base_machine f (Raw volume sectors) h e = refl
base_machine f (Vhd head m) h e = refl

child_machine : (s : Site) (t : VolumeTable) (m : Known) (f : Fork) (u : List ℕ) (now : ℕ) (uid : List ℕ) (b : Body) (e : ℕ)
    → machine_row (child_row s.geometry u now uid (base_body f b) e) ≡ child_image (shape_in s t m) u (base_name f) (sector_count b) e
unfolding shape_in
child_machine s t m f u now uid b e =
    ap₂ (λ (p : Name) (k : ℕ). let i : ImageRow = record { name = name.Vhd u; hidden = false; parent = Some p; size = k; slots = replicate s.geometry.entries None; extents = e } in i) (named_in (base_name f) b)
    (back (sector_count (base_body f b)) ∙ sized_in (base_name f) b)
  where
    back : (k : ℕ) → 512 * k / 512 ≡ k
    back k = omega arith

-- ---- the images

pub same_test : (n x : Name) → is_image_name x ≡ true → name_eq x n ≡ same_image x n
same_test n x image = by (name_eq x n) refl
  where
    by : (b : Bool) → name_eq x n ≡ b → b ≡ same_image x n
    by true e = sym (subst (λ y. same_image x y ≡ true) (name_eq-true x n e) (same_image-refl x image))
    by false e = sym (other_image x n (name_eq-false x n e))

without_as : (n : Name) (rows : List TreeRow) → ((r : TreeRow) → In r rows → is_image_name (row_name r) ≡ true) → map machine_row (without n rows) ≡ without_image n (map machine_row rows)
without_as n [] images = refl
without_as n (r ∷ rows) images =
    ap (λ b. map machine_row (cond (not b) (r ∷ without n rows) (without n rows))) (same_test n (row_name r) (images r (inl refl)))
    ∙ by (same_image (row_name r) n) (without_as n rows (λ q i. images q (inr i)))
  where
    by : (b : Bool) → map machine_row (without n rows) ≡ without_image n (map machine_row rows)
        → map machine_row (cond (not b) (r ∷ without n rows) (without n rows)) ≡ cond (not b) (machine_row r ∷ without_image n (map machine_row rows)) (without_image n (map machine_row rows))
    by true rest = rest
    by false rest = ap (λ is. machine_row r ∷ is) rest

in_set : (ps : List (Option Record)) (k : ℕ) (y x : Option Record) → In x (set ps k y) → (x ≡ y) ⊎ In x ps
in_set [] k y x i = absurd i
in_set (p ∷ ps) zero y x (inl e) = inl e
in_set (p ∷ ps) zero y x (inr i) = inr (inr i)
in_set (p ∷ ps) (suc k) y x (inl e) = inr (inl e)
in_set (p ∷ ps) (suc k) y x (inr i) = ⊎_elim (λ e. inl e) (λ j. inr (inr j)) (in_set ps k y x i)

-- ---- once it is made

module _ (s : Site) (t : VolumeTable) (m : Known) (u twin : List ℕ) (read_only : Bool) (o : IsOrderly s t m) (tidy : IsTidy t m) (passes : Passes s t m u twin read_only) where
  abbrev σ : Shape
  σ = shape_in s t m

  -- the shape by the number that names the base
  abbrev pub by_number : Shape
  by_number = record σ { sequence = passes.number }

  abbrev f : Fork
  f = fork_of passes.number m.rows u twin

  abbrev its : IsOwn m u
  its = own s t m u twin read_only o tidy passes

  abbrev row : TreeRow
  row = its.row

  abbrev pub rows_then : ℕ → ℕ → ℕ → List TreeRow
  rows_then now a b = forked_rows s t f now a b (tree_row m.rows f.own) m.rows

  abbrev pub three : ℕ → ℕ → ℕ → List TreeRow
  three now a b = with_row (child_row s.geometry twin now (twin_uid t) (base_body f row.image) b) (with_row (child_row s.geometry u now (own_uid t) (base_body f row.image) a) (with_row (base_row f row) (without f.own m.rows)))

  pub rows_are : (now a b : ℕ) → rows_then now a b ≡ three now a b
  rows_are now a b = ap (λ x. forked_rows s t f now a b x m.rows) (found s t m u twin read_only o tidy passes)

  is_image_row : (r : TreeRow) → In r m.rows → is_image_name (row_name r) ≡ true
  is_image_row r i = named_row s t m r o i

  pub base_is : base_name f ≡ renamed (row_name row) (base_uuid passes.number)
  base_is = ap (λ n. renamed n (base_uuid passes.number)) (own_is s t m u twin read_only o tidy passes)

  images_three : (now a b : ℕ) → a ≡ wanted σ (is_rw (attached_as u σ)) (sector_count row.image) → b ≡ thin_in σ 0 → map machine_row (three now a b) ≡ forked_images by_number u twin (machine_row row)
  unfolding shape_in
  images_three now a b many more =
      images_with (child_row s.geometry twin now (twin_uid t) (base_body f row.image) b) (with_row (child_row s.geometry u now (own_uid t) (base_body f row.image) a) (with_row (base_row f row) (without f.own m.rows)))
      ∙ ap₂ with_image (child_machine s t m f twin now (twin_uid t) row.image b ∙ ap₂ (λ p k. child_image σ twin p (sector_count row.image) k) base_is more)
      (images_with (child_row s.geometry u now (own_uid t) (base_body f row.image) a) (with_row (base_row f row) (without f.own m.rows))
      ∙ ap₂ with_image (child_machine s t m f u now (own_uid t) row.image a ∙ ap₂ (λ p k. child_image σ u p (sector_count row.image) k) base_is many)
      (images_with (base_row f row) (without f.own m.rows)
      ∙ ap₂ with_image (base_machine f row.image row.hidden row.extents ∙ ap (λ p. let i : ImageRow = record (machine_row row) { name = p; hidden = true } in i) base_is)
      (without_as f.own m.rows is_image_row ∙ ap (λ n. without_image n (map machine_row m.rows)) (own_is s t m u twin read_only o tidy passes))))

  -- ---- the records

  -- of no image has the twin's UUID
  pub unseen : is_shown m.rows twin ≡ false
  unseen = ∥∥₁_elim o.well_formed (hlevel props) (λ w.
      list_any-find (λ q. is_image_of twin (machine_row q)) m.rows (find_none (λ q. is_image_of twin (machine_row q)) m.rows
      (λ q i. ap (λ x. not q.hidden && x) (row_without s t m twin o w (new s t m u twin read_only o tidy passes).absent q i) ∙ and_false (not q.hidden))))
    where
      and_false : (x : Bool) → (x && false) ≡ false
      and_false true = refl
      and_false false = refl

  no_twin : (q : Record) → In (Some q) m.places → q.uuid ≢ twin
  no_twin q i is = true≢false (sym (tidy.no_stray q i) ∙ ap (is_shown m.rows) is ∙ unseen)

  no_record : (j : ℕ) → is_of twin (get_or m.places j None) ≡ false
  no_record j = of (get_or m.places j None) refl
    where
      by : (q : Record) → In (Some q) m.places → (x : Bool) → bytes_eq q.uuid twin ≡ x → x ≡ false
      by q i false e = refl
      by q i true e = absurd (no_twin q i ((bytes_eq-Decides q.uuid twin).0 e))

      of : (p : Option Record) → get_or m.places j None ≡ p → is_of twin p ≡ false
      of None at = refl
      of (Some q) at = by q (at_place m.places j q at) (bytes_eq q.uuid twin) refl

  module _ (k : ℕ) (placed : place_for m.places twin ≡ Some k) where
    free_by : (p : Option ℕ) → position (is_of twin) m.places ≡ p → option_or p (position is_none m.places) ≡ Some k → get_or m.places k None ≡ None
    free_by None none at = none_at (get_or m.places k None) (position-Some is_none m.places k None at).1
      where
        none_at : (p : Option Record) → is_none p ≡ true → p ≡ None
        none_at None e = refl
        none_at (Some q) e = absurd (true≢false (sym e))
    free_by (Some j) some at =
        let here = position-Some (is_of twin) m.places j None some in
        absurd (true≢false (sym here.1 ∙ no_record j))

    pub free : get_or m.places k None ≡ None
    unfolding place_for
    free = free_by (position (is_of twin) m.places) refl placed

  -- ---- which images are seen

  shown_without : (v : List ℕ) → bytes_eq u v ≡ false → is_shown (without f.own m.rows) v ≡ is_shown m.rows v
  shown_without v other = any_filter (λ r. is_image_of v (machine_row r)) (λ r. not (has_name f.own r)) m.rows (λ r i gone. away r (name_eq (row_name r) f.own) refl gone)
    where
      and_false : (x : Bool) → (x && false) ≡ false
      and_false true = refl
      and_false false = refl

      away : (r : TreeRow) (b : Bool) → name_eq (row_name r) f.own ≡ b → not b ≡ false → is_image_of v (machine_row r) ≡ false
      away r true is gone =
          let uuid = ap image_uuid (name_eq-true (row_name r) f.own is ∙ own_is s t m u twin read_only o tidy passes) ∙ its.uuid in
          ap (λ (w : List ℕ). not r.hidden && bytes_eq w v) uuid ∙ ap (λ x. not r.hidden && x) other ∙ and_false (not r.hidden)
      away r false is gone = absurd (true≢false gone)

  seen : (now a b : ℕ) (v : List ℕ) → is_shown (three now a b) v ≡ (bytes_eq twin v || (bytes_eq u v || is_shown (without f.own m.rows) v))
  unfolding image_uuid
  seen now a b v =
      shown_with (child_row s.geometry twin now (twin_uid t) (base_body f row.image) b) (with_row (child_row s.geometry u now (own_uid t) (base_body f row.image) a) (with_row (base_row f row) (without f.own m.rows))) v
      ∙ ap (λ x. bytes_eq twin v || x) (shown_with (child_row s.geometry u now (own_uid t) (base_body f row.image) a) (with_row (base_row f row) (without f.own m.rows)) v
      ∙ ap (λ x. bytes_eq u v || x) (shown_with (base_row f row) (without f.own m.rows) v))

  shown_own : is_shown m.rows u ≡ true
  shown_own = any_at (λ r. is_image_of u (machine_row r)) m.rows row its.there
      (ap₂ (λ (h : Bool) (w : List ℕ). not h && bytes_eq w u) its.shown its.uuid ∙ bytes_eq-refl u)

  seen_as : (now a b : ℕ) (v : List ℕ) → v ≢ twin → is_shown (three now a b) v ≡ is_shown m.rows v
  seen_as now a b v other = seen now a b v ∙ by (bytes_eq twin v) refl (bytes_eq u v) refl
    where
      by : (x : Bool) → bytes_eq twin v ≡ x → (y : Bool) → bytes_eq u v ≡ y → (x || (y || is_shown (without f.own m.rows) v)) ≡ is_shown m.rows v
      by true e y d = absurd (other (sym ((bytes_eq-Decides twin v).0 e)))
      by false e true d = sym shown_own ∙ ap (is_shown m.rows) ((bytes_eq-Decides u v).0 d)
      by false e false d = shown_without v d

  seen_twin : (now a b : ℕ) → is_shown (three now a b) twin ≡ true
  seen_twin now a b = seen now a b twin ∙ ap (λ x. x || (bytes_eq u twin || is_shown (without f.own m.rows) twin)) (bytes_eq-refl twin)

  -- ---- the shape

  module _ (now a b k : ℕ) (origin : Record) (placed : place_for m.places twin ≡ Some k) (recorded : record_in m.places u ≡ Some origin)
      (many : a ≡ wanted σ (is_rw (attached_as u σ)) (sectors_of (tree_row m.rows f.own))) (more : b ≡ thin_in σ 0) (used : Attached) (same : used.disks ≡ m.attached.disks) where
    abbrev entry : Record
    entry = twin_record u twin read_only origin

    abbrev pub known_then : Known
    known_then = record { rows = rows_then now a b; places = set m.places k (Some entry); logs = m.logs; attached = used; op = m.op }

    images_then : map machine_row (rows_then now a b) ≡ fork_images by_number u twin (disk_image u σ)
    images_then =
        ap (map machine_row) (rows_are now a b)
        ∙ images_three now a b (many ∙ ap (λ x. wanted σ (is_rw (attached_as u σ)) (sectors_of x)) (found s t m u twin read_only o tidy passes)) more
        ∙ ap (fork_images by_number u twin) (sym (own_image s t m u o its))

    records_then : records_in (shown_places (rows_then now a b) (set m.places k (Some entry))) ≡ fork_records u twin read_only (disk_record u σ) σ.records
    unfolding shape_in
    records_then =
        ap (λ rs. records_in (shown_places rs (set m.places k (Some entry)))) (rows_are now a b)
        ∙ records_more strict m.rows (three now a b) m.places k entry (place_below m.places twin k placed) (free k placed) (λ x i. (seen_as now a b x.uuid (no_twin x i), no_twin x i)) (seen_twin now a b)
        ∙ ap (λ x. fork_records u twin read_only x (records_in (shown_places m.rows m.places))) (sym (record_is s t m u (Some origin) o tidy recorded))

    abbrev made_shape : ℕ → List ImageRow → List DiskRecord → List (List ℕ × Mode) → Shape
    made_shape n is rs ds = record σ { sequence = n; images = is; records = rs; attached = map (λ (d : List ℕ × Mode). let y : Attachment = record { disk = d.0; mode = d.1 } in y) ds }

    machine_then : made_shape (risen t.sequence 8) (fork_images by_number u twin (disk_image u σ)) (fork_records u twin read_only (disk_record u σ) σ.records) m.attached.disks
        ≡ record (fork_shape by_number u twin read_only) { sequence = risen t.sequence 8 }
    unfolding shape_in
    machine_then = refl

    -- the machine's, by the number
    pub next_then : is_given_up σ (forking u twin read_only) ≡ false
        → shape_next by_number (forking u twin read_only) ≡ record (fork_shape by_number u twin read_only) { sequence = risen passes.number 8 }
    unfolding shape_in shape_next commits is_given_up
    next_then keeps =
        ap₂ (λ (g : Bool) (n : ℕ). let x : Shape = record (given_up g (shape_after by_number (forking u twin read_only))) { sequence = risen passes.number (one_if g + n) } in x) keeps
        (eight by_number u twin read_only)
        ∙ ap (λ (y : Shape). let x : Shape = record y { sequence = risen passes.number 8 } in x) (forked_after by_number u twin read_only)

    -- it is the machine's but for the number
    pub shape_then : (v : VolumeTable) → v.sequence ≡ t.sequence + 8 → shape_in s v known_then ≡ record (fork_shape by_number u twin read_only) { sequence = risen t.sequence 8 }
    unfolding shape_in
    shape_then v number =
        ap₂ (λ is rs. made_shape v.sequence is rs used.disks) images_then records_then
        ∙ ap₂ (λ n ds. made_shape n (fork_images by_number u twin (disk_image u σ)) (fork_records u twin read_only (disk_record u σ) σ.records) ds) (number ∙ rises) same
        ∙ machine_then
      where
        rises : t.sequence + 8 ≡ risen t.sequence 8
        rises = let few = unspent s t m u twin read_only o tidy passes in omega (arith, few)

    -- and no record is a stray
    pub no_stray_then : HasNoStray known_then
    no_stray_then x i = ap (λ rs. is_shown rs x.uuid) (rows_are now a b) ∙ ⊎_elim
        (λ e. ap (is_shown (three now a b)) (ap (λ (z : Record). z.uuid) (sym (same_Some entry x (sym e)))) ∙ seen_twin now a b)
        (λ j. seen_as now a b x.uuid (no_twin x j) ∙ tidy.no_stray x j) (in_set m.places k (Some entry) (Some x) i)
