-- Memory in which the own image of a disk has got slots.
use Rattle.std.proofs.Common.{◌≡◌, ◌≢◌, ◌⊎◌, inl, inr, ⊎_elim, ℕ, ◌+◌, ◌*◌, ◌<◌, ◌≤◌, not, ◌&&◌, Bool, true, false, List, Option, length, map, refl, sym, ap, ap₂, ◌∙◌, subst, subst₂, arith}
use Rattle.std.specs.Prelude.{max}
use Rattle.std.proofs.Math.Logic.{∥∥₁_elim, ∥∥₁_map}
use Rattle.std.proofs.Props.{props}
use Rattle.std.proofs.lemmas.Bool.{true≢false}
use Rattle.std.specs.Str.{bytes_eq}
use Rattle.common_laws.specs.Lists.{In, when}
use Rattle.common_laws.proofs.Bytes.{bytes_eq-same}
use Rattle.common_laws.proofs.Lists.{Distinct-key, In-map, In-map_at}
use Rattle.sm_base.specs.declared.names.Name.{Name}
use Rattle.sm_base.specs.declared.names.Name.TheVariants.{Mgt, Vhd, Cbt}
use Rattle.sm_machine.specs.Operations.{Op, dirtied}
use Rattle.sm_machine.specs.Operations as op
use Rattle.sm_disk.specs.Held.{Held, Keeps, reads}
use Rattle.vg_meta.specs.Tables.{VolumeTable, rows, extents_of}
use Rattle.vg_meta.proofs.NameLaws.{name_eq-same}
use Rattle.vg_volumes.specs.Sites.{Site, size_of, volume_of}
use Rattle.vg_volumes.specs.Volumes.{KeepsElsewhere}
use Rattle.vhd_volumes.proofs.SteadyLaws.{quiet_keeps}
use Rattle.vhd_image.specs.Bodies.{StandsIn, own_of, sector_count, parent_name}
use Rattle.vhd_image.specs.Written.{MayHaveGrown}
use Rattle.vhd_image.specs.declared.images.Body.{Body}
use Rattle.vhd_image.specs.declared.images.Body.TheVariants as body
use Rattle.vhd_image.specs.Steady.{IsSteady}
use Rattle.vhd_chain.specs.Reading.{slots_of}
use Rattle.vhd_chain.specs.Trees.{row_name, has_name, with_replaced}
use Rattle.vhd_chain.specs.declared.rows.TreeRow.{TreeRow}
use Rattle.sm_machine.specs.Collector.{count_either}
use Rattle.sm_machine.specs.Commits.{folds}
use Rattle.sm_machine.specs.Shapes.{Shape, ImageRow, DiskRecord, refs, image_uuid, is_image_of, is_rw, attached_as, thick_in, thin_in, top}
use Rattle.sm_machine.specs.WellFormed.{IsLive, IsWellFormed, IsOperation, is_image_name}
use Rattle.sm_machine.proofs.Attaches.{is_its_image}
use Rattle.sm_machine.proofs.Guests.{written_key, write_keeps}
use Rattle.sm_machine.proofs.Uses.{changed_uses}
use Rattle.sm_machine.specs.Steps.{blocks_touched, write_shape, written_image, written_op}
use Rattle.sm_mgt.specs.Places.{records_held}
use Rattle.sm_standing.specs.Images.{image_of}
use Rattle.sm_ready.specs.Known.{Known, entry_of, machine_row, shape_in, is_shown, records_in}
use Rattle.sm_ready.specs.Orderly.{IsOrderly, IsRoomyFor, IsRoomyIn}
use Rattle.sm_ready.specs.Ready.{HasNoStray, IsBelow, IsHeldBelow, IsReady, is_written_in}
use Rattle.sm_ready.specs.Stores.{content_now}
use Rattle.sm_ready.proofs.AfterLaws.{other_keeps}
use Rattle.sm_ready.proofs.ApartLaws as apart
use Rattle.sm_ready.proofs.OwnLaws.{other_image}
use Rattle.sm_ready.proofs.PutBackLaws.{any_replaced, face_replaced, map_replaced, of_rows}
use Rattle.sm_ready.proofs.StopLaws.{image_by_sectors}
use Rattle.sm_ready.proofs.LeftLaws.{extent_some, now_sector}
use Rattle.sm_ready.proofs.OperationLaws.{WorksAt, below_alike}
use Rattle.sm_ready.proofs.RestLaws.{agrees_keeps, steady_keeps}
use Rattle.sm_ready.proofs.LogLaws.{HoldsLogs, holds_keeps, holds_ready}
use Rattle.sm_ready.proofs.LogRows.{name_apart}
use Rattle.sm_ready.proofs.ShapeLaws.{mgt_image, shown_same}
use Rattle.sm_ready.proofs.HeldLaws.{IsChildWritten, held_written}
use Rattle.sm_ready.proofs.KeptLaws.{vhd_named}
use Rattle.sm_ready.proofs.NowLaws.{IsNow, row_now}
use Rattle.sm_ready.proofs.Orders.{HasHead, geometry_of, named_row, vhd_row}
use Rattle.sm_ready.proofs.RoomyLaws.{roomy_thick}
use Rattle.cmd_guest.proofs.OwnLaws.{IsOwn}

-- the same image but for its slots, of which it has as many places
pub record IsLike (r q : TreeRow) : Type 0 where
  pub name : row_name q ≡ row_name r
  pub hidden : q.hidden ≡ r.hidden
  pub extents : q.extents ≡ r.extents
  pub size : sector_count q.image ≡ sector_count r.image
  pub parent : parent_name q.image ≡ parent_name r.image
  pub places : length (slots_of q.image) ≡ length (slots_of r.image)

-- memory with the row of that image, and with this operation
abbrev pub replaced : TreeRow → Op → Known → Known
replaced q n m = record m { rows = with_replaced q m.rows; op = n }

-- memory behind a write of so many sectors of a disk, from one on, with the row of the written image
abbrev pub behind_write : Site → VolumeTable → Known → List ℕ → ℕ → ℕ → TreeRow → Known
behind_write s t m u sector count q = replaced q (written_op u (blocks_touched (shape_in s t m) sector count) m.op) m

module _ (s : Site) (t : VolumeTable) (m : Known) (u : List ℕ) (r q : TreeRow) (o : IsOrderly s t m) (h : IsOwn s t m u r) (like : IsLike r q) where
  -- ---- its rows

  pub there_replaced : In q (with_replaced q m.rows)
  there_replaced = subst (λ x. In x (with_replaced q m.rows)) (ap (λ b. when b (λ _. q) r) (name_eq-same (row_name r) (row_name q) (sym like.name))) (In-map_at (λ p. when (has_name (row_name q) p) (λ _. q) p) m.rows r h.there)

  -- ---- the operation

  -- behind a write of so many sectors
  abbrev pub next_op : ℕ → ℕ → Op
  next_op sector count = written_op u (blocks_touched (shape_in s t m) sector count) m.op

  -- where it does not fold the disk's leaf it does not work at the image
  works_apart : folds m.op u ≡ false → (n : Name) → WorksAt m.op n → n ≢ row_name r
  works_apart none = apart.works_apart s t m r o h.there h.shown (ap (folds m.op) h.uuid ∙ none)

  -- the leaf of a disk that is attached is folded by a live operation alone
  no_leaf : (x : Op) → m.op ≡ x → (l p : Name) (cursor : ℕ) → x ≡ op.Leaf l p cursor → folds m.op u ≡ false
  unfolding shape_in folds
  no_leaf x is l p cursor leaf = ∥∥₁_elim o.well_formed (hlevel props) (λ w. ap (λ (y : Op). folds y u) (is ∙ leaf) ∙ by w (bytes_eq (image_uuid l) u) refl)
    where
      by : IsWellFormed (shape_in s t m) → (c : Bool) → bytes_eq (image_uuid l) u ≡ c → c ≡ false
      by w true same =
          let c = subst (IsOperation (shape_in s t m)) (is ∙ leaf) w.operation in
          absurd (true≢false (sym h.attached ∙ ap (λ v. is_rw (attached_as v (shape_in s t m))) (sym (bytes_eq-same (image_uuid l) u same)) ∙ ap is_rw c.2))
      by w false other = refl

  -- a write leaves the operation's entry as it was
  entry_written : (bs : List ℕ) (x : Op) → entry_of (written_op u bs x) ≡ entry_of x
  unfolding written_op
  entry_written bs op.Idle = refl
  entry_written bs (op.Copy v p cursor) = refl
  entry_written bs (op.Relink v p) = refl
  entry_written bs (op.Leaf l p cursor) = refl
  entry_written bs (op.Live l p cursor dirty) = refl

  -- the leaf of this UUID is the image
  leaf_is : IsWellFormed (shape_in s t m) → (l p : Name) (cursor : ℕ) (dirty : List ℕ) → IsLive (shape_in s t m) l p cursor dirty → image_uuid l ≡ u → l ≡ row_name r
  unfolding shape_in
  leaf_is w l p cursor dirty c same = sym c.only.link.is_named
      ∙ ap (λ (z : ImageRow). z.name) (Distinct-key (λ (z : ImageRow). image_uuid z.name) (shape_in s t m).images c.only.link.child (machine_row r) w.one_image c.only.link.there (In-map_at machine_row m.rows r h.there)
      (ap image_uuid c.only.link.is_named ∙ same ∙ sym h.uuid))

  -- and its parent is another
  parent_apart : IsWellFormed (shape_in s t m) → (l p : Name) (cursor : ℕ) (dirty : List ℕ) → IsLive (shape_in s t m) l p cursor dirty → l ≡ row_name r → p ≢ row_name r
  unfolding shape_in
  parent_apart w l p cursor dirty c leaf same =
      let above = w.parents c.only.link.child p c.only.link.there c.only.link.linked in
      true≢false (sym above.is_hidden
      ∙ ap (λ (z : ImageRow). z.hidden) (Distinct-key (λ (z : ImageRow). image_uuid z.name) (shape_in s t m).images above.parent (machine_row r) w.one_image above.there (In-map_at machine_row m.rows r h.there)
      (ap image_uuid (above.is_named ∙ same))) ∙ h.shown)

  -- ---- the shape

  own_image : is_image_of u (machine_row r) ≡ true
  own_image = is_its_image (machine_row r) u h.shown h.uuid

  module _ (sector count : ℕ) (row : machine_row q ≡ written_image (shape_in s t m) sector count (machine_row r)) where
    shown : (v : List ℕ) → is_shown (with_replaced q m.rows) v ≡ is_shown m.rows v
    shown v = any_replaced s t m o r q h.there like.name (λ x. is_image_of v (machine_row x)) (ap₂ (λ (b : Bool) (n : Name). not b && bytes_eq (image_uuid n) v) like.hidden like.name)

    images : IsWellFormed (shape_in s t m) → map machine_row (with_replaced q m.rows) ≡ (write_shape (shape_in s t m) u sector count).images
    unfolding shape_in
    images w = map_replaced s t m o r q h.there like.name machine_row (λ y. when (is_image_of u y) (written_image (shape_in s t m) sector count) y)
        (row ∙ sym (ap (λ b. when b (written_image (shape_in s t m) sector count) (machine_row r)) own_image))
        (λ p i other. sym (ap (λ b. when b (written_image (shape_in s t m) sector count) (machine_row p)) (other_image s t m u r w h.there h.uuid p i other)))

    -- memory behind the write
    abbrev pub after : Known
    after = replaced q (next_op sector count) m

    pub shape_replaced : shape_in s t after ≡ write_shape (shape_in s t m) u sector count
    unfolding shape_in
    shape_replaced = ∥∥₁_elim o.well_formed (hlevel props) (λ w.
        ap₂ (λ (rs : List DiskRecord) (is : List ImageRow). let x : Shape = record (shape_in s t m) { records = rs; images = is; op = next_op sector count } in x)
        (ap records_in (shown_same (with_replaced q m.rows) m.rows m.places shown)) (images w))

    -- ---- memory is orderly

    uses : (n : Name) → refs n (write_shape (shape_in s t m) u sector count) ≡ refs n (shape_in s t m)
    unfolding refs
    uses n = ∥∥₁_elim o.well_formed (hlevel props) (λ w. changed_uses (shape_in s t m) (λ y. when (is_image_of u y) (written_image (shape_in s t m) sector count) y) n (record {
      name = written_key (shape_in s t m) w u sector count (λ (y : ImageRow). y.name) (λ y xs. refl);
      hidden = written_key (shape_in s t m) w u sector count (λ (y : ImageRow). y.hidden) (λ y xs. refl);
      parent = written_key (shape_in s t m) w u sector count (λ (y : ImageRow). y.parent) (λ y xs. refl);
    }))

    was_there : (x : ImageRow) → In x (map machine_row (with_replaced q m.rows)) → x.name ≢ row_name r → In x (map machine_row m.rows)
    was_there x i other =
        let z = In-map machine_row (with_replaced q m.rows) x i in
        ⊎_elim (λ old. subst (λ y. In y (map machine_row m.rows)) (sym z.2) (In-map_at machine_row m.rows z.0 old.0))
        (λ new. absurd (other (ap (λ (y : ImageRow). y.name) z.2 ∙ ap row_name new ∙ like.name))) (of_rows s t m o r q h.there like.name z.0 z.1)

    roomy_for : (v p : Name) → v ≢ row_name r → p ≢ row_name r → IsRoomyFor (shape_in s t m) v p → IsRoomyFor (shape_in s t after) v p
    unfolding shape_in
    roomy_for v p child parent room = λ i k there below is under vhd. room i k (was_there i there (λ same. child (sym is ∙ same))) (was_there k below (λ same. parent (sym under ∙ same))) is under vhd

    roomy : (x : Op) → ((n : Name) → WorksAt x n → n ≢ row_name r) → IsRoomyIn (shape_in s t m) x → IsRoomyIn (shape_in s t after) x
    roomy op.Idle other room = tt
    roomy (op.Copy v p cursor) other room = roomy_for v p (other v (inl refl)) (other p (inr refl)) room
    roomy (op.Relink v p) other room = tt
    roomy (op.Leaf l p cursor) other room = roomy_for l p (other l (inl refl)) (other p (inr refl)) room
    roomy (op.Live l p cursor dirty) other room = roomy_for l p (other l (inl refl)) (other p (inr refl)) room

    -- the leaf of a live folding has more blocks, and its parent has extents for all
    module _ (grown : MayHaveGrown r.image q.image) (stands : StandsIn s.geometry (q.extents * s.geometry.extent) q.image) where
      roomy_live : IsWellFormed (shape_in s t m) → (l p : Name) (cursor : ℕ) (dirty : List ℕ) → IsLive (shape_in s t m) l p cursor dirty → l ≡ row_name r → IsRoomyFor (shape_in s t after) l p
      unfolding shape_in
      roomy_live w l p cursor dirty c leaf = λ i k there below is under vhd.
          let y = In-map machine_row m.rows k (was_there k below (λ same. parent_apart w l p cursor dirty c leaf (sym under ∙ same))) in
          subst₂ (λ (a b : ImageRow). thin_in (shape_in s t m) (max (top b.slots) (count_either b.slots a.slots)) ≤ b.extents) (sym (is_new i there (is ∙ leaf))) (sym y.2)
          (fits y.0 y.1 (vhd_row s t m y.0 (image_uuid p) o y.1 (sym (ap (λ (z : ImageRow). z.name) y.2) ∙ under ∙ vhd_named p vhd)) (sym (ap (λ (z : ImageRow). z.name) y.2) ∙ under))
        where
          head : HasHead r
          head = vhd_row s t m r u o h.there (sym leaf ∙ vhd_named l c.only.link.vhd ∙ ap Vhd (ap image_uuid leaf ∙ h.uuid))

          now : (slots : List (Option ℕ)) × (q.image ≡ body.Vhd head.head slots)
          now = let g = subst (λ (b : Body). MayHaveGrown b q.image) head.is grown in (g.0, g.1)

          is_new : (i : ImageRow) → In i (map machine_row (with_replaced q m.rows)) → i.name ≡ row_name r → i ≡ machine_row q
          is_new i there named =
              let z = In-map machine_row (with_replaced q m.rows) i there in
              ⊎_elim (λ old. absurd (old.1 (sym (ap (λ (y : ImageRow). y.name) z.2) ∙ named))) (λ new. z.2 ∙ ap machine_row new) (of_rows s t m o r q h.there like.name z.0 z.1)

          child : c.only.link.child ≡ machine_row r
          child = Distinct-key (λ (z : ImageRow). image_uuid z.name) (shape_in s t m).images c.only.link.child (machine_row r) w.one_image c.only.link.there (In-map_at machine_row m.rows r h.there) (ap image_uuid (c.only.link.is_named ∙ leaf))

          fits : (y : TreeRow) → In y m.rows → HasHead y → row_name y ≡ p → thin_in (shape_in s t m) (max (top (slots_of y.image)) (count_either (slots_of y.image) (slots_of q.image))) ≤ y.extents
          fits y i v named =
              let at = In-map_at machine_row m.rows y i in
              subst₂ (λ (a b : Body). thin_in (shape_in s t m) (max (top (slots_of a)) (count_either (slots_of a) (slots_of b))) ≤ y.extents) (sym v.is) (sym now.1)
              (roomy_thick s.geometry y.extents (q.extents * s.geometry.extent) v.head head.head v.slots now.0
              (subst (StandsIn s.geometry (y.extents * s.geometry.extent)) v.is (o.stands y i))
              (subst (StandsIn s.geometry (q.extents * s.geometry.extent)) now.1 stands)
              (sym (ap sector_count v.is) ∙ c.only.same_size (machine_row y) at named ∙ ap (λ (z : ImageRow). z.size) child ∙ ap sector_count head.is)
              (subst (λ k. thick_in (shape_in s t m) k ≤ y.extents) (ap sector_count v.is)
              (c.thick (ap (λ v. is_rw (attached_as v (shape_in s t m))) (ap image_uuid leaf ∙ h.uuid) ∙ h.attached) (machine_row y) at named)))

      pub roomy_next : (x : Op) → m.op ≡ x → IsRoomyIn (shape_in s t m) x → IsRoomyIn (shape_in s t after) (written_op u (blocks_touched (shape_in s t m) sector count) x)
      unfolding written_op folds shape_in
      roomy_next op.Idle is room = tt
      roomy_next (op.Copy v p cursor) is room = roomy (op.Copy v p cursor) (subst (λ y. (n : Name) → WorksAt y n → n ≢ row_name r) is (works_apart (ap (λ y. folds y u) is))) room
      roomy_next (op.Relink v p) is room = tt
      roomy_next (op.Leaf l p cursor) is room =
          roomy (op.Leaf l p cursor) (subst (λ y. (n : Name) → WorksAt y n → n ≢ row_name r) is (works_apart (no_leaf (op.Leaf l p cursor) is l p cursor refl))) room
      roomy_next (op.Live l p cursor dirty) is room = by (bytes_eq (image_uuid l) u) refl
        where
          by : (c : Bool) → bytes_eq (image_uuid l) u ≡ c → IsRoomyFor (shape_in s t after) l p
          by true same = λ i k there below named under vhd. ∥∥₁_elim o.well_formed (hlevel props) (λ w.
              let c = subst (IsOperation (shape_in s t m)) is w.operation in
              roomy_live w l p cursor dirty c (leaf_is w l p cursor dirty c (bytes_eq-same (image_uuid l) u same)) i k there below named under vhd)
          by false other =
              let apart = subst (λ y. (n : Name) → WorksAt y n → n ≢ row_name r) is (works_apart (ap (λ y. folds y u) is ∙ other)) in
              roomy_for l p (apart l (inl refl)) (apart p (inr refl)) room

      pub orderly_replaced : IsOrderly s t after
      unfolding shape_in
      orderly_replaced = record {
        table = o.table;
        few_extents = o.few_extents;
        record_volume = o.record_volume;
        few = o.few;
        new_named = o.new_named;
        images = λ n is. o.images n is ∙ sym (face_replaced s t m o r q h.there like.name like.hidden like.extents n);
        logs = o.logs;
        few_logs = o.few_logs;
        logs_in_order = o.logs_in_order;
        log_room = o.log_room;
        places = o.places;
        entries = o.entries ∙ sym (entry_written (blocks_touched (shape_in s t m) sector count) m.op);
        stands = λ x i. ⊎_elim (λ old. o.stands x old.0) (λ new. subst (λ (y : TreeRow). StandsIn s.geometry (y.extents * s.geometry.extent) y.image) (sym new) stands) (of_rows s t m o r q h.there like.name x i);
        well_formed = ∥∥₁_map o.well_formed (λ w. subst IsWellFormed (sym shape_replaced) (write_keeps (shape_in s t m) w u sector count));
        roomy = roomy_next m.op refl o.roomy;
        counts = λ n. o.counts n ∙ sym (ap (refs n) shape_replaced ∙ uses n);
      }

    pub stray_replaced : HasNoStray m → HasNoStray after
    stray_replaced none x i = shown x.uuid ∙ none x i

  -- ---- and ready

  module _ (old new : Held) (keeps : KeepsElsewhere s.geometry.extent (extents_of (rows t (row_name r))) old new) where
    pub others : (n : Name) → n ≢ row_name r → Keeps (volume_of s t old n) (volume_of s t new n)
    others n other = other_keeps s t old new (row_name r) n o.table (extent_some s t m o) keeps other

    pub image_other : (n : Name) → n ≢ row_name r → image_of (content_now s t new) n ≡ image_of (content_now s t old) n
    image_other n other = image_by_sectors s t m (reads old) (reads new) n (rows t n) o refl
        (λ p below. now_sector s t new n p below ∙ (others n other).reads p ∙ sym (now_sector s t old n p below))

    module _ (sector count : ℕ) (some : 0 < count) (orderly : IsOrderly s t (replaced q (next_op sector count) m)) (ready : IsReady s t old m)
        (steady : IsSteady s.geometry (q.extents * s.geometry.extent) (volume_of s t new (row_name r)) q.image)
        (outside : (k : ℕ) → (k < sector) ⊎ (sector + count ≤ k) → own_of s.geometry (size_of s t (row_name r)) q.image (reads (volume_of s t new (row_name r))) k
        ≡ own_of s.geometry (size_of s t (row_name r)) r.image (reads (volume_of s t old (row_name r))) k) where
      -- what is written is the leaf of a live folding, whose parent is another image
      child_written : (p : Name) → p ≢ row_name r → IsChildWritten (content_now s t old) (content_now s t new) (row_name r) p sector count
      child_written p apart =
          let was = row_now s t old m o r h.there (ready.firm.images r h.there) in
          let now = subst (λ n. IsNow (content_now s t new) n s.geometry (size_of s t n) q.image (reads (volume_of s t new n))) like.name
          (row_now s t new (replaced q (next_op sector count) m) orderly q there_replaced (subst (λ n. IsSteady s.geometry (q.extents * s.geometry.extent) (volume_of s t new n) q.image) (sym like.name) steady)) in
          record {
            block = refl;
            was = was.image;
            now = now.image;
            before = was.there;
            after = now.there;
            size = now.size ∙ like.size ∙ sym was.size;
            outside = λ k away. now.own k ∙ outside k away ∙ sym (was.own k);
            parent = image_other p apart;
          }

      below_next : (x : Op) → m.op ≡ x → IsBelow (content_now s t old) x → IsBelow (content_now s t new) (written_op u (blocks_touched (shape_in s t m) sector count) x)
      unfolding written_op folds shape_in
      below_next op.Idle is below = tt
      below_next (op.Copy v p cursor) is below =
          let apart = subst (λ y. (n : Name) → WorksAt y n → n ≢ row_name r) is (works_apart (ap (λ y. folds y u) is)) in
          below_alike (content_now s t old) (content_now s t new) (op.Copy v p cursor) refl refl (λ n works. image_other n (apart n works)) below
      below_next (op.Relink v p) is below =
          let apart = subst (λ y. (n : Name) → WorksAt y n → n ≢ row_name r) is (works_apart (ap (λ y. folds y u) is)) in
          below_alike (content_now s t old) (content_now s t new) (op.Relink v p) refl refl (λ n works. image_other n (apart n works)) below
      below_next (op.Leaf l p cursor) is below =
          let apart = subst (λ y. (n : Name) → WorksAt y n → n ≢ row_name r) is (works_apart (no_leaf (op.Leaf l p cursor) is l p cursor refl)) in
          below_alike (content_now s t old) (content_now s t new) (op.Leaf l p cursor) refl refl (λ n works. image_other n (apart n works)) below
      below_next (op.Live l p cursor dirty) is below = by (bytes_eq (image_uuid l) u) refl
        where
          ds : Bool → List ℕ
          ds c = elim c as (λ _. List ℕ) [ true ↦ dirtied cursor (blocks_touched (shape_in s t m) sector count) dirty | false ↦ dirty ]

          by : (c : Bool) → bytes_eq (image_uuid l) u ≡ c → IsHeldBelow (content_now s t new) l p cursor (ds c)
          by true same =
              let leaf : l ≡ row_name r = ∥∥₁_elim o.well_formed (hlevel props) (λ w. leaf_is w l p cursor dirty (subst (IsOperation (shape_in s t m)) is w.operation) (bytes_eq-same (image_uuid l) u same)) in
              let apart : p ≢ row_name r = λ e. ∥∥₁_elim o.well_formed (hlevel props) (λ w. parent_apart w l p cursor dirty (subst (IsOperation (shape_in s t m)) is w.operation) leaf e) in
              subst (λ n. IsHeldBelow (content_now s t new) n p cursor (ds true)) (sym leaf)
              (held_written (content_now s t old) (content_now s t new) (row_name r) p cursor dirty sector count (child_written p apart) (let e = (geometry_of s t m o).block_least in omega (arith, e)) some
              (subst (λ n. IsHeldBelow (content_now s t old) n p cursor dirty) leaf below))
          by false other =
              let apart = subst (λ y. (n : Name) → WorksAt y n → n ≢ row_name r) is (works_apart (ap (λ y. folds y u) is ∙ other)) in
              below_alike (content_now s t old) (content_now s t new) (op.Live l p cursor dirty) refl refl (λ n works. image_other n (apart n works)) below

      pub ready_replaced : ((n : Name) → is_written_in (shape_in s t (replaced q (next_op sector count) m)) n ≡ is_written_in (shape_in s t m) n) → is_written_in (shape_in s t m) (row_name r) ≡ true
          → IsReady s t new (replaced q (next_op sector count) m)
      unfolding shape_in
      ready_replaced same written = record {
        firm = record {
          images = λ x i. ⊎_elim
              (λ was. steady_keeps s.geometry (x.extents * s.geometry.extent) (volume_of s t old (row_name x)) (volume_of s t new (row_name x)) x.image (others (row_name x) was.1) (ready.firm.images x was.0))
              (λ is. subst (λ (y : TreeRow). IsSteady s.geometry (y.extents * s.geometry.extent) (volume_of s t new (row_name y)) y.image) (sym is)
              (subst (λ n. IsSteady s.geometry (q.extents * s.geometry.extent) (volume_of s t new n) q.image) (sym like.name) steady)) (of_rows s t m o r q h.there like.name x i);
          quiet = λ x i still. ⊎_elim
              (λ was. quiet_keeps (others (row_name x) was.1) (ready.firm.quiet x was.0 (sym (same (row_name x)) ∙ still)))
              (λ is. absurd (true≢false (sym written ∙ sym (ap (is_written_in (shape_in s t m)) (ap row_name is ∙ like.name)) ∙ sym (same (row_name x)) ∙ still))) (of_rows s t m o r q h.there like.name x i);
          below = below_next m.op refl ready.firm.below;
        };
        records = agrees_keeps (records_held s t old) (records_held s t new) m.places (others Mgt record_apart) ready.records;
        recorded = quiet_keeps (others Mgt record_apart) ready.recorded;
        logs = held_logs.logs;
        logged = held_logs.quiet;
      }
        where
          held_logs : HoldsLogs s t new m.logs
          held_logs = holds_keeps (holds_ready s t old m o ready) new (λ v. others (Cbt v) (name_apart (row_name r) (named_row s t m r o h.there) v))

          record_apart : Mgt ≢ row_name r
          record_apart same = true≢false (sym (named_row s t m r o h.there) ∙ ap is_image_name (sym same) ∙ mgt_image)
