-- A command makes an image and the record of its disk, in two commits: what is known before, and that each commit is
-- allowed and leaves table and memory orderly.
use Rattle.std.proofs.Common.{◌≡◌, ⊎_elim, suc, ℕ, ◌+◌, ◌*◌, ◌<◌, ◌≤◌, Bool, true, false, ◌||◌, cond, List, [], ◌∷◌, length, map, filter, Some, None, refl, sym, ap, ◌∙◌, subst}
use Rattle.std.proofs.Math.Logic.{∥∥₁_elim, ∥∥₁_map}
use Rattle.std.proofs.Props.{props}
use Rattle.std.proofs.lemmas.Bool.{true≢false}
use Rattle.std.proofs.lemmas.Slice.Eq.{bytes_eq-Decides}
use Rattle.common_laws.specs.Lists.{In}
use Rattle.common_laws.proofs.Lists.{In-map}
use Rattle.sm_base.specs.Kinds.{is_image, is_log}
use Rattle.sm_base.specs.Names.{IsName, is_base}
use Rattle.sm_base.specs.declared.names.Name.{Name}
use Rattle.vg_meta.specs.Tables.{VolumeTable, Row, rows, names_of}
use Rattle.vg_meta.specs.Changes.{AreFree, Permits, applied, made, tagged}
use Rattle.vg_meta.specs.declared.changes.Change.TheVariants.{Create, Mark}
use Rattle.vg_meta.specs.declared.changes.Tag.TheVariants.{Fresh}
use Rattle.vg_meta.proofs.RowLaws.{names_of-with_row}
use Rattle.vg_volumes.specs.Sites.{Site, Fits}
use Rattle.sm_machine.specs.Shapes.{ImageRow, Shape, image_limit, image_uuid, refs}
use Rattle.sm_machine.specs.Refusals.{refusal}
use Rattle.sm_machine.specs.Steps.{State, new_image, step}
use Rattle.sm_machine.specs.declared.commands.Command.{Command}
use Rattle.sm_machine.specs.declared.commands.Command.TheVariants as command
use Rattle.sm_machine.proofs.Steps.{step_keeps_shape}
use Rattle.sm_machine.specs.WellFormed.{IsWellFormed, is_image_name}
use Rattle.sm_record.specs.Records.{IsRecord}
use Rattle.sm_record.specs.declared.records.Record.{Record}
use Rattle.sm_mgt.specs.Places.{place_for}
use Rattle.vhd_chain.specs.Trees.{row_name, tree_row}
use Rattle.vhd_chain.specs.declared.rows.TreeRow.{TreeRow}
use Rattle.vhd_image.specs.Bodies.{StandsIn}
use Rattle.sm_ready.specs.Known.{Known, has_image, machine_row, shape_in}
use Rattle.sm_ready.specs.Middle.{IsStray}
use Rattle.sm_ready.specs.Orderly.{IsOrderly}
use Rattle.sm_ready.specs.Ready.{IsTidy}
use Rattle.sm_ready.proofs.BeginLaws.{IsToBegin, begun_there, fits_begun_as, may_begin, new_begun, orderly_begun_as, row_less, stray_for, volume_less}
use Rattle.sm_ready.proofs.CauseLaws.{row_without}
use Rattle.sm_ready.proofs.FirstLaws.{IsNew}
use Rattle.sm_ready.proofs.FitLaws.{fits_orderly}
use Rattle.sm_ready.proofs.FreshLaws.{In-put}
use Rattle.sm_ready.proofs.LastLaws.{IsMade, IsStepped, images_with, made_memory, after, none_new, orderly_last, shape_last}
use Rattle.sm_machine.proofs.Uses.{more_uses}
use Rattle.sm_ready.proofs.RowLaws.{image_named}
use Rattle.sm_ready.proofs.StepLaws.{no_stray_last, stepped, target}

-- the images of a table are counted by their names
images_named : (rs : List Row) → length (filter (λ r. is_image r.name) rs) ≡ length (filter is_image (names_of rs))
images_named [] = refl
images_named (r ∷ rs) = by (is_image r.name) (images_named rs)
  where
    by : (x : Bool) → length (filter (λ r. is_image r.name) rs) ≡ length (filter is_image (names_of rs))
        → length (cond x (r ∷ filter (λ r. is_image r.name) rs) (filter (λ r. is_image r.name) rs)) ≡ length (cond x (r.name ∷ filter is_image (names_of rs)) (filter is_image (names_of rs)))
    by true rest = ap suc rest
    by false rest = rest

-- an image that memory has not has no volume, where none is new
pub unvolumed : (s : Site) (t : VolumeTable) (m : Known) (n : Name) → IsOrderly s t m → IsTidy t m → is_image n ≡ true → tree_row m.rows n ≡ None → rows t n ≡ None
unvolumed = volume_less

-- no attached disk reads through an image that is added
pub counted_more : (s : Site) (t u : VolumeTable) (m : Known) (added : TreeRow) (k : ℕ) (r : Record) → IsOrderly s t m → has_image m.rows r.uuid ≡ false → image_uuid (row_name added) ≡ r.uuid → (n : Name)
    → refs n (shape_in s u (made_memory added k r m)) ≡ refs n (shape_in s t m)
unfolding shape_in refs
counted_more s t u m added k r o absent uuid n = ap (λ images. refs n (record (shape_in s t m) { images = images })) (images_with added m.rows)
    ∙ ∥∥₁_elim o.well_formed (hlevel props) (λ w. more_uses (shape_in s t m) (machine_row added) w (record { other = λ i h e. new w i h e }) n)
  where
    new : IsWellFormed (shape_in s t m) → (i : ImageRow) → In i (map machine_row m.rows) → image_uuid i.name ≡ image_uuid (row_name added) → ⊥
    new w i h e =
        let y = In-map machine_row m.rows i h in
        true≢false (sym ((bytes_eq-Decides (image_uuid (row_name y.0)) r.uuid).1 (sym (ap (λ (z : ImageRow). image_uuid z.name) y.2) ∙ e ∙ uuid)) ∙ row_without s t m r.uuid o w absent y.0 y.1)

-- ---- before the first commit

-- what a command knows that makes an image of this name on these extents, and its disk's record in place k
pub record IsToMake (s : Site) (t : VolumeTable) (m : Known) (own : Name) (es : List ℕ) (added : TreeRow) (k : ℕ) (r : Record) : Type 0 where
  pub orderly : IsOrderly s t m
  pub tidy : IsTidy t m
  pub proper : IsName own
  pub image : is_image_name own ≡ true
  pub uuid : image_uuid own ≡ r.uuid
  pub not_base : is_base r.uuid ≡ false
  pub absent : has_image m.rows r.uuid ≡ false
  pub few : length m.rows + 1 ≤ image_limit
  pub some_extents : 0 < length es
  pub extents_free : AreFree s.count t.volumes es
  pub named : row_name added ≡ own
  pub shown : added.hidden ≡ false
  pub long : added.extents ≡ length es
  pub stands : StandsIn s.geometry (added.extents * s.geometry.extent) added.image
  pub recorded : IsRecord r
  pub placed : place_for m.places r.uuid ≡ Some k
  pub well_formed : ∥ IsWellFormed (target s (applied t (Create own true es)) own added m r) ∥₁

module _ (s : Site) (t : VolumeTable) (m : Known) (own : Name) (es : List ℕ) (added : TreeRow) (k : ℕ) (r : Record) (b : IsToMake s t m own es added k r) where
  abbrev pub begun : VolumeTable
  begun = applied t (Create own true es)

  begin : IsToBegin s t m own es r.uuid
  begin = record {
    orderly = b.orderly;
    tidy = b.tidy;
    proper = b.proper;
    image = b.image;
    uuid = b.uuid;
    not_base = b.not_base;
    absent = b.absent;
    few = b.few;
    some_extents = b.some_extents;
    extents_free = b.extents_free;
  }

  -- no image has the UUID
  pub no_row : (n : Name) → is_image_name n ≡ true → image_uuid n ≡ r.uuid → tree_row m.rows n ≡ None
  no_row = row_less s t m own es r.uuid begin

  -- the first commit is allowed
  pub allowed : Permits s.count t (Create own true es)
  allowed = may_begin s t m own es r.uuid begin

  -- and makes a new volume for an image
  pub is_new : IsNew s t m own es
  is_new = new_begun s t m own es r.uuid begin

  pub orderly_begun : IsOrderly s begun m
  orderly_begun = orderly_begun_as s t m own es r.uuid begin

  pub fits_begun : Fits s.count t (Create own true es)
  fits_begun = fits_begun_as s t m own es r.uuid begin

  pub there : rows begun own ≡ Some (made own true es)
  there = begun_there s t m own es r.uuid begin

  -- the record goes into a free place
  pub stray : IsStray m k r
  stray = stray_for s t m k r b.orderly b.tidy.no_stray b.absent b.placed

  -- ---- the last commit

  pub made_is : IsMade s begun m own added k r (made own true es)
  made_is = record {
    orderly = orderly_begun;
    no_stray = b.tidy.no_stray;
    stray = stray;
    there = there;
    fresh = refl;
    visible = refl;
    allows = record { row = made own true es; there = there; taking = ap (λ b. b || is_log own) (image_named own b.image); otherwise = refl };
    image = b.image;
    uuid = b.uuid;
    named = b.named;
    shown = b.shown;
    long = b.long;
    stands = b.stands;
  }

  pub stepped_is : IsStepped s begun m own added k r (made own true es)
  unfolding shape_in
  stepped_is = record {
    few = subst (λ n. n ≤ image_limit) (sym (images_named (after begun own).volumes ∙ ap (λ (ns : List Name). length (filter is_image ns)) (names_of-with_row begun.volumes own (tagged Fresh false) (λ q. refl)) ∙ sym (images_named begun.volumes))) is_new.few;
    only_new = λ q i new. ⊎_elim (λ is. ap (λ (x : Row). x.name) is) (λ j. absurd (true≢false (sym new ∙ b.tidy.none_new q j))) (In-put (made own true es) q t.volumes i);
    well_formed = b.well_formed;
    counts = λ n. b.orderly.counts n ∙ sym (counted_more s t (after begun own) m added k r b.orderly b.absent (ap image_uuid b.named ∙ b.uuid) n);
  }

  abbrev pub made_known : Known
  made_known = made_memory added k r m

  pub orderly_made : IsOrderly s (after begun own) made_known
  orderly_made = orderly_last s begun m own added k r (made own true es) made_is stepped_is

  pub fits_made : Fits s.count begun (Mark own Fresh false)
  fits_made = fits_orderly s (after begun own) made_known orderly_made

  pub tidy_made : IsTidy (after begun own) made_known
  tidy_made = record { none_new = none_new s begun m own added k r (made own true es) made_is stepped_is; no_stray = no_stray_last m own added k r b.named b.uuid b.shown b.tidy.no_stray }

  -- the shape is that of a step of the machine, for each command that makes such a disk
  pub shape_made : (σ : State) (bytes : ℕ) (raw : Bool) → σ.shape ≡ shape_in s t m → refusal (shape_in s t m) (command.Create r.uuid bytes raw r.label) ≡ None → r.origin ≡ None → r.read_only ≡ false
      → machine_row added ≡ new_image (shape_in s t m) r.uuid bytes raw
      → shape_in s (after begun own) made_known ≡ (step σ (command.Create r.uuid bytes raw r.label)).after.shape
  unfolding shape_in
  shape_made σ bytes raw is accepted origin writable row =
      shape_last s begun m own added k r (made own true es) made_is
      ∙ stepped s t m own es added r σ bytes raw is (ap (λ x. refusal x (command.Create r.uuid bytes raw r.label)) is ∙ accepted) origin writable row

-- ---- what gives the premises of the machine's shape

-- what the machine steps to is well formed
pub well_target : (s : Site) (t : VolumeTable) (m : Known) (c : Command) (σ : State) (to : Shape) → IsOrderly s t m → σ.shape ≡ shape_in s t m → to ≡ (step σ c).after.shape → ∥ IsWellFormed to ∥₁
well_target s t m c σ to o is steps = ∥∥₁_map o.well_formed (λ w. subst IsWellFormed (sym steps) (step_keeps_shape σ c (subst IsWellFormed (sym is) w)))
