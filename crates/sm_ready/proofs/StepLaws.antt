-- What a command that makes a disk leaves to the machine's law of a step, and that no record is a stray after it.
use Rattle.std.proofs.Common.{◌≡◌, ◌⊎◌, inl, inr, ⊎_elim, ℕ, zero, suc, ◌+◌, ◌-◌, ◌^◌, ◌||◌, ◌&&◌, not, min, Bool, true, false, List, [], ◌∷◌, Option, Some, None, refl, sym, ap, ap₂, ◌∙◌, arith}
use Rattle.std.proofs.Math.ListN.{set}
use Rattle.std.proofs.lemmas.Option.{same_Some}
use Rattle.std.proofs.lemmas.Slice.Eq.{bytes_eq-Decides}
use Rattle.std.specs.Str.{bytes_eq}
use Rattle.sm_base.specs.declared.names.Name.{Name}
use Rattle.sm_base.specs.declared.refusals.Refusal.{Refusal}
use Rattle.vg_meta.specs.Tables.{VolumeTable}
use Rattle.vg_meta.specs.Changes.{applied}
use Rattle.vg_volumes.specs.Sites.{Site}
use Rattle.sm_machine.specs.Commits.{commits, own_commits, is_given_up, gives_up}
use Rattle.common_laws.specs.Lists.{In}
use Rattle.sm_machine.specs.Refusals.{refusal}
use Rattle.sm_machine.specs.Shapes.{Shape, ImageRow, DiskRecord, risen, with_image, image_uuid}
use Rattle.sm_machine.specs.Steps.{State, step, shape_next, shape_after, accepted, unless_refused, create_shape, new_image, with_record}
use Rattle.sm_machine.specs.declared.commands.Command.TheVariants.{Create}
use Rattle.sm_record.specs.declared.records.Record.{Record}
use Rattle.sm_ready.specs.Known.{Known, machine_row, machine_record, shape_in, is_shown}
use Rattle.sm_ready.specs.Ready.{HasNoStray}
use Rattle.sm_ready.proofs.LastLaws.{made_memory, after, shown_with}
use Rattle.vhd_chain.specs.declared.rows.TreeRow.{TreeRow}
use Rattle.vhd_chain.specs.Trees.{row_name}
use Rattle.vg_meta.specs.declared.changes.Change.TheVariants as change

created_shape : (σ : State) (u : List ℕ) (bytes : ℕ) (raw : Bool) (label : List ℕ) → refusal σ.shape (Create u bytes raw label) ≡ None
    → (step σ (Create u bytes raw label)).after.shape ≡ record (create_shape σ.shape u bytes raw label) { sequence = risen σ.shape.sequence 2 }
unfolding step accepted shape_next shape_after commits own_commits is_given_up gives_up
created_shape σ u bytes raw label taken = ap (λ (r : Option Refusal). (unless_refused r σ (Create u bytes raw label)).after.shape) taken

-- the shape after the last commit, where the table from before the command was t0
abbrev pub target : Site → VolumeTable → Name → TreeRow → Known → Record → Shape
target s t own added m r = record (shape_in s t m) { sequence = (after t own).sequence; records = with_record (machine_record r) (shape_in s t m).records; images = with_image (machine_row added) (shape_in s t m).images }

risen_twice : (n : ℕ) → risen n 2 ≡ min (min (n + 1) (2 ^ 48 - 1) + 1) (2 ^ 48 - 1)
risen_twice n = omega arith

-- it is the machine's, for a raw image and any other
pub stepped : (s : Site) (t0 : VolumeTable) (m : Known) (own : Name) (es : List ℕ) (added : TreeRow) (r : Record) (σ : State) (bytes : ℕ) (raw : Bool) → σ.shape ≡ shape_in s t0 m
    → refusal σ.shape (Create r.uuid bytes raw r.label) ≡ None → r.origin ≡ None → r.read_only ≡ false → machine_row added ≡ new_image (shape_in s t0 m) r.uuid bytes raw
    → target s (applied t0 (change.Create own true es)) own added m r ≡ (step σ (Create r.uuid bytes raw r.label)).after.shape
unfolding shape_in
stepped s t0 m own es added r σ bytes raw is taken origin writable row =
    ap₂ (λ (d : DiskRecord) (k : ℕ). record (shape_in s t0 m) { sequence = k; records = with_record d (shape_in s t0 m).records; images = with_image (machine_row added) (shape_in s t0 m).images })
    (ap₂ (λ (o : Option (List ℕ)) (b : Bool). let d : DiskRecord = record { uuid = r.uuid; label = r.label; origin = o; read_only = b } in d) origin writable) (sym (risen_twice t0.sequence))
    ∙ ap (λ (i : ImageRow). record (shape_in s t0 m) { sequence = risen t0.sequence 2; records = with_record (record { uuid = r.uuid; label = r.label; origin = None; read_only = false }) (shape_in s t0 m).records; images = with_image i (shape_in s t0 m).images }) row
    ∙ sym (created_shape σ r.uuid bytes raw r.label taken ∙ ap (λ (y : Shape). record (create_shape y r.uuid bytes raw r.label) { sequence = risen y.sequence 2 }) is)

in_set : (ps : List (Option Record)) (k : ℕ) (y x : Option Record) → In x (set ps k y) → (x ≡ y) ⊎ In x ps
in_set [] k y x i = absurd i
in_set (p ∷ ps) zero y x (inl e) = inl e
in_set (p ∷ ps) zero y x (inr i) = inr (inr i)
in_set (p ∷ ps) (suc k) y x (inl e) = inr (inl e)
in_set (p ∷ ps) (suc k) y x (inr i) = ⊎_elim (λ e. inl e) (λ j. inr (inr j)) (in_set ps k y x i)

-- and after it no record is a stray
pub no_stray_last : (m : Known) (own : Name) (added : TreeRow) (k : ℕ) (r : Record) → row_name added ≡ own → image_uuid own ≡ r.uuid → added.hidden ≡ false → HasNoStray m → HasNoStray (made_memory added k r m)
no_stray_last m own added k r named uuid shown none x i = shown_with added m.rows x.uuid
    ∙ ap₂ (λ (hidden : Bool) (v : List ℕ). (not hidden && bytes_eq v x.uuid) || is_shown m.rows x.uuid) shown (ap image_uuid named ∙ uuid)
    ∙ ⊎_elim
    (λ e. ap (λ b. b || is_shown m.rows x.uuid) ((bytes_eq-Decides r.uuid x.uuid).1 (ap (λ (z : Record). z.uuid) (same_Some r x (sym e)))))
    (λ j. ap (λ b. bytes_eq r.uuid x.uuid || b) (none x j) ∙ or_true (bytes_eq r.uuid x.uuid)) (in_set m.places k (Some r) (Some x) i)
  where
    or_true : (b : Bool) → (b || true) ≡ true
    or_true true = refl
    or_true false = refl
