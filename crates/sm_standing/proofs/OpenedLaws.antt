-- What an opening makes of a content, it makes of what is left when a part of its commits was made.
use Rattle.std.proofs.Common.{◌≡◌, ℕ, List, [], ◌∷◌, length, map, Option, Some, None, refl, sym, ap, ap₂, ◌∙◌}
use Rattle.std.specs.List.{filter, filter_map, sum}
use Rattle.std.specs.Prelude.{is_some}
use Rattle.std.proofs.Math.Path.{fun_ext}
use Rattle.sm_base.specs.declared.names.Name.{Name}
use Rattle.sm_base.specs.declared.names.Name.TheVariants.{Mgt, Vhd, Raw, Old, Cbt, Clone, Inflate, Coalesce, Relink, Leaf}
use Rattle.vg_meta.specs.Tables.{VolumeTable, Row}
use Rattle.sm_machine.specs.Disks.{Disk}
use Rattle.sm_machine.specs.Shapes.{ImageRow, Shape}
use Rattle.sm_standing.specs.Contents.{Content}
use Rattle.sm_standing.specs.Entries.{folding, head, making}
use Rattle.sm_standing.specs.Images.{Image, image_of}
use Rattle.sm_log.specs.Logs.{Log}
use Rattle.sm_standing.specs.Leaves.{ended_content}
use Rattle.sm_standing.specs.Logs.{log_at, log_named, logs, logs_in}
use Rattle.sm_standing.specs.Opened.{applied_all, changes_ending, cleaned, end_changes, ended, linked_by, linked_up, on_table, opened, undone}
use Rattle.sm_standing.specs.Shapes.{disk_record, image_row, row_of, shape}
use Rattle.sm_standing.specs.Standing.{disks, standing_volume}
use Rattle.sm_standing.specs.Undone.{undone_content}
use Rattle.sm_standing.specs.Unfolded.{unfolded, unfolded_content}
use Rattle.sm_standing.proofs.UndoneLaws.{undone_none}

-- the end of the entries of a group that has this one
pub ended_is : (t : VolumeTable) (ns : List Name) → folding t ≡ ns → ended t ≡ applied_all t (changes_ending t (head ns))
unfolding ended end_changes
ended_is t ns is = ap (λ ms. applied_all t (changes_ending t (head ms))) is

-- without an entry of a copy, a link or a leaf
pub opened_simple : (c : Content) → folding c.table ≡ [] → opened c ≡ shape (on_table c (cleaned (undone c.table)))
unfolding opened
opened_simple c none =
    ap (λ ns. linked_by c.table (head ns) (shape (on_table c (cleaned (undone (ended c.table)))))) none
    ∙ ap (λ t. shape (on_table c (cleaned (undone t)))) (ended_is c.table [] none)

-- once a fork or an enlargement is undone
pub opened_undone : (c : Content) → folding c.table ≡ [] → folding (undone c.table) ≡ [] → making (undone c.table) ≡ [] → opened (undone_content c) ≡ opened c
opened_undone c none still unmade =
    opened_simple (undone_content c) still ∙ ap (λ t. shape (on_table c (cleaned t))) (undone_none (undone c.table) unmade) ∙ sym (opened_simple c none)

-- once the folding of a leaf is ended
pub opened_ended : (c : Content) (leaf parent : List ℕ) → folding c.table ≡ Leaf leaf parent ∷ [] → folding (ended c.table) ≡ [] → opened (ended_content c) ≡ opened c
unfolding opened
opened_ended c leaf parent one none =
    opened_simple (ended_content c) none ∙ sym (ap (λ ns. linked_by c.table (head ns) (shape (on_table c (cleaned (undone (ended c.table)))))) one)

-- once the entry of a copy or of a link is gone
pub opened_unfolded : (c : Content) → ended c.table ≡ unfolded c.table → folding (unfolded c.table) ≡ [] → opened c ≡ linked_up c.table (opened (unfolded_content c))
unfolding opened
opened_unfolded c same none =
    ap (λ t. linked_up c.table (shape (on_table c (cleaned (undone t))))) same ∙ ap (linked_up c.table) (sym (opened_simple (unfolded_content c) none))

-- the same logs by disk are the same by name
named_same : (c d : Content) → ((u : List ℕ) → log_at d u ≡ log_at c u) → (n : Name) → log_named d n ≡ log_named c n
named_same c d same (Cbt u) = same u
named_same c d same Mgt = refl
named_same c d same (Vhd u) = refl
named_same c d same (Raw u) = refl
named_same c d same (Old u) = refl
named_same c d same (Clone disk base twin) = refl
named_same c d same (Inflate image extents) = refl
named_same c d same (Coalesce child parent) = refl
named_same c d same (Relink child parent) = refl
named_same c d same (Leaf leaf parent) = refl

-- and, beside the same table, the same logs
logs_same : (c : Content) (area : ℕ → List ℕ) → ((u : List ℕ) → log_at (record c { area = area }) u ≡ log_at c u) → logs (record c { area = area }) ≡ logs c
unfolding logs logs_in
logs_same c area same =
    ap (λ (f : Row → Option Log). filter (λ l. is_some (standing_volume c.table l.disk)) (filter_map f c.table.volumes))
    (fun_ext (λ r. named_same c (record c { area = area }) same r.name))

-- the same disks, images and logs in the same volumes make the same shape
pub shape_same : (c : Content) (area : ℕ → List ℕ) → disks (record c { area = area }) ≡ disks c → ((n : Name) → image_of (record c { area = area }) n ≡ image_of c n)
    → ((u : List ℕ) → log_at (record c { area = area }) u ≡ log_at c u) → shape (record c { area = area }) ≡ shape c
unfolding shape row_of
shape_same c area same images same_logs =
    ap₂ (by (logs (record c { area = area }))) same (fun_ext (λ r. ap (λ (o : Option Image). elim o as (λ _. Option ImageRow) [ None ↦ None | Some i ↦ Some (image_row r i) ]) (images r.name)))
    ∙ ap (λ ls. by ls (disks c) (row_of c)) (logs_same c area same_logs)
  where
    by : List Log → List Disk → (Row → Option ImageRow) → Shape
    by ls ds row = record (shape c) {
      others = sum (map (λ r. elim (row r) as (λ _. ℕ) [ None ↦ length r.extents | Some i ↦ 0 ]) c.table.volumes);
      records = map disk_record ds;
      images = filter_map row c.table.volumes;
      logs = ls;
    }
