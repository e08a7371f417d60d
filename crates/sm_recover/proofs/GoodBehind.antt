-- Logs in memory that were good are good behind the repairs: memory is orderly there, the images have the sizes that they had, and the
-- table's number is no lower.
use Rattle.std.proofs.Common.{◌≡◌, ℕ, ◌*◌, ◌^◌, ◌<◌, ◌≤◌, Bool, true, false, cond, List, [], ◌∷◌, length, map, Option, Some, None, refl, sym, ap, ◌∙◌, subst, arith}
use Rattle.std.specs.List.{find}
use Rattle.std.proofs.Math.Logic.{∥∥₁_elim, ∥∥₁_map}
use Rattle.std.proofs.Props.{props}
use Rattle.std.proofs.lemmas.Option.{none-some, same_Some}
use Rattle.common_laws.specs.Lists.{Distinct, In, Sorted}
use Rattle.common_laws.proofs.Lists.{In-map_at}
use Rattle.sm_base.specs.declared.names.Name.{Name}
use Rattle.sm_base.specs.declared.names.Name.TheVariants.{Mgt, Vhd, Raw, Old, Cbt, Clone, Inflate, Coalesce, Relink, Leaf}
use Rattle.sm_log.specs.Logs.{Log, log_sectors, piece_count}
use Rattle.sm_machine.specs.Shapes.{ImageRow, Shape, is_image_of}
use Rattle.sm_machine.specs.Tracking.{AreGoodLogs}
use Rattle.sm_machine.specs.WellFormed.{HasRecord, IsWellFormed, uuid_le}
use Rattle.vg_meta.specs.Tables.{VolumeTable}
use Rattle.vg_volumes.specs.Sites.{Site}
use Rattle.sm_standing.specs.Opened.{cleaned, past_parent}
use Rattle.vhd_chain.specs.declared.rows.TreeRow.{TreeRow}
use Rattle.sm_ready.specs.Known.{Known, machine_row, shape_in}
use Rattle.sm_ready.specs.Orderly.{IsOrderly}
use Rattle.sm_ready.specs.Ready.{HasNoStrayLog}
use Rattle.sm_ready.proofs.StrayLaws.{visible_of}
use Rattle.sm_recover.specs.Linking.{LinkedBy}
use Rattle.sm_recover.specs.Repairs.{IsLinkable}

-- ---- images of the same sizes

-- of each UUID the visible image has the size of the one from before
abbrev pub HasSizes : List TreeRow → List TreeRow → Type 0
HasSizes old new = (v : List ℕ) (i : ImageRow) → find (is_image_of v) (map machine_row new) ≡ Some i
    → (j : ImageRow) × (find (is_image_of v) (map machine_row old) ≡ Some j) × (j.size ≡ i.size)

-- an image keeps its size where its parent is another
module _ (w p : Name) (v : List ℕ) where
  abbrev past : ImageRow → ImageRow
  past i = record i { parent = past_parent w p i.parent }

  past_found : (is : List ImageRow) (i : ImageRow) → find (is_image_of v) (map past is) ≡ Some i → (j : ImageRow) × (find (is_image_of v) is ≡ Some j) × (j.size ≡ i.size)
  past_found [] i found = absurd (none-some i found)
  past_found (x ∷ is) i found = by (is_image_of v x) found (past_found is i)
    where
      by : (b : Bool) → cond b (Some (past x)) (find (is_image_of v) (map past is)) ≡ Some i → (find (is_image_of v) (map past is) ≡ Some i → (j : ImageRow) × (find (is_image_of v) is ≡ Some j) × (j.size ≡ i.size))
          → (j : ImageRow) × (cond b (Some x) (find (is_image_of v) is) ≡ Some j) × (j.size ≡ i.size)
      by true is_it rest = (x, refl, ap (λ (y : ImageRow). y.size) (same_Some (past x) i is_it))
      by false later rest = rest later

-- so they have once children were linked
module _ (site : Site) (table : VolumeTable) (xs : List TreeRow) (s y : Site) (t x : VolumeTable) (m k : Known) where
  same_sizes : shape_in y x k ≡ shape_in s t m → HasSizes m.rows k.rows
  unfolding shape_in
  same_sizes same v i found = (i, ap (λ (σ : Shape). find (is_image_of v) σ.images) (sym same) ∙ found, refl)

  pub linked_sizes : (h : Option Name) → IsLinkable site table xs h → LinkedBy h xs (shape_in s t m) (shape_in y x k) → HasSizes m.rows k.rows
  unfolding shape_in
  linked_sizes (Some (Relink child parent)) linkable linked = λ v i found.
      past_found (Vhd child) linkable.1 v (map machine_row m.rows) i (ap (λ (σ : Shape). find (is_image_of v) σ.images) (sym (linked linkable.1 linkable.2)) ∙ found)
  linked_sizes None linkable linked = same_sizes linked
  linked_sizes (Some Mgt) linkable linked = absurd linkable
  linked_sizes (Some (Vhd u)) linkable linked = absurd linkable
  linked_sizes (Some (Raw u)) linkable linked = absurd linkable
  linked_sizes (Some (Old u)) linkable linked = absurd linkable
  linked_sizes (Some (Cbt u)) linkable linked = absurd linkable
  linked_sizes (Some (Clone d b w)) linkable linked = absurd linkable
  linked_sizes (Some (Inflate u e)) linkable linked = absurd linkable
  linked_sizes (Some (Coalesce c p)) linkable linked = absurd linkable
  linked_sizes (Some (Leaf l p)) linkable linked = absurd linkable

-- ---- the logs

-- the number is no lower once new volumes went
pub cleaned_later : (t : VolumeTable) → t.sequence < 2 ^ 48 → t.sequence ≤ (cleaned t).sequence
unfolding cleaned
cleaned_later t within = omega (arith, within)

module _ (s : Site) (t : VolumeTable) (m : Known) (z : Site) (u : VolumeTable) (n : Known) (o : IsOrderly z u n) (extent : z.geometry.extent ≡ s.geometry.extent) (later : t.sequence ≤ u.sequence) (logs : n.logs ≡ m.logs)
    (no_stray : HasNoStrayLog n) (sizes : HasSizes m.rows n.rows) where
  recorded : IsWellFormed (shape_in z u n) → (l : Log) → In l n.logs → HasRecord (shape_in z u n) l.disk
  unfolding shape_in
  recorded w l i =
      let v = visible_of n.rows l.disk (no_stray l i) in
      subst (HasRecord (shape_in z u n)) v.uuid (w.visible (machine_row v.row) (In-map_at machine_row n.rows v.row v.there) v.shown)

  good_now : AreGoodLogs (shape_in s t m) → IsWellFormed (shape_in z u n) → AreGoodLogs (shape_in z u n)
  unfolding shape_in
  good_now was w = record {
    in_order = subst (λ (ls : List Log). Sorted uuid_le (map (λ (l : Log). l.disk) ls)) (sym logs) was.in_order;
    one_log = subst (λ (ls : List Log). Distinct (map (λ (l : Log). l.disk) ls)) (sym logs) was.one_log;
    good = λ l i.
        let good = was.good l (subst (In l) logs i) in
        record {
          disk = recorded w l i;
          pieces = λ j found. let k = sizes l.disk j found in good.pieces k.0 k.1 ∙ ap piece_count k.2;
          room = subst (λ e. log_sectors (length l.bits) ≤ l.extents * e) (sym extent) good.room;
          tag = omega (arith, good.tag, later);
          since = omega (arith, good.since, later);
        };
    one_tag = λ a b i j. was.one_tag a b (subst (In a) logs i) (subst (In b) logs j);
    within = omega arith;
  }

  pub good_behind : ∥ AreGoodLogs (shape_in s t m) ∥₁ → ∥ AreGoodLogs (shape_in z u n) ∥₁
  good_behind was = ∥∥₁_elim o.well_formed (hlevel props) (λ w. ∥∥₁_map was (λ g. good_now g w))
