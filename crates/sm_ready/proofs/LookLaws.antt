-- What the machine looks up of a disk in the shape of what is in memory: its image, its record, how it is attached, and how
-- long its chain is.
use Rattle.std.proofs.Common.{◌≡◌, Bor, not, ℕ, zero, suc, ◌*◌, ◌≤◌, Bool, true, false, cond, List, [], ◌∷◌, length, map, Option, Some, None, refl, sym, ap, ◌∙◌, subst}
use Rattle.std.proofs.Math.Logic.{∥∥₁_elim}
use Rattle.std.proofs.Props.{props}
use Rattle.std.proofs.lemmas.Bool.{true≢false}
use Rattle.std.proofs.Math.Nat.{mul-le-mul_right}
use Rattle.std.proofs.lemmas.Option.{none-some}
use Rattle.std.specs.List.{find}
use Rattle.std.specs.Map.{lookup}
use Rattle.std.specs.Option.{is_none, is_some, option_copied, option_map, option_or}
use Rattle.std.specs.Prelude.{unwrap_or}
use Rattle.std.specs.Str.{bytes_eq}
use Rattle.common_laws.specs.Lists.{◌>>=◌, In}
use Rattle.common_laws.proofs.Bytes.{bytes_eq-same, bytes_eq-refl}
use Rattle.common_laws.proofs.Lists.{Distinct-key, In-filter, In-map, In-map_at, filter-In, find-only, find-some, find_none, none_find}
use Rattle.sm_base.specs.declared.names.Name.{Name}
use Rattle.sm_base.specs.declared.names.Name.TheVariants.{Vhd, Raw}
use Rattle.sm_base.specs.declared.operations.Mode.{Mode}
use Rattle.vg_meta.specs.Tables.{VolumeTable}
use Rattle.vg_volumes.specs.Sites.{Site}
use Rattle.sm_record.specs.declared.records.Record.{Record}
use Rattle.sm_mgt.specs.Places.{is_of, record_in}
use Rattle.sm_refs.specs.Attached.{mode_of, same_uuid}
use Rattle.sm_refs.proofs.NameLemmas.{uuid_from_same, same_uuid-refl}
use Rattle.vhd_image.specs.Bodies.{parent_name, sector_count}
use Rattle.vhd_chain.specs.Trees.{chain_length, row_name, tree_row}
use Rattle.vhd_chain.specs.declared.rows.TreeRow.{TreeRow}
use Rattle.sm_machine.specs.Shapes.{Attachment, DiskRecord, ImageRow, attached_as, chain, disk_image, disk_record, is_image_of, mode_in, parent_of, chain_limit}
use Rattle.sm_machine.specs.WellFormed.{EndsWithin, IsWellFormed}
use Rattle.sm_machine.proofs.Chains.{parent_of-in}
use Rattle.sm_machine.proofs.Guests.{disks_own, disk_image_is}
use Rattle.sm_machine.proofs.Numbers.{list_any-none}
use Rattle.sm_ready.specs.Known.{Known, is_shown, is_shown_place, machine_record, machine_row, records_in, shape_in, shown_places}
use Rattle.sm_ready.specs.Orderly.{IsOrderly}
use Rattle.sm_ready.specs.Ready.{IsTidy}
use Rattle.sm_ready.specs.Shown.{of_shown, of_visible}
use Rattle.sm_ready.proofs.OnceLaws.{any_In}
use Rattle.sm_ready.proofs.Orders.{In-tree_row, named_row}
use Rattle.sm_ready.proofs.RowLaws.{tree_found}
use Rattle.sm_ready.proofs.ShapeLaws.{from_records, into_records}
use Rattle.sm_ready.proofs.ShownLaws.{shown_none, shown_row}

-- ---- the image

image_by : (s : Site) (t : VolumeTable) (m : Known) (u : List ℕ) → IsOrderly s t m → IsWellFormed (shape_in s t m) → (b : Bool) → is_shown m.rows u ≡ b
    → disk_image u (shape_in s t m) ≡ option_map machine_row (of_shown (λ r. r) m.rows u)
unfolding shape_in
image_by s t m u o w true e =
    let x = any_In (λ r. is_image_of u (machine_row r)) m.rows e in
    let i = In-map_at machine_row m.rows x.0 x.1 in
    let own = disks_own (shape_in s t m) w u (machine_row x.0) x.2 in
    disk_image_is (shape_in s t m) w u (machine_row x.0) i x.2 ∙ sym (ap (option_map machine_row) (shown_row (λ r. r) s t m x.0 u o w x.1 own.0 own.1))
image_by s t m u o w false e =
    find_none (is_image_of u) (map machine_row m.rows) (λ y i. let z = In-map machine_row m.rows y i in ap (is_image_of u) z.2 ∙ list_any-none (λ r. is_image_of u (machine_row r)) m.rows z.0 e z.1)
    ∙ sym (ap (option_map machine_row) (shown_none (λ r. r) m.rows u e))

-- the image of a disk is the visible one in memory
pub image_found : (s : Site) (t : VolumeTable) (m : Known) (u : List ℕ) → IsOrderly s t m → disk_image u (shape_in s t m) ≡ option_map machine_row (of_shown (λ r. r) m.rows u)
image_found s t m u o = ∥∥₁_elim o.well_formed (hlevel props) (λ w. image_by s t m u o w (is_shown m.rows u) refl)

pub image_is : (s : Site) (t : VolumeTable) (m : Known) (u : List ℕ) (x : Option TreeRow) → IsOrderly s t m → of_shown (λ r. r) m.rows u ≡ x → disk_image u (shape_in s t m) ≡ option_map machine_row x
image_is s t m u x o is = image_found s t m u o ∙ ap (option_map machine_row) is

-- what is shown is there
pub shown_in : (rows : List TreeRow) (u : List ℕ) (r : TreeRow) → of_shown (λ q. q) rows u ≡ Some r → In r rows
unfolding of_shown
shown_in rows u r e = by (tree_row rows (Vhd u)) refl e
  where
    seen : (n : Name) (x : Option TreeRow) → tree_row rows n ≡ x → of_visible (λ q. q) x ≡ Some r → In r rows
    seen n None is f = absurd (none-some r f)
    seen n (Some q) is f = at q.hidden refl f
      where
        at : (b : Bool) → q.hidden ≡ b → cond b None (Some q) ≡ Some r → In r rows
        at true h g = absurd (none-some r g)
        at false h g = let same : q ≡ r = cc in subst (λ z. In z rows) same (In-tree_row rows n q is).0

    by : (x : Option TreeRow) → tree_row rows (Vhd u) ≡ x → option_or (of_visible (λ q. q) x) (of_visible (λ q. q) (tree_row rows (Raw u))) ≡ Some r → In r rows
    by None is f = seen (Raw u) (tree_row rows (Raw u)) refl f
    by (Some q) is f = at q.hidden refl f
      where
        at : (b : Bool) → q.hidden ≡ b → option_or (cond b None (Some q)) (of_visible (λ q. q) (tree_row rows (Raw u))) ≡ Some r → In r rows
        at true h g = seen (Raw u) (tree_row rows (Raw u)) refl g
        at false h g = let same : q ≡ r = cc in subst (λ z. In z rows) same (In-tree_row rows (Vhd u) q is).0

-- an image that is shown is no larger than the blocks of its table
pub shown_size : (s : Site) (t : VolumeTable) (m : Known) (r : TreeRow) → IsOrderly s t m → In r m.rows → sector_count r.image ≤ s.geometry.entries * s.geometry.block
unfolding shape_in
shown_size s t m r o i = ∥∥₁_elim o.well_formed (hlevel props) (λ w.
    let size = (w.images (machine_row r) (In-map_at machine_row m.rows r i)).whole in
    subst (λ k. k ≤ s.geometry.entries * s.geometry.block) (sym size.1) (mul-le-mul_right s.geometry.block size.3))

-- ---- the record

record_by : (s : Site) (t : VolumeTable) (m : Known) (u : List ℕ) → IsTidy t m → IsWellFormed (shape_in s t m) → (x : Option (Option Record)) → find (is_of u) m.places ≡ x
    → disk_record u (shape_in s t m) ≡ option_map machine_record (unwrap_or x None)
unfolding shape_in
record_by s t m u tidy w None e =
    find_none (λ (r : DiskRecord). bytes_eq r.uuid u) (records_in (shown_places m.rows m.places)) (λ y i.
    let f = from_records (shown_places m.rows m.places) y i in
    let place = (In-filter (is_shown_place m.rows) m.places (Some f.entry) f.place).0 in
    ap (λ (z : DiskRecord). bytes_eq z.uuid u) f.is ∙ none_find (is_of u) m.places e (Some f.entry) place)
record_by s t m u tidy w (Some None) e = absurd (true≢false (sym (find-some (is_of u) m.places None e).1))
record_by s t m u tidy w (Some (Some r)) e =
    let f = find-some (is_of u) m.places (Some r) e in
    let here = into_records (shown_places m.rows m.places) r (filter-In (is_shown_place m.rows) m.places (Some r) f.0 (tidy.no_stray r f.0)) in
    find-only (λ (q : DiskRecord). bytes_eq q.uuid u) (records_in (shown_places m.rows m.places)) (machine_record r) here f.1 (λ y i g.
    Distinct-key (λ (q : DiskRecord). q.uuid) (records_in (shown_places m.rows m.places)) y (machine_record r) w.one_record i here (bytes_eq-same y.uuid u g ∙ sym (bytes_eq-same r.uuid u f.1)))

-- the record of a disk is the one in memory
pub record_found : (s : Site) (t : VolumeTable) (m : Known) (u : List ℕ) → IsOrderly s t m → IsTidy t m → disk_record u (shape_in s t m) ≡ option_map machine_record (record_in m.places u)
record_found s t m u o tidy = ∥∥₁_elim o.well_formed (hlevel props) (λ w. record_by s t m u tidy w (find (is_of u) m.places) refl)

pub record_is : (s : Site) (t : VolumeTable) (m : Known) (u : List ℕ) (x : Option Record) → IsOrderly s t m → IsTidy t m → record_in m.places u ≡ x → disk_record u (shape_in s t m) ≡ option_map machine_record x
record_is s t m u x o tidy is = record_found s t m u o tidy ∙ ap (option_map machine_record) is

pub some_copied : {A : Type 0} (x : Option (Bor A)) → is_some x ≡ is_some (option_copied x)
some_copied None = refl
some_copied (Some r) = refl

pub not_some : {A : Type 0} (x : Option A) → not (is_some x) ≡ is_none x
not_some None = refl
not_some (Some r) = refl

-- ---- the attachment

uuid_alike : (u v : List ℕ) → bytes_eq v u ≡ same_uuid u v
uuid_alike u v = by (same_uuid u v) refl (bytes_eq v u) refl
  where
    by : (a : Bool) → same_uuid u v ≡ a → (b : Bool) → bytes_eq v u ≡ b → bytes_eq v u ≡ same_uuid u v
    by true e true f = f ∙ sym e
    by false e false f = f ∙ sym e
    by true e false f = absurd (true≢false (sym (subst (λ w. bytes_eq w u ≡ true) (uuid_from_same u v e) (bytes_eq-refl u)) ∙ f))
    by false e true f = absurd (true≢false (sym (subst (λ w. same_uuid u w ≡ true) (sym (bytes_eq-same v u f)) (same_uuid-refl u)) ∙ e))

abbrev as_attachment : List ℕ × Mode → Attachment
as_attachment a = record { disk = a.0; mode = a.1 }

mode_alike : (u : List ℕ) (ds : List (List ℕ × Mode)) → mode_in u (map as_attachment ds) ≡ lookup (same_uuid u) ds
mode_alike u [] = refl
mode_alike u (d ∷ ds) = by (bytes_eq d.0 u) (same_uuid u d.0) (uuid_alike u d.0) (mode_alike u ds)
  where
    by : (a b : Bool) → a ≡ b → mode_in u (map as_attachment ds) ≡ lookup (same_uuid u) ds
        → cond a (Some (as_attachment d)) (find (λ (a : Attachment). bytes_eq a.disk u) (map as_attachment ds)) >>= (λ a. Some a.mode) ≡ cond b (Some d.1) (lookup (same_uuid u) ds)
    by true true same rest = refl
    by false false same rest = rest
    by true false same rest = absurd (true≢false same)
    by false true same rest = absurd (true≢false (sym same))

-- a disk is attached as memory has it
pub mode_found : (s : Site) (t : VolumeTable) (m : Known) (u : List ℕ) → attached_as u (shape_in s t m) ≡ mode_of m.attached u
unfolding shape_in
mode_found s t m u = mode_alike u m.attached.disks

-- ---- the chain

module _ (s : Site) (t : VolumeTable) (m : Known) (o : IsOrderly s t m) (w : IsWellFormed (shape_in s t m)) where
  chain_alike : (k : ℕ) (r : TreeRow) → In r m.rows → EndsWithin k (Some (row_name r)) (map machine_row m.rows) → chain_length m.rows (suc k) (row_name r) ≡ length (chain k (row_name r) (map machine_row m.rows))
  unfolding chain_length chain shape_in
  chain_alike zero r i ends = absurd ends
  chain_alike (suc k) r i ends =
      ap (λ (x : Option TreeRow). elim x [ None ↦ 0 | Some q ↦ suc (elim (parent_name q.image) [ None ↦ 0 | Some p ↦ chain_length m.rows (suc k) p ]) ]) (tree_found m.rows r w.one_image i)
      ∙ by (λ q j. chain_alike k q j) (parent_name r.image) refl
      ∙ sym (ap (λ (x : Option Name). suc (length (elim x as (λ _. List Name) [ None ↦ [] | Some p ↦ chain k p (map machine_row m.rows) ]))) parent)
    where
      parent : parent_of (row_name r) (map machine_row m.rows) ≡ parent_name r.image
      parent = parent_of-in (map machine_row m.rows) (machine_row r) w.one_image (In-map_at machine_row m.rows r i) (named_row s t m r o i)

      by : ((q : TreeRow) → In q m.rows → EndsWithin k (Some (row_name q)) (map machine_row m.rows) → chain_length m.rows (suc k) (row_name q) ≡ length (chain k (row_name q) (map machine_row m.rows)))
          → (x : Option Name) → parent_name r.image ≡ x
          → suc (elim x as (λ _. ℕ) [ None ↦ 0 | Some p ↦ chain_length m.rows (suc k) p ]) ≡ suc (length (elim x as (λ _. List Name) [ None ↦ [] | Some p ↦ chain k p (map machine_row m.rows) ]))
      by rest None is = refl
      by rest (Some p) is =
          let up = w.parents (machine_row r) p (In-map_at machine_row m.rows r i) is in
          let q = In-map machine_row m.rows up.parent up.there in
          let named : row_name q.0 ≡ p = sym (ap (λ (y : ImageRow). y.name) q.2) ∙ up.is_named in
          let more = subst (λ (x : Option Name). EndsWithin k x (map machine_row m.rows)) (parent ∙ is ∙ sym (ap Some named)) ends in
          ap suc (subst (λ n. chain_length m.rows (suc k) n ≡ length (chain k n (map machine_row m.rows))) named (rest q.0 q.1 more))

-- the chain of an image is as long as in memory
pub chain_found : (s : Site) (t : VolumeTable) (m : Known) (r : TreeRow) → IsOrderly s t m → In r m.rows → chain_length m.rows (suc chain_limit) (row_name r) ≡ length (chain chain_limit (row_name r) (shape_in s t m).images)
unfolding shape_in
chain_found s t m r o i = ∥∥₁_elim o.well_formed (hlevel props) (λ w. chain_alike s t m o w 30 r i (w.chains (machine_row r) (In-map_at machine_row m.rows r i)))
