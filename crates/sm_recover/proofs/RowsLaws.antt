-- The rows in memory as they were read: each is that of a volume, and what undoing a fork in memory asks of them.
use Rattle.std.proofs.Common.{◌≡◌, false, List, Option, Some, None, refl, sym, ap, ◌∙◌, subst}
use Rattle.std.proofs.lemmas.Option.{none-some}
use Rattle.sm_base.specs.declared.names.Name.{Name}
use Rattle.sm_base.specs.declared.names.Name.TheVariants.{Raw}
use Rattle.vg_meta.specs.Tables.{Row, VolumeTable, rows}
use Rattle.vg_volumes.specs.Sites.{Site}
use Rattle.common_laws.specs.Lists.{In}
use Rattle.common_laws.proofs.Lists.{In-map}
use Rattle.common_laws.proofs.Options.{none_of_some}
use Rattle.sm_base.specs.Names.{IsName}
use Rattle.sm_standing.proofs.Orders.{In-filter_map}
use Rattle.sm_ready.proofs.Orders.{In-tree_row}
use Rattle.sm_ready.proofs.RowLaws.{found_in}
use Rattle.sm_standing.specs.Entries.{making}
use Rattle.vhd_chain.specs.Trees.{row_name, tree_row}
use Rattle.vhd_chain.specs.declared.rows.TreeRow.{TreeRow}
use Rattle.sm_recover.specs.Backs.{CanGiveBack}
use Rattle.sm_checks.specs.Loaded.{AreRowsOf, as_read, read_volumes, row_among}
use Rattle.sm_checks.proofs.EntryLaws.{IsStaged, base_made, fork_found, made_parts}
use Rattle.sm_checks.proofs.LoadedLaws.{read_from}
use Rattle.std.specs.Cmp.{IsTotalOrder}
use Rattle.sm_base.proofs.OrderLemmas.{name_cmp_total}
use Rattle.sm_standing.specs.Ordered.{Rising}
use Rattle.sm_ready.proofs.LoadLaws.{tree_cmp}
use Rattle.vg_meta.proofs.NameLaws.{name_eq-other, name_eq-same}
use Rattle.vhd_chain.specs.Trees.{has_name, without}
use Rattle.common_laws.proofs.Lists.{In-filter, filter-In}
use Rattle.std.proofs.Common.{◌≢◌, inl, inr, Bool, true, false, cond, not, [], ◌∷◌, filter}
use Rattle.std.proofs.lemmas.Bool.{true≢false}

-- ---- lists of rows

pub row_total : IsTotalOrder tree_cmp
row_total = record {
  antisymm = λ x y. name_cmp_total.antisymm (row_name x) (row_name y);
  trans = λ x y z. name_cmp_total.trans (row_name x) (row_name y) (row_name z);
  congr = λ x y z. name_cmp_total.congr (row_name x) (row_name y) (row_name z);
}

pub rising_kept : (keep : TreeRow → Bool) (rs : List TreeRow) → Rising tree_cmp rs → Rising tree_cmp (filter keep rs)
rising_kept keep [] h = tt
rising_kept keep (r ∷ rs) h = by (rising_kept keep rs h.1) (keep r)
  where
    by : Rising tree_cmp (filter keep rs) → (b : Bool) → Rising tree_cmp (cond b (r ∷ filter keep rs) (filter keep rs))
    by rest true = (λ x i. h.0 x (In-filter keep rs x i).0, rest)
    by rest false = rest

pub kept_all : (keep : TreeRow → Bool) (rs : List TreeRow) → ((r : TreeRow) → In r rs → keep r ≡ true) → filter keep rs ≡ rs
kept_all keep [] all = refl
kept_all keep (r ∷ rs) all = ap (λ b. cond b (r ∷ filter keep rs) (filter keep rs)) (all r (inl refl)) ∙ ap (λ (qs : List TreeRow). r ∷ qs) (kept_all keep rs (λ s i. all s (inr i)))

pub in_without : (n : Name) (rs : List TreeRow) (y : TreeRow) → In y (without n rs) → In y rs × (row_name y ≢ n)
in_without n rs y i =
    let w = In-filter (λ r. not (has_name n r)) rs y i in
    (w.0, λ same. true≢false (sym w.1 ∙ ap not (name_eq-same (row_name y) n same)))

pub without_in : (n : Name) (rs : List TreeRow) (y : TreeRow) → In y rs → row_name y ≢ n → In y (without n rs)
without_in n rs y i other = filter-In (λ r. not (has_name n r)) rs y i (ap not (name_eq-other (row_name y) n other))

-- ---- an image in memory is that of a volume

-- the volume of a row, as the table tells it
pub record HasVolume (t : VolumeTable) (y : TreeRow) : Type 0 where
  pub volume : Row
  pub there : rows t (row_name y) ≡ Some volume
  pub filled : volume.fresh ≡ false
  pub hidden : y.hidden ≡ volume.hidden

pub has_volume : {s : Site} {t : VolumeTable} {xs : List TreeRow} → IsStaged s t → AreRowsOf (read_volumes t) xs → (y : TreeRow) → In y xs → HasVolume t y
has_volume {s} {t} {xs} c are y i =
    let v = In-filter_map (row_among xs) (read_volumes t) y (subst (In y) are i) in
    let f = read_from xs v.0 y v.2 in
    let q = In-map (as_read (making t)) t.volumes v.0 v.1 in
    let named : q.0.name ≡ row_name y = sym (ap (λ (r : Row). r.name) q.2) ∙ sym f.named in
    record {
      volume = q.0;
      there = ap (rows t) (sym named) ∙ found_in t.volumes c.table.volumes.rising q.0 q.1;
      filled = sym (ap (λ (r : Row). r.fresh) q.2) ∙ f.filled;
      hidden = f.hidden ∙ ap (λ (r : Row). r.hidden) q.2;
    }

-- a name of no volume is that of no row
pub no_row : {s : Site} {t : VolumeTable} {xs : List TreeRow} → IsStaged s t → AreRowsOf (read_volumes t) xs → (n : Name) → rows t n ≡ None → tree_row xs n ≡ None
no_row {s} {t} {xs} c are n none = by (tree_row xs n) refl
  where
    by : (o : Option TreeRow) → tree_row xs n ≡ o → o ≡ None
    by None is = refl
    by (Some y) is = let v = In-tree_row xs n y is in let k = has_volume c are y v.0 in absurd (none-some k.volume (sym none ∙ ap (rows t) (sym v.1) ∙ k.there))

pub can_give_back : {s : Site} {t : VolumeTable} (xs : List TreeRow) → IsStaged s t → AreRowsOf (read_volumes t) xs → CanGiveBack t xs
unfolding IsName
can_give_back {s} {t} xs c are d b w found from there =
    let f = fork_found d b w c found in
    let made = made_parts {t = t} {d = d} {b = b} {w = w} (base_made f from there) in
    record { vhd_name = f.named.0; raw_name = f.named.0; no_raw = no_row c are (Raw d) (none_of_some (rows t (Raw d)) made.no_raw) }
