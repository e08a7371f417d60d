-- Logs in memory are good where each is that of a disk, with a bit for each piece of the disk's image in memory, and their numbers were used.
use Rattle.std.proofs.Common.{◌≡◌, inl, inr, ℕ, ◌*◌, ◌^◌, ◌≤◌, true, not, List, [], ◌∷◌, length, map, Option, Some, None, is_some, refl, sym, ap, ◌∙◌, subst, arith}
use Rattle.std.specs.List.{AllByRecursion}
use Rattle.std.specs.List.Sorted.{IsStrictlySortedBy}
use Rattle.std.specs.Ordering.{is_lt, ordering_reverse}
use Rattle.std.specs.declared.cmp.Ordering.TheVariants.{Less}
use Rattle.std.proofs.Math.Logic.{∥∥₁_elim}
use Rattle.std.proofs.Props.{props}
use Rattle.std.proofs.lemmas.Cmp.{nat_list_cmp_total}
use Rattle.std.proofs.lemmas.Nat.{mul-le}
use Rattle.std.proofs.lemmas.Option.{none-some, same_Some}
use Rattle.common_laws.specs.Lists.{Distinct, In, Sorted}
use Rattle.common_laws.proofs.Lists.{In-map_at}
use Rattle.common_laws.proofs.Options.{is_some-parts}
use Rattle.sm_base.specs.Numbers.{div_up}
use Rattle.sm_base.proofs.NumberLemmas.{div_up-le}
use Rattle.sm_log.specs.Logs.{Log, piece_count}
use Rattle.sm_machine.specs.Shapes.{ImageRow, disk_image}
use Rattle.sm_machine.specs.Tracking.{AreGoodLogs}
use Rattle.sm_machine.specs.WellFormed.{HasRecord, IsWellFormed, uuid_le}
use Rattle.vg_meta.specs.Tables.{VolumeTable}
use Rattle.vg_volumes.specs.Sites.{Site}
use Rattle.sm_standing.specs.Ordered.{uuid_cmp}
use Rattle.sm_standing.specs.Standing.{standing_volume}
use Rattle.sm_standing.proofs.Orders.{not_itself}
use Rattle.vhd_image.specs.Bodies.{sector_count}
use Rattle.vhd_chain.specs.declared.rows.TreeRow.{TreeRow}
use Rattle.sm_log_reading.specs.Right.{AreNumbered}
use Rattle.sm_ready.specs.Known.{Known, machine_row, shape_in}
use Rattle.sm_ready.specs.Orderly.{IsOrderly}
use Rattle.sm_ready.specs.Shown.{of_shown}
use Rattle.sm_ready.proofs.LookLaws.{image_is, shown_in, shown_size}
use Rattle.sm_ready.proofs.ShapeLaws.{standing_shown}
use Rattle.sm_ready.proofs.StrayLaws.{visible_of}
use Rattle.sm_recover.specs.Tracked.{pieces_of, tree_pieces}

-- ---- the order

all_listed : (P : List ℕ → Type 0) (us : List (List ℕ)) (u : List ℕ) → AllByRecursion P us → In u us → P u
all_listed P [] u all i = absurd i
all_listed P (v ∷ us) u all (inl is) = subst P (sym is) all.0
all_listed P (v ∷ us) u all (inr i) = all_listed P us u all.1 i

rising_sorted : (us : List (List ℕ)) → IsStrictlySortedBy uuid_cmp us → Sorted uuid_le us
unfolding IsStrictlySortedBy
rising_sorted [] rising = tt
rising_sorted (u ∷ us) rising = ((λ v i. not_before u v (all_listed (λ v. uuid_cmp u v ≡ Less) us v rising.0 i)), rising_sorted us rising.1)
  where
    not_before : (u v : List ℕ) → uuid_cmp u v ≡ Less → uuid_le u v ≡ true
    not_before u v less = ap (λ o. not (is_lt o)) (nat_list_cmp_total.antisymm v u ∙ ap ordering_reverse less)

rising_distinct : (us : List (List ℕ)) → IsStrictlySortedBy uuid_cmp us → Distinct us
unfolding IsStrictlySortedBy
rising_distinct [] rising = tt
rising_distinct (u ∷ us) rising = ((λ i. not_itself uuid_cmp nat_list_cmp_total u (all_listed (λ v. uuid_cmp u v ≡ Less) us u rising.0 i)), rising_distinct us rising.1)

-- ---- beside a table

module _ (s : Site) (t : VolumeTable) (m : Known) (o : IsOrderly s t m) {most : ℕ} (numbered : AreNumbered most m.logs) (low : most ≤ t.sequence)
    (stands : (l : Log) → In l m.logs → is_some (standing_volume t l.disk) ≡ true) (pieces : (l : Log) → In l m.logs → length l.bits ≡ tree_pieces m.rows l.disk) where
  recorded : IsWellFormed (shape_in s t m) → (l : Log) → In l m.logs → HasRecord (shape_in s t m) l.disk
  unfolding shape_in
  recorded w l i =
      let n = is_some-parts (standing_volume t l.disk) (stands l i) in
      let v = visible_of m.rows l.disk (standing_shown s t m l.disk n.0 o n.1) in
      subst (HasRecord (shape_in s t m)) v.uuid (w.visible (machine_row v.row) (In-map_at machine_row m.rows v.row v.there) v.shown)

  -- an image has no more pieces than a number of 32 bits can say
  few_pieces : (x : TreeRow) → In x m.rows → pieces_of (Some x) ≡ piece_count (sector_count x.image)
  few_pieces x i =
      let n = sector_count x.image in
      let most : s.geometry.entries * s.geometry.block ≤ 1044480 * 4096 = mul-le s.geometry.entries s.geometry.block 1044480 4096 s.geometry.in_range.entries_most s.geometry.in_range.block_most in
      let few : div_up n 128 ≤ 2 ^ 25 = div_up-le n 128 (2 ^ 25) (omega arith) (omega (arith, shown_size s t m x o i, most)) in
      omega (arith, few)

  counted : (l : Log) → In l m.logs → (i : ImageRow) → disk_image l.disk (shape_in s t m) ≡ Some i → length l.bits ≡ piece_count i.size
  counted l there i found = by (of_shown (λ r. r) m.rows l.disk) refl
    where
      by : (x : Option TreeRow) → of_shown (λ r. r) m.rows l.disk ≡ x → length l.bits ≡ piece_count i.size
      by None is = absurd (none-some i (sym (image_is s t m l.disk None o is) ∙ found))
      by (Some x) is =
          pieces l there ∙ ap pieces_of is ∙ few_pieces x (shown_in m.rows l.disk x is)
          ∙ ap (λ (j : ImageRow). piece_count j.size) (same_Some (machine_row x) i (sym (image_is s t m l.disk (Some x) o is) ∙ found))

  good_of : IsWellFormed (shape_in s t m) → AreGoodLogs (shape_in s t m)
  unfolding shape_in
  good_of w = record {
    in_order = rising_sorted (map (λ (l : Log). l.disk) m.logs) o.logs_in_order;
    one_log = rising_distinct (map (λ (l : Log). l.disk) m.logs) o.logs_in_order;
    good = λ l i. record {
      disk = recorded w l i;
      pieces = counted l i;
      room = o.log_room l i;
      tag = omega (arith, numbered.tag l i, low);
      since = omega (arith, numbered.since l i, low);
    };
    one_tag = numbered.one_tag;
    within = omega arith;
  }

  pub good_logs : ∥ AreGoodLogs (shape_in s t m) ∥₁
  good_logs = ∥∥₁_elim o.well_formed (hlevel props) (λ w. ∣ good_of w ∣₁)
