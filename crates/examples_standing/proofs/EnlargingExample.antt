-- A thin disk passes all checks, and its table while it is being enlarged is one.
use Rattle.std.proofs.Common.{◌≡◌, ℕ, inl, inr, Bool, true, false, not, cond, ◌&&◌, ◌||◌, ◌==◌, List, [], ◌∷◌, None, Some, refl, sym, ap, ◌∙◌, subst, arith}
use Rattle.std.specs.Str.{bytes_eq}
use Rattle.std.proofs.lemmas.Bool.{true≢false}
use Rattle.std.proofs.lemmas.Option.{none-some, same_Some}
use Rattle.sm_base.specs.declared.names.Name.{Name}
use Rattle.sm_base.specs.declared.names.Name.TheVariants.{Mgt, Vhd, Raw, Old, Cbt, Clone, Inflate, Coalesce, Relink, Leaf}
use Rattle.vg_meta.specs.Tables.{Row, rows, row_of, name_eq}
use Rattle.common_laws.specs.Lists.{In}
use Rattle.sm_standing.specs.Apart.{is_apart}
use Rattle.sm_standing.specs.Besides.{IsBeside, PassesAlone, is_settled_name}
use Rattle.sm_base.specs.Names.{is_base}
use Rattle.sm_base.specs.Numbers.{div_up}
use Rattle.vg_layout.specs.Places.{record_extents}
use Rattle.common_laws.specs.Lists.{numbers}
use Rattle.sm_standing.specs.Checks.{fault_of, record_volume_fault, too_many_fault, misnamed_fault, second_entry_fault, lost_entry_fault, old_leaf_fault, invalid_fault, tree_fault, entry_link_fault, record_fault, disk_fault, first_name, children, chain_length, is_entry_linked}
use Rattle.sm_standing.specs.Entries.{is_at_stage, image_with}
use Rattle.sm_standing.specs.Outlines.{Link, outline_records}
use Rattle.sm_standing.specs.Enlarging.{IsEnlarging}
use Rattle.sm_standing.specs.Enlarging.HasEntry.{here}
use Rattle.sm_standing.specs.Standing.{standing_volume, uuids, in_order, with_uuid}
use Rattle.examples_standing.specs.SmallContents.{one, sized_row}
use Rattle.examples_standing.specs.SmallOutlines.{thin_outline, thin_table, thin_links, enlarging_table}

pub thin_enlarging : IsEnlarging thin_outline enlarging_table one 1
unfolding row_of name_eq
thin_enlarging = record {
  later = omega arith;
  volumes = here _ _ _ refl (
    record { name = refl; hidden = refl; fresh = refl; more = omega arith; same = λ other. refl },
    (record { name = refl; hidden = refl; fresh = refl; more = omega arith; same = λ other. absurd (other refl) }, tt),
  );
  own = sized_row _ (Vhd one) _;
  there = refl;
  filled = refl;
  had = omega arith;
  none_making = refl;
  no_image = refl;
}

pub thin_stands : standing_volume thin_table one ≡ Some (Vhd one)
unfolding standing_volume row_of name_eq
thin_stands = refl

pub thin_sound : fault_of thin_outline ≡ None
unfolding fault_of record_volume_fault too_many_fault misnamed_fault second_entry_fault lost_entry_fault old_leaf_fault invalid_fault tree_fault entry_link_fault record_fault disk_fault first_name children chain_length is_entry_linked outline_records standing_volume uuids in_order with_uuid row_of name_eq record_extents div_up is_base is_at_stage image_with numbers
thin_sound = refl

-- of the UUID of the image alone do entry and image speak
other_name : (v : List ℕ) → is_apart (one ∷ []) (Vhd v) ≡ true → bytes_eq one v ≡ false
other_name v apart = by (bytes_eq one v) refl
  where
    by : (b : Bool) → bytes_eq one v ≡ b → b ≡ false
    by false is = refl
    by true is = absurd (true≢false (sym apart ∙ ap (λ b. not ((b || false) || false)) is))

rows_alike : (n : Name) → is_apart (one ∷ []) n ≡ true → rows enlarging_table n ≡ rows thin_table n
unfolding row_of name_eq
rows_alike Mgt apart = refl
rows_alike (Vhd v) apart = ap (λ b. cond b (Some (sized_row false (Vhd one) (16 ∷ 17 ∷ 18 ∷ []))) None) (other_name v apart) ∙ sym (ap (λ b. cond b (Some (sized_row false (Vhd one) (16 ∷ []))) None) (other_name v apart))
rows_alike (Raw v) apart = refl
rows_alike (Old v) apart = refl
rows_alike (Cbt v) apart = refl
rows_alike (Clone x y z) apart = refl
rows_alike (Inflate v k) apart = ap (λ b. cond (b && (1 == k)) (Some (sized_row false (Inflate one 1) [])) None) (other_name v apart)
rows_alike (Coalesce x y) apart = refl
rows_alike (Relink x y) apart = refl
rows_alike (Leaf x y) apart = refl

pub thin_beside : IsBeside thin_outline (record thin_outline { table = enlarging_table }) (one ∷ [])
unfolding row_of name_eq record_volume_fault too_many_fault second_entry_fault record_fault disk_fault first_name children chain_length is_entry_linked outline_records standing_volume uuids in_order with_uuid record_extents div_up is_base is_at_stage image_with numbers
thin_beside = record {
  extent = refl;
  block = refl;
  entries = refl;
  later = omega arith;
  found = found;
  rows_apart = rows_alike;
  links_apart = λ n apart. refl;
  parents_apart = no_parent;
  children_apart = λ n apart none. none;
  others = others;
  few = refl;
  one_each = refl;
  records = refl;
  disks = refl;
}
  where
    found : (r : Row) → In r enlarging_table.volumes → rows enlarging_table r.name ≡ Some r
    found r (inl is) = subst (λ q. rows enlarging_table q.name ≡ Some q) (sym is) refl
    found r (inr (inl is)) = subst (λ q. rows enlarging_table q.name ≡ Some q) (sym is) refl
    found r (inr (inr (inl is))) = subst (λ q. rows enlarging_table q.name ≡ Some q) (sym is) refl
    found r (inr (inr (inr none))) = absurd none

    no_parent : (n p : Name) (i : Link) → is_apart (one ∷ []) n ≡ true → thin_links n ≡ Some i → i.parent ≡ Some p → is_apart (one ∷ []) p ≡ true
    no_parent (Vhd v) p i apart is linked = absurd (none-some p (ap (λ (x : Link). x.parent) (same_Some _ i is) ∙ linked))
    no_parent Mgt p i apart is linked = absurd (none-some i is)
    no_parent (Raw v) p i apart is linked = absurd (none-some i is)
    no_parent (Old v) p i apart is linked = absurd (none-some i is)
    no_parent (Cbt v) p i apart is linked = absurd (none-some i is)
    no_parent (Clone x y z) p i apart is linked = absurd (none-some i is)
    no_parent (Inflate v k) p i apart is linked = absurd (none-some i is)
    no_parent (Coalesce x y) p i apart is linked = absurd (none-some i is)
    no_parent (Relink x y) p i apart is linked = absurd (none-some i is)
    no_parent (Leaf x y) p i apart is linked = absurd (none-some i is)

    alone : (r q : Row) → r ≡ q → PassesAlone (record thin_outline { table = enlarging_table }) q → PassesAlone (record thin_outline { table = enlarging_table }) r
    alone r q is passes = subst (PassesAlone (record thin_outline { table = enlarging_table })) (sym is) passes

    others : (r : Row) → In r enlarging_table.volumes → is_settled_name (one ∷ []) r.name ≡ false → PassesAlone (record thin_outline { table = enlarging_table }) r
    others r (inl is) at_work = alone r _ is (record { named = refl; at_stage = refl; owned = refl; valid = refl; placed = refl; linked = refl })
    others r (inr (inl is)) at_work = absurd (true≢false (ap (λ (q : Row). is_settled_name (one ∷ []) q.name) (sym is) ∙ at_work))
    others r (inr (inr (inl is))) at_work = alone r _ is (record { named = refl; at_stage = refl; owned = refl; valid = refl; placed = refl; linked = refl })
    others r (inr (inr (inr none))) at_work = absurd none
