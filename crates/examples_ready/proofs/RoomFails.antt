-- A copy whose parent has no room for the blocks of both images.
use Rattle.std.proofs.Common.{◌≡◌, inl, inr, ℕ, ◌≤◌, ◌++◌, true, false, List, None, refl, sym, ◌∙◌, subst, arith, lit≤, lit<, bytes_eq, [], ◌∷◌, Some}
use Rattle.std.specs.List.Sorted.{IsStrictlySortedBy}
use Rattle.common_laws.specs.Lists.{In, numbers}
use Rattle.sm_base.specs.Kinds.{is_image}
use Rattle.sm_base.specs.Names.{IsName, name_cmp, spelling, uuid_text}
use Rattle.sm_base.specs.Numbers.{thin, first as first_sector, div_up}
use Rattle.sm_base.specs.declared.names.Name.{Name}
use Rattle.sm_base.specs.declared.names.Name.TheVariants.{Mgt, Raw, Vhd, Old, Cbt, Clone, Inflate, Coalesce, Relink, Leaf}
use Rattle.sm_machine.specs.Collector.{count_either}
use Rattle.sm_machine.specs.Shapes.{count_blocks, image_uuid, is_vhd, refs, top}
use Rattle.sm_machine.specs.WellFormed.{IsWellFormed}
use Rattle.uuid.specs.Text.{by_index}
use Rattle.vg_layout.specs.Places.{record_extents}
use Rattle.vg_meta.specs.Tables.{IsTable, Row, rows, row_of, name_eq}
use Rattle.vhd_chain.specs.Trees.{tree_row}
use Rattle.vhd_map.specs.Slots.{top_of}
use Rattle.vhd_volumes.specs.Truth.{HasRoomFor}
use Rattle.sm_logs.proofs.OrderLaws.{rising_first}
use Rattle.sm_ready.specs.Known.{row_face, tree_face, shape_in}
use Rattle.sm_ready.specs.Orderly.{IsOrderly, IsRoomy}
use Rattle.examples_moments.specs.Worked.{first, second, base}
use Rattle.examples_ready.specs.FailingMemory.{four_slots, tight_known}
use Rattle.examples_ready.specs.FailingTables.{tight_table}
use Rattle.examples_ready.specs.WorkedRows.{site, sizes}
use Rattle.examples_ready.specs.Repositories.{copy}
use Rattle.examples_ready.proofs.ChainOrderly.{chain_has_shape, chain_stands, chain_well_formed}
use Rattle.examples_ready.proofs.CopyOrderly.{copy_runs}
use Rattle.examples_ready.proofs.SlotSteps.{front_within}
use Rattle.examples_ready.proofs.TableSteps.{each, below_by, distinct_by, first_uuid, second_uuid, base_uuid_right, face_step}

abbrev used : List ℕ
used = numbers 0 16 ++ (numbers 21 10 ++ numbers 16 1)

tight_is_table : IsTable 64 tight_table
unfolding IsName IsStrictlySortedBy name_cmp spelling uuid_text by_index numbers
tight_is_table = record {
  sequence = lit< tt;
  volumes = record {
    each = (record { name = tt; kind = refl }, (record { name = first_uuid; kind = refl }, (record { name = second_uuid; kind = refl }, (record { name = base_uuid_right; kind = refl }, (record { name = (second_uuid, base_uuid_right); kind = refl }, tt)))));
    rising = ((refl, (refl, (refl, (refl, tt)))), ((refl, (refl, (refl, tt))), ((refl, (refl, tt)), ((refl, tt), (tt, tt)))));
    below = below_by 64 used refl;
    distinct = distinct_by used refl;
  };
}

tight_faces : (n : Name) → is_image n ≡ true → row_face (rows tight_table n) ≡ tree_face (tree_row tight_known.rows n)
unfolding row_of name_eq tree_row numbers
tight_faces Mgt h = absurd (let e = h in cc)
tight_faces (Vhd u) h = face_step (bytes_eq first u) _ _ _ _ refl (face_step (bytes_eq second u) _ _ _ _ refl (face_step (bytes_eq base u) _ _ None None refl refl))
tight_faces (Raw u) h = refl
tight_faces (Old u) h = refl
tight_faces (Cbt u) h = refl
tight_faces (Clone a b c) h = absurd (let e = h in cc)
tight_faces (Inflate a n) h = absurd (let e = h in cc)
tight_faces (Coalesce a b) h = absurd (let e = h in cc)
tight_faces (Relink a b) h = absurd (let e = h in cc)
tight_faces (Leaf a b) h = absurd (let e = h in cc)

tight_old : (r : Row) → In r tight_table.volumes → r.fresh ≡ false
tight_old = each (λ r. r.fresh ≡ false) tight_table.volumes (refl, (refl, (refl, (refl, (refl, tt)))))

four_room : HasRoomFor sizes (top_of four_slots) 160
unfolding first_sector div_up
four_room = lit≤ tt

pub tight_only : IsRoomy (shape_in site tight_table tight_known) → IsOrderly site tight_table tight_known
unfolding record_extents div_up refs row_of name_eq numbers shape_in image_uuid
tight_only h = record {
  table = tight_is_table;
  few_extents = lit≤ tt;
  record_volume = refl;
  few = lit≤ tt;
  new_named = λ r here new. absurd (let e = sym (tight_old r here) ∙ new in (let x = e in cc));
  images = tight_faces;
  logs = λ u. refl;
  few_logs = lit≤ tt;
  logs_in_order = rising_first;
  log_room = λ l i. absurd i;
  places = refl;
  entries = refl;
  stands = chain_stands four_slots 1 refl (front_within (Some 0 ∷ Some 1 ∷ Some 2 ∷ Some 3 ∷ []) 60 (lit≤ tt)) four_room (lit< tt);
  well_formed = ∣ subst IsWellFormed (sym (chain_has_shape copy four_slots 1 tight_table refl)) (chain_well_formed copy four_slots 1 refl (lit< tt) (lit≤ tt) (copy_runs four_slots 1)) ∣₁;
  roomy = h;
  counts = λ n. refl;
}

pub tight_fails : ¬ IsRoomy (shape_in site tight_table tight_known)
unfolding shape_in thin first_sector div_up top count_either count_blocks is_vhd
tight_fails h = let e : 2 ≤ 1 = h _ _ (inr (inl refl)) (inr (inr (inl refl))) refl refl refl in omega (arith, e)
