-- Table and memory are orderly while children are linked past a hidden image, and the machine links the disk's image next.
use Rattle.std.proofs.Common.{◌≡◌, true, [], ◌∷◌, Some, refl, sym, ap, ◌∙◌, subst, lit≤, lit<}
use Rattle.std.specs.List.Sorted.{IsStrictlySortedBy}
use Rattle.sm_base.specs.Kinds.{is_image}
use Rattle.sm_base.specs.Names.{IsName, name_cmp, spelling, uuid_text}
use Rattle.sm_base.specs.Numbers.{div_up}
use Rattle.sm_base.specs.declared.names.Name.{Name}
use Rattle.sm_base.specs.declared.names.Name.TheVariants.{Mgt, Raw, Vhd, Old, Cbt, Clone, Inflate, Coalesce, Relink, Leaf}
use Rattle.uuid.specs.Text.{by_index}
use Rattle.common_laws.specs.Lists.{numbers}
use Rattle.vg_meta.specs.Tables.{IsTable, rows, row_of, name_eq}
use Rattle.vg_layout.specs.Places.{record_extents}
use Rattle.sm_machine.specs.Shapes.{image_uuid, same_image, refs}
use Rattle.sm_base.specs.declared.operations.Plan.TheVariants.{RelinkOne}
use Rattle.sm_machine.specs.Collector.{next_step, plan_running}
use Rattle.sm_machine.specs.Shapes.{children}
use Rattle.sm_machine.specs.WellFormed.{IsWellFormed}
use Rattle.vhd_chain.specs.Trees.{tree_row}
use Rattle.sm_logs.proofs.OrderLaws.{rising_first}
use Rattle.sm_ready.specs.Known.{row_face, tree_face, shape_in}
use Rattle.sm_ready.specs.Orderly.{IsOrderly}
use Rattle.examples_moments.specs.Worked.{first, second, base}
use Rattle.examples_ready.specs.WorkedRows.{site, first_slot}
use Rattle.examples_ready.specs.Repositories.{link, link_table, link_known, link_shape}
use Rattle.examples_ready.proofs.ChainOrderly.{used, none_new, hidden_child, chain_has_shape, chain_well_formed, chain_stands, one_room}
use Rattle.examples_ready.proofs.CopyOrderly.{copy_faces}
use Rattle.examples_ready.proofs.SlotSteps.{front_within}
use Rattle.examples_ready.proofs.TableSteps.{below_by, distinct_by, first_uuid, second_uuid, base_uuid_right}

pub link_is_table : IsTable 64 link_table
unfolding IsName IsStrictlySortedBy name_cmp spelling uuid_text by_index numbers
link_is_table = record {
  sequence = lit< tt;
  volumes = record {
    each = (
      record { name = tt; kind = refl },
      (record { name = first_uuid; kind = refl }, (record { name = second_uuid; kind = refl }, (record { name = base_uuid_right; kind = refl }, (record { name = (second_uuid, base_uuid_right); kind = refl }, tt)))),
    );
    rising = ((refl, (refl, (refl, (refl, tt)))), ((refl, (refl, (refl, tt))), ((refl, (refl, tt)), ((refl, tt), (tt, tt)))));
    below = below_by 64 used refl;
    distinct = distinct_by used refl;
  };
}

-- neither entry is an image
pub link_faces : (n : Name) → is_image n ≡ true → row_face (rows link_table n) ≡ tree_face (tree_row link_known.rows n)
unfolding row_of name_eq numbers
link_faces Mgt h = absurd (let e = h in cc)
link_faces (Vhd u) h = copy_faces (Vhd u) h
link_faces (Raw u) h = copy_faces (Raw u) h
link_faces (Old u) h = copy_faces (Old u) h
link_faces (Cbt u) h = copy_faces (Cbt u) h
link_faces (Clone a b c) h = absurd (let e = h in cc)
link_faces (Inflate a n) h = absurd (let e = h in cc)
link_faces (Coalesce a b) h = absurd (let e = h in cc)
link_faces (Relink a b) h = absurd (let e = h in cc)
link_faces (Leaf a b) h = absurd (let e = h in cc)

pub link_has_shape : shape_in site link_table link_known ≡ link_shape
link_has_shape = chain_has_shape link first_slot 5 link_table refl

pub link_orderly : IsOrderly site link_table link_known
unfolding record_extents div_up refs row_of name_eq numbers shape_in image_uuid
link_orderly = record {
  table = link_is_table;
  few_extents = lit≤ tt;
  record_volume = refl;
  few = lit≤ tt;
  new_named = λ r here new. absurd (let e = sym (none_new (Relink second base) r here) ∙ new in (let x = e in cc));
  images = link_faces;
  logs = λ u. refl;
  few_logs = lit≤ tt;
  logs_in_order = rising_first;
  log_room = λ l i. absurd i;
  places = refl;
  entries = refl;
  stands = chain_stands first_slot 5 refl (front_within (Some 0 ∷ []) 63 (lit≤ tt)) one_room (lit< tt);
  well_formed = ∣ subst IsWellFormed (sym link_has_shape) (chain_well_formed link first_slot 5 refl (lit< tt) (lit≤ tt) (hidden_child link first_slot 5)) ∣₁;
  roomy = tt;
  counts = λ n. refl;
}

first_next : next_step link_shape ≡ RelinkOne (Vhd first)
unfolding next_step plan_running children same_image
first_next = refl

pub link_step : next_step (shape_in site link_table link_known) ≡ RelinkOne (Vhd first)
link_step = ap next_step link_has_shape ∙ first_next
