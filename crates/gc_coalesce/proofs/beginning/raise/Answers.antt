use Rattle.std.proofs.Common.{List, ◌≡◌, refl, sym, ap, ap₂, ◌∙◌, subst, subst₂, arith}
use Rattle.std.specs.Option.{IsSome}
use Rattle.sm_base.specs.Names.{IsName}
use Rattle.sm_disk.specs.Held.{reads}
use Rattle.sm_machine.specs.Shapes.{image_uuid}
use Rattle.vg_meta.specs.Roomy.{table_alone}
use Rattle.vhd_image.specs.Changes.{resized}
use Rattle.vhd_chain.specs.Trees.{tree_row, with_replaced}
use Rattle.vhd_chain.specs.declared.rows.TreeRow.{TreeRow}
use Rattle.vhd_chain.proofs.ByName.{tree_row-without_same}
use Rattle.sm_ready.specs.Done.{at_rest}
use Rattle.sm_ready.specs.Known.{Known, known, shape_in}
use Rattle.sm_ready.specs.Orderly.{IsOrderly}
use Rattle.sm_ready.specs.Ready.{IsReady, IsTidy}
use Rattle.sm_ready.proofs.Orders.{In-tree_row}
use Rattle.sm_ready.proofs.PutBackLaws.{row_proper, spared}
use Rattle.sm_ready.proofs.RoomLaws.{rows_stays}
use Rattle.sm_ready.proofs.TakenLaws.{is_told}
use Rattle.sm_ready.proofs.TruthLaws.{row_stands, row_true}
use Rattle.sm_disk.proofs.HeldLaws.{Keeps-none}
use Rattle.sm_ready.proofs.GrownStores.{true_sized}
use Rattle.sm_ready.proofs.SizedRows.{beside_resized, rows_back, same_name as name_kept, tidy_sized, with_image}
use Rattle.gc_coalesce.proofs.BeginRaise.{IsToRaise, after, no_less, orderly_raised, own_vhd, size_proper}
use Rattle.gc_coalesce.proofs.BeginStores.{child_some, none_raised, parent_some, raise_ready, raise_safe, raised_is, safe_ready, to_raise}
use Rattle.gc_coalesce.proofs.beginning.raise.Given.{Over}
use Rattle.gc_coalesce.proofs.beginning.raise.Goals as goal

pub size_of-sectors-requires : goal.size_of-sectors-requires
size_of-sectors-requires g c = child_some _ _ (known c.args.memory.now) _ _ c.requires.session.orderly c.requires.can

pub size_of-requires : goal.size_of-requires
size_of-requires g c = parent_some _ _ (known c.args.memory.now) _ _ c.requires.session.orderly c.requires.can

-- ---- the sizes are equal

pub returns-then-size_of-sectors-clause-shape : goal.returns-then-size_of-sectors-clause-shape
returns-then-size_of-sectors-clause-shape g c =
    sym (none_raised _ _ (known c.args.memory.now) _ _ c.requires.session.orderly c.requires.can (sym c.size_of.ensures ∙ c.if-size_of-sectors.true ∙ c.size_of-sectors.ensures))

pub returns-then-size_of-sectors-clause-safe : goal.returns-then-size_of-sectors-clause-safe
returns-then-size_of-sectors-clause-safe g c = λ told ready.
    (safe_ready (is_told g.S.Store c.args.store.now c.args.memory.now c.requires.session.orderly c.requires.session.usable told ready (g.met.S.Store.leaves_now c.args.store.now told c.requires.session.usable))).0

pub returns-then-size_of-sectors-clause-ready : goal.returns-then-size_of-sectors-clause-ready
returns-then-size_of-sectors-clause-ready g c = λ told ready.
    ((safe_ready (is_told g.S.Store c.args.store.now c.args.memory.now c.requires.session.orderly c.requires.session.usable told ready (g.met.S.Store.leaves_now c.args.store.now told c.requires.session.usable))).1, refl)

-- ---- the parent is smaller

pub unreachable-requires : goal.unreachable-requires
unreachable-requires g c =
    let some = parent_some _ _ (known c.args.memory.now) _ _ c.requires.session.orderly c.requires.can in
    let none = sym c.take.ensures.taken ∙ c.in_default.is in
    absurd (let x = subst IsSome none some in cc)

-- the parent, in the row that was taken out: before its size is set
abbrev taken : (g : Over) (c : goal.After-set_size-arg-2-1 g) → IsToRaise (g.S.Store.site c.args.store.now) (table_alone (g.S.Store.table c.args.store.now)) (known c.args.memory.now) (image_uuid c.args.parent.now) c.size_of-sectors.result c.in-Some.row
taken g c = to_raise _ _ (known c.args.memory.now) _ _ c.requires.session.orderly c.requires.can c.in-Some.row (sym c.take.ensures.taken ∙ c.in-Some.is) c.size_of-sectors.result c.size_of-sectors.ensures (λ same. c.if-size_of-sectors.false (c.size_of.ensures ∙ same))

pub set_size-sized-requires-clause-vhd : goal.set_size-sized-requires-clause-vhd
set_size-sized-requires-clause-vhd g c = own_vhd (taken g c)

pub set_size-sized-requires-clause-stands : goal.set_size-sized-requires-clause-stands
set_size-sized-requires-clause-stands g c = row_stands _ _ _ c.requires.session.orderly c.in-Some.row (taken g c).there

pub set_size-sized-requires-clause-true_now : goal.set_size-sized-requires-clause-true_now
set_size-sized-requires-clause-true_now g c = λ told. row_true g.S.Store c.args.store.now c.args.memory.now c.requires.session.orderly c.requires.session.true_images told c.in-Some.row (taken g c).there

pub set_size-sized-requires-clause-size : goal.set_size-sized-requires-clause-size
set_size-sized-requires-clause-size g c = size_proper (taken g c)

pub set_size-sized-requires-clause-grows : goal.set_size-sized-requires-clause-grows
set_size-sized-requires-clause-grows g c = no_less (taken g c)

-- once its size is set
abbrev sized : (g : Over) (c : goal.After-add-arg-1 g) → IsToRaise (g.S.Store.site c.args.store.now) (table_alone (g.S.Store.table c.args.store.now)) (known c.args.memory.now) (image_uuid c.args.parent.now) c.size_of-sectors.result c.in-Some.row
sized g c = to_raise _ _ (known c.args.memory.now) _ _ c.requires.session.orderly c.requires.can c.in-Some.row (sym c.take.ensures.taken ∙ c.in-Some.is) c.size_of-sectors.result c.size_of-sectors.ensures (λ same. c.if-size_of-sectors.false (c.size_of.ensures ∙ same))

pub add-requires-clause-name : goal.add-requires-clause-name
add-requires-clause-name g c = subst IsName (sym (name_kept c.set_size-sized.result c.size_of-sectors.result c.in-Some.row.image c.set_size-sized.new.self c.set_size-sized.ensures.new_size c.set_size-sized.ensures.unchanged)) (row_proper _ _ _ c.requires.session.orderly c.in-Some.row (sized g c).there)

pub add-requires-clause-absent : goal.add-requires-clause-absent
add-requires-clause-absent g c =
    let named = (In-tree_row c.args.memory.now.tree.rows c.args.parent.now c.in-Some.row (sym c.take.ensures.taken ∙ c.in-Some.is)).1 in
    let same = name_kept c.set_size-sized.result c.size_of-sectors.result c.in-Some.row.image c.set_size-sized.new.self c.set_size-sized.ensures.new_size c.set_size-sized.ensures.unchanged in
    ap₂ (λ rs n. tree_row rs n) c.take.ensures.rows (same ∙ named) ∙ tree_row-without_same c.args.memory.now.tree.rows c.args.parent.now

-- where a footer was not written
abbrev unwritten : (g : Over) (c : goal.After-from_residual g) → IsToRaise (g.S.Store.site c.args.store.now) (table_alone (g.S.Store.table c.args.store.now)) (known c.args.memory.now) (image_uuid c.args.parent.now) c.size_of-sectors.result c.in-Some.row
unwritten g c = to_raise _ _ (known c.args.memory.now) _ _ c.requires.session.orderly c.requires.can c.in-Some.row (sym c.take.ensures.taken ∙ c.in-Some.is) c.size_of-sectors.result c.size_of-sectors.ensures (λ same. c.if-size_of-sectors.false (c.size_of.ensures ∙ same))

pub returns-in_err-sized-clause-others : goal.returns-in_err-sized-clause-others
returns-in_err-sized-clause-others g c =
    let named = (In-tree_row c.args.memory.now.tree.rows c.args.parent.now c.in-Some.row (sym c.take.ensures.taken ∙ c.in-Some.is)).1 in
    beside_resized c.args.memory.now _ (with_image c.set_size-sized.new.self c.in-Some.row)
    (rows_back _ _ (known c.args.memory.now) c.requires.session.orderly c.in-Some.row (unwritten g c).there c.set_size-sized.new.self
    (name_kept c.set_size-sized.result c.size_of-sectors.result c.in-Some.row.image c.set_size-sized.new.self c.set_size-sized.ensures.new_size c.set_size-sized.ensures.unchanged) (sym named) c.take.ensures.rows c.add.ensures.rows)
    (spared c.take.ensures.some c.in-Some.is c.add.ensures.spare) refl refl refl refl

pub returns-in_err-sized-clause-safe : goal.returns-in_err-sized-clause-safe
returns-in_err-sized-clause-safe g c = λ told ready.
    raise_safe g.S.Store c.args.store.now c.set_size-sized.new.store c.args.memory.now _ c.size_of-sectors.result c.in-Some.row (unwritten g c) c.set_size-sized.ensures.works
    (is_told g.S.Store c.args.store.now c.args.memory.now c.requires.session.orderly c.requires.session.usable told ready (g.met.S.Store.leaves_now c.args.store.now told c.requires.session.usable)) c.set_size-sized.ensures.changes

-- where both were written
abbrev written : (g : Over) (c : goal.In_ok-sized g) → IsToRaise (g.S.Store.site c.args.store.now) (table_alone (g.S.Store.table c.args.store.now)) (known c.args.memory.now) (image_uuid c.args.parent.now) c.size_of-sectors.result c.in-Some.row
written g c = to_raise _ _ (known c.args.memory.now) _ _ c.requires.session.orderly c.requires.can c.in-Some.row (sym c.take.ensures.taken ∙ c.in-Some.is) c.size_of-sectors.result c.size_of-sectors.ensures (λ same. c.if-size_of-sectors.false (c.size_of.ensures ∙ same))

rows_are : (g : Over) (c : goal.In_ok-sized g) → c.add.new.self.rows ≡ with_replaced (with_image c.set_size-sized.new.self c.in-Some.row) c.args.memory.now.tree.rows
rows_are g c =
    let named = (In-tree_row c.args.memory.now.tree.rows c.args.parent.now c.in-Some.row (sym c.take.ensures.taken ∙ c.in-Some.is)).1 in
    rows_back _ _ (known c.args.memory.now) c.requires.session.orderly c.in-Some.row (written g c).there c.set_size-sized.new.self
    (name_kept c.set_size-sized.result c.size_of-sectors.result c.in-Some.row.image c.set_size-sized.new.self c.set_size-sized.ensures.new_size c.set_size-sized.ensures.unchanged) (sym named) c.take.ensures.rows c.add.ensures.rows

rows_sized : (g : Over) (c : goal.In_ok-sized g) → c.add.new.self.rows ≡ with_replaced (with_image (resized c.size_of-sectors.result c.in-Some.row.image) c.in-Some.row) c.args.memory.now.tree.rows
rows_sized g c = rows_are g c ∙ ap (λ x. with_replaced (with_image x c.in-Some.row) c.args.memory.now.tree.rows) c.in_ok-sized.ensures.new_size

memory_is : (g : Over) (c : goal.In_ok-sized g) → record (known c.args.memory.now) { rows = c.add.new.self.rows } ≡ after (written g c)
memory_is g c = ap (λ (rs : List TreeRow). let k : Known = record (known c.args.memory.now) { rows = rs } in k) (rows_sized g c)

pub returns-clause-others : goal.returns-clause-others
returns-clause-others g c = beside_resized c.args.memory.now _ (with_image c.set_size-sized.new.self c.in-Some.row) (rows_are g c) (spared c.take.ensures.some c.in-Some.is c.add.ensures.spare) refl refl refl refl

pub returns-clause-session_still : goal.returns-clause-session_still
returns-clause-session_still g c =
    let stays = c.set_size-sized.ensures.works.stays in
    let i = c.requires.session in
    let beside = returns-clause-others g c in
    record {
      usable = stays.failed ∙ i.usable;
      orderly = subst (λ k. IsOrderly (g.S.Store.site c.set_size-sized.new.store) (table_alone (g.S.Store.table c.set_size-sized.new.store)) k) (sym (memory_is g c))
          (subst₂ (λ s t. IsOrderly s t (after (written g c))) (sym stays.site) (sym stays.table) (orderly_raised (written g c)));
      tidy = subst (λ k. IsTidy (table_alone (g.S.Store.table c.set_size-sized.new.store)) k) (sym (memory_is g c))
          (subst (λ t. IsTidy t (after (written g c))) (sym stays.table) (tidy_sized _ _ (known c.args.memory.now) i.orderly c.in-Some.row (written g c).there c.size_of-sectors.result i.tidy));
      true_images = true_sized g.S.Store c.args.store.now c.set_size-sized.new.store c.args.memory.now c.size_of-sectors.result c.in-Some.row i.orderly (written g c).there c.set_size-sized.ensures.works
          c.set_size-sized.new.store refl refl (λ told. Keeps-none _) c.set_size-sized.new.self c.in_ok-sized.ensures.new_size c.in_ok-sized.ensures.true_after
          (record { tree = c.add.new.self; records = c.args.memory.now.records; logs = c.args.memory.now.logs; attached = c.args.memory.now.attached; operation = c.args.memory.now.operation }) (rows_sized g c) i.true_images;
      rows = rows_stays stays i.rows;
      tree_room = omega (arith, beside.images, beside.spare, i.tree_room);
      attachment_room = i.attachment_room;
    }

pub returns-clause-shape : goal.returns-clause-shape
returns-clause-shape g c =
    let stays = c.set_size-sized.ensures.works.stays in
    ap (λ k. shape_in (g.S.Store.site c.set_size-sized.new.store) (table_alone (g.S.Store.table c.set_size-sized.new.store)) k) (memory_is g c)
    ∙ ap₂ (λ s t. shape_in s t (after (written g c))) stays.site stays.table
    ∙ raised_is _ _ (known c.args.memory.now) _ _ c.requires.session.orderly c.requires.can c.in-Some.row (sym c.take.ensures.taken ∙ c.in-Some.is) c.size_of-sectors.result c.size_of-sectors.ensures (λ same. c.if-size_of-sectors.false (c.size_of.ensures ∙ same))

pub returns-clause-safe : goal.returns-clause-safe
returns-clause-safe g c = λ told ready.
    raise_safe g.S.Store c.args.store.now c.set_size-sized.new.store c.args.memory.now _ c.size_of-sectors.result c.in-Some.row (written g c) c.set_size-sized.ensures.works
    (is_told g.S.Store c.args.store.now c.args.memory.now c.requires.session.orderly c.requires.session.usable told ready (g.met.S.Store.leaves_now c.args.store.now told c.requires.session.usable)) c.set_size-sized.ensures.changes

pub returns-clause-ready : goal.returns-clause-ready
returns-clause-ready g c = λ told ready.
    let w = raise_ready g.S.Store c.args.store.now c.set_size-sized.new.store c.args.memory.now _ c.size_of-sectors.result c.in-Some.row (written g c) c.set_size-sized.ensures.works
    (is_told g.S.Store c.args.store.now c.args.memory.now c.requires.session.orderly c.requires.session.usable told ready (g.met.S.Store.leaves_now c.args.store.now told c.requires.session.usable)) c.set_size-sized.ensures.changes
    c.set_size-sized.new.self c.in_ok-sized.ensures.new_size c.in_ok-sized.ensures.true_after in
    (subst (λ k. IsReady (g.S.Store.site c.args.store.now) (table_alone (g.S.Store.table c.args.store.now)) (at_rest (reads (g.S.Store.area c.set_size-sized.new.store))) k) (sym (memory_is g c)) w.0, w.1)
