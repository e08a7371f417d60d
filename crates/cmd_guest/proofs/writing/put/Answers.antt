use Rattle.std.proofs.lemmas.List.{length-map}
use Rattle.std.proofs.lemmas.Result.{on_ok_weaker}
use Rattle.std.proofs.Common.{◌≡◌, ◌+◌, ◌-◌, ◌/◌, ◌≤◌, length, refl, sym, ap, ap₂, ◌∙◌, subst, subst₂, arith}
use Rattle.common_laws.specs.Lists.{numbers}
use Rattle.sm_base.specs.Names.{IsName}
use Rattle.sm_base.specs.declared.sizes.Geometry.{Geometry}
use Rattle.sm_ready.proofs.Orders.{geometry_of}
use Rattle.cmd_guest.proofs.AskLaws.{le-div}
use Rattle.cmd_guest.proofs.MarkLaws.{few_blocks}
use Rattle.vhd_chain.specs.Trees.{tree_row, with_row, without}
use Rattle.vhd_chain.proofs.ByName.{tree_row-without_same}
use Rattle.sm_machine.specs.declared.commands.Command.TheVariants.{Write}
use Rattle.sm_machine.specs.Refusals.{named}
use Rattle.sm_machine.specs.Steps.{blocks_touched, written_op}
use Rattle.vg_meta.specs.Roomy.{table_alone}
use Rattle.sm_ready.specs.Known.{Known, known, shape_in}
use Rattle.sm_ready.specs.declared.memory.Memory.{Memory}
use Rattle.cmd_guest.proofs.DoneLaws.{between_after, both_ok, own_write, some_fits, write_room, write_taken, write_whole, row_taken, shape_now}
use Rattle.sm_ready.proofs.PutBackLaws.{put_back, row_proper, spared}
use Rattle.sm_ready.proofs.TruthLaws.{row_stands, row_true}
use Rattle.gc_abandon.proofs.EndingLaws.{pair_found, worked_named}
use Rattle.gc_abandon.specs.Abandoning.{folded_pair}
use Rattle.sm_machine.specs.Operations.{told}
use Rattle.cmd_guest.proofs.OwnLaws.{own_there}
use Rattle.cmd_guest.proofs.ReplacedLaws.{behind_write}
use Rattle.cmd_guest.proofs.WriteLaws.{like_grown, with_image}
use Rattle.cmd_guest.proofs.WritingLaws.{writes_only}
use Rattle.cmd_guest.proofs.writing.put.Given.{Over}
use Rattle.cmd_guest.proofs.writing.put.Goals as goal

pub unreachable-requires : goal.unreachable-requires
unfolding named
unreachable-requires g c = own_there _ _ _ c.args.disk.now c.requires.session.orderly (Write c.args.disk.now c.args.sector c.args.from.now) refl c.requires.allowed
    (ap (tree_row c.args.memory.now.tree.rows) (sym c.image_name-volume.ensures) ∙ sym c.take.ensures.taken ∙ c.in_default.is)

pub write-written-requires-clause-stands : goal.write-written-requires-clause-stands
write-written-requires-clause-stands g c = row_stands _ _ _ c.requires.session.orderly c.in-Some.row (own_write _ _ _ _ c.args.sector c.args.from.now c.requires.session.orderly c.in-Some.row c.requires.allowed (row_taken c.args.memory.now.tree.rows c.args.disk.now _ _ c.in-Some.row c.image_name-volume.ensures c.take.ensures.taken c.in-Some.is)).there

pub write-written-requires-clause-true_now : goal.write-written-requires-clause-true_now
write-written-requires-clause-true_now g c = λ told. row_true g.S.Store c.args.store.now c.args.memory.now c.requires.session.orderly c.requires.session.true_images told c.in-Some.row (own_write _ _ _ _ c.args.sector c.args.from.now c.requires.session.orderly c.in-Some.row c.requires.allowed (row_taken c.args.memory.now.tree.rows c.args.disk.now _ _ c.in-Some.row c.image_name-volume.ensures c.take.ensures.taken c.in-Some.is)).there

pub write-written-requires-clause-whole : goal.write-written-requires-clause-whole
write-written-requires-clause-whole g c = write_whole _ _ _ _ c.in-Some.row c.requires.session.orderly (own_write _ _ _ _ c.args.sector c.args.from.now c.requires.session.orderly c.in-Some.row c.requires.allowed (row_taken c.args.memory.now.tree.rows c.args.disk.now _ _ c.in-Some.row c.image_name-volume.ensures c.take.ensures.taken c.in-Some.is)) c.args.sector c.args.from.now c.requires.allowed

pub write-written-requires-clause-room : goal.write-written-requires-clause-room
write-written-requires-clause-room g c = write_room _ _ _ _ c.in-Some.row c.requires.session.orderly (own_write _ _ _ _ c.args.sector c.args.from.now c.requires.session.orderly c.in-Some.row c.requires.allowed (row_taken c.args.memory.now.tree.rows c.args.disk.now _ _ c.in-Some.row c.image_name-volume.ensures c.take.ensures.taken c.in-Some.is)) c.args.sector c.args.from.now c.requires.allowed

-- at least one sector is written, and no more than the image has
pub overflow_add-end : goal.overflow_add-end
overflow_add-end g c =
    let f = some_fits _ _ (known c.args.memory.now) _ c.in-Some.row c.requires.session.orderly (own_write _ _ _ _ c.args.sector c.args.from.now c.requires.session.orderly c.in-Some.row c.requires.allowed (row_taken c.args.memory.now.tree.rows c.args.disk.now _ _ c.in-Some.row c.image_name-volume.ensures c.take.ensures.taken c.in-Some.is)) c.args.sector c.args.from.now c.requires.allowed in
    omega (arith, f.1, c.requires.count, c.sectors-sectors.ensures, c.sectors-sectors.type_inv)

pub overflow_sub-end : goal.overflow_sub-end
overflow_sub-end g c =
    let f = some_fits _ _ (known c.args.memory.now) _ c.in-Some.row c.requires.session.orderly (own_write _ _ _ _ c.args.sector c.args.from.now c.requires.session.orderly c.in-Some.row c.requires.allowed (row_taken c.args.memory.now.tree.rows c.args.disk.now _ _ c.in-Some.row c.image_name-volume.ensures c.take.ensures.taken c.in-Some.is)) c.args.sector c.args.from.now c.requires.allowed in
    omega (arith, f.0, c.requires.count)

pub mark-requires-clause-image : goal.mark-requires-clause-image
mark-requires-clause-image g c = λ leaf parent is. worked_named _ _ (known c.args.memory.now) leaf c.requires.session.orderly (pair_found c.args.memory.now.operation (told c.args.memory.now.operation) (folded_pair (told c.args.memory.now.operation)) refl refl leaf parent is).child

block_is : (g : Over) (c : goal.After-mark-arg-1 g) → c.from-block.result ≡ (g.S.Store.site c.args.store.now).geometry.block
block_is g c = c.from-block.ensures ∙ ap (λ (x : Geometry). x.block) c.geometry.ensures

pub mark-requires-clause-order : goal.mark-requires-clause-order
mark-requires-clause-order g c =
    let f = some_fits _ _ (known c.args.memory.now) _ c.in-Some.row c.requires.session.orderly (own_write _ _ _ _ c.args.sector c.args.from.now c.requires.session.orderly c.in-Some.row c.requires.allowed (row_taken c.args.memory.now.tree.rows c.args.disk.now _ _ c.in-Some.row c.image_name-volume.ensures c.take.ensures.taken c.in-Some.is)) c.args.sector c.args.from.now c.requires.allowed in
    let least = (geometry_of _ _ _ c.requires.session.orderly).block_least in
    let low = le-div c.args.sector (c.args.sector + c.args.count - 1) c.from-block.result (omega (arith, least, block_is g c)) (omega (arith, f.0, c.requires.count)) in omega (arith, low)

pub mark-requires-clause-few : goal.mark-requires-clause-few
mark-requires-clause-few g c = λ folded.
    let own = (own_write _ _ _ _ c.args.sector c.args.from.now c.requires.session.orderly c.in-Some.row c.requires.allowed (row_taken c.args.memory.now.tree.rows c.args.disk.now _ _ c.in-Some.row c.image_name-volume.ensures c.take.ensures.taken c.in-Some.is)) in
    let f = some_fits _ _ (known c.args.memory.now) _ c.in-Some.row c.requires.session.orderly (own_write _ _ _ _ c.args.sector c.args.from.now c.requires.session.orderly c.in-Some.row c.requires.allowed (row_taken c.args.memory.now.tree.rows c.args.disk.now _ _ c.in-Some.row c.image_name-volume.ensures c.take.ensures.taken c.in-Some.is)) c.args.sector c.args.from.now c.requires.allowed in
    subst₂ (λ b n. (c.args.sector + n - 1) / b + 1 ≤ 1044480) (sym (block_is g c)) (sym c.requires.count) (few_blocks _ _ (known c.args.memory.now) c.in-Some.row c.args.sector (length c.args.from.now / 512) c.requires.session.orderly own.there f.0 f.1)

pub add-requires-clause-name : goal.add-requires-clause-name
add-requires-clause-name g c = subst IsName (sym (like_grown c.in-Some.row c.write-written.new.self c.write-written.ensures.grown).name) (row_proper _ _ _ c.requires.session.orderly c.in-Some.row (own_write _ _ _ _ c.args.sector c.args.from.now c.requires.session.orderly c.in-Some.row c.requires.allowed (row_taken c.args.memory.now.tree.rows c.args.disk.now _ _ c.in-Some.row c.image_name-volume.ensures c.take.ensures.taken c.in-Some.is)).there)

pub add-requires-clause-absent : goal.add-requires-clause-absent
add-requires-clause-absent g c =
    let name = (own_write _ _ _ _ c.args.sector c.args.from.now c.requires.session.orderly c.in-Some.row c.requires.allowed (row_taken c.args.memory.now.tree.rows c.args.disk.now _ _ c.in-Some.row c.image_name-volume.ensures c.take.ensures.taken c.in-Some.is)).name ∙ sym (like_grown c.in-Some.row c.write-written.new.self c.write-written.ensures.grown).name in
    ap₂ (λ rs n. tree_row rs n) (c.take.ensures.rows ∙ ap (λ n. without n c.args.memory.now.tree.rows) (c.image_name-volume.ensures ∙ name)) refl ∙ tree_row-without_same c.args.memory.now.tree.rows _

-- memory behind it
abbrev after : (g : Over) (c : goal.After-add g) → Memory
after g c = record { tree = c.add.new.self; records = c.args.memory.now.records; logs = c.args.memory.now.logs; attached = c.args.memory.now.attached; operation = c.mark.new.operation }

-- the blocks that the write reaches are marked
marked : (g : Over) (c : goal.After-add g) → c.mark.new.operation ≡ written_op c.args.disk.now (blocks_touched (shape_in (g.S.Store.site c.args.store.now) (table_alone (g.S.Store.table c.args.store.now)) (known c.args.memory.now)) c.args.sector (length c.args.from.now / 512)) c.args.memory.now.operation
unfolding shape_in
marked g c = c.mark.ensures ∙ ap₂ (λ b n. written_op c.args.disk.now (numbers (c.args.sector / b) ((c.args.sector + n - 1) / b + 1 - c.args.sector / b)) c.args.memory.now.operation)
    (c.from-block.ensures ∙ ap (λ (x : Geometry). x.block) c.geometry.ensures) c.requires.count

memory_is : (g : Over) (c : goal.After-add g) → known (after g c)
    ≡ behind_write (g.S.Store.site c.args.store.now) (table_alone (g.S.Store.table c.args.store.now)) (known c.args.memory.now) c.args.disk.now c.args.sector (length c.args.from.now / 512) (with_image c.write-written.new.self c.in-Some.row)
memory_is g c = ap₂ (λ rows o. let k : Known = record (known c.args.memory.now) { rows = rows; op = o } in k)
    ((c.add.ensures.rows ∙ ap (with_row (with_image c.write-written.new.self c.in-Some.row)) (c.take.ensures.rows ∙ ap (λ n. without n c.args.memory.now.tree.rows) (c.image_name-volume.ensures ∙ (own_write _ _ _ _ c.args.sector c.args.from.now c.requires.session.orderly c.in-Some.row c.requires.allowed (row_taken c.args.memory.now.tree.rows c.args.disk.now _ _ c.in-Some.row c.image_name-volume.ensures c.take.ensures.taken c.in-Some.is)).name))
    ∙ put_back _ _ (known c.args.memory.now) c.requires.session.orderly c.in-Some.row (with_image c.write-written.new.self c.in-Some.row) (own_write _ _ _ _ c.args.sector c.args.from.now c.requires.session.orderly c.in-Some.row c.requires.allowed (row_taken c.args.memory.now.tree.rows c.args.disk.now _ _ c.in-Some.row c.image_name-volume.ensures c.take.ensures.taken c.in-Some.is)).there (like_grown c.in-Some.row c.write-written.new.self c.write-written.ensures.grown).name))
    (marked g c)

pub returns-clause-beside_tree : goal.returns-clause-beside_tree
returns-clause-beside_tree g c = record {
  images = ap (λ (k : Known). length k.rows) (memory_is g c) ∙ length-map c.args.memory.now.tree.rows _;
  spare = spared (c.take.ensures.some) c.in-Some.is c.add.ensures.spare;
  records = refl;
  logs = refl;
  attached = refl;
  operation = refl;
}

pub returns-clause-session_still : goal.returns-clause-session_still
returns-clause-session_still g c = on_ok_weaker c.write-written.result (λ x.
    between_after g.S.Store c.args.store.now c.write-written.new.store c.args.memory.now (after g c) c.args.disk.now c.args.sector c.args.from.now c.in-Some.row c.write-written.new.self c.requires.session.orderly c.requires.allowed
    (row_taken c.args.memory.now.tree.rows c.args.disk.now _ _ c.in-Some.row c.image_name-volume.ensures c.take.ensures.taken c.in-Some.is) c.write-written.ensures.works c.write-written.ensures.grown (memory_is g c)
    x.0 x.1.0 x.1.1 (returns-clause-beside_tree g c) c.requires.session)
    (both_ok _ _ c.write-written.result c.write-written.ensures.map (both_ok _ _ c.write-written.result c.write-written.ensures.stands_after c.write-written.ensures.true_after))

pub returns-clause-shape : goal.returns-clause-shape
returns-clause-shape g c = on_ok_weaker c.write-written.result (λ is.
    shape_now g.S.Store c.args.store.now c.write-written.new.store c.args.memory.now (after g c) c.args.disk.now c.args.sector c.args.from.now c.in-Some.row c.write-written.new.self c.requires.session.orderly c.requires.allowed
    (row_taken c.args.memory.now.tree.rows c.args.disk.now _ _ c.in-Some.row c.image_name-volume.ensures c.take.ensures.taken c.in-Some.is) c.write-written.ensures.works c.write-written.ensures.grown (memory_is g c) is) c.write-written.ensures.map

pub returns-clause-taken : goal.returns-clause-taken
returns-clause-taken g c = λ told ready.
    let e = c.write-written.ensures in
    write_taken g.S.Store c.args.store.now c.write-written.new.store c.args.memory.now (after g c) c.args.disk.now c.args.sector c.args.from.now c.in-Some.row c.write-written.new.self c.requires.session.orderly c.requires.allowed
    (row_taken c.args.memory.now.tree.rows c.args.disk.now _ _ c.in-Some.row c.image_name-volume.ensures c.take.ensures.taken c.in-Some.is) c.write-written.ensures.works c.write-written.ensures.grown (memory_is g c)
    c.requires.session.usable told ready (g.met.S.Store.leaves_now c.write-written.new.store told (e.works.stays.failed ∙ c.requires.session.usable)) e.guarded c.write-written.result e.map e.stands_after e.heads e.true_after e.written

pub returns-clause-writes : goal.returns-clause-writes
returns-clause-writes g c =
    let own = own_write _ _ _ _ c.args.sector c.args.from.now c.requires.session.orderly c.in-Some.row c.requires.allowed (row_taken c.args.memory.now.tree.rows c.args.disk.now _ _ c.in-Some.row c.image_name-volume.ensures c.take.ensures.taken c.in-Some.is) in
    writes_only g.S.Store c.args.store.now c.write-written.new.store c.args.memory.now c.args.disk.now c.args.sector c.args.from.now c.in-Some.row own.name own.found c.write-written.ensures.works c.write-written.ensures.places
