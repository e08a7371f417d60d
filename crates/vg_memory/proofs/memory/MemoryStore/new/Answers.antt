use Rattle.std.proofs.Common.{◌≡◌, ◌*◌, rules}
use Rattle.sm_disk.specs.Memory.{new_memory}
use Rattle.vg_meta.specs.Roomy.{table_alone}
use Rattle.vg_meta.specs.Tables.{new_table}
use Rattle.vg_layout.specs.Places.{record_extents}
use Rattle.vg_memory.proofs.StoreLaws.{kept_new, new_store}
use Rattle.vg_memory.proofs.memory.MemoryStore.new.Goals as goal

pub invariant_of-result : goal.invariant_of-result
invariant_of-result c =
    let table : table_alone c.in_ok-table.table ≡ new_table (record_extents c.args.geometry.extent) = search rules in
    let area : c.in_ok-area.area ≡ new_memory (c.args.extents * c.args.geometry.extent) = search rules in
    kept_new c.args.geometry.extent c.args.extents (record_extents c.args.geometry.extent) c.in_ok-table.table c.in_ok-area.area c.requires.few c.requires.records table area

pub returns : goal.returns
returns c =
    let table : table_alone c.in_ok-table.table ≡ new_table (record_extents c.args.geometry.extent) = search rules in
    let area : c.in_ok-area.area ≡ new_memory (c.args.extents * c.args.geometry.extent) = search rules in
    let calls : c.in_ok-calls.calls ≡ new_memory 0 = search rules in
    record { new = new_store c.args.geometry c.args.extents _ c.nil.result c.in_ok-table.table c.in_ok-area.area c.in_ok-calls.calls c.nil.ensures table area calls }
