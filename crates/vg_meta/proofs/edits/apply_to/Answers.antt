use Rattle.std.proofs.Common.{◌≡◌, ◌-◌, ◌^◌, length, sym, ap, subst, ◌∙◌, arith}
use Rattle.vg_meta.specs.declared.changes.Change.{Change}
use Rattle.vg_meta.specs.Tables.{Row}
use Rattle.vg_meta.specs.Roomy.{rows_alone, places_in}
use Rattle.vg_meta.specs.Changes.{AllowsIn, AllowsRename}
use Rattle.vg_meta.proofs.RoomLaws.{at_name, at_names, absent_then}
use Rattle.vg_meta.proofs.edits.apply_to.Goals as goal

pub put_in-requires-in-Rename-clause-absent : goal.put_in-requires-in-Rename-clause-absent
put_in-requires-in-Rename-clause-absent c =
    let rs = rows_alone c.args.volumes.now.items in
    let allowed : AllowsRename rs c.in-Rename.from c.in-Rename.to = subst (λ (x : Change). AllowsIn (2 ^ 32) rs x) c.in-Rename.is c.requires.allowed in
    absent_then rs (rows_alone c.take_out-volume.new.volumes.items) c.in-Rename.from c.in-Rename.to c.rename.new.self.row.name allowed
    c.take_out-volume.ensures.rows (ap (λ (r : Row). r.name) c.rename.ensures.row)

pub returns-in-Create-clause-places : goal.returns-in-Create-clause-places
returns-in-Create-clause-places c = λ n.
    let named : c.made.result.row.name ≡ c.in-Create.name = ap (λ (r : Row). r.name) c.made.ensures in
    rw c.in-Create.is (at_name (places_in c.args.volumes.now.items) (places_in c.put_in.new.volumes.items) (λ _. 0) c.in-Create.name (omega arith)
    (λ m other. c.put_in.ensures.others m (λ e. other (sym named ∙ e))) n)

pub returns-in-Remove-clause-places : goal.returns-in-Remove-clause-places
returns-in-Remove-clause-places c = λ n.
    rw c.in-Remove.is (at_name (places_in c.args.volumes.now.items) (places_in c.take_out.new.volumes.items) (λ _. 0) c.in-Remove.name (omega arith) c.take_out.ensures.others n)

pub returns-in-Rename-clause-places : goal.returns-in-Rename-clause-places
returns-in-Rename-clause-places c = λ n.
    let named : c.rename.new.self.row.name ≡ c.in-Rename.to = ap (λ (r : Row). r.name) c.rename.ensures.row in
    let carried : places_in c.args.volumes.now.items c.in-Rename.from ≡ places_in c.put_in-in-Rename.new.volumes.items c.in-Rename.to =
    c.take_out-volume.ensures.places ∙ sym c.rename.ensures.spare ∙ sym c.put_in-in-Rename.ensures.places
    ∙ ap (places_in c.put_in-in-Rename.new.volumes.items) named in
    rw c.in-Rename.is (at_names (places_in c.args.volumes.now.items) (places_in c.take_out-volume.new.volumes.items) (places_in c.put_in-in-Rename.new.volumes.items)
    c.in-Rename.from c.in-Rename.to (omega (arith, carried)) c.take_out-volume.ensures.others
    (λ m other. c.put_in-in-Rename.ensures.others m (λ e. other (sym named ∙ e))) n)

pub returns-in-Grow-clause-places : goal.returns-in-Grow-clause-places
returns-in-Grow-clause-places c = λ n.
    let old = places_in c.args.volumes.now.items in
    let added : length c.as_slice.result.now ≡ length c.in-Grow.extents = ap length c.as_slice.ensures in
    rw c.in-Grow.is (at_name old (places_in c.grow.new.volumes.items) (λ m. old m - length c.in-Grow.extents) c.in-Grow.name
    (omega (arith, c.grow.ensures.places, added)) c.grow.ensures.others n)
