use Rattle.std.proofs.Common.{◌-◌, ℕ, Some, unwrap_or, refl, ap, ◌∙◌, subst, subst₂}
use Rattle.sm_base.specs.Names.{base_uuid}
use Rattle.vg_meta.specs.Roomy.{RoomyTable, table_alone}
use Rattle.vg_volumes.specs.Sites.{Site}
use Rattle.vg_volumes.specs.Stored.{held_in, stored}
use Rattle.vg_volumes.proofs.StoredLaws.{stays_then}
use Rattle.vhd_image.specs.Made.{IsNewImage, new_head}
use Rattle.sm_base.specs.declared.names.Name.TheVariants as name
use Rattle.sm_mgt.specs.Places.{place_for}
use Rattle.sm_clone.specs.Forking.{IsFilled, child_head}
use Rattle.sm_clone.proofs.FillLaws.{beside_first, beside_second, beside_third, filled}
use Rattle.sm_clone.proofs.filling.fill.Goals as goal

pub returns-in_err-own_image-clause-middle : goal.returns-in_err-own_image-clause-middle
returns-in_err-own_image-clause-middle g c = λ told. beside_first c.args.fork.now _ c.args.entry c.requires.proper c.table.ensures.spread c.make.ensures.works told

pub returns-in_err-twin_image-clause-stays : goal.returns-in_err-twin_image-clause-stays
returns-in_err-twin_image-clause-stays g c = stays_then c.make.ensures.works.stays c.make-2.ensures.works.stays

pub returns-in_err-twin_image-clause-middle : goal.returns-in_err-twin_image-clause-middle
returns-in_err-twin_image-clause-middle g c = λ told. beside_second c.args.fork.now _ c.args.entry c.requires.proper c.table.ensures.spread c.make.ensures.works told c.make-2.ensures.works

pub returns-in_err-put-clause-stays : goal.returns-in_err-put-clause-stays
returns-in_err-put-clause-stays g c = stays_then (stays_then c.make.ensures.works.stays c.make-2.ensures.works.stays) c.put.ensures.writes.stays

pub returns-in_err-put-clause-middle : goal.returns-in_err-put-clause-middle
returns-in_err-put-clause-middle g c = λ told.
    beside_third c.args.fork.now _ c.args.entry c.requires.proper c.table.ensures.spread c.make.ensures.works told c.make-2.ensures.works c.put.ensures.writes (λ x y torn. torn)

pub returns-clause-stays : goal.returns-clause-stays
returns-clause-stays g c = stays_then (stays_then c.make.ensures.works.stays c.make-2.ensures.works.stays) c.put.ensures.writes.stays

pub returns-clause-middle : goal.returns-clause-middle
returns-clause-middle g c = λ told.
    beside_third c.args.fork.now _ c.args.entry c.requires.proper c.table.ensures.spread c.make.ensures.works told c.make-2.ensures.works c.put.ensures.writes (λ x y torn. torn)

pub returns-clause-filled : goal.returns-clause-filled
returns-clause-filled g c = λ told.
    let s = g.S.Store.site c.args.store.now in
    let number = c.seq-number.ensures.seq ∙ ap (λ (k : RoomyTable). k.sequence) c.table.ensures.table in
    let own = c.base_uuid-own_uid.ensures ∙ ap (λ n. base_uuid (n - 1)) number in
    let twin = c.base_uuid-twin_uid.ensures ∙ ap base_uuid number in
    let b = c.make.new.store in
    let sized = c.sectors-sectors.ensures in
    let first = subst (λ (n : ℕ). IsNewImage (stored g.S.Store c.args.store.now) (new_head s.geometry (name.Vhd c.args.fork.now.disk) c.args.now n c.base_uuid-own_uid.result (Some c.args.base.now))
    (held_in (stored g.S.Store b) (name.Vhd c.args.fork.now.disk))) sized (c.in_ok-own_image.ensures.image told) in
    let second = subst (λ (z : Site). IsNewImage (stored g.S.Store b) (child_head z.geometry c.args.fork.now.twin c.args.now c.base_uuid-twin_uid.result c.args.base.now) (held_in (stored g.S.Store c.make-2.new.store) (name.Vhd c.args.fork.now.twin)))
    c.make.ensures.works.stays.site
    (subst (λ (n : ℕ). IsNewImage (stored g.S.Store b) (new_head (g.S.Store.site b).geometry (name.Vhd c.args.fork.now.twin) c.args.now n c.base_uuid-twin_uid.result (Some c.args.base.now))
    (held_in (stored g.S.Store c.make-2.new.store) (name.Vhd c.args.fork.now.twin))) sized (c.in_ok-twin_image.ensures.image told)) in
    subst₂ (λ x y. IsFilled s (table_alone (g.S.Store.table c.args.store.now)) (child_head s.geometry c.args.fork.now.disk c.args.now x c.args.base.now) (child_head s.geometry c.args.fork.now.twin c.args.now y c.args.base.now)
    (unwrap_or (place_for c.args.records.now c.args.entry.uuid) 0) c.args.entry (g.S.Store.area c.args.store.now) (g.S.Store.area c.put.new.store)) own twin
    (filled c.args.fork.now _ c.args.entry c.requires.proper c.table.ensures.spread c.make.ensures.works told c.make-2.ensures.works c.in_ok-put.ensures.wrote
    (child_head s.geometry c.args.fork.now.disk c.args.now c.base_uuid-own_uid.result c.args.base.now) (child_head s.geometry c.args.fork.now.twin c.args.now c.base_uuid-twin_uid.result c.args.base.now)
    refl refl c.requires.apart first second (λ x y wrote. wrote))
