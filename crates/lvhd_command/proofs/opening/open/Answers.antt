use Rattle.std.proofs.Common.{◌≡◌, inl, inr, Ok, refl, sym, ap, ◌∙◌, subst}
use Rattle.sm_base.specs.declared.faults.OpenFault.{OpenFault}
use Rattle.sm_disk.specs.Held.{Keeps, reads}
use Rattle.sm_disk.proofs.HeldLaws.{Allows-keeps, Keeps-then}
use Rattle.vg_layout.specs.Fields.{layout_number, plate, pointer}
use Rattle.vg_layout.specs.Opening.{IsRefused}
use Rattle.vg_meta.specs.Roomy.{table_alone}
use Rattle.vg_store.specs.Groups.{LeavesGroup, area_of}
use Rattle.vg_volumes.specs.Sites.{Site}
use Rattle.sm_recover.specs.Stores.{IsOpeningStopped}
use Rattle.sm_ready.specs.Stores.{content_now}
use Rattle.lvhd_command.specs.Devices.{IsRefusedOn, StandsAlways, beside_at, plate_at}
use Rattle.lvhd_command.specs.Devices.IsRefusedOn.{by_group}
use Rattle.lvhd_command.proofs.OpenLaws.{site_on, sound_entry, shown_entry, opened_entry, answer_as, refused_content, kept_back, shown_back, repaired_sized, always_sized, unless, unless_from, kept_well, well_entry}
use Rattle.lvhd_command.proofs.TruthLaws.{truthful_entry, truthful_failed}
use Rattle.lvhd_command.proofs.UnsoundLaws.{beside_whole, beside_then, never_sound}
use Rattle.lvhd_command.proofs.opening.open.Goals as goal

pub returns-in-Err-clause-refused : goal.returns-in-Err-clause-refused
returns-in-Err-clause-refused g c =
    let told = g.D.Disk.told in
    let size = g.D.Disk.size c.args.disk in
    let image = reads (g.D.Disk.held c.args.disk) in
    answer_as (λ (f : OpenFault). told → IsRefused size image f) (λ (f : OpenFault). told → IsRefusedOn size image f) _ _ c.in-Err.fault (λ f is it. by_group f (is it)) c.in-Err.ensures.err

pub returns-in-Err-clause-kept_back : goal.returns-in-Err-clause-kept_back
returns-in-Err-clause-kept_back g c = λ told kept image allowed. kept image (Allows-keeps _ image (c.in-Err.ensures.keeps_back told) allowed)

pub returns-in-Err-clause-shown_back : goal.returns-in-Err-clause-shown_back
returns-in-Err-clause-shown_back g c = λ told holding image allowed. inl (record { before = image; allowed = Allows-keeps _ image (c.in-Err.ensures.keeps_back told) allowed; same = λ g on. (g, on, refl) })

pub returns-in-Ok-begin-clause-size : goal.returns-in-Ok-begin-clause-size
returns-in-Ok-begin-clause-size g c = ap (λ (s : Site). s.sectors) c.in-Ok-begin.ensures.site ∙ c.in-Ok.ensures.size

pub returns-in-Ok-begin-clause-sound : goal.returns-in-Ok-begin-clause-sound
returns-in-Ok-begin-clause-sound g c = λ told.
    let e = c.in-Ok.ensures in
    let group = c.in-Ok.cache.inner in
    sound_entry (g.D.Disk.size c.args.disk) (g.D.Disk.held c.args.disk) (g.D.Disk.held group.disk) (site_on group.label (g.D.Disk.size group.disk)) (pointer group.header) (table_alone group.table)
    (e.area told) (e.stands told) (c.in-Ok-begin.ensures.sound told)

pub returns-in-Ok-begin-clause-shown : goal.returns-in-Ok-begin-clause-shown
returns-in-Ok-begin-clause-shown g c = λ told holding.
    let e = c.in-Ok.ensures in
    let group = c.in-Ok.cache.inner in
    shown_entry (g.D.Disk.size c.args.disk) (g.D.Disk.held c.args.disk) (g.D.Disk.held group.disk) (site_on group.label (g.D.Disk.size group.disk)) (pointer group.header) (table_alone group.table) _
    (e.area told) (e.stands told) (c.in-Ok-begin.ensures.disks told (well_entry (g.D.Disk.size c.args.disk) (g.D.Disk.held c.args.disk) (g.D.Disk.held group.disk) (site_on group.label (g.D.Disk.size group.disk)) (pointer group.header) (table_alone group.table) (e.area told) (e.stands told) holding))

pub returns-in-Ok-begin-clause-opened : goal.returns-in-Ok-begin-clause-opened
returns-in-Ok-begin-clause-opened g c = λ told holding.
    let e = c.in-Ok.ensures in
    let group = c.in-Ok.cache.inner in
    opened_entry (g.D.Disk.size c.args.disk) (g.D.Disk.held c.args.disk) (g.D.Disk.held group.disk) (site_on group.label (g.D.Disk.size group.disk)) (pointer group.header) (table_alone group.table) _
    (e.area told) (e.stands told) (c.in-Ok-begin.ensures.opened told (well_entry (g.D.Disk.size c.args.disk) (g.D.Disk.held c.args.disk) (g.D.Disk.held group.disk) (site_on group.label (g.D.Disk.size group.disk)) (pointer group.header) (table_alone group.table) (e.area told) (e.stands told) holding))

pub returns-in-Ok-begin-clause-ready : goal.returns-in-Ok-begin-clause-ready
returns-in-Ok-begin-clause-ready g c = λ told holding.
    let e = c.in-Ok.ensures in
    let group = c.in-Ok.cache.inner in (
      c.in-Ok-begin.ensures.ready told (well_entry (g.D.Disk.size c.args.disk) (g.D.Disk.held c.args.disk) (g.D.Disk.held group.disk) (site_on group.label (g.D.Disk.size group.disk)) (pointer group.header) (table_alone group.table) (e.area told) (e.stands told) holding),
      c.in-Ok-begin.ensures.good_logs,
    )

pub returns-in-Ok-begin-clause-kept : goal.returns-in-Ok-begin-clause-kept
returns-in-Ok-begin-clause-kept g c = λ told holding.
    let e = c.in-Ok.ensures in
    let group = c.in-Ok.cache.inner in
    c.in-Ok-begin.ensures.kept told (well_entry (g.D.Disk.size c.args.disk) (g.D.Disk.held c.args.disk) (g.D.Disk.held group.disk) (site_on group.label (g.D.Disk.size group.disk)) (pointer group.header) (table_alone group.table) (e.area told) (e.stands told) holding)

pub returns-in-Ok-begin-clause-telling : goal.returns-in-Ok-begin-clause-telling
returns-in-Ok-begin-clause-telling g c = λ told holding truthful.
    let e = c.in-Ok.ensures in
    let group = c.in-Ok.cache.inner in
    c.in-Ok-begin.ensures.told told (well_entry (g.D.Disk.size c.args.disk) (g.D.Disk.held c.args.disk) (g.D.Disk.held group.disk) (site_on group.label (g.D.Disk.size group.disk)) (pointer group.header) (table_alone group.table) (e.area told) (e.stands told) holding)
    (truthful_entry (g.D.Disk.size c.args.disk) (g.D.Disk.held c.args.disk) (g.D.Disk.held group.disk) (site_on group.label (g.D.Disk.size group.disk)) (pointer group.header) (table_alone group.table) (e.area told) (e.stands told) truthful)

pub returns-in-Ok-begin-clause-begins : goal.returns-in-Ok-begin-clause-begins
returns-in-Ok-begin-clause-begins g c = λ told holding.
    let e = c.in-Ok.ensures in
    let group = c.in-Ok.cache.inner in
    c.in-Ok-begin.ensures.begins told (well_entry (g.D.Disk.size c.args.disk) (g.D.Disk.held c.args.disk) (g.D.Disk.held group.disk) (site_on group.label (g.D.Disk.size group.disk)) (pointer group.header) (table_alone group.table) (e.area told) (e.stands told) holding)

pub returns-in-Err-begin-clause-size_back : goal.returns-in-Err-begin-clause-size_back
returns-in-Err-begin-clause-size_back g c = ap g.D.Disk.size c.into_disk.ensures.disk ∙ ap (λ (s : Site). s.sectors) c.in-Err-begin.ensures.site_back ∙ c.in-Ok.ensures.size

pub returns-in-Err-begin-clause-refused : goal.returns-in-Err-begin-clause-refused
returns-in-Err-begin-clause-refused g c =
    let e = c.in-Ok.ensures in
    let group = c.in-Ok.cache.inner in
    refused_content g.D.Disk.told (g.D.Disk.size c.args.disk) (g.D.Disk.held c.args.disk) (g.D.Disk.held group.disk) (site_on group.label (g.D.Disk.size group.disk)) (pointer group.header) (table_alone group.table)
    (g.D.Disk.faults c.args.disk) (g.D.Disk.faults group.disk) _ c.in-Err-begin.fault e.calm (λ other. ap g.D.Disk.faults c.into_disk.ensures.disk ∙ c.in-Err-begin.ensures.calm_back other) e.area e.stands
    (subst (λ d. IsOpeningStopped g.D.Disk.told (content_now (site_on group.label (g.D.Disk.size group.disk)) (table_alone group.table) (area_of (layout_number group.label.layout) (g.D.Disk.held group.disk))) (g.D.Disk.faults group.disk) (g.D.Disk.faults d) c.in-Err-begin.fault)
    (sym c.into_disk.ensures.disk) c.in-Err-begin.ensures.cause)

pub returns-in-Err-begin-clause-kept_back : goal.returns-in-Err-begin-clause-kept_back
returns-in-Err-begin-clause-kept_back g c = λ told kept.
    let holding = kept_well (g.D.Disk.size c.args.disk) (g.D.Disk.held c.args.disk) kept in
    let e = c.in-Ok.ensures in
    let group = c.in-Ok.cache.inner in
    let back = c.in-Err-begin.cache.inner in
    let d = c.into_disk.result in
    let size = g.D.Disk.size c.args.disk in
    let site : Site = site_on group.label (g.D.Disk.size group.disk) in
    let now : Site = site_on back.label (g.D.Disk.size back.disk) in
    let after : g.D.Disk.size d ≡ size = ap g.D.Disk.size c.into_disk.ensures.disk ∙ ap (λ (s : Site). s.sectors) c.in-Err-begin.ensures.site_back ∙ e.size in
    let left = repaired_sized size (g.D.Disk.size group.disk) (g.D.Disk.size d) (g.D.Disk.held group.disk) (g.D.Disk.held d) site now (table_alone group.table) e.size after
    (well_entry (g.D.Disk.size c.args.disk) (g.D.Disk.held c.args.disk) (g.D.Disk.held group.disk) (site_on group.label (g.D.Disk.size group.disk)) (pointer group.header) (table_alone group.table) (e.area told) (e.stands told) holding)
    (λ t image l. c.in-Err-begin.ensures.crash_back told t image (subst (λ x. LeavesGroup (g.D.Disk.size x) (g.D.Disk.held x) (plate back.label) t image) c.into_disk.ensures.disk l)) in
    let always = always_sized size (g.D.Disk.size d) (g.D.Disk.held d) now after (c.into_disk.ensures.stands told) in
    kept_back size (g.D.Disk.held c.args.disk) (g.D.Disk.held group.disk) (g.D.Disk.held d) site now (table_alone group.table) c.in-Err-begin.ensures.site_back (e.keeps told) always left kept

pub returns-in-Err-clause-truthful_back : goal.returns-in-Err-clause-truthful_back
returns-in-Err-clause-truthful_back g c = λ told holding truthful image allowed. truthful image (Allows-keeps _ image (c.in-Err.ensures.keeps_back told) allowed)

pub returns-in-Err-begin-clause-truthful_back : goal.returns-in-Err-begin-clause-truthful_back
returns-in-Err-begin-clause-truthful_back g c = λ told holding truthful.
    let e = c.in-Ok.ensures in
    let group = c.in-Ok.cache.inner in
    let back = c.in-Err-begin.cache.inner in
    let d = c.into_disk.result in
    let size = g.D.Disk.size c.args.disk in
    let site : Site = site_on group.label (g.D.Disk.size group.disk) in
    let now : Site = site_on back.label (g.D.Disk.size back.disk) in
    let after : g.D.Disk.size d ≡ size = ap g.D.Disk.size c.into_disk.ensures.disk ∙ ap (λ (s : Site). s.sectors) c.in-Err-begin.ensures.site_back ∙ e.size in
    let left = repaired_sized size (g.D.Disk.size group.disk) (g.D.Disk.size d) (g.D.Disk.held group.disk) (g.D.Disk.held d) site now (table_alone group.table) e.size after
    (well_entry (g.D.Disk.size c.args.disk) (g.D.Disk.held c.args.disk) (g.D.Disk.held group.disk) (site_on group.label (g.D.Disk.size group.disk)) (pointer group.header) (table_alone group.table) (e.area told) (e.stands told) holding)
    (λ t image l. c.in-Err-begin.ensures.crash_back told t image (subst (λ x. LeavesGroup (g.D.Disk.size x) (g.D.Disk.held x) (plate back.label) t image) c.into_disk.ensures.disk l)) in
    let always = always_sized size (g.D.Disk.size d) (g.D.Disk.held d) now after (c.into_disk.ensures.stands told) in
    truthful_failed size (g.D.Disk.held c.args.disk) (g.D.Disk.held group.disk) (g.D.Disk.held d) site now (pointer group.header) (table_alone group.table) c.in-Err-begin.ensures.site_back (e.keeps told) (e.area told) (e.stands told) always left truthful

pub returns-in-Err-begin-clause-shown_back : goal.returns-in-Err-begin-clause-shown_back
returns-in-Err-begin-clause-shown_back g c = λ told holding.
    let e = c.in-Ok.ensures in
    let group = c.in-Ok.cache.inner in
    let back = c.in-Err-begin.cache.inner in
    let d = c.into_disk.result in
    let size = g.D.Disk.size c.args.disk in
    let site : Site = site_on group.label (g.D.Disk.size group.disk) in
    let now : Site = site_on back.label (g.D.Disk.size back.disk) in
    let after : g.D.Disk.size d ≡ size = ap g.D.Disk.size c.into_disk.ensures.disk ∙ ap (λ (s : Site). s.sectors) c.in-Err-begin.ensures.site_back ∙ e.size in
    let left = repaired_sized size (g.D.Disk.size group.disk) (g.D.Disk.size d) (g.D.Disk.held group.disk) (g.D.Disk.held d) site now (table_alone group.table) e.size after
    (well_entry (g.D.Disk.size c.args.disk) (g.D.Disk.held c.args.disk) (g.D.Disk.held group.disk) (site_on group.label (g.D.Disk.size group.disk)) (pointer group.header) (table_alone group.table) (e.area told) (e.stands told) holding)
    (λ t image l. c.in-Err-begin.ensures.crash_back told t image (subst (λ x. LeavesGroup (g.D.Disk.size x) (g.D.Disk.held x) (plate back.label) t image) c.into_disk.ensures.disk l)) in
    let always = always_sized size (g.D.Disk.size d) (g.D.Disk.held d) now after (c.into_disk.ensures.stands told) in
    shown_back size (g.D.Disk.held c.args.disk) (g.D.Disk.held group.disk) (g.D.Disk.held d) site now (pointer group.header) (table_alone group.table) c.in-Err-begin.ensures.site_back (e.keeps told) (e.area told)
    (e.stands told) always left

pub returns-in-Err-clause-untouched : goal.returns-in-Err-clause-untouched
returns-in-Err-clause-untouched g c = λ told. unless c.in-Err.fault (c.in-Err.ensures.keeps_back told)

pub returns-in-Err-clause-unsound : goal.returns-in-Err-clause-unsound
returns-in-Err-clause-unsound g c = λ told f refused. c.in-Err.ensures.keeps_back told

pub returns-in-Err-clause-beside_back : goal.returns-in-Err-clause-beside_back
returns-in-Err-clause-beside_back g c = λ told. beside_whole (g.D.Disk.size c.args.disk) (g.D.Disk.held c.args.disk) _ (c.in-Err.ensures.keeps_back told)

pub returns-in-Ok-begin-clause-beside : goal.returns-in-Ok-begin-clause-beside
returns-in-Ok-begin-clause-beside g c = λ told.
    let e = c.in-Ok.ensures in
    let group = c.in-Ok.cache.inner in
    let s = c.in-Ok-begin.session in
    let site : Site = site_on group.label (g.D.Disk.size group.disk) in
    let same : site_on s.store.inner.label (g.D.Disk.size s.store.inner.disk) ≡ site = c.in-Ok-begin.ensures.site in
    let k = subst (λ (n : Site). Keeps (beside_at site (g.D.Disk.held group.disk)) (beside_at n (g.D.Disk.held s.store.inner.disk))) same (c.in-Ok-begin.ensures.beside told) in
    beside_then (g.D.Disk.size c.args.disk) (g.D.Disk.held c.args.disk) (g.D.Disk.held group.disk) (g.D.Disk.held s.store.inner.disk) site (e.stands told).labelled
    (beside_whole (g.D.Disk.size c.args.disk) (g.D.Disk.held c.args.disk) (g.D.Disk.held group.disk) (e.keeps told)) k

pub returns-in-Err-begin-clause-untouched : goal.returns-in-Err-begin-clause-untouched
returns-in-Err-begin-clause-untouched g c = λ told.
    unless_from c.in-Err-begin.fault
    (λ is. subst (λ x. Keeps (g.D.Disk.held c.args.disk) (g.D.Disk.held x)) (sym c.into_disk.ensures.disk) (Keeps-then (c.in-Ok.ensures.keeps told) (is.device told)))
    c.in-Err-begin.ensures.refused

pub returns-in-Err-begin-clause-beside_back : goal.returns-in-Err-begin-clause-beside_back
returns-in-Err-begin-clause-beside_back g c = λ told.
    let e = c.in-Ok.ensures in
    let group = c.in-Ok.cache.inner in
    let site : Site = site_on group.label (g.D.Disk.size group.disk) in
    let beside = subst (λ x. Keeps (beside_at site (g.D.Disk.held group.disk)) (beside_at site (g.D.Disk.held x))) (sym c.into_disk.ensures.disk)
    (subst (λ (n : Site). Keeps (beside_at site (g.D.Disk.held group.disk)) (beside_at n (g.D.Disk.held c.in-Err-begin.cache.inner.disk))) c.in-Err-begin.ensures.site_back (c.in-Err-begin.ensures.beside_back told)) in
    beside_then (g.D.Disk.size c.args.disk) (g.D.Disk.held c.args.disk) (g.D.Disk.held group.disk) (g.D.Disk.held c.into_disk.result) site (e.stands told).labelled
    (beside_whole (g.D.Disk.size c.args.disk) (g.D.Disk.held c.args.disk) (g.D.Disk.held group.disk) (e.keeps told))
    beside

pub returns-in-Err-begin-clause-unsound : goal.returns-in-Err-begin-clause-unsound
returns-in-Err-begin-clause-unsound g c = λ told f refused.
    let e = c.in-Ok.ensures in
    let group = c.in-Ok.cache.inner in
    let never = never_sound (g.D.Disk.size c.args.disk) (g.D.Disk.held c.args.disk) (g.D.Disk.held group.disk) (site_on group.label (g.D.Disk.size group.disk)) (pointer group.header) (table_alone group.table) f
    (e.area told) (e.stands told) refused in
    subst (λ x. Keeps (g.D.Disk.held c.args.disk) (g.D.Disk.held x)) (sym c.into_disk.ensures.disk) (Keeps-then (e.keeps told) (c.in-Err-begin.ensures.unsound_back told never))

pub returns-in-Ok-begin-clause-label : goal.returns-in-Ok-begin-clause-label
returns-in-Ok-begin-clause-label g c = λ told.
    (c.in-Ok.ensures.stands told).labelled ∙ ap (λ (s : Site). Ok (plate_at s)) (sym c.in-Ok-begin.ensures.site)

pub returns-in-Err-clause-label_back : goal.returns-in-Err-clause-label_back
returns-in-Err-clause-label_back g c = λ told image allowed. inl (Allows-keeps _ image (c.in-Err.ensures.keeps_back told) allowed)

pub returns-in-Err-begin-clause-label_back : goal.returns-in-Err-begin-clause-label_back
returns-in-Err-begin-clause-label_back g c = λ told image allowed.
    let e = c.in-Ok.ensures in
    let group = c.in-Ok.cache.inner in
    let back = c.in-Err-begin.cache.inner in
    let d = c.into_disk.result in
    let size = g.D.Disk.size c.args.disk in
    let site : Site = site_on group.label (g.D.Disk.size group.disk) in
    let now : Site = site_on back.label (g.D.Disk.size back.disk) in
    let same : now ≡ site = c.in-Err-begin.ensures.site_back in
    let after : g.D.Disk.size d ≡ size = ap g.D.Disk.size c.into_disk.ensures.disk ∙ ap (λ (s : Site). s.sectors) same ∙ e.size in
    let always : StandsAlways size (g.D.Disk.held d) site =
    subst (StandsAlways size (g.D.Disk.held d)) same (always_sized size (g.D.Disk.size d) (g.D.Disk.held d) now after (c.into_disk.ensures.stands told)) in
    inr ((always image allowed).stands.labelled ∙ sym (e.stands told).labelled)
