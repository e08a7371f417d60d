use Rattle.std.proofs.Common.{inr, sym, refl, ap, ◌*◌, ◌<◌, ◌∙◌, subst}
use Rattle.sm_disk.specs.Held.{Keeps, reads}
use Rattle.sm_disk.proofs.HeldLaws.{Allows-reads, Keeps-then}
use Rattle.sm_disk.proofs.StreamLaws.{Adds-none}
use Rattle.sm_machine.specs.Steps.{State}
use Rattle.sm_standing.specs.Devices.{Shows}
use Rattle.vg_layout.specs.Sectors.{Plate}
use Rattle.vg_layout.specs.Opening.{plate_of}
use Rattle.vg_store.specs.Formats.{new_group}
use Rattle.vg_store.specs.Groups.{beside_of}
use Rattle.vg_store.specs.Openings.{IsAnswer}
use Rattle.lvhd_command.specs.Devices.{HoldsWellOn, IsKeptDevice, IsOpenedOn, IsRefusedOn, IsTruthfulDevice, IsTruthfulOn, plate_at}
use Rattle.lvhd_command.specs.Sessions.{site_of, state_of}
use Rattle.lvhd_command.specs.Trials.{HasPlate, SessionTried}
use Rattle.lvhd_command.proofs.FormatLaws.{beside_sizes, said_calm}
use Rattle.lvhd_command.proofs.FormattedLaws.{device_kept, formatted_allowed}
use Rattle.lvhd_command.proofs.OpenLaws.{kept_well, plate_once}
use Rattle.lvhd_command.proofs.RunLaws.{refused_calm, refused_sink_calm}
use Rattle.lvhd_command.proofs.TrialLaws.{least_known, left_tried, not_opened, said_not_done, said_small, same_plate, sound_kept, start_is, told_not_done, too_small, trial_did, trial_geometry}
use Rattle.lvhd_command.proofs.TruthLaws.{device_truthful}
use Rattle.lvhd_command.proofs.trials.run_trial.Goals as goal

pub returns-in-Ok-open-clause-did : goal.returns-in-Ok-open-clause-did
returns-in-Ok-open-clause-did g c = λ told.
    let size = g.D.Disk.size c.args.disk in
    let h = g.D.Disk.held c.format.new.disk in
    let made = c.in-Some.geometry in
    let sizes = c.in-Some.ensures.some in
    let formatted = c.in-Ok.ensures.formatted told in
    let settled = c.in-Ok.ensures.settled told in
    let kept : IsKeptDevice size h = device_kept size h made _ formatted settled in
    let slots : HoldsWellOn (g.D.Disk.size c.format.new.disk) (reads h) = kept_well _ h (subst (λ n. IsKeptDevice n h) (sym c.format.ensures.size) kept) in
    let truthful = subst (λ n. IsTruthfulOn n (reads h)) (sym c.format.ensures.size) (device_truthful size h made _ formatted settled (reads h) (Allows-reads size h)) in
    let e = c.in-Ok-open.ensures in
    let s = c.in-Ok-open.session in
    let start : State = state_of s in
    trial_did _ c.args.number start c.try_session.result.0
    (start_is size (reads h) made _ start (formatted_allowed size h made _ formatted settled (reads h) (Allows-reads size h)) (record { extent = sizes.0; block = sizes.1; entries = sizes.2 })
    (subst (λ n. Shows n (reads h) start.disks) c.format.ensures.size (e.shown told slots)) (subst (λ n. IsOpenedOn n (reads h) start.shape) c.format.ensures.size (e.opened told slots)))
    (subst (λ n. SessionTried n (g.D.Disk.held c.try_session.result.1) (g.K.Sink.content c.args.sink.now) (g.K.Sink.content c.try_session.new.sink) start c.args.number c.try_session.result.0)
    (e.size ∙ c.format.ensures.size) (c.try_session.ensures.tried told (e.ready told slots) (e.kept told slots) (e.telling told slots truthful)))

pub returns-in-Err-clause-did : goal.returns-in-Err-clause-did
returns-in-Err-clause-did g c = λ told.
    let size = g.D.Disk.size c.args.disk in
    let h = g.D.Disk.held c.format.new.disk in
    let formatted = c.in-Ok.ensures.formatted told in
    let settled = c.in-Ok.ensures.settled told in
    let kept : IsKeptDevice size h = device_kept size h c.in-Some.geometry _ formatted settled in
    let slots : HoldsWellOn (g.D.Disk.size c.format.new.disk) (reads h) = kept_well _ h (subst (λ n. IsKeptDevice n h) (sym c.format.ensures.size) kept) in
    let truthful = subst (λ n. IsTruthfulDevice n (g.D.Disk.held c.in-Err.disk)) c.format.ensures.size
    (c.in-Err.ensures.truthful_back told slots (subst (λ n. IsTruthfulDevice n h) (sym c.format.ensures.size) (device_truthful size h c.in-Some.geometry _ formatted settled))) in
    let last : IsKeptDevice size (g.D.Disk.held c.in-Err.disk) = subst (λ n. IsKeptDevice n (g.D.Disk.held c.in-Err.disk)) c.format.ensures.size (c.in-Err.ensures.kept_back told (subst (λ n. IsKeptDevice n h) (sym c.format.ensures.size) kept)) in
    not_opened _ c.args.number (reads h) g.D.Disk.told c.in-Err.fault _ _ _ _ c.refuse.result told (sound_kept size h kept)
    (subst (λ n. IsAnswer (λ f. g.D.Disk.told → IsRefusedOn n (reads h) f) (g.D.Disk.faults c.format.new.disk) (g.D.Disk.faults c.in-Err.disk) c.in-Err.fault) c.format.ensures.size c.in-Err.ensures.refused) c.refuse.ensures (λ image allowed. inr (inr (last image allowed, truthful image allowed)))

pub returns-in-Err-TooSmall-clause-did : goal.returns-in-Err-TooSmall-clause-did
returns-in-Err-TooSmall-clause-did g c = λ told.
    let f = rw c.in-Err-TooSmall.field-0-is at c.in-Err-TooSmall.ensures.fault in
    let w = rw c.in-Err-TooSmall.field-0-is at c.print_too_small.ensures in
    said_small _ c.args.number _ _ _ c.print_too_small.result _ w c.said.ensures (too_small _ c.in-Some.geometry.extent c.in-Err-TooSmall.sectors c.in-Some.ensures.some.0 f.2 f.0 f.1)

pub returns-in-Err-Device-clause-did : goal.returns-in-Err-Device-clause-did
returns-in-Err-Device-clause-did g c = λ told. (left_tried _ _ _ c.in-Some.geometry _ (c.format.ensures.crash told), Adds-none _)

pub returns-in-Err-NoMemory-clause-did : goal.returns-in-Err-NoMemory-clause-did
returns-in-Err-NoMemory-clause-did g c = λ told. (left_tried _ _ _ c.in-Some.geometry _ (c.format.ensures.crash told), Adds-none _)

pub returns-in-Err-clause-calm : goal.returns-in-Err-clause-calm
returns-in-Err-clause-calm g c = λ other. refused_calm g.D.Disk.told _ _ _ _ c.in-Err.fault _ _ _ _ c.refuse.result c.in-Err.ensures.refused c.refuse.ensures other ∙ c.in-Ok.ensures.calm

pub returns-in-Err-clause-sink_calm : goal.returns-in-Err-clause-sink_calm
returns-in-Err-clause-sink_calm g c = λ other. refused_sink_calm c.in-Err.fault _ _ _ _ c.refuse.result c.refuse.ensures other

pub returns-in-Err-TooSmall-clause-sink_calm : goal.returns-in-Err-TooSmall-clause-sink_calm
returns-in-Err-TooSmall-clause-sink_calm g c = λ other. let w = rw c.in-Err-TooSmall.field-0-is at c.print_too_small.ensures in said_calm _ _ _ _ _ c.print_too_small.result _ _ w c.said.ensures other

pub unreachable-requires : goal.unreachable-requires
unreachable-requires g c = c.in_default.ensures.none 32 8 refl refl trial_geometry

pub returns-in-Ok-open-clause-label : goal.returns-in-Ok-open-clause-label
returns-in-Ok-open-clause-label g c = λ told done other sized.
    let size = g.D.Disk.size c.args.disk in
    let h = g.D.Disk.held c.format.new.disk in
    let made = c.in-Some.geometry in
    let sizes = c.in-Some.ensures.some in
    let e = c.in-Ok-open.ensures in
    let s = c.in-Ok-open.session in
    let is_size = e.size ∙ c.format.ensures.size in
    let p : Plate = plate_at (site_of s) in
    let f = formatted_allowed size h made _ (c.in-Ok.ensures.formatted told) (c.in-Ok.ensures.settled told) (reads h) (Allows-reads size h) in
    let here = plate_once size (reads h) p (new_group size made _).plate (sym (ap (λ n. plate_of n (reads h)) c.format.ensures.size) ∙ e.label told) f.stands.labelled in
    let same = same_plate size made other _ _ (record { extent = sizes.0; block = sizes.1; entries = sizes.2 }) sized c.from_bytes.ensures in
    subst (λ q. HasPlate size (g.D.Disk.held c.try_session.result.1) q) (here ∙ same)
    (subst (λ n. HasPlate n (g.D.Disk.held c.try_session.result.1) p) is_size (c.try_session.ensures.label told done))

pub returns-in-Err-clause-label : goal.returns-in-Err-clause-label
returns-in-Err-clause-label g c = λ told done. absurd (told_not_done c.in-Err.fault _ _ _ _ c.refuse.result c.refuse.ensures done)

pub returns-in-Err-TooSmall-clause-label : goal.returns-in-Err-TooSmall-clause-label
returns-in-Err-TooSmall-clause-label g c = λ told done. absurd (said_not_done c.print_too_small.result _ c.said.ensures done)

pub returns-in-Ok-open-clause-beside : goal.returns-in-Ok-open-clause-beside
returns-in-Ok-open-clause-beside g c = λ told.
    let size = g.D.Disk.size c.args.disk in
    let h = g.D.Disk.held c.format.new.disk in
    let made = c.in-Some.geometry in
    let sizes = c.in-Some.ensures.some in
    let e = c.in-Ok-open.ensures in
    let s = c.in-Ok-open.session in
    let n = g.D.Disk.size c.format.new.disk in
    let p : Plate = plate_at (site_of s) in
    let f = formatted_allowed size h made _ (c.in-Ok.ensures.formatted told) (c.in-Ok.ensures.settled told) (reads h) (Allows-reads size h) in
    let labelled = ap (λ k. plate_of k (reads h)) c.format.ensures.size ∙ f.stands.labelled in
    let here = plate_once n (reads h) p (new_group size made _).plate (e.label told) labelled in
    let last = subst (λ (q : Plate). Keeps (beside_of q.layout (q.count * q.extent) (g.D.Disk.held s.store.inner.disk)) (beside_of q.layout (q.count * q.extent) (g.D.Disk.held c.try_session.result.1))) here (c.try_session.ensures.beside told) in
    beside_sizes _ _ made _ _ (record { extent = sizes.0; block = sizes.1; entries = sizes.2 }) (Keeps-then (c.format.ensures.beside told) (Keeps-then (e.beside told (new_group size made _).plate labelled) last))

pub returns-in-Err-clause-beside : goal.returns-in-Err-clause-beside
returns-in-Err-clause-beside g c = λ told.
    let size = g.D.Disk.size c.args.disk in
    let h = g.D.Disk.held c.format.new.disk in
    let made = c.in-Some.geometry in
    let sizes = c.in-Some.ensures.some in
    let f = formatted_allowed size h made _ (c.in-Ok.ensures.formatted told) (c.in-Ok.ensures.settled told) (reads h) (Allows-reads size h) in
    let labelled = ap (λ k. plate_of k (reads h)) c.format.ensures.size ∙ f.stands.labelled in
    beside_sizes _ _ made _ _ (record { extent = sizes.0; block = sizes.1; entries = sizes.2 }) (Keeps-then (c.format.ensures.beside told) (c.in-Err.ensures.beside_back told (new_group size made _).plate labelled))

pub returns-in-Err-TooSmall-clause-beside : goal.returns-in-Err-TooSmall-clause-beside
returns-in-Err-TooSmall-clause-beside g c = λ told.
    let sizes = c.in-Some.ensures.some in
    beside_sizes _ _ c.in-Some.geometry _ _ (record { extent = sizes.0; block = sizes.1; entries = sizes.2 }) (c.format.ensures.beside told)

pub returns-in-Err-Device-clause-beside : goal.returns-in-Err-Device-clause-beside
returns-in-Err-Device-clause-beside g c = λ told.
    let sizes = c.in-Some.ensures.some in
    beside_sizes _ _ c.in-Some.geometry _ _ (record { extent = sizes.0; block = sizes.1; entries = sizes.2 }) (c.format.ensures.beside told)

pub returns-in-Err-NoMemory-clause-beside : goal.returns-in-Err-NoMemory-clause-beside
returns-in-Err-NoMemory-clause-beside g c = λ told.
    let sizes = c.in-Some.ensures.some in
    beside_sizes _ _ c.in-Some.geometry _ _ (record { extent = sizes.0; block = sizes.1; entries = sizes.2 }) (c.format.ensures.beside told)

pub returns-in-Ok-open-clause-small : goal.returns-in-Ok-open-clause-small
returns-in-Ok-open-clause-small g c = λ small.
    let less = subst (λ n. g.D.Disk.size c.args.disk < n) (sym (least_known c.in-Some.geometry.extent c.in-Some.ensures.some.0)) small in
    absurd (let x = c.in-Ok.is in let y = c.format.ensures.small less in cc)

pub returns-in-Err-clause-small : goal.returns-in-Err-clause-small
returns-in-Err-clause-small g c = λ small.
    let less = subst (λ n. g.D.Disk.size c.args.disk < n) (sym (least_known c.in-Some.geometry.extent c.in-Some.ensures.some.0)) small in
    absurd (let x = c.in-Ok.is in let y = c.format.ensures.small less in cc)

pub returns-in-Err-Device-clause-small : goal.returns-in-Err-Device-clause-small
returns-in-Err-Device-clause-small g c = λ small.
    let less = subst (λ n. g.D.Disk.size c.args.disk < n) (sym (least_known c.in-Some.geometry.extent c.in-Some.ensures.some.0)) small in
    absurd (let y = sym (c.format.ensures.small less) ∙ c.in-Err-Device.is in cc)

pub returns-in-Err-NoMemory-clause-small : goal.returns-in-Err-NoMemory-clause-small
returns-in-Err-NoMemory-clause-small g c = λ small.
    let less = subst (λ n. g.D.Disk.size c.args.disk < n) (sym (least_known c.in-Some.geometry.extent c.in-Some.ensures.some.0)) small in
    absurd (let y = sym (c.format.ensures.small less) ∙ c.in-Err-NoMemory.is in cc)

pub returns-in-Err-TooSmall-clause-small : goal.returns-in-Err-TooSmall-clause-small
returns-in-Err-TooSmall-clause-small g c = λ small. (rw c.in-Err-TooSmall.field-0-is at c.in-Err-TooSmall.ensures.fault).2
