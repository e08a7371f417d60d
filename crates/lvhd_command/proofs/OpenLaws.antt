-- What an opened device shows, and what a stop of it may show.
use Rattle.std.proofs.Common.{◌≡◌, ◌≢◌, ◌⊎◌, inl, inr, ⊎_elim, ℕ, ◌+◌, List, [], ◌∷◌, Option, None, Ok, refl, sym, ap, ap₂, subst, ◌∙◌, arith}
use Rattle.std.proofs.Math.Path.{fun_ext}
use Rattle.sm_base.specs.declared.faults.OpenFault.{OpenFault}
use Rattle.sm_base.specs.declared.faults.OpenFault.TheVariants as fault
use Rattle.sm_base.specs.declared.faults.Place.{Place}
use Rattle.common_laws.specs.Lists.{first_some}
use Rattle.common_laws.proofs.Lists.{none_first}
use Rattle.sm_disk.specs.Held.{Held, Allows, Keeps, reads}
use Rattle.sm_disk.proofs.HeldLaws.{Allows-keeps, Allows-reads}
use Rattle.sm_machine.specs.Disks.{Disk}
use Rattle.vg_layout.specs.Fields.{layout_number}
use Rattle.vg_layout.specs.Places.{area_place}
use Rattle.vg_layout.specs.Sectors.{Plate, Pointer}
use Rattle.vg_layout.specs.Opening.{GroupFound, StandsOn, plate_of}
use Rattle.vg_layout.specs.declared.labels.GroupLabel.{GroupLabel}
use Rattle.vg_layout.proofs.StandingLaws.{stands_once, plate_few}
use Rattle.vg_meta.specs.Tables.{VolumeTable}
use Rattle.vg_store.specs.Groups.{GroupStands, LeavesGroup, area_of}
use Rattle.vg_store.specs.Openings.{IsAnswer}
use Rattle.vg_volumes.specs.Sites.{Site}
use Rattle.sm_recover.specs.Repairs.{UnlessDeviceFailed}
use Rattle.sm_recover.specs.Stores.{IsOpeningStopped, IsRepairedFrom, MayBeRepairedFrom}
use Rattle.sm_ready.specs.Sessions.{KeepsAll}
use Rattle.sm_ready.specs.Stores.{MayShow, content_in, content_now}
use Rattle.sm_standing.specs.Checks.{first_fault}
use Rattle.sm_standing.specs.Contents.{Content}
use Rattle.sm_standing.specs.Devices.{IsKeptOn, Shows, content_of}
use Rattle.sm_standing.specs.Dropped.{opening}
use Rattle.sm_standing.specs.Keeping.{HoldsWell}
use Rattle.sm_standing.specs.LogChecks.{IsKeptWithLogs, first_place, log_fault}
use Rattle.sm_machine.specs.Shapes.{Shape}
use Rattle.sm_standing.specs.Standing.{disks}
use Rattle.lvhd_command.specs.Devices.{HoldsWellOn, IsKeptDevice, MayShowOn, IsSoundOn, IsRefusedOn, IsOpenedOn, StandsAlways, plate_at}
use Rattle.lvhd_command.specs.Devices.IsRefusedOn.{by_content}
use Rattle.lvhd_command.specs.Running.{IsLeftBefore, ShowsNothingNew}

-- ---- a group on an image

-- the sectors of the extents of an image, by a layout
abbrev pub extents_in : ℕ → (ℕ → List ℕ) → ℕ → List ℕ
extents_in layout image q = image (area_place layout + q)

-- what never changes of the group with this label on a device of so many sectors
abbrev pub site_on : GroupLabel → ℕ → Site
site_on l size = record { geometry = l.geometry; count = l.extents; layout = layout_number l.layout; identity = l.repository; sectors = size }

-- the sizes and the number of a site, with this pointer and table
abbrev pub standing : Site → Pointer → VolumeTable → GroupFound
standing site at t = record { plate = plate_at site; pointer = at; table = t }

pub plate_once : (size : ℕ) (m : ℕ → List ℕ) (p q : Plate) → plate_of size m ≡ Ok p → plate_of size m ≡ Ok q → p ≡ q
plate_once size m p q a b = (let e = sym a ∙ b in cc)

-- on an image stands one group alone, so its content is one
pub content_once : (size : ℕ) (m : ℕ → List ℕ) (g h : GroupFound) → StandsOn size m g → StandsOn size m h → content_of h m ≡ content_of g m
content_once size m g h a b =
    let plates : g.plate ≡ h.plate = plate_once size m g.plate h.plate a.labelled b.labelled in
    let here : StandsOn size m (record { plate = g.plate; pointer = h.pointer; table = h.table }) = subst (λ (p : Plate). StandsOn size m (record { plate = p; pointer = h.pointer; table = h.table })) (sym plates) b in
    let tables : g.table ≡ h.table = stands_once size m g.plate g.pointer h.pointer g.table h.table (plate_few size m g.plate a.labelled) a here in
    ap₂ (λ (p : Plate) (u : VolumeTable). content_of (record { plate = p; pointer = h.pointer; table = u }) m) (sym plates) (sym tables)

-- where it is kept, so is the content of any label and table that stand there
kept_standing : (size : ℕ) (m : ℕ → List ℕ) (site : Site) (at : Pointer) (t : VolumeTable) → StandsOn size m (standing site at t) → IsKeptOn size m → IsKeptWithLogs (content_of (standing site at t) m)
kept_standing size m site at t stands k = subst IsKeptWithLogs (content_once size m (standing site at t) k.group stands k.stands) k.kept

pub shown_standing : (size : ℕ) (m : ℕ → List ℕ) (site : Site) (at : Pointer) (t : VolumeTable) (ds : List Disk) → StandsOn size m (standing site at t) → Shows size m ds
    → ds ≡ disks (content_of (standing site at t) m)
shown_standing size m site at t ds stands s = s.shown ∙ ap disks (content_once size m (standing site at t) s.group stands s.stands)

-- ---- all checks, that of logs as the last

-- no check fails on what is kept
kept_place : (c : Content) → IsKeptWithLogs c → first_place c ≡ None
kept_place c k = ap₂ (λ (a b : Option Place). first_some (a ∷ b ∷ [])) k.kept.sound k.passes

-- where none fails, none of those before the last does
pub place_first : (c : Content) → first_place c ≡ None → first_fault c ≡ None
place_first c none = none_first (first_fault c ∷ log_fault c ∷ []) none (first_fault c) (inl refl)

-- ---- what a stop of the device leaves, by what its group leaves

pub left_of : (size : ℕ) (h : Held) (site : Site) (image : ℕ → List ℕ) → Allows size h image → (s : GroupStands size image (plate_at site)) → LeavesGroup size h (plate_at site) s.table (extents_in site.layout image)
left_of size h site image allowed s = record { whole = image; allowed = allowed; pointer = s.pointer; stands = s.stands; sectors = λ q. refl }

pub kept_device : (size : ℕ) (h : Held) (site : Site) → StandsAlways size h site → KeepsAll site (LeavesGroup size h (plate_at site)) → IsKeptDevice size h
kept_device size h site always keeps = λ image allowed.
    let s = always image allowed in
    record { group = standing site s.pointer s.table; stands = s.stands; kept = keeps s.table (extents_in site.layout image) (left_of size h site image allowed s) }

pub shown_device : (size : ℕ) (h : Held) (site : Site) (ds : List Disk) → StandsAlways size h site → MayShowOn size h ds → MayShow site (LeavesGroup size h (plate_at site)) ds
shown_device size h site ds always m =
    let s = always m.image m.allowed in
    record { table = s.table; image = extents_in site.layout m.image; left = left_of size h site m.image m.allowed s; shown = shown_standing size m.image site s.pointer s.table ds s.stands m.shows }

-- ---- what stands as a read gives it at the entry

-- the extents read as they did
pub content_entry : (s : Site) (t : VolumeTable) (h now : Held) → Keeps (area_of s.layout h) (area_of s.layout now) → content_now s t (area_of s.layout now) ≡ content_in s t (extents_in s.layout (reads h))
content_entry s t h now k = ap (content_in s t) (fun_ext (λ q. k.reads q))

-- what no opening tests holds of the content where it holds on the device
pub well_entry : (size : ℕ) (h now : Held) (site : Site) (at : Pointer) (t : VolumeTable) → Keeps (area_of site.layout h) (area_of site.layout now) → StandsOn size (reads h) (standing site at t)
    → HoldsWellOn size (reads h) → HoldsWell (content_now site t (area_of site.layout now))
well_entry size h now site at t k stands holding = subst HoldsWell (sym (content_entry site t h now k)) (holding (standing site at t) stands)

-- and it holds on a device that is kept
pub kept_well : (size : ℕ) (h : Held) → IsKeptDevice size h → HoldsWellOn size (reads h)
kept_well size h kept g on =
    let k = kept (reads h) (Allows-reads size h) in
    let whole = subst IsKeptWithLogs (content_once size (reads h) g k.group on k.stands) k.kept in
    record { holding = whole.kept.holding; linking = whole.kept.linking }

-- it is sound, as a read gives one of the images that the device allows
pub kept_sound : (size : ℕ) (h : Held) → IsKeptDevice size h → IsSoundOn size (reads h)
kept_sound size h kept =
    let k = kept (reads h) (Allows-reads size h) in
    record { group = k.group; stands = k.stands; sound = kept_place (content_of k.group (reads h)) k.kept }

pub sound_entry : (size : ℕ) (h now : Held) (site : Site) (at : Pointer) (t : VolumeTable) → Keeps (area_of site.layout h) (area_of site.layout now) → StandsOn size (reads h) (standing site at t)
    → first_place (content_now site t (area_of site.layout now)) ≡ None → IsSoundOn size (reads h)
sound_entry size h now site at t k stands sound = record {
  group = standing site at t;
  stands = stands;
  sound = sym (ap first_place (content_entry site t h now k)) ∙ sound;
}

pub shown_entry : (size : ℕ) (h now : Held) (site : Site) (at : Pointer) (t : VolumeTable) (ds : List Disk) → Keeps (area_of site.layout h) (area_of site.layout now) → StandsOn size (reads h) (standing site at t)
    → ds ≡ disks (content_now site t (area_of site.layout now)) → Shows size (reads h) ds
shown_entry size h now site at t ds k stands shown = record { group = standing site at t; stands = stands; shown = shown ∙ ap disks (content_entry site t h now k) }

pub opened_entry : (size : ℕ) (h now : Held) (site : Site) (at : Pointer) (t : VolumeTable) (made : Shape) → Keeps (area_of site.layout h) (area_of site.layout now) → StandsOn size (reads h) (standing site at t)
    → made ≡ opening (content_now site t (area_of site.layout now)) → IsOpenedOn size (reads h) made
opened_entry size h now site at t made k stands is = record { group = standing site at t; stands = stands; shape_is = is ∙ ap opening (content_entry site t h now k) }

-- ---- refusals

pub answer_as : (P Q : OpenFault → Type 0) (before now : ℕ) (e : OpenFault) → ((f : OpenFault) → P f → Q f) → IsAnswer P before now e → IsAnswer Q before now e
answer_as P Q before now fault.NotARepository h a = (h fault.NotARepository a.0, a.1)
answer_as P Q before now (fault.Unsupported v) h a = (h (fault.Unsupported v) a.0, a.1)
answer_as P Q before now (fault.Damaged p) h a = (h (fault.Damaged p) a.0, a.1)
answer_as P Q before now fault.Device h a = a
answer_as P Q before now fault.NoMemory h a = a

pub refused_content : (told : Type 0) (size : ℕ) (h now : Held) (site : Site) (at : Pointer) (t : VolumeTable) (first before after : ℕ) (e : OpenFault) → before ≡ first → (e ≢ fault.Device → after ≡ before)
    → (told → Keeps (area_of site.layout h) (area_of site.layout now)) → (told → StandsOn size (reads h) (standing site at t))
    → IsOpeningStopped told (content_now site t (area_of site.layout now)) before after e → IsAnswer (λ f. told → IsRefusedOn size (reads h) f) first after e
refused_content told size h now site at t first before after (fault.Damaged p) before_is calm k stands is =
    (λ it. by_content (standing site at t) p (stands it) (sym (ap first_place (content_entry site t h now (k it))) ∙ is it), calm (λ failed. absurd cc) ∙ before_is)
refused_content told size h now site at t first before after fault.Device before_is calm k stands is = omega (arith, before_is, is)
refused_content told size h now site at t first before after fault.NoMemory before_is calm k stands is = calm (λ failed. absurd cc) ∙ before_is
refused_content told size h now site at t first before after fault.NotARepository before_is calm k stands is = absurd is
refused_content told size h now site at t first before after (fault.Unsupported v) before_is calm k stands is = absurd is

-- ---- an opening that failed

-- what is left of the group is kept, and shows no other disks
abbrev LeavesAsBefore : Site → (VolumeTable → (ℕ → List ℕ) → Type 0) → (VolumeTable → (ℕ → List ℕ) → Type 0) → Content → Type 0
LeavesAsBefore s was is old = (t : VolumeTable) (image : ℕ → List ℕ) → is t image → was t image ⊎ IsRepairedFrom old (content_in s t image)

-- an image whose extents are those of another
pub same_extents : (size : ℕ) (h : Held) (site : Site) (t : VolumeTable) (image : ℕ → List ℕ) (was : LeavesGroup size h (plate_at site) t image)
    → content_in site t image ≡ content_of (standing site was.pointer t) was.whole
same_extents size h site t image was = ap (content_in site t) (fun_ext (λ q. was.sectors q))

failed_kept : (size : ℕ) (entry h : Held) (site : Site) (old : Content) (t : VolumeTable) (image : ℕ → List ℕ) → Keeps entry h → IsKeptDevice size entry
    → LeavesGroup size h (plate_at site) t image ⊎ IsRepairedFrom old (content_in site t image) → IsKeptWithLogs (content_in site t image)
failed_kept size entry h site old t image k kept (inl was) =
    subst IsKeptWithLogs (sym (same_extents size h site t image was)) (kept_standing size was.whole site was.pointer t was.stands (kept was.whole (Allows-keeps size was.whole k was.allowed)))
failed_kept size entry h site old t image k kept (inr new) = new.sound

-- an image on which the group is as what it leaves says was left before, or shows the disks of the entry
failed_shown : (size : ℕ) (entry h : Held) (site : Site) (at now : Pointer) (first t : VolumeTable) (image : ℕ → List ℕ) → Keeps entry h → Keeps (area_of site.layout entry) (area_of site.layout h)
    → StandsOn size (reads entry) (standing site at first) → StandsOn size image (standing site now t)
    → LeavesGroup size h (plate_at site) t (extents_in site.layout image) ⊎ IsRepairedFrom (content_now site first (area_of site.layout h)) (content_in site t (extents_in site.layout image))
    → IsLeftBefore size entry image ⊎ ((ds : List Disk) → Shows size image ds → Shows size (reads entry) ds)
failed_shown size entry h site at now first t image k ka stands here (inl was) = inl (record {
  before = was.whole;
  allowed = Allows-keeps size was.whole k was.allowed;
  same = λ g on. (
    standing site was.pointer t,
    was.stands,
    sym (same_extents size h site t (extents_in site.layout image) was) ∙ content_once size image g (standing site now t) on here,
  );
})
failed_shown size entry h site at now first t image k ka stands here (inr new) = inr (λ ds s.
    shown_entry size entry h site at first ds ka stands (shown_standing size image site now t ds here s ∙ new.same_disks))

-- whatever a stop leaves of the group is what it might have left at the entry, or the repository under repair
abbrev pub LeavesRepaired : ℕ → Held → Held → Site → Site → VolumeTable → Type 0
LeavesRepaired size h last site now first = (t : VolumeTable) (image : ℕ → List ℕ) → LeavesGroup size last (plate_at now) t image
    → LeavesGroup size h (plate_at site) t image ⊎ IsRepairedFrom (content_now site first (area_of site.layout h)) (content_in site t image)

pub kept_back : (size : ℕ) (entry h last : Held) (site now : Site) (first : VolumeTable) → now ≡ site → Keeps entry h → StandsAlways size last now
    → LeavesRepaired size h last site now first → IsKeptDevice size entry → IsKeptDevice size last
kept_back size entry h last site now first same k always left kept =
    kept_device size last now always (λ t image l. subst (λ (x : Site). IsKeptWithLogs (content_in x t image)) (sym same)
    (failed_kept size entry h site (content_now site first (area_of site.layout h)) t image k kept (left t image l)))

pub shown_back : (size : ℕ) (entry h last : Held) (site now : Site) (at : Pointer) (first : VolumeTable) → now ≡ site → Keeps entry h → Keeps (area_of site.layout entry) (area_of site.layout h)
    → StandsOn size (reads entry) (standing site at first) → StandsAlways size last now → LeavesRepaired size h last site now first
    → ShowsNothingNew size entry last
shown_back size entry h last site now at first same k ka stands always left = λ image allowed.
    let s = always image allowed in
    failed_shown size entry h site at s.pointer first s.table image k ka stands
    (subst (λ (x : Site). StandsOn size image (standing x s.pointer s.table)) same s.stands)
    (subst (λ (x : Site). LeavesGroup size h (plate_at site) s.table (extents_in x.layout image) ⊎ IsRepairedFrom (content_now site first (area_of site.layout h)) (content_in site s.table (extents_in x.layout image))) same
    (left s.table (extents_in now.layout image) (left_of size last now image allowed s)))

-- the same, where each side tells the size of its device, and what no opening tests held
pub repaired_sized : (size before after : ℕ) (h last : Held) (site now : Site) (first : VolumeTable) → before ≡ size → after ≡ size → HoldsWell (content_now site first (area_of site.layout h))
    → ((t : VolumeTable) (image : ℕ → List ℕ) → LeavesGroup after last (plate_at now) t image → LeavesGroup before h (plate_at site) t image ⊎ MayBeRepairedFrom (content_now site first (area_of site.layout h)) (content_in site t image))
    → LeavesRepaired size h last site now first
repaired_sized size before after h last site now first is_before is_after holding left = λ t image l.
    ⊎_elim (λ was. inl (subst (λ n. LeavesGroup n h (plate_at site) t image) is_before was)) (λ new. inr (new.repaired holding))
    (left t image (subst (λ n. LeavesGroup n last (plate_at now) t image) (sym is_after) l))

pub always_sized : (size after : ℕ) (last : Held) (site : Site) → after ≡ size → StandsAlways after last site → StandsAlways size last site
always_sized size after last site is_after always = subst (λ n. StandsAlways n last site) is_after always

-- ---- unless the device failed

pub unless : {Fact : Type 0} (e : OpenFault) → Fact → UnlessDeviceFailed e Fact
unless fault.Device is = tt
unless (fault.Damaged p) is = is
unless fault.NoMemory is = is
unless fault.NotARepository is = is
unless (fault.Unsupported v) is = is

pub unless_from : {P Q : Type 0} (e : OpenFault) → (P → Q) → UnlessDeviceFailed e P → UnlessDeviceFailed e Q
unless_from fault.Device f is = tt
unless_from (fault.Damaged p) f is = f is
unless_from fault.NoMemory f is = f is
unless_from fault.NotARepository f is = f is
unless_from (fault.Unsupported v) f is = f is
