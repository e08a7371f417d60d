-- What the logs of tracked disks tell of whatever a stop leaves of a device.
use Rattle.std.proofs.Common.{◌≡◌, ◌⊎◌, inl, inr, ⊎_elim, ℕ, List, [], Err, sym, ap, ◌∙◌, subst}
use Rattle.common_laws.specs.Lists.{In}
use Rattle.sm_base.specs.declared.faults.OpenFault.TheVariants as opening
use Rattle.sm_base.specs.declared.sizes.Geometry.{Geometry}
use Rattle.sm_disk.specs.Held.{Allows, Held, IsSettled, Keeps, reads}
use Rattle.sm_disk.proofs.HeldLaws.{Allows-keeps, Allows-reads}
use Rattle.sm_log.specs.Logs.{Log}
use Rattle.sm_log.specs.Told.{Tells}
use Rattle.sm_machine.specs.Disks.{Disk}
use Rattle.sm_machine.specs.Runs.{HasSector}
use Rattle.vg_layout.specs.Opening.{GroupFound, StandsOn, plate_of}
use Rattle.vg_layout.specs.Sectors.{Pointer}
use Rattle.vg_meta.specs.Tables.{VolumeTable}
use Rattle.vg_store.specs.Formats.{IsFormatted, IsLeftByFormat}
use Rattle.vg_store.specs.Groups.{LeavesGroup, area_of}
use Rattle.vg_volumes.specs.Sites.{Site}
use Rattle.sm_ready.specs.Stores.{Leaving, content_in, content_now}
use Rattle.sm_recover.specs.Stores.{IsRepairedFrom}
use Rattle.sm_session.specs.Truth.{AllTruthful, AreTaken, IsTruthful}
use Rattle.sm_standing.specs.Contents.{Content}
use Rattle.sm_standing.specs.Devices.{content_of}
use Rattle.sm_standing.specs.Logs.{logs}
use Rattle.sm_standing.specs.Standing.{disks}
use Rattle.lvhd_command.specs.declared.statuses.Status.{Status}
use Rattle.lvhd_command.specs.declared.statuses.Status.TheVariants.{Done, Words, Device, Source, Sink, Refused, Memory, TooLong, Denied}
use Rattle.lvhd_command.specs.Formatting.{Asked, FormatDid, HasFormatted, IsCutLine, Sides}
use Rattle.lvhd_command.specs.Formatting.IsCutLine.{of_refusal, of_success}
use Rattle.lvhd_command.specs.Devices.{IsTruthfulDevice, IsTruthfulOn, StandsAlways, plate_at}
use Rattle.lvhd_command.specs.Running.{IsGivenBack}
use Rattle.lvhd_command.proofs.FormattedLaws.{formatted_allowed, formatted_empty}
use Rattle.lvhd_command.proofs.OpenLaws.{LeavesRepaired, content_entry, content_once, extents_in, left_of, same_extents, standing}

-- a content with the disks and the logs of one that is truthful
pub truthful_same : (c d : Content) → disks d ≡ disks c → logs d ≡ logs c → IsTruthful c → IsTruthful d
truthful_same c d same_disks same_logs t = record {
  taken = subst (λ (ls : List Log). AreTaken (disks d) ls) (sym same_logs) (subst (λ (ds : List Disk). AreTaken ds (logs c)) (sym same_disks) t.taken);
  told = subst (λ (ls : List Log). Tells (HasSector (disks d)) ls) (sym same_logs) (subst (λ (ds : List Disk). Tells (HasSector ds) (logs c)) (sym same_disks) t.told);
}

-- by what the group of a device leaves
pub truthful_device : (size : ℕ) (h : Held) (site : Site) → StandsAlways size h site → AllTruthful site (LeavesGroup size h (plate_at site)) → IsTruthfulDevice size h
truthful_device size h site always all = λ image allowed g on.
    let s = always image allowed in
    subst IsTruthful (content_once size image g (standing site s.pointer s.table) on s.stands) (all s.table (extents_in site.layout image) (left_of size h site image allowed s))

-- a device that a session gave back
pub truthful_back : (size other : ℕ) (site : Site) (held after : Held) (leaves : Leaving) → other ≡ size → ((t : VolumeTable) (image : ℕ → List ℕ) → LeavesGroup other held (plate_at site) t image → leaves t image)
    → AllTruthful site leaves → IsGivenBack other site held after → IsTruthfulDevice size after
truthful_back size other site held after leaves is_size left all back =
    subst (λ (n : ℕ). IsTruthfulDevice n after) is_size (truthful_device other after site back.stands (λ t image l. all t image (left t image (back.fewer t image l))))

-- what stands as a read gives it at the entry
pub truthful_entry : (size : ℕ) (h now : Held) (site : Site) (at : Pointer) (t : VolumeTable) → Keeps (area_of site.layout h) (area_of site.layout now) → StandsOn size (reads h) (standing site at t)
    → IsTruthfulOn size (reads h) → IsTruthful (content_now site t (area_of site.layout now))
truthful_entry size h now site at t k stands holding = subst IsTruthful (sym (content_entry site t h now k)) (holding (standing site at t) stands)

-- ---- an opening that failed

failed_truthful : (size : ℕ) (entry h : Held) (site : Site) (old : Content) (t : VolumeTable) (image : ℕ → List ℕ) → Keeps entry h → IsTruthful old → IsTruthfulDevice size entry
    → LeavesGroup size h (plate_at site) t image ⊎ IsRepairedFrom old (content_in site t image) → IsTruthful (content_in site t image)
failed_truthful size entry h site old t image k was truthful (inl left) =
    subst IsTruthful (sym (same_extents size h site t image left)) (truthful left.whole (Allows-keeps size left.whole k left.allowed) (standing site left.pointer t) left.stands)
failed_truthful size entry h site old t image k was truthful (inr new) = truthful_same old (content_in site t image) new.same_disks new.same_logs was

pub truthful_failed : (size : ℕ) (entry h last : Held) (site now : Site) (at : Pointer) (first : VolumeTable) → now ≡ site → Keeps entry h → Keeps (area_of site.layout entry) (area_of site.layout h)
    → StandsOn size (reads entry) (standing site at first) → StandsAlways size last now → LeavesRepaired size h last site now first → IsTruthfulDevice size entry → IsTruthfulDevice size last
truthful_failed size entry h last site now at first same k ka stands always left truthful =
    let was = truthful_entry size entry h site at first ka stands (truthful (reads entry) (Allows-reads size entry)) in
    truthful_device size last now always (λ t image l. subst (λ (x : Site). IsTruthful (content_in x t image)) (sym same)
    (failed_truthful size entry h site (content_now site first (area_of site.layout h)) t image k was truthful (left t image l)))

-- ---- where there is nothing to tell

-- a content without logs
pub truthful_untracked : (c : Content) → logs c ≡ [] → IsTruthful c
truthful_untracked c none = record {
  taken = λ l i. absurd (subst (In l) none i);
  told = λ a b k x y in_a. absurd (subst (In a) none in_a);
}

-- a content without disks
truthful_empty : (c : Content) → disks c ≡ [] → IsTruthful c
truthful_empty c none = record {
  taken = λ l i tagged d j. absurd (subst (In d) none j);
  told = λ a b k x y in_a in_b follows shows. absurd (subst (In shows.disk) none shows.is_there);
}

-- a new repository
pub new_truthful : (size : ℕ) (image : ℕ → List ℕ) (g : Geometry) (repository : List ℕ) → IsFormatted size image g repository → IsTruthfulOn size image
new_truthful size image g repository formatted group on =
    let s = formatted_empty size image g repository formatted in
    truthful_empty (content_of group image) (ap disks (content_once size image s.group group s.stands on) ∙ sym s.shown)

pub device_truthful : (size : ℕ) (h : Held) (g : Geometry) (repository : List ℕ) → IsFormatted size h.floor g repository → IsSettled h → IsTruthfulDevice size h
device_truthful size h g repository formatted settled image allowed = new_truthful size image g repository (formatted_allowed size h g repository formatted settled image allowed)

-- where no repository stands
pub nothing_truthful : (size : ℕ) (image : ℕ → List ℕ) → plate_of size image ≡ Err opening.NotARepository → IsTruthfulOn size image
nothing_truthful size image none group on = absurd (let x = sym none ∙ on.labelled in (let y = x in cc))

-- what a format left of a device
one_left : (size : ℕ) (old : Held) (g : Geometry) (repository : List ℕ) (image : ℕ → List ℕ) → IsTruthfulDevice size old → IsLeftByFormat size old g repository image → IsTruthfulOn size image
one_left size old g repository image was (inl before) = was image before
one_left size old g repository image was (inr (inl none)) = nothing_truthful size image none
one_left size old g repository image was (inr (inr new)) = new_truthful size image g repository new

truthful_left : (size : ℕ) (old new : Held) (g : Geometry) (repository : List ℕ) → ((image : ℕ → List ℕ) → Allows size new image → IsLeftByFormat size old g repository image) → IsTruthfulDevice size old → IsTruthfulDevice size new
truthful_left size old new g repository left was = λ image allowed. one_left size old g repository image was (left image allowed)

-- a device that was formatted, by what the format says of it
formatted_truthful : (s : Sides) (a : Asked) (g : Geometry) → s.told → HasFormatted s a g → IsTruthfulDevice s.size s.new
formatted_truthful s a g told f = device_truthful s.size s.new g a.repository (f.stands told) (f.settled told)

cut_truthful : (s : Sides) (a : Asked) (line : List ℕ) → s.told → (s.Unchanged → IsTruthfulDevice s.size s.new) → IsCutLine s a line → IsTruthfulDevice s.size s.new
cut_truthful s a line told same (of_refusal unchanged says) = same unchanged
cut_truthful s a line told same (of_success g formatted says) = formatted_truthful s a g told formatted

-- what a stop leaves of a format is truthful where what stood before was
pub format_truthful : (s : Sides) (a : Asked) (status : Status) → FormatDid s a status → s.told → IsTruthfulDevice s.size s.old → (s.Unchanged → IsTruthfulDevice s.size s.new) → IsTruthfulDevice s.size s.new
format_truthful s a Done did told was same = formatted_truthful s a did.0 told did.1
format_truthful s a Refused did told was same = same did.0
format_truthful s a Device did told was same = truthful_left s.size s.old s.new did.geometry a.repository (did.crash told) was
format_truthful s a Sink did told was same = cut_truthful s a did.1.0 told same did.1.1
format_truthful s a Memory did told was same = same did.0
format_truthful s a Words did told was same = absurd did
format_truthful s a Source did told was same = absurd did
format_truthful s a TooLong did told was same = absurd did
format_truthful s a Denied did told was same = absurd did
