-- What an export sent, by the content of the opened store, and what the device is behind it.
use Rattle.std.proofs.Common.{◌≡◌, ◌≢◌, ◌⊎◌, inl, inr, ⊎_elim, ℕ, ◌+◌, ◌^◌, ◌<◌, Bool, true, false, List, Option, Some, None, is_some, Result, Ok, Err, is_err, cond, refl, sym, ap, subst, ◌∙◌}
use Rattle.std.proofs.Math.Logic.{∥∥₁_elim}
use Rattle.std.proofs.Props.{props}
use Rattle.std.proofs.lemmas.Bool.{true≢false}
use Rattle.std.proofs.lemmas.Slice.Eq.{bytes_eq-Decides}
use Rattle.std.specs.Prelude.{⊤}
use Rattle.std.specs.Str.{bytes_eq}
use Rattle.common_laws.specs.Lists.{In}
use Rattle.common_laws.proofs.Lists.{In-map, In-map_at, find-none, find-some}
use Rattle.sm_base.specs.declared.faults.Failed.{Failed}
use Rattle.sm_base.specs.declared.faults.OpenFault.{OpenFault}
use Rattle.sm_base.specs.declared.faults.OpenFault.TheVariants as opening
use Rattle.sm_disk.specs.Held.{HasSectors, Held, Keeps, reads}
use Rattle.sm_disk.proofs.HeldLaws.{IsSector-reads}
use Rattle.sm_script.specs.Pieces.{Writes}
use Rattle.sm_machine.specs.Disks.{Disk}
use Rattle.sm_machine.specs.Shapes.{DiskRecord, disk_record}
use Rattle.sm_machine.specs.Steps.{State}
use Rattle.sm_machine.specs.WellFormed.{IsWellFormed}
use Rattle.sm_run.specs.Runs.{BeginsSettled}
use Rattle.sm_standing.specs.Checks.{first_fault}
use Rattle.sm_standing.specs.Contents.{Content}
use Rattle.sm_standing.specs.Devices.{Shows, content_of}
use Rattle.sm_standing.specs.Shapes.{disk_record as record_now}
use Rattle.sm_standing.specs.Standing.{disk_at, disks}
use Rattle.sm_standing.proofs.DiskLists.{at_disks, disk_parts, disks_at}
use Rattle.sm_ready.specs.Known.{Known, shape_in}
use Rattle.sm_ready.specs.Orderly.{IsOrderly}
use Rattle.sm_ready.specs.Ready.{IsReady}
use Rattle.sm_ready.specs.Sessions.{KeepsAll}
use Rattle.sm_ready.specs.Stores.{Left, MayShow, content_now}
use Rattle.sm_ready.proofs.ShapeLaws.{records_now}
use Rattle.vg_layout.specs.Opening.{plate_of}
use Rattle.vg_layout.specs.Places.{area_place}
use Rattle.vg_meta.specs.Tables.{VolumeTable}
use Rattle.vg_store.specs.Groups.{LeavesGroup, area_of}
use Rattle.vg_volumes.specs.Sites.{Site}
use Rattle.vhd_stream.specs.Exports.{ExportOf}
use Rattle.vhd_stream.specs.Sending.{HasSent}
use Rattle.vhd_stream.specs.declared.exporting.ExportFault.{ExportFault}
use Rattle.vhd_stream.specs.declared.exporting.ExportFault.TheVariants as fault
use Rattle.vhd_stream.proofs.DiskLaws.{export-holds}
use Rattle.lvhd_command.specs.declared.statuses.Status.{Status}
use Rattle.lvhd_command.specs.declared.statuses.Status.TheVariants.{Done, Words, Device, Source, Sink, Refused, Memory, TooLong, Denied}
use Rattle.lvhd_command.specs.declared.words.Form.TheVariants.{Export}
use Rattle.lvhd_command.specs.declared.words.Wanted.{Wanted}
use Rattle.lvhd_command.specs.Devices.{IsKeptDevice, IsOneTable, IsOpenedOn, IsSoundOn, IsTruthfulDevice, StandsAlways, plate_at}
use Rattle.lvhd_command.specs.Exporting.{ContentSaid, ContentSent, ExportSent, ExportSaid, IsContentFile, IsFileOf, IsAsOpened, IsNotOpened, IsUnknown, LacksDisk, StandsAs, StandsOpened, export_status, unknown_line}
use Rattle.lvhd_command.specs.Running.{HasSaid, HasStayed, HasTold, IsGivenBack, RunSides, ToldOf}
use Rattle.lvhd_command.proofs.ExactLaws.{sound_or_refused}
use Rattle.lvhd_command.proofs.OpenLaws.{content_once, kept_device, kept_sound, place_first, shown_device}
use Rattle.lvhd_command.proofs.TruthLaws.{truthful_device}
use Rattle.sm_session.specs.Truth.{AllTruthful}
use Rattle.lvhd_command.proofs.RunLaws.{IsStateWith, fewer_after, reads_as}

-- ---- the disk of a UUID, by what is in memory

module _ (s : Site) (t : VolumeTable) (area : Held) (m : Known) (u : List ℕ) (o : IsOrderly s t m) (ready : IsReady s t area m) where
  disk_some : is_some (disk_record u (shape_in s t m)) ≡ true → is_some (disk_at (content_now s t area) u) ≡ true
  unfolding shape_in
  disk_some is = ∥∥₁_elim o.well_formed (hlevel props) (λ w. by w (disk_record u (shape_in s t m)) refl is)
    where
      by : IsWellFormed (shape_in s t m) → (x : Option DiskRecord) → disk_record u (shape_in s t m) ≡ x → is_some x ≡ true → is_some (disk_at (content_now s t area) u) ≡ true
      by w None e some = absurd (true≢false (sym some))
      by w (Some d) e some =
          let f = find-some (λ (q : DiskRecord). bytes_eq q.uuid u) (shape_in s t m).records d e in
          let j = In-map record_now (disks (content_now s t area)) d (subst (In d) (sym (records_now s t area m o ready w)) f.0) in
          let own : j.0.uuid ≡ u = sym (ap (λ (q : DiskRecord). q.uuid) j.2) ∙ (bytes_eq-Decides d.uuid u).0 f.1 in
          ap is_some (ap (disk_at (content_now s t area)) (sym own) ∙ disks_at (content_now s t area) j.0 j.1)

  -- a disk that memory knows is a disk of the content
  pub file_known : is_some (disk_record u (shape_in s t m)) ≡ true → (now : ℕ) (bytes : List ℕ) → ExportOf (content_now s t area) u now bytes → IsContentFile (content_now s t area) u now bytes
  file_known is now bytes exported = by (disk_at (content_now s t area) u) refl (disk_some is)
    where
      by : (x : Option Disk) → disk_at (content_now s t area) u ≡ x → is_some x ≡ true → IsContentFile (content_now s t area) u now bytes
      by None e some = absurd (true≢false (sym some))
      by (Some d) e some = record {
        disk = d;
        there = at_disks (content_now s t area) u d e;
        named = ap (λ (q : Disk). q.uuid) (disk_parts (content_now s t area) u d e).made;
        exported = exported;
      }

  -- and one that it does not know is none
  pub lacks_unknown : is_some (disk_record u (shape_in s t m)) ≡ false → LacksDisk (content_now s t area) u
  unfolding shape_in
  lacks_unknown none d i named = ∥∥₁_elim o.well_formed (hlevel props) (λ w.
      by (subst (In (record_now d)) (records_now s t area m o ready w) (In-map_at record_now (disks (content_now s t area)) d i)) (disk_record u (shape_in s t m)) refl none)
    where
      by : In (record_now d) (shape_in s t m).records → (x : Option DiskRecord) → disk_record u (shape_in s t m) ≡ x → is_some x ≡ false → ⊥
      by j None e is = true≢false (sym ((bytes_eq-Decides d.uuid u).1 named) ∙ find-none (λ (q : DiskRecord). bytes_eq q.uuid u) (shape_in s t m).records (record_now d) e j)
      by j (Some q) e is = true≢false is

-- ---- what was sent of a content

pub content_sent : (c : Content) (u : List ℕ) (now : ℕ) (bytes : List ℕ) (had got : Option (List ℕ)) (r : Result ⊤ ExportFault) → IsContentFile c u now bytes → HasSent bytes had got r
    → ContentSent c u now had got (export_status r)
content_sent c u now bytes had got (Ok v) file sent = (bytes, file, sent)
content_sent c u now bytes had got (Err fault.Device) file sent = (bytes, file, sent)
content_sent c u now bytes had got (Err fault.Sink) file sent = (bytes, inl file, sent)
content_sent c u now bytes had got (Err fault.NoMemory) file sent = sent

pub content_refused : (c : Content) (u : List ℕ) (now : ℕ) (had got : Option (List ℕ)) (before after : ℕ) (p : Result ⊤ Failed) (status : Status) → LacksDisk c u
    → Writes unknown_line had got before after p → status ≡ cond (is_err p) Sink Denied → ContentSent c u now had got status
content_refused c u now had got before after (Ok v) status lacks w is = subst (λ (x : Status). ContentSent c u now had got x) (sym is) (lacks, w.adds)
content_refused c u now had got before after (Err f) status lacks w is = subst (λ (x : Status). ContentSent c u now had got x) (sym is) (unknown_line, inr (lacks, refl), w.front)

-- no status of the words, of a script or of an opening comes
pub few_said : (had got : Option (List ℕ)) (status : Status) → ContentSaid had got status → (status ≢ Words) × (status ≢ Source) × (status ≢ TooLong)
few_said had got status said = ((λ e. subst (ContentSaid had got) e said), (λ e. subst (ContentSaid had got) e said), (λ e. subst (ContentSaid had got) e said))

pub said_of : (s : RunSides) (status : Status) → ContentSaid s.had_got s.got status → ExportSaid s status
said_of s Done said = tt
said_of s Words said = absurd said
said_of s Device said = tt
said_of s Source said = absurd said
said_of s Sink said = tt
said_of s Refused said = absurd said
said_of s Memory said = said
said_of s TooLong said = absurd said
said_of s Denied said = said

-- ---- the device behind an export

-- a device that was only read behind the opening is given back
pub back_read : (size : ℕ) (site : Site) (held new : Held) → Keeps held new → StandsAlways size new site → IsGivenBack size site held new
back_read size site held new k always = record {
  stands = always;
  fewer = λ t image l. fewer_after size site held new t image k l;
  extents = record { reads = λ q. k.reads (area_place site.layout + q); may = λ q v m. k.may (area_place site.layout + q) v m };
}

-- what the device holds behind an opening: the content, with the disks that a read gave at the entry
pub record HoldsContent (s : RunSides) (c : Content) : Type 0 where
  pub stands : StandsAs s.size s.new c
  pub shown : Shows s.size (reads s.old) (disks c)
  pub sectors : HasSectors s.size s.new
  pub kept : IsKeptDevice s.size s.new

-- the file of a disk of the content is that of the disk on the device
pub file_of : (s : RunSides) (c : Content) (u : List ℕ) (now : ℕ) (bytes : List ℕ) → HoldsContent s c → now < 2 ^ 32 → IsContentFile c u now bytes → IsFileOf s u now bytes
file_of s c u now bytes h early file =
    let on = h.stands in
    let sound : IsSoundOn s.size (reads s.new) = kept_sound s.size s.new h.kept in
    let same : content_of on.group (reads s.new) ≡ content_of sound.group (reads s.new) = content_once s.size (reads s.new) sound.group on.group sound.stands on.stands in
    record {
      content = c;
      stands = on;
      shown = h.shown;
      file = file;
      holds = export-holds s.size (reads s.new) file.disk bytes (record {
        group = on.group;
        sound = record { sectors = λ p below. IsSector-reads h.sectors p below; stands = on.stands; sound = ap first_fault same ∙ place_first (content_of sound.group (reads s.new)) sound.sound };
        disk = subst (λ (x : Content). In file.disk (disks x)) on.content_is file.there;
        now = now;
        early = early;
        bytes_are = subst (λ (x : Content). ExportOf x file.disk.uuid now bytes) on.content_is (subst (λ (v : List ℕ). ExportOf c v now bytes) (sym file.named) file.exported);
      });
    }

-- a read shows one list of disks
shown_once : (size : ℕ) (image : ℕ → List ℕ) (ds es : List Disk) → Shows size image ds → Shows size image es → es ≡ ds
shown_once size image ds es a b = b.shown ∙ ap disks (content_once size image a.group b.group a.stands b.stands) ∙ sym a.shown

pub unknown_of : (s : RunSides) (c : Content) (u : List ℕ) → Shows s.size (reads s.old) (disks c) → LacksDisk c u → IsUnknown s u
unknown_of s c u shown lacks = λ ds there d i named. lacks d (subst (In d) (shown_once s.size (reads s.old) (disks c) ds shown there) i) named

pub did_of : (s : RunSides) (c : Content) (u : List ℕ) (now : ℕ) (status : Status) → HoldsContent s c → now < 2 ^ 32 → ContentSent c u now s.had_got s.got status → ExportSent s u now status
did_of s c u now Done h early sent = (sent.0, file_of s c u now sent.0 h early sent.1, sent.2)
did_of s c u now Sink h early sent = (sent.0, ⊎_elim (λ file. inl (file_of s c u now sent.0 h early file)) (λ none. inr (unknown_of s c u h.shown none.0, none.1)) sent.1, sent.2)
did_of s c u now Device h early sent = inr (sent.0, file_of s c u now sent.0 h early sent.1, sent.2)
did_of s c u now Denied h early sent = (unknown_of s c u h.shown sent.0, sent.1)
did_of s c u now Memory h early sent = sent
did_of s c u now Refused h early sent = absurd sent
did_of s c u now Words h early sent = absurd sent
did_of s c u now Source h early sent = absurd sent
did_of s c u now TooLong h early sent = absurd sent

-- ---- the device is as the opening left it

module _ (size other : ℕ) (site : Site) (held new : Held) (t : VolumeTable) (failed : Bool) (told : Type 0) (is_size : other ≡ size) (keeps : Keeps held new) (always : StandsAlways size new site) where
  -- what a stop leaves of the group now it might have left behind the opening
  before : (u : VolumeTable) (image : ℕ → List ℕ) → LeavesGroup size new (plate_at site) u image → Left told site (LeavesGroup other held (plate_at site)) failed t (area_of site.layout held) u image
  before u image l = inl (subst (λ n. LeavesGroup n held (plate_at site) u image) (sym is_size) (fewer_after size site held new u image keeps l))

  pub kept_opened : KeepsAll site (Left told site (LeavesGroup other held (plate_at site)) failed t (area_of site.layout held)) → IsKeptDevice size new
  kept_opened all = kept_device size new site always (λ u image l. all u image (before u image l))

  pub truthful_opened : AllTruthful site (Left told site (LeavesGroup other held (plate_at site)) failed t (area_of site.layout held)) → IsTruthfulDevice size new
  truthful_opened all = truthful_device size new site always (λ u image l. all u image (before u image l))

  pub stands_opened : (old : Held) (start : State) → Shows size (reads old) start.disks → IsOpenedOn size (reads old) start.shape → BeginsSettled start (MayShow site (Left told site (LeavesGroup other held (plate_at site)) failed t (area_of site.layout held)))
      → IsOneTable size site new t → IsStateWith site t (area_of site.layout held) start → plate_of size (reads old) ≡ Ok (plate_at site) → StandsOpened size old new
  stands_opened old start shown opened begins one with labelled = record {
    start = start;
    shown = shown;
    opened = opened;
    stands = reads_as size site held new t start (back_read size site held new keeps always) one with;
    settled = λ ds m. let w = shown_device size new site ds always m in begins ds (record { table = w.table; image = w.image; left = before w.table w.image w.left; shown = w.shown });
    label = λ image allowed. (always image allowed).stands.labelled ∙ sym labelled;
  }

-- ---- not opened

few_line : (e : OpenFault) (had got : Option (List ℕ)) (before now : ℕ) (status : Status) → ToldOf e had got before now status → (status ≢ Words) × (status ≢ Source) × (status ≢ TooLong)
few_line e had got before now status t = ((λ is. subst (ToldOf e had got before now) is t), (λ is. subst (ToldOf e had got before now) is t), (λ is. subst (ToldOf e had got before now) is t))

pub few_told : (e : OpenFault) (had got : Option (List ℕ)) (before now : ℕ) (status : Status) → HasTold e had got before now status → (status ≢ Words) × (status ≢ Source) × (status ≢ TooLong)
few_told opening.Device had got before now status h = ((λ e. let x = sym h.0 ∙ e in (let y = x in cc)), (λ e. let x = sym h.0 ∙ e in (let y = x in cc)), (λ e. let x = sym h.0 ∙ e in (let y = x in cc)))
few_told opening.NoMemory had got before now status h = ((λ e. let x = sym h.0 ∙ e in (let y = x in cc)), (λ e. let x = sym h.0 ∙ e in (let y = x in cc)), (λ e. let x = sym h.0 ∙ e in (let y = x in cc)))
few_told opening.NotARepository had got before now status h = few_line opening.NotARepository had got before now status h.1
few_told (opening.Unsupported v) had got before now status h = few_line (opening.Unsupported v) had got before now status h.1
few_told (opening.Damaged p) had got before now status h = few_line (opening.Damaged p) had got before now status h.1

-- a device on which all checks pass failed, or memory was wanting: nothing was sent
pub did_refused : (s : RunSides) (u : List ℕ) (now : ℕ) (status : Status) → IsSoundOn s.size (reads s.old) → HasSaid s status → ExportSent s u now status
did_refused s u now Done sound said = absurd said
did_refused s u now Words sound said = absurd said
did_refused s u now Device sound said = inl said
did_refused s u now Source sound said = absurd said
did_refused s u now Sink sound said = absurd (sound_or_refused s.size (reads s.old) said.0 sound said.1)
did_refused s u now Refused sound said = absurd (sound_or_refused s.size (reads s.old) said.0 sound said.1)
did_refused s u now Memory sound said = said
did_refused s u now TooLong sound said = absurd said
did_refused s u now Denied sound said = absurd said

pub said_export : (s : RunSides) (status : Status) → HasSaid s status → (status ≡ Refused → HasStayed s Refused) → ExportSaid s status
said_export s Done said stayed = tt
said_export s Words said stayed = absurd said
said_export s Device said stayed = tt
said_export s Source said stayed = absurd said
said_export s Sink said stayed = tt
said_export s Refused said stayed = stayed refl
said_export s Memory said stayed = said
said_export s TooLong said stayed = absurd said
said_export s Denied said stayed = absurd said

-- ---- whether it was opened

-- what was said of an open repository, and what stands behind it
pub opened_said : (size : ℕ) (old new : Held) (had got : Option (List ℕ)) (status : Status) → ContentSaid had got status → StandsOpened size old new → IsAsOpened size old new status
opened_said size old new had got Done said is = is
opened_said size old new had got Denied said is = is
opened_said size old new had got Sink said is = inl is
opened_said size old new had got Device said is = inl is
opened_said size old new had got Memory said is = inl is
opened_said size old new had got Refused said is = absurd said
opened_said size old new had got Words said is = absurd said
opened_said size old new had got Source said is = absurd said
opened_said size old new had got TooLong said is = absurd said

closed_told : (size : ℕ) (old new : Held) (e : OpenFault) (had got : Option (List ℕ)) (before now : ℕ) (status : Status) → ToldOf e had got before now status → IsNotOpened size old new status
    → IsAsOpened size old new status
closed_told size old new e had got before now Refused told is = is
closed_told size old new e had got before now Sink told is = inr is
closed_told size old new e had got before now Device told is = inr is
closed_told size old new e had got before now Memory told is = inr is
closed_told size old new e had got before now Done told is = absurd told
closed_told size old new e had got before now Words told is = absurd told
closed_told size old new e had got before now Source told is = absurd told
closed_told size old new e had got before now TooLong told is = absurd told
closed_told size old new e had got before now Denied told is = absurd told

-- what was said of a repository that was not opened
pub closed_said : (size : ℕ) (old new : Held) (e : OpenFault) (had got : Option (List ℕ)) (before now : ℕ) (status : Status) → HasTold e had got before now status → IsNotOpened size old new status
    → IsAsOpened size old new status
closed_said size old new opening.Device had got before now status told = subst (λ (s : Status). IsNotOpened size old new s → IsAsOpened size old new s) (sym told.0) (λ is. inr is)
closed_said size old new opening.NoMemory had got before now status told = subst (λ (s : Status). IsNotOpened size old new s → IsAsOpened size old new s) (sym told.0) (λ is. inr is)
closed_said size old new opening.NotARepository had got before now status told = closed_told size old new opening.NotARepository had got before now status told.1
closed_said size old new (opening.Unsupported version) had got before now status told = closed_told size old new (opening.Unsupported version) had got before now status told.1
closed_said size old new (opening.Damaged place) had got before now status told = closed_told size old new (opening.Damaged place) had got before now status told.1

-- ---- the whole

-- where no call failed, the disk that a read shows was sent, or memory was wanting
pub export_completes : (s : RunSides) (u : List ℕ) (now : ℕ) (ds : List Disk) (d : Disk) (status : Status) → ExportSent s u now status → Shows s.size (reads s.old) ds → In d ds → d.uuid ≡ u
    → (status ≡ Device → ⊥) → (status ≡ Sink → ⊥) → (status ≡ Done) ⊎ (status ≡ Memory)
export_completes s u now ds d Done did shown i named device sink = inl refl
export_completes s u now ds d Memory did shown i named device sink = inr refl
export_completes s u now ds d Device did shown i named device sink = absurd (device refl)
export_completes s u now ds d Sink did shown i named device sink = absurd (sink refl)
export_completes s u now ds d Denied did shown i named device sink = absurd (did.0 ds shown d i named)
export_completes s u now ds d Refused did shown i named device sink = absurd did
export_completes s u now ds d Words did shown i named device sink = absurd did
export_completes s u now ds d Source did shown i named device sink = absurd did
export_completes s u now ds d TooLong did shown i named device sink = absurd did

-- and where no disk has the UUID this was said, or memory was wanting
pub export_denies : (s : RunSides) (u : List ℕ) (now : ℕ) (status : Status) → ExportSent s u now status → IsUnknown s u → (status ≡ Device → ⊥) → (status ≡ Sink → ⊥) → (status ≡ Denied) ⊎ (status ≡ Memory)
export_denies s u now Denied did unknown device sink = inl refl
export_denies s u now Memory did unknown device sink = inr refl
export_denies s u now Done did unknown device sink = let f = did.1 in absurd (unknown (disks f.content) f.shown f.file.disk f.file.there f.file.named)
export_denies s u now Device did unknown device sink = absurd (device refl)
export_denies s u now Sink did unknown device sink = absurd (sink refl)
export_denies s u now Refused did unknown device sink = absurd did
export_denies s u now Words did unknown device sink = absurd did
export_denies s u now Source did unknown device sink = absurd did
export_denies s u now TooLong did unknown device sink = absurd did

-- the words ask for one disk alone
pub same_wanted : (a b : Wanted) → Some (Export a) ≡ Some (Export b) → a ≡ b
same_wanted a b e = (let x = e in cc)
