-- What a run of the program left on the device, from what its session left.
use Rattle.std.proofs.Common.{◌≡◌, ◌≢◌, ◌⊎◌, inl, inr, ⊎_elim, ℕ, ◌+◌, ◌≤◌, Bool, List, [], ◌++◌, Option, Result, Ok, Err, is_err, cond, refl, sym, ap, ap₂, subst, ◌∙◌, arith, true}
use Rattle.std.proofs.Math.Logic.{∥∥₁_elim}
use Rattle.std.proofs.Math.Path.{fun_ext}
use Rattle.std.proofs.Props.{props}
use Rattle.std.specs.Prelude.{⊤}
use Rattle.sm_base.specs.declared.faults.Failed.{Failed}
use Rattle.sm_base.specs.declared.faults.OpenFault.{OpenFault}
use Rattle.sm_base.specs.declared.faults.OpenFault.TheVariants as opening
use Rattle.sm_base.specs.Kinds.{is_entry}
use Rattle.sm_disk.specs.Held.{IsSettled, Held, Keeps, reads}
use Rattle.sm_disk.proofs.HeldLaws.{Allows-keeps, Allows-reads, Keeps-none}
use Rattle.sm_disk.specs.Streams.{Adds}
use Rattle.sm_disk.proofs.StreamLaws.{Adds-none}
use Rattle.vg_store.specs.Openings.{IsAnswer}
use Rattle.sm_script.specs.Pieces.{Writes}
use Rattle.common_laws.proofs.Lists.{In-map}
use Rattle.sm_machine.specs.Disks.{Disk}
use Rattle.sm_machine.specs.Runs.{Turn}
use Rattle.sm_machine.specs.Shapes.{ImageRow, is_image_of}
use Rattle.sm_machine.specs.Steps.{State}
use Rattle.sm_machine.specs.Tracking.{AreGoodLogs}
use Rattle.sm_machine.specs.WellFormed.{HasImage, HasRecord, IsWellFormed}
use Rattle.sm_machine.proofs.Attaches.{is_its_image}
use Rattle.sm_machine.proofs.Changes.{list_any-some}
use Rattle.sm_reached.specs.Reached.{NamesNoMore}
use Rattle.vg_layout.specs.Opening.{plate_of}
use Rattle.vg_layout.specs.Places.{area_place}
use Rattle.vg_meta.specs.Tables.{VolumeTable}
use Rattle.vg_store.specs.Groups.{LeavesGroup, area_of}
use Rattle.vg_volumes.specs.Sites.{Site, area_size}
use Rattle.sm_ready.specs.Known.{Known, entry_of, is_shown, machine_row, shape_in}
use Rattle.sm_ready.specs.Orderly.{IsOrderly}
use Rattle.sm_ready.specs.Ready.{HasNoStrayLog, IsReady, IsTidy}
use Rattle.sm_ready.specs.Sessions.{KeepsAll, state_in}
use Rattle.sm_ready.specs.Stores.{Left, MayShow, content_in, content_now}
use Rattle.sm_ready.proofs.RepairLaws.{ready_synced, same_left}
use Rattle.sm_ready.proofs.StateLaws.{law_state}
use Rattle.sm_run.specs.Runs.{HasRun}
use Rattle.sm_recover.specs.Repairs.{UnlessDeviceFailed}
use Rattle.sm_run.specs.declared.runs.RunFault.{RunFault}
use Rattle.sm_standing.specs.Devices.{Shows}
use Rattle.sm_standing.specs.Entries.{names_in}
use Rattle.sm_standing.specs.Shapes.{IsStateOf}
use Rattle.sm_standing.specs.Standing.{disks}
use Rattle.lvhd_command.specs.declared.statuses.Status.{Status}
use Rattle.lvhd_command.specs.declared.statuses.Status.TheVariants.{Done, Words, Device, Source, Sink, Refused, Memory, TooLong, Denied}
use Rattle.lvhd_command.specs.Devices.{IsKeptDevice, IsOneTable, IsOpenedOn, IsSoundOn, IsRefusedOn, IsTruthfulDevice, MayShowOn, StandsAlways, plate_at}
use Rattle.lvhd_command.specs.Exporting.{StandsAs}
use Rattle.lvhd_command.specs.Running.{RunSides, HasRunOn, HasStayed, ReadsAsState, EndsAs, ShowsOnly, IsGivenBack, ToldOf, HasTold, HasSaid, status_of}
use Rattle.lvhd_command.specs.Texts.{line_of, fault_words}
use Rattle.lvhd_command.proofs.OpenLaws.{standing, extents_in, kept_device, shown_device, shown_standing}

-- ---- a run's facts, with other words for what a stop leaves

run_as : {start end : State} {result : Result ⊤ RunFault} {hl l hg g : Option (List ℕ)} {leaves left : List Disk → Type 0} {ready ready' kept kept' : Type 0}
    → ((ds : List Disk) → left ds → leaves ds) → (ready → ready') → (kept → kept') → HasRun start end result hl l hg g leaves ready kept → HasRun start end result hl l hg g left ready' kept'
run_as fewer at keeps r = record {
  bytes = r.bytes;
  turns = r.turns;
  pending = r.pending;
  sent = r.sent;
  takes = r.takes;
  adds = r.adds;
  how_far = r.how_far;
  state = r.state;
  leaves = λ ds h. r.leaves ds (fewer ds h);
  ready = λ no. at (r.ready no);
  kept = keeps r.kept;
  spared = r.spared;
}

-- ---- what a read gives at the end

-- the machine's state is what stands, and the journal has the operation's own entry alone
pub record IsStateWith (site : Site) (t : VolumeTable) (area : Held) (σ : State) : Type 0 where
  pub state : IsStateOf (content_now site t area) σ
  pub entries : names_in t is_entry ≡ entry_of σ.shape.op

-- where logs are good each is that of a visible image
no_stray_log : (site : Site) (t : VolumeTable) (m : Known) → IsOrderly site t m → ∥ AreGoodLogs (shape_in site t m) ∥₁ → HasNoStrayLog m
unfolding shape_in
no_stray_log site t m o good l i = ∥∥₁_elim o.well_formed (hlevel props) (λ w. ∥∥₁_elim good (hlevel props) (λ (g : AreGoodLogs (shape_in site t m)). shown w (g.good l i).disk))
  where
    shown : IsWellFormed (shape_in site t m) → HasRecord (shape_in site t m) l.disk → is_shown m.rows l.disk ≡ true
    shown w r =
        let k : HasImage (shape_in site t m) l.disk = subst (HasImage (shape_in site t m)) r.2 (w.disks r.0 r.1) in
        let x = In-map machine_row m.rows k.0 k.1 in
        list_any-some (λ y. is_image_of l.disk (machine_row y)) m.rows x.0 x.1 (subst (λ (y : ImageRow). is_image_of l.disk y ≡ true) x.2 (is_its_image k.0 l.disk k.2 k.3))

-- so it is of a session between two steps, whose logs are good
pub session_state : (site : Site) (t : VolumeTable) (area : Held) (m : Known) → IsOrderly site t m → IsTidy t m → ∥ AreGoodLogs (shape_in site t m) ∥₁ → IsReady site t area m
    → IsStateWith site t area (state_in site t area m)
unfolding shape_in
session_state site t area m o tidy good ready = record { state = law_state site t area m o tidy (no_stray_log site t m o good) ready; entries = o.entries }

-- what stands on a device that was given back, as a read gives it: the session's content, with its table
pub record StandsBack (size : ℕ) (site : Site) (held after : Held) (t : VolumeTable) : Type 0 where
  pub content : StandsAs size after (content_now site t (area_of site.layout held))
  pub table_is : content.group.table ≡ t

pub stands_back : (size : ℕ) (site : Site) (held after : Held) (t : VolumeTable) → IsGivenBack size site held after → IsOneTable size site after t → StandsBack size site held after t
stands_back size site held after t back one =
    let s = back.stands (reads after) (Allows-reads size after) in
    let left : LeavesGroup size after (plate_at site) s.table (extents_in site.layout (reads after)) = record { whole = reads after; allowed = Allows-reads size after; pointer = s.pointer; stands = s.stands; sectors = λ q. refl } in
    let table : s.table ≡ t = one s.table (extents_in site.layout (reads after)) left in
    record {
      content = record {
        group = standing site s.pointer s.table;
        stands = s.stands;
        content_is = ap₂ (λ (u : VolumeTable) (image : ℕ → List ℕ). content_in site u image) (sym table) (fun_ext (λ q. sym (back.extents.reads q)));
      };
      table_is = table;
    }

pub reads_as : (size : ℕ) (site : Site) (held after : Held) (t : VolumeTable) (σ : State) → IsGivenBack size site held after → IsOneTable size site after t → IsStateWith site t (area_of site.layout held) σ
    → ReadsAsState size after σ
reads_as size site held after t σ back one with =
    let b = stands_back size site held after t back one in
    record {
      group = b.content.group;
      stands = b.content.stands;
      state = subst (λ c. IsStateOf c σ) b.content.content_is with.state;
      entries = subst (λ (u : VolumeTable). names_in u is_entry ≡ entry_of σ.shape.op) (sym b.table_is) with.entries;
    }

-- ---- the whole

pub has_run : (s : RunSides) (status : Status) (site : Site) (t : VolumeTable) (held : Held) (start end : State) (result : Result ⊤ RunFault) (Ready : Type 0)
    → IsSoundOn s.size (reads s.old) → Shows s.size (reads s.old) start.disks → IsOpenedOn s.size (reads s.old) start.shape
    → HasRun start end result s.had_left s.left s.had_got s.got (MayShow site (LeavesGroup s.size held (plate_at site))) Ready (KeepsAll site (LeavesGroup s.size held (plate_at site)))
    → IsGivenBack s.size site held s.new → (Ready → IsOneTable s.size site s.new t) → (Ready → IsStateWith site t (area_of site.layout held) end) → EndsAs result s.size s.new end status
    → plate_of s.size (reads s.old) ≡ Ok (plate_at site) → (IsTruthfulDevice s.size s.old → (turns : List Turn) → NamesNoMore start turns) → HasRunOn s status
has_run s status site t held start end result Ready sound shown opened run back one state ends labelled more =
    let always = back.stands in
    let did : HasRun start end result s.had_left s.left s.had_got s.got (MayShowOn s.size s.new) (ReadsAsState s.size s.new end) (IsKeptDevice s.size s.new) = run_as
    (λ ds m. let w = shown_device s.size s.new site ds always m in record { table = w.table; image = w.image; left = back.fewer w.table w.image w.left; shown = w.shown })
    (λ r. reads_as s.size site held s.new t end back (one r) (state r))
    (λ keeps. kept_device s.size s.new site always (λ u image l. keeps u image (back.fewer u image l))) run in
    record {
      sound = sound;
      start = start;
      end = end;
      result = result;
      shown = shown;
      opened = opened;
      did = did;
      reached = λ truthful. more truthful (did.turns ++ did.pending);
      ends = ends;
      label = λ image allowed. (always image allowed).stands.labelled ∙ sym labelled;
    }

-- ---- a refusal

pub told_refusal : (e : OpenFault) (had got : Option (List ℕ)) (before now : ℕ) (p : Result ⊤ Failed) (status : Status) → Writes (line_of (fault_words e)) had got before now p
    → status ≡ cond (is_err p) Sink Refused → ToldOf e had got before now status
told_refusal e had got before now (Ok v) status w is = subst (λ (x : Status). ToldOf e had got before now x) (sym is) (w.cause.1, w.adds)
told_refusal e had got before now (Err f) status w is = subst (λ (x : Status). ToldOf e had got before now x) (sym is) (w.cause.0, w.front)

-- ---- the last sync, failed or not: a stop leaves no more, and reads give the same

-- what a stop leaves of the group after a sync it might have left before
pub fewer_after : (size : ℕ) (site : Site) (held after : Held) (t : VolumeTable) (image : ℕ → List ℕ) → Keeps held after → LeavesGroup size after (plate_at site) t image → LeavesGroup size held (plate_at site) t image
fewer_after size site held after t image k l = record { whole = l.whole; allowed = Allows-keeps size l.whole k l.allowed; pointer = l.pointer; stands = l.stands; sectors = l.sectors }

pub kept_back_after : (size : ℕ) (site : Site) (held after : Held) → Keeps held after → StandsAlways size held site → IsGivenBack size site held after
kept_back_after size site held after k always = record {
  stands = λ image allowed. always image (Allows-keeps size image k allowed);
  fewer = λ t image l. fewer_after size site held after t image k l;
  extents = record { reads = λ q. k.reads (area_place site.layout + q); may = λ q v m. k.may (area_place site.layout + q) v m };
}

pub one_after : (size : ℕ) (site : Site) (held after : Held) (t : VolumeTable) → Keeps held after → IsOneTable size site held t → IsOneTable size site after t
one_after size site held after t k one = λ u image l. one u image (fewer_after size site held after u image k l)

-- where nothing is pending then, a stop of the device shows the disks that a read of the session gave
pub shown_settled : (size : ℕ) (site : Site) (t : VolumeTable) (held after : Held) (m : Known) → area_place site.layout + area_size site ≤ size → IsOrderly site t m → IsReady site t (area_of site.layout held) m
    → Keeps held after → IsSettled after → IsGivenBack size site held after → IsOneTable size site after t → ShowsOnly size after (disks (content_now site t (area_of site.layout held)))
shown_settled size site t held after m room o ready k settled back one = λ es on.
    let s = back.stands on.image on.allowed in
    let left : LeavesGroup size after (plate_at site) s.table (extents_in site.layout on.image) = record { whole = on.image; allowed = on.allowed; pointer = s.pointer; stands = s.stands; sectors = λ q. refl } in
    let area_settled : IsSettled (area_of site.layout after) = λ q. settled (area_place site.layout + q) in
    let still = ready_synced site t (area_of site.layout held) (area_of site.layout after) m ready back.extents area_settled in
    let is = (same_left site t (area_of site.layout after) m (extents_in site.layout on.image) o still area_settled (λ q below. on.allowed (area_place site.layout + q) (omega (arith, room, below)))).same_disks in
    shown_standing size on.image site s.pointer s.table es s.stands on.shows
    ∙ ap (λ (u : VolumeTable). disks (content_in site u (extents_in site.layout on.image))) (one s.table (extents_in site.layout on.image) left) ∙ is
    ∙ ap (λ (image : ℕ → List ℕ). disks (content_in site t image)) (fun_ext (λ q. back.extents.reads q))

-- the same, where the session tells the size of its device, and of what a stop may leave more than the group does
pub has_run_sized : (s : RunSides) (status : Status) (other : ℕ) (site : Site) (t : VolumeTable) (held : Held) (start end : State) (result : Result ⊤ RunFault) (Ready told : Type 0) (failed : Bool) → other ≡ s.size
    → IsSoundOn s.size (reads s.old) → Shows s.size (reads s.old) start.disks → IsOpenedOn s.size (reads s.old) start.shape
    → HasRun start end result s.had_left s.left s.had_got s.got (MayShow site (Left told site (LeavesGroup other held (plate_at site)) failed t (area_of site.layout held))) Ready (KeepsAll site (Left told site (LeavesGroup other held (plate_at site)) failed t (area_of site.layout held)))
    → IsGivenBack other site held s.new → (Ready → IsOneTable other site s.new t) → (Ready → IsStateWith site t (area_of site.layout held) end) → EndsAs result s.size s.new end status
    → plate_of s.size (reads s.old) ≡ Ok (plate_at site) → (IsTruthfulDevice s.size s.old → (turns : List Turn) → NamesNoMore start turns) → HasRunOn s status
has_run_sized s status other site t held start end result Ready told failed is_size sound shown opened run back one state ends labelled more =
    let leaves = LeavesGroup other held (plate_at site) in
    let by_group = run_as (λ ds m. record { table = m.table; image = m.image; left = inl m.left; shown = m.shown }) (λ r. r) (λ keeps u image l. keeps u image (inl l)) run in
    has_run s status site t held start end result Ready sound shown opened
    (subst (λ n. HasRun start end result s.had_left s.left s.had_got s.got (MayShow site (LeavesGroup n held (plate_at site))) Ready (KeepsAll site (LeavesGroup n held (plate_at site)))) is_size by_group)
    (subst (λ n. IsGivenBack n site held s.new) is_size back) (λ r. subst (λ n. IsOneTable n site s.new t) is_size (one r)) state ends labelled more

-- a device that was handed back as it was
pub back_itself : (size : ℕ) (site : Site) (held : Held) → StandsAlways size held site → IsGivenBack size site held held
back_itself size site held always = record {
  stands = always;
  fewer = λ t image l. l;
  extents = record { reads = λ q. refl; may = λ q v m. m };
}

pub ok_not_err : (r : Result ⊤ RunFault) (u : ⊤) (f : RunFault) → r ≡ Ok u → r ≡ Err f → ⊥
ok_not_err r u f is failed = let e = sym is ∙ failed in (let x = e in cc)

-- the script was read to its end
pub ends_done : (size other : ℕ) (new : Held) (end : State) (result : Result ⊤ RunFault) (u : ⊤) (status : Status) (told : Type 0) → told → result ≡ Ok u → other ≡ size → ((status ≡ Done) × (told → IsSettled new)) ⊎ (status ≡ Device)
    → (IsSettled new → ShowsOnly other new end.disks) → EndsAs result size new end status
ends_done size other new end result u status told it is is_size ended only =
    subst (λ (r : Result ⊤ RunFault). EndsAs r size new end status) (sym is)
    (⊎_elim (λ done. inl (done.0, done.1 it, subst (λ n. ShowsOnly n new end.disks) is_size (only (done.1 it)))) (λ failed. inr failed) ended)

pub ends_early : (size : ℕ) (new : Held) (end : State) (result : Result ⊤ RunFault) (f : RunFault) (status : Status) → result ≡ Err f → status ≡ status_of (Err f) → EndsAs result size new end status
ends_early size new end result f status is status_is = subst (λ (r : Result ⊤ RunFault). EndsAs r size new end status) (sym is) status_is

-- ---- not opened

told_said : (s : RunSides) (e : OpenFault) (before now : ℕ) (status : Status) → IsRefusedOn s.size (reads s.old) e → ToldOf e s.had_got s.got before now status → HasSaid s status
told_said s e before now Refused is t = (e, is, t.1)
told_said s e before now Sink is t = (e, is, t.1)
told_said s e before now Device is t = absurd t
told_said s e before now Memory is t = absurd t
told_said s e before now Done is t = absurd t
told_said s e before now Words is t = absurd t
told_said s e before now Source is t = absurd t
told_said s e before now TooLong is t = absurd t
told_said s e before now Denied is t = absurd t

silent : (s : RunSides) (status : Status) (to : Status) → status ≡ to → (Adds s.had_got [] s.got → HasSaid s to) → s.got ≡ s.had_got → HasSaid s status
silent s status to is say same =
    subst (λ (x : Status). HasSaid s x) (sym is) (say (subst (λ (g : Option (List ℕ)). Adds s.had_got [] g) (sym same) (Adds-none s.had_got)))

pub said_refused : (s : RunSides) (e : OpenFault) (status : Status) (told : Type 0) (first last before now : ℕ) → told
    → IsAnswer (λ f. told → IsRefusedOn s.size (reads s.old) f) first last e → HasTold e s.had_got s.got before now status → HasSaid s status
said_refused s opening.Device status told first last before now it a h = silent s status Device h.0 (λ x. x) h.1
said_refused s opening.NoMemory status told first last before now it a h = silent s status Memory h.0 (λ x. x) h.1
said_refused s opening.NotARepository status told first last before now it a h = told_said s opening.NotARepository before now status (a.0 it) h.1
said_refused s (opening.Unsupported v) status told first last before now it a h = told_said s (opening.Unsupported v) before now status (a.0 it) h.1
said_refused s (opening.Damaged p) status told first last before now it a h = told_said s (opening.Damaged p) before now status (a.0 it) h.1

-- ---- a device that is not opened

-- unless the device failed nothing was written
pub left_of : (P : Type 0) (e : OpenFault) (had got : Option (List ℕ)) (before now : ℕ) (status : Status) → HasTold e had got before now status → UnlessDeviceFailed e P → status ≢ Device → P
left_of P opening.Device had got before now status h left other = absurd (other h.0)
left_of P opening.NoMemory had got before now status h left other = left
left_of P opening.NotARepository had got before now status h left other = left
left_of P (opening.Unsupported v) had got before now status h left other = left
left_of P (opening.Damaged p) had got before now status h left other = left

pub has_stayed : (s : RunSides) (e : OpenFault) (status : Status) (told : Type 0) (first last before now : ℕ) → told → s.left ≡ s.had_left
    → IsAnswer (λ f. told → IsRefusedOn s.size (reads s.old) f) first last e → HasTold e s.had_got s.got before now status → Keeps s.old s.new
    → HasStayed s status
has_stayed s e status told first last before now it source answer h left = record {
  source = source;
  said = said_refused s e status told first last before now it answer h;
  untouched = left;
}

-- a refusal and want of memory are no fault of the device
pub kept_off : (status : Status) → (status ≡ Refused) ⊎ (status ≡ Memory) → status ≢ Device
kept_off status (inl is) failed = let x = sym is ∙ failed in (let y = x in cc)
kept_off status (inr is) failed = let x = sym is ∙ failed in (let y = x in cc)

-- a run that was read to its end is not refused, and did not find too little memory
pub done_not_kept_off : (P : Type 0) (status : Status) → ((status ≡ Done) × P) ⊎ (status ≡ Device) → (status ≡ Refused) ⊎ (status ≡ Memory) → ⊥
done_not_kept_off P status (inl done) (inl e) = let x = sym done.0 ∙ e in (let y = x in cc)
done_not_kept_off P status (inl done) (inr e) = let x = sym done.0 ∙ e in (let y = x in cc)
done_not_kept_off P status (inr failed) (inl e) = let x = sym failed ∙ e in (let y = x in cc)
done_not_kept_off P status (inr failed) (inr e) = let x = sym failed ∙ e in (let y = x in cc)

-- there was no memory for the lines, so nothing was done
pub stayed_poor : (s : RunSides) → s.left ≡ s.had_left → s.got ≡ s.had_got → s.new ≡ s.old → HasStayed s Memory
stayed_poor s source sink device = record {
  source = source;
  said = silent s Memory Memory refl (λ x. x) sink;
  untouched = subst (λ (h : Held). Keeps s.old h) (sym device) (Keeps-none s.old);
}

-- ---- the counts of faults

-- unless the device failed, an opening that is refused failed no call
pub refused_calm : (told : Type 0) (size : ℕ) (image : ℕ → List ℕ) (first last : ℕ) (e : OpenFault) (had got : Option (List ℕ)) (before now : ℕ) (status : Status) → IsAnswer (λ f. told → IsRefusedOn size image f) first last e → HasTold e had got before now status → status ≢ Device
    → last ≡ first
refused_calm told size image first last opening.Device had got before now status a h other = absurd (other h.0)
refused_calm told size image first last opening.NoMemory had got before now status a h other = a
refused_calm told size image first last opening.NotARepository had got before now status a h other = a.1
refused_calm told size image first last (opening.Unsupported v) had got before now status a h other = a.1
refused_calm told size image first last (opening.Damaged p) had got before now status a h other = a.1

told_calm : (e : OpenFault) (had got : Option (List ℕ)) (before now : ℕ) (status : Status) → ToldOf e had got before now status → status ≢ Sink → now ≡ before
told_calm e had got before now Refused t other = t.0
told_calm e had got before now Sink t other = absurd (other refl)
told_calm e had got before now Device t other = absurd t
told_calm e had got before now Memory t other = absurd t
told_calm e had got before now Done t other = absurd t
told_calm e had got before now Words t other = absurd t
told_calm e had got before now Source t other = absurd t
told_calm e had got before now TooLong t other = absurd t
told_calm e had got before now Denied t other = absurd t

-- and unless the sink failed, its line went out with no call that failed
pub refused_sink_calm : (e : OpenFault) (had got : Option (List ℕ)) (before now : ℕ) (status : Status) → HasTold e had got before now status → status ≢ Sink → now ≡ before
refused_sink_calm opening.Device had got before now status h other = h.2
refused_sink_calm opening.NoMemory had got before now status h other = h.2
refused_sink_calm opening.NotARepository had got before now status h other = told_calm opening.NotARepository had got before now status h.1 other
refused_sink_calm (opening.Unsupported v) had got before now status h other = told_calm (opening.Unsupported v) had got before now status h.1 other
refused_sink_calm (opening.Damaged p) had got before now status h other = told_calm (opening.Damaged p) had got before now status h.1 other

-- a run that ended early with another status did not end so
pub ended_not : (result : Result ⊤ RunFault) (f g : RunFault) (status : Status) → result ≡ Err f → status ≡ status_of (Err f) → status ≢ status_of (Err g) → result ≢ Err g
ended_not result f g status is status_is other = λ ended. other (status_is ∙ ap status_of (sym is ∙ ended))
