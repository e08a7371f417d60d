-- What an import made of an open repository: what was said of its answer, and what a stop of the device shows behind it.
use Rattle.std.proofs.Common.{◌≡◌, ◌≢◌, ◌⊎◌, inl, inr, ⊎_elim, ℕ, ◌+◌, ◌≤◌, List, [], Option, Some, None, Result, Ok, Err, is_err, cond, refl, sym, ap, subst, ◌∙◌, arith}
use Rattle.std.specs.Prelude.{IfSome, ⊤}
use Rattle.sm_base.specs.declared.faults.Failed.{Failed}
use Rattle.sm_base.specs.declared.refusals.Refusal.{Refusal}
use Rattle.sm_disk.specs.Held.{Held, IsSettled, Keeps, Rose, reads}
use Rattle.sm_disk.specs.Streams.{Adds}
use Rattle.sm_disk.proofs.StreamLaws.{Adds-none}
use Rattle.sm_machine.specs.Disks.{Disk}
use Rattle.sm_machine.specs.Shapes.{Shape}
use Rattle.sm_machine.specs.Steps.{State}
use Rattle.sm_ready.specs.Known.{Known}
use Rattle.sm_ready.specs.Orderly.{IsOrderly}
use Rattle.sm_ready.specs.Ready.{IsReady}
use Rattle.sm_ready.specs.Sessions.{KeepsAll}
use Rattle.sm_ready.specs.Stores.{Leaving, MayShow, content_in, content_now}
use Rattle.sm_refusals.specs.Importing.{entry_refusal}
use Rattle.sm_run.specs.Between.{IsBetween, IsSettledAs}
use Rattle.sm_run.specs.Runs.{IsSpent}
use Rattle.sm_script.specs.Pieces.{Writes}
use Rattle.sm_standing.specs.Keeping.{IsKept}
use Rattle.sm_standing.specs.Dropped.{opening}
use Rattle.sm_standing.specs.Standing.{disks}
use Rattle.vg_meta.specs.Tables.{VolumeTable}
use Rattle.vg_layout.specs.Places.{area_place}
use Rattle.vg_store.specs.Groups.{LeavesGroup, area_of}
use Rattle.vg_volumes.specs.Sites.{Site, area_size}
use Rattle.cmd_import.specs.Importing.{Answers, EndCounts, EndsWith, target_in}
use Rattle.vhd_import.proofs.TakenLaws.{taken}
use Rattle.vhd_import.specs.Verdicts.{Denied, Long, Made, Verdict, verdict_of}
use Rattle.vhd_import.specs.declared.faults.ImportFault.{ImportFault}
use Rattle.vhd_import.specs.declared.faults.ImportFault.TheVariants as fault
use Rattle.lvhd_command.specs.declared.statuses.Status.{Status}
use Rattle.lvhd_command.specs.declared.statuses.Status.TheVariants as status
use Rattle.lvhd_command.specs.declared.words.Form.TheVariants.{Import}
use Rattle.lvhd_command.specs.declared.words.Wanted.{Wanted}
use Rattle.lvhd_command.specs.Devices.{IsKeptDevice, IsOneTable, IsOpenedOn, IsSoundOn, IsTruthfulDevice, MayShowOn, StandsAlways, plate_at}
use Rattle.lvhd_command.proofs.TruthLaws.{truthful_device}
use Rattle.sm_session.specs.Truth.{AllTruthful}
use Rattle.lvhd_command.specs.Importing.{CountedAs, HasAnswered, HasTried, ImportLeft, ImportTold, IsDenied, IsImportable, IsRefusedAtOnce, ShowsAs, denied_line}
use Rattle.lvhd_command.specs.Running.{HasSaid, IsGivenBack, RunSides, ShowsOnly}
use Rattle.lvhd_command.proofs.ExactLaws.{sound_or_refused}
use Rattle.lvhd_command.proofs.OpenLaws.{content_once, kept_device, shown_device}
use Rattle.lvhd_command.proofs.RunLaws.{kept_back_after, one_after, shown_settled}

-- ---- what a stop shows, sector by sector

-- where more disks may have been shown before, no less may be shown between
pub between_wider : {P Q : List Disk → Type 0} {was ds : List Disk} → ((x : List Disk) → P x → Q x) → (es : List Disk) → IsBetween P was ds es → IsBetween Q was ds es
between_wider wider es (inl still) = inl (record { faces = still.faces; sectors = λ u k b has. let h = still.sectors u k b has in (h.0, wider h.0 h.1, h.2) })
between_wider wider es (inr already) = inr (record {
  faces = already.faces;
  sectors = λ u k b has. ⊎_elim (λ h. inl (h.0, wider h.0 h.1, h.2)) (λ n. inr n) (already.sectors u k b has);
})

-- between the same settled disks there are only these
settled_still : {was : List Disk} (es : List Disk) → IsBetween (IsSettledAs was) was was es → IsSettledAs was es
settled_still es (inl still) = record { faces = still.faces; sectors = λ u k b has. let h = still.sectors u k b has in h.1.sectors u k b h.2 }
settled_still es (inr already) = record { faces = already.faces; sectors = λ u k b has. ⊎_elim (λ h. h.1.sectors u k b h.2) (λ n. n) (already.sectors u k b has) }

module _ (start : State) (uuid : List ℕ) (size : ℕ) (new : Held) (bytes left : Option (List ℕ)) (ends : List Disk)
    (shows : (es : List Disk) → MayShowOn size new es → IsBetween (IsSettledAs start.disks) start.disks ends es) where
  still : ends ≡ start.disks → ShowsAs size new start.disks
  still same = λ es on. settled_still es (subst (λ (ds : List Disk). IsBetween (IsSettledAs start.disks) start.disks ds es) same (shows es on))

  -- an import that did not succeed
  pub left_unmade : (f : ImportFault) (had got : Option (List ℕ)) (before now : ℕ) (end : Status) → EndsWith (target_in start.shape) uuid bytes start.disks ends (Err f)
      → IfSome bytes (λ b. Answers start.shape uuid b (Err f)) → HasAnswered (Err f) had got before now end → ImportLeft start uuid size new bytes left end
  left_unmade (fault.Refused r) had got before now end w a (inl said) = subst (ImportLeft start uuid size new bytes left) (sym said.0) (still w)
  left_unmade (fault.Refused r) had got before now end w a (inr said) = subst (ImportLeft start uuid size new bytes left) (sym said.0) (still w)
  left_unmade fault.Long had got before now end w a said = subst (ImportLeft start uuid size new bytes left) (sym said.0) (long bytes a, still w)
    where
      long : (told : Option (List ℕ)) → IfSome told (λ b. Answers start.shape uuid b (Err fault.Long)) → IfSome told (λ b. verdict_of (target_in start.shape) b ≡ Long)
      long None is = tt
      long (Some b) is = is.1
  left_unmade fault.Device had got before now end w a said =
      subst (ImportLeft start uuid size new bytes left) (sym said.0) (⊎_elim (λ same. inl (still same)) (λ joined. inr (ends, joined, shows)) w)
  left_unmade fault.Source had got before now end w a said = subst (ImportLeft start uuid size new bytes left) (sym said.0) (still w)
  left_unmade fault.NoMemory had got before now end w a said = subst (ImportLeft start uuid size new bytes left) (sym said.0) (still w)

  -- one that succeeded, by whether the last sync did
  pub left_made : (n : ℕ) (end : Status) (told : Type 0) → told → EndsWith (target_in start.shape) uuid bytes start.disks ends (Ok n) → IsSpent left
      → ((end ≡ status.Done) × (told → IsSettled new)) ⊎ (end ≡ status.Device) → (IsSettled new → ShowsOnly size new ends) → ImportLeft start uuid size new bytes left end
  left_made n end told it w spent (inl done) only =
      subst (ImportLeft start uuid size new bytes left) (sym done.0) (ends, w, spent, done.1 it, only (done.1 it))
  left_made n end told it w spent (inr failed) only =
      subst (ImportLeft start uuid size new bytes left) (sym failed) (inr (ends, w, shows))

-- nothing was printed
nothing : (had got : Option (List ℕ)) → got ≡ had → Adds had [] got
nothing had got same = subst (λ (g : Option (List ℕ)). Adds had [] g) (sym same) (Adds-none had)

-- what the sink got of an answer
pub told_answer : (shape : Shape) (uuid : List ℕ) (bytes had got : Option (List ℕ)) (f : ImportFault) (before now : ℕ) (end : Status)
    → IfSome bytes (λ b. Answers shape uuid b (Err f)) → HasAnswered (Err f) had got before now end → ImportTold shape uuid bytes had got end
told_answer shape uuid bytes had got (fault.Refused r) before now end a (inl said) = subst (ImportTold shape uuid bytes had got) (sym said.0) (r, a, said.1)
told_answer shape uuid bytes had got (fault.Refused r) before now end a (inr said) = subst (ImportTold shape uuid bytes had got) (sym said.0) (r, a, said.1)
told_answer shape uuid bytes had got fault.Long before now end a said = subst (ImportTold shape uuid bytes had got) (sym said.0) (nothing had got said.1)
told_answer shape uuid bytes had got fault.Device before now end a said = subst (ImportTold shape uuid bytes had got) (sym said.0) (nothing had got said.1)
told_answer shape uuid bytes had got fault.Source before now end a said = subst (ImportTold shape uuid bytes had got) (sym said.0) (nothing had got said.1)
told_answer shape uuid bytes had got fault.NoMemory before now end a said = subst (ImportTold shape uuid bytes had got) (sym said.0) (nothing had got said.1)

-- and behind an import that succeeded
pub told_made : (shape : Shape) (uuid : List ℕ) (bytes had got : Option (List ℕ)) (end : Status) (P : Type 0) → got ≡ had → ((end ≡ status.Done) × P) ⊎ (end ≡ status.Device) → ImportTold shape uuid bytes had got end
told_made shape uuid bytes had got end P same (inl done) = subst (ImportTold shape uuid bytes had got) (sym done.0) (nothing had got same)
told_made shape uuid bytes had got end P same (inr failed) = subst (ImportTold shape uuid bytes had got) (sym failed) (nothing had got same)

-- ---- what a stop of the device leaves, by what it leaves of the store

pub stands_after : (size other : ℕ) (now site : Site) (held new : Held) → other ≡ size → now ≡ site → Keeps held new → StandsAlways other held now → StandsAlways size new site
stands_after size other now site held new is_size same keeps stands =
    subst (λ (x : Site). StandsAlways size new x) same (subst (λ n. StandsAlways n new now) is_size (kept_back_after other now held new keeps stands).stands)

-- the device is handed back as the store had it, or behind a sync: in its reads alike, and a stop leaves no more
module _ (size other : ℕ) (now site : Site) (held new : Held) (leaves before : Leaving) (was ends : List Disk) (is_size : other ≡ size) (same : now ≡ site) (keeps : Keeps held new) (stands : StandsAlways other held now)
    (fewer : (t : VolumeTable) (image : ℕ → List ℕ) → LeavesGroup other held (plate_at now) t image → leaves t image)
    (crash : (t : VolumeTable) (image : ℕ → List ℕ) → leaves t image → IsKept (content_in site t image) × IsBetween (MayShow site before) was ends (disks (content_in site t image))) where
  back : IsGivenBack other now held new
  back = kept_back_after other now held new keeps stands

  stands_import : StandsAlways size new site
  stands_import = stands_after size other now site held new is_size same keeps stands

  left_before : (t : VolumeTable) (image : ℕ → List ℕ) → LeavesGroup size new (plate_at site) t image → leaves t image
  left_before t image l = fewer t image (back.fewer t image
      (subst (λ n. LeavesGroup n new (plate_at now) t image) (sym is_size) (subst (λ (x : Site). LeavesGroup size new (plate_at x) t image) (sym same) l)))

  pub kept_import : KeepsAll site leaves → IsKeptDevice size new
  kept_import keeps = kept_device size new site stands_import (λ t image l. keeps t image (left_before t image l))

  pub truthful_import : AllTruthful site leaves → IsTruthfulDevice size new
  truthful_import all = truthful_device size new site stands_import (λ t image l. all t image (left_before t image l))

  pub shows_import : ((ds : List Disk) → MayShow site before ds → IsSettledAs was ds) → (es : List Disk) → MayShowOn size new es → IsBetween (IsSettledAs was) was ends es
  shows_import begins es m =
      let w = shown_device size new site es stands_import m in
      between_wider begins es (subst (λ (ds : List Disk). IsBetween (MayShow site before) was ends ds) (sym w.shown) (crash w.table w.image (left_before w.table w.image w.left)).1)

  -- behind the sync a stop shows the disks at the end alone
  pub shows_made : (t : VolumeTable) (m : Known) → area_place now.layout + area_size now ≤ other → IsOrderly now t m → IsReady site t (area_of now.layout held) m → IsOneTable other now held t
      → disks (content_now site t (area_of now.layout held)) ≡ ends → IsSettled new → ShowsOnly size new ends
  shows_made t m room o ready one shown settled =
      let here = subst (λ (x : Site). IsReady x t (area_of now.layout held) m) (sym same) ready in
      let only = shown_settled other now t held new m room o here keeps settled back (one_after other now held new t keeps one) in
      subst (λ n. ShowsOnly n new ends) is_size (subst (λ (ds : List Disk). ShowsOnly other new ds) (ap (λ (x : Site). disks (content_now x t (area_of now.layout held))) same ∙ shown) only)

-- ---- what was said of an answer

pub answered_refusal : (r : Refusal) (had got : Option (List ℕ)) (before now : ℕ) (p : Result ⊤ Failed) (end : Status) → Writes (denied_line r) had got before now p
    → end ≡ cond (is_err p) status.Sink status.Denied → HasAnswered (Err (fault.Refused r)) had got before now end
answered_refusal r had got before now (Ok v) end w is = inl (is, w.adds, w.cause.1)
answered_refusal r had got before now (Err f) end w is = inr (is, w.front, w.counts, w.cause.0)

module _ (s s' d d' k k' : ℕ) where
  pub counted_answer : (result : Result ℕ ImportFault) (had got : Option (List ℕ)) (end : Status) → HasAnswered result had got k k' end → EndCounts result s s' d d' → CountedAs s s' d d' k k' end
  counted_answer (Ok n) had got end said c = subst (CountedAs s s' d d' k k') (sym said.0) (c.0.0, c.0.1, said.2)
  counted_answer (Err (fault.Refused r)) had got end (inl said) c = subst (CountedAs s s' d d' k k') (sym said.0) (c.1.0, c.1.1, said.2)
  counted_answer (Err (fault.Refused r)) had got end (inr said) c = subst (CountedAs s s' d d' k k') (sym said.0) (c.1.0, c.1.1, said.2, said.3)
  counted_answer (Err fault.Long) had got end said c = subst (CountedAs s s' d d' k k') (sym said.0) (c.1.0, c.1.1, said.2)
  counted_answer (Err fault.Device) had got end said c = subst (CountedAs s s' d d' k k') (sym said.0) (c.1.0, c.1.1, c.1.2, said.2)
  counted_answer (Err fault.Source) had got end said c = subst (CountedAs s s' d d' k k') (sym said.0) (c.1.0, c.1.1, c.1.2, said.2)
  counted_answer (Err fault.NoMemory) had got end said c = subst (CountedAs s s' d d' k k') (sym said.0) (c.1.0, c.1.1, said.2)

  -- behind an import that succeeded the device is synced, which may fail
  pub counted_made : (result : Result ℕ ImportFault) (n : ℕ) (had got : Option (List ℕ)) (said end : Status) (last : ℕ) (P : Type 0) → result ≡ Ok n → HasAnswered result had got k k' said → EndCounts result s s' d d'
      → ((end ≡ status.Done) × P) ⊎ (end ≡ status.Device) → d' ≤ last → (end ≡ status.Device → Rose d' last) → (end ≢ status.Device → last ≡ d') → CountedAs s s' d last k k' end
  counted_made (Ok m) n had got said end last P is answered c (inl done) rises rose calm =
      subst (CountedAs s s' d last k k') (sym done.0) (c.0.0, calm (λ e. absurd (let x = sym done.0 ∙ e in (let y = x in cc))) ∙ c.0.1, answered.2)
  counted_made (Ok m) n had got said end last P is answered c (inr failed) rises rose calm =
      subst (CountedAs s s' d last k k') (sym failed) (omega (arith, c.0.0), omega (arith, c.0.1, rises), subst (λ x. Rose x last) c.0.1 (rose failed), answered.2)
  counted_made (Err f) n had got said end last P is answered c ended rises rose calm = absurd (let x = is in (let y = x in cc))

  pub counted_counts : (end : Status) → CountedAs s s' d d' k k' end → (s ≤ s') × (d ≤ d') × (k ≤ k')
  counted_counts status.Device c = (c.0, c.1, omega (arith, c.3))
  counted_counts status.Source c = (c.0, omega (arith, c.2), omega (arith, c.3))
  counted_counts status.Sink c = (omega (arith, c.0), omega (arith, c.1), c.2)
  counted_counts status.Done c = (omega (arith, c.0), omega (arith, c.1), omega (arith, c.2))
  counted_counts status.Refused c = (omega (arith, c.0), omega (arith, c.1), omega (arith, c.2))
  counted_counts status.Memory c = (omega (arith, c.0), omega (arith, c.1), omega (arith, c.2))
  counted_counts status.TooLong c = (omega (arith, c.0), omega (arith, c.1), omega (arith, c.2))
  counted_counts status.Denied c = (omega (arith, c.0), omega (arith, c.1), omega (arith, c.2))
  counted_counts status.Words c = absurd c

  -- the counts that did not rise
  pub counted_calm : (end : Status) → CountedAs s s' d d' k k' end
      → (end ≢ status.Device → d' ≡ d) × (end ≢ status.Source → end ≢ status.Device → s' ≡ s) × (end ≢ status.Sink → k' ≡ k)
  counted_calm status.Device c = ((λ o. absurd (o refl)), (λ _ o. absurd (o refl)), (λ _. c.3))
  counted_calm status.Source c = ((λ _. c.2), (λ o _. absurd (o refl)), (λ _. c.3))
  counted_calm status.Sink c = ((λ _. c.1), (λ _ _. c.0), (λ o. absurd (o refl)))
  counted_calm status.Done c = ((λ _. c.1), (λ _ _. c.0), (λ _. c.2))
  counted_calm status.Refused c = ((λ _. c.1), (λ _ _. c.0), (λ _. c.2))
  counted_calm status.Memory c = ((λ _. c.1), (λ _ _. c.0), (λ _. c.2))
  counted_calm status.TooLong c = ((λ _. c.1), (λ _ _. c.0), (λ _. c.2))
  counted_calm status.Denied c = ((λ _. c.1), (λ _ _. c.0), (λ _. c.2))
  counted_calm status.Words c = absurd c

  -- the counts that rose
  pub counted_rose : (end : Status) → CountedAs s s' d d' k k' end
      → (end ≡ status.Device → Rose d d') × (end ≡ status.Source → Rose s s') × (end ≡ status.Sink → Rose k k') × (end ≢ status.Words)
  counted_rose end c = (
    (λ e. (subst (CountedAs s s' d d' k k') e c).2),
    (λ e. (subst (CountedAs s s' d d' k k') e c).1),
    (λ e. (subst (CountedAs s s' d d' k k') e c).3),
    (λ e. subst (CountedAs s s' d d' k k') e c),
  )

-- ---- the whole

-- an opening makes one shape of what stands on an image
pub opened_once : (size : ℕ) (image : ℕ → List ℕ) (a b : Shape) → IsOpenedOn size image a → IsOpenedOn size image b → a ≡ b
opened_once size image a b x y = x.shape_is ∙ ap opening (sym (content_once size image x.group y.group x.stands y.stands)) ∙ sym y.shape_is

-- what is refused at once in the shape that was opened is so in the one that the device is said to have
pub refused_at_once : (s : RunSides) (uuid : List ℕ) (shape : Shape) → IsOpenedOn s.size (reads s.old) shape → (r : IsRefusedAtOnce s uuid) → entry_refusal shape uuid ≡ Some r.refusal
refused_at_once s uuid shape at r = subst (λ (x : Shape). entry_refusal x uuid ≡ Some r.refusal) (opened_once s.size (reads s.old) r.shape shape r.opened at) r.refused

never_made : (v : Verdict) (sectors : List (List ℕ)) (r : Refusal) → v ≡ Made sectors → v ≡ Denied r → ⊥
never_made v sectors r a b = let x = sym a ∙ b in (let y = x in cc)

never_long : (v : Verdict) (sectors : List (List ℕ)) → v ≡ Made sectors → v ≡ Long → ⊥
never_long v sectors a b = let x = sym a ∙ b in (let y = x in cc)

never_asked : (answer : Option Refusal) (r : Refusal) → answer ≡ None → answer ≡ Some r → ⊥
never_asked answer r a b = let x = sym a ∙ b in (let y = x in cc)

module _ (s : RunSides) (uuid : List ℕ) (m : IsImportable s uuid) (shape : Shape) (at : IsOpenedOn s.size (reads s.old) shape) where
  same_shape : m.shape ≡ shape
  same_shape = opened_once s.size (reads s.old) m.shape shape m.opened at

  made_here : verdict_of (target_in shape) m.bytes ≡ Made m.sectors
  made_here = subst (λ (x : Shape). verdict_of (target_in x) m.bytes ≡ Made m.sectors) same_shape (taken (target_in m.shape) m.bytes m.sectors m.file m.room m.few)

  never_denied : (r : Refusal) → IsDenied shape uuid s.had_left r → ⊥
  never_denied r denied = ⊎_elim (λ e. never_asked _ r (subst (λ (x : Shape). entry_refusal x uuid ≡ None) same_shape m.allowed) e) (λ e. never_made _ m.sectors r made_here e.1)
      (subst (λ (b : Option (List ℕ)). IsDenied shape uuid b r) m.given denied)

  never_too_long : IfSome s.had_left (λ b. verdict_of (target_in shape) b ≡ Long) → ⊥
  never_too_long long = never_long _ m.sectors made_here (subst (λ (b : Option (List ℕ)). IfSome b (λ x. verdict_of (target_in shape) x ≡ Long)) m.given long)

opened_completes : (s : RunSides) (uuid : List ℕ) (m : IsImportable s uuid) (start : State) (end : Status) → IsOpenedOn s.size (reads s.old) start.shape → ImportTold start.shape uuid s.had_left s.had_got s.got end → ImportLeft start uuid s.size s.new s.had_left s.left end
    → (end ≡ status.Device → ⊥) → (end ≡ status.Source → ⊥) → (end ≡ status.Sink → ⊥) → (end ≡ status.Done) ⊎ (end ≡ status.Memory)
opened_completes s uuid m start status.Done at told left device source sink = inl refl
opened_completes s uuid m start status.Memory at told left device source sink = inr refl
opened_completes s uuid m start status.Device at told left device source sink = absurd (device refl)
opened_completes s uuid m start status.Source at told left device source sink = absurd (source refl)
opened_completes s uuid m start status.Sink at told left device source sink = absurd (sink refl)
opened_completes s uuid m start status.Denied at told left device source sink = absurd (never_denied s uuid m start.shape at told.0 told.1)
opened_completes s uuid m start status.TooLong at told left device source sink = absurd (never_too_long s uuid m start.shape at left.0)
opened_completes s uuid m start status.Refused at told left device source sink = absurd left
opened_completes s uuid m start status.Words at told left device source sink = absurd left

closed_completes : (s : RunSides) (end : Status) → HasSaid s end → IsSoundOn s.size (reads s.old) → (end ≡ status.Device → ⊥) → (end ≡ status.Sink → ⊥) → (end ≡ status.Done) ⊎ (end ≡ status.Memory)
closed_completes s status.Memory said sound device sink = inr refl
closed_completes s status.Device said sound device sink = absurd (device refl)
closed_completes s status.Sink said sound device sink = absurd (sink refl)
closed_completes s status.Refused said sound device sink = absurd (sound_or_refused s.size (reads s.old) said.0 sound said.1)
closed_completes s status.Done said sound device sink = absurd said
closed_completes s status.Words said sound device sink = absurd said
closed_completes s status.Source said sound device sink = absurd said
closed_completes s status.TooLong said sound device sink = absurd said
closed_completes s status.Denied said sound device sink = absurd said

-- where no call failed, the file that may be imported was, or memory was wanting
pub import_completes : (s : RunSides) (uuid : List ℕ) (end : Status) → HasTried s uuid end → IsImportable s uuid → IsSoundOn s.size (reads s.old)
    → (end ≡ status.Device → ⊥) → (end ≡ status.Source → ⊥) → (end ≡ status.Sink → ⊥) → (end ≡ status.Done) ⊎ (end ≡ status.Memory)
import_completes s uuid end (inl on) m sound device source sink = opened_completes s uuid m on.start end on.opened on.told on.left device source sink
import_completes s uuid end (inr off) m sound device source sink = closed_completes s end off.said sound device sink

-- the words ask for the import of one disk alone
pub same_import : (a b : Wanted) → Some (Import a) ≡ Some (Import b) → a ≡ b
same_import a b e = (let x = e in cc)
