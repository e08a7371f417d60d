-- The answers of an opening exclude each other: where all checks pass none fails, so a run is not refused.
use Rattle.std.proofs.Common.{◌≡◌, ◌≢◌, ◌⊎◌, inl, inr, ⊎_elim, ℕ, List, None, Some, Result, Ok, Err, refl, sym, subst, subst₂, ◌∙◌, ap, arith}
use Rattle.std.specs.Prelude.{⊤, sum}
use Rattle.sm_base.specs.declared.faults.OpenFault.{OpenFault}
use Rattle.sm_base.specs.declared.faults.OpenFault.TheVariants.{Damaged}
use Rattle.sm_base.specs.declared.faults.Place.{Place}
use Rattle.sm_base.specs.declared.faults.Place.TheVariants.{Table}
use Rattle.sm_disk.specs.Held.{Held, reads}
use Rattle.sm_machine.specs.Steps.{State}
use Rattle.sm_run.specs.declared.runs.RunFault.{RunFault}
use Rattle.sm_run.specs.declared.runs.RunFault.TheVariants as run
use Rattle.sm_standing.specs.LogChecks.{first_place}
use Rattle.sm_standing.specs.Devices.{content_of}
use Rattle.vg_layout.specs.Opening.{GroupFound, StandsOn, IsRefused, by_label, by_header, by_sum, by_text, grammar_of, plate_of, pointer_of, text_in, version_of}
use Rattle.vg_layout.specs.Sectors.{Plate, Pointer}
use Rattle.vg_layout.proofs.StandingLaws.{plate_few}
use Rattle.vg_meta.specs.Reading.{IsDamagedBy}
use Rattle.lvhd_command.proofs.DamagedOnce.{damaged_once}
use Rattle.lvhd_command.proofs.SoundText.{not_damaged}
use Rattle.lvhd_command.specs.declared.statuses.Status.{Status}
use Rattle.lvhd_command.specs.declared.statuses.Status.TheVariants.{Done, Words, Device, Source, Sink, Refused, Memory, TooLong, Denied}
use Rattle.lvhd_command.specs.Devices.{IsSoundOn, IsRefusedOn, by_group, by_content}
use Rattle.lvhd_command.specs.Running.{RunSides, RunDid, HasSaid, EndsAs, status_of}
use Rattle.lvhd_command.proofs.OpenLaws.{plate_once, content_once}

-- ---- a group that stands is not refused

no_plate : (size : ℕ) (m : ℕ → List ℕ) (p : Plate) (e : OpenFault) → plate_of size m ≡ Ok p → plate_of size m ≡ Err e → ⊥
no_plate size m p e a b = (let x = sym a ∙ b in absurd cc)

no_pointer : (m : ℕ → List ℕ) (h : Pointer) (e : OpenFault) → pointer_of m ≡ Ok h → pointer_of m ≡ Err e → ⊥
no_pointer m h e a b = (let x = sym a ∙ b in absurd cc)

one_pointer : (m : ℕ → List ℕ) (h k : Pointer) → pointer_of m ≡ Ok h → pointer_of m ≡ Ok k → h ≡ k
one_pointer m h k a b = (let x = sym a ∙ b in cc)

stands_or_refused : (size : ℕ) (image : ℕ → List ℕ) (g : GroupFound) (e : OpenFault) → StandsOn size image g → IsRefused size image e → ⊥
stands_or_refused size image g _ s (by_label e wrong) = no_plate size image g.plate e s.labelled wrong
stands_or_refused size image g _ s (by_header p e labelled wrong) = no_pointer image g.pointer e s.headed wrong
stands_or_refused size image g _ s (by_sum p h labelled headed wrong) =
    let same : g.pointer ≡ h = one_pointer image g.pointer h s.headed headed in
    wrong (subst (λ (k : Pointer). sum (text_in image k) ≡ k.total) same s.summed)
stands_or_refused size image g _ s (by_text p h place labelled headed summed damaged) =
    let plates : p ≡ g.plate = plate_once size image p g.plate labelled s.labelled in
    let pointers : h ≡ g.pointer = one_pointer image h g.pointer headed s.headed in
    let few = plate_few size image g.plate s.labelled in
    not_damaged (grammar_of (version_of image)) g.plate.count (text_in image g.pointer) g.table place (omega (arith, few)) s.spelled
    (subst₂ (λ (q : Plate) (k : Pointer). IsDamagedBy (grammar_of (version_of image)) q.count (text_in image k) place) plates pointers damaged)

none_found : (size : ℕ) (image : ℕ → List ℕ) (g h : GroupFound) (p : Place) → StandsOn size image g → StandsOn size image h
    → first_place (content_of g image) ≡ None → first_place (content_of h image) ≡ Some p → ⊥
none_found size image g h p a b sound found =
    let both : None ≡ Some p = sym sound ∙ ap first_place (sym (content_once size image g h a b)) ∙ found in
    absurd cc

-- where all checks pass, none fails
pub sound_or_refused : (size : ℕ) (image : ℕ → List ℕ) (e : OpenFault) → IsSoundOn size image → IsRefusedOn size image e → ⊥
sound_or_refused size image _ s (by_group e refused) = stands_or_refused size image s.group e s.stands refused
sound_or_refused size image _ s (by_content g p stands found) = none_found size image s.group g p s.stands stands s.sound found

-- ---- a refusal has one answer

one_plate : (size : ℕ) (m : ℕ → List ℕ) (e f : OpenFault) → plate_of size m ≡ Err e → plate_of size m ≡ Err f → e ≡ f
one_plate size m e f a b = (let x = sym a ∙ b in cc)

one_header : (m : ℕ → List ℕ) (e f : OpenFault) → pointer_of m ≡ Err e → pointer_of m ≡ Err f → e ≡ f
one_header m e f a b = (let x = sym a ∙ b in cc)

summed_or_not : (image : ℕ → List ℕ) (h k : Pointer) → pointer_of image ≡ Ok h → pointer_of image ≡ Ok k → sum (text_in image h) ≢ h.total → sum (text_in image k) ≡ k.total → ⊥
summed_or_not image h k a b wrong right = wrong (subst (λ (x : Pointer). sum (text_in image x) ≡ x.total) (one_pointer image k h b a) right)

one_text : (size : ℕ) (image : ℕ → List ℕ) (p q : Plate) (h k : Pointer) (a b : ℕ) → plate_of size image ≡ Ok p → plate_of size image ≡ Ok q → pointer_of image ≡ Ok h → pointer_of image ≡ Ok k
    → IsDamagedBy (grammar_of (version_of image)) p.count (text_in image h) a → IsDamagedBy (grammar_of (version_of image)) q.count (text_in image k) b → a ≡ b
one_text size image p q h k a b is_p is_q is_h is_k one other =
    let few = plate_few size image q is_q in
    damaged_once (grammar_of (version_of image)) q.count (text_in image k) a b (omega (arith, few))
    (subst₂ (λ (x : Plate) (y : Pointer). IsDamagedBy (grammar_of (version_of image)) x.count (text_in image y) a) (plate_once size image p q is_p is_q) (one_pointer image h k is_h is_k) one) other

group_once : (size : ℕ) (image : ℕ → List ℕ) (e f : OpenFault) → IsRefused size image e → IsRefused size image f → e ≡ f
group_once size image _ _ (by_label e a) (by_label f b) = one_plate size image e f a b
group_once size image _ _ (by_label e a) (by_header q f b pointer) = absurd (no_plate size image q e b a)
group_once size image _ _ (by_label e a) (by_sum q k b pointer wrong) = absurd (no_plate size image q e b a)
group_once size image _ _ (by_label e a) (by_text q k place b pointer right damaged) = absurd (no_plate size image q e b a)
group_once size image _ _ (by_header p e a pointer) (by_label f b) = absurd (no_plate size image p f a b)
group_once size image _ _ (by_sum p h a pointer wrong) (by_label f b) = absurd (no_plate size image p f a b)
group_once size image _ _ (by_text p h place a pointer right damaged) (by_label f b) = absurd (no_plate size image p f a b)
group_once size image _ _ (by_header p e a x) (by_header q f b y) = one_header image e f x y
group_once size image _ _ (by_header p e a x) (by_sum q k b y wrong) = absurd (no_pointer image k e y x)
group_once size image _ _ (by_header p e a x) (by_text q k place b y right damaged) = absurd (no_pointer image k e y x)
group_once size image _ _ (by_sum p h a x wrong) (by_header q f b y) = absurd (no_pointer image h f x y)
group_once size image _ _ (by_text p h place a x right damaged) (by_header q f b y) = absurd (no_pointer image h f x y)
group_once size image _ _ (by_sum p h a x wrong) (by_sum q k b y other) = refl
group_once size image _ _ (by_sum p h a x wrong) (by_text q k place b y right damaged) = absurd (summed_or_not image h k x y wrong right)
group_once size image _ _ (by_text p h place a x right damaged) (by_sum q k b y wrong) = absurd (summed_or_not image k h y x wrong right)
group_once size image _ _ (by_text p h place a x right damaged) (by_text q k other b y right' damaged') = ap (λ n. Damaged (Table n)) (one_text size image p q h k place other a b x y damaged damaged')

one_place : (size : ℕ) (image : ℕ → List ℕ) (g h : GroupFound) (p q : Place) → StandsOn size image g → StandsOn size image h
    → first_place (content_of g image) ≡ Some p → first_place (content_of h image) ≡ Some q → p ≡ q
one_place size image g h p q a b found other =
    let both : Some p ≡ Some q = sym found ∙ ap first_place (content_once size image h g b a) ∙ other in
    (let x = both in cc)

-- a device is refused with one answer alone
pub refused_once : (size : ℕ) (image : ℕ → List ℕ) (e f : OpenFault) → IsRefusedOn size image e → IsRefusedOn size image f → e ≡ f
refused_once size image _ _ (by_group e a) (by_group f b) = group_once size image e f a b
refused_once size image _ _ (by_group e a) (by_content h q stands found) = absurd (stands_or_refused size image h e stands a)
refused_once size image _ _ (by_content g p stands found) (by_group f b) = absurd (stands_or_refused size image g f stands b)
refused_once size image _ _ (by_content g p a found) (by_content h q b other) = ap (λ (x : Place). Damaged x) (one_place size image g h p q a b found other)

-- ---- a run

-- a run that ended early is not refused
pub never_so : (f : RunFault) → status_of (Err f) ≡ Refused → ⊥
never_so run.Device is = absurd cc
never_so run.Source is = absurd cc
never_so run.Sink is = absurd cc
never_so run.TooLong is = absurd cc

-- and has not the status of too little memory
pub never_poor : (f : RunFault) → status_of (Err f) ≡ Memory → ⊥
never_poor run.Device is = absurd cc
never_poor run.Source is = absurd cc
never_poor run.Sink is = absurd cc
never_poor run.TooLong is = absurd cc

not_ended : (result : Result ⊤ RunFault) (size : ℕ) (new : Held) (end : State) (status : Status) → EndsAs result size new end status → status ≡ Refused → ⊥
not_ended (Ok u) size new end status ends is =
    ⊎_elim (λ done. let x : Done ≡ Refused = sym done.0 ∙ is in absurd cc) (λ failed. let x : Device ≡ Refused = sym failed ∙ is in absurd cc) ends
not_ended (Err f) size new end status ends is = never_so f (sym ends ∙ is)

-- on a device where all checks pass, a run is not refused
pub never_refused : (s : RunSides) (status : Status) → RunDid s status → IsSoundOn s.size (reads s.old) → status ≡ Refused → ⊥
never_refused s status (inl did) sound is = not_ended did.result s.size s.new did.end status did.ends is
never_refused s status (inr not) sound is =
    let said : HasSaid s Refused = subst (λ (x : Status). HasSaid s x) is not.said in
    sound_or_refused s.size (reads s.old) said.0 sound said.1

-- nor denied, whatever stands there
never_by : (f : RunFault) → Denied ≡ status_of (Err f) → ⊥
never_by run.Device is = absurd cc
never_by run.Source is = absurd cc
never_by run.Sink is = absurd cc
never_by run.TooLong is = absurd cc

ends_not_denied : (result : Result ⊤ RunFault) (size : ℕ) (new : Held) (end : State) → EndsAs result size new end Denied → ⊥
ends_not_denied (Ok u) size new end ends = ⊎_elim (λ done. let x : Denied ≡ Done = done.0 in absurd cc) (λ failed. let x : Denied ≡ Device = failed in absurd cc) ends
ends_not_denied (Err f) size new end ends = never_by f ends

never_denied : (s : RunSides) → RunDid s Denied → ⊥
never_denied s (inl did) = ends_not_denied did.result s.size s.new did.end did.ends
never_denied s (inr not) = not.said

-- and with no fault of the device, the source and the sink it is done, or memory or the script's length ends it
pub completes : (s : RunSides) (status : Status) → RunDid s status → IsSoundOn s.size (reads s.old)
    → (status ≡ Words → ⊥) → (status ≡ Device → ⊥) → (status ≡ Source → ⊥) → (status ≡ Sink → ⊥) → (status ≡ Done) ⊎ ((status ≡ Memory) ⊎ (status ≡ TooLong))
completes s Done did sound words device source sink = inl refl
completes s Words did sound words device source sink = absurd (words refl)
completes s Device did sound words device source sink = absurd (device refl)
completes s Source did sound words device source sink = absurd (source refl)
completes s Sink did sound words device source sink = absurd (sink refl)
completes s Refused did sound words device source sink = absurd (never_refused s Refused did sound refl)
completes s Memory did sound words device source sink = inr (inl refl)
completes s TooLong did sound words device source sink = inr (inr refl)
completes s Denied did sound words device source sink = absurd (never_denied s did)
