-- What the program did where it was told to try a number, by its status (this project's format): a new repository was made on the
-- device, the lines that the number draws were stepped on it, and what was counted was said in one line.
use Rattle.std.specs.Prelude.{◌≡◌, ◌⊎◌, ◌<◌, Ok, Err, ℕ, List, [], ◌∷◌, ◌++◌, replicate, length, codes, Option}
use Rattle.std.specs.Fmt.{decimal}
use Rattle.sm_base.specs.declared.sizes.Geometry.{Geometry}
use Rattle.sm_base.specs.declared.faults.OpenFault.TheVariants.{NotARepository}
use Rattle.sm_disk.specs.Held.{Held, Allows, IsSettled}
use Rattle.sm_disk.specs.Streams.{Adds, AddsFront}
use Rattle.sm_machine.specs.Shapes.{free, new_shape}
use Rattle.sm_machine.specs.Steps.{State}
use Rattle.sm_script.specs.Trials.{trial_lines}
use Rattle.sm_standing.specs.Devices.{IsKeptOn}
use Rattle.sm_trial.specs.declared.tallies.Tally.{Tally}
use Rattle.sm_trial.specs.Tallies.{HasTried}
use Rattle.vg_layout.specs.Opening.{plate_of}
use Rattle.vg_layout.specs.Sectors.{Plate}
use Rattle.vg_layout.specs.Places.{new_extents, record_extents}
use Rattle.vg_store.specs.Formats.{new_group}
use Rattle.lvhd_command.specs.declared.statuses.Status.{Status}
use Rattle.lvhd_command.specs.declared.statuses.Status.TheVariants.{Done, Words, Device, Source, Sink, Refused, Memory, TooLong, Denied}
use Rattle.lvhd_command.specs.Devices.{IsKeptDevice, IsTruthfulDevice, IsTruthfulOn}
use Rattle.lvhd_command.specs.Formatting.{Asked, HasSizes, Sides}
use Rattle.lvhd_command.specs.Running.{ReadsAsState, ShowsOnly}
use Rattle.lvhd_command.specs.Texts.{line_of, too_small_words}

-- what a trial formats: 16,384 bytes an extent, 4,096 a block, 64 entries, and the repository's UUID
abbrev pub trial_asked : Asked
trial_asked = record { extent = 16384; block = 4096; entries = 64; repository = replicate 15 0 ++ 1 ∷ [] }

-- the least device on which it can be done, in sectors
abbrev pub trial_least : ℕ
trial_least = 4608

-- what it starts from: a new repository of these sizes on a device of so many sectors, without disks and images
abbrev pub trial_start : ℕ → State
trial_start size = record { disks = []; shape = new_shape 32 8 64 (new_extents size 32) (record_extents 32) }

-- the words of the summary: the number, how many lines were accepted and refused, the disks, images and free extents in the end, and
-- the sum of all bytes of all replies
unfoldable pub summary_words : ℕ → Tally → ℕ → ℕ → ℕ → List (List ℕ)
summary_words number t disks images room =
    codes "trial" ∷ decimal number ∷ codes "lines" ∷ codes "20000" ∷ codes "ok" ∷ decimal t.accepted ∷ codes "no" ∷ decimal t.refused
    ∷ codes "disks" ∷ decimal disks ∷ codes "images" ∷ decimal images ∷ codes "free" ∷ decimal room ∷ codes "sum" ∷ decimal t.sum ∷ []

abbrev pub summary : ℕ → Tally → State → List ℕ
summary number t σ = line_of (summary_words number t (length σ.disks) (length σ.shape.images) (free σ.shape))

-- a device at rest that shows the disks of a state alone, and reads as it; it is kept, and truthful
pub record RestsAs (size : ℕ) (h : Held) (σ : State) : Type 0 where
  pub settled : IsSettled h
  pub only : ShowsOnly size h σ.disks
  pub reads : ReadsAsState size h σ
  pub kept : IsKeptDevice size h
  pub truthful : IsTruthfulDevice size h

-- from a state on each line of the number was stepped, the device rests as the last state, and this is the summary
pub record HasTriedFrom (size : ℕ) (h : Held) (start : State) (number : ℕ) (text : List ℕ) : Type 0 where
  pub end : State
  pub tally : Tally
  pub tried : HasTried start end (trial_lines number) tally
  pub text_is : text ≡ summary number tally end
  pub rests : RestsAs size h end

-- the device is too small, nothing was done to it, and this is the line that says so
pub record IsTooSmall (s : Sides) (text : List ℕ) : Type 0 where
  pub unchanged : s.Unchanged
  pub small : s.size < trial_least
  pub text_is : text ≡ line_of (too_small_words trial_least)

-- a stop leaves what it might have left before, or no repository, or a device that is kept, and truthful
abbrev pub IsLeftByTrial : Sides → Type 0
IsLeftByTrial s = (image : ℕ → List ℕ) → Allows s.size s.new image
    → Allows s.size s.old image ⊎ ((plate_of s.size image ≡ Err NotARepository) ⊎ (IsKeptOn s.size image × IsTruthfulOn s.size image))

-- what a trial of a number did
abbrev pub TrialDid : Sides → ℕ → Status → Type 0
TrialDid s number Done = (text : List ℕ) × HasTriedFrom s.size s.new (trial_start s.size) number text × Adds s.had text s.got
TrialDid s number Refused = (text : List ℕ) × IsTooSmall s text × Adds s.had text s.got
TrialDid s number Sink = (text : List ℕ) × (IsTooSmall s text ⊎ HasTriedFrom s.size s.new (trial_start s.size) number text) × AddsFront s.had text s.got
TrialDid s number Device = IsLeftByTrial s × Adds s.had [] s.got
TrialDid s number Memory = IsLeftByTrial s × Adds s.had [] s.got
TrialDid s number Words = ⊥
TrialDid s number Source = ⊥
TrialDid s number TooLong = ⊥
TrialDid s number Denied = ⊥

-- what was said of a trial once all lines were stepped: the line, a front of it, or nothing
abbrev pub SaysTrial : List ℕ → Option (List ℕ) → Option (List ℕ) → Status → Type 0
SaysTrial text had got Done = Adds had text got
SaysTrial text had got Sink = AddsFront had text got
SaysTrial text had got Device = Adds had [] got
SaysTrial text had got Memory = ⊥
SaysTrial text had got Refused = ⊥
SaysTrial text had got Words = ⊥
SaysTrial text had got Source = ⊥
SaysTrial text had got TooLong = ⊥
SaysTrial text had got Denied = ⊥

-- what the lines of a number did on an open repository, by the status
abbrev pub SessionTried : ℕ → Held → Option (List ℕ) → Option (List ℕ) → State → ℕ → Status → Type 0
SessionTried size h had got start number Done = (text : List ℕ) × HasTriedFrom size h start number text × Adds had text got
SessionTried size h had got start number Sink = (text : List ℕ) × HasTriedFrom size h start number text × AddsFront had text got
SessionTried size h had got start number Device = IsKeptDevice size h × IsTruthfulDevice size h × Adds had [] got
SessionTried size h had got start number Memory = IsKeptDevice size h × IsTruthfulDevice size h × Adds had [] got
SessionTried size h had got start number Refused = ⊥
SessionTried size h had got start number Words = ⊥
SessionTried size h had got start number Source = ⊥
SessionTried size h had got start number TooLong = ⊥
SessionTried size h had got start number Denied = ⊥

-- on each image that the device allows stands this label
abbrev pub HasPlate : ℕ → Held → Plate → Type 0
HasPlate size h p = (image : ℕ → List ℕ) → Allows size h image → plate_of size image ≡ Ok p

-- on each image that the device allows stands the label of a trial's repository: its sizes, its extents on this device, its UUID
abbrev pub IsLabelledForTrial : ℕ → Held → Type 0
IsLabelledForTrial size h = (g : Geometry) → HasSizes trial_asked g → HasPlate size h (new_group size g trial_asked.repository).plate
