-- Why a command is refused, by the table and by what is in memory: when an answer is the machine's.
use Rattle.std.specs.Prelude.{◌≡◌, ℕ, ◌*◌, false, List, [], ◌∷◌, length, Option, None}
use Rattle.common_laws.specs.Lists.{first_some, given}
use Rattle.sm_base.specs.Numbers.{div_up}
use Rattle.sm_base.specs.declared.refusals.Refusal.{Refusal}
use Rattle.sm_base.specs.declared.refusals.Refusal.TheVariants.{ReservedName, UnknownDisk, NameTaken, InUse, NotAttached, ReadOnly, RawDisk, Tracked, NotTracked, OutOfRange, BadSize, Shrink, ChainTooLong, TooMany, SequenceSpent, NoSpace}
use Rattle.sm_base.specs.declared.sizes.Geometry.{Geometry}
use Rattle.vg_meta.specs.Roomy.{table_alone}
use Rattle.vg_meta.specs.Tables.{VolumeTable}
use Rattle.vg_volumes.specs.Sites.{Site}
use Rattle.vg_volumes.specs.declared.stores.Store.{Ghosts}
use Rattle.sm_machine.specs.Refusals.{refusal, is_reserved, is_unknown, is_taken, is_in_use, is_not_attached, is_read_only, is_raw_disk, is_tracked, is_untracked, is_out_of_range, is_bad_size, is_shrink, is_deep, fork_depth, is_too_many, images_needed, is_spent, lacks_space, need}
use Rattle.sm_machine.specs.Shapes.{Shape, free}
use Rattle.sm_machine.specs.declared.commands.Command.{Command}
use Rattle.sm_ready.specs.Known.{Known, known, shape_in}
use Rattle.sm_ready.specs.Orderly.{IsOrderly}
use Rattle.sm_ready.specs.Ready.{IsTidy}
use Rattle.sm_ready.specs.declared.memory.Memory.{Memory}

-- the sizes and the number of extents are those of this site
pub record IsSiteOf (sizes : Geometry) (extents : ℕ) (s : Site) : Type 0 where
  pub same_sizes : s.geometry ≡ sizes
  pub same_count : s.count ≡ extents

-- the extents that a raw disk of so many bytes takes
abbrev pub extents_for : ℕ → ℕ → ℕ
extents_for extent size = div_up size (512 * extent)

-- what is answered by memory alone is what the machine says of its shape, beside each table with which it is orderly and tidy
abbrev pub Recalls : {A : Type 0} → (Shape → A) → Known → A → Type 0
Recalls says m answer = (s : Site) (t : VolumeTable) → IsOrderly s t m → IsTidy t m → answer ≡ says (shape_in s t m)

-- what is answered by sizes is what the machine says of a shape that has them
abbrev pub Sizes : {A : Type 0} → (Shape → A) → Geometry → A → Type 0
Sizes says sizes answer = (s : Site) (t : VolumeTable) (m : Known) → s.geometry ≡ sizes → answer ≡ says (shape_in s t m)

-- what is answered by sizes and memory is what the machine says of the shape, beside each such table
abbrev pub Measures : {A : Type 0} → (Shape → A) → Geometry → Known → A → Type 0
Measures says sizes m answer = (s : Site) (t : VolumeTable) → s.geometry ≡ sizes → IsOrderly s t m → IsTidy t m → answer ≡ says (shape_in s t m)

-- what is answered are the extents that a command takes, where its size is not bad
abbrev pub Needs : Command → Geometry → Known → ℕ → Type 0
Needs c sizes m answer = (s : Site) (t : VolumeTable) → s.geometry ≡ sizes → IsOrderly s t m → IsTidy t m → is_bad_size (shape_in s t m) c ≡ false → answer ≡ need (shape_in s t m) c

-- what is answered by sizes, the number of extents, table and memory is what the machine says of the shape of what is in memory,
-- where table and memory are orderly and tidy
abbrev pub Answers : {A : Type 0} → (Shape → A) → Geometry → ℕ → VolumeTable → Known → A → Type 0
Answers says sizes extents t m answer = (s : Site) → IsSiteOf sizes extents s → IsOrderly s t m → IsTidy t m → answer ≡ says (shape_in s t m)

-- the causes in their order: names, records, attachments and logs; sectors and sizes; images, numbers and extents
abbrev pub name_causes : Shape → Command → List (Option Refusal)
name_causes σ c = given (is_reserved c) ReservedName ∷ given (is_unknown σ c) UnknownDisk ∷ given (is_taken σ c) NameTaken ∷ given (is_in_use σ c) InUse
    ∷ given (is_not_attached σ c) NotAttached ∷ given (is_read_only σ c) ReadOnly ∷ given (is_raw_disk σ c) RawDisk ∷ given (is_tracked σ c) Tracked
    ∷ given (is_untracked σ c) NotTracked ∷ []

abbrev pub size_causes : Shape → Command → List (Option Refusal)
size_causes σ c = given (is_out_of_range σ c) OutOfRange ∷ given (is_bad_size σ c) BadSize ∷ given (is_shrink σ c) Shrink ∷ []

abbrev pub room_causes : Shape → Command → List (Option Refusal)
room_causes σ c = given (is_deep σ c) (ChainTooLong (fork_depth σ c)) ∷ given (is_too_many σ c) (TooMany (length σ.images) (images_needed c)) ∷ given (is_spent σ c) SequenceSpent
    ∷ given (lacks_space σ c) (NoSpace (need σ c) (free σ)) ∷ []

-- what is answered is the first cause of images, numbers and extents, for a command whose size is not bad
abbrev pub LacksRoom : Command → Geometry → ℕ → VolumeTable → Known → Option Refusal → Type 0
LacksRoom c sizes extents t m answer =
    (s : Site) → IsSiteOf sizes extents s → IsOrderly s t m → IsTidy t m → is_bad_size (shape_in s t m) c ≡ false → answer ≡ first_some (room_causes (shape_in s t m) c)

-- no cause refuses the command, by the shape of what is in memory beside a store
abbrev pub IsAllowed : {S : Type 0} → Ghosts S → Command → S → Memory → Type 0
IsAllowed g command s m = refusal (shape_in (g.site s) (table_alone (g.table s)) (known m)) command ≡ None
