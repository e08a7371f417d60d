-- Why a disk can't be imported, whatever its file holds (this project's own).
use Rattle.std.specs.Prelude.{◌≡◌, ℕ, false, List, [], ◌∷◌, codes, length, Option}
use Rattle.common_laws.specs.Lists.{first_some, given}
use Rattle.sm_base.specs.declared.refusals.Refusal.{Refusal}
use Rattle.sm_base.specs.declared.refusals.Refusal.TheVariants.{ReservedName, NameTaken, TooMany, SequenceSpent}
use Rattle.sm_machine.specs.declared.commands.Command.{Command}
use Rattle.sm_machine.specs.declared.commands.Command.TheVariants.{Create}
use Rattle.sm_machine.specs.Refusals.{is_reserved, is_spent, is_taken, is_too_many}
use Rattle.sm_machine.specs.Shapes.{Shape}
use Rattle.sm_ready.specs.Known.{Known, shape_in}
use Rattle.sm_ready.specs.Orderly.{IsOrderly}
use Rattle.sm_ready.specs.Ready.{IsTidy}
use Rattle.vg_meta.specs.Tables.{VolumeTable}
use Rattle.vg_volumes.specs.Sites.{Site}

-- the create of a disk with this UUID, of one byte and with the label of a disk that is imported
abbrev pub as_create : List ℕ → Command
as_create uuid = Create uuid 1 false (codes "import")

-- Why an import is refused before anything of the file is read: the first of these causes, by which a create of the UUID is refused too. An
-- import needs one image.
unfoldable pub entry_refusal : Shape → List ℕ → Option Refusal
entry_refusal s uuid = first_some (given (is_reserved (as_create uuid)) ReservedName
    ∷ given (is_taken s (as_create uuid)) NameTaken
    ∷ given (is_too_many s (as_create uuid)) (TooMany (length s.images) 1)
    ∷ given (is_spent s (as_create uuid)) SequenceSpent
    ∷ [])

-- what is answered by table and memory is why an import is refused at once, where they are orderly and tidy
abbrev pub AnswersEntry : VolumeTable → Known → List ℕ → Option Refusal → Type 0
AnswersEntry t m uuid answer = (s : Site) → IsOrderly s t m → IsTidy t m → answer ≡ entry_refusal (shape_in s t m) uuid
