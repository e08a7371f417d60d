-- Want of memory is no cause: no command is refused for it, and it comes only where no cause refuses.
use Rattle.std.proofs.Common.{◌≡◌, Bool, true, false, List, ◌∷◌, length, Option, None, Some, Result, Ok, Err, IfOk, refl, sym, ap, ◌∙◌}
use Rattle.std.proofs.lemmas.Bool.{true≢false}
use Rattle.std.proofs.lemmas.Option.{none-some, same_Some}
use Rattle.sm_base.specs.declared.refusals.Refusal.{Refusal}
use Rattle.sm_base.specs.declared.refusals.Refusal.TheVariants.{BadSize, ChainTooLong, InUse, NameTaken, NoMemory, NoSpace, NotAttached, NotTracked, OutOfRange, RawDisk, ReadOnly, ReservedName, SequenceSpent, Shrink, TooMany, Tracked, UnknownDisk}
use Rattle.common_laws.specs.Lists.{first_some, given}
use Rattle.sm_machine.specs.declared.commands.Command.{Command}
use Rattle.sm_machine.specs.declared.replies.Reply.{Reply}
use Rattle.sm_machine.specs.declared.replies.Reply.TheVariants.{No}
use Rattle.sm_machine.specs.Refusals.{fork_depth, images_needed, is_bad_size, is_deep, is_in_use, is_not_attached, is_out_of_range, is_raw_disk, is_read_only, is_reserved, is_shrink, is_spent, is_taken, is_too_many, is_tracked, is_untracked, is_unknown, lacks_space, need, refusal}
use Rattle.sm_machine.specs.Shapes.{Shape, free}
use Rattle.sm_run.specs.Runs.{may_want_memory}
use Rattle.sm_run.specs.declared.steps.StepFault.{StepFault}
use Rattle.sm_run.specs.declared.steps.StepFault.TheVariants.{Broken}

abbrev is_memory : Refusal → Bool
is_memory NoMemory = true
is_memory _ = false

past : (b : Bool) (r : Refusal) (rest : List (Option Refusal)) → is_memory r ≡ false → (first_some rest ≡ Some NoMemory → ⊥) → first_some (given b r ∷ rest) ≡ Some NoMemory → ⊥
past true r rest other on is = true≢false (sym (ap is_memory (same_Some r NoMemory is)) ∙ other)
past false r rest other on is = on is

-- no command is refused for it
pub never_for_memory : (σ : Shape) (c : Command) → refusal σ c ≡ Some NoMemory → ⊥
unfolding refusal
never_for_memory σ c =
    past (is_reserved c) ReservedName _ refl
    (past (is_unknown σ c) UnknownDisk _ refl
    (past (is_taken σ c) NameTaken _ refl
    (past (is_in_use σ c) InUse _ refl
    (past (is_not_attached σ c) NotAttached _ refl
    (past (is_read_only σ c) ReadOnly _ refl
    (past (is_raw_disk σ c) RawDisk _ refl
    (past (is_tracked σ c) Tracked _ refl
    (past (is_untracked σ c) NotTracked _ refl
    (past (is_out_of_range σ c) OutOfRange _ refl
    (past (is_bad_size σ c) BadSize _ refl
    (past (is_shrink σ c) Shrink _ refl
    (past (is_deep σ c) (ChainTooLong (fork_depth σ c)) _ refl
    (past (is_too_many σ c) (TooMany (length σ.images) (images_needed c)) _ refl
    (past (is_spent σ c) SequenceSpent _ refl
    (past (lacks_space σ c) (NoSpace (need σ c) (free σ)) _ refl
    (λ e. none-some NoMemory e))))))))))))))))

-- a step that is not broken answers a command's first cause, so one that wants memory had none
pub poor-spared : (σ : Shape) (c : Command) (broken : Bool) (result : Result Reply StepFault) → (broken ≡ true → result ≡ Err Broken) → (broken ≡ false → (x : Refusal) → refusal σ c ≡ Some x → result ≡ Ok (No x))
    → IfOk result (λ r. r ≡ No NoMemory → may_want_memory σ c ≡ true) → IfOk result (λ r. r ≡ No NoMemory → (refusal σ c ≡ None) × (may_want_memory σ c ≡ true))
poor-spared σ c broken (Err e) breaks causes may = tt
poor-spared σ c broken (Ok r) breaks causes may = λ is. (by is (refusal σ c) broken refl refl, may is)
  where
    by : r ≡ No NoMemory → (o : Option Refusal) (b : Bool) → refusal σ c ≡ o → broken ≡ b → refusal σ c ≡ None
    by is None b none at = none
    by is (Some x) true some at = absurd (let e = breaks at in cc)
    by is (Some x) false some at = absurd (never_for_memory σ c (some ∙ ap (λ y. Some y) (let e = causes at x some in cc)))
