-- What the machine makes of the line that asks for the images: it is answered, and changes nothing.
use Rattle.std.proofs.Common.{◌≡◌, ◌^◌, ◌<◌, [], ◌∷◌, None, ap, arith, refl}
use Rattle.std.proofs.lemmas.Bool.{le-ltb}
use Rattle.common_laws.specs.Lists.{first_some, given}
use Rattle.sm_base.specs.declared.refusals.Refusal.TheVariants.{NoSpace}
use Rattle.sm_machine.specs.Commits.{gives_up, is_given_up, own_commits}
use Rattle.sm_machine.specs.Refusals.{refusal, is_reserved, is_unknown, is_taken, is_in_use, is_not_attached, is_read_only, is_raw_disk, is_tracked, is_untracked, is_out_of_range, is_bad_size, is_shrink, is_deep, is_too_many, is_spent, lacks_space, need, named, new_uuid, forked}
use Rattle.sm_machine.specs.Shapes.{Shape, free}
use Rattle.sm_machine.specs.Steps.{Outcome, State, accepted, disks_next, reply_to, shape_after, step}
use Rattle.sm_machine.specs.declared.commands.Command.TheVariants.{Stat as StatImages}
use Rattle.sm_ready.proofs.TakenLaws.{step_by, step_still}

never : (s : Shape) → refusal s StatImages ≡ None
unfolding refusal is_reserved is_unknown is_taken is_in_use is_not_attached is_read_only is_raw_disk is_tracked is_untracked is_out_of_range is_bad_size is_shrink is_deep is_too_many is_spent lacks_space need named new_uuid forked
never s = ap (λ b. first_some (given b (NoSpace 0 (free s)) ∷ [])) (le-ltb (free s) 0 (omega arith))

pub stat_reply : (σ : State) → (step σ StatImages).reply ≡ reply_to σ.disks σ.shape StatImages
unfolding accepted
stat_reply σ = ap (λ (o : Outcome). o.reply) (step_by σ StatImages None (never σ.shape))

pub stat_after : (σ : State) → σ.shape.sequence < 2 ^ 48 → (step σ StatImages).after ≡ σ
unfolding disks_next shape_after own_commits is_given_up gives_up
stat_after σ few = step_still σ StatImages (never σ.shape) few refl refl refl refl
